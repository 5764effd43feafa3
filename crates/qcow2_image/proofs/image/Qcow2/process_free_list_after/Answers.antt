use Rattle.std.proofs.Common.{◌≡◌, inl, inr, refl, sym, ◌∙◌, subst, Ok, Err, rules, []}
use Rattle.qcow2_image.proofs.Common.{not_both, Pending, ImageInvariant}
use Rattle.qcow2_image.proofs.Lemmas.{all_listed, beside, freed_refused, tidy_stays, counted_as, counted_still, step_none, freed_since, lasts_none}
use Rattle.qcow2_image.proofs.Call.FailingErrors.{freeing_met}
use Rattle.qcow2_image.proofs.Call.KeptOffsets.{met_kept, offsets_none}
use Rattle.qcow2_image.proofs.image.Qcow2.process_free_list_after.Goals as goal

pub returns-then-is_last-clause-refused : goal.returns-then-is_last-clause-refused
returns-then-is_last-clause-refused g c = record {
  cause = search rules;
  taken = search rules;
  fault = search rules;
  idle = λ none. (refl, refl);
}

pub returns-in-Ok-clause-refused : goal.returns-in-Ok-clause-refused
returns-in-Ok-clause-refused g c = record {
  cause = λ may. elim may [ inl met ↦ inl (met_kept c.process_free_list.ensures.offsets c.args.refusal met) | inr taken ↦ absurd (not_both c.is_last.result (c.is_last.ensures.taken taken.0) c.if-is_last.false) ];
  taken = search rules;
  fault = search rules;
  idle = λ none. (refl, (c.process_free_list.ensures.idle none).1);
}

pub returns-in-Err-clause-refused : goal.returns-in-Err-clause-refused
returns-in-Err-clause-refused g c = record {
  cause = λ may. inl (freeing_met _ c.in-Err.fault c.in-Err.ensures.cause);
  taken = search rules;
  fault = search rules;
  idle = λ none. absurd (let no : Ok tt ≡ Err c.in-Err.fault = sym (c.process_free_list.ensures.idle none).0 ∙ c.in-Err.is in cc);
}

pub returns-in-Ok-clause-frees : goal.returns-in-Ok-clause-frees
returns-in-Ok-clause-frees g c = λ out sound.
    let view = g.S.Storage.view in
    let below = g.F.BackingDisk.backing in
    let old = c.args.self.now in
    inl (tidy_stays view below old out c.process_free_list.new.self sound (c.in-Ok.ensures.frees (beside view below old out) out (subst (λ (x : Pending). ImageInvariant view below x old out) (all_listed view below old out) sound)))

pub returns-in-Err-clause-frees : goal.returns-in-Err-clause-frees
returns-in-Err-clause-frees g c = λ out sound.
    let view = g.S.Storage.view in
    let below = g.F.BackingDisk.backing in
    let old = c.args.self.now in
    freed_refused view below old out c.process_free_list.new.self c.in-Err.fault sound (c.in-Err.ensures.frees (beside view below old out) out (subst (λ (x : Pending). ImageInvariant view below x old out) (all_listed view below old out) sound))

pub returns-in-Err-clause-emptied : goal.returns-in-Err-clause-emptied
returns-in-Err-clause-emptied g c = λ may out sound.
    let view = g.S.Storage.view in
    let below = g.F.BackingDisk.backing in
    let old = c.args.self.now in
    inl (c.in-Err.ensures.faults (beside view below old out) out (subst (λ (x : Pending). ImageInvariant view below x old out) (all_listed view below old out) sound))

pub returns-in-Ok-clause-faults : goal.returns-in-Ok-clause-faults
returns-in-Ok-clause-faults g c = λ start told.
    counted_still g.S.Storage.view g.F.BackingDisk.backing start c.args.self.now c.process_free_list.new.self (Err c.args.refusal) told c.in-Ok.ensures.counts.told

pub returns-in-Err-clause-faults : goal.returns-in-Err-clause-faults
returns-in-Err-clause-faults g c = λ start told.
    counted_as g.S.Storage.view g.F.BackingDisk.backing start c.args.self.now c.process_free_list.new.self c.process_free_list.result c.in-Err.fault (told.told (λ is. not_both c.is_last.result (c.is_last.ensures.fault (inl is)) c.if-is_last.false)) c.process_free_list.ensures.counts c.in-Err.is

pub returns-in-Err-clause-told : goal.returns-in-Err-clause-told
returns-in-Err-clause-told g c =
    let view = g.S.Storage.view in
    let below = g.F.BackingDisk.backing in
    let old = c.args.self.now in
    (inr c.in-Err.ensures.cause, λ out sound. inr (c.in-Err.ensures.faults (beside view below old out) out (subst (λ (x : Pending). ImageInvariant view below x old out) (all_listed view below old out) sound)))

pub returns-then-is_last-clause-keeps_rest : goal.returns-then-is_last-clause-keeps_rest
returns-then-is_last-clause-keeps_rest g c = record { header = refl; backing = refl }

pub returns-then-is_last-clause-step : goal.returns-then-is_last-clause-step
returns-then-is_last-clause-step g c = step_none

pub returns-then-is_last-clause-lasts : goal.returns-then-is_last-clause-lasts
returns-then-is_last-clause-lasts g c = λ out sound. (lasts_none g.S.Storage.view c.args.self.now []).since

pub returns-in-Ok-clause-lasts : goal.returns-in-Ok-clause-lasts
returns-in-Ok-clause-lasts g c = λ out sound.
    let view = g.S.Storage.view in
    let below = g.F.BackingDisk.backing in
    let old = c.args.self.now in
    freed_since view below out (beside view below old out) old c.process_free_list.new.self (Ok tt) (c.in-Ok.ensures.frees (beside view below old out) out (subst (λ (x : Pending). ImageInvariant view below x old out) (all_listed view below old out) sound))

pub returns-in-Err-clause-lasts : goal.returns-in-Err-clause-lasts
returns-in-Err-clause-lasts g c = λ out sound.
    let view = g.S.Storage.view in
    let below = g.F.BackingDisk.backing in
    let old = c.args.self.now in
    freed_since view below out (beside view below old out) old c.process_free_list.new.self (Err c.in-Err.fault) (c.in-Err.ensures.frees (beside view below old out) out (subst (λ (x : Pending). ImageInvariant view below x old out) (all_listed view below old out) sound))

pub returns-then-is_last-clause-offsets : goal.returns-then-is_last-clause-offsets
returns-then-is_last-clause-offsets g c = offsets_none c.args.self.now
