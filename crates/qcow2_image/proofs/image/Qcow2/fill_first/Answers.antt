use Rattle.qcow2_image.proofs.Call.DataFiles.{none_still}
use Rattle.qcow2_image.proofs.Lemmas.{step_then, step_none, works_none, all_listed, beside, freed_refused, tidy_stays, free_places, fill_unseen, fills_none, fills_refused, fills_stays, met_taken, refused_after, taken_here, counted_as, counted_of, counted_still, counted_on, faults_then, fault_unlimited, goes_step, limited_giving, limited_upto, other_limit, met_piece, hands_met}
use Rattle.qcow2_image.proofs.image.Qcow2.fill_first.Goals as goal
use Rattle.std.proofs.Common.{◌≡◌, ◌+◌, ◌^◌, ◌≤◌, ◌<◌, ◌∷◌, Err, ◌∙◌, [], None, Option, is_some, true, inl, min, refl, sym, ap, subst, arith, rules, inr}
use Rattle.qcow2_image.proofs.Common.{Pending, handed_on, ImageInvariant, abstract_of, pending_in, FillsFirst, FillsPart, given_by_zeros, CountsImageFaults, IsFault, known_in, ImageError, HasCompressedIn, MayFailAllocating, HasPinnedMapping}
use Rattle.qcow2_image.proofs.Preallocate.Piece.{all_behind, all_filled, all_fits, all_next, all_put, all_within, piece_gone, sound_now}
use Rattle.qcow2_image.proofs.Call.FailingErrors.{freeing_met}
use Rattle.qcow2_image.proofs.Call.KeptOffsets.{met_kept, released_offsets}
use Rattle.qcow2_image.proofs.Images.Places.{alone_of, put_first}

pub returns-in-Err-clause-step : goal.returns-in-Err-clause-step
returns-in-Err-clause-step g c = step_then (step_then (step_then c.prepare.ensures.step c.put_zeros.ensures.step) c.release_prepared.ensures.step) c.process_free_list_after.ensures.step

pub returns-in-Err-clause-fails : goal.returns-in-Err-clause-fails
returns-in-Err-clause-fails g c = record {
  cause = c.process_free_list_after.ensures.refused.cause (inl (met_kept (released_offsets g.S.Storage.view c.put_zeros.new.self c.release_prepared.new.self c.release_prepared.ensures.rest) c.in-Err.refusal c.in-Err.ensures.fails.cause));
  faults = let view = g.S.Storage.view in
      let below = g.F.BackingDisk.backing in
      let old = c.args.self.now in
      let e = c.in-Err.refusal in
      let told : CountsImageFaults view below {T = Unit {0}} old c.put_zeros.new.self (Err c.in-Err.refusal) = counted_as view below old c.prepare.new.self c.put_zeros.new.self c.put_zeros.result e c.in_ok-prepared.ensures.fails.faults.told c.put_zeros.ensures.fails.faults c.in-Err.is in
      counted_of view below old c.process_free_list_after.new.self c.process_free_list_after.result (c.process_free_list_after.ensures.faults old (counted_still view below old c.put_zeros.new.self c.release_prepared.new.self (Err e) told c.release_prepared.ensures.faults));
}

pub returns-in_err-process_free_list-clause-step : goal.returns-in_err-process_free_list-clause-step
returns-in_err-process_free_list-clause-step g c = step_then (step_then (step_then c.prepare.ensures.step c.put_zeros.ensures.step) c.commit_filled.ensures.step) c.process_free_list.ensures.step

pub returns-clause-step : goal.returns-clause-step
returns-clause-step g c = step_then (step_then (step_then c.prepare.ensures.step c.put_zeros.ensures.step) c.commit_filled.ensures.step) c.process_free_list.ensures.step

pub returns-in_err-prepared-clause-sound : goal.returns-in_err-prepared-clause-sound
returns-in_err-prepared-clause-sound g c = λ out sound.
    let view = g.S.Storage.view in
    let below = g.F.BackingDisk.backing in
    let old = c.args.self.now in
    let new = c.prepare.new.self in
    let e = c.in_err-prepared.field-0.0 in
    let most = c.most.ensures in
    let asked = c.min.ensures in
    let few = c.requires.zeros.few in
    let lt = c.requires.some in
    let some : 0 < c.min.result = omega (arith, most, asked, few, lt) in
    record {
      fills = λ whole. handed_on (λ r. FillsFirst view below c.args.to c.args.from c.args.to old new out r) c.from_residual.result e c.from_residual.ensures
          (record {
            left = fill_unseen view below out old new c.args.from c.args.to e ((c.in_err-prepared.ensures.sound some out sound).readies);
            taken = λ is. let t = (c.in_err-prepared.ensures.sound some out sound).taken is in
                taken_here old.file.header.fields c.args.from c.args.to out lt (record { place = t.place; other = t.other; is_out = t.is_out; keeps_table = t.keeps_table; same_table = t.same_table });
            limit = λ is. limited_giving (given_by_zeros c.args.from c.args.to ∷ []) (limited_upto (omega (arith, lt)) ((c.in_err-prepared.ensures.sound some out sound).limit is));
          });
      may_fail = λ whole near. hands_met (MayFailAllocating (HasPinnedMapping out) (HasPinnedMapping out) (HasCompressedIn c.args.from c.args.to old.file.header.fields (known_in view old.file)) ⊥) c.from_residual.result e c.from_residual.ensures
          (met_piece view below out (pending_in view below old out) old sound c.args.from c.args.to lt near c.min.result (omega (arith, asked, lt)) true e ((c.in_err-prepared.ensures.sound some out sound).may_fail));
    }

pub returns-in-Err-clause-sound : goal.returns-in-Err-clause-sound
returns-in-Err-clause-sound g c = λ out sound.
    let view = g.S.Storage.view in
    let below = g.F.BackingDisk.backing in
    let old = c.args.self.now in
    let mid = c.prepare.new.self in
    let p = c.in_ok-prepared.prepared in
    let lt = c.requires.some in
    let from = c.args.from in
    let few = subst (λ m. 2 ^ 21 ≤ m) (sym c.most.ensures) c.requires.zeros.few in
    let to = c.args.to in
    let asked = c.min.ensures in
    let n = c.min.result in
    let some : 0 < c.min.result = omega (arith, asked, few, lt) in
    let e = c.in-Err.refusal in
    let counted = c.min-count.ensures ∙ ap (min p.length) (c.most-2.ensures ∙ sym c.most.ensures) in
    let e' = c.process_free_list_after.result in
    let own = none_still mid.data_file (c.prepare.ensures.step.stays.image.beside ∙ ap (λ (file : Option _). is_some file) (alone_of sound)) in
    let ready = (c.in_ok-prepared.ensures.sound some (put_first None out) ((free_places view below out.place).free old [] out.slots sound)).readies 0 refl in
    let answered = (c.in_ok-prepared.ensures.sound some out sound).answers in
    record {
      fills = λ whole. let fits = all_fits view below out old mid p from to c.most.result n c.min-count.result sound ready answered lt whole few asked counted in
          let within = all_within view below out old mid p from to c.most.result n c.min-count.result sound ready answered lt whole few asked counted in
          let put = all_put view below out old mid p from to c.most.result n c.min-count.result sound ready answered lt whole few asked counted c.put_zeros.new.self _ (c.in-Err.ensures.puts.written own) in
          refused_after view below out old old c.process_free_list_after.new.self to from to from from from (from + p.length) (omega arith) (omega (arith, lt)) (omega arith) within (fills_none view below out old to from sound (works_none (abstract_of view below old out) sound)) (goes_step step_none) e'
          (record {
            left = piece_gone view below out old mid p from n sound ready answered fits c.put_zeros.new.self c.release_prepared.new.self c.process_free_list_after.new.self to e e' within put c.release_prepared.ensures.sees c.process_free_list_after.ensures.refused.fault (λ still. c.process_free_list_after.ensures.frees out still);
            taken = λ is. met_taken _ e c.in-Err.ensures.fails.cause (c.process_free_list_after.ensures.refused.taken (inl (met_kept (released_offsets g.S.Storage.view c.put_zeros.new.self c.release_prepared.new.self c.release_prepared.ensures.rest) c.in-Err.refusal c.in-Err.ensures.fails.cause)) is);
            limit = λ is.
                let gone = sound_now view below out old mid p from n sound ready answered fits c.put_zeros.new.self c.release_prepared.new.self c.process_free_list_after.new.self to e e' within put c.release_prepared.ensures.sees c.process_free_list_after.ensures.refused.fault in
                elim (c.process_free_list_after.ensures.told.1 out gone) [ inl same ↦ other_limit _ e c.in-Err.ensures.fails.limited (sym same ∙ is) | inr fault ↦ other_limit _ e' (fault_unlimited e' fault) is ];
          });
      may_fail = λ whole near. let fault = c.in-Err.ensures.puts.fault (all_behind view below out old c.prepare.new.self p c.args.from c.args.to c.most.result c.min.result c.min-count.result sound ready answered lt whole few asked counted (c.in_ok-prepared.ensures.some some).some) in
          inl (inl (inl (subst (λ (x : ImageError). IsFault x) (sym (c.process_free_list_after.ensures.refused.fault fault).0) fault)));
    }

pub returns-in_err-process_free_list-clause-sound : goal.returns-in_err-process_free_list-clause-sound
returns-in_err-process_free_list-clause-sound g c = λ out sound.
    let view = g.S.Storage.view in
    let below = g.F.BackingDisk.backing in
    let old = c.args.self.now in
    let mid = c.prepare.new.self in
    let done = c.commit_filled.new.self in
    let new = c.process_free_list.new.self in
    let p = c.in_ok-prepared.prepared in
    let from = c.args.from in
    let to = c.args.to in
    let n = c.min.result in
    let lt = c.requires.some in
    let e = c.in_err-process_free_list.field-0.0 in
    let few = subst (λ m. 2 ^ 21 ≤ m) (sym c.most.ensures) c.requires.zeros.few in
    let asked = c.min.ensures in
    let some : 0 < c.min.result = omega (arith, asked, few, lt) in
    let counted = c.min-count.ensures ∙ ap (min p.length) (c.most-2.ensures ∙ sym c.most.ensures) in
    let own = none_still mid.data_file (c.prepare.ensures.step.stays.image.beside ∙ ap (λ (file : Option _). is_some file) (alone_of sound)) in
    let ready = (c.in_ok-prepared.ensures.sound some (put_first None out) ((free_places view below out.place).free old [] out.slots sound)).readies 0 refl in
    let answered = (c.in_ok-prepared.ensures.sound some out sound).answers in
    record {
      fills = λ whole. let within = all_within view below out old mid p from to c.most.result n c.min-count.result sound ready answered lt whole few asked counted in
          let part = all_filled view below out old mid p from to c.most.result n c.min-count.result sound ready answered lt whole few asked counted (c.in_ok-prepared.ensures.some some).some c.put_zeros.new.self done (c.in_default.ensures.puts.written own) c.commit_filled.ensures.commits c.commit_filled.ensures.header c.in_ok-prepared.ensures.l1_place in
          let listed = subst (λ (x : Pending). ImageInvariant view below x done out) (all_listed view below done out) part.sound in
          handed_on (λ r. FillsFirst view below to from to old new out r) c.from_residual-in_err-process_free_list.result e c.from_residual-in_err-process_free_list.ensures
          (fills_refused view below out old done new to from (from + p.length) part to e within (freeing_met _ e c.in_err-process_free_list.ensures.cause) (fault_unlimited e (c.in_err-process_free_list.ensures.faults (beside view below done out) out listed))
          (freed_refused view below done out new e part.sound (c.in_err-process_free_list.ensures.frees (beside view below done out) out listed)) c.process_free_list.ensures.keeps_rest.header);
      may_fail = λ whole near. let part = all_filled view below out old mid p from to c.most.result n c.min-count.result sound ready answered lt whole few asked counted (c.in_ok-prepared.ensures.some some).some c.put_zeros.new.self done (c.in_default.ensures.puts.written own) c.commit_filled.ensures.commits c.commit_filled.ensures.header c.in_ok-prepared.ensures.l1_place in
          let listed = subst (λ (x : Pending). ImageInvariant view below x done out) (all_listed view below done out) part.sound in
          hands_met (MayFailAllocating (HasPinnedMapping out) (HasPinnedMapping out) (HasCompressedIn from to old.file.header.fields (known_in view old.file)) ⊥) c.from_residual-in_err-process_free_list.result c.in_err-process_free_list.field-0.0 c.from_residual-in_err-process_free_list.ensures
          (inl (inl (inl (c.in_err-process_free_list.ensures.faults (beside view below done out) out listed))));
    }

pub returns-clause-sound : goal.returns-clause-sound
returns-clause-sound g c = λ out sound.
    let view = g.S.Storage.view in
    let below = g.F.BackingDisk.backing in
    let old = c.args.self.now in
    let mid = c.prepare.new.self in
    let done = c.commit_filled.new.self in
    let new = c.process_free_list.new.self in
    let p = c.in_ok-prepared.prepared in
    let from = c.args.from in
    let to = c.args.to in
    let n = c.min.result in
    let lt = c.requires.some in
    let few = subst (λ m. 2 ^ 21 ≤ m) (sym c.most.ensures) c.requires.zeros.few in
    let asked = c.min.ensures in
    let some : 0 < c.min.result = omega (arith, asked, few, lt) in
    let counted = c.min-count.ensures ∙ ap (min p.length) (c.most-2.ensures ∙ sym c.most.ensures) in
    let high : c.args.to < 2 ^ 64 = search rules in
    let own = none_still mid.data_file (c.prepare.ensures.step.stays.image.beside ∙ ap (λ (file : Option _). is_some file) (alone_of sound)) in
    let ready = (c.in_ok-prepared.ensures.sound some (put_first None out) ((free_places view below out.place).free old [] out.slots sound)).readies 0 refl in
    let answered = (c.in_ok-prepared.ensures.sound some out sound).answers in
    record {
      may_fail = search rules;
      fills = λ whole. let next : c.min-next.result ≡ c.args.from + c.in_ok-prepared.prepared.length =
          all_next view below out old mid p from to c.most.result n c.min-count.result sound ready answered lt whole few asked counted c.min-next.result (c.min-next.ensures ∙ ap (min to) c.saturating_add.ensures) high in
          let part = all_filled view below out old mid p from to c.most.result n c.min-count.result sound ready answered lt whole few asked counted (c.in_ok-prepared.ensures.some some).some c.put_zeros.new.self done (c.in_default.ensures.puts.written own) c.commit_filled.ensures.commits c.commit_filled.ensures.header c.in_ok-prepared.ensures.l1_place in
          let listed = subst (λ (x : Pending). ImageInvariant view below x done out) (all_listed view below done out) part.sound in
          subst (λ k. FillsPart view below to from k old new out) (sym next)
          (fills_stays view below out old done new to from (from + p.length) part (tidy_stays view below done out new part.sound (c.in_ok-process_free_list.ensures.frees (beside view below done out) out listed)) c.process_free_list.ensures.keeps_rest.header);
    }

pub returns-in_err-process_free_list-clause-fails : goal.returns-in_err-process_free_list-clause-fails
returns-in_err-process_free_list-clause-fails g c = record {
  faults = let view = g.S.Storage.view in
      let below = g.F.BackingDisk.backing in
      let old = c.args.self.now in
      let put = c.put_zeros.new.self in
      let done = c.commit_filled.new.self in
      let first = faults_then view below old c.prepare.new.self put c.in_ok-prepared.ensures.fails.faults.told c.in_default.ensures.fails.faults.told in
      counted_on view below old done c.process_free_list.new.self c.process_free_list.result c.in_err-process_free_list.field-0.0 c.from_residual-in_err-process_free_list.result (faults_then view below old put done first c.commit_filled.ensures.faults) c.process_free_list.ensures.counts c.in_err-process_free_list.was c.from_residual-in_err-process_free_list.ensures;
  cause = search rules;
}
