use Rattle.qcow2_image.proofs.Lemmas.{step_then, back_then_freed, counted_as, counted_of, untouched, limited_frees, met_freed}
use Rattle.qcow2_image.proofs.image.Qcow2.prepare.Goals as goal
use Rattle.qcow2_image.proofs.Common.{⊎_elim, inl, refl, sym, subst, rules, IsTrue, IsFault, known_in, NeedsOverflowingL1Entry, CopiesCompressed, MayFailAllocating, HasPinnedMapping, IsTaken}

pub returns-in-Err-clause-freed : goal.returns-in-Err-clause-freed
returns-in-Err-clause-freed g c = λ some out sound. ⊎_elim
    (λ unseen. c.process_free_list_after.ensures.emptied (subst IsTrue (sym c.prepare_range.ensures.step.stays.image.writable) c.requires.writable) out unseen.sound)
    (λ interruption. inl (subst IsFault (sym (c.process_free_list_after.ensures.refused.fault interruption.fault).0) interruption.fault))
    ((c.in-Err.ensures.sound some out sound).readies)

pub returns-in-Err-clause-step : goal.returns-in-Err-clause-step
returns-in-Err-clause-step g c = step_then c.prepare_range.ensures.step c.process_free_list_after.ensures.step

pub returns-in-Err-clause-fails : goal.returns-in-Err-clause-fails
returns-in-Err-clause-fails g c = record {
  cause = search rules;
  faults = let view = g.S.Storage.view in
      let below = g.F.BackingDisk.backing in
      let old = c.args.self.now in
      counted_of view below old c.process_free_list_after.new.self c.process_free_list_after.result
      (c.process_free_list_after.ensures.faults old (counted_as view below old old c.prepare_range.new.self c.prepare_range.result c.in-Err.refusal (untouched view below old old refl refl refl) c.prepare_range.ensures.fails.faults c.in-Err.is));
}

pub returns-in-Ok-clause-sound : goal.returns-in-Ok-clause-sound
returns-in-Ok-clause-sound g c = λ some out sound.
    record {
      may_fail = tt;
      taken = tt;
      limit = tt;
      readies = (c.in-Ok.ensures.sound some out sound).readies;
      answers = (c.in-Ok.ensures.sound some out sound).answers;
      freeing = (c.in-Ok.ensures.sound some out sound).freeing;
    }

pub returns-in-Err-clause-sound : goal.returns-in-Err-clause-sound
returns-in-Err-clause-sound g c = λ some out sound.
    let old = c.args.self.now in
    let view = g.S.Storage.view in
    let h = old.file.header.fields in
    let known = known_in g.S.Storage.view old.file in
    let mid = c.prepare_range.new.self in
    let new = c.process_free_list_after.new.self in
    record {
      answers = tt;
      freeing = tt;
      readies = back_then_freed g.S.Storage.view g.F.BackingDisk.backing out c.args.self.now c.prepare_range.new.self c.process_free_list_after.new.self c.in-Err.refusal c.process_free_list_after.result ((c.in-Err.ensures.sound some out sound).readies) c.process_free_list_after.ensures.refused.fault (c.process_free_list_after.ensures.frees out);
      may_fail = met_freed g.S.Storage.view g.F.BackingDisk.backing out (MayFailAllocating (HasPinnedMapping out) (IsTaken h known c.args.offset c.args.length out) (CopiesCompressed c.args.offset c.args.length c.args.overwrite h known) (NeedsOverflowingL1Entry old c.args.offset)) (λ e fault. inl (inl (inl fault))) old c.prepare_range.new.self c.process_free_list_after.new.self c.in-Err.refusal c.process_free_list_after.result
          ((c.in-Err.ensures.sound some out sound).readies) c.process_free_list_after.ensures.refused.fault (c.process_free_list_after.ensures.told.1 out) ((c.in-Err.ensures.sound some out sound).may_fail);
      taken = λ is. (c.in-Err.ensures.sound some out sound).taken (c.process_free_list_after.ensures.refused.taken c.in-Err.ensures.fails.cause is);
      limit = λ is. (c.in-Err.ensures.sound some out sound).limit
          (limited_frees view g.F.BackingDisk.backing out old mid new c.in-Err.refusal c.process_free_list_after.result ((c.in-Err.ensures.sound some out sound).readies) c.process_free_list_after.ensures.refused.fault (c.process_free_list_after.ensures.told.1 out) is);
    }
