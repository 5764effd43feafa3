use Rattle.qcow2_image.proofs.image.Qcow2.clear_between.Goals as goal
use Rattle.qcow2_image.proofs.Common.{subst, sym, inl, IsTrue, NeedsOverflowingL1Entry, HasPinnedMapping, MayFailAllocating, IsUnderMapping}
use Rattle.qcow2_image.proofs.Call.Fails.{fails_freed}
use Rattle.qcow2_image.proofs.Call.FreedBehind.{lacking_freed, refused_freed}
use Rattle.qcow2_image.proofs.Lemmas.{step_then, back_then_freed, limited_frees, met_freed}

pub returns-in-Err-clause-step : goal.returns-in-Err-clause-step
returns-in-Err-clause-step g c = step_then c.clear_in_table.ensures.step c.process_free_list_after.ensures.step

pub returns-in-Err-clause-fails : goal.returns-in-Err-clause-fails
returns-in-Err-clause-fails g c =
    fails_freed c.clear_in_table.result c.in-Err.refusal c.process_free_list_after.result c.clear_in_table.ensures.fails c.in-Err.is c.process_free_list_after.ensures.faults (c.process_free_list_after.ensures.refused.cause c.in-Err.ensures.fails.cause)

pub returns-in-Err-clause-sound : goal.returns-in-Err-clause-sound
returns-in-Err-clause-sound g c = λ out sound.
    let view = g.S.Storage.view in
    let below = g.F.BackingDisk.backing in
    let old = c.args.self.now in
    let mid = c.clear_in_table.new.self in
    let new = c.process_free_list_after.new.self in
    let e = c.in-Err.refusal in
    let told = c.process_free_list_after.result in
    let fault = c.process_free_list_after.ensures.refused.fault in
    let was = c.in-Err.ensures.sound out sound in
    record {
      whole = λ whole.
          let part = was.whole whole in
          record {
            clears = back_then_freed view below out old mid new e told part.clears fault (c.process_free_list_after.ensures.frees out);
            may_fail = met_freed view below out (MayFailAllocating (HasPinnedMapping out) (IsUnderMapping old.file.header.fields c.args.from out) ⊥ (NeedsOverflowingL1Entry old c.args.from)) (λ e fault. inl (inl (inl fault))) old mid new e told part.clears fault
                (c.process_free_list_after.ensures.told.1 out) part.may_fail;
            limit = λ is. part.limit (limited_frees view below out old mid new e told part.clears fault (c.process_free_list_after.ensures.told.1 out) is);
            lacks = λ none. lacking_freed view below out old mid new e told part.clears fault c.args.from c.process_free_list_after.ensures.offsets.l1_table c.process_free_list_after.ensures.keeps_rest.header (c.process_free_list_after.ensures.frees out) (part.lacks none);
          };
      taken = λ is. was.taken (c.process_free_list_after.ensures.refused.taken c.in-Err.ensures.fails.cause is);
      free = tt;
    }

pub returns-in-Err-clause-freed : goal.returns-in-Err-clause-freed
returns-in-Err-clause-freed g c = λ out sound whole.
    refused_freed g.S.Storage.view g.F.BackingDisk.backing out c.args.self.now c.clear_in_table.new.self c.process_free_list_after.new.self c.in-Err.refusal c.process_free_list_after.result ((c.in-Err.ensures.sound out sound).whole whole).clears c.process_free_list_after.ensures.refused.fault
    (c.process_free_list_after.ensures.emptied (subst IsTrue (sym c.clear_in_table.ensures.step.stays.image.writable) c.requires.writable) out)
