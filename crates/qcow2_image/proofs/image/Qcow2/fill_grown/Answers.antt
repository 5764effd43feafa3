use Rattle.qcow2_image.proofs.Lemmas.{other_limit, fault_unlimited, step_then, met_filling_freed}
use Rattle.qcow2_image.proofs.image.Qcow2.fill_grown.Goals as goal
use Rattle.qcow2_image.proofs.Common.{◌∙◌, ap, subst, sym, Err, inl, inr, IsTrue, Version, cluster_size, rounded_up, Qcow2, known_in}
use Rattle.qcow2_image.proofs.Call.Fails.{fails_freed}
use Rattle.qcow2_image.proofs.Preallocate.FreedBehind.{grow_told, grown_freed, grown_left, grown_told, same_refusal, taken_told}

pub returns-in-Err-clause-version : goal.returns-in-Err-clause-version
returns-in-Err-clause-version g c = λ none zero low.
    let refused = c.fill_behind.ensures.version zero low in
    let kept = c.process_free_list_after.ensures.refused.idle (ap (λ (i : Qcow2 _ _). i.file.free_list) refused.1 ∙ none) in
    (ap Err (kept.0 ∙ same_refusal c.fill_behind.result c.in-Err.refusal Version c.in-Err.is refused.0), kept.1 ∙ refused.1)

pub returns-in-Err-clause-freed : goal.returns-in-Err-clause-freed
returns-in-Err-clause-freed g c = λ out sound.
    let refused = (c.in-Err.ensures.sound out sound).fills in
    grown_left g.S.Storage.view g.F.BackingDisk.backing out c.args.self.now c.fill_behind.new.self c.process_free_list_after.new.self c.args.size c.args.mode c.in-Err.refusal c.process_free_list_after.result refused.left c.process_free_list_after.ensures.refused.fault
    (c.process_free_list_after.ensures.emptied (subst IsTrue (sym c.fill_behind.ensures.step.stays.image.writable) c.requires.writable) out)

pub returns-in-Err-clause-step : goal.returns-in-Err-clause-step
returns-in-Err-clause-step g c = step_then c.fill_behind.ensures.step c.process_free_list_after.ensures.step

pub returns-in-Err-clause-sound : goal.returns-in-Err-clause-sound
returns-in-Err-clause-sound g c = λ out sound.
    let view = g.S.Storage.view in
    let old = c.args.self.now in
    let refused = (c.in-Err.ensures.sound out sound).fills in
    record {
      fills =
          let below = g.F.BackingDisk.backing in
          let mid = c.fill_behind.new.self in
          let new = c.process_free_list_after.new.self in
          let size = c.args.size in
          record {
            left = grown_freed view below out old mid new size c.args.mode c.in-Err.refusal c.process_free_list_after.result refused.left c.process_free_list_after.ensures.refused.fault (c.process_free_list_after.ensures.frees out);
            taken = λ is. refused.taken (taken_told c.in-Err.refusal c.process_free_list_after.result c.process_free_list_after.ensures.told.0 is);
            limit = λ is. elim (grown_told view below out old mid new size c.args.mode c.in-Err.refusal c.process_free_list_after.result refused.left c.process_free_list_after.ensures.refused.fault (c.process_free_list_after.ensures.told.1 out)) [
              | inl same ↦ refused.limit (sym same ∙ is)
              | inr fault ↦ other_limit _ c.process_free_list_after.result (fault_unlimited c.process_free_list_after.result fault) is
            ];
          };
      may_fail = λ near.
          let h = old.file.header.fields in
          met_filling_freed out c.args.mode c.args.old (rounded_up (cluster_size h) c.args.size) h (known_in view old.file) c.in-Err.refusal c.process_free_list_after.result
          (grown_told view g.F.BackingDisk.backing out old c.fill_behind.new.self c.process_free_list_after.new.self c.args.size c.args.mode c.in-Err.refusal c.process_free_list_after.result refused.left c.process_free_list_after.ensures.refused.fault (c.process_free_list_after.ensures.told.1 out)) ((c.in-Err.ensures.sound out sound).may_fail near);
    }

pub returns-in-Err-clause-fails : goal.returns-in-Err-clause-fails
returns-in-Err-clause-fails g c = fails_freed c.fill_behind.result c.in-Err.refusal c.process_free_list_after.result c.fill_behind.ensures.fails c.in-Err.is c.process_free_list_after.ensures.faults (grow_told c.fill_behind.new.self c.process_free_list_after.new.self c.args.mode c.in-Err.refusal c.process_free_list_after.result c.process_free_list_after.ensures.keeps_rest.header c.process_free_list_after.ensures.refused.cause c.in-Err.ensures.fails.cause c.process_free_list_after.ensures.told.0)
