use Rattle.std.proofs.Common.{◌≡◌, [], sym, ◌∙◌, subst, rules, Result, OnOk}
use Rattle.qcow2_image.proofs.Common.{on_ok_weaker, IsSame, view_in, AnswersCall, Qcow2, is_failed, ContentsStayThroughout}
use Rattle.qcow2_image.proofs.Lemmas.{behind_call, told_answers, tells_quietly, quietly_then, counted_marked, may_mark, fails_none, fails_once, if_ok_any, reads_call}
use Rattle.image_access.specs.Moments.{SyncCall}
use Rattle.qcow2_image.specs.Storages.{PassesOn}
use Rattle.qcow2_image.proofs.Call.Passed.{passed_in_call}
use Rattle.qcow2_image.proofs.image.Qcow2.sync.Goals as goal

pub returns-clause-step : goal.returns-clause-step
returns-clause-step g c =
    let view = g.S.Storage.view in
    let old = c.args.self.now in
    let begun = c.begin_call.new.self in
    let synced = c.sync_storages-done.new.self in
    let new = c.mark_failure.new.self in
    record {
      image = search rules;
      header = search rules;
      marks = search rules;
      once_written = fails_once view old begun c.begin_call.ensures.begun synced new c.sync_storages-done.result c.sync_storages-done.ensures.step.part.notes (c.sync_storages-done.ensures.step.part.stays.failed ∙ c.begin_call.ensures.stays.failed) c.mark_failure.ensures.marks c.mark_failure.ensures.rest c.mark_failure.result (λ memory. sym c.mark_failure.ensures.answer ∙ memory);
      header_cluster = behind_call view c.begin_call.ensures.begun c.sync_storages-done.ensures.step.part.header_cluster c.mark_failure.ensures.rest;
      faults = counted_marked view g.F.BackingDisk.backing old begun synced new c.sync_storages-done.result c.mark_failure.result c.begin_call.ensures.faults c.sync_storages-done.ensures.fails.faults c.mark_failure.ensures.answer c.mark_failure.ensures.rest;
      quiet = reads_call view old begun synced new _ c.begin_call.ensures.begun c.sync_storages-done.ensures.step.quiet c.mark_failure.ensures.rest;
    }

pub returns-then-self-clause-step : goal.returns-then-self-clause-step
returns-then-self-clause-step g c = record { image = search rules; header = search rules; marks = search rules; once_written = fails_none g.S.Storage.view c.args.self.now _; header_cluster = search rules; faults = search rules; quiet = search rules }

pub returns-clause-silent : goal.returns-clause-silent
returns-clause-silent g c = λ honest.
    let view = g.S.Storage.view in
    subst (λ (image : Qcow2 _ _). ContentsStayThroughout (view_in view c.args.self.now.file) (view_in view image.file)) (sym c.mark_failure.ensures.rest)
    (subst (λ s. (view s).is_honest → ContentsStayThroughout (view s) (view_in view c.sync_storages-done.new.self.file)) c.begin_call.ensures.storage c.sync_storages-done.ensures.silent honest)

pub returns-clause-sees : goal.returns-clause-sees
returns-clause-sees g c =
    let view = g.S.Storage.view in
    let below = g.F.BackingDisk.backing in
    let old = c.args.self.now in
    let new = c.sync_storages-done.new.self in
    subst (λ (image : Qcow2 _ _). AnswersCall view below old image [] (λ done was is. is ≡ was) c.mark_failure.result) (sym c.mark_failure.ensures.rest)
    (subst (λ (r : Result _ _). AnswersCall view below old (record new { is_failed = is_failed c.mark_failure.new.self }) [] (λ done was is. is ≡ was) r) (sym c.mark_failure.ensures.answer)
    (told_answers view below old (record new { is_failed = is_failed c.mark_failure.new.self }) (λ done was is. is ≡ was) c.sync_storages-done.result
    (tells_quietly view below old new (λ out. quietly_then view below out old c.begin_call.new.self new c.begin_call.ensures.keeps c.begin_call.ensures.list c.sync_storages-done.ensures.keeps c.sync_storages-done.ensures.step.list)
    (is_failed c.mark_failure.new.self) (λ done v w. IsSame v w) c.sync_storages-done.result (may_mark new c.mark_failure.new.self c.sync_storages-done.result c.mark_failure.ensures.marks) (c.sync_storages-done.ensures.step.part.stays.image.number ∙ c.begin_call.ensures.stays.image.number)
    c.if-self.false (λ out sound same. if_ok_any c.sync_storages-done.result (λ done. same)))))

pub returns-clause-passes : goal.returns-clause-passes
returns-clause-passes g c =
    let old = c.args.self.now in
    let new = c.mark_failure.new.self in
    subst (λ (r : Result _ _). OnOk r (PassesOn g.S.Storage.passes SyncCall old new)) (sym c.mark_failure.ensures.answer)
    (on_ok_weaker c.sync_storages-done.result
    (passed_in_call g.S.Storage.passes SyncCall old c.begin_call.new.self c.sync_storages-done.new.self new (is_failed new) c.begin_call.ensures.begun c.mark_failure.ensures.rest)
    c.sync_storages-done.ensures.passes)
