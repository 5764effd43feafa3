use Rattle.std.proofs.Common.{◌≡◌, ◌∙◌, true, false, [], Result, sym, ap, subst, IfErr, IsErrAnd}
use Rattle.qcow2_image.proofs.Common.{OnErr, IfErr-weaker, IsSame, IsFault, AnswersCall, is_failed, pending_in, RespectsPrepared, IsOfPrepared, IsReasonAgainstReading, IsStillInUse, KeepsTables, reftable_in, MayFailToInvalidate, Qcow2, HasPinnedMapping}
use Rattle.qcow2_image.proofs.Lemmas.{some_prepared, table_prepared, keeps_then, told_answers, tells_quietly, may_mark, if_ok_any, on_refused_map}
use Rattle.qcow2_image.proofs.Invalidate.Calls.{heeds_all, heeds_begun, reading_fault, rests_begun, told_in_use, why_begun}
use Rattle.qcow2_image.proofs.image.Qcow2.invalidate_cache.Goals as goal

pub returns-clause-fails : goal.returns-clause-fails
returns-clause-fails g c =
    let view = g.S.Storage.view in
    let old = c.args.self.now in
    let begun = c.begin_call.new.self in
    let read = c.drop_and_read-done.new.self in
    let new = c.mark_failure.new.self in
    let r = c.drop_and_read-done.result in
    let answer = sym c.mark_failure.ensures.answer in
    let same = ap (λ (i : Qcow2 _ _). i.file) c.mark_failure.ensures.rest in
    record {
      failed = λ bad. absurd (let no : false ≡ true = sym c.if-self.false ∙ bad in cc);
      kept = subst (λ (x : Result _ _). OnErr x (KeepsTables old new)) answer (on_refused_map r (λ kept. record {
        header = ap (λ (i : Qcow2 _ _). i.file.header) c.mark_failure.ensures.rest ∙ kept.header ∙ ap (λ (i : Qcow2 _ _). i.file.header) c.begin_call.ensures.rest;
        l1_table = ap (λ (i : Qcow2 _ _). i.l1_table) c.mark_failure.ensures.rest ∙ kept.l1_table ∙ ap (λ (i : Qcow2 _ _). i.l1_table) c.begin_call.ensures.rest;
        reftable = ap (λ (i : Qcow2 _ _). reftable_in i) c.mark_failure.ensures.rest ∙ kept.reftable ∙ ap (λ (i : Qcow2 _ _). reftable_in i) c.begin_call.ensures.rest;
      }) c.drop_and_read-done.ensures.kept);
      cause = λ _. subst (λ (x : Result _ _). IfErr x MayFailToInvalidate) answer c.drop_and_read-done.ensures.fails.cause;
      prepared = λ _. subst (λ (x : Result _ _). RespectsPrepared old x) answer (heeds_begun view old begun c.begin_call.ensures.begun r c.drop_and_read-done.ensures.prepared);
      why =
          λ _ honest.
          subst (λ (x : Result _ _). IfErr x (IsReasonAgainstReading view old new)) answer
          (IfErr-weaker r (IsReasonAgainstReading view begun read) (IsReasonAgainstReading view old new) (λ e. why_begun view old begun c.begin_call.ensures.begun read new same e) (c.drop_and_read-done.ensures.why (subst (λ s. (view s).is_honest) (sym c.begin_call.ensures.storage) honest)));
      list = λ _. ap (λ (i : Qcow2 _ _). i.file.free_list) c.mark_failure.ensures.rest ∙ c.drop_and_read-done.ensures.list;
    }

pub returns-clause-sound : goal.returns-clause-sound
returns-clause-sound g c =
    let view = g.S.Storage.view in
    let below = g.F.BackingDisk.backing in
    let old = c.args.self.now in
    let begun = c.begin_call.new.self in
    let read = c.drop_and_read-done.new.self in
    let new = c.mark_failure.new.self in
    let r = c.drop_and_read-done.result in
    let answer = sym c.mark_failure.ensures.answer in
    let same = ap (λ (i : Qcow2 _ _). i.file) c.mark_failure.ensures.rest in
    record {
      same =
          λ rest.
          subst (λ (image : Qcow2 _ _). AnswersCall view below old image [] (λ done was is. is ≡ was) c.mark_failure.result) (sym c.mark_failure.ensures.rest)
          (subst (λ (x : Result _ _). AnswersCall view below old (record read { is_failed = is_failed new }) [] (λ done was is. is ≡ was) x) answer
          (told_answers view below old (record read { is_failed = is_failed new }) (λ done was is. is ≡ was) r
          (tells_quietly view below old read
          (λ out sound.
          let p = pending_in view below old out in
          let first = c.begin_call.ensures.keeps p out sound in
          let there = rests_begun view old begun c.begin_call.ensures.begun (c.begin_call.ensures.known p out sound) rest in
          record {
            keeps = keeps_then view below out old begun read p p p (λ k h. h) first (c.drop_and_read-done.ensures.keeps there p out first.sound);
            list = c.drop_and_read-done.ensures.list ∙ sym rest.freed;
          })
          (is_failed new) (λ done v w. IsSame v w) r (may_mark read new r c.mark_failure.ensures.marks) (c.drop_and_read-done.ensures.step.part.stays.image.number ∙ c.begin_call.ensures.stays.image.number)
          c.if-self.false (λ out sound same. if_ok_any r (λ done. same)))));
      fault =
          λ out sound none.
          let first = c.begin_call.ensures.keeps (pending_in view below old out) out sound in
          subst (λ (x : Result _ _). IfErr x IsFault) answer
          (IfErr-weaker r (IsReasonAgainstReading view begun read) IsFault
          (λ e why. reading_fault view old new below (pending_in view below old out) out sound (λ has. none (some_prepared view below old out sound has.cluster has.pins)) e (why_begun view old begun c.begin_call.ensures.begun read new same e why))
          (c.drop_and_read-done.ensures.why first.sound.file.honest));
      prepared = λ out sound has. subst (λ (x : Result _ _). IsErrAnd x IsOfPrepared) answer (heeds_all old r (table_prepared view below old out sound has) (heeds_begun view old begun c.begin_call.ensures.begun r c.drop_and_read-done.ensures.prepared));
      in_use =
          λ out sound.
          let first = c.begin_call.ensures.keeps (pending_in view below old out) out sound in
          subst (λ (x : Result _ _). IfErr x (λ e. IsStillInUse e → HasPinnedMapping out)) answer
          (IfErr-weaker r (IsReasonAgainstReading view begun read) (λ e. IsStillInUse e → HasPinnedMapping out)
          (λ e why. told_in_use old view new (HasPinnedMapping out) (λ has. some_prepared view below old out sound has.cluster has.pins) sound.file.room e (why_begun view old begun c.begin_call.ensures.begun read new same e why))
          (c.drop_and_read-done.ensures.why first.sound.file.honest));
    }
