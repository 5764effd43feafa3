use Rattle.qcow2_image.proofs.Call.MarkedCalls.{reading_marked}
use Rattle.std.proofs.Common.{◌≡◌, ◌⊎◌, [], sym, ◌∙◌, subst, rules, Result, IfErr, None, Some, arith, length}
use Rattle.qcow2_image.proofs.Common.{IsSame, AnswersCall, Qcow2, known_in, is_failed, pending_in, IsCacheHeld, MayFailLooking, unusable, IfOk-weaker, MayFailTelling, IsCompressedInTables, OnOk, on_ok_weaker}
use Rattle.qcow2_image.specs.SpecialReads.{ReportsWhether}
use Rattle.qcow2_image.proofs.Call.Answers.{usable_works}
use Rattle.qcow2_image.proofs.Lemmas.{told_answers, tells_quietly, quietly_then, may_mark, fails_none, held_since, sound_is_usable, refused_for, looks_none, looks_call, telling_call, met_as, plain_marked}
use Rattle.qcow2_alloc.specs.declared.error.ImageError.TheVariants.{Compressed}
use Rattle.qcow2_image.proofs.image.Qcow2.try_readv_special.Goals as goal

pub returns-clause-sound : goal.returns-clause-sound
returns-clause-sound g c = λ out sound.
    let old = c.args.self.now in
    let view = g.S.Storage.view in
    let p = pending_in view g.F.BackingDisk.backing old out in
    record {
      may_fail = subst (λ (r : Result _ _). IfErr r (λ e. MayFailLooking (IsCacheHeld old out) e ⊎ (e ≡ Compressed))) (sym c.mark_failure.ensures.answer) (held_since old c.begin_call.new.self out c.begin_call.ensures.begun (λ held. IfErr c.check_not_compressed-plain.result (λ e. MayFailLooking held e ⊎ (e ≡ Compressed))) ((c.check_not_compressed-plain.ensures.sound p out (c.begin_call.ensures.keeps p out sound).sound).may_fail));
      reports = λ some. subst (λ r. ReportsWhether (known_in view old.file) c.args.offset r) (sym c.mark_failure.ensures.answer)
          (subst (λ k. ReportsWhether k c.args.offset c.check_not_compressed-plain.result) (c.begin_call.ensures.known p out sound) ((c.check_not_compressed-plain.ensures.sound p out (c.begin_call.ensures.keeps p out sound).sound).reports));
    }

pub returns-in_err-check_usable-clause-sound : goal.returns-in_err-check_usable-clause-sound
returns-in_err-check_usable-clause-sound g c = λ out sound.
    let old = c.args.self.now in
    record {
      may_fail = let refused = refused_for c.check_usable.result tt (unusable old) c.in_err-check_usable.field-0.0 c.check_usable.ensures c.in_err-check_usable.was in
          absurd (let no : None ≡ Some c.in_err-check_usable.field-0.0 = sym (sound_is_usable g.S.Storage.view g.F.BackingDisk.backing old out sound) ∙ refused in cc);
      reports = search rules;
    }

pub returns-clause-sees : goal.returns-clause-sees
returns-clause-sees g c =
    let view = g.S.Storage.view in
    let below = g.F.BackingDisk.backing in
    let old = c.args.self.now in
    let new = c.check_not_compressed-plain.new.self in
    subst (λ (image : Qcow2 _ _). AnswersCall view below old image [] (λ at was is. is ≡ was) c.mark_failure.result) (sym c.mark_failure.ensures.rest)
    (subst (λ (r : Result _ _). AnswersCall view below old (record new { is_failed = is_failed c.mark_failure.new.self }) [] (λ at was is. is ≡ was) r) (sym c.mark_failure.ensures.answer)
    (told_answers view below old (record new { is_failed = is_failed c.mark_failure.new.self }) (λ at was is. is ≡ was) c.check_not_compressed-plain.result
    (tells_quietly view below old new (λ out. quietly_then view below out old c.begin_call.new.self new c.begin_call.ensures.keeps c.begin_call.ensures.list (λ p out sound. (c.check_not_compressed-plain.ensures.sound p out sound).keeps) c.check_not_compressed-plain.ensures.step.list)
    (is_failed c.mark_failure.new.self) (λ at v w. IsSame v w) c.check_not_compressed-plain.result (may_mark c.check_not_compressed-plain.new.self c.mark_failure.new.self c.check_not_compressed-plain.result c.mark_failure.ensures.marks) (c.check_not_compressed-plain.ensures.step.part.stays.image.number ∙ c.begin_call.ensures.stays.image.number)
    (usable_works old c.check_usable.result c.in_ok-check_usable.was c.check_usable.ensures)
    (λ out sound same. IfOk-weaker c.check_not_compressed-plain.result _ _ (λ at is. same) c.check_not_compressed-plain.ensures.answer))))

pub returns-clause-step : goal.returns-clause-step
returns-clause-step g c = reading_marked c.begin_call.ensures.begun c.begin_call.ensures.stays c.begin_call.ensures.faults c.check_not_compressed-plain.result c.mark_failure.result c.mark_failure.ensures.marks c.mark_failure.ensures.rest c.mark_failure.ensures.answer c.check_not_compressed-plain.ensures.step c.check_not_compressed-plain.ensures.fails.faults

pub returns-in_err-check_usable-clause-step : goal.returns-in_err-check_usable-clause-step
returns-in_err-check_usable-clause-step g c = record { image = search rules; header = search rules; marks = search rules; once_written = fails_none g.S.Storage.view c.args.self.now _; header_cluster = search rules; faults = search rules; quiet = search rules }

pub returns-then-is_empty-clause-step : goal.returns-then-is_empty-clause-step
returns-then-is_empty-clause-step g c = record { image = search rules; header = search rules; marks = search rules; once_written = fails_none g.S.Storage.view c.args.self.now _; header_cluster = search rules; faults = search rules; quiet = search rules }

pub returns-in_err-check_usable-clause-refusals : goal.returns-in_err-check_usable-clause-refusals
returns-in_err-check_usable-clause-refusals g c = record { early = search rules; nothing = search rules; late = search rules }

pub returns-then-is_empty-clause-refusals : goal.returns-then-is_empty-clause-refusals
returns-then-is_empty-clause-refusals g c = record { early = search rules; nothing = search rules; late = search rules }

pub returns-clause-refusals : goal.returns-clause-refusals
returns-clause-refusals g c =
    let old = c.args.self.now in
    let begun = c.begin_call.new.self in
    let mid = c.check_not_compressed-plain.new.self in
    let last = c.mark_failure.new.self in
    record {
      early = search rules;
      nothing = search rules;
      late = λ usable. subst (λ r. IfErr r (MayFailTelling old last c.args.offset 1)) (sym c.mark_failure.ensures.answer)
          (met_as (MayFailTelling begun mid c.args.offset 1) (MayFailTelling old last c.args.offset 1) c.check_not_compressed-plain.result (telling_call old begun mid last _ c.begin_call.ensures.begun c.mark_failure.ensures.rest c.args.offset 1) c.check_not_compressed-plain.ensures.fails.cause);
    }

pub returns-in_err-check_usable-clause-quiet : goal.returns-in_err-check_usable-clause-quiet
returns-in_err-check_usable-clause-quiet g c = looks_none g.S.Storage.view c.args.offset c.args.self.now

pub returns-then-is_empty-clause-quiet : goal.returns-then-is_empty-clause-quiet
returns-then-is_empty-clause-quiet g c = looks_none g.S.Storage.view c.args.offset c.args.self.now

pub returns-clause-quiet : goal.returns-clause-quiet
returns-clause-quiet g c = looks_call g.S.Storage.view c.args.offset c.args.self.now c.begin_call.new.self c.check_not_compressed-plain.new.self c.mark_failure.new.self _ c.begin_call.ensures.begun c.check_not_compressed-plain.ensures.quiet c.mark_failure.ensures.rest

pub returns-then-is_empty-clause-plain : goal.returns-then-is_empty-clause-plain
returns-then-is_empty-clause-plain g c = λ some. absurd (let none : length c.args.bytes.now ≡ 0 = search rules in omega (arith, none, some))

pub returns-clause-plain : goal.returns-clause-plain
returns-clause-plain g c = λ some.
    subst (λ (r : Result _ _). OnOk r (¬ IsCompressedInTables c.mark_failure.new.self c.args.offset)) (sym c.mark_failure.ensures.answer)
    (on_ok_weaker c.check_not_compressed-plain.result (plain_marked c.check_not_compressed-plain.new.self c.mark_failure.new.self (is_failed c.mark_failure.new.self) c.args.offset c.mark_failure.ensures.rest) c.check_not_compressed-plain.ensures.plain)
