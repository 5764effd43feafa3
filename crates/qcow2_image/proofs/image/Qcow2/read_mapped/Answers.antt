use Rattle.qcow2_image.proofs.Call.MarkedCalls.{reading_marked}
use Rattle.std.proofs.Common.{ap, ◌≡◌, ◌+◌, ◌<◌, [], sym, ◌∙◌, subst, rules, arith, length, Result, IfErr}
use Rattle.qcow2_image.proofs.Common.{OnOk, Shows, IsSame, guest_of, AnswersCall, Qcow2, IsFoundWhole, further_by, is_failed, pending_in, IsCacheHeld, MayFailMapped, FitsTables, IfOk-weaker, on_ok_weaker, ReadsAs, MayFailReadingFound}
use Rattle.qcow2_image.proofs.Lemmas.{may_mark, told_answers, tells_quietly, quietly_then, found_after, found_before, fails_none, held_since, mapped_met_at, met_as, heeds_on, keeps_marked, looks_none, looks_call, found_call, heeds_from, held_begun, reads_marked}
use Rattle.qcow2_image.proofs.Call.Answers.{usable_works}
use Rattle.qcow2_image.proofs.image.Qcow2.read_mapped.Goals as goal

pub returns-clause-sound : goal.returns-clause-sound
returns-clause-sound g c = λ out sound.
    let old = c.args.self.now in
    let below = g.F.BackingDisk.backing in
    let view = g.S.Storage.view in
    let p = pending_in view below old out in
    let place = c.args.mapping.now.offset + c.args.at in
    let kind = further_by c.args.at c.args.mapping.now.kind in
    let n = length c.args.bytes.now in
    let begun = c.begin_call.ensures.keeps p out sound in
    record {
      may_fail = λ usable. subst (λ (r : Result _ _). IfErr r (MayFailMapped (IsCacheHeld old out) kind (IsFoundWhole view old place kind n))) (sym c.mark_failure.ensures.answer)
          (held_since old c.begin_call.new.self out c.begin_call.ensures.begun (λ held. IfErr c.read_current-done.result (MayFailMapped held kind (IsFoundWhole view old place kind n)))
          (met_as (MayFailMapped (IsCacheHeld c.begin_call.new.self out) kind (IsFoundWhole view c.begin_call.new.self place kind n)) (MayFailMapped (IsCacheHeld c.begin_call.new.self out) kind (IsFoundWhole view old place kind n)) c.read_current-done.result
          (mapped_met_at (IsCacheHeld c.begin_call.new.self out) kind (found_before view below old c.begin_call.new.self out p p place n kind begun)) ((c.read_current-done.ensures.sound p out begun.sound).may_fail)));
      outdated = let some : 0 < length c.args.bytes.now = search rules in
          λ is whole. (c.read_current-done.ensures.sound p out begun.sound).outdated some (sym c.mark_failure.ensures.answer ∙ is)
          (found_after view below old c.begin_call.new.self out p p (c.args.mapping.now.offset + c.args.at) (length c.args.bytes.now) (further_by c.args.at c.args.mapping.now.kind) begun whole);
      mapped = λ some. subst (λ (r : Result _ _). OnOk r (IsFoundWhole view old place kind n)) (sym c.mark_failure.ensures.answer)
          (on_ok_weaker c.read_current-done.result (λ whole. found_before view below old c.begin_call.new.self out p p place n kind begun whole) ((c.read_current-done.ensures.sound p out begun.sound).mapped));
    }

pub returns-then-is_empty-clause-sound : goal.returns-then-is_empty-clause-sound
returns-then-is_empty-clause-sound g c = λ out sound.
    record {
      may_fail = search rules;
      outdated = search rules;
      mapped = λ some. absurd (let none : length c.args.bytes.now ≡ 0 = search rules in omega (arith, none, some));
    }

pub returns-clause-sees : goal.returns-clause-sees
returns-clause-sees g c =
    let view = g.S.Storage.view in
    let below = g.F.BackingDisk.backing in
    let old = c.args.self.now in
    let new = c.read_current-done.new.self in
    let shown = c.read_current-done.new.bytes in
    let place = c.args.mapping.now.offset + c.args.at in
    let some : 0 < length c.args.bytes.now = search rules in
    subst (λ (image : Qcow2 _ _). AnswersCall view below old image [] (λ done was is. (is ≡ was) × Shows was.disk place shown) c.mark_failure.result) (sym c.mark_failure.ensures.rest)
    (subst (λ (r : Result _ _). AnswersCall view below old (record new { is_failed = is_failed c.mark_failure.new.self }) [] (λ done was is. (is ≡ was) × Shows was.disk place shown) r) (sym c.mark_failure.ensures.answer)
    (told_answers view below old (record new { is_failed = is_failed c.mark_failure.new.self }) (λ done was is. (is ≡ was) × Shows was.disk place shown) c.read_current-done.result
    (tells_quietly view below old new (λ out. quietly_then view below out old c.begin_call.new.self new c.begin_call.ensures.keeps c.begin_call.ensures.list (λ p out sound. (c.read_current-done.ensures.sound p out sound).keeps) c.read_current-done.ensures.step.list)
    (is_failed c.mark_failure.new.self) (λ done v w. IsSame v w × Shows (guest_of v).disk place shown) c.read_current-done.result (may_mark c.read_current-done.new.self c.mark_failure.new.self c.read_current-done.result c.mark_failure.ensures.marks) (c.read_current-done.ensures.step.part.stays.image.number ∙ c.begin_call.ensures.stays.image.number)
    (usable_works old c.check_usable.result c.in_ok-check_usable.was c.check_usable.ensures)
    (λ out sound same. IfOk-weaker c.read_current-done.result _ _ (λ done shows. (same, subst (λ g. Shows g.disk place shown) same shows))
    ((c.read_current-done.ensures.sound (pending_in view below old out) out (c.begin_call.ensures.keeps (pending_in view below old out) out sound).sound).shows some)))))

pub returns-clause-held : goal.returns-clause-held
returns-clause-held g c = λ usable some.
    let n = length c.args.bytes.now in
    let at = c.args.mapping.now.offset + c.args.at in
    let kind = further_by c.args.at c.args.mapping.now.kind in
    heeds_from at kind n c.args.self.now c.begin_call.new.self c.mark_failure.new.self c.mark_failure.result (held_begun c.args.self.now c.begin_call.new.self at c.begin_call.ensures.begun)
    (subst (λ (r : Result _ _). FitsTables c.begin_call.new.self c.mark_failure.new.self at kind n r) (sym c.mark_failure.ensures.answer)
    (heeds_on at kind n c.begin_call.new.self c.read_current-done.new.self c.mark_failure.new.self c.read_current-done.result (keeps_marked c.read_current-done.new.self c.mark_failure.new.self _ c.mark_failure.ensures.rest) (c.read_current-done.ensures.held some)))

pub returns-then-is_empty-clause-held : goal.returns-then-is_empty-clause-held
returns-then-is_empty-clause-held g c = λ usable some. absurd (let none : length c.args.bytes.now ≡ 0 = search rules in omega (arith, none, some))

pub returns-clause-step : goal.returns-clause-step
returns-clause-step g c = reading_marked c.begin_call.ensures.begun c.begin_call.ensures.stays c.begin_call.ensures.faults c.read_current-done.result c.mark_failure.result c.mark_failure.ensures.marks c.mark_failure.ensures.rest c.mark_failure.ensures.answer c.read_current-done.ensures.step c.read_current-done.ensures.fails.faults

pub returns-in_err-check_usable-clause-step : goal.returns-in_err-check_usable-clause-step
returns-in_err-check_usable-clause-step g c = record { image = search rules; header = search rules; marks = search rules; once_written = fails_none g.S.Storage.view c.args.self.now _; header_cluster = search rules; faults = search rules; quiet = search rules }

pub returns-then-mapping-self-clause-step : goal.returns-then-mapping-self-clause-step
returns-then-mapping-self-clause-step g c = record { image = search rules; header = search rules; marks = search rules; once_written = fails_none g.S.Storage.view c.args.self.now _; header_cluster = search rules; faults = search rules; quiet = search rules }

pub returns-then-is_empty-clause-step : goal.returns-then-is_empty-clause-step
returns-then-is_empty-clause-step g c = record { image = search rules; header = search rules; marks = search rules; once_written = fails_none g.S.Storage.view c.args.self.now _; header_cluster = search rules; faults = search rules; quiet = search rules }

pub returns-in_err-check_usable-clause-refusals : goal.returns-in_err-check_usable-clause-refusals
returns-in_err-check_usable-clause-refusals g c = record { early = search rules; nothing = search rules; late = search rules }

pub returns-then-mapping-self-clause-refusals : goal.returns-then-mapping-self-clause-refusals
returns-then-mapping-self-clause-refusals g c = record { early = search rules; nothing = search rules; late = search rules }

pub returns-then-is_empty-clause-refusals : goal.returns-then-is_empty-clause-refusals
returns-then-is_empty-clause-refusals g c = record { early = search rules; nothing = search rules; late = search rules }

pub returns-clause-refusals : goal.returns-clause-refusals
returns-clause-refusals g c =
    let old = c.args.self.now in
    let begun = c.begin_call.new.self in
    let mid = c.read_current-done.new.self in
    let last = c.mark_failure.new.self in
    record {
      early = search rules;
      nothing = search rules;
      late = λ usable. subst (λ r. IfErr r (MayFailReadingFound old last (c.args.mapping.now.offset + c.args.at) (length c.args.bytes.now))) (sym c.mark_failure.ensures.answer)
          (met_as (MayFailReadingFound begun mid (c.args.mapping.now.offset + c.args.at) (length c.args.bytes.now)) (MayFailReadingFound old last (c.args.mapping.now.offset + c.args.at) (length c.args.bytes.now)) c.read_current-done.result (found_call old begun mid last _ c.begin_call.ensures.begun c.mark_failure.ensures.rest (c.args.mapping.now.offset + c.args.at) (length c.args.bytes.now)) c.read_current-done.ensures.fails.cause);
    }

pub returns-in_err-check_usable-clause-quiet : goal.returns-in_err-check_usable-clause-quiet
returns-in_err-check_usable-clause-quiet g c = looks_none g.S.Storage.view (c.args.mapping.now.offset + c.args.at) c.args.self.now

pub returns-then-mapping-self-clause-quiet : goal.returns-then-mapping-self-clause-quiet
returns-then-mapping-self-clause-quiet g c = looks_none g.S.Storage.view (c.args.mapping.now.offset + c.args.at) c.args.self.now

pub returns-then-is_empty-clause-quiet : goal.returns-then-is_empty-clause-quiet
returns-then-is_empty-clause-quiet g c = looks_none g.S.Storage.view (c.args.mapping.now.offset + c.args.at) c.args.self.now

pub returns-clause-quiet : goal.returns-clause-quiet
returns-clause-quiet g c =
    looks_call g.S.Storage.view (c.args.mapping.now.offset + c.args.at) c.args.self.now c.begin_call.new.self c.read_current-done.new.self c.mark_failure.new.self _ c.begin_call.ensures.begun c.read_current-done.ensures.quiet c.mark_failure.ensures.rest

pub returns-then-is_empty-clause-reads : goal.returns-then-is_empty-clause-reads
returns-then-is_empty-clause-reads g c = λ some. absurd (let none : length c.args.bytes.now ≡ 0 = search rules in omega (arith, none, some))

pub returns-clause-reads : goal.returns-clause-reads
returns-clause-reads g c = λ some.
    let view = g.S.Storage.view in
    let kind = further_by c.args.at c.args.mapping.now.kind in
    let shown = c.read_current-done.new.bytes in
    let begun = c.begin_call.ensures.begun.storage in
    let mid = c.begin_call.new.self in
    subst (λ (r : Result _ _). OnOk r (ReadsAs view c.args.self.now c.mark_failure.new.self kind shown)) (sym c.mark_failure.ensures.answer)
    (subst (λ (i : Qcow2 _ _). OnOk c.read_current-done.result (ReadsAs view c.args.self.now i kind shown)) (sym c.mark_failure.ensures.rest)
    (on_ok_weaker c.read_current-done.result (λ reads. reads_marked view c.args.self.now mid c.read_current-done.new.self (is_failed c.mark_failure.new.self) kind shown (ap (λ (i : Qcow2 _ _). i.data_file) c.begin_call.ensures.rest) (λ honest. subst (λ s. (view s).is_honest) (sym begun) honest) reads) c.read_current-done.ensures.reads))
