use Rattle.qcow2_image.proofs.Call.MarkedCalls.{putting_marked}
use Rattle.qcow2_image.proofs.image.Qcow2.write_mapped.Goals as goal
use Rattle.std.proofs.Common.{◌≡◌, ◌+◌, ◌<◌, [], true, length, sym, ◌∙◌, subst, rules, arith, refl, Result, IfErr}
use Rattle.qcow2_image.proofs.Common.{OnOk, nil_from_length, Qcow2, Puts, ForeignState, ReadOnly, Raw, IsFoundWhole, is_failed, pending_in, FitsTables, IsCacheHeld, MayFailPutting, handed_on, PutsOnce, on_ok_weaker, MayFailPuttingAt}
use Rattle.qcow2_image.proofs.Lemmas.{may_mark, Quietly, quiet_sound, found_after, found_before, fails_none, behind_none, heeds_on, keeps_marked, held_since, putting_call, met_as, heeds_from, held_begun}
use Rattle.qcow2_image.proofs.Call.Answers.{usable_works}
use Rattle.qcow2_image.proofs.Write.PutParts.{puts_early, puts_none, puts_then, puts_with_outcome}
use Rattle.qcow2_image.proofs.Write.ToldPuts.{checked_unseen, put_in_call, put_nothing, put_refused}

pub returns-clause-sound : goal.returns-clause-sound
returns-clause-sound g c = λ out sound.
    let old = c.args.self.now in
    let below = g.F.BackingDisk.backing in
    let view = g.S.Storage.view in
    let some : 0 < length c.args.bytes.now = search rules in
    let p = pending_in view below old out in
    let begun = c.begin_call.ensures.keeps p out sound in
    record {
      may_fail = let quiet : Quietly view below out old c.begin_call.new.self = record { keeps = c.begin_call.ensures.keeps (pending_in view below old out) out sound; list = c.begin_call.ensures.list } in
          λ k placed writable. subst (λ (r : Result _ _). IfErr r (MayFailPutting (IsCacheHeld old out) c.args.prepared.now c.args.at)) (sym c.mark_failure.ensures.answer)
          (held_since old c.begin_call.new.self out c.begin_call.ensures.begun (λ held. IfErr c.write_current-done.result (MayFailPutting held c.args.prepared.now c.args.at)) ((c.write_current-done.ensures.puts c.requires some out k placed (quiet_sound view below out old c.begin_call.new.self (λ _. quiet) sound)).may_fail));
      outdated = λ none is whole. (c.write_current-done.ensures.in_place none p out begun.sound).outdated some (sym c.mark_failure.ensures.answer ∙ is)
          (found_after view below old c.begin_call.new.self out p p (c.args.prepared.now.guest + c.args.at) (length c.args.bytes.now) (Raw c.args.prepared.now.place (c.args.prepared.now.offset + c.args.at) true) begun whole);
      mapped = let place = c.args.prepared.now.guest + c.args.at in
          let kind = Raw c.args.prepared.now.place (c.args.prepared.now.offset + c.args.at) true in
          let n = length c.args.bytes.now in
          λ none some. subst (λ (r : Result _ _). OnOk r (IsFoundWhole view old place kind n)) (sym c.mark_failure.ensures.answer)
          (on_ok_weaker c.write_current-done.result (λ whole. found_before view below old c.begin_call.new.self out p p place n kind begun whole) ((c.write_current-done.ensures.in_place none p out begun.sound).mapped));
    }

pub returns-then-is_empty-clause-sound : goal.returns-then-is_empty-clause-sound
returns-then-is_empty-clause-sound g c = λ out sound.
    record {
      may_fail = search rules;
      outdated = search rules;
      mapped = λ none some. absurd (let no : length c.args.bytes.now ≡ 0 = search rules in omega (arith, no, some));
    }

pub returns-then-is_empty-clause-sees : goal.returns-then-is_empty-clause-sees
returns-then-is_empty-clause-sees g c =
    let none : c.args.bytes.now ≡ [] = nil_from_length c.args.bytes.now (search rules) in
    puts_none g.S.Storage.view g.F.BackingDisk.backing c.args.self.now c.args.prepared.now c.args.at c.args.bytes.now (usable_works c.args.self.now c.check_usable.result c.in_ok-check_usable.was c.check_usable.ensures) none tt

pub returns-clause-sees : goal.returns-clause-sees
returns-clause-sees g c =
    let view = g.S.Storage.view in
    let below = g.F.BackingDisk.backing in
    let old = c.args.self.now in
    let new = c.write_current-done.new.self in
    let p = c.args.prepared.now in
    let bytes = c.args.bytes.now in
    let r = c.write_current-done.result in
    let some : 0 < length c.args.bytes.now = search rules in
    let quiet : (out : _) → _ → Quietly view below out old c.begin_call.new.self = λ out sound. record { keeps = c.begin_call.ensures.keeps (pending_in view below old out) out sound; list = c.begin_call.ensures.list } in
    subst (λ (image : Qcow2 _ _). Puts view below old image p c.args.at bytes c.mark_failure.result) (sym c.mark_failure.ensures.rest)
    (subst (λ (x : Result _ _). Puts view below old (record new { is_failed = is_failed c.mark_failure.new.self }) p c.args.at bytes x) (sym c.mark_failure.ensures.answer)
    (puts_with_outcome view below old p c.args.at bytes (usable_works old c.check_usable.result c.in_ok-check_usable.was c.check_usable.ensures) new (is_failed c.mark_failure.new.self)
    (c.write_current-done.ensures.step.stays.image.number ∙ c.begin_call.ensures.stays.image.number) r (may_mark c.write_current-done.new.self c.mark_failure.new.self c.write_current-done.result c.mark_failure.ensures.marks)
    (λ out k placed sound. puts_then view below out k p c.args.at bytes placed old c.begin_call.new.self new r (quiet out sound) sound
    ((c.write_current-done.ensures.puts c.requires some out k placed (quiet_sound view below out old c.begin_call.new.self (quiet out) sound)).puts))))

pub returns-then-prepared-self-clause-sees : goal.returns-then-prepared-self-clause-sees
returns-then-prepared-self-clause-sees g c =
    puts_early g.S.Storage.view g.F.BackingDisk.backing c.args.self.now c.args.prepared.now c.args.at c.args.bytes.now (usable_works c.args.self.now c.check_usable.result c.in_ok-check_usable.was c.check_usable.ensures) ForeignState (λ is. cc)

pub returns-then-not-writable-clause-sees : goal.returns-then-not-writable-clause-sees
returns-then-not-writable-clause-sees g c =
    puts_early g.S.Storage.view g.F.BackingDisk.backing c.args.self.now c.args.prepared.now c.args.at c.args.bytes.now (usable_works c.args.self.now c.check_usable.result c.in_ok-check_usable.was c.check_usable.ensures) ReadOnly (λ is. cc)

pub returns-clause-held : goal.returns-clause-held
returns-clause-held g c = λ usable none some.
    let n = length c.args.bytes.now in
    let at = c.args.prepared.now.guest + c.args.at in
    let kind = Raw c.args.prepared.now.place (c.args.prepared.now.offset + c.args.at) true in
    heeds_from at kind n c.args.self.now c.begin_call.new.self c.mark_failure.new.self c.mark_failure.result (held_begun c.args.self.now c.begin_call.new.self at c.begin_call.ensures.begun)
    (subst (λ (r : Result _ _). FitsTables c.begin_call.new.self c.mark_failure.new.self at kind n r) (sym c.mark_failure.ensures.answer)
    (heeds_on at kind n c.begin_call.new.self c.write_current-done.new.self c.mark_failure.new.self c.write_current-done.result (keeps_marked c.write_current-done.new.self c.mark_failure.new.self _ c.mark_failure.ensures.rest) (c.write_current-done.ensures.held none some)))

pub returns-then-is_empty-clause-held : goal.returns-then-is_empty-clause-held
returns-then-is_empty-clause-held g c = λ usable none some. absurd (let no : length c.args.bytes.now ≡ 0 = search rules in omega (arith, no, some))

pub returns-in_err-check_usable-clause-once : goal.returns-in_err-check_usable-clause-once
returns-in_err-check_usable-clause-once g c =
    handed_on (PutsOnce g.S.Storage.view g.F.BackingDisk.backing c.args.prepared.now c.args.at c.args.bytes.now c.args.self.now c.args.self.now) c.from_residual.result c.in_err-check_usable.field-0.0 c.from_residual.ensures
    (put_refused g.S.Storage.view g.F.BackingDisk.backing c.args.prepared.now c.args.at c.args.bytes.now c.args.self.now c.in_err-check_usable.field-0.0)

pub returns-then-prepared-self-clause-once : goal.returns-then-prepared-self-clause-once
returns-then-prepared-self-clause-once g c = put_refused g.S.Storage.view g.F.BackingDisk.backing c.args.prepared.now c.args.at c.args.bytes.now c.args.self.now ForeignState

pub returns-then-is_empty-clause-once : goal.returns-then-is_empty-clause-once
returns-then-is_empty-clause-once g c = put_nothing g.S.Storage.view g.F.BackingDisk.backing c.args.prepared.now c.args.at c.args.bytes.now c.args.self.now (nil_from_length c.args.bytes.now (search rules))

pub returns-then-not-writable-clause-once : goal.returns-then-not-writable-clause-once
returns-then-not-writable-clause-once g c = put_refused g.S.Storage.view g.F.BackingDisk.backing c.args.prepared.now c.args.at c.args.bytes.now c.args.self.now ReadOnly

pub returns-clause-once : goal.returns-clause-once
returns-clause-once g c =
    subst (λ (r : Result _ _). PutsOnce g.S.Storage.view g.F.BackingDisk.backing c.args.prepared.now c.args.at c.args.bytes.now c.args.self.now c.mark_failure.new.self r) (sym c.mark_failure.ensures.answer)
    (put_in_call g.S.Storage.view g.F.BackingDisk.backing c.args.prepared.now c.args.at c.args.bytes.now c.args.self.now c.begin_call.new.self c.write_current-done.new.self c.mark_failure.new.self c.write_current-done.result c.begin_call.ensures.begun (λ out sound. checked_unseen g.S.Storage.view g.F.BackingDisk.backing c.args.self.now c.begin_call.new.self out c.begin_call.ensures.keeps c.begin_call.ensures.list sound) c.write_current-done.ensures.once (is_failed c.mark_failure.new.self) c.mark_failure.ensures.rest)

pub returns-clause-step : goal.returns-clause-step
returns-clause-step g c = putting_marked c.begin_call.ensures.begun c.begin_call.ensures.stays c.begin_call.ensures.faults c.write_current-done.result c.mark_failure.result c.mark_failure.ensures.marks c.mark_failure.ensures.rest c.mark_failure.ensures.answer c.write_current-done.ensures.step c.write_current-done.ensures.fails.faults

pub returns-in_err-check_usable-clause-step : goal.returns-in_err-check_usable-clause-step
returns-in_err-check_usable-clause-step g c = record { image = search rules; header = refl; list = refl; marks = search rules; once_written = fails_none g.S.Storage.view c.args.self.now _; header_cluster = behind_none; faults = search rules }

pub returns-then-prepared-self-clause-step : goal.returns-then-prepared-self-clause-step
returns-then-prepared-self-clause-step g c = record { image = search rules; header = refl; list = refl; marks = search rules; once_written = fails_none g.S.Storage.view c.args.self.now _; header_cluster = behind_none; faults = search rules }

pub returns-then-is_empty-clause-step : goal.returns-then-is_empty-clause-step
returns-then-is_empty-clause-step g c = record { image = search rules; header = refl; list = refl; marks = search rules; once_written = fails_none g.S.Storage.view c.args.self.now _; header_cluster = behind_none; faults = search rules }

pub returns-then-not-writable-clause-step : goal.returns-then-not-writable-clause-step
returns-then-not-writable-clause-step g c = record { image = search rules; header = refl; list = refl; marks = search rules; once_written = fails_none g.S.Storage.view c.args.self.now _; header_cluster = behind_none; faults = search rules }

pub returns-in_err-check_usable-clause-refusals : goal.returns-in_err-check_usable-clause-refusals
returns-in_err-check_usable-clause-refusals g c = record { early = search rules; nothing = search rules; read_only = search rules; late = search rules }

pub returns-then-prepared-self-clause-refusals : goal.returns-then-prepared-self-clause-refusals
returns-then-prepared-self-clause-refusals g c = record { early = search rules; nothing = search rules; read_only = search rules; late = search rules }

pub returns-then-is_empty-clause-refusals : goal.returns-then-is_empty-clause-refusals
returns-then-is_empty-clause-refusals g c = record { early = search rules; nothing = search rules; read_only = search rules; late = search rules }

pub returns-then-not-writable-clause-refusals : goal.returns-then-not-writable-clause-refusals
returns-then-not-writable-clause-refusals g c = record { early = search rules; nothing = search rules; read_only = search rules; late = search rules }

pub returns-clause-refusals : goal.returns-clause-refusals
returns-clause-refusals g c =
    let old = c.args.self.now in
    let begun = c.begin_call.new.self in
    let mid = c.write_current-done.new.self in
    let last = c.mark_failure.new.self in
    let p = c.args.prepared.now in
    let n = length c.args.bytes.now in
    record {
      early = search rules;
      nothing = search rules;
      read_only = search rules;
      late = λ usable writable. subst (λ r. IfErr r (MayFailPuttingAt old last p c.args.at n)) (sym c.mark_failure.ensures.answer)
          (met_as (MayFailPuttingAt begun mid p c.args.at n) (MayFailPuttingAt old last p c.args.at n) c.write_current-done.result (λ e. putting_call old begun mid last _ c.begin_call.ensures.begun c.mark_failure.ensures.rest c.args.at n e p) c.write_current-done.ensures.fails.cause);
    }
