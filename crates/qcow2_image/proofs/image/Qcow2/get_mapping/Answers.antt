use Rattle.std.proofs.Common.{◌≡◌, ◌<◌, [], sym, ap, ◌∙◌, subst, IfOk, is_some, rules, Err, IfErr, None, Some, Ok, Result, arith}
use Rattle.qcow2_image.proofs.Common.{AnsweredEffect, RefusedEffect, IsSame, guest_of, Qcow2, IsFoundIn, known_header, known_in, state_in, IsFoundInImage, found_kind, is_failed, size_of, abstract_of, pending_in, refusal_of, FailsOnceWritten, handed_on, err_as, Memory, IsCacheHeld, MayFailLooking, unusable, IsHeldRun, MayFailFinding, IsKindIn}
use Rattle.qcow2_disk.specs.Found.{IsFound as IsFoundOf}
use Rattle.qcow2_image.proofs.Lemmas.{MayMarkBy, may_mark, quietly_then, quiet_does, quiet_refuses, answered_once, fails_none, fails_once, behind_call, held_since, hands_met, sound_is_usable, refused_for, reads_call, looks_none, looks_call, finding_call, same_found}
use Rattle.qcow2_image.specs.declared.mapping.MappingKind.TheVariants.{Eof}
use Rattle.qcow2_image.proofs.Call.Answers.{answers_err, usable_works}
use Rattle.qcow2_image.proofs.image.Qcow2.get_mapping.Goals as goal

pub returns-clause-sound : goal.returns-clause-sound
returns-clause-sound g c = λ out sound.
    let view = g.S.Storage.view in
    let p = pending_in view g.F.BackingDisk.backing c.args.self.now out in
    record {
      may_fail = search rules;
      known = ap (λ (image : Qcow2 _ _). known_in view image.file) c.mark_failure.ensures.rest ∙ (c.look_up-found.ensures.sound p out (c.begin_call.ensures.keeps p out sound).sound).known ∙ c.begin_call.ensures.known p out sound;
      run = let new = c.look_up-found.new.self in
          let marks = subst (λ r. MayMarkBy r (is_failed new) (is_failed c.mark_failure.new.self)) (sym c.mark_failure.ensures.answer ∙ c.in_ok-kind.was) (may_mark c.look_up-found.new.self c.mark_failure.new.self c.look_up-found.result c.mark_failure.ensures.marks) in
          let same : c.mark_failure.new.self ≡ new = c.mark_failure.ensures.rest ∙ ap (λ f. record new { is_failed = f }) marks in
          let begun = (c.begin_call.ensures.keeps p out sound).sound in
          let crash_invariant = ((c.look_up-found.ensures.sound p out begun).keeps).sound.file.caches.kept.kept.crash_invariant in
          let found : IsFoundInImage view new c.args.offset c.args.max c.in_ok-kind.kind c.in_ok-kind.length =
          subst (λ r. IfOk r (λ x. IsFoundInImage view new c.args.offset c.args.max x.0 x.1)) (sym c.mark_failure.ensures.answer ∙ c.in_ok-kind.was) ((c.look_up-found.ensures.sound p out begun).found) in
          subst (λ (image : Qcow2 _ _). IsFoundIn (known_in view image.file) (is_some image.backing) c.args.offset c.args.max (found_kind c.in_ok-kind.kind) c.in_ok-kind.length) (sym same)
          (subst (λ h. IsFoundOf h (known_in view new.file) (is_some new.backing) c.args.offset c.args.max (found_kind c.in_ok-kind.kind) c.in_ok-kind.length) (sym (known_header (state_in view new.file p) crash_invariant)) found);
    }

pub returns-in_err-kind-clause-sound : goal.returns-in_err-kind-clause-sound
returns-in_err-kind-clause-sound g c = λ out sound.
    let old = c.args.self.now in
    let view = g.S.Storage.view in
    let p = pending_in view g.F.BackingDisk.backing old out in
    record {
      may_fail = hands_met (MayFailLooking (IsCacheHeld old out)) c.from_residual-in_err-kind.result c.in_err-kind.field-0.0 c.from_residual-in_err-kind.ensures
          (subst (λ r. IfErr r (MayFailLooking (IsCacheHeld old out))) (sym c.mark_failure.ensures.answer ∙ c.in_err-kind.was) (held_since old c.begin_call.new.self out c.begin_call.ensures.begun (λ held. IfErr c.look_up-found.result (MayFailLooking held)) ((c.look_up-found.ensures.sound p out (c.begin_call.ensures.keeps p out sound).sound).may_fail)));
      known = ap (λ (image : Qcow2 _ _). known_in view image.file) c.mark_failure.ensures.rest ∙ (c.look_up-found.ensures.sound p out (c.begin_call.ensures.keeps p out sound).sound).known ∙ c.begin_call.ensures.known p out sound;
      run = search rules;
    }

pub returns-in_err-check_usable-clause-sound : goal.returns-in_err-check_usable-clause-sound
returns-in_err-check_usable-clause-sound g c = λ out sound.
    let old = c.args.self.now in
    record {
      may_fail = let refused = refused_for c.check_usable.result tt (unusable old) c.in_err-check_usable.field-0.0 c.check_usable.ensures c.in_err-check_usable.was in
          absurd (let no : None ≡ Some c.in_err-check_usable.field-0.0 = sym (sound_is_usable g.S.Storage.view g.F.BackingDisk.backing old out sound) ∙ refused in cc);
      known = search rules;
      run = search rules;
    }

pub returns-in_err-kind-clause-sees : goal.returns-in_err-kind-clause-sees
returns-in_err-kind-clause-sees g c =
    let view = g.S.Storage.view in
    let below = g.F.BackingDisk.backing in
    let old = c.args.self.now in
    let new = c.look_up-found.new.self in
    let e = c.in_err-kind.field-0.0 in
    let marks = subst (λ r. MayMarkBy r (is_failed new) (is_failed c.mark_failure.new.self)) (sym c.mark_failure.ensures.answer ∙ c.in_err-kind.was) (may_mark c.look_up-found.new.self c.mark_failure.new.self c.look_up-found.result c.mark_failure.ensures.marks) in
    answers_err view below old c.mark_failure.new.self [] (λ found was is. is ≡ was) c.from_residual-in_err-kind.result e c.from_residual-in_err-kind.ensures
    (λ out.
    let quiet = quietly_then view below out old c.begin_call.new.self new c.begin_call.ensures.keeps c.begin_call.ensures.list (λ p out sound. (c.look_up-found.ensures.sound p out sound).keeps) c.look_up-found.ensures.step.list in
    subst (λ (image : Qcow2 _ _). RefusedEffect (abstract_of view below old out) (abstract_of view below image out) [] [] (refusal_of e) (IsSame (abstract_of view below old out) (abstract_of view below image out))) (sym c.mark_failure.ensures.rest)
    (quiet_refuses view below out old new quiet (is_failed c.mark_failure.new.self) e marks (c.look_up-found.ensures.step.part.stays.image.number ∙ c.begin_call.ensures.stays.image.number)
    (usable_works old c.check_usable.result c.in_ok-check_usable.was c.check_usable.ensures)))

pub returns-clause-sees : goal.returns-clause-sees
returns-clause-sees g c = λ out.
    let view = g.S.Storage.view in
    let below = g.F.BackingDisk.backing in
    let old = c.args.self.now in
    let new = c.look_up-found.new.self in
    let quiet = quietly_then view below out old c.begin_call.new.self new c.begin_call.ensures.keeps c.begin_call.ensures.list (λ p out sound. (c.look_up-found.ensures.sound p out sound).keeps) c.look_up-found.ensures.step.list in
    let marks = subst (λ r. MayMarkBy r (is_failed new) (is_failed c.mark_failure.new.self)) (sym c.mark_failure.ensures.answer ∙ c.in_ok-kind.was) (may_mark c.look_up-found.new.self c.mark_failure.new.self c.look_up-found.result c.mark_failure.ensures.marks) in
    let same : c.mark_failure.new.self ≡ new = c.mark_failure.ensures.rest ∙ ap (λ f. record new { is_failed = f }) marks in
    subst (λ (image : Qcow2 _ _). AnsweredEffect (abstract_of view below old out) (abstract_of view below image out) [] [] (guest_of (abstract_of view below image out) ≡ guest_of (abstract_of view below old out))) (sym same)
    (quiet_does view below out old new quiet (c.look_up-found.ensures.step.part.stays.image.number ∙ c.begin_call.ensures.stays.image.number) (usable_works old c.check_usable.result c.in_ok-check_usable.was c.check_usable.ensures))

pub returns-clause-held : goal.returns-clause-held
returns-clause-held g c = λ lt.
    let below : c.args.offset < size_of c.begin_call.new.self = subst (λ n. c.args.offset < n) (sym c.begin_call.ensures.stays.image.size) lt in
    let held : IsHeldRun c.look_up-found.new.self c.args.offset c.args.max c.in_ok-kind.kind c.in_ok-kind.length =
    rw (sym c.mark_failure.ensures.answer ∙ c.in_ok-kind.was) at (c.look_up-found.ensures.held below) in
    subst (λ (image : Qcow2 _ _). IsHeldRun image c.args.offset c.args.max c.in_ok-kind.kind c.in_ok-kind.length) (sym c.mark_failure.ensures.rest) held

pub returns-in_err-kind-clause-step : goal.returns-in_err-kind-clause-step
returns-in_err-kind-clause-step g c = record {
  image = search rules;
  header = search rules;
  marks = search rules;
  faults = search rules;
  once_written = handed_on (λ r. FailsOnceWritten g.S.Storage.view c.args.self.now c.mark_failure.new.self r) c.from_residual-in_err-kind.result c.in_err-kind.field-0.0 c.from_residual-in_err-kind.ensures
      (fails_once g.S.Storage.view c.args.self.now c.begin_call.new.self c.begin_call.ensures.begun c.look_up-found.new.self c.mark_failure.new.self c.look_up-found.result c.look_up-found.ensures.step.part.notes (c.look_up-found.ensures.step.part.stays.failed ∙ c.begin_call.ensures.stays.failed) c.mark_failure.ensures.marks c.mark_failure.ensures.rest (Err c.in_err-kind.field-0.0) (λ memory. sym c.mark_failure.ensures.answer ∙ c.in_err-kind.was ∙ err_as c.in_err-kind.field-0.0 Memory memory));
  header_cluster = behind_call g.S.Storage.view c.begin_call.ensures.begun c.look_up-found.ensures.step.part.header_cluster c.mark_failure.ensures.rest;
  quiet = reads_call g.S.Storage.view c.args.self.now c.begin_call.new.self c.look_up-found.new.self c.mark_failure.new.self _ c.begin_call.ensures.begun c.look_up-found.ensures.step.quiet c.mark_failure.ensures.rest;
}

pub returns-in_err-check_usable-clause-step : goal.returns-in_err-check_usable-clause-step
returns-in_err-check_usable-clause-step g c = record { image = search rules; header = search rules; marks = search rules; once_written = fails_none g.S.Storage.view c.args.self.now _; header_cluster = search rules; faults = search rules; quiet = search rules }

pub returns-clause-step : goal.returns-clause-step
returns-clause-step g c = record {
  image = search rules;
  header = search rules;
  marks = search rules;
  faults = search rules;
  once_written = answered_once g.S.Storage.view c.args.self.now c.begin_call.new.self c.begin_call.ensures.begun c.look_up-found.new.self c.mark_failure.new.self c.look_up-found.ensures.step.part.notes c.mark_failure.ensures.rest _;
  header_cluster = behind_call g.S.Storage.view c.begin_call.ensures.begun c.look_up-found.ensures.step.part.header_cluster c.mark_failure.ensures.rest;
  quiet = reads_call g.S.Storage.view c.args.self.now c.begin_call.new.self c.look_up-found.new.self c.mark_failure.new.self _ c.begin_call.ensures.begun c.look_up-found.ensures.step.quiet c.mark_failure.ensures.rest;
}

pub returns-in_err-check_usable-clause-refusals : goal.returns-in_err-check_usable-clause-refusals
returns-in_err-check_usable-clause-refusals g c = record { early = search rules; past = search rules; late = search rules }

pub returns-in_err-kind-clause-refusals : goal.returns-in_err-kind-clause-refusals
returns-in_err-kind-clause-refusals g c =
    let old = c.args.self.now in
    let begun = c.begin_call.new.self in
    let mid = c.look_up-found.new.self in
    let last = c.mark_failure.new.self in
    let e = c.in_err-kind.field-0.0 in
    record {
      early = search rules;
      past = search rules;
      late = λ usable. hands_met (MayFailFinding old last c.args.offset c.args.max) c.from_residual-in_err-kind.result e c.from_residual-in_err-kind.ensures
          (finding_call old begun mid last _ c.begin_call.ensures.begun c.mark_failure.ensures.rest c.args.offset c.args.max e (subst (λ r. IfErr r (MayFailFinding begun mid c.args.offset c.args.max)) (sym c.mark_failure.ensures.answer ∙ c.in_err-kind.was) c.look_up-found.ensures.fails.cause));
    }

pub returns-clause-refusals : goal.returns-clause-refusals
returns-clause-refusals g c = record { early = search rules; past = search rules; late = search rules }

pub returns-clause-found : goal.returns-clause-found
returns-clause-found g c =
    let done : c.look_up-found.result ≡ Ok (c.in_ok-kind.kind, c.in_ok-kind.length) = sym c.mark_failure.ensures.answer ∙ c.in_ok-kind.was in
    record {
      own = search rules;
      within = search rules;
      some = search rules;
      past = λ past. let size = c.begin_call.ensures.stays.image.size in
          let none : c.look_up-found.result ≡ Ok (Eof, 0) = c.look_up-found.ensures.past (omega (arith, past, size)) in
          same_found c.in_ok-kind.kind Eof c.in_ok-kind.length 0 (sym done ∙ none);
      whole = (subst (λ (r : Result _ _). IfOk r (λ x. IsKindIn c.look_up-found.new.self c.args.offset x.0)) done c.look_up-found.ensures.kind).whole;
    }

pub returns-clause-quiet : goal.returns-clause-quiet
returns-clause-quiet g c = looks_call g.S.Storage.view c.args.offset c.args.self.now c.begin_call.new.self c.look_up-found.new.self c.mark_failure.new.self _ c.begin_call.ensures.begun c.look_up-found.ensures.looks.quiet c.mark_failure.ensures.rest

pub returns-in_err-kind-clause-quiet : goal.returns-in_err-kind-clause-quiet
returns-in_err-kind-clause-quiet g c = looks_call g.S.Storage.view c.args.offset c.args.self.now c.begin_call.new.self c.look_up-found.new.self c.mark_failure.new.self _ c.begin_call.ensures.begun c.look_up-found.ensures.looks.quiet c.mark_failure.ensures.rest

pub returns-in_err-check_usable-clause-quiet : goal.returns-in_err-check_usable-clause-quiet
returns-in_err-check_usable-clause-quiet g c = looks_none g.S.Storage.view c.args.offset c.args.self.now
