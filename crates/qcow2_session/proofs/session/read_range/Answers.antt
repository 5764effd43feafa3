use Rattle.std.proofs.Common.{◌≡◌, ◌<◌, ◌+◌, ◌++◌, refl, ap, ◌∙◌, Err, take, drop, length, sym, subst, arith, Some, rules, inl, inr, IfErr, ℕ}
use Rattle.qcow2_session.proofs.Common.{common_steps, Shows, guest_of, abstract_of, Reads, MayFailReadingFound, ImageError, unusable, IsFoundWhole, further_by, Memory, OutdatedMapping, sound_is_usable, behind_none, IsCacheHeld, MayFailMapped, RefusesHeld}
use Rattle.qcow2_session.proofs.Lemmas.{refused_is, refused_some, does_if, answered_at_once, at_rest, memory_marks, none_answered, once_handed, refused_at_once, unchecked, unmarked, same_error, memory_looking}
use Rattle.qcow2_image.proofs.Map.Held.{heeds_else}
use Rattle.qcow2_alloc.specs.declared.error.ImageError.TheVariants.{Compressed}
use Rattle.qcow2_session.proofs.session.read_range.Goals as goal

pub returns-in_err-read_mapped-clause-sees : goal.returns-in_err-read_mapped-clause-sees
returns-in_err-read_mapped-clause-sees g c =
    subst (λ r. Reads g.S.Storage.view g.F.BackingDisk.backing c.args.image.now c.read_mapped.new.self (c.args.mapping.now.offset + c.args.at) c.args.length r)
    (sym (refused_is _ c.in_err-read_mapped.field-0.0 c.from_residual-in_err-read_mapped.ensures)) c.in_err-read_mapped.ensures.sees

pub returns-clause-sees : goal.returns-clause-sees
returns-clause-sees g c = λ out.
    let whole : take c.in_ok-bytes.bytes.len (c.read_mapped.new.bytes ++ drop (length c.read_mapped.new.bytes) c.in_ok-bytes.bytes.items) ≡ c.read_mapped.new.bytes = grind (arith, common_steps) in
    does_if (λ h. (grind (arith, common_steps), subst (λ b. Shows (guest_of (abstract_of g.S.Storage.view g.F.BackingDisk.backing c.args.image.now out)).disk (c.args.mapping.now.offset + c.args.at) b) (sym whole) h.1, h.0)) (c.in_ok-read_mapped.ensures.sees out)

pub returns-in_err-read_mapped-clause-late : goal.returns-in_err-read_mapped-clause-late
returns-in_err-read_mapped-clause-late g c = λ none.
    let long : length c.deref_mut.result.now ≡ c.args.length = grind (arith, common_steps) in
    let e = c.in_err-read_mapped.field-0.0 in
    let Why : ℕ → ImageError → Type 0 = MayFailReadingFound c.args.image.now c.read_mapped.new.self (c.args.mapping.now.offset + c.args.at) in
    let Held : ℕ → ImageError → Type 0 = RefusesHeld c.args.image.now c.read_mapped.new.self (c.args.mapping.now.offset + c.args.at) (further_by c.args.at c.args.mapping.now.kind) in
    let why = refused_some (Why c.args.length) c.args.length (Err e) tt (subst (λ n. Why n e) long (c.in_err-read_mapped.ensures.refusals.late none)) (λ empty. (c.in_err-read_mapped.ensures.refusals.nothing none (long ∙ empty)).0) in
    let held : Held c.args.length e = subst (λ n. Held n e) long (c.in_err-read_mapped.ensures.held none (subst (λ n. 0 < n) (sym long) why.1)) in
    subst (λ r. IfErr r (λ e. Why c.args.length e × (0 < c.args.length) × Held c.args.length e)) (sym (refused_is _ e c.from_residual-in_err-read_mapped.ensures)) (why.0, why.1, held)

pub returns-in_err-bytes-clause-late : goal.returns-in_err-bytes-clause-late
returns-in_err-bytes-clause-late g c = λ none.
    let e = c.in_err-bytes.field-0.0 in
    let old = c.args.image.now in
    let at = c.args.mapping.now.offset + c.args.at in
    let kind = further_by c.args.at c.args.mapping.now.kind in
    let memory : e ≡ Memory = c.in_err-bytes.ensures.cause.0 in
    subst (λ r. IfErr r (λ e. MayFailReadingFound old old at c.args.length e × (0 < c.args.length) × RefusesHeld old old at kind c.args.length e)) (sym (refused_is _ e c.from_residual-in_err-bytes.ensures)) (
      inl (inl (inr (inr (inl (inr memory))))),
      (let some = c.in_err-bytes.ensures.cause.1 in grind (arith, common_steps)),
      heeds_else old old at kind c.args.length (λ x. x ≡ Memory) e (λ is. let no : OutdatedMapping ≡ Memory = is in absurd cc) (λ is. let no : Compressed ≡ Memory = is in absurd cc) memory,
    )

pub returns-in_err-read_mapped-clause-outdated : goal.returns-in_err-read_mapped-clause-outdated
returns-in_err-read_mapped-clause-outdated g c = λ out sound is.
    let long : length c.deref_mut.result.now ≡ c.args.length = grind (arith, common_steps) in
    subst (λ n. ¬ IsFoundWhole g.S.Storage.view c.args.image.now (c.args.mapping.now.offset + c.args.at) (further_by c.args.at c.args.mapping.now.kind) n) long
    ((c.in_err-read_mapped.ensures.sound out sound).outdated (ap Err (same_error (sym (refused_is _ c.in_err-read_mapped.field-0.0 c.from_residual-in_err-read_mapped.ensures) ∙ is))))

pub returns-clause-mapped : goal.returns-clause-mapped
returns-clause-mapped g c = λ some out sound.
    let long : length c.deref_mut.result.now ≡ c.args.length = grind (arith, common_steps) in
    subst (λ n. IsFoundWhole g.S.Storage.view c.args.image.now (c.args.mapping.now.offset + c.args.at) (further_by c.args.at c.args.mapping.now.kind) n) long
    ((c.in_ok-read_mapped.ensures.sound out sound).mapped (subst (λ n. 0 < n) (sym long) some))

pub returns-in_err-check_read-clause-outdated : goal.returns-in_err-check_read-clause-outdated
returns-in_err-check_read-clause-outdated g c = λ out sound is. absurd (unchecked (unusable c.args.image.now) c.in_err-check_read.field-0.0 c.in_err-check_read.ensures.refusal (sound_is_usable g.S.Storage.view g.F.BackingDisk.backing c.args.image.now out sound))

pub returns-in_err-bytes-clause-outdated : goal.returns-in_err-bytes-clause-outdated
returns-in_err-bytes-clause-outdated g c = λ out sound is. absurd (let no : Memory ≡ OutdatedMapping = sym c.in_err-bytes.ensures.cause.0 ∙ same_error (sym (refused_is _ c.in_err-bytes.field-0.0 c.from_residual-in_err-bytes.ensures) ∙ is) in cc)

pub returns-clause-outdated : goal.returns-clause-outdated
returns-clause-outdated g c = λ out sound is. absurd cc

pub returns-in_err-check_read-clause-mapped : goal.returns-in_err-check_read-clause-mapped
returns-in_err-check_read-clause-mapped g c = λ some out sound. none_answered _ c.in_err-check_read.field-0.0 (IsFoundWhole g.S.Storage.view c.args.image.now (c.args.mapping.now.offset + c.args.at) (further_by c.args.at c.args.mapping.now.kind) c.args.length) (refused_is _ c.in_err-check_read.field-0.0 c.from_residual.ensures)

pub returns-in_err-bytes-clause-mapped : goal.returns-in_err-bytes-clause-mapped
returns-in_err-bytes-clause-mapped g c = λ some out sound. none_answered _ c.in_err-bytes.field-0.0 (IsFoundWhole g.S.Storage.view c.args.image.now (c.args.mapping.now.offset + c.args.at) (further_by c.args.at c.args.mapping.now.kind) c.args.length) (refused_is _ c.in_err-bytes.field-0.0 c.from_residual-in_err-bytes.ensures)

pub returns-in_err-read_mapped-clause-mapped : goal.returns-in_err-read_mapped-clause-mapped
returns-in_err-read_mapped-clause-mapped g c = λ some out sound. none_answered _ c.in_err-read_mapped.field-0.0 (IsFoundWhole g.S.Storage.view c.args.image.now (c.args.mapping.now.offset + c.args.at) (further_by c.args.at c.args.mapping.now.kind) c.args.length) (refused_is _ c.in_err-read_mapped.field-0.0 c.from_residual-in_err-read_mapped.ensures)

pub returns-in_err-check_read-clause-may_fail : goal.returns-in_err-check_read-clause-may_fail
returns-in_err-check_read-clause-may_fail g c = λ none out sound. absurd (unchecked (unusable c.args.image.now) c.in_err-check_read.field-0.0 c.in_err-check_read.ensures.refusal (sound_is_usable g.S.Storage.view g.F.BackingDisk.backing c.args.image.now out sound))

pub returns-in_err-bytes-clause-may_fail : goal.returns-in_err-bytes-clause-may_fail
returns-in_err-bytes-clause-may_fail g c = λ none out sound. subst (λ r. IfErr r (MayFailMapped (IsCacheHeld c.args.image.now out) (further_by c.args.at c.args.mapping.now.kind) (IsFoundWhole g.S.Storage.view c.args.image.now (c.args.mapping.now.offset + c.args.at) (further_by c.args.at c.args.mapping.now.kind) c.args.length))) (sym (refused_is _ c.in_err-bytes.field-0.0 c.from_residual-in_err-bytes.ensures)) (inl (inl (memory_looking c.in_err-bytes.field-0.0 c.in_err-bytes.ensures.cause.0)))

pub returns-in_err-read_mapped-clause-may_fail : goal.returns-in_err-read_mapped-clause-may_fail
returns-in_err-read_mapped-clause-may_fail g c = λ none out sound.
    let long : length c.deref_mut.result.now ≡ c.args.length = grind (arith, common_steps) in
    subst (λ r. IfErr r (MayFailMapped (IsCacheHeld c.args.image.now out) (further_by c.args.at c.args.mapping.now.kind) (IsFoundWhole g.S.Storage.view c.args.image.now (c.args.mapping.now.offset + c.args.at) (further_by c.args.at c.args.mapping.now.kind) c.args.length))) (sym (refused_is _ c.in_err-read_mapped.field-0.0 c.from_residual-in_err-read_mapped.ensures)) (rw long at ((c.in_err-read_mapped.ensures.sound out sound).may_fail none))

pub returns-in_err-bytes-clause-step : goal.returns-in_err-bytes-clause-step
returns-in_err-bytes-clause-step g c = record {
  image = search rules;
  faults = search rules;
  quiet = search rules;
  header_cluster = behind_none;
  marks = once_handed g.S.Storage.view _ c.in_err-bytes.field-0.0 c.args.image.now c.args.image.now (refused_is _ c.in_err-bytes.field-0.0 c.from_residual-in_err-bytes.ensures) (at_rest g.S.Storage.view (Some c.in_err-bytes.field-0.0) c.args.image.now (memory_marks c.in_err-bytes.field-0.0 _ c.in_err-bytes.ensures.cause.0));
}

pub returns-in_err-check_read-clause-step : goal.returns-in_err-check_read-clause-step
returns-in_err-check_read-clause-step g c = record {
  image = search rules;
  faults = search rules;
  quiet = search rules;
  header_cluster = behind_none;
  marks = once_handed g.S.Storage.view _ c.in_err-check_read.field-0.0 c.args.image.now c.args.image.now (refused_is _ c.in_err-check_read.field-0.0 c.from_residual.ensures) (at_rest g.S.Storage.view (Some c.in_err-check_read.field-0.0) c.args.image.now (unmarked c.in_err-check_read.field-0.0 _ _ c.in_err-check_read.ensures.faults refl));
}

pub returns-in_err-read_mapped-clause-step : goal.returns-in_err-read_mapped-clause-step
returns-in_err-read_mapped-clause-step g c = record {
  image = search rules;
  faults = search rules;
  header_cluster = search rules;
  marks = once_handed g.S.Storage.view _ c.in_err-read_mapped.field-0.0 c.args.image.now c.read_mapped.new.self (refused_is _ c.in_err-read_mapped.field-0.0 c.from_residual-in_err-read_mapped.ensures) (refused_at_once g.S.Storage.view c.args.image.now c.read_mapped.new.self c.in_err-read_mapped.field-0.0 c.in_err-read_mapped.ensures.step.once_written c.in_err-read_mapped.ensures.step.marks);
  quiet = c.read_mapped.ensures.step.quiet;
}

pub returns-clause-step : goal.returns-clause-step
returns-clause-step g c = record {
  image = search rules;
  faults = search rules;
  header_cluster = search rules;
  marks = answered_at_once g.S.Storage.view c.args.image.now c.read_mapped.new.self c.in_ok-read_mapped.ensures.step.once_written c.in_ok-read_mapped.ensures.step.marks;
  quiet = c.read_mapped.ensures.step.quiet;
}
