use Rattle.std.proofs.Common.{◌<◌, ◌≡◌, ◌⊎◌, Some, arith, length, refl, subst, sym, ◌∙◌, rules, inl, IfErr}
use Rattle.qcow2_session.proofs.Common.{common_steps, known_in, sound_is_usable, NotCompressed, MayFailTelling, unusable, behind_none, IsCacheHeld, MayFailSpecial, telling_or, IfErr-weaker, IsCompressedInTables}
use Rattle.qcow2_session.proofs.Lemmas.{refused_is, refused_some, at_rest, call_at_once, memory_marks, once_handed, unchecked, unmarked, memory_looking}
use Rattle.qcow2_session.proofs.SpecialReads.{told_specially}
use Rattle.qcow2_session.proofs.special.read_range.Goals as goal

pub returns-clause-reports : goal.returns-clause-reports
returns-clause-reports g c = λ out sound.
    let old = c.args.image.now in
    let usable = sound_is_usable g.S.Storage.view g.F.BackingDisk.backing old out sound in
    let long : length c.deref_mut.result.now ≡ c.args.length = grind (arith, common_steps) in
    told_specially (¬ IsCompressedInTables c.readv_special.new.self c.args.offset) (known_in g.S.Storage.view old.file) c.args.offset c.args.length c.readv_special.result (λ some. c.readv_special.ensures.some (subst (λ n. 0 < n) (sym long) some)) (λ none. (c.readv_special.ensures.refusals.nothing usable (long ∙ none)).0)
    (IfErr-weaker c.readv_special.result _ _ (λ e. telling_or c.args.image.now c.readv_special.new.self c.args.offset 1 e ((e ≡ NotCompressed c.args.offset) × ¬ IsCompressedInTables c.readv_special.new.self c.args.offset)) (c.readv_special.ensures.refusals.late usable)) (λ some. (c.readv_special.ensures.sound out sound).reports (subst (λ n. 0 < n) (sym long) some))

pub returns-clause-late : goal.returns-clause-late
returns-clause-late g c = λ usable.
    let long : length c.deref_mut.result.now ≡ c.args.length = grind (arith, common_steps) in
    refused_some (λ e. MayFailTelling c.args.image.now c.readv_special.new.self c.args.offset 1 e ⊎ ((e ≡ NotCompressed c.args.offset) × ¬ IsCompressedInTables c.readv_special.new.self c.args.offset)) c.args.length c.readv_special.result tt (c.readv_special.ensures.refusals.late usable) (λ none. (c.readv_special.ensures.refusals.nothing usable (long ∙ none)).0)

pub returns-in_err-check_read-clause-may_fail : goal.returns-in_err-check_read-clause-may_fail
returns-in_err-check_read-clause-may_fail g c = λ out sound. absurd (unchecked (unusable c.args.image.now) c.in_err-check_read.field-0.0 c.in_err-check_read.ensures.refusal (sound_is_usable g.S.Storage.view g.F.BackingDisk.backing c.args.image.now out sound))

pub returns-in_err-bytes-clause-may_fail : goal.returns-in_err-bytes-clause-may_fail
returns-in_err-bytes-clause-may_fail g c = λ out sound. subst (λ r. IfErr r (MayFailSpecial (IsCacheHeld c.args.image.now out) c.args.offset)) (sym (refused_is _ c.in_err-bytes.field-0.0 c.from_residual-in_err-bytes.ensures)) (inl (memory_looking c.in_err-bytes.field-0.0 c.in_err-bytes.ensures.cause.0))

pub returns-clause-may_fail : goal.returns-clause-may_fail
returns-clause-may_fail g c = λ out sound. (c.readv_special.ensures.sound out sound).may_fail

pub returns-in_err-bytes-clause-step : goal.returns-in_err-bytes-clause-step
returns-in_err-bytes-clause-step g c = record {
  image = search rules;
  faults = search rules;
  quiet = search rules;
  header_cluster = behind_none;
  marks = once_handed g.S.Storage.view _ c.in_err-bytes.field-0.0 c.args.image.now c.args.image.now (refused_is _ c.in_err-bytes.field-0.0 c.from_residual-in_err-bytes.ensures) (at_rest g.S.Storage.view (Some c.in_err-bytes.field-0.0) c.args.image.now (memory_marks c.in_err-bytes.field-0.0 _ c.in_err-bytes.ensures.cause.0));
}

pub returns-in_err-check_read-clause-step : goal.returns-in_err-check_read-clause-step
returns-in_err-check_read-clause-step g c = record {
  image = search rules;
  faults = search rules;
  quiet = search rules;
  header_cluster = behind_none;
  marks = once_handed g.S.Storage.view _ c.in_err-check_read.field-0.0 c.args.image.now c.args.image.now (refused_is _ c.in_err-check_read.field-0.0 c.from_residual.ensures) (at_rest g.S.Storage.view (Some c.in_err-check_read.field-0.0) c.args.image.now (unmarked c.in_err-check_read.field-0.0 _ _ c.in_err-check_read.ensures.faults refl));
}

pub returns-clause-step : goal.returns-clause-step
returns-clause-step g c = record {
  image = search rules;
  faults = search rules;
  header_cluster = search rules;
  marks = call_at_once g.S.Storage.view c.args.image.now c.readv_special.new.self c.readv_special.result c.readv_special.ensures.step.once_written c.readv_special.ensures.step.marks;
  quiet = c.readv_special.ensures.step.quiet;
}
