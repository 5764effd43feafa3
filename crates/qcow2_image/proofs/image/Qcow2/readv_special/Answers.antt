use Rattle.qcow2_image.proofs.Call.DataFiles.{refused_by}
use Rattle.std.proofs.Common.{◌≡◌, ◌⊎◌, ◌∙◌, inl, inr, [], IfErr, Err, Result, IfSome, length, subst, arith, rules}
use Rattle.qcow2_image.proofs.Common.{unusable, cases_lt, not_compressed, storage, known_in, handed_on, NotCompressed, Memory, MayFailToRead, FailsOnceWritten, err_as, IsCacheHeld, MayFailLooking, MayFailTelling, IsCompressedInTables}
use Rattle.qcow2_alloc.specs.declared.error.ImageError.TheVariants.{Compressed}
use Rattle.qcow2_image.specs.SpecialReads.{ReportsCompressed}
use Rattle.qcow2_image.proofs.Call.Answers.{answers_err}
use Rattle.qcow2_image.proofs.Map.Special.{refuses_after}
use Rattle.qcow2_image.proofs.Lemmas.{sound_is_usable, hands_met, telling_read}
use Rattle.qcow2_image.proofs.image.Qcow2.readv_special.Goals as goal

pub returns-in_err-try_readv_special-clause-sound : goal.returns-in_err-try_readv_special-clause-sound
returns-in_err-try_readv_special-clause-sound g c = λ out sound.
    let old = c.args.self.now in
    let view = g.S.Storage.view in
    record {
      may_fail = hands_met (λ e. MayFailLooking (IsCacheHeld old out) e ⊎ ((e ≡ Compressed) ⊎ (e ≡ NotCompressed c.args.offset))) c.from_residual.result c.in_err-try_readv_special.field-0.0 c.from_residual.ensures
          (elim ((c.in_err-try_readv_special.ensures.sound out sound).may_fail) [ inl may_fail ↦ inl may_fail | inr compressed ↦ inr (inl compressed) ]);
      reports = λ some. handed_on (λ r. IfErr r (ReportsCompressed (known_in view old.file) c.args.offset)) c.from_residual.result c.in_err-try_readv_special.field-0.0 c.from_residual.ensures
          ((c.in_err-try_readv_special.ensures.sound out sound).reports some, λ is. absurd (subst MayFailToRead is (telling_read old c.try_readv_special.new.self c.args.offset 1 c.in_err-try_readv_special.field-0.0 (c.in_err-try_readv_special.ensures.refusals.late (sound_is_usable view g.F.BackingDisk.backing old out sound)))));
    }

pub returns-in-Some-clause-sound : goal.returns-in-Some-clause-sound
returns-in-Some-clause-sound g c = λ out sound.
    record {
      may_fail = let usable = sound_is_usable g.S.Storage.view g.F.BackingDisk.backing c.args.self.now out sound in
          elim (cases_lt 0 (length c.args.bytes.now)) [
            | inl some ↦ inr (inr (let is = c.in_ok-try_readv_special.ensures.some some in cc))
            | inr none ↦ absurd (let no = (c.in_ok-try_readv_special.ensures.refusals.nothing usable (omega (arith, none))).0 in cc)
          ];
      reports = let none : NotCompressed c.in-Some.offset ≡ Compressed → ⊥ = λ is. cc in
          λ some. (λ is. absurd (none is), λ is. (c.in_ok-try_readv_special.ensures.sound out sound).reports some);
    }

pub returns-in_err-try_readv_special-clause-sees : goal.returns-in_err-try_readv_special-clause-sees
returns-in_err-try_readv_special-clause-sees g c =
    answers_err g.S.Storage.view g.F.BackingDisk.backing c.args.self.now c.try_readv_special.new.self [] (λ done was is. is ≡ was) c.from_residual.result c.in_err-try_readv_special.field-0.0 c.from_residual.ensures c.in_err-try_readv_special.ensures.sees

pub returns-in-Some-clause-sees : goal.returns-in-Some-clause-sees
returns-in-Some-clause-sees g c = λ out.
    let none : not_compressed c.in-Some.offset ≡ storage → ⊥ = λ is. cc in
    refuses_after (not_compressed c.in-Some.offset) none (c.in_ok-try_readv_special.ensures.sees out)

pub returns-in_err-try_readv_special-clause-step : goal.returns-in_err-try_readv_special-clause-step
returns-in_err-try_readv_special-clause-step g c = record {
  image = search rules;
  header = search rules;
  marks = search rules;
  header_cluster = search rules;
  faults = search rules;
  quiet = search rules;
  once_written = handed_on (λ r. FailsOnceWritten g.S.Storage.view c.args.self.now c.try_readv_special.new.self r) c.from_residual.result c.in_err-try_readv_special.field-0.0 c.from_residual.ensures
      (record { counts = c.try_readv_special.ensures.step.once_written.counts; memory = λ memory. c.try_readv_special.ensures.step.once_written.memory (c.in_err-try_readv_special.was ∙ err_as c.in_err-try_readv_special.field-0.0 Memory memory) });
}

pub returns-in-None-clause-step : goal.returns-in-None-clause-step
returns-in-None-clause-step g c = record {
  image = search rules;
  header = search rules;
  marks = search rules;
  header_cluster = search rules;
  faults = search rules;
  quiet = search rules;
  once_written = record { counts = c.try_readv_special.ensures.step.once_written.counts; memory = λ bad. absurd (cc) };
}

pub returns-in-Some-clause-step : goal.returns-in-Some-clause-step
returns-in-Some-clause-step g c = record {
  image = search rules;
  header = search rules;
  marks = search rules;
  header_cluster = search rules;
  faults = search rules;
  quiet = search rules;
  once_written = record { counts = c.try_readv_special.ensures.step.once_written.counts; memory = λ bad. absurd (cc) };
}

pub returns-in_err-try_readv_special-clause-refusals : goal.returns-in_err-try_readv_special-clause-refusals
returns-in_err-try_readv_special-clause-refusals g c = record {
  early = let old = c.args.self.now in
      let new = c.try_readv_special.new.self in
      let e = c.in_err-try_readv_special.field-0.0 in
      handed_on (λ (r : Result _ _). IfSome (unusable old) (λ x. (r ≡ Err x) × (new ≡ old))) c.from_residual.result e c.from_residual.ensures (refused_by _ _ old new (unusable old) e c.in_err-try_readv_special.ensures.refusals.early);
  nothing = search rules;
  late = λ usable. hands_met (λ e. MayFailTelling c.args.self.now c.try_readv_special.new.self c.args.offset 1 e ⊎ ((e ≡ NotCompressed c.args.offset) × ¬ IsCompressedInTables c.try_readv_special.new.self c.args.offset)) c.from_residual.result c.in_err-try_readv_special.field-0.0 c.from_residual.ensures (inl (c.in_err-try_readv_special.ensures.refusals.late usable));
}

pub returns-in-None-clause-refusals : goal.returns-in-None-clause-refusals
returns-in-None-clause-refusals g c = record { early = search rules; nothing = search rules; late = search rules }

pub returns-in-Some-clause-refusals : goal.returns-in-Some-clause-refusals
returns-in-Some-clause-refusals g c = record {
  early = search rules;
  nothing = search rules;
  late = λ usable. inr (elim (cases_lt 0 (length c.args.bytes.now)) [
    | inl some ↦ ((let is = c.in_ok-try_readv_special.ensures.some some in cc), c.in_ok-try_readv_special.ensures.plain some)
    | inr none ↦ absurd (let no = (c.in_ok-try_readv_special.ensures.refusals.nothing usable (omega (arith, none))).0 in cc)
  ]);
}
