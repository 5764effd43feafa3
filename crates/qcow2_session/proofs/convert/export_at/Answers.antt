use Rattle.std.proofs.Common.{◌≡◌, ◌+◌, ◌∙◌, inl, length, sym, subst, arith, refl, rules, IfErr}
use Rattle.qcow2_session.proofs.Common.{common_steps, overwritten, of_storage, guest_of, refusal_of, abstract_of, fault_of_storage, known_in, MayFailReadingRange, IsFilledUpTo}
use Rattle.qcow2_session.proofs.Lemmas.{interrupted, interrupted_here, converted, converting_image, converting_raw, so_far_call, so_far_none, filled_same, filled_more, unchanged_refused, refused_is, does_if}
use Rattle.qcow2_session.proofs.convert.export_at.Goals as goal

pub returns-then-is_same-clause-sees : goal.returns-then-is_same-clause-sees
returns-then-is_same-clause-sees g c = λ honest out sound size le filled.
    let shows = (c.in_ok-read_into.ensures.sees out).answer sound in
    filled_same (guest_of (abstract_of g.S.Storage.view g.F.BackingDisk.backing c.args.image.now out)).disk size c.args.at (length c.args.bytes.now) (g.R.Storage.view c.args.raw.now).contents c.read_into.new.bytes filled shows.1.0 (c.is_same.ensures.0 c.if-is_same.true ∙ c.requires)

pub returns-clause-sees : goal.returns-clause-sees
returns-clause-sees g c = λ honest out sound size le filled.
    let shows = (c.in_ok-read_into.ensures.sees out).answer sound in
    let d = (guest_of (abstract_of g.S.Storage.view g.F.BackingDisk.backing c.args.image.now out)).disk in
    let long : length c.read_into.new.bytes ≡ length c.args.bytes.now = grind (arith, common_steps) in
    subst (λ b. IsFilledUpTo d size (c.args.at + length c.args.bytes.now) b) (sym (c.in_ok-write.ensures.written honest))
    (subst (λ n. IsFilledUpTo d size (c.args.at + n) (overwritten (g.R.Storage.view c.args.raw.now).contents c.args.at c.read_into.new.bytes)) long
    (filled_more d size c.args.at (g.R.Storage.view c.args.raw.now).contents c.read_into.new.bytes filled shows.1.0 (omega (arith, le, long))))

pub returns-in_err-read_into-clause-may_fail : goal.returns-in_err-read_into-clause-may_fail
returns-in_err-read_into-clause-may_fail g c = λ none out sound.
    subst (λ r. IfErr r (MayFailReadingRange out c.args.at (c.args.at + length c.args.bytes.now) c.args.image.now.file.header.fields (known_in g.S.Storage.view c.args.image.now.file))) (sym (refused_is _ c.in_err-read_into.field-0.0 c.from_residual.ensures)) (c.in_err-read_into.ensures.fails.may_fail none out sound)

pub returns-in_err-write-clause-may_fail : goal.returns-in_err-write-clause-may_fail
returns-in_err-write-clause-may_fail g c = λ none out sound.
    subst (λ r. IfErr r (MayFailReadingRange out c.args.at (c.args.at + length c.args.bytes.now) c.args.image.now.file.header.fields (known_in g.S.Storage.view c.args.image.now.file))) (sym (refused_is _ (of_storage c.in_err-write.field-0.0) c.from_residual-in_err-write.ensures)) (inl (inl (fault_of_storage c.in_err-write.field-0.0)))

pub returns-in_err-read_into-clause-step : goal.returns-in_err-read_into-clause-step
returns-in_err-read_into-clause-step g c = record {
  image = search rules;
  honest = search rules;
  header_cluster = search rules;
  same = unchanged_refused g.S.Storage.view g.F.BackingDisk.backing c.args.image.now c.read_into.new.image c.in_err-read_into.field-0.0 _ (refused_is _ c.in_err-read_into.field-0.0 c.from_residual.ensures) (λ out. interrupted (c.in_err-read_into.ensures.sees out));
  faults = converting_image g.S.Storage.view g.F.BackingDisk.backing c.args.image.now c.args.image.now c.read_into.new.image (g.R.Storage.view c.args.raw.now).faults (g.R.Storage.view c.args.raw.now).faults (so_far_none g.S.Storage.view g.F.BackingDisk.backing c.args.image.now) refl
      c.read_into.result c.in_err-read_into.field-0.0 _ c.read_into.ensures.step.faults c.in_err-read_into.ensures.step.marks c.in_err-read_into.was (refused_is _ c.in_err-read_into.field-0.0 c.from_residual.ensures);
  quiet = c.read_into.ensures.step.quiet;
}

pub returns-then-is_same-clause-step : goal.returns-then-is_same-clause-step
returns-then-is_same-clause-step g c = record {
  image = search rules;
  honest = search rules;
  header_cluster = search rules;
  same = λ out. does_if (λ h. h.1) (c.in_ok-read_into.ensures.sees out);
  faults = converted _ _ _ _ _ _ _ (so_far_call g.S.Storage.view g.F.BackingDisk.backing c.args.image.now c.read_into.new.image c.in_ok-read_into.ensures.step.faults.told c.in_ok-read_into.ensures.step.marks) (refl);
  quiet = c.read_into.ensures.step.quiet;
}

pub returns-in_err-write-clause-step : goal.returns-in_err-write-clause-step
returns-in_err-write-clause-step g c = record {
  image = search rules;
  honest = search rules;
  header_cluster = search rules;
  same = let e = of_storage c.in_err-write.field-0.0 in
      unchanged_refused g.S.Storage.view g.F.BackingDisk.backing c.args.image.now c.read_into.new.image e _ (refused_is _ e c.from_residual-in_err-write.ensures)
      (λ out. interrupted_here (refusal_of e) (does_if (λ h. h.1) (c.in_ok-read_into.ensures.sees out)));
  faults = converting_raw g.S.Storage.view g.F.BackingDisk.backing c.args.image.now c.read_into.new.image (g.R.Storage.view c.args.raw.now).faults (g.R.Storage.view c.args.raw.now).faults (g.R.Storage.view c.write.new.self).faults (so_far_call g.S.Storage.view g.F.BackingDisk.backing c.args.image.now c.read_into.new.image c.in_ok-read_into.ensures.step.faults.told c.in_ok-read_into.ensures.step.marks) refl
      c.write.result c.in_err-write.field-0.0 _ c.write.ensures.calls.cause c.in_err-write.was (refused_is _ (of_storage c.in_err-write.field-0.0) c.from_residual-in_err-write.ensures);
  quiet = c.read_into.ensures.step.quiet;
}

pub returns-clause-step : goal.returns-clause-step
returns-clause-step g c = record {
  image = search rules;
  honest = search rules;
  header_cluster = search rules;
  same = λ out. does_if (λ h. h.1) (c.in_ok-read_into.ensures.sees out);
  faults = converted _ _ _ _ _ _ _ (so_far_call g.S.Storage.view g.F.BackingDisk.backing c.args.image.now c.read_into.new.image c.in_ok-read_into.ensures.step.faults.told c.in_ok-read_into.ensures.step.marks) (c.in_ok-write.ensures.calls.cause.told);
  quiet = c.read_into.ensures.step.quiet;
}
