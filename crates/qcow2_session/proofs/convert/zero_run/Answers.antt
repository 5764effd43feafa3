use Rattle.std.proofs.Common.{◌≡◌, ◌+◌, [], ap, inl, is_some, replicate, rules, sym, subst, arith, IfErr}
use Rattle.qcow2_session.proofs.Common.{known_in, Guest, Shows, Disk, Kind, IsFoundIn, AnswersCall, found_kind, MayFailReadingRange, finding_read, IsOfReading}
use Rattle.qcow2_session.proofs.Lemmas.{mapping_reading, zeros_there, in_parts, parts_answered, parts_handed, refused_at_once, looking_prepared, does_if, does_why, refused_is}
use Rattle.qcow2_session.proofs.convert.zero_run.Goals as goal

pub returns-in_err-mapping-clause-sees : goal.returns-in_err-mapping-clause-sees
returns-in_err-mapping-clause-sees g c =
    subst (λ r. AnswersCall g.S.Storage.view g.F.BackingDisk.backing c.args.image.now c.get_mapping.new.self [] (λ n old new. Shows old.disk c.args.at (replicate n 0) × (new ≡ old)) r)
    (sym (refused_is _ c.in_err-mapping.field-0.0 c.from_residual.ensures)) c.in_err-mapping.ensures.sees

pub returns-in_err-mapping-clause-cause : goal.returns-in_err-mapping-clause-cause
returns-in_err-mapping-clause-cause g c = subst (λ r. IfErr r IsOfReading) (sym (refused_is _ c.in_err-mapping.field-0.0 c.from_residual.ensures))
    (mapping_reading _ _ c.args.image.now c.in_err-mapping.field-0.0 c.in_err-mapping.ensures.refusals.early (λ none. finding_read c.args.image.now c.get_mapping.new.self c.args.at c.args.max c.in_err-mapping.field-0.0 (c.in_err-mapping.ensures.refusals.late none)))

pub returns-in_err-mapping-clause-may_fail : goal.returns-in_err-mapping-clause-may_fail
returns-in_err-mapping-clause-may_fail g c = λ out sound. subst (λ r. IfErr r (MayFailReadingRange out c.args.at (c.args.at + c.args.max) c.args.image.now.file.header.fields (known_in g.S.Storage.view c.args.image.now.file))) (sym (refused_is _ c.in_err-mapping.field-0.0 c.from_residual.ensures))
    (inl (looking_prepared c.args.image.now out c.in_err-mapping.field-0.0 ((c.in_err-mapping.ensures.sound out sound).may_fail)))

pub returns-in_err-mapping-clause-step : goal.returns-in_err-mapping-clause-step
returns-in_err-mapping-clause-step g c = record {
  image = search rules;
  faults = search rules;
  header = search rules;
  header_cluster = search rules;
  marks = parts_handed g.S.Storage.view _ c.in_err-mapping.field-0.0 c.args.image.now c.get_mapping.new.self (refused_is _ c.in_err-mapping.field-0.0 c.from_residual.ensures)
      (in_parts g.S.Storage.view (refused_at_once g.S.Storage.view c.args.image.now c.get_mapping.new.self c.in_err-mapping.field-0.0 c.in_err-mapping.ensures.step.once_written c.in_err-mapping.ensures.step.marks));
  quiet = c.get_mapping.ensures.step.quiet;
}

pub returns-in-Zero-clause-sees : goal.returns-in-Zero-clause-sees
returns-in-Zero-clause-sees g c = λ out.
    let view = g.S.Storage.view in
    let new = c.get_mapping.new.self in
    let n = c.in_ok-mapping.found in
    does_if (λ h. (h.1, h.0)) (does_why
    (λ sound.
    let still = (c.in_ok-mapping.ensures.sees out).answer sound in
    let found = subst (λ (k : Kind). IsFoundIn (known_in view new.file) (is_some new.backing) c.args.at c.args.max k n) (ap found_kind c.in-Zero.is) ((c.in_ok-mapping.ensures.sound out sound).run) in
    subst (λ (d : Disk). Shows d c.args.at (replicate n 0)) (ap (λ (x : Guest). x.disk) still.1) (zeros_there view g.F.BackingDisk.backing new out still.0 c.args.at c.args.max n c.in-Zero.explicit found))
    (c.in_ok-mapping.ensures.sees out))

pub returns-in-Zero-clause-step : goal.returns-in-Zero-clause-step
returns-in-Zero-clause-step g c = record {
  image = search rules;
  faults = search rules;
  header = search rules;
  header_cluster = search rules;
  marks = parts_answered g.S.Storage.view c.args.image.now c.get_mapping.new.self c.in_ok-mapping.ensures.step.marks c.in_ok-mapping.ensures.step.once_written.counts;
  quiet = c.get_mapping.ensures.step.quiet;
}

pub returns-in_default-clause-sees : goal.returns-in_default-clause-sees
returns-in_default-clause-sees g c = λ out. does_if (λ same. (λ i lt. absurd (omega (arith, lt)), same)) (c.in_ok-mapping.ensures.sees out)

pub returns-in_default-clause-step : goal.returns-in_default-clause-step
returns-in_default-clause-step g c = record {
  image = search rules;
  faults = search rules;
  header = search rules;
  header_cluster = search rules;
  marks = parts_answered g.S.Storage.view c.args.image.now c.get_mapping.new.self c.in_ok-mapping.ensures.step.marks c.in_ok-mapping.ensures.step.once_written.counts;
  quiet = c.get_mapping.ensures.step.quiet;
}
