use Rattle.std.proofs.Common.{◌++◌, ◌<◌, ◌≡◌, ◌+◌, Some, arith, drop, length, refl, subst, sym, take, rules, inl, IfErr, inr}
use Rattle.qcow2_session.proofs.Common.{Memory, common_steps, Shows, guest_of, abstract_of, Reads, MayFailReadingFrom, refuses_to_read, behind_none, MayFailReadingRange, known_in}
use Rattle.qcow2_session.proofs.Lemmas.{refused_is, does_if, at_rest, in_parts, memory_marks, parts_handed, unmarked, refused_none, memory_looking}
use Rattle.qcow2_session.proofs.session.read.Goals as goal

pub returns-in_err-read_into-clause-sees : goal.returns-in_err-read_into-clause-sees
returns-in_err-read_into-clause-sees g c =
    subst (λ r. Reads g.S.Storage.view g.F.BackingDisk.backing c.args.image.now c.read_into.new.image c.args.offset c.args.length r)
    (sym (refused_is _ c.in_err-read_into.field-0.0 c.from_residual-in_err-read_into.ensures)) c.in_err-read_into.ensures.sees

pub returns-clause-sees : goal.returns-clause-sees
returns-clause-sees g c = λ out.
    let whole : take c.in_ok-bytes.bytes.len (c.read_into.new.bytes ++ drop (length c.read_into.new.bytes) c.in_ok-bytes.bytes.items) ≡ c.read_into.new.bytes = grind (arith, common_steps) in
    does_if (λ h. (grind (arith, common_steps), subst (λ b. Shows (guest_of (abstract_of g.S.Storage.view g.F.BackingDisk.backing c.args.image.now out)).disk c.args.offset b) (sym whole) h.0, h.1)) (c.in_ok-read_into.ensures.sees out)

pub returns-in_err-check_read-clause-fails : goal.returns-in_err-check_read-clause-fails
returns-in_err-check_read-clause-fails g c = record {
  early = search rules;
  late = search rules;
  may_fail = λ none out sound. absurd (refused_none (refuses_to_read c.args.image.now c.args.offset c.args.length) c.in_err-check_read.field-0.0 c.in_err-check_read.ensures.refusal none);
  beyond = search rules;
  cause = search rules;
}

pub returns-in_err-bytes-clause-fails : goal.returns-in_err-bytes-clause-fails
returns-in_err-bytes-clause-fails g c = record {
  early = search rules;
  late = λ none. subst (λ r. IfErr r (λ e. MayFailReadingFrom c.args.image.now c.args.offset (c.args.offset + c.args.length) e × (0 < c.args.length))) (sym (refused_is _ c.in_err-bytes.field-0.0 c.from_residual-in_err-bytes.ensures)) (inl (inr c.in_err-bytes.ensures.cause.0), (let some = c.in_err-bytes.ensures.cause.1 in grind (arith, common_steps)));
  may_fail = λ none out sound. subst (λ r. IfErr r (MayFailReadingRange out c.args.offset (c.args.offset + c.args.length) c.args.image.now.file.header.fields (known_in g.S.Storage.view c.args.image.now.file))) (sym (refused_is _ c.in_err-bytes.field-0.0 c.from_residual-in_err-bytes.ensures)) (inl (memory_looking c.in_err-bytes.field-0.0 c.in_err-bytes.ensures.cause.0));
  beyond = search rules;
  cause = search rules;
}

pub returns-in_err-read_into-clause-fails : goal.returns-in_err-read_into-clause-fails
returns-in_err-read_into-clause-fails g c = record {
  early = search rules;
  late = λ none.
      let long : length c.deref_mut.result.now ≡ c.args.length = grind (arith, common_steps) in
      subst (λ r. IfErr r (λ e. MayFailReadingFrom c.read_into.new.image c.args.offset (c.args.offset + c.args.length) e × (0 < c.args.length))) (sym (refused_is _ c.in_err-read_into.field-0.0 c.from_residual-in_err-read_into.ensures))
      ((rw long at c.in_err-read_into.ensures.fails).late none);
  may_fail = λ none out sound.
      let long : length c.deref_mut.result.now ≡ c.args.length = grind (arith, common_steps) in
      subst (λ r. IfErr r (MayFailReadingRange out c.args.offset (c.args.offset + c.args.length) c.args.image.now.file.header.fields (known_in g.S.Storage.view c.args.image.now.file))) (sym (refused_is _ c.in_err-read_into.field-0.0 c.from_residual-in_err-read_into.ensures))
      ((rw long at c.in_err-read_into.ensures.fails).may_fail none out sound);
  beyond = search rules;
  cause = search rules;
}

pub returns-in_err-bytes-clause-step : goal.returns-in_err-bytes-clause-step
returns-in_err-bytes-clause-step g c = record {
  image = search rules;
  faults = search rules;
  header = search rules;
  quiet = search rules;
  header_cluster = behind_none;
  marks = parts_handed g.S.Storage.view _ c.in_err-bytes.field-0.0 c.args.image.now c.args.image.now (refused_is _ c.in_err-bytes.field-0.0 c.from_residual-in_err-bytes.ensures) (in_parts g.S.Storage.view (at_rest g.S.Storage.view (Some c.in_err-bytes.field-0.0) c.args.image.now (memory_marks c.in_err-bytes.field-0.0 _ c.in_err-bytes.ensures.cause.0)));
}

pub returns-in_err-check_read-clause-step : goal.returns-in_err-check_read-clause-step
returns-in_err-check_read-clause-step g c = record {
  image = search rules;
  faults = search rules;
  header = search rules;
  quiet = search rules;
  header_cluster = behind_none;
  marks = parts_handed g.S.Storage.view _ c.in_err-check_read.field-0.0 c.args.image.now c.args.image.now (refused_is _ c.in_err-check_read.field-0.0 c.from_residual.ensures) (in_parts g.S.Storage.view (at_rest g.S.Storage.view (Some c.in_err-check_read.field-0.0) c.args.image.now (unmarked c.in_err-check_read.field-0.0 _ _ c.in_err-check_read.ensures.faults refl)));
}

pub returns-in_err-read_into-clause-step : goal.returns-in_err-read_into-clause-step
returns-in_err-read_into-clause-step g c = record {
  image = search rules;
  faults = search rules;
  header = search rules;
  header_cluster = search rules;
  quiet = search rules;
  marks = parts_handed g.S.Storage.view _ c.in_err-read_into.field-0.0 c.args.image.now c.read_into.new.image (refused_is _ c.in_err-read_into.field-0.0 c.from_residual-in_err-read_into.ensures) c.in_err-read_into.ensures.step.marks;
}

pub returns-clause-step : goal.returns-clause-step
returns-clause-step g c = record { image = search rules; faults = search rules; header = search rules; header_cluster = search rules; marks = c.in_ok-read_into.ensures.step.marks; quiet = search rules }

pub returns-in_default-clause-step : goal.returns-in_default-clause-step
returns-in_default-clause-step g c = record {
  image = search rules;
  faults = search rules;
  header = search rules;
  header_cluster = search rules;
  quiet = search rules;
  marks = in_parts g.S.Storage.view (at_rest g.S.Storage.view (Some Memory) c.args.image.now (λ failed. failed));
}
