use Rattle.qcow2_session.proofs.ReadCauses.{from_read}
use Rattle.qcow2_session.proofs.convert.import_at.Goals as goal
use Rattle.std.proofs.Common.{◌≡◌, ◌+◌, ◌∷◌, ◌∙◌, inl, length, [], None, true, false, refl, sym, ap, subst, arith, rules, IfErr}
use Rattle.qcow2_session.proofs.Common.{bytes_at, Setting, refuses_to_read, faults_then, read_met, storage_met, storage_read, storage_unlimited, limited_from, other_limit, fault_of_storage, known_in, MayFailReadingRange, MayFailImporting, IsReasonNotToWrite, common_steps, of_storage, given_of, abstract_of, behind_none, behind_then, written_then}
use Rattle.qcow2_session.proofs.ImportLimits.{reading_unlimited}
use Rattle.qcow2_session.proofs.Reasons.{read_importing, write_importing, write_reason}
use Rattle.qcow2_image.proofs.Preallocate.Pieces.{none_of}
use Rattle.qcow2_session.proofs.Lemmas.{converted, converting_image, converting_raw, fewer_since, image_tells, image_marks, so_far_call, so_far_none, so_far_then, does_nothing, interrupted, interrupted_here, at_refused, at_shown, at_written, at_unwritten, refused_is, quiet_image}
use Rattle.qcow2_session.proofs.Differing.{other_bytes, reading_differs}

pub returns-in_err-read-clause-sees : goal.returns-in_err-read-clause-sees
returns-in_err-read-clause-sees g c = λ honest.
    at_refused g.S.Storage.view g.F.BackingDisk.backing c.args.image.now c.args.image.now c.args.at _ (of_storage c.in_err-read.field-0.0) _ (refused_is _ (of_storage c.in_err-read.field-0.0) c.from_residual.ensures)
    (λ out. interrupted_here _ (does_nothing (abstract_of g.S.Storage.view g.F.BackingDisk.backing c.args.image.now out)))

pub returns-in_err-read_into-clause-sees : goal.returns-in_err-read_into-clause-sees
returns-in_err-read_into-clause-sees g c = λ honest.
    at_refused g.S.Storage.view g.F.BackingDisk.backing c.args.image.now c.read_into.new.image c.args.at _ c.in_err-read_into.field-0.0 _ (refused_is _ c.in_err-read_into.field-0.0 c.from_residual-in_err-read_into.ensures)
    (λ out. interrupted (c.in_err-read_into.ensures.sees out))

pub returns-then-is_same-clause-sees : goal.returns-then-is_same-clause-sees
returns-then-is_same-clause-sees g c = λ honest.
    at_shown g.S.Storage.view g.F.BackingDisk.backing c.args.image.now c.read_into.new.image c.args.at _ c.read_into.new.bytes c.read.new.buf (c.is_same.ensures.0 c.if-is_same.true) (c.in_ok-read.ensures.read honest) c.in_ok-read_into.ensures.sees

pub returns-in-Ok-clause-sees : goal.returns-in-Ok-clause-sees
returns-in-Ok-clause-sees g c = λ honest.
    at_written g.S.Storage.view g.F.BackingDisk.backing c.args.image.now c.write.new.image c.args.at _ c.read_into.new.image c.read_into.new.bytes c.in_ok-read_into.ensures.sees c.read.new.buf (c.in_ok-read.ensures.read honest) c.in-Ok.ensures.sees

pub returns-in-Err-clause-sees : goal.returns-in-Err-clause-sees
returns-in-Err-clause-sees g c = λ honest.
    at_unwritten g.S.Storage.view g.F.BackingDisk.backing c.args.image.now c.write.new.image c.args.at _ c.read_into.new.image c.read_into.new.bytes c.in_ok-read_into.ensures.sees c.read.new.buf (c.in_ok-read.ensures.read honest)
    c.in-Err.refusal _ c.in-Err.ensures.sees (λ out sound. (c.in-Err.ensures.sound out sound).ends)

pub returns-in_err-read-clause-any : goal.returns-in_err-read-clause-any
returns-in_err-read-clause-any g c = (
  c.args.wanted.now,
  refl,
  at_refused g.S.Storage.view g.F.BackingDisk.backing c.args.image.now c.args.image.now c.args.at _ (of_storage c.in_err-read.field-0.0) _ (refused_is _ (of_storage c.in_err-read.field-0.0) c.from_residual.ensures)
      (λ out. interrupted_here _ (does_nothing (abstract_of g.S.Storage.view g.F.BackingDisk.backing c.args.image.now out))),
)

pub returns-in_err-read_into-clause-any : goal.returns-in_err-read_into-clause-any
returns-in_err-read_into-clause-any g c = (
  c.args.wanted.now,
  refl,
  at_refused g.S.Storage.view g.F.BackingDisk.backing c.args.image.now c.read_into.new.image c.args.at _ c.in_err-read_into.field-0.0 _ (refused_is _ c.in_err-read_into.field-0.0 c.from_residual-in_err-read_into.ensures)
      (λ out. interrupted (c.in_err-read_into.ensures.sees out)),
)

pub returns-then-is_same-clause-any : goal.returns-then-is_same-clause-any
returns-then-is_same-clause-any g c = (
  c.read.new.buf,
  grind (arith, common_steps),
  at_shown g.S.Storage.view g.F.BackingDisk.backing c.args.image.now c.read_into.new.image c.args.at _ c.read_into.new.bytes c.read.new.buf (c.is_same.ensures.0 c.if-is_same.true) refl c.in_ok-read_into.ensures.sees,
)

pub returns-in-Ok-clause-any : goal.returns-in-Ok-clause-any
returns-in-Ok-clause-any g c = (
  c.read.new.buf,
  grind (arith, common_steps),
  at_written g.S.Storage.view g.F.BackingDisk.backing c.args.image.now c.write.new.image c.args.at _ c.read_into.new.image c.read_into.new.bytes c.in_ok-read_into.ensures.sees c.read.new.buf refl c.in-Ok.ensures.sees,
)

pub returns-in-Err-clause-any : goal.returns-in-Err-clause-any
returns-in-Err-clause-any g c = (
  c.read.new.buf,
  grind (arith, common_steps),
  at_unwritten g.S.Storage.view g.F.BackingDisk.backing c.args.image.now c.write.new.image c.args.at _ c.read_into.new.image c.read_into.new.bytes c.in_ok-read_into.ensures.sees c.read.new.buf refl
      c.in-Err.refusal _ c.in-Err.ensures.sees (λ out sound. (c.in-Err.ensures.sound out sound).ends),
)

pub returns-in_err-read-clause-late : goal.returns-in_err-read-clause-late
returns-in_err-read-clause-late g c = λ none out sound.
    subst (λ r. IfErr r (IsReasonNotToWrite g.S.Storage.view g.F.BackingDisk.backing c.args.image.now c.args.image.now c.args.at (c.args.at + length c.args.wanted.now) out)) (sym (refused_is _ (of_storage c.in_err-read.field-0.0) c.from_residual.ensures))
    (inl (storage_met _ c.in_err-read.field-0.0, other_limit _ (of_storage c.in_err-read.field-0.0) (storage_unlimited c.in_err-read.field-0.0)))

pub returns-in_err-read_into-clause-late : goal.returns-in_err-read_into-clause-late
returns-in_err-read_into-clause-late g c = λ none out sound.
    let old = c.args.image.now in
    let e = c.in_err-read_into.field-0.0 in
    let free = subst (λ n. refuses_to_read c.args.image.now c.args.at n ≡ None) (sym c.requires) none in
    subst (λ r. IfErr r (IsReasonNotToWrite g.S.Storage.view g.F.BackingDisk.backing c.args.image.now c.read_into.new.image c.args.at (c.args.at + length c.args.wanted.now) out)) (sym (refused_is _ c.in_err-read_into.field-0.0 c.from_residual-in_err-read_into.ensures))
    (inl (read_met e (from_read c.read_into.new.image c.args.at _ e (c.in_err-read_into.ensures.fails.late free).0), other_limit _ e (reading_unlimited out c.args.at _ old.file.header.fields (known_in g.S.Storage.view old.file) e (c.in_err-read_into.ensures.fails.may_fail free out sound))))

pub returns-in-Err-clause-late : goal.returns-in-Err-clause-late
returns-in-Err-clause-late g c = λ none out sound.
    let first = c.in_ok-read_into.ensures.sees out in
    let now = (first.answer sound).0 in
    let long : length c.read.new.buf ≡ length c.args.wanted.now = grind (arith, common_steps) in
    let view = g.S.Storage.view in
    let below = g.F.BackingDisk.backing in
    subst (λ n. IsReasonNotToWrite view below c.args.image.now c.write.new.image c.args.at (c.args.at + n) out c.in-Err.refusal) long
    (write_reason view below c.args.image.now c.read_into.new.image c.write.new.image c.in_ok-read_into.ensures.step.image (ap (λ (x : Setting). x.cluster_size) (first.acts.works sound).setting) c.write.new.image c.args.at (length c.read.new.buf) now.works
    (subst (λ n. refuses_to_read c.args.image.now c.args.at n ≡ None) (sym long) none) out c.in-Err.refusal _ _ c.in-Err.ensures.fails.early c.in-Err.ensures.fails.late (λ free t. (c.in-Err.ensures.sound out now).taken free t)
    (λ free is. (
      given_of c.args.at c.read.new.buf ∷ [],
      limited_from (omega arith) (omega arith) (record { image = c.read_into.ensures.step.image; header_cluster = c.read_into.ensures.step.header_cluster }) now
          (none_of _ _ (given_of c.args.at c.read.new.buf ∷ []) (first.acts.works sound)) ((c.in-Err.ensures.sound out now).limit free is),
    )))

pub returns-in_err-read-clause-may_fail : goal.returns-in_err-read-clause-may_fail
returns-in_err-read-clause-may_fail g c = λ none out sound.
    subst (λ r. IfErr r (MayFailImporting g.S.Storage.view c.args.at (c.args.at + length c.args.wanted.now) c.args.image.now out)) (sym (refused_is _ (of_storage c.in_err-read.field-0.0) c.from_residual.ensures)) (inl (inl (fault_of_storage c.in_err-read.field-0.0)))

pub returns-in_err-read_into-clause-may_fail : goal.returns-in_err-read_into-clause-may_fail
returns-in_err-read_into-clause-may_fail g c = λ none out sound.
    let view = g.S.Storage.view in
    let old = c.args.image.now in
    let at = c.args.at in
    let e = c.in_err-read_into.field-0.0 in
    subst (λ r. IfErr r (MayFailImporting g.S.Storage.view c.args.at (c.args.at + length c.args.wanted.now) c.read_into.new.image out)) (sym (refused_is _ e c.from_residual-in_err-read_into.ensures))
    (read_importing view c.read_into.new.image g.F.BackingDisk.backing old out at (at + length c.args.wanted.now) e sound (c.in_err-read_into.ensures.sees out)
    (subst (λ n. MayFailReadingRange out at (at + n) old.file.header.fields (known_in view old.file) e) c.requires (c.in_err-read_into.ensures.fails.may_fail (subst (λ n. refuses_to_read old at n ≡ None) (sym c.requires) none) out sound)))

pub returns-in-Err-clause-may_fail : goal.returns-in-Err-clause-may_fail
returns-in-Err-clause-may_fail g c = λ none out sound.
    let old = c.args.image.now in
    let at = c.args.at in
    let e = c.in-Err.refusal in
    let now = ((c.in_ok-read_into.ensures.sees out).answer sound).0 in
    let long : length c.read.new.buf ≡ length c.args.wanted.now = grind (arith, common_steps) in
    subst (λ n. MayFailImporting g.S.Storage.view at (at + n) c.write.new.image out e) long
    (write_importing g.S.Storage.view c.write.new.image out old c.read_into.new.image c.in_ok-read_into.ensures.step.image c.write.ensures.step.image.writable at (length c.read.new.buf) now.works
    (subst (λ n. refuses_to_read old at n ≡ None) (sym long) none) e _ _ c.in-Err.ensures.fails.early (λ unrefused. (c.in-Err.ensures.sound out now).may_fail unrefused))

pub returns-in_err-read-clause-differs : goal.returns-in_err-read-clause-differs
returns-in_err-read-clause-differs g c = λ honest.
    reading_differs g.S.Storage.view g.F.BackingDisk.backing c.args.image.now c.args.at (bytes_at (g.R.Storage.view c.args.raw.now).contents c.args.at (length c.args.wanted.now)) (of_storage c.in_err-read.field-0.0) _ (refused_is _ (of_storage c.in_err-read.field-0.0) c.from_residual.ensures) (inl (storage_read c.in_err-read.field-0.0))

pub returns-in_err-read_into-clause-differs : goal.returns-in_err-read_into-clause-differs
returns-in_err-read_into-clause-differs g c = λ honest.
    reading_differs g.S.Storage.view g.F.BackingDisk.backing c.args.image.now c.args.at (bytes_at (g.R.Storage.view c.args.raw.now).contents c.args.at (length c.args.wanted.now)) c.in_err-read_into.field-0.0 _ (refused_is _ c.in_err-read_into.field-0.0 c.from_residual-in_err-read_into.ensures) c.in_err-read_into.ensures.fails.cause

pub returns-in-Err-clause-differs : goal.returns-in-Err-clause-differs
returns-in-Err-clause-differs g c = λ honest.
    let wanted : length c.read.new.buf ≡ length c.args.wanted.now = grind (arith, common_steps) in
    let present : length c.read_into.new.bytes ≡ length c.args.present.now = grind (arith, common_steps) in
    other_bytes g.S.Storage.view g.F.BackingDisk.backing c.args.image.now c.args.at (bytes_at (g.R.Storage.view c.args.raw.now).contents c.args.at (length c.args.wanted.now)) c.read_into.new.image c.read_into.new.bytes c.read.new.buf c.in_ok-read_into.ensures.sees (wanted ∙ sym c.requires ∙ sym present) (c.in_ok-read.ensures.read honest)
    (λ same. let no : true ≡ false = sym (c.is_same.ensures.1 same) ∙ c.if-is_same.false in cc) c.in-Err.refusal

pub returns-in_err-read-clause-step : goal.returns-in_err-read-clause-step
returns-in_err-read-clause-step g c = record {
  image = search rules;
  raw_left = search rules;
  faults = converting_raw g.S.Storage.view g.F.BackingDisk.backing c.args.image.now c.args.image.now (g.R.Storage.view c.args.raw.now).faults (g.R.Storage.view c.args.raw.now).faults (g.R.Storage.view c.read.new.self).faults (so_far_none g.S.Storage.view g.F.BackingDisk.backing c.args.image.now) refl
      c.read.result c.in_err-read.field-0.0 _ c.read.ensures.calls.cause c.in_err-read.was (refused_is _ (of_storage c.in_err-read.field-0.0) c.from_residual.ensures);
  quiet = λ reading. quiet_image g.S.Storage.view c.args.image.now c.args.image.now refl;
  header_cluster = behind_none;
}

pub returns-in_err-read_into-clause-step : goal.returns-in_err-read_into-clause-step
returns-in_err-read_into-clause-step g c = record {
  image = search rules;
  raw_left = search rules;
  header_cluster = search rules;
  faults = converting_image g.S.Storage.view g.F.BackingDisk.backing c.args.image.now c.args.image.now c.read_into.new.image (g.R.Storage.view c.args.raw.now).faults (g.R.Storage.view c.read.new.self).faults (so_far_none g.S.Storage.view g.F.BackingDisk.backing c.args.image.now) c.in_ok-read.ensures.calls.cause.told
      c.read_into.result c.in_err-read_into.field-0.0 _ c.read_into.ensures.step.faults c.in_err-read_into.ensures.step.marks c.in_err-read_into.was (refused_is _ c.in_err-read_into.field-0.0 c.from_residual-in_err-read_into.ensures);
  quiet = λ reading. c.read_into.ensures.step.quiet;
}

pub returns-then-is_same-clause-step : goal.returns-then-is_same-clause-step
returns-then-is_same-clause-step g c = record {
  image = search rules;
  raw_left = search rules;
  header_cluster = search rules;
  faults = converted _ _ _ _ _ _ _ (so_far_call g.S.Storage.view g.F.BackingDisk.backing c.args.image.now c.read_into.new.image c.in_ok-read_into.ensures.step.faults.told c.in_ok-read_into.ensures.step.marks) (c.in_ok-read.ensures.calls.cause.told);
  quiet = λ reading. c.read_into.ensures.step.quiet;
}

pub returns-in-Ok-clause-step : goal.returns-in-Ok-clause-step
returns-in-Ok-clause-step g c = record {
  image = search rules;
  raw_left = search rules;
  faults = converted _ _ _ _ _ _ _ (so_far_then g.S.Storage.view g.F.BackingDisk.backing c.args.image.now c.read_into.new.image c.write.new.image (so_far_call g.S.Storage.view g.F.BackingDisk.backing c.args.image.now c.read_into.new.image c.in_ok-read_into.ensures.step.faults.told c.in_ok-read_into.ensures.step.marks) (so_far_call g.S.Storage.view g.F.BackingDisk.backing c.read_into.new.image c.write.new.image c.in-Ok.ensures.step.faults.2 c.in-Ok.ensures.step.marks)) (c.in_ok-read.ensures.calls.cause.told);
  quiet = λ reading. written_then g.S.Storage.view c.read_into.ensures.step.quiet (c.write.ensures.step.quiet (c.read_into.ensures.step.image.writable ∙ reading));
  header_cluster = behind_then c.read_into.ensures.step.header_cluster c.write.ensures.step.header_cluster;
}

pub returns-in-Err-clause-step : goal.returns-in-Err-clause-step
returns-in-Err-clause-step g c = record {
  image = search rules;
  raw_left = search rules;
  faults = let first = c.in_ok-read_into.ensures.step.faults.told in
      record {
        no_fewer = fewer_since g.S.Storage.view g.F.BackingDisk.backing c.args.image.now c.read_into.new.image c.write.new.image first c.write.ensures.step.faults.0;
        raw = c.read.ensures.calls.cause.no_fewer;
        rose = image_tells g.S.Storage.view g.F.BackingDisk.backing c.args.image.now c.read_into.new.image c.write.new.image (g.R.Storage.view c.args.raw.now).faults (g.R.Storage.view c.read.new.self).faults c.in-Err.refusal first c.in-Err.ensures.step.faults.1 c.in-Err.ensures.step.marks.fails;
        told = λ other. (faults_then g.S.Storage.view g.F.BackingDisk.backing c.args.image.now c.read_into.new.image c.write.new.image first (c.in-Err.ensures.step.faults.2 other), c.in_ok-read.ensures.calls.cause.told);
        marks = image_marks g.S.Storage.view g.F.BackingDisk.backing c.args.image.now c.read_into.new.image c.write.new.image c.in-Err.refusal (so_far_call g.S.Storage.view g.F.BackingDisk.backing c.args.image.now c.read_into.new.image c.in_ok-read_into.ensures.step.faults.told c.in_ok-read_into.ensures.step.marks) c.in-Err.ensures.step.marks;
      };
  quiet = λ reading. written_then g.S.Storage.view c.read_into.ensures.step.quiet (c.write.ensures.step.quiet (c.read_into.ensures.step.image.writable ∙ reading));
  header_cluster = behind_then c.read_into.ensures.step.header_cluster c.write.ensures.step.header_cluster;
}
