use Rattle.qcow2_session.proofs.convert.to_qcow2.Goals as goal
use Rattle.std.proofs.Common.{◌≡◌, ◌⊎◌, IfErr, inl, inr, refl, sym, ap, ◌∙◌, subst, length, Ok, Err, rules}
use Rattle.qcow2_session.proofs.Common.{freeing_read, HasCause, size_of, refuses_to_read, storage_met, storage_read, freeing_met, fault_unlimited, storage_unlimited, other_limit, fault_of_storage, of_storage, InvalidOption, Memory, DiffersWhereKept, Imports, ImportsAll, MayFailImporting, IsReasonNotToWrite, IsRefusedUnequal, IsOfReading, behind_none, behind_then, written_then}
use Rattle.qcow2_session.proofs.Lemmas.{converted, converting_else, converting_image, converting_part, converting_raw, so_far_call, so_far_none, so_far_part, so_far_then, any_nothing, imports_nothing, imports_unflushed, imports_flushed, refused_none, answered_at_once, in_parts, refused_at_once, refused_is, quiet_image}
use Rattle.qcow2_session.proofs.Differing.{early_reading, option_other, reading_differs, reading_other, size_untold}

pub returns-in_err-size-clause-sees : goal.returns-in_err-size-clause-sees
returns-in_err-size-clause-sees g c = λ honest. imports_nothing g.S.Storage.view g.F.BackingDisk.backing c.args.image.now _ (of_storage c.in_err-size.field-0.0) _ (refused_is _ (of_storage c.in_err-size.field-0.0) c.from_residual-in_err-size.ensures)

pub returns-then-size-clause-sees : goal.returns-then-size-clause-sees
returns-then-size-clause-sees g c = λ honest. imports_nothing g.S.Storage.view g.F.BackingDisk.backing c.args.image.now _ InvalidOption _ refl

pub returns-in_err-wanted-clause-sees : goal.returns-in_err-wanted-clause-sees
returns-in_err-wanted-clause-sees g c = λ honest. imports_nothing g.S.Storage.view g.F.BackingDisk.backing c.args.image.now _ Memory _ (refused_is _ Memory c.from_residual-in_err-wanted.ensures)

pub returns-in_err-present-clause-sees : goal.returns-in_err-present-clause-sees
returns-in_err-present-clause-sees g c = λ honest. imports_nothing g.S.Storage.view g.F.BackingDisk.backing c.args.image.now _ Memory _ (refused_is _ Memory c.from_residual-in_err-present.ensures)

pub returns-in_err-import_all-clause-sees : goal.returns-in_err-import_all-clause-sees
returns-in_err-import_all-clause-sees g c = λ honest.
    let view = g.S.Storage.view in
    let below = g.F.BackingDisk.backing in
    let e = c.in_err-import_all.field-0.0 in
    let left = c.size.ensures.same honest in
    subst (λ r. Imports view below c.args.image.now c.import_all.new.image (g.R.Storage.view c.args.raw.now).contents r) (sym (refused_is _ e c.from_residual-in_err-import_all.ensures))
    (subst (λ b. ImportsAll view below c.args.image.now c.import_all.new.image b (Err e)) left
    (c.in_err-import_all.ensures.sees (c.size.ensures.calls.honest honest) (c.in_ok-size.ensures.size honest ∙ ap length (sym left))))

pub returns-in_err-flush-clause-sees : goal.returns-in_err-flush-clause-sees
returns-in_err-flush-clause-sees g c = λ honest.
    let view = g.S.Storage.view in
    let below = g.F.BackingDisk.backing in
    let left = c.size.ensures.same honest in
    imports_unflushed view below c.args.image.now (g.R.Storage.view c.args.raw.now).contents c.import_all.new.image c.flush.new.self c.in_err-flush.field-0.0 _ (refused_is _ c.in_err-flush.field-0.0 c.from_residual-in_err-flush.ensures)
    (subst (λ b. ImportsAll view below c.args.image.now c.import_all.new.image b (Ok tt)) left
    (c.in_ok-import_all.ensures.sees (c.size.ensures.calls.honest honest) (c.in_ok-size.ensures.size honest ∙ ap length (sym left)))) c.in_err-flush.ensures.sees

pub returns-clause-sees : goal.returns-clause-sees
returns-clause-sees g c = λ honest.
    let view = g.S.Storage.view in
    let below = g.F.BackingDisk.backing in
    let left = c.size.ensures.same honest in
    imports_flushed view below c.args.image.now (g.R.Storage.view c.args.raw.now).contents c.import_all.new.image c.flush.new.self c.in_ok-size.size (c.in_ok-size.ensures.size honest)
    (λ out sound. sym (c.in_ok-size.ensures.size honest) ∙ c.if-size.false ∙ c.size-2.ensures.sees out sound)
    (subst (λ b. ImportsAll view below c.args.image.now c.import_all.new.image b (Ok tt)) left
    (c.in_ok-import_all.ensures.sees (c.size.ensures.calls.honest honest) (c.in_ok-size.ensures.size honest ∙ ap length (sym left)))) c.in_ok-flush.ensures.sees

pub returns-clause-emptied : goal.returns-clause-emptied
returns-clause-emptied g c = λ writable. c.in_ok-flush.ensures.emptied (c.import_all.ensures.step.image.writable ∙ writable)

pub returns-in_err-check_read-clause-any : goal.returns-in_err-check_read-clause-any
returns-in_err-check_read-clause-any g c = any_nothing g.S.Storage.view g.F.BackingDisk.backing c.args.image.now c.in_err-check_read.field-0.0 _ (refused_is _ c.in_err-check_read.field-0.0 c.from_residual.ensures)

pub returns-in_err-size-clause-any : goal.returns-in_err-size-clause-any
returns-in_err-size-clause-any g c = any_nothing g.S.Storage.view g.F.BackingDisk.backing c.args.image.now (of_storage c.in_err-size.field-0.0) _ (refused_is _ (of_storage c.in_err-size.field-0.0) c.from_residual-in_err-size.ensures)

pub returns-in_err-wanted-clause-any : goal.returns-in_err-wanted-clause-any
returns-in_err-wanted-clause-any g c = any_nothing g.S.Storage.view g.F.BackingDisk.backing c.args.image.now Memory _ (refused_is _ Memory c.from_residual-in_err-wanted.ensures)

pub returns-in_err-present-clause-any : goal.returns-in_err-present-clause-any
returns-in_err-present-clause-any g c = any_nothing g.S.Storage.view g.F.BackingDisk.backing c.args.image.now Memory _ (refused_is _ Memory c.from_residual-in_err-present.ensures)

pub returns-then-size-clause-any : goal.returns-then-size-clause-any
returns-then-size-clause-any g c = any_nothing g.S.Storage.view g.F.BackingDisk.backing c.args.image.now InvalidOption _ refl

pub returns-in_err-import_all-clause-any : goal.returns-in_err-import_all-clause-any
returns-in_err-import_all-clause-any g c =
    let any = c.in_err-import_all.ensures.any in (
      any.0,
      any.1 ∙ c.if-size.false ∙ c.size-2.ensures.value,
      subst (λ r. Imports g.S.Storage.view g.F.BackingDisk.backing c.args.image.now c.import_all.new.image any.0 r) (sym (refused_is _ c.in_err-import_all.field-0.0 c.from_residual-in_err-import_all.ensures)) any.2,
    )

pub returns-in_err-flush-clause-any : goal.returns-in_err-flush-clause-any
returns-in_err-flush-clause-any g c =
    let any = c.in_ok-import_all.ensures.any in (
      any.0,
      any.1 ∙ c.if-size.false ∙ c.size-2.ensures.value,
      imports_unflushed g.S.Storage.view g.F.BackingDisk.backing c.args.image.now any.0 c.import_all.new.image c.flush.new.self c.in_err-flush.field-0.0 _ (refused_is _ c.in_err-flush.field-0.0 c.from_residual-in_err-flush.ensures)
          any.2 c.in_err-flush.ensures.sees,
    )

pub returns-clause-any : goal.returns-clause-any
returns-clause-any g c =
    let any = c.in_ok-import_all.ensures.any in (
      any.0,
      any.1 ∙ c.if-size.false ∙ c.size-2.ensures.value,
      imports_flushed g.S.Storage.view g.F.BackingDisk.backing c.args.image.now any.0 c.import_all.new.image c.flush.new.self c.in_ok-size.size (sym any.1)
          (λ out sound. any.1 ∙ c.if-size.false ∙ c.size-2.ensures.sees out sound) any.2 c.in_ok-flush.ensures.sees,
    )

pub returns-in_err-check_read-clause-fails : goal.returns-in_err-check_read-clause-fails
returns-in_err-check_read-clause-fails g c = record {
  early = search rules;
  unequal = search rules;
  option = search rules;
  cause = search rules;
  late = search rules;
  may_fail = λ none out sound. absurd (refused_none (refuses_to_read c.args.image.now 0 0) c.in_err-check_read.field-0.0 c.in_err-check_read.ensures.refusal none);
  differs = λ honest.
      reading_differs g.S.Storage.view g.F.BackingDisk.backing c.args.image.now 0 (g.R.Storage.view c.args.raw.now).contents c.in_err-check_read.field-0.0 _ (refused_is _ c.in_err-check_read.field-0.0 c.from_residual.ensures) (subst (λ r. IfErr r IsOfReading) c.in_err-check_read.was (early_reading c.args.image.now 0 0 c.check_read.result c.check_read.ensures.refusal));
}

pub returns-in_err-size-clause-fails : goal.returns-in_err-size-clause-fails
returns-in_err-size-clause-fails g c = record {
  early = search rules;
  unequal = λ honest differ.
      let before = (g.R.Storage.view c.args.raw.now).faults in
      let now = (g.R.Storage.view c.size.new.self).faults in (
        subst (λ r. IsRefusedUnequal (refuses_to_read c.args.image.now 0 0) before now r) (sym (refused_is _ (of_storage c.in_err-size.field-0.0) c.from_residual-in_err-size.ensures))
            (size_untold (refuses_to_read c.args.image.now 0 0) c.in_err-size.field-0.0 before now (subst (λ r. HasCause before now r) c.in_err-size.was c.size.ensures.calls.cause)),
        refl,
      );
  option = search rules;
  cause = search rules;
  late = λ none out sound. subst (λ r. IfErr r (λ e. (e ≡ InvalidOption) ⊎ IsReasonNotToWrite g.S.Storage.view g.F.BackingDisk.backing c.args.image.now c.args.image.now 0 (size_of c.args.image.now) out e)) (sym (refused_is _ (of_storage c.in_err-size.field-0.0) c.from_residual-in_err-size.ensures)) (inr (inl (storage_met _ c.in_err-size.field-0.0, other_limit _ (of_storage c.in_err-size.field-0.0) (storage_unlimited c.in_err-size.field-0.0))));
  may_fail = λ none out sound.
      subst (λ r. IfErr r (λ e. (e ≡ InvalidOption) ⊎ MayFailImporting g.S.Storage.view 0 (size_of c.args.image.now) c.args.image.now out e)) (sym (refused_is _ (of_storage c.in_err-size.field-0.0) c.from_residual-in_err-size.ensures)) (inr (inl (inl (fault_of_storage c.in_err-size.field-0.0))));
  differs = λ honest.
      reading_differs g.S.Storage.view g.F.BackingDisk.backing c.args.image.now 0 (g.R.Storage.view c.args.raw.now).contents (of_storage c.in_err-size.field-0.0) _ (refused_is _ (of_storage c.in_err-size.field-0.0) c.from_residual-in_err-size.ensures) (inl (storage_read c.in_err-size.field-0.0));
}

pub returns-then-size-clause-fails : goal.returns-then-size-clause-fails
returns-then-size-clause-fails g c = record {
  early = search rules;
  unequal = search rules;
  option = search rules;
  cause = search rules;
  late = λ none out sound. inl refl;
  may_fail = λ none out sound. inl refl;
  differs = λ honest out sound kept shows. option_other kept;
}

pub returns-in_err-wanted-clause-fails : goal.returns-in_err-wanted-clause-fails
returns-in_err-wanted-clause-fails g c = record {
  early = search rules;
  unequal = search rules;
  option = search rules;
  cause = search rules;
  late = λ none out sound. subst (λ r. IfErr r (λ e. (e ≡ InvalidOption) ⊎ IsReasonNotToWrite g.S.Storage.view g.F.BackingDisk.backing c.args.image.now c.args.image.now 0 (size_of c.args.image.now) out e)) (sym (refused_is _ Memory c.from_residual-in_err-wanted.ensures)) (inr (inl (tt, other_limit _ Memory tt)));
  may_fail = λ none out sound. subst (λ r. IfErr r (λ e. (e ≡ InvalidOption) ⊎ MayFailImporting g.S.Storage.view 0 (size_of c.args.image.now) c.args.image.now out e)) (sym (refused_is _ Memory c.from_residual-in_err-wanted.ensures)) (inr (inl (inl (inr refl))));
  differs = λ honest.
      reading_differs g.S.Storage.view g.F.BackingDisk.backing c.args.image.now 0 (g.R.Storage.view c.args.raw.now).contents Memory _ (refused_is _ Memory c.from_residual-in_err-wanted.ensures) (inl tt);
}

pub returns-in_err-present-clause-fails : goal.returns-in_err-present-clause-fails
returns-in_err-present-clause-fails g c = record {
  early = search rules;
  unequal = search rules;
  option = search rules;
  cause = search rules;
  late = λ none out sound. subst (λ r. IfErr r (λ e. (e ≡ InvalidOption) ⊎ IsReasonNotToWrite g.S.Storage.view g.F.BackingDisk.backing c.args.image.now c.args.image.now 0 (size_of c.args.image.now) out e)) (sym (refused_is _ Memory c.from_residual-in_err-present.ensures)) (inr (inl (tt, other_limit _ Memory tt)));
  may_fail = λ none out sound. subst (λ r. IfErr r (λ e. (e ≡ InvalidOption) ⊎ MayFailImporting g.S.Storage.view 0 (size_of c.args.image.now) c.args.image.now out e)) (sym (refused_is _ Memory c.from_residual-in_err-present.ensures)) (inr (inl (inl (inr refl))));
  differs = λ honest.
      reading_differs g.S.Storage.view g.F.BackingDisk.backing c.args.image.now 0 (g.R.Storage.view c.args.raw.now).contents Memory _ (refused_is _ Memory c.from_residual-in_err-present.ensures) (inl tt);
}

pub returns-in_err-import_all-clause-fails : goal.returns-in_err-import_all-clause-fails
returns-in_err-import_all-clause-fails g c = record {
  early = search rules;
  unequal = search rules;
  option = search rules;
  cause = search rules;
  late = λ none out sound.
      let e = c.in_err-import_all.field-0.0 in
      let size_is = c.if-size.false ∙ c.size-2.ensures.value in
      subst (λ r. IfErr r (λ e. (e ≡ InvalidOption) ⊎ IsReasonNotToWrite g.S.Storage.view g.F.BackingDisk.backing c.args.image.now c.import_all.new.image 0 (size_of c.args.image.now) out e)) (sym (refused_is _ e c.from_residual-in_err-import_all.ensures))
      (inr (subst (λ n. IsReasonNotToWrite g.S.Storage.view g.F.BackingDisk.backing c.args.image.now c.import_all.new.image 0 n out e) size_is (c.in_err-import_all.ensures.late none size_is out sound)));
  may_fail = λ none out sound.
      let e = c.in_err-import_all.field-0.0 in
      let is = c.if-size.false ∙ c.size-2.ensures.value in
      subst (λ r. IfErr r (λ e. (e ≡ InvalidOption) ⊎ MayFailImporting g.S.Storage.view 0 (size_of c.args.image.now) c.import_all.new.image out e)) (sym (refused_is _ e c.from_residual-in_err-import_all.ensures))
      (inr (subst (λ n. MayFailImporting g.S.Storage.view 0 n c.import_all.new.image out e) is (c.in_err-import_all.ensures.may_fail none is out sound)));
  differs = λ honest.
      let e = c.in_err-import_all.field-0.0 in
      let left = c.size.ensures.same honest in
      subst (λ r. IfErr r (DiffersWhereKept g.S.Storage.view g.F.BackingDisk.backing c.args.image.now 0 (g.R.Storage.view c.args.raw.now).contents)) (sym (refused_is _ e c.from_residual-in_err-import_all.ensures))
      (subst (λ b. DiffersWhereKept g.S.Storage.view g.F.BackingDisk.backing c.args.image.now 0 b e) left
      (c.in_err-import_all.ensures.differs (c.size.ensures.calls.honest honest) (c.in_ok-size.ensures.size honest ∙ ap length (sym left))));
}

pub returns-in_err-flush-clause-fails : goal.returns-in_err-flush-clause-fails
returns-in_err-flush-clause-fails g c = record {
  early = search rules;
  unequal = search rules;
  option = search rules;
  cause = search rules;
  late = λ none out sound.
      let now = ((c.in_ok-import_all.ensures.any.2 out).answer sound).0 in
      subst (λ r. IfErr r (λ e. (e ≡ InvalidOption) ⊎ IsReasonNotToWrite g.S.Storage.view g.F.BackingDisk.backing c.args.image.now c.flush.new.self 0 (size_of c.args.image.now) out e)) (sym (refused_is _ c.in_err-flush.field-0.0 c.from_residual-in_err-flush.ensures)) (inr (inl (freeing_met _ c.in_err-flush.field-0.0 (c.in_err-flush.ensures.fails.late now.works), other_limit _ c.in_err-flush.field-0.0 (fault_unlimited c.in_err-flush.field-0.0 (c.in_err-flush.ensures.fails.fault out now)))));
  may_fail = λ none out sound.
      let now = ((c.in_ok-import_all.ensures.any.2 out).answer sound).0 in
      subst (λ r. IfErr r (λ e. (e ≡ InvalidOption) ⊎ MayFailImporting g.S.Storage.view 0 (size_of c.args.image.now) c.flush.new.self out e)) (sym (refused_is _ c.in_err-flush.field-0.0 c.from_residual-in_err-flush.ensures)) (inr (inl (inl (c.in_err-flush.ensures.fails.fault out now))));
  differs = λ honest.
      let e = c.in_err-flush.field-0.0 in
      subst (λ r. IfErr r (DiffersWhereKept g.S.Storage.view g.F.BackingDisk.backing c.args.image.now 0 (g.R.Storage.view c.args.raw.now).contents)) (sym (refused_is _ e c.from_residual-in_err-flush.ensures))
      (λ out sound kept shows.
      reading_other e (inl (freeing_read e (c.in_err-flush.ensures.fails.late (((c.in_ok-import_all.ensures.any.2 out).answer sound).0).works))) kept);
}

pub returns-in_err-check_read-clause-step : goal.returns-in_err-check_read-clause-step
returns-in_err-check_read-clause-step g c = record {
  image = search rules;
  raw_left = search rules;
  faults = converting_else g.S.Storage.view g.F.BackingDisk.backing c.args.image.now c.args.image.now (g.R.Storage.view c.args.raw.now).faults (g.R.Storage.view c.args.raw.now).faults (so_far_none g.S.Storage.view g.F.BackingDisk.backing c.args.image.now) refl c.in_err-check_read.field-0.0 _ c.in_err-check_read.ensures.faults (refused_is _ c.in_err-check_read.field-0.0 c.from_residual.ensures);
  quiet = λ reading. quiet_image g.S.Storage.view c.args.image.now c.args.image.now refl;
  header_cluster = behind_none;
}

pub returns-in_err-size-clause-step : goal.returns-in_err-size-clause-step
returns-in_err-size-clause-step g c = record {
  image = search rules;
  raw_left = search rules;
  faults = converting_raw g.S.Storage.view g.F.BackingDisk.backing c.args.image.now c.args.image.now (g.R.Storage.view c.args.raw.now).faults (g.R.Storage.view c.args.raw.now).faults (g.R.Storage.view c.size.new.self).faults (so_far_none g.S.Storage.view g.F.BackingDisk.backing c.args.image.now) refl
      c.size.result c.in_err-size.field-0.0 _ c.size.ensures.calls.cause c.in_err-size.was (refused_is _ (of_storage c.in_err-size.field-0.0) c.from_residual-in_err-size.ensures);
  quiet = λ reading. quiet_image g.S.Storage.view c.args.image.now c.args.image.now refl;
  header_cluster = behind_none;
}

pub returns-then-size-clause-step : goal.returns-then-size-clause-step
returns-then-size-clause-step g c = record {
  image = search rules;
  raw_left = search rules;
  faults = converting_else g.S.Storage.view g.F.BackingDisk.backing c.args.image.now c.args.image.now (g.R.Storage.view c.args.raw.now).faults (g.R.Storage.view c.size.new.self).faults (so_far_none g.S.Storage.view g.F.BackingDisk.backing c.args.image.now) c.in_ok-size.ensures.calls.cause.told InvalidOption _ (λ is. absurd cc) refl;
  quiet = λ reading. quiet_image g.S.Storage.view c.args.image.now c.args.image.now refl;
  header_cluster = behind_none;
}

pub returns-in_err-wanted-clause-step : goal.returns-in_err-wanted-clause-step
returns-in_err-wanted-clause-step g c = record {
  image = search rules;
  raw_left = search rules;
  faults = converting_else g.S.Storage.view g.F.BackingDisk.backing c.args.image.now c.args.image.now (g.R.Storage.view c.args.raw.now).faults (g.R.Storage.view c.size.new.self).faults (so_far_none g.S.Storage.view g.F.BackingDisk.backing c.args.image.now) c.in_ok-size.ensures.calls.cause.told Memory _ (λ is. absurd cc) (refused_is _ Memory c.from_residual-in_err-wanted.ensures);
  quiet = λ reading. quiet_image g.S.Storage.view c.args.image.now c.args.image.now refl;
  header_cluster = behind_none;
}

pub returns-in_err-present-clause-step : goal.returns-in_err-present-clause-step
returns-in_err-present-clause-step g c = record {
  image = search rules;
  raw_left = search rules;
  faults = converting_else g.S.Storage.view g.F.BackingDisk.backing c.args.image.now c.args.image.now (g.R.Storage.view c.args.raw.now).faults (g.R.Storage.view c.size.new.self).faults (so_far_none g.S.Storage.view g.F.BackingDisk.backing c.args.image.now) c.in_ok-size.ensures.calls.cause.told Memory _ (λ is. absurd cc) (refused_is _ Memory c.from_residual-in_err-present.ensures);
  quiet = λ reading. quiet_image g.S.Storage.view c.args.image.now c.args.image.now refl;
  header_cluster = behind_none;
}

pub returns-in_err-import_all-clause-step : goal.returns-in_err-import_all-clause-step
returns-in_err-import_all-clause-step g c = record {
  image = search rules;
  raw_left = search rules;
  header_cluster = search rules;
  faults = converting_part g.S.Storage.view g.F.BackingDisk.backing c.args.image.now c.args.image.now c.import_all.new.image (g.R.Storage.view c.args.raw.now).faults (g.R.Storage.view c.size.new.self).faults (g.R.Storage.view c.import_all.new.raw).faults (so_far_none g.S.Storage.view g.F.BackingDisk.backing c.args.image.now) c.in_ok-size.ensures.calls.cause.told
      c.import_all.result c.in_err-import_all.field-0.0 _ c.import_all.ensures.step.faults c.in_err-import_all.was (refused_is _ c.in_err-import_all.field-0.0 c.from_residual-in_err-import_all.ensures);
  quiet = c.import_all.ensures.step.quiet;
}

pub returns-in_err-flush-clause-step : goal.returns-in_err-flush-clause-step
returns-in_err-flush-clause-step g c = record {
  image = search rules;
  raw_left = search rules;
  faults = converting_image g.S.Storage.view g.F.BackingDisk.backing c.args.image.now c.import_all.new.image c.flush.new.self (g.R.Storage.view c.args.raw.now).faults (g.R.Storage.view c.import_all.new.raw).faults (so_far_part g.S.Storage.view g.F.BackingDisk.backing c.args.image.now c.import_all.new.image _ _ c.in_ok-import_all.ensures.step.faults) (c.in_ok-import_all.ensures.step.faults.told.1 ∙ c.in_ok-size.ensures.calls.cause.told)
      c.flush.result c.in_err-flush.field-0.0 _ c.flush.ensures.step.faults (in_parts g.S.Storage.view (refused_at_once g.S.Storage.view c.import_all.new.image c.flush.new.self c.in_err-flush.field-0.0 c.in_err-flush.ensures.step.once_written c.in_err-flush.ensures.step.marks)) c.in_err-flush.was (refused_is _ c.in_err-flush.field-0.0 c.from_residual-in_err-flush.ensures);
  quiet = λ reading. written_then g.S.Storage.view (c.import_all.ensures.step.quiet reading) (c.flush.ensures.quiet (c.import_all.ensures.step.image.writable ∙ reading));
  header_cluster = behind_then c.import_all.ensures.step.header_cluster c.flush.ensures.step.header_cluster;
}

pub returns-clause-step : goal.returns-clause-step
returns-clause-step g c = record {
  image = search rules;
  raw_left = search rules;
  faults = converted _ _ _ _ _ _ _ (so_far_then g.S.Storage.view g.F.BackingDisk.backing c.args.image.now c.import_all.new.image c.flush.new.self (so_far_part g.S.Storage.view g.F.BackingDisk.backing c.args.image.now c.import_all.new.image _ _ c.in_ok-import_all.ensures.step.faults)
      (so_far_call g.S.Storage.view g.F.BackingDisk.backing c.import_all.new.image c.flush.new.self c.in_ok-flush.ensures.step.faults.told (in_parts g.S.Storage.view (answered_at_once g.S.Storage.view c.import_all.new.image c.flush.new.self c.in_ok-flush.ensures.step.once_written c.in_ok-flush.ensures.step.marks))))
      (c.in_ok-import_all.ensures.step.faults.told.1 ∙ c.in_ok-size.ensures.calls.cause.told);
  quiet = λ reading. written_then g.S.Storage.view (c.import_all.ensures.step.quiet reading) (c.flush.ensures.quiet (c.import_all.ensures.step.image.writable ∙ reading));
  header_cluster = behind_then c.import_all.ensures.step.header_cluster c.flush.ensures.step.header_cluster;
}
