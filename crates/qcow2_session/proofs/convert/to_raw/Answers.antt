use Rattle.qcow2_session.proofs.Common.{inl, arith, sym, subst, refl, ◌∙◌, rules, of_storage, Memory, refusal_of, guest_of, abstract_of, IfErr, fault_of_storage, known_in, size_of, MayFailReadingRange, refuses_to_read, behind_none, reads_none}
use Rattle.qcow2_session.proofs.Lemmas.{refused_none, memory_looking, converted, converting_else, converting_part, converting_raw, so_far_none, so_far_part, unchanged_refused, interrupted_here, does_nothing, filled_first, filled_all, refused_is}
use Rattle.qcow2_session.proofs.convert.to_raw.Goals as goal

pub returns-clause-sees : goal.returns-clause-sees
returns-clause-sees g c = λ honest out sound.
    let d = (guest_of (abstract_of g.S.Storage.view g.F.BackingDisk.backing c.args.image.now out)).disk in
    let cut = c.resize.ensures.calls.honest honest in
    filled_all d c.size-size.result (g.R.Storage.view c.export_all.new.raw).contents
    (c.in_ok-export_all.ensures.sees (c.resize-2.ensures.calls.honest cut) out sound c.size-size.result (omega arith)
    (filled_first d (g.R.Storage.view c.args.raw.now).contents (g.R.Storage.view c.resize.new.self).contents (g.R.Storage.view c.resize-2.new.self).contents c.size-size.result (c.in_ok-resize.ensures.resized honest) (c.in_ok-resize-2.ensures.resized cut)))
    (c.size-size.ensures.sees out sound)

pub returns-in_err-check_read-clause-may_fail : goal.returns-in_err-check_read-clause-may_fail
returns-in_err-check_read-clause-may_fail g c = λ none out sound. absurd (refused_none (refuses_to_read c.args.image.now 0 0) c.in_err-check_read.field-0.0 c.in_err-check_read.ensures.refusal none)

pub returns-in_err-zeros-clause-may_fail : goal.returns-in_err-zeros-clause-may_fail
returns-in_err-zeros-clause-may_fail g c = λ none out sound.
    subst (λ r. IfErr r (MayFailReadingRange out 0 (size_of c.args.image.now) c.args.image.now.file.header.fields (known_in g.S.Storage.view c.args.image.now.file))) (sym (refused_is _ Memory c.from_residual-in_err-zeros.ensures)) (inl (memory_looking Memory refl))

pub returns-in_err-bytes-clause-may_fail : goal.returns-in_err-bytes-clause-may_fail
returns-in_err-bytes-clause-may_fail g c = λ none out sound.
    subst (λ r. IfErr r (MayFailReadingRange out 0 (size_of c.args.image.now) c.args.image.now.file.header.fields (known_in g.S.Storage.view c.args.image.now.file))) (sym (refused_is _ Memory c.from_residual-in_err-bytes.ensures)) (inl (memory_looking Memory refl))

pub returns-in_err-resize-clause-may_fail : goal.returns-in_err-resize-clause-may_fail
returns-in_err-resize-clause-may_fail g c = λ none out sound.
    subst (λ r. IfErr r (MayFailReadingRange out 0 (size_of c.args.image.now) c.args.image.now.file.header.fields (known_in g.S.Storage.view c.args.image.now.file))) (sym (refused_is _ (of_storage c.in_err-resize.field-0.0) c.from_residual-in_err-resize.ensures)) (inl (inl (fault_of_storage c.in_err-resize.field-0.0)))

pub returns-in_err-resize-2-clause-may_fail : goal.returns-in_err-resize-2-clause-may_fail
returns-in_err-resize-2-clause-may_fail g c = λ none out sound.
    subst (λ r. IfErr r (MayFailReadingRange out 0 (size_of c.args.image.now) c.args.image.now.file.header.fields (known_in g.S.Storage.view c.args.image.now.file))) (sym (refused_is _ (of_storage c.in_err-resize-2.field-0.0) c.from_residual-in_err-resize-2.ensures)) (inl (inl (fault_of_storage c.in_err-resize-2.field-0.0)))

pub returns-in_err-export_all-clause-may_fail : goal.returns-in_err-export_all-clause-may_fail
returns-in_err-export_all-clause-may_fail g c = λ none out sound.
    let e = c.in_err-export_all.field-0.0 in
    let is = c.size-size.ensures.value in
    subst (λ r. IfErr r (MayFailReadingRange out 0 (size_of c.args.image.now) c.args.image.now.file.header.fields (known_in g.S.Storage.view c.args.image.now.file))) (sym (refused_is _ e c.from_residual-in_err-export_all.ensures))
    (subst (λ n. MayFailReadingRange out 0 n c.args.image.now.file.header.fields (known_in g.S.Storage.view c.args.image.now.file) e) is (c.in_err-export_all.ensures.may_fail none is out sound))

pub returns-in_err-export_all-clause-step : goal.returns-in_err-export_all-clause-step
returns-in_err-export_all-clause-step g c = record {
  image = search rules;
  honest = search rules;
  header_cluster = search rules;
  quiet = search rules;
  same = unchanged_refused g.S.Storage.view g.F.BackingDisk.backing c.args.image.now c.export_all.new.image c.in_err-export_all.field-0.0 _ (refused_is _ c.in_err-export_all.field-0.0 c.from_residual-in_err-export_all.ensures) c.in_err-export_all.ensures.step.same;
  faults = converting_part g.S.Storage.view g.F.BackingDisk.backing c.args.image.now c.args.image.now c.export_all.new.image (g.R.Storage.view c.args.raw.now).faults (g.R.Storage.view c.resize-2.new.self).faults (g.R.Storage.view c.export_all.new.raw).faults (so_far_none g.S.Storage.view g.F.BackingDisk.backing c.args.image.now) (c.in_ok-resize-2.ensures.calls.cause.told ∙ c.in_ok-resize.ensures.calls.cause.told)
      c.export_all.result c.in_err-export_all.field-0.0 _ c.export_all.ensures.step.faults c.in_err-export_all.was (refused_is _ c.in_err-export_all.field-0.0 c.from_residual-in_err-export_all.ensures);
}

pub returns-in_err-check_read-clause-step : goal.returns-in_err-check_read-clause-step
returns-in_err-check_read-clause-step g c = record {
  image = search rules;
  same = search rules;
  honest = search rules;
  quiet = search rules;
  faults = converting_else g.S.Storage.view g.F.BackingDisk.backing c.args.image.now c.args.image.now (g.R.Storage.view c.args.raw.now).faults (g.R.Storage.view c.args.raw.now).faults (so_far_none g.S.Storage.view g.F.BackingDisk.backing c.args.image.now) refl c.in_err-check_read.field-0.0 _ c.in_err-check_read.ensures.faults (refused_is _ c.in_err-check_read.field-0.0 c.from_residual.ensures);
  header_cluster = behind_none;
}

pub returns-in_err-zeros-clause-step : goal.returns-in_err-zeros-clause-step
returns-in_err-zeros-clause-step g c = record {
  image = search rules;
  same = search rules;
  honest = search rules;
  quiet = search rules;
  faults = converting_else g.S.Storage.view g.F.BackingDisk.backing c.args.image.now c.args.image.now (g.R.Storage.view c.args.raw.now).faults (g.R.Storage.view c.args.raw.now).faults (so_far_none g.S.Storage.view g.F.BackingDisk.backing c.args.image.now) refl Memory _ (λ is. absurd cc) (refused_is _ Memory c.from_residual-in_err-zeros.ensures);
  header_cluster = behind_none;
}

pub returns-in_err-bytes-clause-step : goal.returns-in_err-bytes-clause-step
returns-in_err-bytes-clause-step g c = record {
  image = search rules;
  same = unchanged_refused g.S.Storage.view g.F.BackingDisk.backing c.args.image.now c.args.image.now Memory _ (refused_is _ Memory c.from_residual-in_err-bytes.ensures) (λ out. let v = abstract_of g.S.Storage.view g.F.BackingDisk.backing c.args.image.now out in interrupted_here (refusal_of Memory) (does_nothing v));
  honest = search rules;
  quiet = search rules;
  faults = converting_else g.S.Storage.view g.F.BackingDisk.backing c.args.image.now c.args.image.now (g.R.Storage.view c.args.raw.now).faults (g.R.Storage.view c.args.raw.now).faults (so_far_none g.S.Storage.view g.F.BackingDisk.backing c.args.image.now) refl Memory _ (λ is. absurd cc) (refused_is _ Memory c.from_residual-in_err-bytes.ensures);
  header_cluster = behind_none;
}

pub returns-in_err-resize-clause-step : goal.returns-in_err-resize-clause-step
returns-in_err-resize-clause-step g c = record {
  image = search rules;
  same = unchanged_refused g.S.Storage.view g.F.BackingDisk.backing c.args.image.now c.args.image.now (of_storage c.in_err-resize.field-0.0) _ (refused_is _ (of_storage c.in_err-resize.field-0.0) c.from_residual-in_err-resize.ensures) (λ out. let v = abstract_of g.S.Storage.view g.F.BackingDisk.backing c.args.image.now out in interrupted_here (refusal_of (of_storage c.in_err-resize.field-0.0)) (does_nothing v));
  honest = search rules;
  faults = converting_raw g.S.Storage.view g.F.BackingDisk.backing c.args.image.now c.args.image.now (g.R.Storage.view c.args.raw.now).faults (g.R.Storage.view c.args.raw.now).faults (g.R.Storage.view c.resize.new.self).faults (so_far_none g.S.Storage.view g.F.BackingDisk.backing c.args.image.now) refl
      c.resize.result c.in_err-resize.field-0.0 _ c.resize.ensures.calls.cause c.in_err-resize.was (refused_is _ (of_storage c.in_err-resize.field-0.0) c.from_residual-in_err-resize.ensures);
  header_cluster = behind_none;
  quiet = reads_none g.S.Storage.view c.args.image.now;
}

pub returns-in_err-resize-2-clause-step : goal.returns-in_err-resize-2-clause-step
returns-in_err-resize-2-clause-step g c = record {
  image = search rules;
  same = unchanged_refused g.S.Storage.view g.F.BackingDisk.backing c.args.image.now c.args.image.now (of_storage c.in_err-resize-2.field-0.0) _ (refused_is _ (of_storage c.in_err-resize-2.field-0.0) c.from_residual-in_err-resize-2.ensures) (λ out. let v = abstract_of g.S.Storage.view g.F.BackingDisk.backing c.args.image.now out in interrupted_here (refusal_of (of_storage c.in_err-resize-2.field-0.0)) (does_nothing v));
  honest = search rules;
  faults = converting_raw g.S.Storage.view g.F.BackingDisk.backing c.args.image.now c.args.image.now (g.R.Storage.view c.args.raw.now).faults (g.R.Storage.view c.resize.new.self).faults (g.R.Storage.view c.resize-2.new.self).faults (so_far_none g.S.Storage.view g.F.BackingDisk.backing c.args.image.now) c.in_ok-resize.ensures.calls.cause.told
      c.resize-2.result c.in_err-resize-2.field-0.0 _ c.resize-2.ensures.calls.cause c.in_err-resize-2.was (refused_is _ (of_storage c.in_err-resize-2.field-0.0) c.from_residual-in_err-resize-2.ensures);
  header_cluster = behind_none;
  quiet = reads_none g.S.Storage.view c.args.image.now;
}

pub returns-clause-step : goal.returns-clause-step
returns-clause-step g c = record {
  image = search rules;
  same = search rules;
  honest = search rules;
  header_cluster = search rules;
  quiet = search rules;
  faults = converted _ _ _ _ _ _ _ (so_far_part g.S.Storage.view g.F.BackingDisk.backing c.args.image.now c.export_all.new.image _ _ c.in_ok-export_all.ensures.step.faults) (c.in_ok-export_all.ensures.step.faults.told.1 ∙ (c.in_ok-resize-2.ensures.calls.cause.told ∙ c.in_ok-resize.ensures.calls.cause.told));
}
