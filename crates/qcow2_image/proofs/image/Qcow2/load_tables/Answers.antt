use Rattle.std.proofs.Common.{◌≡◌, ◌∙◌, Bool, Result, Ok, Err, true, false, inl, inr, subst, sym, refl, None, ap}
use Rattle.qcow2_image.proofs.Common.{MatchResult, Allocator, ImageError, contents_in, IsReasonAgainstReftable, ReftableReads, StandsBehindHeader, handed_on, if_no_ok, spared_kept, IsReasonAgainstTables, NeededTablesRead, LeavesFile, ImageFile, LeaveHeaderCluster, TablesBehindHeader, IsL1TableBehind, NamesTablesBehind, HeaderFields}
use Rattle.qcow2_image.proofs.Open.Left.{file_read, file_refused, file_then, file_then_refused}
use Rattle.qcow2_image.proofs.Open.Reading.{so_before}
use Rattle.qcow2_image.proofs.Open.Opening.{new_tables_then, kept_read, kept_then}
use Rattle.qcow2_image.proofs.Call.BehindHeader.{behind_loaded}
use Rattle.qcow2_image.proofs.image.Qcow2.load_tables.Goals as goal

pub returns-in_err-l1_table-clause-why : goal.returns-in_err-l1_table-clause-why
returns-in_err-l1_table-clause-why g c = λ honest.
    let h = c.args.file.now.header.fields in
    let b = contents_in g.S.Storage.view c.args.file.now in
    handed_on (λ (r : Result _ ImageError). MatchResult r (λ t. NeededTablesRead h b c.args.writable) (IsReasonAgainstTables h b c.args.writable)) c.from_residual.result c.in_err-l1_table.field-0.0 c.from_residual.ensures
    (inl (c.in_err-l1_table.ensures.why honest))

pub returns-then-not-writable-clause-why : goal.returns-then-not-writable-clause-why
returns-then-not-writable-clause-why g c = λ honest. record { l1_table = c.in_ok-l1_table.ensures.why honest; reftable = λ so. absurd (let bad : true ≡ false = sym so ∙ c.if-not-writable.true in cc) }

pub returns-in_err-allocator-clause-why : goal.returns-in_err-allocator-clause-why
returns-in_err-allocator-clause-why g c = λ honest.
    let h = c.args.file.now.header.fields in
    let b = contents_in g.S.Storage.view c.args.file.now in
    let l1 = c.load_l1_table.ensures in
    let e = c.in_err-allocator.field-0.0 in
    handed_on (λ (r : Result _ ImageError). MatchResult r (λ t. NeededTablesRead h b c.args.writable) (IsReasonAgainstTables h b c.args.writable)) c.from_residual-in_err-allocator.result e c.from_residual-in_err-allocator.ensures
    (inr (
      c.if-not-writable.false,
      c.in_ok-l1_table.ensures.why honest,
      so_before g.S.Storage.view (λ h b. IsReasonAgainstReftable h b e) c.args.file.now c.load_l1_table.new.file l1.rest (l1.same honest) (c.in_err-allocator.ensures.why (l1.honest honest)),
    ))

pub returns-clause-why : goal.returns-clause-why
returns-clause-why g c = λ honest.
    let l1 = c.load_l1_table.ensures in
    record { l1_table = c.in_ok-l1_table.ensures.why honest; reftable = λ so. so_before g.S.Storage.view ReftableReads c.args.file.now c.load_l1_table.new.file l1.rest (l1.same honest) (c.in_ok-allocator.ensures.why (l1.honest honest)) }

pub returns-then-not-writable-clause-header_cluster : goal.returns-then-not-writable-clause-header_cluster
returns-then-not-writable-clause-header_cluster g c = λ are names.
    let same = c.load_l1_table.ensures.rest in
    let l1 = c.in_ok-l1_table.ensures.header_cluster (subst (λ (f : ImageFile _). NamesTablesBehind f.header.fields) same names) in
    subst (λ (f : ImageFile _). TablesBehindHeader f.header.fields.cluster_bits f.header.fields.cluster_bits c.in_ok-l1_table.l1_table f.caches None) (sym same) (record { header = refl; l1 = l1; caches = are; reftable = tt })

pub returns-clause-header_cluster : goal.returns-clause-header_cluster
returns-clause-header_cluster g c = λ are names.
    let same = c.load_l1_table.ensures.rest in
    let loaded = c.in_ok-allocator.ensures.header_cluster (subst (λ (f : ImageFile _). LeaveHeaderCluster f.header.fields.cluster_bits f.caches) (sym same) are) names in
    let l1 = c.in_ok-l1_table.ensures.header_cluster (subst (λ (f : ImageFile _). NamesTablesBehind f.header.fields) same loaded.0) in
    let as_wide : c.load_allocator.new.file.header.fields.cluster_bits ≡ c.args.file.now.header.fields.cluster_bits =
    ap (λ (h : HeaderFields). h.cluster_bits) c.in_ok-allocator.ensures.format ∙ ap (λ (f : ImageFile _). f.header.fields.cluster_bits) same in
    behind_loaded (subst (λ (a : Allocator). StandsBehindHeader c.load_allocator.new.file.header.fields.cluster_bits a.reftable c.load_allocator.new.file) (sym c.spare_named.ensures.rest) loaded.1) (subst (λ n. IsL1TableBehind n c.in_ok-l1_table.l1_table) (sym as_wide) l1)

pub returns-in_err-l1_table-clause-step : goal.returns-in_err-l1_table-clause-step
returns-in_err-l1_table-clause-step g c = record {
  storage =
      let view = g.S.Storage.view in
      let l1 = c.load_l1_table.ensures in
      let e = c.in_err-l1_table.field-0.0 in
      handed_on (λ (r : Result _ ImageError). LeavesFile view c.args.writable c.args.file.now c.load_l1_table.new.file r) c.from_residual.result e c.from_residual.ensures
      (file_refused view c.args.writable c.args.file.now c.load_l1_table.new.file l1.rest l1.honest l1.same l1.time e);
  caches = ap (λ (f : ImageFile _). f.caches) c.load_l1_table.ensures.rest;
}

pub returns-then-not-writable-clause-step : goal.returns-then-not-writable-clause-step
returns-then-not-writable-clause-step g c = record {
  storage =
      let l1 = c.load_l1_table.ensures in
      file_read g.S.Storage.view c.args.writable c.args.file.now c.load_l1_table.new.file l1.rest l1.honest l1.same l1.time _ c.if-not-writable.true;
  caches = ap (λ (f : ImageFile _). f.caches) c.load_l1_table.ensures.rest;
}

pub returns-in_err-allocator-clause-step : goal.returns-in_err-allocator-clause-step
returns-in_err-allocator-clause-step g c = record {
  storage =
      let view = g.S.Storage.view in
      let old = c.args.file.now in
      let mid = c.load_l1_table.new.file in
      let new = c.load_allocator.new.file in
      let l1 = c.load_l1_table.ensures in
      let e = c.in_err-allocator.field-0.0 in
      handed_on (λ (r : Result _ ImageError). LeavesFile view c.args.writable old new r) c.from_residual-in_err-allocator.result e c.from_residual-in_err-allocator.ensures
      (file_then_refused view c.args.writable old mid l1.rest l1.honest l1.same l1.time new e l1.faults.no_fewer
      (subst (λ (w : Bool). LeavesFile {T = Allocator} view w mid new (Err e)) (sym c.if-not-writable.false) c.in_err-allocator.ensures.step.storage));
  caches = c.load_allocator.ensures.step.caches ∙ ap (λ (f : ImageFile _). f.caches) c.load_l1_table.ensures.rest;
}

pub returns-clause-step : goal.returns-clause-step
returns-clause-step g c = record {
  storage =
      let view = g.S.Storage.view in
      let mid = c.load_l1_table.new.file in
      let new = c.load_allocator.new.file in
      let l1 = c.load_l1_table.ensures in
      let x = c.in_ok-allocator.allocator in
      file_then view c.args.writable c.args.file.now mid l1.rest l1.honest l1.same l1.time new x _
      (subst (λ (w : Bool). LeavesFile view w mid new (Ok x)) (sym c.if-not-writable.false) c.in_ok-allocator.ensures.step.storage);
  caches = c.load_allocator.ensures.step.caches ∙ ap (λ (f : ImageFile _). f.caches) c.load_l1_table.ensures.rest;
}

pub returns-in_err-l1_table-clause-sound : goal.returns-in_err-l1_table-clause-sound
returns-in_err-l1_table-clause-sound g c = λ p new_tables.
    let view = g.S.Storage.view in
    let l1 = c.load_l1_table.ensures in (
      kept_read (view c.args.file.now.storage.storage) (view c.load_l1_table.new.file.storage.storage) l1.time (l1.same new_tables.sound.honest),
      if_no_ok _ c.from_residual.result c.in_err-l1_table.field-0.0 c.from_residual.ensures,
    )

pub returns-then-not-writable-clause-sound : goal.returns-then-not-writable-clause-sound
returns-then-not-writable-clause-sound g c = λ p new_tables.
    let view = g.S.Storage.view in
    let l1 = c.load_l1_table.ensures in
    let read = new_tables_then g.S.Storage.view g.F.BackingDisk.backing p c.args.file.now c.load_l1_table.new.file new_tables l1.rest l1.honest l1.same in (
      kept_read (view c.args.file.now.storage.storage) (view c.load_l1_table.new.file.storage.storage) l1.time (l1.same new_tables.sound.honest),
      record { new_tables = read.new_tables; l1_table = c.in_ok-l1_table.ensures.table new_tables.sound.honest; reftable = tt },
    )

pub returns-in_err-allocator-clause-sound : goal.returns-in_err-allocator-clause-sound
returns-in_err-allocator-clause-sound g c = λ p new_tables.
    let view = g.S.Storage.view in
    let l1 = c.load_l1_table.ensures in
    let old = c.args.file.now in
    let mid = c.load_l1_table.new.file in
    let read = new_tables_then view g.F.BackingDisk.backing p old mid new_tables l1.rest l1.honest l1.same in (
      kept_then (view old.storage.storage) (view mid.storage.storage) (view c.load_allocator.new.file.storage.storage)
          (kept_read (view old.storage.storage) (view mid.storage.storage) l1.time (l1.same new_tables.sound.honest)) ((c.load_allocator.ensures.sound p read.new_tables).0),
      if_no_ok _ c.from_residual-in_err-allocator.result c.in_err-allocator.field-0.0 c.from_residual-in_err-allocator.ensures,
    )

pub returns-clause-sound : goal.returns-clause-sound
returns-clause-sound g c = λ p new_tables.
    let view = g.S.Storage.view in
    let l1 = c.load_l1_table.ensures in
    let old = c.args.file.now in
    let mid = c.load_l1_table.new.file in
    let read = new_tables_then view g.F.BackingDisk.backing p old mid new_tables l1.rest l1.honest l1.same in
    let done = (c.in_ok-allocator.ensures.sound p read.new_tables).1 in (
      kept_then (view old.storage.storage) (view mid.storage.storage) (view c.load_allocator.new.file.storage.storage)
          (kept_read (view old.storage.storage) (view mid.storage.storage) l1.time (l1.same new_tables.sound.honest)) ((c.load_allocator.ensures.sound p read.new_tables).0),
      record { new_tables = done.0.new_tables; l1_table = done.0.l1_table _ (c.in_ok-l1_table.ensures.table new_tables.sound.honest); reftable = spared_kept g.S.Storage.view c.load_allocator.new.file c.in_ok-allocator.allocator c.spare_named.new.self c.spare_named.ensures.rest (c.spare_named.ensures.sound p (record { sound = done.0.new_tables.sound; reftable = done.1.reftable }) (done.0.l1_table _ (c.in_ok-l1_table.ensures.table new_tables.sound.honest)).entries) done.1 },
    )
