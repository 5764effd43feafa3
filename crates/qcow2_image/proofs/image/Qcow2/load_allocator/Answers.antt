use Rattle.std.proofs.Common.{◌≡◌, Result, true, sym, ap, subst, ◌∙◌, refl}
use Rattle.qcow2_image.proofs.Common.{MatchResult, ImageError, of_storage, contents_in, IsReasonAgainstReftable, ReftableReads, handed_on, if_no_ok, LeavesFile, autoclear_still, HeaderView, without_autoclear, ImageFile}
use Rattle.qcow2_image.proofs.Open.Reading.{against_storage}
use Rattle.qcow2_image.proofs.Open.Left.{file_cleared, file_not_cleared, file_refused, file_then, file_then_refused}
use Rattle.qcow2_image.proofs.Open.Opening.{new_tables_read, new_tables_then, kept_read, stays_then, told_new_tables, kept_then}
use Rattle.qcow2_image.proofs.Open.Clearing.{stays_after, kept_after}
use Rattle.qcow2_metadata.proofs.WrittenHeader.{autoclear_after}
use Rattle.qcow2_image.proofs.Call.BehindHeader.{named_before, stands_still}
use Rattle.qcow2_image.proofs.image.Qcow2.load_allocator.Goals as goal

pub returns-in_err-clear_autoclear-clause-why : goal.returns-in_err-clear_autoclear-clause-why
returns-in_err-clear_autoclear-clause-why g c = λ honest.
    let h = c.args.file.now.header.fields in
    let b = contents_in g.S.Storage.view c.args.file.now in
    handed_on (λ (r : Result _ ImageError). MatchResult r (λ a. ReftableReads h b) (IsReasonAgainstReftable h b)) c.from_residual-in_err-clear_autoclear.result (of_storage c.in_err-clear_autoclear.field-0.0) c.from_residual-in_err-clear_autoclear.ensures
    (against_storage h b c.in_err-clear_autoclear.field-0.0)

pub returns-clause-header_cluster : goal.returns-clause-header_cluster
returns-clause-header_cluster g c = λ are names.
    let cleared = c.in_ok-clear_autoclear.ensures.ok in
    let fields : c.clear_autoclear.new.header.fields ≡ without_autoclear c.args.file.now.header.fields = ap (λ (v : HeaderView). v.fields) cleared ∙ ap (λ (f : ImageFile _). without_autoclear f.header.fields) c.new.ensures.step.rest in
    let before = named_before c.args.file.now.header.fields c.clear_autoclear.new.header.fields fields names in
    (before, stands_still refl (ap (λ (v : HeaderView). v.fields.cluster_bits) cleared) (c.in_ok-allocator.ensures.begins.header_cluster before.reftable are))

pub returns-in_err-allocator-clause-step : goal.returns-in_err-allocator-clause-step
returns-in_err-allocator-clause-step g c = record {
  storage =
      let view = g.S.Storage.view in
      let read = c.new.ensures in
      let e = c.in_err-allocator.field-0.0 in
      handed_on (λ (r : Result _ ImageError). LeavesFile view true c.args.file.now c.new.new.file r) c.from_residual.result e c.from_residual.ensures
      (file_refused view true c.args.file.now c.new.new.file read.step.rest read.step.honest read.step.same read.step.time e);
  caches = ap (λ (f : ImageFile _). f.caches) c.new.ensures.step.rest;
}

pub returns-in_err-clear_autoclear-clause-step : goal.returns-in_err-clear_autoclear-clause-step
returns-in_err-clear_autoclear-clause-step g c = record {
  storage =
      let view = g.S.Storage.view in
      let old = c.args.file.now in
      let file = c.new.new.file in
      let read = c.new.ensures in
      let cleared = c.clear_autoclear.ensures in
      let e = c.in_err-clear_autoclear.field-0.0 in
      let new = record file { storage = c.clear_autoclear.new.self; header = c.clear_autoclear.new.header } in
      handed_on (λ (r : Result _ ImageError). LeavesFile view true old new r) c.from_residual-in_err-clear_autoclear.result (of_storage e) c.from_residual-in_err-clear_autoclear.ensures
      (file_then_refused view true old file read.step.rest read.step.honest read.step.same read.step.time {T = Unit {0}} new (of_storage e) read.fails.no_fewer
      (file_not_cleared view file c.set_write_kind.new.self c.clear_autoclear.new.self c.set_write_kind.ensures.storage c.clear_autoclear.result cleared.calls cleared.written cleared.idle c.clear_autoclear.new.header e c.in_err-clear_autoclear.was));
  caches = ap (λ (f : ImageFile _). f.caches) c.new.ensures.step.rest;
}

pub returns-clause-step : goal.returns-clause-step
returns-clause-step g c = record {
  storage =
      let view = g.S.Storage.view in
      let file = c.new.new.file in
      let read = c.new.ensures in
      let cleared = c.clear_autoclear.ensures in
      let new = record file { storage = c.clear_autoclear.new.self; header = c.clear_autoclear.new.header } in
      let x = c.in_ok-allocator.allocator in
      file_then view true c.args.file.now file read.step.rest read.step.honest read.step.same read.step.time new x x
      (file_cleared view file c.set_write_kind.new.self c.clear_autoclear.new.self c.set_write_kind.ensures.storage c.clear_autoclear.result cleared.calls cleared.written cleared.idle c.clear_autoclear.new.header c.in_ok-clear_autoclear.ensures.ok x _ c.in_ok-clear_autoclear.was);
  caches = ap (λ (f : ImageFile _). f.caches) c.new.ensures.step.rest;
}

pub returns-in_err-allocator-clause-sound : goal.returns-in_err-allocator-clause-sound
returns-in_err-allocator-clause-sound g c = λ p new_tables.
    let view = g.S.Storage.view in (
      kept_read (view c.args.file.now.storage.storage) (view c.new.new.file.storage.storage) c.new.ensures.step.time (c.new.ensures.step.same new_tables.sound.honest),
      if_no_ok _ c.from_residual.result c.in_err-allocator.field-0.0 c.from_residual.ensures,
    )

pub returns-in_err-clear_autoclear-clause-sound : goal.returns-in_err-clear_autoclear-clause-sound
returns-in_err-clear_autoclear-clause-sound g c = λ p new_tables.
    let view = g.S.Storage.view in
    let below = g.F.BackingDisk.backing in
    let old = c.args.file.now in
    let file = c.new.new.file in
    let cleared = c.clear_autoclear.ensures in
    let told = told_new_tables view below p old file c.set_write_kind.new.self new_tables c.new.ensures.step.rest c.new.ensures.step.honest c.new.ensures.step.same c.new.ensures.step.time c.set_write_kind.ensures.storage in (
      kept_then (view old.storage.storage) (view c.set_write_kind.new.self.storage) (view c.clear_autoclear.new.self.storage) told.1
          (kept_after view below p (record file { storage = c.set_write_kind.new.self }) told.0 c.clear_autoclear.result c.clear_autoclear.new.self cleared.written (λ none. (cleared.idle none).1) cleared.calls (autoclear_after _) (autoclear_still _ _)),
      if_no_ok _ c.from_residual-in_err-clear_autoclear.result (of_storage c.in_err-clear_autoclear.field-0.0) c.from_residual-in_err-clear_autoclear.ensures,
    )

pub returns-clause-sound : goal.returns-clause-sound
returns-clause-sound g c = λ p new_tables.
    let view = g.S.Storage.view in
    let below = g.F.BackingDisk.backing in
    let old = c.args.file.now in
    let file = c.new.new.file in
    let told = record file { storage = c.set_write_kind.new.self } in
    let new = record file { storage = c.clear_autoclear.new.self; header = c.clear_autoclear.new.header } in
    let cleared = c.in_ok-clear_autoclear.ensures in
    let read = new_tables_then view below p old file new_tables c.new.ensures.step.rest c.new.ensures.step.honest c.new.ensures.step.same in
    let same = c.set_write_kind.ensures.storage in
    let first = new_tables_read view below p file c.set_write_kind.new.self read.new_tables (subst (λ s. (view s).is_honest) (sym same) read.new_tables.sound.honest) (ap (λ s. (view s).contents) same) in
    let then = stays_then view below p file told new first
    (stays_after view below p told first.new_tables c.clear_autoclear.new.self c.clear_autoclear.new.header cleared.ok cleared.calls.honest cleared.written (λ none. (cleared.idle none).1) (autoclear_after _) (autoclear_still _ _)) in
    let cleared_since = c.clear_autoclear.ensures in
    let told_since = told_new_tables view below p old file c.set_write_kind.new.self new_tables c.new.ensures.step.rest c.new.ensures.step.honest c.new.ensures.step.same c.new.ensures.step.time c.set_write_kind.ensures.storage in (
      kept_then (view old.storage.storage) (view c.set_write_kind.new.self.storage) (view c.clear_autoclear.new.self.storage) told_since.1
          (kept_after view below p (record file { storage = c.set_write_kind.new.self }) told_since.0 c.clear_autoclear.result c.clear_autoclear.new.self cleared_since.written (λ none. (cleared_since.idle none).1) cleared_since.calls (autoclear_after _) (autoclear_still _ _)),
      (
        stays_then view below p old file new read then,
        record {
          reftable = then.reftable c.in_ok-allocator.allocator.reftable (c.in_ok-allocator.ensures.begins.reftable new_tables.sound.honest);
          hint = λ k passed. absurd (c.in_ok-allocator.ensures.begins.passed k passed);
        },
      ),
    )
