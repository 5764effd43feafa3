use Rattle.program_parts.proofs.Common.{[], inl, inr, refl, sym, subst, told_opening, IsExport, KeepsDisk, storage_of_image, IsQuiet, quiet_then}
use Rattle.program_parts.proofs.Counted.{both_of, both_since, image_refused}
use Rattle.program_parts.proofs.Imported.{ok_then}
use Rattle.program_parts.proofs.Exported.{keeps_itself, opened_quietly, once_flushed, has_export, keeps_disk}
use Rattle.program_parts.proofs.Refused.{may_be_read, met_disks, met_exporting}
use Rattle.program_parts.proofs.conversions.make_raw_disk.Goals as goal
use Rattle.qcow2_image.specs.ImageInvariant.{in_image}

pub returns-in-Ok-clause-raw : goal.returns-in-Ok-clause-raw
returns-in-Ok-clause-raw g c = λ raw_honest honest consistent.
    let view = g.S.Storage.view in
    let raw = g.R.Storage.view c.to_raw-copied.new.raw in
    once_flushed (IsExport (view c.args.storage).contents) raw.contents (g.R.Storage.view c.flushed-exported.new.raw).contents c.to_raw-copied.result c.flushed-exported.result
    (c.flushed-exported.ensures.same (c.to_raw-copied.ensures.step.honest raw_honest)) c.flushed-exported.ensures.told
    (ok_then c.to_raw-copied.result
    (λ n exports.
    has_export view _ (view c.args.storage) c.in-Ok.image c.to_raw-copied.new.image (c.in-Ok.ensures.opens honest consistent).opened c.in-Ok.ensures.below.0 (c.in-Ok.ensures.step.storage.contents honest).contents
    raw.contents n exports)
    (c.to_raw-copied.ensures.sees raw_honest))

pub returns-in-Ok-clause-image : goal.returns-in-Ok-clause-image
returns-in-Ok-clause-image g c = λ honest consistent.
    let view = g.S.Storage.view in
    subst (λ s. KeepsDisk (view c.args.storage) (view s)) (sym c.into_storage.ensures)
    (keeps_disk view _ (view c.args.storage) c.in-Ok.image c.to_raw-copied.new.image (c.in-Ok.ensures.opens honest consistent).opened c.in-Ok.ensures.below.0 (c.in-Ok.ensures.step.storage.contents honest).contents
    c.to_raw-copied.result c.to_raw-copied.ensures.step.same)

pub returns-in-Err-clause-image : goal.returns-in-Err-clause-image
returns-in-Err-clause-image g c = λ honest consistent. keeps_itself (g.S.Storage.view c.args.storage) (g.S.Storage.view c.in-Err.storage).contents consistent (elim (c.in-Err.ensures.step.storage.contents honest) [ inl stay ↦ stay | inr made ↦ made.2 ])

pub returns-in-Err-clause-faults : goal.returns-in-Err-clause-faults
returns-in-Err-clause-faults g c = image_refused _ _ _ _ _ c.in-Err.e refl refl (told_opening g.S.Storage.view (g.S.Storage.view c.args.storage).faults c.in-Err.storage c.in-Err.e c.in-Err.ensures.step.faults)

pub returns-in-Ok-clause-faults : goal.returns-in-Ok-clause-faults
returns-in-Ok-clause-faults g c =
    let view = g.S.Storage.view in
    c.flushed-exported.ensures.faults (view c.args.storage).faults (view c.into_storage.result).faults (g.R.Storage.view c.args.raw.now).faults
    (both_since _ _ _ _ _ _ _ c.in-Ok.ensures.step.faults.told refl (both_of view _ (λ b. refl) c.in-Ok.image c.to_raw-copied.new.image c.into_storage.result _ _ c.to_raw-copied.result c.in-Ok.ensures.below.1 c.to_raw-copied.ensures.step.image.beside c.to_raw-copied.ensures.step.faults c.into_storage.ensures))

pub returns-in-Ok-clause-quiet : goal.returns-in-Ok-clause-quiet
returns-in-Ok-clause-quiet g c = λ honest.
    let view = g.S.Storage.view in
    let opened = view (storage_of_image c.in-Ok.image) in
    let first = opened_quietly (view c.args.storage) opened (c.in-Ok.ensures.step.storage.honest honest) (c.in-Ok.ensures.step.storage.at_once honest) (c.in-Ok.ensures.step.storage.contents honest).contents in
    subst (λ s. IsQuiet (view c.args.storage) (view s)) (sym c.into_storage.ensures)
    (quiet_then (view c.args.storage) opened (view (storage_of_image c.to_raw-copied.new.image)) first (c.to_raw-copied.ensures.step.quiet.quiet c.in-Ok.ensures.image.unmodified first.honest))

pub returns-in-Err-clause-quiet : goal.returns-in-Err-clause-quiet
returns-in-Err-clause-quiet g c = λ honest.
    opened_quietly (g.S.Storage.view c.args.storage) (g.S.Storage.view c.in-Err.storage) (c.in-Err.ensures.step.storage.honest honest) (c.in-Err.ensures.step.storage.at_once honest) (elim (c.in-Err.ensures.step.storage.contents honest) [ inl stay ↦ stay | inr made ↦ made.2 ])

pub returns-in-Err-clause-unreadable : goal.returns-in-Err-clause-unreadable
returns-in-Err-clause-unreadable g c = λ honest unread. (c.in-Err.ensures.step.cause.1 honest, refl)

pub returns-in-Ok-clause-unreadable : goal.returns-in-Ok-clause-unreadable
returns-in-Ok-clause-unreadable g c = λ honest unread. absurd (unread (c.in-Ok.ensures.step.cause honest))

pub returns-in-Err-clause-cause : goal.returns-in-Err-clause-cause
returns-in-Err-clause-cause g c = λ honest. inl (c.in-Err.ensures.step.cause.1 honest, refl)

pub returns-in-Ok-clause-cause : goal.returns-in-Ok-clause-cause
returns-in-Ok-clause-cause g c = λ honest.
    let view = g.S.Storage.view in
    let contents = (view c.args.storage).contents in
    met_exporting contents c.args.raw.now _ c.to_raw-copied.result c.flushed-exported.result (c.in-Ok.ensures.step.cause honest) c.flushed-exported.ensures.cause c.to_raw-copied.ensures.cause
    (λ consistent.
    let opened = (c.in-Ok.ensures.opens honest consistent).opened in
    met_disks view _ c.in-Ok.image opened contents (c.in-Ok.ensures.step.storage.contents honest).contents c.to_raw-copied.result (c.to_raw-copied.ensures.may_fail (may_be_read view _ c.in-Ok.image opened) (in_image []) opened.sound))

pub returns-in-Ok-clause-another : goal.returns-in-Ok-clause-another
returns-in-Ok-clause-another g c = λ honest needs. absurd (c.in-Ok.ensures.step.another honest needs).0

pub returns-in-Err-clause-another : goal.returns-in-Err-clause-another
returns-in-Err-clause-another g c = λ honest needs. ((c.in-Err.ensures.step.another honest needs).1.0, refl)

pub returns-in-Ok-clause-honest : goal.returns-in-Ok-clause-honest
returns-in-Ok-clause-honest g c = λ honest. c.flushed-exported.ensures.honest (c.to_raw-copied.ensures.step.honest honest)
