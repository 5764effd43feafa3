use Rattle.std.proofs.Common.{◌≡◌, ap, ◌∙◌, refl, sym, subst, IfOk, Ok}
use Rattle.program_parts.proofs.Common.{byte_at, header, new_disk_consistent, Qcow2CreateBuilder, storage_of_image}
use Rattle.program_parts.proofs.Making.{counts_imported, counts_opened, new_image, once_opened}
use Rattle.program_parts.proofs.DiskImages.{disk_made_as, opened_nothing}
use Rattle.program_parts.proofs.Imported.{of_ok, ok_both}
use Rattle.program_parts.proofs.Refused.{asked_so, plain_so}
use Rattle.program_parts.specs.DiskImages.{IsDiskMade}
use Rattle.program_parts.proofs.disk_images.make_disk_image.Goals as goal

pub returns-in-Ok-open_alone-clause-image : goal.returns-in-Ok-open_alone-clause-image
returns-in-Ok-open_alone-clause-image g c = λ honest.
    let view = g.S.Storage.view in
    let seen = g.D.DiskReader.seen in
    let asked = asked_so c.args.storage c.in-Ok.size c.args.layout.cluster c.args.layout.width c.new.result c.size.result c.cluster_size.result c.refcount_width.result c.new.ensures c.size.ensures c.cluster_size.ensures c.refcount_width.ensures in
    let image_is : c.refcount_width.result.image ≡ c.args.storage = ap (λ (b : Qcow2CreateBuilder g.row.S.Denot). b.image) asked in
    let made = of_ok _ c.create-storage.result.1 c.in_default.field-0 c.in_default.is (c.create-storage.ensures.created (plain_so _ _ asked refl refl) (subst (λ s. (view s).is_honest) (sym image_is) honest)) in
    let mode = c.refcount_width.result.preallocate in
    let size = c.refcount_width.result.size in
    let consistent = new_disk_consistent mode size (byte_at (view c.create-storage.result.0).contents) made.new_disk in
    let opened = (c.in-Ok-open_alone.ensures.opens made.honest consistent).opened in
    let alone = c.in-Ok-open_alone.ensures.below.0 in
    let first = new_image mode size _ made.new_disk in
    let since = c.in-Ok-open_alone.ensures.step.since made.honest first.consistent in
    let then = once_opened size (view c.create-storage.result.0) (view (storage_of_image c.in-Ok-open_alone.image)) first since in
    let clusters = made.clusters ∙ ap (λ (b : Qcow2CreateBuilder g.row.S.Denot). b.cluster_size) asked in
    let width = counts_opened size _ _ first since ∙ made.counts ∙ ap (λ (b : Qcow2CreateBuilder g.row.S.Denot). b.refcount_width) asked in
    let nothing = opened_nothing view _ mode size c.in-Ok.size (view c.create-storage.result.0) c.in-Ok-open_alone.image made.new_disk consistent (c.in-Ok-open_alone.ensures.step.since made.honest consistent) opened alone in
    subst (λ s. IfOk c.fill_new-filled.result (λ n. IsDiskMade (seen c.args.disk.now) c.args.layout n (view s))) (sym c.into_storage.ensures)
    (ok_both c.fill_new-filled.result (λ n count fills. disk_made_as view _ c.in-Ok-open_alone.image c.fill_new-filled.new.image n (seen c.args.disk.now) (seen c.byte_count.new.self) c.args.layout (header (byte_at (view c.create-storage.result.0).contents)) (c.in-Ok-open_alone.ensures.image.format made.honest) clusters
    (counts_imported view _ c.in-Ok-open_alone.image c.fill_new-filled.new.image size fills.bytes (Ok n) fills.filled opened then ∙ width) opened alone
    (λ honest. count ∙ c.in-Ok.ensures.size honest) c.in-Ok.ensures.same fills) c.fill_new-filled.ensures.count (c.fill_new-filled.ensures.filled nothing))
