use Rattle.std.proofs.Common.{◌≡◌, ap, subst, sym, ◌∙◌}
use Rattle.std.specs.Prelude.{Err}
use Rattle.qcow2_alloc.specs.declared.error.ImageError.TheVariants.{InvalidOption}
use Rattle.qcow2_image.specs.Created.{IsAllowed, StopsCreating}
use Rattle.qcow2_image.specs.declared.builder.Qcow2CreateBuilder.{Qcow2CreateBuilder}
use Rattle.qimg.specs.Creating.{CreatesOrLeaves, builder_on}
use Rattle.qimg.proofs.program.create.Goals as goal

pub returns-clause-left : goal.returns-clause-left
returns-clause-left g c =
    let view = g.S.Storage.view in
    let sized = c.size.ensures ∙ ap (λ (b : Qcow2CreateBuilder _). record b { size = c.in-Create.size }) c.new.ensures in
    let placed = c.preallocate.ensures ∙ ap (λ (b : Qcow2CreateBuilder _). record b { preallocate = c.in-Create.mode }) sized in
    let clustered = c.cluster_size.ensures ∙ ap (λ (b : Qcow2CreateBuilder _). record b { cluster_size = c.in-Create.cluster }) placed in
    let asked : c.refcount_width.result ≡ builder_on c.args.storage c.in-Create.size c.in-Create.cluster c.in-Create.width c.in-Create.mode = c.refcount_width.ensures ∙ ap (λ (b : Qcow2CreateBuilder _). record b { refcount_width = c.in-Create.width }) clustered in
    subst (CreatesOrLeaves view c.args.storage c.create-storage.result.0) (sym c.in-Create.is) (
      λ no. (subst (λ (b : Qcow2CreateBuilder _). ¬ IsAllowed b → (c.create-storage.result.1 ≡ Err InvalidOption) × (c.create-storage.result.0 ≡ b.image)) asked c.create-storage.ensures.refused no).1,
      subst (λ (b : Qcow2CreateBuilder _). (view b.image).is_honest → StopsCreating b.preallocate b.size (view b.image) (view c.create-storage.result.0)) asked (c.create-storage.ensures.stops (ap (λ (b : Qcow2CreateBuilder _). b.data_file_name) asked, ap (λ (b : Qcow2CreateBuilder _). b.data_file) asked)),
    )
