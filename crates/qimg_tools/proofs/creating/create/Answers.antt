use Rattle.std.proofs.Common.{◌≡◌, ◌∙◌, ◌<◌, ap, subst, IfErr, IfOk}
use Rattle.qcow2_alloc.specs.Faults.{FaultsReported}
use Rattle.std.specs.Prelude.{Err}
use Rattle.qcow2_alloc.specs.declared.error.ImageError.TheVariants.{Limit}
use Rattle.qcow2_image.specs.Created.{IsAllowed, IsCreated, IsReasonNotToCreate, StopsCreating, allocates_over, longest_disk}
use Rattle.qcow2_image.specs.declared.builder.Qcow2CreateBuilder.{Qcow2CreateBuilder}
use Rattle.qimg_tools.proofs.Layouts.{takes_over_none}
use Rattle.qimg_tools.proofs.creating.create.Goals as goal

pub returns-clause-limit : goal.returns-clause-limit
returns-clause-limit g c =
    subst (λ (b : Qcow2CreateBuilder _). IsAllowed b → longest_disk b.cluster_size < b.size → (c.create.result.1 ≡ Err Limit) × (c.create.result.0 ≡ b.image)) c.laid_out-builder.ensures
    (λ allowed far. c.create.ensures.limit allowed (ap (λ (b : Qcow2CreateBuilder _). allocates_over b) c.laid_out-builder.ensures ∙ takes_over_none c.args.layout.preallocate) far)

pub returns-clause-created : goal.returns-clause-created
returns-clause-created g c =
    let view = g.S.Storage.view in
    let is = c.laid_out-builder.ensures in
    subst (λ (b : Qcow2CreateBuilder _). (view b.image).is_honest → IfOk c.create.result.1 (λ done. IsCreated b (view c.create.result.0))) is (c.create.ensures.created (ap (λ (b : Qcow2CreateBuilder _). b.data_file_name) is, ap (λ (b : Qcow2CreateBuilder _). b.data_file) is))

pub returns-clause-stops : goal.returns-clause-stops
returns-clause-stops g c =
    let view = g.S.Storage.view in
    let is = c.laid_out-builder.ensures in
    subst (λ (b : Qcow2CreateBuilder _). (view b.image).is_honest → StopsCreating b.preallocate b.size (view b.image) (view c.create.result.0)) is (c.create.ensures.stops (ap (λ (b : Qcow2CreateBuilder _). b.data_file_name) is, ap (λ (b : Qcow2CreateBuilder _). b.data_file) is))

pub returns-clause-cause : goal.returns-clause-cause
returns-clause-cause g c =
    let view = g.S.Storage.view in
    let is = c.laid_out-builder.ensures in
    subst (λ (b : Qcow2CreateBuilder _). (view b.image).is_honest → IfErr c.create.result.1 (IsReasonNotToCreate view b c.create.result.0)) is (c.create.ensures.cause (ap (λ (b : Qcow2CreateBuilder _). b.data_file_name) is, ap (λ (b : Qcow2CreateBuilder _). b.data_file) is))

pub returns-clause-faults : goal.returns-clause-faults
returns-clause-faults g c =
    let view = g.S.Storage.view in
    let is = c.laid_out-builder.ensures in
    subst (λ (b : Qcow2CreateBuilder _). FaultsReported (view b.image).faults (view c.create.result.0).faults c.create.result.1) is (c.create.ensures.faults (ap (λ (b : Qcow2CreateBuilder _). b.data_file_name) is, ap (λ (b : Qcow2CreateBuilder _). b.data_file) is))
