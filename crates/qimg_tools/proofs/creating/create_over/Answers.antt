use Rattle.std.proofs.Common.{◌∙◌, ap, subst, IfErr, IfOk, Some}
use Rattle.qcow2_alloc.specs.Faults.{FaultsReported}
use Rattle.qcow2_image.specs.Created.{IsCreated, IsReasonNotToCreate, StopsCreating}
use Rattle.qcow2_image.specs.declared.builder.Qcow2CreateBuilder.{Qcow2CreateBuilder}
use Rattle.qimg_tools.proofs.creating.create_over.Goals as goal

pub returns-clause-created : goal.returns-clause-created
returns-clause-created g c =
    let view = g.S.Storage.view in
    let is = c.backing-builder.ensures ∙ ap (λ (b : Qcow2CreateBuilder _). record b { backing_name = Some c.args.name; backing_format = Some c.args.format }) c.laid_out.ensures in
    subst (λ (b : Qcow2CreateBuilder _). (view b.image).is_honest → IfOk c.create.result.1 (λ done. IsCreated b (view c.create.result.0))) is (c.create.ensures.created (ap (λ (b : Qcow2CreateBuilder _). b.data_file_name) is, ap (λ (b : Qcow2CreateBuilder _). b.data_file) is))

pub returns-clause-stops : goal.returns-clause-stops
returns-clause-stops g c =
    let view = g.S.Storage.view in
    let is = c.backing-builder.ensures ∙ ap (λ (b : Qcow2CreateBuilder _). record b { backing_name = Some c.args.name; backing_format = Some c.args.format }) c.laid_out.ensures in
    subst (λ (b : Qcow2CreateBuilder _). (view b.image).is_honest → StopsCreating b.preallocate b.size (view b.image) (view c.create.result.0)) is (c.create.ensures.stops (ap (λ (b : Qcow2CreateBuilder _). b.data_file_name) is, ap (λ (b : Qcow2CreateBuilder _). b.data_file) is))

pub returns-clause-cause : goal.returns-clause-cause
returns-clause-cause g c =
    let view = g.S.Storage.view in
    let is = c.backing-builder.ensures ∙ ap (λ (b : Qcow2CreateBuilder _). record b { backing_name = Some c.args.name; backing_format = Some c.args.format }) c.laid_out.ensures in
    subst (λ (b : Qcow2CreateBuilder _). (view b.image).is_honest → IfErr c.create.result.1 (IsReasonNotToCreate view b c.create.result.0)) is (c.create.ensures.cause (ap (λ (b : Qcow2CreateBuilder _). b.data_file_name) is, ap (λ (b : Qcow2CreateBuilder _). b.data_file) is))

pub returns-clause-faults : goal.returns-clause-faults
returns-clause-faults g c =
    let view = g.S.Storage.view in
    let is = c.backing-builder.ensures ∙ ap (λ (b : Qcow2CreateBuilder _). record b { backing_name = Some c.args.name; backing_format = Some c.args.format }) c.laid_out.ensures in
    subst (λ (b : Qcow2CreateBuilder _). FaultsReported (view b.image).faults (view c.create.result.0).faults c.create.result.1) is (c.create.ensures.faults (ap (λ (b : Qcow2CreateBuilder _). b.data_file_name) is, ap (λ (b : Qcow2CreateBuilder _). b.data_file) is))
