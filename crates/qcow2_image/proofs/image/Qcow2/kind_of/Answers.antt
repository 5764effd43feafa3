use Rattle.std.proofs.Common.{◌∙◌, ap, sym, is_some}
use Rattle.qcow2_metadata.specs.declared.l2_mapping.L2Mapping.{L2Mapping}
use Rattle.qcow2_image.specs.Found.{kind_in}
use Rattle.qcow2_image.specs.Image.{is_beside}
use Rattle.qcow2_image.proofs.image.Qcow2.kind_of.Goals as goal

pub returns-in-Uncovered-clause-value : goal.returns-in-Uncovered-clause-value
returns-in-Uncovered-clause-value g c =
    let image = c.args.self.now in
    c.uncovered.ensures.value (is_beside image) ∙ ap (λ (m : L2Mapping). kind_in image.file.header.fields (is_beside image) (is_some image.backing) c.args.offset m) (sym c.in-Uncovered.is)
