use Rattle.qcow2_image.proofs.Common.{◌∙◌}
use Rattle.qcow2_image.proofs.Images.Sizes.{disk_size}
use Rattle.qcow2_image.proofs.image.Qcow2.size.Goals as goal

pub returns-clause-sees : goal.returns-clause-sees
returns-clause-sees g c = λ out sound. c.size.ensures ∙ disk_size g.S.Storage.view g.F.BackingDisk.backing c.args.self.now out sound
