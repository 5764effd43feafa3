use Rattle.qcow2_laws.proofs.NewImages.{new_image_consistent, new_image_exact}
use Rattle.qcow2_laws.proofs.Samples.{is_consistent}
use Rattle.qcow2_laws.proofs.laws.new_image_is_consistent.Goals as goal

pub returns : goal.returns
returns c = record { each = new_image_consistent; exact = new_image_exact; small = is_consistent }
