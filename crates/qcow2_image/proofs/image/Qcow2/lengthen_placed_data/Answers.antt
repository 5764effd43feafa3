use Rattle.std.proofs.Common.{refl, rules}
use Rattle.qcow2_image.proofs.Lemmas.{step_none}
use Rattle.qcow2_image.proofs.image.Qcow2.lengthen_placed_data.Goals as goal

pub returns-in_err-check_l1_length : goal.returns-in_err-check_l1_length
returns-in_err-check_l1_length g c = record { step = record { part = step_none; fails = search rules; rest = refl } }
