use Rattle.qcow2_disk.proofs.ForUsers.{unseen}
use Rattle.qcow2_disk.proofs.laws.private_bytes_are_unseen.Goals as goal

pub returns : goal.returns
returns c = unseen
