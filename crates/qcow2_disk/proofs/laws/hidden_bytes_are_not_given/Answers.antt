use Rattle.qcow2_disk.proofs.ForUsers.{hidden_given}
use Rattle.qcow2_disk.proofs.laws.hidden_bytes_are_not_given.Goals as goal

pub returns : goal.returns
returns c = hidden_given
