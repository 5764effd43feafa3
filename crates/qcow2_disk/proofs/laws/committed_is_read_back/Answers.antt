use Rattle.qcow2_disk.proofs.ForUsers.{read_back}
use Rattle.qcow2_disk.proofs.laws.committed_is_read_back.Goals as goal

pub returns : goal.returns
returns c = read_back
