use Rattle.qcow2_disk.proofs.ForUsers.{exact}
use Rattle.qcow2_disk.proofs.laws.flushed_is_exact.Goals as goal

pub returns : goal.returns
returns c = exact
