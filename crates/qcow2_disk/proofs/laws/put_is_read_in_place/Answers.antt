use Rattle.qcow2_disk.proofs.ForUsers.{read_in_place}
use Rattle.qcow2_disk.proofs.laws.put_is_read_in_place.Goals as goal

pub returns : goal.returns
returns c = read_in_place
