use Rattle.qcow2_laws.proofs.GuestLaws.{size_stays_unless_asked}
use Rattle.qcow2_laws.proofs.laws.size_stays_unless_asked.Goals as goal

pub returns : goal.returns
returns c = size_stays_unless_asked
