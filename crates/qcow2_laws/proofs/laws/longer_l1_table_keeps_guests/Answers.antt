use Rattle.qcow2_laws.proofs.GuestLaws.{longer_l1_table_keeps_guests}
use Rattle.qcow2_laws.proofs.laws.longer_l1_table_keeps_guests.Goals as goal

pub returns : goal.returns
returns c = longer_l1_table_keeps_guests
