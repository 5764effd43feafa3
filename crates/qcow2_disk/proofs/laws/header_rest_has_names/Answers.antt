use Rattle.qcow2_disk.proofs.HeaderNames.{names_stay}
use Rattle.qcow2_disk.proofs.laws.header_rest_has_names.Goals as goal

pub returns : goal.returns
returns c = names_stay
