use Rattle.qcow2_laws.proofs.Steps.{count_is_changed}
use Rattle.qcow2_laws.proofs.laws.count_is_changed.Goals as goal

pub returns : goal.returns
returns c = count_is_changed
