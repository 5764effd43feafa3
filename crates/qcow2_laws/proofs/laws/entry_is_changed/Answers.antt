use Rattle.qcow2_laws.proofs.Steps.{entry_is_changed}
use Rattle.qcow2_laws.proofs.laws.entry_is_changed.Goals as goal

pub returns : goal.returns
returns c = entry_is_changed
