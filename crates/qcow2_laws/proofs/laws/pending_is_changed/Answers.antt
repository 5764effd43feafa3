use Rattle.qcow2_laws.proofs.Steps.{pending_is_changed}
use Rattle.qcow2_laws.proofs.laws.pending_is_changed.Goals as goal

pub returns : goal.returns
returns c = pending_is_changed
