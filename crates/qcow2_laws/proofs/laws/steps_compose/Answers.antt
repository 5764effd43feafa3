use Rattle.qcow2_laws.proofs.Steps.{steps_compose}
use Rattle.qcow2_laws.proofs.laws.steps_compose.Goals as goal

pub returns : goal.returns
returns c = steps_compose
