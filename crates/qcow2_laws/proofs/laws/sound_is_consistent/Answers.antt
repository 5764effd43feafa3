use Rattle.qcow2_laws.proofs.Steps.{sound_is_consistent}
use Rattle.qcow2_laws.proofs.laws.sound_is_consistent.Goals as goal

pub returns : goal.returns
returns c = sound_is_consistent
