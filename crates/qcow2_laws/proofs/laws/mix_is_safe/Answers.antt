use Rattle.qcow2_laws.proofs.Steps.{mix_is_safe}
use Rattle.qcow2_laws.proofs.laws.mix_is_safe.Goals as goal

pub returns : goal.returns
returns c = mix_is_safe
