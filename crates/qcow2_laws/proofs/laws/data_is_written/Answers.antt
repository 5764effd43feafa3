use Rattle.qcow2_laws.proofs.Steps.{data_is_written}
use Rattle.qcow2_laws.proofs.laws.data_is_written.Goals as goal

pub returns : goal.returns
returns c = data_is_written
