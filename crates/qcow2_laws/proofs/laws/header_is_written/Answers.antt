use Rattle.qcow2_laws.proofs.Steps.{header_is_written}
use Rattle.qcow2_laws.proofs.laws.header_is_written.Goals as goal

pub returns : goal.returns
returns c = header_is_written
