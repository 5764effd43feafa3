use Rattle.qcow2_laws.proofs.Steps.{table_is_written}
use Rattle.qcow2_laws.proofs.laws.table_is_written.Goals as goal

pub returns : goal.returns
returns c = table_is_written
