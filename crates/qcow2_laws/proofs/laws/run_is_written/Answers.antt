use Rattle.qcow2_laws.proofs.PutRuns.{run_is_written}
use Rattle.qcow2_laws.proofs.laws.run_is_written.Goals as goal

pub returns : goal.returns
returns c = run_is_written
