use Rattle.qcow2_session.proofs.FirstWrites.{first_writes}
use Rattle.qcow2_session.proofs.recorded.open_and_run_recorded.Goals as goal

pub returns-clause-writes : goal.returns-clause-writes
returns-clause-writes g c = first_writes g.F.BackingDisk.backing c.args.storage c.args.below c.args.commands.now _ c.open_and_run.ensures.headline c.open_and_run.ensures.again
