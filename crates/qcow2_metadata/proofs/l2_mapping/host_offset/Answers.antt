use Rattle.qcow2_metadata.proofs.Common.{and_high}
use Rattle.qcow2_metadata.proofs.l2_mapping.host_offset.Goals as goal

pub returns-clause-value : goal.returns-clause-value
returns-clause-value c = and_high c.args.entry 47 9
