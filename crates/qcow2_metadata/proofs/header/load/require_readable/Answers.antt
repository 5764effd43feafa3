use Rattle.qcow2_metadata.proofs.Common.{arith}
use Rattle.qcow2_metadata.proofs.ShortNames.{cluster_small}
use Rattle.qcow2_metadata.proofs.header.load.require_readable.Goals as goal

pub read_extensions-requires-clause-few : goal.read_extensions-requires-clause-few
read_extensions-requires-clause-few c = omega (arith, c.requires.whole, cluster_small c.args.fields.now c.requires.in_range)
