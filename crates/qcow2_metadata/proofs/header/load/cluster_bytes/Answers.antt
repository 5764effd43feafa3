use Rattle.qcow2_metadata.proofs.Common.{lit<}
use Rattle.qcow2_metadata.proofs.Sizes.{shift_high}
use Rattle.qcow2_metadata.proofs.header.load.cluster_bytes.Goals as goal

pub returns-clause-small : goal.returns-clause-small
returns-clause-small c = shift_high c.args.cluster_bits 21 c.requires (lit< tt)
