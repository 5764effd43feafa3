use Rattle.qcow2_metadata.proofs.Common.{and_high}
use Rattle.qcow2_metadata.proofs.ref_table.block_offset.Goals as goal

pub returns : goal.returns
returns c = and_high c.args.entry 55 9
