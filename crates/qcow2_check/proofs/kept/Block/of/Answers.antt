use Rattle.qcow2_check.proofs.BlockCounts.{counts_of_kept}
use Rattle.qcow2_check.proofs.kept.Block.of.Goals as goal

pub returns : goal.returns
returns c j inside = counts_of_kept c.in_ok-bytes.bytes.items c.args.bytes.now c.args.order j c.in_ok-bytes.ensures inside
