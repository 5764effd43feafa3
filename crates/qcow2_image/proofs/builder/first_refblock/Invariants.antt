use Rattle.qcow2_image.proofs.Create.FirstBlocks.{Counts}
use Rattle.qcow2_image.proofs.builder.first_refblock.Given as goal

abbrev pub invariant-loop-index : goal.invariant-loop-index
invariant-loop-index l = Counts l.index l.initial.block l.block
