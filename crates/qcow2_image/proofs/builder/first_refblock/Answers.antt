use Rattle.qcow2_image.proofs.Common.{sym, subst, arith, of_metadata}
use Rattle.qcow2_image.proofs.Create.FirstBlocks.{Counts, many_counts, counts_next}
use Rattle.qcow2_image.proofs.Lemmas.{memory_fault, hands_fault}
use Rattle.qcow2_image.proofs.builder.first_refblock.Goals.{then-index-counts, else-index-counts}
use Rattle.qcow2_image.proofs.builder.first_refblock.Goals as goal

pub loop-index-preserved : goal.loop-index-preserved
loop-index-preserved c = elim c.if-index-counts.branch [
  | then-index-counts w ↦
      let up = w.increment.ensures in
      subst (Counts _ c.in_ok-block.block) (sym w.block-is) (counts_next c.loop-index.index c.in_ok-block.block c.loop-index.block w.increment.new.self w.increment.result c.loop-index.invariant up.full up.counted up.same)
  | else-index-counts w ↦ absurd (let many = many_counts c.loop-index.block c.counts.ensures.whole in omega (arith, many, c.counts.ensures.value, w.if-index-counts.false, c.loop-index-test.true))
]

pub returns-in_err-block-clause-fault : goal.returns-in_err-block-clause-fault
returns-in_err-block-clause-fault c = hands_fault c.from_residual.result (of_metadata c.in_err-block.field-0.0) c.from_residual.ensures (memory_fault c.in_err-block.field-0.0 c.in_err-block.ensures.err)
