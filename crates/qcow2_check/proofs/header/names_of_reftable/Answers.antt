use Rattle.qcow2_check.proofs.Common.{arith, ap, ◌∙◌, block_offset, blocks_among}
use Rattle.qcow2_check.proofs.Sums.{sum_below_none}
use Rattle.qcow2_check.proofs.Grow.{grows_none}
use Rattle.qcow2_check.proofs.Totals.{blocks_more}
use Rattle.qcow2_check.proofs.header.names_of_reftable.Goals as goal

pub loop-k-init : goal.loop-k-init
loop-k-init c = record {
  grows = grows_none _ (blocks_among c.args.header.now c.args.reftable.now 0) (blocks_among c.args.header.now c.args.reftable.now 0) (λ _. 0) (λ q. sum_below_none _) (λ q. sum_below_none _) (λ q. omega arith);
  total = omega arith;
}

pub loop-k-preserved : goal.loop-k-preserved
loop-k-preserved c = record {
  grows = blocks_more c.args.header.now c.args.reftable.now c.loop-k.k _ _ _ _ (c.block_offset.ensures ∙ ap block_offset c.entry_at.ensures) c.loop-k.invariant.grows c.in_ok-names_of_table.ensures.grows;
  total = omega (arith, c.in_ok-names_of_table.ensures.total);
}
