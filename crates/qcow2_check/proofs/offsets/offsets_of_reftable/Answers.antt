use Rattle.qcow2_check.proofs.Common.{arith, ap, ◌∙◌, block_offset, entry_at, off_cluster}
use Rattle.qcow2_check.proofs.OffsetSteps.{once, terms_none, terms_more}
use Rattle.qcow2_check.proofs.offsets.offsets_of_reftable.Goals as goal

pub loop-k-init : goal.loop-k-init
loop-k-init c = record { grows = terms_none (λ o i. off_cluster c.args.header.now o (block_offset (entry_at c.args.reftable.now i))) _; total = omega arith }

pub loop-k-preserved : goal.loop-k-preserved
loop-k-preserved c = record {
  grows = terms_more (λ o i. off_cluster c.args.header.now o (block_offset (entry_at c.args.reftable.now i))) c.loop-k.k _ _ _ _
      (λ o. once _ ∙ ap (off_cluster c.args.header.now o) (c.block_offset.ensures ∙ ap block_offset c.entry_at-entry.ensures)) c.loop-k.invariant.grows c.in_ok-add_offset.ensures.grows;
  total = omega (arith, c.in_ok-add_offset.ensures.total);
}
