use Rattle.qcow2_check.proofs.Common.{arith, ap, ◌∙◌, host_offset, entry_at, off_cluster}
use Rattle.qcow2_check.proofs.OffsetSteps.{once, terms_none, terms_more}
use Rattle.qcow2_check.proofs.offsets.offsets_of_l1_table.Goals as goal

pub loop-i-init : goal.loop-i-init
loop-i-init c = record { grows = terms_none (λ o i. off_cluster c.args.header.now o (host_offset (entry_at c.args.l1.now i))) _; total = omega arith }

pub loop-i-preserved : goal.loop-i-preserved
loop-i-preserved c = record {
  grows = terms_more (λ o i. off_cluster c.args.header.now o (host_offset (entry_at c.args.l1.now i))) c.loop-i.i _ _ _ _
      (λ o. once _ ∙ ap (off_cluster c.args.header.now o) (c.host_offset.ensures.value ∙ ap host_offset c.entry_at-entry.ensures)) c.loop-i.invariant.grows c.in_ok-add_offset.ensures.grows;
  total = omega (arith, c.in_ok-add_offset.ensures.total);
}
