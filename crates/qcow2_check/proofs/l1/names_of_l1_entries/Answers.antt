use Rattle.qcow2_check.proofs.Common.{arith}
use Rattle.qcow2_check.proofs.GrowL1.{entries_none, entries_more}
use Rattle.qcow2_check.proofs.l1.names_of_l1_entries.Goals as goal

pub loop-i-init : goal.loop-i-init
loop-i-init c = record { grows = entries_none c.args.header.now c.args.l1.now _; total = omega arith }

pub loop-i-preserved : goal.loop-i-preserved
loop-i-preserved c = record {
  grows = entries_more c.args.header.now c.args.l1.now c.loop-i.i _ _ _ _ c.entry_at-entry.ensures c.loop-i.invariant.grows c.in_ok-names_of_l1_entry.ensures.grows;
  total = omega (arith, c.in_ok-names_of_l1_entry.ensures.total);
}
