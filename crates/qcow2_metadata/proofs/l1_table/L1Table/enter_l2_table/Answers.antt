use Rattle.qcow2_metadata.proofs.Common.{L1EntryReads}
use Rattle.qcow2_metadata.proofs.EntryTables.{EachReads-set}
use Rattle.qcow2_metadata.proofs.l1_table.L1Table.enter_l2_table.Goals as goal

pub invariant_of-self : goal.invariant_of-self
invariant_of-self c = EachReads-set L1EntryReads _ _ _ _ c.set.ensures.entry c.copied_entry.ensures.reads c.self.invariant
