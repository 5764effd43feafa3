use Rattle.qcow2_metadata.proofs.Common.{L1EntryReads}
use Rattle.qcow2_metadata.proofs.EntryTables.{EachReads-grown}
use Rattle.qcow2_metadata.proofs.l1_table.L1Table.clone_and_grow.Goals as goal

pub invariant_of-result : goal.invariant_of-result
invariant_of-result c = rw c.in_ok-table.ensures.table (EachReads-grown L1EntryReads _ _ c.self.invariant)
