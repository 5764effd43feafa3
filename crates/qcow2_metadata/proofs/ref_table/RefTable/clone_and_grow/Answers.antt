use Rattle.qcow2_metadata.proofs.Common.{ReftableEntryReads}
use Rattle.qcow2_metadata.proofs.EntryTables.{EachReads-grown, entry_at-grown}
use Rattle.qcow2_metadata.proofs.ref_table.RefTable.clone_and_grow.Goals as goal

pub invariant_of-result : goal.invariant_of-result
invariant_of-result c = (c.in_ok-table.ensures.few.few, rw c.in_ok-table.ensures.table (EachReads-grown ReftableEntryReads _ _ c.self.invariant.1), rw c.in_ok-table.ensures.table tt)

pub returns-clause-entries : goal.returns-clause-entries
returns-clause-entries c = λ i. rw (c.in_ok-table.ensures.table, ← c.self.view_is) (entry_at-grown _ _ i)
