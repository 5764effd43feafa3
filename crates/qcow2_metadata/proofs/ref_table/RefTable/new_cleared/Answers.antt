use Rattle.qcow2_metadata.proofs.Common.{refl, ReftableEntryReads}
use Rattle.qcow2_metadata.proofs.EntryTables.{EachReads-zeros}
use Rattle.qcow2_metadata.proofs.TableEntries.{entry_at-zeros}
use Rattle.qcow2_metadata.proofs.ref_table.RefTable.new_cleared.Goals as goal

pub invariant_of-result : goal.invariant_of-result
invariant_of-result c = (c.in_ok-table.ensures.few.few, rw c.in_ok-table.ensures.table (EachReads-zeros ReftableEntryReads refl _), rw c.in_ok-table.ensures.table tt)

pub returns-clause-zeros : goal.returns-clause-zeros
returns-clause-zeros c = λ i. rw c.in_ok-table.ensures.table (entry_at-zeros _ i)
