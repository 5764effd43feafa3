use Rattle.qcow2_metadata.proofs.Common.{refl, L1EntryReads}
use Rattle.qcow2_metadata.proofs.EntryTables.{EachReads-zeros}
use Rattle.qcow2_metadata.proofs.TableEntries.{entry_at-zeros}
use Rattle.qcow2_metadata.proofs.l1_table.L1Table.new_cleared.Goals as goal

pub invariant_of-result : goal.invariant_of-result
invariant_of-result c = rw c.in_ok-table.ensures.table (EachReads-zeros L1EntryReads (refl, refl) _)

pub returns-clause-zeros : goal.returns-clause-zeros
returns-clause-zeros c = λ i. rw c.in_ok-table.ensures.table (entry_at-zeros _ i)
