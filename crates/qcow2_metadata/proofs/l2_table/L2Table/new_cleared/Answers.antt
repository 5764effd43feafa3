use Rattle.qcow2_metadata.proofs.Common.{ap, ◌∙◌, entry_at}
use Rattle.qcow2_metadata.proofs.TableEntries.{entry_at-zeros}
use Rattle.qcow2_metadata.proofs.l2_table.L2Table.new_cleared.Goals as goal

pub returns-clause-zeros : goal.returns-clause-zeros
returns-clause-zeros c = λ i. ap (λ bytes. entry_at bytes i) c.in_ok-bytes.ensures ∙ entry_at-zeros _ i
