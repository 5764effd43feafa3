use Rattle.qcow2_metadata.proofs.Common.{ap, ◌∙◌, count_in}
use Rattle.qcow2_metadata.proofs.RefCounts.{count_in-zeros}
use Rattle.qcow2_metadata.proofs.ref_block.RefBlock.new_cleared.Goals as goal

pub returns-clause-zeros : goal.returns-clause-zeros
returns-clause-zeros c = λ i. ap (λ bytes. count_in c.refcount_order.result bytes i) c.in_ok-bytes.ensures ∙ count_in-zeros _ _ i
