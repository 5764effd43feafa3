use Rattle.qcow2_image.proofs.Common.{of_storage, fault_of_storage}
use Rattle.qcow2_image.proofs.Prepare.LimitCauses.{hands_fault}
use Rattle.qcow2_image.proofs.builder.flush_new_image.Goals as goal

pub returns-in_err-flush-clause-fault : goal.returns-in_err-flush-clause-fault
returns-in_err-flush-clause-fault g c = hands_fault c.from_residual.result (of_storage c.in_err-flush.field-0.0) c.from_residual.ensures (fault_of_storage c.in_err-flush.field-0.0)
