use Rattle.qcow2_image.proofs.Common.{replicate, rules, of_storage, fault_of_storage}
use Rattle.qcow2_image.proofs.Lemmas.{storage_unlimited, hands_fault, hands_unlimited, step_none}
use Rattle.qcow2_image.proofs.Write.OwnData.{own_written}
use Rattle.qcow2_image.proofs.image.Qcow2.put_own_zeros.Goals as goal

pub returns-in_err-write-clause-puts : goal.returns-in_err-write-clause-puts
returns-in_err-write-clause-puts g c = record { fault = λ behind. hands_fault c.from_residual.result (of_storage c.in_err-write.field-0.0) c.from_residual.ensures (fault_of_storage c.in_err-write.field-0.0); written = search rules }

pub returns-in_err-write-clause-step : goal.returns-in_err-write-clause-step
returns-in_err-write-clause-step g c = own_written c.args.self.now c.set_write_kind.new.self c.write.new.storage c.write.result c.args.host c.cluster_size.result (replicate c.args.count 0) c.set_write_kind.ensures.storage c.set_write_kind.ensures.changed c.cluster_size.ensures.value c.if-host-cluster_size.false c.write.ensures.written c.write.ensures.calls c.write.ensures.recorded

pub returns-in_err-write-clause-fails : goal.returns-in_err-write-clause-fails
returns-in_err-write-clause-fails g c = record { faults = search rules; cause = search rules; limited = hands_unlimited c.from_residual.result (of_storage c.in_err-write.field-0.0) c.from_residual.ensures (storage_unlimited c.in_err-write.field-0.0) }

pub returns-then-host-cluster_size-clause-step : goal.returns-then-host-cluster_size-clause-step
returns-then-host-cluster_size-clause-step g c = step_none

pub returns-clause-step : goal.returns-clause-step
returns-clause-step g c = own_written c.args.self.now c.set_write_kind.new.self c.write.new.storage c.write.result c.args.host c.cluster_size.result (replicate c.args.count 0) c.set_write_kind.ensures.storage c.set_write_kind.ensures.changed c.cluster_size.ensures.value c.if-host-cluster_size.false c.write.ensures.written c.write.ensures.calls c.write.ensures.recorded
