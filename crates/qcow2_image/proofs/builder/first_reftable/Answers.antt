use Rattle.qcow2_image.proofs.Common.{arith, of_metadata}
use Rattle.qcow2_image.proofs.Lemmas.{short_fault, hands_fault}
use Rattle.qcow2_image.proofs.builder.first_reftable.Goals as goal

pub returns-in_err-reftable-clause-fault : goal.returns-in_err-reftable-clause-fault
returns-in_err-reftable-clause-fault c =
    let high = c.l2_entries.ensures.high in
    hands_fault c.from_residual.result (of_metadata c.in_err-reftable.field-0.0) c.from_residual.ensures (short_fault _ (λ past. absurd (omega (arith, past, high))) c.in_err-reftable.field-0.0 c.in_err-reftable.ensures.err)
