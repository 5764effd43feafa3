use Rattle.std.proofs.Common.{◌≡◌, ◌⊎◌, Err, inl, inr}
use Rattle.program_parts.proofs.Common.{IsFault, of_storage, fault_of_storage, given_err}
use Rattle.program_parts.proofs.Counted.{both_as, both_then_ok, both_then_raw}
use Rattle.program_parts.proofs.conversions.flushed.Goals as goal

pub returns-in_err-count-clause-faults : goal.returns-in_err-count-clause-faults
returns-in_err-count-clause-faults g c = λ before now raw_before told. both_as before now raw_before _ c.args.copied c.in_err-count.field-0.0 _ told c.in_err-count.was c.from_residual.ensures

pub returns-in_err-flush-clause-faults : goal.returns-in_err-flush-clause-faults
returns-in_err-flush-clause-faults g c = λ before now raw_before told.
    both_then_raw before now raw_before _ _ c.args.copied c.in_ok-count.count c.flush.result c.in_err-flush.field-0.0 _ told c.in_ok-count.was c.flush.ensures.calls.cause c.in_err-flush.was c.from_residual-in_err-flush.ensures

pub returns-clause-faults : goal.returns-clause-faults
returns-clause-faults g c = λ before now raw_before told. both_then_ok before now raw_before _ _ c.args.copied c.in_ok-count.count _ told c.in_ok-count.was c.in_ok-flush.ensures.calls.cause.told

pub returns-in_err-count-clause-cause : goal.returns-in_err-count-clause-cause
returns-in_err-count-clause-cause g c = given_err _ c.in_err-count.field-0.0 (λ e. (c.args.copied ≡ Err e) ⊎ IsFault e) c.from_residual.ensures (inl c.in_err-count.was)

pub returns-in_err-flush-clause-cause : goal.returns-in_err-flush-clause-cause
returns-in_err-flush-clause-cause g c =
    given_err _ (of_storage c.in_err-flush.field-0.0) (λ e. (c.args.copied ≡ Err e) ⊎ IsFault e) c.from_residual-in_err-flush.ensures (inr (fault_of_storage c.in_err-flush.field-0.0))
