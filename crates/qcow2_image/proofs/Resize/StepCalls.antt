-- A step of a shrink is a call that clears a range, whatever the image contains.
use Rattle.std.proofs.Common.{◌≡◌, ℕ, Some, None, Result, Ok, Err, IsErr, IsErrAnd}
use Rattle.qcow2_image.proofs.Common.{BackingView, StorageView, handed_on, ImageError, ClearsStep, TurnStep, Qcow2}
use Rattle.qcow2_image.proofs.Call.FaultCounts.{counted_of, counted_ok}

-- a refusal is there, or none
pub some_none : {A B : Type 0} (x : A) → Some x ≡ None → B
some_none x is = absurd cc

module _ {S F : Type 0} {view : S → StorageView} {backing : F → BackingView} {old new : Qcow2 S F} where
  pub step_answered : {range : ℕ × ℕ} (next : ℕ) → ClearsStep view backing old new (Ok range) → TurnStep view backing old new (Ok next)
  step_answered next step = record { image = step.image; marks = step.marks; since = step.since; header_cluster = step.header_cluster; faults = counted_ok view backing old new next step.faults.told }

  pub step_refused : (e : ImageError) (result : Result ℕ ImageError) → IsErr result × IsErrAnd result (λ x. x ≡ e) → ClearsStep view backing old new (Err e) → TurnStep view backing old new result
  step_refused e result on step = handed_on (λ (r : Result ℕ ImageError). TurnStep view backing old new r) result e on
      (record { image = step.image; marks = step.marks; since = step.since; header_cluster = step.header_cluster; faults = counted_of view backing old new e step.faults })
