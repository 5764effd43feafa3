-- Why a part is refused: a refusal of one of its own parts that `?` passes on, also one after which clusters are freed.
use Rattle.std.proofs.Common.{◌≡◌, Result, Err, IsErr, IsErrAnd, refl, subst, IfErr}
use Rattle.qcow2_image.proofs.Common.{BackingView, StorageView, handed_on, ImageError, CountsImageFaults, ImageFails, Qcow2}
use Rattle.qcow2_image.proofs.Call.FaultCounts.{counted_as, counted_of, untouched}

module _ {S F : Type 0} {view : S → StorageView} {backing : F → BackingView} {T A : Type 0} {R Q : ImageError → Type 0} where
  -- a refused part of the part
  pub fails_on : {old new : Qcow2 S F} (answer : Result A ImageError) (e : ImageError) (result : Result T ImageError) → IsErr result × IsErrAnd result (λ x. x ≡ e) → answer ≡ Err e → ((x : ImageError) → R x → Q x) → ImageFails view backing old new answer R
      → ImageFails view backing old new result Q
  fails_on {old} {new} answer e result on is wider fails = handed_on (λ r. ImageFails view backing old new r Q) result e on (record {
    faults = counted_as view backing old old new answer e (untouched view backing old old refl refl refl) fails.faults is;
    cause = wider e (subst (λ r. IfErr r R) is fails.cause);
  })

  -- a refused part, after which clusters are freed: `e'` is the refusal that is reported
  pub fails_freed : {old mid new : Qcow2 S F} (answer : Result A ImageError) (e e' : ImageError) → ImageFails view backing old mid answer R → answer ≡ Err e
      → ((start : Qcow2 S F) → CountsImageFaults view backing {T = Unit {0}} start mid (Err e) → CountsImageFaults view backing {T = Unit {0}} start new (Err e')) → Q e' → ImageFails view backing {T = T} old new (Err e') Q
  fails_freed {old} {mid} {new} answer e e' fails is freed cause = record {
    faults = counted_of view backing old new e' (freed old (counted_as view backing old old mid answer e (untouched view backing old old refl refl refl) fails.faults is));
    cause = cause;
  }
