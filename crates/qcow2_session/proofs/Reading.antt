-- A read into a buffer, and the bytes that it returns.
use Rattle.std.proofs.Common.{◌≡◌, ℕ, List, [], sym, subst, Option, Result, Err}
use Rattle.qcow2_session.proofs.Common.{BackingView, StorageView, ImageError, RefusedEffect, IsSame, refusal_of, Qcow2, Prepared, abstract_of, ReadsInto, Mappings}

module _ {S F : Type 0} (view : S → StorageView) (backing : F → BackingView) (old new : Qcow2 S F) where
  -- a refusal that was passed on
  pub reads_refused : (offset : ℕ) (bytes : List ℕ) (e : ImageError) (r : Result (Unit {0}) ImageError) → r ≡ Err e
      → ((out : Mappings) → RefusedEffect (abstract_of view backing old out) (abstract_of view backing new out) [] [] (refusal_of e) (IsSame (abstract_of view backing old out) (abstract_of view backing new out)))
      → ReadsInto view backing old new offset bytes r
  reads_refused offset bytes e r is refuses = subst (λ x. ReadsInto view backing old new offset bytes x) (sym is) refuses
