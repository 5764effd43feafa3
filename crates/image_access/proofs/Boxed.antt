-- A call of a boxed storage is a call of the storage in the box.
use Rattle.std.proofs.Common.{◌≡◌, ℕ, List, Result, refl, sym, subst}
use Rattle.image_access.specs.declared.error.StorageError.{StorageError}
use Rattle.image_access.specs.Moments.{StorageView, ContentsBecome, Calls, QuietCalls}

-- The call was of z, which the box held as w.
module _ {Z : Type 0} {z w : Z} (same : z ≡ w) (view : Z → StorageView) where
  pub boxed_fact : (P : List ℕ → Type 0) → ((view z).is_honest → P (view z).contents) → (view w).is_honest → P (view w).contents
  boxed_fact P call honest = subst (λ x. P (view x).contents) same (call (subst (λ x. (view x).is_honest) (sym same) honest))

  pub boxed_keeps : {new : List ℕ} → ((view z).is_honest → new ≡ (view z).contents) → (view w).is_honest → new ≡ (view w).contents
  boxed_keeps {new} call = boxed_fact (λ c. new ≡ c) call

  pub boxed_changes : {T : Type 0} (result : Result T StorageError) (change : List ℕ → List ℕ) (new : List ℕ) → ((view z).is_honest → ContentsBecome result (view z).contents (change (view z).contents) new) → (view w).is_honest → ContentsBecome result (view w).contents (change (view w).contents) new
  boxed_changes result change new call = boxed_fact (λ c. ContentsBecome result c (change c) new) call

  pub boxed_calls : {T : Type 0} {new : StorageView} {result : Result T StorageError} → Calls (view z) new result → Calls (view w) new result
  boxed_calls {new = new} {result = result} call = subst (λ x. Calls (view x) new result) same call

  pub boxed_quiet : {T : Type 0} {new : StorageView} {result : Result T StorageError} → QuietCalls (view z) new result → QuietCalls (view w) new result
  boxed_quiet {new = new} {result = result} call = subst (λ x. QuietCalls (view x) new result) same call

-- What a call did to the value in a box, it did to the box: only the value in it is another one.
pub boxed_passes : {I B : Type 0} {T : I → Type 0} {z w : (i : I) × T i} (box : (i : I) → T i → B) (P : (i : I) → T i → T i → Type 0) → z ≡ w → (now : T z.0) → P z.0 z.1 now → (v : T w.0) × (box z.0 now ≡ box w.0 v) × P w.0 w.1 v
boxed_passes {T = T} {z = z} box P same now does = subst (λ x. (v : T x.0) × (box z.0 now ≡ box x.0 v) × P x.0 x.1 v) same (now, refl, does)
