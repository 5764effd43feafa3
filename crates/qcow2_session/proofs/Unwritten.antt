-- An image that was opened for reading is never written: calls that write are refused before any work, and all others leave the contents of its storage the same.
use Rattle.std.proofs.Common.{◌≡◌, ◌<◌, ◌≤◌, ◌&&◌, ⊎_elim, inl, inr, ℕ, zero, suc, List, Bool, true, false, not, IsTrue, refl, sym, ap, ◌∙◌, subst, arith, Option, Some, None, Ok, Err, replicate}
use Rattle.qcow2_session.proofs.Common.{IfSome, IsNone, IsSome, nat_lt, slice_get, slice_set, option_or, cases_lt, lt-ltb, ImageError, Qcow2, Prepared, is_failed, is_writable, size_of, table_of, IsOfNothing, passes, refuse_if, refuses_to_prepare, unusable, IsResized, refuses_to_resize, AreExisting, KeepsItself, free_slots, get_set}
use Rattle.qcow2_alloc.specs.declared.error.ImageError.TheVariants as I
use Rattle.qcow2_session.proofs.Told.{none_refused, same_itself}

-- ---- calls that are refused before any work

some_or : {E : Type 0} (a b : Option E) → IsSome b → IsSome (option_or a b)
some_or None b some = some
some_or (Some e) b some = refl

some_first : {E : Type 0} (a b : Option E) → IsSome a → IsSome (option_or a b)
some_first None b some = absurd (let no : false ≡ true = some in cc)
some_first (Some e) b some = refl

refused_if : {test : Bool} (e : ImageError) → test ≡ true → IsSome (refuse_if test e)
refused_if e is = subst (λ b. IsSome (refuse_if b e)) (sym is) refl

-- a call that was refused early left the image
pub same_early : {E X : Type 0} (Y : E → Type 0) (o : Option E) → IsSome o → IfSome o (λ e. Y e × X) → X
same_early Y None some early = absurd (let no : false ≡ true = some in cc)
same_early Y (Some e) some early = early.1

-- so did one that does nothing else
if_none_or : {E X : Type 0} (Y : E → Type 0) (o : Option E) → (o ≡ None → X) → IfSome o (λ e. Y e × X) → X
if_none_or Y None nothing early = nothing refl
if_none_or Y (Some e) nothing early = early.1

-- an image of another size keeps itself
pub resized_itself : {S F : Type 0} (old new : Qcow2 S F) (Y : ImageError → Type 0) (Z : Type 0) (size a b : ℕ) → IfSome (refuses_to_resize old) (λ e. Y e × (new ≡ old)) → (refuses_to_resize old ≡ None → b ≤ a → Z × (new ≡ old))
    → (a < b → IsResized size old new) → KeepsItself old new
resized_itself old new Y Z size a b early nothing resized = elim (cases_lt a b) [
  | inl lt ↦ let is = resized lt in record { number = is.number; writable = is.writable; lacks = is.lacks; beside = is.beside }
  | inr le ↦ same_itself (if_none_or Y (refuses_to_resize old) (λ none. (nothing none le).1) early)
]

module _ {S F : Type 0} (image : Qcow2 S F) where
  pub resizes_failed : IsTrue (is_failed image) → IsSome (refuses_to_resize image)
  resizes_failed failed = some_first (unusable image) _ (some_first (refuse_if (is_failed image) I.Failed) _ (refused_if I.Failed failed))

  module _ (reading : is_writable image ≡ false) where
    isnt : not (is_writable image) ≡ true
    isnt = ap not reading

    pub resizes_reading : IsSome (refuses_to_resize image)
    resizes_reading = some_or (unusable image) _ (refused_if I.ReadOnly isnt)

    -- a call that clears a range, with what else refuses it
    pub clear_same : {X : Type 0} (Y : ImageError → Type 0) (rest : Option ImageError) → IfSome (option_or (unusable image) (option_or (refuse_if (not (is_writable image)) I.ReadOnly) rest)) (λ e. Y e × X) → X
    clear_same Y rest early =
        same_early Y (option_or (unusable image) (option_or (refuse_if (not (is_writable image)) I.ReadOnly) rest)) (some_or (unusable image) _ (some_first (refuse_if (not (is_writable image)) I.ReadOnly) rest (refused_if I.ReadOnly isnt))) early

    prepares_reading : (offset n : ℕ) → IsSome (refuses_to_prepare image offset (suc n))
    prepares_reading offset n =
        let any : nat_lt 0 (suc n) ≡ true = lt-ltb 0 (suc n) (omega arith) in
        some_or (unusable image) _ (some_or (refuse_if (passes (size_of image) offset (suc n)) I.BeyondSize) _ (refused_if I.ReadOnly (ap (λ b. nat_lt 0 (suc n) && b) isnt ∙ ap (λ b. b && true) any)))

    -- a range of no byte is prepared, or it is refused
    pub prepare_same : {X Y Z : Type 0} (R : ImageError → Type 0) (offset n : ℕ) → IfSome (refuses_to_prepare image offset n) (λ e. R e × X) → (refuses_to_prepare image offset 0 ≡ None → n ≡ 0 → Y × Z × X) → X
    prepare_same R offset zero early nothing = if_none_or R (refuses_to_prepare image offset 0) (λ none. (nothing none refl).2) early
    prepare_same R offset (suc n) early nothing = same_early R (refuses_to_prepare image offset (suc n)) (prepares_reading offset n) early

    -- so what is answered is a mapping of nothing
    pub nothing_prepared : {Y Z : Type 0} (X : Type 0) (p : Prepared) (offset n : ℕ) → IfSome (refuses_to_prepare image offset n) (λ (e : ImageError). (Ok p ≡ Err e) × X) → (refuses_to_prepare image offset 0 ≡ None → n ≡ 0 → Y × IsOfNothing p × Z) → IsOfNothing p
    nothing_prepared X p offset zero early nothing = (nothing (none_refused X (refuses_to_prepare image offset 0) p early) refl).1
    nothing_prepared X p offset (suc n) early nothing = absurd (let no : false ≡ true = subst IsSome (none_refused X (refuses_to_prepare image offset (suc n)) p early) (prepares_reading offset n) in cc)

    -- nothing is put into a mapping, or it is refused
    pub put_same : {E X Y Z : Type 0} (R : E → Type 0) (o : Option E) (n : ℕ) → IfSome o (λ e. R e × X) → (0 < n → o ≡ None → is_writable image ≡ false → Y × X) → (o ≡ None → n ≡ 0 → Z × X) → X
    put_same R o zero early refused nothing = if_none_or R o (λ none. (nothing none refl).1) early
    put_same R o (suc n) early refused nothing = if_none_or R o (λ none. (refused (omega arith) none reading).1) early

-- ---- mappings that are let go

pub existing_set : (out : List (Option Prepared)) (slot : ℕ) (o : Option Prepared) → AreExisting out → IfSome o (λ p. IsNone (table_of p)) → AreExisting (slice_set out slot o)
existing_set out slot None existing is k p at = ⊎_elim (λ (e : Some p ≡ None). absurd (cc)) (λ was. existing k p was) (get_set out slot k None (Some p) at)
existing_set out slot (Some q) existing is k p at = ⊎_elim (λ (e : Some p ≡ Some q). subst (λ r. IsNone (table_of r)) (let same : q ≡ p = cc in same) is) (λ was. existing k p was) (get_set out slot k (Some q) (Some p) at)

none_in : (n k : ℕ) (p : Prepared) → slice_get (replicate n None) k ≡ Some (Some p) → ⊥
none_in zero k p is = cc
none_in (suc n) zero p is = cc
none_in (suc n) (suc k) p is = none_in n k p is

pub existing_none : AreExisting free_slots
existing_none k p is = absurd (none_in 256 k p is)
