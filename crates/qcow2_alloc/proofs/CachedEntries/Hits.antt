-- Calls for a key that is in the cache already.
use Rattle.std.proofs.Common.{◌≡◌, ◌∷◌, inl, inr, ℕ, Bool, true, false, eqb, List, [], Option, Some, None, Result, Ok, IsSome, refl, sym, ap, ◌∙◌}
use Rattle.qcow2_alloc.proofs.Common.{IsEquivalence, option_map, IsNone, lookup, eq-eqb, eqb-true, promoted, Slot, CacheError, value_at, IsInFront, Steps, GetsNew}
use Rattle.qcow2_alloc.proofs.Lemmas.{lookup-promoted, none_or_some}

pub slot_there : {V : Type 0} (o : Option (Slot V)) → IsSome (option_map (λ s. s.value) o) → IsSome o
slot_there None there = absurd (cc)
slot_there (Some s) there = refl

eqb_sym : (x y : ℕ) (c d : Bool) → eqb x y ≡ c → eqb y x ≡ d → eqb x y ≡ eqb y x
eqb_sym x y true d is other = is ∙ sym (eq-eqb y x (sym (eqb-true x y is)))
eqb_sym x y false true is other = eq-eqb x y (sym (eqb-true y x other)) ∙ sym other
eqb_sym x y false false is other = is ∙ sym other

eqb_laws : IsEquivalence eqb
eqb_laws = record {
  refl = λ x. eq-eqb x x refl;
  symm = λ x y. eqb_sym x y (eqb x y) (eqb y x) refl refl;
  congr = λ x y z is. ap (λ n. eqb n z) (eqb-true x y is);
}

-- it is got without the store, and each entry is as it was
pub got_there : {S V E : Type 0} (key : ℕ) (es fs : List (ℕ × Slot V)) (s t : S) (answer : Result Bool E)
    → (IsSome (lookup (eqb key) es) → (answer ≡ Ok true) × (fs ≡ promoted (eqb key) es) × (t ≡ s))
    → IsSome (value_at (eqb key) es) → (answer ≡ Ok true) × (t ≡ s) × ((c : ℕ) → value_at (eqb c) fs ≡ value_at (eqb c) es)
got_there key es fs s t answer hit there =
    let got = hit (slot_there (lookup (eqb key) es) there) in
    (got.0, got.2, λ c. ap (λ l. value_at (eqb c) l) got.1 ∙ ap (option_map (λ s. s.value)) (lookup-promoted eqb_laws es key c))

-- what is in front is held
pub held_in_front : {V : Type 0} (key : ℕ) (es : List (ℕ × Slot V)) → IsInFront (eqb key) es → IsSome (value_at (eqb key) es)
held_in_front key [] front = absurd front
held_in_front key (e ∷ es) front = rw front refl

-- a call that may flush doesn't wait for another one
pub got_at_last : {S V E : Type 0} (steps : Steps S ℕ V E) (size key : ℕ) (s t : S) (es fs : List (ℕ × Slot V)) (answer : Result Bool (CacheError ℕ E)) (b : Bool) → answer ≡ Ok b
    → (IsSome (lookup (eqb key) es) → (answer ≡ Ok true) × (fs ≡ promoted (eqb key) es) × (t ≡ s)) → (IsNone (lookup (eqb key) es) → GetsNew steps eqb size true key s es answer t fs) → answer ≡ Ok true
got_at_last steps size key s t es fs answer true is hit miss = is
got_at_last steps size key s t es fs answer false is hit miss = elim (none_or_some (lookup (eqb key) es)) [
  | inl there ↦ (hit there).0
  | inr missing ↦ absurd (let bad : true ≡ false = (rw is at (miss missing)).1 in cc)
]
