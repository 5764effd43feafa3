-- Slots of prepared mappings, one of which changes.
use Rattle.std.proofs.Common.{◌≡◌, ◌⊎◌, ◌+◌, ◌≤◌, ◌∷◌, ⊎_elim, inl, inr, ℕ, zero, suc, List, length, [], refl, sym, ap, ◌∙◌, Option, Some, None, arith, cond, eqb}
use Rattle.qcow2_image.proofs.Common.{slice_get, slice_set, option_map_or, cases_eq, eq-eqb, ne_eqb, cond-true, cond-false, PreparedMapping, meaning_at, Prepared, Mappings, set_slot, over_all, over_slots}
use Rattle.qcow2_image.proofs.Images.ClusterMappings.{over_all_at}

pub get_set : {X : Type 0} (xs : List X) (k j : ℕ) (a y : X) → slice_get (slice_set xs k a) j ≡ Some y → (y ≡ a) ⊎ (slice_get xs j ≡ Some y)
get_set [] k j a y e = inr e
get_set (x ∷ xs) zero zero a y e = inl (cc)
get_set (x ∷ xs) zero (suc j) a y e = inr e
get_set (x ∷ xs) (suc k) zero a y e = inr e
get_set (x ∷ xs) (suc k) (suc j) a y e = get_set xs k j a y e

pub get_set_same : {X : Type 0} (xs : List X) (k : ℕ) (a v : X) → slice_get xs k ≡ Some v → slice_get (slice_set xs k a) k ≡ Some a
get_set_same [] k a v e = cc
get_set_same (x ∷ xs) zero a v e = refl
get_set_same (x ∷ xs) (suc k) a v e = get_set_same xs k a v e

pub get_set_other : {X : Type 0} (xs : List X) (k j : ℕ) (a : X) → (j ≡ k → ⊥) → slice_get (slice_set xs k a) j ≡ slice_get xs j
get_set_other [] k j a ne = refl
get_set_other (x ∷ xs) zero zero a ne = absurd (ne refl)
get_set_other (x ∷ xs) zero (suc j) a ne = refl
get_set_other (x ∷ xs) (suc k) zero a ne = refl
get_set_other (x ∷ xs) (suc k) (suc j) a ne = get_set_other xs k j a (λ e. ne (ap suc e))

pub length_set : {X : Type 0} (xs : List X) (k : ℕ) (a : X) → length (slice_set xs k a) ≡ length xs
length_set [] k a = refl
length_set (x ∷ xs) zero a = refl
length_set (x ∷ xs) (suc k) a = ap suc (length_set xs k a)

-- what is there already
pub set_same : {X : Type 0} (xs : List X) (k : ℕ) (a : X) → slice_get xs k ≡ Some a → slice_set xs k a ≡ xs
set_same [] k a e = refl
set_same (x ∷ xs) zero a e = let is : x ≡ a = cc in ap (λ y. y ∷ xs) (sym is)
set_same (x ∷ xs) (suc k) a e = ap (λ ys. x ∷ ys) (set_same xs k a e)

-- the last one counts
pub set_set : {X : Type 0} (xs : List X) (k : ℕ) (a b : X) → slice_set (slice_set xs k a) k b ≡ slice_set xs k b
set_set [] k a b = refl
set_set (x ∷ xs) zero a b = refl
set_set (x ∷ xs) (suc k) a b = ap (λ ys. x ∷ ys) (set_set xs k a b)

-- so it is of the mappings that are prepared
pub set_slot_same : (out : Mappings) (k : ℕ) (p : Option Prepared) → slice_get out.slots k ≡ Some p → set_slot out k p ≡ out
set_slot_same out k p at = ap (λ slots. record { place = out.place; slots = slots }) (set_same out.slots k p at)

pub set_slot_set : (out : Mappings) (k : ℕ) (p q : Option Prepared) → set_slot (set_slot out k p) k q ≡ set_slot out k q
set_slot_set out k p q = ap (λ slots. record { place = out.place; slots = slots }) (set_set out.slots k p q)

-- one of the mappings is let go
pub others_left : (out : Mappings) (k j : ℕ) (q : Prepared) → slice_get (set_slot out k None).slots j ≡ Some (Some q) → slice_get out.slots j ≡ Some (Some q)
others_left out k j q at = ⊎_elim (λ (none : Some q ≡ None). absurd cc) (λ same. same) (get_set out.slots k j None (Some q) at)

pub over_all_left : (f : Prepared → ℕ → ℕ) (out : Mappings) (k : ℕ) (p : Prepared) → slice_get out.slots k ≡ Some (Some p) → (c : ℕ) → over_all f (set_slot out k None) c + f p c ≡ over_all f out c
over_all_left f out k p at c = left out.slots k at where
  left : (slots : List (Option Prepared)) (k : ℕ) → slice_get slots k ≡ Some (Some p) → over_slots f (slice_set slots k None) c + f p c ≡ over_slots f slots c
  left [] k at = absurd cc
  left (q ∷ slots) zero at = let is : q ≡ Some p = cc in let one : option_map_or (λ r. f r c) q 0 ≡ f p c = ap (λ (m : Option Prepared). option_map_or (λ r. f r c) m 0) is in omega arith
  left (q ∷ slots) (suc k) at = let rest = left slots k at in omega arith

-- one more comes to a free place
pub over_all_put : (f : Prepared → ℕ → ℕ) (out : Mappings) (k : ℕ) (p : Prepared) → slice_get out.slots k ≡ Some None → (c : ℕ) → over_all f (set_slot out k (Some p)) c ≡ over_all f out c + f p c
over_all_put f out k p at c = put out.slots k at where
  put : (slots : List (Option Prepared)) (k : ℕ) → slice_get slots k ≡ Some None → over_slots f (slice_set slots k (Some p)) c ≡ over_slots f slots c + f p c
  put [] k at = absurd cc
  put (q ∷ slots) zero at = let is : q ≡ None = cc in let none : option_map_or (λ r. f r c) q 0 ≡ 0 = ap (λ (m : Option Prepared). option_map_or (λ r. f r c) m 0) is in omega arith
  put (q ∷ slots) (suc k) at = let rest = put slots k at in omega arith

-- or takes the place of another
pub over_all_set : (f : Prepared → ℕ → ℕ) (out : Mappings) (k : ℕ) (p q : Prepared) → slice_get out.slots k ≡ Some (Some p) → (c : ℕ) → over_all f (set_slot out k (Some q)) c + f p c ≡ over_all f out c + f q c
over_all_set f out k p q at c = set out.slots k at where
  set : (slots : List (Option Prepared)) (k : ℕ) → slice_get slots k ≡ Some (Some p) → over_slots f (slice_set slots k (Some q)) c + f p c ≡ over_slots f slots c + f q c
  set [] k at = absurd cc
  set (x ∷ slots) zero at = let is : x ≡ Some p = cc in let one : option_map_or (λ r. f r c) x 0 ≡ f p c = ap (λ (m : Option Prepared). option_map_or (λ r. f r c) m 0) is in omega arith
  set (x ∷ slots) (suc k) at = let rest = set slots k at in omega arith

-- two of them hold no more than all
pub over_all_two : (f : Prepared → ℕ → ℕ) (out : Mappings) (k : ℕ) (p : Prepared) (j : ℕ) (q : Prepared) → slice_get out.slots k ≡ Some (Some p) → (j ≡ k → ⊥) → slice_get out.slots j ≡ Some (Some q) → (c : ℕ) → f p c + f q c ≤ over_all f out c
over_all_two f out k p j q at apart there c =
    let rest = over_all_left f out k p at c in
    let its = over_all_at f (set_slot out k None) j q (get_set_other out.slots k j None apart ∙ there) c in
    omega arith

-- or another comes to a place that is there
pub slot_set : {P : Type 0} (means : P → PreparedMapping) (out : List (Option P)) (k : ℕ) (a v : Option P) → slice_get out k ≡ Some v
    → (j : ℕ) → meaning_at means (slice_get (slice_set out k a) j) ≡ cond (eqb j k) (meaning_at means (Some a)) (meaning_at means (slice_get out j))
slot_set means out k a v at j = elim (cases_eq j k) [
  | inl here ↦ ap (λ (i : ℕ). meaning_at means (slice_get (slice_set out k a) i)) here ∙ ap (meaning_at means) (get_set_same out k a v at) ∙ sym (cond-true _ _ _ (eq-eqb _ _ here))
  | inr other ↦ ap (meaning_at means) (get_set_other out k j a other) ∙ sym (cond-false _ _ _ (ne_eqb _ _ other))
]
