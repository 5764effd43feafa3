-- Replacing the backing disk of a sound image with prepared mappings.
use Rattle.std.proofs.Common.{◌≡◌, ◌+◌, ◌<◌, ◌∷◌, inl, inr, ℕ, zero, suc, List, [], Option, Some, None, refl, sym, subst, arith, is_some, true, IsSome}
use Rattle.qcow2_image.proofs.Common.{slice_get, IfSome, option_map_or, cases_lt, eq-eqb, BackingView, StorageView, one_if, Qcow2, Prepared, table_of, pins_by, pins_of, over_all, abstract_of, HasPinnedTable, HasPinnedMapping, Mappings, over_slots}
use Rattle.qcow2_alloc.specs.ImageFile.{l2_pins}
use Rattle.qcow2_image.specs.declared.mapping.Place.{Place}

-- ---- pins

one_here : (t : ℕ) (o : Option ℕ) → o ≡ Some t → 0 < pins_of o t
one_here t o is = subst (λ (p : Option ℕ). 0 < pins_of p t) (sym is) (subst (λ b. 0 < one_if b) (sym (eq-eqb t t refl)) (omega arith))

-- a mapping that isn't existing pins its table
pins_all : (slots : List (Option Prepared)) (k : ℕ) (p : Prepared) (t : ℕ) → slice_get slots k ≡ Some (Some p) → table_of p ≡ Some t → 0 < over_slots pins_by slots t
pins_all [] k p t there is = absurd (cc)
pins_all (q ∷ slots) zero p t there is =
    let here : q ≡ Some p = cc in
    subst (λ (o : Option Prepared). 0 < option_map_or (λ r. pins_by r t) o 0 + over_slots pins_by slots t) (sym here) (let one = one_here t (table_of p) is in omega arith)
pins_all (q ∷ slots) (suc k) p t there is = let rest = pins_all slots k p t there is in omega arith

some_table : (o : Option ℕ) (t : ℕ) → 0 < pins_of o t → IsSome o
some_table None t lt = absurd (omega arith)
some_table (Some s) t lt = refl

-- a table that is pinned is pinned by one of them
pub pinned_by : (out : Mappings) (t : ℕ) → 0 < over_all pins_by out t → HasPinnedMapping out
pinned_by out t lt = at out.place out.slots lt where
  at : (place : Place) (slots : List (Option Prepared)) → 0 < over_slots pins_by slots t → HasPinnedMapping (record { place = place; slots = slots })
  at place [] lt = absurd (omega arith)
  at place (None ∷ slots) lt = let rest = at place slots (omega arith) in record { place = suc rest.place; mapping = rest.mapping; there = rest.there; pins = rest.pins }
  at place (Some p ∷ slots) lt = elim (cases_lt 0 (pins_by p t)) [
    | inl here ↦ record { place = zero; mapping = p; there = refl; pins = some_table (table_of p) t here }
    | inr none ↦ let rest = at place slots (omega arith) in record { place = suc rest.place; mapping = rest.mapping; there = rest.there; pins = rest.pins }
  ]

pub table_is : (o : Option ℕ) → IsSome o → (t : ℕ) × (o ≡ Some t)
table_is None some = absurd (cc)
table_is (Some t) some = (t, refl)

module _ {S F : Type 0} (view : S → StorageView) (backing : F → BackingView) (image : Qcow2 S F) (out : Mappings) (sound : (abstract_of view backing image out).is_sound) where
  -- without a pin there is none
  pub none_prepared : ((t : ℕ) → l2_pins image.file.caches t ≡ 0) → HasPinnedMapping out → ⊥
  none_prepared none has =
      let t = table_is (table_of has.mapping) has.pins in
      let some = pins_all out.slots has.place has.mapping t.0 has.there t.1 in
      let is = sound.pinned t.0 in
      let no = none t.0 in
      omega arith

  pub some_prepared : (t : ℕ) → 0 < l2_pins image.file.caches t → HasPinnedMapping out
  some_prepared t some = pinned_by out t (subst (λ n. 0 < n) (sound.pinned t) some)

  -- a mapping that isn't existing keeps a table
  pub table_prepared : HasPinnedMapping out → HasPinnedTable image
  table_prepared has =
      let t = table_is (table_of has.mapping) has.pins in
      let some = pins_all out.slots has.place has.mapping t.0 has.there t.1 in
      let is = sound.pinned t.0 in
      record { cluster = t.0; pins = omega (arith, some, is) }

-- what the search for a pinned table found
pub found_pinned : (pins : ℕ → ℕ) (r : Option ℕ) → IfSome r (λ t. 0 < pins t) → is_some r ≡ true → (t : ℕ) × (0 < pins t)
found_pinned pins None found some = absurd (cc)
found_pinned pins (Some t) found some = (t, found)
