-- Entries of a cache that are all pinned, as invalidating the cache leaves them.
use Rattle.std.proofs.Common.{◌≡◌, ◌<◌, ◌==◌, ◌∷◌, ℕ, Bool, true, false, List, [], length, inl, inr, refl, sym, ap, ◌∙◌, arith, IsSome}
use Rattle.qcow2_image.proofs.Common.{nat_tests, cases_Bool, eq-eqb, is_pinned, pinned, pins_at, value_at, Slot, length-pinned, pinned_gone, pinned_kept}

module _ {V : Type 0} where
  tail_is : {e : ℕ × Slot V} {es fs : List (ℕ × Slot V)} → e ∷ es ≡ e ∷ fs → es ≡ fs
  tail_is is = cc

  -- the first one has a pin, and so have the others
  parts : (e : ℕ × Slot V) (es : List (ℕ × Slot V)) → pinned (e ∷ es) ≡ e ∷ es → (is_pinned e.1 ≡ true) × (pinned es ≡ es)
  parts e es all = elim (cases_Bool (is_pinned e.1)) [
    | inl some ↦ (some, tail_is (sym (pinned_kept e es some) ∙ all))
    | inr none ↦
        let fewer = length-pinned es in
        let same : length (pinned es) ≡ length (e ∷ es) = ap length (sym (pinned_gone e es none) ∙ all) in
        absurd (omega (arith, fewer, same))
  ]

  has_pin : (s : Slot V) → is_pinned s ≡ true → 0 < s.pins
  has_pin s some = grind (arith, nat_tests)

  -- the key of the first one has a pin
  pub some_pinned : (es : List (ℕ × Slot V)) → pinned es ≡ es → 0 < length es → (k : ℕ) × (0 < pins_at (λ j. k == j) es)
  some_pinned [] all some = absurd (omega (arith, some))
  some_pinned (e ∷ es) all some =
      let here : (e.0 == e.0) ≡ true = eq-eqb e.0 e.0 refl in
      (e.0, rw here (has_pin e.1 (parts e es all).0))

  -- each key that is there has one
  pub held_pinned : (test : ℕ → Bool) (es : List (ℕ × Slot V)) → pinned es ≡ es → IsSome (value_at test es) → 0 < pins_at test es
  held_pinned test [] all held = absurd (let no : false ≡ true = held in cc)
  held_pinned test (e ∷ es) all held =
      let both = parts e es all in
      elim (cases_Bool (test e.0)) [
        | inl here ↦ rw here (has_pin e.1 both.0)
        | inr other ↦ rw other (held_pinned test es both.1 (rw other at held))
      ]
