-- The whole clusters of a range, as numbers.
use Rattle.std.proofs.Common.{◌≡◌, ◌+◌, ◌-◌, ◌*◌, ◌/◌, ◌%◌, ◌^◌, ◌<◌, ◌≤◌, ◌∷◌, ◌++◌, inl, inr, ℕ, Option, Some, None, List, [], refl, sym, ap, ◌∙◌, arith, cond, min, nat_lt}
use Rattle.qcow2_image.proofs.Common.{IfSome, SomeIff, cases_lt, cond-true, cond-false, lt-ltb, le-ltb, div-add-mod', div-mul-add, mod_below, rounded_up}

module _ (size offset : ℕ) (some : 0 < size) where
  pub on_boundary : offset % size ≡ 0 → rounded_up size offset ≡ offset
  on_boundary none =
      let is : offset / size * size + offset % size ≡ offset = div-add-mod' offset size in
      let e : offset + size - 1 ≡ offset / size * size + (size - 1) = omega (arith, is, none, some) in
      ap (λ n. n / size * size) e ∙ ap (λ n. n * size) (div-mul-add (offset / size) size (size - 1) (omega (arith, some))) ∙ omega (arith, is, none)

  pub rounds_off : 0 < offset % size → rounded_up size offset ≡ offset + (size - offset % size)
  rounds_off behind =
      let is : offset / size * size + offset % size ≡ offset = div-add-mod' offset size in
      let below = mod_below offset size some in
      let r : (offset / size + 1) * size ≡ offset / size * size + size = omega arith in
      let e : offset + size - 1 ≡ (offset / size + 1) * size + (offset % size - 1) = omega (arith, is, behind, some, r) in
      ap (λ n. n / size * size) e ∙ ap (λ n. n * size) (div-mul-add (offset / size + 1) size (offset % size - 1) (omega (arith, below, behind))) ∙ omega (arith, is, r, below)

  pub rounded_from : offset ≤ rounded_up size offset
  rounded_from =
      let is : (offset + size - 1) / size * size + (offset + size - 1) % size ≡ offset + size - 1 = div-add-mod' (offset + size - 1) size in
      let below = mod_below (offset + size - 1) size some in
      omega (arith, is, below, some)

  rounded_as : (offset % size ≡ 0 → ⊥) → rounded_up size offset ≡ offset + (size - offset % size)
  rounded_as off = rounds_off (elim (cases_lt 0 (offset % size)) [ inl some ↦ some | inr none ↦ absurd (off (omega (arith, none))) ])

  pub some_rounded : (offset % size ≡ 0 → ⊥) → (r : Option ℕ) → SomeIff r (offset + (size - offset % size) < 2 ^ 64) (offset + (size - offset % size)) → IfSome r (λ n. n ≡ rounded_up size offset)
  some_rounded off None is = tt
  some_rounded off (Some n) is = is.1 ∙ sym (rounded_as off)

  pub none_rounded : (offset % size ≡ 0 → ⊥) → (r : Option ℕ) → SomeIff r (offset + (size - offset % size) < 2 ^ 64) (offset + (size - offset % size)) → r ≡ None → 2 ^ 64 ≤ rounded_up size offset
  none_rounded off None is none = elim (cases_lt (offset + (size - offset % size)) (2 ^ 64)) [ inl within ↦ absurd (is within) | inr past ↦ let e = rounded_as off in omega (arith, e, past) ]
  none_rounded off (Some n) is none = absurd cc

pub nothing_more : {A : Type 0} (l : List A) → l ≡ l ++ []
nothing_more [] = refl
nothing_more (x ∷ l) = ap (λ r. x ∷ r) (nothing_more l)

-- the range that is answered: where it begins, and how much of it was cleared
abbrev span : ℕ → ℕ → ℕ × ℕ
span from length = (from, length)

module _ (from to offset n : ℕ) where
  pub none_answered : (first : ℕ) → first ≡ from → to ≤ from → span first 0 ≡ span from (cond (nat_lt from to) (min to (offset + n) - from) 0)
  none_answered first is none = ap (λ (k : ℕ). span k 0) is ∙ ap (λ (k : ℕ). span from k) (sym (cond-false (nat_lt from to) (min to (offset + n) - from) 0 (le-ltb from to none)))

  pub some_answered : (first length : ℕ) → first ≡ from → from < to → length ≡ min to (offset + n) - from → span first length ≡ span from (cond (nat_lt from to) (min to (offset + n) - from) 0)
  some_answered first length is some many =
      ap (λ (k : ℕ). span k length) is ∙ ap (λ (k : ℕ). span from k) (many ∙ sym (cond-true (nat_lt from to) (min to (offset + n) - from) 0 (lt-ltb from to some)))
