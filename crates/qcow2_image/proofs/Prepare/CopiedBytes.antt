-- What is copied into a new cluster: all bytes that the caller did not promise to overwrite.
use Rattle.std.proofs.Common.{◌≡◌, ◌⊎◌, ◌+◌, ◌-◌, ◌*◌, ◌/◌, ◌%◌, ◌<◌, ◌≤◌, ◌&&◌, ◌==◌, inl, inr, ℕ, Bool, true, false, Option, Some, None, sym, ◌∙◌, subst, arith, min, nat_lt}
use Rattle.qcow2_image.proofs.Common.{cases_lt, cases_eq, cond-true, cond-false, eq-eqb, ne_eqb, and_from, le-leb, lt-ltb, div-add-mod', mod_below, div-mul-le_self, is_within, CopyRange, HasByte, announced_range_of, copy_range_of, uncut_copy_range}

-- a byte lies in a range
pub record IsInside (r : CopyRange) (i : ℕ) : Type 0 where
  pub from : r.start ≤ i
  pub below : i < r.end

-- what isn't announced is in what is to be copied, before that is rounded
module _ (cs start length i : ℕ) (within : start < cs) (lt : i < cs) where
  left : (o : Bool) → (o && is_within start (min length (cs - start)) i) ≡ false → IsInside (uncut_copy_range cs (announced_range_of cs start length o)) i
  left false none = record { from = omega arith; below = lt }
  left true none =
      let end = start + min length (cs - start) in
      let out : (i < start) ⊎ (start + min length (cs - start) ≤ i) = elim (cases_lt i start) [
        | inl below ↦ inl below
        | inr above ↦ elim (cases_lt i (start + min length (cs - start))) [
          | inl inside ↦ absurd (let yes : is_within start (min length (cs - start)) i ≡ true = and_from _ _ (le-leb start i above) (lt-ltb i (start + min length (cs - start)) inside) in let t : true ≡ false = sym yes ∙ none in cc)
          | inr past ↦ inr past
        ]
      ] in
      elim (cases_eq start 0) [
        | inl zero ↦
            subst (λ r. IsInside r i) (sym (cond-true (start == 0) _ _ (eq-eqb start 0 zero)))
            (record { from = elim out [ inl below ↦ omega arith | inr past ↦ past ]; below = lt })
        | inr some ↦
            subst (λ r. IsInside r i) (sym (cond-false (start == 0) _ _ (ne_eqb start 0 some)))
            (elim (cases_eq (start + min length (cs - start)) cs) [
              | inl whole ↦
                  subst (λ r. IsInside r i) (sym (cond-true (start + min length (cs - start) == cs) _ _ (eq-eqb _ cs whole)))
                  (record { from = omega arith; below = elim out [ inl below ↦ below | inr past ↦ absurd (omega arith) ] })
              | inr part ↦
                  subst (λ r. IsInside r i) (sym (cond-false (start + min length (cs - start) == cs) _ _ (ne_eqb _ cs part)))
                  (record { from = omega arith; below = lt })
            ])
      ]

-- what is rounded up isn't less
rounds : (end step : ℕ) → 0 < step → end ≤ (end + step - 1) / step * step
rounds end step some =
    let is : (end + step - 1) / step * step + (end + step - 1) % step ≡ end + step - 1 = div-add-mod' (end + step - 1) step in
    let rest = mod_below (end + step - 1) step some in
    omega arith

pub copied : (cs alignment start length i : ℕ) (o : Bool) → 0 < alignment → start < cs → i < cs → (o && is_within start (min length (cs - start)) i) ≡ false
    → (r : CopyRange) × (copy_range_of cs alignment (announced_range_of cs start length o) ≡ Some r) × IsInside r i
copied cs alignment start length i o some within lt none =
    let u = uncut_copy_range cs (announced_range_of cs start length o) in
    let inside = left cs start length i within lt o none in
    let step = min alignment cs in
    let from = inside.from in
    let below = inside.below in
    let down = div-mul-le_self (uncut_copy_range cs (announced_range_of cs start length o)).start (min alignment cs) in
    let up = rounds (uncut_copy_range cs (announced_range_of cs start length o)).end (min alignment cs) (omega arith) in (
      record { start = u.start / step * step; end = min ((u.end + step - 1) / step * step) cs },
      cond-true (nat_lt u.start u.end) _ _ (lt-ltb u.start u.end (omega arith)),
      record { from = omega arith; below = omega arith },
    )

-- so does one of the part that was found
pub none_has : (r : Option CopyRange) (i : ℕ) → r ≡ None → HasByte r i → ⊥
none_has None i is has = has
none_has (Some r) i is has = absurd cc

pub some_has : (r : Option CopyRange) (s : CopyRange) (i : ℕ) → r ≡ Some s → HasByte r i → HasByte (Some s) i
some_has r s i is has = subst (λ (x : Option CopyRange). HasByte x i) is has

pub has_copied : (cs alignment start length : ℕ) (o : Bool) (r : Option CopyRange) → 0 < alignment → start < cs → r ≡ copy_range_of cs alignment (announced_range_of cs start length o)
    → (i : ℕ) → i < cs → (o && is_within start (min length (cs - start)) i) ≡ false → HasByte r i
has_copied cs alignment start length o r some within is i lt none =
    let all = copied cs alignment start length i o some within lt none in
    subst (λ (x : Option CopyRange). HasByte x i) (sym (is ∙ all.1)) (all.2.from, all.2.below)
