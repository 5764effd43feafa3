-- The part of a range that a clearing call returns, as numbers.
use Rattle.std.proofs.Common.{◌≡◌, ◌⊎◌, ◌+◌, ◌-◌, ◌*◌, ◌/◌, ◌%◌, ◌<◌, ◌≤◌, if◌then◌else◌, ◌∙◌, inl, inr, ℕ, sym, ap, add-mul, mul_assoc, arith, min}
use Rattle.qimg_nbd.proofs.Common.{nat_eq, nat_lt, cases_eq, cases_lt, cond-false, cond-true, eq-eqb, le-ltb, lt-ltb, ne_eqb, rounded_down, rounded_up, answered, touched_from, touched_to, AreUnits}
use native.Mathlib.Nat.{mul-mod_left}
use Rattle.std.proofs.lemmas.Nat.{div-add-mod'}

-- how much of what is touched lies in front of the range's end
pub answered_length : (from to end : ℕ) → ((from < to) × ((if nat_lt from to then min to end - from else 0) ≡ min to end - from)) ⊎ ((to ≤ from) × ((if nat_lt from to then min to end - from else 0) ≡ 0))
answered_length from to end = elim (cases_lt from to) [ inl lt ↦ inl (lt, cond-true _ _ _ (lt-ltb from to lt)) | inr ge ↦ inr (ge, cond-false _ _ _ (le-ltb from to ge)) ]

-- what is touched passes the range's end only where that is the disk's
pub touched_within : (cs size offset n : ℕ) → (touched_to cs size offset n ≤ offset + n) ⊎ (offset + n ≡ size)
touched_within cs size offset n = elim (cases_eq (offset + n) size) [
  | inl same ↦ inr same
  | inr other ↦ inl
      (let table = rounded_down (cs / 8 * cs) (touched_from cs offset) + cs / 8 * cs in
      let e : touched_to cs size offset n ≡ min (rounded_down cs (offset + n)) table = ap (λ (k : ℕ). min k table) (cond-false _ _ _ (ne_eqb (offset + n) size other)) in
      let down : (offset + n) / cs * cs + (offset + n) % cs ≡ offset + n = div-add-mod' (offset + n) cs in
      omega (arith, e, down))
]

-- the end of an L2 table is one of a cluster
table_end : (cs x : ℕ) → (rounded_down (cs / 8 * cs) x + cs / 8 * cs) % cs ≡ 0
table_end cs x =
    let t = cs / 8 * cs in
    let a : x / t * t ≡ x / t * (cs / 8) * cs = sym (mul_assoc (x / t) (cs / 8) cs) in
    let b : x / t * (cs / 8) * cs + cs / 8 * cs ≡ (x / t * (cs / 8) + cs / 8) * cs = sym (add-mul (x / t * (cs / 8)) (cs / 8) cs) in
    ap (λ (k : ℕ). k % cs) (ap (λ (k : ℕ). k + cs / 8 * cs) a ∙ b) ∙ mul-mod_left (x / t * (cs / 8) + cs / 8) cs

lesser : (cs a b : ℕ) → a % cs ≡ 0 → b % cs ≡ 0 → min a b % cs ≡ 0
lesser cs a b p q = elim (cases_lt a b) [ inl lt ↦ let e : min a b ≡ a = omega arith in ap (λ (k : ℕ). k % cs) e ∙ p | inr ge ↦ let e : min a b ≡ b = omega arith in ap (λ (k : ℕ). k % cs) e ∙ q ]

-- where the part ends that is answered: at a cluster's end, or at the disk's
part_end : (cs size offset n : ℕ) → ((min (touched_to cs size offset n) (offset + n)) % cs ≡ 0) ⊎ (size ≤ min (touched_to cs size offset n) (offset + n))
part_end cs size offset n =
    let end = offset + n in
    let table = rounded_down (cs / 8 * cs) (rounded_up cs offset) + cs / 8 * cs in
    elim (cases_eq end size) [
      | inl same ↦
          let to = touched_to cs size offset n in
          elim (cases_lt to end) [
            | inl lt ↦
                let e : to ≡ min (rounded_up cs end) table = ap (λ (k : ℕ). min k table) (cond-true (nat_eq end size) (rounded_up cs end) (rounded_down cs end) (eq-eqb end size same)) in
                let all : to % cs ≡ 0 = ap (λ (k : ℕ). k % cs) e ∙ lesser cs (rounded_up cs end) table (mul-mod_left ((end + cs - 1) / cs) cs) (table_end cs (rounded_up cs offset)) in
                let f : min to end ≡ to = omega (arith, lt) in
                inl (ap (λ (k : ℕ). k % cs) f ∙ all)
            | inr ge ↦ inr (omega (arith, ge, same))
          ]
      | inr other ↦
          let to = touched_to cs size offset n in
          let e : to ≡ min (rounded_down cs end) table = ap (λ (k : ℕ). min k table) (cond-false (nat_eq end size) (rounded_up cs end) (rounded_down cs end) (ne_eqb end size other)) in
          let all : to % cs ≡ 0 = ap (λ (k : ℕ). k % cs) e ∙ lesser cs (rounded_down cs end) table (mul-mod_left (end / cs) cs) (table_end cs (rounded_up cs offset)) in
          let down : end / cs * cs + end % cs ≡ end = div-add-mod' end cs in
          let f : min to end ≡ to = omega (arith, e, down) in
          inl (ap (λ (k : ℕ). k % cs) f ∙ all)
    ]

pub part_units : (cs size offset n : ℕ) → 0 < cs → 0 < (answered cs size offset n).1 → AreUnits cs size (answered cs size offset n).0 ((answered cs size offset n).0 + (answered cs size offset n).1)
part_units cs size offset n some many =
    let from = touched_from cs offset in
    let to = touched_to cs size offset n in
    elim (answered_length from to (offset + n)) [
      | inl is ↦
          let e : from + (answered cs size offset n).1 ≡ min to (offset + n) = omega (arith, is.1, is.0, many) in
          record {
            some = some;
            begins = mul-mod_left ((offset + cs - 1) / cs) cs;
            ends = elim (part_end cs size offset n) [ inl whole ↦ inl (ap (λ (k : ℕ). k % cs) e ∙ whole) | inr all ↦ inr (omega (arith, e, all)) ];
          }
      | inr is ↦ absurd (omega (arith, is.1, many))
    ]
