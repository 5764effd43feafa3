-- Zeros on a disk, in parts, and through a mapping that is prepared, written and committed.
use Rattle.std.proofs.Common.{◌≡◌, ◌⊎◌, ◌+◌, ◌-◌, ◌<◌, ◌≤◌, ◌∷◌, ⊎_elim, inl, inr, ℕ, List, [], length, true, false, refl, sym, ap, ◌∙◌, subst, arith, min, replicate}
use Rattle.qcow2_image.proofs.Common.{cases_lt, cases_Bool, cond-true, cond-false, get_or-replicate, length-replicate, fun_ext, byte_at, is_within, Value, known_byte, rounded_down, Disk, with_bytes, zeroed_between, PreparedMapping, IsPrepared, committed, given_by_commit, given_by_put, given_shown, put_disk, put_mapping, IsGiven, laid_inside, laid_outside, put_given, within_is, MayBeZero, given_by_zeros, TouchesLess}
use Rattle.qcow2_image.proofs.Images.UngivenCovers.{touches_less}

-- where an offset lies
pub cases_range : (from to o : ℕ) → ((from ≤ o) × (o < to)) ⊎ ((o < from) ⊎ (to ≤ o))
cases_range from to o = elim (cases_lt o from) [
  | inl below ↦ inr (inl below)
  | inr above ↦ elim (cases_lt o to) [ inl lt ↦ inl (above, lt) | inr past ↦ inr (inr past) ]
]

same_disk : (d e : Disk) → d.size ≡ e.size → ((o : ℕ) → d.value o ≡ e.value o) → d ≡ e
same_disk d e size values = ap (λ n. record d { size = n }) size ∙ ap (λ (f : ℕ → Value). record e { value = f }) (fun_ext values)

pub zero_in : (d : Disk) (from to o : ℕ) → from ≤ o → o < to → (zeroed_between d from to).value o ≡ known_byte 0
zero_in d from to o low high =
    let at : from + (o - from) ≡ o = omega (arith, low) in
    subst (λ k. (zeroed_between d from to).value k ≡ known_byte 0) at (laid_inside from (to - from) (λ i. known_byte 0) d.value (o - from) (omega (arith, low, high)))

pub zero_out : (d : Disk) (from to o : ℕ) → (o < from) ⊎ (to ≤ o) → (zeroed_between d from to).value o ≡ d.value o
zero_out d from to o (inl below) = laid_outside from (to - from) (λ i. known_byte 0) d.value o (inl below)
zero_out d from to o (inr past) = elim (cases_lt o from) [
  | inl below ↦ laid_outside from (to - from) (λ i. known_byte 0) d.value o (inl below)
  | inr above ↦ laid_outside from (to - from) (λ i. known_byte 0) d.value o (inr (omega (arith, past, above)))
]

-- of nothing, nothing is zero
pub zeroed_none : (d : Disk) (from to : ℕ) → to ≤ from → zeroed_between d from to ≡ d
zeroed_none d from to le = same_disk _ _ refl (λ o. zero_out d from to o (elim (cases_lt o from) [ inl below ↦ inl below | inr above ↦ inr (omega (arith, le, above)) ]))

-- two parts of a range, in either order
module _ (d : Disk) (from mid to : ℕ) (low : from ≤ mid) (high : mid ≤ to) where
  pub zeroed_then : zeroed_between (zeroed_between d from mid) mid to ≡ zeroed_between d from to
  zeroed_then = same_disk _ _ refl (λ o. elim (cases_range mid to o) [
    | inl second ↦ zero_in (zeroed_between d from mid) mid to o second.0 second.1 ∙ sym (zero_in d from to o (omega (arith, low, second.0)) second.1)
    | inr outside ↦ zero_out (zeroed_between d from mid) mid to o outside ∙ elim (cases_range from mid o) [
      | inl first ↦ zero_in d from mid o first.0 first.1 ∙ sym (zero_in d from to o first.0 (omega (arith, high, first.1)))
      | inr none ↦ zero_out d from mid o none ∙ sym (zero_out d from to o (neither o outside none))
    ]
  ])
    where
      neither : (o : ℕ) → (o < mid) ⊎ (to ≤ o) → (o < from) ⊎ (mid ≤ o) → (o < from) ⊎ (to ≤ o)
      neither o (inr past) none = inr past
      neither o (inl lt) (inl below) = inl below
      neither o (inl lt) (inr above) = absurd (omega (arith, lt, above))

  pub zeroed_before : zeroed_between (zeroed_between d mid to) from mid ≡ zeroed_between d from to
  zeroed_before = same_disk _ _ refl (λ o. elim (cases_range from mid o) [
    | inl first ↦ zero_in (zeroed_between d mid to) from mid o first.0 first.1 ∙ sym (zero_in d from to o first.0 (omega (arith, high, first.1)))
    | inr outside ↦ zero_out (zeroed_between d mid to) from mid o outside ∙ elim (cases_range mid to o) [
      | inl second ↦ zero_in d mid to o second.0 second.1 ∙ sym (zero_in d from to o (omega (arith, low, second.0)) second.1)
      | inr none ↦ zero_out d mid to o none ∙ sym (zero_out d from to o (neither o outside none))
    ]
  ])
    where
      neither : (o : ℕ) → (o < from) ⊎ (mid ≤ o) → (o < mid) ⊎ (to ≤ o) → (o < from) ⊎ (to ≤ o)
      neither o (inl below) none = inl below
      neither o (inr above) (inr past) = inr past
      neither o (inr above) (inl lt) = absurd (omega (arith, lt, above))

-- ---- any of some bytes may be zeros
pub may_none : (from to : ℕ) (d : Disk) → MayBeZero from to d d
may_none from to d = record { size = refl; values = λ o. inl refl }

pub may_zeroed : (from to : ℕ) (d : Disk) → MayBeZero from to d (zeroed_between d from to)
may_zeroed from to d = record {
  size = refl;
  values = λ o. elim (cases_range from to o) [ inl inside ↦ inr (inside.0, inside.1, zero_in d from to o inside.0 inside.1) | inr outside ↦ inl (zero_out d from to o outside) ];
}

pub may_wider : (from to from' to' : ℕ) (d e : Disk) → from' ≤ from → to ≤ to' → MayBeZero from to d e → MayBeZero from' to' d e
may_wider from to from' to' d e low high may = record {
  size = may.size;
  values = λ o. ⊎_elim (λ (same : e.value o ≡ d.value o). inl same) (λ (zero : (from ≤ o) × (o < to) × (e.value o ≡ known_byte 0)). inr (omega (arith, low, zero.0), omega (arith, high, zero.1), zero.2)) (may.values o);
}

pub may_then : (from to : ℕ) (d e f : Disk) → MayBeZero from to d e → MayBeZero from to e f → MayBeZero from to d f
may_then from to d e f first then = record {
  size = then.size ∙ first.size;
  values = λ o. ⊎_elim
      (λ (same : f.value o ≡ e.value o). ⊎_elim (λ (still : e.value o ≡ d.value o). inl (same ∙ still)) (λ (zero : (from ≤ o) × (o < to) × (e.value o ≡ known_byte 0)). inr (zero.0, zero.1, same ∙ zero.2)) (first.values o))
      (λ (zero : (from ≤ o) × (o < to) × (f.value o ≡ known_byte 0)). inr zero) (then.values o);
}

-- ---- what zeros give
pub zeros_wider : (from to from' to' : ℕ) → from' ≤ from → to ≤ to' → (o : ℕ) (w : Value) → IsGiven (given_by_zeros from to ∷ []) o w → IsGiven (given_by_zeros from' to' ∷ []) o w
zeros_wider from to from' to' low high o w (inr none) = absurd none
zeros_wider from to from' to' low high o w (inl given) = inl (omega (arith, given.0, low), omega (arith, given.0, given.1, low, high), given.2)

pub zeros_touch : (size_of_cluster from to from' to' : ℕ) → from' ≤ from → to ≤ to' → TouchesLess size_of_cluster (given_by_zeros from to ∷ []) (given_by_zeros from' to' ∷ [])
zeros_touch size_of_cluster from to from' to' low high = touches_less size_of_cluster _ _ _ _ low (λ some. omega (arith, low, high, some))

pub zeros_shown : (d : Disk) (from to o : ℕ) (w : Value) → IsGiven (given_by_zeros from to ∷ []) o w → IsGiven (given_shown (zeroed_between d from to) from to ∷ []) o w
zeros_shown d from to o w (inr none) = absurd none
zeros_shown d from to o w (inl given) =
    let low : from ≤ o = given.0 in
    let high : o < from + (to - from) = given.1 in
    inl (low, high, given.2 ∙ sym (zero_in d from to (from + (o - from)) (omega arith) (omega arith)))

pub shown_zeros : (d : Disk) (from to o : ℕ) (w : Value) → IsGiven (given_shown (zeroed_between d from to) from to ∷ []) o w → IsGiven (given_by_zeros from to ∷ []) o w
shown_zeros d from to o w (inr none) = absurd none
shown_zeros d from to o w (inl given) =
    let low : from ≤ o = given.0 in
    let high : o < from + (to - from) = given.1 in
    inl (low, high, given.2 ∙ zero_in d from to (from + (o - from)) (omega arith) (omega arith))

-- ---- zeros that are put into a whole mapping
abbrev pub zeros_of : ℕ → List ℕ
zeros_of n = replicate n 0

zero_byte : (n i : ℕ) → i < n → byte_at (zeros_of n) i ≡ 0
zero_byte n i lt = get_or-replicate n i 0 0 lt

zero_bytes : (d : Disk) (from n : ℕ) → with_bytes d from (zeros_of n) ≡ zeroed_between d from (from + n)
zero_bytes d from n =
    let long : length (zeros_of n) ≡ n = length-replicate n 0 in
    same_disk _ _ refl (λ o. elim (cases_range from (from + n) o) [
      | inl inside ↦
          let low : from ≤ o = inside.0 in
          let high : o < from + n = inside.1 in
          let at : from + (o - from) ≡ o = omega arith in
          subst (λ k. (with_bytes d from (zeros_of n)).value k ≡ known_byte 0) at
          (laid_inside from (length (zeros_of n)) (λ i. known_byte (byte_at (zeros_of n) i)) d.value (o - from) (omega (arith, long)) ∙ ap known_byte (zero_byte n (o - from) (omega arith)))
          ∙ sym (zero_in d from (from + n) o low high)
      | inr outside ↦
          laid_outside from (length (zeros_of n)) (λ i. known_byte (byte_at (zeros_of n) i)) d.value o (subst (λ k. (o < from) ⊎ (from + k ≤ o)) (sym long) outside)
          ∙ sym (zero_out d from (from + n) o outside)
    ])

module _ (size : ℕ) (d : Disk) (m : PreparedMapping) (offset n : ℕ) (prepared : IsPrepared size d offset n true m) (fits : m.length ≤ n) where
  abbrev zeros : List ℕ
  zeros = zeros_of m.length

  abbrev end : ℕ
  end = offset + m.length

  from_is : m.from + 0 ≡ offset
  from_is = let from = prepared.from in omega (arith, from)

  put_zeros : (e : Disk) → with_bytes e (m.from + 0) zeros ≡ zeroed_between e offset end
  put_zeros e = ap (λ k. with_bytes e k zeros) from_is ∙ zero_bytes e offset m.length

  put_value : (o : ℕ) → m.is_private o ≡ false → (put_disk d m 0 zeros).value o ≡ (zeroed_between d offset end).value o
  put_value o plain = cond-false (m.is_private o) (d.value o) ((with_bytes d (m.from + 0) zeros).value o) plain ∙ ap (λ (e : Disk). e.value o) (put_zeros d)

  put_private : (o : ℕ) → m.is_private o ≡ true → (put_disk d m 0 zeros).value o ≡ d.value o
  put_private o private = cond-true (m.is_private o) (d.value o) ((with_bytes d (m.from + 0) zeros).value o) private

  put_out : (o : ℕ) → (o < offset) ⊎ (end ≤ o) → (put_disk d m 0 zeros).value o ≡ d.value o
  put_out o outside = elim (cases_Bool (m.is_private o)) [ inl private ↦ put_private o private | inr plain ↦ put_value o plain ∙ zero_out d offset end o outside ]

  not_announced : (o : ℕ) → (o < offset) ⊎ (end ≤ o) → is_within offset (min n m.length) o ≡ false
  not_announced o outside = elim (cases_Bool (is_within offset (min n m.length) o)) [
    | inr is ↦ is
    | inl inside ↦ absurd (never o outside (within_is offset (min n m.length) o inside))
  ]
    where
      never : (o : ℕ) → (o < offset) ⊎ (end ≤ o) → (offset ≤ o) × (o < offset + min n m.length) → ⊥
      never o (inl below) is = omega (arith, below, is.0)
      never o (inr past) is = let high : o < offset + min n m.length = is.1 in omega (arith, past, high)

  shown_now : (o : ℕ) → m.is_private o ≡ true → (put_mapping m 0 zeros).shown o ≡ (zeroed_between d offset end).value o
  shown_now o private =
      let e : Disk = record d { value = m.shown } in
      cond-true (m.is_private o) ((with_bytes e (m.from + 0) zeros).value o) (m.shown o) private
      ∙ ap (λ (x : Disk). x.value o) (put_zeros e)
      ∙ elim (cases_range offset end o) [
        | inl inside ↦ zero_in e offset end o inside.0 inside.1 ∙ sym (zero_in d offset end o inside.0 inside.1)
        | inr outside ↦ zero_out e offset end o outside ∙ prepared.old_values o private (not_announced o outside) ∙ sym (zero_out d offset end o outside)
      ]

  pub filled : committed (put_disk d m 0 zeros) (put_mapping m 0 zeros) ≡ zeroed_between d offset end
  filled = same_disk _ _ refl (λ o. elim (cases_Bool (m.is_private o)) [
    | inl private ↦ cond-true (m.is_private o) ((put_mapping m 0 zeros).shown o) ((put_disk d m 0 zeros).value o) private ∙ shown_now o private
    | inr plain ↦ cond-false (m.is_private o) ((put_mapping m 0 zeros).shown o) ((put_disk d m 0 zeros).value o) plain ∙ put_value o plain
  ])

  -- what is put is zeros, or where it is hidden what was there
  pub put_within : (o : ℕ) (w : Value) → IsGiven (given_by_put d m 0 zeros ∷ []) o w → (w ≡ d.value o) ⊎ IsGiven (given_by_zeros offset end ∷ []) o w
  put_within o w given =
      let is = put_given d m 0 zeros o w given in
      let from = prepared.from in
      let long : length zeros ≡ m.length = length-replicate m.length 0 in
      let low : m.from + 0 ≤ o = is.0 in
      let high : o < m.from + 0 + length zeros = is.1 in
      elim (cases_Bool (m.is_hidden o)) [
        | inl hidden ↦ inl (is.2 ∙ cond-true (m.is_hidden o) (d.value o) (known_byte (byte_at zeros (o - (m.from + 0)))) hidden)
        | inr shown ↦ inr (inl (
          omega (arith, from, low),
          omega (arith, from, long, low, high),
          is.2 ∙ cond-false (m.is_hidden o) (d.value o) (known_byte (byte_at zeros (o - (m.from + 0)))) shown ∙ ap known_byte (zero_byte m.length (o - (m.from + 0)) (omega (arith, long, low, high))),
        ))
      ]

  -- what becomes visible is zeros, or was there
  pub commit_within : (cs o : ℕ) (w : Value) → IsGiven (given_by_commit cs (put_disk d m 0 zeros) (put_mapping m 0 zeros) ∷ []) o w → (w ≡ (put_disk d m 0 zeros).value o) ⊎ IsGiven (given_by_zeros offset end ∷ []) o w
  commit_within cs o w (inr none) = absurd none
  commit_within cs o w (inl given) =
      let first = rounded_down cs m.from in
      let low : rounded_down cs m.from ≤ o = given.0 in
      let back : rounded_down cs m.from + (o - rounded_down cs m.from) ≡ o = omega arith in
      let is : w ≡ (zeroed_between d offset end).value o = given.2 ∙ ap (λ k. (committed (put_disk d m 0 zeros) (put_mapping m 0 zeros)).value k) back ∙ ap (λ (e : Disk). e.value o) filled in
      elim (cases_range offset end o) [
        | inl inside ↦ inr (inl (inside.0, (let lt : o < end = inside.1 in omega arith), is ∙ zero_in d offset end o inside.0 inside.1))
        | inr outside ↦ inl (is ∙ zero_out d offset end o outside ∙ sym (put_out o outside))
      ]
