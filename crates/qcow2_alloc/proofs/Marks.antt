-- Marked keys by their rising numbers, and how many there are.
use Rattle.qcow2_alloc.proofs.Common.{none-some, same_Some, lookup, remove_entry, set_value, option_map_or, number_at, Rise, count_below, marks_of, marked_count, IsLastBelow}
use Rattle.std.proofs.Common.{◌≡◌, ◌≢◌, ◌+◌, ◌<◌, ◌≤◌, ◌∷◌, ℕ, zero, suc, Bool, true, false, cond, eqb, ltb, ltb-true, ltb-false, List, [], length, get_or, insert, remove, slice_get, Option, Some, None, is_some, refl, sym, ap, ◌∙◌, arith, IsSome, lt-ltb, eqb-true, eq-eqb, ne_eqb}
use Rattle.std.specs.List.Sorted.{IsPartitionPoint, IsNonDecreasingBy}

apart : (n m : ℕ) → n < m → eqb n m ≡ false
apart n m low = ne_eqb n m (λ e. omega (arith, e, low))

behind_it : (n m : ℕ) → m < n → eqb n m ≡ false
behind_it n m low = ne_eqb n m (λ e. omega (arith, e, low))

itself : (n : ℕ) → eqb n n ≡ true
itself n = eq-eqb n n refl

none_there : {P : Type 0} → false ≡ true → P
none_there h = absurd cc

pub got_at : {X : Type 0} (xs : List X) (i : ℕ) (x : X) → true ≡ ltb i (length xs) → x ≡ get_or xs i x → Some x ≡ slice_get xs i
got_at [] i x within is = absurd (let low = ltb-true i 0 (sym within) in omega (arith, low))
got_at (y ∷ ys) zero x within is = ap Some is
got_at (y ∷ ys) (suc i) x within is = got_at ys i x (sym (lt-ltb i (length ys) (let low = ltb-true (suc i) (suc (length ys)) (sym within) in omega (arith, low)))) is

module _ {K : Type 0} where
  rise_from : (a b : ℕ) (ms : List (ℕ × K)) → a ≤ b → Rise b ms → Rise a ms
  rise_from a b [] le r = tt
  rise_from a b (m ∷ ms) le r = let up = r.0 in (omega (arith, le, up), r.1)

  -- nothing is marked below the bound
  absent_below : (n b : ℕ) (ms : List (ℕ × K)) → n < b → Rise b ms → number_at ms n ≡ None
  absent_below n b [] low r = refl
  absent_below n b (m ∷ ms) low r = let up = r.0 in rw (apart n m.0 (omega (arith, low, up))) (absent_below n (m.0 + 1) ms (omega (arith, low, up)) r.1)

  -- nor above, where no number is below n
  none_low : (n b j : ℕ) (ms : List (ℕ × K)) → count_below n ms ≡ 0 → Rise b ms → j < n → number_at ms j ≡ None
  none_low n b j [] none r low = refl
  none_low n b j (m ∷ ms) none r low = (elim (ltb m.0 n) as (λ y. ltb m.0 n ≡ y → number_at (m ∷ ms) j ≡ None) [
    | true ↦ λ t. absurd (let bad : suc (count_below n ms) ≡ 0 = rw t at none in omega (arith, bad))
    | false ↦ λ t. let high = ltb-false m.0 n t in rw (apart j m.0 (omega (arith, low, high))) (absent_below j (m.0 + 1) ms (omega (arith, low, high)) r.1)
  ]) refl

  -- ---- one more

  pub put_here : (n : ℕ) (k : K) (ms : List (ℕ × K)) → number_at ms n ≡ None → number_at (insert ms (count_below n ms) (n, k)) n ≡ Some k
  put_here n k [] none = rw (itself n) refl
  put_here n k (m ∷ ms) none = (elim (ltb m.0 n) as (λ y. ltb m.0 n ≡ y → number_at (insert (m ∷ ms) (cond y (suc (count_below n ms)) 0) (n, k)) n ≡ Some k) [
    | true ↦ λ t. let other = behind_it n m.0 (ltb-true m.0 n t) in rw other (put_here n k ms (rw other at none))
    | false ↦ λ t. rw (itself n) refl
  ]) refl

  pub put_beside : (n j : ℕ) (k : K) (ms : List (ℕ × K)) → j ≢ n → number_at (insert ms (count_below n ms) (n, k)) j ≡ number_at ms j
  put_beside n j k [] other = rw (ne_eqb j n other) refl
  put_beside n j k (m ∷ ms) other = elim (ltb m.0 n) as (λ y. number_at (insert (m ∷ ms) (cond y (suc (count_below n ms)) 0) (n, k)) j ≡ number_at (m ∷ ms) j) [
    | true ↦ elim (eqb j m.0) as (λ y. cond y (Some m.1) (number_at (insert ms (count_below n ms) (n, k)) j) ≡ cond y (Some m.1) (number_at ms j)) [
      | true ↦ refl
      | false ↦ put_beside n j k ms other
    ]
    | false ↦ rw (ne_eqb j n other) refl
  ]

  pub put_rise : (b n : ℕ) (k : K) (ms : List (ℕ × K)) → b ≤ n → number_at ms n ≡ None → Rise b ms → Rise b (insert ms (count_below n ms) (n, k))
  put_rise b n k [] le none r = (le, tt)
  put_rise b n k (m ∷ ms) le none r = (elim (ltb m.0 n) as (λ y. ltb m.0 n ≡ y → Rise b (insert (m ∷ ms) (cond y (suc (count_below n ms)) 0) (n, k))) [
    | true ↦ λ t.
        let low = ltb-true m.0 n t in
        (r.0, put_rise (m.0 + 1) n k ms (omega (arith, low)) (rw (behind_it n m.0 low) at none) r.1)
    | false ↦ λ t.
        let high = ltb-false m.0 n t in
        let differs : n ≢ m.0 = λ e. none-some m.1 (sym (rw (eq-eqb n m.0 e) at none)) in
        (le, (above n m.0 high differs, r.1))
  ]) refl
    where
      above : (n m : ℕ) → n ≤ m → n ≢ m → n + 1 ≤ m
      above n m high differs = omega (arith, high, differs)

  -- ---- one less

  pub take_within : (n : ℕ) (ms : List (ℕ × K)) → is_some (number_at ms n) ≡ true → count_below n ms < length ms
  take_within n [] h = none_there h
  take_within n (m ∷ ms) h = (elim (ltb m.0 n) as (λ y. ltb m.0 n ≡ y → cond y (suc (count_below n ms)) 0 < suc (length ms)) [
    | true ↦ λ t. let deep = take_within n ms (rw (behind_it n m.0 (ltb-true m.0 n t)) at h) in omega (arith, deep)
    | false ↦ λ t. omega arith
  ]) refl

  pub take_here : (b n : ℕ) (ms : List (ℕ × K)) → Rise b ms → is_some (number_at ms n) ≡ true → number_at (remove ms (count_below n ms)) n ≡ None
  take_here b n [] r h = none_there h
  take_here b n (m ∷ ms) r h = (elim (ltb m.0 n) as (λ y. ltb m.0 n ≡ y → number_at (remove (m ∷ ms) (cond y (suc (count_below n ms)) 0)) n ≡ None) [
    | true ↦ λ t. let other = behind_it n m.0 (ltb-true m.0 n t) in rw other (take_here (m.0 + 1) n ms r.1 (rw other at h))
    | false ↦ λ t. let high = ltb-false m.0 n t in absent_below n (m.0 + 1) ms (omega (arith, high)) r.1
  ]) refl

  -- the number in front is n where it isn't below
  front_is : (n : ℕ) (m : ℕ × K) (ms : List (ℕ × K)) → n ≤ m.0 → Rise (m.0 + 1) ms → is_some (number_at (m ∷ ms) n) ≡ true → n ≡ m.0
  front_is n m ms high r h = (elim (eqb n m.0) as (λ y. eqb n m.0 ≡ y → n ≡ m.0) [
    | true ↦ λ t. eqb-true n m.0 t
    | false ↦ λ t. none_there (sym (ap is_some (absent_below n (m.0 + 1) ms (omega (arith, high)) r)) ∙ (rw t at h))
  ]) refl

  pub take_beside : (b n j : ℕ) (ms : List (ℕ × K)) → Rise b ms → is_some (number_at ms n) ≡ true → j ≢ n → number_at (remove ms (count_below n ms)) j ≡ number_at ms j
  take_beside b n j [] r h other = none_there h
  take_beside b n j (m ∷ ms) r h other = (elim (ltb m.0 n) as (λ y. ltb m.0 n ≡ y → number_at (remove (m ∷ ms) (cond y (suc (count_below n ms)) 0)) j ≡ number_at (m ∷ ms) j) [
    | true ↦ λ t.
        elim (eqb j m.0) as (λ y. cond y (Some m.1) (number_at (remove ms (count_below n ms)) j) ≡ cond y (Some m.1) (number_at ms j)) [ true ↦ refl | false ↦ (take_beside (m.0 + 1) n j ms r.1 (rw (behind_it n m.0 (ltb-true m.0 n t)) at h) other) ]
    | false ↦ λ t. let is = front_is n m ms (ltb-false m.0 n t) r.1 h in rw (ne_eqb j m.0 (λ e. other (e ∙ sym is))) refl
  ]) refl

  pub take_rise : (b n : ℕ) (ms : List (ℕ × K)) → Rise b ms → Rise b (remove ms (count_below n ms))
  take_rise b n [] r = tt
  take_rise b n (m ∷ ms) r = elim (ltb m.0 n) as (λ y. Rise b (remove (m ∷ ms) (cond y (suc (count_below n ms)) 0))) [
    | true ↦ (r.0, take_rise (m.0 + 1) n ms r.1)
    | false ↦ let up = r.0 in rise_from b (m.0 + 1) ms (omega (arith, up)) r.1
  ]

  -- ---- what is found

  pub found_some : (b n : ℕ) (ms : List (ℕ × K)) (x : ℕ × K) → Rise b ms → Some x ≡ slice_get ms (count_below n ms) → eqb x.0 n ≡ is_some (number_at ms n)
  found_some b n [] x r h = absurd (none-some x (sym h))
  found_some b n (m ∷ ms) x r h = (elim (ltb m.0 n) as (λ y. ltb m.0 n ≡ y → Some x ≡ slice_get (m ∷ ms) (cond y (suc (count_below n ms)) 0) → eqb x.0 n ≡ is_some (number_at (m ∷ ms) n)) [
    | true ↦ λ t g. rw (behind_it n m.0 (ltb-true m.0 n t)) (found_some (m.0 + 1) n ms x r.1 g)
    | false ↦ λ t g.
        let same : x ≡ m = same_Some x m g in
        let high = ltb-false m.0 n t in
        ap (λ (e : ℕ × K). eqb e.0 n) same ∙ (elim (eqb n m.0) as (λ y. eqb n m.0 ≡ y → eqb m.0 n ≡ is_some (cond y (Some m.1) (number_at ms n))) [
          | true ↦ λ e. eq-eqb m.0 n (sym (eqb-true n m.0 e))
          | false ↦ λ e. ne_eqb m.0 n (λ i. differ (sym e ∙ eq-eqb n m.0 (sym i))) ∙ sym (ap is_some (absent_below n (m.0 + 1) ms (omega (arith, high)) r.1))
        ]) refl
  ]) refl h
    where
      differ : false ≡ true → ⊥
      differ e = cc

  pub found_none : (n : ℕ) (ms : List (ℕ × K)) → length ms ≤ count_below n ms → false ≡ is_some (number_at ms n)
  found_none n ms past = (elim (is_some (number_at ms n)) as (λ y. is_some (number_at ms n) ≡ y → false ≡ y) [
    | true ↦ λ t. let within = take_within n ms t in absurd (omega (arith, past, within))
    | false ↦ λ t. refl
  ]) refl

  pub below_most : (n : ℕ) (ms : List (ℕ × K)) → count_below n ms ≤ length ms
  below_most n [] = omega arith
  below_most n (m ∷ ms) = let deep = below_most n ms in elim (ltb m.0 n) as (λ y. cond y (suc (count_below n ms)) 0 ≤ suc (length ms)) [ true ↦ omega (arith, deep) | false ↦ omega arith ]

  -- the last one below n
  pub record IsLast (b n : ℕ) (ms : List (ℕ × K)) (i : ℕ) : Type 0 where
    pub last : ℕ × K
    pub at : slice_get ms i ≡ Some last
    pub least : b ≤ last.0
    pub is : number_at ms last.0 ≡ Some last.1
    pub low : last.0 < n
    pub greatest : (j : ℕ) → j < n → IsSome (number_at ms j) → j ≤ last.0

  some_not_none : {P : Type 0} {o : Option K} → o ≡ None → IsSome o → P
  some_not_none none h = absurd (let bad = rw none at h in cc)

  pub last_is : (b n : ℕ) (ms : List (ℕ × K)) (i : ℕ) → Rise b ms → count_below n ms ≡ i + 1 → IsLast b n ms i
  last_is b n [] i r h = absurd (omega (arith, h))
  last_is b n (m ∷ ms) i r h = (elim (ltb m.0 n) as (λ y. ltb m.0 n ≡ y → cond y (suc (count_below n ms)) 0 ≡ i + 1 → IsLast b n (m ∷ ms) i) [
    | true ↦ λ t g. last_in (λ j more. last_is (m.0 + 1) n ms j r.1 more) i (ltb-true m.0 n t) (omega (arith, g))
    | false ↦ λ t g. absurd (omega (arith, g))
  ]) refl h
    where
      last_in : ((j : ℕ) → count_below n ms ≡ j + 1 → IsLast (m.0 + 1) n ms j) → (i : ℕ) → m.0 < n → count_below n ms ≡ i → IsLast b n (m ∷ ms) i
      last_in deeper zero low none = record {
        last = m;
        at = refl;
        least = r.0;
        is = rw (itself m.0) refl;
        low = low;
        greatest = λ j under some. (elim (eqb j m.0) as (λ y. eqb j m.0 ≡ y → j ≤ m.0) [
          | true ↦ λ e. let same = eqb-true j m.0 e in omega (arith, same)
          | false ↦ λ e. some_not_none (none_low n (m.0 + 1) j ms none r.1 under) (rw e at some)
        ]) refl;
      }
      last_in deeper (suc i) low more =
          let deep = deeper i (omega (arith, more)) in
          let up = deep.least in record {
            last = deep.last;
            at = deep.at;
            least = let from = r.0 in omega (arith, from, up);
            is = rw (behind_it deep.last.0 m.0 (omega (arith, up))) deep.is;
            low = deep.low;
            greatest = λ j under some. (elim (eqb j m.0) as (λ y. eqb j m.0 ≡ y → j ≤ deep.last.0) [
              | true ↦ λ e. let same = eqb-true j m.0 e in omega (arith, same, up)
              | false ↦ λ e. deep.greatest j under (rw e at some)
            ]) refl;
          }

  pub last_below : {b n : ℕ} {ms : List (ℕ × K)} {i : ℕ} (l : IsLast b n ms i) (k : K) → l.last.1 ≡ k → IsLastBelow (number_at ms) n k
  last_below l k same = record { number = l.last.0; is = l.is ∙ ap Some same; low = l.low; greatest = l.greatest }

  pub none_below : (n b : ℕ) (ms : List (ℕ × K)) → count_below n ms ≡ 0 → Rise b ms → (j : ℕ) → j < n → number_at ms j ≡ None
  none_below n b ms none r j low = none_low n b j ms none r low

  -- ---- the search for a place

  rise_at : (b : ℕ) (ms : List (ℕ × K)) → Rise b ms → (j : ℕ) (d : ℕ × K) → j < length ms → b ≤ (get_or ms j d).0
  rise_at b [] r j d within = absurd (omega (arith, within))
  rise_at b (m ∷ ms) r zero d within = r.0
  rise_at b (m ∷ ms) r (suc j) d within = let up = r.0 in let deep = rise_at (m.0 + 1) ms r.1 j d (omega (arith, within)) in omega (arith, up, deep)

  pub rise_sorted : (b : ℕ) (ms : List (ℕ × K)) → Rise b ms → IsNonDecreasingBy (λ (m : ℕ × K). m.0) ms
  rise_sorted b [] r i j d le within = absurd (omega (arith, within))
  rise_sorted b (m ∷ ms) r zero zero d le within = omega arith
  rise_sorted b (m ∷ ms) r zero (suc j) d le within = let deep = rise_at (m.0 + 1) ms r.1 j d (omega (arith, within)) in omega (arith, deep)
  rise_sorted b (m ∷ ms) r (suc i) zero d le within = absurd (omega (arith, le))
  rise_sorted b (m ∷ ms) r (suc i) (suc j) d le within = rise_sorted (m.0 + 1) ms r.1 i j d (omega (arith, le)) (omega (arith, within))

  pub point_is : (n : ℕ) (ms : List (ℕ × K)) (i : ℕ) → i ≤ length ms → IsPartitionPoint (λ (m : ℕ × K). ltb m.0 n ≡ true) (λ m. ltb m.0 n ≡ false) ms i → i ≡ count_below n ms
  point_is n [] i le point = omega (arith, le)
  point_is n (m ∷ ms) zero le point = let t = point.1 0 m (omega arith) (omega arith) in rw t refl
  point_is n (m ∷ ms) (suc i) le point =
      let t = point.0 0 m (omega arith) (omega arith) in
      let deep = point_is n ms i (omega (arith, le)) (λ k d from to. point.0 (suc k) d (omega arith) (omega (arith, to)), λ k d from to. point.1 (suc k) d (omega (arith, from)) (omega (arith, to))) in
      rw t (omega (arith, deep))

-- ---- how many keys are marked

abbrev pub bit : Bool → ℕ
bit b = cond b 1 0

module _ {K : Type 0} where
  pub count_removed : (test : K → Bool) (us : List (K × Bool)) → marked_count us ≡ marked_count (remove_entry test us) + option_map_or bit (lookup test us) 0
  count_removed test [] = refl
  count_removed test (u ∷ us) = (elim (test u.0) as (λ y. test u.0 ≡ y → marked_count (u ∷ us) ≡ marked_count (cond y us (u ∷ remove_entry test us)) + option_map_or bit (cond y (Some u.1) (lookup test us)) 0) [
    | true ↦ λ t. elim u.1 as (λ b. cond b (suc (marked_count us)) (marked_count us) ≡ marked_count us + bit b) [ true ↦ omega arith | false ↦ omega arith ]
    | false ↦ λ t.
        let deep = count_removed test us in
        elim u.1 as (λ b. cond b (suc (marked_count us)) (marked_count us) ≡ cond b (suc (marked_count (remove_entry test us))) (marked_count (remove_entry test us)) + option_map_or bit (lookup test us) 0) [ true ↦ omega (arith, deep) | false ↦ deep ]
  ]) refl

  pub count_set : (test : K → Bool) (us : List (K × Bool)) (b c : Bool) → lookup test us ≡ Some b → marked_count (set_value test us c) + bit b ≡ marked_count us + bit c
  count_set test [] b c h = absurd (none-some b h)
  count_set test (u ∷ us) b c h = (elim (test u.0) as (λ y. test u.0 ≡ y → marked_count (set_value test (u ∷ us) c) + bit b ≡ marked_count (u ∷ us) + bit c) [
    | true ↦ λ t. let is : u.1 ≡ b = same_Some u.1 b (rw t at h) in rw (t, is) (both b c)
    | false ↦ λ t.
        let deep = count_set test us b c (rw t at h) in
        rw t (elim u.1 as (λ y. cond y (suc (marked_count (set_value test us c))) (marked_count (set_value test us c)) + bit b ≡ cond y (suc (marked_count us)) (marked_count us) + bit c) [ true ↦ omega (arith, deep) | false ↦ deep ])
  ]) refl
    where
      both : (b c : Bool) → cond c (suc (marked_count us)) (marked_count us) + bit b ≡ cond b (suc (marked_count us)) (marked_count us) + bit c
      both true true = refl
      both true false = omega arith
      both false true = omega arith
      both false false = refl

  count_most : (us : List (K × Bool)) → marked_count us ≤ length us
  count_most [] = omega arith
  count_most (u ∷ us) = let deep = count_most us in elim u.1 as (λ b. cond b (suc (marked_count us)) (marked_count us) ≤ suc (length us)) [ true ↦ omega (arith, deep) | false ↦ omega (arith, deep) ]

  pub count_less : (test : K → Bool) (us : List (K × Bool)) → lookup test us ≡ Some false → marked_count us < length us
  count_less test [] h = absurd (none-some false h)
  count_less test (u ∷ us) h = (elim (test u.0) as (λ y. test u.0 ≡ y → marked_count (u ∷ us) < suc (length us)) [
    | true ↦ λ t. let is : u.1 ≡ false = same_Some u.1 false (rw t at h) in let most = count_most us in rw is (omega (arith, most))
    | false ↦ λ t.
        let deep = count_less test us (rw t at h) in
        elim u.1 as (λ b. cond b (suc (marked_count us)) (marked_count us) < suc (length us)) [ true ↦ omega (arith, deep) | false ↦ omega (arith, deep) ]
  ]) refl

  pub length_marks : (at : ℕ → Option K) (us : List (K × ℕ)) → length (marks_of at us) ≡ length us
  length_marks at [] = refl
  length_marks at (u ∷ us) = ap suc (length_marks at us)

  pub length_removed : {X : Type 0} (test : K → Bool) (us : List (K × X)) → length (remove_entry test us) ≤ length us
  length_removed test [] = omega arith
  length_removed test (u ∷ us) = elim (test u.0) as (λ y. length (cond y us (u ∷ remove_entry test us)) ≤ suc (length us)) [
    | true ↦ omega arith
    | false ↦ let deep = length_removed test us in omega (arith, deep)
  ]

  -- each key is marked at most once, and one that isn't leaves room
  pub count_at_most : (at : ℕ → Option K) (us : List (K × ℕ)) → marked_count (marks_of at us) ≤ length us
  count_at_most at us = let same = length_marks at us in let most = count_most (marks_of at us) in omega (arith, same, most)
