-- Keys in the order of their last use, and which of them are marked under their numbers.
use Rattle.std.proofs.Common.{◌≡◌, ◌≢◌, ◌+◌, ◌-◌, ◌<◌, ◌≤◌, ◌^◌, ◌∷◌, ◌++◌, ℕ, suc, Bool, true, false, cond, not, inl, inr, List, [], length, Option, Some, None, refl, sym, ap, ◌∙◌, subst, arith, append-nil, append_assoc, slice_get, IsSome, IfSome, is_some}
use Rattle.qcow2_alloc.proofs.Common.{cases_eq, set_value_same, none-some, same_Some, lru_cache, put_entries, promoted, IsEquivalence, IsDistinct, AllByRecursion, keys_of, lookup, lookup_entry, remove_entry, set_value, IsNone, option_map, option_map_or, Marked, number_at, marks_of, marked_count, Fall, AreNumbered, HaveRoom, placed, first_marked, behind, is_first, IsFoundAs, IsLastBelow}
use Rattle.std.proofs.lemmas.List.{take_all}
use Rattle.qcow2_alloc.proofs.Marks.{bit, count_removed, count_set, count_less, length_marks, length_removed}

pub some_of : {X : Type 0} {o : Option X} → (x : X) → o ≡ Some x → IsSome o
some_of x h = rw h refl

true_false : {b : Bool} → b ≡ true → b ≡ false → ⊥
true_false t f = cc

module _ {K : Type 0} where
  pub fall_to : (a b : ℕ) (us : List (K × ℕ)) → a ≤ b → Fall a us → Fall b us
  fall_to a b [] le f = f
  fall_to a b (u ∷ us) le f = let less = f.0 in (omega (arith, le, less), f.1)

  -- a number that is found is below the bound
  pub found_below : (test : K → Bool) (b n : ℕ) (us : List (K × ℕ)) → Fall b us → lookup test us ≡ Some n → n < b
  found_below test b n [] f h = absurd (none-some n h)
  found_below test b n (u ∷ us) f h = (elim (test u.0) as (λ y. test u.0 ≡ y → n < b) [
    | true ↦ λ t. let e : u.1 ≡ n = same_Some u.1 n (rw t at h) in let less = f.0 in omega (arith, e, less)
    | false ↦ λ t. let less = f.0 in let deep = found_below test u.1 n us f.1 (rw t at h) in omega (arith, deep, less)
  ]) refl

  pub fall_removed : (test : K → Bool) (b : ℕ) (us : List (K × ℕ)) → Fall b us → Fall b (remove_entry test us)
  fall_removed test b [] f = f
  fall_removed test b (u ∷ us) f = (elim (test u.0) as (λ y. test u.0 ≡ y → Fall b (remove_entry test (u ∷ us))) [
    | true ↦ λ t. let less = f.0 in rw t (fall_to u.1 b us (omega (arith, less)) f.1)
    | false ↦ λ t. rw t (f.0, fall_removed test u.1 us f.1)
  ]) refl

  -- the marks are the same where nothing changes below the bound
  pub marks_stay : (at at' : ℕ → Option K) (b : ℕ) (us : List (K × ℕ)) → Fall b us → ((n : ℕ) → n < b → at' n ≡ at n) → marks_of at' us ≡ marks_of at us
  marks_stay at at' b [] f same = refl
  marks_stay at at' b (u ∷ us) f same =
      let less = f.0 in
      let here : at' u.1 ≡ at u.1 = same u.1 less in
      let rest : marks_of at' us ≡ marks_of at us = marks_stay at at' u.1 us f.1 (λ n low. same n (omega (arith, low, less))) in
      rw (here, rest) refl

  pub lookup-marks : (at : ℕ → Option K) (test : K → Bool) (us : List (K × ℕ)) → option_map_or (λ (e : K × Bool). e.0) (lookup_entry test (marks_of at us)) ≡ option_map_or (λ (e : K × ℕ). e.0) (lookup_entry test us)
  lookup-marks at test [] = refl
  lookup-marks at test (u ∷ us) = elim (test u.0) as (λ y. option_map_or (λ (e : K × Bool). e.0) (cond y (Some (u.0, is_some (at u.1))) (lookup_entry test (marks_of at us))) ≡ option_map_or (λ (e : K × ℕ). e.0) (cond y (Some u) (lookup_entry test us))) [
    | true ↦ refl
    | false ↦ lookup-marks at test us
  ]

  -- without the key that passes, whatever changed under its number
  pub marks_removed : (at at' : ℕ → Option K) (test : K → Bool) (b : ℕ) (us : List (K × ℕ)) → Fall b us → ((n : ℕ) → n < b → lookup test us ≢ Some n → at' n ≡ at n)
      → marks_of at' (remove_entry test us) ≡ remove_entry test (marks_of at us)
  marks_removed at at' test b [] f same = refl
  marks_removed at at' test b (u ∷ us) f same = (elim (test u.0) as (λ y. test u.0 ≡ y → marks_of at' (remove_entry test (u ∷ us)) ≡ remove_entry test (marks_of at (u ∷ us))) [
    | true ↦ λ t. let less = f.0 in rw t (marks_stay at at' u.1 us f.1 (λ n low. same n (omega (arith, low, less)) (rw t (λ e. let i = same_Some u.1 n e in omega (arith, i, low)))))
    | false ↦ λ t.
        let less = f.0 in
        let here : at' u.1 ≡ at u.1 = same u.1 less (rw t (λ e. let low = found_below test u.1 u.1 us f.1 e in omega (arith, low))) in
        let rest : marks_of at' (remove_entry test us) ≡ remove_entry test (marks_of at us) = marks_removed at at' test u.1 us f.1 (λ n low other. same n (omega (arith, low, less)) (rw t other)) in
        rw (t, here, rest) refl
  ]) refl

  -- with another mark under the number of the key that passes
  pub marks_set : (at at' : ℕ → Option K) (test : K → Bool) (b n : ℕ) (us : List (K × ℕ)) → Fall b us → lookup test us ≡ Some n → ((m : ℕ) → m < b → m ≢ n → at' m ≡ at m)
      → marks_of at' us ≡ set_value test (marks_of at us) (is_some (at' n))
  marks_set at at' test b n [] f found same = absurd (none-some n found)
  marks_set at at' test b n (u ∷ us) f found same = (elim (test u.0) as (λ y. test u.0 ≡ y → marks_of at' (u ∷ us) ≡ set_value test (marks_of at (u ∷ us)) (is_some (at' n))) [
    | true ↦ λ t.
        let e : u.1 ≡ n = same_Some u.1 n (rw t at found) in
        let less = f.0 in
        let rest : marks_of at' us ≡ marks_of at us = marks_stay at at' u.1 us f.1 (λ m low. same m (omega (arith, low, less)) (λ i. omega (arith, i, e, low))) in
        rw (t, ← e, rest) refl
    | false ↦ λ t.
        let deeper : lookup test us ≡ Some n = rw t at found in
        let less = f.0 in
        let low = found_below test u.1 n us f.1 deeper in
        let here : at' u.1 ≡ at u.1 = same u.1 less (λ i. omega (arith, i, low)) in
        let rest : marks_of at' us ≡ set_value test (marks_of at us) (is_some (at' n)) = marks_set at at' test u.1 n us f.1 deeper (λ m under other. same m (omega (arith, under, less)) other) in
        rw (t, here, rest) refl
  ]) refl

  pub lookup_none-marks : (at : ℕ → Option K) (test : K → Bool) (us : List (K × ℕ)) → lookup test us ≡ None → lookup test (marks_of at us) ≡ None
  lookup_none-marks at test [] h = refl
  lookup_none-marks at test (u ∷ us) h = (elim (test u.0) as (λ y. test u.0 ≡ y → lookup test (marks_of at (u ∷ us)) ≡ None) [
    | true ↦ λ t. absurd (none-some u.1 (sym (rw t at h)))
    | false ↦ λ t. rw t (lookup_none-marks at test us (rw t at h))
  ]) refl

  pub set_none : {X : Type 0} (test : K → Bool) (es : List (K × X)) (x : X) → lookup test es ≡ None → set_value test es x ≡ es
  set_none test [] x h = refl
  set_none test (e ∷ es) x h = (elim (test e.0) as (λ y. test e.0 ≡ y → set_value test (e ∷ es) x ≡ e ∷ es) [
    | true ↦ λ t. absurd (none-some e.1 (sym (rw t at h)))
    | false ↦ λ t. rw t (ap (λ l. e ∷ l) (set_none test es x (rw t at h)))
  ]) refl

  pub entry_none : {X : Type 0} (test : K → Bool) (es : List (K × X)) → lookup test es ≡ None → (lookup_entry test es ≡ None) × (remove_entry test es ≡ es)
  entry_none test [] h = (refl, refl)
  entry_none test (e ∷ es) h = (elim (test e.0) as (λ y. test e.0 ≡ y → (lookup_entry test (e ∷ es) ≡ None) × (remove_entry test (e ∷ es) ≡ e ∷ es)) [
    | true ↦ λ t. absurd (none-some e.1 (sym (rw t at h)))
    | false ↦ λ t. let r = entry_none test es (rw t at h) in rw t (r.0, ap (λ l. e ∷ l) r.1)
  ]) refl

  entry_some : {X : Type 0} (test : K → Bool) (es : List (K × X)) (x : X) → lookup test es ≡ Some x → (e : K × X) × (lookup_entry test es ≡ Some e) × (test e.0 ≡ true)
  entry_some test [] x h = absurd (none-some x h)
  entry_some test (e ∷ es) x h = (elim (test e.0) as (λ y. test e.0 ≡ y → (f : K × _) × (lookup_entry test (e ∷ es) ≡ Some f) × (test f.0 ≡ true)) [
    | true ↦ λ t. rw t (e, refl, t)
    | false ↦ λ t. rw t (entry_some test es x (rw t at h))
  ]) refl

module _ {K : Type 0} {eq : K → K → Bool} (laws : IsEquivalence eq) where
  -- equal keys find the same
  pub finds_same : {X : Type 0} (j k : K) → eq j k ≡ true → (es : List (K × X)) → lookup (eq j) es ≡ lookup (eq k) es
  finds_same j k h [] = refl
  finds_same j k h (e ∷ es) = rw (laws.congr j k e.0 h, finds_same j k h es) refl

  equal_back : (j k : K) → eq j k ≡ true → eq k j ≡ true
  equal_back j k h = laws.symm k j ∙ h

  -- another key is found as before where one is taken out
  pub found_beside : {X : Type 0} (j k : K) → eq j k ≡ false → (es : List (K × X)) → lookup (eq j) (remove_entry (eq k) es) ≡ lookup (eq j) es
  found_beside j k other [] = refl
  found_beside j k other (e ∷ es) = (elim (eq k e.0) as (λ y. eq k e.0 ≡ y → lookup (eq j) (remove_entry (eq k) (e ∷ es)) ≡ lookup (eq j) (e ∷ es)) [
    | true ↦ λ t. let away : eq j e.0 ≡ false = laws.symm j e.0 ∙ laws.congr e.0 k j (equal_back k e.0 t) ∙ laws.symm k j ∙ other in rw (t, away) refl
    | false ↦ λ t. rw (t, found_beside j k other es) refl
  ]) refl

  module _ (next cap : ℕ) (at : ℕ → Option K) (us : List (K × ℕ)) (a : AreNumbered eq next cap at us) where
    -- no key is marked under a number that isn't given yet
    pub none_marked : (n : ℕ) → next ≤ n → at n ≡ None
    none_marked n from = elim (at n) as (λ o. at n ≡ o → o ≡ None) [
      | None ↦ λ h. refl
      | Some k ↦ λ h. let low = found_below (eq k) next n us a.fall (a.held n k h) in absurd (omega (arith, low, from))
    ] refl

    -- the key that goes to the front, as it is held
    abbrev pub held_as : K → K
    held_as key = option_map_or (λ (e : K × ℕ). e.0) (lookup_entry (eq key) us) key

    equal_held : (key : K) → eq key (held_as key) ≡ true
    equal_held key = elim (lookup (eq key) us) as (λ o. lookup (eq key) us ≡ o → eq key (held_as key) ≡ true) [
      | None ↦ λ h. rw ((entry_none (eq key) us h).0) (laws.refl key)
      | Some n ↦ λ h. let e = entry_some (eq key) us n h in rw (e.1) (e.2)
    ] refl

    put_front : (key : K) (v : ℕ) → length us ≤ cap - 1 → put_entries eq (lru_cache us cap) key v ≡ (held_as key, v) ∷ remove_entry (eq key) us
    put_front key v fits = elim (lookup (eq key) us) as (λ o. lookup (eq key) us ≡ o → put_entries eq (lru_cache us cap) key v ≡ (held_as key, v) ∷ remove_entry (eq key) us) [
      | None ↦ λ h. let e = entry_none (eq key) us h in rw (e.0, e.1, take_all (cap - 1) us fits) refl
      | Some n ↦ λ h. let e = entry_some (eq key) us n h in rw (e.1) refl
    ] refl

    module _ (key : K) (m : Bool) (at' at'' : ℕ → Option K) (put : at' next ≡ cond m (Some key) None) (beside : (n : ℕ) → n ≢ next → at' n ≡ at n)
        (gone : IfSome (lookup (eq key) us) (λ n. at'' n ≡ None)) (rest : (n : ℕ) → lookup (eq key) us ≢ Some n → at'' n ≡ at' n) where
      not_next : lookup (eq key) us ≢ Some next
      not_next h = let low = found_below (eq key) next next us a.fall h in omega (arith, low)

      in_front : at'' next ≡ cond m (Some key) None
      in_front = rest next not_next ∙ put

      gone_at : (n : ℕ) → lookup (eq key) us ≡ Some n → at'' n ≡ None
      gone_at n h = rw h at gone

      marked_so : is_some (at'' next) ≡ m
      marked_so = rw in_front (elim m as (λ b. is_some (cond b (Some key) None) ≡ b) [ true ↦ refl | false ↦ refl ])

      -- what is seen of them then
      placed_is : marks_of at'' ((held_as key, next) ∷ remove_entry (eq key) us) ≡ placed (eq key) key m (marks_of at us)
      placed_is =
          let behind_it = marks_removed at at'' (eq key) next us a.fall (λ n low other. rest n other ∙ beside n (λ i. omega (arith, i, low))) in
          let name = ap (λ (h : K → K). h key) (lookup-marks at (eq key) us) in
          rw (marked_so, behind_it, name) refl

      held_front : (n : ℕ) (k : K) → at'' n ≡ Some k → lookup (eq k) ((held_as key, next) ∷ remove_entry (eq key) us) ≡ Some n
      held_front n k h = elim (cases_eq n next) [
        | inl i ↦
            let this : cond m (Some key) None ≡ Some k = sym in_front ∙ ap at'' (sym i) ∙ h in
            let same : key ≡ k = (elim m as (λ b. cond b (Some key) None ≡ Some k → key ≡ k) [ true ↦ λ e. same_Some key k e | false ↦ λ e. absurd (none-some k e) ]) this in
            let passes : eq k (held_as key) ≡ true = subst (λ x. eq x (held_as key) ≡ true) same (equal_held key) in
            rw passes (ap Some (sym i))
        | inr other ↦
            let not_former : lookup (eq key) us ≢ Some n = λ e. none-some k (sym (gone_at n e) ∙ h) in
            let was : at n ≡ Some k = sym (beside n other) ∙ sym (rest n not_former) ∙ h in
            let found = a.held n k was in
            (elim (eq k key) as (λ y. eq k key ≡ y → lookup (eq k) ((held_as key, next) ∷ remove_entry (eq key) us) ≡ Some n) [
              | true ↦ λ t. absurd (not_former (sym (finds_same k key t us) ∙ found))
              | false ↦ λ t.
                  let away : eq k (held_as key) ≡ false = laws.symm k (held_as key) ∙ laws.congr (held_as key) key k (equal_back key (held_as key) (equal_held key)) ∙ laws.symm key k ∙ t in
                  rw away (found_beside k key t us ∙ found)
            ]) refl
      ]

      placed_numbered : AreNumbered eq (next + 1) cap at'' ((held_as key, next) ∷ remove_entry (eq key) us)
      placed_numbered = record { unbounded = a.unbounded; fall = (omega arith, fall_removed (eq key) next us a.fall); held = held_front }

      -- the numbers after `put`, and what is seen of them
      pub record IsPlaced (vs : List (K × ℕ)) : Type 0 where
        pub numbered : AreNumbered eq (next + 1) cap at'' vs
        pub seen : marks_of at'' vs ≡ placed (eq key) key m (marks_of at us)

      pub placed_so : length us < 2 ^ 63 → IsPlaced (put_entries eq (lru_cache us cap) key next)
      placed_so fits =
          let full = a.unbounded in
          subst IsPlaced (sym (put_front key next (omega (arith, fits, full)))) (record { numbered = placed_numbered; seen = placed_is })

    -- where a mark was put under the next number and taken again
    pub unplaced_is : (at' at'' : ℕ → Option K) → ((n : ℕ) → n ≢ next → at' n ≡ at n) → ((n : ℕ) → Some next ≢ Some n → at'' n ≡ at' n) → marks_of at'' us ≡ marks_of at us
    unplaced_is at' at'' put taken = marks_stay at at'' next us a.fall (λ n low. taken n (λ e. let i = same_Some next n e in omega (arith, i, low)) ∙ put n (λ i. omega (arith, i, low)))

    -- where the mark under one number changes
    module _ (key : K) (n : ℕ) (found : lookup (eq key) us ≡ Some n) (at' : ℕ → Option K) (others : (i : ℕ) → i ≢ n → at' i ≡ at i) where
      pub marked_numbered : at' n ≡ Some key → AreNumbered eq next cap at' us
      marked_numbered here = record {
        unbounded = a.unbounded;
        fall = a.fall;
        held = λ i k h. elim (cases_eq i n) [
          | inl e ↦ let same : key ≡ k = same_Some key k (sym here ∙ ap at' (sym e) ∙ h) in subst (λ x. lookup (eq x) us ≡ Some i) same (found ∙ ap Some (sym e))
          | inr other ↦ a.held i k (sym (others i other) ∙ h)
        ];
      }

      pub unmarked_numbered : at' n ≡ None → AreNumbered eq next cap at' us
      unmarked_numbered here = record {
        unbounded = a.unbounded;
        fall = a.fall;
        held = λ i k h. elim (cases_eq i n) [
          | inl e ↦ absurd (none-some k (sym here ∙ ap at' (sym e) ∙ h))
          | inr other ↦ a.held i k (sym (others i other) ∙ h)
        ];
      }

      pub mark_is : {b : Bool} → is_some (at' n) ≡ b → marks_of at' us ≡ set_value (eq key) (marks_of at us) b
      mark_is b = marks_set at at' (eq key) next n us a.fall found (λ m low other. others m other) ∙ ap (set_value (eq key) (marks_of at us)) b

    -- where a key is marked, if it is to be
    pub mark_put : (key : K) (n : ℕ) (b : Bool) → Some n ≡ lookup (eq key) us → (at' : ℕ → Option K) → at' n ≡ cond b (Some key) (at n) → ((i : ℕ) → i ≢ n → at' i ≡ at i)
        → marks_of at' us ≡ cond b (set_value (eq key) (marks_of at us) true) (marks_of at us)
    mark_put key n true found at' here others = mark_is key n (sym found) at' others (ap is_some here)
    mark_put key n false found at' here others = marks_stay at at' next us a.fall (λ i low. elim (cases_eq i n) [ inl e ↦ subst (λ j. at' j ≡ at j) (sym e) here | inr other ↦ others i other ])

    pub numbered_same : (at' : ℕ → Option K) → ((n : ℕ) → at' n ≡ at n) → AreNumbered eq next cap at' us
    numbered_same at' same = record { unbounded = a.unbounded; fall = a.fall; held = λ n k h. a.held n k (sym (same n) ∙ h) }

    -- where it is marked, or nothing changes
    pub put_numbered : (key : K) (n : ℕ) (b : Bool) → Some n ≡ lookup (eq key) us → (at' : ℕ → Option K) → at' n ≡ cond b (Some key) (at n) → ((i : ℕ) → i ≢ n → at' i ≡ at i) → AreNumbered eq next cap at' us
    put_numbered key n true found at' here others = marked_numbered key n (sym found) at' others here
    put_numbered key n false found at' here others = numbered_same at' (λ i. elim (cases_eq i n) [ inl e ↦ subst (λ j. at' j ≡ at j) (sym e) here | inr other ↦ others i other ])

    -- where a key is taken out, with its mark
    module _ (key : K) (at' : ℕ → Option K) (gone : IfSome (lookup (eq key) us) (λ n. at' n ≡ None)) (others : (i : ℕ) → lookup (eq key) us ≢ Some i → at' i ≡ at i) where
      pub removed_numbered : AreNumbered eq next cap at' (remove_entry (eq key) us)
      removed_numbered = record {
        unbounded = a.unbounded;
        fall = fall_removed (eq key) next us a.fall;
        held = λ n k h.
            let not_former : lookup (eq key) us ≢ Some n = λ e. none-some k (sym (rw e at gone) ∙ h) in
            let found = a.held n k (sym (others n not_former) ∙ h) in
            (elim (eq k key) as (λ y. eq k key ≡ y → lookup (eq k) (remove_entry (eq key) us) ≡ Some n) [
              | true ↦ λ t. absurd (not_former (sym (finds_same k key t us) ∙ found))
              | false ↦ λ t. found_beside k key t us ∙ found
            ]) refl;
      }

      pub removed_is : marks_of at' (remove_entry (eq key) us) ≡ remove_entry (eq key) (marks_of at us)
      removed_is = marks_removed at at' (eq key) next us a.fall (λ n low other. others n other)

module _ {K : Type 0} (eq : K → K → Bool) (at : ℕ → Option K) where
  -- below a bound nothing is marked
  pub none_first : (b : ℕ) (us : List (K × ℕ)) → Fall b us → ((n : ℕ) → n < b → at n ≡ None) → first_marked (marks_of at us) ≡ None
  none_first b [] f none = refl
  none_first b (u ∷ us) f none =
      let less = f.0 in
      let here : at u.1 ≡ None = none u.1 less in
      rw here (none_first u.1 us f.1 (λ n low. none n (omega (arith, low, less))))

  -- the greatest number below a bound under which a key is marked is that of the first one
  pub some_first : (b : ℕ) (us : List (K × ℕ)) (n : ℕ) (k : K) → Fall b us → at n ≡ Some k → ((m : ℕ) → m < b → IsSome (at m) → m ≤ n) → lookup (eq k) us ≡ Some n → IsFoundAs eq (Some k) (first_marked (marks_of at us))
  some_first b [] n k f is greatest found = absurd (none-some n found)
  some_first b (u ∷ us) n k f is greatest found = (elim (eq k u.0) as (λ y. eq k u.0 ≡ y → IsFoundAs eq (Some k) (first_marked (marks_of at (u ∷ us)))) [
    | true ↦ λ t.
        let e : u.1 ≡ n = same_Some u.1 n (rw t at found) in
        let here : at u.1 ≡ Some k = ap at e ∙ is in
        rw here t
    | false ↦ λ t.
        let deeper : lookup (eq k) us ≡ Some n = rw t at found in
        let low = found_below (eq k) u.1 n us f.1 deeper in
        let less = f.0 in
        let here : at u.1 ≡ None = (elim (at u.1) as (λ o. at u.1 ≡ o → at u.1 ≡ None) [
          | None ↦ λ h. h
          | Some j ↦ λ h. let up = greatest u.1 less (some_of j h) in absurd (omega (arith, up, low))
        ]) refl in
        rw here (some_first u.1 us n k f.1 is (λ m under. greatest m (omega (arith, under, less))) deeper)
  ]) refl

  pub behind_marks : (test : K → Bool) (us : List (K × ℕ)) → behind test (marks_of at us) ≡ marks_of at (behind test us)
  behind_marks test [] = refl
  behind_marks test (u ∷ us) = elim (test u.0) as (λ y. cond y (marks_of at us) (behind test (marks_of at us)) ≡ marks_of at (cond y us (behind test us))) [
    | true ↦ refl
    | false ↦ behind_marks test us
  ]

  pub fall_behind : (test : K → Bool) (b n : ℕ) (us : List (K × ℕ)) → Fall b us → lookup test us ≡ Some n → Fall n (behind test us)
  fall_behind test b n [] f h = f
  fall_behind test b n (u ∷ us) f h = (elim (test u.0) as (λ y. test u.0 ≡ y → Fall n (behind test (u ∷ us))) [
    | true ↦ λ t. let e : u.1 ≡ n = same_Some u.1 n (rw t at h) in rw t (subst (λ i. Fall i us) e f.1)
    | false ↦ λ t. rw t (fall_behind test u.1 n us f.1 (rw t at h))
  ]) refl

  pub none_behind : {X : Type 0} (test : K → Bool) (us : List (K × X)) → lookup test us ≡ None → behind test us ≡ []
  none_behind test [] h = refl
  none_behind test (u ∷ us) h = (elim (test u.0) as (λ y. test u.0 ≡ y → behind test (u ∷ us) ≡ []) [
    | true ↦ λ t. absurd (none-some u.1 (sym (rw t at h)))
    | false ↦ λ t. rw t (none_behind test us (rw t at h))
  ]) refl

  -- a key with a lower number is behind
  pub found_behind : (test test' : K → Bool) (b n m : ℕ) (us : List (K × ℕ)) → Fall b us → lookup test us ≡ Some n → lookup test' us ≡ Some m → m < n → lookup test' (behind test us) ≡ Some m
  found_behind test test' b n m [] f h g low = absurd (none-some n h)
  found_behind test test' b n m (u ∷ us) f h g low = (elim (test' u.0) as (λ z. test' u.0 ≡ z → lookup test' (behind test (u ∷ us)) ≡ Some m) [
    | true ↦ λ s.
        let e : u.1 ≡ m = same_Some u.1 m (rw s at g) in
        (elim (test u.0) as (λ y. test u.0 ≡ y → lookup test' (behind test (u ∷ us)) ≡ Some m) [
          | true ↦ λ t. let i : u.1 ≡ n = same_Some u.1 n (rw t at h) in absurd (omega (arith, e, i, low))
          | false ↦ λ t. let under = found_below test u.1 n us f.1 (rw t at h) in absurd (omega (arith, e, under, low))
        ]) refl
    | false ↦ λ s.
        let deeper : lookup test' us ≡ Some m = rw s at g in
        (elim (test u.0) as (λ y. test u.0 ≡ y → lookup test' (behind test (u ∷ us)) ≡ Some m) [
          | true ↦ λ t. rw t deeper
          | false ↦ λ t. rw t (found_behind test test' u.1 n m us f.1 (rw t at h) deeper low)
        ]) refl
  ]) refl

  module _ (next cap : ℕ) (us : List (K × ℕ)) (a : AreNumbered eq next cap at us) where
    -- the marked key with the greatest number is the first one
    pub first_found : (r : Option K) → IfSome r (IsLastBelow at next) → (IsNone r → (n : ℕ) → n < next → at n ≡ None) → IsFoundAs eq r (first_marked (marks_of at us))
    first_found None found none = rw (none_first next us a.fall (none refl)) tt
    first_found (Some k) found none = some_first next us found.number k a.fall found.is found.greatest (a.held found.number k found.is)

    -- and so it is behind a key
    pub next_found : (key : K) (b : ℕ) → lookup (eq key) us ≡ Some b → (r : Option K) → IfSome r (IsLastBelow at b) → (IsNone r → (n : ℕ) → n < b → at n ≡ None) → IsFoundAs eq r (first_marked (behind (eq key) (marks_of at us)))
    next_found key b there None found none = rw (behind_marks (eq key) us, none_first b (behind (eq key) us) (fall_behind (eq key) next b us a.fall there) (none refl)) tt
    next_found key b there (Some k) found none =
        rw (behind_marks (eq key) us) (some_first b (behind (eq key) us) found.number k (fall_behind (eq key) next b us a.fall there) found.is found.greatest
        (found_behind (eq key) (eq k) next b found.number us a.fall there (a.held found.number k found.is) found.low))

    pub next_missing : (key : K) → lookup (eq key) us ≡ None → IsFoundAs eq None (first_marked (behind (eq key) (marks_of at us)))
    next_missing key gone = rw (behind_marks (eq key) us, none_behind (eq key) us gone) tt

-- the first key, as it is seen
pub first_is : {K : Type 0} (at : ℕ → Option K) (test : K → Bool) (us : List (K × ℕ)) (k : K) (n : ℕ) → Some (k, n) ≡ slice_get us 0 → test k ≡ is_first test (marks_of at us)
first_is at test [] k n h = absurd (none-some (k, n) (sym h))
first_is {K} at test (u ∷ us) k n h = ap (λ (e : K × ℕ). test e.0) (same_Some (k, n) u h)

pub none_is_first : {K : Type 0} (at : ℕ → Option K) (test : K → Bool) (us : List (K × ℕ)) → None ≡ slice_get us 0 → false ≡ is_first test (marks_of at us)
none_is_first at test [] h = refl
none_is_first at test (u ∷ us) h = absurd (none-some u h)

-- ---- numbering anew

module _ {K : Type 0} {eq : K → K → Bool} (laws : IsEquivalence eq) where
  none_after : {X : Type 0} (k : K) (es : List (K × X)) → AllByRecursion (λ y. eq k y ≡ false) (keys_of es) → lookup (eq k) es ≡ None
  none_after k [] all = refl
  none_after k (e ∷ es) all = rw (all.0) (none_after k es all.1)

  none_twice : {X : Type 0} (front : List (K × X)) (e : K × X) (es : List (K × X)) → IsDistinct eq (keys_of (front ++ e ∷ es)) → lookup (eq e.0) es ≡ None
  unfolding IsDistinct
  none_twice [] e es d = none_after e.0 es d.0
  none_twice (x ∷ xs) e es d = none_twice xs e es d.1

-- as far as the keys are numbered: from some place on
pub record IsNumbering {K : Type 0} (at : ℕ → Option K) (us left : List (K × ℕ)) (anew : List (K × Bool)) : Type 0 where
  pub done : List (K × ℕ)
  pub split : us ≡ left ++ done
  pub seen : anew ≡ marks_of at done

module _ {K : Type 0} (at : ℕ → Option K) (us : List (K × ℕ)) where
  pub numbering_begins : IsNumbering at us us []
  numbering_begins = record { done = []; split = sym (append-nil us); seen = refl }

  pub numbering_goes : {eq : K → K → Bool} → IsEquivalence eq → IsDistinct eq (keys_of us) → (left front : List (K × ℕ)) (anew : List (K × Bool)) (k : K) (n : ℕ) → left ≡ front ++ (k, n) ∷ [] → IsNumbering at us left anew
      → IsNumbering at us front (placed (eq k) k (is_some (at n)) anew)
  numbering_goes {eq} laws distinct left front anew k n is so_far =
      let split : us ≡ front ++ (k, n) ∷ so_far.done = so_far.split ∙ ap (λ l. l ++ so_far.done) is ∙ append_assoc front ((k, n) ∷ []) so_far.done in
      let none = none_twice laws front (k, n) so_far.done (subst (λ l. IsDistinct eq (keys_of l)) split distinct) in
      let gone = entry_none (eq k) (marks_of at so_far.done) (lookup_none-marks at (eq k) so_far.done none) in record {
        done = (k, n) ∷ so_far.done;
        split = split;
        seen = rw (so_far.seen, gone.0, gone.1) refl;
      }

-- ---- a key comes to the front with its mark

module _ {K : Type 0} where
  lookup_marks : (at : ℕ → Option K) (test : K → Bool) (us : List (K × ℕ)) → lookup test (marks_of at us) ≡ option_map (λ n. is_some (at n)) (lookup test us)
  lookup_marks at test [] = refl
  lookup_marks at test (u ∷ us) = elim (test u.0) as (λ y. cond y (Some (is_some (at u.1))) (lookup test (marks_of at us)) ≡ option_map (λ n. is_some (at n)) (cond y (Some u.1) (lookup test us))) [
    | true ↦ refl
    | false ↦ lookup_marks at test us
  ]

  pub mark_is_none : (at : ℕ → Option K) (test : K → Bool) (us : List (K × ℕ)) → None ≡ lookup test us → None ≡ lookup test (marks_of at us)
  mark_is_none at test us h = sym (lookup_marks at test us ∙ ap (option_map (λ n. is_some (at n))) (sym h))

  pub mark_is_some : (at : ℕ → Option K) (test : K → Bool) (us : List (K × ℕ)) (n : ℕ) (b : Bool) → Some n ≡ lookup test us → b ≡ is_some (at n) → Some b ≡ lookup test (marks_of at us)
  mark_is_some at test us n b h i = sym (lookup_marks at test us ∙ ap (option_map (λ m. is_some (at m))) (sym h) ∙ ap Some (sym i))

  pub none_promoted : {X : Type 0} (test : K → Bool) (us : List (K × X)) → None ≡ lookup test us → us ≡ promoted test us
  none_promoted test us h = let e = entry_none test us (sym h) in rw (e.0) refl

  pub placed_promoted : (test : K → Bool) (k : K) (b : Bool) (us : List (K × Bool)) → Some b ≡ lookup test us → placed test k b us ≡ promoted test us
  placed_promoted test k b us h = let e = entry_some test us b (sym h) in rw (e.1) (ap (λ m. (e.0.0, m) ∷ remove_entry test us) (sym (value_found test us b e.0 (sym h) e.1)))
    where
      value_found : (test : K → Bool) (us : List (K × Bool)) (b : Bool) (e : K × Bool) → lookup test us ≡ Some b → lookup_entry test us ≡ Some e → e.1 ≡ b
      value_found test [] b e h g = absurd (none-some b h)
      value_found test (u ∷ us) b e h g = (elim (test u.0) as (λ y. test u.0 ≡ y → e.1 ≡ b) [
        | true ↦ λ t. ap (λ (x : K × Bool). x.1) (sym (same_Some u e (rw t at g))) ∙ same_Some u.1 b (rw t at h)
        | false ↦ λ t. value_found test us b e (rw t at h) (rw t at g)
      ]) refl

-- ---- room for the marks

pub none_is : {X : Type 0} {o : Option X} → is_some o ≡ false → o ≡ None
none_is {o = None} h = refl
none_is {o = Some x} h = absurd (true_false refl h)

pub lacks : (b : Bool) → not b ≡ true → b ≡ false
lacks true h = absurd (true_false refl (sym h))
lacks false h = refl

module _ {K : Type 0} (test : K → Bool) (us : List (K × ℕ)) where
  looked : (at : ℕ → Option K) (n : ℕ) (b : Bool) → Some n ≡ lookup test us → is_some (at n) ≡ b → lookup test (marks_of at us) ≡ Some b
  looked at n b found is = sym (mark_is_some at test us n b found (sym is))

  looked_bit : (at : ℕ → Option K) → option_map_or bit (lookup test (marks_of at us)) 0 ≡ option_map_or (λ n. bit (is_some (at n))) (lookup test us) 0
  looked_bit at = rw (lookup_marks at test us) (elim (lookup test us) as (λ o. option_map_or bit (option_map (λ n. is_some (at n)) o) 0 ≡ option_map_or (λ n. bit (is_some (at n))) o 0) [ None ↦ refl | Some n ↦ refl ])

  module _ (marked : Marked K) (has : HaveRoom marked us) where
    -- a key without a mark leaves room for it
    pub room_left : (n : ℕ) → Some n ≡ lookup test us → is_some (number_at marked.entries n) ≡ false → length marked.entries < marked.room
    room_left n found none =
        let less = count_less test (marks_of (number_at marked.entries) us) (looked (number_at marked.entries) n false found none) in
        let same = length_marks (number_at marked.entries) us in
        omega (arith, less, same, has.count, has.room)

    -- one mark becomes another
    pub room_set : (marked' : Marked K) (n : ℕ) (b c : Bool) → Some n ≡ lookup test us → is_some (number_at marked.entries n) ≡ b → marks_of (number_at marked'.entries) us ≡ set_value test (marks_of (number_at marked.entries) us) c
        → length marked'.entries + bit b ≡ length marked.entries + bit c → marked'.room ≡ marked.room → HaveRoom marked' us
    room_set marked' n b c found is seen lengths same = record {
      count =
          let e = ap marked_count seen in
          let set = count_set test (marks_of (number_at marked.entries) us) b c (looked (number_at marked.entries) n b found is) in
          omega (arith, e, set, has.count, lengths);
      room = subst (λ r. length us ≤ r) (sym same) has.room;
    }

    -- the marks stay
    pub room_same : (marked' : Marked K) → marks_of (number_at marked'.entries) us ≡ marks_of (number_at marked.entries) us → length marked'.entries ≡ length marked.entries → marked.room ≤ marked'.room → HaveRoom marked' us
    room_same marked' seen lengths more = record { count = lengths ∙ has.count ∙ ap marked_count (sym seen); room = let r = has.room in omega (arith, r, more) }

    pub room_removed : (marked' : Marked K) → marks_of (number_at marked'.entries) (remove_entry test us) ≡ remove_entry test (marks_of (number_at marked.entries) us)
        → length marked'.entries + option_map_or (λ n. bit (is_some (number_at marked.entries n))) (lookup test us) 0 ≡ length marked.entries → marked'.room ≡ marked.room → HaveRoom marked' (remove_entry test us)
    room_removed marked' seen lengths same = record {
      count =
          let e = ap marked_count seen in
          let gone = count_removed test (marks_of (number_at marked.entries) us) in
          let bits = looked_bit (number_at marked.entries) in
          omega (arith, e, gone, bits, has.count, lengths);
      room = let fewer = length_removed test us in let r = has.room in omega (arith, same, fewer, r);
    }

    module _ (m : Bool) (marked' marked'' : Marked K) (put : length marked'.entries ≡ length marked.entries + bit m) where
      -- a key comes to the front, where there is room for one more
      pub room_placed : (key : K) (vs : List (K × ℕ)) → marks_of (number_at marked''.entries) vs ≡ placed test key m (marks_of (number_at marked.entries) us)
          → length marked''.entries + option_map_or (λ n. bit (is_some (number_at marked'.entries n))) (lookup test us) 0 ≡ length marked'.entries
          → ((n : ℕ) → lookup test us ≡ Some n → number_at marked'.entries n ≡ number_at marked.entries n) → length us + 1 ≤ marked''.room → HaveRoom marked'' vs
      room_placed key vs seen taken beside room = record {
        count =
            let e = ap marked_count seen in
            let gone = count_removed test (marks_of (number_at marked.entries) us) in
            let bits = looked_bit (number_at marked.entries) in
            let former : option_map_or (λ n. bit (is_some (number_at marked'.entries n))) (lookup test us) 0 ≡ option_map_or (λ n. bit (is_some (number_at marked.entries n))) (lookup test us) 0 = bits_beside (lookup test us) beside in
            let front = in_front (marked_count (remove_entry test (marks_of (number_at marked.entries) us))) in
            omega (arith, e, front, gone, bits, former, has.count, put, taken);
        room =
            let lengths = length_marks (number_at marked''.entries) vs in
            let e = ap length seen in
            let fewer = length_removed test (marks_of (number_at marked.entries) us) in
            let whole = length_marks (number_at marked.entries) us in
            omega (arith, lengths, e, fewer, whole, room);
      }
        where
          bits_beside : (o : Option ℕ) → ((n : ℕ) → o ≡ Some n → number_at marked'.entries n ≡ number_at marked.entries n) → option_map_or (λ n. bit (is_some (number_at marked'.entries n))) o 0 ≡ option_map_or (λ n. bit (is_some (number_at marked.entries n))) o 0
          bits_beside None same = refl
          bits_beside (Some n) same = ap (λ o. bit (is_some o)) (same n refl)

          in_front : (n : ℕ) → cond m (suc n) n ≡ n + bit m
          in_front n = elim m as (λ b. cond b (suc n) n ≡ n + bit b) [ true ↦ omega arith | false ↦ omega arith ]

      -- or it doesn't after all, and its mark is taken again
      pub room_unplaced : (o : Option K) (key : K) → o ≡ cond m (Some key) None → length marked''.entries + bit (is_some o) ≡ length marked'.entries → marks_of (number_at marked''.entries) us ≡ marks_of (number_at marked.entries) us
          → marked.room ≤ marked''.room → HaveRoom marked'' us
      room_unplaced o key is taken seen more = room_same marked'' seen (let same : is_some o ≡ m = ap is_some is ∙ as_marked m in let b = ap bit same in omega (arith, b, taken, put)) more
        where
          as_marked : (b : Bool) → is_some (cond b (Some key) None) ≡ b
          as_marked true = refl
          as_marked false = refl

module _ {K : Type 0} {eq : K → K → Bool} (laws : IsEquivalence eq) (next cap : ℕ) (us : List (K × ℕ)) (marked marked' : Marked K) (a : AreNumbered eq next cap (number_at marked.entries) us) (has : HaveRoom marked us)
    (key : K) (n : ℕ) (found : Some n ≡ lookup (eq key) us) where
  -- a key is marked, if it isn't yet
  module _ (others : (i : ℕ) → i ≢ n → number_at marked'.entries i ≡ number_at marked.entries i) where
    pub mark_seen : number_at marked'.entries n ≡ cond (not (is_some (number_at marked.entries n))) (Some key) (number_at marked.entries n)
        → marks_of (number_at marked'.entries) us ≡ set_value (eq key) (marks_of (number_at marked.entries) us) true
    mark_seen here = (elim (is_some (number_at marked.entries n)) as (λ y. is_some (number_at marked.entries n) ≡ y → number_at marked'.entries n ≡ cond (not y) (Some key) (number_at marked.entries n)
        → marks_of (number_at marked'.entries) us ≡ set_value (eq key) (marks_of (number_at marked.entries) us) true) [
          | true ↦ λ t h. mark_put laws next cap (number_at marked.entries) us a key n false found (number_at marked'.entries) h others
              ∙ sym (set_value_same (eq key) (marks_of (number_at marked.entries) us) true (looked (eq key) us (number_at marked.entries) n true found t))
          | false ↦ λ t h. mark_put laws next cap (number_at marked.entries) us a key n true found (number_at marked'.entries) h others
        ]) refl here

    pub room_put : (b : Bool) → (b ≡ true → is_some (number_at marked.entries n) ≡ false) → number_at marked'.entries n ≡ cond b (Some key) (number_at marked.entries n) → length marked'.entries ≡ length marked.entries + bit b → marked'.room ≡ marked.room
        → HaveRoom marked' us
    room_put true new here lengths same =
        room_set (eq key) us marked has marked' n false true found (new refl) (mark_put laws next cap (number_at marked.entries) us a key n true found (number_at marked'.entries) here others) (omega (arith, lengths)) same
    room_put false new here lengths same =
        room_same (eq key) us marked has marked' (mark_put laws next cap (number_at marked.entries) us a key n false found (number_at marked'.entries) here others) (omega (arith, lengths)) (omega (arith, same))
