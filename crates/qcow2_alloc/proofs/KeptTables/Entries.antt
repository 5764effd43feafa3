-- Entries of a cache as tables: which one is evicted, moves to the front, or is inserted.
use Rattle.std.proofs.Common.{◌≡◌, ◌≢◌, ◌+◌, ◌*◌, ◌^◌, ◌<◌, ◌≤◌, ◌⊎◌, ◌∷◌, ◌++◌, ℕ, Bool, true, false, cond, eqb, inl, inr, List, [], Option, Some, None, refl, sym, ap, arith}
use Rattle.qcow2_alloc.proofs.Common.{cases_Bool, nat_tests, pow_pos, option_or, lookup, lookup_entry, remove_entry, CachedTable, Slot, oldest_free, is_pinned, apart, cached_table, cached_tables, AreElsewhere}
use Rattle.qcow2_alloc.proofs.KeptTables.Loaded.{elsewhere_of}

-- each begins at a place of its own
abbrev pub AreDistinct : List CachedTable → Type 0
AreDistinct [] = Unit {0}
AreDistinct (t ∷ ts) = AreElsewhere t.place ts × AreDistinct ts

pub away_from : (front back : List CachedTable) (t : CachedTable) → AreDistinct (front ++ t ∷ back) → AreElsewhere t.place (front ++ back)
away_from [] back t apart = apart.0
away_from (u ∷ front) back t apart = ((λ e. elsewhere_of u.place front back t apart.0 (sym e)), away_from front back t apart.1)

-- an entry of a list, with what stands before and behind it
pub record Splits {X : Type 0} (es : List X) (e : X) : Type 0 where
  pub front : List X
  pub back : List X
  pub is : es ≡ front ++ e ∷ back

module _ {K V : Type 0} where
  first_or : (o : Option (K × Slot V)) (b : Bool) (e f : K × Slot V) → option_or o (cond b None (Some e)) ≡ Some f → (o ≡ Some f) ⊎ (e ≡ f)
  first_or (Some x) b e f h = inl h
  first_or None true e f h = absurd (cc)
  first_or None false e f h = inr (some_is h)
    where
      some_is : {A : Type 0} {a b : A} → Some a ≡ Some b → a ≡ b
      some_is e = cc

  pub split_oldest : (es : List (K × Slot V)) (e : K × Slot V) → oldest_free es ≡ Some e → Splits es e
  split_oldest [] e h = absurd (cc)
  split_oldest (f ∷ es) e h = elim (first_or (oldest_free es) (is_pinned f.1) f e h) [
    | inl later ↦ let s = split_oldest es e later in record { front = f ∷ s.front; back = s.back; is = ap (λ l. f ∷ l) s.is }
    | inr here ↦ record { front = []; back = es; is = ap (λ x. x ∷ es) here }
  ]

-- what is found, and the list without it
pub record Found {K X : Type 0} (test : K → Bool) (es : List (K × X)) (e : K × X) : Type 0 where
  pub front : List (K × X)
  pub back : List (K × X)
  pub is : es ≡ front ++ e ∷ back
  pub rest : remove_entry test es ≡ front ++ back

pub split_found : {K X : Type 0} (test : K → Bool) (es : List (K × X)) (e : K × X) → lookup_entry test es ≡ Some e → Found test es e
split_found test [] e h = absurd (cc)
split_found test (f ∷ es) e h = (elim (test f.0) as (λ b. test f.0 ≡ b → Found test (f ∷ es) e) [
  | true ↦ λ t. let h' = rw t at h in let same : f ≡ e = some_is h' in record { front = []; back = es; is = ap (λ x. x ∷ es) same; rest = rw t refl }
  | false ↦ λ t. let s = split_found test es e (rw t at h) in record { front = f ∷ s.front; back = s.back; is = ap (λ l. f ∷ l) s.is; rest = rw t (ap (λ l. f ∷ l) s.rest) }
]) refl
  where
    some_is : {A : Type 0} {a b : A} → Some a ≡ Some b → a ≡ b
    some_is e = cc

module _ {V : Type 0} (bits : ℕ) (bytes : V → List ℕ) (is_modified : V → Bool) where
  abbrev tables : List (ℕ × Slot V) → List CachedTable
  tables = cached_tables bits bytes is_modified

  abbrev table : ℕ × Slot V → CachedTable
  table = cached_table bits bytes is_modified

  pub tables_at : (front back : List (ℕ × Slot V)) (e : ℕ × Slot V) → tables (front ++ e ∷ back) ≡ tables front ++ table e ∷ tables back
  tables_at [] back e = refl
  tables_at (f ∷ front) back e = ap (λ l. table f ∷ l) (tables_at front back e)

  pub tables_both : (front back : List (ℕ × Slot V)) → tables (front ++ back) ≡ tables front ++ tables back
  tables_both [] back = refl
  tables_both (f ∷ front) back = ap (λ l. table f ∷ l) (tables_both front back)

  -- another place is another key
  other_key : (a b : ℕ) → b * 2 ^ bits ≢ a * 2 ^ bits → eqb b a ≡ false
  other_key a b other = elim (cases_Bool (eqb b a)) [
    | inr isnt ↦ isnt
    | inl same ↦ absurd (let e : b ≡ a = grind (arith, nat_tests) in other (ap (λ n. n * 2 ^ bits) e))
  ]

  elsewhere_at : (place : ℕ) (front back : List (ℕ × Slot V)) (e : ℕ × Slot V) → AreElsewhere place (tables (front ++ e ∷ back)) → e.0 * 2 ^ bits ≢ place
  elsewhere_at place [] back e away = away.0
  elsewhere_at place (f ∷ front) back e away = elsewhere_at place front back e away.1

  -- the entry of a key is taken out
  pub removed_at : (front back : List (ℕ × Slot V)) (e : ℕ × Slot V) → AreDistinct (tables (front ++ e ∷ back)) → remove_entry (eqb e.0) (front ++ e ∷ back) ≡ front ++ back
  removed_at [] back e apart = let own : eqb e.0 e.0 ≡ true = grind (arith, nat_tests) in rw own refl
  removed_at (f ∷ front) back e apart =
      let no : eqb e.0 f.0 ≡ false = other_key f.0 e.0 (elsewhere_at (f.0 * 2 ^ bits) front back e apart.0) in
      rw no (ap (λ l. f ∷ l) (removed_at front back e apart.1))

  -- a key that isn't there has its place to itself
  pub elsewhere_of_none : (k : ℕ) (es : List (ℕ × Slot V)) → lookup (eqb k) es ≡ None → AreElsewhere (k * 2 ^ bits) (tables es)
  elsewhere_of_none k [] h = tt
  elsewhere_of_none k (e ∷ es) h = (elim (eqb k e.0) as (λ b. eqb k e.0 ≡ b → AreElsewhere (k * 2 ^ bits) (tables (e ∷ es))) [
    | true ↦ λ t. absurd (let g = rw t at h in some_none g)
    | false ↦ λ t.
        let ne : e.0 ≢ k = (λ same. differ (eqb k e.0) (own k e.0 same) t) in
        ((λ same. far e.0 k (apart e.0 k (2 ^ bits) ne) same), elsewhere_of_none k es (rw t at h))
  ]) refl
    where
      some_none : {A : Type 0} {a : A} → Some a ≡ None → ⊥
      some_none e = cc

      differ : (b : Bool) → b ≡ true → b ≡ false → ⊥
      differ b is isnt = cc

      own : (a b : ℕ) → b ≡ a → eqb a b ≡ true
      own a b same = grind (arith, nat_tests)

      far : (a b : ℕ) → (b * 2 ^ bits + 2 ^ bits ≤ a * 2 ^ bits) ⊎ (a * 2 ^ bits + 2 ^ bits ≤ b * 2 ^ bits) → a * 2 ^ bits ≡ b * 2 ^ bits → ⊥
      far a b cases same = let some : 0 < 2 ^ bits = pow_pos bits in elim cases [ inl le ↦ omega arith | inr le ↦ omega arith ]
