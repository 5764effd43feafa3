-- Keys in the order of their last use, and which of them are marked.
use Rattle.std.specs.Prelude.{◌≡◌, ℕ, suc, ◌+◌, ◌<◌, ◌≤◌, ◌-◌, ◌^◌, ◌==◌, nat_lt, Bool, true, false, cond, List, [], ◌∷◌, length, Option, Some, None, ⊤}
use Rattle.std.specs.Option.{option_map_or, is_some, IsSome}
use Rattle.std.specs.Map.{lookup, lookup_entry, remove_entry}

-- Marked keys under rising numbers, with room for more.
pub record Marked (K : Type 0) : Type 0 where
  pub entries : List (ℕ × K)
  pub room : ℕ

module _ {K : Type 0} where
  -- The key that is marked under a number.
  abbrev pub number_at : List (ℕ × K) → ℕ → Option K
  number_at marked n = lookup (λ m. n == m) marked

  -- The numbers rise from a bound on.
  abbrev pub Rise : ℕ → List (ℕ × K) → Type 0
  Rise bound [] = ⊤
  Rise bound (m ∷ ms) = (bound ≤ m.0) × Rise (m.0 + 1) ms

  -- How many numbers at the front are below n.
  abbrev pub count_below : ℕ → List (ℕ × K) → ℕ
  count_below n [] = 0
  count_below n (m ∷ ms) = cond (nat_lt m.0 n) (suc (count_below n ms)) 0

  -- The keys, each with whether it is marked under its number.
  abbrev pub marks_of : (ℕ → Option K) → List (K × ℕ) → List (K × Bool)
  marks_of at [] = []
  marks_of at (u ∷ us) = (u.0, is_some (at u.1)) ∷ marks_of at us

  -- The number of marked keys.
  abbrev pub marked_count : List (K × Bool) → ℕ
  marked_count [] = 0
  marked_count (u ∷ us) = cond u.1 (suc (marked_count us)) (marked_count us)

  -- The numbers fall from the front on, from below a bound.
  abbrev pub Fall : ℕ → List (K × ℕ) → Type 0
  Fall bound [] = ⊤
  Fall bound (u ∷ us) = (u.1 < bound) × Fall u.1 us

  -- The key that is marked under a number is the one with that number.
  pub record AreNumbered (eq : K → K → Bool) (next cap : ℕ) (at : ℕ → Option K) (us : List (K × ℕ)) : Type 0 where
    pub unbounded : cap ≡ 2 ^ 64 - 1
    pub fall : Fall next us
    pub held : (n : ℕ) (k : K) → at n ≡ Some k → lookup (eq k) us ≡ Some n

  -- There is room for the mark of each key.
  pub record HaveRoom (marked : Marked K) (us : List (K × ℕ)) : Type 0 where
    pub count : length marked.entries ≡ marked_count (marks_of (number_at marked.entries) us)
    pub room : length us ≤ marked.room

  -- The key is marked under a number below a bound, and no key is marked under a greater one below it.
  pub record IsLastBelow (at : ℕ → Option K) (bound : ℕ) (k : K) : Type 0 where
    pub number : ℕ
    pub is : at number ≡ Some k
    pub low : number < bound
    pub greatest : (n : ℕ) → n < bound → IsSome (at n) → n ≤ number

  -- The key that passes the test comes to the front, marked or not, or k if none passes.
  abbrev pub placed : (K → Bool) → K → Bool → List (K × Bool) → List (K × Bool)
  placed test k is_marked us = (option_map_or (λ e. e.0) (lookup_entry test us) k, is_marked) ∷ remove_entry test us

  -- The key at the front passes the test.
  abbrev pub is_first : (K → Bool) → List (K × Bool) → Bool
  is_first test [] = false
  is_first test (u ∷ us) = test u.0

  -- The first marked key.
  abbrev pub first_marked : List (K × Bool) → Option K
  first_marked [] = None
  first_marked (u ∷ us) = cond u.1 (Some u.0) (first_marked us)

  -- The keys after the one that passes the test.
  abbrev pub behind : {X : Type 0} → (K → Bool) → List (K × X) → List (K × X)
  behind test [] = []
  behind test (u ∷ us) = cond (test u.0) us (behind test us)

  -- The key that was found is equal to the one that is looked for, and none is found if there is none.
  abbrev pub IsFoundAs : (K → K → Bool) → Option K → Option K → Type 0
  IsFoundAs eq None None = ⊤
  IsFoundAs eq (Some k) (Some j) = eq k j ≡ true
  IsFoundAs eq None (Some j) = ⊥
  IsFoundAs eq (Some k) None = ⊥
