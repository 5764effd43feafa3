-- A load keeps the other entries. If the cache is full, the least recently used one without a pin may go.
use Rattle.std.proofs.Common.{◌≡◌, ◌<◌, ◌∷◌, inl, inr, ℕ, Bool, true, false, eqb, List, length, Option, Some, None, Result, Ok, IsSome, IfSome, arith, refl, sym, ap, subst}
use Rattle.std.specs.Prelude.{IsSomeAnd}
use Rattle.qcow2_alloc.proofs.Common.{IsNone, MatchOption, option_map, lookup, eq-eqb, eqb-true, promoted, Slot, CacheError, slot_of, value_at, oldest_free, OnlyOldestGoes, OthersStay, Cache, Steps, HasRoomForEntry, GetsNew}
use Rattle.qcow2_alloc.proofs.Lemmas.{none_or_some, values_stay}
use Rattle.qcow2_alloc.proofs.CachedEntries.Cases.{get_cases}
use Rattle.qcow2_alloc.proofs.CachedEntries.Hits.{got_there, slot_there}
use Rattle.qcow2_alloc.proofs.CachedEntries.Room.{room_missing}
use Rattle.qcow2_alloc.specs.KeptEntries.{KeepsCached}

not_missing : {X : Type 0} (o : Option X) → IsSome o → IsNone o → ⊥
not_missing None there none = cc
not_missing (Some x) there none = cc

missing_is : {X : Type 0} (o : Option X) → IsNone o → o ≡ None
missing_is None none = refl
missing_is (Some x) none = cc

some_value : {V : Type 0} (o : Option (Slot V)) → IsSome o → IsSome (option_map (λ s. s.value) o)
some_value None there = cc
some_value (Some s) there = refl

any_such : {A : Type 0} (P Q : A → Type 0) (o : Option A) → ((x : A) → P x → Q x) → IsSomeAnd o P → IsSomeAnd o Q
any_such P Q None more such = such
any_such P Q (Some x) more such = more x such

-- what is there was there before, or is unmodified
abbrev IsAsBefore : {V : Type 0} → (V → Bool) → Option V → Option V → Type 0
IsAsBefore is_modified before now = IfSome now (λ v. MatchOption before (is_modified v ≡ false) (λ was. v ≡ was))

as_before : {V : Type 0} (is_modified : V → Bool) (before now : Option V) → (IsSome now → now ≡ before) → IsAsBefore is_modified before now
as_before is_modified before None same = tt
as_before is_modified before (Some v) same = rw (sym (same refl)) refl

is_new : {V : Type 0} (is_modified : V → Bool) (before now : Option V) → before ≡ None → IfSome now (λ v. is_modified v ≡ false) → IsAsBefore is_modified before now
is_new is_modified before None none fresh = tt
is_new is_modified before (Some v) none fresh = rw none fresh

module _ {V : Type 0} where
  abbrev KeepsValues : List (ℕ × Slot V) → List (ℕ × Slot V) → Type 0
  KeepsValues es fs = (c : ℕ) → IsSome (value_at (eqb c) es) → value_at (eqb c) fs ≡ value_at (eqb c) es

  values_same : (es fs : List (ℕ × Slot V)) → fs ≡ es → KeepsValues es fs
  values_same es fs same c there = ap (λ l. value_at (eqb c) l) same

  front_case : (key : ℕ) (es gs : List (ℕ × Slot V)) (slot : Slot V) → IsNone (lookup (eqb key) es) → KeepsValues es gs
      → (c : ℕ) → IsSome (value_at (eqb c) es) → (b : Bool) → eqb c key ≡ b → value_at (eqb c) ((key, slot) ∷ gs) ≡ value_at (eqb c) es
  front_case key es gs slot none keep c there true is =
      absurd (not_missing (lookup (eqb key) es) (subst (λ k. IsSome (lookup (eqb k) es)) (eqb-true c key is) (slot_there (lookup (eqb c) es) there)) none)
  front_case key es gs slot none keep c there false apart = rw apart (keep c there)

  -- a new entry is in front
  values_front : (key : ℕ) (es gs : List (ℕ × Slot V)) (slot : Slot V) → IsNone (lookup (eqb key) es) → KeepsValues es gs → KeepsValues es ((key, slot) ∷ gs)
  values_front key es gs slot none keep c there = front_case key es gs slot none keep c there (eqb c key) refl

module _ {S V E : Type 0} (steps : Steps S ℕ V E) (size : ℕ) (may_flush : Bool) (s : S) (es : List (ℕ × Slot V)) (key : ℕ) where
  room_keeps : length es < size → (q : S) (gs : List (ℕ × Slot V)) → HasRoomForEntry steps eqb size may_flush s es q gs → KeepsValues es gs
  room_keeps room q gs made = elim made [
    | inl at_once ↦ values_same es gs at_once.2
    | inr evicted ↦ absurd (let full = evicted.must.full in omega arith)
  ]

  -- a load of a new key, where there is room
  gets_keep_values : length es < size → (r : Result Bool (CacheError ℕ E)) (t : S) (fs : List (ℕ × Slot V)) → IsNone (lookup (eqb key) es) → GetsNew steps eqb size may_flush key s es r t fs → KeepsValues es fs
  gets_keep_values room r t fs none =
      get_cases steps s t es fs key may_flush (KeepsValues es) (values_same es es refl) eqb size (room_keeps room) r
      (λ q gs v made _. values_front key es gs (slot_of v 0) none (room_keeps room q gs made))

  module _ (is_modified : V → Bool) where
    abbrev IsUnmodified : List (ℕ × Slot V) → Type 0
    IsUnmodified gs = IfSome (value_at (eqb key) gs) (λ v. is_modified v ≡ false)

    none_unmodified : (gs : List (ℕ × Slot V)) → lookup (eqb key) gs ≡ None → IsUnmodified gs
    none_unmodified gs none = rw none tt

    -- what it loads is unmodified
    gets_unmodified : ((q t : S) (v : V) → steps.loaded q key v t → is_modified v ≡ false) → (r : Result Bool (CacheError ℕ E)) (t : S) (fs : List (ℕ × Slot V)) → lookup (eqb key) es ≡ None → GetsNew steps eqb size may_flush key s es r t fs → IsUnmodified fs
    gets_unmodified fresh r t fs none =
        get_cases steps s t es fs key may_flush IsUnmodified (none_unmodified es none) eqb size (λ q gs made. none_unmodified gs (room_missing steps eqb size may_flush key s es q gs made none)) r
        (λ q gs v made loaded. rw (eq-eqb key key refl) (fresh q t v loaded))

module _ {B V : Type 0} (is_modified : V → Bool) (key : ℕ) (cache : Cache B ℕ V) where
  -- nothing changed
  pub keeps_none : (cache' : Cache B ℕ V) → cache' ≡ cache → KeepsCached is_modified key cache cache'
  keeps_none cache' same = record {
    all = λ _ c _. ap (λ (x : Cache B ℕ V). value_at (eqb c) x.entries) same;
    but_oldest = λ j there gone. absurd (not_missing (lookup (eqb j) cache.entries) there (subst (λ (x : Cache B ℕ V). IsNone (lookup (eqb j) x.entries)) same gone));
    loads = λ c. as_before is_modified (value_at (eqb c) cache.entries) (value_at (eqb c) cache'.entries) (λ _. ap (λ (x : Cache B ℕ V). value_at (eqb c) x.entries) same);
  }

  pub keeps_from : (before cache' : Cache B ℕ V) → before ≡ cache → KeepsCached is_modified key before cache' → KeepsCached is_modified key cache cache'
  keeps_from before cache' same keeps = subst (λ (x : Cache B ℕ V). KeepsCached is_modified key x cache') same keeps

module _ {B V S E : Type 0} (key : ℕ) (cache cache' : Cache B ℕ V) (s t : S) (r : Result Bool (CacheError ℕ E))
    (hit : IsSome (lookup (eqb key) cache.entries) → (r ≡ Ok true) × (cache'.entries ≡ promoted (eqb key) cache.entries) × (t ≡ s)) where
  module _ (steps : Steps S ℕ V E) (may_flush : Bool) (is_modified : V → Bool) (fresh : (q u : S) (v : V) → steps.loaded q key v u → is_modified v ≡ false)
      (miss : IsNone (lookup (eqb key) cache.entries) → GetsNew steps eqb cache.size may_flush key s cache.entries r t cache'.entries) (stays : OthersStay eqb key cache.entries cache'.entries) where
    loads_case : (c : ℕ) (b : Bool) → eqb key c ≡ b → IsAsBefore is_modified (value_at (eqb c) cache.entries) (value_at (eqb c) cache'.entries)
    loads_case c false other = as_before is_modified (value_at (eqb c) cache.entries) (value_at (eqb c) cache'.entries) (values_stay key cache.entries cache'.entries stays c other)
    loads_case c true is = subst (λ k. IsAsBefore is_modified (value_at (eqb k) cache.entries) (value_at (eqb k) cache'.entries)) (eqb-true key c is) (elim (none_or_some (lookup (eqb key) cache.entries)) [
      | inl there ↦ as_before is_modified (value_at (eqb key) cache.entries) (value_at (eqb key) cache'.entries) (λ _. (got_there key cache.entries cache'.entries s t r hit (some_value (lookup (eqb key) cache.entries) there)).2 key)
      | inr none ↦
          let missing = missing_is (lookup (eqb key) cache.entries) none in
          is_new is_modified (value_at (eqb key) cache.entries) (value_at (eqb key) cache'.entries) (ap (option_map (λ s. s.value)) missing)
          (gets_unmodified steps cache.size may_flush s cache.entries key is_modified fresh r t cache'.entries missing (miss none))
    ])

    -- a load keeps the other entries
    pub load_keeps : OnlyOldestGoes eqb (λ e. (w : V) × (q : S) × steps.flushed s e.0 e.1.value w q) cache.entries cache'.entries → KeepsCached is_modified key cache cache'
    load_keeps eviction = record {
      all = λ may. elim may [
        | inl there ↦ λ c _. (got_there key cache.entries cache'.entries s t r hit there).2 c
        | inr room ↦ elim (none_or_some (lookup (eqb key) cache.entries)) [
          | inl there ↦ λ c _. (got_there key cache.entries cache'.entries s t r hit (some_value (lookup (eqb key) cache.entries) there)).2 c
          | inr none ↦ gets_keep_values steps cache.size may_flush s cache.entries key room r t cache'.entries none (miss none)
        ]
      ];
      but_oldest = λ j there gone. any_such (λ e. (eqb j e.0 ≡ true) × ((w : V) × (q : S) × steps.flushed s e.0 e.1.value w q)) (λ e. (eqb j e.0 ≡ true) × Unit {0}) (oldest_free cache.entries) (λ e such. (such.0, tt)) (eviction j there gone);
      loads = λ c. loads_case c (eqb key c) refl;
    }
