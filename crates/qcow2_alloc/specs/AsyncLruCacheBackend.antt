-- What a cache's backend does to the store, and the contents of a store with a cache over it.
use Rattle.std.specs.Prelude.{◌≡◌, ℕ, Bool, false, cond, List}
use Rattle.std.specs.Option.{option_map_or}
use Rattle.std.specs.Map.{lookup}
use Rattle.qcow2_alloc.specs.declared.async_lru_cache.slot.Slot.{Slot}

-- What a load and a flush may do. Each relation has the store before and the key first, and the store after last.
pub record Steps (S K V E : Type 0) : Type 1 where
  -- A load that returns the value.
  pub loaded : S → K → V → S → Type 0
  -- A load that fails with the error.
  pub load_failed : S → K → E → S → Type 0
  -- A flush that succeeds, with the value before and after it.
  pub flushed : S → K → V → V → S → Type 0
  -- A flush that fails with the error, and leaves the value the same.
  pub flush_failed : S → K → V → E → S → Type 0

-- The bytes under each key stay the same.
abbrev pub KeepsBytes : {S K : Type 0} → (S → K → List ℕ) → S → S → Type 0
KeepsBytes stored s t = (j : _) → stored t j ≡ stored s j

-- The bytes of a modified value, or `under` for an unmodified one.
abbrev pub value_laid_over : {V : Type 0} → (V → Bool) → (V → List ℕ) → V → List ℕ → List ℕ
value_laid_over is_modified bytes v under = cond (is_modified v) (bytes v) under

-- The laws of a backend.
pub record IsLawful {S K V E : Type 0} (steps : Steps S K V E) (eq : K → K → Bool) (is_modified : V → Bool) (bytes : V → List ℕ) (stored : S → K → List ℕ) (is_honest : S → Type 0) : Type 0 where
  -- A load returns an unmodified value.
  pub load_gives : (s t : S) (k : K) (v : V) → steps.loaded s k v t → is_modified v ≡ false
  -- On an honest store the value has the bytes under the key, and no bytes change.
  pub load_reads : (s t : S) (k : K) (v : V) → steps.loaded s k v t → is_honest s → is_honest t × (bytes v ≡ stored s k) × KeepsBytes stored s t
  -- On an honest store a failed load changes no bytes either.
  pub failed_load_keeps : (s t : S) (k : K) (e : E) → steps.load_failed s k e t → is_honest s → is_honest t × KeepsBytes stored s t
  -- A successful flush leaves the value unmodified, with the same bytes.
  pub flush_cleans : (s t : S) (k : K) (v w : V) → steps.flushed s k v w t → (is_modified w ≡ false) × (bytes w ≡ bytes v)
  -- After a successful flush on an honest store, the bytes of a modified value are under the key, and no others changed.
  pub flush_writes : (s t : S) (k : K) (v w : V) → steps.flushed s k v w t → is_honest s
      → is_honest t × ((j : K) → stored t j ≡ cond (eq k j) (value_laid_over is_modified bytes v (stored s j)) (stored s j))
  -- On an honest store a failed flush changes at most the bytes under the key, and only for a modified value.
  pub failed_flush_keeps : (s t : S) (k : K) (v : V) (e : E) → steps.flush_failed s k v e t → is_honest s
      → is_honest t × (is_modified v ≡ false → KeepsBytes stored s t) × ((j : K) → eq k j ≡ false → stored t j ≡ stored s j)

module _ {S K V : Type 0} (eq : K → K → Bool) (is_modified : V → Bool) (bytes : V → List ℕ) (stored : S → K → List ℕ) where
  -- The known bytes under a key: those of the store with the cached value overlaid.
  abbrev pub known_under_key : S → List (K × Slot V) → K → List ℕ
  known_under_key s es j = option_map_or (λ slot. value_laid_over is_modified bytes slot.value (stored s j)) (lookup (eq j) es) (stored s j)

  module _ (is_honest : S → Type 0) where
    -- On an honest store all known bytes stay the same.
    pub record KeepsKnown (s : S) (es : List (K × Slot V)) (t : S) (fs : List (K × Slot V)) : Type 0 where
      pub honest : is_honest s → is_honest t
      pub stays : is_honest s → (j : K) → known_under_key t fs j ≡ known_under_key s es j

    -- On an honest store an inserted value is overlaid on the known bytes under its key.
    pub record OverlaysBytes (k : K) (v : V) (s : S) (es : List (K × Slot V)) (t : S) (fs : List (K × Slot V)) : Type 0 where
      pub honest : is_honest s → is_honest t
      pub laid : is_honest s → (j : K) → known_under_key t fs j ≡ cond (eq k j) (value_laid_over is_modified bytes v (known_under_key s es j)) (known_under_key s es j)
