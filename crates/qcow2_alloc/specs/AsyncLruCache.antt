-- The view of an `AsyncLruCache` in contracts, and functions on its list of entries.
use Rattle.std.specs.Prelude.{◌≡◌, ℕ, ◌+◌, ◌-◌, ◌^◌, Bool, true, false, cond, not, List, [], ◌∷◌, Option, Some, None, option_map, IsSome, IsNone, nat_lt, slice_get, IsSomeAnd}
use Rattle.std.specs.Option.{option_map_or, option_or}
use Rattle.std.specs.List.{IsDistinct}
use Rattle.std.specs.Map.{keys_of, lookup, set_value}
use Rattle.qcow2_alloc.specs.declared.async_lru_cache.slot.Slot.{Slot}

-- The backend, the greatest number of entries, and the entries, the most recently used first.
pub record Cache (B K V : Type 0) : Type 0 where
  pub backend : B
  pub size : ℕ
  pub entries : List (K × Slot V)

abbrev pub slot_of : {V : Type 0} → V → ℕ → Slot V
slot_of v n = record { value = v; pins = n }

module _ {B K V : Type 0} where
  abbrev pub cache_of : B → ℕ → List (K × Slot V) → Cache B K V
  cache_of b n es = record { backend = b; size = n; entries = es }

  -- The cache with other entries.
  abbrev pub with_entries : Cache B K V → List (K × Slot V) → Cache B K V
  with_entries c es = cache_of c.backend c.size es

module _ {K V : Type 0} (test : K → Bool) (es : List (K × Slot V)) where
  -- The value under the key that passes the test.
  abbrev pub value_at : Option V
  value_at = option_map (λ s. s.value) (lookup test es)

  -- The entries with v as the value under this key.
  abbrev pub set_at : V → List (K × Slot V)
  set_at v = option_map_or (λ s. set_value test es (slot_of v s.pins)) (lookup test es) es

  -- The key has an entry, and its pins can be incremented.
  abbrev pub can_pin : Bool
  can_pin = option_map_or (λ s. nat_lt s.pins (2 ^ 64 - 1)) (lookup test es) false

  -- The entries with one pin more under this key, if it can be incremented.
  abbrev pub pin_at : List (K × Slot V)
  pin_at = option_map_or (λ s. cond (nat_lt s.pins (2 ^ 64 - 1)) (set_value test es (slot_of s.value (s.pins + 1))) es) (lookup test es) es

  -- The key has an entry with a pin.
  abbrev pub can_unpin : Bool
  can_unpin = option_map_or (λ s. nat_lt 0 s.pins) (lookup test es) false

  -- The entries with one pin less under this key, if it has one.
  abbrev pub unpin_at : List (K × Slot V)
  unpin_at = option_map_or (λ s. cond (nat_lt 0 s.pins) (set_value test es (slot_of s.value (s.pins - 1))) es) (lookup test es) es

  -- The key has an entry without a pin.
  abbrev pub can_remove : Bool
  can_remove = option_map_or (λ s. not (nat_lt 0 s.pins)) (lookup test es) false

  -- The number of pins of the key's entry, 0 if it has none.
  abbrev pub pins_at : ℕ
  pins_at = option_map_or (λ s. s.pins) (lookup test es) 0

  -- The key is that of the most recently used entry.
  abbrev pub IsInFront : Type 0
  IsInFront = IsSomeAnd (slice_get es 0) (λ e. test e.0 ≡ true)

abbrev pub is_pinned : {V : Type 0} → Slot V → Bool
is_pinned s = nat_lt 0 s.pins

module _ {K V : Type 0} where
  -- The entries that are pinned.
  abbrev pub pinned : List (K × Slot V) → List (K × Slot V)
  pinned [] = []
  pinned (e ∷ es) = cond (is_pinned e.1) (e ∷ pinned es) (pinned es)

  -- The least recently used entry without a pin.
  abbrev pub oldest_free : List (K × Slot V) → Option (K × Slot V)
  oldest_free [] = None
  oldest_free (e ∷ es) = option_or (oldest_free es) (cond (is_pinned e.1) None (Some e))

  -- Only the least recently used entry without a pin may be missing, and it satisfies P.
  abbrev pub OnlyOldestGoes : (K → K → Bool) → (K × Slot V → Type 0) → List (K × Slot V) → List (K × Slot V) → Type 0
  OnlyOldestGoes eq P es fs = (k : K) → IsSome (lookup (eq k) es) → IsNone (lookup (eq k) fs)
      → IsSomeAnd (oldest_free es) (λ e. (eq k e.0 ≡ true) × P e)

  -- Every other key that still has an entry has its old value.
  abbrev pub OthersStay : (K → K → Bool) → K → List (K × Slot V) → List (K × Slot V) → Type 0
  OthersStay eq k es fs = (j : K) → eq k j ≡ false → IsSome (lookup (eq j) fs) → lookup (eq j) fs ≡ lookup (eq j) es

  -- Each key keeps its pins, and if no entry was pinned, none is.
  pub record KeepsPins (eq : K → K → Bool) (es fs : List (K × Slot V)) : Type 0 where
    pub pins : (k : K) → pins_at (eq k) fs ≡ pins_at (eq k) es
    pub free : pinned es ≡ [] → pinned fs ≡ []

module _ {B K V : Type 0} (eq : K → K → Bool) where
  -- What a call for a key keeps: the backend, the size, the values of other keys, and the pins.
  pub record KeepsOthers (key : K) (old new : Cache B K V) : Type 0 where
    pub distinct : IsDistinct eq (keys_of old.entries)
    pub others : new ≡ with_entries old new.entries
    pub stays : OthersStay eq key old.entries new.entries
    pub pins : KeepsPins eq old.entries new.entries
