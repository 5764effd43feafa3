-- What each call of an `AsyncLruCache` returns, and what it leaves of the store and the entries.
use Rattle.std.specs.Prelude.{◌≡◌, ℕ, ◌<◌, ◌≤◌, Bool, true, false, List, [], ◌∷◌, length, Option, Some, None, Result, Ok, Err, ◌⊎◌}
use Rattle.std.specs.Option.{option_or}
use Rattle.std.specs.Map.{keys_of, remove_entry, set_value}
use Rattle.qcow2_alloc.specs.declared.async_lru_cache.slot.Slot.{Slot}
use Rattle.qcow2_alloc.specs.declared.async_lru_cache.error.CacheError.{CacheError}
use Rattle.qcow2_alloc.specs.declared.async_lru_cache.error.CacheError.TheVariants.{InUse, StillInUse, Memory, Backend}
use Rattle.qcow2_alloc.specs.AsyncLruCache.{slot_of, pinned, oldest_free}
use Rattle.qcow2_alloc.specs.AsyncLruCacheBackend.{Steps}

abbrev pub Unit₀ : Type 0
Unit₀ = Unit {0}

-- What `invalidate` returns, with the entries before and after it.
abbrev pub Invalidates : {K V E : Type 0} → List (K × Slot V) → Result Unit₀ (CacheError K E) → List (K × Slot V) → Type 0
Invalidates es (Ok _) fs = (pinned es ≡ []) × (fs ≡ [])
Invalidates es (Err (StillInUse keys)) fs = (0 < length (pinned es)) × (keys.items ≡ keys_of (pinned es)) × (fs ≡ pinned es)
Invalidates es (Err Memory) fs = (0 < length (pinned es)) × (fs ≡ es)
Invalidates es (Err InUse) fs = ⊥
Invalidates es (Err (Backend _)) fs = ⊥

module _ {S K V E : Type 0} (steps : Steps S K V E) where
  -- A flush of entry e leaves d in its place, or fails with the error.
  abbrev pub FlushesEntry : S → K × Slot V → Option E → S → Slot V → Type 0
  FlushesEntry s e None t d = steps.flushed s e.0 e.1.value d.value t × (d.pins ≡ e.1.pins)
  FlushesEntry s e (Some x) t d = steps.flush_failed s e.0 e.1.value x t × (d ≡ e.1)

  -- A flush of each entry in turn, with the first failure.
  abbrev pub FlushesAll : S → List (K × Slot V) → Option E → S → List (K × Slot V) → Type 0
  FlushesAll s [] o t fs = (o ≡ None) × (t ≡ s) × (fs ≡ [])
  FlushesAll s (e ∷ es) o t fs = (x : Option E) × (r : S) × (d : Slot V) × (y : Option E) × (rest : List (K × Slot V))
      × FlushesEntry s e x r d × FlushesAll r es y t rest × (o ≡ option_or x y) × (fs ≡ (e.0, d) ∷ rest)

  -- What `flush` returns and leaves.
  abbrev pub Flushes : S → List (K × Slot V) → Result Unit₀ (CacheError K E) → S → List (K × Slot V) → Type 0
  Flushes s es (Ok _) t fs = FlushesAll s es None t fs
  Flushes s es (Err (Backend x)) t fs = FlushesAll s es (Some x) t fs
  Flushes s es (Err InUse) t fs = ⊥
  Flushes s es (Err Memory) t fs = ⊥
  Flushes s es (Err (StillInUse _)) t fs = ⊥

  -- What `flush_key` returns and leaves, for a key with the value and pins d.
  abbrev pub FlushesKey : (K → Bool) → K → Slot V → S → List (K × Slot V) → Result Bool (CacheError K E) → S → List (K × Slot V) → Type 0
  FlushesKey test k d s es (Ok true) t fs = (w : V) × steps.flushed s k d.value w t × (fs ≡ set_value test es (slot_of w d.pins))
  FlushesKey test k d s es (Ok false) t fs = ⊥
  FlushesKey test k d s es (Err (Backend x)) t fs = steps.flush_failed s k d.value x t × (fs ≡ es)
  FlushesKey test k d s es (Err InUse) t fs = ⊥
  FlushesKey test k d s es (Err Memory) t fs = ⊥
  FlushesKey test k d s es (Err (StillInUse _)) t fs = ⊥

  -- What `insert` of v returns and leaves, if the key already has entry e.
  abbrev pub Replaces : K → K × Slot V → List (K × Slot V) → V → Bool → S → List (K × Slot V) → Result Bool (CacheError K E) → S → List (K × Slot V) → Option V → Type 0
  Replaces k e others v may_flush s es (Ok true) t fs left =
      (may_flush ≡ true) × ((w : V) × steps.flushed s k e.1.value w t) × (fs ≡ (e.0, slot_of v e.1.pins) ∷ others) × (left ≡ None)
  Replaces k e others v may_flush s es (Ok false) t fs left = (may_flush ≡ false) × (t ≡ s) × (fs ≡ es) × (left ≡ Some v)
  Replaces k e others v may_flush s es (Err (Backend x)) t fs left =
      (may_flush ≡ true) × steps.flush_failed s k e.1.value x t × (fs ≡ e ∷ others) × (left ≡ Some v)
  Replaces k e others v may_flush s es (Err InUse) t fs left = ⊥
  Replaces k e others v may_flush s es (Err (StillInUse _)) t fs left = ⊥
  Replaces k e others v may_flush s es (Err Memory) t fs left = ⊥

  module _ (eq : K → K → Bool) (size : ℕ) (may_flush : Bool) where
    -- The cache is full, and flushing is allowed.
    pub record MustEvict (es : List (K × Slot V)) : Type 0 where
      pub full : size ≤ length es
      pub may : may_flush ≡ true

    -- The least recently used entry without a pin is flushed and removed.
    pub record Evicts (s : S) (es : List (K × Slot V)) (t : S) (fs : List (K × Slot V)) : Type 0 where
      pub must : MustEvict es
      pub entry : K × Slot V
      pub eviction : oldest_free es ≡ Some entry
      pub clean : V
      pub flushed : steps.flushed s entry.0 entry.1.value clean t
      pub rest : fs ≡ remove_entry (eq entry.0) es

    -- The flush of the least recently used entry without a pin fails, and the entry stays.
    pub record FailsToEvict (s : S) (es : List (K × Slot V)) (x : E) (t : S) (fs : List (K × Slot V)) : Type 0 where
      pub must : MustEvict es
      pub entry : K × Slot V
      pub eviction : oldest_free es ≡ Some entry
      pub failed : steps.flush_failed s entry.0 entry.1.value x t
      pub same : fs ≡ es

    -- There is room for one more entry, at once or after an eviction.
    abbrev pub HasRoomForEntry : S → List (K × Slot V) → S → List (K × Slot V) → Type 0
    HasRoomForEntry s es t fs = ((length es < size) × (t ≡ s) × (fs ≡ es)) ⊎ Evicts s es t fs

    -- There is no room for another entry, and the result says why.
    abbrev pub HasNoRoom : S → List (K × Slot V) → Result Bool (CacheError K E) → S → List (K × Slot V) → Type 0
    HasNoRoom s es (Ok true) t fs = ⊥
    HasNoRoom s es (Ok false) t fs = (size ≤ length es) × (may_flush ≡ false) × (t ≡ s) × (fs ≡ es)
    HasNoRoom s es (Err InUse) t fs = MustEvict es × (oldest_free es ≡ None) × (t ≡ s) × (fs ≡ es)
    HasNoRoom s es (Err (Backend x)) t fs = FailsToEvict s es x t fs
    HasNoRoom s es (Err Memory) t fs = ⊥
    HasNoRoom s es (Err (StillInUse _)) t fs = ⊥

    -- What `make_room` returns and leaves.
    abbrev pub MakesRoom : S → List (K × Slot V) → Result Bool (CacheError K E) → S → List (K × Slot V) → Type 0
    MakesRoom s es (Ok true) t fs = HasRoomForEntry s es t fs
    MakesRoom s es (Ok false) t fs = HasNoRoom s es (Ok false) t fs
    MakesRoom s es (Err e) t fs = HasNoRoom s es (Err e) t fs

    module _ (k : K) where
      -- What `insert` of v at a new key returns and leaves.
      abbrev pub InsertsNew : V → S → List (K × Slot V) → Result Bool (CacheError K E) → S → List (K × Slot V) → Option V → Type 0
      InsertsNew v s es (Ok true) t fs left = ((gs : List (K × Slot V)) × HasRoomForEntry s es t gs × (fs ≡ (k, slot_of v 0) ∷ gs)) × (left ≡ None)
      InsertsNew v s es (Ok false) t fs left = HasNoRoom s es (Ok false) t fs × (left ≡ Some v)
      InsertsNew v s es (Err Memory) t fs left = HasRoomForEntry s es t fs × (left ≡ Some v)
      InsertsNew v s es (Err InUse) t fs left = HasNoRoom s es (Err InUse) t fs × (left ≡ Some v)
      InsertsNew v s es (Err (Backend x)) t fs left = HasNoRoom s es (Err (Backend x)) t fs × (left ≡ Some v)
      InsertsNew v s es (Err (StillInUse _)) t fs left = ⊥

      -- What `get_or_insert` of a new key returns and leaves.
      abbrev pub GetsNew : S → List (K × Slot V) → Result Bool (CacheError K E) → S → List (K × Slot V) → Type 0
      GetsNew s es (Ok true) t fs = (r : S) × (gs : List (K × Slot V)) × (v : V) × HasRoomForEntry s es r gs × steps.loaded r k v t × (fs ≡ (k, slot_of v 0) ∷ gs)
      GetsNew s es (Ok false) t fs = HasNoRoom s es (Ok false) t fs
      GetsNew s es (Err Memory) t fs = (r : S) × (v : V) × HasRoomForEntry s es r fs × steps.loaded r k v t
      GetsNew s es (Err InUse) t fs = HasNoRoom s es (Err InUse) t fs
      GetsNew s es (Err (Backend x)) t fs = HasNoRoom s es (Err (Backend x)) t fs ⊎ ((r : S) × HasRoomForEntry s es r fs × steps.load_failed r k x t)
      GetsNew s es (Err (StillInUse _)) t fs = ⊥
