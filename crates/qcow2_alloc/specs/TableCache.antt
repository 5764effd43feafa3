-- What calls of a `TableCache` return and keep.
use Rattle.std.specs.Prelude.{◌≡◌, Bool, false, cond, List, [], ◌∷◌, Option, Some, None, Result, Ok, Err}
use Rattle.std.specs.Map.{lookup, remove_entry, set_value}
use Rattle.std.specs.Option.{option_map_or}
use Rattle.qcow2_alloc.specs.declared.async_lru_cache.slot.Slot.{Slot}
use Rattle.qcow2_alloc.specs.declared.async_lru_cache.error.CacheError.{CacheError}
use Rattle.qcow2_alloc.specs.declared.async_lru_cache.error.CacheError.TheVariants.{InUse, StillInUse, Memory, Backend}
use Rattle.qcow2_alloc.specs.AsyncLruCacheBackend.{Steps}
use Rattle.qcow2_alloc.specs.CacheAnswers.{FlushesEntry}
use Rattle.qcow2_alloc.specs.AsyncLruCache.{Cache, with_entries, set_at}

module _ {K V : Type 0} (is_modified : V → Bool) where
  -- The keys, each with whether its value is modified.
  abbrev pub marks_in : List (K × Slot V) → List (K × Bool)
  marks_in [] = []
  marks_in (e ∷ es) = (e.0, is_modified e.1.value) ∷ marks_in es

module _ {K V : Type 0} (eq : K → K → Bool) (is_modified : V → Bool) (es : List (K × Slot V)) where
  -- The marks after k is looked at: the mark of k is cleared if its value is unmodified, and k is removed if it has no entry.
  abbrev pub settled : K → List (K × Bool) → List (K × Bool)
  settled k us = option_map_or (λ s. cond (is_modified s.value) us (set_value (eq k) us false)) (lookup (eq k) es) (remove_entry (eq k) us)

-- The error of the backend.
abbrev pub failure_of : {K E : Type 0} → Result Bool (CacheError K E) → Option E
failure_of (Ok _) = None
failure_of (Err (Backend x)) = Some x
failure_of (Err InUse) = None
failure_of (Err (StillInUse _)) = None
failure_of (Err Memory) = None

module _ {B K V : Type 0} (eq : K → K → Bool) where
  -- What a change of the value v under a key returns and leaves.
  abbrev pub ChangesValue : {A : Type 0} → (V → Option A → V → Type 0) → K → V → Cache B K V → Option A → Cache B K V → Type 0
  ChangesValue applied key v old answer new = (w : V) × applied v answer w × (new ≡ with_entries old (set_at (eq key) old.entries w))

  -- What a flush of the entry under a key leaves there, and its error. The entry has the value and pins s.
  pub record FlushesAt {S E : Type 0} (steps : Steps S K V E) (key : K) (s : Slot V) (store : S) (old : Cache B K V) (failure : Option E) (after : S) (new : Cache B K V) : Type 0 where
    pub slot : Slot V
    pub step : FlushesEntry steps store (key, s) failure after slot
    pub entries : new ≡ with_entries old (set_value (eq key) old.entries slot)
