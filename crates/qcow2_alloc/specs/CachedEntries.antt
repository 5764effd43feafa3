-- What the parts of a cache call do to the entries.
use Rattle.std.specs.Prelude.{◌≡◌, Bool, Option}
use Rattle.std.specs.Map.{set_value}
use Rattle.lru.specs.LruCache.{LruCache, lru_cache}
use Rattle.qcow2_alloc.specs.declared.async_lru_cache.slot.Slot.{Slot}
use Rattle.qcow2_alloc.specs.AsyncLruCacheBackend.{Steps}
use Rattle.qcow2_alloc.specs.CacheAnswers.{FlushesEntry}

module _ {S K V E : Type 0} (steps : Steps S K V E) (test : K → Bool) where
  -- A flush of the entry under the key leaves d there, or fails with the error.
  pub record FlushesFound (k : K) (e : Slot V) (s : S) (c : LruCache K (Slot V)) (o : Option E) (t : S) (n : LruCache K (Slot V)) : Type 0 where
    pub slot : Slot V
    pub step : FlushesEntry steps s (k, e) o t slot
    pub entries : n ≡ lru_cache (set_value test c.entries slot) c.cap
