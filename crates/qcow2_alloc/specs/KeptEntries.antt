-- Which cached tables stay in the cache when one is loaded.
use Rattle.std.specs.Prelude.{ℕ, ◌≡◌, ◌==◌, ◌⊎◌, Bool, false, Result, IfSome, IsSome, MatchOption, OnOk, OnErr}
use Rattle.lru.specs.LruCache.{promoted}
use Rattle.qcow2_alloc.specs.AsyncLruCache.{Cache, OnlyOldestGoes, value_at, with_entries}
use Rattle.qcow2_alloc.specs.Quiet.{HasSpace}
use Rattle.qcow2_alloc.specs.declared.cache.MetadataCaches.{MetadataCaches}
use Rattle.qcow2_alloc.specs.declared.error.ImageError.{ImageError}
use Rattle.qcow2_alloc.specs.declared.image_storage.ImageStorage.{ImageStorage}

module _ {B V : Type 0} where
  -- Every cached table is still cached, with the same contents.
  abbrev pub KeepsEach : Cache B ℕ V → Cache B ℕ V → Type 0
  KeepsEach cache cache' = (c : ℕ) → IsSome (value_at (λ k. c == k) cache.entries) → value_at (λ k. c == k) cache'.entries ≡ value_at (λ k. c == k) cache.entries

  -- Every table that is cached now was cached before, with the same contents, or is an unmodified one that was loaded.
  abbrev pub OnlyLoads : (V → Bool) → Cache B ℕ V → Cache B ℕ V → Type 0
  OnlyLoads is_modified cache cache' = (c : ℕ) → IfSome (value_at (λ k. c == k) cache'.entries) (λ v. MatchOption (value_at (λ k. c == k) cache.entries) (is_modified v ≡ false) (λ was. v ≡ was))

  -- What a load for a cluster keeps. If the table of the cluster is cached, or there is room for another one, all cached tables stay. Otherwise only the least recently used one without a pin may be missing.
  pub record KeepsCached (is_modified : V → Bool) (cluster : ℕ) (cache cache' : Cache B ℕ V) : Type 0 where
    pub all : IsSome (value_at (λ k. cluster == k) cache.entries) ⊎ HasSpace cache → KeepsEach cache cache'
    pub but_oldest : OnlyOldestGoes (λ j k. j == k) (λ _. Unit {0}) cache.entries cache'.entries
    pub loads : OnlyLoads is_modified cache cache'

  -- The table of a cluster comes to the front of its cache, and nothing else changes. If memory runs out, nothing changes.
  pub record OnlyPromotes {S : Type 0} (own : MetadataCaches S → Cache B ℕ V) (with_own : MetadataCaches S → Cache B ℕ V → MetadataCaches S) (cluster : ℕ) (old : ImageStorage S) (caches : MetadataCaches S) (new : ImageStorage S) (caches' : MetadataCaches S) (result : Result (Unit {0}) ImageError) : Type 0 where
    pub storage : new ≡ old
    pub front : OnOk result (caches' ≡ with_own caches (with_entries (own caches) (promoted (λ k. cluster == k) (own caches).entries)))
    pub refused : OnErr result (caches' ≡ caches)
