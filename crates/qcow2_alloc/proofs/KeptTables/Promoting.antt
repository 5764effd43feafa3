-- A table that is cached already only comes to the front.
use Rattle.std.proofs.Common.{◌≡◌, ℕ, Bool, true, eqb, Result, Ok, IsSome, ap, ◌∙◌}
use Rattle.qcow2_alloc.proofs.Common.{lookup, promoted, with_entries, Cache, CacheError, MetadataError, L2TableView, RefBlockView, L2CacheBackend, RefBlockCacheBackend, MetadataCaches, ImageStorage, rb_at}
use Rattle.qcow2_alloc.proofs.CachedEntries.Hits.{slot_there}
use Rattle.qcow2_alloc.specs.KeptEntries.{OnlyPromotes}
use Rattle.qcow2_alloc.specs.MetadataCaches.{l2_at}

module _ {S : Type 0} (old new : ImageStorage S) (caches : MetadataCaches S) (key : ℕ) (answer : Result Bool (CacheError ℕ MetadataError)) where
  pub table_promotes : (l2 : Cache (L2CacheBackend S) ℕ L2TableView) → l2 ≡ with_entries caches.l2 l2.entries
      → (IsSome (lookup (eqb key) caches.l2.entries) → (answer ≡ Ok true) × (l2.entries ≡ promoted (eqb key) caches.l2.entries) × (new ≡ old))
      → IsSome (l2_at caches key) → OnlyPromotes (λ c. c.l2) (λ c x. record c { l2 = x }) key old caches new (record caches { l2 = l2 }) (Ok tt)
  table_promotes l2 others hit there =
      let found = hit (slot_there (lookup (eqb key) caches.l2.entries) there) in
      record {
        storage = found.2;
        front = ap (λ (x : Cache (L2CacheBackend S) ℕ L2TableView). record caches { l2 = x }) (others ∙ ap (with_entries caches.l2) found.1);
        refused = tt;
      }

  pub block_promotes : (rb : Cache (RefBlockCacheBackend S) ℕ RefBlockView) → rb ≡ with_entries caches.rb rb.entries
      → (IsSome (lookup (eqb key) caches.rb.entries) → (answer ≡ Ok true) × (rb.entries ≡ promoted (eqb key) caches.rb.entries) × (new ≡ old))
      → IsSome (rb_at caches key) → OnlyPromotes (λ c. c.rb) (λ c x. record c { rb = x }) key old caches new (record caches { rb = rb }) (Ok tt)
  block_promotes rb others hit there =
      let found = hit (slot_there (lookup (eqb key) caches.rb.entries) there) in
      record {
        storage = found.2;
        front = ap (λ (x : Cache (RefBlockCacheBackend S) ℕ RefBlockView). record caches { rb = x }) (others ∙ ap (with_entries caches.rb) found.1);
        refused = tt;
      }
