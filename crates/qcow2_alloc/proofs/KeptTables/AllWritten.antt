-- If no cached table is modified, none is afterwards, and nothing is written, whatever the tables hold.
use Rattle.std.proofs.Common.{◌≡◌, ℕ, Bool, true, eqb, Result, Ok, IsSome, ap}
use Rattle.qcow2_alloc.proofs.Common.{IsNone, lookup, promoted, StorageView, MetadataError, L2TableView, RefBlockView, CacheError, L2CacheBackend, RefBlockCacheBackend, MetadataCaches, ImageStorage, Cache, Unit₀, Flushes, GetsNew, storage_of, l2_steps, rb_steps, cleared_l2, cleared_rb, IsTableOf, IsBlockOf, KeepAllWritten}
use Rattle.qcow2_alloc.specs.declared.cache.Direction.{Direction}
use Rattle.qcow2_alloc.proofs.KeptTables.Clean.{clean_as, clean_next, flush_clean, get_clean}
use Rattle.qcow2_alloc.proofs.KeptTables.Quiet.{quiet_none, quiet_then, tables_quiet, blocks_quiet, get_quiet}

module _ {S : Type 0} (view : S → StorageView) where
  -- no call at all, and one call after another
  pub written_none : (s : ImageStorage S) (caches : MetadataCaches S) → KeepAllWritten view s caches s caches
  written_none s caches = record { tables = λ all. all; quiet = λ all honest. quiet_none (view (storage_of s)) honest }

  pub written_then : {a b c : ImageStorage S} {x y z : MetadataCaches S} → KeepAllWritten view a x b y → KeepAllWritten view b y c z → KeepAllWritten view a x c z
  written_then {a = a} {b = b} {c = c} first then = record {
    tables = λ all. then.tables (first.tables all);
    quiet = λ all honest.
        let one = first.quiet all honest in
        quiet_then (view (storage_of a)) (view (storage_of b)) (view (storage_of c)) one (then.quiet (first.tables all) one.honest);
  }

  module _ (old new : ImageStorage S) (caches : MetadataCaches S) where
    -- a flush of the L2 tables, and of the refblocks
    pub tables_flushed_written : (l2 : Cache (L2CacheBackend S) ℕ L2TableView) (answer : Result Unit₀ (CacheError ℕ MetadataError))
        → Flushes (l2_steps (λ s. view (storage_of s)) caches.l2.backend.header.fields) old caches.l2.entries answer new l2.entries → KeepAllWritten view old caches new (record caches { l2 = l2 })
    tables_flushed_written l2 answer flushes = record {
      tables = λ all. (
        flush_clean (l2_steps (λ s. view (storage_of s)) caches.l2.backend.header.fields) l2.backend.header.fields.cluster_bits (λ (t : L2TableView). t.bytes) (λ t. t.is_modified) (λ s t k v w h. ap (λ (t : L2TableView). t.is_modified) h.clean) old new
            caches.l2.entries l2.entries answer flushes (clean_as _ _ (λ (t : L2TableView). t.bytes) (λ t. t.is_modified) caches.l2.entries all.0),
        all.1,
      );
      quiet = λ all. tables_quiet view old new caches l2 answer flushes all.0;
    }

    pub blocks_flushed_written : (rb : Cache (RefBlockCacheBackend S) ℕ RefBlockView) (answer : Result Unit₀ (CacheError ℕ MetadataError))
        → Flushes (rb_steps (λ s. view (storage_of s)) caches.rb.backend.header.fields) old caches.rb.entries answer new rb.entries → KeepAllWritten view old caches new (record caches { rb = rb })
    blocks_flushed_written rb answer flushes = record {
      tables = λ all. (
        all.0,
        flush_clean (rb_steps (λ s. view (storage_of s)) caches.rb.backend.header.fields) rb.backend.header.fields.cluster_bits (λ (b : RefBlockView). b.bytes) (λ b. b.is_modified) (λ s t k v w h. ap (λ (b : RefBlockView). b.is_modified) h.clean) old new
            caches.rb.entries rb.entries answer flushes (clean_as _ _ (λ (b : RefBlockView). b.bytes) (λ b. b.is_modified) caches.rb.entries all.1),
      );
      quiet = λ all. blocks_quiet view old new caches rb answer flushes all.1;
    }

    -- a load of an L2 table
    pub table_got_written : (may_flush : Bool) (key : ℕ) (l2 : Cache (L2CacheBackend S) ℕ L2TableView) (answer : Result Bool (CacheError ℕ MetadataError))
        → (IsSome (lookup (eqb key) caches.l2.entries) → (answer ≡ Ok true) × (l2.entries ≡ promoted (eqb key) caches.l2.entries) × (new ≡ old))
        → (IsNone (lookup (eqb key) caches.l2.entries) → GetsNew (l2_steps (λ s. view (storage_of s)) caches.l2.backend.header.fields) eqb caches.l2.size may_flush key old caches.l2.entries answer new l2.entries)
        → KeepAllWritten view old caches new (record caches { l2 = l2 })
    table_got_written may_flush key l2 answer hit miss = record {
      tables = λ all. (
        get_clean (l2_steps (λ s. view (storage_of s)) caches.l2.backend.header.fields) l2.backend.header.fields.cluster_bits (λ (t : L2TableView). t.bytes) (λ t. t.is_modified) (λ s t k v h. h.unmodified) caches.l2.size may_flush key old new
            caches.l2.entries l2.entries (clean_as _ _ (λ (t : L2TableView). t.bytes) (λ t. t.is_modified) caches.l2.entries all.0) answer hit miss,
        all.1,
      );
      quiet = λ all. get_quiet (λ s. view (storage_of s)) caches.l2.backend.header.fields.cluster_bits (λ (t : L2TableView). t.bytes) (λ t. t.is_modified) cleared_l2 (IsTableOf caches.l2.backend.header.fields) caches.l2.size may_flush old caches.l2.entries (λ may. clean_next _ (λ (t : L2TableView). t.bytes) (λ t. t.is_modified) caches.l2.entries all.0) new l2.entries key answer hit miss;
    }

    -- a load of a refblock
    pub block_got_written : (may_flush : Bool) (key : ℕ) (rb : Cache (RefBlockCacheBackend S) ℕ RefBlockView) (answer : Result Bool (CacheError ℕ MetadataError))
        → (IsSome (lookup (eqb key) caches.rb.entries) → (answer ≡ Ok true) × (rb.entries ≡ promoted (eqb key) caches.rb.entries) × (new ≡ old))
        → (IsNone (lookup (eqb key) caches.rb.entries) → GetsNew (rb_steps (λ s. view (storage_of s)) caches.rb.backend.header.fields) eqb caches.rb.size may_flush key old caches.rb.entries answer new rb.entries)
        → KeepAllWritten view old caches new (record caches { rb = rb })
    block_got_written may_flush key rb answer hit miss = record {
      tables = λ all. (
        all.0,
        get_clean (rb_steps (λ s. view (storage_of s)) caches.rb.backend.header.fields) rb.backend.header.fields.cluster_bits (λ (b : RefBlockView). b.bytes) (λ b. b.is_modified) (λ s t k v h. h.unmodified) caches.rb.size may_flush key old new
            caches.rb.entries rb.entries (clean_as _ _ (λ (b : RefBlockView). b.bytes) (λ b. b.is_modified) caches.rb.entries all.1) answer hit miss,
      );
      quiet = λ all. get_quiet (λ s. view (storage_of s)) caches.rb.backend.header.fields.cluster_bits (λ (b : RefBlockView). b.bytes) (λ b. b.is_modified) cleared_rb (IsBlockOf caches.rb.backend.header.fields) caches.rb.size may_flush old caches.rb.entries (λ may. clean_next _ (λ (b : RefBlockView). b.bytes) (λ b. b.is_modified) caches.rb.entries all.1) new rb.entries key answer hit miss;
    }

-- so are those whose direction is turned
pub written_turned : {S : Type 0} {view : S → StorageView} {a b : ImageStorage S} {x y : MetadataCaches S} (d : Direction) → KeepAllWritten view a x b y → KeepAllWritten view a x b (record y { direction = d })
written_turned d kept = record { tables = kept.tables; quiet = kept.quiet }
