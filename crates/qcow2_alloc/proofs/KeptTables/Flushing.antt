-- A whole cache is flushed.
use Rattle.std.proofs.Common.{◌≡◌, ◌^◌, ◌∷◌, ◌++◌, ℕ, List, [], Option, Some, None, Result, Ok, Err, refl, ap, subst}
use Rattle.qcow2_alloc.proofs.Common.{StorageView, Bytes, byte_at, HeaderFields, MetadataError, cluster_size, L2TableView, RefBlockView, CachedTable, Direction, Pending, known_bytes, AreClean, BlocksMayGo, TablesMayGo, IsWrittenSo, IsSafeBetween, HasBlock, Slot, CacheError, InUse, StillInUse, Memory, Backend, L2CacheBackend, RefBlockCacheBackend, MetadataCaches, ImageStorage, Cache, with_entries, Unit₀, Flushes, FlushesAll, storage_of, l2_steps, rb_steps, cleared_l2, cleared_rb, IsTableOf, IsBlockOf, cached_tables, AreKept, order_of, l2_tables, refblocks, KeepSound}
use Rattle.qcow2_alloc.proofs.KeptTables.BlocksNamed.{named_blocks_beside, named_blocks_anew, blocks_stand, block_place}
use Rattle.qcow2_alloc.proofs.KeptTables.Standing.{flush_stands}
use Rattle.qcow2_alloc.proofs.KeptTables.Fitting.{flush_fits}
use Rattle.qcow2_alloc.proofs.KeptTables.Writing.{crash_safety, l2_wrote, rb_wrote, flushed_all, flushed_clean}

-- the flush of all behind an answer
pub all_of : {S K V E : Type 0} (steps : _) (s t : S) (es fs : List (K × Slot V)) (r : Result Unit₀ (CacheError K E)) → Flushes steps s es r t fs → (x : Option E) × FlushesAll steps s es x t fs
all_of steps s t es fs (Ok _) h = (None, h)
all_of steps s t es fs (Err (Backend x)) h = (Some x, h)
all_of steps s t es fs (Err InUse) h = absurd h
all_of steps s t es fs (Err Memory) h = absurd h
all_of steps s t es fs (Err (StillInUse _)) h = absurd h

module _ (h : HeaderFields) (d : Direction) (p : Pending) (bits : ℕ) (same : bits ≡ h.cluster_bits) where
  -- one L2 table, one refblock is written
  pub l2_step : (rbs : List CachedTable) → TablesMayGo d rbs → (front back : List CachedTable) (t t' : CachedTable) (on_storage on_storage' : Bytes) → AreKept h d p (front ++ t ∷ back) rbs on_storage → IsWrittenSo (2 ^ bits) t t' on_storage on_storage'
      → AreKept h d p (front ++ t' ∷ back) rbs on_storage' × (known_bytes (cluster_size h) (front ++ t' ∷ back) rbs on_storage' ≡ known_bytes (cluster_size h) (front ++ t ∷ back) rbs on_storage)
      × IsSafeBetween on_storage (known_bytes (cluster_size h) (front ++ t ∷ back) rbs on_storage) on_storage'
  l2_step rbs may front back t t' on_storage on_storage' kept so =
      let w = l2_wrote h d p rbs front back t t' on_storage on_storage' kept may (subst (λ n. IsWrittenSo (2 ^ n) t t' on_storage on_storage') same so) in
      (w.kept, w.known, w.safe)

  pub rb_step : (l2s : List CachedTable) → BlocksMayGo d l2s → (front back : List CachedTable) (t t' : CachedTable) (on_storage on_storage' : Bytes) → AreKept h d p l2s (front ++ t ∷ back) on_storage → IsWrittenSo (2 ^ bits) t t' on_storage on_storage'
      → AreKept h d p l2s (front ++ t' ∷ back) on_storage' × (known_bytes (cluster_size h) l2s (front ++ t' ∷ back) on_storage' ≡ known_bytes (cluster_size h) l2s (front ++ t ∷ back) on_storage)
      × IsSafeBetween on_storage (known_bytes (cluster_size h) l2s (front ++ t ∷ back) on_storage) on_storage'
  rb_step l2s may front back t t' on_storage on_storage' kept so =
      let w = rb_wrote h d p l2s front back t t' on_storage on_storage' kept may (subst (λ n. IsWrittenSo (2 ^ n) t t' on_storage on_storage') same so) in
      (w.kept, w.known, w.safe)

-- a table that was written is of the same format
pub table_still : (h : HeaderFields) (v : L2TableView) → IsTableOf h v → IsTableOf h (cleared_l2 v)
table_still h v is = record { bits = is.bits; zero_bit = is.zero_bit; external = is.external }

pub block_still : (h : HeaderFields) (v : RefBlockView) → IsBlockOf h v → IsBlockOf h (cleared_rb v)
block_still h v is = record { bits = is.bits; order = is.order }

module _ {S : Type 0} (view : S → StorageView) (old new : ImageStorage S) (caches : MetadataCaches S) where
  abbrev seen : ImageStorage S → StorageView
  seen s = view (storage_of s)

  -- ---- the L2 tables
  module _ (l2 : Cache (L2CacheBackend S) ℕ L2TableView) (others : l2 ≡ with_entries caches.l2 l2.entries) (answer : Result Unit₀ (CacheError ℕ MetadataError))
      (flushes : Flushes (l2_steps seen caches.l2.backend.header.fields) old caches.l2.entries answer new l2.entries) where
    pub tables_flushed : TablesMayGo (order_of caches) (refblocks caches) → KeepSound view old caches new (record caches { l2 = l2 })
    tables_flushed may = λ h p honest sound.
        let bits = caches.l2.backend.header.fields.cluster_bits in
        let same_backend : l2.backend ≡ caches.l2.backend = ap (λ c. c.backend) others in
        let f = flushed_all seen bits (λ (t : L2TableView). t.bytes) (λ t. t.is_modified) cleared_l2 (IsTableOf caches.l2.backend.header.fields) (λ v. refl) (λ v. refl)
        (λ ts on_storage. AreKept h (order_of caches) p ts (refblocks caches) on_storage)
        (λ ts on_storage. known_bytes (cluster_size h) ts (refblocks caches) on_storage)
        crash_safety
        (l2_step h (order_of caches) p bits sound.l2_format.bits (refblocks caches) may)
        old new [] caches.l2.entries l2.entries (all_of (l2_steps seen caches.l2.backend.header.fields) old new caches.l2.entries l2.entries answer flushes).0 honest sound.kept (all_of (l2_steps seen caches.l2.backend.header.fields) old new caches.l2.entries l2.entries answer flushes).1 in
        rw same_backend (record {
          honest = f.honest;
          sound = record {
            l2_format = sound.l2_format;
            rb_format = sound.rb_format;
            l2_fit = flush_fits seen caches.l2.backend.header.fields.cluster_bits (λ (t : L2TableView). t.bytes) (λ t. t.is_modified) cleared_l2 (IsTableOf caches.l2.backend.header.fields) (table_still caches.l2.backend.header.fields) old new caches.l2.entries l2.entries answer sound.l2_fit flushes;
            rb_fit = sound.rb_fit;
            kept = f.kept;
          };
          known = f.known;
          named_blocks = named_blocks_beside h (order_of caches) (order_of caches) p p (l2_tables caches) (refblocks caches) (cached_tables bits (λ (t : L2TableView). t.bytes) (λ t. t.is_modified) l2.entries) (refblocks caches) (byte_at (seen old).contents) (byte_at (seen new).contents) sound.kept f.kept f.known;
          since = f.since;
        })

    pub tables_written : answer ≡ Ok tt → AreClean (l2_tables (record caches { l2 = l2 }))
    tables_written ok =
        let same_backend : l2.backend ≡ caches.l2.backend = ap (λ c. c.backend) others in
        rw same_backend (flushed_clean seen caches.l2.backend.header.fields.cluster_bits (λ (t : L2TableView). t.bytes) (λ t. t.is_modified) cleared_l2 (IsTableOf caches.l2.backend.header.fields) (λ v. refl) (λ v. refl)
        old new caches.l2.entries l2.entries None refl (rw ok at flushes))

  -- ---- the refblocks
  module _ (rb : Cache (RefBlockCacheBackend S) ℕ RefBlockView) (others : rb ≡ with_entries caches.rb rb.entries) (answer : Result Unit₀ (CacheError ℕ MetadataError))
      (flushes : Flushes (rb_steps seen caches.rb.backend.header.fields) old caches.rb.entries answer new rb.entries) where
    pub blocks_flushed : BlocksMayGo (order_of caches) (l2_tables caches) → KeepSound view old caches new (record caches { rb = rb })
    blocks_flushed may = λ h p honest sound.
        let bits = caches.rb.backend.header.fields.cluster_bits in
        let same_backend : rb.backend ≡ caches.rb.backend = ap (λ c. c.backend) others in
        let f = flushed_all seen bits (λ (b : RefBlockView). b.bytes) (λ b. b.is_modified) cleared_rb (IsBlockOf caches.rb.backend.header.fields) (λ v. refl) (λ v. refl)
        (λ ts on_storage. AreKept h (order_of caches) p (l2_tables caches) ts on_storage)
        (λ ts on_storage. known_bytes (cluster_size h) (l2_tables caches) ts on_storage)
        crash_safety
        (rb_step h (order_of caches) p bits sound.rb_format.bits (l2_tables caches) may)
        old new [] caches.rb.entries rb.entries (all_of (rb_steps seen caches.rb.backend.header.fields) old new caches.rb.entries rb.entries answer flushes).0 honest sound.kept (all_of (rb_steps seen caches.rb.backend.header.fields) old new caches.rb.entries rb.entries answer flushes).1 in
        rw same_backend (record {
          honest = f.honest;
          sound = record {
            l2_format = sound.l2_format;
            rb_format = sound.rb_format;
            l2_fit = sound.l2_fit;
            rb_fit = flush_fits seen caches.rb.backend.header.fields.cluster_bits (λ (b : RefBlockView). b.bytes) (λ b. b.is_modified) cleared_rb (IsBlockOf caches.rb.backend.header.fields) (block_still caches.rb.backend.header.fields) old new caches.rb.entries rb.entries answer sound.rb_fit flushes;
            kept = f.kept;
          };
          known = f.known;
          named_blocks = λ named_blocks.
              named_blocks_anew h (order_of caches) (order_of caches) p p (l2_tables caches) (refblocks caches) (l2_tables caches) (cached_tables bits (λ (b : RefBlockView). b.bytes) (λ b. b.is_modified) rb.entries) (byte_at (seen old).contents) (byte_at (seen new).contents) sound.kept f.kept f.known bits sound.rb_format.bits (IsBlockOf caches.rb.backend.header.fields) rb.entries
              (flush_stands seen bits (λ (b : RefBlockView). b.bytes) (λ b. b.is_modified) cleared_rb (IsBlockOf caches.rb.backend.header.fields) (λ v. refl) (block_still caches.rb.backend.header.fields) (HasBlock h (byte_at (seen old).contents)) (block_place h (byte_at (seen old).contents) caches.rb.backend.header.fields.cluster_bits sound.rb_format.bits) old new caches.rb.entries rb.entries answer (blocks_stand h p caches (byte_at (seen old).contents) sound named_blocks) flushes);
          since = f.since;
        })

    pub blocks_written : answer ≡ Ok tt → AreClean (refblocks (record caches { rb = rb }))
    blocks_written ok =
        let same_backend : rb.backend ≡ caches.rb.backend = ap (λ c. c.backend) others in
        rw same_backend (flushed_clean seen caches.rb.backend.header.fields.cluster_bits (λ (b : RefBlockView). b.bytes) (λ b. b.is_modified) cleared_rb (IsBlockOf caches.rb.backend.header.fields) (λ v. refl) (λ v. refl)
        old new caches.rb.entries rb.entries None refl (rw ok at flushes))
