-- When nothing is written, and which calls of the caches write nothing.
use Rattle.std.specs.Prelude.{ℕ, ◌≡◌, ◌<◌, ◌==◌, ◌⊎◌, Bool, false, List, length, Option, IfSome, IsSome, IsNone}
use Rattle.image_access.specs.Moments.{StorageView, EachMomentSince, IsLeftBy}
use Rattle.qcow2_metadata.specs.L2Table.{L2TableView}
use Rattle.qcow2_metadata.specs.RefBlock.{RefBlockView}
use Rattle.qcow2_laws.specs.Caches.{BlocksMayGo, TablesMayGo}
use Rattle.qcow2_alloc.specs.AsyncLruCache.{Cache, oldest_free}
use Rattle.qcow2_alloc.specs.ImageStorage.{storage_of}
use Rattle.qcow2_alloc.specs.MetadataCaches.{order_of, l2_at, rb_at, l2_tables, refblocks, AreAllWritten}
use Rattle.qcow2_alloc.specs.declared.async_lru_cache.slot.Slot.{Slot}
use Rattle.qcow2_alloc.specs.declared.cache.MetadataCaches.{MetadataCaches}
use Rattle.qcow2_alloc.specs.declared.image_storage.ImageStorage.{ImageStorage}

-- Nothing is written: the contents are the same now and at every moment since.
pub record IsQuiet (old new : StorageView) : Type 0 where
  pub honest : new.is_honest
  pub contents : new.contents ≡ old.contents
  pub moments : EachMomentSince old new (IsLeftBy old)

-- There is room for another entry.
abbrev pub HasSpace : {B K V : Type 0} → Cache B K V → Type 0
HasSpace cache = length cache.entries < cache.size

-- The entry that would be evicted next, if there is one, is unmodified.
abbrev pub NextIsClean : {K V : Type 0} → (V → Bool) → List (K × Slot V) → Type 0
NextIsClean is_modified es = IfSome (oldest_free es) (λ e. is_modified e.1.value ≡ false)

module _ {S : Type 0} where
  -- On an honest storage nothing is written.
  abbrev pub WritesNothing : (S → StorageView) → ImageStorage S → ImageStorage S → Type 0
  WritesNothing view old new = (view (storage_of old)).is_honest → IsQuiet (view (storage_of old)) (view (storage_of new))

  module _ (caches : MetadataCaches S) where
    -- An L2 table can be evicted without a write: it is unmodified, and no refblock must be written before.
    abbrev pub TableGoesQuietly : Type 0
    TableGoesQuietly = TablesMayGo (order_of caches) (refblocks caches) × NextIsClean (λ (t : L2TableView). t.is_modified) caches.l2.entries

    -- A refblock can be evicted without a write: it is unmodified, and no L2 table must be written before.
    abbrev pub BlockGoesQuietly : Type 0
    BlockGoesQuietly = BlocksMayGo (order_of caches) (l2_tables caches) × NextIsClean (λ (b : RefBlockView). b.is_modified) caches.rb.entries

    -- The L2 table of a cluster can be loaded without a write: it is cached, or there is room, or another one can be evicted without a write.
    abbrev pub GetsTableQuietly : ℕ → Type 0
    GetsTableQuietly cluster = IsSome (l2_at caches cluster) ⊎ (HasSpace caches.l2 ⊎ TableGoesQuietly)

    -- The refblock of a cluster can be loaded without a write.
    abbrev pub GetsBlockQuietly : ℕ → Type 0
    GetsBlockQuietly cluster = IsSome (rb_at caches cluster) ⊎ (HasSpace caches.rb ⊎ BlockGoesQuietly)

    -- An L2 table can be inserted for a cluster without a write: none is cached for it, and there is room or another one can be evicted without a write; or one is cached for it that can be dropped without a write.
    abbrev pub PutsTableQuietly : ℕ → Type 0
    PutsTableQuietly cluster =
        (IsNone (l2_at caches cluster) × (HasSpace caches.l2 ⊎ TableGoesQuietly))
        ⊎ (TablesMayGo (order_of caches) (refblocks caches) × IfSome (l2_at caches cluster) (λ t. t.is_modified ≡ false) × IsSome (l2_at caches cluster))

    -- A refblock can be inserted for a cluster without a write.
    abbrev pub PutsBlockQuietly : ℕ → Type 0
    PutsBlockQuietly cluster =
        (IsNone (rb_at caches cluster) × (HasSpace caches.rb ⊎ BlockGoesQuietly))
        ⊎ (BlocksMayGo (order_of caches) (l2_tables caches) × IfSome (rb_at caches cluster) (λ b. b.is_modified ≡ false) × IsSome (rb_at caches cluster))

  -- Other tables of a kind that are still cached are the same, so none of them was written.
  abbrev pub OthersStayHeld : {V : Type 0} → (MetadataCaches S → ℕ → Option V) → MetadataCaches S → MetadataCaches S → ℕ → Type 0
  OthersStayHeld at caches caches' cluster = (c : ℕ) → cluster == c ≡ false → IsSome (at caches' c) → at caches' c ≡ at caches c

  -- If no cached table is modified before, none is after, whatever the tables hold, and on an honest storage nothing is written.
  pub record KeepAllWritten (view : S → StorageView) (old : ImageStorage S) (caches : MetadataCaches S) (new : ImageStorage S) (caches' : MetadataCaches S) : Type 0 where
    pub tables : AreAllWritten caches → AreAllWritten caches'
    pub quiet : AreAllWritten caches → WritesNothing view old new
