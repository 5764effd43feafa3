-- What cache calls leave of the known contents, and in which order they write. These rules need only that no cluster has a modified table in both caches.
use Rattle.std.specs.Prelude.{ℕ, ◌+◌, ◌*◌, ◌<◌, ◌≡◌, ◌⊎◌, Bool, true, false, List, [], ◌∷◌, Option, IfSome}
use Rattle.image_access.specs.Moments.{StorageView, EachMomentSince}
use Rattle.qcow2_metadata.specs.Bytes.{Bytes, byte_at}
use Rattle.qcow2_metadata.specs.declared.header.HeaderFields.{HeaderFields}
use Rattle.qcow2_metadata.specs.Header.{cluster_size}
use Rattle.qcow2_metadata.specs.L2Table.{L2TableView}
use Rattle.qcow2_metadata.specs.RefBlock.{RefBlockView}
use Rattle.qcow2_metadata.specs.Tables.{CachedTable, known}
use Rattle.qcow2_laws.specs.Clusters.{Direction, Neither, L2DependsOnRb, RbDependsOnL2}
use Rattle.qcow2_laws.specs.CrashInvariant.{SameIn, IsPartly}
use Rattle.qcow2_laws.specs.Caches.{IsFreeOf}
use Rattle.qcow2_laws.specs.Tops.{IsSameOutside}
use Rattle.qcow2_alloc.specs.ImageStorage.{storage_of}
use Rattle.qcow2_alloc.specs.MetadataCaches.{order_of, l2_at, rb_at, l2_tables, refblocks, known_of}
use Rattle.qcow2_alloc.specs.declared.cache.MetadataCaches.{MetadataCaches}
use Rattle.qcow2_alloc.specs.declared.image_storage.ImageStorage.{ImageStorage}

-- If one of these tables is modified, its cluster has the same bytes in both contents.
abbrev pub StandAsIn : ℕ → List CachedTable → Bytes → Bytes → Type 0
StandAsIn size tables b b' = (c : ℕ) → IsFreeOf size tables c ⊎ SameIn size c b b'

-- The tables that the direction writes last are unwritten, or all of the other kind are written.
abbrev pub IsFlushedSo : Direction → ℕ → List CachedTable → List CachedTable → Bytes → Bytes → Bytes → Type 0
IsFlushedSo Neither size l2s rbs on_storage known b = Unit {0}
IsFlushedSo L2DependsOnRb size l2s rbs on_storage known b = StandAsIn size l2s b on_storage ⊎ StandAsIn size rbs b known
IsFlushedSo RbDependsOnL2 size l2s rbs on_storage known b = StandAsIn size rbs b on_storage ⊎ StandAsIn size l2s b known

-- Each cluster has the old bytes or the known ones, and the modified tables were written in the order of the direction.
pub record IsPartlyFlushed (size : ℕ) (d : Direction) (l2s rbs : List CachedTable) (on_storage known b : Bytes) : Type 0 where
  pub partly : IsPartly size on_storage known b
  pub ordered : IsFlushedSo d size l2s rbs on_storage known b

-- A cluster without a modified table in the first list has none in the second.
abbrev pub AreNoMore : ℕ → List CachedTable → List CachedTable → Type 0
AreNoMore size tables tables' = (c : ℕ) → IsFreeOf size tables c → IsFreeOf size tables' c

-- The table that is inserted for a cluster.
abbrev pub table_put : HeaderFields → ℕ → List ℕ → Bool → CachedTable
table_put h cluster bytes is_modified = record { place = cluster * cluster_size h; bytes = byte_at bytes; is_modified = is_modified }

-- The cached table of a cluster is modified, or holds the bytes of the cluster.
abbrev pub IsModifiedOrCurrent : HeaderFields → ℕ → List ℕ → Bool → Bytes → Type 0
IsModifiedOrCurrent h cluster bytes is_modified on_storage = (is_modified ≡ true) ⊎ ((i : ℕ) → i < cluster_size h → byte_at bytes i ≡ on_storage (cluster * cluster_size h + i))

module _ {S : Type 0} where
  -- The caches have this cluster size, and no cluster has a modified table in both.
  pub record NoClusterDirtyInBoth (h : HeaderFields) (caches : MetadataCaches S) : Type 0 where
    pub l2_bits : caches.l2.backend.header.fields.cluster_bits ≡ h.cluster_bits
    pub rb_bits : caches.rb.backend.header.fields.cluster_bits ≡ h.cluster_bits
    pub apart : (c : ℕ) → IsFreeOf (cluster_size h) (l2_tables caches) c ⊎ IsFreeOf (cluster_size h) (refblocks caches) c

  -- At every moment since, and now, the modified tables are written in the order of the direction, or not yet.
  pub record AreFlushedSince (h : HeaderFields) (old : StorageView) (caches : MetadataCaches S) (new : StorageView) : Type 0 where
    pub moments : EachMomentSince old new (λ c. IsPartlyFlushed (cluster_size h) (order_of caches) (l2_tables caches) (refblocks caches) (byte_at old.contents) (known_of h caches (byte_at old.contents)) (byte_at c))
    pub contents : IsPartlyFlushed (cluster_size h) (order_of caches) (l2_tables caches) (refblocks caches) (byte_at old.contents) (known_of h caches (byte_at old.contents)) (byte_at new.contents)

  -- The known contents are the same, and no table is modified that was not.
  pub record KnownStays (h : HeaderFields) (old : StorageView) (caches : MetadataCaches S) (new : StorageView) (caches' : MetadataCaches S) : Type 0 where
    pub honest : new.is_honest
    pub apart : NoClusterDirtyInBoth h caches'
    pub known : known_of h caches' (byte_at new.contents) ≡ known_of h caches (byte_at old.contents)
    pub tables : AreNoMore (cluster_size h) (l2_tables caches) (l2_tables caches')
    pub blocks : AreNoMore (cluster_size h) (refblocks caches) (refblocks caches')
    pub since : AreFlushedSince h old caches new

  -- A modified table is overlaid on the known contents, if the caches still have no cluster in common. No other table is modified that was not.
  pub record KnownUnder (h : HeaderFields) (old : StorageView) (caches : MetadataCaches S) (new : StorageView) (caches' : MetadataCaches S) (t : CachedTable) (l2s rbs : List CachedTable) : Type 0 where
    pub honest : new.is_honest
    pub l2_bits : caches'.l2.backend.header.fields.cluster_bits ≡ h.cluster_bits
    pub rb_bits : caches'.rb.backend.header.fields.cluster_bits ≡ h.cluster_bits
    pub known : NoClusterDirtyInBoth h caches' → known_of h caches' (byte_at new.contents) ≡ known (cluster_size h) (t ∷ []) (known_of h caches (byte_at old.contents))
    pub tables : AreNoMore (cluster_size h) l2s (l2_tables caches')
    pub blocks : AreNoMore (cluster_size h) rbs (refblocks caches')
    pub since : AreFlushedSince h old caches new

  -- What loading, flushing and switching leave of such caches over an honest storage.
  pub record KeepsKnownApart (view : S → StorageView) (old : ImageStorage S) (caches : MetadataCaches S) (new : ImageStorage S) (caches' : MetadataCaches S) : Type 0 where
    pub stays : (h : HeaderFields) → (view (storage_of old)).is_honest → NoClusterDirtyInBoth h caches → KnownStays h (view (storage_of old)) caches (view (storage_of new)) caches'

  -- An L2 table that is inserted is overlaid on the known contents.
  abbrev pub OverlaysTableApart : (S → StorageView) → ImageStorage S → MetadataCaches S → ImageStorage S → MetadataCaches S → L2TableView → Type 0
  OverlaysTableApart view old caches new caches' t =
      (h : HeaderFields) → (view (storage_of old)).is_honest → NoClusterDirtyInBoth h caches
      → IfSome t.cluster (λ cluster. KnownUnder h (view (storage_of old)) caches (view (storage_of new)) caches' (table_put h cluster t.bytes t.is_modified) (table_put h cluster t.bytes t.is_modified ∷ l2_tables caches) (refblocks caches))

  -- A refblock that is inserted is overlaid on the known contents.
  abbrev pub OverlaysBlockApart : (S → StorageView) → ImageStorage S → MetadataCaches S → ImageStorage S → MetadataCaches S → RefBlockView → Type 0
  OverlaysBlockApart view old caches new caches' b =
      (h : HeaderFields) → (view (storage_of old)).is_honest → NoClusterDirtyInBoth h caches
      → IfSome b.cluster (λ cluster. KnownUnder h (view (storage_of old)) caches (view (storage_of new)) caches' (table_put h cluster b.bytes b.is_modified) (l2_tables caches) (table_put h cluster b.bytes b.is_modified ∷ refblocks caches))

  -- ---- tables that are dropped without being written

  -- Each cluster has its known bytes or those on the storage, and the known ones if no dropped table was modified. No table is modified that was not.
  pub record KnownWithout (Unmodified : Type 0) (h : HeaderFields) (caches caches' : MetadataCaches S) (on_storage : Bytes) : Type 0 where
    pub apart : NoClusterDirtyInBoth h caches'
    pub known : IsPartly (cluster_size h) on_storage (known_of h caches on_storage) (known_of h caches' on_storage)
    pub same : Unmodified → known_of h caches' on_storage ≡ known_of h caches on_storage
    pub tables : AreNoMore (cluster_size h) (l2_tables caches) (l2_tables caches')
    pub blocks : AreNoMore (cluster_size h) (refblocks caches) (refblocks caches')

  -- What dropping tables does to such caches.
  abbrev pub EvictsTableApart : Type 0 → MetadataCaches S → MetadataCaches S → Type 0
  EvictsTableApart Unmodified caches caches' = (h : HeaderFields) (on_storage : Bytes) → NoClusterDirtyInBoth h caches → KnownWithout Unmodified h caches caches' on_storage

  -- The refblock of a cluster is dropped. The known contents are the same outside of its cluster. In it they are those on the storage, if the refblock was modified.
  pub record KnownWithoutBlock (h : HeaderFields) (caches caches' : MetadataCaches S) (on_storage : Bytes) (cluster : ℕ) : Type 0 where
    pub off : KnownWithout (IfSome (rb_at caches cluster) (λ b. b.is_modified ≡ false)) h caches caches' on_storage
    pub outside : IsSameOutside (cluster_size h) cluster (known_of h caches on_storage) (known_of h caches' on_storage)
    pub stands : IfSome (rb_at caches cluster) (λ b. b.is_modified ≡ true → SameIn (cluster_size h) cluster (known_of h caches' on_storage) on_storage)

  abbrev pub AllocatesBlockApart : MetadataCaches S → MetadataCaches S → ℕ → Type 0
  AllocatesBlockApart caches caches' cluster = (h : HeaderFields) (on_storage : Bytes) → NoClusterDirtyInBoth h caches → KnownWithoutBlock h caches caches' on_storage cluster

  -- ---- a cached table that is changed

  -- The known contents of its cluster were the table's old bytes and are its new ones. Outside of the cluster they are the same.
  pub record KnownChanges (h : HeaderFields) (caches caches' : MetadataCaches S) (on_storage : Bytes) (cluster : ℕ) (bytes bytes' : List ℕ) : Type 0 where
    pub before : (i : ℕ) → i < cluster_size h → known_of h caches on_storage (cluster * cluster_size h + i) ≡ byte_at bytes i
    pub after : (i : ℕ) → i < cluster_size h → known_of h caches' on_storage (cluster * cluster_size h + i) ≡ byte_at bytes' i
    pub outside : IsSameOutside (cluster_size h) cluster (known_of h caches on_storage) (known_of h caches' on_storage)

  -- The cached table of a cluster is changed and modified, and no cluster has a modified table in both caches before or after.
  abbrev pub ChangesHeldApart : {V : Type 0} → (V → List ℕ) → (V → Bool) → Option V → Option V → MetadataCaches S → MetadataCaches S → ℕ → Type 0
  ChangesHeldApart bytes is_modified held held' caches caches' cluster =
      IfSome held (λ t. IfSome held' (λ t'. is_modified t' ≡ true → (h : HeaderFields) (on_storage : Bytes) → NoClusterDirtyInBoth h caches → NoClusterDirtyInBoth h caches'
      → IsModifiedOrCurrent h cluster (bytes t) (is_modified t) on_storage → KnownChanges h caches caches' on_storage cluster (bytes t) (bytes t')))

  abbrev pub ChangesTableApart : MetadataCaches S → MetadataCaches S → ℕ → Type 0
  ChangesTableApart caches caches' cluster = ChangesHeldApart (λ (t : L2TableView). t.bytes) (λ t. t.is_modified) (l2_at caches cluster) (l2_at caches' cluster) caches caches' cluster

  abbrev pub ChangesBlockApart : MetadataCaches S → MetadataCaches S → ℕ → Type 0
  ChangesBlockApart caches caches' cluster = ChangesHeldApart (λ (b : RefBlockView). b.bytes) (λ b. b.is_modified) (rb_at caches cluster) (rb_at caches' cluster) caches caches' cluster
