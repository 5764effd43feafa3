-- The view of the caches of L2 tables and refblocks in contracts, over the bytes of the storage.
use Rattle.std.specs.Prelude.{ℕ, ◌+◌, ◌*◌, ◌/◌, ◌%◌, ◌≡◌, ◌≢◌, ◌<◌, ◌==◌, ◌⊎◌, Bool, true, false, List, [], ◌∷◌, Option, None, IfSome, IsSome, IsTrue, if◌then◌else◌}
use Rattle.image_access.specs.Moments.{StorageView}
use Rattle.qcow2_metadata.specs.Bytes.{Bytes, byte_at}
use Rattle.qcow2_metadata.specs.declared.header.HeaderFields.{HeaderFields}
use Rattle.qcow2_metadata.specs.Header.{cluster_size, entries_per_cluster, counts_per_block, has_data_file}
use Rattle.qcow2_metadata.specs.Entries.{count, is_copied, l1_entry, l2_entry}
use Rattle.qcow2_metadata.specs.Cover.{entry_cover}
use Rattle.qcow2_metadata.specs.L2Mapping.{IsHostCluster, old_data_run}
use Rattle.qcow2_metadata.specs.L2Table.{L2TableView, copied_entry, zero_entry, copied_host}
use Rattle.qcow2_metadata.specs.RefBlock.{RefBlockView}
use Rattle.qcow2_metadata.specs.TableBytes.{HasPlace, entry_at}
use Rattle.qcow2_metadata.specs.Tables.{CachedTable, known}
use Rattle.qcow2_laws.specs.Clusters as Order
use Rattle.qcow2_laws.specs.CrashInvariant.{Pending, CrashInvariant, IsPartly}
use Rattle.qcow2_laws.specs.Steps.{block_of, CountRises, CountFalls}
use Rattle.qcow2_laws.specs.Writes.{IsUnnamed}
use Rattle.qcow2_laws.specs.Caches.{known_bytes, IsFreeOf, AreClean, AreNamedBlocks, HasOwnL2, HasBlock}
use Rattle.qcow2_laws.specs.Guests.{table_at}
use Rattle.qcow2_laws.specs.Tops.{IsSameOutside}
use Rattle.qcow2_alloc.specs.AsyncLruCache.{value_at}
use Rattle.qcow2_alloc.specs.declared.cache.Direction.{Direction}
use Rattle.qcow2_alloc.specs.declared.cache.Direction.TheVariants as D
use Rattle.qcow2_alloc.specs.declared.cache.MetadataCaches.{MetadataCaches}
use Rattle.qcow2_alloc.specs.declared.image_storage.ImageStorage.{ImageStorage}
use Rattle.qcow2_alloc.specs.ImageStorage.{storage_of}
use Rattle.qcow2_alloc.specs.TableCaches.{IsTableOf, IsBlockOf}
use Rattle.qcow2_alloc.specs.KeptTables.{cached_tables, AllValuesFit, AreKept, IsSafeSince, IsInOrderSince}

-- Both headers have the same format of tables.
pub record HasFormat (g h : HeaderFields) : Type 0 where
  pub bits : g.cluster_bits ≡ h.cluster_bits
  pub order : g.refcount_order ≡ h.refcount_order
  pub zero_bit : (g.version == 3) ≡ (h.version == 3)
  pub external : has_data_file g ≡ has_data_file h

-- The refcount of the cluster is at this index of the refblock in this cluster.
pub record IsCountedAt (h : HeaderFields) (known : Bytes) (c block index : ℕ) : Type 0 where
  pub real : block_of h known c ≢ 0
  pub place : block_of h known c ≡ block * cluster_size h
  pub at : c % counts_per_block h ≡ index

-- The L2 table of L1 entry i lies in this cluster, and has this index.
pub record IsEntryAt (h : HeaderFields) (known : Bytes) (i table index : ℕ) : Type 0 where
  pub real : table_at h known i ≢ 0
  pub place : table_at h known i ≡ table * cluster_size h
  pub within : index < entries_per_cluster h

-- Entry j of the L2 table of L1 entry i changes to this one, and nothing else changes.
pub record ChangesKnownEntry (h : HeaderFields) (known known' : Bytes) (i j entry : ℕ) : Type 0 where
  pub outside : IsSameOutside (cluster_size h) (table_at h known i / cluster_size h) known known'
  pub others : (k : ℕ) → k < entries_per_cluster h → k ≢ j → l2_entry known' (table_at h known i) k ≡ l2_entry known (table_at h known i) k
  pub is : l2_entry known' (table_at h known i) j ≡ entry

-- The table is read as one of this image, and this entry of it is the known one.
pub record ShowsEntry (h : HeaderFields) (known : Bytes) (i index : ℕ) (t : L2TableView) : Type 0 where
  pub format : IsTableOf h t
  pub entry : entry_at t.bytes index ≡ l2_entry known (table_at h known i) index

-- A modified table in a cluster.
abbrev pub laid_at : HeaderFields → ℕ → List ℕ → CachedTable
laid_at h cluster bytes = record { place = cluster * cluster_size h; bytes = byte_at bytes; is_modified = true }

-- Which tables are written first.
abbrev pub order : Direction → Order.Direction
order D.None = Order.Neither
order D.L2DependsOnRb = Order.L2DependsOnRb
order D.RbDependsOnL2 = Order.RbDependsOnL2

module _ {S : Type 0} where
  abbrev pub order_of : MetadataCaches S → Order.Direction
  order_of caches = order caches.direction

  abbrev pub l2_tables : MetadataCaches S → List CachedTable
  l2_tables caches = cached_tables caches.l2.backend.header.fields.cluster_bits (λ (t : L2TableView). t.bytes) (λ t. t.is_modified) caches.l2.entries

  abbrev pub refblocks : MetadataCaches S → List CachedTable
  refblocks caches = cached_tables caches.rb.backend.header.fields.cluster_bits (λ (b : RefBlockView). b.bytes) (λ b. b.is_modified) caches.rb.entries

  -- The L2 table of a cluster, and the refblock of a cluster, if they are cached.
  abbrev pub l2_at : MetadataCaches S → ℕ → Option L2TableView
  l2_at caches cluster = value_at (λ k. cluster == k) caches.l2.entries

  abbrev pub rb_at : MetadataCaches S → ℕ → Option RefBlockView
  rb_at caches cluster = value_at (λ k. cluster == k) caches.rb.entries

  -- The known contents: the bytes of the storage with the modified tables overlaid.
  abbrev pub known_of : HeaderFields → MetadataCaches S → Bytes → Bytes
  known_of h caches on_storage = known_bytes (cluster_size h) (l2_tables caches) (refblocks caches) on_storage

  -- No cached table is modified.
  abbrev pub AreAllWritten : MetadataCaches S → Type 0
  AreAllWritten caches = AreClean (l2_tables caches) × AreClean (refblocks caches)

  -- The invariant of the caches of an image with this header, over these bytes, with these pending clusters.
  pub record CacheInvariant (h : HeaderFields) (p : Pending) (caches : MetadataCaches S) (on_storage : Bytes) : Type 0 where
    pub l2_format : HasFormat caches.l2.backend.header.fields h
    pub rb_format : HasFormat caches.rb.backend.header.fields h
    pub l2_fit : AllValuesFit (IsTableOf caches.l2.backend.header.fields) caches.l2.entries
    pub rb_fit : AllValuesFit (IsBlockOf caches.rb.backend.header.fields) caches.rb.entries
    pub kept : AreKept h (order_of caches) p (l2_tables caches) (refblocks caches) on_storage

  -- The caches are sound again, the known contents are the same, no refblock is new, and a stop is as safe as before.
  pub record InternalCacheStep (h : HeaderFields) (p : Pending) (old : StorageView) (caches : MetadataCaches S) (new : StorageView) (caches' : MetadataCaches S) : Type 0 where
    pub honest : new.is_honest
    pub sound : CacheInvariant h p caches' (byte_at new.contents)
    pub known : known_of h caches' (byte_at new.contents) ≡ known_of h caches (byte_at old.contents)
    pub named_blocks : AreNamedBlocks h (refblocks caches) (byte_at old.contents) → AreNamedBlocks h (refblocks caches') (byte_at new.contents)
    pub since : IsSafeSince old new (known_of h caches (byte_at old.contents))

  -- A table holds the known contents of the cluster.
  abbrev pub HoldsKnown : HeaderFields → MetadataCaches S → Bytes → List ℕ → ℕ → Type 0
  HoldsKnown h caches on_storage bytes cluster = (i : ℕ) → i < cluster_size h → byte_at bytes i ≡ known_of h caches on_storage (cluster * cluster_size h + i)

  -- What inserting an unmodified table with the known contents of its cluster does to sound caches over an honest storage.
  abbrev pub InsertKeeps : (S → StorageView) → ImageStorage S → MetadataCaches S → ImageStorage S → MetadataCaches S → (HeaderFields → Type 0) → Option ℕ → List ℕ → Bool → Type 0
  InsertKeeps view old caches new caches' IsFitFor cluster bytes is_modified =
      (h : HeaderFields) (p : Pending) → (view (storage_of old)).is_honest → CacheInvariant h p caches (byte_at (view (storage_of old)).contents)
      → IsFitFor h → is_modified ≡ false → IfSome cluster (HoldsKnown h caches (byte_at (view (storage_of old)).contents) bytes)
      → InternalCacheStep h p (view (storage_of old)) caches (view (storage_of new)) caches'

  -- What loading, flushing and switching do to sound caches over an honest storage.
  abbrev pub KeepSound : (S → StorageView) → ImageStorage S → MetadataCaches S → ImageStorage S → MetadataCaches S → Type 0
  KeepSound view old caches new caches' =
      (h : HeaderFields) (p : Pending) → (view (storage_of old)).is_honest → CacheInvariant h p caches (byte_at (view (storage_of old)).contents)
      → InternalCacheStep h p (view (storage_of old)) caches (view (storage_of new)) caches'

  -- Loading, flushing and switching write tables in the order of the direction that held before.
  abbrev pub WritesInOrder : (S → StorageView) → ImageStorage S → MetadataCaches S → ImageStorage S → Type 0
  WritesInOrder view old caches new =
      (h : HeaderFields) (p : Pending) → (view (storage_of old)).is_honest → CacheInvariant h p caches (byte_at (view (storage_of old)).contents)
      → IsInOrderSince h (order_of caches) (view (storage_of old)) (view (storage_of new)) (known_of h caches (byte_at (view (storage_of old)).contents))

  -- The offset of each modified refblock fits 64 bits.
  abbrev pub HavePlaces : HeaderFields → MetadataCaches S → Type 0
  HavePlaces h caches = (c : ℕ) → IfSome (rb_at caches c) (λ b. b.is_modified ≡ true → HasPlace h.cluster_bits c)

  -- ---- refcounts in cached refblocks

  -- The change was made. The caches are sound again, with any pending clusters that keep the order of writes.
  pub record Made (Change : Type 0) (h : HeaderFields) (caches caches' : MetadataCaches S) (on_storage : Bytes) : Type 0 where
    pub change : Change
    pub named_blocks : AreNamedBlocks h (refblocks caches) on_storage → AreNamedBlocks h (refblocks caches') on_storage
    pub sound : (p : Pending) → CrashInvariant h (order_of caches') p on_storage (known_of h caches' on_storage) → CacheInvariant h p caches' on_storage

  -- A refcount of the cached refblock rises from 0 to 1.
  abbrev pub IncrementsCount : MetadataCaches S → MetadataCaches S → ℕ → ℕ → Type 0
  IncrementsCount caches caches' block index =
      (h : HeaderFields) (p : Pending) (on_storage : Bytes) (c : ℕ) → CacheInvariant h p caches on_storage → IsCountedAt h (known_of h caches on_storage) c block index → count h (known_of h caches on_storage) c ≡ 0
      → Made (CountRises h (known_of h caches on_storage) (known_of h caches' on_storage) c) h caches caches' on_storage

  -- A refcount of the cached refblock falls by one.
  abbrev pub DecrementsCount : MetadataCaches S → MetadataCaches S → ℕ → ℕ → Type 0
  DecrementsCount caches caches' block index =
      (h : HeaderFields) (p : Pending) (on_storage : Bytes) (c : ℕ) → CacheInvariant h p caches on_storage → IsCountedAt h (known_of h caches on_storage) c block index
      → Made (CountFalls h (known_of h caches on_storage) (known_of h caches' on_storage) c) h caches caches' on_storage

  -- The refcount is 0 exactly if this is true, provided that the refblock is cached.
  abbrev pub ReportsZero : MetadataCaches S → ℕ → ℕ → Bool → Type 0
  ReportsZero caches block index is_zero =
      (h : HeaderFields) (p : Pending) (on_storage : Bytes) (c : ℕ) → CacheInvariant h p caches on_storage → IsCountedAt h (known_of h caches on_storage) c block index → IsSome (rb_at caches block)
      → is_zero ≡ (count h (known_of h caches on_storage) c == 0)

  -- On sound caches a refcount in a cached refblock is n.
  abbrev pub ReportsCount : MetadataCaches S → ℕ → ℕ → ℕ → Type 0
  ReportsCount caches block index n = (h : HeaderFields) (p : Pending) (on_storage : Bytes) (c : ℕ) → CacheInvariant h p caches on_storage → IsCountedAt h (known_of h caches on_storage) c block index → count h (known_of h caches on_storage) c ≡ n

  -- On sound caches a refcount of 0 in a cached refblock is incremented.
  abbrev pub IncrementsZero : MetadataCaches S → ℕ → ℕ → Bool → Type 0
  IncrementsZero caches block index made =
      (h : HeaderFields) (p : Pending) (on_storage : Bytes) (c : ℕ) → CacheInvariant h p caches on_storage → IsCountedAt h (known_of h caches on_storage) c block index → IsSome (rb_at caches block)
      → count h (known_of h caches on_storage) c ≡ 0 → IsTrue made

  -- On sound caches a refcount above 0 in a cached refblock is decremented.
  abbrev pub DecrementsSome : MetadataCaches S → ℕ → ℕ → Bool → Type 0
  DecrementsSome caches block index made =
      (h : HeaderFields) (p : Pending) (on_storage : Bytes) (c : ℕ) → CacheInvariant h p caches on_storage → IsCountedAt h (known_of h caches on_storage) c block index → IsSome (rb_at caches block)
      → count h (known_of h caches on_storage) c ≢ 0 → IsTrue made

  -- ---- entries of cached L2 tables

  -- Entry j of the L2 table of L1 entry i changes, and the host clusters that lost a reference are returned. The caches are sound again,
  -- with any pending clusters that keep the order of writes, if the reftable names each modified refblock.
  pub record MadeEntry (h : HeaderFields) (caches caches' : MetadataCaches S) (on_storage : Bytes) (i j entry : ℕ) (answer : Option (ℕ × ℕ)) : Type 0 where
    pub change : ChangesKnownEntry h (known_of h caches on_storage) (known_of h caches' on_storage) i j entry
    pub named_blocks : AreNamedBlocks h (refblocks caches) on_storage → AreNamedBlocks h (refblocks caches') on_storage
    pub answered : answer ≡ old_data_run h.cluster_bits (entry_cover h (l2_entry (known_of h caches on_storage) (table_at h (known_of h caches on_storage) i) j)) (entry_cover h entry)
    pub sound : (p : Pending) → AreNamedBlocks h (refblocks caches) on_storage → CrashInvariant h (order_of caches') p on_storage (known_of h caches' on_storage) → CacheInvariant h p caches' on_storage

  -- An entry of a cached L2 table, whose L1 entry is marked copied, becomes copied data at a host cluster.
  abbrev pub MapsCachedEntry : MetadataCaches S → MetadataCaches S → ℕ → ℕ → ℕ → Option (ℕ × ℕ) → Type 0
  MapsCachedEntry caches caches' table index host answer =
      (h : HeaderFields) (p : Pending) (on_storage : Bytes) (i : ℕ) → CacheInvariant h p caches on_storage → IsEntryAt h (known_of h caches on_storage) i table index → is_copied (l1_entry h on_storage i) ≡ true → IsSome (l2_at caches table) → IsHostCluster h.cluster_bits host
      → MadeEntry h caches caches' on_storage i index (copied_entry (host * cluster_size h)) answer

  -- An entry of a cached L2 table becomes a zero entry. It keeps its host cluster, if it is asked to and the entry is marked copied.
  abbrev pub ZeroesEntry : MetadataCaches S → MetadataCaches S → ℕ → ℕ → Bool → Option (ℕ × ℕ) → Type 0
  ZeroesEntry caches caches' table index keep answer =
      (h : HeaderFields) (p : Pending) (on_storage : Bytes) (i : ℕ) → CacheInvariant h p caches on_storage → IsEntryAt h (known_of h caches on_storage) i table index → is_copied (l1_entry h on_storage i) ≡ true → IsSome (l2_at caches table)
      → MadeEntry h caches caches' on_storage i index (zero_entry (if keep then copied_host (entry_cover h (l2_entry (known_of h caches on_storage) (table_at h (known_of h caches on_storage) i) index)) else None)) answer

  -- An entry of a cached L2 table becomes unmapped.
  abbrev pub DiscardsEntry : MetadataCaches S → MetadataCaches S → ℕ → ℕ → Option (ℕ × ℕ) → Type 0
  DiscardsEntry caches caches' table index answer =
      (h : HeaderFields) (p : Pending) (on_storage : Bytes) (i : ℕ) → CacheInvariant h p caches on_storage → IsEntryAt h (known_of h caches on_storage) i table index → is_copied (l1_entry h on_storage i) ≡ true → IsSome (l2_at caches table)
      → MadeEntry h caches caches' on_storage i index 0 answer

  -- A change of the entry is recorded.
  abbrev pub RecordsHeld : MetadataCaches S → MetadataCaches S → ℕ → ℕ → Type 0
  RecordsHeld caches caches' table index =
      (h : HeaderFields) (p : Pending) (on_storage : Bytes) (i : ℕ) → CacheInvariant h p caches on_storage → IsEntryAt h (known_of h caches on_storage) i table index → IsSome (l2_at caches table) → IsTrue caches'.is_changed

  -- A change of the entry is recorded, when it is mapped.
  abbrev pub RecordsEntry : MetadataCaches S → MetadataCaches S → ℕ → ℕ → ℕ → Type 0
  RecordsEntry caches caches' table index host =
      (h : HeaderFields) (p : Pending) (on_storage : Bytes) (i : ℕ) → CacheInvariant h p caches on_storage → IsEntryAt h (known_of h caches on_storage) i table index → IsSome (l2_at caches table) → IsHostCluster h.cluster_bits host
      → IsTrue caches'.is_changed

  -- The cached table of a cluster has the known entries.
  abbrev pub ShowsKnown : MetadataCaches S → ℕ → L2TableView → Type 0
  ShowsKnown caches table t =
      (h : HeaderFields) (p : Pending) (on_storage : Bytes) (i index : ℕ) → CacheInvariant h p caches on_storage → IsEntryAt h (known_of h caches on_storage) i table index → ShowsEntry h (known_of h caches on_storage) i index t

  -- ---- tables that are dropped without being written

  -- Each cluster has its known bytes or those on the storage, and the known ones if no dropped table was modified. No refblock becomes new. The caches are sound again,
  -- with any pending clusters that keep the order of writes.
  pub record Evict (Unmodified : Type 0) (h : HeaderFields) (caches caches' : MetadataCaches S) (on_storage : Bytes) : Type 0 where
    pub known : IsPartly (cluster_size h) on_storage (known_of h caches on_storage) (known_of h caches' on_storage)
    pub same : Unmodified → known_of h caches' on_storage ≡ known_of h caches on_storage
    pub named_blocks : AreNamedBlocks h (refblocks caches) on_storage → AreNamedBlocks h (refblocks caches') on_storage
    pub sound : (p : Pending) → CrashInvariant h (order_of caches') p on_storage (known_of h caches' on_storage) → CacheInvariant h p caches' on_storage

  -- What dropping tables does to sound caches.
  abbrev pub EvictsTable : Type 0 → MetadataCaches S → MetadataCaches S → Type 0
  EvictsTable Unmodified caches caches' = (h : HeaderFields) (p : Pending) (on_storage : Bytes) → CacheInvariant h p caches on_storage → Evict Unmodified h caches caches' on_storage

  -- The refblock of a cluster is dropped: it is not cached any more, and the known contents outside of its cluster are the same.
  pub record TakenFrom (h : HeaderFields) (caches caches' : MetadataCaches S) (on_storage : Bytes) (cluster : ℕ) : Type 0 where
    pub off : Evict (IfSome (rb_at caches cluster) (λ b. b.is_modified ≡ false)) h caches caches' on_storage
    pub outside : IsSameOutside (cluster_size h) cluster (known_of h caches on_storage) (known_of h caches' on_storage)
    pub gone : rb_at caches' cluster ≡ None

  abbrev pub AllocatesBlock : MetadataCaches S → MetadataCaches S → ℕ → Type 0
  AllocatesBlock caches caches' cluster = (h : HeaderFields) (p : Pending) (on_storage : Bytes) → CacheInvariant h p caches on_storage → TakenFrom h caches caches' on_storage cluster

  -- ---- a modified table is inserted

  -- The table is overlaid on the known contents, and nothing else changes. At every moment a stop is as safe as before. If `Stands` holds and the order of writes is kept, the caches are
  -- sound again, with any pending clusters. If `IsNamed` holds, no refblock is new that was not.
  pub record Overlay (Stands : Bytes → Bytes → Type 0) (IsNamed : Bytes → Type 0) (h : HeaderFields) (old : StorageView) (caches : MetadataCaches S) (new : StorageView) (caches' : MetadataCaches S) (t : CachedTable) : Type 0 where
    pub honest : new.is_honest
    pub known : known_of h caches' (byte_at new.contents) ≡ known (cluster_size h) (t ∷ []) (known_of h caches (byte_at old.contents))
    pub since : IsSafeSince old new (known_of h caches (byte_at old.contents))
    pub named_blocks : IsNamed (byte_at new.contents) → AreNamedBlocks h (refblocks caches) (byte_at old.contents) → AreNamedBlocks h (refblocks caches') (byte_at new.contents)
    pub sound : (p : Pending) → Stands (byte_at new.contents) (known_of h caches' (byte_at new.contents)) → CrashInvariant h (order_of caches') p (byte_at new.contents) (known_of h caches' (byte_at new.contents))
        → CacheInvariant h p caches' (byte_at new.contents)

  -- An L2 table is inserted. Its L1 entry is marked copied, and no refblock is new.
  abbrev pub OverlaysTable : (S → StorageView) → ImageStorage S → MetadataCaches S → ImageStorage S → MetadataCaches S → L2TableView → Type 0
  OverlaysTable view old caches new caches' t =
      (h : HeaderFields) (p : Pending) → (view (storage_of old)).is_honest → CacheInvariant h p caches (byte_at (view (storage_of old)).contents) → IsTableOf h t → t.is_modified ≡ true
      → IfSome t.cluster (λ cluster. Overlay (λ on_storage known. AreNamedBlocks h (refblocks caches') on_storage × HasOwnL2 h on_storage cluster) (λ on_storage. Unit {0}) h (view (storage_of old)) caches (view (storage_of new)) caches' (laid_at h cluster t.bytes))

  -- A refblock is inserted. The reftable names it, or nothing names its cluster, and no modified L2 table lies there.
  abbrev pub OverlaysBlock : (S → StorageView) → ImageStorage S → MetadataCaches S → ImageStorage S → MetadataCaches S → RefBlockView → Type 0
  OverlaysBlock view old caches new caches' b =
      (h : HeaderFields) (p : Pending) → (view (storage_of old)).is_honest → CacheInvariant h p caches (byte_at (view (storage_of old)).contents) → IsBlockOf h b → b.is_modified ≡ true
      → IfSome b.cluster (λ cluster. IsFreeOf (cluster_size h) (l2_tables caches) cluster
      → Overlay (λ on_storage known. HasBlock h on_storage cluster ⊎ IsUnnamed h on_storage known cluster) (λ on_storage. HasBlock h on_storage cluster) h (view (storage_of old)) caches (view (storage_of new)) caches' (laid_at h cluster b.bytes))
