-- What each call of the caches keeps, whatever they hold, and what it does to sound caches.
use Rattle.std.specs.Prelude.{ℕ, ◌≡◌, ◌≢◌, ◌<◌, Bool, List, Option, Some, None, Result, option_map, IfSome, IsSome, IsTrue, IsFalse, OnOk, OnErr}
use Rattle.image_access.specs.Moments.{StorageView}
use Rattle.qcow2_metadata.specs.Bytes.{Bytes}
use Rattle.qcow2_metadata.specs.L2Table.{L2TableView}
use Rattle.qcow2_metadata.specs.RefBlock.{RefBlockView}
use Rattle.qcow2_metadata.specs.Tables.{CachedTable}
use Rattle.qcow2_metadata.specs.declared.header.HeaderFields.{HeaderFields}
use Rattle.qcow2_laws.specs.Caches.{AreClean, AreNamedBlocks, BlocksMayGo, TablesMayGo}
use Rattle.qcow2_laws.specs.Clusters.{Direction, Neither, L2DependsOnRb, RbDependsOnL2}
use Rattle.qcow2_laws.specs.CrashInvariant.{Pending, CrashInvariant}
use Rattle.qcow2_alloc.specs.ApartCaches.{KeepsKnownApart, ChangesBlockApart, OverlaysBlockApart, OverlaysTableApart, AllocatesBlockApart}
use Rattle.qcow2_alloc.specs.AsyncLruCache.{Cache}
use Rattle.qcow2_alloc.specs.CachePins.{l2_pins, CachesHaveRoom, KeepsPinsAndNotes, SameChanges}
use Rattle.qcow2_alloc.specs.KeptEntries.{KeepsCached, OnlyPromotes}
use Rattle.qcow2_alloc.specs.KeptMarks.{KeepMarks, KeepMarksAndTables, KeepsHeldTables}
use Rattle.qcow2_alloc.specs.KeptNotes.{KeepsNotes}
use Rattle.qcow2_alloc.specs.MetadataCaches.{order_of, l2_at, rb_at, l2_tables, refblocks, known_of, AreAllWritten, CacheInvariant, KeepSound, OverlaysBlock, OverlaysTable, DecrementsCount, DecrementsSome, InsertKeeps, IncrementsCount, IncrementsZero, AllocatesBlock, WritesInOrder}
use Rattle.qcow2_alloc.specs.Quiet.{KeepAllWritten, OthersStayHeld, WritesNothing, GetsBlockQuietly, GetsTableQuietly, PutsBlockQuietly, PutsTableQuietly}
use Rattle.qcow2_alloc.specs.SparedHeaders.{LeaveHeaderCluster, CachesSpareHeader, KeepBehindHeader}
use Rattle.qcow2_alloc.specs.TableCaches.{IsBlockOf, IsTableOf}
use Rattle.qcow2_alloc.specs.declared.cache.MetadataCaches.{MetadataCaches}
use Rattle.qcow2_alloc.specs.declared.error.ImageError.{ImageError}
use Rattle.qcow2_alloc.specs.declared.image_storage.ImageStorage.{ImageStorage}

module _ {S : Type 0} where
  -- No refblock needs to be written before L2 tables.
  abbrev pub TablesGo : MetadataCaches S → Type 0
  TablesGo caches = TablesMayGo (order_of caches) (refblocks caches)

  -- No L2 table needs to be written before refblocks.
  abbrev pub BlocksGo : MetadataCaches S → Type 0
  BlocksGo caches = BlocksMayGo (order_of caches) (l2_tables caches)

  -- The same refblocks are cached, with the same bytes.
  abbrev pub KeepsHeldBlocks : MetadataCaches S → MetadataCaches S → Type 0
  KeepsHeldBlocks caches caches' = (c : ℕ) → option_map (λ b. b.bytes) (rb_at caches' c) ≡ option_map (λ b. b.bytes) (rb_at caches c)

  -- A call that only works on cached tables keeps the pins and the order of writes, and records changes. No table moves to cluster 0.
  pub record HeldStep (caches caches' : MetadataCaches S) : Type 0 where
    pub marks : KeepsPinsAndNotes caches caches'
    pub order : order_of caches' ≡ order_of caches
    pub header_cluster : KeepBehindHeader caches caches'

module _ {S : Type 0} (view : S → StorageView) where
  -- ---- what each call keeps, whatever the caches hold

  -- Pins and the cached L2 tables stay the same, and changes are recorded. The order of writes may change.
  pub record KeepMarksInTurn (old : ImageStorage S) (caches : MetadataCaches S) (new : ImageStorage S) (caches' : MetadataCaches S) : Type 0 where
    pub pins : KeepsPinsAndNotes caches caches'
    pub notes : KeepsNotes view old new
    pub tables : KeepsHeldTables caches caches'

  -- A call keeps marks and cluster 0, as its two parameters say. If no cached table is modified before, none is after, and nothing is written.
  pub record CacheStepBy (Keeps Spares : Type 0) (old : ImageStorage S) (caches : MetadataCaches S) (new : ImageStorage S) (caches' : MetadataCaches S) : Type 0 where
    pub marks : Keeps
    pub header_cluster : Spares
    pub all_written : KeepAllWritten view old caches new caches'

  module _ (old : ImageStorage S) (caches : MetadataCaches S) (new : ImageStorage S) (caches' : MetadataCaches S) where
    -- A flush keeps the order of writes and the cached L2 tables.
    abbrev pub CacheStep : Type 0
    CacheStep = CacheStepBy (KeepMarksAndTables view old caches new caches') (CachesSpareHeader view old caches new caches') old caches new caches'

    -- A switch may change the order of writes.
    abbrev pub TurnStep : Type 0
    TurnStep = CacheStepBy (KeepMarksInTurn old caches new caches') (CachesSpareHeader view old caches new caches') old caches new caches'

    -- A load keeps cluster 0 unless it is for that cluster.
    abbrev pub LoadStep : ℕ → Type 0
    LoadStep cluster = CacheStepBy (KeepMarks view old caches new caches') (0 < cluster → CachesSpareHeader view old caches new caches') old caches new caches'

    -- An insertion keeps cluster 0 unless it is for that cluster. The table may be modified.
    pub record PutStep (place : Option ℕ) : Type 0 where
      pub marks : KeepMarks view old caches new caches'
      pub header_cluster : IfSome place (λ cluster. 0 < cluster → CachesSpareHeader view old caches new caches')

    -- ---- what loads, flushes and switches do over an honest storage

    -- Sound caches stay sound, caches without a common modified cluster stay so, and the known contents stay the same. Tables are written in the order of writes.
    pub record KeepsSoundly : Type 0 where
      pub keeps : KeepSound view old caches new caches'
      pub apart : KeepsKnownApart view old caches new caches'
      pub ordered : WritesInOrder view old caches new

  -- ---- flushing

  -- The tables of one kind are written. Those of the other kind, and the order of writes, stay the same.
  pub record FlushesTables {B : Type 0} (tables : MetadataCaches S → List CachedTable) (others : MetadataCaches S → B) (old : ImageStorage S) (caches : MetadataCaches S) (new : ImageStorage S) (caches' : MetadataCaches S) (result : Result (Unit {0}) ImageError) : Type 0 where
    pub direction : caches'.direction ≡ caches.direction
    pub others_stay : others caches' ≡ others caches
    pub written : OnOk result (AreClean (tables caches'))
    pub changes : SameChanges caches caches'
    pub quiet : AreClean (tables caches) → WritesNothing view old new

  -- The tables that must be written before those of one kind are written, and that kind stays the same. The other kind changes only if it must be written first.
  pub record MakesWay {A B : Type 0} (own : MetadataCaches S → A) (others : MetadataCaches S → B) (asks : Direction) (MayGo : MetadataCaches S → Type 0) (old : ImageStorage S) (caches : MetadataCaches S) (new : ImageStorage S) (caches' : MetadataCaches S) (result : Result (Unit {0}) ImageError) : Type 0 where
    pub stays : own caches' ≡ own caches
    pub others_stay : order_of caches ≢ asks → others caches' ≡ others caches
    pub first : OnOk result (MayGo caches')
    pub changes : SameChanges caches caches'
    pub quiet : MayGo caches → WritesNothing view old new

  -- The order of writes becomes `to`. If it was `from`, the tables of one kind are written first. Only that can be refused, and then the order stays the same.
  pub record SwitchesOrder {A : Type 0} (to from : Direction) (tables : MetadataCaches S → List CachedTable) (others : MetadataCaches S → A) (MayGo : MetadataCaches S → Type 0) (old : ImageStorage S) (caches : MetadataCaches S) (new : ImageStorage S) (caches' : MetadataCaches S) (result : Result (Unit {0}) ImageError) : Type 0 where
    pub order : OnOk result (order_of caches' ≡ to)
    pub refused : OnErr result (order_of caches' ≡ order_of caches)
    pub turned : OnErr result (order_of caches ≡ from)
    pub written : order_of caches ≡ from → OnOk result (AreClean (tables caches'))
    pub others_stay : others caches' ≡ others caches
    pub changes : SameChanges caches caches'
    pub storage_stays : order_of caches ≢ from → new ≡ old
    pub quiet : MayGo caches → WritesNothing view old new

  -- The refblocks are written, and stay cached. L2 tables are written only if they must be written before refblocks.
  pub record FlushesBlocks (old : ImageStorage S) (caches : MetadataCaches S) (new : ImageStorage S) (caches' : MetadataCaches S) (result : Result (Unit {0}) ImageError) : Type 0 where
    pub written : OnOk result (AreClean (refblocks caches'))
    pub first : OnOk result (BlocksGo caches')
    pub held : KeepsHeldBlocks caches caches'
    pub tables : order_of caches ≢ RbDependsOnL2 → caches'.l2 ≡ caches.l2
    pub quiet : AreClean (refblocks caches) → BlocksGo caches → WritesNothing view old new

  -- ---- loading and inserting

  -- The table of a cluster is cached. If it was cached before, it only moves to the front. The others of its kind stay, except the least recently used one if there was no room; the other kind changes only if it must be written first.
  pub record GetsTable {V A B : Type 0} (at : MetadataCaches S → ℕ → Option V) (is_modified : V → Bool) (own : MetadataCaches S → Cache A ℕ V) (with_own : MetadataCaches S → Cache A ℕ V → MetadataCaches S) (others : MetadataCaches S → B) (asks : Direction) (Quietly : MetadataCaches S → ℕ → Type 0) (cluster : ℕ) (old : ImageStorage S) (caches : MetadataCaches S) (new : ImageStorage S) (caches' : MetadataCaches S) (result : Result (Unit {0}) ImageError) : Type 0 where
    pub cached : OnOk result (IsSome (at caches' cluster))
    pub stay : OthersStayHeld at caches caches' cluster
    pub kept : KeepsCached is_modified cluster (own caches) (own caches')
    pub changes : SameChanges caches caches'
    pub hit : IsSome (at caches cluster) → OnlyPromotes own with_own cluster old caches new caches' result
    pub others_stay : order_of caches ≢ asks → others caches' ≡ others caches
    pub quiet : Quietly caches cluster → WritesNothing view old new

  -- This table is cached for its cluster. The others of its kind that are still cached are unchanged; the other kind changes only if it must be written first.
  pub record PutsTable {V B : Type 0} (at : MetadataCaches S → ℕ → Option V) (others : MetadataCaches S → B) (asks : Direction) (Quietly : MetadataCaches S → ℕ → Type 0) (place : Option ℕ) (table : V) (old : ImageStorage S) (caches : MetadataCaches S) (new : ImageStorage S) (caches' : MetadataCaches S) (result : Result (Unit {0}) ImageError) : Type 0 where
    pub cached : OnOk result (IfSome place (λ cluster. at caches' cluster ≡ Some table))
    pub stay : IfSome place (OthersStayHeld at caches caches')
    pub others_stay : order_of caches ≢ asks → others caches' ≡ others caches
    pub quiet : IfSome place (λ cluster. Quietly caches cluster → WritesNothing view old new)

  -- Inserting a table into sound caches, or into caches without a common modified cluster, over an honest storage. An unmodified table keeps the known contents, and a modified one is overlaid on them. A refused insertion keeps them.
  pub record PutsSoundly (IsFit : HeaderFields → Type 0) (place : Option ℕ) (bytes : List ℕ) (is_modified : Bool) (Overlays OverlaysApart : Type 0) (old : ImageStorage S) (caches : MetadataCaches S) (new : ImageStorage S) (caches' : MetadataCaches S) (result : Result (Unit {0}) ImageError) : Type 0 where
    pub keeps : InsertKeeps view old caches new caches' IsFit place bytes is_modified
    pub laid : OnOk result Overlays
    pub laid_apart : OnOk result OverlaysApart
    pub refused : OnErr result (KeepSound view old caches new caches')
    pub apart : OnErr result (KeepsKnownApart view old caches new caches')
    pub ordered : WritesInOrder view old caches new

  module _ (old : ImageStorage S) (caches : MetadataCaches S) (new : ImageStorage S) (caches' : MetadataCaches S) where
    module _ (result : Result (Unit {0}) ImageError) where
      -- ---- for L2 tables
      abbrev pub FlushesL2 : Type 0
      FlushesL2 = FlushesTables l2_tables (λ c. c.rb) old caches new caches' result

      abbrev pub MakesWayForL2 : Type 0
      MakesWayForL2 = MakesWay (λ c. c.l2) (λ c. c.rb) L2DependsOnRb TablesGo old caches new caches' result

      abbrev pub SwitchesToRb : Type 0
      SwitchesToRb = SwitchesOrder L2DependsOnRb RbDependsOnL2 l2_tables (λ c. c.rb) BlocksGo old caches new caches' result

      abbrev pub GetsL2 : ℕ → Type 0
      GetsL2 cluster = GetsTable l2_at (λ (t : L2TableView). t.is_modified) (λ c. c.l2) (λ c l2. record c { l2 = l2 }) (λ c. c.rb) L2DependsOnRb GetsTableQuietly cluster old caches new caches' result

      abbrev pub PutsL2 : L2TableView → Type 0
      PutsL2 t = PutsTable l2_at (λ c. c.rb) L2DependsOnRb PutsTableQuietly t.cluster t old caches new caches' result

      abbrev pub PutsL2Soundly : L2TableView → Type 0
      PutsL2Soundly t =
          PutsSoundly (λ h. IsTableOf h t) t.cluster t.bytes t.is_modified (OverlaysTable view old caches new caches' t) (OverlaysTableApart view old caches new caches' t) old caches new caches' result

      -- ---- for refblocks
      abbrev pub FlushesRb : Type 0
      FlushesRb = FlushesTables refblocks (λ c. c.l2) old caches new caches' result

      abbrev pub MakesWayForRb : Type 0
      MakesWayForRb = MakesWay (λ c. c.rb) (λ c. c.l2) RbDependsOnL2 BlocksGo old caches new caches' result

      abbrev pub SwitchesToL2 : Type 0
      SwitchesToL2 = SwitchesOrder RbDependsOnL2 L2DependsOnRb refblocks (λ c. c.l2) TablesGo old caches new caches' result

      abbrev pub GetsRb : ℕ → Type 0
      GetsRb cluster = GetsTable rb_at (λ (b : RefBlockView). b.is_modified) (λ c. c.rb) (λ c rb. record c { rb = rb }) (λ c. c.l2) RbDependsOnL2 GetsBlockQuietly cluster old caches new caches' result

      abbrev pub PutsRb : RefBlockView → Type 0
      PutsRb b = PutsTable rb_at (λ c. c.l2) RbDependsOnL2 PutsBlockQuietly b.cluster b old caches new caches' result

      abbrev pub PutsRbSoundly : RefBlockView → Type 0
      PutsRbSoundly b =
          PutsSoundly (λ h. IsBlockOf h b) b.cluster b.bytes b.is_modified (OverlaysBlock view old caches new caches' b) (OverlaysBlockApart view old caches new caches' b) old caches new caches' result

module _ {S : Type 0} where
  -- After an L2 table is inserted: if all refblocks were written, they still are; if all L2 tables were written and this one is unmodified, they still are. So a kind that could be written first still can.
  pub record KeepsL2Written (is_modified : Bool) (caches caches' : MetadataCaches S) : Type 0 where
    pub clean : AreClean (l2_tables caches) → IsFalse is_modified → AreClean (l2_tables caches')
    pub blocks : AreClean (refblocks caches) → AreClean (refblocks caches')
    pub first : BlocksGo caches → IsFalse is_modified → BlocksGo caches'
    pub may_go : TablesGo caches → TablesGo caches'

  -- The storage and the cached refblocks stay the same.
  abbrev pub KeepsBlocks : ImageStorage S → MetadataCaches S → ImageStorage S → MetadataCaches S → Type 0
  KeepsBlocks old caches new caches' = (new ≡ old) × ((c : ℕ) → rb_at caches' c ≡ rb_at caches c)

  -- If the call returns true, the refblock of a cluster was dropped. On sound caches without a pinned refblock it is not cached afterwards in any case. The L2 tables stay.
  pub record RemovesBlock (caches caches' : MetadataCaches S) (cluster : ℕ) (result : Bool) : Type 0 where
    pub taken : IsTrue result → AllocatesBlock caches caches' cluster
    pub taken_apart : IsTrue result → AllocatesBlockApart caches caches' cluster
    pub gone : (h : HeaderFields) (p : Pending) (on_storage : Bytes) → CacheInvariant h p caches on_storage → CachesHaveRoom caches → rb_at caches' cluster ≡ None
    pub clean : AreClean (refblocks caches) → AreClean (refblocks caches')
    pub l2 : caches'.l2 ≡ caches.l2

  -- If the call returns true, a refcount of a cached refblock was changed. On sound caches it returns false only at the end of a refcount's range. The L2 tables stay.
  pub record ChangesCountSoundly (Counts Makes : Type 0) (caches caches' : MetadataCaches S) (cluster : ℕ) (result : Bool) : Type 0 where
    pub counted : IsTrue result → Counts
    pub made : Makes
    pub apart : ChangesBlockApart caches caches' cluster
    pub l2 : caches'.l2 ≡ caches.l2

  module _ (caches caches' : MetadataCaches S) (cluster index : ℕ) (result : Bool) where
    abbrev pub IncrementsSoundly : Type 0
    IncrementsSoundly = ChangesCountSoundly (IncrementsCount caches caches' cluster index) (IncrementsZero caches cluster index result) caches caches' cluster result

    abbrev pub DecrementsSoundly : Type 0
    DecrementsSoundly = ChangesCountSoundly (DecrementsCount caches caches' cluster index) (DecrementsSome caches cluster index result) caches caches' cluster result

  -- Empty caches of an image with this header, with room for this many L2 tables and refblocks.
  pub record AreNewCaches (h : HeaderFields) (l2_entries rb_entries : ℕ) (caches : MetadataCaches S) : Type 0 where
    pub sound : (p : Pending) (on_storage : Bytes) → CrashInvariant h Neither p on_storage on_storage → CacheInvariant h p caches on_storage
    pub known : (on_storage : Bytes) → known_of h caches on_storage ≡ on_storage
    pub named_blocks : (on_storage : Bytes) → AreNamedBlocks h (refblocks caches) on_storage
    pub order : order_of caches ≡ Neither
    pub sizes : (caches.l2.size ≡ l2_entries) × (caches.rb.size ≡ rb_entries)
    pub room : 0 < l2_entries → 0 < rb_entries → CachesHaveRoom caches
    pub pins : (cluster : ℕ) → l2_pins caches cluster ≡ 0
    pub unchanged : IsFalse caches.is_changed
    pub all_written : AreAllWritten caches
    pub header_cluster : LeaveHeaderCluster h.cluster_bits caches
