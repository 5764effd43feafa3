-- Room for a longer reftable: a run of free clusters for the table and for the refblocks that it needs.
use Rattle.std.specs.Prelude.{ℕ, ◌+◌, ◌*◌, ◌/◌, ◌%◌, ◌^◌, ◌<◌, ◌≤◌, ◌≡◌, ◌≢◌, ◌⊎◌, ◌==◌, ◌&&◌, ◌||◌, Bool, IsTrue, true, false, List, [], length, Some, None, Result, Ok, Err, if◌then◌else◌}
use Rattle.image_access.specs.Moments.{StorageView}
use Rattle.qcow2_metadata.specs.declared.header.HeaderFields.{HeaderFields}
use Rattle.qcow2_metadata.specs.Bytes.{Bytes, sum_below, one_if}
use Rattle.qcow2_metadata.specs.Header.{cluster_size, counts_per_block, count_width}
use Rattle.qcow2_metadata.specs.Entries.{block_offset, block_count}
use Rattle.qcow2_metadata.specs.EntryTable.{EntryTableView, entry_count}
use Rattle.qcow2_metadata.specs.L2Mapping.{greatest_offset}
use Rattle.qcow2_metadata.specs.RefBlock.{RefBlockView, count_at}
use Rattle.qcow2_metadata.specs.TableBytes.{entry_at}
use Rattle.qcow2_laws.specs.Changes.{one_at, with_new_tables}
use Rattle.qcow2_disk.specs.Stops.{SafeThroughout}
use Rattle.qcow2_laws.specs.Caches.{AreClean, AreNamedBlocks, BlocksMayGo}
use Rattle.qcow2_laws.specs.CrashInvariant.{Pending, SameCounts, SameIn}
use Rattle.qcow2_laws.specs.Internal.{IsInternal, SameL1Table}
use Rattle.qcow2_laws.specs.SafeSteps.{SafeStep}
use Rattle.qcow2_laws.specs.Tops.{IsSameOutside}
use Rattle.qcow2_laws.specs.Writes.{IsUnnamed}
use Rattle.qcow2_alloc.specs.Allocation.{run_at, HasBytesAt, HasNone, NamesLacking, InternalAllocatorStep}
use Rattle.qcow2_alloc.specs.GrownTables.{counted_run, with_run, named_by_reftable_entries, IsGrown}
use Rattle.qcow2_alloc.specs.CachePins.{CachesHaveRoom}
use Rattle.qcow2_alloc.specs.ImageFile.{nothing_given, view_in, contents_in, known_in, state_in, IsFault, HasReftable, RefusedFileStep}
use Rattle.qcow2_alloc.specs.MetadataCaches.{order_of, l2_tables, refblocks, rb_at, CacheInvariant, HavePlaces}
use Rattle.qcow2_alloc.specs.declared.allocation.Allocator.{Allocator}
use Rattle.qcow2_alloc.specs.declared.error.ImageError.{ImageError}
use Rattle.qcow2_alloc.specs.declared.free_room.Reach.{Reach}
use Rattle.qcow2_alloc.specs.declared.free_room.Room.{Room}
use Rattle.qcow2_alloc.specs.declared.image_file.ImageFile.{ImageFile}

-- The reftable has no refblock for the range.
abbrev pub lacks : EntryTableView → ℕ → Bool
lacks t range = block_offset (entry_at t.bytes range) == 0

-- 1 for this cluster if the reftable has a refblock for its range, otherwise 0.
abbrev pub counted_one : HeaderFields → EntryTableView → ℕ → ℕ → ℕ
counted_one h t c k = if lacks t (c / counts_per_block h) then 0 else one_at c k

-- The cluster is the first one of a run in a range without a refblock.
abbrev pub opens : EntryTableView → ℕ → ℕ → ℕ → Bool
opens t per first c = (c == first || c % per == 0) && lacks t (c / per)

-- How many ranges without a refblock the n clusters from `first` on enter.
abbrev pub opened : EntryTableView → ℕ → ℕ → ℕ → ℕ
opened t per first n = sum_below n (λ i. one_if (opens t per first (first + i)))

-- The number of clusters of a room.
abbrev pub room_length : Room → ℕ
room_length room = room.blocks + room.clusters

module _ {S : Type 0} (view : S → StorageView) (p : Pending) (old : ImageFile S) (allocator' : Allocator) (new : ImageFile S) where
  -- A cluster is allocated, if its range has a refblock; or it is in use.
  abbrev pub AllocatesFree : EntryTableView → ℕ → Result Bool ImageError → Type 0
  AllocatesFree t cluster (Ok true) = InternalAllocatorStep view p old allocator' new (with_new_tables p (counted_one old.header.fields t cluster))
  AllocatesFree t cluster (Ok false) = InternalAllocatorStep view p old allocator' new p
  AllocatesFree t cluster (Err e) = IsFault e × RefusedFileStep view p old allocator' new e

  -- This many clusters from `first` on are allocated.
  abbrev pub ReachesRoom : EntryTableView → ℕ → Result Reach ImageError → Type 0
  ReachesRoom t first (Ok reach) = InternalAllocatorStep view p old allocator' new (with_run p old.header.fields t first reach.taken)
  ReachesRoom t first (Err e) = IsFault e × RefusedFileStep view p old allocator' new e

  -- The clusters of a room are allocated.
  abbrev pub AllocatesRoom : EntryTableView → Result Room ImageError → Type 0
  AllocatesRoom t (Ok room) = InternalAllocatorStep view p old allocator' new (with_run p old.header.fields t room.first (room_length room))
  AllocatesRoom t (Err e) = RefusedFileStep view p old allocator' new e

-- A longer reftable in memory has the same entries, and needs this many clusters.
pub record IsLonger (h : HeaderFields) (old t : EntryTableView) (clusters : ℕ) : Type 0 where
  pub bits : t.cluster_bits ≡ h.cluster_bits
  pub long : length t.bytes ≡ clusters * cluster_size h
  pub whole : 8 * entry_count t ≡ clusters * cluster_size h
  pub entries : (k : ℕ) → entry_at t.bytes k ≡ entry_at old.bytes k
  pub named : (c : ℕ) → named_by_reftable_entries h t c ≡ named_by_reftable_entries h old c

-- Refcount i of the refblock, which is that of cluster `begin` + i, is 1 for the n clusters from `first` on, and 0 for all others.
abbrev pub CountsRun : HeaderFields → RefBlockView → ℕ → ℕ → ℕ → Type 0
CountsRun h block begin first n = (i : ℕ) → i < counts_per_block h → count_at block i ≡ run_at first n (begin + i)

-- The table has entries for all clusters of the room, and entries can hold them. The room has the clusters of a longer reftable and, before them, those of the refblocks that the reftable lacks there.
pub record IsRoomFor (h : HeaderFields) (reftable table : EntryTableView) (room : Room) : Type 0 where
  pub above : 0 < room.first
  pub within : room.first + room_length room ≤ entry_count table * counts_per_block h
  pub near : room.first + room_length room ≤ greatest_offset / 2 ^ h.cluster_bits + 1
  pub bits : table.cluster_bits ≡ h.cluster_bits
  pub blocks : room.blocks ≡ opened reftable (counts_per_block h) room.first (room_length room)

-- Entries of the table are filled in, with refblocks that the reftable lacks.
pub record FillsTable (reftable old new : EntryTableView) : Type 0 where
  pub rest : new ≡ record old { bytes = new.bytes }
  pub as_long : length new.bytes ≡ length old.bytes
  pub lacking : NamesLacking reftable old new

module _ {S : Type 0} (h : HeaderFields) (reftable : EntryTableView) where
  -- A room for n clusters of a reftable was found below an end. A change is recorded if some of its clusters are counted.
  pub record IsRoomBelow (n end : ℕ) (new : ImageFile S) (room : Room) : Type 0 where
    pub above : 0 < room.first
    pub below : room.first + room_length room ≤ end
    pub clusters : room.clusters ≡ n
    pub blocks : room.blocks ≡ opened reftable (counts_per_block h) room.first (room_length room)
    pub recorded : ((k : ℕ) → counted_run h reftable room.first (room_length room) k ≡ 0) ⊎ IsTrue new.caches.is_changed

  -- Clusters from `first` on were allocated until there was room for this many clusters of a reftable, or one was in use, or the end came.
  pub record IsReach (first clusters end : ℕ) (new : ImageFile S) (reach : Reach) : Type 0 where
    pub within : first + reach.taken ≤ end
    pub few : reach.blocks ≤ reach.taken
    pub blocks : reach.blocks ≡ opened reftable (counts_per_block h) first reach.taken
    pub short : reach.taken ≢ reach.blocks + clusters → (n : ℕ) → n ≤ reach.taken → n < opened reftable (counts_per_block h) first n + clusters
    pub recorded : ((k : ℕ) → counted_run h reftable first reach.taken k ≡ 0) ⊎ IsTrue new.caches.is_changed

-- The reftable, placed at this cluster.
abbrev pub placed_at : EntryTableView → ℕ → EntryTableView
placed_at t cluster = record t { cluster = Some cluster }

-- The refblocks that a reftable lacks and another one has count exactly these clusters.
abbrev pub CountNew : HeaderFields → Bytes → EntryTableView → EntryTableView → ℕ → ℕ → Type 0
CountNew h b old t first n =
    (c : ℕ) → HasNone old (c / counts_per_block h) → block_offset (entry_at t.bytes (c / counts_per_block h)) ≢ 0
    → block_count b (count_width h) (block_offset (entry_at t.bytes (c / counts_per_block h))) (c % counts_per_block h) ≡ run_at first n c

module _ {S : Type 0} (view : S → StorageView) where
  -- Nothing names a cluster of the run, and it holds no new data.
  abbrev pub AreFree : Pending → ImageFile S → ℕ → ℕ → Type 0
  AreFree q file first n = (c : ℕ) → 0 < run_at first n c → IsUnnamed file.header.fields (contents_in view file) (known_in view file) c × (q.new_data c ≡ 0)

  module _ (q : Pending) (old : ImageFile S) (allocator : Allocator) (new : ImageFile S) where
    -- A step that guests don't see. Refblocks may be cached in the clusters of a run, which nothing names; then a change is recorded.
    pub record InternalNewBlocks (first n : ℕ) : Type 0 where
      pub honest : (view_in view new).is_honest
      pub caches : CacheInvariant new.header.fields q new.caches (contents_in view new)
      pub room : CachesHaveRoom new.caches
      pub reftable : HasReftable view new allocator.reftable
      pub safe_step : SafeStep (state_in view old q) (state_in view new q) nothing_given []
      pub since : SafeThroughout (view_in view old) (view_in view new) (known_in view old) nothing_given []
      pub unseen : IsInternal (state_in view old q) (state_in view new q)
      pub l1_table : SameL1Table (state_in view old q) (state_in view new q)
      pub counts : SameCounts new.header.fields (known_in view old) (known_in view new)
      pub free : AreFree q new first n
      pub named : AreNamedBlocks new.header.fields (refblocks new.caches) (contents_in view new) ⊎ IsTrue new.caches.is_changed

    -- The same of a refused call.
    abbrev pub RefusedNewBlocks : ℕ → ℕ → ImageError → Type 0
    RefusedNewBlocks first n e = IsFault e × InternalNewBlocks first n

    -- One more refblock is cached in a cluster of the run, with these bytes, and nothing else of what is known changes.
    pub record HasCachedBlock (before : ImageFile S) (first n cluster : ℕ) (bytes : List ℕ) : Type 0 where
      pub blocks : InternalNewBlocks first n
      pub places : HavePlaces new.header.fields new.caches
      pub stands : HasBytesAt (known_in view new) (cluster * cluster_size new.header.fields) bytes
      pub outside : IsSameOutside (cluster_size new.header.fields) cluster (known_in view before) (known_in view new)

    abbrev pub CachesBlock : ImageFile S → ℕ → ℕ → ℕ → List ℕ → Result (Unit {0}) ImageError → Type 0
    CachesBlock before first n cluster bytes (Ok _) = HasCachedBlock before first n cluster bytes
    CachesBlock before first n cluster bytes (Err e) = RefusedNewBlocks first n e

    -- A refblock may come to the front of the cache. Nothing changes of what is known.
    pub record HasFetched (before : ImageFile S) (first n : ℕ) : Type 0 where
      pub blocks : InternalNewBlocks first n
      pub places : HavePlaces new.header.fields new.caches
      pub known : known_in view new ≡ known_in view before

    abbrev pub FetchesBlock : ImageFile S → ℕ → ℕ → Result (Unit {0}) ImageError → Type 0
    FetchesBlock before first n (Ok _) = HasFetched before first n
    FetchesBlock before first n (Err e) = RefusedNewBlocks first n e

    -- The refblocks that a reftable lacks are cached for the first clusters of the room, and a longer one has entries for them.
    pub record HasCached (before after : EntryTableView) (room : Room) : Type 0 where
      pub blocks : InternalNewBlocks room.first (room_length room)
      pub places : HavePlaces new.header.fields new.caches
      pub grown : IsGrown old.header.fields before (placed_at after (room.first + room.blocks)) room.first room.blocks room.clusters
      pub counts : CountNew new.header.fields (known_in view new) before after room.first (room_length room)

    abbrev pub CachesBlocks : EntryTableView → EntryTableView → Room → Result (Unit {0}) ImageError → Type 0
    CachesBlocks before after room (Ok _) = HasCached before after room
    CachesBlocks before after room (Err e) = RefusedNewBlocks room.first (room_length room) e

    -- The refblocks that a reftable lacks are in the first clusters of the room, and a longer one has entries for them. No modified refblock is cached.
    pub record HasPlaced (before after : EntryTableView) (room : Room) : Type 0 where
      pub allocator_step : InternalAllocatorStep view q old allocator new q
      pub free : AreFree q new room.first (room_length room)
      pub grown : IsGrown old.header.fields before (placed_at after (room.first + room.blocks)) room.first room.blocks room.clusters
      pub counts : CountNew new.header.fields (contents_in view new) before after room.first (room_length room)
      pub clean : AreClean (refblocks new.caches)
      pub may : BlocksMayGo (order_of new.caches) (l2_tables new.caches)

    abbrev pub PlacesBlocks : EntryTableView → EntryTableView → Room → Result (Unit {0}) ImageError → Type 0
    PlacesBlocks before after room (Ok _) = HasPlaced before after room
    PlacesBlocks before after room (Err e) = RefusedNewBlocks room.first (room_length room) e

    -- No refblock is cached any more for the n clusters from `first` on.
    pub record HasDropped (first n : ℕ) : Type 0 where
      pub allocator_step : InternalAllocatorStep view q old allocator new q
      pub uncached : (c : ℕ) → 0 < run_at first n c → rb_at new.caches c ≡ None

    -- The table is in these clusters, and nothing else changes on the storage.
    pub record StandsFrom (cluster clusters : ℕ) (bytes : List ℕ) : Type 0 where
      pub allocator_step : InternalAllocatorStep view q old allocator new q
      pub stands : HasBytesAt (contents_in view new) (cluster * cluster_size old.header.fields) bytes
      pub outside : (c : ℕ) → run_at cluster clusters c ≡ 0 → SameIn (cluster_size old.header.fields) c (contents_in view old) (contents_in view new)

    abbrev pub WritesTable : ℕ → ℕ → List ℕ → Result (Unit {0}) ImageError → Type 0
    WritesTable cluster clusters bytes (Ok _) = StandsFrom cluster clusters bytes
    WritesTable cluster clusters bytes (Err e) = IsFault e × RefusedFileStep view q old allocator new e
