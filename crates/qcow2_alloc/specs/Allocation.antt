-- What the allocator's calls allocate and free, and what they leave of an image's file.
use Rattle.std.specs.Prelude.{ℕ, ◌+◌, ◌*◌, ◌%◌, ◌^◌, ◌<◌, ◌≤◌, ◌≡◌, ◌≢◌, ◌⊎◌, ◌&&◌, nat_le, nat_lt, Bool, true, false, List, length, Option, Some, None, Result, Ok, Err, IsSome, IsTrue, if◌then◌else◌}
use Rattle.image_access.specs.Moments.{StorageView}
use Rattle.qcow2_metadata.specs.declared.header.HeaderFields.{HeaderFields}
use Rattle.qcow2_metadata.specs.Bytes.{Bytes, byte_at}
use Rattle.qcow2_metadata.specs.Header.{cluster_size, counts_per_block}
use Rattle.qcow2_metadata.specs.EntryTable.{EntryTableView, entry_count}
use Rattle.qcow2_metadata.specs.L2Mapping.{IsHostCluster}
use Rattle.qcow2_metadata.specs.RefBlock.{RefBlockView}
use Rattle.qcow2_metadata.specs.TableBytes.{entry_at}
use Rattle.qcow2_metadata.specs.Entries.{reftable_entry, block_offset}
use Rattle.qcow2_laws.specs.Clusters.{L2DependsOnRb, RbDependsOnL2}
use Rattle.qcow2_laws.specs.Changes.{one_at, with_new_data, with_new_tables}
use Rattle.qcow2_laws.specs.CrashInvariant.{Pending}
use Rattle.qcow2_alloc.specs.MetadataCaches.{order_of, rb_at}
use Rattle.qcow2_alloc.specs.ImageError.{IsFault}
use Rattle.qcow2_alloc.specs.ImageFile.{contents_in, known_in, HasReftable, InternalFileStep, InternalFileGrowth, InterruptedFileStep, RefusedFileStep}
use Rattle.qcow2_alloc.specs.declared.allocation.Allocator.{Allocator}
use Rattle.qcow2_alloc.specs.declared.clusters_to_free.ClusterKind.{ClusterKind}
use Rattle.qcow2_alloc.specs.declared.clusters_to_free.ClusterKind.TheVariants.{Data, Metadata}
use Rattle.qcow2_alloc.specs.declared.clusters_to_free.ClustersToFreeEntry.{ClustersToFreeEntry}
use Rattle.qcow2_alloc.specs.declared.error.ImageError.{ImageError}
use Rattle.qcow2_alloc.specs.declared.image_file.ImageFile.{ImageFile}

-- 1 if cluster k is one of the n clusters from `first` on, otherwise 0.
abbrev pub run_at : ℕ → ℕ → ℕ → ℕ
run_at first n k = if nat_le first k && nat_lt k (first + n) then 1 else 0

abbrev pub is_data : ClusterKind → Bool
is_data Data = true
is_data Metadata = false

-- What is pending after these clusters are allocated: as new data or as new tables.
abbrev pub taken_as : Bool → Pending → (ℕ → ℕ) → Pending
taken_as true p n = with_new_data p n
taken_as false p n = with_new_tables p n

-- No further cluster was leaked.
abbrev pub SameLeaks : Allocator → Allocator → Type 0
SameLeaks old new = new.leaked_clusters ≡ old.leaked_clusters

-- What is pending with these clusters on the list to be freed: as old data or as old tables.
abbrev pub listed_as : ClusterKind → Pending → (ℕ → ℕ) → Pending
listed_as Data p n = record p { old_data = λ k. p.old_data k + n k }
listed_as Metadata p n = record p { old_tables = λ k. p.old_tables k + n k }

-- Why the refcount of a cluster may be decremented: the cluster was allocated in the same call, or it is on the list to be freed.
pub data Owed : Type 0 where
  Taken : Bool → Owed
  Listed : ClusterKind → Owed

abbrev pub owed_as : Owed → Pending → (ℕ → ℕ) → Pending
owed_as (Taken is_data) p n = taken_as is_data p n
owed_as (Listed kind) p n = listed_as kind p n

-- What is pending while a refblock is made: a cluster that was allocated for it, or nothing if it counts itself.
abbrev pub placing : Bool → Pending → ℕ → Pending
placing true p at = p
placing false p at = taken_as false p (one_at at)

-- The refcounts of a new refblock: 1 for its own cluster if it counts itself, otherwise 0.
abbrev pub first_counts : Bool → ℕ → ℕ
first_counts true i = one_at 0 i
first_counts false i = 0

-- A refblock that counts itself lies in the first cluster of its range.
abbrev pub StandsFirst : Bool → HeaderFields → ℕ → ℕ → Type 0
StandsFirst true h range at = at ≡ range * counts_per_block h
StandsFirst false h range at = Unit {0}

-- These bytes are at this offset.
abbrev pub HasBytesAt : Bytes → ℕ → List ℕ → Type 0
HasBytesAt b place bytes = (i : ℕ) → i < length bytes → byte_at bytes i ≡ b (place + i)

-- The reftable has no refblock for the range.
abbrev pub HasNone : EntryTableView → ℕ → Type 0
HasNone reftable range = block_offset (entry_at reftable.bytes range) ≡ 0

-- A reftable entry is empty, or holds the offset of this refblock.
abbrev pub NamesBlock : HeaderFields → EntryTableView → ℕ → Option ℕ → Type 0
NamesBlock h reftable range None = HasNone reftable range
NamesBlock h reftable range (Some block) = block * cluster_size h ≡ block_offset (entry_at reftable.bytes range)

-- The reftable entry of a range has an offset that is not aligned.
pub record IsUnaligned (h : HeaderFields) (reftable : EntryTableView) (range : ℕ) : Type 0 where
  pub within : range < entry_count reftable
  pub off : block_offset (entry_at reftable.bytes range) % cluster_size h ≢ 0

-- The reftable has an entry whose offset is not aligned, or no place.
abbrev pub HasUnaligned : HeaderFields → EntryTableView → Type 0
HasUnaligned h reftable = ((range : ℕ) × IsUnaligned h reftable range) ⊎ (reftable.cluster ≡ None)

-- The cluster belongs to the first range, which has no refblock although the reftable has an entry for it.
pub record LacksFirst (h : HeaderFields) (reftable : EntryTableView) (cluster : ℕ) : Type 0 where
  pub none : HasNone reftable 0
  pub some : 0 < entry_count reftable
  pub first : cluster < counts_per_block h

-- The range has no refblock, and this cluster may hold it.
pub record HasPlaceFor (counts_itself : Bool) (h : HeaderFields) (reftable : EntryTableView) (range at : ℕ) : Type 0 where
  pub none : HasNone reftable range
  pub first : StandsFirst counts_itself h range at

-- The reftable has an entry for the range, and the entry may hold this cluster, which is not the header's.
pub record CanName (cluster_bits : ℕ) (reftable : EntryTableView) (range at : ℕ) : Type 0 where
  pub within : range < entry_count reftable
  pub placed : IsSome reftable.cluster
  pub elsewhere : 0 < at
  pub nameable : IsHostCluster reftable.cluster_bits at
  pub nameable_here : IsHostCluster cluster_bits at

-- No refblock moves to cluster 0: each reftable entry stays the same, or gets a refblock past cluster 0.
pub record NamesBehindHeader (old new : EntryTableView) : Type 0 where
  pub bits : new.cluster_bits ≡ old.cluster_bits
  pub each : (k : ℕ) → (entry_at new.bytes k ≡ entry_at old.bytes k) ⊎ (2 ^ old.cluster_bits ≤ block_offset (entry_at new.bytes k))

-- Each range that has a refblock keeps it.
abbrev pub KeepsRefblocks : EntryTableView → EntryTableView → Type 0
KeepsRefblocks old new = (range : ℕ) → (HasNone old range → ⊥) → entry_at new.bytes range ≡ entry_at old.bytes range

-- A longer copy of the reftable gets only refblocks that the reftable lacks. None lies in cluster 0, and each range that has a refblock keeps its entry.
pub record NamesLacking (reftable old new : EntryTableView) : Type 0 where
  pub behind : NamesBehindHeader old new
  pub ranges : (range : ℕ) → (HasNone reftable range → ⊥) → entry_at new.bytes range ≡ entry_at old.bytes range

-- The reftable keeps its place, its length, and these entries.
pub record KeepsEntries (Stays : ℕ → Type 0) (old new : EntryTableView) : Type 0 where
  pub cluster : new.cluster ≡ old.cluster
  pub bits : new.cluster_bits ≡ old.cluster_bits
  pub count : entry_count new ≡ entry_count old
  pub others : (k : ℕ) → Stays k → entry_at new.bytes k ≡ entry_at old.bytes k
  pub behind : NamesBehindHeader old new

-- Each range that has a refblock keeps its entry.
abbrev pub KeepsNamed : EntryTableView → EntryTableView → Type 0
KeepsNamed old new = KeepsEntries (λ k. HasNone old k → ⊥) old new

module _ {S : Type 0} where
  -- Data clusters are allocated only while refblocks are written before L2 tables.
  abbrev pub MayAllocate : Bool → ImageFile S → Type 0
  MayAllocate true file = order_of file.caches ≡ L2DependsOnRb
  MayAllocate false file = Unit {0}

  -- Old data are freed only while L2 tables are written before refblocks.
  abbrev pub MayFree : ClusterKind → ImageFile S → Type 0
  MayFree Data file = order_of file.caches ≡ RbDependsOnL2
  MayFree Metadata file = Unit {0}

  abbrev pub MayDecrement : Owed → ImageFile S → Type 0
  MayDecrement (Taken is_data) file = Unit {0}
  MayDecrement (Listed kind) file = MayFree kind file

  module _ (view : S → StorageView) where
    -- The reftable names a refblock in this cluster for a range.
    abbrev pub NamesRefblock : ImageFile S → ℕ → ℕ → Type 0
    NamesRefblock file range block =
        (block_offset (reftable_entry file.header.fields (known_in view file) range) ≢ 0)
        × (block_offset (reftable_entry file.header.fields (known_in view file) range) ≡ block * cluster_size file.header.fields)

    -- The refblock of a range is cached, from this cluster; or the range has none.
    abbrev pub RefblockAt : ImageFile S → ℕ → Option ℕ → Type 0
    RefblockAt file range None = block_offset (reftable_entry file.header.fields (known_in view file) range) ≡ 0
    RefblockAt file range (Some block) =
        (block_offset (reftable_entry file.header.fields (known_in view file) range) ≢ 0)
        × (block_offset (reftable_entry file.header.fields (known_in view file) range) ≡ block * cluster_size file.header.fields) × IsSome (rb_at file.caches block)

    module _ (p : Pending) (old : ImageFile S) (allocator' : Allocator) (new : ImageFile S) where
      -- The file and the allocator are sound again, with these pending clusters.
      pub record InternalAllocatorStep (p' : Pending) : Type 0 where
        pub file_step : InternalFileStep view p p' old new
        pub reftable : HasReftable view new allocator'.reftable

      -- The file and the allocator are sound again, and the reftable may have moved.
      pub record InternalAllocatorGrowth (p' : Pending) : Type 0 where
        pub file_step : InternalFileGrowth view p p' old new
        pub reftable : HasReftable view new allocator'.reftable

      -- The refblock of a range is loaded.
      abbrev pub LoadsBlock : ℕ → Result (Option ℕ) ImageError → Type 0
      LoadsBlock range (Ok block) = InternalAllocatorStep p × RefblockAt new range block
      LoadsBlock range (Err e) = IsFault e × RefusedFileStep view p old allocator' new e

      -- A refblock is in its cluster, and no refblock is cached for that cluster.
      pub record HoldsBlock (block : RefBlockView) (at : ℕ) : Type 0 where
        pub uncached : rb_at new.caches at ≡ None
        pub stands : HasBytesAt (contents_in view new) (at * cluster_size new.header.fields) block.bytes

      -- A refblock is written, and isn't cached.
      abbrev pub WritesBlock : RefBlockView → ℕ → Result (Unit {0}) ImageError → Type 0
      WritesBlock block at (Ok _) = InternalAllocatorStep p × HoldsBlock block at
      WritesBlock block at (Err e) = IsFault e × RefusedFileStep view p old allocator' new e

      -- The refblock of a range is placed in a cluster, and named there.
      abbrev pub PlacesBlock : Pending → ℕ → ℕ → Result (Unit {0}) ImageError → Type 0
      PlacesBlock p' range at (Ok _) = InternalAllocatorStep p' × NamesRefblock new range at
      PlacesBlock p' range at (Err e) = IsFault e × RefusedFileStep view p old allocator' new e

      -- A range gets its refblock.
      abbrev pub GetsBlock : Result (Unit {0}) ImageError → Type 0
      GetsBlock (Ok _) = InternalAllocatorStep p
      GetsBlock (Err e) = RefusedFileStep view p old allocator' new e

      -- A cluster is allocated for a table, or there is no free one.
      abbrev pub AllocatesLowest : Result (Option ℕ) ImageError → Type 0
      AllocatesLowest (Ok (Some at)) = InternalAllocatorStep (taken_as false p (one_at at))
      AllocatesLowest (Ok None) = InternalAllocatorStep p
      AllocatesLowest (Err e) = RefusedFileStep view p old allocator' new e

      -- A cluster is allocated, or it is in use.
      abbrev pub AllocatesGiven : Bool → ℕ → Result Bool ImageError → Type 0
      AllocatesGiven is_data cluster (Ok true) = InternalAllocatorStep (taken_as is_data p (one_at cluster))
      AllocatesGiven is_data cluster (Ok false) = InternalAllocatorStep p
      AllocatesGiven is_data cluster (Err e) = RefusedFileStep view p old allocator' new e

      -- ---- steps in which the reftable may grow; p' is what is pending then, without what is allocated

      -- What a refused part leaves: a sound file, or one that a fault interrupted.
      abbrev pub RefusedGrowth : Pending → ImageError → Type 0
      RefusedGrowth p' e = InternalAllocatorGrowth p' ⊎ InterruptedFileStep view old new e

      -- The reftable is longer afterwards, or the same.
      abbrev pub GrowsTable : Pending → Result (Unit {0}) ImageError → Type 0
      GrowsTable p' (Ok _) = InternalAllocatorGrowth p'
      GrowsTable p' (Err e) = RefusedGrowth p' e

      -- A cluster is allocated, or it is in use.
      abbrev pub AllocatesCluster : Pending → Bool → ℕ → Result Bool ImageError → Type 0
      AllocatesCluster p' is_data cluster (Ok true) = InternalAllocatorGrowth (taken_as is_data p' (one_at cluster))
      AllocatesCluster p' is_data cluster (Ok false) = InternalAllocatorGrowth p'
      AllocatesCluster p' is_data cluster (Err e) = RefusedGrowth p' e

      -- The n clusters of a run are allocated, or none if one of them is in use.
      abbrev pub AllocatesRun : Pending → Bool → ℕ → ℕ → Result ℕ ImageError → Type 0
      AllocatesRun p' is_data first n (Ok taken) = (taken ≡ n → InternalAllocatorGrowth (taken_as is_data p' (run_at first n))) × (taken ≢ n → InternalAllocatorGrowth p')
      AllocatesRun p' is_data first n (Err e) = RefusedGrowth p' e

      -- Some run of n clusters is allocated.
      abbrev pub AllocatesSomeRun : Pending → Bool → ℕ → Result ℕ ImageError → Type 0
      AllocatesSomeRun p' is_data n (Ok first) = InternalAllocatorGrowth (taken_as is_data p' (run_at first n))
      AllocatesSomeRun p' is_data n (Err e) = RefusedGrowth p' e

      -- An allocation returns a run of n clusters of this kind, which are allocated now. If it is refused, at most the list to be freed has changed, or a fault interrupted it.
      abbrev pub Allocates : Pending → ClusterKind → ℕ → Result ClustersToFreeEntry ImageError → Type 0
      Allocates p' kind n (Ok run) = (run.count ≡ n) × (run.kind ≡ kind) × InternalAllocatorGrowth (taken_as (is_data kind) p' (run_at run.first_cluster n))
      Allocates p' kind n (Err e) = RefusedGrowth p' e

      -- Exactly the requested cluster is allocated for data, or it cannot be.
      abbrev pub AllocatesAt : Pending → ℕ → Result (Option ClustersToFreeEntry) ImageError → Type 0
      AllocatesAt p' cluster (Ok (Some run)) = (run.first_cluster ≡ cluster) × (run.count ≡ 1) × (run.kind ≡ Data) × InternalAllocatorGrowth (taken_as true p' (run_at cluster 1))
      AllocatesAt p' cluster (Ok None) = InternalAllocatorGrowth p'
      AllocatesAt p' cluster (Err e) = RefusedGrowth p' e

      -- What was allocated is freed again.
      abbrev pub GivesBackAs : Pending → Result (Unit {0}) ImageError → Type 0
      GivesBackAs p' (Ok _) = InternalAllocatorGrowth p'
      GivesBackAs p' (Err e) = IsFault e × RefusedGrowth p' e

      -- ----

      -- A pending cluster gets its refcount decremented.
      abbrev pub DecrementsOne : Pending → Result Bool ImageError → Type 0
      DecrementsOne p' (Ok true) = InternalAllocatorStep p'
      DecrementsOne p' (Ok false) = ⊥
      DecrementsOne p' (Err e) = IsFault e × RefusedFileStep view p old allocator' new e

      -- Pending clusters are freed.
      abbrev pub GivesBack : Pending → Result (Unit {0}) ImageError → Type 0
      GivesBack p' (Ok _) = InternalAllocatorStep p'
      GivesBack p' (Err e) = IsFault e × RefusedFileStep view p old allocator' new e

      -- Clusters are freed, and p' is pending afterwards. A fault may end this at some point.
      abbrev pub Frees : Pending → Result (Unit {0}) ImageError → Type 0
      Frees p' (Ok _) = InternalAllocatorStep p'
      Frees p' (Err e) = IsFault e × (InternalAllocatorStep p' ⊎ InterruptedFileStep view old new e)

    -- The run that was allocated since a start is freed again, if a change was recorded. p' is what is pending without it.
    abbrev pub GivesBackRun : Allocator → ImageFile S → Allocator → ImageFile S → ℕ → ℕ → Result (Unit {0}) ImageError → Type 0
    GivesBackRun allocator old allocator' new first n result =
        (p p' : Pending) (is_data : Bool) (start : ImageFile S) → ((k : ℕ) → 0 < p.new_data k → 0 < p'.new_data k)
        → InternalAllocatorGrowth p start allocator old (taken_as is_data p' (run_at first n)) → (0 < n → IsTrue old.caches.is_changed) → GivesBackAs p start allocator' new p' result
