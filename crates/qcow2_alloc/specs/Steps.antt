-- What each call of the allocator leaves of the image's file, whatever it contains, and why the call is refused.
use Rattle.std.specs.Prelude.{◌≡◌, ◌≢◌, ℕ, ◌+◌, ◌*◌, ◌/◌, ◌%◌, ◌^◌, ◌<◌, ◌≤◌, ◌⊎◌, Bool, Option, Some, None, IsSome, IfSome, IsNone, IsTrue, Result, Ok, Err, IfOk, IfErr, OnOk, false}
use Rattle.image_access.specs.Moments.{StorageView, ContentsStay, EachMomentSince, IsLeftBy, Rose}
use Rattle.qcow2_metadata.specs.EntryTable.{EntryTableView, entry_count}
use Rattle.qcow2_metadata.specs.Header.{counts_per_block, entries_per_cluster}
use Rattle.qcow2_metadata.specs.L2Mapping.{IsHostCluster}
use Rattle.qcow2_metadata.specs.declared.header.HeaderFields.{HeaderFields}
use Rattle.qcow2_laws.specs.CrashInvariant.{Pending}
use Rattle.qcow2_alloc.specs.Allocation.{HasUnaligned, Allocates, AllocatesAt, GivesBack, GrowsTable, GetsBlock, HasNone, KeepsEntries, KeepsNamed, NamesBlock, NamesLacking, SameLeaks, AllocatesCluster, AllocatesGiven, AllocatesRun, InternalAllocatorGrowth, run_at, taken_as}
use Rattle.qcow2_alloc.specs.CachePins.{KeepsPinsAndNotes}
use Rattle.qcow2_alloc.specs.Faults.{faults_of}
use Rattle.qcow2_alloc.specs.FreeList.{pending_then, run_of, FillsClusters, ReplacesReftable, ListsTables, OldReftablesQueued}
use Rattle.qcow2_alloc.specs.GrownTables.{counted_run, EntersReftable, NamesReftable}
use Rattle.qcow2_alloc.specs.Growing.{IsLeastLength}
use Rattle.qcow2_alloc.specs.HeaderClusters.{KeepsHeaderCluster}
use Rattle.qcow2_alloc.specs.ImageFile.{has_noted, view_in, HasReftable, KeepsHeader, IsFault}
use Rattle.qcow2_alloc.specs.KeptMarks.{KeepsMarks, KeepsHeldTables}
use Rattle.qcow2_alloc.specs.KeptNotes.{KeepsNotes}
use Rattle.qcow2_alloc.specs.Limits.{CantCount, CantCountRun, CantGrow, HasNoPlace, HasNoRoomBelow, HasNoRoomFor, IsLowestRoom, IsPastLimits, LiesLowest, IsFaultOr, nameable_clusters}
use Rattle.qcow2_alloc.specs.LowestRuns.{IsLowestRun, IsPassed, IsUsed, KeepsNoFreeBelowHint, NoFreeBelowHint, StaysUsed, KeepsUsed}
use Rattle.qcow2_alloc.specs.MadeClusters.{run_in, IsMadeInTurn, IsAllocatedMetadata, ListsUsed, AllocatesOnly}
use Rattle.qcow2_alloc.specs.MetadataCaches.{rb_at}
use Rattle.qcow2_alloc.specs.Rooms.{ReachesRoom, AllocatesRoom}
use Rattle.qcow2_alloc.specs.SparedHeaders.{LeaveHeaderCluster, KeepBehindHeader, NamesReftableBehind, SparesHeader, PreservesHeaderButPointer, StandsBehindHeader}
use Rattle.qcow2_alloc.specs.declared.allocation.Allocator.{Allocator}
use Rattle.qcow2_alloc.specs.declared.cache.MetadataCaches.{MetadataCaches}
use Rattle.qcow2_alloc.specs.declared.clusters_to_free.ClusterKind.{ClusterKind}
use Rattle.qcow2_alloc.specs.declared.clusters_to_free.ClustersToFreeEntry.{ClustersToFreeEntry}
use Rattle.qcow2_alloc.specs.declared.free_room.Reach.{Reach}
use Rattle.qcow2_alloc.specs.declared.free_room.Room.{Room}
use Rattle.qcow2_alloc.specs.ImageError.{IsOfTablesIf}
use Rattle.qcow2_alloc.specs.declared.error.ImageError.{ImageError}
use Rattle.qcow2_alloc.specs.declared.error.ImageError.TheVariants as I
use Rattle.qcow2_alloc.specs.declared.image_file.ImageFile.{ImageFile}
use Rattle.qcow2_alloc.specs.declared.image_storage.ImageStorage.{ImageStorage}

-- ---- why a call is refused

-- The refusal, if there is one.
abbrev pub err_of : {T : Type 0} → Result T ImageError → Option ImageError
err_of (Ok x) = None
err_of (Err e) = Some e

-- P holds unless the storage failed.
abbrev pub UnlessStorage : Option ImageError → Type 0 → Type 0
UnlessStorage None P = P
UnlessStorage (Some e) P = e ≢ I.Storage → P

-- A call succeeded, or was refused for such a cause. It is refused with an I/O error exactly if one was counted.
pub record FailsFor (before now : ℕ) (refusal : Option ImageError) (Refuses : ImageError → Type 0) : Type 0 where
  pub no_fewer : before ≤ now
  pub rose : refusal ≡ Some I.Storage → Rose before now
  pub told : UnlessStorage refusal (now ≡ before)
  pub cause : IfSome refusal Refuses

module _ {S : Type 0} (view : S → StorageView) where
  -- A call on the image's storage succeeded, or was refused for such a cause.
  abbrev pub Fails : {T : Type 0} → ImageStorage S → ImageStorage S → Result T ImageError → (ImageError → Type 0) → Type 0
  Fails old new result Refuses = FailsFor (faults_of view old) (faults_of view new) (err_of result) Refuses

  -- A call of the allocator succeeded, or was refused. It is refused 4 only if the offset of a refblock is not aligned, or the reftable has no place.
  abbrev pub AllocatorFails : {T : Type 0} → ImageFile S → EntryTableView → ImageFile S → Result T ImageError → Type 0
  AllocatorFails old reftable' new result = Fails old.storage new.storage result (IsOfTablesIf (HasUnaligned new.header.fields reftable'))

  -- ---- what stays the same

  -- The header, the list to be freed and these entries of the reftable stay the same. Marks are kept, and cluster 0 stays the same.
  pub record TableStepBy (Keeps : EntryTableView → EntryTableView → Type 0) (reftable : EntryTableView) (old : ImageFile S) (reftable' : EntryTableView) (new : ImageFile S) : Type 0 where
    pub header : new.header ≡ old.header
    pub list : new.free_list ≡ old.free_list
    pub named : Keeps reftable reftable'
    pub marks : KeepsMarks view old new
    pub header_cluster : SparesHeader view reftable old reftable' new

  -- Ranges may get refblocks, and each that has one keeps it.
  abbrev pub TableStep : EntryTableView → ImageFile S → EntryTableView → ImageFile S → Type 0
  TableStep = TableStepBy KeepsNamed

  -- Only one range may get another refblock.
  abbrev pub RangeStep : ℕ → EntryTableView → ImageFile S → EntryTableView → ImageFile S → Type 0
  RangeStep range = TableStepBy (KeepsEntries (λ k. k ≢ range))

  -- A refblock is written. The header, the list to be freed and the marks stay the same. Cluster 0 stays the same if clusters have this size.
  pub record BlockStep (bits : ℕ) (old new : ImageFile S) : Type 0 where
    pub header : new.header ≡ old.header
    pub list : new.free_list ≡ old.free_list
    pub marks : KeepsMarks view old new
    pub header_cluster : (reftable : EntryTableView) → bits ≡ old.header.fields.cluster_bits → SparesHeader view reftable old reftable new

  -- The header, the list to be freed and the marks stay the same. The bytes of cluster 0 stay the same if clusters have this size, and no cached table moves there.
  pub record PartStep (bits : ℕ) (old new : ImageFile S) : Type 0 where
    pub header : new.header ≡ old.header
    pub list : new.free_list ≡ old.free_list
    pub marks : KeepsMarks view old new
    pub header_cluster : KeepsHeaderCluster bits (view_in view old) (view_in view new)
    pub behind : KeepBehindHeader old.caches new.caches

  -- Pins and the cached L2 tables stay the same, and changes are recorded. The order of writes may change.
  pub record KeepsMarksInTurn (old new : ImageFile S) : Type 0 where
    pub pins : KeepsPinsAndNotes old.caches new.caches
    pub notes : KeepsNotes view old.storage new.storage
    pub tables : KeepsHeldTables old.caches new.caches

  -- Marks are kept. The reftable may be replaced by a longer one: the header then points to it, and the clusters of the old one are listed. Otherwise the header, the list and cluster 0 stay the same.
  pub record FileStepBy (Keeps : ImageFile S → ImageFile S → Type 0) (reftable : EntryTableView) (old : ImageFile S) (reftable' : EntryTableView) (new : ImageFile S) : Type 0 where
    pub header : KeepsHeader old.header new.header
    pub list : ListsTables old.free_list new.free_list
    pub former : OldReftablesQueued reftable reftable' old.free_list new.free_list
    pub marks : Keeps old new
    pub header_cluster : PreservesHeaderButPointer view reftable old reftable' new

  -- A step of a file that keeps the order of writes.
  abbrev pub FileStep : EntryTableView → ImageFile S → EntryTableView → ImageFile S → Type 0
  FileStep = FileStepBy (KeepsMarks view)

  -- A step of a file that may change the order of writes.
  abbrev pub DataStep : EntryTableView → ImageFile S → EntryTableView → ImageFile S → Type 0
  DataStep = FileStepBy KeepsMarksInTurn

  -- Marks are kept, and the header's pointer to the reftable may change. The rest of the header and the list stay the same, and cluster 0 does if the table may get the pointer.
  pub record PointerStepTo (IsToName : Type 0) (reftable : EntryTableView) (old : ImageFile S) (reftable' : EntryTableView) (new : ImageFile S) : Type 0 where
    pub header : KeepsHeader old.header new.header
    pub list : new.free_list ≡ old.free_list
    pub marks : KeepsMarks view old new
    pub header_cluster : IsToName → PreservesHeaderButPointer view reftable old reftable' new

  -- The pointer to the reftable may change, without a condition.
  abbrev pub PointerStep : EntryTableView → ImageFile S → EntryTableView → ImageFile S → Type 0
  PointerStep = PointerStepTo (Unit {0})

  -- Marks are kept. If the call succeeds, the reftable is replaced by a longer one: the header points to it, and the clusters of the old one are listed. Otherwise the header, the list
  -- and cluster 0 stay the same.
  pub record GrowthStep (reftable : EntryTableView) (old : ImageFile S) (reftable' : EntryTableView) (new : ImageFile S) (result : Result (Unit {0}) ImageError) : Type 0 where
    pub header : KeepsHeader old.header new.header
    pub list : ListsTables old.free_list new.free_list
    pub former : ReplacesReftable reftable reftable' old.free_list new.free_list result
    pub marks : KeepsMarks view old new
    pub header_cluster : PreservesHeaderButPointer view reftable old reftable' new

  -- Marks are kept, and the header, the reftable and cluster 0 stay the same. The list to be freed may change.
  pub record FreeStepBy (Keeps : ImageFile S → ImageFile S → Type 0) (table : EntryTableView) (old : ImageFile S) (table' : EntryTableView) (new : ImageFile S) : Type 0 where
    pub header : new.header ≡ old.header
    pub reftable : table' ≡ table
    pub marks : Keeps old new
    pub header_cluster : SparesHeader view table old table' new

  -- A step that frees and keeps the order of writes.
  abbrev pub FreeStep : EntryTableView → ImageFile S → EntryTableView → ImageFile S → Type 0
  FreeStep = FreeStepBy (KeepsMarks view)

  -- A step that frees and may change the order of writes.
  abbrev pub FreeStepInTurn : EntryTableView → ImageFile S → EntryTableView → ImageFile S → Type 0
  FreeStepInTurn = FreeStepBy KeepsMarksInTurn

  -- ---- how an allocator begins

  -- The file is only read: everything but the storage stays the same, and the storage has the same contents.
  pub record ReadsFile (old new : ImageFile S) : Type 0 where
    pub rest : new ≡ record old { storage = new.storage }
    pub honest : (view_in view old).is_honest → (view_in view new).is_honest
    pub same : ContentsStay (view_in view old) (view_in view new)
    pub time : EachMomentSince (view_in view old) (view_in view new) (IsLeftBy (view_in view new))

  -- The search for free clusters starts at cluster 0, and no cluster is spared or leaked yet. The reftable is the one on an honest storage, and lies past cluster 0 if the header says so.
  pub record BeginsFrom (old new : ImageFile S) (allocator : Allocator) : Type 0 where
    pub first : allocator.first_free_cluster ≡ 0
    pub passed : (k : ℕ) → ¬ IsPassed allocator k
    pub leaks : allocator.leaked_clusters ≡ 0
    pub reftable : (view_in view old).is_honest → HasReftable view new allocator.reftable
    pub header_cluster : NamesReftableBehind old.header.fields → LeaveHeaderCluster old.header.fields.cluster_bits old.caches
        → StandsBehindHeader old.header.fields.cluster_bits allocator.reftable new

  -- ---- on a sound image

  -- A cluster is allocated, or it is in use.
  pub record AllocatesGivenSoundly (p : Pending) (is_data : Bool) (allocator : Allocator) (old : ImageFile S) (allocator' : Allocator) (new : ImageFile S) (cluster : ℕ) (result : Result Bool ImageError) : Type 0 where
    pub takes : AllocatesGiven view p old allocator' new is_data cluster result
    pub fault : IfErr result IsFault
    pub used : NoFreeBelowHint view allocator old → (HasNone allocator.reftable (cluster / counts_per_block old.header.fields) → ⊥) → IfOk result (λ taken. taken ≡ false → IsUsed view new cluster)
    pub free : IfOk result (λ taken. IsTrue taken → ¬ IsUsed view old cluster)

  -- A range gets its refblock. Only a fault refuses this, if the reftable has an entry for the range, and entries can hold its first cluster.
  pub record GetsSoundly (p : Pending) (allocator : Allocator) (old : ImageFile S) (allocator' : Allocator) (new : ImageFile S) (range : ℕ) (result : Result (Unit {0}) ImageError) : Type 0 where
    pub gets : GetsBlock view p old allocator' new result
    pub fault : range < entry_count allocator.reftable → IsHostCluster old.header.fields.cluster_bits (range * counts_per_block old.header.fields) → IfErr result IsFault

  -- The range of a cluster gets its refblock, in the lowest free cluster below the range, or in the range's own first cluster.
  pub record EnsuresSoundly (p : Pending) (allocator : Allocator) (old : ImageFile S) (allocator' : Allocator) (new : ImageFile S) (cluster : ℕ) (result : Result (Unit {0}) ImageError) : Type 0 where
    pub gets : GetsBlock view p old allocator' new result
    pub hint : NoFreeBelowHint view allocator old → KeepsNoFreeBelowHint view allocator' new result
    pub fault : cluster / counts_per_block old.header.fields < entry_count allocator.reftable → IsHostCluster old.header.fields.cluster_bits cluster → IfErr result IsFault

  -- A cluster is allocated, or it is in use. Its range may get a refblock first, and the reftable an entry.
  pub record AllocatesClusterSoundly (p : Pending) (is_data : Bool) (allocator : Allocator) (old : ImageFile S) (allocator' : Allocator) (new : ImageFile S) (cluster : ℕ) (result : Result Bool ImageError) : Type 0 where
    pub takes : AllocatesCluster view p old allocator' new (pending_then p old.free_list new.free_list) is_data cluster result
    pub leaks : SameLeaks allocator allocator'
    pub listed : ListsUsed view old new
    pub uses : KeepsUsed view old new result
    pub used : NoFreeBelowHint view allocator old → IfOk result (λ taken. taken ≡ false → IsUsed view new cluster)
    pub free : IfOk result (λ taken. IsTrue taken → ¬ IsUsed view old cluster)
    pub hint : NoFreeBelowHint view allocator old → KeepsNoFreeBelowHint view allocator' new result
    pub limit : NoFreeBelowHint view allocator old → IsHostCluster old.header.fields.cluster_bits cluster → IfErr result (IsFaultOr (CantCount (IsUsed view new) new.header.fields (λ k. 0) allocator' cluster))

  -- This many clusters are allocated, none of which was in use.
  pub record TakenSoFar (p : Pending) (is_data : Bool) (allocator : Allocator) (old : ImageFile S) (allocator' : Allocator) (new : ImageFile S) (first n : ℕ) : Type 0 where
    pub taken : InternalAllocatorGrowth view p old allocator' new (taken_as is_data (pending_then p old.free_list new.free_list) (run_at first n))
    pub leaks : SameLeaks allocator allocator'
    pub uses : StaysUsed view old new
    pub free : (k : ℕ) → 0 < run_at first n k → ¬ IsUsed view old k
    pub hint : NoFreeBelowHint view allocator old → NoFreeBelowHint view allocator' new

  -- The n clusters of a run are allocated, or none if one of them is in use.
  pub record AllocatesRunSoundly (p : Pending) (is_data : Bool) (allocator : Allocator) (old : ImageFile S) (allocator' : Allocator) (new : ImageFile S) (first n : ℕ) (result : Result ℕ ImageError) : Type 0 where
    pub takes : AllocatesRun view p old allocator' new (pending_then p old.free_list new.free_list) is_data first n result
    pub leaks : SameLeaks allocator allocator'
    pub uses : KeepsUsed view old new result
    pub used : NoFreeBelowHint view allocator old → IfOk result (λ taken. taken ≢ n → IsUsed view new (first + taken))
    pub hint : NoFreeBelowHint view allocator old → KeepsNoFreeBelowHint view allocator' new result
    pub limit : NoFreeBelowHint view allocator old → first + n ≤ nameable_clusters old.header.fields → IfErr result (IsFaultOr (CantCountRun (IsUsed view new) new.header.fields allocator' first n))

  -- The lowest free run of n clusters is allocated, and the result says where it begins; or there is none.
  pub record AllocatesLowestSoundly {A : Type 0} (Takes : Type 0) (first_of : A → ℕ) (n : ℕ) (allocator : Allocator) (old : ImageFile S) (allocator' : Allocator) (new : ImageFile S) (result : Result A ImageError) : Type 0 where
    pub takes : Takes
    pub uses : OnOk result (StaysUsed view old new)
    pub hint : NoFreeBelowHint view allocator old → KeepsNoFreeBelowHint view allocator' new result
    pub lowest : NoFreeBelowHint view allocator old → IfOk result (λ run. IsLowestRun (IsUsed view new) (first_of run) n)
    pub limit : NoFreeBelowHint view allocator old → 0 < n → IfErr result (IsFaultOr (HasNoPlace (IsUsed view new) new.header.fields allocator' n))

  -- A public allocation returns the lowest free run of n clusters, or there is none. No other cluster is allocated, except for refblocks and reftables, and none is leaked.
  pub record AllocatesSoundly (p : Pending) (kind : ClusterKind) (n : ℕ) (allocator : Allocator) (old : ImageFile S) (allocator' : Allocator) (new : ImageFile S) (result : Result ClustersToFreeEntry ImageError) : Type 0 where
    pub found : AllocatesLowestSoundly (Allocates view p old allocator' new (pending_then p old.free_list new.free_list) kind n result) (λ run. run.first_cluster) n allocator old allocator' new result
    pub leaks : SameLeaks allocator allocator'
    pub made : AllocatesOnly view run_of (IsMadeInTurn old.header.fields allocator.reftable allocator'.reftable old.free_list new.free_list) old new result

  -- Exactly the requested cluster is allocated for data, or it cannot be.
  pub record AllocatesAtSoundly (p : Pending) (cluster : ℕ) (allocator : Allocator) (old : ImageFile S) (allocator' : Allocator) (new : ImageFile S) (result : Result (Option ClustersToFreeEntry) ImageError) : Type 0 where
    pub takes : AllocatesAt view p old allocator' new (pending_then p old.free_list new.free_list) cluster result
    pub leaks : SameLeaks allocator allocator'
    pub listed : ListsUsed view old new
    pub made : AllocatesOnly view run_in (IsAllocatedMetadata old.header.fields allocator.reftable allocator'.reftable) old new result
    pub uses : OnOk result (StaysUsed view old new)
    pub kept : IfErr result (λ e. IsFault e ⊎ StaysUsed view old new)
    pub within : IfErr result (λ e. IsFault e ⊎ (cluster / counts_per_block old.header.fields < 2 ^ 20))
    pub none : NoFreeBelowHint view allocator old → IfOk result (λ run. IsNone run → IsPastLimits old.header.fields cluster
        ⊎ (IsUsed view new cluster × (IsUsed view old cluster ⊎ IsAllocatedMetadata old.header.fields allocator.reftable allocator'.reftable cluster)))
    pub hint : NoFreeBelowHint view allocator old → KeepsNoFreeBelowHint view allocator' new result
    pub limit : NoFreeBelowHint view allocator old → IfErr result (IsFaultOr (CantCount (IsUsed view new) new.header.fields (λ k. 0) allocator' cluster))

  -- The range of a cluster gets its refblock. The reftable may grow for it.
  pub record ReachesSoundly (p : Pending) (cluster : ℕ) (allocator : Allocator) (old : ImageFile S) (allocator' : Allocator) (new : ImageFile S) (result : Result (Unit {0}) ImageError) : Type 0 where
    pub reaches : GrowsTable view p old allocator' new (pending_then p old.free_list new.free_list) result
    pub leaks : SameLeaks allocator allocator'
    pub listed : ListsUsed view old new
    pub uses : KeepsUsed view old new result
    pub hint : NoFreeBelowHint view allocator old → KeepsNoFreeBelowHint view allocator' new result
    pub limit : NoFreeBelowHint view allocator old → IsHostCluster old.header.fields.cluster_bits cluster → IfErr result (IsFaultOr (CantCount (IsUsed view new) new.header.fields (λ k. 0) allocator' cluster))

  -- The reftable gets an entry of this index, in the lowest room for a longer one.
  pub record GrowsSoundly (p : Pending) (index : ℕ) (allocator : Allocator) (old : ImageFile S) (allocator' : Allocator) (new : ImageFile S) (result : Result (Unit {0}) ImageError) : Type 0 where
    pub grows : GrowsTable view p old allocator' new (pending_then p old.free_list new.free_list) result
    pub leaks : SameLeaks allocator allocator'
    pub made : AllocatesOnly view (λ done k. 0) (IsAllocatedMetadata old.header.fields allocator.reftable allocator'.reftable) old new result
    pub uses : KeepsUsed view old new result
    pub lowest : NoFreeBelowHint view allocator old → OnOk result (LiesLowest (IsUsed view new) new.header.fields allocator.reftable allocator'.reftable)
    pub limit : NoFreeBelowHint view allocator old → IfErr result (IsFaultOr ((allocator'.reftable ≡ allocator.reftable) × CantGrow (IsUsed view new) new.header.fields (λ k. 0) allocator.reftable index))

  -- The first room for this many clusters of a reftable, below an end, is allocated; or there is none.
  pub record AllocatesRoomSoundly (p : Pending) (clusters end : ℕ) (allocator : Allocator) (old : ImageFile S) (allocator' : Allocator) (new : ImageFile S) (result : Result Room ImageError) : Type 0 where
    pub takes : AllocatesRoom view p old allocator' new allocator.reftable result
    pub leaks : SameLeaks allocator allocator'
    pub lowest : NoFreeBelowHint view allocator old → IfOk result (λ room. IsLowestRoom (IsUsed view new) new.header.fields allocator.reftable clusters end room.first)
    pub limit : NoFreeBelowHint view allocator old → IfErr result (IsFaultOr (HasNoRoomBelow (IsUsed view new) new.header.fields (λ k. 0) allocator.reftable clusters end))

  -- Clusters are freed, and none is leaked.
  pub record GivesSoundly (Gives : Type 0) (allocator : Allocator) (old : ImageFile S) (allocator' : Allocator) (new : ImageFile S) (result : Result (Unit {0}) ImageError) : Type 0 where
    pub gives : Gives
    pub leaks : SameLeaks allocator allocator'
    pub hint : NoFreeBelowHint view allocator old → KeepsNoFreeBelowHint view allocator' new result

  -- The header points to a longer reftable that was ready, and every cluster in use stays in use.
  pub record NamesSoundly (q p : Pending) (old : ImageFile S) (allocator' : Allocator) (new : ImageFile S) (result : Result (Unit {0}) ImageError) : Type 0 where
    pub names : NamesReftable view q p old allocator' new result
    pub uses : KeepsUsed view old new result

  -- A run of clusters is allocated up to one that is in use, or up to an end.
  pub record ReachesRoomSoundly (p : Pending) (first clusters end : ℕ) (allocator : Allocator) (old : ImageFile S) (allocator' : Allocator) (new : ImageFile S) (result : Result Reach ImageError) : Type 0 where
    pub reaches : ReachesRoom view p old allocator' new allocator.reftable first result
    pub stopped : NoFreeBelowHint view allocator old → IfOk result (λ reach. reach.taken ≢ reach.blocks + clusters → first + reach.taken < end → IsUsed view new (first + reach.taken))

  -- A longer reftable replaces the old one, with the refblocks that it lacks, in the lowest room for both.
  pub record EntersSoundly (p : Pending) (length : ℕ) (allocator : Allocator) (old : ImageFile S) (allocator' : Allocator) (new : ImageFile S) (result : Result (Unit {0}) ImageError) : Type 0 where
    pub enters : EntersReftable view p old allocator' new result
    pub uses : KeepsUsed view old new result
    pub lowest : NoFreeBelowHint view allocator old → OnOk result (LiesLowest (IsUsed view new) new.header.fields allocator.reftable allocator'.reftable)
    pub limit : NoFreeBelowHint view allocator old → IfErr result (IsFaultOr ((allocator'.reftable ≡ allocator.reftable) × HasNoRoomFor (IsUsed view new) new.header.fields (λ k. 0) allocator.reftable length))

  -- The clusters of a run that are counted are freed again. p is what is pending without them since the start.
  pub record LeavesSoundly (p : Pending) (first n : ℕ) (start : ImageFile S) (allocator : Allocator) (old : ImageFile S) (allocator' : Allocator) (new : ImageFile S) (result : Result (Unit {0}) ImageError) : Type 0 where
    pub gives : ((k : ℕ) → counted_run start.header.fields allocator.reftable first n k ≡ 0) ⊎ IsTrue old.caches.is_changed → GivesBack view p start allocator' new p result
    pub leaks : SameLeaks allocator allocator'
    pub kept : OnOk result ((k : ℕ) → run_at first n k ≡ 0 → IsUsed view old k → IsUsed view new k)

-- The refblock of a range is cached, or the range has none.
pub record FindsBlock {S : Type 0} (h : HeaderFields) (reftable : EntryTableView) (caches : MetadataCaches S) (range : ℕ) (block : Option ℕ) : Type 0 where
  pub names : NamesBlock h reftable range block
  pub has : IsSome block → HasNone reftable range → ⊥
  pub held : IfSome block (λ at. IsSome (rb_at caches at))

module _ {S : Type 0} where
  -- ---- what a call does to the reftable

  -- The reftable has an entry of this index, no more entries than that needs, and lies past cluster 0. A change is recorded.
  pub record HasGrown (h : HeaderFields) (index : ℕ) (reftable reftable' : EntryTableView) (new : ImageFile S) : Type 0 where
    pub length : IsLeastLength (entry_count reftable) index (entries_per_cluster h) (counts_per_block h) (entry_count reftable')
    pub elsewhere : IfSome reftable'.cluster (λ c. 0 < c)
    pub recorded : IsTrue (has_noted new)

  -- The reftable is the given table, with refblocks that it lacked. A change is recorded.
  pub record HasEntered (reftable table reftable' : EntryTableView) (new : ImageFile S) : Type 0 where
    pub count : entry_count reftable' ≡ entry_count table
    pub lacking : NamesLacking reftable table reftable'
    pub recorded : IsTrue (has_noted new)

  -- The reftable is the given table. If it has whole clusters, it fills them, and it lies past cluster 0.
  pub record EntersTable (h : HeaderFields) (reftable table reftable' : EntryTableView) (new : ImageFile S) : Type 0 where
    pub entered : HasEntered reftable table reftable' new
    pub fills : entry_count table % entries_per_cluster h ≡ 0 → FillsClusters reftable'

  -- The reftable lies in the room, after its refblocks.
  pub record EntersRoom (reftable table reftable' : EntryTableView) (room : Room) (new : ImageFile S) : Type 0 where
    pub entered : HasEntered reftable table reftable' new
    pub place : reftable'.cluster ≡ Some (room.first + room.blocks)
