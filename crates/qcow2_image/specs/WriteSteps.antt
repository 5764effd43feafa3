-- What the parts of a write do, and what the calls on mappings return: one record or relation for each kind of part.
use Rattle.std.specs.Prelude.{◌≡◌, ◌≢◌, ◌⊎◌, ℕ, ◌+◌, ◌*◌, ◌/◌, ◌%◌, ◌^◌, ◌<◌, ◌≤◌, min, Bool, true, false, List, [], Option, None, Some, Result, Ok, Err, IfOk, IfErr, IfSome, OnOk, IsNone, IsOk, IsSome, IsTrue, Vec, length, is_some, vec_capacity, slice_get, MatchResult}
use Rattle.image_access.specs.Backing.{BackingView}
use Rattle.image_access.specs.Moments.{StorageView}
use Rattle.qcow2_metadata.specs.Cover.{cover}
use Rattle.qcow2_metadata.specs.EntryTable.{EntryTableView, HasRoomIfPlaced, entry_count}
use Rattle.qcow2_metadata.specs.Header.{cluster_size}
use Rattle.qcow2_metadata.specs.L2Mapping.{IsHostCluster, IsInReach}
use Rattle.qcow2_metadata.specs.declared.l2_mapping.L2Mapping.{L2Mapping}
use Rattle.qcow2_metadata.specs.declared.l2_mapping.L2Mapping.TheVariants.{Zero}
use Rattle.qcow2_laws.specs.CrashInvariant.{Pending}
use Rattle.qcow2_disk.specs.Alike.{AreDataAt}
use Rattle.qcow2_disk.specs.Calls.{Shows}
use Rattle.qcow2_disk.specs.Found.{IsFoundIn, rest_of_table}
use Rattle.qcow2_disk.specs.Mappings.{is_copied_data}
use Rattle.qcow2_alloc.specs.CachePins.{l2_pins}
use Rattle.qcow2_alloc.specs.ImageFile.{KeepsHeader, known_in}
use Rattle.qcow2_alloc.specs.KeptMarks.{KeepsFileNotes, KeepsHeldTables}
use Rattle.qcow2_alloc.specs.declared.error.ImageError.{ImageError}
use Rattle.qcow2_alloc.specs.declared.error.ImageError.TheVariants.{Compressed, Failed, ForeignState, OutdatedMapping, ReadOnly, TablePrepared}
use Rattle.qcow2_alloc.specs.ImageError.{IsFault, IsFaultOrLimit}
use Rattle.qcow2_image.specs.Backings.{HasPinnedMapping}
use Rattle.qcow2_image.specs.BehindHeader.{PreservesHeaderCluster}
use Rattle.qcow2_image.specs.Calls.{reason_of}
use Rattle.qcow2_image.specs.CallParts.{PutsPart, Readies}
use Rattle.qcow2_image.specs.Faults.{CountsImageFaults, NoFewerFaults, ReportsEachBy, ReportsFault}
use Rattle.qcow2_image.specs.Found.{IsFoundInImage, IsFoundWhole, IsMappedAs, IsRunFrom, found_kind, further_by}
use Rattle.qcow2_image.specs.Image.{HasNothingToFree, ImageStays, IsSameImage, KeepsWholeHeader, is_failed, is_writable, number_of, place_in, size_of}
use Rattle.qcow2_image.specs.ImageInvariant.{ImageInvariant, abstract_of, disk_of, meaning, new_data_by, over_all, pending_in, Mappings}
use Rattle.qcow2_image.specs.InternalSteps.{HoldsAll, HoldsTable, InternalFillingStep, InternalStep, IsFilled, Gains, SameHeld, AllocatesData}
use Rattle.qcow2_image.specs.L1Entries.{NeedsOverflowingL1Entry}
use Rattle.qcow2_image.specs.Limits.{IfLimit, IsLimited, IsLimitedTaking}
use Rattle.qcow2_image.specs.SoundParts.{FillsSoundly}
use Rattle.qcow2_metadata.specs.TableBytes.{HasPlace}
use Rattle.qcow2_alloc.specs.declared.clusters_to_free.ClustersToFreeEntry.{ClustersToFreeEntry}
use Rattle.qcow2_image.specs.declared.prepared.ClusterMapping.{ClusterMapping}
use Rattle.qcow2_image.specs.ListedClusters.{ListStays, ListsNoMore}
use Rattle.qcow2_image.specs.LookupCauses.{MayFailFinding}
use Rattle.qcow2_image.specs.MayFail.{CopiesCompressed, IsCacheHeld, IsCopiedCompressed, MayFailLooking, MayFailLookingAgain, MayFailMapped, MayFailPutting, MayFailSpecial, MayFailAllocating, MayFailAlone}
use Rattle.qcow2_image.specs.Noted.{CommitFailsOnceWritten, FailsOnceWritten}
use Rattle.qcow2_image.specs.Prepared.{IsHandedBackBy, file_of, guest_offset_of, image_of, length_of, offset_of, table_of}
use Rattle.qcow2_image.specs.PreparedPlaces.{IsMarkedBehind, IsOwn, IsPlacedBehind}
use Rattle.qcow2_image.specs.Preparing.{IsAnswered, IsOfNothing, IsTaken}
use Rattle.qcow2_image.specs.Ranges.{BeginsInKept, GainsAt, IsFirst, ClusterMappingsAt, AllocatesDataAt}
use Rattle.qcow2_image.specs.Refusals.{FreesRefused, IsFaultOrLimit, MayFailPreparing, MarksFailed, MarksRefused, refuses_mapping, refuses_to_prepare, unusable}
use Rattle.qcow2_image.specs.SpecialReads.{ReportsCompressed, ReportsWhether}
use Rattle.qcow2_image.specs.declared.image.Qcow2.{Qcow2}
use Rattle.qcow2_image.specs.declared.mapping.Mapping.{Mapping}
use Rattle.qcow2_image.specs.declared.mapping.MappingKind.{MappingKind}
use Rattle.qcow2_image.specs.declared.mapping.MappingKind.TheVariants.{Eof, Raw}
use Rattle.qcow2_image.specs.declared.prepared.CommitRefused.{CommitRefused}
use Rattle.qcow2_image.specs.declared.prepared.CommitRefused.TheVariants.{Kept}
use Rattle.qcow2_image.specs.declared.prepared.Prepared.{Prepared}

-- ---- the first cluster of a range
-- A zero entry that keeps the host cluster at a place, marked copied.
abbrev pub keeping : ℕ → L2Mapping
keeping host = Zero (Some (host, true))

-- A mapping that isn't copied data, and names only host clusters that a file can have. If it is marked copied, its host cluster lies past cluster 0, or in a data file.
pub record IsNotInPlace {S F : Type 0} (image : Qcow2 S F) (mapping : L2Mapping) : Type 0 where
  pub reach : IsInReach mapping
  pub other : is_copied_data mapping ≡ false
  pub behind : IsMarkedBehind image mapping

-- Memory for at least one cluster mapping, and none yet.
abbrev pub HasRoomForOne : {X Z : Type 0} → Vec X Z → Type 0
HasRoomForOne room = (room.items ≡ []) × (0 < vec_capacity room)

-- The mapping has memory for this many clusters.
abbrev pub HasMemoryOf : ℕ → Prepared → Type 0
HasMemoryOf n p = vec_capacity p.clusters ≡ n

-- A mapping of the first cluster of a range, in this L2 table. It begins past the header's cluster, or lies in a data file.
pub record IsBegunIn {S F : Type 0} (image : Qcow2 S F) (offset table : ℕ) (HasRoom : Prepared → Type 0) (p : Prepared) : Type 0 where
  pub own : IsOwn image p
  pub first : IsFirst image.file.header.fields offset table p
  pub behind : IsPlacedBehind image (offset_of p)
  pub room : HasRoom p

module _ {S F : Type 0} (view : S → StorageView) (backing : F → BackingView) (old new : Qcow2 S F) where
  -- The first cluster of a range, whose guest cluster has this mapping, is prepared in an L2 table that no mapping pins.
  pub record BeginsSoundly (covered : L2Mapping) (offset n : ℕ) (overwrite : Bool) (out : Mappings) (result : Result Prepared ImageError) : Type 0 where
    pub readies : Readies view backing old new out offset n overwrite result
    pub may_fail : IfErr result (MayFailAllocating (HasPinnedMapping out) ⊥ (IsCopiedCompressed old.file.header.fields covered offset n overwrite) ⊥)
    pub limit : IfLimit result (IsLimited view backing [] 1 old out)

  abbrev pub BeginsIn : (table offset n : ℕ) → Bool → L2Mapping → Result Prepared ImageError → Type 0
  BeginsIn table offset n overwrite covered result = (out : Mappings) → ImageInvariant view backing (pending_in view backing old out) old out
      → HoldsTable view backing old offset table → l2_pins old.file.caches table ≡ 0
      → cover old.file.header.fields (known_in view old.file) (offset / cluster_size old.file.header.fields) ≡ covered
      → BeginsSoundly covered offset n overwrite out result

  -- The first cluster of a range is prepared in an L2 table, whatever mapping its guest cluster has. A pinned table refuses it (9).
  pub record FirstSoundly (table offset n : ℕ) (overwrite : Bool) (out : Mappings) (result : Result Prepared ImageError) : Type 0 where
    pub readies : Readies view backing old new out offset n overwrite result
    pub may_fail : IfErr result (MayFailAllocating (HasPinnedMapping out) (0 < l2_pins old.file.caches table)
        (IsCopiedCompressed old.file.header.fields (cover old.file.header.fields (known_in view old.file) (offset / cluster_size old.file.header.fields)) offset n overwrite) ⊥)
    pub limit : IfLimit result (IsLimited view backing [] 1 old out)
    pub kept : IfOk result (BeginsInKept old.file.header.fields offset (cover old.file.header.fields (known_in view old.file) (offset / cluster_size old.file.header.fields)))

  abbrev pub BeginsFirst : (table offset n : ℕ) → Bool → Result Prepared ImageError → Type 0
  BeginsFirst table offset n overwrite result = (out : Mappings) → ImageInvariant view backing (pending_in view backing old out) old out
      → HoldsTable view backing old offset table → FirstSoundly table offset n overwrite out result

-- ---- filling a new cluster
-- The L1 table has a place and this entry, which can hold the cluster.
pub record CanEnter (t : EntryTableView) (index cluster : ℕ) : Type 0 where
  pub within : index < entry_count t
  pub placed : IsSome t.cluster
  pub room : HasRoomIfPlaced t.cluster_bits (8 * index) t.cluster
  pub nameable : IsHostCluster t.cluster_bits cluster

module _ {S F : Type 0} (view : S → StorageView) where
  -- A part of a call that leaves the header and the list of clusters to free the same.
  pub record KeepingStep (old new : Qcow2 S F) : Type 0 where
    pub stays : ImageStays old new
    pub notes : KeepsFileNotes view old.file new.file
    pub header_cluster : PreservesHeaderCluster view old new
    pub header : new.file.header ≡ old.file.header
    pub list : ListStays old new

  -- A part that may allocate clusters: the header stays the same, except the pointer to the reftable, and the same L2 tables are cached.
  pub record AllocatingStep (old new : Qcow2 S F) : Type 0 where
    pub stays : ImageStays old new
    pub notes : KeepsFileNotes view old.file new.file
    pub header_cluster : PreservesHeaderCluster view old new
    pub header : KeepsHeader old.file.header new.file.header
    pub cached : KeepsHeldTables old.file.caches new.file.caches

  -- A part that may allocate clusters, and leaves the header's cluster the same under a condition.
  pub record AllocatingStepWhere (premise : Type 0) (old new : Qcow2 S F) : Type 0 where
    pub stays : ImageStays old new
    pub notes : KeepsFileNotes view old.file new.file
    pub header_cluster : premise → PreservesHeaderCluster view old new
    pub header : KeepsHeader old.file.header new.file.header

  -- A part that fills a cluster: it leaves the allocator, the L1 table and the cached L2 tables the same.
  pub record FillingStep (old new : Qcow2 S F) : Type 0 where
    pub stays : ImageStays old new
    pub notes : KeepsFileNotes view old.file new.file
    pub header_cluster : PreservesHeaderCluster view old new
    pub header : new.file.header ≡ old.file.header
    pub list : ListStays old new
    pub allocator : new.allocator ≡ old.allocator
    pub table : new.l1_table ≡ old.l1_table
    pub cached : KeepsHeldTables old.file.caches new.file.caches

module _ {S F : Type 0} (view : S → StorageView) (backing : F → BackingView) (old new : Qcow2 S F) where
  -- A pending cluster that no mapping has is filled with what the guest sees of the offset's guest cluster, except where the caller promised to overwrite.
  pub record FillsClusterSoundly (p : Pending) (out : Mappings) (cluster offset n : ℕ) (overwrite : Bool) (covered : L2Mapping) (result : Result (Unit {0}) ImageError) : Type 0 where
    pub image_step : InternalFillingStep view backing p p old new out
    pub fills : cover old.file.header.fields (known_in view old.file) (offset / cluster_size old.file.header.fields) ≡ covered → IfOk result (λ done. IsFilled view backing out.place old new cluster offset n overwrite)

  abbrev pub FillsPending : (cluster offset n : ℕ) → Bool → L2Mapping → Result (Unit {0}) ImageError → Type 0
  FillsPending cluster offset n overwrite covered result = (p : Pending) (out : Mappings) → ImageInvariant view backing p old out → HoldsAll view backing p out
      → 0 < p.new_data cluster → over_all new_data_by out cluster ≡ 0 → FillsClusterSoundly p out cluster offset n overwrite covered result

-- ---- reading and writing mapped ranges
-- A call that is refused before its work, or has nothing to do, changes nothing. Later refusals have one of these causes.
pub record RefusesOrSkips {S F T : Type 0} (old new : Qcow2 S F) (result : Result T ImageError) (refusal : Option ImageError) (n : ℕ) (skipped : T) (Causes : ImageError → Type 0) : Type 0 where
  pub early : IfSome refusal (λ e. (result ≡ Err e) × (new ≡ old))
  pub nothing : refusal ≡ None → n ≡ 0 → (result ≡ Ok skipped) × (new ≡ old)
  pub late : refusal ≡ None → IfErr result Causes

-- A put is also refused if the image was opened for reading (1), unless it has no bytes.
pub record RefusesPut {S F : Type 0} (old new : Qcow2 S F) (result : Result (Unit {0}) ImageError) (refusal : Option ImageError) (n : ℕ) (Causes : ImageError → Type 0) : Type 0 where
  pub early : IfSome refusal (λ e. (result ≡ Err e) × (new ≡ old))
  pub nothing : refusal ≡ None → n ≡ 0 → (result ≡ Ok tt) × (new ≡ old)
  pub read_only : 0 < n → refusal ≡ None → is_writable old ≡ false → (result ≡ Err ReadOnly) × (new ≡ old)
  pub late : refusal ≡ None → IsTrue (is_writable old) → IfErr result Causes

module _ {S F : Type 0} (view : S → StorageView) (backing : F → BackingView) (old new : Qcow2 S F) where
  -- A put leaves the header in memory and the list of clusters to free the same.
  pub record PuttingCall {T : Type 0} (result : Result T ImageError) : Type 0 where
    pub image : IsSameImage old new
    pub header : KeepsWholeHeader old new
    pub list : ListStays old new
    pub marks : MarksFailed old new result
    pub once_written : FailsOnceWritten view old new result
    pub header_cluster : PreservesHeaderCluster view old new
    pub faults : CountsImageFaults view backing old new result

  -- A lookup: guests don't see it, and the known contents stay the same. It finds the longest range that is mapped alike.
  pub record FindsSoundly (p : Pending) (out : Mappings) (offset max : ℕ) (result : Result (MappingKind × ℕ) ImageError) : Type 0 where
    pub keeps : InternalStep view backing p p old new out
    pub known : known_in view new.file ≡ known_in view old.file
    pub may_fail : IfErr result (MayFailLooking (IsCacheHeld old out))
    pub found : IfOk result (λ (kind, n). IsFoundInImage view new offset max kind n)

  abbrev pub FindsRun : (offset max : ℕ) → Result (MappingKind × ℕ) ImageError → Type 0
  FindsRun offset max result = (p : Pending) (out : Mappings) → ImageInvariant view backing p old out → FindsSoundly p out offset max result

  -- Such a lookup of a range that may lie past the size: it finds the longest range within its L2 table that is mapped alike.
  pub record FindsInTableSoundly (p : Pending) (out : Mappings) (offset max : ℕ) (result : Result (MappingKind × ℕ) ImageError) : Type 0 where
    pub keeps : InternalStep view backing p p old new out
    pub known : known_in view new.file ≡ known_in view old.file
    pub may_fail : IfErr result (MayFailLooking (IsCacheHeld old out))
    pub run : IfOk result (λ (kind, n). IsRunFrom view new offset (min max (rest_of_table new.file.header.fields offset)) kind n)

  abbrev pub FindsInTable : (offset max : ℕ) → Result (MappingKind × ℕ) ImageError → Type 0
  FindsInTable offset max result = (p : Pending) (out : Mappings) → ImageInvariant view backing p old out → FindsInTableSoundly p out offset max result

  -- A range is refused unless all of it still has this mapping.
  pub record ChecksMapped (p : Pending) (out : Mappings) (offset n : ℕ) (kind : MappingKind) (result : Result (Unit {0}) ImageError) : Type 0 where
    pub keeps : InternalStep view backing p p old new out
    pub may_fail : IfErr result (MayFailLookingAgain (IsCacheHeld old out))
    pub outdated : result ≡ Err OutdatedMapping → ¬ IsFoundWhole view old offset kind n
    pub mapped : 0 < n → IfOk result (λ done. IsMappedAs view new offset kind n)
    pub found : OnOk result (IsFoundWhole view old offset kind n)

  abbrev pub ChecksRange : (offset n : ℕ) → MappingKind → Result (Unit {0}) ImageError → Type 0
  ChecksRange offset n kind result = (p : Pending) (out : Mappings) → ImageInvariant view backing p old out → ChecksMapped p out offset n kind result

  -- A range is refused unless all of it still has this mapping; otherwise its bytes are read.
  pub record ReadsMapped (p : Pending) (out : Mappings) (offset n : ℕ) (kind : MappingKind) (bytes : List ℕ) (result : Result (Unit {0}) ImageError) : Type 0 where
    pub keeps : InternalStep view backing p p old new out
    pub may_fail : IfErr result (MayFailMapped (IsCacheHeld old out) kind (IsFoundWhole view old offset kind n))
    pub outdated : 0 < n → result ≡ Err OutdatedMapping → ¬ IsFoundWhole view old offset kind n
    pub mapped : OnOk result (IsFoundWhole view old offset kind n)
    pub shows : 0 < n → IfOk result (λ done. Shows (disk_of view backing out.place new) offset bytes)

  abbrev pub ReadsRange : (offset n : ℕ) → MappingKind → List ℕ → Result (Unit {0}) ImageError → Type 0
  ReadsRange offset n kind bytes result = (p : Pending) (out : Mappings) → ImageInvariant view backing p old out → ReadsMapped p out offset n kind bytes result

  -- A range is refused if it begins in a compressed cluster, also past the size.
  pub record ChecksPlain (p : Pending) (out : Mappings) (offset : ℕ) (result : Result (Option ℕ) ImageError) : Type 0 where
    pub keeps : InternalStep view backing p p old new out
    pub may_fail : IfErr result (λ e. MayFailLooking (IsCacheHeld old out) e ⊎ (e ≡ Compressed))
    pub reports : ReportsWhether (known_in view old.file) offset result

  abbrev pub ChecksWhether : ℕ → Result (Option ℕ) ImageError → Type 0
  ChecksWhether offset result = (p : Pending) (out : Mappings) → ImageInvariant view backing p old out → ChecksPlain p out offset result

  -- A read of a mapping is refused 10 only if its range is mapped differently by now, and succeeds only if it is not.
  pub record ReadsSoundly (out : Mappings) (image offset n : ℕ) (kind : MappingKind) (result : Result (Unit {0}) ImageError) : Type 0 where
    pub may_fail : refuses_mapping old image ≡ None → IfErr result (MayFailMapped (IsCacheHeld old out) kind (IsFoundWhole view old offset kind n))
    pub outdated : result ≡ Err OutdatedMapping → ¬ IsFoundWhole view old offset kind n
    pub mapped : 0 < n → OnOk result (IsFoundWhole view old offset kind n)

  abbrev pub ReadsMapping : (image offset n : ℕ) → MappingKind → Result (Unit {0}) ImageError → Type 0
  ReadsMapping image offset n kind result = (out : Mappings) → (abstract_of view backing old out).is_sound → ReadsSoundly out image offset n kind result

  -- A special read is refused as compressed only if the data are, and as not compressed only if they are not.
  pub record ReadsSpecially (out : Mappings) (offset n : ℕ) (result : Result (Unit {0}) ImageError) : Type 0 where
    pub may_fail : IfErr result (MayFailSpecial (IsCacheHeld old out) offset)
    pub reports : 0 < n → IfErr result (ReportsCompressed (known_in view old.file) offset)

  abbrev pub ReadsSpecial : (offset n : ℕ) → Result (Unit {0}) ImageError → Type 0
  ReadsSpecial offset n result = (out : Mappings) → (abstract_of view backing old out).is_sound → ReadsSpecially out offset n result

  pub record TriesSpecially (out : Mappings) (offset n : ℕ) (result : Result (Option ℕ) ImageError) : Type 0 where
    pub may_fail : IfErr result (λ e. MayFailLooking (IsCacheHeld old out) e ⊎ (e ≡ Compressed))
    pub reports : 0 < n → ReportsWhether (known_in view old.file) offset result

  abbrev pub TriesSpecial : (offset n : ℕ) → Result (Option ℕ) ImageError → Type 0
  TriesSpecial offset n result = (out : Mappings) → (abstract_of view backing old out).is_sound → TriesSpecially out offset n result

  -- A part of an existing mapping is refused unless it is still copied data at its place. Other mappings are not refused.
  pub record ChecksSoundly (p : Pending) (out : Mappings) (mapping : Prepared) (at host n : ℕ) (result : Result (Unit {0}) ImageError) : Type 0 where
    pub keeps : InternalStep view backing p p old new out
    pub may_fail : IfErr result (λ e. (table_of mapping ≡ None) × MayFailLookingAgain (IsCacheHeld old out) e)
    pub outdated : 0 < n → result ≡ Err OutdatedMapping → ¬ IsFoundWhole view old (mapping.guest + at) (Raw mapping.place host true) n
    pub mapped : table_of mapping ≡ None → 0 < n → IfOk result (λ done. IsMappedAs view new (mapping.guest + at) (Raw mapping.place host true) n)
    pub found : table_of mapping ≡ None → OnOk result (IsFoundWhole view old (mapping.guest + at) (Raw mapping.place host true) n)

  abbrev pub ChecksInPlace : Prepared → (at host n : ℕ) → Result (Unit {0}) ImageError → Type 0
  ChecksInPlace mapping at host n result = (p : Pending) (out : Mappings) → ImageInvariant view backing p old out → ChecksSoundly p out mapping at host n result

  -- A put into an existing mapping is refused 10 only if its range is no longer copied data at its place, and succeeds only if it still is.
  pub record FindsInPlace (mapping : Prepared) (at n : ℕ) (result : Result (Unit {0}) ImageError) : Type 0 where
    pub outdated : 0 < n → result ≡ Err OutdatedMapping → ¬ IsFoundWhole view old (mapping.guest + at) (Raw mapping.place (mapping.offset + at) true) n
    pub mapped : OnOk result (IsFoundWhole view old (mapping.guest + at) (Raw mapping.place (mapping.offset + at) true) n)

  abbrev pub PutsInPlace : Prepared → (at n : ℕ) → Result (Unit {0}) ImageError → Type 0
  PutsInPlace mapping at n result = table_of mapping ≡ None → (p : Pending) (out : Mappings) → ImageInvariant view backing p old out → FindsInPlace mapping at n result

  -- Bytes are put into a mapping that is prepared. A refusal has its cause in the image before.
  pub record PutsSoundly (out : Mappings) (k : ℕ) (mapping : Prepared) (at : ℕ) (bytes : List ℕ) (result : Result (Unit {0}) ImageError) : Type 0 where
    pub may_fail : IfErr result (MayFailPutting (IsCacheHeld old out) mapping at)
    pub puts : PutsPart view backing old new out k mapping at bytes result

  abbrev pub PutsBytes : Prepared → ℕ → List ℕ → Result (Unit {0}) ImageError → Type 0
  PutsBytes mapping at bytes result = at + length bytes ≤ mapping.length → 0 < length bytes → (out : Mappings) (k : ℕ) → slice_get out.slots k ≡ Some (Some mapping)
      → ImageInvariant view backing (pending_in view backing old out) old out → PutsSoundly out k mapping at bytes result

  -- A whole call that puts bytes into a prepared mapping. A refusal has its cause in the image before.
  pub record PutsCall (out : Mappings) (mapping : Prepared) (at n : ℕ) (result : Result (Unit {0}) ImageError) : Type 0 where
    pub may_fail : (k : ℕ) → slice_get out.slots k ≡ Some (Some mapping) → IsTrue (is_writable old) → IfErr result (MayFailPutting (IsCacheHeld old out) mapping at)
    pub outdated : table_of mapping ≡ None → result ≡ Err OutdatedMapping → ¬ IsFoundWhole view old (mapping.guest + at) (Raw mapping.place (mapping.offset + at) true) n
    pub mapped : table_of mapping ≡ None → 0 < n → OnOk result (IsFoundWhole view old (mapping.guest + at) (Raw mapping.place (mapping.offset + at) true) n)

  abbrev pub PutsInMapping : Prepared → (at n : ℕ) → Result (Unit {0}) ImageError → Type 0
  PutsInMapping mapping at n result = (out : Mappings) → (abstract_of view backing old out).is_sound → PutsCall out mapping at n result

-- ---- lookups
-- The mapping that a lookup returns: of this image, from the offset on, and no longer than asked. Below the size it has at least one byte, and past it none. Its host offset fits into 64 bits.
pub record IsLookedUp {S F : Type 0} (image : Qcow2 S F) (offset max : ℕ) (answer : Mapping × ℕ) : Type 0 where
  pub own : (answer.0.image ≡ number_of image) × (answer.0.offset ≡ offset) × (answer.0.length ≡ answer.1)
  pub within : answer.1 ≤ max
  pub some : offset < size_of image → 0 < max → 0 < answer.1
  pub past : size_of image ≤ offset → answer.1 ≡ 0
  pub whole : further_by 0 answer.0.kind ≡ answer.0.kind

-- A lookup is refused before its work only for an unusable image. At or past the size it finds the end.
pub record RefusesLookup {S F : Type 0} (old new : Qcow2 S F) (offset max : ℕ) (result : Result (Mapping × ℕ) ImageError) : Type 0 where
  pub early : IfSome (unusable old) (λ e. (result ≡ Err e) × (new ≡ old))
  pub past : unusable old ≡ None → size_of old ≤ offset → IsOk result × IfOk result (λ (mapping, n). (mapping.kind ≡ Eof) × (n ≡ 0))
  pub late : unusable old ≡ None → IfErr result (MayFailFinding old new offset max)

module _ {S F : Type 0} (view : S → StorageView) (backing : F → BackingView) (old new : Qcow2 S F) where
  -- A lookup changes nothing that is known, and finds the longest range that is mapped alike.
  pub record LooksSoundly (out : Mappings) (offset max : ℕ) (result : Result (Mapping × ℕ) ImageError) : Type 0 where
    pub may_fail : IfErr result (MayFailLooking (IsCacheHeld old out))
    pub known : known_in view new.file ≡ known_in view old.file
    pub run : IfOk result (λ (mapping, n). IsFoundIn (known_in view new.file) (is_some new.backing) offset max (found_kind mapping.kind) n)

  abbrev pub LooksUp : (offset max : ℕ) → Result (Mapping × ℕ) ImageError → Type 0
  LooksUp offset max result = (out : Mappings) → (abstract_of view backing old out).is_sound → LooksSoundly out offset max result

-- ---- preparing, and committing
-- The mapping that a prepare returns: of this image, in the file that holds guests' data. If the range has a byte, the mapping has one, and begins past the header's cluster, or lies in the data file.
pub record AnswersPrepare {S F : Type 0} (old new : Qcow2 S F) (offset n : ℕ) (result : Result Prepared ImageError) : Type 0 where
  pub own : IfOk result (λ p. image_of p ≡ number_of old)
  pub place : IfOk result (λ p. file_of p ≡ place_in new)
  pub some : IfOk result (λ p. 0 < n → 0 < length_of p)
  pub behind : IfOk result (λ p. 0 < n → IsPlacedBehind new (offset_of p))
  pub end : IfOk result (λ p. offset + n < 2 ^ 64)

-- A prepare that is refused before its work changes nothing, and one of no bytes prepares a mapping of nothing.
pub record RefusesPrepare {S F : Type 0} (old new : Qcow2 S F) (offset n : ℕ) (result : Result Prepared ImageError) : Type 0 where
  pub early : IfSome (refuses_to_prepare old offset n) (λ e. (result ≡ Err e) × (new ≡ old))
  pub nothing : refuses_to_prepare old offset 0 ≡ None → n ≡ 0 → IsOk result × IfOk result IsOfNothing × (new ≡ old)
  pub late : refuses_to_prepare old offset n ≡ None → IfErr result (MayFailPreparing new)

module _ {S F : Type 0} (view : S → StorageView) (backing : F → BackingView) (old new : Qcow2 S F) where
  -- A range is prepared. Each refusal has its cause in the image before; a limit (13) was passed at some state within the call. It frees the clusters on the list, except after a fault and after 9. The mapping matches the mappings of its clusters, and an existing one leaves no more clusters to free.
  pub record PreparesCall (out : Mappings) (offset n : ℕ) (overwrite : Bool) (result : Result Prepared ImageError) : Type 0 where
    pub may_fail : refuses_to_prepare old offset n ≡ None → 0 < n → IfErr result (MayFailAllocating (HasPinnedMapping out) (IsTaken old.file.header.fields (known_in view old.file) offset n out)
        (CopiesCompressed offset n overwrite old.file.header.fields (known_in view old.file)) (NeedsOverflowingL1Entry old offset))
    pub limit : refuses_to_prepare old offset n ≡ None → 0 < n → IfLimit result (IsLimited view backing [] (offset + 1) old out)
    pub taken : refuses_to_prepare old offset n ≡ None → IfErr result (λ e. e ≡ TablePrepared → IsTaken old.file.header.fields (known_in view old.file) offset n out)
    pub freed : refuses_to_prepare old offset n ≡ None → 0 < n → IfErr result (FreesRefused new)
    pub freeing : IfOk result (λ p. IsNone (table_of p) → ListsNoMore old new)
    pub maps : 0 < n → IfOk result (λ p. IsAnswered old.file.header.fields (known_in view old.file) offset n new.file.header.fields (known_in view new.file) p (meaning view backing out.place new p))

  abbrev pub PreparesMapping : (offset n : ℕ) → Bool → Result Prepared ImageError → Type 0
  PreparesMapping offset n overwrite result = (out : Mappings) → (abstract_of view backing old out).is_sound → PreparesCall out offset n overwrite result

  -- A commit: the header and the size of the disk stay the same. The image is marked as failed by the rule, and each change and each fault is counted.
  pub record CommitCall (result : Result (Unit {0}) CommitRefused) : Type 0 where
    pub image : IsSameImage old new
    pub header : KeepsWholeHeader old new
    pub marks : MatchResult result (λ done. is_failed new ≡ is_failed old) (λ r. MarksRefused old new (reason_of r))
    pub once_written : CommitFailsOnceWritten view old new result
    pub header_cluster : PreservesHeaderCluster view old new
    pub faults : NoFewerFaults view backing old new × IfErr result (λ r. ReportsFault view backing old new (reason_of r)) × ReportsEachBy view backing reason_of old new result

  -- A commit is refused before its work for a mapping of another image (11), and on a failed image (16). A mapping that a refusal returns is unchanged.
  pub record RefusesCommit (p : Prepared) (result : Result (Unit {0}) CommitRefused) : Type 0 where
    pub foreign : image_of p ≢ number_of old → (result ≡ Err (Kept ForeignState p)) × (new ≡ old)
    pub failed : image_of p ≡ number_of old → IsTrue (is_failed old) → (result ≡ Err (Kept Failed p)) × (new ≡ old)
    pub kept : IfErr result (IsHandedBackBy p)
    pub late : image_of p ≡ number_of old → is_failed old ≡ false → IfErr result (λ r. IsFaultOrLimit (reason_of r))

  -- A committed mapping is copied data at its place. An existing one leaves the list of clusters to free the same.
  pub record CommitsSoundly (p : Prepared) (result : Result (Unit {0}) CommitRefused) : Type 0 where
    pub copied : IsSome (table_of p) → OnOk result (AreDataAt new.file.header.fields (known_in view new.file) true (guest_offset_of p) (offset_of p) (length_of p))
    pub freeing : IsNone (table_of p) → OnOk result (ListStays old new)

  abbrev pub CommitsMapping : Prepared → Result (Unit {0}) CommitRefused → Type 0
  CommitsMapping p result = (out : Mappings) (k : ℕ) → slice_get out.slots k ≡ Some (Some p) → (abstract_of view backing old out).is_sound → CommitsSoundly p result

-- ---- refusals after clusters were freed
-- The refusal to report after the clusters on the list were freed. Nothing is freed after a fault, and if no cluster waits.
pub record RefusesAfter {S F : Type 0} (old new : Qcow2 S F) (refusal result : ImageError) : Type 0 where
  pub cause : MayFailPreparing old refusal → MayFailPreparing new result
  pub taken : MayFailPreparing old refusal → result ≡ TablePrepared → refusal ≡ TablePrepared
  pub fault : IsFault refusal → (result ≡ refusal) × (new ≡ old)
  pub idle : HasNothingToFree old → (result ≡ refusal) × (new ≡ old)

-- ---- new clusters
module _ {S F : Type 0} (view : S → StorageView) (backing : F → BackingView) (old new : Qcow2 S F) where
  -- A cluster is allocated for data, as `Takes` says. A refusal is a fault or a limit.
  pub record AllocatesDataSoundly {T : Type 0} (p : Pending) (out : Mappings) (result : Result T ImageError) (Takes : Type 0) : Type 0 where
    pub takes : Takes
    pub fault : IfErr result IsFaultOrLimit
    pub limit : IfLimit result (IsLimitedTaking view backing p 1 old out)

  abbrev pub AllocatesOne : Result ClustersToFreeEntry ImageError → Type 0
  AllocatesOne result = (p : Pending) (out : Mappings) → ImageInvariant view backing p old out → HoldsAll view backing p out → AllocatesDataSoundly p out result (AllocatesData view backing p old new out result)

  abbrev pub AllocatesAt : ℕ → Result (Option ClustersToFreeEntry) ImageError → Type 0
  AllocatesAt cluster result = (p : Pending) (out : Mappings) → ImageInvariant view backing p old out → HoldsAll view backing p out → AllocatesDataSoundly p out result (AllocatesDataAt view backing p old new out cluster result)

  -- A cluster is allocated and filled for an offset whose guest cluster has this mapping.
  abbrev pub GainsCluster : (offset n : ℕ) → Bool → L2Mapping → Result ClustersToFreeEntry ImageError → Type 0
  GainsCluster offset n overwrite covered result = (p : Pending) (out : Mappings) → ImageInvariant view backing p old out → HoldsAll view backing p out
      → FillsSoundly view backing p covered offset n overwrite old new out result (Gains view backing p old new out offset n overwrite covered result)

  abbrev pub GainsClusterAt : (cluster offset n : ℕ) → Bool → L2Mapping → Result (Option ClustersToFreeEntry) ImageError → Type 0
  GainsClusterAt cluster offset n overwrite covered result = (p : Pending) (out : Mappings) → ImageInvariant view backing p old out → HoldsAll view backing p out
      → FillsSoundly view backing p covered offset n overwrite old new out result (GainsAt view backing p old new out offset n overwrite covered cluster result)

  -- A guest cluster gets a mapping to a host offset, if it can have one.
  pub record SharesSoundly (p : Pending) (out : Mappings) (host offset n : ℕ) (overwrite : Bool) (covered : L2Mapping) (result : Result (Option ClusterMapping) ImageError) : Type 0 where
    pub clusters : host % cluster_size old.file.header.fields ≡ 0 → ClusterMappingsAt view backing p old new out offset n overwrite covered host result
    pub may_fail : host % cluster_size old.file.header.fields ≡ 0 → IfErr result (MayFailAlone (IsCopiedCompressed old.file.header.fields covered offset n overwrite) ⊥)
    pub limit : IfLimit result (IsLimitedTaking view backing p 1 old out)

  abbrev pub SharesCluster : (host offset n : ℕ) → Bool → L2Mapping → Result (Option ClusterMapping) ImageError → Type 0
  SharesCluster host offset n overwrite covered result = (p : Pending) (out : Mappings) → ImageInvariant view backing p old out → HoldsAll view backing p out → SharesSoundly p out host offset n overwrite covered result

  -- An L2 table is loaded into the cache: guests don't see it, and clusters of new data have the same bytes. It is refused by a fault, or if the cache is full of pinned tables.
  pub record LoadsSoundly (p : Pending) (out : Mappings) (table : ℕ) (result : Result (Unit {0}) ImageError) : Type 0 where
    pub keeps : InternalStep view backing p p old new out
    pub contents : SameHeld view backing p old new
    pub may_fail : HasPlace old.file.header.fields.cluster_bits table → IfErr result (MayFailLooking (HasPinnedMapping out))

  abbrev pub LoadsTable : ℕ → Result (Unit {0}) ImageError → Type 0
  LoadsTable table result = (p : Pending) (out : Mappings) → ImageInvariant view backing p old out → LoadsSoundly p out table result
