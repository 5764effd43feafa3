-- Resizing: the tail is unmapped, or the L1 table made longer, and the size is written last.
use Rattle.qcow2_image.specs.declared.mapping.Place.{Place}
use Rattle.std.specs.Prelude.{ℕ, ◌+◌, ◌-◌, ◌^◌, ◌≡◌, ◌↔◌, ◌⊎◌, ◌<◌, ◌≤◌, Bool, false, is_some, not, true, List, [], ◌∷◌, Option, Some, None, IfErr, IfOk, IfSome, IsTrue, MatchOption, OnOk, Result, Ok, Err}
use Rattle.std.specs.Option.{option_or}
use Rattle.image_access.specs.Backing.{BackingView}
use Rattle.image_access.specs.Moments.{StorageView, EachMomentSince}
use Rattle.image_access.specs.declared.storage.PreallocateMode.{PreallocateMode}
use Rattle.image_access.specs.declared.storage.PreallocateMode.TheVariants as Mode
use Rattle.qcow2_metadata.specs.Bytes.{byte_at}
use Rattle.qcow2_metadata.specs.Header.{header, cluster_size, rounded_up}
use Rattle.qcow2_disk.specs.AbstractImages.{guest_of}
use Rattle.qcow2_disk.specs.Calls.{AnsweredEffect, RefusedEffect, EffectOnSound, IsSame, IsShrinkEnd, IsShrunk, MayGrow, cleared, given_by_grow, given_by_shrink, given_by_shrunk, grown_to, shows_old, to_backing, with_disk}
use Rattle.qcow2_disk.specs.Disk.{Disk}
use Rattle.qcow2_disk.specs.GrownCovers.{GrownCovers}
use Rattle.qcow2_disk.specs.Stops.{GivenBytes}
use Rattle.qcow2_alloc.specs.ImageError.{IsFault as IsFaultOfTables}
use Rattle.qcow2_alloc.specs.ImageFile.{known_in, view_in}
use Rattle.qcow2_alloc.specs.Limits.{IsFaultOr}
use Rattle.qcow2_alloc.specs.declared.error.ImageError.{ImageError}
use Rattle.qcow2_alloc.specs.declared.error.ImageError.TheVariants as I
use Rattle.qcow2_image.specs.Backings.{HasPinnedMapping}
use Rattle.qcow2_image.specs.BehindHeader.{PreservesHeaderCluster}
use Rattle.qcow2_image.specs.CallParts.{InternalCall}
use Rattle.qcow2_image.specs.Calls.{refusal_of}
use Rattle.qcow2_image.specs.Clearing.{ClearsImageCovers, RefusesUngiven, given_bytes_between, setting_of}
use Rattle.qcow2_image.specs.declared.discarding.ClearMode.TheVariants.{Uncovered}
use Rattle.qcow2_image.specs.declared.image.Qcow2.{Qcow2}
use Rattle.qcow2_image.specs.declared.prepared.Prepared.{Prepared}
use Rattle.qcow2_image.specs.Faults.{CountsImageFaults, NoFewerFaults, ReportsEachIn, ReportsFault}
use Rattle.qcow2_image.specs.Growing.{ReachesSize, SameFormat, LastsCall}
use Rattle.qcow2_image.specs.Image.{HasNothingToFree, IsSameImage, is_beside, lacks_data_file, is_failed, is_writable, number_of, size_of}
use Rattle.qcow2_image.specs.ImageInvariant.{ImageInvariant, abstract_of, disk_of, pending_in, Mappings}
use Rattle.qcow2_image.specs.L1Entries.{NeedsOverflowingL1Entry, ReachesOffset}
use Rattle.qcow2_image.specs.Limits.{IsLimited}
use Rattle.qcow2_image.specs.MovedTables.{CoversStay}
use Rattle.qcow2_image.specs.NewTables.{LacksTable}
use Rattle.qcow2_image.specs.Noted.{ChangesRose, RecordsChanges, RecordsPart}
use Rattle.qcow2_image.specs.Image.{HasPinnedTable}
use Rattle.qcow2_image.specs.Preallocation.{GrownFree, IsUnderMappingIn}
use Rattle.qcow2_image.specs.Refusals.{MarksFailed, MarksRefused, refuse_if, unusable}

-- The size after a resize: the requested one, or the old one if it was refused.
abbrev pub size_after : {A : Type 0} → Result A ImageError → (old asked : ℕ) → ℕ
size_after (Ok _) old asked = asked
size_after (Err e) old asked = old

module _ {S F : Type 0} where
  -- Why a resize is refused, in this order: an unusable image, an image opened for reading.
  abbrev pub refuses_to_resize : Qcow2 S F → Option ImageError
  refuses_to_resize image = option_or (unusable image) (refuse_if (not (is_writable image)) I.ReadOnly)

  -- The image is the same one, and its disk has this size.
  pub record IsResized (size : ℕ) (old new : Qcow2 S F) : Type 0 where
    pub number : number_of new ≡ number_of old
    pub size_is : size_of new ≡ size
    pub writable : is_writable new ≡ is_writable old
    pub lacks : lacks_data_file new ≡ lacks_data_file old
    pub beside : is_beside new ≡ is_beside old

  -- The mode allocates clusters, and there is a backing disk.
  abbrev pub takes_over : Qcow2 S F → PreallocateMode → Bool
  takes_over image Mode.None = false
  takes_over image Mode.Zero = false
  takes_over image mode = is_some image.backing

  -- The image's version is below 3, so it has no zero clusters.
  abbrev pub LacksZeros : Qcow2 S F → Type 0
  LacksZeros image = image.file.header.fields.version < 3

  -- The first cluster boundary at or after an offset.
  abbrev pub boundary_in : Qcow2 S F → ℕ → ℕ
  boundary_in image offset = rounded_up (cluster_size image.file.header.fields) offset

-- Why a shrink is refused after its checks: a fault, or prepared mappings (17). With 17 nothing changed, and on a sound image a mapping is pinned.
pub record MayFailShrinking {S F : Type 0} (view : S → StorageView) (backing : F → BackingView) (old new : Qcow2 S F) (e : ImageError) : Type 0 where
  pub cause : IsFaultOfTables e ⊎ (e ≡ I.MappingPrepared)
  pub same : e ≡ I.MappingPrepared → new ≡ old
  pub prepared : e ≡ I.MappingPrepared → (out : Mappings) → (abstract_of view backing old out).is_sound → HasPinnedMapping out

-- Where a step of a shrink ends: at the end of the disk, or at an earlier cluster boundary, with at least one whole cluster in between.
pub record IsTurnEnd (cluster_size end at next : ℕ) : Type 0 where
  pub on : at < next
  pub within : next ≤ end
  pub whole : (next ≡ end) ⊎ ((rounded_up cluster_size next ≡ next) × (rounded_up cluster_size at < next))

module _ {S F : Type 0} (view : S → StorageView) where
  -- Why the tail is not unmapped from an offset on: the disk's end, rounded up, passes 64 bits; or the first whole cluster has no L2 table of its own.
  abbrev pub CantDiscard : (end : ℕ) → Qcow2 S F → ℕ → Type 0
  CantDiscard end image offset = (2 ^ 64 ≤ boundary_in image end) ⊎ LacksTable view image (boundary_in image offset)

  -- Each guest cluster between the two offsets, both rounded up, is unmapped. All other mappings are the same.
  abbrev pub DiscardsClusters : (at next : ℕ) → Qcow2 S F → Qcow2 S F → Type 0
  DiscardsClusters at next old new = ClearsImageCovers Uncovered (boundary_in old at) (boundary_in old next) old.file.header.fields (known_in view old.file) new.file.header.fields (known_in view new.file)

module _ {S F : Type 0} (view : S → StorageView) (backing : F → BackingView) where
  -- The size is written last: every moment before has the old size.
  abbrev pub WritesSizeLast : Qcow2 S F → Qcow2 S F → Type 0
  WritesSizeLast old new = EachMomentSince (view_in view old.file) (view_in view new.file) (λ c. ((header (byte_at c)).size ≡ size_of old) ⊎ (c ≡ (view_in view new.file).contents))

  -- A growth writes the size last. If the mode shows the old bytes, a stop is as safe as before over every disk below, not only over the image's own.
  pub record GrowsLast (mode : PreallocateMode) (size : ℕ) (old new : Qcow2 S F) (result : Result (Unit {0}) ImageError) : Type 0 where
    pub last : WritesSizeLast old new
    pub lasts : shows_old mode ≡ true → LastsCall view (size ∷ []) old new result

  -- What a shrink may give; and what it gives if it unmapped the tail up to an offset.
  abbrev pub all_given_by_shrink : Place → Qcow2 S F → ℕ → List GivenBytes
  all_given_by_shrink place image size = given_by_shrink (setting_of view backing image) (disk_of view backing place image) size ∷ []

  abbrev pub all_given_by_shrunk : Place → Qcow2 S F → (size answer : ℕ) → List GivenBytes
  all_given_by_shrunk place image size answer = given_by_shrunk (setting_of view backing image) (disk_of view backing place image) size answer ∷ []

  -- The disk has this size, and its tail is unmapped up to the returned offset; or the shrink was refused.
  abbrev pub Shrinks : Qcow2 S F → Qcow2 S F → ℕ → Result ℕ ImageError → Type 0
  Shrinks old new size (Ok answer) = (out : Mappings) → let v = abstract_of view backing old out in let w = abstract_of view backing new out in
      AnsweredEffect v w (all_given_by_shrunk out.place old size answer) (size ∷ []) ((d : Disk) × IsShrunk v.setting (guest_of v).disk size answer d × (guest_of w ≡ with_disk (guest_of v) d))
  Shrinks old new size (Err e) = (out : Mappings) → let v = abstract_of view backing old out in let w = abstract_of view backing new out in
      RefusedEffect v w (all_given_by_shrink out.place old size) (size ∷ []) (refusal_of e) (IsSame v w)

  -- What a growth gives: zeros past the old end, if the mode asks for them.
  abbrev pub all_given_by_grow : Place → Qcow2 S F → ℕ → PreallocateMode → List GivenBytes
  all_given_by_grow place image size mode = given_by_grow (setting_of view backing image) (disk_of view backing place image) size mode

  -- The disk has this size; or the growth was refused, and then bytes past its end may be zeros, if the mode asks for them.
  abbrev pub GrowsTo : Qcow2 S F → Qcow2 S F → ℕ → PreallocateMode → Result (Unit {0}) ImageError → Type 0
  GrowsTo old new size mode (Ok _) = (out : Mappings) → let v = abstract_of view backing old out in let w = abstract_of view backing new out in
      AnsweredEffect v w (all_given_by_grow out.place old size mode) (size ∷ []) (guest_of w ≡ with_disk (guest_of v) (grown_to v.setting (guest_of v).disk size mode))
  GrowsTo old new size mode (Err e) = (out : Mappings) → let v = abstract_of view backing old out in let w = abstract_of view backing new out in
      RefusedEffect v w (all_given_by_grow out.place old size mode) (size ∷ []) (refusal_of e) ((d : Disk) × MayGrow v.setting (guest_of v).disk size mode d × (guest_of w ≡ with_disk (guest_of v) d))

  -- A refused call changes no byte of the disk.
  abbrev pub RefusesUnchanged : Qcow2 S F → Qcow2 S F → Mappings → ImageError → Type 0
  RefusesUnchanged old new out e = RefusedEffect (abstract_of view backing old out) (abstract_of view backing new out) [] [] (refusal_of e) (IsSame (abstract_of view backing old out) (abstract_of view backing new out))

  -- The tables after a growth: a header of the same format; an L1 table that covers every byte, and is no longer than the old one or the new size needs; and the mappings that the mode asks for. No cluster waits to be freed.
  -- With `Zero`, the image has zero clusters. With every mode but `None`, no mapping is pinned in the L2 table of an entry past the old end that had to change.
  pub record LeavesTables (mode : PreallocateMode) (size : ℕ) (old new : Qcow2 S F) (out : Mappings) : Type 0 where
    pub format : SameFormat old.file.header.fields new.file.header.fields
    pub autoclear : new.file.header.fields.autoclear ≡ old.file.header.fields.autoclear
    pub reaches : ReachesSize new.file.header.fields
    pub length : ReachesOffset (size - 1) old.file.header.fields new.file.header.fields
    pub covers : GrownCovers mode (size_of old) size old.file.header.fields (known_in view old.file) new.file.header.fields (known_in view new.file)
    pub emptied : HasNothingToFree new
    pub zeros : mode ≡ Mode.Zero → ¬ LacksZeros old
    pub free : GrownFree mode (size_of old) size old.file.header.fields (known_in view old.file) out

  -- A growth is refused 9 only if zeros are asked for, and a mapping is pinned in an L2 table past the old end.
  -- With `Zero` on an image without zero clusters, no byte changes. It is refused for its version (3), unless a fault came first, or there is no L1 table that is long enough.
  pub record RefusesTables (mode : PreallocateMode) (size : ℕ) (old new : Qcow2 S F) (out : Mappings) (e : ImageError) : Type 0 where
    pub taken : e ≡ I.TablePrepared → (shows_old mode ≡ false) × IsUnderMappingIn old.file.header.fields (size_of old) (boundary_in old size) out
    pub zeros : mode ≡ Mode.Zero → LacksZeros old → RefusesUnchanged old new out e
    pub version : mode ≡ Mode.Zero → LacksZeros old → (e ≡ I.Version) ⊎ IsFaultOr (IsLimited view backing [] size old out) e

  -- The tables after a growth or a refused one.
  abbrev pub GrowsTables : Qcow2 S F → Qcow2 S F → ℕ → PreallocateMode → Mappings → Result (Unit {0}) ImageError → Type 0
  GrowsTables old new size mode out (Ok _) = LeavesTables mode size old new out
  GrowsTables old new size mode out (Err e) = RefusesTables mode size old new out e

  -- ---- parts of the work

  -- Why the next cluster is not unmapped: the disk's end, rounded up, passes 64 bits; or a new L2 table is refused, for a limit (13) or an L1 entry past 64 bits (20).
  abbrev pub RefusesDiscard : Qcow2 S F → (at : ℕ) → Mappings → Type 0
  RefusesDiscard image at out = (2 ^ 64 ≤ boundary_in image (size_of image)) ⊎ (IsLimited view backing [] (boundary_in image at + 1) image out ⊎ NeedsOverflowingL1Entry image (boundary_in image at))

  -- A refused step of a shrink is a fault, or the next cluster can't be unmapped.
  abbrev pub StopsStep : (at : ℕ) → Qcow2 S F → Qcow2 S F → Mappings → ImageError → Type 0
  StopsStep at old new out e = IsFaultOfTables e ⊎ (CantDiscard view (size_of old) new at × RefusesDiscard old at out)

  -- The whole clusters from one offset up to another show the backing disk.
  abbrev pub ShowsBelow : (at next : ℕ) → Qcow2 S F → Qcow2 S F → Mappings → Type 0
  ShowsBelow at next old new out = guest_of (abstract_of view backing new out) ≡ with_disk (guest_of (abstract_of view backing old out)) (cleared (setting_of view backing old) (disk_of view backing out.place old) to_backing (boundary_in old at) (boundary_in old next))

  -- The clusters between two offsets are unmapped.
  pub record DiscardsPart (at next : ℕ) (old new : Qcow2 S F) (out : Mappings) : Type 0 where
    pub works : EffectOnSound (abstract_of view backing old out) (abstract_of view backing new out) (given_bytes_between view backing out.place old Uncovered (boundary_in old at) (boundary_in old next)) []
    pub sound : ImageInvariant view backing (pending_in view backing new out) new out
    pub shows : ShowsBelow at next old new out
    pub covers : DiscardsClusters view at next old new

  -- Why the tail is unmapped only up to an offset: a step from there on was refused, at an image that had all of it unmapped up to there.
  pub record StopsAt (size at : ℕ) (old new : Qcow2 S F) (out : Mappings) : Type 0 where
    pub cant : CantDiscard view (size_of old) new at
    pub before : Qcow2 S F
    pub unmapped : DiscardsPart size at old before out
    pub refused : RefusesDiscard before at out

  -- One step of a shrink.
  abbrev pub DiscardsNext : Qcow2 S F → Qcow2 S F → ℕ → Result ℕ ImageError → Type 0
  DiscardsNext old new at (Ok next) = (out : Mappings) → ImageInvariant view backing (pending_in view backing old out) old out → DiscardsPart at next old new out × IsTurnEnd (cluster_size old.file.header.fields) (size_of old) at next
  DiscardsNext old new at (Err e) =
      ((out : Mappings) → let v = abstract_of view backing old out in let w = abstract_of view backing new out in
      RefusedEffect v w (given_bytes_between view backing out.place old Uncovered (boundary_in old at) (boundary_in old (size_of old))) [] (refusal_of e) (IsSame v w))
      × RefusesUngiven view backing old new e

  -- All steps of a shrink: the tail is unmapped up to an offset. If a fault ended them, the image failed, unless memory ran out before the last step changed anything.
  abbrev pub DiscardsTail : Qcow2 S F → Qcow2 S F → (size at : ℕ) → Option ImageError → Mappings → Type 0
  DiscardsTail old new size at None out =
      DiscardsPart size at old new out × IsShrinkEnd (cluster_size old.file.header.fields) (size_of old) size at
  DiscardsTail old new size at (Some e) out =
      EffectOnSound (abstract_of view backing old out) (abstract_of view backing new out) (given_bytes_between view backing out.place old Uncovered (boundary_in old size) (boundary_in old (size_of old))) []
      × ((ImageInvariant view backing (pending_in view backing new out) new out × ShowsBelow size at old new out × IsShrinkEnd (cluster_size old.file.header.fields) (size_of old) size at) ⊎ IsTrue (is_failed new))

  -- A step of a shrink, whatever the image contains: it is the same image, marked as failed by the rule. Its changes are recorded and counted, the header's cluster stays the same, and each fault is reported.
  pub record TurnStep (old new : Qcow2 S F) (result : Result ℕ ImageError) : Type 0 where
    pub image : IsSameImage old new
    pub marks : MarksFailed old new result
    pub since : RecordsPart view old new
    pub header_cluster : PreservesHeaderCluster view old new
    pub faults : CountsImageFaults view backing old new result

  -- What a step of a shrink does from an offset on. If it succeeded, a change was counted if the step passed a cluster boundary, and no cluster waits to be freed if none did before or a whole cluster was unmapped.
  -- If nothing refuses a resize and no mapping is pinned, a refused step is a fault, or the next cluster can't be unmapped.
  pub record DiscardsStep (at : ℕ) (old new : Qcow2 S F) (result : Result ℕ ImageError) : Type 0 where
    pub on : IfOk result (λ next. (at < next) × (next ≤ size_of old))
    pub uncovers : DiscardsNext old new at result
    pub stops : refuses_to_resize old ≡ None → (out : Mappings) → (abstract_of view backing old out).is_sound → (HasPinnedMapping out → ⊥) → IfErr result (StopsStep at old new out)
    pub changed : (out : Mappings) → ImageInvariant view backing (pending_in view backing old out) old out → IfOk result (λ next. boundary_in old at < next → ChangesRose old new)
    pub emptied : (out : Mappings) → ImageInvariant view backing (pending_in view backing old out) old out → OnOk result ((boundary_in old at < size_of old) ⊎ HasNothingToFree old → HasNothingToFree new)

  -- All steps of a shrink, whatever the image contains. If they end with a refusal, it is a fault.
  pub record TailStep (stopped : Option ImageError) (old new : Qcow2 S F) : Type 0 where
    pub image : IsSameImage old new
    pub cause : IfSome stopped IsFaultOfTables
    pub marks : MatchOption stopped (is_failed new ≡ is_failed old) (MarksRefused old new)
    pub since : RecordsChanges view old new
    pub header_cluster : PreservesHeaderCluster view old new
    pub faults : NoFewerFaults view backing old new × IfSome stopped (ReportsFault view backing old new) × ReportsEachIn view backing old new stopped

  -- What all steps of a shrink do to a sound image up to an offset. A change was counted if they passed a cluster boundary. If no fault ended them before the disk's end, the next cluster can't be unmapped. No cluster waits to be freed if a whole one lay past the new end.
  pub record DiscardsSoundly (size at : ℕ) (stopped : Option ImageError) (old new : Qcow2 S F) (out : Mappings) : Type 0 where
    pub uncovers : DiscardsTail old new size at stopped out
    pub stops : refuses_to_resize old ≡ None → (HasPinnedMapping out → ⊥) → stopped ≡ None → at < size_of old → StopsAt size at old new out
    pub emptied : IsTrue (is_writable old) → stopped ≡ None → boundary_in old size < size_of old → HasNothingToFree new
    pub changed : boundary_in old size < at → ChangesRose old new

  -- A refused write of the size: if the storage failed, the new size may be on it.
  pub record MayStand (old new : Qcow2 S F) (out : Mappings) (size : ℕ) (e : ImageError) : Type 0 where
    pub fault : e ≡ I.Storage
    pub works : EffectOnSound (abstract_of view backing old out) (abstract_of view backing (record new { is_failed = true }) out) [] (size ∷ [])

  -- The disk has another size, and otherwise shows the same. Every mapping is the same.
  pub record SetsSize (size : ℕ) (old new : Qcow2 S F) (out : Mappings) : Type 0 where
    pub works : EffectOnSound (abstract_of view backing old out) (abstract_of view backing new out) [] (size ∷ [])
    pub sound : ImageInvariant view backing (pending_in view backing new out) new out
    pub shows : guest_of (abstract_of view backing new out) ≡ with_disk (guest_of (abstract_of view backing old out)) (record (disk_of view backing out.place old) { size = size })
    pub covers : CoversStay old.file.header.fields (known_in view old.file) new.file.header.fields (known_in view new.file)

  -- An offset before the disk's end is returned only where a step from there on was refused. If a whole cluster lay past the new end, no cluster waits to be freed.
  pub record EndsTail (out : Mappings) (old new : Qcow2 S F) (size answer : ℕ) : Type 0 where
    pub stops : answer < size_of old → StopsAt size answer old new out
    pub emptied : boundary_in old size < size_of old → HasNothingToFree new

  -- A shrink is refused 17 exactly while an L2 table is pinned, which it is while a mapping is prepared that isn't existing. Nothing changes then.
  pub record RefusesPinned (old new : Qcow2 S F) (result : Result ℕ ImageError) : Type 0 where
    pub prepared : (out : Mappings) → (abstract_of view backing old out).is_sound → HasPinnedMapping out → (result ≡ Err I.MappingPrepared) × (new ≡ old)
    pub pinned : (result ≡ Err I.MappingPrepared) ↔ HasPinnedTable old

  -- What a shrink does to a sound image. The clusters up to the returned offset are unmapped. The size is the last write.
  pub record ShrinksSoundly (size : ℕ) (old new : Qcow2 S F) (out : Mappings) (result : Result ℕ ImageError) : Type 0 where
    pub covers : IfOk result (λ answer. DiscardsClusters view size answer old new)
    pub stops : IfOk result (EndsTail out old new size)
    pub last : WritesSizeLast old new

  abbrev pub WritesSize : Qcow2 S F → Qcow2 S F → Mappings → ℕ → Result (Unit {0}) ImageError → Type 0
  WritesSize old new out size (Ok _) = SetsSize size old new out
  WritesSize old new out size (Err e) = InternalCall view backing old new out ⊎ MayStand old new out size e
