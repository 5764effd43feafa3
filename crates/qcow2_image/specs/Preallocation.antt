-- Preallocation: zeros are put past the end of a disk before its size grows.
use Rattle.qcow2_image.specs.declared.mapping.Place.{Place}
use Rattle.std.specs.Prelude.{ℕ, ◌+◌, ◌-◌, ◌*◌, ◌%◌, ◌^◌, ◌≡◌, ◌⊎◌, ◌<◌, ◌≤◌, List, [], ◌∷◌, length, replicate, Option, Result, Ok, Err, None, true, false, IsSome, IsTrue, if◌then◌else◌}
use Rattle.image_access.specs.Backing.{BackingView}
use Rattle.image_access.specs.Moments.{StorageView}
use Rattle.image_access.specs.declared.storage.PreallocateMode.{PreallocateMode}
use Rattle.qcow2_metadata.specs.Bytes.{Bytes}
use Rattle.qcow2_metadata.specs.Cover.{cover}
use Rattle.qcow2_metadata.specs.declared.header.HeaderFields.{HeaderFields}
use Rattle.qcow2_metadata.specs.Guest.{known_byte}
use Rattle.qcow2_metadata.specs.Header.{cluster_size, rounded_up}
use Rattle.qcow2_disk.specs.AbstractImages.{guest_of}
use Rattle.qcow2_disk.specs.Alike.{AreDataAt}
use Rattle.qcow2_disk.specs.Calls.{MayGrow, EffectOnSound, given_by_grow, shows_old, with_disk, with_slot}
use Rattle.qcow2_disk.specs.Disk.{Disk, zeroed_between}
pub use Rattle.qcow2_disk.specs.GrownCovers.{Touches, FilledCovers, GrownCovers, first_zeros}
use Rattle.qcow2_disk.specs.Mappings.{committed, given_by_commit, is_copied_data}
use Rattle.qcow2_disk.specs.Stops.{GivenBytes}
use Rattle.qcow2_alloc.specs.ImageError.{IsFault as IsFaultOfTables}
use Rattle.qcow2_alloc.specs.declared.error.ImageError.{ImageError}
use Rattle.qcow2_alloc.specs.declared.error.ImageError.TheVariants as I
use Rattle.qcow2_image.specs.declared.image.Qcow2.{Qcow2}
use Rattle.qcow2_image.specs.declared.preallocation.ZeroWrites.{ZeroWrites}
use Rattle.qcow2_image.specs.declared.preallocation.ZeroWrites.TheVariants.{Short, Taken, Plain}
use Rattle.qcow2_image.specs.declared.prepared.Prepared.{Prepared}
use Rattle.qcow2_image.specs.CallParts.{AreCopied, StaysBeside}
use Rattle.qcow2_image.specs.Clearing.{IsUnderMapping, setting_of}
use Rattle.qcow2_image.specs.Image.{size_of, has_noted_change}
use Rattle.qcow2_image.specs.ImageInvariant.{ImageInvariant, abstract_of, disk_of, meaning, pending_in, Mappings}
use Rattle.qcow2_image.specs.L1Entries.{ReachingStays}
use Rattle.qcow2_image.specs.Limits.{IsLimited}
use Rattle.qcow2_image.specs.MovedTables.{CoversStay, MovesTables}
use Rattle.qcow2_alloc.specs.ImageFile.{known_in}

-- Zeros from one offset up to another.
abbrev pub given_by_zeros : (from to : ℕ) → GivenBytes
given_by_zeros from to = record { from = from; count = to - from; value = λ i. known_byte 0 }

-- Bytes between the two offsets may be zeros now. All others are the same.
pub record MayBeZero (from to : ℕ) (old new : Disk) : Type 0 where
  pub size : new.size ≡ old.size
  pub values : (o : ℕ) → (new.value o ≡ old.value o) ⊎ ((from ≤ o) × (o < to) × (new.value o ≡ known_byte 0))

-- The disk with zeros from its end to the end of the last cluster of a larger size, unless the old bytes are to show.
abbrev pub filled_to : ℕ → Disk → ℕ → PreallocateMode → Disk
filled_to size_of_cluster d size mode = if shows_old mode then d else zeroed_between d d.size (rounded_up size_of_cluster size)

-- A mapping is pinned in the L2 table of some offset of the range.
pub record IsUnderMappingIn (h : HeaderFields) (from to : ℕ) (out : Mappings) : Type 0 where
  pub offset : ℕ
  pub low : from ≤ offset
  pub high : offset < to
  pub under : IsUnderMapping h offset out

-- In a range that is filled, no mapping is pinned in the L2 table of a guest cluster whose entry must change. An entry must change if it is to be a zero entry (from `first` on), or is not copied data.
abbrev pub ChangesFree : (size_of_cluster first from to : ℕ) → HeaderFields → Bytes → Mappings → Type 0
ChangesFree size_of_cluster first from to h known out =
    (g : ℕ) → Touches size_of_cluster from to g → (first ≤ g * size_of_cluster) ⊎ (is_copied_data (cover h known g) ≡ false) → ¬ IsUnderMapping h (g * size_of_cluster) out

-- The range past the end of a growing disk, if the mode fills it.
abbrev pub GrownFree : PreallocateMode → (old size : ℕ) → HeaderFields → Bytes → Mappings → Type 0
GrownFree mode old size h known out = shows_old mode ≡ false → ChangesFree (cluster_size h) (first_zeros (cluster_size h) old size mode) old (rounded_up (cluster_size h) size) h known out

-- The two offsets are cluster boundaries.
abbrev pub IsWholeRange : HeaderFields → (from to : ℕ) → Type 0
IsWholeRange h from to = (from % cluster_size h ≡ 0) × (to % cluster_size h ≡ 0)

-- The greatest number of zeros that is written at once.
abbrev pub most_of : ZeroWrites → ℕ
most_of Short = 2 ^ 64 - 1
most_of Taken = 2 ^ 64 - 1
most_of (Plain zeros) = length zeros.items

-- The bytes that are written are zeros.
abbrev pub AreZeros : ZeroWrites → Type 0
AreZeros Short = Unit {0}
AreZeros Taken = Unit {0}
AreZeros (Plain zeros) = zeros.items ≡ replicate (length zeros.items) 0

-- All bytes that are written are zeros, and this many can be written at once.
pub record WritesZeros (count : ℕ) (writes : ZeroWrites) : Type 0 where
  pub few : count ≤ most_of writes
  pub zeros : AreZeros writes

module _ {S F : Type 0} (view : S → StorageView) (backing : F → BackingView) where
  -- A part of a call puts zeros from one offset up to another.
  pub record FillsPart (first from to : ℕ) (old new : Qcow2 S F) (out : Mappings) : Type 0 where
    pub works : EffectOnSound (abstract_of view backing old out) (abstract_of view backing new out) (given_by_zeros from to ∷ []) []
    pub sound : ImageInvariant view backing (pending_in view backing new out) new out
    pub shows : guest_of (abstract_of view backing new out) ≡ with_disk (guest_of (abstract_of view backing old out)) (zeroed_between (disk_of view backing out.place old) from to)
    pub header : MovesTables old.file.header.fields new.file.header.fields
    pub l1_table : ReachingStays to old.file.header.fields new.file.header.fields
    pub covers : FilledCovers (cluster_size old.file.header.fields) first from to old.file.header.fields (known_in view old.file) new.file.header.fields (known_in view new.file)
    pub free : ChangesFree (cluster_size old.file.header.fields) first from to old.file.header.fields (known_in view old.file) out

  -- The part was refused half-way: the image is sound, and any of these bytes may be zeros.
  pub record FillsSome (from to : ℕ) (old new : Qcow2 S F) (out : Mappings) : Type 0 where
    pub works : EffectOnSound (abstract_of view backing old out) (abstract_of view backing new out) (given_by_zeros from to ∷ []) []
    pub sound : ImageInvariant view backing (pending_in view backing new out) new out
    pub now : Disk
    pub may : MayBeZero from to (disk_of view backing out.place old) now
    pub shows : guest_of (abstract_of view backing new out) ≡ with_disk (guest_of (abstract_of view backing old out)) now

  -- A fault ended the part: once the image is marked as failed, a stop is as safe as before, with these values given.
  pub record InterruptedGiving (given : List GivenBytes) (old new : Qcow2 S F) (out : Mappings) (e : ImageError) : Type 0 where
    pub fault : IsFaultOfTables e
    pub recorded : e ≡ I.Memory → IsTrue (has_noted_change new)
    pub works : EffectOnSound (abstract_of view backing old out) (abstract_of view backing (record new { is_failed = true }) out) given []

  -- What a refused part leaves. It is refused 9 only if a mapping is pinned in an L2 table of the range, and with a limit only if there was no room.
  pub record RefusedFill (from to : ℕ) (old new : Qcow2 S F) (out : Mappings) (e : ImageError) : Type 0 where
    pub left : FillsSome from to old new out ⊎ InterruptedGiving (given_by_zeros from to ∷ []) old new out e
    pub taken : e ≡ I.TablePrepared → IsUnderMappingIn old.file.header.fields from to out
    pub limit : e ≡ I.Limit → IsLimited view backing (given_by_zeros from to ∷ []) to old out

  abbrev pub FillsOrRefuses : (first from to : ℕ) → Qcow2 S F → Qcow2 S F → Mappings → Result (Unit {0}) ImageError → Type 0
  FillsOrRefuses first from to old new out (Ok _) = FillsPart first from to old new out
  FillsOrRefuses first from to old new out (Err e) = RefusedFill from to old new out e

  -- The range is filled up to an offset, or the part was refused.
  abbrev pub FillsFirst : (first from to : ℕ) → Qcow2 S F → Qcow2 S F → Mappings → Result ℕ ImageError → Type 0
  FillsFirst first from to old new out (Ok next) = FillsPart first from next old new out
  FillsFirst first from to old new out (Err e) = RefusedFill from to old new out e

  -- A prepared mapping is committed, and its slot is empty.
  pub record CommitsWhole (old new : Qcow2 S F) (out : Mappings) (k : ℕ) (p : Prepared) (free : Mappings) : Type 0 where
    pub works : EffectOnSound (abstract_of view backing old out) (abstract_of view backing new free) (given_by_commit (abstract_of view backing old out).setting.cluster_size (guest_of (abstract_of view backing old out)).disk (meaning view backing out.place old p) ∷ []) []
    pub sound : ImageInvariant view backing (pending_in view backing new free) new free
    pub shows : guest_of (abstract_of view backing new free) ≡ with_slot (with_disk (guest_of (abstract_of view backing old out)) (committed (guest_of (abstract_of view backing old out)).disk (meaning view backing out.place old p))) k None
    pub beside : StaysBeside view p.guest (p.guest + p.length) old new
    pub copied : IsSome p.table → AreCopied view p.guest (p.guest + p.length) new
    pub placed : IsSome p.table → AreDataAt new.file.header.fields (known_in view new.file) true p.guest p.offset p.length
    pub still : p.table ≡ None → CoversStay old.file.header.fields (known_in view old.file) new.file.header.fields (known_in view new.file)
    pub allocator : new.allocator ≡ old.allocator

  -- ---- past the end of a disk that grows

  abbrev pub all_given_by_growing : Place → Qcow2 S F → ℕ → PreallocateMode → List GivenBytes
  all_given_by_growing place image size mode = given_by_grow (setting_of view backing image) (disk_of view backing place image) size mode

  -- There are zeros past the end of the disk, as the mode asks for. The size is the old one.
  pub record FillsGrown (size : ℕ) (mode : PreallocateMode) (old new : Qcow2 S F) (out : Mappings) : Type 0 where
    pub works : EffectOnSound (abstract_of view backing old out) (abstract_of view backing new out) (all_given_by_growing out.place old size mode) []
    pub sound : ImageInvariant view backing (pending_in view backing new out) new out
    pub shows : guest_of (abstract_of view backing new out) ≡ with_disk (guest_of (abstract_of view backing old out)) (filled_to (cluster_size old.file.header.fields) (disk_of view backing out.place old) size mode)
    pub header : MovesTables old.file.header.fields new.file.header.fields
    pub l1_table : ReachingStays (rounded_up (cluster_size old.file.header.fields) size) old.file.header.fields new.file.header.fields
    pub covers : GrownCovers mode (size_of old) size old.file.header.fields (known_in view old.file) new.file.header.fields (known_in view new.file)
    pub free : GrownFree mode (size_of old) size old.file.header.fields (known_in view old.file) out

  -- The part was refused: each byte past the end is the same or zero, and all others are the same.
  pub record FillsGrownInPart (size : ℕ) (mode : PreallocateMode) (old new : Qcow2 S F) (out : Mappings) : Type 0 where
    pub works : EffectOnSound (abstract_of view backing old out) (abstract_of view backing new out) (all_given_by_growing out.place old size mode) []
    pub sound : ImageInvariant view backing (pending_in view backing new out) new out
    pub now : Disk
    pub may : MayGrow (setting_of view backing old) (disk_of view backing out.place old) size mode now
    pub shows : guest_of (abstract_of view backing new out) ≡ with_disk (guest_of (abstract_of view backing old out)) now

  -- What a refused part leaves. It is refused 9 only if the mode asks for zeros and a mapping is pinned in an L2 table past the end, and with a limit only if there was no room.
  pub record RefusedGrown (size : ℕ) (mode : PreallocateMode) (old new : Qcow2 S F) (out : Mappings) (e : ImageError) : Type 0 where
    pub left : FillsGrownInPart size mode old new out ⊎ InterruptedGiving (all_given_by_growing out.place old size mode) old new out e
    pub taken : e ≡ I.TablePrepared → (shows_old mode ≡ false) × IsUnderMappingIn old.file.header.fields (disk_of view backing out.place old).size (rounded_up (cluster_size old.file.header.fields) size) out
    pub limit : e ≡ I.Limit → IsLimited view backing (all_given_by_growing out.place old size mode) (rounded_up (cluster_size old.file.header.fields) size) old out

  abbrev pub FillsGrownOrRefuses : ℕ → PreallocateMode → Qcow2 S F → Qcow2 S F → Mappings → Result (Unit {0}) ImageError → Type 0
  FillsGrownOrRefuses size mode old new out (Ok _) = FillsGrown size mode old new out
  FillsGrownOrRefuses size mode old new out (Err e) = RefusedGrown size mode old new out e
