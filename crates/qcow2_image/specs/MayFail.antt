-- The causes of refusals on a sound image: a fault, a limit, and causes in the image or in its prepared mappings.
use Rattle.qcow2_image.specs.ImageInvariant.{Mappings}
use Rattle.std.specs.Prelude.{ℕ, ◌+◌, ◌-◌, ◌*◌, ◌/◌, ◌^◌, ◌<◌, ◌≤◌, ◌≡◌, ◌⊎◌, ◌&&◌, Bool, false, List, Option, None}
use Rattle.image_access.specs.declared.storage.PreallocateMode.{PreallocateMode}
use Rattle.image_access.specs.declared.storage.PreallocateMode.TheVariants as Mode
use Rattle.qcow2_metadata.specs.Bytes.{Bytes, is_within}
use Rattle.qcow2_metadata.specs.Cover.{cover}
use Rattle.qcow2_metadata.specs.Header.{cluster_size, rounded_up}
use Rattle.qcow2_metadata.specs.declared.header.HeaderFields.{HeaderFields}
use Rattle.qcow2_metadata.specs.declared.l2_mapping.L2Mapping.{L2Mapping}
use Rattle.qcow2_disk.specs.Found.{IsCompressed}
use Rattle.qcow2_disk.specs.GrownCovers.{Touches}
use Rattle.qcow2_alloc.specs.CachePins.{AreAllPinned}
use Rattle.qcow2_alloc.specs.ImageError.{IsFault}
use Rattle.qcow2_alloc.specs.declared.error.ImageError.{ImageError}
use Rattle.qcow2_alloc.specs.declared.error.ImageError.TheVariants as I
use Rattle.qcow2_image.specs.Backings.{HasPinnedMapping}
use Rattle.qcow2_image.specs.declared.image.Qcow2.{Qcow2}
use Rattle.qcow2_image.specs.declared.mapping.MappingKind.{MappingKind}
use Rattle.qcow2_image.specs.declared.mapping.MappingKind.TheVariants as Kind
use Rattle.qcow2_image.specs.declared.prepared.Prepared.{Prepared}
use Rattle.qcow2_image.specs.Found.{l1_index_of}
use Rattle.qcow2_image.specs.Prepared.{offset_of, table_of}
use Rattle.qcow2_image.specs.ChangeCauses.{IsCompressedStill, causes_if}
use Rattle.qcow2_image.specs.Refusals.{IsFaultOrLimit, MayFailIf}
use Rattle.qcow2_image.specs.InternalSteps.{is_announced}

-- Why a call that allocates is refused while no mapping is prepared: a fault; a limit; 7, if bytes of a compressed cluster would have to be copied; or 20, if an L1 entry past 64 bits would have to be written.
abbrev pub MayFailAlone : (compressed far : Type 0) → ImageError → Type 0
MayFailAlone compressed far e = IsFaultOrLimit e ⊎ (((e ≡ I.Compressed) × compressed) ⊎ ((e ≡ I.Overflow) × far))

-- Some guest cluster that the range touches is compressed.
pub record HasCompressedIn (from to : ℕ) (h : HeaderFields) (known : Bytes) : Type 0 where
  pub guest : ℕ
  pub touched : Touches (cluster_size h) from to guest
  pub is : IsCompressed (cover h known guest)

-- Some guest cluster that the range touches is compressed, and the caller did not promise to overwrite all of it.
pub record CopiesCompressed (offset n : ℕ) (overwrite : Bool) (h : HeaderFields) (known : Bytes) : Type 0 where
  pub guest : ℕ
  pub touched : Touches (cluster_size h) offset (offset + n) guest
  pub is : IsCompressed (cover h known guest)
  pub at : ℕ
  pub within : at / cluster_size h ≡ guest
  pub left : (overwrite && is_within offset n at) ≡ false

-- The end of the part where bytes may be copied while the range past the end of a disk is filled: no byte with mode `none`; with `zero`, the cluster of the old end; otherwise the whole range.
abbrev pub copied_end : (size_of_cluster from to : ℕ) → PreallocateMode → ℕ
copied_end size_of_cluster from to Mode.None = from
copied_end size_of_cluster from to Mode.Zero = rounded_up size_of_cluster from
copied_end size_of_cluster from to Mode.FormatAllocate = to
copied_end size_of_cluster from to Mode.FullAllocate = to
copied_end size_of_cluster from to Mode.WriteData = to

-- The L1 table covers the last byte before an offset, and the offsets of its entries fit into 64 bits.
pub record HasNearEntries (to : ℕ) (h : HeaderFields) : Type 0 where
  pub reaches : l1_index_of h (to - 1) < h.l1_entries
  pub near : h.l1_offset + 8 * h.l1_entries ≤ 2 ^ 64

-- The L1 table keeps its place and its length.
abbrev pub KeepsL1Place : HeaderFields → HeaderFields → Type 0
KeepsL1Place h h' = (h'.l1_offset ≡ h.l1_offset) × (h'.l1_entries ≡ h.l1_entries)

-- ---- parts of the work

-- Some byte of the offset's cluster is not promised to be overwritten.
pub record HasUnannounced (size_of_cluster offset length : ℕ) (overwrite : Bool) : Type 0 where
  pub at : ℕ
  pub inside : at < size_of_cluster
  pub left : is_announced size_of_cluster offset length overwrite at ≡ false

-- The guest cluster of the offset is compressed, and a byte of it would have to be copied.
abbrev pub IsCopiedCompressed : HeaderFields → L2Mapping → (offset length : ℕ) → Bool → Type 0
IsCopiedCompressed h mapping offset length overwrite = IsCompressed mapping × HasUnannounced (cluster_size h) offset length overwrite

-- The kind of compressed data.
abbrev pub IsSpecial : MappingKind → Type 0
IsSpecial (Kind.Special offset) = Unit {0}
IsSpecial kind = ⊥

-- Why bytes of this kind are not read: a fault; 7, if they are compressed; or 10, if they lie past the end.
abbrev pub MayFailReading : MappingKind → ImageError → Type 0
MayFailReading kind e = IsFault e ⊎ (((e ≡ I.Compressed) × IsSpecial kind) ⊎ ((e ≡ I.OutdatedMapping) × (kind ≡ Kind.Eof)))

-- ---- reads and puts, whatever the image contains

-- Why bytes are not written as data: a fault; or 19, for a place in the header's cluster.
abbrev pub MayFailWriting : ImageError → Type 0
MayFailWriting e = IsFault e ⊎ (e ≡ I.Metadata)

-- Why bytes of this kind are not copied: as a change during its work, 7 only if they are compressed; or 10, if they lie past the end.
abbrev pub MayFailCopying : {S F : Type 0} → Qcow2 S F → MappingKind → ImageError → Type 0
MayFailCopying new kind e = MayFailIf (causes_if new (IsSpecial kind)) e ⊎ ((e ≡ I.OutdatedMapping) × (kind ≡ Kind.Eof))

-- Why a cluster with this old mapping is not filled: as a change during its work, 7 only if the mapping is compressed. The same L2 tables are cached then.
abbrev pub MayFailFilling : {S F : Type 0} → (old new : Qcow2 S F) → L2Mapping → ImageError → Type 0
MayFailFilling old new mapping = MayFailIf (causes_if new (IsCompressedStill old.file.caches new.file.caches mapping))

-- ---- lookups, reads and puts on a sound image, whatever is prepared

-- The cache is full of L2 tables that prepared mappings pin.
abbrev pub IsCacheHeld : {S F : Type 0} → Qcow2 S F → Mappings → Type 0
IsCacheHeld image out = AreAllPinned image.file.caches × HasPinnedMapping out

-- Why a lookup is refused: a fault; or 8, if the cache is full of pinned tables.
abbrev pub MayFailLooking : (held : Type 0) → ImageError → Type 0
MayFailLooking held e = IsFault e ⊎ ((e ≡ I.InUse) × held)

-- Why a range that was looked up before is refused: as a lookup; or 10, if it is mapped differently by now.
abbrev pub MayFailLookingAgain : (held : Type 0) → ImageError → Type 0
MayFailLookingAgain held e = MayFailLooking held e ⊎ (e ≡ I.OutdatedMapping)

-- Why reading a mapping is refused: as a range that was looked up before; or 7, if its bytes are compressed and the whole of it is still mapped in this way.
abbrev pub MayFailMapped : (held : Type 0) → MappingKind → (whole : Type 0) → ImageError → Type 0
MayFailMapped held kind whole e = MayFailLookingAgain held e ⊎ ((e ≡ I.Compressed) × IsSpecial kind × whole)

-- Why a special read is refused: as a lookup; or 7 for compressed data, or 18 for data that are not.
abbrev pub MayFailSpecial : (held : Type 0) → (offset : ℕ) → ImageError → Type 0
MayFailSpecial held offset e = MayFailLooking held e ⊎ ((e ≡ I.Compressed) ⊎ (e ≡ I.NotCompressed offset))

-- Why a read is refused: as a lookup; or 7, if some guest cluster that the range touches is compressed. It is refused 8 only if a mapping is pinned.
abbrev pub MayFailReadingRange : Mappings → (from to : ℕ) → HeaderFields → Bytes → ImageError → Type 0
MayFailReadingRange out from to h known e = MayFailLooking (HasPinnedMapping out) e ⊎ ((e ≡ I.Compressed) × HasCompressedIn from to h known)

-- Why a put is refused: a fault. A put into an existing mapping can also be refused as a range that was looked up before, and with 20 if its host offset passes 64 bits.
abbrev pub MayFailPutting : (held : Type 0) → Prepared → (at : ℕ) → ImageError → Type 0
MayFailPutting held p at e = IsFault e ⊎ ((table_of p ≡ None) × (MayFailLookingAgain held e ⊎ ((e ≡ I.Overflow) × (2 ^ 64 ≤ offset_of p + at))))

-- ---- calls that allocate, on a sound image, whatever is prepared

-- Why a call that allocates is refused: as while no mapping is prepared; or 8 or 9, each only for its own cause.
abbrev pub MayFailAllocating : (held kept compressed far : Type 0) → ImageError → Type 0
MayFailAllocating held kept compressed far e = MayFailAlone compressed far e ⊎ (((e ≡ I.InUse) × held) ⊎ ((e ≡ I.TablePrepared) × kept))

-- Why filling the range past the end of a disk is refused: as a call that allocates, with 7 only if bytes of a compressed cluster would have to be copied, and 8 and 9 only if a mapping is pinned. Zero clusters are also refused below version 3 (3).
abbrev pub MayFailGrowing : Mappings → PreallocateMode → (from to : ℕ) → HeaderFields → Bytes → ImageError → Type 0
MayFailGrowing out mode from to h known e =
    MayFailAllocating (HasPinnedMapping out) (HasPinnedMapping out) (HasCompressedIn from (copied_end (cluster_size h) from to mode) h known) ⊥ e ⊎ ((e ≡ I.Version) × ((mode ≡ Mode.Zero) × (h.version < 3)))
