-- Creating an image: what is on the storage then, and what a stop may leave.
use Rattle.qcow2_image.specs.declared.mapping.Place.TheVariants.{Image}
use Rattle.std.specs.Prelude.{ℕ, IfErr, ◌≡◌, ◌==◌, ◌&&◌, ◌||◌, ◌⊎◌, ◌+◌, ◌*◌, ◌/◌, ◌^◌, ◌<◌, ◌≤◌, Bool, IsTrue, true, false, List, None, Option, Some, Result, Ok, Err, [], is_some, length, nat_lt, option_map, unwrap_or, if◌then◌else◌}
use Rattle.std.specs.String.{string_bytes}
use Rattle.image_access.specs.Backing.{BackingView}
use Rattle.image_access.specs.Moments.{StorageView, EachMomentSince}
use Rattle.image_access.specs.declared.storage.PreallocateMode.{PreallocateMode}
use Rattle.image_access.specs.declared.storage.PreallocateMode.TheVariants as Mode
use Rattle.qcow2_metadata.specs.Bytes.{Bytes, byte_at, number_at}
use Rattle.qcow2_metadata.specs.Consistent.{IsConsistent}
use Rattle.qcow2_metadata.specs.Cover.{cover}
use Rattle.qcow2_metadata.specs.EntryTable.{EntryTableView}
use Rattle.qcow2_metadata.specs.declared.header.HeaderFields.{HeaderFields}
use Rattle.qcow2_metadata.specs.Guest.{known_byte}
use Rattle.qcow2_metadata.specs.Header.{HeaderView, header, cluster_size, count_width, entries_per_cluster, rounded_up}
use Rattle.qcow2_metadata.specs.HeaderLoad.{IsHeaderIn}
use Rattle.qcow2_metadata.specs.HeaderWrite.{CanBeNew, HasNewNames, name_place, new_header}
use Rattle.qcow2_metadata.specs.RefBlock.{RefBlockView, count_at}
use Rattle.qcow2_metadata.specs.TableBytes.{entry_at}
use Rattle.qcow2_metadata.specs.declared.l2_mapping.L2Mapping.{L2Mapping}
use Rattle.qcow2_metadata.specs.declared.l2_mapping.L2Mapping.TheVariants.{Zero, Uncovered}
use Rattle.qcow2_disk.specs.AbstractImages.{AbstractImage, IsOpened}
use Rattle.qcow2_disk.specs.Calls.{shows_old}
use Rattle.qcow2_disk.specs.Disk.{disk}
use Rattle.qcow2_disk.specs.Mappings.{is_copied_data}
use Rattle.qcow2_laws.specs.NewImages.{IsNewImage}
use Rattle.qcow2_laws.specs.Opened.{HasNoLeaks}
use Rattle.qcow2_alloc.specs.ImageFile.{known_in, view_in}
use Rattle.qcow2_alloc.specs.declared.error.ImageError.{ImageError}
use Rattle.qcow2_alloc.specs.declared.error.ImageError.TheVariants as I
use Rattle.qcow2_disk.specs.HeaderRest.{KeepsHeaderRest}
use Rattle.std.specs.Option.{option_flatten}
use Rattle.qcow2_alloc.specs.Faults.{FaultsReported}
use Rattle.qcow2_image.specs.BehindHeader.{LiesBehindHeader}
use Rattle.qcow2_image.specs.Opened.{NeedsAnother, Opens}
use Rattle.qcow2_image.specs.Readable.{IsNewlyOpened, OpeningStep, files_missing}
use Rattle.qcow2_image.specs.declared.opening.Qcow2OpenBuilder.{Qcow2OpenBuilder}
use Rattle.qcow2_image.specs.Growing.{FitsSize, LeavesSound, SameFormat, ReachesSize}
use Rattle.qcow2_image.specs.declared.builder.NoBacking.{NoBacking}
use Rattle.qcow2_image.specs.declared.builder.Qcow2CreateBuilder.{Qcow2CreateBuilder}
use Rattle.qcow2_image.specs.declared.image.Qcow2.{Qcow2}
use Rattle.qcow2_image.specs.Image.{HasNothingToFree, is_writable, number_of, size_of, storage_of_image}
use Rattle.qcow2_image.specs.ImageSteps.{MarkedStep}
use Rattle.qcow2_image.specs.MayFail.{MayFailGrowing}
use Rattle.qcow2_image.specs.Refusals.{IsFaultOrLimit}
use Rattle.qcow2_alloc.specs.ImageError.{IsFault}
use Rattle.qcow2_image.specs.ImageInvariant.{IsHonestBacking, abstract_of, in_image}
use Rattle.qcow2_image.specs.Limits.{IsLimited}
use Rattle.qcow2_image.specs.Resizing.{GrowsLast, GrowsTables, GrowsTo, IsResized, all_given_by_grow, refuses_to_resize, size_after, takes_over}

-- The first eight bytes are the magic number, and version 2 or 3.
abbrev pub begins_image : Bytes → Bool
begins_image b = (number_at b 0 4 == 0x514649fb) && (number_at b 4 4 == 2 || number_at b 4 4 == 3)

-- A consistent image of this size that no guest has written. It shows the backing disk, or zeros if there is none.
pub record IsUnwritten (n : ℕ) (b : Bytes) : Type 0 where
  pub consistent : IsConsistent b
  pub size : (header b).size ≡ n
  pub shows_below : (backing : Bytes) (o : ℕ) → (disk b backing).value o ≡ known_byte (backing o)

-- A consistent image of this size that shows zeros at every offset, also past its end, if it has no backing disk.
pub record ShowsZeros (n : ℕ) (b : Bytes) : Type 0 where
  pub consistent : IsConsistent b
  pub size : (header b).size ≡ n
  pub zeros : (o : ℕ) → (disk b (λ i. 0)).value o ≡ known_byte 0

-- A new disk of this size, by preallocation mode: unwritten with mode `none`, otherwise zeros.
abbrev pub IsNewDisk : PreallocateMode → ℕ → Bytes → Type 0
IsNewDisk Mode.None n b = IsUnwritten n b
IsNewDisk mode n b = ShowsZeros n b

-- The mapping that a mode leaves for a guest cluster: unmapped; zeros without a host cluster; or data in a cluster of its own.
abbrev pub IsCoverOf : PreallocateMode → L2Mapping → Type 0
IsCoverOf Mode.None v = v ≡ Uncovered
IsCoverOf Mode.Zero v = v ≡ Zero None
IsCoverOf mode v = is_copied_data v ≡ true

-- Every guest cluster that begins below the size has the mapping of its mode. All others are unmapped.
pub record IsPreallocated (mode : PreallocateMode) (n : ℕ) (b : Bytes) : Type 0 where
  pub inside : (g : ℕ) → g * cluster_size (header b) < n → IsCoverOf mode (cover (header b) b g)
  pub behind : (g : ℕ) → n ≤ g * cluster_size (header b) → cover (header b) b g ≡ Uncovered

-- No cluster of the image is lost: each refcount is the number of references, and none was leaked.
pub record HasLostNone (v : AbstractImage) : Type 0 where
  pub counted : (cluster : ℕ) → v.surplus cluster ≡ 0
  pub leaks : v.leaked ≡ 0

-- What a stop may leave while an image of this size is created: no image at all, or a new disk of size 0 or of this size.
abbrev pub IsStopOfCreating : PreallocateMode → ℕ → Bytes → Type 0
IsStopOfCreating mode n b = (begins_image b ≡ false) ⊎ (IsNewDisk mode 0 b ⊎ IsNewDisk mode n b)

-- A stop at any moment since leaves one of these.
abbrev pub StopsCreating : PreallocateMode → ℕ → StorageView → StorageView → Type 0
StopsCreating mode n old new = EachMomentSince old new (λ c. IsStopOfCreating mode n (byte_at c))

-- The storage is still honest, and a stop at any moment since leaves one of these.
pub record StaysCreating (mode : PreallocateMode) (n : ℕ) (old new : StorageView) : Type 0 where
  pub honest : new.is_honest
  pub moments : StopsCreating mode n old new

-- The size in bytes of the largest disk that an L1 table of 4,194,304 entries covers, for a cluster size.
abbrev pub longest_disk : ℕ → ℕ
longest_disk size = 4194304 * (size / 8) * size

-- An image with these contents was opened, with no cluster waiting to be freed. Growing its disk in this mode passed a limit. The storage that is returned holds an image that is still sound. Every surplus is the same, and no cluster was leaked.
pub record CantEnlarge {S F : Type 0} (view : S → StorageView) (backing : F → BackingView) (mode : PreallocateMode) (size : ℕ) (contents : List ℕ) (storage : S) : Type 0 where
  pub opened : Qcow2 S F
  pub is_opened : IsOpened (abstract_of view backing opened (in_image []))
  pub stands : (view_in view opened.file).contents ≡ contents
  pub emptied : HasNothingToFree opened
  pub limit : IsLimited view backing (all_given_by_grow view backing Image opened size mode) (rounded_up (cluster_size opened.file.header.fields) size) opened (in_image [])
  pub left : Qcow2 S F
  pub is_left : storage_of_image left ≡ storage
  pub leaves : LeavesSound view backing opened left

-- The backing disk of an image that has none.
abbrev pub none_below : NoBacking → BackingView
none_below below = record { bytes = []; faults = 0; is_honest = Unit {0} }

-- A new image was written, with the requested clusters and refcounts, but there is no room to grow its disk.
pub record LacksPlaceCreating {S : Type 0} (view : S → StorageView) (builder : Qcow2CreateBuilder S) (storage : S) : Type 0 where
  pub contents : List ℕ
  pub new_image : IsNewImage (header (byte_at contents)) (byte_at contents)
  pub clusters : cluster_size (header (byte_at contents)) ≡ builder.cluster_size
  pub counts : count_width (header (byte_at contents)) ≡ builder.refcount_width
  pub lacks : CantEnlarge view none_below builder.preallocate builder.size contents storage

-- The header in these contents has these names, or none.
pub record GivesNames (backing format data_file : Option (List ℕ)) (contents : List ℕ) : Type 0 where
  pub header : HeaderView
  pub stands : IsHeaderIn header contents
  pub backing_is : header.backing_name ≡ backing
  pub format_is : header.backing_format ≡ format
  pub data_file_is : header.data_file_name ≡ data_file

-- The contents are the three clusters of a new image and nothing else. They end with the third cluster, and the header's cluster is zero after the header and its names.
pub record IsThreeClusters (size header_end : ℕ) (contents : List ℕ) : Type 0 where
  pub ends : length contents ≡ 3 * size
  pub zeros : (o : ℕ) → header_end ≤ o → o < size → byte_at contents o ≡ 0

-- The mode allocates clusters for the disk.
abbrev pub takes_clusters : PreallocateMode → Bool
takes_clusters Mode.None = false
takes_clusters Mode.Zero = false
takes_clusters mode = true

module _ {S : Type 0} where
  -- The names to write into the header.
  abbrev pub backing_name_in : Qcow2CreateBuilder S → Option (List ℕ)
  backing_name_in builder = option_map string_bytes builder.backing_name

  abbrev pub backing_format_in : Qcow2CreateBuilder S → Option (List ℕ)
  backing_format_in builder = option_map string_bytes builder.backing_format

  abbrev pub data_file_name_in : Qcow2CreateBuilder S → Option (List ℕ)
  data_file_name_in builder = option_map string_bytes builder.data_file_name

  -- The new image holds its own data.
  abbrev pub HasNoDataFile : Qcow2CreateBuilder S → Type 0
  HasNoDataFile builder = (builder.data_file_name ≡ None) × (builder.data_file ≡ None)

  -- The length in bytes of the new header with its names.
  abbrev pub header_end : Qcow2CreateBuilder S → ℕ
  header_end builder = name_place (backing_format_in builder) (data_file_name_in builder) + length (unwrap_or (backing_name_in builder) [])

  -- Clusters are to be allocated for a disk over a backing file.
  abbrev pub allocates_over : Qcow2CreateBuilder S → Bool
  allocates_over builder = takes_clusters builder.preallocate && is_some builder.backing_name

  -- The cluster size and the refcount width are ones that images may have, and the names fit into the header's cluster.
  pub record IsAllowed (builder : Qcow2CreateBuilder S) : Type 0 where
    pub cluster_bits : ℕ
    pub refcount_order : ℕ
    pub cluster_size_is : builder.cluster_size ≡ 2 ^ cluster_bits
    pub refcount_width_is : builder.refcount_width ≡ 2 ^ refcount_order
    pub no_smaller : 9 ≤ cluster_bits
    pub no_larger : cluster_bits ≤ 21
    pub no_wider : refcount_order ≤ 6
    pub room : header_end builder ≤ builder.cluster_size

  -- The binary logarithms of the cluster size and of the refcount width, if a new header may have them.
  pub record HasLogarithms (builder : Qcow2CreateBuilder S) (logarithms : ℕ × ℕ) : Type 0 where
    pub clusters : builder.cluster_size ≡ 2 ^ logarithms.0
    pub counts : builder.refcount_width ≡ 2 ^ logarithms.1
    pub can_be_new : CanBeNew logarithms.0 logarithms.1 (backing_name_in builder) (backing_format_in builder) (data_file_name_in builder)

  -- Why an image cannot be created on any storage: 5, an invalid option; 6, allocating clusters over a backing file; 13, a disk that is too large.
  abbrev pub IsReasonAgainst : Qcow2CreateBuilder S → ImageError → Type 0
  IsReasonAgainst builder I.InvalidOption = ¬ IsAllowed builder
  IsReasonAgainst builder I.Preallocation = IsTrue (allocates_over builder)
  IsReasonAgainst builder I.Limit = longest_disk builder.cluster_size < builder.size
  IsReasonAgainst builder e = ⊥

  -- Why an image is not created: 5 only for an invalid option; 6 only for allocating clusters over a backing file; 13 only for a disk that is too large or finds no room; otherwise a fault.
  abbrev pub IsReasonNotToCreate : (S → StorageView) → Qcow2CreateBuilder S → S → ImageError → Type 0
  IsReasonNotToCreate view builder storage I.InvalidOption = ¬ IsAllowed builder
  IsReasonNotToCreate view builder storage I.Preallocation = IsTrue (allocates_over builder)
  IsReasonNotToCreate view builder storage I.Limit = (longest_disk builder.cluster_size < builder.size) ⊎ LacksPlaceCreating view builder storage
  IsReasonNotToCreate view builder storage I.Memory = Unit {0}
  IsReasonNotToCreate view builder storage I.Storage = Unit {0}
  IsReasonNotToCreate view builder storage e = ⊥

  -- The requested image is on an honest storage.
  pub record IsCreated (builder : Qcow2CreateBuilder S) (storage : StorageView) : Type 0 where
    pub honest : storage.is_honest
    pub new_disk : IsNewDisk builder.preallocate builder.size (byte_at storage.contents)
    pub covers : IsPreallocated builder.preallocate builder.size (byte_at storage.contents)
    pub version : (header (byte_at storage.contents)).version ≡ 3
    pub clusters : cluster_size (header (byte_at storage.contents)) ≡ builder.cluster_size
    pub counts : count_width (header (byte_at storage.contents)) ≡ builder.refcount_width
    -- The L1 table has the length that QEMU expects.
    pub reaches : ReachesSize (header (byte_at storage.contents))
    pub l1_length : FitsSize (header (byte_at storage.contents))
    pub no_leaks : HasNoLeaks (byte_at storage.contents)
    pub names : GivesNames (backing_name_in builder) (backing_format_in builder) None storage.contents
    pub no_backing_file : builder.backing_name ≡ None → (header (byte_at storage.contents)).backing_offset ≡ 0
    pub no_autoclear : (header (byte_at storage.contents)).autoclear ≡ 0
    pub no_compatible : (header (byte_at storage.contents)).compatible ≡ 0
    pub alone : builder.backing_name ≡ None → ¬ NeedsAnother storage.contents
    -- A disk of no bytes takes three clusters. Nothing that the storage held before is left.
    pub no_more : builder.size ≡ 0 → IsThreeClusters builder.cluster_size (header_end builder) storage.contents

  -- The settings of the same image, with a disk of no bytes.
  abbrev pub empty_of : Qcow2CreateBuilder S → Qcow2CreateBuilder S
  empty_of builder = record builder { size = 0; preallocate = Mode.None }

  -- Why an image is not created and opened: it is not created, or opening it ends with a fault.
  abbrev pub IsReasonNotToCreateOpen : (S → StorageView) → Qcow2CreateBuilder S → S × ImageError → Type 0
  IsReasonNotToCreateOpen view builder refused = IsReasonNotToCreate view builder refused.0 refused.1

-- ---- the new image, before its disk grows

module _ {S : Type 0} (view : S → StorageView) (builder : Qcow2CreateBuilder S) where
  -- The new image is on this storage, with nothing else, and its disk has no bytes yet.
  pub record IsMade (storage : S) : Type 0 where
    pub created : IsCreated (empty_of builder) (view storage)
    pub new_image : IsNewImage (header (byte_at (view storage).contents)) (byte_at (view storage).contents)

  -- The closure gets this storage. A stop until then leaves no image, or the new one with a disk of no bytes.
  pub record IsGiven (storage : S) : Type 0 where
    pub made : (view builder.image).is_honest → IsMade storage
    pub stops : (view builder.image).is_honest → StopsCreating Mode.None 0 (view builder.image) (view storage)
    pub faults : (view storage).faults ≡ (view builder.image).faults

  -- No image was made: the settings are refused, or a fault came.
  pub record IsNotMade (storage : S) (e : ImageError) : Type 0 where
    pub reason : IsReasonAgainst builder e ⊎ IsFault e
    pub stops : (view builder.image).is_honest → StopsCreating Mode.None 0 (view builder.image) (view storage)
    pub faults : FaultsReported {T = Unit {0}} (view builder.image).faults (view storage).faults (Err e)

-- ---- parts of the work

-- The header of a new image that holds its own data.
pub record IsNewHeader (v : HeaderView) : Type 0 where
  pub is : v ≡ new_header v.fields.cluster_bits v.fields.refcount_order v.backing_name v.backing_format v.data_file_name
  pub own_data : v.data_file_name ≡ None
  pub names : HasNewNames v

-- A refblock in cluster 2, one cluster long, that counts clusters 0, 1 and 2.
pub record CountsThree (h : HeaderFields) (block : RefBlockView) : Type 0 where
  pub bits : block.cluster_bits ≡ h.cluster_bits
  pub order : block.refcount_order ≡ h.refcount_order
  pub whole : length block.bytes ≡ cluster_size h
  pub cluster_is : block.cluster ≡ Some 2
  pub counts : (i : ℕ) → count_at block i ≡ (if nat_lt i 3 then 1 else 0)

-- A reftable in cluster 1, one cluster long, with cluster 2 in its first entry and all others empty.
pub record NamesOne (h : HeaderFields) (t : EntryTableView) : Type 0 where
  pub bits : t.cluster_bits ≡ h.cluster_bits
  pub cluster_is : t.cluster ≡ Some 1
  pub whole : length t.bytes ≡ 8 * entries_per_cluster h
  pub entries : (i : ℕ) → entry_at t.bytes i ≡ (if i == 0 then 2 * cluster_size h else 0)

-- The contents are the three clusters of the new image with this header, and nothing else.
abbrev pub IsThreeWith : HeaderView → List ℕ → Type 0
IsThreeWith v contents = IsThreeClusters (cluster_size v.fields) (name_place v.backing_format v.data_file_name + length (unwrap_or v.backing_name [])) contents

-- The three clusters are written; or a stop leaves what a stop of creating may.
abbrev pub WritesThree : HeaderFields → StorageView → StorageView → Result (Unit {0}) ImageError → Type 0
WritesThree h old new (Ok _) = StaysCreating Mode.None 0 old new × IsNewImage h (byte_at new.contents)
WritesThree h old new (Err _) = StaysCreating Mode.None 0 old new

-- The storage holds a new disk of this size, and the header has the same format.
pub record IsEnlarged (mode : PreallocateMode) (n : ℕ) (old new : StorageView) : Type 0 where
  pub stays : StaysCreating mode n old new
  pub new_disk : IsNewDisk mode n (byte_at new.contents)
  pub covers : IsPreallocated mode n (byte_at new.contents)
  pub format : SameFormat (header (byte_at old.contents)) (header (byte_at new.contents))
  pub no_autoclear : (header (byte_at old.contents)).autoclear ≡ 0 → (header (byte_at new.contents)).autoclear ≡ 0
  pub reaches : ReachesSize (header (byte_at new.contents))
  pub l1_length : (header (byte_at old.contents)).autoclear ≡ 0 → FitsSize (header (byte_at old.contents)) → FitsSize (header (byte_at new.contents))
  pub rest : KeepsHeaderRest (byte_at old.contents) (byte_at new.contents)

-- The disk grew from the new image, when the storage held nothing else.
pub record GrewFromNew {S : Type 0} (view : S → StorageView) (builder : Qcow2CreateBuilder S) (storage : S) : Type 0 where
  pub made : S
  pub is_made : IsMade view builder made
  pub grown : IsEnlarged builder.preallocate builder.size (view made) (view storage)

-- The image is opened, grown and flushed; or a stop leaves what a stop of creating may.
abbrev pub Enlarges : PreallocateMode → ℕ → StorageView → StorageView → Result (Unit {0}) ImageError → Type 0
Enlarges mode n old new (Ok _) = IsEnlarged mode n old new
Enlarges mode n old new (Err _) = StopsCreating mode n old new

-- Every guest cluster of an open image is unmapped, and its version has zero clusters.
pub record IsUnmapped {S F : Type 0} (view : S → StorageView) (image : Qcow2 S F) : Type 0 where
  pub version : 3 ≤ image.file.header.fields.version
  pub covers : (g : ℕ) → cover image.file.header.fields (known_in view image.file) g ≡ Uncovered

module _ {S F : Type 0} (view : S → StorageView) (backing : F → BackingView) where
  -- An open image without prepared mappings is grown.
  pub record AllocatesPlace (mode : PreallocateMode) (old new : Qcow2 S F) (size : ℕ) (r : Result (Unit {0}) ImageError) : Type 0 where
    pub no_larger : refuses_to_resize old ≡ None → size ≤ size_of old → (r ≡ Ok tt) × (new ≡ old)
    pub image : size_of old < size → IsResized (size_after r (size_of old) size) old new
    pub sees : GrowsTo view backing old new size mode r
    pub tables : refuses_to_resize old ≡ None → size_of old < size → (abstract_of view backing old (in_image [])).is_sound → GrowsTables view backing old new size mode (in_image []) r
    pub last : (abstract_of view backing old (in_image [])).is_sound → GrowsLast view backing mode size old new r

-- ---- an image that is created and opened

module _ {S F : Type 0} (view : S → StorageView) (backing : F → BackingView) where
  -- A builder opened its image for writing, with its number and its backing disk. Then the disk was grown, or that was refused.
  pub record OpensGrown (opener : Qcow2OpenBuilder S F) (mode : PreallocateMode) (size : ℕ) (image : Qcow2 S F) (r : Result (Unit {0}) ImageError) : Type 0 where
    pub opened : Qcow2 S F
    pub new : IsNewlyOpened (view opener.image) true opener.number opened
    pub over : opened.backing ≡ option_flatten opener.backing
    pub beside : opened.data_file ≡ option_flatten opener.data_file
    pub step : OpeningStep view (view opener.image) true (files_missing opener.backing opener.data_file) (Ok opened)
    pub opens : IsHonestBacking view backing (option_flatten opener.backing) → option_flatten opener.data_file ≡ None → Opens view backing (view opener.image) opened
    pub takes : AllocatesPlace view backing mode opened image size r
    pub marks : MarkedStep view backing opened image r
    pub may_fail : refuses_to_resize opened ≡ None → size_of opened < size → (abstract_of view backing opened (in_image [])).is_sound
        → IfErr r (λ e. MayFailGrowing (in_image []) mode (size_of opened) (rounded_up (cluster_size opened.file.header.fields) size) opened.file.header.fields (known_in view opened.file) e ⊎ ((e ≡ I.Preallocation) × IsTrue (takes_over opened mode)))

  -- The builder was refused; or its image was opened, and its disk could not be grown. The storage is returned.
  abbrev pub RefusesGrown : Qcow2OpenBuilder S F → PreallocateMode → ℕ → S × ImageError → Type 0
  RefusesGrown opener mode size refused = OpeningStep {F = F} view (view opener.image) true (files_missing opener.backing opener.data_file) (Err refused)
      ⊎ ((image : Qcow2 S F) × (storage_of_image image ≡ refused.0) × OpensGrown opener mode size image (Err refused.1))

  -- The image is open, with this number and for writing, and is not flushed. No cluster is lost, no table lies in the header's cluster, and each guest cluster has the mapping of the mode.
  pub record HoldsNewDisk (mode : PreallocateMode) (size number : ℕ) (image : Qcow2 S F) : Type 0 where
    pub sound : (abstract_of view backing image (in_image [])).is_sound
    pub number_is : number_of image ≡ number
    pub writable : is_writable image ≡ true
    pub lost : HasLostNone (abstract_of view backing image (in_image []))
    pub behind : LiesBehindHeader image
    pub covers : IsPreallocated mode size (known_in view image.file)

  module _ (builder : Qcow2CreateBuilder S) (answers : S → Result (Qcow2OpenBuilder S F) ImageError → Type 0) where
    -- The closure returned this builder for the storage of the new image.
    pub record IsAnswered (storage : S) (opener : Qcow2OpenBuilder S F) : Type 0 where
      pub answered : answers storage (Ok opener)
      pub given : IsGiven view builder storage

    -- The builder has the storage that the closure got, its backing disk is honest, and it has no data file.
    abbrev pub HandsOn : S → Qcow2OpenBuilder S F → Type 0
    HandsOn storage opener = (opener.image ≡ storage) × IsHonestBacking view backing (option_flatten opener.backing) × (option_flatten opener.data_file ≡ None)

    -- The disk shows the same over every disk below, or has none below.
    abbrev pub ShowsAlone : Qcow2OpenBuilder S F → Type 0
    ShowsAlone opener = (shows_old builder.preallocate ≡ true) ⊎ (is_some (option_flatten opener.backing) ≡ false)

    -- The image was made on a storage, and the builder that the closure returned for it opened an image, whose disk was grown. If that is the same storage, the known contents are those of the new disk, and a stop leaves what a stop of creating may.
    pub record IsMadeOpen (image : Qcow2 S F) : Type 0 where
      pub storage : S
      pub opener : Qcow2OpenBuilder S F
      pub is_answered : IsAnswered storage opener
      pub grown : OpensGrown opener builder.preallocate builder.size image (Ok tt)
      pub holds : HandsOn storage opener → HoldsNewDisk builder.preallocate builder.size opener.number image
      pub new_disk : HandsOn storage opener → ShowsAlone opener → IsNewDisk builder.preallocate builder.size (known_in view image.file)
      pub stops : HandsOn storage opener → ShowsAlone opener → StopsCreating builder.preallocate builder.size (view builder.image) (view_in view image.file)

    -- The image was made, and the builder that the closure returned was refused.
    pub record IsMadeUnopened (left : S) (e : ImageError) : Type 0 where
      pub storage : S
      pub opener : Qcow2OpenBuilder S F
      pub is_answered : IsAnswered storage opener
      pub step : OpeningStep {F = F} view (view opener.image) true (files_missing opener.backing opener.data_file) (Err (left, e))

    -- The image was made and opened, and its disk could not be grown: by a fault, for lack of room, or since clusters are to be allocated over the backing disk that the closure gave.
    pub record IsMadeUngrown (left : S) (e : ImageError) : Type 0 where
      pub storage : S
      pub opener : Qcow2OpenBuilder S F
      pub is_answered : IsAnswered storage opener
      pub image : Qcow2 S F
      pub is_left : storage_of_image image ≡ left
      pub grown : OpensGrown opener builder.preallocate builder.size image (Err e)
      pub reason : HandsOn storage opener → IsFaultOrLimit e ⊎ ((e ≡ I.Preallocation) × IsTrue (takes_over grown.opened builder.preallocate))
      pub stops : HandsOn storage opener → ShowsAlone opener → StopsCreating builder.preallocate builder.size (view builder.image) (view left)

    -- The image was made, and the closure refused its storage.
    pub record IsMadeClosed (e : ImageError) : Type 0 where
      pub storage : S
      pub answered : answers storage (Err e)
      pub given : IsGiven view builder storage
