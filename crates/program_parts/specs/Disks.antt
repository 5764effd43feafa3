-- The view of a disk that is read, of an image or a raw one, and when two disks are the same.
use Rattle.std.specs.Prelude.{ℕ, ◌≡◌, ◌≢◌, ◌<◌, List, [], length}
use Rattle.image_access.specs.Backing.{BackingView}
use Rattle.image_access.specs.Moments.{StorageView}
use Rattle.image_access.specs.declared.storage.Format.{Format}
use Rattle.qcow2_metadata.specs.Bytes.{byte_at}
use Rattle.qcow2_metadata.specs.Consistent.{IsConsistent}
use Rattle.qcow2_metadata.specs.Guest.{known_byte}
use Rattle.qcow2_disk.specs.AbstractImages.{guest_of}
use Rattle.qcow2_disk.specs.Disk.{Disk}
use Rattle.qcow2_alloc.specs.Quiet.{IsQuiet}
use Rattle.qcow2_image.specs.Image.{storage_of_image}
use Rattle.qcow2_image.specs.ImageInvariant.{abstract_of, in_image}
use Rattle.qcow2_image.specs.Unwritten.{HoldsNothingModified}
use Rattle.qcow2_image.specs.declared.image.Qcow2.{Qcow2}
use Rattle.program_parts.specs.Conversions.{disk_alone}
use Rattle.program_parts.specs.declared.disks.OpenDisk.{OpenDisk}
use Rattle.program_parts.specs.declared.disks.OpenDisk.TheVariants as D
use Rattle.program_parts.specs.declared.comparing.Comparison.{Comparison}
use Rattle.program_parts.specs.declared.comparing.Comparison.TheVariants as C

-- A disk, whether reads return its bytes, its storage, and whether nothing waits to be written there.
pub record SeenDisk : Type 1 where
  pub disk : Disk
  pub is_honest : Type 0
  pub storage : StorageView
  pub is_written : Type 0

-- The disk is this one, and reads return its bytes.
pub record IsSeenAs (d : Disk) (seen : SeenDisk) : Type 0 where
  pub honest : seen.is_honest
  pub disk : seen.disk ≡ d

-- A call only reads. If nothing waited to be written before, nothing does after, and an honest storage kept its contents at every moment.
pub record IsOnlyRead (old new : SeenDisk) : Type 0 where
  pub written : old.is_written → new.is_written
  pub quiet : old.is_written → old.storage.is_honest → IsQuiet old.storage new.storage

-- An honest storage kept its contents at every moment.
abbrev pub IsKeptQuietly : StorageView → StorageView → Type 0
IsKeptQuietly old new = old.is_honest → IsQuiet old new

-- The raw disk with these bytes.
abbrev pub raw_disk : List ℕ → Disk
raw_disk bytes = record { size = length bytes; value = λ o. known_byte (byte_at bytes o) }

abbrev pub seen_raw : StorageView → SeenDisk
seen_raw storage = record { disk = raw_disk storage.contents; is_honest = storage.is_honest; storage = storage; is_written = Unit {0} }

-- The disk of an open image. Reads return its bytes if the image is sound.
abbrev pub seen_image : {S F : Type 0} → (S → StorageView) → (F → BackingView) → Qcow2 S F → SeenDisk
seen_image view backing image = let v = abstract_of view backing image (in_image []) in record { disk = (guest_of v).disk; is_honest = v.is_sound; storage = view (storage_of_image image); is_written = HoldsNothingModified image }

abbrev pub seen_open : {S : Type 0} → (S → StorageView) → OpenDisk S → SeenDisk
seen_open view (D.Raw raw) = seen_raw (view raw.storage)
seen_open view (D.Image image) = seen_image view (λ _. record { bytes = []; faults = 0; is_honest = Unit {0} }) image

-- The storage of an open disk.
abbrev pub storage_under : {S : Type 0} → OpenDisk S → S
storage_under (D.Raw raw) = raw.storage
storage_under (D.Image image) = storage_of_image image

-- The raw disk with these bytes, or the disk of the image with these bytes.
abbrev pub disk_in : Format → List ℕ → Disk
disk_in Format.Raw bytes = raw_disk bytes
disk_in Format.Qcow2 bytes = disk_alone (byte_at bytes)

-- The bytes are any bytes of a raw disk, or a consistent image.
abbrev pub HoldsDiskIn : Format → List ℕ → Type 0
HoldsDiskIn Format.Raw bytes = Unit {0}
HoldsDiskIn Format.Qcow2 bytes = IsConsistent (byte_at bytes)

-- The disk that a storage holds in a format.
abbrev pub disk_held : Format → StorageView → Disk
disk_held format storage = disk_in format storage.contents

abbrev pub HoldsDisk : Format → StorageView → Type 0
HoldsDisk format storage = HoldsDiskIn format storage.contents

-- The disk that an honest storage holds in a format was opened.
abbrev pub IsOpenedAs : Format → StorageView → SeenDisk → Type 0
IsOpenedAs format storage seen = storage.is_honest → HoldsDisk format storage → IsSeenAs (disk_held format storage) seen

-- The disk is on a storage that was only read so far, and nothing waits to be written there.
pub record LiesOn (storage : StorageView) (seen : SeenDisk) : Type 0 where
  pub written : seen.is_written
  pub quiet : IsKeptQuietly storage seen.storage

-- ---- the same bytes

-- Both disks have the same byte at each offset below this one, and none of these bytes is compressed.
abbrev pub AreSameBelow : Disk → Disk → ℕ → Type 0
AreSameBelow d e end = (o : ℕ) → o < end → (byte : ℕ) × (d.value o ≡ known_byte byte) × (e.value o ≡ known_byte byte)

-- The two disks have the same size, and the same bytes below it.
pub record AreSameDisks (d e : Disk) : Type 0 where
  pub size : d.size ≡ e.size
  pub bytes : AreSameBelow d e d.size

-- The first byte at which two disks of the same size differ.
pub record IsFirstDifference (d e : Disk) (at : ℕ) : Type 0 where
  pub size : d.size ≡ e.size
  pub within : at < d.size
  pub before : AreSameBelow d e at
  pub differs : d.value at ≢ e.value at

-- What a comparison says of two disks.
abbrev pub IsComparisonOf : Disk → Disk → Comparison → Type 0
IsComparisonOf d e C.Same = AreSameDisks d e
IsComparisonOf d e C.OtherSize = d.size ≢ e.size
IsComparisonOf d e (C.DiffersAt at) = IsFirstDifference d e at

-- What a comparison says of the disks on two honest storages, each in its format. Images are consistent.
abbrev pub IsComparisonIn : Format → StorageView → Format → StorageView → Comparison → Type 0
IsComparisonIn f v g w found = v.is_honest → w.is_honest → HoldsDisk f v → HoldsDisk g w → IsComparisonOf (disk_held f v) (disk_held g w) found

-- Both storages hold the same disk.
abbrev pub HoldsSameDisks : Format → StorageView → Format → StorageView → Type 0
HoldsSameDisks f v g w = v.is_honest → w.is_honest → HoldsDisk f v → HoldsDisk g w → AreSameDisks (disk_held f v) (disk_held g w)
