-- What is on a storage after an image was made from a raw disk, or a raw disk from an image.
use Rattle.std.specs.Prelude.{ℕ, ◌≡◌, ◌⊎◌, ◌*◌, ◌/◌, ◌≤◌, false, IsErrAnd, IsTrue, length, List, [], Result, IsErrOf, None}
use Rattle.image_access.specs.Moments.{StorageView, Rose, UnlessErr}
use Rattle.image_access.specs.declared.storage.PreallocateMode.TheVariants as Mode
use Rattle.qcow2_metadata.specs.Bytes.{Bytes, byte_at}
use Rattle.qcow2_metadata.specs.Consistent.{IsConsistent}
use Rattle.qcow2_metadata.specs.Header.{header, cluster_size, count_width}
use Rattle.qcow2_metadata.specs.declared.header.HeaderFields.{HeaderFields}
use Rattle.qcow2_disk.specs.Disk.{Disk, disk}
use Rattle.qcow2_disk.specs.Stops.{checkpoint_at, LeavesKept}
use Rattle.qcow2_laws.specs.Opened.{HasNoLeaks}
use Rattle.qcow2_image.specs.Created.{begins_image, IsAllowed, IsReasonNotToCreateOpen}
use Rattle.qcow2_image.specs.Image.{is_writable, storage_of_image}
use Rattle.qcow2_image.specs.MayFail.{HasCompressedIn}
use Rattle.qcow2_image.specs.Readable.{IsReadable, IsJustifiedRefusal}
use Rattle.qcow2_image.specs.declared.builder.NoBacking.{NoBacking}
use Rattle.qcow2_image.specs.declared.builder.Qcow2CreateBuilder.{Qcow2CreateBuilder}
use Rattle.qcow2_image.specs.declared.image.Missing.TheVariants as Missing
use Rattle.qcow2_image.specs.declared.image.Qcow2.{Qcow2}
use Rattle.qcow2_alloc.specs.ImageError.{IsFault}
use Rattle.qcow2_alloc.specs.declared.error.ImageError.{ImageError}
use Rattle.qcow2_alloc.specs.declared.error.ImageError.TheVariants.{Compressed, Storage}
use Rattle.qcow2_session.specs.Conversions.{MayFailImporting, IsRawOf}
use Rattle.qcow2_session.specs.Sessions.{IsOfReading}
use Rattle.qcow2_image.specs.ImageInvariant.{in_image}

-- Without a backing disk, unmapped clusters show zeros.
abbrev pub zeros_below : Bytes
zeros_below = λ o. 0

-- The disk of an image without a backing disk.
abbrev pub disk_alone : Bytes → Disk
disk_alone image = disk image zeros_below

-- An honest storage holds a consistent image whose disk has these bytes.
pub record HasDisk (storage : StorageView) (bytes : List ℕ) : Type 0 where
  pub honest : storage.is_honest
  pub consistent : IsConsistent (byte_at storage.contents)
  pub is_disk : IsRawOf (disk_alone (byte_at storage.contents)) bytes

-- The image also has this cluster size and this refcount width, and no leaks.
pub record IsImageOf (storage : StorageView) (bytes : List ℕ) (cluster width : ℕ) : Type 0 where
  pub has_disk : HasDisk storage bytes
  pub clusters : cluster_size (header (byte_at storage.contents)) ≡ cluster
  pub counts : count_width (header (byte_at storage.contents)) ≡ width
  pub no_leaks : HasNoLeaks (byte_at storage.contents)

-- The bytes of the disk that the L1 table has entries for.
abbrev pub reach_of : HeaderFields → ℕ
reach_of h = cluster_size h * cluster_size h / 8 * h.l1_entries

-- A consistent image with a disk of n bytes.
pub record IsImageOfSize (n : ℕ) (b : Bytes) : Type 0 where
  pub consistent : IsConsistent b
  pub size : (header b).size ≡ n

-- The number of bytes that were converted: the size of an honest raw disk, and the size of an opened image's disk.
pub record CountsBytes (raw : StorageView) (is_opened : Type 0) (size n : ℕ) : Type 0 where
  pub raw_disk : raw.is_honest → n ≡ length raw.contents
  pub disk : is_opened → n ≡ size

-- An image that was made from a raw disk: consistent, with a disk of n bytes, whatever was read. If the raw disk is honest, its bytes were.
pub record IsImageMade (raw : StorageView) (n : ℕ) (storage : StorageView) (cluster width : ℕ) : Type 0 where
  pub honest : storage.is_honest
  pub image : IsImageOfSize n (byte_at storage.contents)
  pub disk : raw.is_honest → IsImageOf storage raw.contents cluster width

-- What a stop may leave while an image with a disk of n bytes is made: no image at all, or a consistent image of size 0 or n.
abbrev pub IsStopOfMaking : ℕ → Bytes → Type 0
IsStopOfMaking n b = (begins_image b ≡ false) ⊎ (IsImageOfSize 0 b ⊎ IsImageOfSize n b)

-- The n bytes of the raw disk are those of the image's disk.
pub record IsExport (image : List ℕ) (n : ℕ) (raw : List ℕ) : Type 0 where
  pub count : n ≡ length raw
  pub is_disk : IsRawOf (disk_alone (byte_at image)) raw

-- The image on the storage is still consistent, and its disk, its header extensions and its names are the same.
abbrev pub KeepsDisk : StorageView → StorageView → Type 0
KeepsDisk old new = LeavesKept zeros_below (checkpoint_at (disk_alone (byte_at old.contents)) (byte_at old.contents)) new

-- The numbers of faults of the image's storage and of the raw disk never fall. If the call is refused with an I/O error, one of them rose, or is the greatest u64. Otherwise both stay the same: every fault is reported.
pub record CountsBoth {T : Type 0} (before now raw_before raw_now : ℕ) (result : Result T ImageError) : Type 0 where
  pub no_fewer : before ≤ now
  pub raw : raw_before ≤ raw_now
  pub rose : IsErrOf result Storage → Rose before now ⊎ Rose raw_before raw_now
  pub told : UnlessErr result Storage ((now ≡ before) × (raw_now ≡ raw_before))

-- ---- why an image is not made from a raw disk

-- The settings of the new image: the size n, no preallocation, this cluster size and this refcount width.
abbrev pub asked_for : {S : Type 0} → S → (n cluster width : ℕ) → Qcow2CreateBuilder S
asked_for storage n cluster width = record { image = storage; size = n; preallocate = Mode.None; cluster_size = cluster; refcount_width = width; backing_name = None; backing_format = None; data_file_name = None; data_file = None }

-- Images may have this cluster size and this refcount width.
abbrev pub IsLayout : (cluster width : ℕ) → Type 0
IsLayout cluster width = IsAllowed (asked_for {S = Unit {0}} tt 0 cluster width)

-- Refused for this reason, or 14 or 15 because the raw disk does not return its size. The storage is returned unchanged.
abbrev pub IsRefusedUntouched : {S : Type 0} → ImageError → S → S × Result ℕ ImageError → Type 0
IsRefusedUntouched reason storage answer = (answer.0 ≡ storage) × IsErrAnd answer.1 (λ e. (e ≡ reason) ⊎ IsFault e)

-- The storage that is returned holds a consistent image of size n, and copying the raw disk into it was refused for this reason.
pub record MayFailOnceCreated {S : Type 0} (view : S → StorageView) (n : ℕ) (storage : S) (e : ImageError) : Type 0 where
  pub left : Qcow2 S NoBacking
  pub is_left : storage_of_image left ≡ storage
  pub writable : IsTrue (is_writable left)
  pub stands : IsImageOfSize n (byte_at (view storage).contents)
  pub may_fail : MayFailImporting view 0 n left (in_image []) e

-- Why the image is not made, if the raw disk keeps its size: it is not created and opened, or copying into it is refused.
abbrev pub IsReasonNotToMake : {S : Type 0} → (S → StorageView) → Qcow2CreateBuilder S → S → ImageError → Type 0
IsReasonNotToMake view builder storage e = IsReasonNotToCreateOpen view builder (storage, e) ⊎ MayFailOnceCreated view builder.size storage e

-- ---- why a raw disk is not made from an image

-- The contents can be opened for reading without another file.
abbrev pub OpensToExport : List ℕ → Type 0
OpensToExport contents = IsReadable contents false Missing.OtherFiles

-- Opening is refused for this reason, and the target of the disk is unchanged.
abbrev pub IsUnopened : {R : Type 0} → List ℕ → (old new : R) → ImageError → Type 0
IsUnopened contents old new e = IsJustifiedRefusal contents false Missing.OtherFiles e × (new ≡ old)

-- Why reading the whole disk of a consistent image is refused: a fault of one of the storages; or 7, if some guest cluster of it is compressed.
abbrev pub MayFailReadingDisk : Bytes → ImageError → Type 0
MayFailReadingDisk b e = IsFault e ⊎ ((e ≡ Compressed) × HasCompressedIn 0 (header b).size (header b) b)

-- The image was opened, and exporting its disk was refused for this reason. For an image that is not consistent, any refusal of a read is possible.
pub record MayFailExporting (contents : List ℕ) (e : ImageError) : Type 0 where
  pub opens : OpensToExport contents
  pub of_reading : IsOfReading e
  pub may_fail : IsConsistent (byte_at contents) → MayFailReadingDisk (byte_at contents) e
