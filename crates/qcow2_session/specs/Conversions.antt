-- Conversions: the disk of an image is made equal to a raw disk, or a raw disk to the disk of an image.
use Rattle.std.specs.Prelude.{ℕ, false, ◌%◌, ◌≡◌, ◌⊎◌, ◌≤◌, ◌<◌, IsTrue, List, [], ◌∷◌, length, Option, Some, Result, Ok, Err}
use Rattle.image_access.specs.Backing.{BackingView}
use Rattle.image_access.specs.Moments.{StorageView, Rose}
use Rattle.qcow2_metadata.specs.Bytes.{byte_at}
use Rattle.qcow2_metadata.specs.Guest.{known_byte}
use Rattle.qcow2_disk.specs.Disk.{Disk}
use Rattle.qcow2_disk.specs.Stops.{GivenBytes}
use Rattle.qcow2_disk.specs.Mappings.{given_of}
use Rattle.qcow2_disk.specs.AbstractImages.{Guest, AbstractImage, guest_of, stored_bytes}
use Rattle.qcow2_disk.specs.Calls.{Refusal, IsRefusalByFault, CallEffect, AnsweredEffect, IsSame, Shows, MayWrite}
use Rattle.qcow2_alloc.specs.ImageFile.{known_in}
use Rattle.qcow2_alloc.specs.declared.error.ImageError.{ImageError}
use Rattle.qcow2_alloc.specs.declared.error.ImageError.TheVariants.{Compressed, InUse, InvalidOption, Limit, Memory, Overflow, ReadOnly, Storage, TablePrepared}
use Rattle.qcow2_image.specs.declared.image.Qcow2.{Qcow2}
use Rattle.qcow2_image.specs.declared.prepared.Prepared.{Prepared}
use Rattle.qcow2_image.specs.Backings.{HasPinnedMapping}
use Rattle.qcow2_image.specs.Calls.{refusal_of}
use Rattle.qcow2_image.specs.Image.{is_writable, size_of}
use Rattle.qcow2_image.specs.Limits.{IsLimited}
use Rattle.qcow2_image.specs.MayFail.{HasCompressedIn}
use Rattle.qcow2_image.specs.Preallocation.{IsUnderMappingIn}
use Rattle.qcow2_image.specs.Refusals.{IsFaultOrLimit, MayFail}
use Rattle.qcow2_image.specs.ImageInvariant.{abstract_of, Mappings}
use Rattle.qcow2_session.specs.Sessions.{HasWritten, IsOfWriting, cluster_size_of}

-- The bytes are those of the disk, up to its size.
abbrev pub IsRawOf : Disk → List ℕ → Type 0
IsRawOf d bytes = (length bytes ≡ d.size) × Shows d 0 bytes

-- An honest storage keeps its contents.
abbrev pub IsLeft : StorageView → StorageView → Type 0
IsLeft old new = old.is_honest → new.is_honest × (new.contents ≡ old.contents)

-- Unequal sizes are refused as an invalid option (5), unless a check fails before or the raw disk does not return its size. That happens when memory runs out or when it fails and counts a fault. The numbers are its faults before and after.
abbrev pub IsRefusedUnequal : Option ImageError → (before now : ℕ) → Result ℕ ImageError → Type 0
IsRefusedUnequal early before now (Ok n) = ⊥
IsRefusedUnequal early before now (Err e) = (early ≡ Some e) ⊎ ((e ≡ InvalidOption) ⊎ ((e ≡ Memory) ⊎ ((e ≡ Storage) × Rose before now)))

-- The refusals of an import: those of a write, and 5 for unequal sizes.
abbrev pub IsOfImporting : ImageError → Type 0
IsOfImporting e = IsOfWriting e ⊎ (e ≡ InvalidOption)

-- Why importing a range into a sound image is refused: a fault; a limit; 1, if the image was opened for reading; 20; 7, if some guest cluster that the range touches is compressed at the moment of the refusal;
-- or 8 or 9, if a mapping is pinned.
abbrev pub MayFailImporting : {S F : Type 0} → (S → StorageView) → (from to : ℕ) → Qcow2 S F → Mappings → ImageError → Type 0
MayFailImporting view from to new out e =
    IsFaultOrLimit e
    ⊎ (((e ≡ ReadOnly) × (is_writable new ≡ false)) ⊎ ((e ≡ Overflow) ⊎ (((e ≡ Compressed) × HasCompressedIn from to new.file.header.fields (known_in view new.file)) ⊎ (((e ≡ InUse) ⊎ (e ≡ TablePrepared)) × HasPinnedMapping out))))

-- The refusal is 1 or 9: the range may not be written.
abbrev pub IsKeptFromWriting : ImageError → Type 0
IsKeptFromWriting e = (e ≡ ReadOnly) ⊎ (e ≡ TablePrepared)

-- The conversion was refused, by the image or by the raw disk. The image is sound and `still` holds, or the image failed, by a fault.
pub record RefusedConversion (old new : AbstractImage) (given : List GivenBytes) (e : Refusal) (still : Type 0) : Type 0 where
  pub acts : CallEffect old new given []
  pub answer : old.is_sound → (new.is_sound × still) ⊎ (IsRefusalByFault e × IsTrue new.is_failed)

-- The disk has the first n bytes, where n is a cluster boundary or all of them. After a failed allocation, any of the bytes after them may be there too.
abbrev pub HasSome : ℕ → List ℕ → Refusal → Guest → Guest → Type 0
HasSome size bytes e old new = (n : ℕ) × ((n % size ≡ 0) ⊎ (n ≡ length bytes)) × MayWrite e old 0 bytes n new

module _ {S F : Type 0} (view : S → StorageView) (backing : F → BackingView) (old new : Qcow2 S F) where
  -- The disk has all bytes of a raw disk, nothing else changed, and everything is on the storage; or the import was refused half-way.
  abbrev pub Imports : List ℕ → Result ℕ ImageError → Type 0
  Imports bytes (Ok n) = (out : Mappings) → let v = abstract_of view backing old out in let w = abstract_of view backing new out in
      AnsweredEffect v w (given_of 0 bytes ∷ []) [] ((n ≡ length bytes) × IsRawOf (guest_of w).disk bytes × HasWritten 0 bytes (guest_of v) (guest_of w) × (w.known ≡ stored_bytes w))
  Imports bytes (Err e) = (out : Mappings) → let v = abstract_of view backing old out in let w = abstract_of view backing new out in
      RefusedConversion v w (given_of 0 bytes ∷ []) (refusal_of e) (HasSome (cluster_size_of old) bytes (refusal_of e) (guest_of v) (guest_of w))

  -- The disk has all bytes of a raw disk, before the flush; or the import was refused half-way.
  abbrev pub ImportsAll : List ℕ → Result (Unit {0}) ImageError → Type 0
  ImportsAll bytes (Ok _) = (out : Mappings) → let v = abstract_of view backing old out in let w = abstract_of view backing new out in
      AnsweredEffect v w (given_of 0 bytes ∷ []) [] (HasWritten 0 bytes (guest_of v) (guest_of w))
  ImportsAll bytes (Err e) = Imports bytes (Err e)

  -- A range of the disk has the bytes of a raw disk. If it lies within a cluster, a refusal leaves it unchanged.
  abbrev pub ImportsAt : ℕ → List ℕ → Result (Unit {0}) ImageError → Type 0
  ImportsAt at bytes (Ok _) = (out : Mappings) → let v = abstract_of view backing old out in let w = abstract_of view backing new out in
      AnsweredEffect v w (given_of at bytes ∷ []) [] (HasWritten at bytes (guest_of v) (guest_of w))
  ImportsAt at bytes (Err e) = (out : Mappings) → let v = abstract_of view backing old out in let w = abstract_of view backing new out in
      RefusedConversion v w (given_of at bytes ∷ []) (refusal_of e) (at % cluster_size_of old ≡ 0 → length bytes ≤ cluster_size_of old → MayWrite (refusal_of e) (guest_of v) at bytes 0 (guest_of w))

  -- Whatever the raw disk is, the disk gets the bytes that were read, as many as its size.
  abbrev pub ImportsAny : Result ℕ ImageError → Type 0
  ImportsAny result = (bytes : List ℕ) × (length bytes ≡ size_of old) × Imports bytes result

  -- The disk gets some bytes, of this number, before the flush.
  abbrev pub ImportsAnyOf : ℕ → Result (Unit {0}) ImageError → Type 0
  ImportsAnyOf size result = (bytes : List ℕ) × (length bytes ≡ size) × ImportsAll bytes result

  -- A range of the disk gets some bytes.
  abbrev pub ImportsAnyAt : (at n : ℕ) → Result (Unit {0}) ImageError → Type 0
  ImportsAnyAt at n result = (bytes : List ℕ) × (length bytes ≡ n) × ImportsAt at bytes result

  -- Why a range that may be read is not written: a cause that comes during the work, or a limit; or the image was opened for reading; or a mapping is pinned in an L2 table of the range.
  abbrev pub IsReasonNotToWrite : (from to : ℕ) → Mappings → ImageError → Type 0
  IsReasonNotToWrite from to out e =
      (MayFail e × (e ≡ Limit → (given : List GivenBytes) × IsLimited view backing given to old out)) ⊎ (((e ≡ ReadOnly) × (is_writable old ≡ false)) ⊎ ((e ≡ TablePrepared) × IsUnderMappingIn old.file.header.fields from to out))

  -- The guest sees what it saw before.
  abbrev pub IsUnchanged : {A : Type 0} → Result A ImageError → Type 0
  IsUnchanged (Ok a) = (out : Mappings) → let v = abstract_of view backing old out in let w = abstract_of view backing new out in AnsweredEffect v w [] [] (IsSame v w)
  IsUnchanged (Err e) = (out : Mappings) → let v = abstract_of view backing old out in let w = abstract_of view backing new out in RefusedConversion v w [] (refusal_of e) (IsSame v w)

-- A raw disk of this size has the bytes of the disk up to `at`, and zeros after them.
pub record IsFilledUpTo (d : Disk) (size at : ℕ) (bytes : List ℕ) : Type 0 where
  pub long : length bytes ≡ size
  pub front : (o : ℕ) → o < at → d.value o ≡ known_byte (byte_at bytes o)
  pub behind : (o : ℕ) → at ≤ o → byte_at bytes o ≡ 0

module _ {S F : Type 0} (view : S → StorageView) (backing : F → BackingView) (old : Qcow2 S F) where
  -- A raw disk is filled further.
  abbrev pub Fills : ℕ → ℕ → List ℕ → List ℕ → Type 0
  Fills from to bytes bytes' = (out : Mappings) → let v = abstract_of view backing old out in
      v.is_sound → (size : ℕ) → to ≤ size → IsFilledUpTo (guest_of v).disk size from bytes → IsFilledUpTo (guest_of v).disk size to bytes'

  -- On a sound image, bytes are refused 1 or 9 only if the disk does not have them there already.
  abbrev pub DiffersWhereKept : (at : ℕ) → List ℕ → ImageError → Type 0
  DiffersWhereKept at bytes e = (out : Mappings) → let v = abstract_of view backing old out in v.is_sound → IsKeptFromWriting e → ¬ Shows (guest_of v).disk at bytes

  -- A raw disk has all bytes of the disk.
  abbrev pub Exports : List ℕ → ℕ → Type 0
  Exports bytes n = (out : Mappings) → let v = abstract_of view backing old out in v.is_sound → (n ≡ length bytes) × IsRawOf (guest_of v).disk bytes
