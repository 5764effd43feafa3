-- The disk of an image that is resized.
use Rattle.std.specs.Prelude.{ℕ, ◌≡◌, ◌⊎◌, ◌<◌, ◌≤◌, false, List, Option}
use Rattle.image_access.specs.Backing.{BackingView}
use Rattle.image_access.specs.Moments.{StorageView}
use Rattle.image_access.specs.declared.storage.PreallocateMode.{PreallocateMode}
use Rattle.qcow2_metadata.specs.Bytes.{Bytes}
use Rattle.qcow2_metadata.specs.Consistent.{IsConsistent}
use Rattle.qcow2_metadata.specs.Guest.{known_byte}
use Rattle.qcow2_disk.specs.AbstractImages.{guest_of, stored_bytes}
use Rattle.qcow2_disk.specs.Calls.{shows_old}
use Rattle.qcow2_disk.specs.Disk.{Disk, disk}
use Rattle.qcow2_metadata.specs.Header.{header}
use Rattle.qcow2_image.specs.Image.{size_of}
use Rattle.qcow2_image.specs.ImageInvariant.{abstract_of, backing_bytes, disk_of, Mappings}
use Rattle.qcow2_image.specs.declared.image.Qcow2.{Qcow2}
use Rattle.qcow2_image.specs.declared.prepared.Prepared.{Prepared}
use Rattle.qcow2_image.specs.declared.mapping.Place.TheVariants.{Image}

-- The new disk has this size, and the old bytes below both sizes. Behind the old end it is zeros, unless the mode leaves what is there.
pub record IsResizedDisk (old : Disk) (size : ℕ) (mode : PreallocateMode) (new : Disk) : Type 0 where
  pub size_is : new.size ≡ size
  pub kept : (o : ℕ) → o < old.size → o < size → new.value o ≡ old.value o
  pub zeros : shows_old mode ≡ false → (o : ℕ) → old.size ≤ o → o < size → new.value o ≡ known_byte 0
  pub left : (o : ℕ) → old.size ≤ o → o < size → (new.value o ≡ old.value o) ⊎ (new.value o ≡ known_byte 0)

module _ {S F : Type 0} (view : S → StorageView) (backing : F → BackingView) where
  -- What a stop may leave while a disk is resized: a consistent image of the old size or the new one, with the old bytes below both.
  pub record IsStopOfResizing (size : ℕ) (old : Qcow2 S F) (image : Bytes) : Type 0 where
    pub consistent : IsConsistent image
    pub size_is : ((header image).size ≡ size_of old) ⊎ ((header image).size ≡ size)
    pub kept : (o : ℕ) → o < size_of old → o < size → (disk image (backing_bytes view backing old.backing)).value o ≡ (disk_of view backing Image old).value o

  -- A sound image is still sound, its disk is resized, and everything is on the storage.
  abbrev pub Resizes : ℕ → PreallocateMode → Qcow2 S F → Qcow2 S F → Type 0
  Resizes size mode old new = (out : Mappings) → let v = abstract_of view backing old out in let w = abstract_of view backing new out in
      v.is_sound → w.is_sound × IsResizedDisk (guest_of v).disk size mode (guest_of w).disk × (w.known ≡ stored_bytes w)
