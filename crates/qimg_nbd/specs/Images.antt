-- An image as a block device.
use Rattle.std.specs.Prelude.{ℕ, ◌≡◌, false, true, [], Option, Some, None, Ok, not}
use Rattle.image_access.specs.Backing.{BackingView}
use Rattle.image_access.specs.Moments.{StorageView}
use Rattle.qcow2_metadata.specs.Guest.{Value, known_byte, compressed_byte}
use Rattle.qcow2_disk.specs.AbstractImages.{guest_of}
use Rattle.qcow2_alloc.specs.ImageFile.{view_in}
use Rattle.qcow2_alloc.specs.declared.error.ImageError.{ImageError}
use Rattle.qcow2_alloc.specs.declared.error.ImageError.TheVariants as I
use Rattle.qcow2_image.specs.declared.image.Qcow2.{Qcow2}
use Rattle.qcow2_image.specs.declared.mapping.MappingKind.{MappingKind}
use Rattle.qcow2_image.specs.declared.mapping.MappingKind.TheVariants as M
use Rattle.qcow2_image.specs.Calls.{AnswersCall, FlushesImage}
use Rattle.qcow2_image.specs.Image.{is_failed, is_writable}
use Rattle.qcow2_image.specs.ImageInvariant.{abstract_of, in_image}
use Rattle.qcow2_image.specs.ImageSteps.{ReadingCall}
use Rattle.qcow2_image.specs.Unwritten.{ContentsStayThroughout}
use Rattle.nbd_protocol.specs.Devices.{DeviceView}
use Rattle.nbd_protocol.specs.declared.device.Errno.{Errno}
use Rattle.nbd_protocol.specs.declared.device.Errno.TheVariants as E
use Rattle.nbd_protocol.specs.declared.device.State.{State}
use Rattle.nbd_protocol.specs.declared.device.State.TheVariants as Run

-- The byte of a value, if it can be read.
abbrev pub byte_of : Value → Option ℕ
byte_of (known_byte b) = Some b
byte_of (compressed_byte bytes place) = None

-- The device of an image: the disk of its guest, while no mapping is prepared.
abbrev pub device_of : {S F : Type 0} → (S → StorageView) → (F → BackingView) → Qcow2 S F → DeviceView
device_of view backing image = let v = abstract_of view backing image (in_image []) in record {
  is_sound = v.is_sound;
  is_failed = is_failed image;
  is_read_only = not (is_writable image);
  size = (guest_of v).disk.size;
  value = λ o. byte_of ((guest_of v).disk.value o);
  unit = v.setting.cluster_size;
}

-- The error that a client is sent for a refusal: a read-only image, a range beyond the size, no room, no memory, or any other.
abbrev pub error_of : ImageError → Errno
error_of I.ReadOnly = E.NotPermitted
error_of I.BeyondSize = E.Invalid
error_of I.Limit = E.NoSpace
error_of I.Memory = E.NoMemory
error_of e = E.Io

-- The state for the mapping of a run. Zero clusters may be allocated.
abbrev pub told_state : MappingKind → State
told_state (M.Zero true) = Run.Zero
told_state (M.Zero false) = Run.Hole
told_state kind = Run.Data

module _ {S F : Type 0} (view : S → StorageView) (backing : F → BackingView) (old new : Qcow2 S F) where
  -- A flush that succeeded, by the contract of the image: the image had not failed, and everything known is on its storage.
  pub record Flushes : Type 0 where
    pub usable : is_failed old ≡ false
    pub flushes : FlushesImage view backing old new (Ok (tt {0}))

  -- A sync that succeeded, by the contract of the image: the image had not failed, it reads as before, and an honest storage kept its contents all the time.
  pub record Syncs : Type 0 where
    pub usable : is_failed old ≡ false
    pub step : ReadingCall view backing {T = Unit {0}} old new (Ok (tt {0}))
    pub silent : (view_in view old.file).is_honest → ContentsStayThroughout (view_in view old.file) (view_in view new.file)
    pub sees : AnswersCall view backing old new [] (λ done was is. is ≡ was) (Ok (tt {0}))
