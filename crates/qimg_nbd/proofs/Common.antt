-- The names that several proofs cite, passed on from one place. Declares nothing.
pub use Rattle.std.proofs.Common.{[], List, inl, inr, ℕ, Bool, true, false, Some, refl, sym, ap, subst, ◌∙◌, arith, length, min, Option, None, Result, Ok, Err, take, is_some, add-mul, mul_assoc}
pub use Rattle.std.proofs.lemmas.Bool.{cases_lt, cases_eq, cond-false, cond-true, eq-eqb, le-ltb, lt-ltb, ne_eqb}
pub use Rattle.std.specs.Prelude.{IsTrue, nat_lt, IfSome, not, nat_eq}
pub use Rattle.image_access.specs.Backing.{BackingView}
pub use Rattle.image_access.specs.Moments.{StorageView}
pub use Rattle.nbd_protocol.specs.Devices.{DeviceView, AreUnits, Stays, Fails, IsFault, IsSameDevice, RefusesToChange, RefusesToRead, Clears, MayWrite, Shows, Writes, Tells, is_zeros}
pub use Rattle.qcow2_alloc.specs.ImageFile.{known_in, state_in}
pub use Rattle.qcow2_disk.specs.AbstractImages.{Guest, guest_of, AbstractImage, Setting}
pub use Rattle.qcow2_disk.specs.Calls.{AnsweredEffect, Clearing, CallEffect, IsSame, Refusal, RefusedEffect, WritesSome, another, memory, not_compressed, storage, with_disk, to_zero, to_kept_zero}
pub use Rattle.qcow2_disk.specs.Rules.{answered, touched_from, touched_to}
pub use Rattle.qcow2_image.proofs.Images.HiddenBytes.{header_is}
pub use Rattle.qcow2_image.specs.Image.{is_failed, size_of, IsSameImage, lacks_data_file, is_writable}
pub use Rattle.qcow2_image.specs.ImageInvariant.{abstract_of, ImageInvariant, backing_bytes, disk_of, pending_in}
pub use Rattle.qcow2_image.specs.declared.image.Qcow2.{Qcow2}
pub use Rattle.qcow2_metadata.specs.Guest.{known_byte}
pub use Rattle.qcow2_metadata.specs.Header.{cluster_size, rounded_down, rounded_up}
pub use Rattle.qcow2_metadata.specs.declared.header.HeaderFields.{HeaderFields}
pub use Rattle.qimg_nbd.specs.Images.{device_of, byte_of, error_of, told_state}
