-- On a sound image the size that a guest sees is the header's, and no call is refused as on an unusable one.
use Rattle.std.proofs.Common.{◌≡◌, ◌∙◌, ◌&&◌, is_none, false, None, sym, ap, List, Option}
use Rattle.qcow2_image.proofs.Common.{option_or, BackingView, StorageView, has_data_file, guest_of, state_in, Qcow2, Prepared, size_of, lacks_data_file, abstract_of, pending_in, backing_bytes, refuse_if, unusable, Mappings}
use Rattle.qcow2_laws.proofs.Shown.{shown_size}
use Rattle.qcow2_alloc.specs.declared.error.ImageError.TheVariants as I
use Rattle.qcow2_image.proofs.Images.Places.{inside_of, by_place}

module _ {S F : Type 0} (view : S → StorageView) (backing : F → BackingView) (image : Qcow2 S F) (out : Mappings) (sound : (abstract_of view backing image out).is_sound) where
  pub disk_size : size_of image ≡ (guest_of (abstract_of view backing image out)).disk.size
  disk_size = by_place (λ (o : Mappings). size_of image ≡ (guest_of (abstract_of view backing image o)).disk.size) sound
      (λ slots. sym (shown_size (state_in view image.file (pending_in view backing image out)) sound.file.caches.kept.kept.crash_invariant (backing_bytes view backing image.backing)))

  has_no_data_file : lacks_data_file image ≡ false
  has_no_data_file = ap (λ bits. has_data_file (record image.file.header.fields { incompatible = bits }) && is_none image.data_file) (inside_of sound)

  pub sound_is_usable : unusable image ≡ None
  sound_is_usable =
      let failed : unusable image ≡ option_or (refuse_if false I.Failed) (refuse_if (lacks_data_file image) I.Dependency) = ap (λ b. option_or (refuse_if b I.Failed) (refuse_if (lacks_data_file image) I.Dependency)) sound.works in
      failed ∙ ap (λ b. refuse_if b I.Dependency) has_no_data_file
