-- The backing disk of an image, and what replacing it changes.
use Rattle.std.specs.Prelude.{ℕ, ◌≡◌, IsSome, List, Option, Some, slice_get}
use Rattle.image_access.specs.Backing.{BackingView}
use Rattle.image_access.specs.Moments.{StorageView}
use Rattle.qcow2_disk.specs.Disk.{disk}
use Rattle.qcow2_disk.specs.AbstractImages.{guest_of, stored_bytes}
use Rattle.qcow2_disk.specs.Calls.{with_disk}
use Rattle.qcow2_alloc.specs.ImageFile.{known_in}
use Rattle.qcow2_image.specs.declared.image.Qcow2.{Qcow2}
use Rattle.qcow2_image.specs.declared.prepared.Prepared.{Prepared}
use Rattle.qcow2_image.specs.Prepared.{table_of}
use Rattle.qcow2_image.specs.ImageInvariant.{abstract_of, backing_bytes, Mappings}

-- Some prepared mapping is pinned: it isn't existing, so its L2 table must stay as it is until the commit.
pub record HasPinnedMapping (out : Mappings) : Type 0 where
  pub place : ℕ
  pub mapping : Prepared
  pub there : slice_get out.slots place ≡ Some (Some mapping)
  pub pins : IsSome (table_of mapping)

-- The image is over this backing disk, and is sound. Its bytes, its mappings and its refcounts stay the same.
pub record IsOver {S F : Type 0} (view : S → StorageView) (backing : F → BackingView) (below : Option F) (old new : Qcow2 S F) (out : Mappings) : Type 0 where
  pub sound : (abstract_of view backing new out).is_sound
  pub guest : guest_of (abstract_of view backing new out) ≡ with_disk (guest_of (abstract_of view backing old out)) (disk (known_in view old.file) (backing_bytes view backing below))
  pub known : (abstract_of view backing new out).known ≡ (abstract_of view backing old out).known
  pub contents : stored_bytes (abstract_of view backing new out) ≡ stored_bytes (abstract_of view backing old out)
  pub surplus : (abstract_of view backing new out).surplus ≡ (abstract_of view backing old out).surplus
  pub leaks : (abstract_of view backing new out).leaked ≡ (abstract_of view backing old out).leaked
