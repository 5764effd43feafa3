-- The settings of a new image.
use Rattle.std.proofs.Common.{◌≡◌, false, refl}
use Rattle.image_access.specs.declared.storage.PreallocateMode.{PreallocateMode}
use Rattle.image_access.specs.declared.storage.PreallocateMode.TheVariants as Mode
use Rattle.std.specs.Prelude.{◌&&◌}
use Rattle.qcow2_image.specs.Created.{takes_clusters}

-- over no backing file none are taken
pub takes_over_none : (mode : PreallocateMode) → (takes_clusters mode && false) ≡ false
takes_over_none Mode.None = refl
takes_over_none Mode.Zero = refl
takes_over_none Mode.FormatAllocate = refl
takes_over_none Mode.FullAllocate = refl
takes_over_none Mode.WriteData = refl
