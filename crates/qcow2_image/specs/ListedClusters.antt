-- The list of clusters to free after a range is prepared, and after a growth is refused.
use Rattle.std.specs.Prelude.{◌≡◌, ◌⊎◌}
use Rattle.image_access.specs.declared.storage.PreallocateMode.{PreallocateMode}
use Rattle.image_access.specs.declared.storage.PreallocateMode.TheVariants as M
use Rattle.qcow2_alloc.specs.declared.error.ImageError.{ImageError}
use Rattle.qcow2_alloc.specs.declared.error.ImageError.TheVariants.{Limit}
use Rattle.qcow2_image.specs.declared.image.Qcow2.{Qcow2}
use Rattle.qcow2_image.specs.Image.{HasNothingToFree}
use Rattle.qcow2_image.specs.InternalSteps.{ListGrows}
use Rattle.qcow2_image.specs.Refusals.{FreesRefused}

module _ {S F : Type 0} where
  -- The list of clusters to free stays the same.
  abbrev pub ListStays : Qcow2 S F → Qcow2 S F → Type 0
  ListStays old new = new.file.free_list ≡ old.file.free_list

  -- The list of clusters to free stays the same, or is empty.
  abbrev pub ListsNoMore : Qcow2 S F → Qcow2 S F → Type 0
  ListsNoMore old new = ListStays old new ⊎ HasNothingToFree new

  -- The list of clusters to free, the allocator and the reftable stay the same.
  pub record KeepsList (old new : Qcow2 S F) : Type 0 where
    pub allocator : new.allocator ≡ old.allocator
    pub list : new.file.free_list ≡ old.file.free_list

  -- What waits to be freed after a growth is refused: nothing, except after a fault and after 9. But if there was a limit (13) while the L1 table was replaced, the clusters that waited still do, and those of a reftable that was replaced wait with them. With mode `None` each limit is such a one.
  pub record LeavesListed (mode : PreallocateMode) (old new : Qcow2 S F) (e : ImageError) : Type 0 where
    pub freed : FreesRefused new e ⊎ ((e ≡ Limit) × ListGrows old new)
    pub unfilled : mode ≡ M.None → e ≡ Limit → ListGrows old new
