-- What `create` does to its storage.
use Rattle.std.specs.Prelude.{◌≡◌, ℕ, None}
use Rattle.image_access.specs.Moments.{StorageView}
use Rattle.image_access.specs.declared.storage.PreallocateMode.{PreallocateMode}
use Rattle.qcow2_image.specs.Created.{IsAllowed, IsCreated, StopsCreating}
use Rattle.qcow2_image.specs.declared.builder.Qcow2CreateBuilder.{Qcow2CreateBuilder}
use Rattle.qimg.specs.declared.words.Invocation.{Invocation}
use Rattle.qimg.specs.declared.words.Invocation.TheVariants as I

-- The builder of an image with this size, cluster size, refcount width and mode.
abbrev pub builder_on : {S : Type 0} → S → ℕ → ℕ → ℕ → PreallocateMode → Qcow2CreateBuilder S
builder_on image size cluster width mode = record { image = image; size = size; preallocate = mode; cluster_size = cluster; refcount_width = width; backing_name = None; backing_format = None; data_file_name = None; data_file = None }

-- Status 0: the words asked for an image, and on an honest storage the new image is there.
abbrev pub HasCreated : {S : Type 0} → (S → StorageView) → S → S → Invocation → Type 0
HasCreated view old new (I.Create file size cluster width mode) = (view old).is_honest → IsCreated (builder_on old size cluster width mode) (view new)
HasCreated view old new _ = ⊥

-- Whatever the status is: the storage is unchanged if the words ask for no image, or for an impossible one. Otherwise a stop at any moment leaves what a stop of creating may.
abbrev pub CreatesOrLeaves : {S : Type 0} → (S → StorageView) → S → S → Invocation → Type 0
CreatesOrLeaves view old new (I.Create file size cluster width mode) =
    (¬ IsAllowed (builder_on old size cluster width mode) → new ≡ old) × ((view old).is_honest → StopsCreating mode size (view old) (view new))
CreatesOrLeaves view old new _ = new ≡ old
