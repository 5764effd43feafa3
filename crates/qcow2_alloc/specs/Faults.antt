-- Counting I/O errors of the image's storage, in each call that reads or writes it.
use Rattle.std.specs.Prelude.{◌≡◌, ℕ, ◌≤◌, Result, IsErrOf}
use Rattle.image_access.specs.Moments.{StorageView, Rose, UnlessErr}
use Rattle.qcow2_alloc.specs.ImageStorage.{storage_of}
use Rattle.qcow2_alloc.specs.declared.error.ImageError.{ImageError}
use Rattle.qcow2_alloc.specs.declared.error.ImageError.TheVariants.{Storage}
use Rattle.qcow2_alloc.specs.declared.image_storage.ImageStorage.{ImageStorage}

-- The number of faults never falls. If a call is refused with an I/O error, the number rose, or is the greatest u64. Otherwise the number stays the same: every fault is reported.
pub record FaultsReported {T : Type 0} (before now : ℕ) (result : Result T ImageError) : Type 0 where
  pub no_fewer : before ≤ now
  pub rose : IsErrOf result Storage → Rose before now
  pub told : UnlessErr result Storage (now ≡ before)

module _ {S : Type 0} (view : S → StorageView) where
  -- How often the storage has failed. The counter stops at the greatest u64.
  abbrev pub faults_of : ImageStorage S → ℕ
  faults_of storage = (view (storage_of storage)).faults

  -- A call is refused with an I/O error exactly if it counted one.
  abbrev pub CountsFaults : {T : Type 0} → ImageStorage S → ImageStorage S → Result T ImageError → Type 0
  CountsFaults old new result = FaultsReported (faults_of old) (faults_of new) result
