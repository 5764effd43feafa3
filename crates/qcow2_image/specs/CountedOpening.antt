-- What opening an image says about failures of its storage.
use Rattle.std.specs.Prelude.{◌≡◌, ◌≢◌, ◌≤◌, ℕ, Result, Ok, Err, IfErr}
use Rattle.image_access.specs.Moments.{StorageView, Rose}
use Rattle.qcow2_alloc.specs.declared.error.ImageError.{ImageError}
use Rattle.qcow2_alloc.specs.declared.error.ImageError.TheVariants.{Storage}
use Rattle.qcow2_image.specs.declared.image.Qcow2.{Qcow2}
use Rattle.qcow2_image.specs.Opened.{storage_after}

-- Unless opening is refused with an I/O error, the number of faults stays the same.
abbrev pub OpeningReports : {S F : Type 0} → (S → StorageView) → ℕ → Result (Qcow2 S F) (S × ImageError) → Type 0
OpeningReports view before (Ok image) = (view (storage_after (Ok image))).faults ≡ before
OpeningReports view before (Err refused) = refused.1 ≢ Storage → (view refused.0).faults ≡ before

-- The number of faults never falls at opening. If opening is refused with an I/O error, the number rose, or is the greatest u64. Otherwise it stays the same.
pub record OpeningCounts {S F : Type 0} (view : S → StorageView) (before : ℕ) (result : Result (Qcow2 S F) (S × ImageError)) : Type 0 where
  pub no_fewer : before ≤ (view (storage_after result)).faults
  pub rose : IfErr result (λ refused. refused.1 ≡ Storage → Rose before (view refused.0).faults)
  pub told : OpeningReports view before result
