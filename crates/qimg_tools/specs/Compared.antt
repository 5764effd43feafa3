-- The exit status of a comparison.
use Rattle.std.specs.Prelude.{ℕ, ◌≡◌, ◌≤◌}
use Rattle.image_access.specs.Moments.{StorageView}
use Rattle.image_access.specs.declared.storage.Format.{Format}
use Rattle.program_parts.specs.Disks.{AreSameDisks, HoldsDisk, disk_held}
use Rattle.program_parts.specs.declared.comparing.Comparison.{Comparison}
use Rattle.program_parts.specs.declared.comparing.Comparison.TheVariants as C

abbrev pub status_of_comparison : Comparison → ℕ
status_of_comparison C.Same = 0
status_of_comparison C.OtherSize = 1
status_of_comparison (C.DiffersAt at) = 1

-- What a status says of the disks on two honest storages, each in its format.
pub record SaysOfDisks (f : Format) (v : StorageView) (g : Format) (w : StorageView) (status : ℕ) : Type 0 where
  pub same : status ≡ 0 → AreSameDisks (disk_held f v) (disk_held g w)
  pub differ : status ≡ 1 → ¬ AreSameDisks (disk_held f v) (disk_held g w)
  pub bound : status ≤ 1

abbrev pub IsStatusOfComparison : Format → StorageView → Format → StorageView → ℕ → Type 0
IsStatusOfComparison f v g w status = v.is_honest → w.is_honest → HoldsDisk f v → HoldsDisk g w → SaysOfDisks f v g w status
