-- The mappings of guest clusters after a growth, by preallocation mode.
use Rattle.std.specs.Prelude.{ℕ, ◌*◌, ◌≡◌, ◌<◌, ◌≤◌, true, false}
use Rattle.image_access.specs.declared.storage.PreallocateMode.{PreallocateMode}
use Rattle.image_access.specs.declared.storage.PreallocateMode.TheVariants as Mode
use Rattle.qcow2_metadata.specs.Bytes.{Bytes}
use Rattle.qcow2_metadata.specs.Cover.{cover}
use Rattle.qcow2_metadata.specs.declared.header.HeaderFields.{HeaderFields}
use Rattle.qcow2_metadata.specs.Header.{header, cluster_size, rounded_up}
use Rattle.qcow2_disk.specs.Calls.{shows_old, to_kept_zero}
use Rattle.qcow2_disk.specs.ClearedCovers.{cleared_cover}
use Rattle.qcow2_disk.specs.Mappings.{is_copied_data}
pub use Rattle.qcow2_disk.specs.UngivenCovers.{Touches}

-- The mappings after a range is filled. Of the guest clusters that the range touches, those from `first` on are explicit zeros, and those before it are copied data. All other mappings are the same.
pub record FilledCovers (size_of_cluster first from to : ℕ) (h : HeaderFields) (known : Bytes) (h' : HeaderFields) (known' : Bytes) : Type 0 where
  pub beside : (g : ℕ) → (Touches size_of_cluster from to g → ⊥) → cover h known g ≡ cover h' known' g
  pub zeros : (g : ℕ) → Touches size_of_cluster from to g → first ≤ g * size_of_cluster → cover h' known' g ≡ cleared_cover to_kept_zero (cover h known g)
  pub copied : (g : ℕ) → Touches size_of_cluster from to g → g * size_of_cluster < first → is_copied_data (cover h' known' g) ≡ true

-- The offset from which on a mode leaves zero clusters without data in the file: with mode `zero` the first cluster boundary at or past the old size, otherwise the end of the range.
abbrev pub first_zeros : (size_of_cluster old size : ℕ) → PreallocateMode → ℕ
first_zeros size_of_cluster old size Mode.None = rounded_up size_of_cluster size
first_zeros size_of_cluster old size Mode.Zero = rounded_up size_of_cluster old
first_zeros size_of_cluster old size Mode.FormatAllocate = rounded_up size_of_cluster size
first_zeros size_of_cluster old size Mode.FullAllocate = rounded_up size_of_cluster size
first_zeros size_of_cluster old size Mode.WriteData = rounded_up size_of_cluster size

-- The mappings after a growth. If the old bytes are to show, all mappings are the same. Otherwise the clusters from the old size to the end of the last cluster are filled.
pub record GrownCovers (mode : PreallocateMode) (old size : ℕ) (h : HeaderFields) (known : Bytes) (h' : HeaderFields) (known' : Bytes) : Type 0 where
  pub filled : shows_old mode ≡ false → FilledCovers (cluster_size h) (first_zeros (cluster_size h) old size mode) old (rounded_up (cluster_size h) size) h known h' known'
  pub same : shows_old mode ≡ true → (g : ℕ) → cover h known g ≡ cover h' known' g

-- The mappings after a growth, for images with their own headers. Nothing is claimed of a size that was not larger.
abbrev pub IsRightlyGrown : PreallocateMode → (size : ℕ) → (before after : Bytes) → Type 0
IsRightlyGrown mode size before after = (header before).size < size → GrownCovers mode (header before).size size (header before) before (header after) after
