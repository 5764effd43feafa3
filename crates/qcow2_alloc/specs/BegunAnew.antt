-- An allocator whose reftable was just loaded again.
use Rattle.std.specs.Prelude.{◌≡◌, ℕ}
use Rattle.image_access.specs.Moments.{StorageView}
use Rattle.qcow2_alloc.specs.BehindHeader.{LeaveHeaderCluster}
use Rattle.qcow2_alloc.specs.SparedHeaders.{NamesReftableBehind, StandsBehindHeader}
use Rattle.qcow2_alloc.specs.ImageFile.{view_in, HasReftable}
use Rattle.qcow2_alloc.specs.LowestRuns.{IsPassed}
use Rattle.qcow2_alloc.specs.declared.allocation.Allocator.{Allocator}
use Rattle.qcow2_alloc.specs.declared.image_file.ImageFile.{ImageFile}

-- The search for free clusters starts at cluster 0, and no cluster is spared yet. The reftable is the one on an honest storage, and lies past cluster 0 if the header says so.
pub record BeginsAnew {S : Type 0} (view : S → StorageView) (old new : ImageFile S) (allocator : Allocator) : Type 0 where
  pub first : allocator.first_free_cluster ≡ 0
  pub passed : (k : ℕ) → ¬ IsPassed allocator k
  pub reftable : (view_in view old).is_honest → HasReftable view new allocator.reftable
  pub header_cluster : NamesReftableBehind old.header.fields → LeaveHeaderCluster old.header.fields.cluster_bits old.caches
      → StandsBehindHeader old.header.fields.cluster_bits allocator.reftable new
