-- What is left of a list of clusters to be freed when some of them are freed.
use Rattle.std.specs.Prelude.{◌≡◌, ◌≤◌, List, Result}
use Rattle.image_access.specs.Moments.{StorageView}
use Rattle.qcow2_laws.specs.CrashInvariant.{Pending}
use Rattle.qcow2_alloc.specs.Allocation.{Frees, MayFree}
use Rattle.qcow2_alloc.specs.FreeList.{but, with_listed}
use Rattle.qcow2_alloc.specs.ImageError.{IsFault}
use Rattle.qcow2_alloc.specs.ImageFile.{AllocatorInvariant}
use Rattle.qcow2_alloc.specs.Leaks.{FreesOff, LeaksUnaligned}
use Rattle.qcow2_alloc.specs.Steps.{Fails, FreeStep, GivesSoundly}
use Rattle.qcow2_alloc.specs.declared.allocation.Allocator.{Allocator}
use Rattle.qcow2_alloc.specs.declared.clusters_to_free.ClusterKind.{ClusterKind}
use Rattle.qcow2_alloc.specs.declared.clusters_to_free.ClustersToFreeEntry.{ClustersToFreeEntry}
use Rattle.qcow2_alloc.specs.declared.error.ImageError.{ImageError}
use Rattle.qcow2_alloc.specs.declared.image_file.ImageFile.{ImageFile}

-- Clusters of one kind on a list are freed, and those that are not freed are on the new list. Entries of the other kind stay on it.
pub record FreesListed {S : Type 0} (view : S → StorageView) (kind : ClusterKind) (allocator : Allocator) (old : ImageFile S) (list : List ClustersToFreeEntry) (allocator' : Allocator) (new : ImageFile S) (list' : List ClustersToFreeEntry) (result : Result (Unit {0}) ImageError) : Type 0 where
  pub step : FreeStep view allocator.reftable old allocator'.reftable new
  pub fails : Fails view old.storage new.storage result IsFault
  pub others : but kind list' ≡ but kind list
  pub sound : (p : Pending) → AllocatorInvariant view allocator (with_listed p list) old → MayFree kind old
      → GivesSoundly view (Frees view (with_listed p list) old allocator' new (with_listed p list') result) allocator old allocator' new result
  pub grows : allocator.leaked_clusters ≤ allocator'.leaked_clusters
  pub unaligned : LeaksUnaligned old.header.fields allocator.reftable allocator allocator' list list'
  pub each : FreesOff old.header.fields allocator.reftable allocator old.caches list allocator' new.caches list' result
