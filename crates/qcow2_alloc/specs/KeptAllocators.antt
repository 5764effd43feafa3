-- An allocator and its file.
use Rattle.image_access.specs.Moments.{StorageView}
use Rattle.qcow2_alloc.specs.ImageFile.{HasReftable}
use Rattle.qcow2_alloc.specs.LowestRuns.{NoFreeBelowHint}
use Rattle.qcow2_alloc.specs.declared.allocation.Allocator.{Allocator}
use Rattle.qcow2_alloc.specs.declared.image_file.ImageFile.{ImageFile}

-- The allocator's reftable is the one on the storage, and no cluster below its first free one is free.
pub record IsAllocatorOf {S : Type 0} (view : S → StorageView) (file : ImageFile S) (allocator : Allocator) : Type 0 where
  pub reftable : HasReftable view file allocator.reftable
  pub hint : NoFreeBelowHint view allocator file
