-- Clusters that a call allocates: those that it was asked for, and those of new refblocks and reftables.
use Rattle.std.specs.Prelude.{ℕ, ◌+◌, ◌-◌, ◌*◌, ◌/◌, ◌^◌, ◌<◌, ◌≤◌, ◌≡◌, ◌⊎◌, List, [], ◌∷◌, Option, Some, None, Result, Ok, Err}
use Rattle.image_access.specs.Moments.{StorageView}
use Rattle.qcow2_metadata.specs.declared.header.HeaderFields.{HeaderFields}
use Rattle.qcow2_metadata.specs.Entries.{count}
use Rattle.qcow2_metadata.specs.EntryTable.{EntryTableView, entry_count}
use Rattle.qcow2_alloc.specs.Allocation.{run_at, NamesBlock}
use Rattle.qcow2_alloc.specs.FreeList.{run_of}
use Rattle.qcow2_alloc.specs.GrownTables.{reftable_at}
use Rattle.qcow2_alloc.specs.ImageFile.{known_in}
use Rattle.qcow2_alloc.specs.LowestRuns.{IsUsed, BrokeOff}
use Rattle.qcow2_alloc.specs.declared.clusters_to_free.ClustersToFreeEntry.{ClustersToFreeEntry}
use Rattle.qcow2_alloc.specs.declared.error.ImageError.{ImageError}
use Rattle.qcow2_alloc.specs.declared.image_file.ImageFile.{ImageFile}

-- The new reftable has a refblock in the cluster that the old one does not have.
pub record IsOfNewRefblock (h : HeaderFields) (old new : EntryTableView) (cluster : ℕ) : Type 0 where
  pub range : ℕ
  pub within : range < entry_count new
  pub behind_header : 0 < cluster
  pub names : NamesBlock h new range (Some cluster)
  pub anew : NamesBlock h old range (Some cluster) → ⊥

-- The cluster is one of the reftable.
pub record IsOfReftable (t : EntryTableView) (cluster : ℕ) : Type 0 where
  pub first : ℕ
  pub placed : t.cluster ≡ Some first
  pub within : 0 < run_at first ((8 * entry_count t + 2 ^ t.cluster_bits - 1) / 2 ^ t.cluster_bits) cluster

-- The cluster is that of a new refblock, or of the reftable, which did not lie there before.
abbrev pub IsAllocatedMetadata : HeaderFields → EntryTableView → EntryTableView → ℕ → Type 0
IsAllocatedMetadata h old new cluster = IsOfNewRefblock h old new cluster ⊎ (IsOfReftable new cluster × ¬ IsOfReftable old cluster)

-- How often the cluster is on the list to be freed.
abbrev pub listed_at : List ClustersToFreeEntry → ℕ → ℕ
listed_at [] cluster = 0
listed_at (e ∷ es) cluster = run_of e cluster + listed_at es cluster

-- The cluster is on the list more often than before.
abbrev pub IsListedSince : List ClustersToFreeEntry → List ClustersToFreeEntry → ℕ → Type 0
IsListedSince old new cluster = listed_at old cluster < listed_at new cluster

-- The cluster was allocated for a refblock or a reftable. If it was for a reftable that was replaced again, the cluster is on the list to be freed.
abbrev pub IsMadeInTurn : HeaderFields → EntryTableView → EntryTableView → List ClustersToFreeEntry → List ClustersToFreeEntry → ℕ → Type 0
IsMadeInTurn h old new list list' cluster = IsAllocatedMetadata h old new cluster ⊎ IsListedSince list list' cluster

-- 1 if the cluster is in the run, if there is one; otherwise 0.
abbrev pub run_in : Option ClustersToFreeEntry → ℕ → ℕ
run_in None cluster = 0
run_in (Some run) cluster = run_of run cluster

module _ {S : Type 0} (view : S → StorageView) where
  -- Clusters that the call put on the list were in use before it.
  abbrev pub ListsUsed : ImageFile S → ImageFile S → Type 0
  ListsUsed old new = (k : ℕ) → IsListedSince old.free_list new.free_list k → IsUsed view old k

  -- The refcount of a cluster rises at least as often as it is put on the list, or once less for a cluster of the old reftable. So a listed cluster was allocated in the call, or the old reftable lay there.
  abbrev pub CountsListed : ImageFile S → ImageFile S → Type 0
  CountsListed old new = (k : ℕ) → count old.header.fields (known_in view old) k + listed_at new.free_list k ≤ count new.header.fields (known_in view new) k + listed_at old.free_list k + reftable_at old.header.fields k

  -- Every cluster in use was in use before, or is in the run that the call returns, or was allocated for metadata; and listed clusters are counted. This is not claimed if a fault interrupted the call.
  abbrev pub AllocatesOnly : {A : Type 0} → (A → ℕ → ℕ) → (ℕ → Type 0) → ImageFile S → ImageFile S → Result A ImageError → Type 0
  AllocatesOnly taken Made old new (Ok answer) = ((k : ℕ) → IsUsed view new k → IsUsed view old k ⊎ (0 < taken answer k) ⊎ Made k) × CountsListed old new
  AllocatesOnly taken Made old new (Err e) = (((k : ℕ) → IsUsed view new k → IsUsed view old k ⊎ Made k) × CountsListed old new) ⊎ BrokeOff new e
