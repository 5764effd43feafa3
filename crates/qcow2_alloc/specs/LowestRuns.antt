-- An allocation returns the lowest free run.
use Rattle.std.specs.Prelude.{ℕ, ◌+◌, ◌<◌, ◌≤◌, ◌≡◌, ◌≢◌, ◌⊎◌, Result, Ok, Err, IsTrue}
use Rattle.image_access.specs.Moments.{StorageView}
use Rattle.number_runs.specs.NumberRuns.{IsIn}
use Rattle.qcow2_metadata.specs.Entries.{count}
use Rattle.qcow2_alloc.specs.ImageError.{IsFault}
use Rattle.qcow2_alloc.specs.ImageFile.{has_noted, known_in}
use Rattle.qcow2_alloc.specs.declared.allocation.Allocator.{Allocator}
use Rattle.qcow2_alloc.specs.declared.error.ImageError.{ImageError}
use Rattle.qcow2_alloc.specs.declared.error.ImageError.TheVariants as I
use Rattle.qcow2_alloc.specs.declared.image_file.ImageFile.{ImageFile}

-- A fault interrupted the call. If memory ran out, a change was recorded.
abbrev pub BrokeOff : {S : Type 0} → ImageFile S → ImageError → Type 0
BrokeOff file e = IsFault e × (e ≡ I.Memory → IsTrue (has_noted file))

-- The n clusters from `first` on are the lowest free run: every n clusters from a lower one on contain one below `first` that is in use.
abbrev pub IsLowestRun : (ℕ → Type 0) → ℕ → ℕ → Type 0
IsLowestRun used first n = (start : ℕ) → start < first → (k : ℕ) × (start ≤ k) × (k < start + n) × (k < first) × used k

-- The allocator remembers the cluster as in use: it lies in a range that was read, and in no free run.
abbrev pub IsCovered : Allocator → ℕ → Type 0
IsCovered allocator k = IsIn allocator.read k × (IsIn allocator.free k → ⊥)

-- The cluster is spared because a table that the image was opened with refers to it, or it is remembered as in use.
abbrev pub IsKnown : Allocator → ℕ → Type 0
IsKnown allocator k = IsIn allocator.named k ⊎ IsCovered allocator k

-- A search for free clusters passes over this cluster: it lies below the first free one, is spared because a table that the image was opened with refers to it, or is remembered as in use.
abbrev pub IsPassed : Allocator → ℕ → Type 0
IsPassed allocator k = (k < allocator.first_free_cluster) ⊎ IsKnown allocator k

-- The search starts at cluster 0 again, and no range counts as read. The spared clusters, the reftable and the number of leaked clusters stay the same.
pub record SearchesAnew (old new : Allocator) : Type 0 where
  pub first : new.first_free_cluster ≡ 0
  pub unread : (k : ℕ) → ¬ IsIn new.read k
  pub named : new.named ≡ old.named
  pub reftable : new.reftable ≡ old.reftable
  pub leaks : new.leaked_clusters ≡ old.leaked_clusters

-- A search passes over no further clusters.
abbrev pub PassesNoOthers : Allocator → Allocator → Type 0
PassesNoOthers old new = (k : ℕ) → IsPassed new k → IsPassed old k

-- The empty set of clusters.
abbrev pub NoCluster : ℕ → Type 0
NoCluster k = ⊥

-- Only the remembered refcounts change. Every cluster that is remembered as in use was so before, or satisfies `IsMore`.
pub record KeepsRuns (old new : Allocator) (IsMore : ℕ → Type 0) : Type 0 where
  pub rest : new ≡ record old { read = new.read; free = new.free; crowded = new.crowded }
  pub covered : (k : ℕ) → IsCovered new k → IsCovered old k ⊎ IsMore k

-- The search starts at the same cluster, and passes over no further ones.
pub record SearchStays (old new : Allocator) : Type 0 where
  pub first : new.first_free_cluster ≡ old.first_free_cluster
  pub passed : (k : ℕ) → IsPassed new k → IsPassed old k

module _ {S : Type 0} (view : S → StorageView) where
  -- The refcount of the cluster is not 0.
  abbrev pub IsUsed : ImageFile S → ℕ → Type 0
  IsUsed file k = count file.header.fields (known_in view file) k ≢ 0

  -- Every cluster in use stays in use.
  abbrev pub StaysUsed : ImageFile S → ImageFile S → Type 0
  StaysUsed old new = (k : ℕ) → IsUsed old k → IsUsed new k

  -- Every cluster in use stays in use, unless a fault interrupted the call.
  abbrev pub KeepsUsed : {A : Type 0} → ImageFile S → ImageFile S → Result A ImageError → Type 0
  KeepsUsed old new (Ok answer) = (k : ℕ) → IsUsed old k → IsUsed new k
  KeepsUsed old new (Err e) = ((k : ℕ) → IsUsed old k → IsUsed new k) ⊎ BrokeOff new e

  -- Every cluster in use stays in use, except these.
  abbrev pub KeepsUsedBut : {A : Type 0} → (ℕ → ℕ) → ImageFile S → ImageFile S → Result A ImageError → Type 0
  KeepsUsedBut n old new (Ok answer) = (k : ℕ) → n k ≡ 0 → IsUsed old k → IsUsed new k
  KeepsUsedBut n old new (Err e) = ((k : ℕ) → n k ≡ 0 → IsUsed old k → IsUsed new k) ⊎ BrokeOff new e

  -- A search passes over no free cluster: none below the first free one, none that is spared, and none that is remembered as in use.
  abbrev pub NoFreeBelowHint : Allocator → ImageFile S → Type 0
  NoFreeBelowHint allocator file = (k : ℕ) → IsPassed allocator k → IsUsed file k

  -- A search passes over no free cluster, unless a fault interrupted the call.
  abbrev pub KeepsNoFreeBelowHint : {A : Type 0} → Allocator → ImageFile S → Result A ImageError → Type 0
  KeepsNoFreeBelowHint allocator file (Ok answer) = NoFreeBelowHint allocator file
  KeepsNoFreeBelowHint allocator file (Err e) = NoFreeBelowHint allocator file ⊎ BrokeOff file e
