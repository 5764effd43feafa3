-- Freeing a cluster: its refcount is decremented, or the cluster is counted as leaked.
use Rattle.std.specs.Prelude.{ℕ, zero, suc, ◌+◌, ◌-◌, ◌/◌, ◌%◌, ◌^◌, ◌≡◌, ◌⊎◌, ◌<◌, ◌≤◌, ◌&&◌, ◌==◌, nat_lt, not, min, if◌then◌else◌, Bool, true, false, List, [], ◌∷◌, Some, Result, Ok, Err, IfSome, MatchOption, MatchResult, count_by}
use Rattle.qcow2_metadata.specs.declared.header.HeaderFields.{HeaderFields}
use Rattle.qcow2_metadata.specs.Entries.{block_offset}
use Rattle.qcow2_metadata.specs.EntryTable.{EntryTableView, entry_count}
use Rattle.qcow2_metadata.specs.Header.{cluster_size, counts_per_block}
use Rattle.qcow2_metadata.specs.TableBytes.{entry_at}
use Rattle.qcow2_alloc.specs.MadeClusters.{listed_at}
use Rattle.qcow2_alloc.specs.declared.clusters_to_free.ClustersToFreeEntry.{ClustersToFreeEntry}
use Rattle.qcow2_metadata.specs.RefBlock.{RefBlockView, count_at}
use Rattle.qcow2_alloc.specs.Allocation.{NamesBlock, SameLeaks}
use Rattle.qcow2_alloc.specs.CachePins.{SameChanges}
use Rattle.qcow2_alloc.specs.CacheSteps.{KeepsHeldBlocks}
use Rattle.qcow2_alloc.specs.CountedChanges.{IsOneChange}
use Rattle.qcow2_alloc.specs.ImageError.{IsFault}
use Rattle.qcow2_alloc.specs.KeptMarks.{KeepsHeldTables}
use Rattle.qcow2_alloc.specs.MetadataCaches.{rb_at}
use Rattle.qcow2_alloc.specs.TableChanges.{SetsCount}
use Rattle.qcow2_alloc.specs.declared.allocation.Allocator.{Allocator}
use Rattle.qcow2_alloc.specs.declared.cache.MetadataCaches.{MetadataCaches}
use Rattle.qcow2_alloc.specs.declared.error.ImageError.{ImageError}

-- One more cluster is leaked. The counter stops at the greatest u64.
abbrev pub LeaksOne : Allocator → Allocator → Type 0
LeaksOne old new = new.leaked_clusters ≡ min (old.leaked_clusters + 1) (2 ^ 64 - 1)

-- Whether the reftable entry of a range has an offset that is not aligned.
abbrev pub is_unaligned : HeaderFields → EntryTableView → ℕ → Bool
is_unaligned h reftable range = nat_lt range (entry_count reftable) && not (block_offset (entry_at reftable.bytes range) % cluster_size h == 0)

-- How often clusters below n are on the list whose reftable entry is not aligned.
abbrev pub unaligned_below : HeaderFields → EntryTableView → List ClustersToFreeEntry → ℕ → ℕ
unaligned_below h reftable list zero = 0
unaligned_below h reftable list (suc n) = unaligned_below h reftable list n + (if is_unaligned h reftable (n / counts_per_block h) then listed_at list n else 0)

-- A cluster that leaves the list is leaked if its reftable entry is not aligned. At least as many clusters are leaked as leave the list for this reason, up to the greatest u64.
abbrev pub LeaksUnaligned : HeaderFields → EntryTableView → Allocator → Allocator → List ClustersToFreeEntry → List ClustersToFreeEntry → Type 0
LeaksUnaligned h reftable old new list list' =
    (n : ℕ) → n ≤ 2 ^ 64 → min (old.leaked_clusters + unaligned_below h reftable list n) (2 ^ 64 - 1) ≤ new.leaked_clusters + unaligned_below h reftable list' n

module _ {S : Type 0} where
  -- Each refblock that is cached now was cached before, with the same bytes, or is unmodified, as one that was just loaded. L2 tables stay, and no change is recorded.
  pub record LoadsBlocks (old new : MetadataCaches S) : Type 0 where
    pub held : (c : ℕ) → IfSome (rb_at new c) (λ b. MatchOption (rb_at old c) (b.is_modified ≡ false) (λ was. b.bytes ≡ was.bytes))
    pub tables : KeepsHeldTables old new
    pub changes : SameChanges old new

  -- The same tables are cached, with the same entries. No change is recorded.
  pub record KeepsBlockBytes (old new : MetadataCaches S) : Type 0 where
    pub held : KeepsHeldBlocks old new
    pub tables : KeepsHeldTables old new
    pub changes : SameChanges old new

  module _ (h : HeaderFields) (reftable : EntryTableView) where
    -- The refblock of the cluster's range was cached, or was loaded. The refcount of the cluster was above 0, and is one less. Nothing else changes in the caches, and one change is recorded.
    pub record IsDecremented (old new : MetadataCaches S) (cluster : ℕ) : Type 0 where
      pub before : MetadataCaches S
      pub loads : LoadsBlocks old before
      pub at : ℕ
      pub names : NamesBlock h reftable (cluster / counts_per_block h) (Some at)
      pub block : RefBlockView
      pub new_data : rb_at before at ≡ Some block
      pub some : 0 < count_at block (cluster % counts_per_block h)
      pub falls : SetsCount before new at (cluster % counts_per_block h) block (count_at block (cluster % counts_per_block h) - 1)
      pub tables : KeepsHeldTables old new
      pub recorded : IsOneChange new.is_changed before.changes new.changes

    -- Whether a refcount was decremented. If not, no refcount changes. No cluster is leaked by this.
    abbrev pub TriesToDecrement : MetadataCaches S → MetadataCaches S → ℕ → Result Bool ImageError → Type 0
    TriesToDecrement old new cluster (Ok true) = IsDecremented old new cluster
    TriesToDecrement old new cluster (Ok false) = LoadsBlocks old new
    TriesToDecrement old new cluster (Err e) = LoadsBlocks old new

    -- A refcount is decremented, or one cluster more is leaked and no refcount changes. Only a fault ends the call before.
    abbrev pub DecrementsOrLeaks : Allocator → MetadataCaches S → Allocator → MetadataCaches S → ℕ → Result (Unit {0}) ImageError → Type 0
    DecrementsOrLeaks allocator old allocator' new cluster (Ok _) = (SameLeaks allocator allocator' × IsDecremented old new cluster) ⊎ (LeaksOne allocator allocator' × LoadsBlocks old new)
    DecrementsOrLeaks allocator old allocator' new cluster (Err e) = SameLeaks allocator allocator' × LoadsBlocks old new × IsFault e

    -- Clusters are freed one after another: the refcount of each is decremented, or one cluster more is leaked. No other refcount changes in a cached refblock.
    abbrev pub FreesEach : List ℕ → Allocator → MetadataCaches S → Allocator → MetadataCaches S → Result (Unit {0}) ImageError → Type 0
    FreesEach [] allocator old allocator' new result = SameLeaks allocator allocator' × MatchResult result (λ _. KeepsBlockBytes old new) (λ _. LoadsBlocks old new)
    FreesEach (c ∷ cs) allocator old allocator' new result = (next : Allocator) × (mid : MetadataCaches S) × DecrementsOrLeaks allocator old next mid c (Ok tt) × FreesEach cs next mid allocator' new result

    -- The clusters that left the list were freed one after another.
    pub record FreesOff (allocator : Allocator) (old : MetadataCaches S) (list : List ClustersToFreeEntry) (allocator' : Allocator) (new : MetadataCaches S) (list' : List ClustersToFreeEntry) (result : Result (Unit {0}) ImageError) : Type 0 where
      pub off : List ℕ
      pub left : (n : ℕ) → n < 2 ^ 64 → listed_at list n ≤ count_by (λ k. k == n) off + listed_at list' n
      pub each : FreesEach off allocator old allocator' new result
