-- Why clusters are not allocated, other than a fault: every run has a cluster in use, or the reftable cannot grow.
use Rattle.std.specs.Prelude.{ℕ, ◌+◌, ◌*◌, ◌/◌, ◌^◌, ◌<◌, ◌≤◌, ◌≡◌, ◌⊎◌, Some}
use Rattle.qcow2_metadata.specs.declared.header.HeaderFields.{HeaderFields}
use Rattle.qcow2_metadata.specs.EntryTable.{EntryTableView, entry_count}
use Rattle.qcow2_metadata.specs.Header.{counts_per_block, entries_per_cluster}
use Rattle.qcow2_metadata.specs.L2Mapping.{greatest_offset, IsHostCluster}
use Rattle.qcow2_alloc.specs.Allocation.{run_at}
use Rattle.qcow2_alloc.specs.Growing.{IsLeastLength}
pub use Rattle.qcow2_alloc.specs.ImageError.{IsFaultOr}
use Rattle.qcow2_alloc.specs.LowestRuns.{IsLowestRun}
use Rattle.qcow2_alloc.specs.Rooms.{opened}
use Rattle.qcow2_alloc.specs.declared.allocation.Allocator.{Allocator}

-- The number of clusters whose offsets an entry can hold.
abbrev pub nameable_clusters : HeaderFields → ℕ
nameable_clusters h = greatest_offset / 2 ^ h.cluster_bits + 1

-- An L1 or L2 entry cannot hold the cluster, or the reftable cannot hold an entry for the refblock that would count it.
abbrev pub IsPastLimits : HeaderFields → ℕ → Type 0
IsPastLimits h cluster = (IsHostCluster h.cluster_bits cluster → ⊥) ⊎ (2 ^ 20 ≤ cluster / counts_per_block h)

-- By the clusters that count as in use, and by the header's fields.
module _ (used : ℕ → Type 0) (h : HeaderFields) where
  -- In every run of n clusters that entries can hold, one is in use.
  abbrev pub IsFull : ℕ → Type 0
  IsFull n = (start : ℕ) → start + n ≤ nameable_clusters h → (k : ℕ) × (start ≤ k) × (k < start + n) × used k

  -- Below an end there is no room for the clusters of a reftable and for the refblocks that they lack: one of these clusters is in use, or was allocated before.
  abbrev pub HasNoRoomBelow : (ℕ → ℕ) → EntryTableView → ℕ → ℕ → Type 0
  HasNoRoomBelow taken t clusters end =
      (first n : ℕ) → 0 < first → n ≡ opened t (counts_per_block h) first n + clusters → first + n ≤ end
      → (k : ℕ) × (first ≤ k) × (k < first + n) × (used k ⊎ (0 < taken k))

  -- There is no room for a reftable of this length, below the clusters that it has entries for and those that entries can hold.
  abbrev pub HasNoRoomFor : (ℕ → ℕ) → EntryTableView → ℕ → Type 0
  HasNoRoomFor taken t length = (end : ℕ) → end ≤ length * counts_per_block h → end ≤ nameable_clusters h → HasNoRoomBelow taken t (length / entries_per_cluster h) end

  -- Every lower room for this many clusters of a reftable, below an end, has a cluster in use that does not belong to this room.
  abbrev pub IsLowestRoom : EntryTableView → ℕ → ℕ → ℕ → Type 0
  IsLowestRoom t clusters end room =
      (first n : ℕ) → 0 < first → first < room → n ≡ opened t (counts_per_block h) first n + clusters → first + n ≤ end → (k : ℕ) × (first ≤ k) × (k < first + n) × (k < room) × used k

  -- A longer reftable lies after the refblocks that its room lacked. The room is the lowest one, below the clusters that the table has entries for and those that entries can hold.
  pub record LiesLowest (old new : EntryTableView) : Type 0 where
    pub first : ℕ
    pub blocks : ℕ
    pub above : 0 < first
    pub behind : new.cluster ≡ Some (first + blocks)
    pub lacked : blocks ≡ opened old (counts_per_block h) first (blocks + entry_count new / entries_per_cluster h)
    pub lowest : (end : ℕ) → end ≤ entry_count new * counts_per_block h → end ≤ nameable_clusters h
        → IsLowestRoom old (entry_count new / entries_per_cluster h) end first

  -- A reftable with an entry of this index is too long, or there is no room for it.
  abbrev pub CantGrow : (ℕ → ℕ) → EntryTableView → ℕ → Type 0
  CantGrow taken t index =
      (length : ℕ) → length ≤ 2 ^ 20 → IsLeastLength (entry_count t) index (entries_per_cluster h) (counts_per_block h) length → HasNoRoomFor taken t length

  -- The reftable has no entry for the refblock of the cluster, and cannot grow.
  abbrev pub CantCount : (ℕ → ℕ) → Allocator → ℕ → Type 0
  CantCount taken allocator cluster =
      (entry_count allocator.reftable ≤ cluster / counts_per_block h) × CantGrow taken allocator.reftable (cluster / counts_per_block h)

  -- One of the n clusters of a run cannot be counted, after those before it are allocated.
  abbrev pub CantCountRun : Allocator → ℕ → ℕ → Type 0
  CantCountRun allocator first n = (taken : ℕ) × (taken < n) × CantCount (run_at first taken) allocator (first + taken)

  -- There is no room for n clusters: every run has a cluster in use, or a cluster of the lowest free run cannot be counted.
  abbrev pub HasNoPlace : Allocator → ℕ → Type 0
  HasNoPlace allocator n = IsFull n ⊎ ((first : ℕ) × (first + n ≤ nameable_clusters h) × IsLowestRun used first n × CantCountRun allocator first n)
