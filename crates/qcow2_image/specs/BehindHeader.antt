-- The header's cluster, cluster 0: no table of an image lies there, and calls change only header fields in it.
use Rattle.std.specs.Prelude.{ℕ, ◌<◌, ◌≤◌, ◌≡◌, ◌⊎◌, Option, Some, IfSome}
use Rattle.image_access.specs.Moments.{StorageView}
use Rattle.qcow2_metadata.specs.EntryTable.{EntryTableView, entry_count}
use Rattle.qcow2_metadata.specs.declared.header.HeaderFields.{HeaderFields}
use Rattle.qcow2_alloc.specs.BehindHeader.{LeaveHeaderCluster}
use Rattle.qcow2_alloc.specs.HeaderClusters.{IsInHeaderCluster, BytesStay}
use Rattle.qcow2_alloc.specs.ImageFile.{view_in}
use Rattle.qcow2_alloc.specs.SparedHeaders.{NamesReftableBehind}
use Rattle.qcow2_alloc.specs.declared.allocation.Allocator.{Allocator}
use Rattle.qcow2_alloc.specs.declared.cache.MetadataCaches.{MetadataCaches}
use Rattle.qcow2_image.specs.declared.image.Qcow2.{Qcow2}

-- Offsets of cluster 0 outside of the size and of the pointers to the L1 table and the reftable.
abbrev pub IsBesideNumbers : ℕ → ℕ → Type 0
IsBesideNumbers bits o = IsInHeaderCluster bits o × ((o < 24) ⊎ (((32 ≤ o) × (o < 36)) ⊎ (60 ≤ o)))

-- The header's pointers lead past cluster 0, to an L1 table and a reftable that have entries.
pub record NamesTablesBehind (h : HeaderFields) : Type 0 where
  pub reftable : NamesReftableBehind h
  pub l1_table : (h.l1_entries ≡ 0) ⊎ (0 < h.l1_offset)

-- The L1 table has clusters of this size, and does not lie at cluster 0.
pub record IsL1TableBehind (bits : ℕ) (table : EntryTableView) : Type 0 where
  pub l1_bits : table.cluster_bits ≡ bits
  pub elsewhere : ¬ (table.cluster ≡ Some 0)

-- If the old L1 table does not lie at cluster 0, neither does the new one.
abbrev pub KeepsL1TableBehind : EntryTableView → EntryTableView → Type 0
KeepsL1TableBehind old new = (bits : ℕ) → IsL1TableBehind bits old → IsL1TableBehind bits new

module _ {S : Type 0} where
  -- Clusters have this size, and neither the L1 table, nor a cached table, nor a reftable with entries lies at cluster 0.
  pub record TablesBehindHeader (bits own : ℕ) (l1_table : EntryTableView) (cached : MetadataCaches S) (allocator : Option Allocator) : Type 0 where
    pub header : own ≡ bits
    pub l1 : IsL1TableBehind bits l1_table
    pub caches : LeaveHeaderCluster bits cached
    pub reftable : IfSome allocator (λ a. (a.reftable.cluster_bits ≡ bits) × (0 < entry_count a.reftable → ¬ (a.reftable.cluster ≡ Some 0)))

  -- If no table lies at cluster 0 before, none does after. On an honest storage the bytes of cluster 0 then stay the same at every moment, except the size and the pointers.
  pub record KeepsTablesBehind (own : ℕ) (l1_table : EntryTableView) (storage : StorageView) (caches : MetadataCaches S) (allocator : Option Allocator)
      (own' : ℕ) (l1_table' : EntryTableView) (storage' : StorageView) (caches' : MetadataCaches S) (allocator' : Option Allocator) : Type 0 where
    pub kept : (bits : ℕ) → TablesBehindHeader bits own l1_table caches allocator → TablesBehindHeader bits own' l1_table' caches' allocator'
    pub bytes : (bits : ℕ) → TablesBehindHeader bits own l1_table caches allocator → storage.is_honest → BytesStay (IsBesideNumbers bits) storage storage'

module _ {S F : Type 0} where
  -- No table of the image lies at cluster 0.
  abbrev pub LiesBehindHeader : Qcow2 S F → Type 0
  LiesBehindHeader image = TablesBehindHeader image.file.header.fields.cluster_bits image.file.header.fields.cluster_bits image.l1_table image.file.caches image.allocator

  -- Every call keeps tables out of cluster 0, whatever the image contains: if neither the L1 table, nor a cached table, nor a reftable with entries lay there before, none does after.
  -- On an honest storage the bytes of cluster 0 then stay the same at every moment, except the size and the pointers to the L1 table and the reftable.
  abbrev pub PreservesHeaderCluster : (S → StorageView) → Qcow2 S F → Qcow2 S F → Type 0
  PreservesHeaderCluster view old new = KeepsTablesBehind old.file.header.fields.cluster_bits old.l1_table (view_in view old.file) old.file.caches old.allocator
      new.file.header.fields.cluster_bits new.l1_table (view_in view new.file) new.file.caches new.allocator
