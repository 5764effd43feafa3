-- What calls of the caches and of the allocator keep of the header's cluster, cluster 0, whatever the image contains.
use Rattle.std.specs.Prelude.{ℕ, ◌<◌, ◌≡◌, ◌⊎◌, Some}
use Rattle.image_access.specs.Moments.{StorageView}
use Rattle.qcow2_metadata.specs.EntryTable.{EntryTableView, entry_count}
use Rattle.qcow2_metadata.specs.declared.header.HeaderFields.{HeaderFields}
pub use Rattle.qcow2_alloc.specs.BehindHeader.{LeaveHeaderCluster, KeepBehindHeader}
use Rattle.qcow2_alloc.specs.HeaderClusters.{IsInHeaderCluster, IsBesidePointer, BytesStay, KeepsHeaderCluster}
use Rattle.qcow2_alloc.specs.ImageFile.{view_in}
use Rattle.qcow2_alloc.specs.ImageStorage.{storage_of}
use Rattle.qcow2_alloc.specs.declared.cache.MetadataCaches.{MetadataCaches}
use Rattle.qcow2_alloc.specs.declared.image_file.ImageFile.{ImageFile}
use Rattle.qcow2_alloc.specs.declared.image_storage.ImageStorage.{ImageStorage}

-- The header's pointer to the reftable leads past cluster 0, if the reftable has clusters.
abbrev pub NamesReftableBehind : HeaderFields → Type 0
NamesReftableBehind h = (h.reftable_clusters ≡ 0) ⊎ (0 < h.reftable_offset)

module _ {S : Type 0} where
  -- No cached table lies in cluster 0, and neither does a reftable with entries.
  pub record StandsBehindHeader (bits : ℕ) (reftable : EntryTableView) (file : ImageFile S) : Type 0 where
    pub header : file.header.fields.cluster_bits ≡ bits
    pub caches : LeaveHeaderCluster bits file.caches
    pub reftable_bits : reftable.cluster_bits ≡ bits
    pub elsewhere : 0 < entry_count reftable → ¬ (reftable.cluster ≡ Some 0)

  module _ (view : S → StorageView) where
    -- If no cached table lies in cluster 0 before, none does after, and the bytes of cluster 0 are the same.
    pub record CachesSpareHeader (old : ImageStorage S) (caches : MetadataCaches S) (new : ImageStorage S) (caches' : MetadataCaches S) : Type 0 where
      pub bytes : (bits : ℕ) → LeaveHeaderCluster bits caches → KeepsHeaderCluster bits (view (storage_of old)) (view (storage_of new))
      pub behind : KeepBehindHeader caches caches'

    -- If neither a cached table nor the reftable lies in cluster 0 before, none does after. On an honest storage these bytes then stay the same at every moment.
    pub record SparesBytes (IsKept : ℕ → ℕ → Type 0) (reftable : EntryTableView) (old : ImageFile S) (reftable' : EntryTableView) (new : ImageFile S) : Type 0 where
      pub bytes : (bits : ℕ) → StandsBehindHeader bits reftable old → (view_in view old).is_honest → BytesStay (IsKept bits) (view_in view old) (view_in view new)
      pub behind : (bits : ℕ) → StandsBehindHeader bits reftable old → StandsBehindHeader bits reftable' new

    -- All bytes of cluster 0 stay the same.
    abbrev pub SparesHeader : EntryTableView → ImageFile S → EntryTableView → ImageFile S → Type 0
    SparesHeader = SparesBytes IsInHeaderCluster

    -- All bytes of cluster 0 stay the same, except the header's pointer to the reftable.
    abbrev pub PreservesHeaderButPointer : EntryTableView → ImageFile S → EntryTableView → ImageFile S → Type 0
    PreservesHeaderButPointer = SparesBytes IsBesidePointer
