-- Why a sound image refuses a call for a limit (13): at some state within the call there was no room for clusters, or an L1 table would have been too long.
use Rattle.std.specs.Prelude.{ℕ, ◌+◌, ◌-◌, ◌*◌, ◌/◌, ◌^◌, ◌<◌, ◌≤◌, ◌≡◌, ◌⊎◌, max, List, [], length, Option, Some, Result, IfErr}
use Rattle.image_access.specs.Backing.{BackingView}
use Rattle.image_access.specs.Moments.{StorageView}
use Rattle.qcow2_metadata.specs.declared.header.HeaderFields.{HeaderFields}
use Rattle.qcow2_metadata.specs.EntryTable.{entry_count}
use Rattle.qcow2_metadata.specs.Header.{cluster_size, counts_per_block}
use Rattle.qcow2_laws.specs.CrashInvariant.{Pending}
use Rattle.qcow2_disk.specs.Calls.{EffectOnSound}
use Rattle.qcow2_disk.specs.Stops.{GivenBytes}
use Rattle.qcow2_alloc.specs.Limits.{CantCount, HasNoPlace}
use Rattle.qcow2_alloc.specs.LowestRuns.{IsUsed}
use Rattle.qcow2_alloc.specs.declared.allocation.Allocator.{Allocator}
use Rattle.qcow2_alloc.specs.declared.error.ImageError.{ImageError}
use Rattle.qcow2_alloc.specs.declared.error.ImageError.TheVariants.{Limit}
use Rattle.qcow2_image.specs.BehindHeader.{PreservesHeaderCluster}
use Rattle.qcow2_image.specs.Found.{l1_index_of}
use Rattle.qcow2_image.specs.Image.{IsSameImage}
use Rattle.qcow2_image.specs.ImageInvariant.{abstract_of, Mappings}
use Rattle.qcow2_image.specs.InternalSteps.{InternalFillingStep, InternalStep, pending_with_listed}
use Rattle.qcow2_image.specs.declared.image.Qcow2.{Qcow2}
use Rattle.qcow2_image.specs.declared.prepared.Prepared.{Prepared}

-- If the call is refused for a limit, there is this cause.
abbrev pub IfLimit : {T : Type 0} → Result T ImageError → Type 0 → Type 0
IfLimit result Cause = IfErr result (λ e. e ≡ Limit → Cause)

-- The number of clusters that an L1 table of this many entries needs.
abbrev pub l1_clusters : HeaderFields → ℕ → ℕ
l1_clusters h entries = (8 * entries + cluster_size h - 1) / cluster_size h

module _ {S F : Type 0} where
  -- The number of entries of an L1 table that is no shorter and covers an offset.
  abbrev pub entries_reaching : ℕ → Qcow2 S F → ℕ
  entries_reaching offset image = max (entry_count image.l1_table) (l1_index_of image.file.header.fields offset + 1)

  module _ (view : S → StorageView) where
    -- By the refcounts, there is no room for n contiguous clusters: one for data or for an L2 table, or those of an L1 table that covers the offset. Or a cluster that a reftable may cover cannot be counted.
    pub record LacksPlace (offset : ℕ) (image : Qcow2 S F) : Type 0 where
      pub allocator : Allocator
      pub is : image.allocator ≡ Some allocator
      pub lacks : ((n : ℕ) × ((n ≡ 1) ⊎ (n ≡ l1_clusters image.file.header.fields (entries_reaching offset image))) × HasNoPlace (IsUsed view image.file) image.file.header.fields allocator n)
          ⊎ ((cluster : ℕ) × (cluster / counts_per_block image.file.header.fields < 2 ^ 20) × CantCount (IsUsed view image.file) image.file.header.fields (λ k. 0) allocator cluster)

    -- The call reached this state: it is the same image, and the header's cluster stayed the same.
    pub record GoesTo (old mid : Qcow2 S F) : Type 0 where
      pub image : IsSameImage old mid
      pub header_cluster : PreservesHeaderCluster view old mid

    -- A part of a call passed a limit at a state that satisfies `Keeps`: there was no room for clusters, or an L1 table with an entry for an offset below `end` would be too long.
    pub record IsLimitedIn (Keeps : Qcow2 S F → Type 0) (end : ℕ) (old : Qcow2 S F) : Type 0 where
      pub mid : Qcow2 S F
      pub before : GoesTo old mid
      pub kept : Keeps mid
      pub offset : ℕ
      pub below : offset < end
      pub limit : (4194304 ≤ l1_index_of mid.file.header.fields offset) ⊎ LacksPlace offset mid

    module _ (backing : F → BackingView) where
      -- A part of a call passed a limit at a state that guests cannot tell from the old one. What is pending differs only by more clusters that wait to be freed.
      abbrev pub IsLimitedInternal : Pending → ℕ → Qcow2 S F → Mappings → Type 0
      IsLimitedInternal p end old out = IsLimitedIn (λ mid. InternalStep view backing p (pending_with_listed p old mid) old mid out) end old

      abbrev pub IsLimitedTaking : Pending → ℕ → Qcow2 S F → Mappings → Type 0
      IsLimitedTaking p end old out = IsLimitedIn (λ mid. InternalFillingStep view backing p (pending_with_listed p old mid) old mid out) end old

      -- A call passed a limit at a sound state that it led to, with at most this many mapping slots. It is the same image, with the same cluster size and the same surplus of each cluster, and no cluster was leaked. The mapping of every guest cluster that is given no byte is the same.
      pub record IsLimitedWith (most : ℕ) (given : List GivenBytes) (end : ℕ) (old : Qcow2 S F) (out : Mappings) : Type 0 where
        pub mid : Qcow2 S F
        pub now : Mappings
        pub before : GoesTo old mid
        pub few : length now.slots ≤ most
        pub works : EffectOnSound (abstract_of view backing old out) (abstract_of view backing mid now) given []
        pub sound : (abstract_of view backing mid now).is_sound
        pub offset : ℕ
        pub below : offset < end
        pub limit : (4194304 ≤ l1_index_of mid.file.header.fields offset) ⊎ LacksPlace offset mid

      -- The state has the mappings that are prepared.
      abbrev pub IsLimitedAmong : List GivenBytes → ℕ → Qcow2 S F → Mappings → Type 0
      IsLimitedAmong given end old out = IsLimitedWith (length out.slots) given end old out

      -- The state has at most one mapping more, which the call was making.
      abbrev pub IsLimited : List GivenBytes → ℕ → Qcow2 S F → Mappings → Type 0
      IsLimited given end old out = IsLimitedWith (length out.slots + 1) given end old out
