-- What the parts of a call do to a sound image.
use Rattle.qcow2_image.specs.declared.mapping.Place.{Place}
use Rattle.qcow2_metadata.specs.Bytes.{is_within}
use Rattle.std.specs.Prelude.{ℕ, ◌+◌, ◌-◌, ◌*◌, ◌%◌, ◌^◌, ◌&&◌, min, Bool, false, ◌/◌, ◌<◌, ◌≤◌, ◌≡◌, ◌⊎◌, ◌++◌, true, List, [], ◌∷◌, Option, None, Some, IsSome, IsTrue, Result, Ok, Err, ◌≢◌, slice_get, slice_set}
use Rattle.image_access.specs.Backing.{BackingView}
use Rattle.image_access.specs.Moments.{StorageView}
use Rattle.qcow2_metadata.specs.Entries.{l1_entry, host_offset, is_copied}
use Rattle.qcow2_laws.specs.CrashInvariant.{Pending, SameCovers}
use Rattle.qcow2_laws.specs.SafeSteps.{DriverState, SafeStep}
use Rattle.qcow2_disk.specs.Stops.{SafeThroughout}
use Rattle.qcow2_laws.specs.Internal.{KeepsFormat, IsInternal}
use Rattle.qcow2_alloc.specs.BehindHeader.{KeepBehindHeader}
use Rattle.qcow2_alloc.specs.declared.clusters_to_free.ClustersToFreeEntry.{ClustersToFreeEntry}
use Rattle.qcow2_alloc.specs.declared.error.ImageError.{ImageError}
use Rattle.qcow2_alloc.specs.declared.image_file.ImageFile.{ImageFile}
use Rattle.qcow2_alloc.specs.ImageFile.{view_in, contents_in, known_in, state_in, nothing_given, InterruptedFileStep}
use Rattle.qcow2_image.specs.Found.{l1_index_of, l2_index_of}
use Rattle.qcow2_image.specs.declared.image.Qcow2.{Qcow2}
use Rattle.qcow2_image.specs.declared.prepared.Prepared.{Prepared}
use Rattle.qcow2_alloc.specs.CachePins.{l2_pins, KeepsPinsAndNotes, SameTables}
use Rattle.qcow2_alloc.specs.FreeList.{with_listed, pending_then as since_listed}
use Rattle.qcow2_alloc.specs.MetadataCaches.{order_of, l2_at, IsEntryAt, MapsCachedEntry, RecordsEntry}
use Rattle.qcow2_image.specs.declared.prepared.ClusterMapping.{ClusterMapping}
use Rattle.qcow2_image.specs.declared.prepared.ClusterMapping.TheVariants.{InPlace, Kept, New}
use Rattle.qcow2_disk.specs.AbstractImages.{guest_of}
use Rattle.qcow2_metadata.specs.Cover.{cover}
use Rattle.qcow2_metadata.specs.Guest.{known_byte}
use Rattle.qcow2_metadata.specs.Header.{cluster_size}
use Rattle.qcow2_metadata.specs.declared.l2_mapping.L2Mapping.{L2Mapping}
use Rattle.qcow2_metadata.specs.declared.l2_mapping.L2Mapping.TheVariants.{Zero}
use Rattle.qcow2_laws.specs.Changes.{with_new_data}
use Rattle.qcow2_alloc.specs.declared.clusters_to_free.ClusterKind.TheVariants as Kind
use Rattle.qcow2_image.specs.Image.{leaked_in}
use Rattle.qcow2_image.specs.ImageInvariant.{run_of, new_data_by, is_entered, over_all, pins_of, mapping_of_cluster, below_of, disk_of, abstract_of, ImageInvariant, Mappings, contents_for}

-- The L1 entry names a table, and is marked copied.
abbrev pub NamesOwn : ℕ → Type 0
NamesOwn entry = (host_offset entry ≢ 0) × (is_copied entry ≡ true)

-- L2 tables that are marked copied keep their places.
abbrev pub KeepsCopied : DriverState → DriverState → Type 0
KeepsCopied old new = (i : ℕ) → NamesOwn (l1_entry old.header old.on_storage i) → l1_entry old.header new.on_storage i ≡ l1_entry old.header old.on_storage i

-- The caller promised to overwrite this byte of the offset's cluster.
abbrev pub is_announced : ℕ → ℕ → ℕ → Bool → ℕ → Bool
is_announced size offset length overwrite i = overwrite && is_within (offset % size) (min length (size - offset % size)) i

-- These n values are in the file from an offset on.
abbrev pub AreThere : {S : Type 0} → (S → StorageView) → ImageFile S → ℕ → ℕ → (ℕ → ℕ) → Type 0
AreThere view file at n values = (i : ℕ) → i < n → contents_in view file (at + i) ≡ values i

-- The clusters that are freed when cluster mappings are dropped: the new ones.
abbrev pub freed_by : List ClusterMapping → List ClustersToFreeEntry
freed_by [] = []
freed_by (InPlace ∷ clusters) = freed_by clusters
freed_by (Kept ∷ clusters) = freed_by clusters
freed_by (New taken old_data ∷ clusters) = taken ++ freed_by clusters

-- The host clusters that a cluster mapping replaces when it is entered.
abbrev pub old_data_by : ClusterMapping → List ClustersToFreeEntry
old_data_by InPlace = []
old_data_by Kept = []
old_data_by (New taken old_data) = old_data

-- Entering the clusters of a mapping replaces no host cluster: the guest clusters are unmapped, or what they have is kept.
abbrev pub DropsNothing : Prepared → Type 0
DropsNothing p = (i : ℕ) (cluster_mapping : ClusterMapping) → slice_get p.clusters.items i ≡ Some cluster_mapping → old_data_by cluster_mapping ≡ []

module _ {S F : Type 0} where
  -- Clusters are appended to the list of clusters to free, and nothing else changes.
  abbrev pub FreesLater : List ClustersToFreeEntry → Qcow2 S F → Qcow2 S F → Type 0
  FreesLater more old new = new ≡ record old { file = record old.file { free_list = old.file.free_list ++ more } }

  -- An entry of a cached L2 table, if one is given, becomes copied data at a host cluster, and nothing else changes.
  pub record EntersCluster (table : Option ℕ) (index host : ℕ) (old new : Qcow2 S F) : Type 0 where
    pub rest : new ≡ record old { file = record old.file { caches = new.file.caches } }
    pub order : order_of new.file.caches ≡ order_of old.file.caches
    pub marks : KeepsPinsAndNotes old.file.caches new.file.caches
    pub entered : (t : ℕ) → table ≡ Some t → (answer : Option (ℕ × ℕ)) × MapsCachedEntry old.file.caches new.file.caches t index host answer
    pub recorded : (t : ℕ) → table ≡ Some t → RecordsEntry old.file.caches new.file.caches t index host
    pub behind : KeepBehindHeader old.file.caches new.file.caches

  -- A cluster of a mapping that is not in place is entered in its L2 table, and is then in place. What the entry had before waits to be freed. Nothing else changes.
  pub record EntersMapping (i : ℕ) (p p' : Prepared) (old new : Qcow2 S F) : Type 0 where
    pub cluster_mapping : ClusterMapping
    pub was : slice_get p.clusters.items i ≡ Some cluster_mapping
    pub entered : IsTrue (is_entered cluster_mapping)
    pub mapping : p' ≡ record p { clusters = p'.clusters }
    pub clusters : p'.clusters.items ≡ slice_set p.clusters.items i InPlace
    pub mid : Qcow2 S F
    pub enters : EntersCluster p.table (min (l2_index_of old.file.header.fields p.guest + i) (2 ^ 64 - 1)) (min (p.offset / cluster_size old.file.header.fields + i) (2 ^ 64 - 1)) old mid
    pub lists : FreesLater (old_data_by cluster_mapping) mid new

  -- An L2 table, if one is given, has one pin less, and nothing else changes.
  pub record Unpins (table : Option ℕ) (old new : Qcow2 S F) : Type 0 where
    pub rest : new ≡ record old { file = record old.file { caches = new.file.caches } }
    pub tables : SameTables old.file.caches new.file.caches
    pub pins : (c : ℕ) → l2_pins new.file.caches c ≡ l2_pins old.file.caches c - pins_of table c
    pub changed : new.file.caches.is_changed ≡ old.file.caches.is_changed
    pub counted : new.file.caches.changes ≡ old.file.caches.changes

  -- A cached L2 table has one pin more, and nothing else changes.
  pub record Pins (table : ℕ) (old new : Qcow2 S F) : Type 0 where
    pub rest : new ≡ record old { file = record old.file { caches = new.file.caches } }
    pub tables : SameTables old.file.caches new.file.caches
    pub pins : IsSome (l2_at old.file.caches table) → l2_pins old.file.caches table ≡ 0 → (c : ℕ) → l2_pins new.file.caches c ≡ l2_pins old.file.caches c + pins_of (Some table) c
    pub changed : new.file.caches.is_changed ≡ old.file.caches.is_changed
    pub counted : new.file.caches.changes ≡ old.file.caches.changes

  -- The list of clusters to free grew, or stayed the same.
  pub record ListGrows (old new : Qcow2 S F) : Type 0 where
    pub more : List ClustersToFreeEntry
    pub is : new.file.free_list ≡ old.file.free_list ++ more

  -- What is pending, with the clusters that were added to the list.
  abbrev pub pending_with_listed : Pending → Qcow2 S F → Qcow2 S F → Pending
  pending_with_listed p old new = since_listed p old.file.free_list new.file.free_list

  module _ (view : S → StorageView) (backing : F → BackingView) where
    -- Guests don't see the step. The image is sound again, and a stop at any moment is as safe as before.
    pub record InternalStep (p p' : Pending) (old new : Qcow2 S F) (out : Mappings) : Type 0 where
      pub sound : ImageInvariant view backing p' new out
      pub safe_step : SafeStep (state_in view old.file p) (state_in view new.file p') nothing_given []
      pub since : SafeThroughout (view_in view old.file) (view_in view new.file) (known_in view old.file) nothing_given []
      pub unseen : IsInternal (state_in view old.file p) (state_in view new.file p')
      pub copied : KeepsCopied (state_in view old.file p) (state_in view new.file p')
      pub below : below_of view backing new.backing ≡ below_of view backing old.backing
      pub list : ListGrows old new
      pub leaks : leaked_in new ≡ leaked_in old

    -- Guests don't see the step, and the list of clusters to free may change in any way.
    pub record InternalFreeingStep (p p' : Pending) (old new : Qcow2 S F) (out : Mappings) : Type 0 where
      pub sound : ImageInvariant view backing p' new out
      pub safe_step : SafeStep (state_in view old.file p) (state_in view new.file p') nothing_given []
      pub since : SafeThroughout (view_in view old.file) (view_in view new.file) (known_in view old.file) nothing_given []
      pub unseen : IsInternal (state_in view old.file p) (state_in view new.file p')
      pub copied : KeepsCopied (state_in view old.file p) (state_in view new.file p')
      pub below : below_of view backing new.backing ≡ below_of view backing old.backing
      pub leaks : leaked_in new ≡ leaked_in old

    -- A fault ended the part: a stop at any moment is as safe as before, and no cluster is leaked.
    pub record InterruptedPart (old new : Qcow2 S F) (e : ImageError) : Type 0 where
      pub interrupted : InterruptedFileStep view old.file new.file e
      pub leaks : leaked_in new ≡ leaked_in old

    -- What a refused part leaves: a sound image with more clusters to free at most, or one that is about to fail.
    abbrev pub RefusedStep : Pending → Qcow2 S F → Qcow2 S F → Mappings → ImageError → Type 0
    RefusedStep p old new out e = InternalStep p (pending_with_listed p old new) old new out ⊎ InterruptedPart old new e

    -- The L2 table of the offset is cached, from this cluster, and its L1 entry is marked copied.
    pub record HoldsTable (image : Qcow2 S F) (offset table : ℕ) : Type 0 where
      pub entry : IsEntryAt image.file.header.fields (known_in view image.file) (l1_index_of image.file.header.fields offset) table (l2_index_of image.file.header.fields offset)
      pub copied : is_copied (l1_entry image.file.header.fields (contents_in view image.file) (l1_index_of image.file.header.fields offset)) ≡ true
      pub new_data : IsSome (l2_at image.file.caches table)

    -- A part makes sure that the L2 table of an offset is cached and marked copied. Guests don't see it.
    abbrev pub Ensures : Pending → Qcow2 S F → Qcow2 S F → Mappings → ℕ → Result ℕ ImageError → Type 0
    Ensures p old new out offset (Ok table) = InternalStep p (pending_with_listed p old new) old new out × HoldsTable new offset table
    Ensures p old new out offset (Err e) = RefusedStep p old new out e

    -- Guests don't see the step, but it may write to clusters that none of these mappings has. The image is sound again.
    pub record InternalFillingStep (p p' : Pending) (old new : Qcow2 S F) (out : Mappings) : Type 0 where
      pub sound : ImageInvariant view backing p' new out
      pub safe_step : SafeStep (state_in view old.file p) (state_in view new.file p') nothing_given []
      pub since : SafeThroughout (view_in view old.file) (view_in view new.file) (known_in view old.file) nothing_given []
      pub header : KeepsFormat old.file.header.fields new.file.header.fields
      pub covers : SameCovers old.file.header.fields (known_in view old.file) (known_in view new.file)
      pub copied : KeepsCopied (state_in view old.file p) (state_in view new.file p')
      pub below : below_of view backing new.backing ≡ below_of view backing old.backing
      pub list : ListGrows old new
      pub seen : guest_of (abstract_of view backing new out) ≡ guest_of (abstract_of view backing old out)
      pub leaks : leaked_in new ≡ leaked_in old

    -- A fault ended the step: the header, except the pointer to the reftable, and the backing disk are the same, and a stop at any moment is as safe as before. No cluster is leaked.
    pub record InterruptedStep (old new : Qcow2 S F) (e : ImageError) : Type 0 where
      pub interrupted : InterruptedFileStep view old.file new.file e
      pub header : KeepsFormat old.file.header.fields new.file.header.fields
      pub below : below_of view backing new.backing ≡ below_of view backing old.backing
      pub leaks : leaked_in new ≡ leaked_in old

    -- Clusters of the list are freed. Those on the list afterwards are still pending. Or a fault ended the step.
    abbrev pub FreesListed : Pending → Qcow2 S F → Qcow2 S F → Mappings → Result (Unit {0}) ImageError → Type 0
    FreesListed p old new out (Ok _) = InternalFreeingStep (with_listed p old.file.free_list) (with_listed p new.file.free_list) old new out
    FreesListed p old new out (Err e) = InternalFreeingStep (with_listed p old.file.free_list) (with_listed p new.file.free_list) old new out ⊎ InterruptedStep old new e

    -- What a refused part leaves: a sound image with more clusters to free at most, or one that is about to fail.
    abbrev pub RefusedFillingStep : Pending → Qcow2 S F → Qcow2 S F → Mappings → ImageError → Type 0
    RefusedFillingStep p old new out e = InternalFillingStep p (pending_with_listed p old new) old new out ⊎ InterruptedStep old new e

    -- Clusters of new data have the same bytes.
    abbrev pub SameHeld : Pending → Qcow2 S F → Qcow2 S F → Type 0
    SameHeld p old new = (o : ℕ) → 0 < p.new_data (o / cluster_size old.file.header.fields) → contents_in view new.file o ≡ contents_in view old.file o

    -- The clusters that mappings hold are pending.
    abbrev pub HoldsAll : Pending → Mappings → Type 0
    HoldsAll p out = (k : ℕ) → over_all new_data_by out k ≤ p.new_data k

    -- The range of the file lies in a cluster of new data that no mapping has yet.
    pub record IsInHeldCluster (p : Pending) (image : Qcow2 S F) (out : Mappings) (cluster at n : ℕ) : Type 0 where
      pub new_data : 0 < p.new_data cluster
      pub unused : over_all new_data_by out cluster ≡ 0
      pub inside : (i : ℕ) → i < n → (at + i) / cluster_size image.file.header.fields ≡ cluster

    -- The zero entry of the offset's guest cluster keeps the host cluster at this place, and no mapping has that guest cluster.
    pub record IsKeptAlone (image : Qcow2 S F) (out : Mappings) (offset host : ℕ) : Type 0 where
      pub kept : cover image.file.header.fields (known_in view image.file) (offset / cluster_size image.file.header.fields) ≡ Zero (Some (host, true))
      pub alone : (k : ℕ) (q : Prepared) → slice_get out.slots k ≡ Some (Some q) → mapping_of_cluster image.file.header.fields q (offset / cluster_size image.file.header.fields) ≡ None

    -- The n bytes are copied from a guest offset to an offset of the file.
    abbrev pub IsCopied : Place → Qcow2 S F → Qcow2 S F → ℕ → ℕ → ℕ → Type 0
    IsCopied place old new at guest n = (i : ℕ) → i < n → known_byte (contents_for view backing place new (at + i)) ≡ (disk_of view backing place old).value (guest + i)

    -- The new cluster has what the guest sees of the offset's guest cluster, except where the caller promised to overwrite.
    abbrev pub IsFilled : Place → Qcow2 S F → Qcow2 S F → ℕ → ℕ → ℕ → Bool → Type 0
    IsFilled place old new cluster offset length overwrite =
        let size = cluster_size old.file.header.fields in
        (i : ℕ) → i < size → is_announced size offset length overwrite i ≡ false → known_byte (contents_for view backing place new (cluster * size + i)) ≡ (disk_of view backing place old).value (offset - offset % size + i)

    -- A cluster is allocated for data.
    abbrev pub AllocatesData : Pending → Qcow2 S F → Qcow2 S F → Mappings → Result ClustersToFreeEntry ImageError → Type 0
    AllocatesData p old new out (Ok n) = (n.count ≡ 1) × (n.kind ≡ Kind.Data) × InternalFillingStep p (with_new_data (pending_with_listed p old new) (run_of n)) old new out
    AllocatesData p old new out (Err e) = RefusedFillingStep p old new out e

    -- A new cluster that no mapping has yet.
    pub record IsGained (p : Pending) (old new : Qcow2 S F) (out : Mappings) (offset length : ℕ) (overwrite : Bool) (mapping : L2Mapping) (n : ClustersToFreeEntry) : Type 0 where
      pub one : n.count ≡ 1
      pub kind : n.kind ≡ Kind.Data
      pub unused : over_all new_data_by out n.first_cluster ≡ 0
      pub image_step : InternalFillingStep p (with_new_data (pending_with_listed p old new) (run_of n)) old new out
      pub filled : cover old.file.header.fields (known_in view old.file) (offset / cluster_size old.file.header.fields) ≡ mapping → IsFilled out.place old new n.first_cluster offset length overwrite

    abbrev pub Gains : Pending → Qcow2 S F → Qcow2 S F → Mappings → ℕ → ℕ → Bool → L2Mapping → Result ClustersToFreeEntry ImageError → Type 0
    Gains p old new out offset length overwrite mapping (Ok n) = IsGained p old new out offset length overwrite mapping n
    Gains p old new out offset length overwrite mapping (Err e) = RefusedFillingStep p old new out e
