-- How a prepared range is extended after its first cluster.
use Rattle.std.specs.Prelude.{Bool, true, false, ℕ, ◌+◌, ◌-◌, ◌*◌, ◌/◌, ◌%◌, ◌<◌, ◌≤◌, ◌≡◌, ◌≢◌, ◌⊎◌, ◌&&◌, List, [], ◌∷◌, ◌++◌, length, min, Option, Some, None, Result, Ok, Err, IsTrue, slice_get, slice_set, vec_capacity}
use Rattle.image_access.specs.Backing.{BackingView}
use Rattle.image_access.specs.Moments.{StorageView}
use Rattle.qcow2_metadata.specs.Bytes.{Bytes, is_within}
use Rattle.qcow2_metadata.specs.Entries.{count}
use Rattle.qcow2_metadata.specs.Guest.{known_byte}
use Rattle.qcow2_metadata.specs.Header.{cluster_size, entries_per_cluster}
use Rattle.qcow2_metadata.specs.L2Mapping.{IsHostCluster, named_run}
use Rattle.qcow2_metadata.specs.declared.header.HeaderFields.{HeaderFields}
use Rattle.qcow2_metadata.specs.declared.l2_mapping.L2Mapping.{L2Mapping}
use Rattle.qcow2_metadata.specs.declared.l2_mapping.L2Mapping.TheVariants.{Zero}
use Rattle.qcow2_metadata.specs.Cover.{cover}
use Rattle.qcow2_disk.specs.AbstractImages.{guest_of}
use Rattle.qcow2_disk.specs.Alike.{IsDataAt}
use Rattle.qcow2_disk.specs.Calls.{EffectOnSound, with_slot}
use Rattle.qcow2_laws.specs.Changes.{with_new_data}
use Rattle.qcow2_laws.specs.CrashInvariant.{Pending, SameCovers}
use Rattle.qcow2_disk.specs.Found.{rest_of_table}
use Rattle.qcow2_disk.specs.Mappings.{IsPrepared}
use Rattle.qcow2_laws.specs.Internal.{KeepsFormat}
use Rattle.qcow2_alloc.specs.ImageFile.{contents_in, known_in}
use Rattle.qcow2_alloc.specs.Limits.{IsPastLimits}
use Rattle.qcow2_alloc.specs.MetadataCaches.{AreAllWritten, l2_at}
use Rattle.qcow2_alloc.specs.declared.clusters_to_free.ClusterKind.TheVariants as Kind
use Rattle.qcow2_alloc.specs.declared.clusters_to_free.ClustersToFreeEntry.{ClustersToFreeEntry}
use Rattle.qcow2_alloc.specs.declared.error.ImageError.{ImageError}
use Rattle.qcow2_image.specs.declared.image.Qcow2.{Qcow2}
use Rattle.qcow2_image.specs.declared.prepared.Prepared.{Prepared}
use Rattle.qcow2_image.specs.declared.prepared.ClusterMapping.{ClusterMapping}
use Rattle.qcow2_image.specs.declared.prepared.ClusterMapping.TheVariants.{New}
use Rattle.qcow2_image.specs.CallParts.{IsReadied, RefusedCall, InternalCall}
use Rattle.qcow2_image.specs.ImageInvariant.{run_of, of_data, of_tables, to_free, new_data_in, new_data_by, over_all, is_entered, cluster_of, place_of, listed_run, disk_of, pending_in, abstract_of, meaning, IsClusterMappingAt, ImageInvariant, Mappings, set_slot, contents_for}
use Rattle.qcow2_image.specs.InternalSteps.{IsGained, RefusedFillingStep, InternalFillingStep, pending_with_listed}

module _ (h : HeaderFields) where
  -- A mapping of the rest of the first cluster of a range, in this L2 table.
  pub record IsFirst (offset table : ℕ) (p : Prepared) : Type 0 where
    pub guest : p.guest ≡ offset
    pub under : p.table ≡ Some table
    pub rest : p.length ≡ cluster_size h - offset % cluster_size h
    pub one : length p.clusters.items ≡ 1

  -- If the first guest cluster has a zero entry that keeps a host cluster, marked copied, the mapping begins in that host cluster, at the same offset in it.
  abbrev pub BeginsInKept : (offset : ℕ) → L2Mapping → Prepared → Type 0
  BeginsInKept offset first p = (host : ℕ) → first ≡ Zero (Some (host, true)) → p.offset ≡ host + offset % cluster_size h

  -- The mapping ends at the end of a cluster.
  abbrev pub EndsWithCluster : Prepared → Type 0
  EndsWithCluster p = p.guest % cluster_size h + p.length ≡ length p.clusters.items * cluster_size h

  -- The mapping may be extended: the range goes on after it, and its L2 table has an entry for the next cluster.
  pub record MayGoOn (n table : ℕ) (p : Prepared) : Type 0 where
    pub under : p.table ≡ Some table
    pub whole : EndsWithCluster p
    pub more : p.length < n
    pub within : cluster_of h p % entries_per_cluster h + length p.clusters.items < entries_per_cluster h

  -- The mapping has memory for the clusters of a range of n bytes, within its L2 table.
  abbrev pub HasRoomForRange : ℕ → Prepared → Type 0
  HasRoomForRange n p = p.guest % cluster_size h + min n (rest_of_table h p.guest) < vec_capacity p.clusters * cluster_size h

  -- The mapping is extended by the next cluster, up to the end of the range.
  pub record IsNext (n : ℕ) (p q : Prepared) : Type 0 where
    pub cluster_mapping : ClusterMapping
    pub clusters : q.clusters.items ≡ p.clusters.items ++ cluster_mapping ∷ []
    pub rest : q ≡ record p { length = min n (p.length + cluster_size h); clusters = q.clusters }

  -- The extended mapping begins at the same place with the same first cluster. It is not shorter than before, and no longer than the range unless it already was. If the range goes on after it, it ends at a cluster boundary.
  pub record IsLongerMapping (n : ℕ) (p q : Prepared) : Type 0 where
    pub image : q.image ≡ p.image
    pub file : q.place ≡ p.place
    pub guest : q.guest ≡ p.guest
    pub place : q.offset ≡ p.offset
    pub under : q.table ≡ p.table
    pub first : (cluster_mapping : ClusterMapping) → slice_get p.clusters.items 0 ≡ Some cluster_mapping → slice_get q.clusters.items 0 ≡ Some cluster_mapping
    pub more : p.length ≤ q.length
    pub most : n < q.length → q.length ≡ p.length
    pub whole : q.length < n → EndsWithCluster q

  -- Why a mapping ends at guest byte e and host byte f before its range does. A cluster ends there, and one of these holds: the L2 table ends; the next guest cluster is copied data elsewhere; the next host cluster is past a limit; or it is in use, and the next zero entry does not keep it.
  pub record EndsAt (known : Bytes) (e f : ℕ) : Type 0 where
    pub cluster : e % cluster_size h ≡ 0
    pub because : (e % (cluster_size h * entries_per_cluster h) ≡ 0)
        ⊎ (((place : ℕ) × IsDataAt h known true e place × (place ≢ f))
        ⊎ (IsPastLimits h (f / cluster_size h) ⊎ ((count h known (f / cluster_size h) ≢ 0) × (cover h known (e / cluster_size h) ≢ Zero (Some (f, true))))))

module _ {S F : Type 0} (view : S → StorageView) where
  -- Why a mapping ends before its range does, by the known contents.
  abbrev pub Ends : Qcow2 S F → Prepared → Type 0
  Ends image p = EndsAt image.file.header.fields (known_in view image.file) (p.guest + p.length) (p.offset + p.length)

  -- A mapping was dropped: no cached table changed, and none is modified that was not.
  pub record ReleasesOneMapping (old new : Qcow2 S F) : Type 0 where
    pub rest : new ≡ record old { file = record old.file { caches = new.file.caches; free_list = new.file.free_list } }
    pub known : known_in view new.file ≡ known_in view old.file
    pub changed : new.file.caches.is_changed ≡ old.file.caches.is_changed
    pub counted : new.file.caches.changes ≡ old.file.caches.changes
    pub written : AreAllWritten old.file.caches → AreAllWritten new.file.caches
    pub held : (cluster : ℕ) → l2_at new.file.caches cluster ≡ l2_at old.file.caches cluster

  -- The mapping of a range of n bytes covers at least the rest of the first cluster, and no more than that or the range. If it is shorter than the range, there is a cause. If the first guest cluster keeps a host cluster, the mapping begins there.
  pub record Reaches (image : Qcow2 S F) (offset n : ℕ) (p : Prepared) : Type 0 where
    pub guest : p.guest ≡ offset
    pub under : (table : ℕ) × (p.table ≡ Some table)
    pub first : cluster_size image.file.header.fields - offset % cluster_size image.file.header.fields ≤ p.length
    pub most : (n < p.length) → p.length ≡ cluster_size image.file.header.fields - offset % cluster_size image.file.header.fields
    pub short : p.length < n → Ends image p
    pub kept : BeginsInKept image.file.header.fields offset (cover image.file.header.fields (known_in view image.file) (offset / cluster_size image.file.header.fields)) p

  module _ (backing : F → BackingView) where
    -- Exactly this cluster is allocated for data; or it is past a limit, or in use.
    abbrev pub AllocatesDataAt : Pending → Qcow2 S F → Qcow2 S F → Mappings → ℕ → Result (Option ClustersToFreeEntry) ImageError → Type 0
    AllocatesDataAt p old new out cluster (Ok (Some n)) = (n.first_cluster ≡ cluster) × (n.count ≡ 1) × (n.kind ≡ Kind.Data) × InternalFillingStep view backing p (with_new_data (pending_with_listed p old new) (run_of n)) old new out
    AllocatesDataAt p old new out cluster (Ok None) =
        InternalFillingStep view backing p (pending_with_listed p old new) old new out × (IsPastLimits old.file.header.fields cluster ⊎ (count new.file.header.fields (known_in view new.file) cluster ≢ 0))
    AllocatesDataAt p old new out cluster (Err e) = RefusedFillingStep view backing p old new out e

    -- Exactly this cluster is allocated, and filled with what the guest sees, except where the caller promised to overwrite; or it is past a limit, or in use.
    abbrev pub GainsAt : Pending → Qcow2 S F → Qcow2 S F → Mappings → ℕ → ℕ → Bool → L2Mapping → ℕ → Result (Option ClustersToFreeEntry) ImageError → Type 0
    GainsAt p old new out offset n overwrite mapping cluster (Ok (Some run)) = (run.first_cluster ≡ cluster) × IsGained view backing p old new out offset n overwrite mapping run
    GainsAt p old new out offset n overwrite mapping cluster (Ok None) =
        InternalFillingStep view backing p (pending_with_listed p old new) old new out × (IsPastLimits old.file.header.fields cluster ⊎ (count new.file.header.fields (known_in view new.file) cluster ≢ 0))
    GainsAt p old new out offset n overwrite mapping cluster (Err e) = RefusedFillingStep view backing p old new out e

    -- The mapping of a guest cluster to a host offset: a new cluster that no prepared mapping has yet.
    pub record IsSharedAt (p : Pending) (old new : Qcow2 S F) (out : Mappings) (offset n : ℕ) (overwrite : Bool) (mapping : L2Mapping) (host : ℕ) (cluster_mapping : ClusterMapping) : Type 0 where
      pub run : ClustersToFreeEntry
      pub is : cluster_mapping ≡ New (run ∷ []) (listed_run (named_run old.file.header.fields.cluster_bits mapping))
      pub place : run.first_cluster * cluster_size old.file.header.fields ≡ host
      pub nameable : IsHostCluster old.file.header.fields.cluster_bits run.first_cluster
      pub gained : IsGained view backing p old new out offset n overwrite mapping run

    abbrev pub ClusterMappingsAt : Pending → Qcow2 S F → Qcow2 S F → Mappings → ℕ → ℕ → Bool → L2Mapping → ℕ → Result (Option ClusterMapping) ImageError → Type 0
    ClusterMappingsAt p old new out offset n overwrite mapping host (Ok (Some cluster_mapping)) = IsSharedAt p old new out offset n overwrite mapping host cluster_mapping
    ClusterMappingsAt p old new out offset n overwrite mapping host (Ok None) =
        InternalFillingStep view backing p (pending_with_listed p old new) old new out
        × (IsPastLimits old.file.header.fields (host / cluster_size old.file.header.fields) ⊎ (count new.file.header.fields (known_in view new.file) (host / cluster_size old.file.header.fields) ≢ 0))
    ClusterMappingsAt p old new out offset n overwrite mapping host (Err e) = RefusedFillingStep view backing p old new out e

    -- The guest cluster after a mapping has a host cluster. If it is not in place, it has what the guest sees, except where the caller promised to overwrite.
    pub record StandsBehind (old new : Qcow2 S F) (out : Mappings) (n : ℕ) (overwrite : Bool) (p : Prepared) (cluster_mapping : ClusterMapping) : Type 0 where
      pub pending : Pending
      pub image_step : InternalFillingStep view backing (pending_in view backing old out) pending old new out
      pub new_data : (c : ℕ) → pending.new_data c ≡ over_all new_data_by out c + new_data_in (cluster_mapping ∷ []) c
      pub new_tables : (c : ℕ) → pending.new_tables c ≡ 0
      pub old_tables : (c : ℕ) → pending.old_tables c ≡ to_free of_tables new.file.free_list c
      pub old_data : (c : ℕ) → pending.old_data c ≡ to_free of_data new.file.free_list c
      pub surplus : pending.surplus ≡ (pending_in view backing old out).surplus
      pub stands : IsClusterMappingAt new.file.header.fields out.place (known_in view new.file) (contents_in view new.file) p (length p.clusters.items) cluster_mapping
      pub filled : (o : ℕ) → o / cluster_size new.file.header.fields ≡ cluster_of new.file.header.fields p + length p.clusters.items → IsTrue (is_entered cluster_mapping)
          → (overwrite && is_within p.guest (min n (p.length + cluster_size new.file.header.fields)) o ≡ false) → known_byte (contents_for view backing out.place new (place_of new.file.header.fields p o)) ≡ (disk_of view backing out.place old).value o

    -- The mapping of the next guest cluster is found; or there can be none, and nothing changed; or the part was refused.
    abbrev pub FindsBehind : Qcow2 S F → Qcow2 S F → Mappings → (n : ℕ) → Bool → Prepared → Result (Option ClusterMapping) ImageError → Type 0
    FindsBehind old new out n overwrite p (Ok (Some cluster_mapping)) = StandsBehind old new out n overwrite p cluster_mapping
    FindsBehind old new out n overwrite p (Ok None) = InternalCall view backing old new out × Ends new p
    FindsBehind old new out n overwrite p (Err e) = RefusedCall view backing old new out e

    -- A prepared mapping was extended in its slot. Everything in it that is not copied data is private.
    pub record IsExtended (old new : Qcow2 S F) (out : Mappings) (k n : ℕ) (overwrite : Bool) (p q : Prepared) : Type 0 where
      pub works : EffectOnSound (abstract_of view backing old out) (abstract_of view backing new (set_slot out k (Some q))) [] []
      pub sound : ImageInvariant view backing (pending_in view backing new (set_slot out k (Some q))) new (set_slot out k (Some q))
      pub header : KeepsFormat old.file.header.fields new.file.header.fields
      pub covers : SameCovers old.file.header.fields (known_in view old.file) (known_in view new.file)
      pub prepared : IsPrepared (cluster_size old.file.header.fields) (guest_of (abstract_of view backing old out)).disk p.guest n overwrite (meaning view backing out.place old p)
          → IsPrepared (cluster_size old.file.header.fields) (guest_of (abstract_of view backing old out)).disk p.guest n overwrite (meaning view backing out.place new q)
      pub is : guest_of (abstract_of view backing new (set_slot out k (Some q))) ≡ with_slot (guest_of (abstract_of view backing old out)) k (Some (meaning view backing out.place new q))

    -- A mapping was extended by the next cluster; or there can be none, and nothing changed; or the part was refused.
    abbrev pub GoesNext : Qcow2 S F → Qcow2 S F → Mappings → (k n : ℕ) → Bool → Prepared → Prepared → Result Bool ImageError → Type 0
    GoesNext old new out k n overwrite p q (Ok true) = IsExtended old new out k n overwrite p q
    GoesNext old new out k n overwrite p q (Ok false) = InternalCall view backing old new out × Ends new p
    GoesNext old new out k n overwrite p q (Err e) = RefusedCall view backing old new out e

    -- A range was prepared up to some point, and then a part was refused.
    pub record BreaksOff (start new : Qcow2 S F) (out : Mappings) (k n : ℕ) (overwrite : Bool) (q : Prepared) (e : ImageError) : Type 0 where
      pub mid : Qcow2 S F
      pub readied : IsReadied view backing start mid out k q.guest n overwrite q
      pub refused : RefusedCall view backing mid new (set_slot out k (Some q)) e

    -- A range that was prepared in part is prepared as far as possible.
    abbrev pub GoesOn : Qcow2 S F → Qcow2 S F → Mappings → (k n : ℕ) → Bool → Prepared → Result (Unit {0}) ImageError → Type 0
    GoesOn start new out k n overwrite q (Ok _) = IsReadied view backing start new out k q.guest n overwrite q × (q.length < n → Ends new q)
    GoesOn start new out k n overwrite q (Err e) = BreaksOff start new out k n overwrite q e
