-- Replacing the L1 table by a longer one, which guests don't see: clusters are allocated, the table is written to them, and the header points to it. The clusters of the old table wait to be freed.
use Rattle.std.specs.Prelude.{ℕ, ◌+◌, ◌-◌, ◌*◌, ◌/◌, ◌^◌, ◌<◌, ◌≡◌, ◌≤◌, ◌⊎◌, List, [], ◌∷◌, length, Option, Some, None, Result, Ok, Err}
use Rattle.image_access.specs.Backing.{BackingView}
use Rattle.image_access.specs.Moments.{StorageView}
use Rattle.qcow2_metadata.specs.Bytes.{Bytes}
use Rattle.qcow2_metadata.specs.declared.header.HeaderFields.{HeaderFields}
use Rattle.qcow2_metadata.specs.Header.{cluster_size}
use Rattle.qcow2_metadata.specs.Entries.{l1_entry}
use Rattle.qcow2_metadata.specs.EntryTable.{EntryTableView, entry_count}
use Rattle.qcow2_metadata.specs.Named.{in_run}
use Rattle.qcow2_metadata.specs.TableBytes.{entry_at}
use Rattle.qcow2_laws.specs.Changes.{with_new_tables}
use Rattle.qcow2_laws.specs.Clusters.{RbDependsOnL2}
use Rattle.qcow2_laws.specs.CrashInvariant.{Pending, SameCovers, SameCounts}
use Rattle.qcow2_disk.specs.Disk.{disk}
use Rattle.qcow2_laws.specs.SafeSteps.{SafeStep}
use Rattle.qcow2_disk.specs.Stops.{SafeThroughout}
use Rattle.qcow2_laws.specs.Tops.{with_places, with_l1_at}
use Rattle.qcow2_laws.specs.Internal.{used_by_guests, SameUsedBytes}
use Rattle.qcow2_alloc.specs.Allocation.{run_at}
use Rattle.qcow2_alloc.specs.MetadataCaches.{order_of}
use Rattle.qcow2_alloc.specs.ClustersToFree.{metadata_entry}
use Rattle.qcow2_alloc.specs.declared.clusters_to_free.ClustersToFreeEntry.{ClustersToFreeEntry}
use Rattle.qcow2_alloc.specs.declared.error.ImageError.{ImageError}
use Rattle.qcow2_alloc.specs.ImageFile.{view_in, contents_in, known_in, state_in, nothing_given, InterruptedFileStep}
use Rattle.qcow2_image.specs.declared.image.Qcow2.{Qcow2}
use Rattle.qcow2_image.specs.declared.prepared.Prepared.{Prepared}
use Rattle.qcow2_image.specs.CallParts.{RefusedCall, InternalCall}
use Rattle.qcow2_image.specs.Image.{leaked_in}
use Rattle.qcow2_image.specs.ImageInvariant.{below_of, ImageInvariant, Mappings}
use Rattle.qcow2_image.specs.MovedTables.{MovesTables, CoversStay}
use Rattle.qcow2_image.specs.InternalSteps.{InternalStep, ListGrows, pending_with_listed}

-- The number of clusters that a table needs.
abbrev pub clusters_of : EntryTableView → ℕ
clusters_of t = (length t.bytes + 2 ^ t.cluster_bits - 1) / 2 ^ t.cluster_bits

-- The clusters of a table, if it has a place.
abbrev pub run_of_table : EntryTableView → Option ℕ → Option ClustersToFreeEntry
run_of_table t None = None
run_of_table t (Some cluster) = Some (metadata_entry cluster (clusters_of t))

-- The run as a list of clusters to free.
abbrev pub listed : Option ClustersToFreeEntry → List ClustersToFreeEntry
listed None = []
listed (Some e) = e ∷ []

-- The clusters of the L1 table wait to be freed.
abbrev pub without_l1 : Pending → HeaderFields → Pending
without_l1 p h = record p { old_tables = λ k. p.old_tables k + in_run h k h.l1_offset (8 * h.l1_entries) }

-- Clusters are allocated for a table.
abbrev pub with_table : Pending → EntryTableView → ℕ → Pending
with_table p t cluster = with_new_tables p (run_at cluster (clusters_of t))

module _ {S F : Type 0} where
  -- A table with the entries of the image's L1 table, and possibly more that are empty.
  pub record IsLongerL1 (image : Qcow2 S F) (t : EntryTableView) : Type 0 where
    pub bits : t.cluster_bits ≡ image.file.header.fields.cluster_bits
    pub whole : length t.bytes ≡ 8 * entry_count t
    pub longer : image.file.header.fields.l1_entries ≤ entry_count t
    pub entries : (i : ℕ) → entry_at t.bytes i ≡ entry_at image.l1_table.bytes i

  module _ (view : S → StorageView) where
    -- The longer table is written to its clusters, and all refblocks are written.
    pub record StandsWhole (image : Qcow2 S F) (t : EntryTableView) (cluster : ℕ) : Type 0 where
      pub table : IsLongerL1 image t
      pub cluster_is : t.cluster ≡ Some cluster
      pub stands : (i : ℕ) → l1_entry (with_places image.file.header.fields (with_l1_at image.file.header.fields (cluster * cluster_size image.file.header.fields) (entry_count t))) (contents_in view image.file) i ≡ entry_at t.bytes i
      pub counts : SameCounts image.file.header.fields (contents_in view image.file) (known_in view image.file)
      pub covers : order_of image.file.caches ≡ RbDependsOnL2 → SameCovers image.file.header.fields (contents_in view image.file) (known_in view image.file)

    module _ (backing : F → BackingView) where
      -- Guests don't see the step, though the L1 table may move. The image is sound again, and a stop at any moment is as safe as before.
      pub record InternalMove (p p' : Pending) (old new : Qcow2 S F) (out : Mappings) : Type 0 where
        pub sound : ImageInvariant view backing p' new out
        pub safe_step : SafeStep (state_in view old.file p) (state_in view new.file p') nothing_given []
        pub since : SafeThroughout (view_in view old.file) (view_in view new.file) (known_in view old.file) nothing_given []
        pub header : MovesTables old.file.header.fields new.file.header.fields
        pub covers : CoversStay old.file.header.fields (known_in view old.file) new.file.header.fields (known_in view new.file)
        pub bytes : SameUsedBytes (state_in view old.file p) (state_in view new.file p')
        pub used : (c : ℕ) → 0 < used_by_guests (state_in view old.file p) c → 0 < used_by_guests (state_in view new.file p') c
        pub shows : (disk_below : Bytes) → disk (known_in view new.file) disk_below ≡ disk (known_in view old.file) disk_below
        pub below : below_of view backing new.backing ≡ below_of view backing old.backing
        pub list : ListGrows old new
        pub leaks : leaked_in new ≡ leaked_in old

      -- A fault ended the part while the header was written.
      pub record InterruptedMove (old new : Qcow2 S F) (e : ImageError) : Type 0 where
        pub interrupted : InterruptedFileStep view old.file new.file e
        pub header : MovesTables old.file.header.fields new.file.header.fields
        pub below : below_of view backing new.backing ≡ below_of view backing old.backing
        pub leaks : leaked_in new ≡ leaked_in old

      -- What a refused part leaves: a sound image with more clusters to free at most, or one that is about to fail.
      abbrev pub RefusedMove : Pending → Qcow2 S F → Qcow2 S F → Mappings → ImageError → Type 0
      RefusedMove p old new out e = InternalStep view backing p (pending_with_listed p old new) old new out ⊎ InterruptedMove old new e

      -- A longer table is written to its clusters.
      abbrev pub PlacesTable : Pending → Qcow2 S F → Qcow2 S F → Mappings → EntryTableView → ℕ → Result (Unit {0}) ImageError → Type 0
      PlacesTable p old new out t cluster (Ok _) = InternalStep view backing p p old new out × StandsWhole new t cluster
      PlacesTable p old new out t cluster (Err e) = InternalStep view backing p p old new out

      -- The header points to the longer table instead of the old one. If this is refused, its clusters are still those of a new table, or a fault ended the part.
      abbrev pub NamesTable : Pending → Qcow2 S F → Qcow2 S F → Mappings → EntryTableView → ℕ → Result (Unit {0}) ImageError → Type 0
      NamesTable p old new out t cluster (Ok _) = InternalMove (with_table p t cluster) (without_l1 p old.file.header.fields) old new out
      NamesTable p old new out t cluster (Err e) = InternalStep view backing (with_table p t cluster) (with_table p t cluster) old new out ⊎ InterruptedMove old new e

      -- The header points to a longer table in clusters that were allocated for it. The list of clusters to free may change too.
      abbrev pub NamesTaken : Pending → Qcow2 S F → Qcow2 S F → Mappings → EntryTableView → ClustersToFreeEntry → Result (Unit {0}) ImageError → Type 0
      NamesTaken p old new out t taken result =
          (named : Qcow2 S F) × (new ≡ record named { file = record named.file { free_list = new.file.free_list } }) × (named.file.free_list ≡ old.file.free_list) × NamesTable p old named out t taken.first_cluster result

      -- A longer table gets its clusters, and replaces the L1 table.
      abbrev pub AllocatesTable : Pending → Qcow2 S F → Qcow2 S F → Mappings → Result (Unit {0}) ImageError → Type 0
      AllocatesTable p old new out (Ok _) = InternalMove p (without_l1 (pending_with_listed p old new) old.file.header.fields) old new out
      AllocatesTable p old new out (Err e) = RefusedMove p old new out e

      -- A longer table replaces the L1 table, and the clusters of the old one wait to be freed.
      abbrev pub Lengthens : Pending → Qcow2 S F → Qcow2 S F → Mappings → Result (Unit {0}) ImageError → Type 0
      Lengthens p old new out (Ok _) = InternalMove p (pending_with_listed p old new) old new out
      Lengthens p old new out (Err e) = RefusedMove p old new out e

      -- A part of a call makes sure that there is an L1 entry. Guests don't see it.
      abbrev pub MakesEntry : Qcow2 S F → Qcow2 S F → Mappings → Result (Unit {0}) ImageError → Type 0
      MakesEntry old new out (Ok _) = InternalCall view backing old new out
      MakesEntry old new out (Err e) = RefusedCall view backing old new out e
