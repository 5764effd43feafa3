-- The view of an open image in contracts: its disk, its prepared mappings, what is pending, and when it is sound.
use Rattle.std.specs.Prelude.{ℕ, ◌+◌, ◌-◌, ◌*◌, ◌/◌, ◌%◌, ◌≡◌, ◌<◌, ◌≤◌, ◌==◌, Bool, true, false, is_some, is_none, IfSome, List, [], ◌∷◌, length, nat_le, Option, None, Some, slice_get, slice_set, if◌then◌else◌}
use Rattle.std.specs.Option.{option_map_or}
use Rattle.image_access.specs.Backing.{BackingView}
use Rattle.image_access.specs.Moments.{StorageView}
use Rattle.qcow2_metadata.specs.declared.header.HeaderFields.{HeaderFields}
use Rattle.qcow2_metadata.specs.Bytes.{Bytes, byte_at, one_if}
use Rattle.qcow2_metadata.specs.Header.{cluster_size, entries_per_cluster}
use Rattle.qcow2_metadata.specs.Entries.{count, l1_entry, is_copied}
use Rattle.qcow2_metadata.specs.Cover.{cover}
use Rattle.qcow2_metadata.specs.Named.{named}
use Rattle.qcow2_metadata.specs.Guest.{known_byte}
use Rattle.qcow2_metadata.specs.EntryTable.{EntryTableView, IsL1TableOf, entry_count}
use Rattle.qcow2_metadata.specs.L2Mapping.{IsHostCluster, IsInReach, named_run}
use Rattle.qcow2_metadata.specs.declared.l2_mapping.L2Mapping.TheVariants.{Data, Zero}
use Rattle.qcow2_disk.specs.Disk.{Disk, disk_with}
use Rattle.qcow2_laws.specs.CrashInvariant.{Pending}
use Rattle.qcow2_disk.specs.Mappings.{PreparedMapping, is_copied_data}
use Rattle.qcow2_disk.specs.AbstractImages.{Abstraction, AbstractImage, abstract_image as view_of}
use Rattle.qcow2_alloc.specs.declared.clusters_to_free.ClustersToFreeEntry.{ClustersToFreeEntry}
use Rattle.qcow2_alloc.specs.ClustersToFree.{data_entry}
use Rattle.qcow2_alloc.specs.declared.image_file.ImageFile.{ImageFile}
pub use Rattle.qcow2_alloc.specs.FreeList.{run_of, of_data, of_tables, to_free}
use Rattle.qcow2_alloc.specs.MetadataCaches.{IsEntryAt}
use Rattle.qcow2_alloc.specs.ImageFile.{l2_pins, view_in, contents_in, known_in, FileInvariant}
use Rattle.qcow2_alloc.specs.KeptAllocators.{IsAllocatorOf}
use Rattle.qcow2_image.specs.declared.image.Qcow2.{Qcow2}
use Rattle.qcow2_image.specs.declared.mapping.Place.{Place}
use Rattle.qcow2_image.specs.declared.mapping.Place.TheVariants.{DataFile, Image}
use Rattle.qcow2_image.specs.declared.prepared.Prepared.{Prepared}
use Rattle.qcow2_image.specs.declared.prepared.ClusterMapping.{ClusterMapping}
use Rattle.qcow2_image.specs.declared.prepared.ClusterMapping.TheVariants.{InPlace, Kept, New}
use Rattle.qcow2_image.specs.Image.{number_of, is_failed, is_writable, leaked_in}
use Rattle.qcow2_image.specs.Prepared.{image_of, offset_of, length_of, table_of}

-- ---- what is pending

-- 1 for the cluster of the pinned table, otherwise 0.
abbrev pub pins_of : Option ℕ → ℕ → ℕ
pins_of pinned table = option_map_or (λ t. one_if (t == table)) pinned 0

-- How many of these cluster mappings have the cluster as their new one.
abbrev pub new_data_in : List ClusterMapping → ℕ → ℕ
new_data_in [] k = 0
new_data_in (InPlace ∷ clusters) k = new_data_in clusters k
new_data_in (Kept ∷ clusters) k = new_data_in clusters k
new_data_in (New taken old_data ∷ clusters) k = to_free of_data taken k + new_data_in clusters k

-- How often a prepared mapping holds the cluster; and how often it pins the L2 table in the cluster.
abbrev pub new_data_by : Prepared → ℕ → ℕ
new_data_by p k = new_data_in p.clusters.items k

abbrev pub pins_by : Prepared → ℕ → ℕ
pins_by p table = pins_of p.table table

-- A run of data clusters that wait to be freed.
abbrev pub listed_run : Option (ℕ × ℕ) → List ClustersToFreeEntry
listed_run None = []
listed_run (Some run) = data_entry run.0 run.1 ∷ []

-- The prepared mappings of an image by slot, and the file that holds guests' data.
pub record Mappings : Type 0 where
  pub place : Place
  pub slots : List (Option Prepared)

-- Mappings of an image whose own file holds guests' data.
abbrev pub in_image : List (Option Prepared) → Mappings
in_image slots = record { place = Image; slots = slots }

-- Another mapping, or none, is in a slot.
abbrev pub set_slot : Mappings → ℕ → Option Prepared → Mappings
set_slot out k p = record { place = out.place; slots = slice_set out.slots k p }

-- The sum over the prepared mappings of a list, and over all.
abbrev pub over_slots : (Prepared → ℕ → ℕ) → List (Option Prepared) → ℕ → ℕ
over_slots f [] k = 0
over_slots f (p ∷ slots) k = option_map_or (λ q. f q k) p 0 + over_slots f slots k

abbrev pub over_all : (Prepared → ℕ → ℕ) → Mappings → ℕ → ℕ
over_all f out k = over_slots f out.slots k

-- The bytes of the file that holds guests' data: the image's own, or its data file.
abbrev pub bytes_for : Place → (own beside : Bytes) → Bytes
bytes_for Image own beside = own
bytes_for DataFile own beside = beside

-- ---- prepared mappings over the bytes of an image: on the storage, and known

-- Whether the bytes of a cluster become visible only when it is entered in the L2 table.
abbrev pub is_entered : ClusterMapping → Bool
is_entered InPlace = false
is_entered Kept = true
is_entered (New taken old_data) = true

-- Whether the host cluster is new, so that nothing on the storage names it.
abbrev pub is_new : ClusterMapping → Bool
is_new InPlace = false
is_new Kept = false
is_new (New taken old_data) = true

module _ (h : HeaderFields) where
  -- The first guest cluster of a mapping, and the host offset of its cluster.
  abbrev pub cluster_of : Prepared → ℕ
  cluster_of p = p.guest / cluster_size h

  abbrev pub begin_of : Prepared → ℕ
  begin_of p = p.offset - p.guest % cluster_size h

  -- The host offset of the i-th cluster of a mapping. The clusters are contiguous in the file.
  abbrev pub host_begin_of : Prepared → ℕ → ℕ
  host_begin_of p i = begin_of p + i * cluster_size h

  -- The host offset of a guest byte of the mapping.
  abbrev pub place_of : Prepared → ℕ → ℕ
  place_of p o = begin_of p + (o - cluster_of p * cluster_size h)

  -- The cluster mapping of a guest cluster in a prepared mapping, if it has one.
  abbrev pub mapping_of_cluster : Prepared → ℕ → Option ClusterMapping
  mapping_of_cluster p g = if nat_le (cluster_of p) g then slice_get p.clusters.items (g - cluster_of p) else None

  module _ (known on_storage : Bytes) (p : Prepared) where
    -- The host cluster is new: the L2 entry of the i-th guest cluster is not copied data, and what it refers to will be old data.
    pub record IsNewAt (i : ℕ) (taken old_data : List ClustersToFreeEntry) : Type 0 where
      pub first : ℕ
      pub is : taken ≡ data_entry first 1 ∷ []
      pub place : first * cluster_size h ≡ host_begin_of p i
      pub nameable : IsHostCluster h.cluster_bits first
      pub entry : is_copied_data (cover h known (cluster_of p + i)) ≡ false
      pub reach : IsInReach (cover h known (cluster_of p + i))
      pub drops : old_data ≡ listed_run (named_run h.cluster_bits (cover h known (cluster_of p + i)))

    -- The host cluster is kept: the L2 entry is a zero entry that keeps it.
    pub record IsKeptAt (i : ℕ) : Type 0 where
      pub first : ℕ
      pub place : first * cluster_size h ≡ host_begin_of p i
      pub nameable : IsHostCluster h.cluster_bits first
      pub entry : cover h known (cluster_of p + i) ≡ Zero (Some (host_begin_of p i, true))

    -- The cluster is at its guest offset in the data file: the L2 entry of the i-th guest cluster is not copied data yet.
    pub record IsGuestAt (i : ℕ) : Type 0 where
      pub place : host_begin_of p i ≡ (cluster_of p + i) * cluster_size h
      pub nameable : IsHostCluster h.cluster_bits (cluster_of p + i)
      pub entry : is_copied_data (cover h known (cluster_of p + i)) ≡ false
      pub reach : IsInReach (cover h known (cluster_of p + i))

    -- The cluster has its place before it is entered, by the file that holds guests' data.
    abbrev pub IsKeptIn : Place → ℕ → Type 0
    IsKeptIn Image i = IsKeptAt i
    IsKeptIn DataFile i = IsGuestAt i

    abbrev pub IsNewIn : Place → ℕ → (taken old_data : List ClustersToFreeEntry) → Type 0
    IsNewIn Image i taken old_data = IsNewAt i taken old_data
    IsNewIn DataFile i taken old_data = ⊥

  module _ (place : Place) (known on_storage : Bytes) (p : Prepared) where
    -- The i-th cluster of a mapping is in place (copied data), kept or new. In a data file none is new.
    abbrev pub IsClusterMappingAt : ℕ → ClusterMapping → Type 0
    IsClusterMappingAt i InPlace = cover h known (cluster_of p + i) ≡ Data (host_begin_of p i) true
    IsClusterMappingAt i Kept = IsKeptIn known on_storage p place i
    IsClusterMappingAt i (New taken old_data) = IsNewIn known on_storage p place i taken old_data

    -- A pinned mapping has a cluster mapping for each guest cluster that it touches. All are in one L2 table, which it pins, and whose L1 entry is marked copied.
    pub record IsPending (table : ℕ) : Type 0 where
      pub some : 0 < p.length
      pub begins : begin_of p + p.guest % cluster_size h ≡ p.offset
      pub enough : p.guest % cluster_size h + p.length ≤ length p.clusters.items * cluster_size h
      pub no_more : length p.clusters.items * cluster_size h < p.guest % cluster_size h + p.length + cluster_size h
      pub within : cluster_of p % entries_per_cluster h + length p.clusters.items ≤ entries_per_cluster h
      pub named : IsEntryAt h known (cluster_of p / entries_per_cluster h) table (cluster_of p % entries_per_cluster h)
      pub copied : is_copied (l1_entry h on_storage (cluster_of p / entries_per_cluster h)) ≡ true
      pub each : (i : ℕ) (cluster_mapping : ClusterMapping) → slice_get p.clusters.items i ≡ Some cluster_mapping → IsClusterMappingAt i cluster_mapping

    abbrev pub IsReadyWith : Option ℕ → Type 0
    IsReadyWith None = p.clusters.items ≡ []
    IsReadyWith (Some table) = IsPending table

module _ {S F : Type 0} (view : S → StorageView) (backing : F → BackingView) where
  -- ---- the backing disk

  abbrev pub backing_bytes : Option F → Bytes
  backing_bytes None = λ o. 0
  backing_bytes (Some f) = byte_at (backing f).bytes

  -- How often the backing disk has failed.
  abbrev pub faults_below : Option F → ℕ
  faults_below None = 0
  faults_below (Some f) = (backing f).faults

  -- Whether there is a backing disk, and its bytes.
  abbrev pub below_of : Option F → Bool × Bytes
  below_of disk = (is_some disk, backing_bytes disk)

  abbrev pub IsHonestBacking : Option F → Type 0
  IsHonestBacking None = Unit {0}
  IsHonestBacking (Some f) = (backing f).is_honest

  -- ---- the file that holds guests' data

  -- The bytes of a data file.
  abbrev pub bytes_beside : Option S → Bytes
  bytes_beside None = λ o. 0
  bytes_beside (Some file) = byte_at (view file).contents

  -- The bytes of guests' data, as they are known.
  abbrev pub known_for : Place → Qcow2 S F → Bytes
  known_for place image = bytes_for place (known_in view image.file) (bytes_beside image.data_file)

  -- The bytes of guests' data on the storage.
  abbrev pub contents_for : Place → Qcow2 S F → Bytes
  contents_for place image = bytes_for place (contents_in view image.file) (bytes_beside image.data_file)

  -- The data are in the image's own file.
  pub record IsInside (incompatible : ℕ) (data_file : Option S) : Type 0 where
    pub inside : incompatible ≡ 0
    pub alone : data_file ≡ None

  -- Guests' data are in this file. So far a sound image has them in its own.
  abbrev pub IsAt : Place → ℕ → Option S → Type 0
  IsAt Image incompatible data_file = IsInside incompatible data_file
  IsAt DataFile incompatible data_file = ⊥

  -- ---- prepared mappings

  -- The meaning of a prepared mapping: bytes that are not in place are private until the commit, which shows them. Those in new clusters are also hidden from stops.
  abbrev pub is_private : Qcow2 S F → Prepared → ℕ → Bool
  is_private image p o = option_map_or is_entered (mapping_of_cluster image.file.header.fields p (o / cluster_size image.file.header.fields)) false

  abbrev pub is_hidden : Qcow2 S F → Prepared → ℕ → Bool
  is_hidden image p o = option_map_or is_new (mapping_of_cluster image.file.header.fields p (o / cluster_size image.file.header.fields)) false

  abbrev pub meaning : Place → Qcow2 S F → Prepared → PreparedMapping
  meaning place image p = record {
    from = p.guest;
    length = p.length;
    is_private = is_private image p;
    is_hidden = is_hidden image p;
    shown = λ o. known_byte (if is_private image p o then contents_for place image (place_of image.file.header.fields p o) else 0);
  }

  -- The mapping belongs to this image, and is existing or ready for its commit.
  pub record IsReady (place : Place) (image : Qcow2 S F) (p : Prepared) : Type 0 where
    pub own : image_of p ≡ number_of image
    pub mapped : IsReadyWith image.file.header.fields place (known_in view image.file) (contents_in view image.file) p p.table

  -- ---- the image

  -- The L1 table in memory is the one on the storage. Without entries it has no place.
  pub record HasL1Table (file : ImageFile S) (table : EntryTableView) : Type 0 where
    pub cluster : 0 < file.header.fields.l1_entries → table.cluster ≡ Some (file.header.fields.l1_offset / cluster_size file.header.fields)
    pub bits : table.cluster_bits ≡ file.header.fields.cluster_bits
    pub count : entry_count table ≡ file.header.fields.l1_entries
    pub entries : IsL1TableOf file.header.fields (contents_in view file) table

  -- The invariant of an open image, with these pending clusters and these prepared mappings.
  pub record ImageInvariant (p : Pending) (image : Qcow2 S F) (out : Mappings) : Type 0 where
    pub works : is_failed image ≡ false
    pub file : FileInvariant view p image.file
    pub stands : IsAt out.place image.file.header.fields.incompatible image.data_file
    pub l1_table : HasL1Table image.file image.l1_table
    pub reftable : IfSome image.allocator (IsAllocatorOf view image.file)
    pub below : IsHonestBacking image.backing
    pub ready : (k : ℕ) (q : Prepared) → slice_get out.slots k ≡ Some (Some q) → IsReady out.place image q
    pub pinned : (table : ℕ) → l2_pins image.file.caches table ≡ over_all pins_by out table
    pub once : (table : ℕ) → over_all pins_by out table ≤ 1

  -- The surplus of a cluster: its refcount minus its references, new data and clusters that wait to be freed.
  abbrev pub surplus_in : Qcow2 S F → Mappings → ℕ → ℕ
  surplus_in image out k =
      count image.file.header.fields (known_in view image.file) k
      - (named image.file.header.fields (known_in view image.file) k + over_all new_data_by out k + to_free of_tables image.file.free_list k + to_free of_data image.file.free_list k)

  -- What is pending: the clusters of prepared mappings, and those that wait to be freed.
  abbrev pub pending_in : Qcow2 S F → Mappings → Pending
  pending_in image out = record {
    new_data = over_all new_data_by out;
    new_tables = λ k. 0;
    old_tables = to_free of_tables image.file.free_list;
    old_data = to_free of_data image.file.free_list;
    surplus = surplus_in image out;
  }

  -- The view of open images, as the abstract disk needs it, by the file that holds guests' data.
  abbrev pub abstraction_at : Place → Abstraction (Qcow2 S F) Prepared
  abstraction_at place = record {
    number = number_of;
    number_of = image_of;
    setting = λ image. record { cluster_size = cluster_size image.file.header.fields; is_backed = is_some image.backing; backing = backing_bytes image.backing };
    is_failed = is_failed;
    storage = λ image. view_in view image.file;
    faults_below = λ image. faults_below image.backing;
    known = λ image. known_in view image.file;
    data_bytes = known_for place;
    is_sound = λ image slots. ImageInvariant (pending_in image (record { place = place; slots = slots })) image (record { place = place; slots = slots });
    surplus = λ image slots. surplus_in image (record { place = place; slots = slots });
    leaked = leaked_in;
    to_be_freed = λ image k. if is_writable image then to_free of_tables image.file.free_list k + to_free of_data image.file.free_list k else 0;
    means = meaning place;
    host = λ p. record { offset = offset_of p; length = length_of p; is_existing = is_none (table_of p) };
  }

  -- The same of images whose own file holds guests' data.
  abbrev pub image_abstraction : Abstraction (Qcow2 S F) Prepared
  image_abstraction = abstraction_at Image

  -- The disk of the known contents.
  abbrev pub disk_of : Place → Qcow2 S F → Disk
  disk_of place image = disk_with (known_in view image.file) (known_for place image) (backing_bytes image.backing)

  -- The view of the image with these prepared mappings.
  abbrev pub abstract_of : Qcow2 S F → Mappings → AbstractImage
  abstract_of image out = view_of (abstraction_at out.place) image out.slots
