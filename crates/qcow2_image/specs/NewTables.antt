-- Making an L2 table: its bytes are written to a new cluster, it is put into the cache, and an L1 entry names it.
use Rattle.qcow2_image.specs.ImageInvariant.{Mappings}
use Rattle.std.specs.Prelude.{ℕ, ◌+◌, ◌*◌, ◌/◌, ◌%◌, ◌≡◌, ◌≢◌, ◌⊎◌, List, Option, Some, Result, Ok, Err}
use Rattle.image_access.specs.Backing.{BackingView}
use Rattle.image_access.specs.Moments.{StorageView}
use Rattle.qcow2_metadata.specs.Bytes.{Bytes}
use Rattle.qcow2_metadata.specs.declared.header.HeaderFields.{HeaderFields}
use Rattle.qcow2_metadata.specs.Header.{cluster_size, entries_per_cluster}
use Rattle.qcow2_metadata.specs.Entries.{l1_entry}
use Rattle.qcow2_metadata.specs.Cover.{cover, entry_cover}
use Rattle.qcow2_metadata.specs.L2Table.{L2TableView}
use Rattle.qcow2_metadata.specs.Named.{table_in}
use Rattle.qcow2_metadata.specs.TableBytes.{entry_at}
use Rattle.qcow2_laws.specs.Caches.{AreClean, BlocksMayGo}
use Rattle.qcow2_laws.specs.Changes.{one_at, with_new_tables}
use Rattle.qcow2_laws.specs.CrashInvariant.{Pending}
use Rattle.qcow2_laws.specs.Guests.{table_at}
use Rattle.qcow2_alloc.specs.Allocation.{HasBytesAt}
use Rattle.qcow2_alloc.specs.declared.error.ImageError.{ImageError}
use Rattle.qcow2_alloc.specs.ImageError.{IsFault}
use Rattle.qcow2_alloc.specs.ImageFile.{contents_in}
use Rattle.qcow2_alloc.specs.MetadataCaches.{order_of, l2_tables, refblocks, l2_at}
use Rattle.qcow2_alloc.specs.TableCaches.{IsTableOf}
use Rattle.qcow2_image.specs.declared.image.Qcow2.{Qcow2}
use Rattle.qcow2_image.specs.declared.prepared.Prepared.{Prepared}
use Rattle.qcow2_image.specs.Found.{l1_index_of}
use Rattle.qcow2_image.specs.InternalSteps.{InterruptedPart, NamesOwn, InternalStep, RefusedStep, pending_with_listed}

-- The table has the image's format, and the known mappings of the guest clusters of an L1 entry.
pub record SaysKnown (h : HeaderFields) (known : Bytes) (index : ℕ) (t : L2TableView) : Type 0 where
  pub format : IsTableOf h t
  pub says : (g : ℕ) → g / entries_per_cluster h ≡ index → cover h known g ≡ entry_cover h (entry_at t.bytes (g % entries_per_cluster h))

module _ {S F : Type 0} where
  -- A refusal is a fault, or the L1 table stayed the same.
  abbrev pub IsFaultOrKeepsL1Table : Qcow2 S F → Qcow2 S F → ImageError → Type 0
  IsFaultOrKeepsL1Table old new e = IsFault e ⊎ (new.l1_table ≡ old.l1_table)

module _ {S F : Type 0} (view : S → StorageView) where
  -- What must be on the storage before an L1 entry names a new table: all refblocks, and what the order of writes requires.
  pub record IsStored (image : Qcow2 S F) : Type 0 where
    pub counts : AreClean (refblocks image.file.caches)
    pub first : BlocksMayGo (order_of image.file.caches) (l2_tables image.file.caches)

  -- The table's bytes are in its cluster too.
  pub record StandsReady (image : Qcow2 S F) (cluster : ℕ) (bytes : List ℕ) : Type 0 where
    pub stored : IsStored image
    pub new_data : (t : L2TableView) × (l2_at image.file.caches cluster ≡ Some t) × (t.bytes ≡ bytes)
    pub stands : HasBytesAt (contents_in view image.file) (cluster * cluster_size image.file.header.fields) bytes

  -- The L1 entry may be written: it has no L2 table that is marked copied.
  abbrev pub MayName : Qcow2 S F → ℕ → Type 0
  MayName image index = ¬ NamesOwn (l1_entry image.file.header.fields (contents_in view image.file) index)

  -- The offset has no L2 table of its own: its L1 entry is missing, empty, or not marked copied.
  abbrev pub LacksTable : Qcow2 S F → ℕ → Type 0
  LacksTable image offset = MayName image (l1_index_of image.file.header.fields offset)

  -- A refusal is a fault, or the offset still has no L2 table of its own.
  abbrev pub IsFaultOrLacksTable : Qcow2 S F → ℕ → ImageError → Type 0
  IsFaultOrLacksTable image offset e = IsFault e ⊎ LacksTable image offset

  -- The L1 entry names the table in this cluster, and is marked copied.
  pub record NamesCopied (image : Qcow2 S F) (index cluster : ℕ) : Type 0 where
    pub place : table_at image.file.header.fields (contents_in view image.file) index ≡ cluster * cluster_size image.file.header.fields
    pub own : NamesOwn (l1_entry image.file.header.fields (contents_in view image.file) index)

  -- The L1 entry names the table in this cluster, and is not marked copied.
  pub record NamesShared (image : Qcow2 S F) (index cluster : ℕ) : Type 0 where
    pub place : table_at image.file.header.fields (contents_in view image.file) index ≡ cluster * cluster_size image.file.header.fields
    pub real : table_at image.file.header.fields (contents_in view image.file) index ≢ 0
    pub may : MayName image index

  -- The pending clusters after a new table replaced the one of an L1 entry, if it had one.
  abbrev pub replacing : Pending → Qcow2 S F → ℕ → Pending
  replacing p old index = record p { old_tables = λ k. p.old_tables k + table_in old.file.header.fields k (table_at old.file.header.fields (contents_in view old.file) index) }

  module _ (backing : F → BackingView) where
    -- Everything is written that must be on the storage before an L1 entry is.
    abbrev pub Stores : Pending → Qcow2 S F → Qcow2 S F → Mappings → Result (Unit {0}) ImageError → Type 0
    Stores p old new out (Ok _) = InternalStep view backing p p old new out × IsStored new
    Stores p old new out (Err e) = InternalStep view backing p p old new out

    -- The bytes of a table are written to its cluster, and the table is put into the cache.
    abbrev pub PlacesNewTable : Pending → Qcow2 S F → Qcow2 S F → Mappings → ℕ → List ℕ → Result (Unit {0}) ImageError → Type 0
    PlacesNewTable p old new out cluster bytes (Ok _) = InternalStep view backing p p old new out × StandsReady new cluster bytes
    PlacesNewTable p old new out cluster bytes (Err e) = InternalStep view backing p p old new out

    -- The L1 entry of a new table is written.
    abbrev pub NamesNew : Pending → Qcow2 S F → Qcow2 S F → Mappings → ℕ → ℕ → Result (Unit {0}) ImageError → Type 0
    NamesNew p old new out index cluster (Ok _) = InternalStep view backing (with_new_tables p (one_at cluster)) (replacing p old index) old new out × NamesCopied new index cluster
    NamesNew p old new out index cluster (Err e) = InterruptedPart view backing old new e

    -- The table is written, and then its L1 entry. If this is refused, the cluster is still that of a new table, or a fault ended the part.
    abbrev pub WritesNew : Pending → Qcow2 S F → Qcow2 S F → Mappings → ℕ → ℕ → Result (Unit {0}) ImageError → Type 0
    WritesNew p old new out index cluster (Ok _) = InternalStep view backing (with_new_tables p (one_at cluster)) (replacing p old index) old new out × NamesCopied new index cluster
    WritesNew p old new out index cluster (Err e) = InternalStep view backing (with_new_tables p (one_at cluster)) (with_new_tables p (one_at cluster)) old new out ⊎ InterruptedPart view backing old new e

    -- A new table gets a cluster and an L1 entry.
    abbrev pub EntersTable : Pending → Qcow2 S F → Qcow2 S F → Mappings → ℕ → Result ℕ ImageError → Type 0
    EntersTable p old new out index (Ok cluster) = InternalStep view backing p (replacing (pending_with_listed p old new) old index) old new out × NamesCopied new index cluster
    EntersTable p old new out index (Err e) = RefusedStep view backing p old new out e

    -- The table of the L1 entry is in this cluster, and the entry is marked copied.
    abbrev pub OwnsTable : Pending → Qcow2 S F → Qcow2 S F → Mappings → ℕ → Result ℕ ImageError → Type 0
    OwnsTable p old new out index (Ok cluster) = InternalStep view backing p (pending_with_listed p old new) old new out × NamesCopied new index cluster
    OwnsTable p old new out index (Err e) = RefusedStep view backing p old new out e
