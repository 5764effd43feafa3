-- The view of an image in contracts: its storage, its known contents, its refcounts, and what a guest sees.
use Rattle.std.specs.Prelude.{ℕ, ◌-◌, ◌≡◌, ◌++◌, ◌∷◌, Bool, false, List, Option, Some, None, slice_get}
use Rattle.image_access.specs.Moments.{StorageView}
use Rattle.qcow2_metadata.specs.Bytes.{Bytes, byte_at}
use Rattle.qcow2_metadata.specs.declared.header.HeaderFields.{HeaderFields}
use Rattle.qcow2_metadata.specs.Entries.{count}
use Rattle.qcow2_metadata.specs.Header.{header, cluster_size}
use Rattle.qcow2_metadata.specs.Named.{named}
use Rattle.qcow2_metadata.specs.Consistent.{IsConsistent}
use Rattle.qcow2_disk.specs.Disk.{Disk, disk_with}
use Rattle.qcow2_disk.specs.Mappings.{PreparedMapping}

-- The properties of an image that stay the same while commands run.
pub record Setting : Type 0 where
  pub cluster_size : ℕ
  -- Whether there is a backing disk, and the bytes of that disk.
  pub is_backed : Bool
  pub backing : Bytes

-- Where in the file a prepared mapping is to be written: host offset and length in bytes. An existing range is written in place and needs no commit.
pub record HostRange : Type 0 where
  pub offset : ℕ
  pub length : ℕ
  pub is_existing : Bool

-- What a guest sees: the disk, and the prepared mapping of each slot.
pub record Guest : Type 0 where
  pub disk : Disk
  pub slots : ℕ → Option PreparedMapping

-- The view that contracts have of a driver D with prepared mappings P. Lists of `Option P` hold the prepared mappings that are in use, by slot.
pub record Abstraction (D P : Type 0) : Type 1 where
  pub number : D → ℕ
  pub number_of : P → ℕ
  pub setting : D → Setting
  pub is_failed : D → Bool
  pub storage : D → StorageView
  -- How many calls of the backing disk have failed. The counter stops at the greatest u64.
  pub faults_below : D → ℕ
  -- The known contents: the bytes on the storage with every modified cached table overlaid on its cluster.
  pub known : D → Bytes
  -- The bytes that hold guest data: the known contents, if the image has no external data file.
  pub data_bytes : D → Bytes
  -- The driver's invariant holds, and the storage is honest.
  pub is_sound : D → List (Option P) → Type 0
  pub surplus : D → List (Option P) → ℕ → ℕ
  -- How many clusters could not be freed. The counter stops at the greatest u64.
  pub leaked : D → ℕ
  -- How often each cluster waits to be freed. Images opened for reading have nothing to free.
  pub to_be_freed : D → ℕ → ℕ
  pub means : D → P → PreparedMapping
  pub host : P → HostRange

-- An empty slot makes no difference to whether an image is sound, or to its surplus. A sound image has not failed.
pub record HasFreePlaces {D P : Type 0} (spec : Abstraction D P) : Type 0 where
  pub free : (d : D) (a b : List (Option P)) → spec.is_sound d (a ++ b) → spec.is_sound d (a ++ None ∷ b)
  pub left : (d : D) (a b : List (Option P)) → spec.is_sound d (a ++ None ∷ b) → spec.is_sound d (a ++ b)
  pub surplus : (d : D) (a b : List (Option P)) → spec.surplus d (a ++ None ∷ b) ≡ spec.surplus d (a ++ b)
  pub works : (d : D) (out : List (Option P)) → spec.is_sound d out → spec.is_failed d ≡ false

-- The view of one image with its prepared mappings.
pub record AbstractImage : Type 1 where
  pub number : ℕ
  pub setting : Setting
  pub is_failed : Bool
  pub storage : StorageView
  pub faults_below : ℕ
  pub known : Bytes
  pub data_bytes : Bytes
  pub is_sound : Type 0
  pub surplus : ℕ → ℕ
  pub leaked : ℕ
  pub to_be_freed : ℕ → ℕ
  pub slots : ℕ → Option PreparedMapping
  pub hosts : ℕ → Option HostRange

-- What the content of a slot means, if there is such a slot and it is not empty.
abbrev pub meaning_at : {P M : Type 0} → (P → M) → Option (Option P) → Option M
meaning_at means (Some (Some p)) = Some (means p)
meaning_at means (Some None) = None
meaning_at means None = None

-- The view of an image with the prepared mappings `out`, by slot.
abbrev pub abstract_image : {D P : Type 0} → Abstraction D P → D → List (Option P) → AbstractImage
abstract_image spec d out = record {
  number = spec.number d;
  setting = spec.setting d;
  is_failed = spec.is_failed d;
  storage = spec.storage d;
  faults_below = spec.faults_below d;
  known = spec.known d;
  data_bytes = spec.data_bytes d;
  is_sound = spec.is_sound d out;
  surplus = spec.surplus d out;
  leaked = spec.leaked d;
  to_be_freed = spec.to_be_freed d;
  slots = λ k. meaning_at (spec.means d) (slice_get out k);
  hosts = λ k. meaning_at spec.host (slice_get out k);
}

-- The bytes on the storage of an image.
abbrev pub stored_bytes : AbstractImage → Bytes
stored_bytes v = byte_at v.storage.contents

-- What a guest sees of an image.
abbrev pub guest_of : AbstractImage → Guest
guest_of v = record { disk = disk_with v.known v.data_bytes v.setting.backing; slots = v.slots }

-- The surplus of each cluster in the bytes of an image: its refcount minus its references.
abbrev pub surplus_of : HeaderFields → Bytes → ℕ → ℕ
surplus_of h b c = count h b c - named h b c

-- Properties of a sound image.
pub record IsWhole (v : AbstractImage) : Type 0 where
  pub consistent : IsConsistent v.known
  pub in_image : v.data_bytes ≡ v.known
  pub cluster_size : v.setting.cluster_size ≡ cluster_size (header v.known)

-- An image that was just opened: it is sound, and no cached table is modified.
pub record IsOpened (v : AbstractImage) : Type 0 where
  pub sound : v.is_sound
  pub clean : v.known ≡ stored_bytes v
