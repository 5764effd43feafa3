-- The view of an open image in contracts.
use Rattle.std.specs.Prelude.{◌≡◌, ◌<◌, ◌&&◌, ℕ, Bool, false, [], Option, is_none, is_some, if◌then◌else◌}
use Rattle.std.specs.Option.{option_map_or}
use Rattle.qcow2_metadata.specs.Header.{has_data_file}
use Rattle.qcow2_alloc.specs.declared.allocation.Allocator.{Allocator}
use Rattle.qcow2_alloc.specs.declared.cache.MetadataCaches.{MetadataCaches}
use Rattle.qcow2_alloc.specs.CachePins.{l2_pins}
use Rattle.qcow2_alloc.specs.ImageFile.{KeepsHeader, has_noted}
use Rattle.qcow2_alloc.specs.ImageStorage.{changes_of, is_changed_of, storage_of}
use Rattle.qcow2_image.specs.declared.image.Qcow2.{Qcow2}
use Rattle.qcow2_image.specs.declared.mapping.Place.{Place}
use Rattle.qcow2_image.specs.declared.mapping.Place.TheVariants.{DataFile, Image}

-- How many clusters an allocator could not free, 0 without an allocator.
abbrev pub leaked_by : Option Allocator → ℕ
leaked_by allocator = option_map_or (λ (a : Allocator). a.leaked_clusters) allocator 0

-- Some cached L2 table is pinned.
pub record HasPinnedL2 {S : Type 0} (caches : MetadataCaches S) : Type 0 where
  pub cluster : ℕ
  pub pins : 0 < l2_pins caches cluster

module _ {S F : Type 0} where
  -- The number that the image was opened with.
  abbrev pub number_of : Qcow2 S F → ℕ
  number_of image = image.number

  -- The storage of the image.
  abbrev pub storage_of_image : Qcow2 S F → S
  storage_of_image image = storage_of image.file.storage

  -- An earlier call marked the image as failed.
  abbrev pub is_failed : Qcow2 S F → Bool
  is_failed image = image.is_failed

  -- A change of a table, of a refcount or of the storage was recorded since the call began.
  abbrev pub has_noted_change : Qcow2 S F → Bool
  has_noted_change image = has_noted image.file

  -- The same image with other marks: whether the storage recorded a change, and whether the image failed.
  abbrev pub with_marks : Qcow2 S F → (recorded failed : Bool) → Qcow2 S F
  with_marks image recorded failed = record image { is_failed = failed; file = record image.file { storage = record image.file.storage { is_changed = recorded } } }

  -- The size of the guest's disk.
  abbrev pub size_of : Qcow2 S F → ℕ
  size_of image = image.file.header.fields.size

  -- The image was opened for writing.
  abbrev pub is_writable : Qcow2 S F → Bool
  is_writable image = is_some image.allocator

  -- Guests' data are in a data file, and not in the image's own file.
  abbrev pub is_beside : Qcow2 S F → Bool
  is_beside image = is_some image.data_file

  -- The file that holds guests' data.
  abbrev pub place_in : Qcow2 S F → Place
  place_in image = if is_beside image then DataFile else Image

  -- The header requires a data file, and the image has none.
  abbrev pub lacks_data_file : Qcow2 S F → Bool
  lacks_data_file image = has_data_file image.file.header.fields && is_none image.data_file

  -- The header requires a data file, and the image has one: data are at their guest offsets in it, and aren't counted.
  abbrev pub is_placed_by_guest : Qcow2 S F → Bool
  is_placed_by_guest image = has_data_file image.file.header.fields && is_beside image

  -- No cluster waits to be freed.
  abbrev pub HasNothingToFree : Qcow2 S F → Type 0
  HasNothingToFree image = image.file.free_list ≡ []

  -- How many clusters of the image could not be freed.
  abbrev pub leaked_in : Qcow2 S F → ℕ
  leaked_in image = leaked_by image.allocator

  -- Some L2 table is pinned.
  abbrev pub HasPinnedTable : Qcow2 S F → Type 0
  HasPinnedTable image = HasPinnedL2 image.file.caches

  -- The image is the same one, and its disk has the same size.
  pub record IsSameImage (old new : Qcow2 S F) : Type 0 where
    pub number : number_of new ≡ number_of old
    pub size : size_of new ≡ size_of old
    pub writable : is_writable new ≡ is_writable old
    pub lacks : lacks_data_file new ≡ lacks_data_file old
    pub beside : is_beside new ≡ is_beside old

  -- The image is the same one, and is still marked as failed if it was before.
  pub record ImageStays (old new : Qcow2 S F) : Type 0 where
    pub image : IsSameImage old new
    pub failed : is_failed new ≡ is_failed old

  -- A call has begun: no change is recorded yet, and all else is the same.
  pub record IsBegun (old new : Qcow2 S F) : Type 0 where
    pub storage : storage_of_image new ≡ storage_of_image old
    pub unrecorded : is_changed_of new.file.storage ≡ false
    pub counts : changes_of new.file.storage ≡ changes_of old.file.storage
    pub caches : new.file.caches ≡ record old.file.caches { is_changed = false }
    pub rest : new ≡ record old { file = record old.file { storage = new.file.storage; caches = new.file.caches } }

  -- The header in memory stays the same, with the pointers to the L1 table and the reftable, and the autoclear bits.
  abbrev pub KeepsWholeHeader : Qcow2 S F → Qcow2 S F → Type 0
  KeepsWholeHeader old new = new.file.header ≡ old.file.header

  -- The header and the backing disk stay the same.
  pub record KeepsRest (old new : Qcow2 S F) : Type 0 where
    pub header : new.file.header ≡ old.file.header
    pub backing : new.backing ≡ old.backing

  -- The header and the backing disk stay the same, except the pointer to the reftable.
  pub record KeepsRestOn (old new : Qcow2 S F) : Type 0 where
    pub header : KeepsHeader old.file.header new.file.header
    pub backing : new.backing ≡ old.backing
