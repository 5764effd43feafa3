-- Growing a disk: what a stop may leave meanwhile, and what flushing leaves.
use Rattle.std.specs.Prelude.{ℕ, ◌+◌, ◌-◌, ◌*◌, ◌≡◌, ◌⊎◌, ◌<◌, ◌≤◌, List, [], Result, Ok, Err}
use Rattle.image_access.specs.Backing.{BackingView}
use Rattle.image_access.specs.Moments.{StorageView}
use Rattle.qcow2_metadata.specs.Bytes.{Bytes}
use Rattle.qcow2_metadata.specs.declared.header.HeaderFields.{HeaderFields}
use Rattle.qcow2_metadata.specs.Header.{cluster_size}
use Rattle.qcow2_laws.specs.CrashInvariant.{Pending}
use Rattle.qcow2_laws.specs.Guests.{guests}
use Rattle.qcow2_disk.specs.Stops.{Checkpoint, LeavesKept, SafeThroughout, StopOkEverywhere, checkpoint_with}
use Rattle.qcow2_laws.specs.Tops.{places_of, with_places}
use Rattle.qcow2_laws.specs.Internal.{KeepsFormat}
use Rattle.qcow2_alloc.specs.FreeList.{with_listed}
use Rattle.qcow2_alloc.specs.declared.error.ImageError.{ImageError}
use Rattle.qcow2_alloc.specs.ImageError.{IsFault}
use Rattle.qcow2_alloc.specs.ImageFile.{view_in, known_in, nothing_given}
use Rattle.qcow2_image.specs.declared.image.Qcow2.{Qcow2}
use Rattle.qcow2_image.specs.Found.{l1_index_of}
use Rattle.qcow2_image.specs.Image.{is_writable, leaked_in}
use Rattle.qcow2_image.specs.MovedTables.{CoversStay}
use Rattle.qcow2_image.specs.ImageInvariant.{ImageInvariant, abstract_of, in_image}

-- The two headers differ only in fields that an open image writes.
abbrev pub SameFormat : HeaderFields → HeaderFields → Type 0
SameFormat h h' = h' ≡ with_places h (places_of h')

-- The L1 table covers every byte of the disk.
abbrev pub ReachesSize : HeaderFields → Type 0
ReachesSize h = h.size ≤ guests h * cluster_size h

-- The L1 table ends with the entry of the last byte. That of an empty disk has no entries.
abbrev pub FitsSize : HeaderFields → Type 0
FitsSize h = (h.size ≡ 0 → h.l1_entries ≡ 0) × (0 < h.size → h.l1_entries ≡ l1_index_of h (h.size - 1) + 1)

module _ {S F : Type 0} (view : S → StorageView) where
  -- A stop at any moment is as safe as before, with these sizes asked for.
  abbrev pub Lasts : Qcow2 S F → Qcow2 S F → List ℕ → Type 0
  Lasts old new asked = SafeThroughout (view_in view old.file) (view_in view new.file) (known_in view old.file) nothing_given asked

  -- Over every disk below, a stop at any moment and the known contents are as safe as before, with these sizes asked for.
  pub record LastsKnown (old new : Qcow2 S F) (asked : List ℕ) : Type 0 where
    pub since : Lasts old new asked
    pub known : (below : Bytes) (m : Checkpoint) → LeavesKept below m (view_in view old.file) → StopOkEverywhere below m (known_in view old.file) → StopOkEverywhere below (checkpoint_with [] asked m) (known_in view new.file)

  -- A part of a call lasts over every disk below. If it is refused, the known contents are unspecified only after a fault.
  abbrev pub LastsPart : Qcow2 S F → Qcow2 S F → Result (Unit {0}) ImageError → Type 0
  LastsPart old new (Ok _) = LastsKnown old new []
  LastsPart old new (Err e) = LastsKnown old new [] ⊎ (IsFault e × Lasts old new [])

  -- A call that asks for these sizes lasts over every disk below.
  abbrev pub LastsCall : List ℕ → Qcow2 S F → Qcow2 S F → Result (Unit {0}) ImageError → Type 0
  LastsCall asked old new (Ok _) = LastsKnown old new asked
  LastsCall asked old new (Err e) = Lasts old new asked

  module _ (backing : F → BackingView) where
    -- The image is sound again, with other pending clusters and a header of the same format.
    pub record Extends (p : Pending) (old new : Qcow2 S F) : Type 0 where
      pub sound : ImageInvariant view backing p new (in_image [])
      pub since : Lasts old new []
      pub format : SameFormat old.file.header.fields new.file.header.fields
      pub autoclear : new.file.header.fields.autoclear ≡ old.file.header.fields.autoclear

    -- The image is still sound, may be written if it could be before, and every surplus is the same.
    pub record KeepsSurplus (old new : Qcow2 S F) : Type 0 where
      pub sound : (abstract_of view backing new (in_image [])).is_sound
      pub writable : is_writable new ≡ is_writable old
      pub surplus : (abstract_of view backing new (in_image [])).surplus ≡ (abstract_of view backing old (in_image [])).surplus

    -- What a refused growth leaves: a sound image, in which no cluster leaked.
    pub record LeavesSound (old new : Qcow2 S F) : Type 0 where
      pub keeps : KeepsSurplus old new
      pub leaks : leaked_in new ≡ leaked_in old

    -- The clusters that wait are freed, and all tables are written. Clusters that wait then are still pending, and every mapping is the same.
    abbrev pub WritesBack : Pending → Qcow2 S F → Qcow2 S F → Result (Unit {0}) ImageError → Type 0
    WritesBack p old new (Ok _) = Extends (with_listed p new.file.free_list) old new × KeepsFormat old.file.header.fields new.file.header.fields
        × CoversStay old.file.header.fields (known_in view old.file) new.file.header.fields (known_in view new.file)
    WritesBack p old new (Err e) = Lasts old new []
