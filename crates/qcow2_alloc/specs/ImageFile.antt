-- The view of an image's file in contracts: its state, when it is sound, and steps that guests don't see.
use Rattle.std.specs.Prelude.{ℕ, ◌+◌, ◌/◌, ◌≡◌, ◌≤◌, ◌⊎◌, ◌||◌, Bool, IsTrue, List, [], Some}
use Rattle.image_access.specs.Moments.{StorageView}
use Rattle.qcow2_metadata.specs.Bytes.{Bytes, byte_at}
use Rattle.qcow2_metadata.specs.Header.{HeaderView, cluster_size, reftable_entries, with_fields, with_reftable}
use Rattle.qcow2_metadata.specs.Entries.{count}
use Rattle.qcow2_metadata.specs.EntryTable.{EntryTableView, IsRefTableOf, entry_count}
use Rattle.qcow2_disk.specs.Stops.{GivenBytes, SafeThroughout}
use Rattle.qcow2_laws.specs.CrashInvariant.{Pending}
use Rattle.qcow2_laws.specs.Caches.{AreNamedBlocks}
use Rattle.qcow2_laws.specs.SafeSteps.{DriverState, SafeStep}
use Rattle.qcow2_laws.specs.Internal.{IsInternal, SameL1Table}
pub use Rattle.qcow2_alloc.specs.ImageError.{IsFault}
pub use Rattle.qcow2_alloc.specs.CachePins.{l2_pins, CachesHaveRoom, KeepsPinsAndNotes}
use Rattle.qcow2_alloc.specs.ImageStorage.{storage_of, is_changed_of}
use Rattle.qcow2_alloc.specs.MetadataCaches.{order_of, refblocks, known_of, CacheInvariant}
use Rattle.qcow2_alloc.specs.declared.allocation.Allocator.{Allocator}
use Rattle.qcow2_alloc.specs.declared.error.ImageError.{ImageError}
use Rattle.qcow2_alloc.specs.declared.error.ImageError.TheVariants as I
use Rattle.qcow2_alloc.specs.declared.image_file.ImageFile.{ImageFile}

-- The header stays the same, except the pointer to the reftable.
abbrev pub KeepsHeader : HeaderView → HeaderView → Type 0
KeepsHeader h h' = h' ≡ with_fields h (with_reftable h.fields h'.fields.reftable_offset h'.fields.reftable_clusters)

abbrev pub nothing_given : Bytes → List GivenBytes
nothing_given backing = []

-- How often a cluster is pending.
abbrev pub pending_at : Pending → ℕ → ℕ
pending_at p k = p.new_data k + p.new_tables k + p.old_tables k + p.old_data k

module _ {S : Type 0} where
  -- A change of the storage, of a table or of a refcount was recorded since the call began.
  abbrev pub has_noted : ImageFile S → Bool
  has_noted file = is_changed_of file.storage || file.caches.is_changed

  module _ (view : S → StorageView) where
    abbrev pub view_in : ImageFile S → StorageView
    view_in file = view (storage_of file.storage)

    abbrev pub contents_in : ImageFile S → Bytes
    contents_in file = byte_at (view_in file).contents

    -- The known contents: the storage with the modified tables overlaid.
    abbrev pub known_in : ImageFile S → Bytes
    known_in file = known_of file.header.fields file.caches (contents_in file)

    -- The state of the driver, with these pending clusters.
    abbrev pub state_in : ImageFile S → Pending → DriverState
    state_in file p = record { header = file.header.fields; direction = order_of file.caches; pending = p; on_storage = contents_in file; known = known_in file }

    -- The storage is honest, and the invariant of the caches holds, with these pending clusters.
    pub record FileInvariant (p : Pending) (file : ImageFile S) : Type 0 where
      pub honest : (view_in file).is_honest
      pub caches : CacheInvariant file.header.fields p file.caches (contents_in file)
      pub named_blocks : AreNamedBlocks file.header.fields (refblocks file.caches) (contents_in file)
      pub room : CachesHaveRoom file.caches

    -- The allocator's reftable is the one on the storage.
    pub record HasReftable (file : ImageFile S) (reftable : EntryTableView) : Type 0 where
      pub cluster : reftable.cluster ≡ Some (file.header.fields.reftable_offset / cluster_size file.header.fields)
      pub bits : reftable.cluster_bits ≡ file.header.fields.cluster_bits
      pub count : entry_count reftable ≡ reftable_entries file.header.fields
      pub entries : IsRefTableOf file.header.fields (contents_in file) reftable

    -- A sound file with its allocator.
    pub record AllocatorInvariant (allocator : Allocator) (p : Pending) (file : ImageFile S) : Type 0 where
      pub sound : FileInvariant p file
      pub reftable : HasReftable file allocator.reftable

    -- A step that guests don't see: the file is sound again, and a stop at any moment is as safe as before.
    pub record InternalFileStep (p p' : Pending) (old new : ImageFile S) : Type 0 where
      pub sound : FileInvariant p' new
      pub safe_step : SafeStep (state_in old p) (state_in new p') nothing_given []
      pub since : SafeThroughout (view_in old) (view_in new) (known_in old) nothing_given []
      pub unseen : IsInternal (state_in old p) (state_in new p')
      pub l1_table : SameL1Table (state_in old p) (state_in new p')
      -- Each refcount changes with what is pending. A refcount may rise more if a refblock gets its reference.
      pub counts : (k : ℕ) → count old.header.fields (known_in old) k + pending_at p' k ≤ count new.header.fields (known_in new) k + pending_at p k

    -- A step in which the reftable may move: its old clusters lose their references, and keep their refcounts.
    pub record InternalFileGrowth (p p' : Pending) (old new : ImageFile S) : Type 0 where
      pub sound : FileInvariant p' new
      pub safe_step : SafeStep (state_in old p) (state_in new p') nothing_given []
      pub since : SafeThroughout (view_in old) (view_in new) (known_in old) nothing_given []
      pub unseen : IsInternal (state_in old p) (state_in new p')
      pub l1_table : SameL1Table (state_in old p) (state_in new p')

    -- A fault interrupted the step. If memory ran out, a change was recorded. A stop at any moment is as safe as before.
    pub record InterruptedFileStep (old new : ImageFile S) (e : ImageError) : Type 0 where
      pub fault : IsFault e
      pub recorded : e ≡ I.Memory → IsTrue (has_noted new)
      pub since : SafeThroughout (view_in old) (view_in new) (known_in old) nothing_given []

    -- What a refused call leaves of a sound file with its allocator: all as sound as before, or a step that a fault interrupted.
    abbrev pub RefusedFileStep : Pending → ImageFile S → Allocator → ImageFile S → ImageError → Type 0
    RefusedFileStep p old allocator' new e = (InternalFileStep p p old new × HasReftable new allocator'.reftable) ⊎ InterruptedFileStep old new e
