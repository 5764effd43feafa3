-- Steps that leave the storage the same keep recorded changes.
use Rattle.std.proofs.Common.{◌≡◌, sym, subst}
use Rattle.qcow2_image.proofs.Common.{StorageView, CountsTableChanges, KeepsPinsAndNotes, counts_none, KeepsFileNotes, KeepsNotes, kept_same, MetadataCaches, ImageStorage, Qcow2}

module _ {S F : Type 0} {view : S → StorageView} (a b : Qcow2 S F) (same : b.file.storage ≡ a.file.storage) where
  storage_kept : KeepsNotes view a.file.storage b.file.storage
  storage_kept = subst (λ (s : ImageStorage S). KeepsNotes view a.file.storage s) (sym same) (kept_same a.file.storage)

  -- a step that leaves the caches alone too
  pub same_kept : b.file.caches ≡ a.file.caches → KeepsFileNotes view a.file b.file
  same_kept tables = record {
    storage = storage_kept;
    tables = subst (λ (c : MetadataCaches S). CountsTableChanges a.file.caches c) (sym tables) (counts_none a.file.caches.is_changed a.file.caches.changes);
  }

  -- a change of a table
  pub table_kept : KeepsPinsAndNotes a.file.caches b.file.caches → KeepsFileNotes view a.file b.file
  table_kept marks = record { storage = storage_kept; tables = marks.changes }

  -- a change of pins
  pub pins_kept : b.file.caches.is_changed ≡ a.file.caches.is_changed → b.file.caches.changes ≡ a.file.caches.changes → KeepsFileNotes view a.file b.file
  pins_kept changed counted = record { storage = storage_kept; tables = rw changed (rw counted (counts_none a.file.caches.is_changed a.file.caches.changes)) }
