-- What a call on an image's file keeps of the marks of its caches, and which changes it records.
use Rattle.std.specs.Prelude.{◌≡◌, ◌⊎◌, ℕ, IsTrue, option_map}
use Rattle.image_access.specs.Moments.{StorageView, Rose}
use Rattle.qcow2_alloc.specs.CachePins.{KeepsPinsAndNotes, CountsTableChanges}
use Rattle.qcow2_alloc.specs.ImageStorage.{is_changed_of, changes_of}
use Rattle.qcow2_alloc.specs.KeptNotes.{KeepsNotes}
use Rattle.qcow2_alloc.specs.MetadataCaches.{order_of, l2_at}
use Rattle.qcow2_alloc.specs.TableCaches.{cleared_l2}
use Rattle.qcow2_alloc.specs.declared.cache.MetadataCaches.{MetadataCaches}
use Rattle.qcow2_alloc.specs.declared.image_file.ImageFile.{ImageFile}
use Rattle.qcow2_alloc.specs.declared.image_storage.ImageStorage.{ImageStorage}

-- The same L2 tables are cached, with the same entries.
abbrev pub KeepsHeldTables : {S : Type 0} → MetadataCaches S → MetadataCaches S → Type 0
KeepsHeldTables caches caches' = (c : ℕ) → option_map cleared_l2 (l2_at caches' c) ≡ option_map cleared_l2 (l2_at caches c)

module _ {S : Type 0} (view : S → StorageView) where
  -- Pins and the order of writes stay the same. Changes are recorded. If no change of the storage is recorded, its contents are the same.
  pub record KeepMarks (old : ImageStorage S) (caches : MetadataCaches S) (new : ImageStorage S) (caches' : MetadataCaches S) : Type 0 where
    pub pins : KeepsPinsAndNotes caches caches'
    pub order : order_of caches' ≡ order_of caches
    pub notes : KeepsNotes view old new

  -- So they do, and the same L2 tables stay cached. A flush only clears their marks.
  pub record KeepMarksAndTables (old : ImageStorage S) (caches : MetadataCaches S) (new : ImageStorage S) (caches' : MetadataCaches S) : Type 0 where
    pub pins : KeepsPinsAndNotes caches caches'
    pub order : order_of caches' ≡ order_of caches
    pub notes : KeepsNotes view old new
    pub tables : KeepsHeldTables caches caches'

  -- What a call keeps of the marks and of the L2 tables of an image's file.
  abbrev pub KeepsMarks : ImageFile S → ImageFile S → Type 0
  KeepsMarks file file' = KeepMarksAndTables file.storage file.caches file'.storage file'.caches

  -- Changes of the storage and of the tables are recorded.
  pub record KeepNotes (old : ImageStorage S) (caches : MetadataCaches S) (new : ImageStorage S) (caches' : MetadataCaches S) : Type 0 where
    pub storage : KeepsNotes view old new
    pub tables : CountsTableChanges caches caches'

  abbrev pub KeepsFileNotes : ImageFile S → ImageFile S → Type 0
  KeepsFileNotes file file' = KeepNotes file.storage file.caches file'.storage file'.caches

module _ {S : Type 0} where
  -- How many changes of the storage and of the tables were counted.
  abbrev pub changes_in : ImageFile S → ℕ × ℕ
  changes_in file = (changes_of file.storage, file.caches.changes)

  -- One of the two counters rose since, or is the greatest u64.
  abbrev pub HaveRisen : ℕ × ℕ → ImageFile S → Type 0
  HaveRisen changes file = Rose changes.0 (changes_of file.storage) ⊎ Rose changes.1 file.caches.changes

  -- If a counter rose, a change is recorded. Otherwise no further change is recorded, and all else is the same.
  pub record RecordsSince (changes : ℕ × ℕ) (old new : ImageFile S) : Type 0 where
    pub rest : new ≡ record old { storage = record old.storage { is_changed = is_changed_of new.storage } }
    pub kept : IsTrue (is_changed_of old.storage) → IsTrue (is_changed_of new.storage)
    pub recorded : HaveRisen changes old → IsTrue (is_changed_of new.storage)
    pub why : IsTrue (is_changed_of new.storage) → IsTrue (is_changed_of old.storage) ⊎ HaveRisen changes old
