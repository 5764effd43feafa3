-- Steps one after another keep the marks of an image's file.
use Rattle.std.proofs.Common.{◌≡◌, ℕ, List, Option, Some, None, IsSome, Result, refl, sym, ◌∙◌, subst, IfSome}
use Rattle.qcow2_alloc.proofs.Common.{StorageView, Calls, Changes, StorageError, KeepsPinsAndNotes, storage_of, RecordsWrite, SameNotes, counts_none, counts_then, KeepMarks, KeepMarksAndTables, KeepsHeldTables, KeepNotes, KeepsNotes, kept_same, kept_then, order_of, MetadataCaches, ImageStorage}
use Rattle.qcow2_alloc.proofs.CachePins.{marks_none, marks_then}
use Rattle.qcow2_alloc.proofs.KeptNotes.{kept_told, write_kept}

module _ {S : Type 0} {view : S → StorageView} where
  pub kept_marks_none : {s : ImageStorage S} {a : MetadataCaches S} → KeepMarksAndTables view s a s a
  kept_marks_none {s} {a} = record { pins = marks_none a; order = refl; notes = kept_same s; tables = λ k. refl }

  pub kept_marks_then : {r s t : ImageStorage S} {a b c : MetadataCaches S} → KeepMarksAndTables view r a s b → KeepMarksAndTables view s b t c → KeepMarksAndTables view r a t c
  kept_marks_then {r} {s} {t} {a} {b} {c} first then =
      record { pins = marks_then a b c first.pins then.pins; order = then.order ∙ first.order; notes = kept_then r s t first.notes then.notes; tables = λ k. then.tables k ∙ first.tables k }

  -- loads of L2 tables, which may drop others
  pub load_marks_then : {r s t : ImageStorage S} {a b c : MetadataCaches S} → KeepMarks view r a s b → KeepMarks view s b t c → KeepMarks view r a t c
  load_marks_then {r} {s} {t} {a} {b} {c} first then = record { pins = marks_then a b c first.pins then.pins; order = then.order ∙ first.order; notes = kept_then r s t first.notes then.notes }

  pub marks_alone : {r s : ImageStorage S} {a b : MetadataCaches S} → KeepMarksAndTables view r a s b → KeepMarks view r a s b
  marks_alone marks = record { pins = marks.pins; order = marks.order; notes = marks.notes }

  pub marks_with : {r s : ImageStorage S} {a b : MetadataCaches S} → KeepMarks view r a s b → KeepsHeldTables a b → KeepMarksAndTables view r a s b
  marks_with marks tables = record { pins = marks.pins; order = marks.order; notes = marks.notes; tables = tables }

  -- a call of the caches that leaves the storage alone, one that leaves the caches alone, and one of both
  pub marks_of_caches : {s : ImageStorage S} {a b : MetadataCaches S} → KeepsPinsAndNotes a b → order_of b ≡ order_of a → KeepsHeldTables a b → KeepMarksAndTables view s a s b
  marks_of_caches {s} pins order tables = record { pins = pins; order = order; notes = kept_same s; tables = tables }

  pub marks_of_storage : {r s : ImageStorage S} {a b : MetadataCaches S} → b ≡ a → KeepsNotes view r s → KeepMarksAndTables view r a s b
  marks_of_storage {r} {s} {a} same notes = subst (λ (x : MetadataCaches S). KeepMarksAndTables view r a s x) (sym same) (record { pins = marks_none a; order = refl; notes = notes; tables = λ k. refl })

  pub marks_of_both : {r s : ImageStorage S} {a b : MetadataCaches S} → KeepsPinsAndNotes a b → order_of b ≡ order_of a → KeepsNotes view r s → KeepMarks view r a s b
  marks_of_both pins order notes = record { pins = pins; order = order; notes = notes }

  -- a write that the storage was told of before
  module _ (before mid now : ImageStorage S) (r : Result (Unit {0}) StorageError) (same : storage_of mid ≡ storage_of before) (recorded : SameNotes before mid) where
    pub told_kept : (changed : List ℕ) → Changes (view (storage_of mid)) (view (storage_of now)) r (λ _. changed) → Calls (view (storage_of mid)) (view (storage_of now)) r → RecordsWrite mid now r → KeepsNotes view before now
    told_kept changed changes calls notes = kept_told before mid now same recorded (write_kept mid now r changed changes calls notes)

    -- of a table that has a place
    pub placed_kept : (place : Option ℕ) (changed : ℕ → List ℕ) → IsSome place → IfSome place (λ k. Changes (view (storage_of mid)) (view (storage_of now)) r (λ _. changed k)) → Calls (view (storage_of mid)) (view (storage_of now)) r
        → RecordsWrite mid now r → KeepsNotes view before now
    placed_kept None changed placed changes calls notes = absurd cc
    placed_kept (Some k) changed placed changes calls notes = told_kept (changed k) changes calls notes

  -- ---- what is noted of changes of a file
  pub notes_none : {s : ImageStorage S} {a : MetadataCaches S} → KeepNotes view s a s a
  notes_none {s} {a} = record { storage = kept_same s; tables = counts_none a.is_changed a.changes }

  pub notes_then : {r s t : ImageStorage S} {a b c : MetadataCaches S} → KeepNotes view r a s b → KeepNotes view s b t c → KeepNotes view r a t c
  notes_then {r} {s} {t} {a} {b} {c} first then = record { storage = kept_then r s t first.storage then.storage; tables = counts_then a.is_changed b.is_changed c.is_changed a.changes b.changes c.changes first.tables then.tables }

  -- a call of both, one of the storage alone, and one of the caches alone
  pub notes_of_marks : {r s : ImageStorage S} {a b : MetadataCaches S} → KeepMarksAndTables view r a s b → KeepNotes view r a s b
  notes_of_marks marks = record { storage = marks.notes; tables = marks.pins.changes }

  pub notes_of_both : {r s : ImageStorage S} {a b : MetadataCaches S} → KeepsPinsAndNotes a b → KeepsNotes view r s → KeepNotes view r a s b
  notes_of_both pins notes = record { storage = notes; tables = pins.changes }

  pub notes_of_storage : {r s : ImageStorage S} {a : MetadataCaches S} → KeepsNotes view r s → KeepNotes view r a s a
  notes_of_storage {r} {s} {a} notes = record { storage = notes; tables = counts_none a.is_changed a.changes }
