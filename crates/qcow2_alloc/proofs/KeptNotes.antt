-- Writes and reads of the image's storage keep recorded changes.
use Rattle.std.proofs.Common.{◌≡◌, List, ℕ, IsTrue, Result, Ok, Err, sym, ◌∙◌, subst}
use Rattle.qcow2_alloc.proofs.Common.{StorageView, Calls, Changes, ContentsStay, QuietCalls, StorageError, Fault, CountsChanges, counts_none, counts_one, storage_of, is_changed_of, changes_of, RecordsWrite, SameNotes, KeepsNotes, ImageStorage}
use Rattle.image_access.specs.declared.error.StorageError.TheVariants.{Memory}

module _ {S : Type 0} where
  -- nothing is noted or counted before, or after
  same_after : (a b : ImageStorage S) → SameNotes a b → CountsChanges (is_changed_of a) (changes_of a) (is_changed_of b) (changes_of b)
  same_after a b same = rw same.note (rw same.count (counts_none (is_changed_of a) (changes_of a)))

  same_before : (a b c : ImageStorage S) → SameNotes a b → CountsChanges (is_changed_of b) (changes_of b) (is_changed_of c) (changes_of c) → CountsChanges (is_changed_of a) (changes_of a) (is_changed_of c) (changes_of c)
  same_before a b c same counts = rw (sym same.note) (rw (sym same.count) counts)

  -- what was noted stays noted through a write
  pub note_kept : (a b : ImageStorage S) (r : Result (Unit {0}) StorageError) → RecordsWrite a b r → IsTrue (is_changed_of a) → IsTrue (is_changed_of b)
  note_kept a b (Ok _) recorded was = recorded.0
  note_kept a b (Err Fault) recorded was = recorded.0
  note_kept a b (Err Memory) recorded was = recorded.note ∙ was

module _ {S : Type 0} {view : S → StorageView} where
  -- A write that was made, or may have been, is noted; where memory was refused nothing changed.
  pub write_kept : (before now : ImageStorage S) (r : Result (Unit {0}) StorageError) (changed : List ℕ) → Changes (view (storage_of before)) (view (storage_of now)) r (λ _. changed) → Calls (view (storage_of before)) (view (storage_of now)) r → RecordsWrite before now r
      → KeepsNotes view before now
  write_kept before now r changed changes calls notes = record { honest = calls.honest; changes = counts r notes; contents = still r changes notes } where
    counts : (r : Result (Unit {0}) StorageError) → RecordsWrite before now r → CountsChanges (is_changed_of before) (changes_of before) (is_changed_of now) (changes_of now)
    counts (Ok _) n = counts_one (is_changed_of before) (is_changed_of now) (changes_of before) (changes_of now) n
    counts (Err Fault) n = counts_one (is_changed_of before) (is_changed_of now) (changes_of before) (changes_of now) n
    counts (Err Memory) n = same_after before now n

    still : (r : Result (Unit {0}) StorageError) → Changes (view (storage_of before)) (view (storage_of now)) r (λ _. changed) → RecordsWrite before now r → ¬ IsTrue (is_changed_of now) → ContentsStay (view (storage_of before)) (view (storage_of now))
    still (Ok _) changes n none = absurd (none n.0)
    still (Err Fault) changes n none = absurd (none n.0)
    still (Err Memory) changes n none = changes

  -- a storage that was told what the next writes are for
  pub kept_told : (before mid now : ImageStorage S) → storage_of mid ≡ storage_of before → SameNotes before mid → KeepsNotes view mid now → KeepsNotes view before now
  kept_told before mid now same recorded kept = record {
    honest = subst (λ (s : S). (view s).is_honest → (view (storage_of now)).is_honest) same kept.honest;
    changes = same_before before mid now recorded kept.changes;
    contents = λ none. subst (λ (s : S). ContentsStay (view s) (view (storage_of now))) same (kept.contents none);
  }

  -- a read
  pub read_kept : {T : Type 0} (before now : ImageStorage S) (r : Result T StorageError) → QuietCalls (view (storage_of before)) (view (storage_of now)) r → ContentsStay (view (storage_of before)) (view (storage_of now)) → SameNotes before now → KeepsNotes view before now
  read_kept before now r calls same recorded = record { honest = calls.honest; changes = same_after before now recorded; contents = λ none. same }
