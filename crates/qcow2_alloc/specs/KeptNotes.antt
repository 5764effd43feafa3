-- What a call keeps of the recorded changes of an image's storage.
use Rattle.std.specs.Prelude.{IsTrue}
use Rattle.std.proofs.Common.{refl, ◌∙◌}
use Rattle.image_access.specs.Moments.{StorageView, ContentsStay}
use Rattle.qcow2_alloc.specs.CountedChanges.{CountsChanges, counts_none, counts_then}
use Rattle.qcow2_alloc.specs.ImageStorage.{storage_of, is_changed_of, changes_of}
use Rattle.qcow2_alloc.specs.declared.image_storage.ImageStorage.{ImageStorage}

-- A recorded change stays recorded, and an honest storage stays honest. If no change is recorded, the contents are the same. A newly recorded change was counted.
pub record KeepsNotes {S : Type 0} (view : S → StorageView) (old new : ImageStorage S) : Type 0 where
  pub honest : (view (storage_of old)).is_honest → (view (storage_of new)).is_honest
  pub changes : CountsChanges (is_changed_of old) (changes_of old) (is_changed_of new) (changes_of new)
  pub contents : ¬ IsTrue (is_changed_of new) → ContentsStay (view (storage_of old)) (view (storage_of new))

module _ {S : Type 0} {view : S → StorageView} where
  -- Recorded changes are kept by no call at all, and by one call after another.
  pub kept_same : (s : ImageStorage S) → KeepsNotes view s s
  kept_same s = record { honest = λ h. h; changes = counts_none (is_changed_of s) (changes_of s); contents = λ none honest. refl }

  pub kept_then : (s t u : ImageStorage S) → KeepsNotes view s t → KeepsNotes view t u → KeepsNotes view s u
  kept_then s t u first then = record {
    honest = λ h. then.honest (first.honest h);
    changes = counts_then (is_changed_of s) (is_changed_of t) (is_changed_of u) (changes_of s) (changes_of t) (changes_of u) first.changes then.changes;
    contents = λ none honest. then.contents none (first.honest honest) ∙ first.contents (λ n. none (then.changes.recorded n)) honest;
  }
