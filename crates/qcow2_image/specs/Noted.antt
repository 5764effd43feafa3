-- What a call that ran out of memory leaves, and the changes that calls count.
use Rattle.std.specs.Prelude.{◌≡◌, ◌⊎◌, ℕ, ◌+◌, ◌<◌, ◌≤◌, List, None, Option, Result, IfErr, IfSome, IsErrOf, IsSome, IsSomeAnd, IsTrue}
use Rattle.image_access.specs.Backing.{BackingView}
use Rattle.image_access.specs.Contents.{overwritten}
use Rattle.image_access.specs.Moments.{StorageView, ContentsStay, EachMomentSince, IsLeftBy}
use Rattle.qcow2_alloc.specs.declared.error.ImageError.{ImageError}
use Rattle.qcow2_alloc.specs.declared.error.ImageError.TheVariants.{Memory}
use Rattle.qcow2_alloc.specs.ImageFile.{view_in}
use Rattle.qcow2_image.specs.declared.image.Qcow2.{Qcow2}
use Rattle.qcow2_image.specs.declared.prepared.CommitRefused.{CommitRefused}
use Rattle.qcow2_image.specs.declared.prepared.Prepared.{Prepared}
use Rattle.qcow2_image.specs.CallParts.{HasChanged, IsWriteOutcome, InternalCall}
use Rattle.qcow2_image.specs.Calls.{reason_of}
use Rattle.qcow2_image.specs.ImageInvariant.{abstract_of, Mappings}
use Rattle.qcow2_image.specs.Prepared.{offset_of, table_of}
use Rattle.qcow2_image.specs.Unwritten.{LooksQuietly}
use Rattle.qcow2_alloc.specs.ImageStorage.{changes_of}
use Rattle.qcow2_alloc.specs.KeptMarks.{HaveRisen, changes_in}
use Rattle.qcow2_image.specs.Image.{has_noted_change, is_failed, storage_of_image}

module _ {S F : Type 0} where
  -- A change of the storage, of a table or of a refcount was counted: one of the counters rose, or is the greatest u64.
  abbrev pub ChangesRose : Qcow2 S F → Qcow2 S F → Type 0
  ChangesRose old new = HaveRisen (changes_in old.file) new.file

  -- One of the counters is higher.
  abbrev pub HasMoreChanges : Qcow2 S F → Qcow2 S F → Type 0
  HasMoreChanges old new = (changes_of old.file.storage < changes_of new.file.storage) ⊎ (old.file.caches.changes < new.file.caches.changes)

  -- No counter falls.
  pub record NoFewerChanges (old new : Qcow2 S F) : Type 0 where
    pub storage : changes_of old.file.storage ≤ changes_of new.file.storage
    pub tables : old.file.caches.changes ≤ new.file.caches.changes

-- What a call that ran out of memory leaves. If the image has not failed, the contents are the same. This call made it fail only if a change may have been counted in it, and always if one of the counters is higher.
pub record MarksOnceChanged {S F : Type 0} (view : S → StorageView) (old new : Qcow2 S F) : Type 0 where
  pub contents : ¬ IsTrue (is_failed new) → ContentsStay (view_in view old.file) (view_in view new.file)
  pub changed : IsTrue (is_failed new) → IsTrue (is_failed old) ⊎ ChangesRose old new
  pub marked : HasMoreChanges old new → IsTrue (is_failed new)

module _ {S F : Type 0} (view : S → StorageView) (old new : Qcow2 S F) where
  -- A call that leaves other contents on the storage counted a change, whatever it returns. No counter falls, and an honest storage stays honest.
  pub record CountsImageChanges : Type 0 where
    pub no_fewer : NoFewerChanges old new
    pub honest : (view_in view old.file).is_honest → (view_in view new.file).is_honest
    pub contents : ¬ ChangesRose old new → ContentsStay (view_in view old.file) (view_in view new.file)

  -- A call that counts its changes. If it runs out of memory, the image fails exactly after a change.
  pub record FailsOnceWritten {A : Type 0} (result : Result A ImageError) : Type 0 where
    pub counts : CountsImageChanges
    pub memory : IsErrOf result Memory → MarksOnceChanged view old new

  -- A commit that counts its changes. If it runs out of memory, the image fails exactly after a change, whatever happens to the mapping.
  pub record CommitFailsOnceWritten {A : Type 0} (result : Result A CommitRefused) : Type 0 where
    pub counts : CountsImageChanges
    pub memory : IfErr result (λ refused. reason_of refused ≡ Memory → MarksOnceChanged view old new)

module _ {S F : Type 0} (view : S → StorageView) (old new : Qcow2 S F) where
  -- A call records and counts its changes: an honest storage stays honest, every recorded change was counted, and if none was counted the contents are the same.
  pub record RecordsChanges : Type 0 where
    pub honest : (view_in view old.file).is_honest → (view_in view new.file).is_honest
    pub no_fewer : NoFewerChanges old new
    pub why : IsTrue (has_noted_change new) → ChangesRose old new
    pub contents : ¬ ChangesRose old new → ContentsStay (view_in view old.file) (view_in view new.file)

  -- A part of a call records and counts its changes, if none was recorded before.
  pub record RecordsPart : Type 0 where
    pub honest : (view_in view old.file).is_honest → (view_in view new.file).is_honest
    pub no_fewer : NoFewerChanges old new
    pub why : IsTrue (has_noted_change new) → IsTrue (has_noted_change old) ⊎ ChangesRose old new
    pub contents : ¬ IsTrue (has_noted_change old) → ¬ ChangesRose old new → ContentsStay (view_in view old.file) (view_in view new.file)

-- How a put writes. At some state `before`, a sound image is sound and looks the same to the guest.
-- From there on the bytes are written by a single write, at the mapping's place: in the image's own file, or in the data file if there is one.
-- A put into a pinned mapping writes nothing else, nor does any other if the L2 table can be looked at without a write.
pub record PutsOnce {S F : Type 0} (view : S → StorageView) (backing : F → BackingView) (p : Prepared) (at : ℕ) (bytes : List ℕ) (old new : Qcow2 S F) (result : Result (Unit {0}) ImageError) : Type 0 where
  pub before : Qcow2 S F
  pub honest : (view_in view old.file).is_honest → (view_in view before.file).is_honest
  pub unseen : (out : Mappings) → (abstract_of view backing old out).is_sound → InternalCall view backing old before out
  pub quiet : LooksQuietly view (p.guest + at) old before
  pub idle : IsSome (table_of p) → (storage_of_image before ≡ storage_of_image old) × (changes_of before.file.storage ≡ changes_of old.file.storage)
  pub time : (view_in view before.file).is_honest → EachMomentSince (view_in view before.file) (view_in view new.file) (IsLeftBy (view_in view new.file))
  pub written : old.data_file ≡ None → (view_in view before.file).is_honest → IsWriteOutcome result (view_in view before.file).contents (overwritten (view_in view before.file).contents (offset_of p + at) bytes) (view_in view new.file).contents
  pub beside : IfSome old.data_file (λ file. IsSomeAnd new.data_file (HasChanged view file (λ b. overwritten b (offset_of p + at) bytes) result))
