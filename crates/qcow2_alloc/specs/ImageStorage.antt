-- The storage of an image, with its marks: the kind of the next writes, recorded changes, and failures.
use Rattle.std.specs.Prelude.{◌≡◌, ℕ, Bool, List, Option, Result, Ok, Err, IfSome, IsFalse, IsOk, IsTrue}
use Rattle.image_access.specs.Contents.{overwritten}
use Rattle.image_access.specs.Moments.{StorageView, Calls, Changes}
use Rattle.image_access.specs.declared.error.StorageError.{StorageError}
use Rattle.image_access.specs.declared.error.StorageError.TheVariants.{Fault, Memory}
use Rattle.qcow2_alloc.specs.CountedChanges.{IsOneChange}
use Rattle.qcow2_alloc.specs.declared.image_storage.ImageStorage.{ImageStorage}
use Rattle.qcow2_alloc.specs.declared.image_storage.WriteKind.{WriteKind}

-- The storage itself.
abbrev pub storage_of : {S : Type 0} → ImageStorage S → S
storage_of s = s.storage

-- The kind of the next writes.
abbrev pub kind_of : {S : Type 0} → ImageStorage S → WriteKind
kind_of s = s.kind

-- Whether anything was changed since the last `begin_call`.
abbrev pub is_changed_of : {S : Type 0} → ImageStorage S → Bool
is_changed_of s = s.is_changed

-- How many changes were made in all, or may have been. The counter stops at the greatest u64.
abbrev pub changes_of : {S : Type 0} → ImageStorage S → ℕ
changes_of s = s.changes

-- No further change is recorded or counted.
pub record SameNotes {S : Type 0} (old new : ImageStorage S) : Type 0 where
  pub note : is_changed_of new ≡ is_changed_of old
  pub count : changes_of new ≡ changes_of old

-- Whether a call failed since faults are watched.
abbrev pub met_fault_of : {S : Type 0} → ImageStorage S → Bool
met_fault_of s = s.met_fault

-- A change is recorded and counted.
abbrev pub CountsWrite : {S : Type 0} → ImageStorage S → ImageStorage S → Type 0
CountsWrite old new = IsOneChange (is_changed_of new) (changes_of old) (changes_of new)

-- A write that was made, or may have been, is recorded and counted. If memory ran out, nothing is.
abbrev pub RecordsWrite : {S T : Type 0} → ImageStorage S → ImageStorage S → Result T StorageError → Type 0
RecordsWrite old new (Ok _) = CountsWrite old new
RecordsWrite old new (Err Fault) = CountsWrite old new
RecordsWrite old new (Err Memory) = SameNotes old new

-- A failure is recorded.
abbrev pub RecordsFault : {S T : Type 0} → ImageStorage S → ImageStorage S → Result T StorageError → Type 0
RecordsFault old new (Ok _) = met_fault_of new ≡ met_fault_of old
RecordsFault old new (Err Fault) = IsTrue (met_fault_of new)
RecordsFault old new (Err Memory) = met_fault_of new ≡ met_fault_of old

-- Bytes are written from an offset on. The write is recorded and counted, and a failure is recorded.
pub record WritesBytes {S T : Type 0} (view : S → StorageView) (old new : ImageStorage S) (at : ℕ) (bytes : List ℕ) (result : Result T StorageError) : Type 0 where
  pub written : Changes (view (storage_of old)) (view (storage_of new)) result (λ b. overwritten b at bytes)
  pub recorded : RecordsWrite old new result
  pub faults : RecordsFault old new result

-- A write makes this change of the contents, or is refused. It is recorded and counted.
pub record MakesWrite {S : Type 0} (view : S → StorageView) (old new : ImageStorage S) (result : Result (Unit {0}) StorageError) (change : List ℕ → List ℕ) : Type 0 where
  pub written : Changes (view (storage_of old)) (view (storage_of new)) result change
  pub calls : Calls (view (storage_of old)) (view (storage_of new)) result
  pub recorded : RecordsWrite old new result

-- A write of a table makes this change of the contents, if the table has a cluster, or is refused. It is recorded and counted.
pub record WritesPlaced {S : Type 0} (view : S → StorageView) (old new : ImageStorage S) (cluster : Option ℕ) (result : Result (Unit {0}) StorageError) (change : ℕ → List ℕ → List ℕ) : Type 0 where
  pub written : IfSome cluster (λ c. Changes (view (storage_of old)) (view (storage_of new)) result (change c))
  pub calls : Calls (view (storage_of old)) (view (storage_of new)) result
  pub recorded : RecordsWrite old new result

-- Bytes of a table are written if it is modified. Otherwise nothing happens.
pub record WritesIfModified {S : Type 0} (view : S → StorageView) (old new : ImageStorage S) (is_modified : Bool) (at : ℕ) (bytes : List ℕ) (result : Result (Unit {0}) StorageError) : Type 0 where
  pub written : IsTrue is_modified → WritesBytes view old new at bytes result
  pub idle : IsFalse is_modified → IsOk result × (new ≡ old)
  pub calls : Calls (view (storage_of old)) (view (storage_of new)) result

-- A write without a kind is refused 14, and nothing changes.
abbrev pub IsRefusedUntold : {S T : Type 0} → ImageStorage S → ImageStorage S → Result T StorageError → Type 0
IsRefusedUntold old new result = (result ≡ Err Memory) × (new ≡ old)
