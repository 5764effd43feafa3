-- The view of a file that is read or written from front to back: the file, and bytes in memory that were read ahead or wait to be written.
use Rattle.std.specs.Prelude.{◌≡◌, ℕ, ◌+◌, ◌<◌, ◌⊎◌, List, [], ◌++◌, length, Bool, true, false, IsTrue, IsFalse, Result, Ok, Err}
use Rattle.image_access.specs.declared.error.StorageError.{StorageError}
use Rattle.file_storage.specs.FileStorage.{OpenFile}

pub record Streamed : Type 0 where
  pub file : OpenFile
  -- The offset of the bytes in memory.
  pub start : ℕ
  pub held : List ℕ
  -- Whether these bytes wait to be written.
  pub is_unwritten : Bool

-- A file with no bytes in memory.
abbrev pub holding_nothing : OpenFile → Streamed
holding_nothing file = record { file = file; start = 0; held = []; is_unwritten = false }

-- The bytes in memory, their offset, and whether they wait stay the same. The file may change.
abbrev pub StaysHeld : Streamed → Streamed → Type 0
StaysHeld old new = new ≡ record old { file = new.file }

-- No bytes that were read ahead are in memory.
abbrev pub HoldsNoReads : Streamed → Type 0
HoldsNoReads s = IsFalse s.is_unwritten → s.held ≡ []

-- Bytes that were read ahead are dropped. Bytes that wait to be written stay.
abbrev pub ForgetsReads : Streamed → Streamed → Type 0
ForgetsReads old new = HoldsNoReads new × (new ≡ record old { held = new.held }) × (IsTrue old.is_unwritten → new ≡ old)

-- After a success no bytes wait to be written. After a refusal none wait, or those that waited are still there.
abbrev pub LeavesNoneUnwritten : {T : Type 0} → Streamed → Streamed → Result T StorageError → Type 0
LeavesNoneUnwritten old new (Ok _) = IsFalse new.is_unwritten
LeavesNoneUnwritten old new (Err _) = IsTrue new.is_unwritten → StaysHeld old new

-- Bytes are added after those in memory, to be written at an offset.
abbrev pub HoldsMore : Streamed → Streamed → ℕ → List ℕ → Type 0
HoldsMore old new at bytes = (new ≡ record old { start = new.start; held = old.held ++ bytes; is_unwritten = true }) × (new.start + length old.held ≡ at) × (0 < length old.held → new.start ≡ old.start)

-- Only these bytes are in memory, to be written at an offset.
abbrev pub HoldsAlone : Streamed → ℕ → List ℕ → Type 0
HoldsAlone new at bytes = (new.held ≡ bytes) × (new.start ≡ at)

-- A write of bytes at an offset. After a success no bytes wait to be written, or these do, alone or after those that waited. After a refusal none wait, or those that waited are still there.
abbrev pub WritesOrHolds : {T : Type 0} → Streamed → Streamed → ℕ → List ℕ → Result T StorageError → Type 0
WritesOrHolds old new at bytes (Ok _) = IsTrue new.is_unwritten → HoldsAlone new at bytes ⊎ (IsTrue old.is_unwritten × HoldsMore old new at bytes)
WritesOrHolds old new at bytes (Err _) = IsTrue new.is_unwritten → StaysHeld old new
