-- The view of a storage in contracts: its contents, its moments, and what a call does to them.
use Rattle.std.specs.Prelude.{◌≡◌, ◌≢◌, ◌⊎◌, ℕ, ◌+◌, ◌-◌, ◌^◌, ◌≤◌, min, List, Result, Ok, Err, IsErrOf}
use Rattle.image_access.specs.declared.error.StorageError.{StorageError}
use Rattle.image_access.specs.declared.error.StorageError.TheVariants.{Fault, Memory}

-- The view of a storage.
pub record StorageView : Type 1 where
  -- The bytes. Past their end all are zero.
  pub contents : List ℕ
  -- How often the storage has failed. The counter stops at the greatest u64.
  pub faults : ℕ
  -- The storage returns what was written, and nobody else writes it. Clauses about bytes hold only for honest storages.
  pub is_honest : Type 0
  -- The present moment, as a number that never falls.
  pub moment : ℕ
  -- The contents that the storage had at some moment since the given one.
  pub had_since : ℕ → List ℕ → Type 0
  -- The bytes of the storage's name.
  pub name : List ℕ
  -- The alignment of offsets and lengths, and the alignment of buffers, in bytes.
  pub req_align : ℕ
  pub mem_align : ℕ

-- The three calls that change no bytes: a flush, a sync, and one that drops cached reads.
pub data PassingCall : Type 0 where
  FlushCall : PassingCall
  SyncCall : PassingCall
  InvalidateCall : PassingCall

-- A change was made, if the call succeeded. If memory ran out, nothing changed. After a fault the whole change was made, or nothing.
abbrev pub ContentsBecome : {T : Type 0} → Result T StorageError → List ℕ → List ℕ → List ℕ → Type 0
ContentsBecome (Ok _) old changed new = new ≡ changed
ContentsBecome (Err Memory) old changed new = new ≡ old
ContentsBecome (Err Fault) old changed new = (new ≡ old) ⊎ (new ≡ changed)

-- The number of faults rose, or is the greatest u64.
abbrev pub Rose : ℕ → ℕ → Type 0
Rose before now = min (before + 1) (2 ^ 64 - 1) ≤ now

-- P holds, unless the call was refused in this way.
abbrev pub UnlessErr : {T E : Type 0} → Result T E → E → Type 0 → Type 0
UnlessErr (Ok _) refusal P = P
UnlessErr (Err e) refusal P = e ≢ refusal → P

-- A call is refused with a fault only if the storage failed, and every failure is reported: without such a refusal, their number is the same.
pub record HasCause {T : Type 0} (before now : ℕ) (result : Result T StorageError) : Type 0 where
  pub no_fewer : before ≤ now
  pub fault : IsErrOf result Fault → Rose before now
  pub told : UnlessErr result Fault (now ≡ before)

-- An honest storage stays honest, and its contents at every moment since `old` satisfy P.
pub record EachMomentSince (old new : StorageView) (P : List ℕ → Type 0) : Type 0 where
  pub honest : old.is_honest → new.is_honest
  pub later : old.moment ≤ new.moment
  pub each : (t : ℕ) (c : List ℕ) → t ≤ old.moment → new.had_since t c → old.had_since t c ⊎ P c

-- What a stop at this moment leaves of a storage: its contents.
abbrev pub IsLeftBy : StorageView → List ℕ → Type 0
IsLeftBy v c = c ≡ v.contents

-- What a call does that may change the contents: an honest storage stays honest, and a fault is counted. At every moment during the call, an honest storage has its old contents or those at the return.
pub record Calls {T : Type 0} (old new : StorageView) (result : Result T StorageError) : Type 0 where
  pub honest : old.is_honest → new.is_honest
  pub time : old.is_honest → EachMomentSince old new (IsLeftBy new)
  pub cause : HasCause old.faults new.faults result

-- What a call does that changes nothing: an honest storage stays honest, a fault is counted, and for every storage the moments are the old ones.
pub record QuietCalls {T : Type 0} (old new : StorageView) (result : Result T StorageError) : Type 0 where
  pub honest : old.is_honest → new.is_honest
  pub time : EachMomentSince old new (IsLeftBy new)
  pub cause : HasCause old.faults new.faults result

-- The contents of an honest storage are the same.
abbrev pub ContentsStay : StorageView → StorageView → Type 0
ContentsStay old new = old.is_honest → new.contents ≡ old.contents

-- The contents are those after the change. If the call was refused, they may be the old ones.
abbrev pub Changes : {T : Type 0} → StorageView → StorageView → Result T StorageError → (List ℕ → List ℕ) → Type 0
Changes old new result change = old.is_honest → ContentsBecome result old.contents (change old.contents) new.contents
