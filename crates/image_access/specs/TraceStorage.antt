-- The view of a storage that records its changes.
use Rattle.std.specs.Prelude.{◌≡◌, ◌≢◌, ℕ, List, [], ◌∷◌, ◌++◌, length, Result, Ok, Err, codes}
use Rattle.image_access.specs.CallCount.{Counted, one_more, counted, faulted}
use Rattle.image_access.specs.Changes.{replayed, HadSince}
use Rattle.image_access.specs.Moments.{StorageView}
use Rattle.image_access.specs.declared.change.Change.{Change}
use Rattle.image_access.specs.declared.error.StorageError.{StorageError}
use Rattle.image_access.specs.declared.error.StorageError.TheVariants.{Fault, Memory}

-- A trace: the contents at the start, and what happened since.
pub record Trace : Type 0 where
  -- The contents at the start.
  pub start : List ℕ
  -- The changes since the start, the oldest first.
  pub changes : List Change
  -- The number of reads that succeeded. The counter stops at the greatest u64.
  pub reads : ℕ
  -- The counters of calls, and those that will be refused.
  pub calls : Counted

-- The contents: those at the start, with the changes replayed.
abbrev pub contents_of : Trace → List ℕ
contents_of t = replayed t.start t.changes

-- The view as a storage: it is honest, and its moments are the contents after each change.
abbrev pub view_of_trace : Trace → StorageView
view_of_trace t = record {
  contents = contents_of t;
  faults = t.calls.faults;
  is_honest = Unit {0};
  moment = length t.changes;
  had_since = HadSince t.start t.changes;
  name = codes "trace";
  req_align = 1;
  mem_align = 1;
}

-- The trace with one change more.
abbrev pub with_change : Trace → Change → Trace
with_change t change = record t { changes = t.changes ++ change ∷ [] }

-- The trace with one read more.
abbrev pub with_read : Trace → Trace
with_read t = record t { reads = one_more t.reads }

-- What a call does that changes no contents: it is counted, and refused if it was chosen. If it succeeds, it leaves the trace as `done`.
abbrev pub Answers : {T : Type 0} → Trace → Trace → Result T StorageError → Trace → Type 0
Answers old new (Ok _) done = (old.calls.fails_in ≢ 1) × (old.calls.refuses_in ≢ 1) × (new ≡ record done { calls = counted old.calls })
Answers old new (Err Fault) done = (old.calls.fails_in ≡ 1) × (new ≡ record old { calls = faulted old.calls })
Answers old new (Err Memory) done = (old.calls.fails_in ≢ 1) × (old.calls.refuses_in ≡ 1) × (new ≡ record old { calls = counted old.calls })

-- What a call does that makes a change: it is counted, and refused if it was chosen. Memory to record the change may run out at any time.
abbrev pub Adds : Trace → Trace → Result (Unit {0}) StorageError → Change → Type 0
Adds old new (Ok _) change = (old.calls.fails_in ≢ 1) × (old.calls.refuses_in ≢ 1) × (new ≡ record (with_change old change) { calls = counted old.calls })
Adds old new (Err Fault) change = (old.calls.fails_in ≡ 1) × (new ≡ record old { calls = faulted old.calls })
Adds old new (Err Memory) change = (old.calls.fails_in ≢ 1) × (new ≡ record old { calls = counted old.calls })
