-- Steps one after another, and the moments of a storage on the way: a function for each elementary step, which gets the step's own fact whole.
use Rattle.std.proofs.Common.{◌≡◌, ◌⊎◌, ◌++◌, ⊎_elim, ℕ, List, [], Result, arith, sym, subst, append_assoc}
use Rattle.qcow2_laws.proofs.Common.{HeaderFields, Direction, Pending, CrashInvariant, overwritten, whole_or_nothing, passes_none, passes_on, passes_if, passes_change, Bytes, byte_at, Value, disk, GivenBytes, IsGiven, Checkpoint, checkpoint_with, StopOkEverywhere, SafeThroughout, LeavesKept, IsSafeAfter, L2Mapping, MapsInTurn, DriverState, StateInvariant, SafeStep, CountRises, CountFalls, EntryChanges, given_more, given_front, given_split, kept_more}
use Rattle.image_access.specs.declared.error.StorageError.{StorageError}
use Rattle.image_access.specs.Moments.{StorageView, EachMomentSince, Calls, Changes, IsLeftBy}

-- what two steps give and ask
abbrev pub both_given : (Bytes → List GivenBytes) → (Bytes → List GivenBytes) → Bytes → List GivenBytes
both_given first then backing = then backing ++ first backing

pub more_twice : (gs hs : List GivenBytes) (ns ms : List ℕ) (m : Checkpoint) → checkpoint_with (hs ++ gs) (ms ++ ns) m ≡ checkpoint_with hs ms (checkpoint_with gs ns m)
more_twice gs hs ns ms m = grind (arith, append_assoc)

-- the state of these parts
abbrev pub state : HeaderFields → Direction → Pending → Bytes → Bytes → DriverState
state h d p on_storage known = record { header = h; direction = d; pending = p; on_storage = on_storage; known = known }

-- the storage and the known contents stay
pub safe_step_still : (s : DriverState) (d : Direction) (p : Pending) → CrashInvariant s.header d p s.on_storage s.known → SafeStep s (state s.header d p s.on_storage s.known) (λ _. []) []
safe_step_still s d p sound = record { sound = sound; on_storage = λ backing m ok known_ok. ok; known = λ backing m ok known_ok. known_ok }

pub safe_step_none : (s : DriverState) → StateInvariant s → SafeStep s s (λ _. []) []
safe_step_none s sound = safe_step_still s s.direction s.pending sound

pub safe_step_then : (a b c : DriverState) (first then : Bytes → List GivenBytes) (asked asks : List ℕ) → SafeStep a b first asked → SafeStep b c then asks → SafeStep a c (both_given first then) (asks ++ asked)
safe_step_then a b c first then asked asks one two = record {
  sound = two.sound;
  on_storage = λ backing m ok known_ok.
      subst (λ k. StopOkEverywhere backing k c.on_storage) (sym (more_twice (first backing) (then backing) asked asks m))
      (two.on_storage backing (checkpoint_with (first backing) asked m) (one.on_storage backing m ok known_ok) (one.known backing m ok known_ok));
  known = λ backing m ok known_ok.
      subst (λ k. StopOkEverywhere backing k c.known) (sym (more_twice (first backing) (then backing) asked asks m))
      (two.known backing (checkpoint_with (first backing) asked m) (one.on_storage backing m ok known_ok) (one.known backing m ok known_ok));
}

-- ---- moments

-- nothing happened
pub safe_throughout_none : (view : StorageView) (known : Bytes) → SafeThroughout view view known (λ _. []) []
safe_throughout_none view known = record { moments = passes_none view _; contents = λ backing m ok known_ok. ok }

-- nothing is written
unwritten : (view : StorageView) (known : Bytes) (given : Bytes → List GivenBytes) → SafeThroughout view view known given []
unwritten view known given = record { moments = passes_none view _; contents = λ backing m ok known_ok. kept_more backing (given backing) [] m (byte_at view.contents) ok }

-- a refcount is incremented
pub raise_safe_throughout : (view : StorageView) (s : DriverState) (known' : Bytes) (c : ℕ) → s.on_storage ≡ byte_at view.contents → CountRises s.header s.known known' c → SafeThroughout view view s.known (λ _. []) []
raise_safe_throughout view s known' c is rises = safe_throughout_none view s.known

-- a refcount is decremented
pub fall_safe_throughout : (view : StorageView) (s : DriverState) (known' : Bytes) (c : ℕ) → s.on_storage ≡ byte_at view.contents → CountFalls s.header s.known known' c → SafeThroughout view view s.known (λ _. []) []
fall_safe_throughout view s known' c is falls = safe_throughout_none view s.known

-- what is pending changes
pub pending_safe_throughout : (view : StorageView) (s s' : DriverState) → s.on_storage ≡ byte_at view.contents → SafeStep s s' (λ _. []) [] → SafeThroughout view view s.known (λ _. []) []
pending_safe_throughout view s s' is safe_step = safe_throughout_none view s.known

-- an entry of a cached table changes
pub entry_safe_throughout : (view : StorageView) (s s' : DriverState) (i j : ℕ) (given : Bytes → List GivenBytes) → s.on_storage ≡ byte_at view.contents → EntryChanges s s'.known i j → SafeStep s s' given [] → SafeThroughout view view s.known given []
entry_safe_throughout view s s' i j given is changes safe_step = unwritten view s.known given

-- and several, one after another
pub entries_safe_throughout : (view : StorageView) (s s' : DriverState) (kind : L2Mapping → Type 0) (first n : ℕ) (given : Bytes → List GivenBytes) → s.on_storage ≡ byte_at view.contents → MapsInTurn kind first n s s' → SafeStep s s' given []
    → SafeThroughout view view s.known given []
entries_safe_throughout view s s' kind first n given is turn safe_step = unwritten view s.known given

-- one call of the storage, by what is safe at its return
by_return : (old new : StorageView) (known : Bytes) (given : Bytes → List GivenBytes) (asked : List ℕ) → EachMomentSince old new (IsLeftBy new)
    → IsSafeAfter old known given asked new.contents
    → SafeThroughout old new known given asked
by_return old new known given asked time now =
    record { moments = passes_if (IsSafeAfter old known given asked) (λ c (is : IsLeftBy new c). subst (IsSafeAfter old known given asked) (sym is) now) time; contents = now }

-- any calls, where whatever they may leave is safe
pub always_safe_throughout : {P : List ℕ → Type 0} (old new : StorageView) (known : Bytes) (given : Bytes → List GivenBytes) (asked : List ℕ) → EachMomentSince old new P → ((c : List ℕ) → IsSafeAfter old known given asked c)
    → SafeThroughout old new known given asked
always_safe_throughout old new known given asked time safe = record { moments = passes_if (IsSafeAfter old known given asked) (λ c _. safe c) time; contents = safe new.contents }

-- a call of the storage that keeps the contents
pub keep_safe_throughout : (old new : StorageView) (known : Bytes) → EachMomentSince old new (IsLeftBy new) → new.contents ≡ old.contents → SafeThroughout old new known (λ _. []) []
keep_safe_throughout old new known time same = by_return old new known (λ _. []) [] time (λ backing m ok known_ok. subst (λ (c : List ℕ). StopOkEverywhere backing m (byte_at c)) (sym same) ok)

-- one write of the storage that was done, and makes a step's change
pub done_safe_throughout : (old new : StorageView) (s s' : DriverState) (given : Bytes → List GivenBytes) (asked : List ℕ) → EachMomentSince old new (IsLeftBy new) → s.on_storage ≡ byte_at old.contents → s'.on_storage ≡ byte_at new.contents
    → SafeStep s s' given asked → SafeThroughout old new s.known given asked
done_safe_throughout old new s s' given asked time is is' safe_step =
    by_return old new s.known given asked time (λ backing m ok known_ok.
    subst (λ (b : Bytes). StopOkEverywhere backing (checkpoint_with (given backing) asked m) b) is' (safe_step.on_storage backing m (subst (StopOkEverywhere backing m) (sym is) ok) known_ok))

-- a write of data that was done, with its range and what it gives
pub data_safe_throughout : (old new : StorageView) (s s' : DriverState) (offset : ℕ) (bytes : List ℕ) (given : Bytes → List GivenBytes) → EachMomentSince old new (IsLeftBy new) → new.contents ≡ overwritten old.contents offset bytes
    → s.on_storage ≡ byte_at old.contents → s'.on_storage ≡ byte_at new.contents → SafeStep s s' given [] → SafeThroughout old new s.known given []
data_safe_throughout old new s s' offset bytes given time written is is' safe_step = done_safe_throughout old new s s' given [] time is is' safe_step

-- one write of the storage, whatever it answers
pub safe_throughout_write : {T : Type 0} {result : Result T StorageError} (old new : StorageView) (known : Bytes) (given : Bytes → List GivenBytes) (asked : List ℕ) (change : List ℕ → List ℕ) → Calls old new result → Changes old new result change → old.is_honest
    → IsSafeAfter old known given asked (change old.contents)
    → SafeThroughout old new known given asked
safe_throughout_write {result = result} old new known given asked change call changes honest step =
    let P = IsSafeAfter old known given asked in
    let before : P old.contents = λ backing m ok known_ok. kept_more backing (given backing) asked m (byte_at old.contents) ok in
    record {
      moments = passes_change P change (passes_none old P) call changes honest before step;
      contents = ⊎_elim
          (λ (e : new.contents ≡ old.contents). subst P (sym e) before)
          (λ (e : new.contents ≡ change old.contents). subst P (sym e) step)
          (whole_or_nothing result old.contents (change old.contents) new.contents (changes honest));
    }

-- one run of calls after another, from where a step led
pub safe_throughout_then : (old mid new : StorageView) (known known' : Bytes) (first then : Bytes → List GivenBytes) (asked asks : List ℕ) → SafeThroughout old mid known first asked
    → ((backing : Bytes) (m : Checkpoint) → LeavesKept backing m old → StopOkEverywhere backing m known → StopOkEverywhere backing (checkpoint_with (first backing) asked m) known')
    → SafeThroughout mid new known' then asks → SafeThroughout old new known (both_given first then) (asks ++ asked)
safe_throughout_then old mid new known known' first then asked asks one step two =
    let P = IsSafeAfter old known (both_given first then) (asks ++ asked) in
    let join = λ (backing : Bytes) (m : Checkpoint). sym (more_twice (first backing) (then backing) asked asks m) in
    record {
      moments = passes_on P
          (passes_if P (λ c (kept : IsSafeAfter old known first asked c).
          λ backing m ok known_ok. subst (λ k. StopOkEverywhere backing k (byte_at c)) (join backing m) (kept_more backing (then backing) asks (checkpoint_with (first backing) asked m) (byte_at c) (kept backing m ok known_ok))) one.moments)
          two.moments
          (λ c kept backing m ok known_ok. subst (λ k. StopOkEverywhere backing k (byte_at c)) (join backing m)
          (kept backing (checkpoint_with (first backing) asked m) (one.contents backing m ok known_ok) (step backing m ok known_ok)));
      contents = λ backing m ok known_ok. subst (λ k. LeavesKept backing k new) (join backing m)
          (two.contents backing (checkpoint_with (first backing) asked m) (one.contents backing m ok known_ok) (step backing m ok known_ok));
    }

-- one write of the storage that makes a step's change, whatever it answers
pub step_safe_throughout : {T : Type 0} {result : Result T StorageError} (old new : StorageView) (s s' : DriverState) (given : Bytes → List GivenBytes) (asked : List ℕ) (change : List ℕ → List ℕ) → Calls old new result → Changes old new result change → old.is_honest
    → s.on_storage ≡ byte_at old.contents → s'.on_storage ≡ byte_at (change old.contents) → SafeStep s s' given asked → SafeThroughout old new s.known given asked
step_safe_throughout {result = result} old new s s' given asked change call changes honest is is' safe_step =
    safe_throughout_write {result = result} old new s.known given asked change call changes honest (λ backing m ok known_ok.
    subst (λ (b : Bytes). StopOkEverywhere backing (checkpoint_with (given backing) asked m) b) is' (safe_step.on_storage backing m (subst (StopOkEverywhere backing m) (sym is) ok) known_ok))

-- one write of the storage, whatever it answers, that makes a step's change where it is done
pub write_safe_throughout : {T : Type 0} {result : Result T StorageError} (old new : StorageView) (s : DriverState) (given : Bytes → List GivenBytes) (asked : List ℕ) (change : List ℕ → List ℕ) → Calls old new result → Changes old new result change → old.is_honest
    → s.on_storage ≡ byte_at old.contents → (new.contents ≡ change old.contents → (s' : DriverState) × (s'.on_storage ≡ byte_at new.contents) × SafeStep s s' given asked) → SafeThroughout old new s.known given asked
write_safe_throughout {result = result} old new s given asked change call changes honest is step =
    by_return old new s.known given asked (call.time honest) (λ backing m ok known_ok. ⊎_elim
    (λ (same : new.contents ≡ old.contents). subst (λ (c : List ℕ). StopOkEverywhere backing (checkpoint_with (given backing) asked m) (byte_at c)) (sym same) (kept_more backing (given backing) asked m (byte_at old.contents) ok))
    (λ (done : new.contents ≡ change old.contents).
    let made = step done in
    subst (λ (b : Bytes). StopOkEverywhere backing (checkpoint_with (given backing) asked m) b) made.1 (made.2.on_storage backing m (subst (StopOkEverywhere backing m) (sym is) ok) known_ok))
    (whole_or_nothing result old.contents (change old.contents) new.contents (changes honest)))

-- more calls after a step
pub steps_safe_throughout : (old mid new : StorageView) (s s' : DriverState) (first then : Bytes → List GivenBytes) (asked asks : List ℕ) → s.on_storage ≡ byte_at old.contents
    → SafeThroughout old mid s.known first asked → SafeStep s s' first asked → SafeThroughout mid new s'.known then asks → SafeThroughout old new s.known (both_given first then) (asks ++ asked)
steps_safe_throughout old mid new s s' first then asked asks is one safe_step two =
    safe_throughout_then old mid new s.known s'.known first then asked asks one (λ backing m ok known_ok. safe_step.known backing m (subst (StopOkEverywhere backing m) (sym is) ok) known_ok) two

-- ---- what is given beside what is shown already

kept_less : (backing : Bytes) (given fewer : List GivenBytes) (asked : List ℕ) (m : Checkpoint) (known b : Bytes) → ((o : ℕ) (v : Value) → IsGiven given o v → (v ≡ (disk known backing).value o) ⊎ IsGiven fewer o v)
    → StopOkEverywhere backing m known → StopOkEverywhere backing (checkpoint_with given asked m) b → StopOkEverywhere backing (checkpoint_with fewer asked m) b
kept_less backing given fewer asked m known b within known_kept kept = grind (arith, given_more, given_front, given_split)

-- a step that gives only what is shown already, or is one of fewer gifts, gives those
pub safe_step_less : (s s' : DriverState) (given fewer : Bytes → List GivenBytes) (asked : List ℕ) → ((backing : Bytes) (o : ℕ) (v : Value) → IsGiven (given backing) o v → (v ≡ (disk s.known backing).value o) ⊎ IsGiven (fewer backing) o v)
    → SafeStep s s' given asked → SafeStep s s' fewer asked
safe_step_less s s' given fewer asked within safe_step = record {
  sound = safe_step.sound;
  on_storage = λ backing m ok known_ok. kept_less backing (given backing) (fewer backing) asked m s.known s'.on_storage (within backing) known_ok (safe_step.on_storage backing m ok known_ok);
  known = λ backing m ok known_ok. kept_less backing (given backing) (fewer backing) asked m s.known s'.known (within backing) known_ok (safe_step.known backing m ok known_ok);
}

-- what is safe while these sizes are asked for is so while more are
pub safe_throughout_asking : (old new : StorageView) (known : Bytes) (given : Bytes → List GivenBytes) (asked more : List ℕ) → SafeThroughout old new known given asked → SafeThroughout old new known given (more ++ asked)
safe_throughout_asking old new known given asked more one = safe_throughout_then old new new known known given (λ _. []) asked more one (λ backing m ok known_ok. kept_more backing (given backing) asked m known known_ok) (unasked new known more)
  where
    unasked : (view : StorageView) (known : Bytes) (more : List ℕ) → SafeThroughout view view known (λ _. []) more
    unasked view known more = record { moments = passes_none view _; contents = λ backing m ok known_ok. kept_more backing [] more m (byte_at view.contents) ok }
