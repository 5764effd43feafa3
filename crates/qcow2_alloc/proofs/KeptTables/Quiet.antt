-- Nothing is written if nothing has to be.
use Rattle.std.proofs.Common.{◌≡◌, ◌≤◌, ◌∷◌, inl, inr, ℕ, Bool, true, false, eqb, List, [], length, Option, Some, None, Result, Ok, Err, IsSome, refl, sym, ap, ◌∙◌, subst, IfSome}
use Rattle.qcow2_alloc.proofs.Common.{IsNone, option_map, lookup, lookup_entry, remove_entry, promoted, StorageError, StorageView, Calls, QuietCalls, ContentsStay, passes_none, passes_on, passes_if, MetadataError, L2TableView, RefBlockView, AreClean, Slot, CacheError, InUse, StillInUse, Memory, Backend, L2CacheBackend, RefBlockCacheBackend, MetadataCaches, ImageStorage, Cache, oldest_free, Unit₀, FlushesEntry, FlushesAll, Flushes, HasRoomForEntry, HasNoRoom, GetsNew, InsertsNew, Replaces, storage_of, answer_done, table_steps, l2_steps, rb_steps, cleared_l2, cleared_rb, IsTableOf, IsBlockOf, cached_tables, l2_tables, refblocks, IsQuiet, NextIsClean, WritesNothing}
use Rattle.qcow2_alloc.proofs.KeptTables.Fetching.{none_or_some}
use Rattle.qcow2_alloc.proofs.KeptTables.Inserting.{found_or_not, lookup_none}
use Rattle.qcow2_alloc.proofs.CachedEntries.Lists.{lookup-from_entry}

-- ---- calls one after another

pub quiet_none : (v : StorageView) → v.is_honest → IsQuiet v v
quiet_none v honest = record { honest = honest; contents = refl; moments = passes_none v _ }

pub quiet_then : (a b c : StorageView) → IsQuiet a b → IsQuiet b c → IsQuiet a c
quiet_then a b c first second = record {
  honest = second.honest;
  contents = second.contents ∙ first.contents;
  moments = passes_on _ first.moments second.moments (λ l is. is ∙ first.contents);
}

-- one call of the storage that changes nothing
quiet_call : {T : Type 0} (a b : StorageView) (r : Result T StorageError) → Calls a b r → ContentsStay a b → a.is_honest → IsQuiet a b
quiet_call a b r calls keeps honest = record {
  honest = calls.honest honest;
  contents = keeps honest;
  moments = passes_if _ (λ c is. is ∙ keeps honest) (calls.time honest);
}

pub quiet_read : {T : Type 0} (a b : StorageView) (r : Result T StorageError) → QuietCalls a b r → ContentsStay a b → a.is_honest → IsQuiet a b
quiet_read a b r calls keeps honest = record {
  honest = calls.honest honest;
  contents = keeps honest;
  moments = passes_if _ (λ c is. is ∙ keeps honest) calls.time;
}

not_both : (b : Bool) {P : Type 0} → b ≡ true → b ≡ false → P
not_both b yes_so no_so = absurd (let bad : true ≡ false = sym yes_so ∙ no_so in cc)

-- ---- calls of a cache
module _ {S V : Type 0} (view : S → StorageView) (bits : ℕ) (bytes : V → List ℕ) (is_modified : V → Bool) (cleared : V → V) (IsFit : V → Type 0) where
  abbrev Quiet : S → S → Type 0
  Quiet s t = (view s).is_honest → IsQuiet (view s) (view t)

  still : (s t : S) → t ≡ s → Quiet s t
  still s t is honest = rw is (quiet_none (view s) honest)

  entry_quiet : (s t : S) (e : ℕ × Slot V) (x : Option MetadataError) (d : Slot V) → FlushesEntry (table_steps view bits bytes is_modified cleared IsFit) s e x t d → is_modified e.1.value ≡ false → Quiet s t
  entry_quiet s t e None d h clean honest = quiet_call (view s) (view t) answer_done h.0.calls (h.0.skips clean) honest
  entry_quiet s t e (Some x) d h clean honest = not_both (is_modified e.1.value) h.0.modified clean

  all_quiet : (s t : S) (es fs : List (ℕ × Slot V)) (x : Option MetadataError) → FlushesAll (table_steps view bits bytes is_modified cleared IsFit) s es x t fs → AreClean (cached_tables bits bytes is_modified es) → Quiet s t
  all_quiet s t [] fs x h all honest = still s t h.1 honest
  all_quiet s t (e ∷ es) fs x h all honest =
      let one = entry_quiet s h.1 e h.0 h.2 h.5 all.0 honest in
      quiet_then (view s) (view h.1) (view t) one (all_quiet h.1 t es h.4 h.3 h.6 all.1 one.honest)

  -- a flush where none is modified
  pub flush_quiet : (s t : S) (es fs : List (ℕ × Slot V)) (r : Result Unit₀ (CacheError ℕ MetadataError)) → Flushes (table_steps view bits bytes is_modified cleared IsFit) s es r t fs → AreClean (cached_tables bits bytes is_modified es) → Quiet s t
  flush_quiet s t es fs (Ok u) h all = all_quiet s t es fs None h all
  flush_quiet s t es fs (Err (Backend x)) h all = all_quiet s t es fs (Some x) h all
  flush_quiet s t es fs (Err InUse) h all = absurd h
  flush_quiet s t es fs (Err Memory) h all = absurd h
  flush_quiet s t es fs (Err (StillInUse keys)) h all = absurd h

  module _ (size : ℕ) (may_flush : Bool) (s : S) (es : List (ℕ × Slot V)) (next : may_flush ≡ true → NextIsClean is_modified es) where
    next_clean : (e : ℕ × Slot V) → may_flush ≡ true → oldest_free es ≡ Some e → is_modified e.1.value ≡ false
    next_clean e may eviction = subst (λ (o : Option (ℕ × Slot V)). IfSome o (λ e. is_modified e.1.value ≡ false)) eviction (next may)

    room_quiet : (t : S) (fs : List (ℕ × Slot V)) → HasRoomForEntry (table_steps view bits bytes is_modified cleared IsFit) eqb size may_flush s es t fs → Quiet s t
    room_quiet t fs room honest = elim room [
      | inl there ↦ still s t there.1 honest
      | inr evicts ↦ quiet_call (view s) (view t) answer_done evicts.flushed.calls (evicts.flushed.skips (next_clean evicts.entry evicts.must.may evicts.eviction)) honest
    ]

    no_room_quiet : (t : S) (fs : List (ℕ × Slot V)) (r : Result Bool (CacheError ℕ MetadataError)) → HasNoRoom (table_steps view bits bytes is_modified cleared IsFit) eqb size may_flush s es r t fs → Quiet s t
    no_room_quiet t fs (Ok true) h = absurd h
    no_room_quiet t fs (Ok false) h = still s t h.2
    no_room_quiet t fs (Err InUse) h = still s t h.2
    no_room_quiet t fs (Err (StillInUse keys)) h = absurd h
    no_room_quiet t fs (Err Memory) h = absurd h
    no_room_quiet t fs (Err (Backend x)) h = not_both (is_modified h.entry.1.value) h.failed.modified (next_clean h.entry h.must.may h.eviction)

    new_quiet : (t : S) (fs : List (ℕ × Slot V)) (k : ℕ) (r : Result Bool (CacheError ℕ MetadataError)) → GetsNew (table_steps view bits bytes is_modified cleared IsFit) eqb size may_flush k s es r t fs → Quiet s t
    new_quiet t fs k (Ok true) h honest =
        let one = room_quiet h.0 h.1 h.3 honest in
        quiet_then (view s) (view h.0) (view t) one (quiet_read (view h.0) (view t) answer_done h.4.calls h.4.keeps one.honest)
    new_quiet t fs k (Ok false) h honest = no_room_quiet t fs (Ok false) h honest
    new_quiet t fs k (Err InUse) h honest = no_room_quiet t fs (Err InUse) h honest
    new_quiet t fs k (Err (StillInUse keys)) h honest = absurd h
    new_quiet t fs k (Err Memory) h honest =
        let one = room_quiet h.0 fs h.2 honest in
        quiet_then (view s) (view h.0) (view t) one (quiet_read (view h.0) (view t) answer_done h.3.calls h.3.keeps one.honest)
    new_quiet t fs k (Err (Backend x)) h honest = elim h [
      | inl none ↦ no_room_quiet t fs (Err (Backend x)) none honest
      | inr failed ↦
          let one = room_quiet failed.0 fs failed.1 honest in
          quiet_then (view s) (view failed.0) (view t) one (quiet_read (view failed.0) (view t) _ failed.2.calls failed.2.keeps one.honest)
    ]

    put_new_quiet : (t : S) (fs : List (ℕ × Slot V)) (k : ℕ) (v : V) (left : Option V) (r : Result Bool (CacheError ℕ MetadataError)) → InsertsNew (table_steps view bits bytes is_modified cleared IsFit) eqb size may_flush k v s es r t fs left → Quiet s t
    put_new_quiet t fs k v left (Ok true) h = room_quiet t h.0.0 h.0.1
    put_new_quiet t fs k v left (Ok false) h = no_room_quiet t fs (Ok false) h.0
    put_new_quiet t fs k v left (Err Memory) h = room_quiet t fs h.0
    put_new_quiet t fs k v left (Err InUse) h = no_room_quiet t fs (Err InUse) h.0
    put_new_quiet t fs k v left (Err (Backend x)) h = no_room_quiet t fs (Err (Backend x)) h.0
    put_new_quiet t fs k v left (Err (StillInUse keys)) h = absurd h

    -- a load
    pub get_quiet : (t : S) (fs : List (ℕ × Slot V)) (k : ℕ) (r : Result Bool (CacheError ℕ MetadataError))
        → (IsSome (lookup (eqb k) es) → (r ≡ Ok true) × (fs ≡ promoted (eqb k) es) × (t ≡ s))
        → (IsNone (lookup (eqb k) es) → GetsNew (table_steps view bits bytes is_modified cleared IsFit) eqb size may_flush k s es r t fs) → Quiet s t
    get_quiet t fs k r hit miss = elim (none_or_some (lookup (eqb k) es)) [
      | inl there ↦ still s t (hit there).2
      | inr missing ↦ new_quiet t fs k r (miss missing)
    ]

  -- what goes for a value under the key is unmodified: the one that is there, or the next one
  abbrev pub GoesClean : ℕ → List (ℕ × Slot V) → Type 0
  GoesClean k es = IfSome (lookup (eqb k) es) (λ d. is_modified d.value ≡ false) × (IsNone (lookup (eqb k) es) → NextIsClean is_modified es)

  module _ (size : ℕ) (may_flush : Bool) (s : S) (es : List (ℕ × Slot V)) where
    -- what is put in the place of another one
    replace_quiet : (t : S) (fs : List (ℕ × Slot V)) (k : ℕ) (e : ℕ × Slot V) (others : List (ℕ × Slot V)) (v : V) (left : Option V) (r : Result Bool (CacheError ℕ MetadataError))
        → (may_flush ≡ true → is_modified e.1.value ≡ false) → Replaces (table_steps view bits bytes is_modified cleared IsFit) k e others v may_flush s es r t fs left → Quiet s t
    replace_quiet t fs k e others v left (Ok true) clean h honest = quiet_call (view s) (view t) answer_done h.1.1.calls (h.1.1.skips (clean h.0)) honest
    replace_quiet t fs k e others v left (Ok false) clean h honest = still s t h.1 honest
    replace_quiet t fs k e others v left (Err (Backend x)) clean h honest = not_both (is_modified e.1.value) h.1.modified (clean h.0)
    replace_quiet t fs k e others v left (Err InUse) clean h honest = absurd h
    replace_quiet t fs k e others v left (Err (StillInUse keys)) clean h honest = absurd h
    replace_quiet t fs k e others v left (Err Memory) clean h honest = absurd h

    -- what is put in
    pub put_quiet : (t : S) (fs : List (ℕ × Slot V)) (k : ℕ) (v : V) (value left : Option V) (is : value ≡ Some v) (r : Result Bool (CacheError ℕ MetadataError)) → (may_flush ≡ true → GoesClean k es)
        → IfSome (lookup_entry (eqb k) es) (λ e. IfSome value (λ v. Replaces (table_steps view bits bytes is_modified cleared IsFit) k e (remove_entry (eqb k) es) v may_flush s es r t fs left))
        → (IsNone (lookup (eqb k) es) → IfSome value (λ v. InsertsNew (table_steps view bits bytes is_modified cleared IsFit) eqb size may_flush k v s es r t fs left)) → Quiet s t
    put_quiet t fs k v value left is r eviction there missing =
        found_or_not (lookup_entry (eqb k) es)
        (λ none.
        let gone : IsNone (lookup (eqb k) es) = rw (lookup_none (eqb k) es none) refl in
        put_new_quiet size may_flush s es (λ may. (eviction may).1 gone) t fs k v left r (rw is at (missing gone)))
        (λ e some. replace_quiet t fs k e (remove_entry (eqb k) es) v left r
        (λ may. subst (λ (o : Option (Slot V)). IfSome o (λ d. is_modified d.value ≡ false)) (lookup-from_entry (eqb k) es ∙ ap (option_map (λ (x : ℕ × Slot V). x.1)) some) (eviction may).0)
        (rw is at (rw some at there)))

  -- ---- a call that isn't done found the cache full
  module _ (size : ℕ) (may_flush : Bool) (s t : S) (es fs : List (ℕ × Slot V)) (k : ℕ) (r : Result Bool (CacheError ℕ MetadataError)) (refused : r ≡ Ok false) where
    pub get_waits : (IsSome (lookup (eqb k) es) → (r ≡ Ok true) × (fs ≡ promoted (eqb k) es) × (t ≡ s))
        → (IsNone (lookup (eqb k) es) → GetsNew (table_steps view bits bytes is_modified cleared IsFit) eqb size may_flush k s es r t fs) → IsNone (lookup (eqb k) es) × (size ≤ length es)
    get_waits hit miss = elim (none_or_some (lookup (eqb k) es)) [
      | inl there ↦ absurd (let e = sym refused ∙ (hit there).0 in cc)
      | inr missing ↦ (missing, (rw refused at (miss missing)).0)
    ]

    pub put_waits : (v : V) (value left : Option V) → value ≡ Some v
        → (IsNone (lookup (eqb k) es) → IfSome value (λ v. InsertsNew (table_steps view bits bytes is_modified cleared IsFit) eqb size may_flush k v s es r t fs left)) → IsNone (lookup (eqb k) es) → size ≤ length es
    put_waits v value left is missing none = (rw refused at (rw is at (missing none))).0.0

-- ---- the caches

-- what is held isn't missing
pub new_data_not_missing : {V : Type 0} (o : Option (Slot V)) → IsSome (option_map (λ s. s.value) o) → IsNone o → ⊥
new_data_not_missing None there none = cc
new_data_not_missing (Some s) there none = cc

pub value_missing : {V : Type 0} (o : Option (Slot V)) → IsNone (option_map (λ s. s.value) o) → IsNone o
value_missing None none = refl
value_missing (Some s) none = cc

pub value_clean : {V : Type 0} (is_modified : V → Bool) (o : Option (Slot V)) → IfSome (option_map (λ s. s.value) o) (λ v. is_modified v ≡ false) → IfSome o (λ d. is_modified d.value ≡ false)
value_clean is_modified None clean = tt
value_clean is_modified (Some s) clean = clean

pub none_clean : {V : Type 0} (is_modified : V → Bool) (o : Option (Slot V)) → IsNone o → IfSome o (λ d. is_modified d.value ≡ false)
none_clean is_modified None none = tt
none_clean is_modified (Some s) none = cc

module _ {S : Type 0} (view : S → StorageView) (old new : ImageStorage S) (caches : MetadataCaches S) where
  abbrev seen : ImageStorage S → StorageView
  seen s = view (storage_of s)

  -- ---- a flush where no table is modified
  pub tables_quiet : (l2 : Cache (L2CacheBackend S) ℕ L2TableView) (answer : Result Unit₀ (CacheError ℕ MetadataError)) → Flushes (l2_steps seen caches.l2.backend.header.fields) old caches.l2.entries answer new l2.entries
      → AreClean (l2_tables caches) → WritesNothing view old new
  tables_quiet l2 answer flushes clean = flush_quiet seen caches.l2.backend.header.fields.cluster_bits (λ (t : L2TableView). t.bytes) (λ t. t.is_modified) cleared_l2 (IsTableOf caches.l2.backend.header.fields) old new caches.l2.entries l2.entries answer flushes clean

  pub blocks_quiet : (rb : Cache (RefBlockCacheBackend S) ℕ RefBlockView) (answer : Result Unit₀ (CacheError ℕ MetadataError)) → Flushes (rb_steps seen caches.rb.backend.header.fields) old caches.rb.entries answer new rb.entries
      → AreClean (refblocks caches) → WritesNothing view old new
  blocks_quiet rb answer flushes clean = flush_quiet seen caches.rb.backend.header.fields.cluster_bits (λ (b : RefBlockView). b.bytes) (λ b. b.is_modified) cleared_rb (IsBlockOf caches.rb.backend.header.fields) old new caches.rb.entries rb.entries answer flushes clean
