-- A call on a cache of tables tries without a flush first. Where the cache is full, way is made for the table, and the call tries again.
use Rattle.std.proofs.Common.{◌≡◌, ◌≢◌, ◌⊎◌, ◌+◌, ◌*◌, ℕ, Bool, true, false, eqb, List, Option, Some, Result, Ok, Err, IsSome, OnOk, inl, inr, arith, refl, sym, ap, ◌∙◌, subst, IfSome}
use Rattle.qcow2_alloc.proofs.Common.{IsNone, lookup, lookup_entry, remove_entry, promoted, StorageView, Bytes, byte_at, cluster_size, L2TableView, RefBlockView, HeaderFields, MetadataError, Pending, Direction, Slot, CacheError, L2CacheBackend, RefBlockCacheBackend, MetadataCaches, ImageError, ImageStorage, Cache, value_at, OthersStay, KeepsOthers, OnlyOldestGoes, GetsNew, InsertsNew, Replaces, KeepsNotes, TablesGo, BlocksGo, LoadStep, PutStep, KeepsSoundly, PutsSoundly, of_cache, storage_of, faults_of, order_of, CacheInvariant, InternalCacheStep, HoldsKnown, WritesInOrder, NextIsClean, WritesNothing, with_entries, table_steps, l2_steps, rb_steps, cleared_l2, cleared_rb, IsTableOf, IsBlockOf}
use Rattle.qcow2_alloc.specs.ApartCaches.{OverlaysTableApart, OverlaysBlockApart}
use Rattle.qcow2_alloc.specs.CachePins.{SameChanges}
use Rattle.qcow2_alloc.specs.CacheSteps.{MakesWay, GetsTable, PutsTable}
use Rattle.qcow2_alloc.specs.KeptEntries.{KeepsCached, OnlyPromotes}
use Rattle.qcow2_alloc.specs.MetadataCaches.{OverlaysTable, OverlaysBlock}
use Rattle.qcow2_alloc.specs.Quiet.{HasSpace}
use Rattle.qcow2_alloc.proofs.CachePins.{marks_tables, marks_blocks}
use Rattle.qcow2_alloc.proofs.CachedEntries.Hits.{got_there}
use Rattle.qcow2_alloc.proofs.CachedEntries.Keeping.{keeps_none, keeps_from, load_keeps}
use Rattle.qcow2_alloc.proofs.CachedEntries.Staying.{stays_same, stays_then, values_stay}
use Rattle.qcow2_alloc.proofs.Faults.{CacheReports, get_tells, put_tells}
use Rattle.qcow2_alloc.proofs.KeptMarks.{marks_of_both}
use Rattle.qcow2_alloc.proofs.KeptTables.AllWritten.{table_got_written, block_got_written}
use Rattle.qcow2_alloc.proofs.KeptTables.ApartCalls.{table_got_apart, block_got_apart, table_kept_apart, block_kept_apart, table_put_apart, block_put_apart}
use Rattle.qcow2_alloc.proofs.KeptTables.BehindHeader.{table_got_behind, block_got_behind, table_put_behind, block_put_behind}
use Rattle.qcow2_alloc.proofs.KeptTables.Causes.{TableLoads, BlockLoads, TablePuts, BlockPuts, not_fetched, not_put, table_load_refused, block_load_refused, table_put_refused, block_put_refused}
use Rattle.qcow2_alloc.proofs.KeptTables.Fetching.{table_got, block_got}
use Rattle.qcow2_alloc.proofs.KeptTables.InOrder.{order_then, table_got_in_order, block_got_in_order, table_put_in_order, block_put_in_order}
use Rattle.qcow2_alloc.proofs.KeptTables.Inserting.{IsTakenOrKept, if_some, l2_taken, rb_taken}
use Rattle.qcow2_alloc.proofs.KeptTables.Promoting.{table_promotes, block_promotes}
use Rattle.qcow2_alloc.proofs.KeptTables.Putting.{table_kept, table_put, table_laid}
use Rattle.qcow2_alloc.proofs.KeptTables.PuttingBlocks.{block_kept, block_put, block_laid}
use Rattle.qcow2_alloc.proofs.KeptTables.Quiet.{quiet_then, get_quiet, put_quiet, get_waits, put_waits, new_data_not_missing, value_missing, value_clean, none_clean}
use Rattle.qcow2_alloc.proofs.KeptTables.Switching.{stay_then}
use Rattle.qcow2_alloc.proofs.Outcomes.{never}

module _ {S A V : Type 0} (own : MetadataCaches S → Cache A ℕ V) where
  -- The table that a cache has for a cluster.
  abbrev cached_at : MetadataCaches S → ℕ → Option V
  cached_at caches c = value_at (eqb c) (own caches).entries

  module _ (is_modified : V → Bool) (MayGo : MetadataCaches S → Type 0) (caches : MetadataCaches S) (key : ℕ) where
    -- The table of a cluster can be loaded without a write.
    abbrev LoadsQuietly : Type 0
    LoadsQuietly = IsSome (cached_at caches key) ⊎ (HasSpace (own caches) ⊎ (MayGo caches × NextIsClean is_modified (own caches).entries))

    -- A table of this kind can be put in for a cluster without a write.
    abbrev PutsQuietly : Type 0
    PutsQuietly =
        (IsNone (cached_at caches key) × (HasSpace (own caches) ⊎ (MayGo caches × NextIsClean is_modified (own caches).entries)))
        ⊎ (MayGo caches × IfSome (cached_at caches key) (λ v. is_modified v ≡ false) × IsSome (cached_at caches key))

-- What is dropped for a value under the key is unmodified.
abbrev GoesClean : {V : Type 0} → (V → Bool) → ℕ → List (ℕ × Slot V) → Type 0
GoesClean is_modified key es = IfSome (lookup (eqb key) es) (λ d. is_modified d.value ≡ false) × (IsNone (lookup (eqb key) es) → NextIsClean is_modified es)

module _ {S A B V : Type 0} (view : S → StorageView) (own : MetadataCaches S → Cache A ℕ V) (others : MetadataCaches S → B) (MayGo : MetadataCaches S → Type 0) (Goes : List (ℕ × Slot V) → Type 0) (Quietly : MetadataCaches S → ℕ → Type 0) (Refuses : MetadataCaches S → MetadataCaches S → ImageError → Type 0) (key : ℕ) where
  -- What one try does, whatever it is for. `Goes` says that what it drops is unmodified.
  pub record Tries (may_flush : Bool) (old : ImageStorage S) (caches : MetadataCaches S) (answer : Result Bool (CacheError ℕ MetadataError)) (new : ImageStorage S) (caches' : MetadataCaches S) : Type 0 where
    pub told : CacheReports (faults_of view old) (faults_of view new) answer
    pub refused : (e : CacheError ℕ MetadataError) → answer ≡ Err e → Refuses caches caches' (of_cache e)
    pub stay : OthersStay eqb key (own caches).entries (own caches').entries
    pub same : answer ≡ Ok false → own caches' ≡ own caches
    pub waits : answer ≡ Ok false → Quietly caches key → MayGo caches × Goes (own caches).entries
    pub quiet : (may_flush ≡ true → Goes (own caches).entries) → WritesNothing view old new
    pub order : order_of caches' ≡ order_of caches
    pub rest : others caches' ≡ others caches
    pub may_go : MayGo caches → MayGo caches'

-- ---- way is made for a table after the first try
module _ {S A B V : Type 0} {view : S → StorageView} {own : MetadataCaches S → Cache A ℕ V} {others : MetadataCaches S → B} {MayGo : MetadataCaches S → Type 0} {Goes : List (ℕ × Slot V) → Type 0} {Quietly : MetadataCaches S → ℕ → Type 0} {Refuses : MetadataCaches S → MetadataCaches S → ImageError → Type 0} {key : ℕ} {asks : Direction} {r s t : ImageStorage S} {a b c : MetadataCaches S} {answer : Result Bool (CacheError ℕ MetadataError)} {made : Result (Unit {0}) ImageError}
    (first : Tries view own others MayGo Goes Quietly Refuses key false r a answer s b) (full : answer ≡ Ok false) (way : MakesWay view own others asks MayGo s b t c made) where
  -- The cache of the table is as it was.
  pub held : own c ≡ own a
  held = way.stays ∙ first.same full

  -- The other kind is as it was, unless it was to be written first.
  pub others_held : order_of a ≢ asks → others c ≡ others a
  others_held other = way.others_stay (λ is. other (sym first.order ∙ is)) ∙ first.rest

  -- The tables of other clusters are as they were.
  pub stay_held : OthersStay eqb key (own a).entries (own c).entries
  stay_held = stays_same eqb key (own a).entries (own c).entries (ap (λ x. x.entries) held)

  -- Nothing is written if nothing has to be.
  pub quiet_way : Quietly a key → WritesNothing view r t
  quiet_way may honest =
      let one = first.quiet (λ flush. never flush) honest in
      quiet_then (view (storage_of r)) (view (storage_of s)) (view (storage_of t)) one (way.quiet (first.may_go (first.waits full may).0) one.honest)

  -- Nor is anything written by a second try.
  pub quiet_again : {u : ImageStorage S} {d : MetadataCaches S} {again : Result Bool (CacheError ℕ MetadataError)} → Tries view own others MayGo Goes Quietly Refuses key true t c again u d → Quietly a key → WritesNothing view r u
  quiet_again {u} second may honest =
      let before = quiet_way may honest in
      let goes = subst (λ (x : Cache A ℕ V). Goes x.entries) (sym held) (first.waits full may).1 in
      quiet_then (view (storage_of r)) (view (storage_of t)) (view (storage_of u)) before (second.quiet (λ _. goes) before.honest)

-- ---- a table is loaded
module _ {S A B V : Type 0} (view : S → StorageView) (is_modified : V → Bool) (own : MetadataCaches S → Cache A ℕ V) (with_own : MetadataCaches S → Cache A ℕ V → MetadataCaches S) (others : MetadataCaches S → B) (MayGo : MetadataCaches S → Type 0) (Refuses : MetadataCaches S → MetadataCaches S → ImageError → Type 0) (key : ℕ) where
  -- What one try to load the table of a cluster does.
  pub record Loads (may_flush : Bool) (old : ImageStorage S) (caches : MetadataCaches S) (answer : Result Bool (CacheError ℕ MetadataError)) (new : ImageStorage S) (caches' : MetadataCaches S) : Type 0 where
    pub tries : Tries view own others MayGo (NextIsClean is_modified) (LoadsQuietly own is_modified MayGo) Refuses key may_flush old caches answer new caches'
    pub step : LoadStep view old caches new caches' key
    pub sound : KeepsSoundly view old caches new caches'
    pub kept : KeepsCached is_modified key (own caches) (own caches')
    pub changes : SameChanges caches caches'
    pub hit : IsSome (cached_at own caches key) → (answer ≡ Ok true) × OnlyPromotes own with_own key old caches new caches' (Ok tt)

module _ {S A B V : Type 0} {view : S → StorageView} {is_modified : V → Bool} {own : MetadataCaches S → Cache A ℕ V} {with_own : MetadataCaches S → Cache A ℕ V → MetadataCaches S} {others : MetadataCaches S → B} {MayGo : MetadataCaches S → Type 0} {Refuses : MetadataCaches S → MetadataCaches S → ImageError → Type 0} {key : ℕ} (asks : Direction) {r s : ImageStorage S} {a b : MetadataCaches S} {answer : Result Bool (CacheError ℕ MetadataError)}
    (first : Loads view is_modified own with_own others MayGo Refuses key false r a answer s b) where
  -- The first try loads the table, or is refused.
  pub gets_at_once : (result : Result (Unit {0}) ImageError) → (answer ≡ Ok true → result ≡ Ok tt) → OnOk result (IsSome (cached_at own b key)) → GetsTable view (cached_at own) is_modified own with_own others asks (LoadsQuietly own is_modified MayGo) key r a s b result
  gets_at_once result done cached = record {
    cached = cached;
    stay = values_stay key (own a).entries (own b).entries first.tries.stay;
    kept = first.kept;
    changes = first.changes;
    hit = λ there. let found = first.hit there in subst (OnlyPromotes own with_own key r a s b) (sym (done found.0)) found.1;
    others_stay = λ _. first.tries.rest;
    quiet = λ _. first.tries.quiet (λ flush. never flush);
  }

  module _ {t : ImageStorage S} {c : MetadataCaches S} {made : Result (Unit {0}) ImageError} (full : answer ≡ Ok false) (way : MakesWay view own others asks MayGo s b t c made) where
    -- It was not cached.
    missed : IsSome (cached_at own a key) → ⊥
    missed there = let bad = sym full ∙ (first.hit there).0 in cc

    -- Nothing follows.
    pub gets_none : (result : Result (Unit {0}) ImageError) → OnOk result (IsSome (cached_at own c key)) → GetsTable view (cached_at own) is_modified own with_own others asks (LoadsQuietly own is_modified MayGo) key r a t c result
    gets_none result cached = record {
      cached = cached;
      stay = values_stay key (own a).entries (own c).entries (stay_held first.tries full way);
      kept = keeps_none is_modified key (own a) (own c) (held first.tries full way);
      changes = (way.changes.0 ∙ first.changes.0, way.changes.1 ∙ first.changes.1);
      hit = λ there. absurd (missed there);
      others_stay = others_held first.tries full way;
      quiet = quiet_way first.tries full way;
    }

    -- A second try follows.
    pub gets_again : {u : ImageStorage S} {d : MetadataCaches S} {again : Result Bool (CacheError ℕ MetadataError)} → Loads view is_modified own with_own others MayGo Refuses key true t c again u d
        → (result : Result (Unit {0}) ImageError) → OnOk result (IsSome (cached_at own d key)) → GetsTable view (cached_at own) is_modified own with_own others asks (LoadsQuietly own is_modified MayGo) key r a u d result
    gets_again {u} {d} second result cached = record {
      cached = cached;
      stay = values_stay key (own a).entries (own d).entries (stays_then eqb key (own a).entries (own c).entries (own d).entries (stay_held first.tries full way) second.tries.stay);
      kept = keeps_from is_modified key (own a) (own c) (own d) (held first.tries full way) second.kept;
      changes = (second.changes.0 ∙ way.changes.0 ∙ first.changes.0, second.changes.1 ∙ way.changes.1 ∙ first.changes.1);
      hit = λ there. absurd (missed there);
      others_stay = λ other. second.tries.rest ∙ others_held first.tries full way other;
      quiet = quiet_again first.tries full way second.tries;
    }

-- ---- a table is put in
module _ {S A B V : Type 0} (view : S → StorageView) (is_modified : V → Bool) (own : MetadataCaches S → Cache A ℕ V) (others : MetadataCaches S → B) (MayGo : MetadataCaches S → Type 0) (Refuses : MetadataCaches S → MetadataCaches S → ImageError → Type 0) (IsFit : HeaderFields → Type 0) (bytes : List ℕ) (Lays LaysApart : ImageStorage S → MetadataCaches S → ImageStorage S → MetadataCaches S → Type 0) (key : ℕ) (v : V) where
  -- What one try to put a table in for a cluster does.
  pub record Puts (may_flush : Bool) (old : ImageStorage S) (caches : MetadataCaches S) (answer : Result Bool (CacheError ℕ MetadataError)) (left : Option V) (new : ImageStorage S) (caches' : MetadataCaches S) : Type 0 where
    pub tries : Tries view own others MayGo (GoesClean is_modified key) (PutsQuietly own is_modified MayGo) Refuses key may_flush old caches answer new caches'
    pub step : PutStep view old caches new caches' (Some key)
    pub taken : IsTakenOrKept key v may_flush (own caches').entries answer left
    pub sound : (answer ≡ Ok true → ⊥) → KeepsSoundly view old caches new caches'
    pub keeps : (h : HeaderFields) (p : Pending) → (view (storage_of old)).is_honest → CacheInvariant h p caches (byte_at (view (storage_of old)).contents) → IsFit h → is_modified v ≡ false → HoldsKnown h caches (byte_at (view (storage_of old)).contents) bytes key
        → InternalCacheStep h p (view (storage_of old)) caches (view (storage_of new)) caches'
    pub lays : answer ≡ Ok true → Lays old caches new caches'
    pub lays_apart : answer ≡ Ok true → LaysApart old caches new caches'
    pub ordered : WritesInOrder view old caches new

module _ {S A B V : Type 0} {view : S → StorageView} {is_modified : V → Bool} {own : MetadataCaches S → Cache A ℕ V} {others : MetadataCaches S → B} {MayGo : MetadataCaches S → Type 0} {Refuses : MetadataCaches S → MetadataCaches S → ImageError → Type 0} {IsFit : HeaderFields → Type 0} {bytes : List ℕ} {Lays LaysApart : ImageStorage S → MetadataCaches S → ImageStorage S → MetadataCaches S → Type 0} {key : ℕ} {v : V} {r s : ImageStorage S} {a b : MetadataCaches S} {answer : Result Bool (CacheError ℕ MetadataError)} {left : Option V}
    (first : Puts view is_modified own others MayGo Refuses IsFit bytes Lays LaysApart key v false r a answer left s b) (place : Option ℕ) (is : place ≡ Some key) where
  -- The first try puts it in, or is refused.
  pub puts_at_once : (asks : Direction) (result : Result (Unit {0}) ImageError) → OnOk result (IfSome place (λ k. cached_at own b k ≡ Some v)) → PutsTable view (cached_at own) others asks (PutsQuietly own is_modified MayGo) place v r a s b result
  puts_at_once asks result cached = record {
    cached = cached;
    stay = if_some _ place key is (values_stay key (own a).entries (own b).entries first.tries.stay);
    others_stay = λ _. first.tries.rest;
    quiet = if_some _ place key is (λ _. first.tries.quiet (λ flush. never flush));
  }

  -- Sound caches stay sound where the first try puts it in.
  pub soundly_at_once : answer ≡ Ok true → PutsSoundly view IsFit place bytes (is_modified v) (Lays r a s b) (LaysApart r a s b) r a s b (Ok tt)
  soundly_at_once went = record {
    keeps = λ h p honest sound fits clean holds. first.keeps h p honest sound fits clean (rw is at holds);
    laid = first.lays went;
    laid_apart = first.lays_apart went;
    refused = tt;
    apart = tt;
    ordered = first.ordered;
  }

  module _ {asks : Direction} {t : ImageStorage S} {c : MetadataCaches S} {made : Result (Unit {0}) ImageError} (full : answer ≡ Ok false) (way : MakesWay view own others asks MayGo s b t c made) where
    -- Nothing follows.
    pub puts_none : (result : Result (Unit {0}) ImageError) → OnOk result (IfSome place (λ k. cached_at own c k ≡ Some v)) → PutsTable view (cached_at own) others asks (PutsQuietly own is_modified MayGo) place v r a t c result
    puts_none result cached = record {
      cached = cached;
      stay = if_some _ place key is (values_stay key (own a).entries (own c).entries (stay_held first.tries full way));
      others_stay = others_held first.tries full way;
      quiet = if_some _ place key is (quiet_way first.tries full way);
    }

    module _ {u : ImageStorage S} {d : MetadataCaches S} {again : Result Bool (CacheError ℕ MetadataError)} {left' : Option V} (second : Puts view is_modified own others MayGo Refuses IsFit bytes Lays LaysApart key v true t c again left' u d) where
      -- A second try follows.
      pub puts_again : (result : Result (Unit {0}) ImageError) → OnOk result (IfSome place (λ k. cached_at own d k ≡ Some v)) → PutsTable view (cached_at own) others asks (PutsQuietly own is_modified MayGo) place v r a u d result
      puts_again result cached = record {
        cached = cached;
        stay = if_some _ place key is (values_stay key (own a).entries (own d).entries (stays_then eqb key (own a).entries (own c).entries (own d).entries (stay_held first.tries full way) second.tries.stay));
        others_stay = λ other. second.tries.rest ∙ others_held first.tries full way other;
        quiet = if_some _ place key is (quiet_again first.tries full way second.tries);
      }

      -- Sound caches stay sound where the second try puts it in.
      pub soundly_again : KeepsSoundly view r a t c → order_of c ≡ order_of a → Lays r a u d → LaysApart r a u d → PutsSoundly view IsFit place bytes (is_modified v) (Lays r a u d) (LaysApart r a u d) r a u d (Ok tt)
      soundly_again kept same lays lays_apart = record {
        keeps = λ h p honest sound fits clean holds.
            let before = kept.keeps h p honest sound in
            stay_then view h p r t u a c d before
            (second.keeps h p before.honest before.sound fits clean (λ i lt. (rw is at holds) i lt ∙ ap (λ (m : Bytes). m (key * cluster_size h + i)) (sym before.known)));
        laid = lays;
        laid_apart = lays_apart;
        refused = tt;
        apart = tt;
        ordered = order_then view r t u a c kept.keeps kept.ordered same second.ordered;
      }

-- ---- one try on a cache of tables
module _ {S A B V : Type 0} (view : S → StorageView) (own : MetadataCaches S → Cache A ℕ V) (others : MetadataCaches S → B) (MayGo : MetadataCaches S → Type 0) (Refuses : MetadataCaches S → MetadataCaches S → ImageError → Type 0) (bits : ℕ) (bytes : V → List ℕ) (is_modified : V → Bool) (cleared : V → V) (IsFit : V → Type 0) (may_flush : Bool) (key : ℕ) (old new : ImageStorage S) (caches caches' : MetadataCaches S) (answer : Result Bool (CacheError ℕ MetadataError))
    (kept : KeepsOthers eqb key (own caches) (own caches')) (refused : (e : CacheError ℕ MetadataError) → answer ≡ Err e → Refuses caches caches' (of_cache e)) (order : order_of caches' ≡ order_of caches) (rest : others caches' ≡ others caches) (may_go : MayGo caches → MayGo caches') where
  abbrev seen : ImageStorage S → StorageView
  seen s = view (storage_of s)

  abbrev es : List (ℕ × Slot V)
  es = (own caches).entries

  abbrev fs : List (ℕ × Slot V)
  fs = (own caches').entries

  -- What a cache answers to a load is such a try.
  tries_load : (IsSome (lookup (eqb key) es) → (answer ≡ Ok true) × (fs ≡ promoted (eqb key) es) × (new ≡ old)) → (IsNone (lookup (eqb key) es) → GetsNew (table_steps seen bits bytes is_modified cleared IsFit) eqb (own caches).size may_flush key old es answer new fs)
      → Tries view own others MayGo (NextIsClean is_modified) (LoadsQuietly own is_modified MayGo) Refuses key may_flush old caches answer new caches'
  tries_load hit miss = record {
    told = get_tells seen bits bytes is_modified cleared IsFit (own caches).size may_flush key old new es fs answer hit miss;
    refused = refused;
    stay = kept.stays;
    same = λ full. kept.others ∙ ap (with_entries (own caches)) (not_fetched (table_steps seen bits bytes is_modified cleared IsFit) (own caches).size may_flush key old new es fs answer full hit miss);
    waits = λ full may.
        let waits = get_waits seen bits bytes is_modified cleared IsFit (own caches).size may_flush old new es fs key answer full hit miss in
        elim may [
          | inl there ↦ absurd (new_data_not_missing (lookup (eqb key) es) there waits.0)
          | inr room ↦ elim room [ inl some ↦ absurd (let past = waits.1 in omega arith) | inr eviction ↦ eviction ]
        ];
    quiet = λ next. get_quiet seen bits bytes is_modified cleared IsFit (own caches).size may_flush old es next new fs key answer hit miss;
    order = order;
    rest = rest;
    may_go = may_go;
  }

  -- What a cache answers when a table is put in is such a try.
  tries_put : (v : V) (value left : Option V) → value ≡ Some v → IfSome (lookup_entry (eqb key) es) (λ e. IfSome value (λ v. Replaces (table_steps seen bits bytes is_modified cleared IsFit) key e (remove_entry (eqb key) es) v may_flush old es answer new fs left))
      → (IsNone (lookup (eqb key) es) → IfSome value (λ v. InsertsNew (table_steps seen bits bytes is_modified cleared IsFit) eqb (own caches).size may_flush key v old es answer new fs left))
      → Tries view own others MayGo (GoesClean is_modified key) (PutsQuietly own is_modified MayGo) Refuses key may_flush old caches answer new caches'
  tries_put v value left is there missing = record {
    told = put_tells seen bits bytes is_modified cleared IsFit (own caches).size may_flush key old new es fs answer value left ⊥ (λ none. absurd (let bad = rw is at none in cc)) there missing;
    refused = refused;
    stay = kept.stays;
    same = λ full. kept.others ∙ ap (with_entries (own caches)) (not_put (table_steps seen bits bytes is_modified cleared IsFit) (own caches).size may_flush key old new es fs answer full v value left is there missing);
    waits = λ full may. elim may [
      | inl gone ↦
          let none = value_missing (lookup (eqb key) es) gone.0 in
          elim gone.1 [
            | inl some ↦ absurd (let past = put_waits seen bits bytes is_modified cleared IsFit (own caches).size may_flush old new es fs key answer full v value left is missing none in omega arith)
            | inr eviction ↦ (eviction.0, (none_clean is_modified (lookup (eqb key) es) none, λ _. eviction.1))
          ]
      | inr held ↦ (held.0, (value_clean is_modified (lookup (eqb key) es) held.1, λ none. absurd (new_data_not_missing (lookup (eqb key) es) held.2 none)))
    ];
    quiet = λ goes. put_quiet seen bits bytes is_modified cleared IsFit (own caches).size may_flush old es new fs key v value left is answer goes there missing;
    order = order;
    rest = rest;
    may_go = may_go;
  }

-- ---- of L2 tables and of refblocks
module _ {S : Type 0} (view : S → StorageView) (key : ℕ) where
  -- A try to load an L2 table.
  abbrev pub LoadsTable : Bool → ImageStorage S → MetadataCaches S → Result Bool (CacheError ℕ MetadataError) → ImageStorage S → MetadataCaches S → Type 0
  LoadsTable = Loads view (λ (t : L2TableView). t.is_modified) (λ c. c.l2) (λ c l2. record c { l2 = l2 }) (λ c. c.rb) TablesGo (λ a b. TableLoads a b.l2 key) key

  -- A try to load a refblock.
  abbrev pub LoadsBlock : Bool → ImageStorage S → MetadataCaches S → Result Bool (CacheError ℕ MetadataError) → ImageStorage S → MetadataCaches S → Type 0
  LoadsBlock = Loads view (λ (b : RefBlockView). b.is_modified) (λ c. c.rb) (λ c rb. record c { rb = rb }) (λ c. c.l2) BlocksGo (λ a b. BlockLoads a key) key

  -- A try to put in an L2 table.
  abbrev pub PutsTableFor : L2TableView → Bool → ImageStorage S → MetadataCaches S → Result Bool (CacheError ℕ MetadataError) → Option L2TableView → ImageStorage S → MetadataCaches S → Type 0
  PutsTableFor v = Puts view (λ (t : L2TableView). t.is_modified) (λ c. c.l2) (λ c. c.rb) TablesGo (λ a b. TablePuts a) (λ h. IsTableOf h v) v.bytes (λ old a new b. OverlaysTable view old a new b v) (λ old a new b. OverlaysTableApart view old a new b v) key v

  -- A try to put in a refblock.
  abbrev pub PutsBlockFor : RefBlockView → Bool → ImageStorage S → MetadataCaches S → Result Bool (CacheError ℕ MetadataError) → Option RefBlockView → ImageStorage S → MetadataCaches S → Type 0
  PutsBlockFor v = Puts view (λ (b : RefBlockView). b.is_modified) (λ c. c.rb) (λ c. c.l2) BlocksGo (λ a b. BlockPuts a) (λ h. IsBlockOf h v) v.bytes (λ old a new b. OverlaysBlock view old a new b v) (λ old a new b. OverlaysBlockApart view old a new b v) key v

module _ {S : Type 0} (view : S → StorageView) (may_flush : Bool) (key : ℕ) (old new : ImageStorage S) (caches : MetadataCaches S) (answer : Result Bool (CacheError ℕ MetadataError)) (notes : KeepsNotes view old new) where
  module _ (l2 : Cache (L2CacheBackend S) ℕ L2TableView) (kept : KeepsOthers eqb key caches.l2 l2) (may : may_flush ≡ true → TablesGo caches) where
    -- An answer of the cache of L2 tables to a load is such a try.
    pub loads_table : (IsSome (lookup (eqb key) caches.l2.entries) → (answer ≡ Ok true) × (l2.entries ≡ promoted (eqb key) caches.l2.entries) × (new ≡ old))
        → (IsNone (lookup (eqb key) caches.l2.entries) → GetsNew (l2_steps (λ s. view (storage_of s)) caches.l2.backend.header.fields) eqb caches.l2.size may_flush key old caches.l2.entries answer new l2.entries)
        → OnlyOldestGoes eqb (λ e. (w : L2TableView) × (q : ImageStorage S) × (l2_steps (λ s. view (storage_of s)) caches.l2.backend.header.fields).flushed old e.0 e.1.value w q) caches.l2.entries l2.entries → LoadsTable view key may_flush old caches answer new (record caches { l2 = l2 })
    loads_table hit miss eviction = record {
      tries = tries_load view (λ c. c.l2) (λ c. c.rb) TablesGo (λ a b. TableLoads a b.l2 key) caches.l2.backend.header.fields.cluster_bits (λ (x : L2TableView). x.bytes) (λ x. x.is_modified) cleared_l2 (IsTableOf caches.l2.backend.header.fields) may_flush key old new caches (record caches { l2 = l2 }) answer kept (λ e is. table_load_refused view old new caches may_flush key answer e is l2 kept.others hit miss) refl refl (λ go. go) hit miss;
      step = record {
        marks = marks_of_both (marks_tables caches l2 kept.others kept.pins) refl notes;
        header_cluster = λ above. table_got_behind view old new caches may_flush key above l2 answer kept.others kept.stays hit miss;
        all_written = table_got_written view old new caches may_flush key l2 answer hit miss;
      };
      sound = record {
        keeps = table_got view old new caches may_flush key l2 kept.others answer hit miss may;
        apart = table_got_apart view old new caches l2 kept.others kept.distinct may_flush key answer may hit miss;
        ordered = table_got_in_order view old new caches may_flush key l2 answer hit miss may;
      };
      kept = load_keeps key caches.l2 l2 old new answer hit (l2_steps (λ s. view (storage_of s)) caches.l2.backend.header.fields) may_flush (λ (x : L2TableView). x.is_modified) (λ _ _ _ loaded. loaded.unmodified) miss kept.stays eviction;
      changes = (refl, refl);
      hit = λ there. ((got_there key caches.l2.entries l2.entries old new answer hit there).0, table_promotes old new caches key answer l2 kept.others hit there);
    }

    -- An answer of that cache is such a try when a table is put in.
    pub puts_table : (v : L2TableView) (value left : Option L2TableView) → value ≡ Some v → v.cluster ≡ Some key
        → IfSome (lookup_entry (eqb key) caches.l2.entries) (λ e. IfSome value (λ v. Replaces (l2_steps (λ s. view (storage_of s)) caches.l2.backend.header.fields) key e (remove_entry (eqb key) caches.l2.entries) v may_flush old caches.l2.entries answer new l2.entries left))
        → (IsNone (lookup (eqb key) caches.l2.entries) → IfSome value (λ v. InsertsNew (l2_steps (λ s. view (storage_of s)) caches.l2.backend.header.fields) eqb caches.l2.size may_flush key v old caches.l2.entries answer new l2.entries left))
        → PutsTableFor view key v may_flush old caches answer left new (record caches { l2 = l2 })
    puts_table v value left is place there missing = record {
      tries = tries_put view (λ c. c.l2) (λ c. c.rb) TablesGo (λ a b. TablePuts a) caches.l2.backend.header.fields.cluster_bits (λ (x : L2TableView). x.bytes) (λ x. x.is_modified) cleared_l2 (IsTableOf caches.l2.backend.header.fields) may_flush key old new caches (record caches { l2 = l2 }) answer kept (λ e fails. table_put_refused view old new caches may_flush key answer e fails l2 v value left is there missing) refl refl (λ go. go) v value left is there missing;
      step = record {
        marks = marks_of_both (marks_tables caches l2 kept.others kept.pins) refl notes;
        header_cluster = λ above. table_put_behind view old new caches may_flush key above l2 v value left answer is kept.others kept.stays there missing;
      };
      taken = l2_taken view old new caches may_flush key l2 kept.others v value left is answer there missing;
      sound = λ isnt. record {
        keeps = λ h p honest sound. table_kept view old new caches may_flush key l2 kept.others v value left is answer there missing may h p honest sound isnt;
        apart = table_kept_apart view old new caches l2 kept.others kept.distinct may_flush key answer may v value left is there missing isnt;
        ordered = table_put_in_order view old new caches may_flush key l2 v value left is answer there missing may;
      };
      keeps = table_put view old new caches may_flush key l2 kept.others v value left is answer there missing may;
      lays = λ went h p honest sound fits marked. if_some _ v.cluster key place (table_laid view old new caches may_flush key l2 kept.others v value left is answer there missing may h p honest sound went fits marked);
      lays_apart = λ went h honest are. if_some _ v.cluster key place (table_put_apart view old new caches l2 kept.others kept.distinct may_flush key answer may v value left is there missing went h honest are);
      ordered = table_put_in_order view old new caches may_flush key l2 v value left is answer there missing may;
    }

  module _ (rb : Cache (RefBlockCacheBackend S) ℕ RefBlockView) (kept : KeepsOthers eqb key caches.rb rb) (may : may_flush ≡ true → BlocksGo caches) where
    -- An answer of the cache of refblocks to a load is such a try.
    pub loads_block : (IsSome (lookup (eqb key) caches.rb.entries) → (answer ≡ Ok true) × (rb.entries ≡ promoted (eqb key) caches.rb.entries) × (new ≡ old))
        → (IsNone (lookup (eqb key) caches.rb.entries) → GetsNew (rb_steps (λ s. view (storage_of s)) caches.rb.backend.header.fields) eqb caches.rb.size may_flush key old caches.rb.entries answer new rb.entries)
        → OnlyOldestGoes eqb (λ e. (w : RefBlockView) × (q : ImageStorage S) × (rb_steps (λ s. view (storage_of s)) caches.rb.backend.header.fields).flushed old e.0 e.1.value w q) caches.rb.entries rb.entries → LoadsBlock view key may_flush old caches answer new (record caches { rb = rb })
    loads_block hit miss eviction = record {
      tries = tries_load view (λ c. c.rb) (λ c. c.l2) BlocksGo (λ a b. BlockLoads a key) caches.rb.backend.header.fields.cluster_bits (λ (x : RefBlockView). x.bytes) (λ x. x.is_modified) cleared_rb (IsBlockOf caches.rb.backend.header.fields) may_flush key old new caches (record caches { rb = rb }) answer kept (λ e is. block_load_refused view old new caches may_flush key answer e is rb hit miss) refl refl (λ go. go) hit miss;
      step = record {
        marks = marks_of_both (marks_blocks caches rb kept.others kept.pins) refl notes;
        header_cluster = λ above. block_got_behind view old new caches may_flush key above rb answer kept.others kept.stays hit miss;
        all_written = block_got_written view old new caches may_flush key rb answer hit miss;
      };
      sound = record {
        keeps = block_got view old new caches may_flush key rb kept.others answer hit miss may;
        apart = block_got_apart view old new caches rb kept.others kept.distinct may_flush key answer may hit miss;
        ordered = block_got_in_order view old new caches may_flush key rb answer hit miss may;
      };
      kept = load_keeps key caches.rb rb old new answer hit (rb_steps (λ s. view (storage_of s)) caches.rb.backend.header.fields) may_flush (λ (x : RefBlockView). x.is_modified) (λ _ _ _ loaded. loaded.unmodified) miss kept.stays eviction;
      changes = (refl, refl);
      hit = λ there. ((got_there key caches.rb.entries rb.entries old new answer hit there).0, block_promotes old new caches key answer rb kept.others hit there);
    }

    -- An answer of that cache is such a try when a refblock is put in.
    pub puts_block : (v : RefBlockView) (value left : Option RefBlockView) → value ≡ Some v → v.cluster ≡ Some key
        → IfSome (lookup_entry (eqb key) caches.rb.entries) (λ e. IfSome value (λ v. Replaces (rb_steps (λ s. view (storage_of s)) caches.rb.backend.header.fields) key e (remove_entry (eqb key) caches.rb.entries) v may_flush old caches.rb.entries answer new rb.entries left))
        → (IsNone (lookup (eqb key) caches.rb.entries) → IfSome value (λ v. InsertsNew (rb_steps (λ s. view (storage_of s)) caches.rb.backend.header.fields) eqb caches.rb.size may_flush key v old caches.rb.entries answer new rb.entries left))
        → PutsBlockFor view key v may_flush old caches answer left new (record caches { rb = rb })
    puts_block v value left is place there missing = record {
      tries = tries_put view (λ c. c.rb) (λ c. c.l2) BlocksGo (λ a b. BlockPuts a) caches.rb.backend.header.fields.cluster_bits (λ (x : RefBlockView). x.bytes) (λ x. x.is_modified) cleared_rb (IsBlockOf caches.rb.backend.header.fields) may_flush key old new caches (record caches { rb = rb }) answer kept (λ e fails. block_put_refused view old new caches may_flush key answer e fails rb v value left is there missing) refl refl (λ go. go) v value left is there missing;
      step = record {
        marks = marks_of_both (marks_blocks caches rb kept.others kept.pins) refl notes;
        header_cluster = λ above. block_put_behind view old new caches may_flush key above rb v value left answer is kept.others kept.stays there missing;
      };
      taken = rb_taken view old new caches may_flush key rb kept.others v value left is answer there missing;
      sound = λ isnt. record {
        keeps = λ h p honest sound. block_kept view old new caches may_flush key rb kept.others v value left is answer there missing may h p honest sound isnt;
        apart = block_kept_apart view old new caches rb kept.others kept.distinct may_flush key answer may v value left is there missing isnt;
        ordered = block_put_in_order view old new caches may_flush key rb v value left is answer there missing may;
      };
      keeps = block_put view old new caches may_flush key rb kept.others v value left is answer there missing may;
      lays = λ went h p honest sound fits marked. if_some _ v.cluster key place (block_laid view old new caches may_flush key rb kept.others v value left is answer there missing may h p honest sound went fits marked);
      lays_apart = λ went h honest are. if_some _ v.cluster key place (block_put_apart view old new caches rb kept.others kept.distinct may_flush key answer may v value left is there missing went h honest are);
      ordered = block_put_in_order view old new caches may_flush key rb v value left is answer there missing may;
    }
