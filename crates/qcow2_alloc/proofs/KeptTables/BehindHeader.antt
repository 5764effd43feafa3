-- If no cached table lies in cluster 0, calls of the caches leave that cluster the same.
use Rattle.std.proofs.Common.{◌≡◌, ◌*◌, ◌<◌, ◌^◌, ◌∷◌, inl, inr, ℕ, Bool, true, false, cond, eqb, List, [], Option, Some, None, Result, Ok, Err, IsSome, refl, sym, ap, ◌∙◌, subst, arith, IfSome}
use Rattle.qcow2_alloc.proofs.Common.{IsNone, option_map, option_map_or, option_or, lookup, lookup_entry, remove_entry, set_value, nat_tests, promoted, StorageView, MetadataError, L2TableView, RefBlockView, Slot, CacheError, InUse, StillInUse, Memory, Backend, L2CacheBackend, RefBlockCacheBackend, MetadataCaches, ImageStorage, Cache, oldest_free, is_pinned, slot_of, set_at, with_entries, OthersStay, Unit₀, FlushesEntry, FlushesAll, Flushes, HasRoomForEntry, HasNoRoom, GetsNew, InsertsNew, Replaces, IsInHeaderCluster, BytesStay, KeepsHeaderCluster, LeaveHeaderCluster, CachesSpareHeader, KeepBehindHeader, storage_of, answer_done, answer_refused, table_steps, LoadsTable, FailsToLoad, FlushesTable, FailsToFlush, l2_steps, rb_steps, cleared_l2, cleared_rb, IsTableOf, IsBlockOf}
use Rattle.qcow2_alloc.specs.declared.cache.Direction.{Direction}
use Rattle.qcow2_alloc.proofs.HeaderClusters.{below_others, call_keeps, quiet_keeps, same_kept, above_kept, header_cluster_none, header_cluster_then}
use Rattle.qcow2_alloc.proofs.KeptTables.Fetching.{none_or_some}
use Rattle.qcow2_alloc.proofs.KeptTables.Inserting.{found_or_not, lookup_none}
use Rattle.qcow2_alloc.proofs.KeptTables.Off.{SomeOf}

above_zero : (k : ℕ) → eqb 0 k ≡ false → 0 < k
above_zero k other = grind (arith, nat_tests)

pub behind_zero : (k : ℕ) → 0 < k → eqb k 0 ≡ false
behind_zero k above = grind (arith, nat_tests)

from_zero : (k : ℕ) → 0 < k → eqb 0 k ≡ false
from_zero k above = grind (arith, nat_tests)

none_of_some : {A : Type 0} (x : A) {P : Type 0} → Some x ≡ None → P
none_of_some x bad = absurd cc

some_of_none : {A : Type 0} (x : A) {P : Type 0} → None ≡ Some x → P
some_of_none x bad = absurd cc

some_is : {A : Type 0} {a b : A} → Some a ≡ Some b → a ≡ b
some_is e = cc

-- ---- entries of which none is under key 0
module _ {V : Type 0} where
  -- neither the first one is, nor another
  none_first : (e : ℕ × Slot V) (es : List (ℕ × Slot V)) → lookup (eqb 0) (e ∷ es) ≡ None → (eqb 0 e.0 ≡ false) × (lookup (eqb 0) es ≡ None)
  none_first e es none = (elim (eqb 0 e.0) as (λ b. eqb 0 e.0 ≡ b → (eqb 0 e.0 ≡ false) × (lookup (eqb 0) es ≡ None)) [
    | true ↦ λ t. none_of_some e.1 (rw t at none)
    | false ↦ λ f. (f, rw f at none)
  ]) refl

  none_more : (k : ℕ) (s : Slot V) (es : List (ℕ × Slot V)) → eqb 0 k ≡ false → lookup (eqb 0) es ≡ None → lookup (eqb 0) ((k, s) ∷ es) ≡ None
  none_more k s es other none = rw other none

  -- nor is the one that goes next
  oldest_apart : (es : List (ℕ × Slot V)) (e : ℕ × Slot V) → oldest_free es ≡ Some e → lookup (eqb 0) es ≡ None → eqb 0 e.0 ≡ false
  oldest_apart [] e is none = some_of_none e is
  oldest_apart (x ∷ es) e is none =
      let rest = none_first x es none in
      (elim (oldest_free es) as (λ o. oldest_free es ≡ o → option_or o (cond (is_pinned x.1) None (Some x)) ≡ Some e → eqb 0 e.0 ≡ false) [
        | Some y ↦ λ found now. oldest_apart es e (found ∙ now) rest.1
        | None ↦ λ found now. last x e rest.0 (is_pinned x.1) now
      ]) refl is
    where
      last : (x e : ℕ × Slot V) → eqb 0 x.0 ≡ false → (b : Bool) → cond b None (Some x) ≡ Some e → eqb 0 e.0 ≡ false
      last x e other true now = some_of_none e now
      last x e other false now = subst (λ (y : ℕ × Slot V). eqb 0 y.0 ≡ false) (some_is now) other

  -- nor is one where an entry is taken out
  none_removed : (test : ℕ → Bool) (es : List (ℕ × Slot V)) → lookup (eqb 0) es ≡ None → lookup (eqb 0) (remove_entry test es) ≡ None
  none_removed test [] none = none
  none_removed test (e ∷ es) none =
      let rest = none_first e es none in
      elim (test e.0) as (λ b. lookup (eqb 0) (cond b es (e ∷ remove_entry test es)) ≡ None) [
        | true ↦ rest.1
        | false ↦ none_more e.0 e.1 (remove_entry test es) rest.0 (none_removed test es rest.1)
      ]

  -- or another value put
  none_set : (test : ℕ → Bool) (es : List (ℕ × Slot V)) (s : Slot V) → lookup (eqb 0) es ≡ None → lookup (eqb 0) (set_value test es s) ≡ None
  none_set test [] s none = none
  none_set test (e ∷ es) s none =
      let rest = none_first e es none in
      elim (test e.0) as (λ b. lookup (eqb 0) (cond b ((e.0, s) ∷ es) (e ∷ set_value test es s)) ≡ None) [
        | true ↦ none_more e.0 s es rest.0 rest.1
        | false ↦ none_more e.0 e.1 (set_value test es s) rest.0 (none_set test es s rest.1)
      ]

  -- nor is one among some of them
  none_left : (es fs : List (ℕ × Slot V)) → SomeOf es fs → lookup (eqb 0) es ≡ None → lookup (eqb 0) fs ≡ None
  none_left [] fs some none = ap (lookup (eqb 0)) some
  none_left (e ∷ es) fs some none =
      let rest = none_first e es none in
      elim some [
        | inl less ↦ none_left es fs less rest.1
        | inr more ↦ ap (lookup (eqb 0)) more.1 ∙ none_more e.0 e.1 more.0 rest.0 (none_left es more.0 more.2 rest.1)
      ]

  -- where the others stay, none comes
  none_stays : (k : ℕ) (es fs : List (ℕ × Slot V)) → 0 < k → OthersStay eqb k es fs → lookup (eqb 0) es ≡ None → lookup (eqb 0) fs ≡ None
  none_stays k es fs above stay none = (elim (lookup (eqb 0) fs) as (λ o. lookup (eqb 0) fs ≡ o → o ≡ None) [
    | None ↦ λ _. refl
    | Some s ↦ λ there. sym there ∙ stay 0 (behind_zero k above) (rw there refl) ∙ none
  ]) refl

  -- as values
  no_key : (o : Option (Slot V)) → option_map (λ s. s.value) o ≡ None → o ≡ None
  no_key None none = refl
  no_key (Some s) none = none_of_some s.value none

  no_value : (o : Option (Slot V)) → o ≡ None → option_map (λ s. s.value) o ≡ None
  no_value o none = ap (option_map (λ s. s.value)) none

-- ---- calls of a cache
module _ {S V : Type 0} (view : S → StorageView) (bits : ℕ) (bytes : V → List ℕ) (is_modified : V → Bool) (cleared : V → V) (IsFit : V → Type 0) where
  abbrev Keeps : S → S → Type 0
  Keeps s t = KeepsHeaderCluster bits (view s) (view t)

  still : (s t : S) → t ≡ s → Keeps s t
  still s t is = rw is (header_cluster_none bits (view s))

  flushed_keeps : (s t : S) (k : ℕ) (v w : V) → eqb 0 k ≡ false → FlushesTable view bits bytes is_modified cleared IsFit s k v w t → Keeps s t
  flushed_keeps s t k v w other h honest = (elim (is_modified v) as (λ m. is_modified v ≡ m → BytesStay (IsInHeaderCluster bits) (view s) (view t)) [
    | true ↦ λ m. call_keeps (IsInHeaderCluster bits) (view s) (view t) answer_done h.calls honest
        (above_kept (IsInHeaderCluster bits) (view s).contents (view t).contents (k * 2 ^ bits) (bytes v) (λ o in_first. below_others bits k o (above_zero k other) in_first) (inr ((h.writes m).written honest)))
    | false ↦ λ m. call_keeps (IsInHeaderCluster bits) (view s) (view t) answer_done h.calls honest (same_kept (IsInHeaderCluster bits) (view s).contents (view t).contents (h.skips m honest))
  ]) refl

  failed_keeps : (s t : S) (k : ℕ) (v : V) (e : MetadataError) → eqb 0 k ≡ false → FailsToFlush view bits bytes is_modified cleared IsFit s k v e t → Keeps s t
  failed_keeps s t k v e other h honest =
      call_keeps (IsInHeaderCluster bits) (view s) (view t) (answer_refused e) h.calls honest
      (above_kept (IsInHeaderCluster bits) (view s).contents (view t).contents (k * 2 ^ bits) (bytes v) (λ o in_first. below_others bits k o (above_zero k other) in_first)
      (elim (h.stopped honest) [ inl same ↦ inl same | inr done ↦ inr done.1 ]))

  loaded_keeps : (s t : S) (k : ℕ) (v : V) → LoadsTable view bits bytes is_modified cleared IsFit s k v t → Keeps s t
  loaded_keeps s t k v h honest = quiet_keeps (IsInHeaderCluster bits) (view s) (view t) answer_done h.calls h.keeps honest

  not_loaded_keeps : (s t : S) (k : ℕ) (e : MetadataError) → FailsToLoad view bits bytes is_modified cleared IsFit s k e t → Keeps s t
  not_loaded_keeps s t k e h honest = quiet_keeps (IsInHeaderCluster bits) (view s) (view t) (answer_refused e) h.calls h.keeps honest

  -- ---- a flush of all
  entry_keeps : (s t : S) (e : ℕ × Slot V) (x : Option MetadataError) (d : Slot V) → eqb 0 e.0 ≡ false → FlushesEntry (table_steps view bits bytes is_modified cleared IsFit) s e x t d → Keeps s t
  entry_keeps s t e None d other h = flushed_keeps s t e.0 e.1.value d.value other h.0
  entry_keeps s t e (Some x) d other h = failed_keeps s t e.0 e.1.value x other h.0

  all_keep : (s t : S) (es fs : List (ℕ × Slot V)) (x : Option MetadataError) → FlushesAll (table_steps view bits bytes is_modified cleared IsFit) s es x t fs → lookup (eqb 0) es ≡ None → Keeps s t × (lookup (eqb 0) fs ≡ None)
  all_keep s t [] fs x h none = (still s t h.1, ap (lookup (eqb 0)) h.2)
  all_keep s t (e ∷ es) fs x h none =
      let rest = none_first e es none in
      let then = all_keep h.1 t es h.4 h.3 h.6 rest.1 in (
        header_cluster_then bits (view s) (view h.1) (view t) (entry_keeps s h.1 e h.0 h.2 rest.0 h.5) then.0,
        ap (lookup (eqb 0)) h.8 ∙ none_more e.0 h.2 h.4 rest.0 then.1,
      )

  pub flush_spares : (s t : S) (es fs : List (ℕ × Slot V)) (r : Result Unit₀ (CacheError ℕ MetadataError)) → Flushes (table_steps view bits bytes is_modified cleared IsFit) s es r t fs → lookup (eqb 0) es ≡ None → Keeps s t × (lookup (eqb 0) fs ≡ None)
  flush_spares s t es fs (Ok u) h none = all_keep s t es fs None h none
  flush_spares s t es fs (Err (Backend x)) h none = all_keep s t es fs (Some x) h none
  flush_spares s t es fs (Err InUse) h none = absurd h
  flush_spares s t es fs (Err Memory) h none = absurd h
  flush_spares s t es fs (Err (StillInUse keys)) h none = absurd h

  -- ---- a load, or a value that is put in
  module _ (size : ℕ) (may_flush : Bool) (s : S) (es : List (ℕ × Slot V)) (none : lookup (eqb 0) es ≡ None) where
    room_keeps : (t : S) (fs : List (ℕ × Slot V)) → HasRoomForEntry (table_steps view bits bytes is_modified cleared IsFit) eqb size may_flush s es t fs → Keeps s t
    room_keeps t fs room = elim room [
      | inl there ↦ still s t there.1
      | inr evicts ↦ flushed_keeps s t evicts.entry.0 evicts.entry.1.value evicts.clean (oldest_apart es evicts.entry evicts.eviction none) evicts.flushed
    ]

    no_room_keeps : (t : S) (fs : List (ℕ × Slot V)) (r : Result Bool (CacheError ℕ MetadataError)) → HasNoRoom (table_steps view bits bytes is_modified cleared IsFit) eqb size may_flush s es r t fs → Keeps s t
    no_room_keeps t fs (Ok true) h = absurd h
    no_room_keeps t fs (Ok false) h = still s t h.2
    no_room_keeps t fs (Err InUse) h = still s t h.2
    no_room_keeps t fs (Err (StillInUse keys)) h = absurd h
    no_room_keeps t fs (Err Memory) h = absurd h
    no_room_keeps t fs (Err (Backend x)) h = failed_keeps s t h.entry.0 h.entry.1.value x (oldest_apart es h.entry h.eviction none) h.failed

    new_keeps : (t : S) (fs : List (ℕ × Slot V)) (k : ℕ) (r : Result Bool (CacheError ℕ MetadataError)) → GetsNew (table_steps view bits bytes is_modified cleared IsFit) eqb size may_flush k s es r t fs → Keeps s t
    new_keeps t fs k (Ok true) h = header_cluster_then bits (view s) (view h.0) (view t) (room_keeps h.0 h.1 h.3) (loaded_keeps h.0 t k h.2 h.4)
    new_keeps t fs k (Ok false) h = no_room_keeps t fs (Ok false) h
    new_keeps t fs k (Err InUse) h = no_room_keeps t fs (Err InUse) h
    new_keeps t fs k (Err (StillInUse keys)) h = absurd h
    new_keeps t fs k (Err Memory) h = header_cluster_then bits (view s) (view h.0) (view t) (room_keeps h.0 fs h.2) (loaded_keeps h.0 t k h.1 h.3)
    new_keeps t fs k (Err (Backend x)) h = elim h [
      | inl full ↦ no_room_keeps t fs (Err (Backend x)) full
      | inr failed ↦ header_cluster_then bits (view s) (view failed.0) (view t) (room_keeps failed.0 fs failed.1) (not_loaded_keeps failed.0 t k x failed.2)
    ]

    put_new_keeps : (t : S) (fs : List (ℕ × Slot V)) (k : ℕ) (v : V) (left : Option V) (r : Result Bool (CacheError ℕ MetadataError)) → InsertsNew (table_steps view bits bytes is_modified cleared IsFit) eqb size may_flush k v s es r t fs left → Keeps s t
    put_new_keeps t fs k v left (Ok true) h = room_keeps t h.0.0 h.0.1
    put_new_keeps t fs k v left (Ok false) h = no_room_keeps t fs (Ok false) h.0
    put_new_keeps t fs k v left (Err Memory) h = room_keeps t fs h.0
    put_new_keeps t fs k v left (Err InUse) h = no_room_keeps t fs (Err InUse) h.0
    put_new_keeps t fs k v left (Err (Backend x)) h = no_room_keeps t fs (Err (Backend x)) h.0
    put_new_keeps t fs k v left (Err (StillInUse keys)) h = absurd h

    replaced_keeps : (t : S) (fs : List (ℕ × Slot V)) (k : ℕ) (e : ℕ × Slot V) (others : List (ℕ × Slot V)) (v : V) (left : Option V) (r : Result Bool (CacheError ℕ MetadataError)) → 0 < k
        → Replaces (table_steps view bits bytes is_modified cleared IsFit) k e others v may_flush s es r t fs left → Keeps s t
    replaced_keeps t fs k e others v left (Ok true) above h = flushed_keeps s t k e.1.value h.1.0 (from_zero k above) h.1.1
    replaced_keeps t fs k e others v left (Ok false) above h = still s t h.1
    replaced_keeps t fs k e others v left (Err (Backend x)) above h = failed_keeps s t k e.1.value x (from_zero k above) h.1
    replaced_keeps t fs k e others v left (Err InUse) above h = absurd h
    replaced_keeps t fs k e others v left (Err (StillInUse keys)) above h = absurd h
    replaced_keeps t fs k e others v left (Err Memory) above h = absurd h

    pub get_spares : (t : S) (fs : List (ℕ × Slot V)) (k : ℕ) (r : Result Bool (CacheError ℕ MetadataError))
        → (IsSome (lookup (eqb k) es) → (r ≡ Ok true) × (fs ≡ promoted (eqb k) es) × (t ≡ s))
        → (IsNone (lookup (eqb k) es) → GetsNew (table_steps view bits bytes is_modified cleared IsFit) eqb size may_flush k s es r t fs) → Keeps s t
    get_spares t fs k r hit miss = elim (none_or_some (lookup (eqb k) es)) [
      | inl there ↦ still s t (hit there).2
      | inr missing ↦ new_keeps t fs k r (miss missing)
    ]

    pub put_spares : (t : S) (fs : List (ℕ × Slot V)) (k : ℕ) (v : V) (value left : Option V) (r : Result Bool (CacheError ℕ MetadataError)) → 0 < k → value ≡ Some v
        → IfSome (lookup_entry (eqb k) es) (λ e. IfSome value (λ v. Replaces (table_steps view bits bytes is_modified cleared IsFit) k e (remove_entry (eqb k) es) v may_flush s es r t fs left))
        → (IsNone (lookup (eqb k) es) → IfSome value (λ v. InsertsNew (table_steps view bits bytes is_modified cleared IsFit) eqb size may_flush k v s es r t fs left)) → Keeps s t
    put_spares t fs k v value left r above is there missing =
        found_or_not (lookup_entry (eqb k) es)
        (λ absent. put_new_keeps t fs k v left r (rw is at (missing (rw (lookup_none (eqb k) es absent) refl))))
        (λ e found. replaced_keeps t fs k e (remove_entry (eqb k) es) v left r above (rw is at (rw found at there)))

-- ---- the caches

set_case : {V : Type 0} (test : ℕ → Bool) (es : List (ℕ × Slot V)) (v : V) → lookup (eqb 0) es ≡ None → lookup (eqb 0) (set_at test es v) ≡ None
set_case test es v none = elim (lookup test es) as (λ o. lookup (eqb 0) (option_map_or (λ s. set_value test es (slot_of v s.pins)) o es) ≡ None) [
  | None ↦ none
  | Some s ↦ none_set test es (slot_of v s.pins) none
]

removed_case : (b : Bool) (key : ℕ) (es : List (ℕ × Slot RefBlockView)) → lookup (eqb 0) es ≡ None → lookup (eqb 0) (cond b (remove_entry (eqb key) es) es) ≡ None
removed_case true key es none = none_removed (eqb key) es none
removed_case false key es none = none

module _ {S : Type 0} where
  -- only the entries of the one cache differ, and none of them is under key 0
  with_tables : (caches : MetadataCaches S) (l2 : Cache (L2CacheBackend S) ℕ L2TableView) (bits : ℕ) → l2 ≡ with_entries caches.l2 l2.entries → lookup (eqb 0) l2.entries ≡ None → LeaveHeaderCluster bits caches → LeaveHeaderCluster bits (record caches { l2 = l2 })
  with_tables caches l2 bits others none are = record {
    l2_bits = ap (λ (x : Cache (L2CacheBackend S) ℕ L2TableView). x.backend.header.fields.cluster_bits) others ∙ are.l2_bits;
    rb_bits = are.rb_bits;
    tables = no_value (lookup (eqb 0) l2.entries) none;
    blocks = are.blocks;
  }

  with_blocks : (caches : MetadataCaches S) (rb : Cache (RefBlockCacheBackend S) ℕ RefBlockView) (bits : ℕ) → rb ≡ with_entries caches.rb rb.entries → lookup (eqb 0) rb.entries ≡ None → LeaveHeaderCluster bits caches → LeaveHeaderCluster bits (record caches { rb = rb })
  with_blocks caches rb bits others none are = record {
    l2_bits = are.l2_bits;
    rb_bits = ap (λ (x : Cache (RefBlockCacheBackend S) ℕ RefBlockView). x.backend.header.fields.cluster_bits) others ∙ are.rb_bits;
    tables = are.tables;
    blocks = no_value (lookup (eqb 0) rb.entries) none;
  }

  pub noted_behind : (a b : MetadataCaches S) (n : ℕ) → KeepBehindHeader a b → KeepBehindHeader a (record b { is_changed = true; changes = n })
  noted_behind a b n keeps bits are = let now = keeps bits are in record { l2_bits = now.l2_bits; rb_bits = now.rb_bits; tables = now.tables; blocks = now.blocks }

  -- empty caches
  pub empty_behind : (bits : ℕ) (caches : MetadataCaches S) → caches.l2.entries ≡ [] → caches.rb.entries ≡ [] → caches.l2.backend.header.fields.cluster_bits ≡ bits → caches.rb.backend.header.fields.cluster_bits ≡ bits → LeaveHeaderCluster bits caches
  empty_behind bits caches no_tables no_blocks l2_bits rb_bits = record {
    l2_bits = l2_bits;
    rb_bits = rb_bits;
    tables = no_value (lookup (eqb 0) caches.l2.entries) (ap (lookup (eqb 0)) no_tables);
    blocks = no_value (lookup (eqb 0) caches.rb.entries) (ap (lookup (eqb 0)) no_blocks);
  }

  -- a value is changed in its place
  pub set_behind : (caches : MetadataCaches S) (key : ℕ) (b : RefBlockView) → KeepBehindHeader caches (record caches { rb = with_entries caches.rb (set_at (eqb key) caches.rb.entries b) })
  set_behind caches key b bits are = with_blocks caches (with_entries caches.rb (set_at (eqb key) caches.rb.entries b)) bits refl (set_case (eqb key) caches.rb.entries b (no_key (lookup (eqb 0) caches.rb.entries) are.blocks)) are

  pub set_table_behind : (caches : MetadataCaches S) (key : ℕ) (t : L2TableView) → KeepBehindHeader caches (record caches { l2 = with_entries caches.l2 (set_at (eqb key) caches.l2.entries t) })
  set_table_behind caches key t bits are = with_tables caches (with_entries caches.l2 (set_at (eqb key) caches.l2.entries t)) bits refl (set_case (eqb key) caches.l2.entries t (no_key (lookup (eqb 0) caches.l2.entries) are.tables)) are

  -- some entries are left
  pub tables_left_behind : (caches : MetadataCaches S) (l2 : Cache (L2CacheBackend S) ℕ L2TableView) → l2 ≡ with_entries caches.l2 l2.entries → SomeOf caches.l2.entries l2.entries → KeepBehindHeader caches (record caches { l2 = l2 })
  tables_left_behind caches l2 others some bits are = with_tables caches l2 bits others (none_left caches.l2.entries l2.entries some (no_key (lookup (eqb 0) caches.l2.entries) are.tables)) are

  pub blocks_left_behind : (caches : MetadataCaches S) (rb : Cache (RefBlockCacheBackend S) ℕ RefBlockView) → rb ≡ with_entries caches.rb rb.entries → SomeOf caches.rb.entries rb.entries → KeepBehindHeader caches (record caches { rb = rb })
  blocks_left_behind caches rb others some bits are = with_blocks caches rb bits others (none_left caches.rb.entries rb.entries some (no_key (lookup (eqb 0) caches.rb.entries) are.blocks)) are

  -- a refblock is taken out
  pub removed_behind : (caches : MetadataCaches S) (key : ℕ) (b : Bool) (rb : Cache (RefBlockCacheBackend S) ℕ RefBlockView) → rb ≡ with_entries caches.rb (cond b (remove_entry (eqb key) caches.rb.entries) caches.rb.entries) → KeepBehindHeader caches (record caches { rb = rb })
  removed_behind caches key b rb is bits are =
      subst (λ (x : Cache (RefBlockCacheBackend S) ℕ RefBlockView). LeaveHeaderCluster bits (record caches { rb = x })) (sym is)
      (with_blocks caches (with_entries caches.rb (cond b (remove_entry (eqb key) caches.rb.entries) caches.rb.entries)) bits refl (removed_case b key caches.rb.entries (no_key (lookup (eqb 0) caches.rb.entries) are.blocks)) are)

module _ {S : Type 0} {view : S → StorageView} where
  pub caches_none : {s : ImageStorage S} {c : MetadataCaches S} → CachesSpareHeader view s c s c
  caches_none {s} = record { bytes = λ bits are. header_cluster_none bits (view (storage_of s)); behind = λ bits are. are }

  pub caches_then : {r s t : ImageStorage S} {a b c : MetadataCaches S} → CachesSpareHeader view r a s b → CachesSpareHeader view s b t c → CachesSpareHeader view r a t c
  caches_then {r} {s} {t} first then = record {
    bytes = λ bits are. header_cluster_then bits (view (storage_of r)) (view (storage_of s)) (view (storage_of t)) (first.bytes bits are) (then.bytes bits (first.behind bits are));
    behind = λ bits are. then.behind bits (first.behind bits are);
  }

  -- the order of writes is turned round
  pub turned_behind : {s t : ImageStorage S} {a b : MetadataCaches S} (d : Direction) → CachesSpareHeader view s a t b → CachesSpareHeader view s a t (record b { direction = d })
  turned_behind d spare = record {
    bytes = spare.bytes;
    behind = λ bits are. let now = spare.behind bits are in record { l2_bits = now.l2_bits; rb_bits = now.rb_bits; tables = now.tables; blocks = now.blocks };
  }

module _ {S : Type 0} (view : S → StorageView) (old new : ImageStorage S) (caches : MetadataCaches S) where
  abbrev seen : ImageStorage S → StorageView
  seen s = view (storage_of s)

  -- ---- a flush
  pub tables_flushed_behind : (l2 : Cache (L2CacheBackend S) ℕ L2TableView) (answer : Result Unit₀ (CacheError ℕ MetadataError)) → l2 ≡ with_entries caches.l2 l2.entries
      → Flushes (l2_steps seen caches.l2.backend.header.fields) old caches.l2.entries answer new l2.entries → CachesSpareHeader view old caches new (record caches { l2 = l2 })
  tables_flushed_behind l2 answer others flushes =
      let flushed = λ (none : lookup (eqb 0) caches.l2.entries ≡ None). flush_spares seen caches.l2.backend.header.fields.cluster_bits (λ (t : L2TableView). t.bytes) (λ t. t.is_modified) cleared_l2 (IsTableOf caches.l2.backend.header.fields) old new caches.l2.entries l2.entries answer flushes none in
      record {
        bytes = λ bits are. subst (λ n. KeepsHeaderCluster n (seen old) (seen new)) are.l2_bits (flushed (no_key (lookup (eqb 0) caches.l2.entries) are.tables)).0;
        behind = λ bits are. with_tables caches l2 bits others (flushed (no_key (lookup (eqb 0) caches.l2.entries) are.tables)).1 are;
      }

  pub blocks_flushed_behind : (rb : Cache (RefBlockCacheBackend S) ℕ RefBlockView) (answer : Result Unit₀ (CacheError ℕ MetadataError)) → rb ≡ with_entries caches.rb rb.entries
      → Flushes (rb_steps seen caches.rb.backend.header.fields) old caches.rb.entries answer new rb.entries → CachesSpareHeader view old caches new (record caches { rb = rb })
  blocks_flushed_behind rb answer others flushes =
      let flushed = λ (none : lookup (eqb 0) caches.rb.entries ≡ None). flush_spares seen caches.rb.backend.header.fields.cluster_bits (λ (b : RefBlockView). b.bytes) (λ b. b.is_modified) cleared_rb (IsBlockOf caches.rb.backend.header.fields) old new caches.rb.entries rb.entries answer flushes none in
      record {
        bytes = λ bits are. subst (λ n. KeepsHeaderCluster n (seen old) (seen new)) are.rb_bits (flushed (no_key (lookup (eqb 0) caches.rb.entries) are.blocks)).0;
        behind = λ bits are. with_blocks caches rb bits others (flushed (no_key (lookup (eqb 0) caches.rb.entries) are.blocks)).1 are;
      }

  module _ (may_flush : Bool) (key : ℕ) (above : 0 < key) where
    -- ---- a load
    pub table_got_behind : (l2 : Cache (L2CacheBackend S) ℕ L2TableView) (answer : Result Bool (CacheError ℕ MetadataError)) → l2 ≡ with_entries caches.l2 l2.entries → OthersStay eqb key caches.l2.entries l2.entries
        → (IsSome (lookup (eqb key) caches.l2.entries) → (answer ≡ Ok true) × (l2.entries ≡ promoted (eqb key) caches.l2.entries) × (new ≡ old))
        → (IsNone (lookup (eqb key) caches.l2.entries) → GetsNew (l2_steps seen caches.l2.backend.header.fields) eqb caches.l2.size may_flush key old caches.l2.entries answer new l2.entries)
        → CachesSpareHeader view old caches new (record caches { l2 = l2 })
    table_got_behind l2 answer others stays hit miss = record {
      bytes = λ bits are. subst (λ n. KeepsHeaderCluster n (seen old) (seen new)) are.l2_bits
          (get_spares seen caches.l2.backend.header.fields.cluster_bits (λ (t : L2TableView). t.bytes) (λ t. t.is_modified) cleared_l2 (IsTableOf caches.l2.backend.header.fields) caches.l2.size may_flush old caches.l2.entries
          (no_key (lookup (eqb 0) caches.l2.entries) are.tables) new l2.entries key answer hit miss);
      behind = λ bits are. with_tables caches l2 bits others (none_stays key caches.l2.entries l2.entries above stays (no_key (lookup (eqb 0) caches.l2.entries) are.tables)) are;
    }

    pub block_got_behind : (rb : Cache (RefBlockCacheBackend S) ℕ RefBlockView) (answer : Result Bool (CacheError ℕ MetadataError)) → rb ≡ with_entries caches.rb rb.entries → OthersStay eqb key caches.rb.entries rb.entries
        → (IsSome (lookup (eqb key) caches.rb.entries) → (answer ≡ Ok true) × (rb.entries ≡ promoted (eqb key) caches.rb.entries) × (new ≡ old))
        → (IsNone (lookup (eqb key) caches.rb.entries) → GetsNew (rb_steps seen caches.rb.backend.header.fields) eqb caches.rb.size may_flush key old caches.rb.entries answer new rb.entries)
        → CachesSpareHeader view old caches new (record caches { rb = rb })
    block_got_behind rb answer others stays hit miss = record {
      bytes = λ bits are. subst (λ n. KeepsHeaderCluster n (seen old) (seen new)) are.rb_bits
          (get_spares seen caches.rb.backend.header.fields.cluster_bits (λ (b : RefBlockView). b.bytes) (λ b. b.is_modified) cleared_rb (IsBlockOf caches.rb.backend.header.fields) caches.rb.size may_flush old caches.rb.entries
          (no_key (lookup (eqb 0) caches.rb.entries) are.blocks) new rb.entries key answer hit miss);
      behind = λ bits are. with_blocks caches rb bits others (none_stays key caches.rb.entries rb.entries above stays (no_key (lookup (eqb 0) caches.rb.entries) are.blocks)) are;
    }

    -- ---- a table that is put in
    pub table_put_behind : (l2 : Cache (L2CacheBackend S) ℕ L2TableView) (v : L2TableView) (value left : Option L2TableView) (answer : Result Bool (CacheError ℕ MetadataError)) → value ≡ Some v → l2 ≡ with_entries caches.l2 l2.entries → OthersStay eqb key caches.l2.entries l2.entries
        → IfSome (lookup_entry (eqb key) caches.l2.entries) (λ e. IfSome value (λ v. Replaces (l2_steps seen caches.l2.backend.header.fields) key e (remove_entry (eqb key) caches.l2.entries) v may_flush old caches.l2.entries answer new l2.entries left))
        → (IsNone (lookup (eqb key) caches.l2.entries) → IfSome value (λ v. InsertsNew (l2_steps seen caches.l2.backend.header.fields) eqb caches.l2.size may_flush key v old caches.l2.entries answer new l2.entries left))
        → CachesSpareHeader view old caches new (record caches { l2 = l2 })
    table_put_behind l2 v value left answer is others stays there missing = record {
      bytes = λ bits are. subst (λ n. KeepsHeaderCluster n (seen old) (seen new)) are.l2_bits
          (put_spares seen caches.l2.backend.header.fields.cluster_bits (λ (t : L2TableView). t.bytes) (λ t. t.is_modified) cleared_l2 (IsTableOf caches.l2.backend.header.fields) caches.l2.size may_flush old caches.l2.entries
          (no_key (lookup (eqb 0) caches.l2.entries) are.tables) new l2.entries key v value left answer above is there missing);
      behind = λ bits are. with_tables caches l2 bits others (none_stays key caches.l2.entries l2.entries above stays (no_key (lookup (eqb 0) caches.l2.entries) are.tables)) are;
    }

    pub block_put_behind : (rb : Cache (RefBlockCacheBackend S) ℕ RefBlockView) (v : RefBlockView) (value left : Option RefBlockView) (answer : Result Bool (CacheError ℕ MetadataError)) → value ≡ Some v → rb ≡ with_entries caches.rb rb.entries → OthersStay eqb key caches.rb.entries rb.entries
        → IfSome (lookup_entry (eqb key) caches.rb.entries) (λ e. IfSome value (λ v. Replaces (rb_steps seen caches.rb.backend.header.fields) key e (remove_entry (eqb key) caches.rb.entries) v may_flush old caches.rb.entries answer new rb.entries left))
        → (IsNone (lookup (eqb key) caches.rb.entries) → IfSome value (λ v. InsertsNew (rb_steps seen caches.rb.backend.header.fields) eqb caches.rb.size may_flush key v old caches.rb.entries answer new rb.entries left))
        → CachesSpareHeader view old caches new (record caches { rb = rb })
    block_put_behind rb v value left answer is others stays there missing = record {
      bytes = λ bits are. subst (λ n. KeepsHeaderCluster n (seen old) (seen new)) are.rb_bits
          (put_spares seen caches.rb.backend.header.fields.cluster_bits (λ (b : RefBlockView). b.bytes) (λ b. b.is_modified) cleared_rb (IsBlockOf caches.rb.backend.header.fields) caches.rb.size may_flush old caches.rb.entries
          (no_key (lookup (eqb 0) caches.rb.entries) are.blocks) new rb.entries key v value left answer above is there missing);
      behind = λ bits are. with_blocks caches rb bits others (none_stays key caches.rb.entries rb.entries above stays (no_key (lookup (eqb 0) caches.rb.entries) are.blocks)) are;
    }
