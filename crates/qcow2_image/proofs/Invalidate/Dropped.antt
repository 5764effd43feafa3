-- Tables of an image at rest are dropped, which guests don't see.
use Rattle.std.proofs.Common.{◌≡◌, ◌<◌, ◌/◌, ◌==◌, ◌∷◌, ℕ, Bool, inl, inr, List, [], length, map, Option, Some, None, Result, Ok, Err, refl, sym, ap, ◌∙◌, subst, arith, IfErr}
use Rattle.qcow2_image.proofs.Common.{cases_Bool, IfSome, OnOk, fun_ext, BackingView, StorageView, Bytes, byte_at, EntryTableView, entry_count, cluster_size, L2TableView, HeaderFields, AreClean, Direction, Pending, CrashInvariant, is_pinned, pinned, value_at, IsOfPrepared, IsStillInUse, l2_pins, CachesHaveRoom, LeavesPinned, KeepBehindHeader, contents_in, view_in, known_of, l2_tables, order_of, refblocks, AreAllWritten, CacheInvariant, Evict, EvictsTable, InternalCacheStep, Slot, ClustersToFreeEntry, ImageError, IsAllocatorOf, SearchesAnew, Allocator, MetadataCaches, safe_none, pinned_gone, pinned_kept, bytes_stay, IsBesideNumbers, KeepsTablesBehind, leaked_by, leaked_in, HoldsNoTable, IsAtRest, IsReasonAgainstReading, HasPinnedTable, HasL1Table, ImageInvariant, InternalStep, Qcow2, Prepared, anew_kept, Mappings}
use Rattle.qcow2_alloc.specs.KeptTables.{cached_tables}
use Rattle.qcow2_alloc.proofs.CachedEntries.Pins.{pinned_twice}
use Rattle.qcow2_image.proofs.Lemmas.{keeps_then, caches_moved}
use Rattle.qcow2_image.proofs.Invalidate.Pinned.{held_pinned, some_pinned}
use Rattle.qcow2_alloc.proofs.KeptTables.Clean.{clean_as}

module _ {S : Type 0} (h : HeaderFields) (p : Pending) (v : StorageView) (caches caches' : MetadataCaches S) (sound : CacheInvariant h p caches (byte_at v.contents))
    (rest : known_of h caches (byte_at v.contents) ≡ byte_at v.contents) {U : Type 0} (off : Evict U h caches caches' (byte_at v.contents)) where
  -- the known bytes are still those on the storage
  pub rests_still : known_of h caches' (byte_at v.contents) ≡ byte_at v.contents
  rests_still = fun_ext (λ o. elim (off.known (o / cluster_size h)) [
    | inl stands ↦ stands o refl
    | inr same ↦ same o refl ∙ ap (λ (b : Bytes). b o) rest
  ])

  pub dropped_unseen : v.is_honest → order_of caches' ≡ order_of caches → InternalCacheStep h p v caches v caches'
  dropped_unseen honest order = record {
    honest = honest;
    sound = off.sound p (subst (λ (k : Bytes). CrashInvariant h (order_of caches') p (byte_at v.contents) k) (rest ∙ sym rests_still)
        (subst (λ (d : Direction). CrashInvariant h d p (byte_at v.contents) (known_of h caches (byte_at v.contents))) (sym order) sound.kept.kept.crash_invariant));
    known = rests_still ∙ sym rest;
    named_blocks = off.named_blocks;
    since = safe_none v (known_of h caches (byte_at v.contents));
  }

-- the tables in memory are replaced by others that are also those on the storage
module _ {S F : Type 0} (view : S → StorageView) (backing : F → BackingView) (p : Pending) (a b : Qcow2 S F) (out : Mappings) (step : InternalStep view backing p p a b out) where
  pub with_tables : (table : EntryTableView) (allocator : Option Allocator) → HasL1Table view backing b.file table → IfSome allocator (IsAllocatorOf view b.file) → leaked_by allocator ≡ leaked_in b
      → InternalStep view backing p p a (record b { l1_table = table; allocator = allocator }) out
  with_tables table allocator l1 reftable leaks = record {
    sound = record {
      works = step.sound.works;
      file = step.sound.file;
      l1_table = l1;
      reftable = reftable;
      stands = step.sound.stands;
      below = step.sound.below;
      ready = λ k q at. let r = step.sound.ready k q at in record { own = r.own; mapped = r.mapped };
      pinned = step.sound.pinned;
      once = step.sound.once;
    };
    safe_step = step.safe_step;
    since = step.since;
    unseen = step.unseen;
    copied = step.copied;
    below = step.below;
    list = record { more = step.list.more; is = step.list.is };
    leaks = leaks ∙ step.leaks;
  }

-- ---- an image at rest whose tables are dropped
module _ {S F : Type 0} (view : S → StorageView) (backing : F → BackingView) (image : Qcow2 S F) (caches' : MetadataCaches S) (list' : List ClustersToFreeEntry) (none : list' ≡ []) {U : Type 0} (taken : EvictsTable U image.file.caches caches')
    (order : order_of caches' ≡ order_of image.file.caches) (room : CachesHaveRoom image.file.caches → CachesHaveRoom caches') (pins : (table : ℕ) → l2_pins caches' table ≡ l2_pins image.file.caches table)
    (rest : IsAtRest view image) (p : Pending) (out : Mappings) (sound : ImageInvariant view backing p image out) where
  off : Evict U image.file.header.fields image.file.caches caches' (contents_in view image.file)
  off = taken image.file.header.fields p (contents_in view image.file) sound.file.caches

  abbrev pub dropped : Qcow2 S F
  dropped = record image { file = record image.file { caches = caches'; free_list = list' } }

  pub dropped_moved : InternalStep view backing p p image dropped out
  dropped_moved =
      let stay = dropped_unseen image.file.header.fields p (view_in view image.file) image.file.caches caches' sound.file.caches rest.written off sound.file.honest order in
      subst (λ (l : List ClustersToFreeEntry). InternalStep view backing p p image (record image { file = record image.file { caches = caches'; free_list = l } }) out) (rest.freed ∙ sym none)
      (caches_moved view backing image out p sound image.file.storage caches' stay room pins)

  pub rests_there : IsAtRest view dropped
  rests_there = record { freed = none; written = rests_still image.file.header.fields p (view_in view image.file) image.file.caches caches' sound.file.caches rest.written off }

-- ---- what dropping the tables of a cache answers
module _ {V : Type 0} where
  pub left_prepared : (es fs : List (ℕ × Slot V)) (r : Result (Unit {0}) ImageError) → LeavesPinned es r fs → IfErr r IsOfPrepared
  left_prepared es fs (Ok _) left = tt
  left_prepared es fs (Err e) left = elim left.1 [
    | inl memory ↦ inr memory.0
    | inr used ↦ inl (subst IsStillInUse (sym used.1) tt)
  ]

  pub left_none : (es fs : List (ℕ × Slot V)) (r : Result (Unit {0}) ImageError) → LeavesPinned es r fs → OnOk r (fs ≡ [])
  left_none es fs (Ok x) left = left.1
  left_none es fs (Err e) left = tt

  -- those that stay are as little modified as all were
  clean_pinned : (bits bits' : ℕ) (bytes : V → List ℕ) (is_modified : V → Bool) (es : List (ℕ × Slot V)) → AreClean (cached_tables bits bytes is_modified es) → AreClean (cached_tables bits' bytes is_modified (pinned es))
  clean_pinned bits bits' bytes is_modified [] clean = tt
  clean_pinned bits bits' bytes is_modified (e ∷ es) clean = elim (cases_Bool (is_pinned e.1)) [
    | inl some ↦ subst (λ l. AreClean (cached_tables bits' bytes is_modified l)) (sym (pinned_kept e es some)) (clean.0, clean_pinned bits bits' bytes is_modified es clean.1)
    | inr none ↦ subst (λ l. AreClean (cached_tables bits' bytes is_modified l)) (sym (pinned_gone e es none)) (clean_pinned bits bits' bytes is_modified es clean.1)
  ]

  pub clean_left : (bits bits' : ℕ) (bytes : V → List ℕ) (is_modified : V → Bool) (es fs : List (ℕ × Slot V)) (r : Result (Unit {0}) ImageError) → LeavesPinned es r fs → AreClean (cached_tables bits bytes is_modified es) → AreClean (cached_tables bits' bytes is_modified fs)
  clean_left bits bits' bytes is_modified es fs (Ok x) left clean = subst (λ l. AreClean (cached_tables bits' bytes is_modified l)) (sym left.1) tt
  clean_left bits bits' bytes is_modified es fs (Err e) left clean = elim left.1 [
    | inl memory ↦ subst (λ l. AreClean (cached_tables bits' bytes is_modified l)) (sym memory.1) (clean_as bits bits' bytes is_modified es clean)
    | inr used ↦ subst (λ l. AreClean (cached_tables bits' bytes is_modified l)) (sym used.3) (clean_pinned bits bits' bytes is_modified es clean)
  ]

  pub none_held : (es : List (ℕ × Slot V)) → es ≡ [] → (c : ℕ) → value_at (λ k. c == k) es ≡ None
  none_held es is c = ap (λ (l : List (ℕ × Slot V)). value_at (λ k. c == k) l) is

  -- where entries were in use some have a pin
  pub lacks_room : (es fs : List (ℕ × Slot V)) (e : ImageError) → LeavesPinned es (Err e) fs → ¬ (pinned es ≡ [])
  lacks_room es fs e left none = let some = left.0 in let empty = ap length none in absurd (omega (arith, some, empty))

module _ {S F : Type 0} (view : S → StorageView) (backing : F → BackingView) (old new : Qcow2 S F) where
  pub why_left : (e : ImageError) → LeavesPinned old.file.caches.l2.entries (Err e) new.file.caches.l2.entries → ((c : ℕ) → l2_pins new.file.caches c ≡ l2_pins old.file.caches c) → IsReasonAgainstReading view old new e
  why_left e left pins = elim left.1 [
    | inl memory ↦ subst (IsReasonAgainstReading view old new) (sym memory.0) (inl tt)
    | inr used ↦
        let is = used.3 in
        let all : pinned new.file.caches.l2.entries ≡ new.file.caches.l2.entries = ap pinned is ∙ pinned_twice old.file.caches.l2.entries ∙ sym is in
        let long = ap length is in
        let many = left.0 in
        let some = some_pinned new.file.caches.l2.entries all (omega (arith, long, many)) in
        let has : HasPinnedTable old = record { cluster = some.0; pins = subst (λ n. 0 < n) (pins some.0) some.1 } in
        subst (IsReasonAgainstReading view old new) (sym used.1) (inl (has, λ c held. held_pinned (λ k. c == k) new.file.caches.l2.entries all held))
  ]

  -- a refblock had a pin
  pub why_blocks : {V : Type 0} (es fs : List (ℕ × Slot V)) (r : Result (Unit {0}) ImageError) → LeavesPinned es r fs → (CachesHaveRoom old.file.caches → pinned es ≡ []) → IfErr r (IsReasonAgainstReading view old new)
  why_blocks es fs (Ok x) left free = tt
  why_blocks es fs (Err e) left free = elim left.1 [
    | inl memory ↦ subst (IsReasonAgainstReading view old new) (sym memory.0) (inl tt)
    | inr used ↦ subst (IsReasonAgainstReading view old new) (sym used.1) (inr (λ room. lacks_room es fs e left (free room)))
  ]

-- both caches drop tables: of the L2 tables first, of the refblocks then
pub unmodified_l2 : {S : Type 0} (caches caches' : MetadataCaches S) (r : Result (Unit {0}) ImageError) → LeavesPinned caches.l2.entries r caches'.l2.entries → refblocks caches' ≡ refblocks caches → AreAllWritten caches → AreAllWritten caches'
unmodified_l2 caches caches' r left same all = (clean_left _ _ _ _ caches.l2.entries caches'.l2.entries r left all.0, subst AreClean (sym same) all.1)

pub unmodified_rb : {S : Type 0} (caches caches' : MetadataCaches S) (r : Result (Unit {0}) ImageError) → LeavesPinned caches.rb.entries r caches'.rb.entries → l2_tables caches' ≡ l2_tables caches → AreAllWritten caches → AreAllWritten caches'
unmodified_rb caches caches' r left same all = (subst AreClean (sym same) all.0, clean_left _ _ _ _ caches.rb.entries caches'.rb.entries r left all.1)

-- without an L2 table there is no entry for one
no_entry : {A B : Type 0} (f : A → B) (es : List A) → map f es ≡ [] → es ≡ []
no_entry f [] is = refl
no_entry f (e ∷ es) is = absurd (cc)

pub no_entries : {S : Type 0} (caches caches' : MetadataCaches S) → caches.l2.entries ≡ [] → l2_tables caches' ≡ l2_tables caches → caches'.l2.entries ≡ []
no_entries caches caches' none same = no_entry _ caches'.l2.entries (same ∙ ap (λ es. cached_tables caches.l2.backend.header.fields.cluster_bits (λ (t : L2TableView). t.bytes) (λ t. t.is_modified) es) none)

pub holds_none : {S F : Type 0} (new : Qcow2 S F) → new.file.caches.l2.entries ≡ [] → (r : Result (Unit {0}) ImageError) → OnOk r (new.file.caches.rb.entries ≡ []) → OnOk r (HoldsNoTable new)
holds_none new tables (Ok x) blocks = record { tables = none_held new.file.caches.l2.entries tables; blocks = none_held new.file.caches.rb.entries blocks }
holds_none new tables (Err e) blocks = tt

-- an allocator that looks for free clusters from the first one on, and keeps its reftable
pub behind_dropped : {S : Type 0} {own : ℕ} {l1 : EntryTableView} {v : StorageView} {caches caches' : MetadataCaches S} {o : Option Allocator} {a a' : Allocator} → o ≡ Some a → a'.reftable ≡ a.reftable → KeepBehindHeader caches caches'
    → KeepsTablesBehind own l1 v caches o own l1 v caches' (Some a')
behind_dropped {v = v} is same keeps = record {
  kept = λ bits lies. record {
    header = lies.header;
    l1 = lies.l1;
    caches = keeps bits lies.caches;
    reftable = subst (λ (t : EntryTableView). (t.cluster_bits ≡ bits) × (0 < entry_count t → ¬ (t.cluster ≡ Some 0))) (sym same)
        (subst (λ (x : Option Allocator). IfSome x (λ r. (r.reftable.cluster_bits ≡ bits) × (0 < entry_count r.reftable → ¬ (r.reftable.cluster ≡ Some 0)))) is lies.reftable);
  };
  bytes = λ bits lies honest. bytes_stay (IsBesideNumbers bits) v;
}

-- both kinds of tables are dropped, and the allocator begins anew
pub anew_moved : {S F : Type 0} (view : S → StorageView) (backing : F → BackingView) (p : Pending) (old mid : Qcow2 S F) (caches' : MetadataCaches S) (a a' : Allocator) (out : Mappings) → InternalStep view backing p p old mid out
    → InternalStep view backing p p mid (record mid { file = record mid.file { caches = caches' } }) out → mid.allocator ≡ Some a → SearchesAnew a a'
    → InternalStep view backing p p old (record mid { file = record mid.file { caches = caches' }; allocator = Some a' }) out
anew_moved view backing p old mid caches' a a' out first second is anew =
    let last : Qcow2 _ _ = record mid { file = record mid.file { caches = caches' } } in
    let own : IsAllocatorOf view last.file a = subst (λ (x : Option Allocator). IfSome x (IsAllocatorOf view last.file)) is second.sound.reftable in
    keeps_then view backing out old mid (record last { allocator = Some a' }) p p p (λ k h. h) first
    (with_tables view backing p mid last out second mid.l1_table (Some a') second.sound.l1_table (anew_kept view last.file a a' anew own)
    (anew.leaks ∙ sym (ap (λ (x : Option Allocator). leaked_by x) is)))
