-- Steps of an image's file, one after another: calls of its caches, and refcounts that change. The moments on the way are built here, and from the definitions of `qcow2_laws`.
use Rattle.std.proofs.Common.{◌≡◌, ◌+◌, ◌/◌, ◌<◌, ◌≤◌, ◌==◌, inl, inr, ℕ, Bool, true, false, cond, [], IsTrue, refl, sym, ap, ◌∙◌, subst, arith}
use Rattle.qcow2_alloc.proofs.Common.{or_right, cases_eq, eq-eqb, ne_eqb, cond-true, cond-false, fun_ext, StorageView, passes_on, Bytes, EntryTableView, cluster_size, l1_entry, count, named_for_tables, Checkpoint, StopOkEverywhere, SafeThroughout, LeavesKept, Direction, Pending, one_at, with_new_data, with_new_tables, without_old_tables, without_old_data, new_data_to_old_tables, new_tables_to_old_tables, DriverState, SafeStep, CountRises, CountFalls, IsInternal, unnamed_free_l2, unnamed_free_rb, known_is_on_storage, safe_throughout_none, raise_safe_throughout, fall_safe_throughout, count_is_changed, pending_is_changed, unseen_none, unseen_then, unseen_known, unseen_count, l1_same_none, l1_same_then, l1_same_storage, l1_same_known, Allocator, MetadataCaches, ImageError, ImageFile, ImageStorage, taken_as, listed_as, Owed, Taken, Listed, owed_as, MayAllocate, MayDecrement, Data, Metadata, KeepsPinsAndNotes, nothing_given, pending_at, view_in, contents_in, known_in, state_in, FileInvariant, HasReftable, InternalFileStep, InternalFileGrowth, InterruptedFileStep, RefusedFileStep, storage_of, is_changed_of, IsSafeSince, order_of, l2_tables, refblocks, known_of, InternalCacheStep, Made}
use Rattle.qcow2_alloc.specs.ImageFile.{IsFault}
use Rattle.qcow2_alloc.proofs.CountsStay.{counts_follow}
use Rattle.qcow2_alloc.proofs.KeptTables.BlocksNamed.{top_still}
use Rattle.qcow2_alloc.proofs.FileInvariants.{file_invariant_of}

-- ---- what is pending

pub one_here : (c : ℕ) → one_at c c ≡ 1
one_here c = cond-true {A = ℕ} (c == c) 1 0 (eq-eqb c c refl)

one_alone : (c k : ℕ) → 0 < one_at c k → k ≡ c
one_alone c k some = elim (cases_eq k c) [
  | inl same ↦ same
  | inr other ↦ absurd (let none : one_at c k ≡ 0 = cond-false {A = ℕ} (k == c) 1 0 (ne_eqb k c other) in omega arith)
]

-- the same numbers
pub pending_same : (p q : Pending) → ((k : ℕ) → p.new_data k ≡ q.new_data k) → ((k : ℕ) → p.new_tables k ≡ q.new_tables k) → ((k : ℕ) → p.old_tables k ≡ q.old_tables k) → ((k : ℕ) → p.old_data k ≡ q.old_data k) → ((k : ℕ) → p.surplus k ≡ q.surplus k) → p ≡ q
pending_same p q new_data new_tables old_tables old_data surplus =
    ap (λ (f : ℕ → ℕ). record p { new_data = f }) (fun_ext new_data)
    ∙ ap (λ (f : ℕ → ℕ). record p { new_data = q.new_data; new_tables = f }) (fun_ext new_tables)
    ∙ ap (λ (f : ℕ → ℕ). record p { new_data = q.new_data; new_tables = q.new_tables; old_tables = f }) (fun_ext old_tables)
    ∙ ap (λ (f : ℕ → ℕ). record p { new_data = q.new_data; new_tables = q.new_tables; old_tables = q.old_tables; old_data = f }) (fun_ext old_data)
    ∙ ap (λ (f : ℕ → ℕ). record p { new_data = q.new_data; new_tables = q.new_tables; old_tables = q.old_tables; old_data = q.old_data; surplus = f }) (fun_ext surplus)

pub one_few : (c k : ℕ) → one_at c k ≤ 1
one_few c k = elim (k == c) as (λ (b : Bool). cond b 1 0 ≤ 1) [ true ↦ omega arith | false ↦ omega arith ]

-- a call of the caches
pub cached_safe_throughout : (old new : StorageView) (known : Bytes) → IsSafeSince old new known → SafeThroughout old new known nothing_given []
cached_safe_throughout old new known since = record { moments = since.moments; contents = since.contents }

module _ {S : Type 0} (view : S → StorageView) where
  abbrev Moved : Pending → Pending → ImageFile S → ImageFile S → Type 0
  Moved = InternalFileStep view

  -- ---- one step after another

  pub file_step_none : (p : Pending) (file : ImageFile S) → FileInvariant view p file → Moved p p file file
  file_step_none p file sound = record {
    sound = sound;
    safe_step = record { sound = sound.caches.kept.kept.crash_invariant; on_storage = λ backing m ok known_ok. ok; known = λ backing m ok known_ok. known_ok };
    since = safe_throughout_none (view_in view file) (known_in view file);
    unseen = unseen_none (state_in view file p);
    l1_table = l1_same_none (state_in view file p);
    counts = λ k. omega arith;
  }

  pub safe_throughout_then : (a b c : ImageFile S) → SafeThroughout (view_in view a) (view_in view b) (known_in view a) nothing_given []
      → ((backing : Bytes) (m : Checkpoint) → LeavesKept backing m (view_in view a) → StopOkEverywhere backing m (known_in view a) → StopOkEverywhere backing m (known_in view b))
      → SafeThroughout (view_in view b) (view_in view c) (known_in view b) nothing_given [] → SafeThroughout (view_in view a) (view_in view c) (known_in view a) nothing_given []
  safe_throughout_then a b c first known second = record {
    moments = passes_on _ first.moments second.moments (λ l q backing m ok known_ok. q backing m (first.contents backing m ok known_ok) (known backing m ok known_ok));
    contents = λ backing m ok known_ok. second.contents backing m (first.contents backing m ok known_ok) (known backing m ok known_ok);
  }

  pub file_step_then : (p q r : Pending) (a b c : ImageFile S) → ((k : ℕ) → 0 < p.new_data k → 0 < q.new_data k) → Moved p q a b → Moved q r b c → Moved p r a c
  file_step_then p q r a b c new_data first second = record {
    sound = second.sound;
    safe_step = record {
      sound = second.safe_step.sound;
      on_storage = λ backing m ok known_ok. second.safe_step.on_storage backing m (first.safe_step.on_storage backing m ok known_ok) (first.safe_step.known backing m ok known_ok);
      known = λ backing m ok known_ok. second.safe_step.known backing m (first.safe_step.on_storage backing m ok known_ok) (first.safe_step.known backing m ok known_ok);
    };
    since = safe_throughout_then a b c first.since first.safe_step.known second.since;
    unseen = unseen_then (state_in view a p) (state_in view b q) (state_in view c r) first.unseen second.unseen new_data;
    l1_table = l1_same_then (state_in view a p) (state_in view b q) (state_in view c r) first.unseen.header first.l1_table second.l1_table;
    counts = λ k. let one = first.counts k in let two = second.counts k in omega arith;
  }

  -- the same where the reftable may move
  pub file_step_on : (p q : Pending) (a b : ImageFile S) → Moved p q a b → InternalFileGrowth view p q a b
  file_step_on p q a b file_step = record { sound = file_step.sound; safe_step = file_step.safe_step; since = file_step.since; unseen = file_step.unseen; l1_table = file_step.l1_table }

  pub on_then : (p q r : Pending) (a b c : ImageFile S) → ((k : ℕ) → 0 < p.new_data k → 0 < q.new_data k) → InternalFileGrowth view p q a b → InternalFileGrowth view q r b c → InternalFileGrowth view p r a c
  on_then p q r a b c new_data first second = record {
    sound = second.sound;
    safe_step = record {
      sound = second.safe_step.sound;
      on_storage = λ backing m ok known_ok. second.safe_step.on_storage backing m (first.safe_step.on_storage backing m ok known_ok) (first.safe_step.known backing m ok known_ok);
      known = λ backing m ok known_ok. second.safe_step.known backing m (first.safe_step.on_storage backing m ok known_ok) (first.safe_step.known backing m ok known_ok);
    };
    since = safe_throughout_then a b c first.since first.safe_step.known second.since;
    unseen = unseen_then (state_in view a p) (state_in view b q) (state_in view c r) first.unseen second.unseen new_data;
    l1_table = l1_same_then (state_in view a p) (state_in view b q) (state_in view c r) first.unseen.header first.l1_table second.l1_table;
  }

  pub on_interrupted : (p q : Pending) (a b c : ImageFile S) (e : ImageError) → InternalFileGrowth view p q a b → InterruptedFileStep view b c e → InterruptedFileStep view a c e
  on_interrupted p q a b c e first second = record { fault = second.fault; recorded = second.recorded; since = safe_throughout_then a b c first.since first.safe_step.known second.since }

  pub interrupted_then : (p q : Pending) (a b c : ImageFile S) (e : ImageError) → Moved p q a b → InterruptedFileStep view b c e → InterruptedFileStep view a c e
  interrupted_then p q a b c e first second = record { fault = second.fault; recorded = second.recorded; since = safe_throughout_then a b c first.since first.safe_step.known second.since }

  -- a fault after a change that was noted breaks off
  pub on_interrupted_after : (p q : Pending) (a b c : ImageFile S) (t : Allocator) (e : ImageError) → InternalFileGrowth view p q a b → IsFault e → IsTrue c.caches.is_changed → RefusedFileStep view q b t c e → InterruptedFileStep view a c e
  on_interrupted_after p q a b c t e first fault recorded second = record {
    fault = fault;
    recorded = λ _. or_right (is_changed_of c.storage) c.caches.is_changed recorded;
    since = elim second [
      | inl sound ↦ safe_throughout_then a b c first.since first.safe_step.known sound.0.since
      | inr interrupted ↦ safe_throughout_then a b c first.since first.safe_step.known interrupted.since
    ];
  }

  pub interrupted_after : (p q : Pending) (a b c : ImageFile S) (t : Allocator) (e : ImageError) → Moved p q a b → IsFault e → IsTrue c.caches.is_changed → RefusedFileStep view q b t c e → InterruptedFileStep view a c e
  interrupted_after p q a b c t e first fault recorded second = on_interrupted_after p q a b c t e (file_step_on p q a b first) fault recorded second

  -- a refusal after a step that left the same pending
  pub leaves_then : (p : Pending) (a b c : ImageFile S) (t : Allocator) (e : ImageError) → Moved p p a b → RefusedFileStep view p b t c e → RefusedFileStep view p a t c e
  leaves_then p a b c t e first second = elim second [
    | inl sound ↦ inl (file_step_then p p p a b c (λ k some. some) first sound.0, sound.1)
    | inr interrupted ↦ inr (interrupted_then p p a b c e first interrupted)
  ]

  -- ---- a call of the caches
  module _ (p : Pending) (file : ImageFile S) (storage : ImageStorage S) (caches : MetadataCaches S) (sound : FileInvariant view p file)
      (stays : InternalCacheStep file.header.fields p (view_in view file) file.caches (view (storage_of storage)) caches) where
    abbrev called : ImageFile S
    called = record file { storage = storage; caches = caches }

    pub file_step_cached : KeepsPinsAndNotes file.caches caches → Moved p p file called
    file_step_cached marks = record {
      sound = file_invariant_of stays.honest stays.sound (stays.named_blocks sound.named_blocks) (marks.room sound.room);
      safe_step = record {
        sound = stays.sound.kept.kept.crash_invariant;
        on_storage = λ backing m ok known_ok. stays.since.contents backing m ok known_ok;
        known = λ backing m ok known_ok. subst (StopOkEverywhere backing m) (sym stays.known) known_ok;
      };
      since = cached_safe_throughout (view_in view file) (view (storage_of storage)) (known_in view file) stays.since;
      unseen = unseen_known (state_in view file p) (state_in view called p) refl stays.known;
      l1_table = l1_same_known (state_in view file p) (state_in view called p) sound.caches.kept.kept.crash_invariant stays.sound.kept.kept.crash_invariant refl (λ i. ap (λ (b : Bytes). l1_entry file.header.fields b i) stays.known);
      counts = λ k. let same = ap (λ (b : Bytes). count file.header.fields b k) stays.known in omega arith;
    }

    pub reftable_cached : (t : EntryTableView) → HasReftable view file t → HasReftable view called t
    reftable_cached t has = record {
      cluster = has.cluster;
      bits = has.bits;
      count = has.count;
      entries = λ k. has.entries k ∙ (top_still file.header.fields (order_of file.caches) (order_of caches) p p (l2_tables file.caches) (refblocks file.caches) (l2_tables caches) (refblocks caches) (contents_in view file) (contents_in view called) sound.caches.kept stays.sound.kept stays.known).reftable k;
    }

  -- ---- a count changes
  module _ (p : Pending) (file : ImageFile S) (caches : MetadataCaches S) (c : ℕ) (sound : FileInvariant view p file) (marks : KeepsPinsAndNotes file.caches caches) (turned : order_of caches ≡ order_of file.caches) where
    abbrev counted : ImageFile S
    counted = record file { caches = caches }

    abbrev now_known : Bytes
    now_known = known_of file.header.fields caches (contents_in view file)

    -- no entry of the storage changes
    same_storage_bytes : (q : Pending) → SafeStep (state_in view file p) (state_in view counted q) nothing_given [] → IsInternal (state_in view file p) (state_in view counted q) → (k : ℕ) → q.surplus k ≡ p.surplus k
        → count file.header.fields (known_in view file) k + pending_at q k ≤ count file.header.fields now_known k + pending_at p k
    same_storage_bytes q safe_step unseen k same =
        counts_follow file.header.fields (order_of file.caches) (order_of caches) p q (contents_in view file) (contents_in view file) (known_in view file) now_known sound.caches.kept.kept.crash_invariant safe_step.sound unseen.covers (λ i. omega arith) k same

    pub reftable_counted : (t : EntryTableView) → HasReftable view file t → HasReftable view counted t
    reftable_counted t has = record { cluster = has.cluster; bits = has.bits; count = has.count; entries = has.entries }

    module _ (made : Made (CountRises file.header.fields (known_in view file) now_known c) file.header.fields file.caches caches (contents_in view file)) where
      raised_as : (q : Pending) → ((k : ℕ) → q.surplus k ≡ p.surplus k) → SafeStep (state_in view file p) (record (state_in view file p) { pending = q; known = now_known }) nothing_given [] → Moved p q file counted
      raised_as q same safe_step =
          let safe_step' : SafeStep (state_in view file p) (state_in view counted q) nothing_given [] =
          subst (λ (d : Direction). SafeStep (state_in view file p) (record (state_in view file p) { direction = d; pending = q; known = now_known }) nothing_given []) (sym turned) safe_step in record {
            sound = file_invariant_of sound.honest (made.sound q safe_step'.sound) (made.named_blocks sound.named_blocks) (marks.room sound.room);
            safe_step = safe_step';
            since = raise_safe_throughout (view_in view file) (state_in view file p) now_known c refl made.change;
            unseen = unseen_count (state_in view file p) (state_in view counted q) sound.caches.kept.kept.crash_invariant c refl made.change.real made.change.outside;
            l1_table = l1_same_storage (state_in view file p) (state_in view counted q) refl;
            counts = λ k. same_storage_bytes q safe_step' (unseen_count (state_in view file p) (state_in view counted q) sound.caches.kept.kept.crash_invariant c refl made.change.real made.change.outside) k (same k);
          }

      -- no table lies in a cluster that isn't counted
      not_overlaid : (o : ℕ) → o / cluster_size file.header.fields ≡ c → contents_in view file o ≡ known_in view file o
      not_overlaid o in_c =
          let h = file.header.fields in
          let kept = sound.caches.kept.kept in
          let tally = (kept.crash_invariant.each_cluster c).tally in
          let free = made.change.free in
          let none : named_for_tables file.header.fields (contents_in view file) c ≡ 0 = omega (arith, tally, free) in
          sym (known_is_on_storage (cluster_size h) (l2_tables file.caches) (refblocks file.caches) (contents_in view file) o
          (unnamed_free_l2 h (order_of file.caches) p (l2_tables file.caches) (refblocks file.caches) (contents_in view file) kept c none o in_c)
          (unnamed_free_rb h (order_of file.caches) p (l2_tables file.caches) (refblocks file.caches) (contents_in view file) kept sound.named_blocks c none o in_c))

      -- a cluster is taken
      pub file_step_raised : (d : Bool) → MayAllocate d file → Moved p (taken_as d p (one_at c)) file counted
      file_step_raised true may = raised_as (with_new_data p (one_at c)) (λ k. refl) (count_is_changed.data_allocated (state_in view file p) now_known c sound.caches.kept.kept.crash_invariant may made.change not_overlaid)
      file_step_raised false may = raised_as (with_new_tables p (one_at c)) (λ k. refl) (count_is_changed.table_allocated (state_in view file p) now_known c sound.caches.kept.kept.crash_invariant made.change)

    -- a cluster that is owed is counted once less
    module _ (q : Pending) (made : Made (CountFalls file.header.fields (known_in view file) now_known c) file.header.fields file.caches caches (contents_in view file)) where
      lowered_as : ((k : ℕ) → q.surplus k ≡ p.surplus k) → SafeStep (state_in view file p) (record (state_in view file p) { pending = q; known = now_known }) nothing_given [] → Moved p q file counted
      lowered_as same safe_step =
          let safe_step' : SafeStep (state_in view file p) (state_in view counted q) nothing_given [] =
          subst (λ (d : Direction). SafeStep (state_in view file p) (record (state_in view file p) { direction = d; pending = q; known = now_known }) nothing_given []) (sym turned) safe_step in record {
            sound = file_invariant_of sound.honest (made.sound q safe_step'.sound) (made.named_blocks sound.named_blocks) (marks.room sound.room);
            safe_step = safe_step';
            since = fall_safe_throughout (view_in view file) (state_in view file p) now_known c refl made.change;
            unseen = unseen_count (state_in view file p) (state_in view counted q) sound.caches.kept.kept.crash_invariant c refl made.change.real made.change.outside;
            l1_table = l1_same_storage (state_in view file p) (state_in view counted q) refl;
            counts = λ k. same_storage_bytes q safe_step' (unseen_count (state_in view file p) (state_in view counted q) sound.caches.kept.kept.crash_invariant c refl made.change.real made.change.outside) k (same k);
          }

      -- it is spent first, and then no longer counted
      freed : (old_tables : Pending) → SafeStep (state_in view file p) (record (state_in view file p) { pending = old_tables }) nothing_given [] → 0 < old_tables.old_tables c → without_old_tables old_tables (one_at c) ≡ q
          → SafeStep (state_in view file p) (record (state_in view file p) { pending = q; known = now_known }) nothing_given []
      freed old_tables first some same =
          let s : DriverState = state_in view file p in
          let second = count_is_changed.table_freed (record s { pending = old_tables }) now_known c first.sound made.change some in
          subst (λ (r : Pending). SafeStep s (record s { pending = r; known = now_known }) nothing_given []) same (record {
            sound = second.sound;
            on_storage = λ backing m ok known_ok. second.on_storage backing m (first.on_storage backing m ok known_ok) (first.known backing m ok known_ok);
            known = λ backing m ok known_ok. second.known backing m (first.on_storage backing m ok known_ok) (first.known backing m ok known_ok);
          })

      pub file_step_lowered : (owed : Owed) → MayDecrement owed file → p ≡ owed_as owed q (one_at c) → Moved p q file counted
      file_step_lowered (Taken true) may taken =
          let new_data : p.new_data c ≡ q.new_data c + one_at c c = ap (λ (r : Pending). r.new_data c) taken in
          let own = one_here c in
          let first = pending_is_changed.undone (state_in view file p) (one_at c) sound.caches.kept.kept.crash_invariant (one_few c) (λ k some. subst (λ n. 0 < p.new_data n) (sym (one_alone c k some)) (omega arith)) in
          lowered_as (λ k. sym (ap (λ (r : Pending). r.surplus k) taken)) (freed (new_data_to_old_tables p (one_at c)) first (omega arith)
          (ap (λ (r : Pending). without_old_tables (new_data_to_old_tables r (one_at c)) (one_at c)) taken
          ∙ pending_same (without_old_tables (new_data_to_old_tables (with_new_data q (one_at c)) (one_at c)) (one_at c)) q (λ k. omega arith) (λ k. refl) (λ k. omega arith) (λ k. refl) (λ k. refl)))
      file_step_lowered (Taken false) may taken =
          let new_tables : p.new_tables c ≡ q.new_tables c + one_at c c = ap (λ (r : Pending). r.new_tables c) taken in
          let own = one_here c in
          let first = pending_is_changed.abandoned (state_in view file p) (one_at c) sound.caches.kept.kept.crash_invariant (one_few c) (λ k some. subst (λ n. 0 < p.new_tables n) (sym (one_alone c k some)) (omega arith)) in
          lowered_as (λ k. sym (ap (λ (r : Pending). r.surplus k) taken)) (freed (new_tables_to_old_tables p (one_at c)) first (omega arith)
          (ap (λ (r : Pending). without_old_tables (new_tables_to_old_tables r (one_at c)) (one_at c)) taken
          ∙ pending_same (without_old_tables (new_tables_to_old_tables (with_new_tables q (one_at c)) (one_at c)) (one_at c)) q (λ k. refl) (λ k. omega arith) (λ k. omega arith) (λ k. refl) (λ k. refl)))
      file_step_lowered (Listed Metadata) may listed =
          let old_tables : p.old_tables c ≡ q.old_tables c + one_at c c = ap (λ (r : Pending). r.old_tables c) listed in
          let own = one_here c in
          let s : DriverState = state_in view file p in
          lowered_as (λ k. sym (ap (λ (r : Pending). r.surplus k) listed)) (subst (λ (r : Pending). SafeStep s (record s { pending = r; known = now_known }) nothing_given [])
          (ap (λ (r : Pending). without_old_tables r (one_at c)) listed ∙ pending_same (without_old_tables (listed_as Metadata q (one_at c)) (one_at c)) q (λ k. refl) (λ k. refl) (λ k. omega arith) (λ k. refl) (λ k. refl))
          (count_is_changed.table_freed s now_known c sound.caches.kept.kept.crash_invariant made.change (omega arith)))
      file_step_lowered (Listed Data) may listed =
          let old_data : p.old_data c ≡ q.old_data c + one_at c c = ap (λ (r : Pending). r.old_data c) listed in
          let own = one_here c in
          let s : DriverState = state_in view file p in
          lowered_as (λ k. sym (ap (λ (r : Pending). r.surplus k) listed)) (subst (λ (r : Pending). SafeStep s (record s { pending = r; known = now_known }) nothing_given [])
          (ap (λ (r : Pending). without_old_data r (one_at c)) listed ∙ pending_same (without_old_data (listed_as Data q (one_at c)) (one_at c)) q (λ k. refl) (λ k. refl) (λ k. refl) (λ k. omega arith) (λ k. refl))
          (count_is_changed.data_freed s now_known c sound.caches.kept.kept.crash_invariant may made.change (omega arith)))
