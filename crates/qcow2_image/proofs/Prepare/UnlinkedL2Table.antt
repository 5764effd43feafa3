-- An image whose new L2 table has its L1 entry, or doesn't: what is pending, and what waits to be freed.
use Rattle.std.proofs.Common.{◌≡◌, ◌+◌, ◌∷◌, ◌++◌, ◌⊎◌, inl, inr, ℕ, false, List, [], Option, Result, Ok, Err, refl, sym, ap, ◌∙◌, subst, arith, Some}
use Rattle.qcow2_image.proofs.Common.{cases_lt, BackingView, StorageView, passes_none, HeaderFields, l1_entry, host_offset, EntryTableView, L2TableView, table_in, entry_at, one_at, with_new_tables, new_tables_to_old_tables, Pending, SafeStep, KeepsFormat, pending_safe_throughout, pending_is_changed, unseen_known, run_at, taken_as, InternalAllocatorGrowth, RefusedGrowth, Allocator, KeepsPinsAndNotes, ImageFile, ClustersToFreeEntry, ClusterKind, ImageError, ListsTables, nothing_given, view_in, contents_in, known_in, state_in, one_few, one_here, pending_same, run_before, run_after, run_last, refused_kept, NoFreeBelowHint, BrokeOff, Qcow2, Prepared, SaysKnown, MayName, replacing, NamesNew, WritesNew, EntersTable, InterruptedPart, NamesOwn, InternalStep, RefusedStep, ListGrows, pending_with_listed, of_data, of_tables, to_free, ImageInvariant, leaked_by, leaked_in, Mappings}
use Rattle.qcow2_alloc.specs.declared.clusters_to_free.ClusterKind.TheVariants as Kind
use Rattle.qcow2_alloc.proofs.FileSteps.{safe_throughout_then}
use Rattle.qcow2_image.proofs.Call.Called.{keeps_then}
use Rattle.qcow2_image.proofs.Images.Formats.{lists_grow, says_format}
use Rattle.qcow2_image.proofs.Prepare.FirstCluster.{listed_after_on, listed_after_same, sound_listed}
use Rattle.qcow2_image.proofs.Map.Loading.{still_moved}
use Rattle.qcow2_image.proofs.Images.Moving.{file_moved_on}
use Rattle.qcow2_image.proofs.Images.Sound.{free_more}

-- a run of one cluster
pub run_one : (first k : ℕ) → run_at first 1 k ≡ one_at first k
run_one first k =
    let end : first + 0 ≡ first = omega arith in
    let sum : run_at first 0 k + one_at first k ≡ run_at first 1 k = subst (λ n. run_at first 0 k + one_at n k ≡ run_at first 1 k) end (run_last first 0 k) in
    let none : run_at first 0 k ≡ 0 = elim (cases_lt k first) [ inl below ↦ run_before first 0 k below | inr above ↦ run_after first 0 k (omega arith) ] in
    omega (arith, sum, none)

one_taken : (p : Pending) (first : ℕ) → taken_as false p (run_at first 1) ≡ with_new_tables p (one_at first)
one_taken p first = pending_same (taken_as false p (run_at first 1)) (with_new_tables p (one_at first)) (λ k. refl) (λ k. let one = run_one first k in omega arith) (λ k. refl) (λ k. refl) (λ k. refl)

module _ {S F : Type 0} (view : S → StorageView) (backing : F → BackingView) (out : Mappings) where
  -- nothing was done
  pub keeps_none : (p : Pending) (image : Qcow2 S F) → ImageInvariant view backing p image out → InternalStep view backing p p image image out
  keeps_none p image sound = still_moved view backing image out p sound image.file.storage sound.file.honest (passes_none (view_in view image.file) _) refl

  -- where nothing more is to be freed
  pub as_listed_after : (p : Pending) (old new : Qcow2 S F) → new.file.free_list ≡ old.file.free_list → InternalStep view backing p p old new out → InternalStep view backing p (pending_with_listed p old new) old new out
  as_listed_after p old new same keeps = subst (λ (q : Pending). InternalStep view backing p q old new out) (sym (listed_after_same view backing out p old new same)) keeps

  pub interrupted_on : (p q : Pending) (a b c : Qcow2 S F) (e : ImageError) → InternalStep view backing p q a b out → InterruptedPart view backing b c e → InterruptedPart view backing a c e
  interrupted_on p q a b c e first second = let on = second.interrupted in record { interrupted = record { fault = on.fault; recorded = on.recorded; since = safe_throughout_then view a.file b.file c.file first.since first.safe_step.known on.since }; leaks = second.leaks ∙ first.leaks }

  -- ---- images with the same L1 table
  module _ (p q : Pending) (a b : Qcow2 S F) (sound : ImageInvariant view backing p a out) (sound' : ImageInvariant view backing q b out) (same : b.l1_table ≡ a.l1_table) where
    pub same_l1 : (i : ℕ) → l1_entry b.file.header.fields (contents_in view b.file) i ≡ l1_entry a.file.header.fields (contents_in view a.file) i
    same_l1 i = sym (sound'.l1_table.entries i) ∙ ap (λ (t : EntryTableView). entry_at t.bytes i) same ∙ sound.l1_table.entries i

    pub may_still : (index : ℕ) → MayName view a index → MayName view b index
    may_still index may own = may (subst NamesOwn (same_l1 index) own)

    pub replacing_same : (r : Pending) (index : ℕ) → KeepsFormat a.file.header.fields b.file.header.fields → replacing view r b index ≡ replacing view r a index
    replacing_same r index header =
        pending_same (replacing view r b index) (replacing view r a index) (λ k. refl) (λ k. refl)
        (λ k. ap (λ (x : HeaderFields). r.old_tables k + table_in x k (host_offset (l1_entry b.file.header.fields (contents_in view b.file) index))) header ∙ ap (λ e. r.old_tables k + table_in a.file.header.fields k (host_offset e)) (same_l1 index))
        (λ k. refl) (λ k. refl)

  pub says_still : (p q : Pending) (a b : Qcow2 S F) (index : ℕ) (t : L2TableView) → InternalStep view backing p q a b out → SaysKnown a.file.header.fields (known_in view a.file) index t → SaysKnown b.file.header.fields (known_in view b.file) index t
  says_still p q a b index t keeps says =
      says_format a.file.header.fields b.file.header.fields keeps.unseen.header (known_in view b.file) (contents_in view b.file) index t (record { format = says.format; says = λ g here. sym (keeps.unseen.covers g) ∙ says.says g here })

  -- ---- the bytes are on the storage, and then the entry is written
  pub written_so : (p : Pending) (a b c : Qcow2 S F) (index at : ℕ) (r : Result (Unit {0}) ImageError) → ImageInvariant view backing (with_new_tables p (one_at at)) a out → b.l1_table ≡ a.l1_table
      → InternalStep view backing (with_new_tables p (one_at at)) (with_new_tables p (one_at at)) a b out → NamesNew view backing p b c out index at r → WritesNew view backing p a c out index at r
  written_so p a b c index at (Ok x) sound same first names =
      let q = with_new_tables p (one_at at) in (
        subst (λ (r : Pending). InternalStep view backing q r a c out) (replacing_same q q a b sound first.sound same p index first.unseen.header)
            (keeps_then view backing out a b c q q (replacing view p b index) (λ k h. h) first names.0),
        names.1,
      )
  written_so p a b c index at (Err e) sound same first interrupted = let q = with_new_tables p (one_at at) in inr (interrupted_on q q a b c e first interrupted)

  -- ---- more is to be freed
  module _ (p q : Pending) (image : Qcow2 S F) (list more : List ClustersToFreeEntry) (sound : ImageInvariant view backing p image out) (is : list ≡ image.file.free_list ++ more)
      (new_data : SafeStep (state_in view image.file p) (state_in view image.file q) nothing_given []) where
    abbrev relisted : Qcow2 S F
    relisted = record image { file = record image.file { free_list = list } }

    pub keeps_listed : InternalStep view backing p q image relisted out
    keeps_listed = record {
      sound = sound_listed view backing out p q image list sound new_data;
      safe_step = record { sound = new_data.sound; on_storage = new_data.on_storage; known = new_data.known };
      since = pending_safe_throughout (view_in view image.file) (state_in view image.file p) (state_in view image.file q) refl new_data;
      unseen = unseen_known (state_in view image.file p) (state_in view relisted.file q) refl refl;
      copied = λ i own. refl;
      below = refl;
      list = record { more = more; is = is };
      leaks = refl;
    }

  -- a cluster that was allocated for a table isn't used
  abbrev pub given_up : Pending → ℕ → Pending
  given_up p at = record p { old_tables = λ k. p.old_tables k + one_at at k }

  pub abandoned : (p : Pending) (at : ℕ) (image : Qcow2 S F) (list more : List ClustersToFreeEntry) → ImageInvariant view backing (with_new_tables p (one_at at)) image out → (is : list ≡ image.file.free_list ++ more)
      → InternalStep view backing (with_new_tables p (one_at at)) (given_up p at) image (record image { file = record image.file { free_list = list } }) out
  abandoned p at image list more sound is =
      let q = with_new_tables p (one_at at) in
      let s = state_in view image.file q in
      let own = one_here at in
      let first = pending_is_changed.abandoned s (one_at at) sound.file.caches.kept.kept.crash_invariant (one_few at) (λ k some. omega (arith, some)) in
      keeps_listed q (given_up p at) image list more sound is
      (subst (λ (r : Pending). SafeStep s (state_in view image.file r) nothing_given []) (pending_same (new_tables_to_old_tables q (one_at at)) (given_up p at) (λ k. refl) (λ k. omega arith) (λ k. refl) (λ k. refl) (λ k. refl)) first)

  -- the cluster of a table is appended to the list of clusters to free
  pub freed_table : (p : Pending) (at : ℕ) (old mid new : Qcow2 S F) (e : ClustersToFreeEntry) → ListGrows old mid → e.first_cluster ≡ at → e.count ≡ 1 → e.kind ≡ Kind.Metadata → new.file.free_list ≡ mid.file.free_list ++ e ∷ []
      → given_up (pending_with_listed p old mid) at ≡ pending_with_listed p old new
  freed_table p at old mid new e grows first one kind is =
      pending_same (given_up (pending_with_listed p old mid) at) (pending_with_listed p old new) (λ k. refl) (λ k. refl)
      (λ k.
      let since = ap (λ l. to_free of_tables l k) grows.is ∙ free_more of_tables old.file.free_list grows.more k in
      let more = ap (λ l. to_free of_tables l k) is ∙ free_more of_tables mid.file.free_list (e ∷ []) k in
      let tables = ap (λ (x : ClusterKind). of_tables x (run_at e.first_cluster e.count k)) kind ∙ ap (λ n. run_at n e.count k) first ∙ ap (λ n. run_at at n k) one in
      let one_there = run_one at k in
      omega arith)
      (λ k.
      let since = ap (λ l. to_free of_data l k) grows.is ∙ free_more of_data old.file.free_list grows.more k in
      let more = ap (λ l. to_free of_data l k) is ∙ free_more of_data mid.file.free_list (e ∷ []) k in
      let none_of_data = ap (λ (x : ClusterKind). of_data x (run_at e.first_cluster e.count k)) kind in
      omega arith)
      (λ k. refl)

  -- ---- a cluster is allocated for the table, or isn't
  module _ (p : Pending) (old : Qcow2 S F) (sound : ImageInvariant view backing p old out) (file : ImageFile S) (a : Allocator) (marks : KeepsPinsAndNotes old.file.caches file.caches) (lists : ListsTables old.file.free_list file.free_list) (leaks : leaked_by (Some a) ≡ leaked_in old) where
    abbrev taken : Qcow2 S F
    taken = record old { file = file; allocator = Some a }

    -- what is pending then, beside what is allocated
    abbrev since : Pending
    since = pending_with_listed p old taken

    pub none_taken : (e : ImageError) → RefusedGrowth view p old.file a file since e → NoFreeBelowHint view a file ⊎ BrokeOff file e → RefusedStep view backing p old taken out e
    none_taken e left hint = elim (refused_kept view p since old.file file a e left hint) [
      | inl kept ↦ inl (file_moved_on view backing old out p since sound file (Some a) kept.0 kept.1 leaks marks.pins (lists_grow old taken lists))
      | inr interrupted ↦ inr (record { interrupted = interrupted; leaks = leaks })
    ]

    module _ (first n : ℕ) (one : n ≡ 1) (allocator_step : InternalAllocatorGrowth view p old.file a file (taken_as false since (run_at first n))) (hint : NoFreeBelowHint view a file) where
      pub keeps_taken : InternalStep view backing p (with_new_tables since (one_at first)) old taken out
      keeps_taken = subst (λ (q : Pending). InternalStep view backing p q old taken out) (ap (λ m. taken_as false since (run_at first m)) one ∙ one_taken since first)
          (file_moved_on view backing old out p (taken_as false since (run_at first n)) sound file (Some a) allocator_step.file_step (record { reftable = allocator_step.reftable; hint = hint }) leaks marks.pins (lists_grow old taken lists))

      may_taken : (index : ℕ) → MayName view old index → MayName view taken index
      may_taken = may_still p (with_new_tables since (one_at first)) old taken sound keeps_taken.sound refl

      module _ (new : Qcow2 S F) (index : ℕ) (t : L2TableView) (may : MayName view old index) (says : SaysKnown old.file.header.fields (known_in view old.file) index t) (listed : new.file.free_list ≡ file.free_list) (r : Result (Unit {0}) ImageError)
          (writes : ImageInvariant view backing (with_new_tables since (one_at first)) taken out → MayName view taken index → SaysKnown file.header.fields (known_in view file) index t → WritesNew view backing since taken new out index first r) where
        abbrev written : WritesNew view backing since taken new out index first r
        written = writes keeps_taken.sound (may_taken index may) (says_still p (with_new_tables since (one_at first)) old taken index t keeps_taken says)

        pub table_entered : (x : Unit {0}) → r ≡ Ok x → EntersTable view backing p old new out index (Ok first)
        table_entered x is =
            let q = with_new_tables since (one_at first) in
            let named : WritesNew view backing since taken new out index first (Ok x) = subst (WritesNew view backing since taken new out index first) is written in (
              subst (λ (s : Pending). InternalStep view backing p s old new out)
                  (replacing_same p q old taken sound keeps_taken.sound refl since index keeps_taken.unseen.header ∙ ap (λ s. replacing view s old index) (listed_after_on view backing out p old taken new listed))
                  (keeps_then view backing out old taken new p q (replacing view since taken index) (λ k h. h) keeps_taken named.0),
              named.1,
            )

        pub table_refused : (e : ImageError) (run : ClustersToFreeEntry) (more : List ClustersToFreeEntry) → r ≡ Err e → run.first_cluster ≡ first → run.count ≡ 1 → run.kind ≡ Kind.Metadata → more ≡ new.file.free_list ++ run ∷ []
            → RefusedStep view backing p old (record new { file = record new.file { free_list = more } }) out e
        table_refused e run more is at single kind longer =
            let q = with_new_tables since (one_at first) in
            let refused : WritesNew view backing since taken new out index first (Err e) = subst (WritesNew view backing since taken new out index first) is written in
            elim refused [
              | inl keeps ↦ inl (
                  subst (λ (s : Pending). InternalStep view backing p s old (record new { file = record new.file { free_list = more } }) out)
                  (freed_table p first old taken (record new { file = record new.file { free_list = more } }) run (lists_grow old taken lists) at single kind (longer ∙ ap (λ l. l ++ run ∷ []) listed))
                  (keeps_then view backing out old new (record new { file = record new.file { free_list = more } }) p q (given_up since first) (λ k h. h) (keeps_then view backing out old taken new p q q (λ k h. h) keeps_taken keeps)
                  (abandoned since first new more (run ∷ []) keeps.sound longer)))
              | inr interrupted ↦ let on = interrupted_on p q old taken new e keeps_taken interrupted in inr (record { interrupted = record { fault = on.interrupted.fault; recorded = on.interrupted.recorded; since = on.interrupted.since }; leaks = on.leaks })
            ]
