-- A longer L1 table replaces the old one, part by part, which guests don't see.
use Rattle.std.proofs.Common.{◌≡◌, ◌+◌, ◌-◌, ◌*◌, ◌/◌, ◌%◌, ◌^◌, ◌<◌, ◌≤◌, ◌∷◌, ◌++◌, ◌⊎◌, inl, inr, ℕ, false, List, [], length, Option, Some, None, Result, Ok, Err, refl, sym, ap, ◌∙◌, subst, arith}
use Rattle.qcow2_image.proofs.Common.{cases_lt, OnOk, OnErr, append_assoc, div-mul-add, BackingView, StorageView, HeaderFields, HeaderView, cluster_size, EntryTableView, entry_count, in_run, named_by_guest, entry_at, new_tables_to_old_tables, Pending, over_guests, names, SafeStep, used_by_guests, guests_format, over_guests-same, safe_step_none, safe_step_then, steps_safe_throughout, pending_is_changed, unseen_disk, run_at, taken_as, InternalAllocatorGrowth, RefusedGrowth, KeepsPinsAndNotes, Allocator, ClusterKind, ClustersToFreeEntry, ImageError, ImageFile, ListsTables, nothing_given, view_in, known_in, state_in, KeepsHeader, pending_same, header_format, file_sizes, run_none, NoFreeBelowHint, BrokeOff, Qcow2, Prepared, RefusedCall, InternalCall, of_data, of_tables, to_free, pending_in, ImageInvariant, abstract_of, clusters_of, run_of_table, listed, with_table, without_l1, IsLongerL1, StandsWhole, InternalMove, InterruptedMove, RefusedMove, PlacesTable, NamesTable, NamesTaken, AllocatesTable, MakesEntry, InternalStep, FreesListed, ListGrows, pending_with_listed, leaked_by, leaked_in, stops_of, run_few, IsFault, Mappings}
use Rattle.qcow2_alloc.specs.declared.clusters_to_free.ClusterKind.TheVariants as Kind
use Rattle.qcow2_image.proofs.Call.Answered.{followed, same_setting, still_shown}
use Rattle.qcow2_image.proofs.Call.Called.{keeps_then}
use Rattle.qcow2_image.proofs.Call.Refused.{break_off_so, refused_then, stays_kept, stays_then}
use Rattle.qcow2_image.proofs.Flush.Freeing.{beside, freed_refused, tidy_stays}
use Rattle.qcow2_image.proofs.Images.Formats.{lists_grow}
use Rattle.qcow2_image.proofs.Images.Moved.{file_step_then, format_file_step, stay_then, format_stay}
use Rattle.qcow2_image.proofs.Images.Moving.{file_moved_on}
use Rattle.qcow2_image.proofs.Prepare.UnlinkedL2Table.{as_listed_after, interrupted_on, keeps_listed, keeps_none, none_taken}
use Rattle.qcow2_image.proofs.Prepare.FirstCluster.{listed_after_on}
use Rattle.qcow2_image.proofs.Images.Sound.{free_more}
use Rattle.qcow2_image.proofs.Images.UngivenCovers.{all_stay}
use Rattle.qcow2_image.proofs.Images.Places.{inside_of}

module _ {S F : Type 0} (view : S → StorageView) (backing : F → BackingView) (out : Mappings) where
  -- ---- one part after another
  module _ (p q : Pending) (a b : Qcow2 S F) (new_data : (k : ℕ) → 0 < p.new_data k → 0 < q.new_data k) (keeps : InternalStep view backing p q a b out) where
    used_stay : (c : ℕ) → 0 < used_by_guests (state_in view a.file p) c → 0 < used_by_guests (state_in view b.file q) c
    used_stay c some =
        let h = a.file.header.fields in
        let same : over_guests h (names h (known_in view a.file) c) ≡ over_guests h (names h (known_in view b.file) c) =
        over_guests-same h (names h (known_in view a.file) c) (names h (known_in view b.file) c) (λ g. ap (named_by_guest h c) (keeps.unseen.covers g)) in
        let is = guests_format h b.file.header.fields keeps.unseen.header (known_in view b.file) c in
        let still = new_data c in
        grind arith

    pub file_step_kept : ImageInvariant view backing p a out → InternalMove view backing p q a b out
    file_step_kept sound = record {
      sound = keeps.sound;
      safe_step = keeps.safe_step;
      since = keeps.since;
      header = format_file_step a.file.header.fields b.file.header.fields keeps.unseen.header;
      covers = format_stay a.file.header.fields b.file.header.fields (known_in view a.file) (known_in view b.file) keeps.unseen.header keeps.unseen.covers;
      bytes = keeps.unseen.bytes;
      used = used_stay;
      shows = unseen_disk (state_in view a.file p) (state_in view b.file q) sound.file.caches.kept.kept.crash_invariant (inside_of sound) keeps.sound.file.caches.kept.kept.crash_invariant keeps.unseen;
      below = keeps.below;
      list = keeps.list;
      leaks = keeps.leaks;
    }

  pub move_then : (p q r : Pending) (a b c : Qcow2 S F) → InternalMove view backing p q a b out → InternalMove view backing q r b c out → InternalMove view backing p r a c out
  move_then p q r a b c first then =
      let size : cluster_size a.file.header.fields ≡ cluster_size b.file.header.fields = sym (ap (λ (h : HeaderFields). cluster_size h) first.header) in record {
        sound = then.sound;
        safe_step = safe_step_then (state_in view a.file p) (state_in view b.file q) (state_in view c.file r) nothing_given nothing_given [] [] first.safe_step then.safe_step;
        since = steps_safe_throughout (view_in view a.file) (view_in view b.file) (view_in view c.file) (state_in view a.file p) (state_in view b.file q) nothing_given nothing_given [] [] refl first.since first.safe_step then.since;
        header = file_step_then a.file.header.fields b.file.header.fields c.file.header.fields first.header then.header;
        covers = stay_then a.file.header.fields b.file.header.fields c.file.header.fields (known_in view a.file) (known_in view b.file) (known_in view c.file) first.covers then.covers;
        bytes = λ o some. then.bytes o (subst (λ n. 0 < used_by_guests (state_in view b.file q) (o / n)) size (first.used (o / cluster_size a.file.header.fields) some)) ∙ first.bytes o some;
        used = λ k some. then.used k (first.used k some);
        shows = λ below. then.shows below ∙ first.shows below;
        below = then.below ∙ first.below;
        list = record { more = first.list.more ++ then.list.more; is = then.list.is ∙ ap (λ l. l ++ then.list.more) first.list.is ∙ append_assoc a.file.free_list first.list.more then.list.more };
        leaks = then.leaks ∙ first.leaks;
      }

  pub interruption_then : (p q : Pending) (a b c : Qcow2 S F) (e : ImageError) → InternalStep view backing p q a b out → InterruptedMove view backing b c e → InterruptedMove view backing a c e
  interruption_then p q a b c e first interruption = record {
    interrupted = (interrupted_on view backing out p q a b c e first (record { interrupted = interruption.interrupted; leaks = interruption.leaks })).interrupted;
    header = file_step_then a.file.header.fields b.file.header.fields c.file.header.fields (format_file_step a.file.header.fields b.file.header.fields first.unseen.header) interruption.header;
    below = interruption.below ∙ first.below;
    leaks = interruption.leaks ∙ first.leaks;
  }

  -- nothing was done
  pub refused_none : (p : Pending) (image : Qcow2 S F) (e : ImageError) → ImageInvariant view backing p image out → RefusedMove view backing p image image out e
  refused_none p image e sound = inl (as_listed_after view backing out p image image refl (keeps_none view backing out p image sound))

  -- ---- the table is placed, and then named
  pub named_then : (p : Pending) (a b c : Qcow2 S F) (t t' : EntryTableView) (cluster : ℕ) (r : Result (Unit {0}) ImageError) → ImageInvariant view backing (with_table p t cluster) a out → t' ≡ record t { cluster = Some cluster }
      → PlacesTable view backing (with_table p t cluster) a b out t' cluster (Ok tt)
      → (ImageInvariant view backing (with_table p t' cluster) b out → StandsWhole view b t' cluster → NamesTable view backing p b c out t' cluster r) → NamesTable view backing p a c out t cluster r
  named_then p a b c t t' cluster r sound is placed names = joined r (subst (λ (u : EntryTableView). NamesTable view backing p b c out u cluster r) is (names (subst (λ (u : EntryTableView). ImageInvariant view backing (with_table p u cluster) b out) (sym is) placed.0.sound) placed.1))
    where
      joined : (r : Result (Unit {0}) ImageError) → NamesTable view backing p b c out (record t { cluster = Some cluster }) cluster r → NamesTable view backing p a c out t cluster r
      joined (Ok x) named =
          let q = with_table p t cluster in
          subst (λ (h : HeaderFields). InternalMove view backing q (without_l1 p h) a c out) placed.0.unseen.header
          (move_then q q (without_l1 p b.file.header.fields) a b c (file_step_kept q q a b (λ k some. some) placed.0 sound) named)
      joined (Err e) left = let q = with_table p t cluster in elim left [
        | inl keeps ↦ inl (keeps_then view backing out a b c q q q (λ k some. some) placed.0 keeps)
        | inr interruption ↦ inr (interruption_then q q a b c e placed.0 interruption)
      ]

  -- ---- clusters that were allocated for a table aren't used
  abbrev pub run_given_up : Pending → EntryTableView → ℕ → Pending
  run_given_up p t cluster = record p { old_tables = λ k. p.old_tables k + run_at cluster (clusters_of t) k }

  abandoned_run : (p : Pending) (t : EntryTableView) (cluster : ℕ) (image : Qcow2 S F) (list more : List ClustersToFreeEntry) → ImageInvariant view backing (with_table p t cluster) image out → (is : list ≡ image.file.free_list ++ more)
      → InternalStep view backing (with_table p t cluster) (run_given_up p t cluster) image (record image { file = record image.file { free_list = list } }) out
  abandoned_run p t cluster image list more sound is =
      let q = with_table p t cluster in
      let s = state_in view image.file q in
      let n = run_at cluster (clusters_of t) in
      let first = pending_is_changed.abandoned s n sound.file.caches.kept.kept.crash_invariant (run_few cluster (clusters_of t)) (λ k some. omega (arith, some)) in
      keeps_listed view backing out q (run_given_up p t cluster) image list more sound is
      (subst (λ (r : Pending). SafeStep s (state_in view image.file r) nothing_given []) (pending_same (new_tables_to_old_tables q n) (run_given_up p t cluster) (λ k. refl) (λ k. omega arith) (λ k. refl) (λ k. refl) (λ k. refl)) first)

  -- they are appended to the list of clusters to free
  freed_run : (p : Pending) (t : EntryTableView) (cluster : ℕ) (old mid new : Qcow2 S F) (e : ClustersToFreeEntry) → ListGrows old mid → e.first_cluster ≡ cluster → e.count ≡ clusters_of t → e.kind ≡ Kind.Metadata → new.file.free_list ≡ mid.file.free_list ++ e ∷ []
      → run_given_up (pending_with_listed p old mid) t cluster ≡ pending_with_listed p old new
  freed_run p t cluster old mid new e grows first many kind is =
      pending_same (run_given_up (pending_with_listed p old mid) t cluster) (pending_with_listed p old new) (λ k. refl) (λ k. refl)
      (λ k.
      let since = ap (λ l. to_free of_tables l k) grows.is ∙ free_more of_tables old.file.free_list grows.more k in
      let more = ap (λ l. to_free of_tables l k) is ∙ free_more of_tables mid.file.free_list (e ∷ []) k in
      let tables = ap (λ (x : ClusterKind). of_tables x (run_at e.first_cluster e.count k)) kind ∙ ap (λ n. run_at n e.count k) first ∙ ap (λ n. run_at cluster n k) many in
      omega arith)
      (λ k.
      let since = ap (λ l. to_free of_data l k) grows.is ∙ free_more of_data old.file.free_list grows.more k in
      let more = ap (λ l. to_free of_data l k) is ∙ free_more of_data mid.file.free_list (e ∷ []) k in
      let none_of_data = ap (λ (x : ClusterKind). of_data x (run_at e.first_cluster e.count k)) kind in
      omega arith)
      (λ k. refl)

  -- ---- clusters are allocated for it, or aren't
  module _ (p : Pending) (old : Qcow2 S F) (sound : ImageInvariant view backing p old out) (file : ImageFile S) (a : Allocator) (marks : KeepsPinsAndNotes old.file.caches file.caches) (lists : ListsTables old.file.free_list file.free_list)
      (header : KeepsHeader old.file.header file.header) (leaks : leaked_by (Some a) ≡ leaked_in old) where
    abbrev taken : Qcow2 S F
    taken = record old { file = file; allocator = Some a }

    -- what is pending then, beside what is allocated
    abbrev since : Pending
    since = pending_with_listed p old taken

    pub none_taken_for_table : (e : ImageError) → RefusedGrowth view p old.file a file since e → NoFreeBelowHint view a file ⊎ BrokeOff file e → RefusedMove view backing p old taken out e
    none_taken_for_table e left hint = elim (none_taken view backing out p old sound file a marks lists leaks e left hint) [
      | inl keeps ↦ inl keeps
      | inr interrupted ↦ inr (record { interrupted = interrupted.interrupted; header = format_file_step old.file.header.fields file.header.fields (header_format old.file.header file.header header); below = refl; leaks = leaks })
    ]

    module _ (t : EntryTableView) (cluster n : ℕ) (many : n ≡ clusters_of t) (allocator_step : InternalAllocatorGrowth view p old.file a file (taken_as false since (run_at cluster n))) (hint : NoFreeBelowHint view a file) (longer : IsLongerL1 old t) where
      pub keeps_taken : InternalStep view backing p (with_table since t cluster) old taken out
      keeps_taken = subst (λ m. InternalStep view backing p (taken_as false since (run_at cluster m)) old taken out) many
          (file_moved_on view backing old out p (taken_as false since (run_at cluster n)) sound file (Some a) allocator_step.file_step (record { reftable = allocator_step.reftable; hint = hint }) leaks marks.pins (lists_grow old taken lists))

      pub longer_taken : IsLongerL1 taken t
      longer_taken = record {
        bits = longer.bits ∙ ap (λ (v : HeaderView). v.fields.cluster_bits) (sym header);
        whole = longer.whole;
        longer = subst (λ (v : HeaderView). v.fields.l1_entries ≤ entry_count t) (sym header) longer.longer;
        entries = longer.entries;
      }

      module _ (new : Qcow2 S F) (r : Result (Unit {0}) ImageError) (same : new.file.free_list ≡ file.free_list) (names : ImageInvariant view backing (with_table since t cluster) taken out → IsLongerL1 taken t → NamesTable view backing since taken new out t cluster r) where
        abbrev named : NamesTable view backing since taken new out t cluster r
        named = names keeps_taken.sound longer_taken

        pub table_taken : (x : Unit {0}) → r ≡ Ok x → AllocatesTable view backing p old new out (Ok x)
        table_taken x is =
            let q = with_table since t cluster in
            let it : NamesTable view backing since taken new out t cluster (Ok x) = subst (NamesTable view backing since taken new out t cluster) is named in
            subst (λ s. InternalMove view backing p (without_l1 s old.file.header.fields) old new out) (listed_after_on view backing out p old taken new same)
            (subst (λ (h : HeaderFields). InternalMove view backing p (without_l1 since h) old new out) (ap (λ (v : HeaderView). v.fields) header)
            (move_then p q (without_l1 since file.header.fields) old taken new (file_step_kept p q old taken (λ k some. some) keeps_taken sound) it))

        pub table_refused : (e : ImageError) (run : ClustersToFreeEntry) (more : List ClustersToFreeEntry) → r ≡ Err e → run.first_cluster ≡ cluster → run.count ≡ clusters_of t → run.kind ≡ Kind.Metadata → more ≡ new.file.free_list ++ run ∷ []
            → AllocatesTable view backing p old (record new { file = record new.file { free_list = more } }) out (Err e)
        table_refused e run more is at count kind longer =
            let q = with_table since t cluster in
            let refused : NamesTable view backing since taken new out t cluster (Err e) = subst (NamesTable view backing since taken new out t cluster) is named in
            elim refused [
              | inl keeps ↦ inl (
                  subst (λ (s : Pending). InternalStep view backing p s old (record new { file = record new.file { free_list = more } }) out)
                  (freed_run p t cluster old taken (record new { file = record new.file { free_list = more } }) run (lists_grow old taken lists) at count kind (longer ∙ ap (λ l. l ++ run ∷ []) same))
                  (keeps_then view backing out old new (record new { file = record new.file { free_list = more } }) p q (run_given_up since t cluster) (λ k h. h) (keeps_then view backing out old taken new p q q (λ k h. h) keeps_taken keeps)
                  (abandoned_run since t cluster new more (run ∷ []) keeps.sound longer)))
              | inr interruption ↦ let on = interruption_then p q old taken new e keeps_taken interruption in
                  inr (record { interrupted = record { fault = on.interrupted.fault; recorded = on.interrupted.recorded; since = on.interrupted.since }; header = on.header; below = on.below; leaks = on.leaks })
            ]

      -- whatever the result is, the allocated clusters stay the table's, or wait to be freed
      pub table_named_blocks : (run : ClustersToFreeEntry) (new : Qcow2 S F) (r : Result (Unit {0}) ImageError) → run.first_cluster ≡ cluster → run.count ≡ clusters_of t → run.kind ≡ Kind.Metadata
          → (ImageInvariant view backing (with_table since t cluster) taken out → IsLongerL1 taken t → NamesTaken view backing since taken new out t run r)
          → OnOk r (new.file.free_list ≡ file.free_list) → OnErr r (new.file.free_list ≡ file.free_list ++ run ∷ []) → AllocatesTable view backing p old new out r
      table_named_blocks run new r at count kind names kept listed =
          let it = names keeps_taken.sound longer_taken in
          subst (λ (i : Qcow2 S F). AllocatesTable view backing p old i out r) (sym it.1)
          (named_blocks it.0 it.2 r (subst (λ n. NamesTable view backing since taken it.0 out t n r) at it.3) kept listed)
        where
          named_blocks : (mid : Qcow2 S F) → mid.file.free_list ≡ file.free_list → (x : Result (Unit {0}) ImageError) → NamesTable view backing since taken mid out t cluster x
              → OnOk x (new.file.free_list ≡ file.free_list) → OnErr x (new.file.free_list ≡ file.free_list ++ run ∷ []) → AllocatesTable view backing p old (record mid { file = record mid.file { free_list = new.file.free_list } }) out x
          named_blocks mid same (Ok u) named stays grows =
              subst (λ (l : List ClustersToFreeEntry). AllocatesTable view backing p old (record mid { file = record mid.file { free_list = l } }) out (Ok u)) (same ∙ sym stays) (table_taken mid (Ok u) same (λ _ _. named) u refl)
          named_blocks mid same (Err e) named stays grows =
              table_refused mid (Err e) same (λ _ _. named) e run new.file.free_list refl at count kind (grows ∙ ap (λ (l : List ClustersToFreeEntry). l ++ run ∷ []) (sym same))

  -- ---- the former table's clusters are to be freed

  -- a longer table with the old entries
  pub is_longer : (p : Pending) (old : Qcow2 S F) → ImageInvariant view backing p old out → (t : EntryTableView) (bytes : List ℕ) (entries : ℕ) → t ≡ record old.l1_table { cluster = None; bytes = bytes } → length t.bytes ≡ 8 * entries → entry_count old.l1_table ≤ entries
      → ((i : ℕ) → entry_at t.bytes i ≡ entry_at old.l1_table.bytes i) → IsLongerL1 old t
  is_longer p old sound t bytes entries is long enough same =
      let count = sound.l1_table.count in record {
        bits = ap (λ (u : EntryTableView). u.cluster_bits) is ∙ sound.l1_table.bits;
        whole = omega (arith, long);
        longer = omega (arith, long, enough, count);
        entries = same;
      }

  -- no bytes need no clusters
  no_clusters : (n size : ℕ) → 0 < size → n ≡ 0 → (n + size - 1) / size ≡ 0
  no_clusters n size some none = let e : n + size - 1 ≡ 0 * size + (size - 1) = omega (arith, none, some) in ap (λ m. m / size) e ∙ div-mul-add 0 size (size - 1) (omega (arith, some))

  module _ (p : Pending) (old : Qcow2 S F) (sound : ImageInvariant view backing p old out) (whole : length old.l1_table.bytes % 8 ≡ 0) where
    abbrev h : HeaderFields
    h = old.file.header.fields

    long : length old.l1_table.bytes ≡ 8 * h.l1_entries
    long = let count = sound.l1_table.count in omega (arith, count, whole)

    clusters_are : clusters_of old.l1_table ≡ (8 * h.l1_entries + cluster_size h - 1) / cluster_size h
    clusters_are = ap (λ n. (n + 2 ^ old.l1_table.cluster_bits - 1) / 2 ^ old.l1_table.cluster_bits) long ∙ ap (λ b. (8 * h.l1_entries + 2 ^ b - 1) / 2 ^ b) sound.l1_table.bits

    none_in_run : h.l1_entries ≡ 0 → (k : ℕ) → in_run h k h.l1_offset (8 * h.l1_entries) ≡ 0
    none_in_run none k = ap (λ n. run_at (h.l1_offset / cluster_size h) n k) (no_clusters (8 * h.l1_entries) (cluster_size h) (file_sizes view p old.file sound.file).some (omega (arith, none))) ∙ run_none (h.l1_offset / cluster_size h) k

    pub former_is : (c : Option ℕ) → old.l1_table.cluster ≡ c → (k : ℕ) → to_free of_tables (listed (run_of_table old.l1_table c)) k ≡ in_run h k h.l1_offset (8 * h.l1_entries)
    former_is None is k = elim (cases_lt 0 h.l1_entries) [
      | inl some ↦ absurd (let e : Some (h.l1_offset / cluster_size h) ≡ None = sym (sound.l1_table.cluster some) ∙ is in cc)
      | inr none ↦ sym (none_in_run (omega (arith, none)) k)
    ]
    former_is (Some cluster) is k =
        let alone : to_free of_tables (listed (run_of_table old.l1_table (Some cluster))) k ≡ run_at cluster (clusters_of old.l1_table) k = omega arith in
        elim (cases_lt 0 h.l1_entries) [
          | inl some ↦
              let here : cluster ≡ h.l1_offset / cluster_size h = let e : Some cluster ≡ Some (h.l1_offset / cluster_size h) = sym is ∙ sound.l1_table.cluster some in cc in
              alone ∙ ap (λ n. run_at n (clusters_of old.l1_table) k) here ∙ ap (λ n. run_at (h.l1_offset / cluster_size h) n k) clusters_are
          | inr none ↦
              let zero : h.l1_entries ≡ 0 = omega (arith, none) in
              let nothing : clusters_of old.l1_table ≡ 0 = clusters_are ∙ no_clusters (8 * h.l1_entries) (cluster_size h) (file_sizes view p old.file sound.file).some (omega (arith, none)) in
              alone ∙ ap (λ n. run_at cluster n k) nothing ∙ run_none cluster k ∙ sym (none_in_run zero k)
        ]

    pub no_data : (c : Option ℕ) (k : ℕ) → to_free of_data (listed (run_of_table old.l1_table c)) k ≡ 0
    no_data None k = refl
    no_data (Some cluster) k = omega arith

    module _ (mid : Qcow2 S F) (takes : InternalMove view backing p (without_l1 (pending_with_listed p old mid) h) old mid out) (list : List ClustersToFreeEntry) (former : Option ClustersToFreeEntry) (grows : ListGrows old mid)
        (is : former ≡ run_of_table old.l1_table old.l1_table.cluster) (longer : list ≡ mid.file.free_list ++ listed former) where
      abbrev final : Qcow2 S F
      final = record mid { file = record mid.file { free_list = list } }

      list_is : list ≡ mid.file.free_list ++ listed (run_of_table old.l1_table old.l1_table.cluster)
      list_is = longer ∙ ap (λ f. mid.file.free_list ++ listed f) is

      to_be_freed : without_l1 (pending_with_listed p old mid) h ≡ pending_with_listed p old final
      to_be_freed =
          let more = listed (run_of_table old.l1_table old.l1_table.cluster) in
          pending_same (without_l1 (pending_with_listed p old mid) h) (pending_with_listed p old final) (λ k. refl) (λ k. refl)
          (λ k.
          let since = ap (λ l. to_free of_tables l k) grows.is ∙ free_more of_tables old.file.free_list grows.more k in
          let sum = ap (λ l. to_free of_tables l k) list_is ∙ free_more of_tables mid.file.free_list more k in
          let run = former_is old.l1_table.cluster refl k in
          omega (arith, since, sum, run))
          (λ k.
          let since = ap (λ l. to_free of_data l k) grows.is ∙ free_more of_data old.file.free_list grows.more k in
          let sum = ap (λ l. to_free of_data l k) list_is ∙ free_more of_data mid.file.free_list more k in
          let none = no_data old.l1_table.cluster k in
          omega (arith, since, sum, none))
          (λ k. refl)

      pub lengthened : InternalMove view backing p (pending_with_listed p old final) old final out
      lengthened =
          let q = without_l1 (pending_with_listed p old mid) h in
          subst (λ (r : Pending). InternalMove view backing p r old final out) to_be_freed
          (move_then p q q old mid final takes
          (file_step_kept q q mid final (λ k some. some) (keeps_listed view backing out q q mid list (listed former) takes.sound longer (safe_step_none (state_in view mid.file q) takes.sound.file.caches.kept.kept.crash_invariant)) takes.sound))

-- ---- a call that makes an L1 entry
module _ {S F : Type 0} (view : S → StorageView) (backing : F → BackingView) (out : Mappings) (old new : Qcow2 S F) (sound : ImageInvariant view backing (pending_in view backing old out) old out) where
  module _ (file_step : InternalMove view backing (pending_in view backing old out) (pending_with_listed (pending_in view backing old out) old new) old new out) where
    pending_now : pending_with_listed (pending_in view backing old out) old new ≡ pending_in view backing new out
    pending_now = followed view backing old new out sound file_step.list file_step.sound

    pub stays_moved : InternalCall view backing old new out
    stays_moved = record {
      works = record {
        setting = same_setting _ _ (ap (λ (h : HeaderFields). cluster_size h) file_step.header) file_step.below;
        surplus = λ still. ap (λ (q : Pending). q.surplus) (sym pending_now);
        beside = λ still. all_stay view old.file new.file (pending_in view backing old out) (pending_with_listed (pending_in view backing old out) old new) sound.file.caches.kept.kept.crash_invariant file_step.sound.file.caches.kept.kept.crash_invariant [] file_step.covers;
        leaks = file_step.leaks;
        stops = stops_of (abstract_of view backing old out) (abstract_of view backing new out) nothing_given [] file_step.since (λ still. file_step.safe_step.known);
      };
      sound = subst (λ (q : Pending). ImageInvariant view backing q new out) pending_now file_step.sound;
      same = still_shown view backing old new out (pending_in view backing old out) (pending_with_listed (pending_in view backing old out) old new) sound (λ k. omega arith) (λ k. omega arith) file_step.sound file_step.header file_step.bytes file_step.shows file_step.below;
      header = file_step.header;
      covers = file_step.covers;
    }

  pub refused_moved : (e : ImageError) → RefusedMove view backing (pending_in view backing old out) old new out e → RefusedCall view backing old new out e
  refused_moved e left = elim left [
    | inl keeps ↦ inl (stays_kept view backing out old new sound keeps)
    | inr interruption ↦ inr (break_off_so view backing out old new e interruption.interrupted (ap (λ (h : HeaderFields). cluster_size h) interruption.header) interruption.below interruption.leaks)
  ]

module _ {S F : Type 0} (view : S → StorageView) (backing : F → BackingView) (out : Mappings) where
  -- the entry is there already
  pub makes_none : (image : Qcow2 S F) → ImageInvariant view backing (pending_in view backing image out) image out → MakesEntry view backing image image out (Ok tt)
  makes_none image sound =
      let p = pending_in view backing image out in
      stays_kept view backing out image image sound (as_listed_after view backing out p image image refl (keeps_none view backing out p image sound))

  -- what is listed is freed after a part of the call
  pub freed_then : (old mid new : Qcow2 S F) → InternalCall view backing old mid out → (r : Result (Unit {0}) ImageError) → FreesListed view backing (beside view backing mid out) mid new out r → MakesEntry view backing old new out r
  freed_then old mid new first (Ok x) frees = stays_then view backing out old mid new first (tidy_stays view backing mid out new first.sound frees)
  freed_then old mid new first (Err e) frees = refused_then view backing out old mid new first e (freed_refused view backing mid out new e first.sound frees)

-- a part that is refused takes nothing from the list, except after a fault
pub listed_moved : {S F : Type 0} (view : S → StorageView) (backing : F → BackingView) (p : Pending) (old new : Qcow2 S F) (out : Mappings) (e : ImageError) → RefusedMove view backing p old new out e → IsFault e ⊎ ListGrows old new
listed_moved view backing p old new out e (inl keeps) = inr keeps.list
listed_moved view backing p old new out e (inr interruption) = inl interruption.interrupted.fault
