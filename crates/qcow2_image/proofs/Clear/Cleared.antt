-- Entries of a cached table are cleared one after another, and the clusters that they named wait to be freed.
use Rattle.std.proofs.Common.{◌≡◌, ◌+◌, ◌-◌, ◌*◌, ◌^◌, ◌<◌, ◌≤◌, ◌∷◌, ◌++◌, inl, inr, ℕ, zero, suc, true, false, List, [], Option, refl, sym, ap, ◌∙◌, subst, arith, min, IsSome, IsTrue, nat_le, nat_lt}
use Rattle.std.proofs.Math.Nat.{mul-le-mul_right}
use Rattle.qcow2_image.proofs.Common.{cases_eq, cases_lt, and_from, and_left, and_right, cond-true, cond-false, le-leb, lt-leb, lt-ltb, le-ltb, pow_pos, pow_mono, BackingView, StorageView, Bytes, HeaderFields, cluster_size, cover, IsInReach, old_data_run, Setting, EffectOnSound, cleared, Pending, Disk, disk, uncovered, zeroed_between, ClearsRange, MapsEntry, MapsInTurn, given_shown, DriverState, guest_at, GivenBytes, entries_safe_throughout, KeepsPinsAndNotes, MetadataCaches, ClustersToFreeEntry, state_in, view_in, contents_in, known_in, IsEntryAt, l2_at, AreCleared, ClearsImageCovers, ClearsEntry, ClearsPart, ClearsTable, MayClear, cover_once_cleared, given_bytes_between, is_between, is_cleared, listed_by, setting_of, shown_by, with_caches, ClearMode, Zeros, KeptZeros, Qcow2, Prepared, ImageInvariant, abstract_of, backing_bytes, disk_of, listed_run, of_data, of_tables, pending_in, to_free, IsUngiven, file_invariant_of, Mappings, Image}
use Rattle.qcow2_laws.proofs.MappedRanges.{clusters_in_turn_are_a_range}
use Rattle.qcow2_alloc.proofs.CachePins.{marks_none, marks_then}
use Rattle.qcow2_image.specs.declared.discarding.ClearMode.TheVariants.{Uncovered}
use Rattle.qcow2_image.proofs.Call.Answered.{same_guest}
use Rattle.qcow2_image.proofs.Call.Stepped.{Steps, stepped_sound, stepped_works}
use Rattle.qcow2_image.proofs.Clear.Entries.{OneCleared, one_cleared}
use Rattle.qcow2_image.proofs.Commit.Committing.{listed_tables}
use Rattle.qcow2_image.proofs.Open.Reftables.{reftable_still}
use Rattle.qcow2_image.proofs.Images.Sound.{free_more}
use Rattle.qcow2_image.proofs.Images.UngivenCovers.{ungiven_stay}
use Rattle.qcow2_image.proofs.Images.Places.{inside_of, from_image}

-- what is listed is no table
pub listed_no_table : (how : ClearMode) (h : HeaderFields) (known : Bytes) (first n k : ℕ) → to_free of_tables (listed_by how h known first n) k ≡ 0
listed_no_table how h known first zero k = refl
listed_no_table how h known first (suc n) k =
    let run = old_data_run h.cluster_bits (cover h known (first + n)) (cover_once_cleared how (cover h known (first + n))) in
    let more = free_more of_tables (listed_by how h known first n) (listed_run run) k in
    let none = listed_no_table how h known first n k in
    let last = listed_tables run k in
    omega (arith, more, none, last)

module _ {S F : Type 0} (view : S → StorageView) (backing : F → BackingView) where
  -- none is yet
  none_cleared : (how : ClearMode) (row column : ℕ) (a : Qcow2 S F) (out : Mappings) (p : Pending) → ImageInvariant view backing p a out → AreCleared view backing how row column 0 a a.file.caches out p
  none_cleared how row column a out p sound = record {
    now = p;
    sound_now = sound;
    turn = refl;
    cleared_all = λ i lt. absurd (omega (arith, lt));
    stays = λ g out. refl;
    table_stays = refl;
    counts = λ k. refl;
    new_data = λ k. refl;
    new_tables = λ k. refl;
    old_tables = λ k. refl;
    surplus = refl;
    old_data = λ k. sym (omega arith);
  }

  -- one more is
  module _ (how : ClearMode) (t row column n : ℕ) (a : Qcow2 S F) (caches : MetadataCaches S) (out : Mappings) (p : Pending) (may : MayClear view backing how t row column (suc n) a out p)
      (so_far : AreCleared view backing how row column n a caches out p) (found : IsSome (l2_at caches t)) (marks : KeepsPinsAndNotes a.file.caches caches) (c : Qcow2 S F) (clears : ClearsEntry how t (column + n) (with_caches a caches) c) where
    abbrev h : HeaderFields
    h = a.file.header.fields

    abbrev first : ℕ
    first = guest_at h row column

    abbrev b : Qcow2 S F
    b = with_caches a caches

    guest_is : guest_at h row (column + n) ≡ first + n
    guest_is = omega arith

    at : IsEntryAt h (known_in view b.file) row t (column + n)
    at = record { real = λ none. may.real (sym so_far.table_stays ∙ none); place = so_far.table_stays ∙ may.place; within = let w = may.within in omega (arith, w) }

    one : OneCleared view backing how row (column + n) b c out so_far.now
    one = one_cleared view backing b out so_far.now so_far.sound_now how t row (column + n) at may.copied found (marks.pins t ∙ may.unpinned) may.version c clears

    next : OneCleared view backing how row (column + n) b (with_caches a c.file.caches) out so_far.now
    next = subst (λ (x : Qcow2 S F). OneCleared view backing how row (column + n) b x out so_far.now) clears.rest one

    abbrev e : Qcow2 S F
    e = with_caches a c.file.caches

    same_word : cover h (known_in view b.file) (first + n) ≡ cover h (known_in view a.file) (first + n)
    same_word = sym (so_far.stays (first + n) (inr (omega arith)))

    reached : IsInReach (cover h (known_in view b.file) (guest_at h row (column + n)))
    reached = subst (λ g. IsInReach (cover h (known_in view b.file) g)) (sym guest_is) (subst IsInReach (sym same_word) (may.reach n (omega arith)))

    last_run : listed_run (old_data_run h.cluster_bits (cover h (known_in view b.file) (guest_at h row (column + n))) (cover_once_cleared how (cover h (known_in view b.file) (guest_at h row (column + n)))))
        ≡ listed_run (old_data_run h.cluster_bits (cover h (known_in view a.file) (first + n)) (cover_once_cleared how (cover h (known_in view a.file) (first + n))))
    last_run = ap (λ v. listed_run (old_data_run h.cluster_bits v (cover_once_cleared how v))) (ap (cover h (known_in view b.file)) guest_is ∙ same_word)

    pub next_cleared : AreCleared view backing how row column (suc n) a c.file.caches out p
    next_cleared = record {
      now = next.now;
      sound_now = next.sound_now;
      turn = (state_in view b.file so_far.now, so_far.turn, subst (λ g. MapsEntry (is_cleared how) g (state_in view b.file so_far.now) (state_in view e.file next.now)) guest_is next.turn);
      cleared_all = λ i lt. elim (cases_eq i n) [
        | inl here ↦
            ap (λ j. cover h (known_in view e.file) (first + j)) here ∙ ap (cover h (known_in view e.file)) (sym guest_is) ∙ next.cleared ∙ ap (λ g. cover_once_cleared how (cover h (known_in view b.file) g)) guest_is ∙ ap (cover_once_cleared how) same_word
            ∙ ap (λ j. cover_once_cleared how (cover h (known_in view a.file) (first + j))) (sym here)
        | inr other ↦ sym (next.stays (first + i) (λ same. other (let g = guest_is in omega (arith, same, g)))) ∙ so_far.cleared_all i (omega (arith, lt, other))
      ];
      stays = λ g out. so_far.stays g (elim out [ inl below ↦ inl below | inr past ↦ inr (omega (arith, past)) ]) ∙ next.stays g (λ same. let is = guest_is in elim out [ inl below ↦ absurd (omega (arith, below, same, is)) | inr past ↦ absurd (omega (arith, past, same, is)) ]);
      table_stays = next.table_stays ∙ so_far.table_stays;
      counts = λ k. so_far.counts k ∙ next.counts k;
      new_data = λ k. next.new_data reached k ∙ so_far.new_data k;
      new_tables = λ k. next.new_tables k ∙ so_far.new_tables k;
      old_tables = λ k. next.old_tables k ∙ so_far.old_tables k;
      surplus = next.surplus ∙ so_far.surplus;
      old_data = λ k.
          let before = so_far.old_data k in
          let last = next.old_data reached k in
          let run = ap (λ l. to_free of_data l k) last_run in
          let more = free_more of_data (listed_by how h (known_in view a.file) first n) (listed_run (old_data_run h.cluster_bits (cover h (known_in view a.file) (first + n)) (cover_once_cleared how (cover h (known_in view a.file) (first + n))))) k in
          omega (arith, before, last, run, more);
    }

  pub first_none : (how : ClearMode) (t column : ℕ) (a : Qcow2 S F) → ClearsTable view backing how t column 0 a a
  first_none how t column a = record {
    rest = refl;
    marks = marks_none a.file.caches;
    new_data = λ some. some;
    part = λ out p row may. none_cleared how row column a out p may.sound;
    recorded = λ out p row may some. absurd (omega (arith, some));
    behind = λ bits are. are;
  }

  module _ (how : ClearMode) (t column n : ℕ) (a b c : Qcow2 S F) (first : ClearsTable view backing how t column n a b) (clears : ClearsEntry how t (min (column + n) (2 ^ 64 - 1)) b c) where
    abbrev here : Qcow2 S F
    here = with_caches a b.file.caches

    clears_here : ClearsEntry how t (min (column + n) (2 ^ 64 - 1)) here c
    clears_here = subst (λ (x : Qcow2 S F). ClearsEntry how t (min (column + n) (2 ^ 64 - 1)) x c) first.rest clears

    fewer : (out : Mappings) (p : Pending) (row : ℕ) → MayClear view backing how t row column (suc n) a out p → MayClear view backing how t row column n a out p
    fewer out p row may = record {
      sound = may.sound;
      real = may.real;
      place = may.place;
      within = let w = may.within in omega (arith, w);
      copied = may.copied;
      found = may.found;
      unpinned = may.unpinned;
      version = may.version;
      reach = λ i lt. may.reach i (omega (arith, lt));
    }

    -- the index isn't cut
    index_is : (out : Mappings) (p : Pending) (row : ℕ) → MayClear view backing how t row column (suc n) a out p → min (column + n) (2 ^ 64 - 1) ≡ column + n
    index_is out p row may =
        let few : cluster_size a.file.header.fields ≤ 2 ^ 21 = pow_mono may.sound.file.caches.kept.kept.crash_invariant.top.header_reads.well_formed.in_range.cluster_bits.1 in
        let w = may.within in
        omega (arith, few, w)

    clears_at : (out : Mappings) (p : Pending) (row : ℕ) → MayClear view backing how t row column (suc n) a out p → ClearsEntry how t (column + n) here c
    clears_at out p row may = subst (λ i. ClearsEntry how t i here c) (index_is out p row may) clears_here

    pub first_next : ClearsTable view backing how t column (suc n) a c
    first_next = record {
      rest = clears_here.rest;
      marks = marks_then a.file.caches b.file.caches c.file.caches first.marks clears_here.marks;
      new_data = λ some. clears_here.new_data (first.new_data some);
      part = λ out p row may. next_cleared how t row column n a b.file.caches out p may (first.part out p row (fewer out p row may)) (first.new_data may.found) first.marks c (clears_at out p row may);
      recorded = λ out p row may some.
          let so_far = first.part out p row (fewer out p row may) in
          (clears_at out p row may).recorded a.file.header.fields so_far.now (contents_in view a.file) row so_far.sound_now.file.caches
          (record { real = λ none. may.real (sym so_far.table_stays ∙ none); place = so_far.table_stays ∙ may.place; within = let w = may.within in omega (arith, w) }) (first.new_data may.found);
      behind = λ bits are. clears_here.behind bits (first.behind bits are);
    }

  -- ---- all are, and what they named is to be freed
  module _ (how : ClearMode) (row column n : ℕ) (a : Qcow2 S F) (caches : MetadataCaches S) (out : Mappings) (sound : ImageInvariant view backing (pending_in view backing a out) a out)
      (all : AreCleared view backing how row column n a caches out (pending_in view backing a out)) (recorded : IsTrue caches.is_changed) where
    abbrev g : ℕ
    g = guest_at a.file.header.fields row column

    abbrev h' : HeaderFields
    h' = a.file.header.fields

    abbrev listed : List ClustersToFreeEntry
    listed = listed_by how h' (known_in view a.file) g n

    abbrev final : Qcow2 S F
    final = record a { file = record a.file { caches = caches; free_list = a.file.free_list ++ listed } }

    abbrev s : DriverState
    s = state_in view a.file (pending_in view backing a out)

    abbrev s' : DriverState
    s' = state_in view final.file all.now

    abbrev from : ℕ
    from = g * cluster_size h'

    abbrev to : ℕ
    to = (g + n) * cluster_size h'

    -- what the disk shows then, over any disk below
    abbrev shown_over : ClearMode → Bytes → Disk → ℕ → ℕ → Disk
    shown_over Uncovered below d from to = uncovered d below from to
    shown_over Zeros below d from to = zeroed_between d from to
    shown_over KeptZeros below d from to = zeroed_between d from to

    ranged : (x : ClearMode) → MapsInTurn (is_cleared x) g n s s' → ClearsRange g n s s' (shown_over x)
    ranged Uncovered turn = clusters_in_turn_are_a_range.uncovered s s' g n sound.file.caches.kept.kept.crash_invariant (inside_of sound) turn
    ranged Zeros turn = clusters_in_turn_are_a_range.zeroed s s' g n sound.file.caches.kept.kept.crash_invariant (inside_of sound) turn
    ranged KeptZeros turn = clusters_in_turn_are_a_range.zeroed s s' g n sound.file.caches.kept.kept.crash_invariant (inside_of sound) turn

    range : ClearsRange g n s s' (shown_over how)
    range = ranged how all.turn

    shown_is : (x : ClearMode) (y : Setting) (d : Disk) (i j : ℕ) → shown_over x y.backing d i j ≡ cleared y d (shown_by x) i j
    shown_is Uncovered y d i j = refl
    shown_is Zeros y d i j = refl
    shown_is KeptZeros y d i j = refl

    disk_now : disk s'.known (backing_bytes view backing a.backing) ≡ cleared (setting_of view backing a) (disk_of view backing Image a) (shown_by how) from to
    disk_now = range.shows (backing_bytes view backing a.backing) ∙ shown_is how (setting_of view backing a) (disk_of view backing Image a) from to

    abbrev given : Bytes → List GivenBytes
    given below = given_shown (disk s'.known below) from to ∷ []

    -- mappings outside of the range stay the same
    covers_beside : (c : ℕ) → IsUngiven (cluster_size h') (given (backing_bytes view backing a.backing)) c → cover h' (known_in view a.file) c ≡ cover h' (known_in view final.file) c
    covers_beside c untouched = elim (cases_lt c g) [
      | inl below ↦ all.stays c (inl below)
      | inr le ↦ elim (cases_lt c (g + n)) [
        | inl inside ↦
            let some : 0 < cluster_size h' = pow_pos h'.cluster_bits in
            let first_at : g * cluster_size h' ≤ c * cluster_size h' = mul-le-mul_right (cluster_size h') le in
            let last_at : (c + 1) * cluster_size h' ≤ (g + n) * cluster_size h' = mul-le-mul_right (cluster_size h') (omega (arith, inside)) in
            absurd (untouched.0 (omega (arith, some, first_at, last_at), omega (arith, some, first_at), omega (arith, some, last_at)))
        | inr past ↦ all.stays c (inr past)
      ]
    ]

    steps : Steps view backing a final out out given all.now
    steps = record {
      sound = record {
        works = all.sound_now.works;
        file = file_invariant_of all.sound_now.file.honest all.sound_now.file.caches all.sound_now.file.named_blocks all.sound_now.file.room;
        l1_table = record { cluster = sound.l1_table.cluster; bits = sound.l1_table.bits; count = sound.l1_table.count; entries = sound.l1_table.entries };
        reftable = reftable_still view (record a.file { caches = caches }) final.file refl refl (λ k. refl) a.allocator all.sound_now.reftable;
        stands = all.sound_now.stands;
        below = all.sound_now.below;
        ready = λ j r there. let ready = all.sound_now.ready j r there in record { own = ready.own; mapped = ready.mapped };
        pinned = all.sound_now.pinned;
        once = all.sound_now.once;
      };
      only = record {
        new_data = all.new_data;
        new_tables = all.new_tables;
        old_tables = λ k. let same = all.old_tables k in let more = free_more of_tables a.file.free_list listed k in let none = listed_no_table how h' (known_in view a.file) g n k in omega (arith, same, more, none);
        old_data = λ k. let is = all.old_data k in let more = free_more of_data a.file.free_list listed k in omega (arith, is, more);
      };
      safe_step = range.safe_step;
      since = entries_safe_throughout (view_in view a.file) s s' (is_cleared how) g n given refl all.turn range.safe_step;
      header = refl;
      below = refl;
      surplus = all.surplus;
      leaks = refl;
      beside = ungiven_stay view a.file final.file (pending_in view backing a out) all.now sound.file.caches.kept.kept.crash_invariant range.safe_step.sound (given (backing_bytes view backing a.backing)) covers_beside;
    }

    given_is : given (backing_bytes view backing a.backing) ≡ given_bytes_between view backing out.place a how from to
    given_is = from_image (λ place. given (backing_bytes view backing a.backing) ≡ given_bytes_between view backing place a how from to) sound (ap (λ d. given_shown d from to ∷ []) disk_now)

    -- a guest cluster outside lies outside in bytes too
    module _ (c : ℕ) where
      below_first : c < g → is_between h' from to c ≡ false
      below_first lt =
          let some : 0 < cluster_size h' = pow_pos h'.cluster_bits in
          let m : (c + 1) * cluster_size h' ≤ g * cluster_size h' = mul-le-mul_right (cluster_size h') (omega (arith, lt)) in
          and_left (nat_le from (c * cluster_size h')) (nat_lt (c * cluster_size h') to) (lt-leb from (c * cluster_size h') (omega (arith, m, some)))

      from_first : g ≤ c → from ≤ c * cluster_size h'
      from_first le = mul-le-mul_right (cluster_size h') le

      past_last : g + n ≤ c → is_between h' from to c ≡ false
      past_last le = and_right (nat_le from (c * cluster_size h')) (nat_lt (c * cluster_size h') to) (le-ltb (c * cluster_size h') to (mul-le-mul_right (cluster_size h') le))

      within_both : g ≤ c → c < g + n → is_between h' from to c ≡ true
      within_both le lt =
          let some : 0 < cluster_size h' = pow_pos h'.cluster_bits in
          let m : (c + 1) * cluster_size h' ≤ (g + n) * cluster_size h' = mul-le-mul_right (cluster_size h') (omega (arith, lt)) in
          and_from (nat_le from (c * cluster_size h')) (nat_lt (c * cluster_size h') to) (le-leb from (c * cluster_size h') (from_first le)) (lt-ltb (c * cluster_size h') to (omega (arith, m, some)))

    covers_now : ClearsImageCovers how from to h' (known_in view a.file) h' (known_in view final.file)
    covers_now c = elim (cases_lt c g) [
      | inl below ↦ sym (all.stays c (inl below)) ∙ sym (cond-false (is_between h' from to c) (cover_once_cleared how (cover h' (known_in view a.file) c)) (cover h' (known_in view a.file) c) (below_first c below))
      | inr above ↦ elim (cases_lt c (g + n)) [
        | inl inside ↦
            let e : g + (c - g) ≡ c = omega (arith, above) in
            ap (cover h' (known_in view final.file)) (sym e) ∙ all.cleared_all (c - g) (omega (arith, above, inside)) ∙ ap (λ x. cover_once_cleared how (cover h' (known_in view a.file) x)) e
            ∙ sym (cond-true (is_between h' from to c) (cover_once_cleared how (cover h' (known_in view a.file) c)) (cover h' (known_in view a.file) c) (within_both c above inside))
        | inr past ↦ sym (all.stays c (inr past)) ∙ sym (cond-false (is_between h' from to c) (cover_once_cleared how (cover h' (known_in view a.file) c)) (cover h' (known_in view a.file) c) (past_last c past))
      ]
    ]

    pub all_cleared : ClearsPart view backing how (guest_at a.file.header.fields row column * cluster_size a.file.header.fields) ((guest_at a.file.header.fields row column + n) * cluster_size a.file.header.fields) a
        (record a { file = record a.file { caches = caches; free_list = a.file.free_list ++ listed_by how a.file.header.fields (known_in view a.file) (guest_at a.file.header.fields row column) n } }) out
    all_cleared = record {
      works = subst (λ gs. EffectOnSound (abstract_of view backing a out) (abstract_of view backing final out) gs []) given_is (stepped_works view backing a final out out given all.now steps);
      sound = stepped_sound view backing a final out out given all.now steps;
      shows = same_guest _ _ (from_image (λ place. disk_of view backing place final ≡ cleared (setting_of view backing a) (disk_of view backing place a) (shown_by how) from to) sound disk_now) refl;
      header = refl;
      covers = covers_now;
      recorded = recorded;
    }
