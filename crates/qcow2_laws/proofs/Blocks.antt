-- Refcounts of one refblock, and entries of one L2 table, change in the known contents.
use Rattle.std.proofs.Common.{◌≡◌, ◌+◌, ◌-◌, ◌*◌, ◌/◌, ◌%◌, ◌<◌, ◌≤◌, ◌≢◌, ◌⊎◌, ℕ, List, [], refl, sym, ap, ◌∙◌, arith, inl, inr, subst}
use Rattle.qcow2_laws.proofs.Common.{cases_eq, cases_lt, eq-eqb, ne_eqb, cond-true, cond-false, div-add-mod', mod_below, mul-le, Bytes, HeaderFields, cluster_size, entries_per_cluster, count_width, counts_per_block, l2_entry, reftable_entry, count, block_count, host_offset, block_offset, cover, entry_cover, guest_value, in_cluster, named_by_l1_table, named_for_tables, CoverIsAligned, StandsIfBeside, GivenBytes, IsGiven, Checkpoint, checkpoint_with, StopOkEverywhere, Direction, L2DependsOnRb, RbDependsOnL2, guests, names, marks, named_in_either, table_at, Pending, cluster, CrashInvariant, SafeStep, IsTop, SameTop, SameCovers, SameCounts, one_at, with_new_data, with_new_tables, without_old_tables, without_old_data, remapped, IsSameOutside}
use Rattle.qcow2_laws.proofs.Places.{Sizes, Sizes-from, count_in, cover_in, has_table}
use Rattle.qcow2_laws.proofs.Tops.{IsTop-top, for_tables-top}
use Rattle.qcow2_laws.proofs.Clusters.{new_data_unnamed}
use Rattle.qcow2_laws.proofs.Mixes.{tied, good}
use Rattle.qcow2_laws.proofs.Changes.{one_at-le, at_one, data_counted, table_counted, table_freed, data_freed, covers_kept, entry_mapped, mapping_kept}
use Rattle.qcow2_laws.proofs.SafeSteps.{state}
use Rattle.qcow2_laws.proofs.Shares.{in_l1, in_reftable, shares, block_has, table_has, top_beside, cover_beside, count_beside, block_others, table_others}

-- a cluster that a table lies in is neither named by entries nor held, and is counted
module _ (h : HeaderFields) (d : Direction) (p : Pending) (on_storage known : Bytes) (crash_invariant : CrashInvariant h d p on_storage known) (c : ℕ) (table_refs : 0 < named_for_tables h on_storage c) where
  pub table_apart : named_in_either h on_storage known c + p.new_data c ≡ 0
  table_apart =
      let table = (crash_invariant.each_cluster c).table table_refs in
      elim (cases_lt 0 (p.new_data c)) [
        | inl new_data ↦ absurd (let none = new_data_unnamed d (cluster h p on_storage known c) (p.surplus c) (tied h p on_storage known c) new_data (good h d p on_storage known crash_invariant c) in omega (arith, none.1))
        | inr none ↦ omega arith
      ]

  pub table_once : named_for_tables h on_storage c ≡ 1
  table_once = let table = (crash_invariant.each_cluster c).table table_refs in omega arith

  pub tables_once : (named_for_tables h on_storage c ≤ 1) × (named_for_tables h known c ≤ 1)
  tables_once = let e = for_tables-top h on_storage known c crash_invariant.same_top in let t = table_once in (omega arith, omega arith)

  pub table_is_counted : 0 < count h known c
  table_is_counted = let tally = (crash_invariant.each_cluster c).tally in omega arith

-- the number of a cluster within its refblock distinguishes it from the others there
one_in_block : (per c0 c : ℕ) → 0 < per → c / per ≡ c0 / per → one_at (c0 % per) (c % per) ≡ one_at c0 c
one_in_block per c0 c some same = elim (cases_eq c c0) [
  | inl e ↦ cond-true {A = ℕ} _ 1 0 (eq-eqb (c % per) (c0 % per) (ap (λ n. n % per) e)) ∙ sym (cond-true {A = ℕ} _ 1 0 (eq-eqb c c0 e))
  | inr ne ↦
      let a = div-add-mod' c per in
      let b = div-add-mod' c0 per in
      let q : c / per * per ≡ c0 / per * per = ap (λ n. n * per) same in
      cond-false {A = ℕ} _ 1 0 (ne_eqb (c % per) (c0 % per) (λ e. ne (omega arith))) ∙ sym (cond-false {A = ℕ} _ 1 0 (ne_eqb c c0 ne))
]

not_at : (per c0 c : ℕ) → c / per ≢ c0 / per → one_at c0 c ≡ 0
not_at per c0 c other = cond-false {A = ℕ} _ 1 0 (ne_eqb c c0 (λ e. other (ap (λ n. n / per) e)))

-- ---- one count of a refblock changes
module _ (h : HeaderFields) (d : Direction) (p : Pending) (on_storage known known' : Bytes) (crash_invariant : CrashInvariant h d p on_storage known) (c0 : ℕ)
    (real : block_offset (reftable_entry h known (c0 / counts_per_block h)) ≢ 0)
    (outside : IsSameOutside (cluster_size h) (block_offset (reftable_entry h known (c0 / counts_per_block h)) / cluster_size h) known known') where
  known_top : IsTop h known
  known_top = IsTop-top h on_storage known crash_invariant.same_top crash_invariant.top

  sizes : Sizes h
  sizes = Sizes-from h known known_top.header_reads

  others_here : in_cluster h (block_offset (reftable_entry h known (c0 / counts_per_block h)) / cluster_size h) 0 + in_l1 h (block_offset (reftable_entry h known (c0 / counts_per_block h)) / cluster_size h) + in_reftable h (block_offset (reftable_entry h known (c0 / counts_per_block h)) / cluster_size h) + named_by_l1_table h known (block_offset (reftable_entry h known (c0 / counts_per_block h)) / cluster_size h) < named_for_tables h known (block_offset (reftable_entry h known (c0 / counts_per_block h)) / cluster_size h)
  others_here =
      let s = shares h known (block_offset (reftable_entry h known (c0 / counts_per_block h)) / cluster_size h) in
      let one = block_has h known (c0 / counts_per_block h) real in
      omega arith

  storage_fixed : 0 < named_for_tables h on_storage (block_offset (reftable_entry h known (c0 / counts_per_block h)) / cluster_size h)
  storage_fixed = let e = for_tables-top h on_storage known (block_offset (reftable_entry h known (c0 / counts_per_block h)) / cluster_size h) crash_invariant.same_top in let f = others_here in omega arith

  once : named_for_tables h known (block_offset (reftable_entry h known (c0 / counts_per_block h)) / cluster_size h) ≤ 1
  once = (tables_once h d p on_storage known crash_invariant (block_offset (reftable_entry h known (c0 / counts_per_block h)) / cluster_size h) storage_fixed).1

  pub counted_top : SameTop h known known'
  counted_top = top_beside h known known' known_top (block_offset (reftable_entry h known (c0 / counts_per_block h)) / cluster_size h) once outside (let f = others_here in omega arith)

  pub counted_covers : SameCovers h known known'
  counted_covers g = cover_beside h known known' known_top (block_offset (reftable_entry h known (c0 / counts_per_block h)) / cluster_size h) once outside (let f = others_here in omega arith) g (counted_top.l1 _)

  -- what entries name, and what is held, isn't where the refblock lies
  stays : (o : ℕ) → 0 < named_in_either h on_storage known (o / cluster_size h) + p.new_data (o / cluster_size h) → known o ≡ known' o
  stays o some = outside o (λ e.
      let apart = table_apart h d p on_storage known crash_invariant (block_offset (reftable_entry h known (c0 / counts_per_block h)) / cluster_size h) storage_fixed in
      let here = subst (λ n. 0 < named_in_either h on_storage known n + p.new_data n) e some in
      absurd (omega arith))

  bytes : (o : ℕ) → 0 < named_in_either h on_storage known (o / cluster_size h) + p.new_data (o / cluster_size h) → on_storage o ≡ known' o
  bytes o some = crash_invariant.not_overlaid o some ∙ stays o some

  -- a count in this refblock, before and after
  count_here : (c : ℕ) → c / counts_per_block h ≡ c0 / counts_per_block h → (count h known c ≡ block_count known (count_width h) (block_offset (reftable_entry h known (c0 / counts_per_block h))) (c % counts_per_block h))
      × (count h known' c ≡ block_count known' (count_width h) (block_offset (reftable_entry h known (c0 / counts_per_block h))) (c % counts_per_block h))
  count_here c here =
      let at : block_offset (reftable_entry h known (c / counts_per_block h)) ≡ block_offset (reftable_entry h known (c0 / counts_per_block h)) = ap (λ k. block_offset (reftable_entry h known k)) here in
      let at' : block_offset (reftable_entry h known' (c / counts_per_block h)) ≡ block_offset (reftable_entry h known (c0 / counts_per_block h)) = ap block_offset (sym (counted_top.reftable (c / counts_per_block h))) ∙ at in (
        count_in h known c (λ none. real (sym at ∙ none)) ∙ ap (λ b. block_count known (count_width h) b (c % counts_per_block h)) at,
        count_in h known' c (λ none. real (sym at' ∙ none)) ∙ ap (λ b. block_count known' (count_width h) b (c % counts_per_block h)) at',
      )

  -- the count rises by one
  module _ (checkpoint_with : (i : ℕ) → i < counts_per_block h → block_count known' (count_width h) (block_offset (reftable_entry h known (c0 / counts_per_block h))) i
      ≡ block_count known (count_width h) (block_offset (reftable_entry h known (c0 / counts_per_block h))) i + one_at (c0 % counts_per_block h) i) (free : count h known c0 ≡ 0) where
    pub counts_more : (c : ℕ) → count h known' c ≡ count h known c + one_at c0 c
    counts_more c = elim (cases_eq (c / counts_per_block h) (c0 / counts_per_block h)) [
      | inl here ↦
          let at = count_here c here in
          let e = checkpoint_with (c % counts_per_block h) (mod_below c (counts_per_block h) sizes.counts) in
          let one = one_in_block (counts_per_block h) c0 c sizes.counts here in
          omega (arith, at.0, at.1)
      | inr other ↦
          let e = block_others h known known' known_top (block_offset (reftable_entry h known (c0 / counts_per_block h)) / cluster_size h) once outside (c0 / counts_per_block h) real refl counted_top c other in
          let none = not_at (counts_per_block h) c0 c other in
          omega arith
    ]

    table_counted_free : (c : ℕ) → 0 < one_at c0 c → count h known c ≡ 0
    table_counted_free c some = at_one c0 c (count h known) 0 free some

    pub table_allocated : CrashInvariant h d (with_new_tables p (one_at c0)) on_storage known'
    table_allocated = table_counted h p on_storage known known' (one_at c0) counted_top counted_covers (one_at-le c0) d crash_invariant bytes table_counted_free counts_more

    -- the new cluster holds what it holds on the storage
    pub data_allocated : d ≡ L2DependsOnRb → ((o : ℕ) → o / cluster_size h ≡ c0 → on_storage o ≡ known o) → CrashInvariant h d (with_new_data p (one_at c0)) on_storage known'
    data_allocated is not_overlaid =
        subst (λ e. CrashInvariant h e (with_new_data p (one_at c0)) on_storage known') (sym is) (data_counted h p on_storage known known' (one_at c0) counted_top counted_covers (one_at-le c0) (subst (λ e. CrashInvariant h e p on_storage known) is crash_invariant)
        (λ o some. elim (cases_lt 0 (named_in_either h on_storage known (o / cluster_size h) + p.new_data (o / cluster_size h))) [
          | inl before ↦ bytes o before
          | inr none ↦
              let here : o / cluster_size h ≡ c0 = elim (cases_eq (o / cluster_size h) c0) [ inl e ↦ e | inr ne ↦ absurd (let z : one_at c0 (o / cluster_size h) ≡ 0 = cond-false {A = ℕ} _ 1 0 (ne_eqb (o / cluster_size h) c0 ne) in omega arith) ] in
              not_overlaid o here ∙ outside o (λ e.
              let used = table_is_counted h d p on_storage known crash_invariant (block_offset (reftable_entry h known (c0 / counts_per_block h)) / cluster_size h) storage_fixed in
              let zero : count h known (block_offset (reftable_entry h known (c0 / counts_per_block h)) / cluster_size h) ≡ 0 = ap (count h known) (sym e ∙ here) ∙ free in
              absurd (omega arith))
        ])
        table_counted_free counts_more)

  -- the count falls by one
  module _ (less : (i : ℕ) → i < counts_per_block h → block_count known' (count_width h) (block_offset (reftable_entry h known (c0 / counts_per_block h))) i + one_at (c0 % counts_per_block h) i
      ≡ block_count known (count_width h) (block_offset (reftable_entry h known (c0 / counts_per_block h))) i) where
    pub counts_less : (c : ℕ) → count h known' c + one_at c0 c ≡ count h known c
    counts_less c = elim (cases_eq (c / counts_per_block h) (c0 / counts_per_block h)) [
      | inl here ↦
          let at = count_here c here in
          let e = less (c % counts_per_block h) (mod_below c (counts_per_block h) sizes.counts) in
          let one = one_in_block (counts_per_block h) c0 c sizes.counts here in
          omega (arith, at.0, at.1)
      | inr other ↦
          let e = block_others h known known' known_top (block_offset (reftable_entry h known (c0 / counts_per_block h)) / cluster_size h) once outside (c0 / counts_per_block h) real refl counted_top c other in
          let none = not_at (counts_per_block h) c0 c other in
          omega arith
    ]

    pub table_released : 0 < p.old_tables c0 → CrashInvariant h d (without_old_tables p (one_at c0)) on_storage known'
    table_released some =
        table_freed h p on_storage known known' (one_at c0) counted_top counted_covers (one_at-le c0) d crash_invariant bytes (λ c at. old_tables_at c at) counts_less
      where
        old_tables_at : (c : ℕ) → 0 < one_at c0 c → 0 < p.old_tables c
        old_tables_at c at = let e = at_one c0 c p.old_tables (p.old_tables c0) refl at in omega arith

    pub data_released : d ≡ RbDependsOnL2 → 0 < p.old_data c0 → CrashInvariant h d (without_old_data p (one_at c0)) on_storage known'
    data_released is some =
        subst (λ e. CrashInvariant h e (without_old_data p (one_at c0)) on_storage known') (sym is) (data_freed h p on_storage known known' (one_at c0) counted_top counted_covers (one_at-le c0) (subst (λ e. CrashInvariant h e p on_storage known) is crash_invariant) bytes (λ c at. old_data_at c at) counts_less)
      where
        old_data_at : (c : ℕ) → 0 < one_at c0 c → 0 < p.old_data c
        old_data_at c at = let e = at_one c0 c p.old_data (p.old_data c0) refl at in omega arith

  -- whatever the counts are, guests see what they saw
  pub counts_step : (p' : Pending) → CrashInvariant h d p' on_storage known' → SafeStep (state h d p on_storage known) (state h d p' on_storage known') (λ _. []) []
  counts_step p' crash_invariant' = record {
    sound = crash_invariant';
    on_storage = λ backing m ok known_ok. ok;
    known = λ backing m ok known_ok. covers_kept h d d p p' on_storage known known' crash_invariant crash_invariant' counted_covers (λ o some. stays o (omega arith)) backing m known_ok;
  }

-- ---- one entry of an L2 table changes
module _ (h : HeaderFields) (d : Direction) (p : Pending) (on_storage known known' : Bytes) (crash_invariant : CrashInvariant h d p on_storage known) (i0 j0 : ℕ)
    (real : table_at h known i0 ≢ 0) (within : j0 < entries_per_cluster h)
    (outside : IsSameOutside (cluster_size h) (table_at h known i0 / cluster_size h) known known')
    (entries : (j : ℕ) → j < entries_per_cluster h → j ≢ j0 → l2_entry known (table_at h known i0) j ≡ l2_entry known' (table_at h known i0) j) where
  l2_known_top : IsTop h known
  l2_known_top = IsTop-top h on_storage known crash_invariant.same_top crash_invariant.top

  l2_fixed : 0 < named_for_tables h on_storage (table_at h known i0 / cluster_size h)
  l2_fixed =
      let e = for_tables-top h on_storage known (table_at h known i0 / cluster_size h) crash_invariant.same_top in
      let s = shares h known (table_at h known i0 / cluster_size h) in
      let one = table_has h known i0 real in
      omega arith

  l2_once : named_for_tables h known (table_at h known i0 / cluster_size h) ≤ 1
  l2_once = (tables_once h d p on_storage known crash_invariant (table_at h known i0 / cluster_size h) l2_fixed).1

  pub entry_top : SameTop h known known'
  entry_top = top_beside h known known' l2_known_top (table_at h known i0 / cluster_size h) l2_once outside (let s = shares h known (table_at h known i0 / cluster_size h) in let one = table_has h known i0 real in omega arith)

  pub entry_counts : SameCounts h known known'
  entry_counts c = count_beside h known known' l2_known_top (table_at h known i0 / cluster_size h) l2_once outside (let s = shares h known (table_at h known i0 / cluster_size h) in let one = table_has h known i0 real in omega arith) c (entry_top.reftable _)

  pub entry_others : (g : ℕ) → g ≢ i0 * entries_per_cluster h + j0 → cover h known g ≡ cover h known' g
  entry_others g ne = elim (cases_eq (g / entries_per_cluster h) i0) [
    | inl here ↦
        let is = div-add-mod' g (entries_per_cluster h) in
        let row : g / entries_per_cluster h * entries_per_cluster h ≡ i0 * entries_per_cluster h = ap (λ n. n * entries_per_cluster h) here in
        let other : g % entries_per_cluster h ≢ j0 = λ e. ne (omega arith) in
        let at : table_at h known (g / entries_per_cluster h) ≡ table_at h known i0 = ap (table_at h known) here in
        let at' : table_at h known' (g / entries_per_cluster h) ≡ table_at h known i0 = ap host_offset (sym (entry_top.l1 (g / entries_per_cluster h))) ∙ at in
        cover_in h known g (λ none. real (sym at ∙ none))
        ∙ ap (λ t. entry_cover h (l2_entry known t (g % entries_per_cluster h))) at
        ∙ ap (entry_cover h) (entries (g % entries_per_cluster h) (mod_below g (entries_per_cluster h) (Sizes-from h known l2_known_top.header_reads).entries) other)
        ∙ ap (λ t. entry_cover h (l2_entry known' t (g % entries_per_cluster h))) (sym at')
        ∙ sym (cover_in h known' g (λ none. real (sym at' ∙ none)))
    | inr other ↦ table_others h known known' l2_known_top (table_at h known i0 / cluster_size h) l2_once outside i0 real refl entry_top g other
  ]

  pub guest_within : i0 * entries_per_cluster h + j0 < guests h
  guest_within =
      let lt = has_table h known i0 real in
      let rows : (i0 + 1) * entries_per_cluster h ≤ h.l1_entries * entries_per_cluster h = mul-le (i0 + 1) (entries_per_cluster h) h.l1_entries (entries_per_cluster h) (omega arith) (omega arith) in
      omega arith

  entry_stays : (o : ℕ) → 0 < named_in_either h on_storage known (o / cluster_size h) + p.new_data (o / cluster_size h) → known o ≡ known' o
  entry_stays o some = outside o (λ e.
      let apart = table_apart h d p on_storage known crash_invariant (table_at h known i0 / cluster_size h) l2_fixed in
      let here = subst (λ n. 0 < named_in_either h on_storage known n + p.new_data n) e some in
      absurd (omega arith))

  module _ (new_data : (c : ℕ) → names h known' c (i0 * entries_per_cluster h + j0) - names h known c (i0 * entries_per_cluster h + j0) ≤ p.new_data c)
      (marked : (c : ℕ) → marks h known' c (i0 * entries_per_cluster h + j0) ≤ marks h known c (i0 * entries_per_cluster h + j0) + (names h known' c (i0 * entries_per_cluster h + j0) - names h known c (i0 * entries_per_cluster h + j0)))
      (aligned : CoverIsAligned h (cover h known' (i0 * entries_per_cluster h + j0)))
      (at_guest : StandsIfBeside h (i0 * entries_per_cluster h + j0) (cover h known' (i0 * entries_per_cluster h + j0))) where
    pub entry_set : CrashInvariant h d (remapped p (λ c. names h known c (i0 * entries_per_cluster h + j0)) (λ c. names h known' c (i0 * entries_per_cluster h + j0))) on_storage known'
    entry_set = entry_mapped h d p on_storage known known' crash_invariant (i0 * entries_per_cluster h + j0) guest_within entry_top entry_others entry_counts new_data marked aligned at_guest entry_stays

    pub entry_kept : (backing : Bytes) (m : Checkpoint) (given : List GivenBytes)
        → ((o : ℕ) → o / cluster_size h ≡ i0 * entries_per_cluster h + j0 → (guest_value h known' known' backing o ≡ guest_value h known known backing o) ⊎ IsGiven given o (guest_value h known' known' backing o))
        → StopOkEverywhere backing m known → StopOkEverywhere backing (checkpoint_with given [] m) known'
    entry_kept backing m given there kept =
        mapping_kept h d p on_storage known known' crash_invariant (i0 * entries_per_cluster h + j0) guest_within entry_top entry_others entry_counts new_data marked aligned at_guest entry_stays backing m given there kept
