-- Writing the reftable entry of a refblock keeps the crash invariant, and leaves a stop as safe as before.
use Rattle.std.proofs.Common.{◌≡◌, ◌+◌, ◌-◌, ◌*◌, ◌/◌, ◌%◌, ◌<◌, ◌≤◌, ◌≢◌, ℕ, ltb, [], refl, sym, ap, ◌∙◌, arith, inl, inr, subst}
use Rattle.qcow2_laws.proofs.Common.{cases_eq, cases_lt, mod_below, Bytes, SameFrom, HeaderFields, cluster_size, reftable_entries, count_width, counts_per_block, l1_entry, reftable_entry, count, block_count, host_offset, block_offset, L1EntryReads, ReftableEntryReads, table_in, in_cluster, named_for_tables, named_by_reftable, named_by_l1_table, IsAligned, number_at-same, SafeStep, Direction, RbDependsOnL2, named_in_either, Pending, CrashInvariant, IsTop, SameTop, SameCovers, named_now, places_of, IsSameBut, IsSameOutside, WritesReftableEntry, IsNewBlock}
use Rattle.qcow2_laws.proofs.Sums.{sum_below-change}
use Rattle.qcow2_laws.proofs.Places.{Sizes, Sizes-from, SameFrom-in, cond-same, block_count-moved, count_in, count_none}
use Rattle.qcow2_laws.proofs.Tops.{from_start, header-first, HeaderReads-same, IsTop-top, l1_names-same, l1_marks-same}
use Rattle.qcow2_laws.proofs.Writes.{new_tables_is_unnamed, unused_is_unnamed}
use Rattle.qcow2_laws.proofs.Blocks.{table_apart, tables_once}
use Rattle.qcow2_laws.proofs.NewTables.{outside_eight, table_in-le}
use Rattle.qcow2_laws.proofs.Opened.{table_in-is}
use Rattle.qcow2_laws.proofs.Shares.{shares, in_l1, reftable_has, first_beside, l1_beside, cover_beside, count_beside}
use Rattle.qcow2_laws.proofs.Renaming.{tables_renamed, moved_step}
use Rattle.qcow2_laws.proofs.SafeSteps.{state}

pub other_reftable : (h : HeaderFields) (b b' : Bytes) (k0 k : ℕ) → IsSameBut (h.reftable_offset + 8 * k0) 8 b b' → k ≢ k0 → reftable_entry h b k ≡ reftable_entry h b' k
unfolding reftable_entry
other_reftable h b b' k0 k but other =
    cond-same (ltb k (reftable_entries h)) _ _ 0 (λ inside. number_at-same b b' (h.reftable_offset + 8 * k) 8 (λ j lt. but (h.reftable_offset + 8 * k + j)
    (elim (cases_lt k k0) [ inl below ↦ inl (omega arith) | inr above ↦ inr (omega arith) ])))

-- counts are those of the clusters in the new refblock's range; of the new refblock's own cluster it is 1 where it isn't counted elsewhere
module _ (h : HeaderFields) (d : Direction) (p p' : Pending) (on_storage known on_storage' known' : Bytes) (crash_invariant : CrashInvariant h d p on_storage known) (k0 entry : ℕ) (s : ℕ → ℕ)
    (pending : (c : ℕ) → (p'.new_data c ≡ p.new_data c) × (p'.new_tables c ≡ p.new_tables c - (table_in h c (block_offset entry) - s c)) × (p'.old_tables c ≡ p.old_tables c + 0) × (p'.old_data c ≡ p.old_data c) × (p'.surplus c ≡ p.surplus c))
    (writes : WritesReftableEntry h on_storage known on_storage' known' k0 entry) (new : IsNewBlock h on_storage known k0 entry s) (no_table : named_for_tables h on_storage (block_offset entry / cluster_size h) ≡ 0)
    (in_range : (c : ℕ) → c / counts_per_block h ≢ k0 → s c ≡ 0) (few : (c : ℕ) → s c ≤ table_in h c (block_offset entry))
    (new_tables : (c : ℕ) → 0 < table_in h c (block_offset entry) - s c → (0 < p.new_tables c) × (count h on_storage c ≡ count h known c) × (d ≡ RbDependsOnL2 → SameCovers h on_storage known)) where
  sizes : Sizes h
  sizes = Sizes-from h on_storage crash_invariant.top.header_reads

  known_top : IsTop h known
  known_top = IsTop-top h on_storage known crash_invariant.same_top crash_invariant.top

  beside : (b : Bytes) → in_cluster h ((h.reftable_offset + 8 * k0) / cluster_size h) 0 + in_l1 h ((h.reftable_offset + 8 * k0) / cluster_size h) + named_by_reftable h b ((h.reftable_offset + 8 * k0) / cluster_size h) + named_by_l1_table h b ((h.reftable_offset + 8 * k0) / cluster_size h) < named_for_tables h b ((h.reftable_offset + 8 * k0) / cluster_size h)
  beside b = let s = shares h b ((h.reftable_offset + 8 * k0) / cluster_size h) in let one = reftable_has h k0 sizes crash_invariant.top.reftable_aligned writes.within in omega arith

  table_refs : 0 < named_for_tables h on_storage ((h.reftable_offset + 8 * k0) / cluster_size h)
  table_refs = let lt = beside on_storage in omega arith

  once : (named_for_tables h on_storage ((h.reftable_offset + 8 * k0) / cluster_size h) ≤ 1) × (named_for_tables h known ((h.reftable_offset + 8 * k0) / cluster_size h) ≤ 1)
  once = tables_once h d p on_storage known crash_invariant ((h.reftable_offset + 8 * k0) / cluster_size h) table_refs

  outside : IsSameOutside (cluster_size h) ((h.reftable_offset + 8 * k0) / cluster_size h) on_storage on_storage'
  outside = outside_eight (cluster_size h) h.reftable_offset k0 on_storage on_storage' sizes.whole sizes.some crash_invariant.top.reftable_aligned writes.others

  known_outside : IsSameOutside (cluster_size h) ((h.reftable_offset + 8 * k0) / cluster_size h) known known'
  known_outside = outside_eight (cluster_size h) h.reftable_offset k0 known known' sizes.whole sizes.some crash_invariant.top.reftable_aligned writes.known_others

  first : SameFrom 0 (cluster_size h) on_storage on_storage'
  first = first_beside h on_storage on_storage' crash_invariant.top ((h.reftable_offset + 8 * k0) / cluster_size h) once.0 outside (let lt = beside on_storage in omega arith)

  l1 : (i : ℕ) → l1_entry h on_storage i ≡ l1_entry h on_storage' i
  l1 = l1_beside h on_storage on_storage' crash_invariant.top ((h.reftable_offset + 8 * k0) / cluster_size h) once.0 outside (let lt = beside on_storage in omega arith)

  known_l1 : (i : ℕ) → l1_entry h known i ≡ l1_entry h known' i
  known_l1 = l1_beside h known known' known_top ((h.reftable_offset + 8 * k0) / cluster_size h) once.1 known_outside (let lt = beside known in omega arith)

  covers : SameCovers h on_storage on_storage'
  covers g = cover_beside h on_storage on_storage' crash_invariant.top ((h.reftable_offset + 8 * k0) / cluster_size h) once.0 outside (let lt = beside on_storage in omega arith) g (l1 _)

  known_covers : SameCovers h known known'
  known_covers g = cover_beside h known known' known_top ((h.reftable_offset + 8 * k0) / cluster_size h) once.1 known_outside (let lt = beside known in omega arith) g (known_l1 _)

  others : (k : ℕ) → k ≢ k0 → reftable_entry h on_storage k ≡ reftable_entry h on_storage' k
  others k = other_reftable h on_storage on_storage' k0 k writes.others

  known_others : (k : ℕ) → k ≢ k0 → reftable_entry h known k ≡ reftable_entry h known' k
  known_others k = other_reftable h known known' k0 k writes.known_others

  -- the new refblock lies elsewhere
  apart : block_offset entry / cluster_size h ≢ (h.reftable_offset + 8 * k0) / cluster_size h
  apart e =
      let here : named_for_tables h on_storage ((h.reftable_offset + 8 * k0) / cluster_size h) ≡ 0 = ap (named_for_tables h on_storage) (sym e) ∙ no_table in
      let some = table_refs in
      absurd (omega arith)

  -- a count in the new refblock's range, before and after
  counts_new : (b b' : Bytes) → IsSameOutside (cluster_size h) ((h.reftable_offset + 8 * k0) / cluster_size h) b b'
      → block_offset (reftable_entry h b k0) ≡ 0 → reftable_entry h b' k0 ≡ entry
      → ((c : ℕ) → c / counts_per_block h ≡ k0 → block_count b (count_width h) (block_offset entry) (c % counts_per_block h) ≡ s c)
      → (c : ℕ) → c / counts_per_block h ≡ k0 → (count h b c ≡ 0) × (count h b' c ≡ s c)
  counts_new b b' alike none is says c here =
      let at : block_offset (reftable_entry h b' (c / counts_per_block h)) ≡ block_offset entry = ap (λ k. block_offset (reftable_entry h b' k)) here ∙ ap block_offset is in (
        count_none h b c (ap (λ k. block_offset (reftable_entry h b k)) here ∙ none),
        count_in h b' c (λ zero. new.real (sym at ∙ zero))
            ∙ ap (λ t. block_count b' (count_width h) t (c % counts_per_block h)) at
            ∙ sym (block_count-moved h b b' (block_offset entry) (block_offset entry) (c % counts_per_block h) sizes (mod_below c (counts_per_block h) sizes.counts)
            (SameFrom-in (cluster_size h) _ (block_offset entry) b b' (λ o in_c. alike o (λ e. apart (sym in_c ∙ e))) new.aligned refl))
            ∙ says c here,
      )

  known_none : block_offset (reftable_entry h known k0) ≡ 0
  known_none = ap block_offset (sym (crash_invariant.same_top.reftable k0)) ∙ new.none

  counts : (c : ℕ) → count h on_storage' c ≡ count h on_storage c + s c
  counts c = elim (cases_eq (c / counts_per_block h) k0) [
    | inl here ↦ let n = counts_new on_storage on_storage' outside new.none writes.is new.says c here in omega (arith, n.0, n.1)
    | inr other ↦
        let e = count_beside h on_storage on_storage' crash_invariant.top ((h.reftable_offset + 8 * k0) / cluster_size h) once.0 outside (let lt = beside on_storage in omega arith) c (others (c / counts_per_block h) other) in
        let zero = in_range c other in
        omega arith
  ]

  known_counts : (c : ℕ) → count h known' c ≡ count h known c + s c
  known_counts c = elim (cases_eq (c / counts_per_block h) k0) [
    | inl here ↦ let n = counts_new known known' known_outside known_none writes.known_is new.known_says c here in omega (arith, n.0, n.1)
    | inr other ↦
        let e = count_beside h known known' known_top ((h.reftable_offset + 8 * k0) / cluster_size h) once.1 known_outside (let lt = beside known in omega arith) c (known_others (c / counts_per_block h) other) in
        let zero = in_range c other in
        omega arith
  ]

  empty : (c : ℕ) → 0 < s c → (count h known c ≡ 0) × (count h on_storage c ≡ 0)
  empty c some = elim (cases_eq (c / counts_per_block h) k0) [
    | inl here ↦ (
      (counts_new known known' known_outside known_none writes.known_is new.known_says c here).0,
      (counts_new on_storage on_storage' outside new.none writes.is new.says c here).0,
    )
    | inr other ↦ absurd (let zero = in_range c other in omega arith)
  ]

  each_block : (Q : ℕ → Type 0) → Q entry → (k : ℕ) → Q (reftable_entry h on_storage k) → Q (reftable_entry h on_storage' k)
  each_block Q there k before = elim (cases_eq k k0) [
    | inl e ↦ subst (λ n. Q (reftable_entry h on_storage' n)) (sym e) (subst Q (sym writes.is) there)
    | inr ne ↦ subst Q (others k ne) before
  ]

  top_now : IsTop h on_storage'
  top_now = record {
    header_is = sym (header-first h on_storage on_storage' sizes first) ∙ crash_invariant.top.header_is;
    header_reads = HeaderReads-same h on_storage on_storage' first crash_invariant.top.header_reads;
    reftable_fits = crash_invariant.top.reftable_fits;
    l1_reads = λ i lt. subst L1EntryReads (l1 i) (crash_invariant.top.l1_reads i lt);
    reftable_reads = λ k lt. each_block ReftableEntryReads new.reads k (crash_invariant.top.reftable_reads k lt);
    no_snapshots = crash_invariant.top.no_snapshots;
    l1_aligned = crash_invariant.top.l1_aligned;
    reftable_aligned = crash_invariant.top.reftable_aligned;
    l2_tables_aligned = λ i lt. subst (λ e. IsAligned h (host_offset e)) (l1 i) (crash_invariant.top.l2_tables_aligned i lt);
    refblocks_aligned = λ k lt. each_block (λ e. IsAligned h (block_offset e)) new.aligned k (crash_invariant.top.refblocks_aligned k lt);
  }

  same_top_now : SameTop h on_storage' known'
  same_top_now = record {
    first_cluster = λ i lt. sym (first i lt) ∙ crash_invariant.same_top.first_cluster i lt ∙ first_beside h known known' known_top ((h.reftable_offset + 8 * k0) / cluster_size h) once.1 known_outside (let lt = beside known in omega arith) i lt;
    l1 = λ i. sym (l1 i) ∙ crash_invariant.same_top.l1 i ∙ known_l1 i;
    reftable = λ k. elim (cases_eq k k0) [
      | inl e ↦ ap (reftable_entry h on_storage') e ∙ writes.is ∙ sym writes.known_is ∙ ap (reftable_entry h known') (sym e)
      | inr ne ↦ sym (others k ne) ∙ crash_invariant.same_top.reftable k ∙ known_others k ne
    ];
  }

  blocks_changed : (c : ℕ) → named_by_reftable h on_storage' c ≡ named_by_reftable h on_storage c + table_in h c (block_offset entry)
  unfolding named_by_reftable
  blocks_changed c =
      let change = sum_below-change (reftable_entries h) (λ k. table_in h c (block_offset (reftable_entry h on_storage' k))) (λ k. table_in h c (block_offset (reftable_entry h on_storage k))) k0 writes.within
      (λ k lt ne. ap (λ e. table_in h c (block_offset e)) (sym (others k ne))) in
      let here : table_in h c (block_offset (reftable_entry h on_storage' k0)) ≡ table_in h c (block_offset entry) = ap (λ e. table_in h c (block_offset e)) writes.is in
      let before : table_in h c (block_offset (reftable_entry h on_storage k0)) ≡ 0 = ap (table_in h c) new.none in
      omega arith

  fixed_changed : (c : ℕ) → named_for_tables h on_storage' c + 0 ≡ named_for_tables h on_storage c + (table_in h c (block_offset entry) - s c) + s c
  fixed_changed c =
      let before = shares h on_storage c in
      let after = shares h on_storage' c in
      let blocks = blocks_changed c in
      let tables = l1_names-same h on_storage on_storage' c l1 in
      let le = few c in
      omega arith

  elsewhere : (o : ℕ) → 0 < named_in_either h on_storage known (o / cluster_size h) + p.new_data (o / cluster_size h) → o / cluster_size h ≢ (h.reftable_offset + 8 * k0) / cluster_size h
  elsewhere o some e =
      let none = table_apart h d p on_storage known crash_invariant ((h.reftable_offset + 8 * k0) / cluster_size h) table_refs in
      let here = subst (λ n. 0 < named_in_either h on_storage known n + p.new_data n) e some in
      absurd (omega arith)

  not_overlaid : (o : ℕ) → 0 < named_in_either h on_storage known (o / cluster_size h) + p'.new_data (o / cluster_size h) → on_storage' o ≡ known' o
  not_overlaid o any =
      let some : 0 < named_in_either h on_storage known (o / cluster_size h) + p.new_data (o / cluster_size h) = let e = (pending (o / cluster_size h)).0 in omega arith in
      sym (outside o (elsewhere o some)) ∙ crash_invariant.not_overlaid o some ∙ known_outside o (elsewhere o some)

  pub reftable_named : SafeStep (state h d p on_storage known) (state h d p' on_storage' known') (λ _. []) []
  reftable_named =
      moved_step h (places_of h) d p p' on_storage known on_storage' known' crash_invariant
      top_now same_top_now (omega arith) covers known_covers not_overlaid
      (tables_renamed h (places_of h) d p p' on_storage known on_storage' known' crash_invariant
      top_now same_top_now (omega arith) covers known_covers not_overlaid
      (λ c. table_in h c (block_offset entry) - s c) s (λ c. 0) pending
      (λ c. let one = table_in-le h c (block_offset entry) in let le = few c in omega arith) fixed_changed (λ c. let e = l1_marks-same h on_storage on_storage' c l1 in omega arith)
      counts known_counts new_tables empty)
      (λ o some. outside o (elsewhere o (omega arith))) (λ o some. known_outside o (elsewhere o (omega arith))) (λ o lt _. sym (from_start (cluster_size h) on_storage on_storage' first o lt)) [] (inl refl)

-- ---- a refblock of zeros in a fresh cluster
module _ (h : HeaderFields) (d : Direction) (p : Pending) (on_storage known on_storage' known' : Bytes) (crash_invariant : CrashInvariant h d p on_storage known) (k0 entry : ℕ)
    (writes : WritesReftableEntry h on_storage known on_storage' known' k0 entry) (new : IsNewBlock h on_storage known k0 entry (λ c. 0))
    (new_tables : 0 < p.new_tables (block_offset entry / cluster_size h)) (counted : count h on_storage (block_offset entry / cluster_size h) ≡ count h known (block_offset entry / cluster_size h))
    (written : d ≡ RbDependsOnL2 → SameCovers h on_storage known) where
  new_tables_there : (c : ℕ) → 0 < table_in h c (block_offset entry) - 0 → (0 < p.new_tables c) × (count h on_storage c ≡ count h known c) × (d ≡ RbDependsOnL2 → SameCovers h on_storage known)
  new_tables_there c some =
      let here = table_in-is h c (block_offset entry) (omega arith) in
      (subst (λ n. 0 < p.new_tables n) here new_tables, subst (λ n. count h on_storage n ≡ count h known n) here counted, written)

  pub block_named : SafeStep (state h d p on_storage known) (state h d (named_now p (λ c. table_in h c (block_offset entry))) on_storage' known') (λ _. []) []
  block_named =
      reftable_named h d p (named_now p (λ c. table_in h c (block_offset entry))) on_storage known on_storage' known' crash_invariant k0 entry (λ c. 0) (λ c. (refl, omega arith, omega arith, refl, refl)) writes new
      (new_tables_is_unnamed h d p on_storage known crash_invariant (block_offset entry / cluster_size h) new_tables written).no_table (λ c _. refl) (λ c. omega arith) new_tables_there

-- ---- a refblock that counts itself, and nothing else
module _ (h : HeaderFields) (d : Direction) (p : Pending) (on_storage known on_storage' known' : Bytes) (crash_invariant : CrashInvariant h d p on_storage known) (k0 entry : ℕ)
    (writes : WritesReftableEntry h on_storage known on_storage' known' k0 entry) (new : IsNewBlock h on_storage known k0 entry (λ c. table_in h c (block_offset entry)))
    (range : block_offset entry / cluster_size h / counts_per_block h ≡ k0) where
  itself_unnamed : named_for_tables h on_storage (block_offset entry / cluster_size h) ≡ 0
  itself_unnamed =
      (unused_is_unnamed h d p on_storage known crash_invariant (block_offset entry / cluster_size h)
      (count_none h known (block_offset entry / cluster_size h) (ap (λ k. block_offset (reftable_entry h known k)) range ∙ ap block_offset (sym (crash_invariant.same_top.reftable k0)) ∙ new.none))
      (count_none h on_storage (block_offset entry / cluster_size h) (ap (λ k. block_offset (reftable_entry h on_storage k)) range ∙ new.none))).no_table

  only_itself : (c : ℕ) → c / counts_per_block h ≢ k0 → table_in h c (block_offset entry) ≡ 0
  only_itself c other = elim (cases_lt 0 (table_in h c (block_offset entry))) [
    | inl some ↦ absurd (other (ap (λ n. n / counts_per_block h) (sym (table_in-is h c (block_offset entry) some)) ∙ range))
    | inr none ↦ omega arith
  ]

  pub block_counts_itself : SafeStep (state h d p on_storage known) (state h d p on_storage' known') (λ _. []) []
  block_counts_itself =
      reftable_named h d p p on_storage known on_storage' known' crash_invariant k0 entry (λ c. table_in h c (block_offset entry)) (λ c. (refl, omega arith, omega arith, refl, refl)) writes new
      itself_unnamed only_itself (λ c. omega arith) (λ c some. absurd (omega arith))
