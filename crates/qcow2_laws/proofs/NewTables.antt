-- Writing the L1 entry of a new table keeps the crash invariant, and leaves a stop as safe as before.
use Rattle.std.proofs.Common.{◌≡◌, ◌+◌, ◌-◌, ◌*◌, ◌/◌, ◌%◌, ◌<◌, ◌≤◌, ◌≢◌, ℕ, Bool, true, false, cond, ltb, eqb, [], refl, sym, ap, ◌∙◌, arith, inl, inr, subst}
use Rattle.qcow2_laws.proofs.Common.{cases_eq, cases_lt, Bytes, SameFrom, HeaderFields, cluster_size, entries_per_cluster, l1_entry, l2_entry, reftable_entry, count, host_offset, block_offset, is_copied, L1EntryReads, ReftableEntryReads, cover, entry_cover, table_in, in_cluster, named_for_tables, named_by_reftable, named_by_l1_table, IsAligned, number_at-same, SafeStep, Direction, named_in_either, table_at, marked_by_l1_table, Pending, CrashInvariant, IsTop, SameTop, SameCovers, SameCounts, renamed, places_of, IsSameBut, IsSameOutside, WritesL1Entry, IsNewTable, mod_below}
use Rattle.qcow2_laws.proofs.Sums.{sum_below-change}
use Rattle.qcow2_laws.proofs.Places.{Sizes, Sizes-from, eight_in, SameFrom-in, l2_entry-same, cover_in, cond-same}
use Rattle.qcow2_laws.proofs.Tops.{from_start, header-first, HeaderReads-same, IsTop-top, reftable_names-same}
use Rattle.qcow2_laws.proofs.Writes.{new_tables_is_unnamed}
use Rattle.qcow2_laws.proofs.Blocks.{table_apart, tables_once}
use Rattle.qcow2_laws.proofs.Shares.{shares, in_l1, in_reftable, l1_has, first_beside, reftable_beside, cover_beside, count_beside}
use Rattle.qcow2_laws.proofs.Renaming.{tables_renamed, moved_step}
use Rattle.qcow2_laws.proofs.Opened.{table_in-is}
use Rattle.qcow2_laws.proofs.SafeSteps.{state}

-- eight bytes of a table lie in one cluster
pub outside_eight : (size start i : ℕ) (b b' : Bytes) → size % 8 ≡ 0 → 0 < size → start % size ≡ 0 → IsSameBut (start + 8 * i) 8 b b' → IsSameOutside size ((start + 8 * i) / size) b b'
outside_eight size start i b b' whole some aligned but o other = elim (cases_lt o (start + 8 * i)) [
  | inl below ↦ but o (inl below)
  | inr above ↦ elim (cases_lt o (start + 8 * i + 8)) [
    | inl inside ↦ absurd (other (
        let e : o ≡ start + 8 * i + (o - (start + 8 * i)) = omega arith in
        ap (λ n. n / size) e ∙ eight_in size start i (o - (start + 8 * i)) whole some aligned (omega arith)))
    | inr past ↦ but o (inr past)
  ]
]

pub other_l1 : (h : HeaderFields) (b b' : Bytes) (i0 i : ℕ) → IsSameBut (h.l1_offset + 8 * i0) 8 b b' → i ≢ i0 → l1_entry h b i ≡ l1_entry h b' i
unfolding l1_entry
other_l1 h b b' i0 i but other =
    cond-same (ltb i h.l1_entries) _ _ 0 (λ inside. number_at-same b b' (h.l1_offset + 8 * i) 8 (λ k lt. but (h.l1_offset + 8 * i + k)
    (elim (cases_lt i i0) [ inl below ↦ inl (omega arith) | inr above ↦ inr (omega arith) ])))

below_of : (t : Bool) (n : ℕ) → cond t n 0 ≤ n
below_of true n = omega arith
below_of false n = omega arith

pub table_in-le : (h : HeaderFields) (c place : ℕ) → table_in h c place ≤ 1
table_in-le h c place = elim (eqb place 0) as (λ t. cond t 0 (cond (eqb (place / cluster_size h) c) 1 0) ≤ 1) [ true ↦ omega arith | false ↦ below_of (eqb (place / cluster_size h) c) 1 ]

module _ (h : HeaderFields) (d : Direction) (p : Pending) (on_storage known on_storage' known' : Bytes) (crash_invariant : CrashInvariant h d p on_storage known) (i0 entry : ℕ)
    (writes : WritesL1Entry h on_storage known on_storage' known' i0 entry) (new : IsNewTable h d p on_storage known i0 entry) where
  sizes : Sizes h
  sizes = Sizes-from h on_storage crash_invariant.top.header_reads

  known_top : IsTop h known
  known_top = IsTop-top h on_storage known crash_invariant.same_top crash_invariant.top

  part : in_l1 h ((h.l1_offset + 8 * i0) / cluster_size h) ≡ 1
  part = l1_has h i0 sizes crash_invariant.top.l1_aligned writes.within

  beside : (b : Bytes) → in_cluster h ((h.l1_offset + 8 * i0) / cluster_size h) 0 + in_reftable h ((h.l1_offset + 8 * i0) / cluster_size h) + named_by_reftable h b ((h.l1_offset + 8 * i0) / cluster_size h) + named_by_l1_table h b ((h.l1_offset + 8 * i0) / cluster_size h) < named_for_tables h b ((h.l1_offset + 8 * i0) / cluster_size h)
  beside b = let s = shares h b ((h.l1_offset + 8 * i0) / cluster_size h) in let one = part in omega arith

  table_refs : 0 < named_for_tables h on_storage ((h.l1_offset + 8 * i0) / cluster_size h)
  table_refs = let lt = beside on_storage in omega arith

  once : (named_for_tables h on_storage ((h.l1_offset + 8 * i0) / cluster_size h) ≤ 1) × (named_for_tables h known ((h.l1_offset + 8 * i0) / cluster_size h) ≤ 1)
  once = tables_once h d p on_storage known crash_invariant ((h.l1_offset + 8 * i0) / cluster_size h) table_refs

  outside : IsSameOutside (cluster_size h) ((h.l1_offset + 8 * i0) / cluster_size h) on_storage on_storage'
  outside = outside_eight (cluster_size h) h.l1_offset i0 on_storage on_storage' sizes.whole sizes.some crash_invariant.top.l1_aligned writes.others

  known_outside : IsSameOutside (cluster_size h) ((h.l1_offset + 8 * i0) / cluster_size h) known known'
  known_outside = outside_eight (cluster_size h) h.l1_offset i0 known known' sizes.whole sizes.some crash_invariant.top.l1_aligned writes.known_others

  first : SameFrom 0 (cluster_size h) on_storage on_storage'
  first = first_beside h on_storage on_storage' crash_invariant.top ((h.l1_offset + 8 * i0) / cluster_size h) once.0 outside (let lt = beside on_storage in omega arith)

  reftable : (k : ℕ) → reftable_entry h on_storage k ≡ reftable_entry h on_storage' k
  reftable = reftable_beside h on_storage on_storage' crash_invariant.top ((h.l1_offset + 8 * i0) / cluster_size h) once.0 outside (let lt = beside on_storage in omega arith)

  known_reftable : (k : ℕ) → reftable_entry h known k ≡ reftable_entry h known' k
  known_reftable = reftable_beside h known known' known_top ((h.l1_offset + 8 * i0) / cluster_size h) once.1 known_outside (let lt = beside known in omega arith)

  counts : SameCounts h on_storage on_storage'
  counts c = count_beside h on_storage on_storage' crash_invariant.top ((h.l1_offset + 8 * i0) / cluster_size h) once.0 outside (let lt = beside on_storage in omega arith) c (reftable _)

  known_counts : SameCounts h known known'
  known_counts c = count_beside h known known' known_top ((h.l1_offset + 8 * i0) / cluster_size h) once.1 known_outside (let lt = beside known in omega arith) c (known_reftable _)

  others : (i : ℕ) → i ≢ i0 → l1_entry h on_storage i ≡ l1_entry h on_storage' i
  others i = other_l1 h on_storage on_storage' i0 i writes.others

  known_others : (i : ℕ) → i ≢ i0 → l1_entry h known i ≡ l1_entry h known' i
  known_others i = other_l1 h known known' i0 i writes.known_others

  -- the new table lies elsewhere
  apart : host_offset entry / cluster_size h ≢ (h.l1_offset + 8 * i0) / cluster_size h
  apart e =
      let none = (new_tables_is_unnamed h d p on_storage known crash_invariant (host_offset entry / cluster_size h) new.new_tables new.written).no_table in
      let here : named_for_tables h on_storage ((h.l1_offset + 8 * i0) / cluster_size h) ≡ 0 = ap (named_for_tables h on_storage) (sym e) ∙ none in
      let some = table_refs in
      absurd (omega arith)

  new_cover : (b b' : Bytes) → IsSameOutside (cluster_size h) ((h.l1_offset + 8 * i0) / cluster_size h) b b' → l1_entry h b' i0 ≡ entry
      → ((g : ℕ) → g / entries_per_cluster h ≡ i0 → cover h b g ≡ entry_cover h (l2_entry b (host_offset entry) (g % entries_per_cluster h)))
      → (g : ℕ) → g / entries_per_cluster h ≡ i0 → cover h b g ≡ cover h b' g
  new_cover b b' alike is says g here =
      let at : table_at h b' (g / entries_per_cluster h) ≡ host_offset entry = ap (table_at h b') here ∙ ap host_offset is in
      let below = mod_below g (entries_per_cluster h) sizes.entries in
      says g here
      ∙ ap (entry_cover h) (l2_entry-same b b' (host_offset entry) (cluster_size h) (g % entries_per_cluster h)
      (SameFrom-in (cluster_size h) _ (host_offset entry) b b' (λ o in_c. alike o (λ e. apart (sym in_c ∙ e))) new.aligned refl) (omega (arith, sizes.eights)))
      ∙ ap (λ t. entry_cover h (l2_entry b' t (g % entries_per_cluster h))) (sym at)
      ∙ sym (cover_in h b' g (λ none. new.real (sym at ∙ none)))

  covers : SameCovers h on_storage on_storage'
  covers g = elim (cases_eq (g / entries_per_cluster h) i0) [
    | inl here ↦ new_cover on_storage on_storage' outside writes.is new.covers g here
    | inr other ↦ cover_beside h on_storage on_storage' crash_invariant.top ((h.l1_offset + 8 * i0) / cluster_size h) once.0 outside (let lt = beside on_storage in omega arith) g (others (g / entries_per_cluster h) other)
  ]

  pub known_covers : SameCovers h known known'
  known_covers g = elim (cases_eq (g / entries_per_cluster h) i0) [
    | inl here ↦ new_cover known known' known_outside writes.known_is new.known_covers g here
    | inr other ↦ cover_beside h known known' known_top ((h.l1_offset + 8 * i0) / cluster_size h) once.1 known_outside (let lt = beside known in omega arith) g (known_others (g / entries_per_cluster h) other)
  ]

  -- what holds of the old entries and of the new one holds of all now
  each_l1 : (Q : ℕ → Type 0) → Q entry → (i : ℕ) → Q (l1_entry h on_storage i) → Q (l1_entry h on_storage' i)
  each_l1 Q there i before = elim (cases_eq i i0) [
    | inl e ↦ subst (λ n. Q (l1_entry h on_storage' n)) (sym e) (subst Q (sym writes.is) there)
    | inr ne ↦ subst Q (others i ne) before
  ]

  top_now : IsTop h on_storage'
  top_now = record {
    header_is = sym (header-first h on_storage on_storage' sizes first) ∙ crash_invariant.top.header_is;
    header_reads = HeaderReads-same h on_storage on_storage' first crash_invariant.top.header_reads;
    reftable_fits = crash_invariant.top.reftable_fits;
    l1_reads = λ i lt. each_l1 L1EntryReads new.reads i (crash_invariant.top.l1_reads i lt);
    reftable_reads = λ k lt. subst ReftableEntryReads (reftable k) (crash_invariant.top.reftable_reads k lt);
    no_snapshots = crash_invariant.top.no_snapshots;
    l1_aligned = crash_invariant.top.l1_aligned;
    reftable_aligned = crash_invariant.top.reftable_aligned;
    l2_tables_aligned = λ i lt. each_l1 (λ e. IsAligned h (host_offset e)) new.aligned i (crash_invariant.top.l2_tables_aligned i lt);
    refblocks_aligned = λ k lt. subst (λ e. IsAligned h (block_offset e)) (reftable k) (crash_invariant.top.refblocks_aligned k lt);
  }

  same_top_now : SameTop h on_storage' known'
  same_top_now = record {
    first_cluster = λ i lt. sym (first i lt) ∙ crash_invariant.same_top.first_cluster i lt ∙ first_beside h known known' known_top ((h.l1_offset + 8 * i0) / cluster_size h) once.1 known_outside (let lt = beside known in omega arith) i lt;
    l1 = λ i. elim (cases_eq i i0) [
      | inl e ↦ ap (l1_entry h on_storage') e ∙ writes.is ∙ sym writes.known_is ∙ ap (l1_entry h known') (sym e)
      | inr ne ↦ sym (others i ne) ∙ crash_invariant.same_top.l1 i ∙ known_others i ne
    ];
    reftable = λ k. sym (reftable k) ∙ crash_invariant.same_top.reftable k ∙ known_reftable k;
  }

  -- ---- how often tables name a cluster now
  tables_changed : (c : ℕ) → named_by_l1_table h on_storage' c + table_in h c (table_at h on_storage i0) ≡ named_by_l1_table h on_storage c + table_in h c (host_offset entry)
  unfolding named_by_l1_table
  tables_changed c =
      let change = sum_below-change h.l1_entries (λ i. table_in h c (host_offset (l1_entry h on_storage' i))) (λ i. table_in h c (host_offset (l1_entry h on_storage i))) i0 writes.within
      (λ i lt ne. ap (λ e. table_in h c (host_offset e)) (sym (others i ne))) in
      let here : table_in h c (host_offset (l1_entry h on_storage' i0)) ≡ table_in h c (host_offset entry) = ap (λ e. table_in h c (host_offset e)) writes.is in
      omega arith

  fixed_changed : (c : ℕ) → named_for_tables h on_storage' c + table_in h c (table_at h on_storage i0) ≡ named_for_tables h on_storage c + table_in h c (host_offset entry)
  fixed_changed c =
      let before = shares h on_storage c in
      let after = shares h on_storage' c in
      let tables = tables_changed c in
      let blocks = reftable_names-same h on_storage on_storage' c reftable in
      omega arith

  sole_changed : (c : ℕ) → marked_by_l1_table h on_storage' c ≤ marked_by_l1_table h on_storage c + table_in h c (host_offset entry)
  unfolding marked_by_l1_table
  sole_changed c =
      let change = sum_below-change h.l1_entries (λ i. cond (is_copied (l1_entry h on_storage' i)) (table_in h c (table_at h on_storage' i)) 0) (λ i. cond (is_copied (l1_entry h on_storage i)) (table_in h c (table_at h on_storage i)) 0) i0 writes.within
      (λ i lt ne. ap (λ e. cond (is_copied e) (table_in h c (host_offset e)) 0) (sym (others i ne))) in
      let here : cond (is_copied (l1_entry h on_storage' i0)) (table_in h c (table_at h on_storage' i0)) 0 ≡ cond (is_copied entry) (table_in h c (host_offset entry)) 0 = ap (λ e. cond (is_copied e) (table_in h c (host_offset e)) 0) writes.is in
      let le = below_of (is_copied entry) (table_in h c (host_offset entry)) in
      omega arith

  new_at : (c : ℕ) → 0 < table_in h c (host_offset entry) → host_offset entry / cluster_size h ≡ c
  new_at c some = table_in-is h c (host_offset entry) some

  elsewhere : (o : ℕ) → 0 < named_in_either h on_storage known (o / cluster_size h) + p.new_data (o / cluster_size h) → o / cluster_size h ≢ (h.l1_offset + 8 * i0) / cluster_size h
  elsewhere o some e =
      let none = table_apart h d p on_storage known crash_invariant ((h.l1_offset + 8 * i0) / cluster_size h) table_refs in
      let here = subst (λ n. 0 < named_in_either h on_storage known n + p.new_data n) e some in
      absurd (omega arith)

  not_overlaid : (o : ℕ) → 0 < named_in_either h on_storage known (o / cluster_size h) + p.new_data (o / cluster_size h) → on_storage' o ≡ known' o
  not_overlaid o some = sym (outside o (elsewhere o some)) ∙ crash_invariant.not_overlaid o some ∙ known_outside o (elsewhere o some)

  pub l1_named : SafeStep (state h d p on_storage known) (state h d (renamed p (λ c. table_in h c (host_offset entry)) (λ c. table_in h c (table_at h on_storage i0))) on_storage' known') (λ _. []) []
  l1_named =
      moved_step h (places_of h) d p (renamed p (λ c. table_in h c (host_offset entry)) (λ c. table_in h c (table_at h on_storage i0))) on_storage known on_storage' known' crash_invariant
      top_now same_top_now (omega arith) covers known_covers not_overlaid
      (tables_renamed h (places_of h) d p (renamed p (λ c. table_in h c (host_offset entry)) (λ c. table_in h c (table_at h on_storage i0))) on_storage known on_storage' known' crash_invariant
      top_now same_top_now (omega arith) covers known_covers not_overlaid
      (λ c. table_in h c (host_offset entry)) (λ c. 0) (λ c. table_in h c (table_at h on_storage i0)) (λ c. (refl, refl, refl, refl, refl))
      (λ c. let one = table_in-le h c (host_offset entry) in omega arith) (λ c. let changed = fixed_changed c in omega arith) sole_changed
      (λ c. let e = counts c in omega arith) (λ c. let e = known_counts c in omega arith)
      (λ c some. (subst (λ n. 0 < p.new_tables n) (new_at c some) new.new_tables, subst (λ n. count h on_storage n ≡ count h known n) (new_at c some) new.counted, new.written))
      (λ c some. absurd (omega arith)))
      (λ o some. outside o (elsewhere o (omega arith))) (λ o some. known_outside o (elsewhere o (omega arith))) (λ o lt _. sym (from_start (cluster_size h) on_storage on_storage' first o lt)) [] (inl refl)
