-- Fields of the header are written: the size, or the pointer to the L1 table.
use Rattle.std.proofs.Common.{◌≡◌, ◌+◌, ◌*◌, ◌/◌, ◌<◌, ◌≤◌, ◌≢◌, ◌⊎◌, ℕ, inl, inr, List, [], refl, sym, ap, ◌∙◌, arith, subst}
use Rattle.qcow2_laws.proofs.Common.{cases_lt, div-mul-add, Bytes, HeaderFields, header, HeaderReads, cluster_size, l1_entry, reftable_entry, count, count_under, host_offset, block_offset, L1EntryReads, ReftableEntryReads, cover, cover_under, in_cluster, named_for_tables, named_by_header, named_by_reftable, named_by_l1_table, IsAligned, IsOfHeaderRest, IsAsked, SafeStep, Direction, named_in_either, marked_by_l1_table, Pending, CrashInvariant, IsTop, SameTop, SameCovers, SameCounts, SameIn, Places, with_places, KeepsCovers, IsSameBut, IsSameOutside, WritesHeader, WritesAt, resized_places}
use Rattle.qcow2_laws.proofs.Places.{Sizes, Sizes-from}
use Rattle.qcow2_laws.proofs.Tops.{IsTop-top, l1_names-same, reftable_names-same, l1_marks-same}
use Rattle.qcow2_laws.proofs.Consistency.{in_own}
use Rattle.qcow2_laws.proofs.Blocks.{table_apart, tables_once}
use Rattle.qcow2_laws.proofs.Shares.{in_l1, in_reftable, shares, l1_beside, reftable_beside, cover_beside, count_beside}
use Rattle.qcow2_laws.proofs.Renaming.{tables_renamed, moved_step}
use Rattle.qcow2_laws.proofs.SafeSteps.{state}

-- bytes among the header's own numbers are written, and it reads
pub writes_header : (h : HeaderFields) (d : Direction) (p : Pending) (on_storage known on_storage' known' : Bytes) → CrashInvariant h d p on_storage known → (a : Places) (place n : ℕ) → WritesAt place n on_storage known on_storage' known' → place + n ≤ 104
    → ((o : ℕ) → IsOfHeaderRest h o → (o < place) ⊎ (place + n ≤ o))
    → header on_storage' ≡ with_places h a → HeaderReads (with_places h a) on_storage' → WritesHeader h a on_storage known on_storage' known'
writes_header h d p on_storage known on_storage' known' crash_invariant a place n writes small apart is reads = record {
  others = outside on_storage on_storage' writes.others;
  known_others = outside known known' writes.known_others;
  same_first = λ i lt. writes.agree (0 + i) (crash_invariant.same_top.first_cluster i lt);
  rest = λ o _ of_rest. sym (writes.others o (apart o of_rest));
  is = is;
  reads = reads;
}
  where
    outside : (b b' : Bytes) → IsSameBut place n b b' → IsSameOutside (cluster_size h) 0 b b'
    outside b b' but o other = but o (elim (cases_lt o (place + n)) [
      | inl lt ↦ absurd (other (
          let l = (Sizes-from h on_storage crash_invariant.top.header_reads).large in
          let e : o ≡ 0 * cluster_size h + o = omega arith in
          ap (λ k. k / cluster_size h) e ∙ div-mul-add 0 (cluster_size h) o (omega arith)))
      | inr past ↦ inr past
    ])

-- ---- what stays where the first cluster alone changes
module _ (h : HeaderFields) (a : Places) (d : Direction) (p : Pending) (on_storage known on_storage' known' : Bytes) (crash_invariant : CrashInvariant h d p on_storage known) (writes : WritesHeader h a on_storage known on_storage' known') where
  pub header_sizes : Sizes h
  header_sizes = Sizes-from h on_storage crash_invariant.top.header_reads

  pub header_known_top : IsTop h known
  header_known_top = IsTop-top h on_storage known crash_invariant.same_top crash_invariant.top

  header_beside : (b : Bytes) → in_l1 h 0 + in_reftable h 0 + named_by_reftable h b 0 + named_by_l1_table h b 0 < named_for_tables h b 0
  header_beside b =
      let s = shares h b 0 in
      let zero : 0 / cluster_size h ≡ 0 = let size = header_sizes.some in omega arith in
      let one : in_cluster h 0 0 ≡ 1 = ap (λ n. in_cluster h n 0) (sym zero) ∙ in_own h 0 in
      omega arith

  pub header_fixed : 0 < named_for_tables h on_storage 0
  header_fixed = let lt = header_beside on_storage in omega arith

  header_once : (named_for_tables h on_storage 0 ≤ 1) × (named_for_tables h known 0 ≤ 1)
  header_once = tables_once h d p on_storage known crash_invariant 0 header_fixed

  pub header_same : (c : ℕ) → c ≢ 0 → SameIn (cluster_size h) c on_storage on_storage'
  header_same c other o in_c = writes.others o (λ e. other (sym in_c ∙ e))

  pub header_l1 : (i : ℕ) → l1_entry h on_storage i ≡ l1_entry h on_storage' i
  header_l1 = l1_beside h on_storage on_storage' crash_invariant.top 0 header_once.0 writes.others (let lt = header_beside on_storage in omega arith)

  pub header_known_l1 : (i : ℕ) → l1_entry h known i ≡ l1_entry h known' i
  header_known_l1 = l1_beside h known known' header_known_top 0 header_once.1 writes.known_others (let lt = header_beside known in omega arith)

  pub header_reftable : (k : ℕ) → reftable_entry h on_storage k ≡ reftable_entry h on_storage' k
  header_reftable = reftable_beside h on_storage on_storage' crash_invariant.top 0 header_once.0 writes.others (let lt = header_beside on_storage in omega arith)

  pub header_known_reftable : (k : ℕ) → reftable_entry h known k ≡ reftable_entry h known' k
  header_known_reftable = reftable_beside h known known' header_known_top 0 header_once.1 writes.known_others (let lt = header_beside known in omega arith)

  pub header_covers : SameCovers h on_storage on_storage'
  header_covers g = cover_beside h on_storage on_storage' crash_invariant.top 0 header_once.0 writes.others (let lt = header_beside on_storage in omega arith) g (header_l1 _)

  pub header_known_covers : SameCovers h known known'
  header_known_covers g = cover_beside h known known' header_known_top 0 header_once.1 writes.known_others (let lt = header_beside known in omega arith) g (header_known_l1 _)

  pub header_counts : SameCounts h on_storage on_storage'
  header_counts c = count_beside h on_storage on_storage' crash_invariant.top 0 header_once.0 writes.others (let lt = header_beside on_storage in omega arith) c (header_reftable _)

  pub header_known_counts : SameCounts h known known'
  header_known_counts c = count_beside h known known' header_known_top 0 header_once.1 writes.known_others (let lt = header_beside known in omega arith) c (header_known_reftable _)

  pub header_elsewhere : (o : ℕ) → 0 < named_in_either h on_storage known (o / cluster_size h) + p.new_data (o / cluster_size h) → o / cluster_size h ≢ 0
  header_elsewhere o some e =
      let none = table_apart h d p on_storage known crash_invariant 0 header_fixed in
      let here = subst (λ n. 0 < named_in_either h on_storage known n + p.new_data n) e some in
      absurd (omega arith)

  pub header_unlaid : (o : ℕ) → 0 < named_in_either h on_storage known (o / cluster_size h) + p.new_data (o / cluster_size h) → on_storage' o ≡ known' o
  header_unlaid o some = sym (writes.others o (header_elsewhere o some)) ∙ crash_invariant.not_overlaid o some ∙ writes.known_others o (header_elsewhere o some)

  -- a cluster that nothing names is another one
  pub unnamed_elsewhere : (c : ℕ) → named_for_tables h on_storage c ≡ 0 → c ≢ 0
  unnamed_elsewhere c none e =
      let here : named_for_tables h on_storage 0 ≡ 0 = ap (named_for_tables h on_storage) (sym e) ∙ none in
      let some = header_fixed in
      absurd (omega arith)

-- ---- the size, and the autoclear bits
module _ (h : HeaderFields) (size autoclear : ℕ) (d : Direction) (p : Pending) (on_storage known on_storage' known' : Bytes) (crash_invariant : CrashInvariant h d p on_storage known)
    (writes : WritesHeader h (resized_places h size autoclear) on_storage known on_storage' known') where
  l1_too : (b : Bytes) (i : ℕ) → l1_entry (with_places h (resized_places h size autoclear)) b i ≡ l1_entry h b i
  unfolding l1_entry
  l1_too b i = refl

  reftable_too : (b : Bytes) (k : ℕ) → reftable_entry (with_places h (resized_places h size autoclear)) b k ≡ reftable_entry h b k
  unfolding reftable_entry
  reftable_too b k = refl

  covers_too : (b : Bytes) (g : ℕ) → cover (with_places h (resized_places h size autoclear)) b g ≡ cover h b g
  unfolding cover cover_under l1_entry
  covers_too b g = refl

  counts_too : (b : Bytes) (c : ℕ) → count (with_places h (resized_places h size autoclear)) b c ≡ count h b c
  unfolding count count_under reftable_entry
  counts_too b c = refl

  fixed_too : (b : Bytes) (c : ℕ) → named_for_tables (with_places h (resized_places h size autoclear)) b c ≡ named_for_tables h b c
  unfolding named_for_tables named_by_header named_by_reftable named_by_l1_table l1_entry reftable_entry
  fixed_too b c = refl

  sole_too : (b : Bytes) (c : ℕ) → marked_by_l1_table (with_places h (resized_places h size autoclear)) b c ≡ marked_by_l1_table h b c
  unfolding marked_by_l1_table l1_entry
  sole_too b c = refl

  resized_l1 : (i : ℕ) → l1_entry h on_storage i ≡ l1_entry (with_places h (resized_places h size autoclear)) on_storage' i
  resized_l1 i = header_l1 h (resized_places h size autoclear) d p on_storage known on_storage' known' crash_invariant writes i ∙ sym (l1_too on_storage' i)

  resized_reftable : (k : ℕ) → reftable_entry h on_storage k ≡ reftable_entry (with_places h (resized_places h size autoclear)) on_storage' k
  resized_reftable k = header_reftable h (resized_places h size autoclear) d p on_storage known on_storage' known' crash_invariant writes k ∙ sym (reftable_too on_storage' k)

  resized_top : IsTop (with_places h (resized_places h size autoclear)) on_storage'
  resized_top = record {
    header_is = writes.is;
    header_reads = writes.reads;
    reftable_fits = crash_invariant.top.reftable_fits;
    l1_reads = λ i lt. subst L1EntryReads (resized_l1 i) (crash_invariant.top.l1_reads i lt);
    reftable_reads = λ k lt. subst ReftableEntryReads (resized_reftable k) (crash_invariant.top.reftable_reads k lt);
    no_snapshots = crash_invariant.top.no_snapshots;
    l1_aligned = crash_invariant.top.l1_aligned;
    reftable_aligned = crash_invariant.top.reftable_aligned;
    l2_tables_aligned = λ i lt. subst (λ e. IsAligned h (host_offset e)) (resized_l1 i) (crash_invariant.top.l2_tables_aligned i lt);
    refblocks_aligned = λ k lt. subst (λ e. IsAligned h (block_offset e)) (resized_reftable k) (crash_invariant.top.refblocks_aligned k lt);
  }

  resized_same_top : SameTop (with_places h (resized_places h size autoclear)) on_storage' known'
  resized_same_top = record {
    first_cluster = writes.same_first;
    l1 = λ i. sym (resized_l1 i) ∙ crash_invariant.same_top.l1 i ∙ header_known_l1 h (resized_places h size autoclear) d p on_storage known on_storage' known' crash_invariant writes i ∙ sym (l1_too known' i);
    reftable = λ k. sym (resized_reftable k) ∙ crash_invariant.same_top.reftable k ∙ header_known_reftable h (resized_places h size autoclear) d p on_storage known on_storage' known' crash_invariant writes k ∙ sym (reftable_too known' k);
  }

  resized_covers : KeepsCovers h (resized_places h size autoclear) on_storage on_storage'
  resized_covers g = header_covers h (resized_places h size autoclear) d p on_storage known on_storage' known' crash_invariant writes g ∙ sym (covers_too on_storage' g)

  pub resized_known_covers : KeepsCovers h (resized_places h size autoclear) known known'
  resized_known_covers g = header_known_covers h (resized_places h size autoclear) d p on_storage known on_storage' known' crash_invariant writes g ∙ sym (covers_too known' g)

  resized_unlaid : (o : ℕ) → 0 < named_in_either h on_storage known (o / cluster_size h) + p.new_data (o / cluster_size h) → on_storage' o ≡ known' o
  resized_unlaid = header_unlaid h (resized_places h size autoclear) d p on_storage known on_storage' known' crash_invariant writes

  resized_fixed : (c : ℕ) → named_for_tables (with_places h (resized_places h size autoclear)) on_storage' c ≡ named_for_tables h on_storage c
  resized_fixed c =
      let before = shares h on_storage c in
      let after = shares h on_storage' c in
      let tables = l1_names-same h on_storage on_storage' c (header_l1 h (resized_places h size autoclear) d p on_storage known on_storage' known' crash_invariant writes) in
      let blocks = reftable_names-same h on_storage on_storage' c (header_reftable h (resized_places h size autoclear) d p on_storage known on_storage' known' crash_invariant writes) in
      let e = fixed_too on_storage' c in
      omega arith

  -- these sizes are asked for, unless the size stays
  pub size_written : (asked : List ℕ) → (size ≡ h.size) ⊎ IsAsked asked size → SafeStep (state h d p on_storage known) (state (with_places h (resized_places h size autoclear)) d p on_storage' known') (λ _. []) asked
  size_written asked ask =
      moved_step h (resized_places h size autoclear) d p p on_storage known on_storage' known' crash_invariant
      resized_top resized_same_top (omega arith) resized_covers resized_known_covers resized_unlaid
      (tables_renamed h (resized_places h size autoclear) d p p on_storage known on_storage' known' crash_invariant
      resized_top resized_same_top (omega arith) resized_covers resized_known_covers resized_unlaid
      (λ c. 0) (λ c. 0) (λ c. 0) (λ c. (refl, omega arith, omega arith, refl, refl)) (λ c. omega arith)
      (λ c. let e = resized_fixed c in omega arith)
      (λ c. let e = sole_too on_storage' c ∙ sym (l1_marks-same h on_storage on_storage' c (header_l1 h (resized_places h size autoclear) d p on_storage known on_storage' known' crash_invariant writes)) in omega arith)
      (λ c. let e = counts_too on_storage' c in let s = header_counts h (resized_places h size autoclear) d p on_storage known on_storage' known' crash_invariant writes c in omega arith)
      (λ c. let e = counts_too known' c in let s = header_known_counts h (resized_places h size autoclear) d p on_storage known on_storage' known' crash_invariant writes c in omega arith)
      (λ c some. absurd (omega arith)) (λ c some. absurd (omega arith)))
      (λ o some. writes.others o (header_elsewhere h (resized_places h size autoclear) d p on_storage known on_storage' known' crash_invariant writes o (omega arith)))
      (λ o some. writes.known_others o (header_elsewhere h (resized_places h size autoclear) d p on_storage known on_storage' known' crash_invariant writes o (omega arith))) writes.rest asked ask
