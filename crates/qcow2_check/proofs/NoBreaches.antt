-- A report has no breaches exactly if the image is consistent.
use Rattle.std.proofs.Common.{◌≡◌, ◌≢◌, ◌+◌, ◌^◌, ◌<◌, ◌≤◌, ◌++◌, ◌*◌, ◌↔◌, ℕ, List, [], length, ap, refl, subst, ◌∙◌, arith, inl, inr}
use Rattle.qcow2_check.proofs.Common.{cases_eq, Bytes, byte_at, HeaderFields, entries_per_cluster, reftable_entries, HeaderReads, ReftableFits, l1_entry, l2_entry, reftable_entry, host_offset, block_offset, is_copied, entry_cover, host_of, named, named_for_tables, Consistent, CoverIsAligned, CopiedIsOwn, Breach, L1, Reftable, L2, Refblock, marked_at, marks_of_cover, marked_by_entries, marked_by_l2_table, mark_of_entry, marked_under, marked_below, times, off_cluster_if, off_l2_tables, off_refblocks, data_off_at, data_off_below, lines, snapshot_lines, external_lines, table_offset_lines, offset_lines, is_named, unaligned_line, is_under, under_line, is_shared, shared_line, is_miscopied, copied_line, TallyMap, mul-le, Counts, Tally, count_in, counted_in, tally_in, no_tally, TalliesWithin64Bits, tally, breach_lines, TablesRead, ArePassed}
use Rattle.qcow2_check.specs.declared.report.Kind.TheVariants.{Data}
use Rattle.qcow2_check.proofs.KeptBlocks.{count_past_end}
use Rattle.qcow2_check.proofs.NoLines.{front_empty, EndsBelow, lines-empty, fails_each, zero-line, zero_from_line}
use Rattle.qcow2_check.proofs.Terms.{from_some_term, some-sum}
use Rattle.qcow2_check.proofs.TallyTests.{zero_from_is_named, is_named-zero, counted_from_is_under, is_under-counted, once_from_is_shared, is_shared-once, own_from_is_miscopied, is_miscopied-own}
use Rattle.qcow2_check.proofs.AlignedOffsets.{each_aligned, none_off, aligned_cover, cover_never_off}
use Rattle.qcow2_check.proofs.OwnMarks.{IsOwnCluster, own_place, place_own, own_cover, cover_own}
use Rattle.qcow2_check.proofs.EachCovers.{term_under, some-under, each_cover, from_table_terms}

second_some : (m n : ℕ) → m ≡ 0 → m + n ≢ 0 → n ≢ 0
second_some m n none some second = some (omega (arith, none, second))

first-some : (m n : ℕ) → m ≢ 0 → m + n ≢ 0
first-some m n some none = some (omega (arith, none))

second-some : (m n : ℕ) → n ≢ 0 → m + n ≢ 0
second-some m n some none = some (omega (arith, none))

-- no line of any kind
pub record NoLines (h : HeaderFields) (b : Bytes) : Type 0 where
  pub snapshots : snapshot_lines h ≡ []
  pub external : external_lines h ≡ []
  pub l1_table : table_offset_lines h L1 h.l1_offset ≡ []
  pub reftable : table_offset_lines h Reftable h.reftable_offset ≡ []
  pub l2_tables : offset_lines L2 (times (off_l2_tables h b)) ≡ []
  pub refblocks : offset_lines Refblock (times (off_refblocks h b)) ≡ []
  pub of_data : offset_lines Data (times (data_off_below h b h.l1_entries)) ≡ []
  pub under : lines (2 ^ 64) is_under under_line (tally h b) ≡ []
  pub shared : lines (2 ^ 64) is_shared shared_line (tally h b) ≡ []
  pub copied : lines (2 ^ 64) is_miscopied copied_line (tally h b) ≡ []

-- nothing is reported of clusters and offsets past 64 bits
pub record AllEnd (h : HeaderFields) (b : Bytes) : Type 0 where
  pub clusters : EndsBelow (2 ^ 64) (tally h b)
  pub l2_tables : EndsBelow (2 ^ 64) (times (off_l2_tables h b))
  pub refblocks : EndsBelow (2 ^ 64) (times (off_refblocks h b))
  pub of_data : EndsBelow (2 ^ 64) (times (data_off_below h b h.l1_entries))

module _ (h : HeaderFields) (b : Bytes) where
  -- ---- the lines one kind at a time

  abbrev l1s : List Breach
  l1s = table_offset_lines h L1 h.l1_offset

  abbrev reftables : List Breach
  reftables = table_offset_lines h Reftable h.reftable_offset

  abbrev l2s : List Breach
  l2s = offset_lines L2 (times (off_l2_tables h b))

  abbrev blocks : List Breach
  blocks = offset_lines Refblock (times (off_refblocks h b))

  abbrev datas : List Breach
  datas = offset_lines Data (times (data_off_below h b h.l1_entries))

  abbrev unders : List Breach
  unders = lines (2 ^ 64) is_under under_line (tally h b)

  abbrev shareds : List Breach
  shareds = lines (2 ^ 64) is_shared shared_line (tally h b)

  abbrev copieds : List Breach
  copieds = lines (2 ^ 64) is_miscopied copied_line (tally h b)

  abbrev places : List Breach
  places = l1s ++ (reftables ++ (l2s ++ (blocks ++ datas)))

  abbrev clusters : List Breach
  clusters = unders ++ (shareds ++ copieds)

  pub no_lines : breach_lines h b ≡ [] → NoLines h b
  unfolding breach_lines
  no_lines none = grind (arith, front_empty)

  pub no_breach_lines : NoLines h b → breach_lines h b ≡ []
  unfolding breach_lines
  no_breach_lines none = grind arith

  -- ---- alignment of data

  data_aligned : ((o : ℕ) → data_off_below h b h.l1_entries o ≡ 0) → (i j : ℕ) → i < h.l1_entries → host_offset (l1_entry h b i) ≢ 0 → j < entries_per_cluster h
      → CoverIsAligned h (entry_cover h (l2_entry b (host_offset (l1_entry h b i)) j))
  data_aligned none =
      each_cover h b (CoverIsAligned h) (λ o cover. off_cluster_if h o (host_of cover)) (λ o. ⊥) (aligned_cover h)
      (λ o i lt table some. some-sum h.l1_entries (λ i. data_off_at h b o (host_offset (l1_entry h b i))) i lt (some-under _ _ table some) (none o))

  data_never_off : Consistent h b → (o : ℕ) → data_off_below h b h.l1_entries o ≡ 0
  data_never_off is o = elim (cases_eq (data_off_below h b h.l1_entries o) 0) [
    | inl none ↦ none
    | inr some ↦ absurd (from_some_term h.l1_entries (λ i. data_off_at h b o (host_offset (l1_entry h b i)))
        (λ i lt under. term_under _ _ (λ table terms.
        from_table_terms h b (CoverIsAligned h) (λ o cover. off_cluster_if h o (host_of cover)) (λ o. ⊥) (cover_never_off h) is.data_aligned o i lt table terms) under) some)
  ]

  -- ---- marks

  some-entry_mark : (q i : ℕ) → i < h.l1_entries → host_offset (l1_entry h b i) ≢ 0
      → marked_at h q (host_offset (l1_entry h b i)) (is_copied (l1_entry h b i)) ≢ 0 → marked_below h b h.l1_entries q ≢ 0
  some-entry_mark q i lt table some = some-sum h.l1_entries (λ i. marked_under h b (l1_entry h b i) q) i lt (first-some _ _ (some-under _ _ table some))

  some-table_mark : (q i : ℕ) → i < h.l1_entries → host_offset (l1_entry h b i) ≢ 0
      → marked_by_entries h b (host_offset (l1_entry h b i)) (entries_per_cluster h) q ≢ 0 → marked_below h b h.l1_entries q ≢ 0
  some-table_mark q i lt table some = some-sum h.l1_entries (λ i. marked_under h b (l1_entry h b i) q) i lt (second-some _ _ (some-under _ _ table some))

  own_clusters : Consistent h b → (q : ℕ) → marked_below h b h.l1_entries q ≢ 0 → IsOwnCluster h b q
  own_clusters is q some =
      from_some_term h.l1_entries (λ i. marked_under h b (l1_entry h b i) q)
      (λ i lt under. elim (cases_eq (mark_of_entry h (l1_entry h b i) q) 0) [
        | inl none ↦ term_under _ _ (λ table terms. from_table_terms h b (CopiedIsOwn h b) (marks_of_cover h) (IsOwnCluster h b) (cover_own h b) is.copied_data q i lt table terms)
            (second_some (mark_of_entry h (l1_entry h b i) q) (marked_by_l2_table h b q (host_offset (l1_entry h b i))) none under)
        | inr mark ↦ term_under _ _ (λ table term. place_own h b (host_offset (l1_entry h b i)) (is_copied (l1_entry h b i)) (is.copied_tables i lt table) q term) mark
      ]) some

  -- ---- both ways

  few_tables : (q : ℕ) → named_for_tables h b q ≤ named h b q
  unfolding named
  few_tables q = omega arith

  pub consistent_without_lines : HeaderReads h b → ReftableFits h → TablesRead h b → AllEnd h b → NoLines h b → Consistent h b
  consistent_without_lines reads fits tables end none =
      let owns : (q : ℕ) → marked_below h b h.l1_entries q ≢ 0 → IsOwnCluster h b q = λ q.
      own_from_is_miscopied (tally h b q) (fails_each (2 ^ 64) is_miscopied copied_line (tally h b) refl end.clusters none.copied q) in
      record {
        header_reads = reads;
        reftable_fits = fits;
        l1_reads = tables.l1_entries;
        reftable_reads = tables.reftable;
        no_snapshots = zero_from_line _ _ none.snapshots;
        no_data_file = zero_from_line _ _ none.external;
        l1_aligned = zero_from_line _ _ none.l1_table;
        reftable_aligned = zero_from_line _ _ none.reftable;
        l2_tables_aligned = each_aligned h h.l1_entries (λ i. host_offset (l1_entry h b i))
            (λ o. zero_from_is_named (times (off_l2_tables h b) o) (fails_each (2 ^ 64) is_named (unaligned_line L2) (times (off_l2_tables h b)) refl end.l2_tables none.l2_tables o));
        refblocks_aligned = each_aligned h (reftable_entries h) (λ k. block_offset (reftable_entry h b k))
            (λ o. zero_from_is_named (times (off_refblocks h b) o) (fails_each (2 ^ 64) is_named (unaligned_line Refblock) (times (off_refblocks h b)) refl end.refblocks none.refblocks o));
        data_aligned = data_aligned
            (λ o. zero_from_is_named (times (data_off_below h b h.l1_entries) o) (fails_each (2 ^ 64) is_named (unaligned_line Data) (times (data_off_below h b h.l1_entries)) refl end.of_data none.of_data o));
        counted = λ q. counted_from_is_under (tally h b q) (fails_each (2 ^ 64) is_under under_line (tally h b) refl end.clusters none.under q);
        tables_once = λ q. once_from_is_shared (tally h b q) (fails_each (2 ^ 64) is_shared shared_line (tally h b) refl end.clusters none.shared q) (few_tables q);
        copied_tables = λ i lt table. own_place h b (host_offset (l1_entry h b i)) (is_copied (l1_entry h b i)) (λ q mark. owns q (some-entry_mark q i lt table mark));
        copied_data = each_cover h b (CopiedIsOwn h b) (marks_of_cover h) (IsOwnCluster h b) (own_cover h b)
            (λ q i lt table terms. owns q (some-table_mark q i lt table terms));
      }

  pub no_lines_where_consistent : Consistent h b → NoLines h b
  no_lines_where_consistent is = record {
    snapshots = zero-line _ _ is.no_snapshots;
    external = zero-line _ _ is.no_data_file;
    l1_table = zero-line _ _ is.l1_aligned;
    reftable = zero-line _ _ is.reftable_aligned;
    l2_tables = lines-empty (2 ^ 64) is_named (unaligned_line L2) (times (off_l2_tables h b))
        (λ o. is_named-zero (times (off_l2_tables h b) o) (none_off h h.l1_entries (λ i. host_offset (l1_entry h b i)) is.l2_tables_aligned o));
    refblocks = lines-empty (2 ^ 64) is_named (unaligned_line Refblock) (times (off_refblocks h b))
        (λ o. is_named-zero (times (off_refblocks h b) o) (none_off h (reftable_entries h) (λ k. block_offset (reftable_entry h b k)) is.refblocks_aligned o));
    of_data = lines-empty (2 ^ 64) is_named (unaligned_line Data) (times (data_off_below h b h.l1_entries))
        (λ o. is_named-zero (times (data_off_below h b h.l1_entries) o) (data_never_off is o));
    under = lines-empty (2 ^ 64) is_under under_line (tally h b) (λ q. is_under-counted (tally h b q) (is.counted q));
    shared = lines-empty (2 ^ 64) is_shared shared_line (tally h b) (λ q. is_shared-once (tally h b q) (is.tables_once q));
    copied = lines-empty (2 ^ 64) is_miscopied copied_line (tally h b) (λ q. is_miscopied-own (tally h b q) (own_clusters is q));
  }

  pub no_breaches : HeaderReads h b → ReftableFits h → TablesRead h b → AllEnd h b → (breach_lines h b ≡ []) ↔ Consistent h b
  no_breaches reads fits tables end =
      ((λ none. consistent_without_lines reads fits tables end (no_lines none)), (λ is. no_breach_lines (no_lines_where_consistent is)))

  -- ---- the maps that a walk over an image leaves

  -- a count beside no tally
  abbrev tally_with : Tally → ℕ → Tally
  tally_with t n = record { named = t.named; for_tables = t.for_tables; marked = t.marked; count = n }

  counted_ends : (names : TallyMap) (counts : Counts) → TalliesWithin64Bits names → EndsBelow (2 ^ 64) (counted_in names counts)
  counted_ends names counts near q past =
      let low : length counts.numbers.items * counts.per_block ≤ 2 ^ 20 * 2 ^ 24 = mul-le _ _ _ _ counts.few counts.narrow in
      ap (λ t. tally_with t (count_in counts q)) (near q past) ∙ ap (tally_with no_tally) (count_past_end counts q (omega (arith, low)))

  pub all_end : (names l2_tables refblocks data' : TallyMap) (counts : Counts)
      → ArePassed h b (counted_in names counts) (tally_in l2_tables) (tally_in refblocks) (tally_in data')
      → TalliesWithin64Bits names → TalliesWithin64Bits l2_tables → TalliesWithin64Bits refblocks → TalliesWithin64Bits data' → AllEnd h b
  all_end names l2_tables refblocks data' counts are one two three four = record {
    clusters = subst (EndsBelow (2 ^ 64)) are.clusters_are (counted_ends names counts one);
    l2_tables = subst (EndsBelow (2 ^ 64)) are.l2_tables_are two;
    refblocks = subst (EndsBelow (2 ^ 64)) are.refblocks_are three;
    of_data = subst (EndsBelow (2 ^ 64)) are.data_are four;
  }

-- the same of another header and another file that are equal to these
pub breaches_told : (h k : HeaderFields) (old new : List ℕ) (items : List Breach) → new ≡ old → h ≡ k
    → HeaderReads h (byte_at old) → ReftableFits h → TablesRead h (byte_at new) → AllEnd h (byte_at new) → items ≡ breach_lines k (byte_at old) → (items ≡ []) ↔ Consistent k (byte_at old)
breaches_told h k old new items same is reads fits tables end lines = grind (arith, no_breaches)
