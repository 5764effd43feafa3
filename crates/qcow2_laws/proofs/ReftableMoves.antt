-- The header's pointer to a new reftable, with new refblocks, is written.
use Rattle.std.proofs.Common.{◌≡◌, ◌+◌, ◌-◌, ◌*◌, ◌/◌, ◌%◌, ◌<◌, ◌≤◌, ◌≢◌, ℕ, [], refl, sym, ap, ◌∙◌, arith, inl, inr, subst}
use Rattle.qcow2_laws.proofs.Common.{cases_eq, cases_lt, mod_below, Bytes, HeaderFields, cluster_size, counts_per_block, count_width, l1_entry, reftable_entry, count, count_under, block_count, host_offset, block_offset, L1EntryReads, ReftableEntryReads, cover, cover_under, in_cluster, in_run, table_in, named_for_tables, named_by_reftable, named_by_l1_table, IsAligned, SafeStep, Direction, named_in_either, marked_by_l1_table, Pending, CrashInvariant, IsTop, SameTop, IsSameOutside, renamed, IsUnnamed, with_places, KeepsCovers, WritesHeader, with_reftable_at, IsNewReftable}
use Rattle.qcow2_laws.proofs.Sums.{sum_below-same}
use Rattle.qcow2_laws.proofs.Places.{Sizes, Sizes-from, SameFrom-in, reftable-same, block_count-moved, count_in, count_none}
use Rattle.qcow2_laws.proofs.Tops.{l1_marks-same}
use Rattle.qcow2_laws.proofs.Consistency.{in_own}
use Rattle.qcow2_laws.proofs.Writes.{new_tables_is_unnamed, unused_is_unnamed}
use Rattle.qcow2_laws.proofs.Shares.{shares, in_reftable, reftable_has, block_has}
use Rattle.qcow2_laws.proofs.Renaming.{tables_renamed, moved_step}
use Rattle.qcow2_laws.proofs.SafeSteps.{state}
use Rattle.qcow2_laws.proofs.Headers.{header_sizes, header_fixed, header_l1, header_known_l1, header_reftable, header_known_reftable, header_covers, header_known_covers, header_counts, header_known_counts, header_elsewhere, header_unlaid, unnamed_elsewhere}

module _ (h : HeaderFields) (offset clusters : ℕ) (blocks counted : ℕ → ℕ) (d : Direction) (p : Pending) (on_storage known on_storage' known' : Bytes) (crash_invariant : CrashInvariant h d p on_storage known)
    (writes : WritesHeader h (with_reftable_at h offset clusters) on_storage known on_storage' known') (new : IsNewReftable h d p on_storage known offset clusters blocks counted) where
  sizes : Sizes h
  sizes = header_sizes h (with_reftable_at h offset clusters) d p on_storage known on_storage' known' crash_invariant writes

  now_sizes : Sizes (with_places h (with_reftable_at h offset clusters))
  now_sizes = Sizes-from (with_places h (with_reftable_at h offset clusters)) on_storage' writes.reads

  known_block : (k : ℕ) → block_offset (reftable_entry h known k) ≡ block_offset (reftable_entry h on_storage k)
  known_block k = ap block_offset (sym (crash_invariant.same_top.reftable k))

  none_counted : (c : ℕ) → 0 < counted c → (count h known c ≡ 0) × (count h on_storage c ≡ 0)
  none_counted c some =
      let none = (new.counted_anew c some).0 in
      (count_none h known c (known_block (c / counts_per_block h) ∙ none), count_none h on_storage c none)

  -- what is to be named is named by nothing yet
  unnamed : (c : ℕ) → 0 < in_run h c offset (clusters * cluster_size h) + blocks c → IsUnnamed h on_storage known c
  unnamed c some = elim (cases_lt 0 (counted c)) [
    | inl anew ↦ let none = none_counted c anew in unused_is_unnamed h d p on_storage known crash_invariant c none.0 none.1
    | inr not ↦ new_tables_is_unnamed h d p on_storage known crash_invariant c (new.new_tables c (omega arith)).0 new.written
  ]

  others : (c : ℕ) → 0 < in_run h c offset (clusters * cluster_size h) + blocks c → c ≢ 0
  others c some = unnamed_elsewhere h (with_reftable_at h offset clusters) d p on_storage known on_storage' known' crash_invariant writes c (unnamed c some).no_table

  stays : (b b' : Bytes) → IsSameOutside (cluster_size h) 0 b b' → (k : ℕ)
      → reftable_entry (with_places h (with_reftable_at h offset clusters)) b k ≡ reftable_entry (with_places h (with_reftable_at h offset clusters)) b' k
  stays b b' alike k =
      reftable-same (with_places h (with_reftable_at h offset clusters)) b b' k now_sizes new.aligned (λ lt o in_c.
      alike o (λ e. others _ (let one = reftable_has (with_places h (with_reftable_at h offset clusters)) k now_sizes new.aligned lt in omega arith) (sym in_c ∙ e)))

  pub now_reftable : (k : ℕ) → reftable_entry (with_places h (with_reftable_at h offset clusters)) on_storage k ≡ reftable_entry (with_places h (with_reftable_at h offset clusters)) on_storage' k
  now_reftable = stays on_storage on_storage' writes.others

  now_known_reftable : (k : ℕ) → reftable_entry (with_places h (with_reftable_at h offset clusters)) on_storage k ≡ reftable_entry (with_places h (with_reftable_at h offset clusters)) known' k
  now_known_reftable k = sym (new.known_same k) ∙ stays known known' writes.known_others k

  -- a new refblock doesn't lie in the header's cluster
  block_elsewhere : (k : ℕ) → block_offset (reftable_entry (with_places h (with_reftable_at h offset clusters)) on_storage k) ≢ 0
      → block_offset (reftable_entry (with_places h (with_reftable_at h offset clusters)) on_storage k) / cluster_size h ≢ 0
  block_elsewhere k real e =
      let has = block_has (with_places h (with_reftable_at h offset clusters)) on_storage k real in
      let at : 1 ≤ named_by_reftable (with_places h (with_reftable_at h offset clusters)) on_storage 0 = subst (λ n. 1 ≤ named_by_reftable (with_places h (with_reftable_at h offset clusters)) on_storage n) e has in
      let are = new.blocks_are 0 in
      let parts = shares h on_storage 0 in
      let table_refs = header_fixed h (with_reftable_at h offset clusters) d p on_storage known on_storage' known' crash_invariant writes in
      let table = (crash_invariant.each_cluster 0).table table_refs in
      let zero : 0 / cluster_size h ≡ 0 = let size = sizes.some in omega arith in
      let one : in_cluster h 0 0 ≡ 1 = ap (λ n. in_cluster h n 0) (sym zero) ∙ in_own h 0 in
      others 0 (omega arith) refl

  -- ---- counts
  count_of : (b : Bytes) (c e : ℕ) → reftable_entry h b (c / counts_per_block h) ≡ e → reftable_entry (with_places h (with_reftable_at h offset clusters)) b (c / counts_per_block h) ≡ e
      → count (with_places h (with_reftable_at h offset clusters)) b c ≡ count h b c
  unfolding count count_under
  count_of b c e is is' = ap (λ x. count_under h b x c) is' ∙ sym (ap (λ x. count_under h b x c) is)

  count_anew : (b b' : Bytes) → IsSameOutside (cluster_size h) 0 b b' → (c : ℕ)
      → reftable_entry (with_places h (with_reftable_at h offset clusters)) on_storage (c / counts_per_block h) ≡ reftable_entry (with_places h (with_reftable_at h offset clusters)) b' (c / counts_per_block h)
      → block_offset (reftable_entry (with_places h (with_reftable_at h offset clusters)) on_storage (c / counts_per_block h)) ≢ 0
      → block_count b (count_width h) (block_offset (reftable_entry (with_places h (with_reftable_at h offset clusters)) on_storage (c / counts_per_block h))) (c % counts_per_block h) ≡ counted c
      → count (with_places h (with_reftable_at h offset clusters)) b' c ≡ counted c
  count_anew b b' alike c entry real says =
      let at = ap block_offset entry in
      let place = block_offset (reftable_entry (with_places h (with_reftable_at h offset clusters)) on_storage (c / counts_per_block h)) in
      count_in (with_places h (with_reftable_at h offset clusters)) b' c (λ none. real (at ∙ none))
      ∙ ap (λ t. block_count b' (count_width h) t (c % counts_per_block h)) (sym at)
      ∙ sym (block_count-moved h b b' place place (c % counts_per_block h) sizes (mod_below c (counts_per_block h) sizes.counts)
      (SameFrom-in (cluster_size h) _ place b b' (λ o in_c. alike o (λ e. block_elsewhere (c / counts_per_block h) real (sym in_c ∙ e))) (new.blocks_aligned (c / counts_per_block h)) refl))
      ∙ says

  not_anew : (c : ℕ) → block_offset (reftable_entry h on_storage (c / counts_per_block h)) ≢ 0 → counted c ≡ 0
  not_anew c real = elim (cases_lt 0 (counted c)) [
    | inl some ↦ absurd (real (new.counted_anew c some).0)
    | inr none ↦ omega arith
  ]

  counts : (c : ℕ) → count (with_places h (with_reftable_at h offset clusters)) on_storage' c ≡ count h on_storage c + counted c
  counts c =
      let k = c / counts_per_block h in
      elim (cases_eq (block_offset (reftable_entry h on_storage (c / counts_per_block h))) 0) [
        | inl none ↦
            let before = count_none h on_storage c none in
            elim (cases_eq (block_offset (reftable_entry (with_places h (with_reftable_at h offset clusters)) on_storage (c / counts_per_block h))) 0) [
              | inl still ↦
                  let after = count_none (with_places h (with_reftable_at h offset clusters)) on_storage' c (ap block_offset (sym (now_reftable k)) ∙ still) in
                  elim (cases_lt 0 (counted c)) [ inl some ↦ absurd ((new.counted_anew c some).1 still) | inr zero ↦ omega arith ]
              | inr real ↦ let after = count_anew on_storage on_storage' writes.others c (now_reftable k) real (new.says c none real).0 in omega arith
            ]
        | inr real ↦
            let zero = not_anew c real in
            let now = count_of on_storage' c (reftable_entry h on_storage k) (sym (header_reftable h (with_reftable_at h offset clusters) d p on_storage known on_storage' known' crash_invariant writes k)) (sym (now_reftable k) ∙ new.same k real) in
            let stay = header_counts h (with_reftable_at h offset clusters) d p on_storage known on_storage' known' crash_invariant writes c in
            omega arith
      ]

  pub known_counts : (c : ℕ) → count (with_places h (with_reftable_at h offset clusters)) known' c ≡ count h known c + counted c
  known_counts c =
      let k = c / counts_per_block h in
      elim (cases_eq (block_offset (reftable_entry h on_storage (c / counts_per_block h))) 0) [
        | inl none ↦
            let before = count_none h known c (known_block k ∙ none) in
            elim (cases_eq (block_offset (reftable_entry (with_places h (with_reftable_at h offset clusters)) on_storage (c / counts_per_block h))) 0) [
              | inl still ↦
                  let after = count_none (with_places h (with_reftable_at h offset clusters)) known' c (ap block_offset (sym (now_known_reftable k)) ∙ still) in
                  elim (cases_lt 0 (counted c)) [ inl some ↦ absurd ((new.counted_anew c some).1 still) | inr zero ↦ omega arith ]
              | inr real ↦ let after = count_anew known known' writes.known_others c (now_known_reftable k) real (new.says c none real).1 in omega arith
            ]
        | inr real ↦
            let zero = not_anew c real in
            let now = count_of known' c (reftable_entry h on_storage k)
            (sym (crash_invariant.same_top.reftable k ∙ header_known_reftable h (with_reftable_at h offset clusters) d p on_storage known on_storage' known' crash_invariant writes k)) (sym (now_known_reftable k) ∙ new.same k real) in
            let stay = header_known_counts h (with_reftable_at h offset clusters) d p on_storage known on_storage' known' crash_invariant writes c in
            omega arith
      ]

  -- ---- entries of the L1 table stay
  l1_too : (b : Bytes) (i : ℕ) → l1_entry (with_places h (with_reftable_at h offset clusters)) b i ≡ l1_entry h b i
  unfolding l1_entry
  l1_too b i = refl

  covers_too : (b : Bytes) (g : ℕ) → cover (with_places h (with_reftable_at h offset clusters)) b g ≡ cover h b g
  unfolding cover cover_under l1_entry
  covers_too b g = refl

  pub now_l1 : (i : ℕ) → l1_entry h on_storage i ≡ l1_entry (with_places h (with_reftable_at h offset clusters)) on_storage' i
  now_l1 i = header_l1 h (with_reftable_at h offset clusters) d p on_storage known on_storage' known' crash_invariant writes i ∙ sym (l1_too on_storage' i)

  top_now : IsTop (with_places h (with_reftable_at h offset clusters)) on_storage'
  top_now = record {
    header_is = writes.is;
    header_reads = writes.reads;
    reftable_fits = new.fits;
    l1_reads = λ i lt. subst L1EntryReads (now_l1 i) (crash_invariant.top.l1_reads i lt);
    reftable_reads = λ k lt. subst ReftableEntryReads (now_reftable k) (new.reads k);
    no_snapshots = crash_invariant.top.no_snapshots;
    l1_aligned = crash_invariant.top.l1_aligned;
    reftable_aligned = new.aligned;
    l2_tables_aligned = λ i lt. subst (λ e. IsAligned h (host_offset e)) (now_l1 i) (crash_invariant.top.l2_tables_aligned i lt);
    refblocks_aligned = λ k lt. subst (λ e. IsAligned h (block_offset e)) (now_reftable k) (new.blocks_aligned k);
  }

  same_top_now : SameTop (with_places h (with_reftable_at h offset clusters)) on_storage' known'
  same_top_now = record {
    first_cluster = writes.same_first;
    l1 = λ i. sym (now_l1 i) ∙ crash_invariant.same_top.l1 i ∙ header_known_l1 h (with_reftable_at h offset clusters) d p on_storage known on_storage' known' crash_invariant writes i ∙ sym (l1_too known' i);
    reftable = λ k. sym (now_reftable k) ∙ now_known_reftable k;
  }

  covers : KeepsCovers h (with_reftable_at h offset clusters) on_storage on_storage'
  covers g = header_covers h (with_reftable_at h offset clusters) d p on_storage known on_storage' known' crash_invariant writes g ∙ sym (covers_too on_storage' g)

  known_covers : KeepsCovers h (with_reftable_at h offset clusters) known known'
  known_covers g = header_known_covers h (with_reftable_at h offset clusters) d p on_storage known on_storage' known' crash_invariant writes g ∙ sym (covers_too known' g)

  not_overlaid : (o : ℕ) → 0 < named_in_either h on_storage known (o / cluster_size h) + p.new_data (o / cluster_size h) → on_storage' o ≡ known' o
  not_overlaid = header_unlaid h (with_reftable_at h offset clusters) d p on_storage known on_storage' known' crash_invariant writes

  -- ---- how often tables name a cluster now
  tables_same : (c : ℕ) → named_by_l1_table (with_places h (with_reftable_at h offset clusters)) on_storage' c ≡ named_by_l1_table h on_storage c
  unfolding named_by_l1_table
  tables_same c = sum_below-same h.l1_entries _ _ (λ i lt. ap (λ e. table_in h c (host_offset e)) (sym (now_l1 i)))

  marks_too : (c : ℕ) → marked_by_l1_table (with_places h (with_reftable_at h offset clusters)) on_storage' c ≡ marked_by_l1_table h on_storage' c
  unfolding marked_by_l1_table l1_entry
  marks_too c = refl

  blocks_now : (c : ℕ) → named_by_reftable (with_places h (with_reftable_at h offset clusters)) on_storage' c ≡ named_by_reftable h on_storage c + blocks c
  unfolding named_by_reftable
  blocks_now c = sum_below-same _ _ _ (λ k lt. ap (λ e. table_in h c (block_offset e)) (sym (now_reftable k))) ∙ new.blocks_are c

  fixed_changed : (c : ℕ) → named_for_tables (with_places h (with_reftable_at h offset clusters)) on_storage' c + in_reftable h c
      ≡ named_for_tables h on_storage c + (in_run h c offset (clusters * cluster_size h) + blocks c - counted c) + counted c
  fixed_changed c =
      let before = shares h on_storage c in
      let after = shares (with_places h (with_reftable_at h offset clusters)) on_storage' c in
      let tables = tables_same c in
      let now = blocks_now c in
      let le = new.counted_there c in
      omega arith

  elsewhere : (o : ℕ) → 0 < named_in_either h on_storage known (o / cluster_size h) → o / cluster_size h ≢ 0
  elsewhere o some = header_elsewhere h (with_reftable_at h offset clusters) d p on_storage known on_storage' known' crash_invariant writes o (omega arith)

  pub reftable_moved : SafeStep (state h d p on_storage known)
      (state (with_places h (with_reftable_at h offset clusters)) d (renamed p (λ c. in_run h c offset (clusters * cluster_size h) + blocks c - counted c) (in_reftable h)) on_storage' known') (λ _. []) []
  reftable_moved =
      moved_step h (with_reftable_at h offset clusters) d p (renamed p (λ c. in_run h c offset (clusters * cluster_size h) + blocks c - counted c) (in_reftable h)) on_storage known on_storage' known' crash_invariant
      top_now same_top_now (omega arith) covers known_covers not_overlaid
      (tables_renamed h (with_reftable_at h offset clusters) d p (renamed p (λ c. in_run h c offset (clusters * cluster_size h) + blocks c - counted c) (in_reftable h)) on_storage known on_storage' known' crash_invariant
      top_now same_top_now (omega arith) covers known_covers not_overlaid
      (λ c. in_run h c offset (clusters * cluster_size h) + blocks c - counted c) counted (in_reftable h) (λ c. (refl, refl, refl, refl, refl))
      (λ c. let one = new.once c in let le = new.counted_there c in omega arith) fixed_changed
      (λ c. let e = marks_too c ∙ sym (l1_marks-same h on_storage on_storage' c (header_l1 h (with_reftable_at h offset clusters) d p on_storage known on_storage' known' crash_invariant writes)) in omega arith)
      counts known_counts (λ c some. let f = new.new_tables c (omega arith) in (f.0, f.1, new.written)) none_counted)
      (λ o some. writes.others o (elsewhere o some)) (λ o some. writes.known_others o (elsewhere o some)) writes.rest [] (inl refl)
