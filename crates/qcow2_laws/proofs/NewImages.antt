-- A new image of three clusters is consistent, for every cluster size and refcount width.
use Rattle.std.proofs.Common.{◌≡◌, ◌+◌, ◌-◌, ◌*◌, ◌/◌, ◌%◌, ◌^◌, ◌<◌, ◌≤◌, ◌&&◌, ℕ, suc, cond, ltb, refl, sym, ap, ◌∙◌, arith, inl, inr, subst}
use Rattle.qcow2_laws.proofs.Common.{cases_lt, cond-true, cond-false, lt-ltb, le-ltb, nat_le, nat_lt, nat_tests, div-mul-add, mod-mul-add, pow-add, le-div, pow_mono, Bytes, one_if, HeaderFields, ReftableFits, cluster_size, reftable_entries, count_width, counts_per_block, reftable_entry, count, block_count, block_offset, ReftableEntryReads, in_cluster, table_in, named, named_for_tables, named_by_reftable, named_by_l1_table, named_by_l2_tables, Consistent, IsConsistent, IsAligned, one_at, HasNoLeaks, surplus_of}
use Rattle.qcow2_laws.specs.NewImages.{IsNewImage}
use Rattle.qcow2_laws.proofs.Lemmas.{sum_below-change, sum_below-zero, Sizes, Sizes-from, count_in, count_none, shares, in_l1, in_reftable}

-- where a number lies in a cluster of its own
at_multiple : (n cs : ℕ) → 0 < cs → n * cs / cs ≡ n
at_multiple n cs some = let e : n * cs ≡ n * cs + 0 = omega arith in ap (λ k. k / cs) e ∙ div-mul-add n cs 0 some

module _ (h : HeaderFields) (b : Bytes) (new : IsNewImage h b) where
  sizes : Sizes h
  sizes = Sizes-from h b new.reads

  -- the size of clusters in sectors
  sectors : cluster_size h ≡ 2 ^ (h.cluster_bits - 9) * 512
  sectors =
      let split : h.cluster_bits ≡ h.cluster_bits - 9 + 9 = omega (arith, new.reads.well_formed.in_range.cluster_bits.0) in
      ap (λ n. 2 ^ n) split ∙ pow-add 2 (h.cluster_bits - 9) 9

  few : 2 ^ (h.cluster_bits - 9) ≤ 2 ^ 12
  few = let le : h.cluster_bits - 9 ≤ 12 = omega (arith, new.reads.well_formed.in_range.cluster_bits.1) in pow_mono le

  block_at : block_offset (2 * cluster_size h) ≡ 2 * cluster_size h
  block_at = grind (arith, sectors)

  block_reads : ReftableEntryReads (2 * cluster_size h)
  block_reads = grind (arith, sectors)

  -- what holds of no entry and of the refblock's holds of each
  each_entry : (Q : ℕ → Type 0) → Q 0 → Q (2 * cluster_size h) → (k : ℕ) → Q (reftable_entry h b k)
  each_entry Q none there k = grind arith

  aligned_two : IsAligned h (block_offset (2 * cluster_size h))
  aligned_two = grind (arith, block_at)

  -- ---- which clusters are named

  one_first : (c : ℕ) → in_cluster h c 0 ≡ one_at 0 c
  one_first c = grind arith

  none_l1 : (c : ℕ) → in_l1 h c ≡ 0
  none_l1 c = grind (arith, sizes)

  one_reftable : (c : ℕ) → in_reftable h c ≡ one_at 1 c
  one_reftable c =
      let some = sizes.some in
      let first : h.reftable_offset / cluster_size h ≡ 1 = (let e : h.reftable_offset ≡ 1 * cluster_size h = omega (arith, new.reftable_offset) in ap (λ n. n / cluster_size h) e ∙ at_multiple 1 (cluster_size h) some) in
      let clusters : h.reftable_clusters * cluster_size h ≡ cluster_size h = (let e : 1 * cluster_size h ≡ cluster_size h = omega arith in ap (λ n. n * cluster_size h) new.reftable_clusters ∙ e) in
      let rest : (h.reftable_clusters * cluster_size h + cluster_size h - 1) / cluster_size h ≡ 1 =
      (let e : h.reftable_clusters * cluster_size h + cluster_size h - 1 ≡ 1 * cluster_size h + (cluster_size h - 1) = omega arith in
      ap (λ n. n / cluster_size h) e ∙ div-mul-add 1 (cluster_size h) (cluster_size h - 1) (omega arith)) in
      run_one (h.reftable_offset / cluster_size h) ((h.reftable_clusters * cluster_size h + cluster_size h - 1) / cluster_size h) c first rest
    where
      run_one : (first n c : ℕ) → first ≡ 1 → n ≡ 1 → one_if (nat_le first c && nat_lt c (first + n)) ≡ one_at 1 c
      run_one first n c a b = grind (arith, nat_tests)

  one_block : (c : ℕ) → table_in h c (block_offset (2 * cluster_size h)) ≡ one_at 2 c
  one_block c = grind (arith, sizes, block_at, at_multiple)

  some_entries : 0 < reftable_entries h
  some_entries = grind (arith, sizes)

  blocks : (c : ℕ) → named_by_reftable h b c ≡ one_at 2 c
  unfolding named_by_reftable
  blocks c =
      let none = sum_below-zero (reftable_entries h) (λ k. 0) (λ k lt. refl) in
      let change = sum_below-change (reftable_entries h) (λ k. table_in h c (block_offset (reftable_entry h b k))) (λ k. 0) 0 some_entries (λ k lt ne. ap (λ e. table_in h c (block_offset e)) (new.no_other k ne)) in
      let there : table_in h c (block_offset (reftable_entry h b 0)) ≡ one_at 2 c = ap (λ e. table_in h c (block_offset e)) new.refblock ∙ one_block c in
      omega arith

  tables : (c : ℕ) → named_by_l1_table h b c ≡ 0
  unfolding named_by_l1_table
  tables c = sum_below-zero h.l1_entries _ (λ i lt. absurd (omega (arith, new.no_l1_table.0)))

  entries : (c : ℕ) → named_by_l2_tables h b c ≡ 0
  unfolding named_by_l2_tables
  entries c = sum_below-zero h.l1_entries _ (λ i lt. absurd (omega (arith, new.no_l1_table.0)))

  for_tables_is : (c : ℕ) → named_for_tables h b c ≡ one_at 0 c + one_at 1 c + one_at 2 c
  for_tables_is c = let s = shares h b c in omega (arith, s, one_first c, none_l1 c, one_reftable c, blocks c, tables c)

  named_is : (c : ℕ) → named h b c ≡ one_at 0 c + one_at 1 c + one_at 2 c
  unfolding named
  named_is c = omega (arith, for_tables_is c, entries c)

  three : (c : ℕ) → one_at 0 c + one_at 1 c + one_at 2 c ≡ cond (ltb c 3) 1 0
  three (suc (suc (suc c))) = grind (arith, nat_tests)
  three _ = refl

  -- ---- counts

  enough : 3 < counts_per_block h
  enough = grind (arith, pow_mono, sizes)

  count_is : (c : ℕ) → count h b c ≡ cond (ltb c 3) 1 0
  count_is c = elim (cases_lt c (counts_per_block h)) [
    | inl low ↦
        let some = sizes.some in
        let row : c / counts_per_block h ≡ 0 = (let e : c ≡ 0 * counts_per_block h + c = omega arith in ap (λ n. n / counts_per_block h) e ∙ div-mul-add 0 (counts_per_block h) c low) in
        let column : c % counts_per_block h ≡ c = (let e : c ≡ 0 * counts_per_block h + c = omega arith in ap (λ n. n % counts_per_block h) e ∙ mod-mul-add 0 (counts_per_block h) c low) in
        let at : block_offset (reftable_entry h b (c / counts_per_block h)) ≡ 2 * cluster_size h = ap (λ k. block_offset (reftable_entry h b k)) row ∙ ap block_offset new.refblock ∙ block_at in
        count_in h b c (λ none. absurd (omega arith))
        ∙ ap (λ t. block_count b (count_width h) t (c % counts_per_block h)) at
        ∙ ap (λ i. block_count b (count_width h) (2 * cluster_size h) i) column
        ∙ new.counts c low
    | inr high ↦
        let past = enough in
        let row : 1 ≤ c / counts_per_block h = le-div 1 c (counts_per_block h) sizes.counts (omega arith) in
        let none : block_offset (reftable_entry h b (c / counts_per_block h)) ≡ 0 = ap block_offset (new.no_other (c / counts_per_block h) (λ e. omega arith)) in
        count_none h b c none ∙ sym (cond-false {A = ℕ} (ltb c 3) 1 0 (le-ltb c 3 (omega arith)))
  ]

  fits : ReftableFits h
  fits = grind arith

  pub new_consistent : Consistent h b
  new_consistent = record {
    header_reads = new.reads;
    reftable_fits = fits;
    l1_reads = λ i lt. absurd (omega (arith, new.no_l1_table.0));
    reftable_reads = λ k lt. each_entry ReftableEntryReads refl block_reads k;
    no_snapshots = new.no_snapshots;
    no_data_file = new.no_data_file;
    l1_aligned = let some = sizes.some in let e : h.l1_offset ≡ 0 = new.no_l1_table.1 in omega arith;
    reftable_aligned =
        let some = sizes.some in
        let e : h.reftable_offset ≡ 1 * cluster_size h + 0 = omega (arith, new.reftable_offset) in
        ap (λ n. n % cluster_size h) e ∙ mod-mul-add 1 (cluster_size h) 0 (omega arith);
    l2_tables_aligned = λ i lt. absurd (omega (arith, new.no_l1_table.0));
    refblocks_aligned = λ k lt. each_entry (λ e. IsAligned h (block_offset e)) (let some = sizes.some in omega arith) aligned_two k;
    data_aligned = λ i j lt real within. absurd (omega (arith, new.no_l1_table.0));
    counted = λ c. omega (arith, named_is c, three c, count_is c);
    tables_once = λ c some. elim (cases_lt c 3) [
      | inl low ↦ named_is c ∙ three c ∙ cond-true {A = ℕ} (ltb c 3) 1 0 (lt-ltb c 3 low)
      | inr high ↦ absurd (some (for_tables_is c ∙ three c ∙ cond-false {A = ℕ} (ltb c 3) 1 0 (le-ltb c 3 high)))
    ];
    copied_tables = λ i lt real copied. absurd (omega (arith, new.no_l1_table.0));
    copied_data = λ i j lt real within. absurd (omega (arith, new.no_l1_table.0));
  }

  pub new_image_consistent : IsConsistent b
  new_image_consistent = subst (λ t. Consistent t b) (sym new.header_is) new_consistent

  -- its counts are exact
  pub new_image_exact : HasNoLeaks b
  new_image_exact c = ap (λ t. surplus_of t b c) new.header_is ∙ omega (arith, named_is c, three c, count_is c)
