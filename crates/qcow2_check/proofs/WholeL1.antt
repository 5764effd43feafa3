-- The L1 table, and then its L2 tables, put together.
use Rattle.std.proofs.Common.{◌≡◌, ◌+◌, ℕ, List, ap, ◌∙◌, arith}
use Rattle.qcow2_check.proofs.Common.{sum_by, TallyMap, Bytes, sum_below, HeaderFields, l1_entry, host_offset, table_in, named_by_l2_table, entry_at, TalliesGrow, data_off_at, data_off_below, data_off_by_tables, mark_of_entry, marked_by_l2_table, tables_among, marks_among, tables_below, named_below, marked_below, named_by_tables, marked_by_tables}
use Rattle.qcow2_check.proofs.Sums.{sum_below-same}
use Rattle.qcow2_check.proofs.Grow.{grows_more}
use Rattle.qcow2_check.proofs.OffsetSteps.{grows_as}
use Rattle.qcow2_check.proofs.Totals.{sum_below-add}

module _ (h : HeaderFields) (b : Bytes) (l1 places : List ℕ) (n : ℕ) (are : (i : ℕ) → entry_at l1 i ≡ l1_entry h b i)
    (sums : (f : ℕ → ℕ) → sum_by f places ≡ sum_below n (λ i. f (host_offset (entry_at l1 i)))) where
  by_places : (f : ℕ → ℕ) → sum_by f places ≡ sum_below n (λ i. f (host_offset (l1_entry h b i)))
  by_places f =
      sums f ∙ sum_below-same n (λ i. f (host_offset (entry_at l1 i))) (λ i. f (host_offset (l1_entry h b i))) (λ i lt. ap (λ e. f (host_offset e)) (are i))

  by_entries : (f : ℕ → ℕ) → sum_below n (λ i. f (entry_at l1 i)) ≡ sum_below n (λ i. f (l1_entry h b i))
  by_entries f = sum_below-same n (λ i. f (entry_at l1 i)) (λ i. f (l1_entry h b i)) (λ i lt. ap f (are i))

  pub whole_l1 : (old mid new : TallyMap)
      → TalliesGrow old mid (tables_among h l1 n) (tables_among h l1 n) (marks_among h l1 n)
      → TalliesGrow mid new (named_by_tables h b places) (λ _. 0) (marked_by_tables h b places)
      → TalliesGrow old new (named_below h b n) (tables_below h b n) (marked_below h b n)
  whole_l1 old mid new entries tables =
      let tables_are : (q : ℕ) → tables_among h l1 n q ≡ tables_below h b n q = λ q. by_entries (λ e. table_in h q (host_offset e)) in
      let marks_are : (q : ℕ) → marks_among h l1 n q ≡ sum_below n (λ i. mark_of_entry h (l1_entry h b i) q) = λ q. by_entries (λ e. mark_of_entry h e q) in
      grows_more old mid new _ _ _ _ _ _ _ _ _ entries tables
      (λ q.
      let split : named_below h b n q ≡ tables_below h b n q + sum_below n (λ i. named_by_l2_table h b q (host_offset (l1_entry h b i))) =
      sum_below-add n (λ i. table_in h q (host_offset (l1_entry h b i))) (λ i. named_by_l2_table h b q (host_offset (l1_entry h b i))) in
      omega (arith, split, tables_are q, by_places (λ place. named_by_l2_table h b q place)))
      (λ q. omega (arith, tables_are q))
      (λ q.
      let split : marked_below h b n q ≡ sum_below n (λ i. mark_of_entry h (l1_entry h b i) q) + sum_below n (λ i. marked_by_l2_table h b q (host_offset (l1_entry h b i))) =
      sum_below-add n (λ i. mark_of_entry h (l1_entry h b i) q) (λ i. marked_by_l2_table h b q (host_offset (l1_entry h b i))) in
      omega (arith, split, marks_are q, by_places (λ place. marked_by_l2_table h b q place)))

  pub whole_data : (old new : TallyMap) → TalliesGrow old new (data_off_by_tables h b places) (λ _. 0) (λ _. 0) → TalliesGrow old new (data_off_below h b n) (λ _. 0) (λ _. 0)
  whole_data old new tables = grows_as old new _ _ (λ o. by_places (λ place. data_off_at h b o place)) tables
