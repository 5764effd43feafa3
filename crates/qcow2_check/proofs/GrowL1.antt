-- Steps over the L1 table.
use Rattle.std.proofs.Common.{◌≡◌, ◌≢◌, ◌+◌, ◌*◌, ℕ, List, length, ap, ◌∙◌, arith}
use Rattle.qcow2_check.proofs.Common.{cond-true, eq-eqb, TallyMap, Bytes, byte_at, HeaderFields, cluster_size, entries_per_cluster, host_offset, named_by_l2_table, table_in, TalliesGrow, entry_at, named_by_entries, marked_by_entries, marked_by_l2_table, mark_of_entry, tables_among, marks_among, HasBytesAt}
use Rattle.qcow2_check.proofs.Sums.{sum_below_none, sum_below_more}
use Rattle.qcow2_check.proofs.Grow.{grows_none}
use Rattle.qcow2_check.proofs.Shifts.{named_by_part, marked_by_part}

-- ---- the entries of the L1 table

pub entries_none : (h : HeaderFields) (l1 : List ℕ) (m : TallyMap) → TalliesGrow m m (tables_among h l1 0) (tables_among h l1 0) (marks_among h l1 0)
entries_none h l1 m = grows_none m _ _ _ (λ q. sum_below_none _) (λ q. sum_below_none _) (λ q. sum_below_none _)

pub entries_more : (h : HeaderFields) (l1 : List ℕ) (i entry : ℕ) (old mid new : TallyMap) → entry ≡ entry_at l1 i
    → TalliesGrow old mid (tables_among h l1 i) (tables_among h l1 i) (marks_among h l1 i)
    → TalliesGrow mid new (λ q. table_in h q (host_offset entry)) (λ q. table_in h q (host_offset entry)) (mark_of_entry h entry)
    → TalliesGrow old new (tables_among h l1 (i + 1)) (tables_among h l1 (i + 1)) (marks_among h l1 (i + 1))
entries_more h l1 i entry old mid new is so_far next = grind (arith, sum_below_more)

-- ---- an L2 table, so many times

pub no_table : (h : HeaderFields) (b : Bytes) (place times : ℕ) (m : TallyMap) → place ≡ 0
    → TalliesGrow m m (λ q. times * named_by_l2_table h b q place) (λ _. 0) (λ q. times * marked_by_l2_table h b q place)
unfolding named_by_l2_table
no_table h b place times m none =
    let is = eq-eqb place 0 none in
    grows_none m _ _ _ (λ q. ap (λ n. times * n) (cond-true _ _ _ is) ∙ omega arith) (λ q. omega arith) (λ q. ap (λ n. times * n) (cond-true _ _ _ is) ∙ omega arith)

-- it was read into these bytes
pub one_table : (h : HeaderFields) (b : Bytes) (bytes : List ℕ) (place times : ℕ) (old new : TallyMap)
    → place ≢ 0 → HasBytesAt b place bytes → length bytes ≡ cluster_size h
    → TalliesGrow old new (λ q. times * named_by_entries h (byte_at bytes) 0 (entries_per_cluster h) q) (λ _. 0) (λ q. times * marked_by_entries h (byte_at bytes) 0 (entries_per_cluster h) q)
    → TalliesGrow old new (λ q. times * named_by_l2_table h b q place) (λ _. 0) (λ q. times * marked_by_l2_table h b q place)
unfolding named_by_l2_table
one_table h b bytes place times old new some stands whole table = grind (arith, named_by_part, marked_by_part)
