-- The refcounts that the reftable gives.
use Rattle.std.proofs.Common.{◌≡◌, ◌≢◌, ◌-◌, ◌*◌, ◌%◌, ◌^◌, ◌<◌, ◌≤◌, ℕ, List, length, arith, sym, ap, ◌∙◌}
use Rattle.qcow2_check.proofs.Common.{cond-false, ne_eqb, le-ltb, pow-add, HeaderFields, Bytes, cluster_size, counts_per_block, reftable_entries, reftable_entry, HasBytesAt, count_stands, block_count_or_zero}
use Rattle.qcow2_metadata.specs.RefBlock.{count_in}

pub whole_cluster : (bits : ℕ) → 9 ≤ bits → 2 ^ bits % 8 ≡ 0
whole_cluster bits low =
    let split : 2 ^ bits ≡ 2 ^ (bits - 3) * 2 ^ 3 = ap (λ n. 2 ^ n) (omega arith) ∙ pow-add 2 (bits - 3) 3 in
    omega (arith, split)

-- the counts of a refblock that was read into a buffer
pub read_counts : (h : HeaderFields) (b : Bytes) (bytes : List ℕ) (place : ℕ) → h.refcount_order ≤ 6 → cluster_size h % 8 ≡ 0
    → place ≢ 0 → HasBytesAt b place bytes → length bytes ≡ cluster_size h
    → (j : ℕ) → j < counts_per_block h → count_in h.refcount_order bytes j ≡ block_count_or_zero h b place j
read_counts h b bytes place few whole some stands long j inside =
    count_stands b place bytes h.refcount_order j stands (rw long whole) few (rw long inside) ∙ sym (cond-false _ _ _ (ne_eqb place 0 some))

-- ---- the reftable

pub reftable_entry-past : (h : HeaderFields) (b : Bytes) (k : ℕ) → reftable_entries h ≤ k → reftable_entry h b k ≡ 0
unfolding reftable_entry
reftable_entry-past h b k past = cond-false _ _ _ (le-ltb k (reftable_entries h) past)
