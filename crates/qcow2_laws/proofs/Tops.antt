-- What stays the same if the header, the L1 table and the reftable do.
use Rattle.std.proofs.Common.{◌≡◌, ◌+◌, ◌<◌, ℕ, refl, sym, ap, ◌∙◌, arith, subst, cond, add-zero, zero, suc}
use Rattle.qcow2_laws.proofs.Common.{Bytes, bytes_from, SameFrom, HeaderFields, header, HeaderReads, cluster_size, reftable_entries, l1_entry, reftable_entry, host_offset, block_offset, is_copied, L1EntryReads, ReftableEntryReads, named_for_tables, named_by_reftable, named_by_l1_table, table_in, IsAligned, IsOfHeaderRest, KeepsHeaderRest, marked_by_l1_table, IsTop, SameTop}
use Rattle.qcow2_metadata.proofs.SameHeader.{header-same, well_formed-same}
use Rattle.qcow2_laws.proofs.Sums.{sum_below-same}
use Rattle.qcow2_laws.proofs.Places.{SameFrom-sym, Sizes, Sizes-from}

-- ---- the header and its names

pub from_start : (n : ℕ) (b c : Bytes) → SameFrom 0 n b c → (i : ℕ) → i < n → b i ≡ c i
from_start n b c same i lt = let here : 0 + i ≡ i = omega arith in ap b (sym here) ∙ same i lt ∙ ap c here

pub header-first : (h : HeaderFields) (b c : Bytes) → Sizes h → SameFrom 0 (cluster_size h) b c → header b ≡ header c
header-first h b c sizes same = header-same b c (λ i lt. from_start (cluster_size h) b c same i (let l = sizes.large in omega arith))

pub bytes_from-same : (b c : Bytes) (place n : ℕ) → SameFrom place n b c → bytes_from b place n ≡ bytes_from c place n
bytes_from-same b c place zero same = refl
bytes_from-same b c place (suc n) same =
    let first : b place ≡ c place = simp add-zero at (same 0 (omega arith)) in
    let rest : bytes_from b (place + 1) n ≡ bytes_from c (place + 1) n =
    bytes_from-same b c (place + 1) n (λ i lt.
    let here : place + (1 + i) ≡ place + 1 + i = omega arith in
    ap b (sym here) ∙ same (1 + i) (omega arith) ∙ ap c here) in
    cc

pub HeaderReads-same : (h : HeaderFields) (b c : Bytes) → SameFrom 0 (cluster_size h) b c → HeaderReads h b → HeaderReads h c
HeaderReads-same h b c same reads = record { well_formed = well_formed-same h b c (λ i low lt. from_start (cluster_size h) b c same i lt) reads.well_formed; within_limits = reads.within_limits }

-- the rest of its cluster stays while a header becomes another one of the same version and cluster size
pub rest_kept : (h h' : HeaderFields) (b b' : Bytes) → header b ≡ h → header b' ≡ h' → h'.version ≡ h.version → cluster_size h' ≡ cluster_size h
    → ((o : ℕ) → o < cluster_size h → IsOfHeaderRest h o → b' o ≡ b o) → KeepsHeaderRest b b'
rest_kept h h' b b' is is' version size same = record {
  version = ap (λ (k : HeaderFields). k.version) is' ∙ version ∙ sym (ap (λ (k : HeaderFields). k.version) is);
  bytes = λ o lt of_rest. same o (subst (λ k. o < cluster_size k) is lt) (subst (λ k. IsOfHeaderRest k o) is of_rest);
  cluster_size = ap cluster_size is' ∙ size ∙ sym (ap cluster_size is);
}

pub first_keeps_rest : (h : HeaderFields) (b b' : Bytes) → header b ≡ h → header b' ≡ h → SameFrom 0 (cluster_size h) b b' → KeepsHeaderRest b b'
first_keeps_rest h b b' is is' same = rest_kept h h b b' is is' refl refl (λ o lt _. sym (from_start (cluster_size h) b b' same o lt))

-- ---- the same top

pub SameTop-refl : (h : HeaderFields) (b : Bytes) → SameTop h b b
SameTop-refl h b = record { first_cluster = λ i lt. refl; l1 = λ i. refl; reftable = λ k. refl }

pub SameTop-sym : (h : HeaderFields) (b c : Bytes) → SameTop h b c → SameTop h c b
SameTop-sym h b c same = record { first_cluster = SameFrom-sym 0 (cluster_size h) b c same.first_cluster; l1 = λ i. sym (same.l1 i); reftable = λ k. sym (same.reftable k) }

pub SameTop-trans : (h : HeaderFields) (a b c : Bytes) → SameTop h a b → SameTop h b c → SameTop h a c
SameTop-trans h a b c first second = record {
  first_cluster = λ i lt. first.first_cluster i lt ∙ second.first_cluster i lt;
  l1 = λ i. first.l1 i ∙ second.l1 i;
  reftable = λ k. first.reftable k ∙ second.reftable k;
}

pub l1_names-same : (h : HeaderFields) (b c : Bytes) (cluster : ℕ) → ((i : ℕ) → l1_entry h b i ≡ l1_entry h c i) → named_by_l1_table h b cluster ≡ named_by_l1_table h c cluster
unfolding named_by_l1_table
l1_names-same h b c cluster same = sum_below-same h.l1_entries _ _ (λ i _. ap (λ e. table_in h cluster (host_offset e)) (same i))

pub reftable_names-same : (h : HeaderFields) (b c : Bytes) (cluster : ℕ) → ((k : ℕ) → reftable_entry h b k ≡ reftable_entry h c k) → named_by_reftable h b cluster ≡ named_by_reftable h c cluster
unfolding named_by_reftable
reftable_names-same h b c cluster same = sum_below-same (reftable_entries h) _ _ (λ k _. ap (λ e. table_in h cluster (block_offset e)) (same k))

pub l1_marks-same : (h : HeaderFields) (b c : Bytes) (cluster : ℕ) → ((i : ℕ) → l1_entry h b i ≡ l1_entry h c i) → marked_by_l1_table h b cluster ≡ marked_by_l1_table h c cluster
unfolding marked_by_l1_table
l1_marks-same h b c cluster same = sum_below-same h.l1_entries _ _ (λ i _. ap (λ e. cond (is_copied e) (table_in h cluster (host_offset e)) 0) (same i))

pub for_tables-top : (h : HeaderFields) (b c : Bytes) (cluster : ℕ) → SameTop h b c → named_for_tables h b cluster ≡ named_for_tables h c cluster
unfolding named_for_tables
for_tables-top h b c cluster same =
    let by_reftable = reftable_names-same h b c cluster same.reftable in
    let by_l1 = l1_names-same h b c cluster same.l1 in
    omega arith

pub copied_l1_refs-top : (h : HeaderFields) (b c : Bytes) (cluster : ℕ) → SameTop h b c → marked_by_l1_table h b cluster ≡ marked_by_l1_table h c cluster
copied_l1_refs-top h b c cluster same = l1_marks-same h b c cluster same.l1

pub IsTop-top : (h : HeaderFields) (b c : Bytes) → SameTop h b c → IsTop h b → IsTop h c
IsTop-top h b c same top =
    record {
      header_is = sym (header-first h b c (Sizes-from h b top.header_reads) same.first_cluster) ∙ top.header_is;
      header_reads = HeaderReads-same h b c same.first_cluster top.header_reads;
      reftable_fits = top.reftable_fits;
      l1_reads = λ i lt. subst L1EntryReads (same.l1 i) (top.l1_reads i lt);
      reftable_reads = λ k lt. subst ReftableEntryReads (same.reftable k) (top.reftable_reads k lt);
      no_snapshots = top.no_snapshots;
      l1_aligned = top.l1_aligned;
      reftable_aligned = top.reftable_aligned;
      l2_tables_aligned = λ i lt. subst (λ e. IsAligned h (host_offset e)) (same.l1 i) (top.l2_tables_aligned i lt);
      refblocks_aligned = λ k lt. subst (λ e. IsAligned h (block_offset e)) (same.reftable k) (top.refblocks_aligned k lt);
    }
