-- Refcounts over steps of an image's file: they change with what is pending, and rise when a refblock gets its reference.
use Rattle.std.proofs.Common.{◌≡◌, ◌≢◌, ◌+◌, ◌≤◌, ◌==◌, inl, inr, ℕ, ap, arith}
use Rattle.qcow2_alloc.proofs.Common.{cases_eq, cond-true, eq-eqb, Bytes, HeaderFields, reftable_entries, l1_entry, reftable_entry, block_offset, count, in_cluster, table_in, named_by_reftable, named_for_tables, named_by_guest, Direction, Pending, CrashInvariant, SameCovers, names, over_guests-same, sum_below-le, l1_names-same, pending_at}

-- no refblock is named less
module _ (h : HeaderFields) (on_storage on_storage' : Bytes) (kept : (k : ℕ) → block_offset (reftable_entry h on_storage k) ≢ 0 → reftable_entry h on_storage' k ≡ reftable_entry h on_storage k) where
  named_more : (c k : ℕ) → table_in h c (block_offset (reftable_entry h on_storage k)) ≤ table_in h c (block_offset (reftable_entry h on_storage' k))
  named_more c k = elim (cases_eq (block_offset (reftable_entry h on_storage k)) 0) [
    | inl none ↦
        let zero : table_in h c (block_offset (reftable_entry h on_storage k)) ≡ 0 = cond-true {A = ℕ} (block_offset (reftable_entry h on_storage k) == 0) 0 (in_cluster h c (block_offset (reftable_entry h on_storage k))) (eq-eqb _ 0 none) in
        omega arith
    | inr some ↦ let same = ap (λ e. table_in h c (block_offset e)) (kept k some) in omega arith
  ]

  blocks_more : (c : ℕ) → named_by_reftable h on_storage c ≤ named_by_reftable h on_storage' c
  unfolding named_by_reftable
  blocks_more c = sum_below-le (reftable_entries h) _ _ (λ k _. named_more c k)

  pub fixed_more : ((i : ℕ) → l1_entry h on_storage' i ≡ l1_entry h on_storage i) → (c : ℕ) → named_for_tables h on_storage c ≤ named_for_tables h on_storage' c
  unfolding named_for_tables
  fixed_more same c = let blocks = blocks_more c in let l1 = l1_names-same h on_storage' on_storage c same in omega arith

pub counts_follow : (h : HeaderFields) (d d' : Direction) (p p' : Pending) (on_storage on_storage' known known' : Bytes) → CrashInvariant h d p on_storage known → CrashInvariant h d' p' on_storage' known' → SameCovers h known known'
    → ((c : ℕ) → named_for_tables h on_storage c ≤ named_for_tables h on_storage' c)
    → (c : ℕ) → p'.surplus c ≡ p.surplus c → count h known c + pending_at p' c ≤ count h known' c + pending_at p c
counts_follow h d d' p p' on_storage on_storage' known known' old new covers table_refs c same =
    let before = (old.each_cluster c).tally in
    let after = (new.each_cluster c).tally in
    let used = over_guests-same h (names h known c) (names h known' c) (λ g. ap (named_by_guest h c) (covers g)) in
    let more = table_refs c in
    omega arith
