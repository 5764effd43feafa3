-- Ranges whose refblock is aligned, and those whose refblock is not.
use Rattle.std.proofs.Common.{◌≡◌, ◌*◌, ◌/◌, ◌%◌, ◌^◌, ℕ, sym, ap, ◌∙◌, subst}
use Rattle.qcow2_alloc.proofs.Common.{mul-mod_left, block_offset, EntryTableView, cluster_size, counts_per_block, entry_at, HeaderFields, IsUnaligned}

-- the range of a cluster, as a number of counts tells it
pub unaligned_as : (h : HeaderFields) (t : EntryTableView) (cluster per : ℕ) → counts_per_block h ≡ per → IsUnaligned h t (cluster / counts_per_block h) → IsUnaligned h t (cluster / per)
unaligned_as h t cluster per counts u = subst (λ n. IsUnaligned h t (cluster / n)) counts u

-- ---- the clusters of a run

-- a refblock that was loaded begins at a cluster
pub not_off : {A : Type 0} (h : HeaderFields) (t : EntryTableView) (range cluster bits offset : ℕ) → offset ≡ block_offset (entry_at t.bytes range) → cluster * 2 ^ bits ≡ offset → bits ≡ h.cluster_bits → IsUnaligned h t range → A
not_off h t range cluster bits offset entry at same u =
    let on : block_offset (entry_at t.bytes range) % cluster_size h ≡ 0 = ap (λ n. n % cluster_size h) (sym (at ∙ entry)) ∙ subst (λ b. cluster * 2 ^ bits % 2 ^ b ≡ 0) same (mul-mod_left cluster (2 ^ bits)) in
    absurd (u.off on)
