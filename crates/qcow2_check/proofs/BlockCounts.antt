-- The refcounts of one refblock.
use Rattle.std.proofs.Common.{◌≡◌, ◌*◌, ◌/◌, ◌^◌, ◌<◌, ◌⊎◌, ℕ, cond, ltb, List, [], length, sym, ap, ◌∙◌, arith, inl, inr}
use Rattle.qcow2_check.proofs.Common.{cond-true, cond-false, lt-ltb, le-ltb, zero-div, byte_at}
use Rattle.qcow2_metadata.specs.RefBlock.{count_in as count_in_bytes}
pub use Rattle.qcow2_metadata.proofs.RefCounts.{zero_count}

-- the counts of what is kept of a refblock's bytes
pub counts_of_kept : (kept bytes : List ℕ) (order j : ℕ) → (kept ≡ bytes) ⊎ ((kept ≡ []) × ((k : ℕ) → byte_at bytes k ≡ 0)) → j < length bytes * 8 / 2 ^ order
    → cond (ltb j (length kept * 8 / 2 ^ order)) (count_in_bytes order kept j) 0 ≡ count_in_bytes order bytes j
counts_of_kept kept bytes order j (inl all) inside =
    let long : length kept * 8 / 2 ^ order ≡ length bytes * 8 / 2 ^ order = ap (λ bs. length bs * 8 / 2 ^ order) all in
    cond-true _ _ _ (lt-ltb j (length kept * 8 / 2 ^ order) (omega arith)) ∙ ap (λ bs. count_in_bytes order bs j) all
counts_of_kept kept bytes order j (inr none) inside =
    let short : length kept * 8 / 2 ^ order ≡ 0 = ap (λ (bs : List ℕ). length bs * 8 / 2 ^ order) none.0 ∙ zero-div (2 ^ order) in
    cond-false _ _ _ (le-ltb j (length kept * 8 / 2 ^ order) (omega arith)) ∙ sym (zero_count order bytes j none.1)
