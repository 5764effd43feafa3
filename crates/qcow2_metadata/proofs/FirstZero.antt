-- One-bit refcounts that are all 1.
use Rattle.std.proofs.Common.{◌≡◌, ◌≢◌, ◌+◌, ◌-◌, ◌*◌, ◌/◌, ◌%◌, ◌^◌, ◌<◌, ◌≤◌, ℕ, zero, suc, List, length, inl, inr, ap, ◌∙◌, sym, refl, pow-suc, arith}
use Rattle.qcow2_metadata.proofs.Common.{cases_eq, Bytes, byte_at, number_at, RefBlockView, count_in, counts_of, IsRefBlock}
use Rattle.qcow2_metadata.proofs.Quotients.{multiple_of_8}
use Rattle.qcow2_metadata.proofs.RefCounts.{narrow_count}

-- n bytes that spell the greatest number are 255 each
all_ones : (b : Bytes) (place n : ℕ) → ((k : ℕ) → b k < 256) → number_at b place n + 1 ≡ 256 ^ n → (k : ℕ) → k < n → b (place + k) ≡ 255
unfolding number_at
all_ones b place zero fits is k lt = absurd (omega arith)
all_ones b place (suc n) fits is k lt =
    let last = fits (place + n) in
    let split : 256 ^ suc n ≡ 256 ^ n * 256 = pow-suc 256 n in
    elim (cases_eq k n) [
      | inl same ↦ rw same (omega (arith, split, last, is))
      | inr other ↦ all_ones b place n fits (omega (arith, split, last, is)) k (omega arith)
    ]

-- a bit of 255 is 1
bit_of_ones : (s : ℕ) → s < 8 → 255 / 2 ^ s % 2 ≡ 1
bit_of_ones (suc (suc (suc (suc (suc (suc (suc (suc n)))))))) lt = absurd (omega arith)
bit_of_ones _ lt = refl

-- eight bytes that spell the greatest number are 64 one-bit counts of 1
pub ones_counted : (bytes : List ℕ) (index : ℕ) → ((k : ℕ) → byte_at bytes k < 256) → index % 64 ≡ 0 → number_at (byte_at bytes) (index / 8) 8 ≡ 2 ^ 64 - 1
    → (k : ℕ) → index ≤ k → k < index + 64 → count_in 0 bytes k ≢ 0
ones_counted bytes index fits row is k low high none =
    let ones = all_ones (byte_at bytes) (index / 8) 8 fits (omega (arith, is)) (k / 8 - index / 8) (omega arith) in
    let place : index / 8 + (k / 8 - index / 8) ≡ k * 1 / 8 = omega arith in
    let byte : byte_at bytes (k * 1 / 8) ≡ 255 = ap (byte_at bytes) (sym place) ∙ ones in
    let bit = bit_of_ones (k * 1 % 8) (omega arith) in
    let count = narrow_count bytes 0 k (omega arith) (fits (k * 1 / 8)) ∙ ap (λ b. b / 2 ^ (k * 1 % 8) % 2) byte ∙ bit in
    omega (arith, count, none)

-- they lie within their refblock
pub ones_within : (block : RefBlockView) (index : ℕ) → IsRefBlock block → block.refcount_order ≡ 0 → index % 64 ≡ 0 → index < counts_of block
    → (counts_of block ≡ length block.bytes * 8) × (index + 64 ≤ counts_of block)
ones_within block index is narrow row inside =
    let many : counts_of block ≡ 2 ^ block.cluster_bits * 8 / 1 = ap (λ order. 2 ^ block.cluster_bits * 8 / 2 ^ order) narrow in
    let whole = is.whole in
    let eights = multiple_of_8 block.cluster_bits (let low = is.bits.0 in omega (arith, low)) in
    (omega (arith, many, whole), omega (arith, many, eights, row, inside))
