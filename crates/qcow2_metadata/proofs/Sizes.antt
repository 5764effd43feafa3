-- The sizes that follow from a header's numbers, if these are in range.
use Rattle.std.proofs.Common.{◌≡◌, ◌+◌, ◌-◌, ◌*◌, ◌/◌, ◌%◌, ◌^◌, ◌<◌, ◌≤◌, ℕ, sym, ap, ◌∙◌, subst, arith}
use Rattle.qcow2_metadata.proofs.Common.{one_shl, pow-add, shl-shr, pow_mono}

-- `1 << n` lies between the powers of its bounds
pub shift_low : (low n : ℕ) → low ≤ n → n < 64 → 2 ^ low ≤ 1 * 2 ^ n % 2 ^ 64
shift_low low n le lt = let P : ℕ → Type 0 = λ m. 2 ^ low ≤ m in subst P (sym (one_shl n 64 lt)) (pow_mono le)

pub shift_high : (n high : ℕ) → n ≤ high → high < 64 → 1 * 2 ^ n % 2 ^ 64 ≤ 2 ^ high
shift_high n high le lt = let P : ℕ → Type 0 = λ m. m ≤ 2 ^ high in subst P (sym (one_shl n 64 (omega arith))) (pow_mono le)

-- a power over a lower one
pub power_over : (n k : ℕ) → k ≤ n → 2 ^ n / 2 ^ k ≡ 2 ^ (n - k)
power_over n k le =
    let split : n ≡ n - k + k = omega arith in
    ap (λ m. 2 ^ m / 2 ^ k) split ∙ ap (λ m. m / 2 ^ k) (pow-add 2 (n - k) k) ∙ shl-shr (2 ^ (n - k)) k

-- counts of two to the k bits in a cluster
pub counts_in_block : (n k : ℕ) → k ≤ n + 3 → 2 ^ n * 8 / 2 ^ k ≡ 2 ^ (n + 3 - k)
counts_in_block n k le = ap (λ m. m / 2 ^ k) (sym (pow-add 2 n 3)) ∙ power_over (n + 3) k le
