-- Masks and shifts against the bits of a number.
use Rattle.std.proofs.Common.{◌≡◌, ◌+◌, ◌-◌, ◌*◌, ◌/◌, ◌%◌, ◌^◌, ◌<◌, ◌≤◌, ℕ, not, eqb, ap, ◌∙◌, arith}
use Rattle.qcow2_metadata.proofs.Common.{bit_and, one_shl, and_mask, field_of, pow_pos, and_le_r, mod_below, pow_mono, and_pow, bits_of, has_bit}

-- `n & (1 << k) != 0`
pub mask_tests_bit : (n k : ℕ) → not (eqb (bit_and n (2 ^ k)) 0) ≡ has_bit n k
mask_tests_bit n k = grind (arith, and_pow)

-- `n & ((1 << x) - 1)`
pub low_mask : (n x : ℕ) → 1 ≤ x → x < 64 → bit_and n (1 * 2 ^ x % 2 ^ 64 - 1) ≡ bits_of 0 (x - 1) n
low_mask n x low high =
    let width : x ≡ x - 1 + 1 - 0 = omega arith in
    let whole : n ≡ n / 1 = omega arith in
    ap (λ m. bit_and n (m - 1)) (one_shl x 64 high) ∙ and_mask n x
    ∙ ap (λ m. n % 2 ^ m) width ∙ ap (λ m. m % 2 ^ (x - 1 + 1 - 0)) whole

-- `(n & ((1 << high) - 1)) >> low`
pub middle_bits : (n low high : ℕ) → low ≤ high → bit_and n (2 ^ high - 1) / 2 ^ low ≡ n / 2 ^ low % 2 ^ (high - low)
middle_bits n low high le =
    let split : high ≡ high - low + low = omega arith in
    ap (λ m. m / 2 ^ low) (and_mask n high) ∙ ap (λ m. n % 2 ^ m / 2 ^ low) split ∙ field_of n (high - low) low

pub low_mask_below : (n x : ℕ) → x ≤ 61 → bit_and n (1 * 2 ^ x % 2 ^ 64 - 1) < 2 ^ 61
low_mask_below n x le = grind (arith, pow_mono, and_le_r)

pub middle_bits_below : (n low high k : ℕ) → low ≤ high → high - low ≤ k → bit_and n (2 ^ high - 1) / 2 ^ low < 2 ^ k
middle_bits_below n low high k le few =
    let small : 2 ^ (high - low) ≤ 2 ^ k = pow_mono few in
    omega (arith, middle_bits n low high le, mod_below (n / 2 ^ low) (2 ^ (high - low)) (pow_pos (high - low)))
