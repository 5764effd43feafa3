-- Quotients by cluster sizes and table sizes.
use Rattle.std.proofs.Common.{◌≡◌, ◌+◌, ◌-◌, ◌*◌, ◌/◌, ◌%◌, ◌^◌, ◌<◌, ◌≤◌, ◌≢◌, ℕ, zero, suc, min, ap, ◌∙◌, arith, inl, inr}
use Rattle.qcow2_metadata.proofs.Common.{cases_lt, pow_mono, ones_shr, pow-add, pow_pos, shl-shr, mod-mul-add}

-- the entries of a cluster are a power of two
pub eighth_is : (k : ℕ) → 3 ≤ k → 2 ^ k / 8 ≡ 2 ^ (k - 3)
eighth_is k low =
    let split : k ≡ k - 3 + 3 = omega arith in
    ap (λ n. 2 ^ n / 8) split ∙ ap (λ n. n / 8) (pow-add 2 (k - 3) 3) ∙ shl-shr (2 ^ (k - 3)) 3

pub multiple_of_8 : (k : ℕ) → 3 ≤ k → 2 ^ k % 8 ≡ 0
multiple_of_8 k low =
    let split : k ≡ k - 3 + 3 = omega arith in
    let is : 2 ^ k ≡ 2 ^ (k - 3) * 8 = ap (λ n. 2 ^ n) split ∙ pow-add 2 (k - 3) 3 in
    omega (arith, is)

pub eighth_pos : (k : ℕ) → 3 ≤ k → 0 < 2 ^ k / 8
eighth_pos k low = omega (arith, eighth_is k low, pow_pos (k - 3))

-- the number before a multiple is the last of its row
before_multiple : (n w m : ℕ) → 0 < w → n + 1 ≡ m * w → n % w + 1 ≡ w
before_multiple n w zero pos is = absurd (omega arith)
before_multiple n w (suc m) pos is =
    let e : n ≡ m * w + (w - 1) = omega arith in
    omega (arith, ap (λ x. x % w) e, mod-mul-add m w (w - 1) (omega arith))

-- a number that isn't the last of its row has a next one
pub next_fits : (n k : ℕ) → 3 ≤ k → k < 64 → n < 2 ^ 64 → n % (2 ^ k / 8) + 1 ≢ 2 ^ k / 8 → n + 1 < 2 ^ 64
next_fits n k low high fits more =
    elim (cases_lt (n + 1) (2 ^ 64)) [
      | inl lt ↦ lt
      | inr last ↦
          let split : 64 ≡ 67 - k + (k - 3) = omega arith in
          let rows : 2 ^ 64 ≡ 2 ^ (67 - k) * 2 ^ (k - 3) = ap (λ x. 2 ^ x) split ∙ pow-add 2 (67 - k) (k - 3) in
          let is : n + 1 ≡ 2 ^ (67 - k) * 2 ^ (k - 3) = omega (arith, rows) in
          absurd (more (rw eighth_is (before_multiple n (2 ^ (k - 3)) (2 ^ (67 - k)) (pow_pos (k - 3)) is)))
    ]

-- a quotient that is rounded up
pub div_ceil_is : (n k : ℕ) → n / 2 ^ k + min 1 (n % 2 ^ k) ≡ (n + 2 ^ k - 1) / 2 ^ k
div_ceil_is n k = grind (arith, pow_pos)

-- `u64::MAX >> (64 - width)` is the greatest number of a width
pub pow_within : (order : ℕ) → order ≤ 6 → 2 ^ order ≤ 64
pow_within order le = let top : 2 ^ order ≤ 2 ^ 6 = pow_mono le in top

pub greatest_of : (w : ℕ) → w ≤ 64 → (2 ^ 64 - 1) / 2 ^ (64 - w) + 1 ≡ 2 ^ w
greatest_of w le =
    let back : 64 - (64 - w) ≡ w = omega arith in
    omega (arith, ones_shr 64 (64 - w) (omega arith), ap (λ k. 2 ^ k) back, pow_pos w)
