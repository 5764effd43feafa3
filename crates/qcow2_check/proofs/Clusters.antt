-- How many clusters compressed data touch.
use Rattle.std.proofs.Common.{◌≡◌, ◌+◌, ◌-◌, ◌*◌, ◌/◌, ◌%◌, ◌^◌, ◌<◌, ◌≤◌, ℕ, arith}
use Rattle.qcow2_check.proofs.Common.{mul-le-mul_left, pow_mono, one_shl}

pub few_clusters : (place sectors size : ℕ) → 512 ≤ size → sectors ≤ 2 ^ 14
    → ((place / 512 + sectors) * 512 - 1) / size < place / size + 32768
few_clusters place sectors size large few = grind (arith, mul-le-mul_left)

pub few_of_bits : (place sectors bits : ℕ) → 9 ≤ bits → bits ≤ 21 → sectors ≤ 2 ^ 14
    → ((place / 512 + sectors) * 512 - 1) / (1 * 2 ^ bits % 2 ^ 64) < place / (1 * 2 ^ bits % 2 ^ 64) + 32768
few_of_bits place sectors bits low high few =
    let is : 1 * 2 ^ bits % 2 ^ 64 ≡ 2 ^ bits = one_shl bits 64 (omega arith) in
    let large : 2 ^ 9 ≤ 2 ^ bits = pow_mono low in
    few_clusters place sectors _ (omega arith) few
