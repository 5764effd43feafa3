-- Powers of ten, as the numbers of parts that digits behind a point count.
use Rattle.std.proofs.Common.{◌≡◌, ◌<◌, ◌≤◌, ◌^◌, ◌+◌, ◌-◌, ℕ, zero, suc, arith}
use Rattle.std.proofs.Math.Nat.{pow-suc}

-- No power of ten is zero.
pub tens_are_some : (k : ℕ) → 0 < 10 ^ k
tens_are_some zero = omega arith
tens_are_some (suc k) = grind (arith, tens_are_some k)

later : (j k : ℕ) → j + 20 ≡ k → 2 ^ 64 ≤ 10 ^ k
later zero k e = grind arith
later (suc j) zero e = grind arith
later (suc j) (suc k) e = let before = later j k (omega arith) in omega (arith, before, pow-suc 10 k)

-- From the 20th on, powers of ten don't fit into 64 bits.
pub long_tens : (k : ℕ) → 20 ≤ k → 2 ^ 64 ≤ 10 ^ k
long_tens k from = later (k - 20) k (omega arith)
