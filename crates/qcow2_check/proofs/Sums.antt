-- Sums over a range.
use Rattle.std.proofs.Common.{◌≡◌, ◌+◌, ℕ, refl, add-one}
use Rattle.qcow2_check.proofs.Common.{sum_below}
pub use Rattle.qcow2_metadata.proofs.Sums.{sum_below-same, term_le-sum_below}

-- a loop that adds the terms up
pub sum_below_none : (f : ℕ → ℕ) → sum_below 0 f ≡ 0
unfolding sum_below
sum_below_none f = refl

pub sum_below_more : (n : ℕ) (f : ℕ → ℕ) → sum_below (n + 1) f ≡ sum_below n f + f n
unfolding sum_below
sum_below_more n f = rw add-one refl
