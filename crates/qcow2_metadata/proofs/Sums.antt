-- Sums over a range.
use Rattle.std.proofs.Common.{◌≡◌, ◌<◌, ◌≤◌, ℕ, zero, suc, refl, ap, arith, inl, inr}
use Rattle.std.proofs.lemmas.Bool.{cases_eq}
use Rattle.qcow2_metadata.specs.Bytes.{sum_below}

pub sum_below-same : (n : ℕ) (f g : ℕ → ℕ) → ((i : ℕ) → i < n → f i ≡ g i) → sum_below n f ≡ sum_below n g
unfolding sum_below
sum_below-same zero f g h = refl
sum_below-same (suc n) f g h =
    let front : sum_below n f ≡ sum_below n g = sum_below-same n f g (λ i lt. h i (omega arith)) in
    let last = h n (omega arith) in
    cc

-- each term is at most the sum
pub term_le-sum_below : (n : ℕ) (f : ℕ → ℕ) (k : ℕ) → k < n → f k ≤ sum_below n f
unfolding sum_below
term_le-sum_below zero f k lt = absurd (omega arith)
term_le-sum_below (suc n) f k lt =
    elim (cases_eq k n) [
      | inl same ↦ let last : f k ≡ f n = ap f same in omega arith
      | inr other ↦ let front = term_le-sum_below n f k (omega arith) in omega arith
    ]
