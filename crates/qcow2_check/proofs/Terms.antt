-- Sums that aren't 0.
use Rattle.std.proofs.Common.{◌≡◌, ◌≢◌, ◌<◌, ℕ, zero, suc, Bool, true, false, refl, arith, inl, inr}
use Rattle.qcow2_check.proofs.Common.{cases_eq, sum_below, one_if}
use Rattle.qcow2_check.proofs.Sums.{term_le-sum_below}

-- what follows from each term follows from the sum
pub from_some_term : (n : ℕ) (f : ℕ → ℕ) {P : Type 0} → ((i : ℕ) → i < n → f i ≢ 0 → P) → sum_below n f ≢ 0 → P
unfolding sum_below
from_some_term zero f follows some = absurd (some refl)
from_some_term (suc n) f follows some = elim (cases_eq (f n) 0) [
  | inl none ↦ from_some_term n f (λ i lt. follows i (omega arith)) (λ front. some (omega (arith, none, front)))
  | inr last ↦ follows n (omega arith) last
]

-- a term that isn't 0 makes a sum that isn't
pub some-sum : (n : ℕ) (f : ℕ → ℕ) (i : ℕ) → i < n → f i ≢ 0 → sum_below n f ≢ 0
some-sum n f i lt some none = some (omega (arith, term_le-sum_below n f i lt, none))

pub true_from_some : (b : Bool) → one_if b ≢ 0 → b ≡ true
true_from_some true some = refl
true_from_some false some = absurd (some refl)

pub one_if-some : (b : Bool) → b ≡ true → one_if b ≢ 0
one_if-some true is none = omega (arith, none)
one_if-some false is none = cc
