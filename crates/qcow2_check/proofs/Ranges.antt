-- The clusters of a range, one after another.
use Rattle.std.proofs.Common.{◌≡◌, ◌+◌, ◌-◌, ◌*◌, ◌≤◌, ◌&&◌, ℕ, false, eqb, ap, ◌∙◌, arith}
use Rattle.qcow2_check.proofs.Common.{nat_le, nat_lt, nat_tests, mul-le-mul_left, TallyMap, one_if, TalliesGrow, AddsTimes}

one_more : (first next q : ℕ) → first ≤ next → one_if (nat_le first q && nat_lt q (next + 1)) ≡ one_if (nat_le first q && nat_lt q next) + one_if (eqb next q)
one_more first next q le = grind (arith, nat_tests)

pub range_more : (first next times : ℕ) (old mid new : TallyMap) → first ≤ next
    → TalliesGrow old mid (λ q. times * one_if (nat_le first q && nat_lt q next)) (λ _. 0) (λ _. 0) → AddsTimes mid new next times false false
    → TalliesGrow old new (λ q. times * one_if (nat_le first q && nat_lt q (next + 1))) (λ _. 0) (λ _. 0)
range_more first next times old mid new le so_far adds = grind arith

pub one_longer : (first next times : ℕ) → first ≤ next → times * (next + 1 - first) ≡ times * (next - first) + times
one_longer first next times le = let is : next + 1 - first ≡ next - first + 1 = omega arith in ap (λ n. times * n) is ∙ omega arith

-- so many times a number is at most so many times a greater one
pub times_le : (times n most : ℕ) → n ≤ most → times * n ≤ times * most
times_le times n most le = mul-le-mul_left times le
