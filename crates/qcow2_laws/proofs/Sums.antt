-- Sums over a range.
use Rattle.std.proofs.Common.{◌≡◌, ◌+◌, ◌*◌, ◌<◌, ◌≤◌, ◌≢◌, ℕ, zero, suc, refl, sym, ap, ◌∙◌, arith, inl, inr}
use Rattle.qcow2_laws.proofs.Common.{cases_eq, cases_lt, sum_below}
pub use Rattle.qcow2_metadata.proofs.Sums.{sum_below-same, term_le-sum_below}

pub sum_below-zero : (n : ℕ) (f : ℕ → ℕ) → ((i : ℕ) → i < n → f i ≡ 0) → sum_below n f ≡ 0
unfolding sum_below
sum_below-zero zero f h = refl
sum_below-zero (suc n) f h =
    let front = sum_below-zero n f (λ i lt. h i (omega arith)) in
    let last = h n (omega arith) in
    omega arith

pub sum_below-le : (n : ℕ) (f g : ℕ → ℕ) → ((i : ℕ) → i < n → f i ≤ g i) → sum_below n f ≤ sum_below n g
unfolding sum_below
sum_below-le zero f g h = omega arith
sum_below-le (suc n) f g h =
    let front = sum_below-le n f g (λ i lt. h i (omega arith)) in
    let last = h n (omega arith) in
    omega arith

pub two_terms_le-sum_below : (n : ℕ) (f : ℕ → ℕ) (k l : ℕ) → k < n → l < n → k ≢ l → f k + f l ≤ sum_below n f
unfolding sum_below
two_terms_le-sum_below zero f k l lt lt' ne = absurd (omega arith)
two_terms_le-sum_below (suc n) f k l lt lt' ne =
    elim (cases_eq k n) [
      | inl same ↦ let last : f k ≡ f n = ap f same in let front = term_le-sum_below n f l (omega arith) in omega arith
      | inr other ↦ elim (cases_eq l n) [
        | inl same ↦ let last : f l ≡ f n = ap f same in let front = term_le-sum_below n f k (omega arith) in omega arith
        | inr other' ↦ let front = two_terms_le-sum_below n f k l (omega arith) (omega arith) ne in omega arith
      ]
    ]

-- a sum that isn't 0 has a term that isn't
pub some_term : (n : ℕ) (f : ℕ → ℕ) → 0 < sum_below n f → (k : ℕ) × (k < n) × (0 < f k)
unfolding sum_below
some_term zero f some = absurd (omega arith)
some_term (suc n) f some =
    elim (cases_lt 0 (f n)) [
      | inl here ↦ (n, omega arith, here)
      | inr none ↦ let before = some_term n f (omega arith) in (before.0, omega (arith, before.1), before.2)
    ]

-- two sums that differ at one place
pub sum_below-change : (n : ℕ) (f g : ℕ → ℕ) (k : ℕ) → k < n → ((i : ℕ) → i < n → i ≢ k → f i ≡ g i) → sum_below n f + g k ≡ sum_below n g + f k
unfolding sum_below
sum_below-change zero f g k lt h = absurd (omega arith)
sum_below-change (suc n) f g k lt h =
    elim (cases_eq k n) [
      | inl same ↦
          let front : sum_below n f ≡ sum_below n g = sum_below-same n f g (λ i below. h i (omega arith) (omega arith)) in
          let at_f : f k ≡ f n = ap f same in
          let at_g : g k ≡ g n = ap g same in
          omega arith
      | inr other ↦
          let front = sum_below-change n f g k (omega arith) (λ i below ne. h i (omega arith) ne) in
          let last = h n (omega arith) (λ e. other (sym e)) in
          omega arith
    ]

-- further terms that are 0
pub sum_below-longer : (n m : ℕ) (f : ℕ → ℕ) → ((i : ℕ) → n ≤ i → f i ≡ 0) → sum_below (n + m) f ≡ sum_below n f
unfolding sum_below
sum_below-longer n zero f none = let e : n + 0 ≡ n = omega arith in ap (λ k. sum_below k f) e
sum_below-longer n (suc m) f none =
    let e : n + suc m ≡ suc (n + m) = omega arith in
    let front = sum_below-longer n m f none in
    let last = none (n + m) (omega arith) in
    let step : sum_below (suc (n + m)) f ≡ sum_below n f = omega arith in
    ap (λ k. sum_below k f) e ∙ step

-- row by row
sum_below-add : (a k : ℕ) (f : ℕ → ℕ) → sum_below (a + k) f ≡ sum_below a f + sum_below k (λ j. f (a + j))
unfolding sum_below
sum_below-add a zero f = let e : a + 0 ≡ a = omega arith in let s : sum_below (a + 0) f ≡ sum_below a f = ap (λ k. sum_below k f) e in omega arith
sum_below-add a (suc k) f =
    let e : a + suc k ≡ suc (a + k) = omega arith in
    let s : sum_below (a + suc k) f ≡ sum_below (suc (a + k)) f = ap (λ k. sum_below k f) e in
    let front = sum_below-add a k f in
    omega arith

pub sum_below-rows : (n m : ℕ) (f : ℕ → ℕ) → sum_below n (λ i. sum_below m (λ j. f (i * m + j))) ≡ sum_below (n * m) f
unfolding sum_below
sum_below-rows zero m f = let e : 0 * m ≡ 0 = omega arith in sym (ap (λ k. sum_below k f) e)
sum_below-rows (suc n) m f =
    let e : suc n * m ≡ n * m + m = omega arith in
    let front = sum_below-rows n m f in
    let last = sum_below-add (n * m) m f in
    let step : sum_below (suc n) (λ i. sum_below m (λ j. f (i * m + j))) ≡ sum_below (n * m + m) f = omega arith in
    step ∙ sym (ap (λ k. sum_below k f) e)
