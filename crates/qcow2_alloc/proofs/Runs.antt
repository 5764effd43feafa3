-- Runs of clusters that are allocated cluster by cluster.
use Rattle.std.proofs.Common.{◌≡◌, ◌+◌, ◌-◌, ◌<◌, ◌≤◌, ◌==◌, ◌&&◌, inl, inr, ℕ, Bool, true, false, nat_le, nat_lt, refl, sym, ap, ◌∙◌, arith}
use Rattle.qcow2_alloc.proofs.Common.{cases_eq, cases_lt, cond-false, ne_eqb, nat_tests, one_at, with_new_data, with_new_tables, Pending, run_at, taken_as}
use Rattle.qcow2_alloc.proofs.FileSteps.{pending_same, one_here}

pub run_in : (first n k : ℕ) → first ≤ k → k < first + n → run_at first n k ≡ 1
run_in first n k low high = let a : nat_le first k ≡ true = grind (arith, nat_tests) in let b : nat_lt k (first + n) ≡ true = grind (arith, nat_tests) in rw (a, b) refl

pub run_before : (first n k : ℕ) → k < first → run_at first n k ≡ 0
run_before first n k below = let a : nat_le first k ≡ false = grind (arith, nat_tests) in rw a refl

pub run_after : (first n k : ℕ) → first + n ≤ k → run_at first n k ≡ 0
run_after first n k above =
    let b : nat_lt k (first + n) ≡ false = grind (arith, nat_tests) in
    let none : (nat_le first k && nat_lt k (first + n)) ≡ false = ap (λ x. nat_le first k && x) b ∙ past (nat_le first k) in
    rw none refl
  where
    past : (b : Bool) → (b && false) ≡ false
    past true = refl
    past false = refl

-- a run of none
pub run_none : (first k : ℕ) → run_at first 0 k ≡ 0
run_none first k = elim (cases_lt k first) [ inl low ↦ run_before first 0 k low | inr high ↦ run_after first 0 k (omega (arith, high)) ]

pub none_there : (c k : ℕ) → (k ≡ c → ⊥) → one_at c k ≡ 0
none_there c k ne = cond-false {A = ℕ} (k == c) 1 0 (ne_eqb k c ne)

-- the first cluster of a run, and the others
pub run_first : (c n k : ℕ) → run_at (c + 1) n k + one_at c k ≡ run_at c (n + 1) k
run_first c n k = elim (cases_eq k c) [
  | inl same ↦
      let a = run_before (c + 1) n k (omega arith) in
      let b = run_in c (n + 1) k (omega arith) (omega arith) in
      let o : one_at c k ≡ 1 = ap (one_at c) same ∙ one_here c in
      omega arith
  | inr other ↦
      let o = none_there c k other in
      elim (cases_lt k c) [
        | inl below ↦ let a = run_before (c + 1) n k (omega arith) in let b = run_before c (n + 1) k below in omega arith
        | inr above ↦ elim (cases_lt k (c + 1 + n)) [
          | inl within ↦ let a = run_in (c + 1) n k (omega arith) within in let b = run_in c (n + 1) k above (omega arith) in omega arith
          | inr past ↦ let a = run_after (c + 1) n k past in let b = run_after c (n + 1) k (omega arith) in omega arith
        ]
      ]
]

-- the last one, and those before it
pub run_last : (c n k : ℕ) → run_at c n k + one_at (c + n) k ≡ run_at c (n + 1) k
run_last c n k = elim (cases_eq k (c + n)) [
  | inl same ↦
      let a = run_after c n k (omega arith) in
      let b = run_in c (n + 1) k (omega arith) (omega arith) in
      let o : one_at (c + n) k ≡ 1 = ap (one_at (c + n)) same ∙ one_here (c + n) in
      omega arith
  | inr other ↦
      let o = none_there (c + n) k other in
      elim (cases_lt k c) [
        | inl below ↦ let a = run_before c n k below in let b = run_before c (n + 1) k below in omega arith
        | inr above ↦ elim (cases_lt k (c + n)) [
          | inl within ↦ let a = run_in c n k above within in let b = run_in c (n + 1) k above (omega arith) in omega arith
          | inr past ↦ let a = run_after c n k past in let b = run_after c (n + 1) k (omega arith) in omega arith
        ]
      ]
]

-- ---- what is pending
more : (d : Bool) (p : Pending) (m n o : ℕ → ℕ) → ((k : ℕ) → m k + n k ≡ o k) → taken_as d (taken_as d p m) n ≡ taken_as d p o
more true p m n o sum = pending_same (with_new_data (with_new_data p m) n) (with_new_data p o) (λ k. let s = sum k in omega arith) (λ k. refl) (λ k. refl) (λ k. refl) (λ k. refl)
more false p m n o sum = pending_same (with_new_tables (with_new_tables p m) n) (with_new_tables p o) (λ k. refl) (λ k. let s = sum k in omega arith) (λ k. refl) (λ k. refl) (λ k. refl)

pub taken_first : (d : Bool) (p : Pending) (c end : ℕ) → c < end → taken_as d (taken_as d p (run_at (c + 1) (end - (c + 1)))) (one_at c) ≡ taken_as d p (run_at c (end - c))
taken_first d p c end lt =
    let e : end - (c + 1) + 1 ≡ end - c = omega arith in
    more d p (run_at (c + 1) (end - (c + 1))) (one_at c) (run_at c (end - c)) (λ k. run_first c (end - (c + 1)) k ∙ ap (λ n. run_at c n k) e)

pub taken_last : (d : Bool) (p : Pending) (first n : ℕ) → taken_as d (taken_as d p (run_at first n)) (one_at (first + n)) ≡ taken_as d p (run_at first (n + 1))
taken_last d p first n = more d p (run_at first n) (one_at (first + n)) (run_at first (n + 1)) (run_last first n)

-- what was held still is
pub new_data_more : (d : Bool) (p : Pending) (n : ℕ → ℕ) (k : ℕ) → 0 < p.new_data k → 0 < (taken_as d p n).new_data k
new_data_more true p n k some = omega arith
new_data_more false p n k some = some

-- a run of none
pub taken_none : (d : Bool) (p : Pending) (first n : ℕ) → n ≡ 0 → taken_as d p (run_at first n) ≡ p
taken_none d p first n is = nothing_taken d p (λ k. none first n k is)
  where
    none : (first n k : ℕ) → n ≡ 0 → run_at first n k ≡ 0
    none first n k is = elim (cases_lt k first) [ inl below ↦ run_before first n k below | inr above ↦ run_after first n k (omega arith) ]

    nothing_taken : (d : Bool) (p : Pending) → ((k : ℕ) → run_at first n k ≡ 0) → taken_as d p (run_at first n) ≡ p
    nothing_taken true p zero = pending_same (with_new_data p (run_at first n)) p (λ k. let z = zero k in omega arith) (λ k. refl) (λ k. refl) (λ k. refl) (λ k. refl)
    nothing_taken false p zero = pending_same (with_new_tables p (run_at first n)) p (λ k. refl) (λ k. let z = zero k in omega arith) (λ k. refl) (λ k. refl) (λ k. refl)

-- a run of one
pub taken_alone : (d : Bool) (p : Pending) (c : ℕ) → taken_as d p (one_at c) ≡ taken_as d p (run_at c 1)
taken_alone d p c =
    let same : c + 0 ≡ c = omega arith in
    ap (λ (q : Pending). taken_as d q (one_at c)) (sym (taken_none d p c 0 refl)) ∙ ap (λ n. taken_as d (taken_as d p (run_at c 0)) (one_at n)) (sym same) ∙ taken_last d p c 0
