-- When there are no lines.
use Rattle.std.proofs.Common.{◌≡◌, ◌<◌, ◌≤◌, ◌∷◌, ◌++◌, ℕ, zero, suc, Bool, true, false, cond, eqb, List, [], map, refl, sym, ap, ◌∙◌, arith, inl, inr}
use Rattle.qcow2_check.proofs.Common.{cases_eq, cases_lt, cond-true, cond-false, eq-eqb, Tally, no_tally, rising, lines}

pub append-empty : {L : Type 0} (xs ys : List L) → xs ≡ [] → ys ≡ [] → xs ++ ys ≡ []
append-empty xs ys front back = ap (λ x. x ++ ys) front ∙ back

pub front_empty : {L : Type 0} (xs ys : List L) → xs ++ ys ≡ [] → xs ≡ []
front_empty [] ys none = refl
front_empty (x ∷ xs) ys none = cc

pub back_empty : {L : Type 0} (xs ys : List L) → xs ++ ys ≡ [] → ys ≡ []
back_empty xs ys none = ap (λ x. x ++ ys) (sym (front_empty xs ys none)) ∙ none

map_empty : {A L : Type 0} (f : A → L) (xs : List A) → map f xs ≡ [] → xs ≡ []
map_empty f [] none = refl
map_empty f (x ∷ xs) none = cc

-- ---- the numbers that pass a test

no_item : {L : Type 0} (b : Bool) (x : L) → cond b (x ∷ []) [] ≡ [] → b ≡ false
no_item true x none = cc
no_item false x none = refl

rising-empty : (n : ℕ) (p : ℕ → Bool) → ((c : ℕ) → c < n → p c ≡ false) → rising n p ≡ []
unfolding rising
rising-empty zero p fails = refl
rising-empty (suc n) p fails = append-empty (rising n p) _ (rising-empty n p (λ c lt. fails c (omega arith))) (cond-false _ _ _ (fails n (omega arith)))

fails_below : (n : ℕ) (p : ℕ → Bool) → rising n p ≡ [] → (c : ℕ) → c < n → p c ≡ false
unfolding rising
fails_below zero p none c lt = absurd (omega arith)
fails_below (suc n) p none c lt = elim (cases_eq c n) [
  | inl same ↦ ap p same ∙ no_item (p n) n (back_empty (rising n p) _ none)
  | inr other ↦ fails_below n p (front_empty (rising n p) _ none) c (omega arith)
]

-- ---- lines

-- nothing is reported of numbers from the limit on
abbrev pub EndsBelow : ℕ → (ℕ → Tally) → Type 0
EndsBelow limit t = (q : ℕ) → limit ≤ q → t q ≡ no_tally

module _ {L : Type 0} (limit : ℕ) (test : Tally → Bool) (line : ℕ → Tally → L) (t : ℕ → Tally) where
  pub lines-empty : ((q : ℕ) → test (t q) ≡ false) → lines limit test line t ≡ []
  lines-empty fails = ap (map (λ c. line c (t c))) (rising-empty limit (λ c. test (t c)) (λ c lt. fails c))

  pub fails_each : test no_tally ≡ false → EndsBelow limit t → lines limit test line t ≡ [] → (q : ℕ) → test (t q) ≡ false
  fails_each blank ends none q = elim (cases_lt q limit) [
    | inl below ↦ fails_below limit (λ c. test (t c)) (map_empty _ _ none) q below
    | inr past ↦ ap test (ends q past) ∙ blank
  ]

-- one line, unless a number is 0
pub zero-line : {L : Type 0} (n : ℕ) (x : L) → n ≡ 0 → cond (eqb n 0) [] (x ∷ []) ≡ []
zero-line n x none = cond-true _ _ _ (eq-eqb n 0 none)

pub zero_from_line : {L : Type 0} (n : ℕ) (x : L) → cond (eqb n 0) [] (x ∷ []) ≡ [] → n ≡ 0
zero_from_line n x none = grind arith
