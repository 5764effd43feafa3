-- The lines for the entries of a map are the lines for all numbers.
use Rattle.std.proofs.Common.{◌≡◌, ◌≢◌, ◌+◌, ◌<◌, ◌≤◌, ◌∷◌, ◌++◌, ◌-◌, ℕ, zero, suc, Bool, true, false, cond, eqb, ltb, List, [], map, filter, unwrap_or, refl, sym, ap, ◌∙◌, arith, inl, inr, add-one, append_assoc, append-nil, subst, Less, Equal, Greater}
use Rattle.qcow2_check.proofs.Common.{range_with_len, AllByRecursion, IsStrictlySortedBy, lookup, keys_of, is_at, is_eq, nat_cmp, cond-true, cond-false, eq-eqb, ne_eqb, le-ltb, lt-ltb, cases_eq, cases_lt, map-append, Tally, no_tally, rising, lines, lines_from, lines_of, numbered, entries_past}
use Rattle.std.proofs.lemmas.Map.Keys.{sorted_head, sorted_tail}

-- ---- keys

not_at : (v : Bool) → is_eq (cond v Less (cond false Equal Greater)) ≡ false
not_at true = refl
not_at false = refl

pub at_other : (q k : ℕ) → q ≢ k → is_at (nat_cmp q) k ≡ false
at_other q k ne = ap (λ b. is_eq (cond (ltb q k) Less (cond b Equal Greater))) (ne_eqb q k ne) ∙ not_at (ltb q k)

pub at_same : (q : ℕ) → is_at (nat_cmp q) q ≡ true
at_same q =
    ap (λ a. is_eq (cond a Less (cond (eqb q q) Equal Greater))) (le-ltb q q (omega arith))
    ∙ ap (λ b. is_eq (cond b Equal Greater)) (eq-eqb q q refl)

not_less : (v : Bool) → cond v Equal Greater ≡ Less → ⊥
not_less true e = cc
not_less false e = cc

pub lt_from_less : (x y : ℕ) → nat_cmp x y ≡ Less → x < y
lt_from_less x y less = grind arith

-- the keys rise, from a on
abbrev pub Above : ℕ → List (ℕ × Tally) → Type 0
Above a [] = Unit {0}
Above a (e ∷ es) = (a ≤ e.0) × Above (e.0 + 1) es

abbrev pub tally_of : List (ℕ × Tally) → ℕ → Tally
tally_of es q = unwrap_or (lookup (is_at (nat_cmp q)) es) no_tally

later : (k : ℕ) (ks : List ℕ) → AllByRecursion (λ y. nat_cmp k y ≡ Less) ks → AllByRecursion (λ y. k + 1 ≤ y) ks
later k [] h = tt
later k (x ∷ xs) h = (let lt = lt_from_less k x h.0 in omega arith, later k xs h.1)

pub above_from_sorted : (a : ℕ) (es : List (ℕ × Tally)) → AllByRecursion (λ y. a ≤ y) (keys_of es) → IsStrictlySortedBy nat_cmp (keys_of es) → Above a es
above_from_sorted a [] bound sorted = tt
above_from_sorted a (e ∷ es) bound sorted =
    (bound.0, above_from_sorted (e.0 + 1) es (later e.0 (keys_of es) (sorted_head nat_cmp e.0 (keys_of es) sorted)) (sorted_tail nat_cmp e.0 (keys_of es) sorted))

pub all_above_zero : (ks : List ℕ) → AllByRecursion (λ y. 0 ≤ y) ks
all_above_zero [] = tt
all_above_zero (x ∷ xs) = (omega arith, all_above_zero xs)

pub tally_of-head : (e : ℕ × Tally) (es : List (ℕ × Tally)) → tally_of (e ∷ es) e.0 ≡ e.1
tally_of-head e es = ap (λ o. unwrap_or o no_tally) (cond-true _ _ _ (at_same e.0))

pub tally_of-tail : (e : ℕ × Tally) (es : List (ℕ × Tally)) (q : ℕ) → q ≢ e.0 → tally_of (e ∷ es) q ≡ tally_of es q
tally_of-tail e es q ne = ap (λ o. unwrap_or o no_tally) (cond-false _ _ _ (at_other q e.0 ne))

pub tally_of-below : (a q : ℕ) (es : List (ℕ × Tally)) → Above a es → q < a → tally_of es q ≡ no_tally
tally_of-below a q [] above lt = refl
tally_of-below a q (e ∷ es) above lt =
    tally_of-tail e es q (λ same. absurd (omega (arith, above.0, same)))
    ∙ tally_of-below (e.0 + 1) q es above.1 (omega (arith, above.0))

-- ---- lines

module _ {L : Type 0} (test : Tally → Bool) (line : ℕ → Tally → L) (tally : ℕ → Tally) where
  abbrev pub Shows : ℕ → List (ℕ × Tally) → Type 0
  Shows a es = (q : ℕ) → a ≤ q → tally q ≡ tally_of es q

  abbrev pub from : ℕ → ℕ → List L
  from a n = lines_from test line tally a n

  shows_tail : (a : ℕ) (e : ℕ × Tally) (es : List (ℕ × Tally)) → a ≤ e.0 + 1 → Shows a (e ∷ es) → Shows (e.0 + 1) es
  shows_tail a e es le shows = λ q ge. shows q (omega arith) ∙ tally_of-tail e es q (λ same. absurd (omega arith))

  pub past : (a : ℕ) (es : List (ℕ × Tally)) → Above a es → Shows a es → ((q : ℕ) → a ≤ q → test (tally q) ≡ false) → lines_of test line es ≡ []
  past a [] above shows none = refl
  past a (e ∷ es) above shows none =
      let value : tally e.0 ≡ e.1 = shows e.0 above.0 ∙ tally_of-head e es in
      let fails : test e.1 ≡ false = ap test (sym value) ∙ none e.0 above.0 in
      cond-false _ _ _ fails ∙ past (e.0 + 1) es above.1 (shows_tail a e es (omega (arith, above.0)) shows) (λ q ge. none q (omega (arith, above.0)))

  pub skip : (a n : ℕ) → test (tally a) ≡ false → from a (suc n) ≡ from (a + 1) n
  skip a n fails = ap (map (λ c. line c (tally c))) (cond-false _ _ _ fails)

  yes_or_no : (a n : ℕ) (e : ℕ × Tally) (es : List (ℕ × Tally)) → tally a ≡ e.1 → line e.0 e.1 ≡ line a (tally a) → lines_of test line es ≡ from (a + 1) n
      → (b : Bool) → test e.1 ≡ b → lines_of test line (e ∷ es) ≡ from a (suc n)
  yes_or_no a n e es value heads rest true is = grind arith
  yes_or_no a n e es value heads rest false is =
      let here : test (tally a) ≡ false = ap test value ∙ is in
      cond-false _ _ _ is ∙ rest ∙ sym (skip a n here)

  pub entries_from : (test no_tally ≡ false) → (a n : ℕ) (es : List (ℕ × Tally)) → Above a es → Shows a es → ((q : ℕ) → a + n ≤ q → test (tally q) ≡ false)
      → lines_of test line es ≡ from a n
  entries_from blank a zero es above shows none = past a es above shows (λ q ge. none q (omega arith))
  entries_from blank a (suc n) [] above shows none =
      let fails : test (tally a) ≡ false = ap test (shows a (omega arith)) ∙ blank in
      entries_from blank (a + 1) n [] tt (λ q ge. shows q (omega arith)) (λ q ge. none q (omega arith)) ∙ sym (skip a n fails)
  entries_from blank a (suc n) (e ∷ es) above shows none =
      elim (cases_eq a e.0) [
        | inl same ↦
            let value : tally a ≡ e.1 = shows a (omega arith) ∙ ap (tally_of (e ∷ es)) same ∙ tally_of-head e es in
            let rest : lines_of test line es ≡ from (a + 1) n =
            entries_from blank (a + 1) n es (let P : ℕ → Type 0 = λ k. Above (k + 1) es in subst P (sym same) above.1)
            (let P : ℕ → Type 0 = λ k. Shows (k + 1) es in subst P (sym same) (shows_tail a e es (omega arith) shows)) (λ q ge. none q (omega arith)) in
            let heads : line e.0 e.1 ≡ line a (tally a) = ap (λ k. line k e.1) (sym same) ∙ ap (line a) (sym value) in
            yes_or_no a n e es value heads rest (test e.1) refl
        | inr other ↦
            let fails : test (tally a) ≡ false = ap test (shows a (omega arith) ∙ tally_of-below (a + 1) a (e ∷ es) (omega (arith, above.0, other), above.1) (omega arith)) ∙ blank in
            entries_from blank (a + 1) n (e ∷ es) (omega (arith, above.0, other), above.1) (λ q ge. shows q (omega arith)) (λ q ge. none q (omega arith)) ∙ sym (skip a n fails)
      ]

-- ---- rising

if_front : (b : Bool) (a : ℕ) (rest : List ℕ) → cond b (a ∷ []) [] ++ rest ≡ cond b (a ∷ rest) rest
if_front true a rest = refl
if_front false a rest = refl

pub rising_more : (n : ℕ) (p : ℕ → Bool) → rising (n + 1) p ≡ rising n p ++ cond (p n) (n ∷ []) []
unfolding rising
rising_more n p = rw add-one refl

pub rising-add : (n a : ℕ) (p : ℕ → Bool) → rising (a + n) p ≡ rising a p ++ filter p (range_with_len a n)
rising-add zero a p = ap (λ m. rising m p) (omega arith) ∙ sym (append-nil (rising a p))
rising-add (suc n) a p =
    ap (λ m. rising m p) (omega arith) ∙ rising-add n (a + 1) p
    ∙ ap (λ r. r ++ filter p (range_with_len (a + 1) n)) (rising_more a p)
    ∙ append_assoc (rising a p) (cond (p a) (a ∷ []) []) (filter p (range_with_len (a + 1) n))
    ∙ ap (λ r. rising a p ++ r) (if_front (p a) a (filter p (range_with_len (a + 1) n)))

pub rising_all : (n : ℕ) (p : ℕ → Bool) → rising n p ≡ filter p (range_with_len 0 n)
unfolding rising
rising_all n p = let front : n ≡ 0 + n = omega arith in ap (λ m. rising m p) front ∙ rising-add n 0 p

-- ---- the lines of numbers below a limit, and of a map's entries from it on

module _ {L : Type 0} (test : Tally → Bool) (line : ℕ → Tally → L) (tally : ℕ → Tally) where
  pub lines-none : lines 0 test line tally ≡ []
  unfolding rising
  lines-none = refl

  pub lines_more : (n : ℕ) → lines (n + 1) test line tally ≡ lines n test line tally ++ cond (test (tally n)) (line n (tally n) ∷ []) []
  lines_more n = grind (arith, rising_more, map-append)

  pub lines-passed : (n : ℕ) → test (tally n) ≡ true → lines (n + 1) test line tally ≡ lines n test line tally ++ (line n (tally n) ∷ [])
  lines-passed n is = lines_more n ∙ ap (λ r. lines n test line tally ++ r) (cond-true _ _ _ is)

  pub lines-failed : (n : ℕ) → test (tally n) ≡ false → lines (n + 1) test line tally ≡ lines n test line tally
  lines-failed n is = lines_more n ∙ ap (λ r. lines n test line tally ++ r) (cond-false _ _ _ is) ∙ append-nil (lines n test line tally)

  -- numbers that pass and have the same line with other tallies
  line_where : (b : Bool) (x y : L) → (b ≡ true → x ≡ y) → cond b (x ∷ []) [] ≡ cond b (y ∷ []) []
  line_where true x y same = ap (λ l. l ∷ []) (same refl)
  line_where false x y same = refl

  pub lines-add : (n a : ℕ) → lines (a + n) test line tally ≡ lines a test line tally ++ from test line tally a n
  lines-add n a =
      ap (map (λ c. line c (tally c))) (rising-add n a (λ c. test (tally c)))
      ∙ map-append (λ c. line c (tally c)) (rising a (λ c. test (tally c))) (filter (λ c. test (tally c)) (range_with_len a n))

-- the lines are those of other tallies, where each number passes with both or with neither, and has the same line
module _ {L : Type 0} (test : Tally → Bool) (line : ℕ → Tally → L) (s t : ℕ → Tally) where
  pub lines-same : (n : ℕ) → ((q : ℕ) → test (s q) ≡ test (t q)) → ((q : ℕ) → test (t q) ≡ true → line q (s q) ≡ line q (t q)) → lines n test line s ≡ lines n test line t
  lines-same zero tests same = lines-none test line s ∙ sym (lines-none test line t)
  lines-same (suc n) tests same =
      ap (λ n. lines n test line s) (sym (add-one n)) ∙ lines_more test line s n
      ∙ ap (λ r. r ++ cond (test (s n)) (line n (s n) ∷ []) []) (lines-same n tests same)
      ∙ ap (λ b. lines n test line t ++ cond b (line n (s n) ∷ []) []) (tests n)
      ∙ ap (λ r. lines n test line t ++ r) (line_where test line s (test (t n)) (line n (s n)) (line n (t n)) (same n))
      ∙ sym (lines_more test line t n) ∙ ap (λ n. lines n test line t) (add-one n)

-- ---- the entries of a map with other tallies

module _ (other : ℕ → Tally → Tally) (none : (q : ℕ) → other q no_tally ≡ no_tally) where
  abbrev others : List (ℕ × Tally) → List (ℕ × Tally)
  others es = map (λ e. (e.0, other e.0 e.1)) es

  pub keys_of-others : (es : List (ℕ × Tally)) → keys_of (others es) ≡ keys_of es
  keys_of-others [] = refl
  keys_of-others (e ∷ es) = ap (λ ks. e.0 ∷ ks) (keys_of-others es)

  pub tally_of-others : (es : List (ℕ × Tally)) (q : ℕ) → tally_of (others es) q ≡ other q (tally_of es q)
  tally_of-others [] q = sym (none q)
  tally_of-others (e ∷ es) q = elim (cases_eq q e.0) [
    | inl same ↦
        ap (tally_of (others (e ∷ es))) same ∙ tally_of-head (e.0, other e.0 e.1) (others es)
        ∙ sym (ap (λ q. other q (tally_of (e ∷ es) q)) same ∙ ap (other e.0) (tally_of-head e es))
    | inr apart ↦
        tally_of-tail (e.0, other e.0 e.1) (others es) q apart ∙ tally_of-others es q ∙ sym (ap (other q) (tally_of-tail e es q apart))
  ]

module _ (test : Tally → Bool) (tally : ℕ → Tally) (first : ℕ) where
  all_past : (a : ℕ) (es : List (ℕ × Tally)) → first ≤ a → Above a es → entries_past first test es ≡ lines_of test numbered es
  all_past a [] le above = refl
  all_past a (e ∷ es) le above =
      cond-false _ _ _ (le-ltb e.0 first (omega (arith, above.0)))
      ∙ ap (λ r. cond (test e.1) (e ∷ r) r) (all_past (e.0 + 1) es (omega (arith, above.0)) above.1)

  past_from : test no_tally ≡ false → (a n : ℕ) (es : List (ℕ × Tally)) → Above a es → ((q : ℕ) → first ≤ q → tally q ≡ tally_of es q)
      → ((q : ℕ) → first + n ≤ q → test (tally q) ≡ false) → entries_past first test es ≡ from test numbered tally first n
  past_from none a n [] above shows end = entries_from test numbered tally none first n [] tt shows end
  past_from none a n (e ∷ es) above shows end = elim (cases_lt e.0 first) [
    | inl below ↦
        cond-true _ _ _ (lt-ltb e.0 first below)
        ∙ past_from none (e.0 + 1) n es above.1 (λ q ge. shows q ge ∙ tally_of-tail e es q (λ same. absurd (omega (arith, below, same)))) end
    | inr past ↦
        all_past first (e ∷ es) (omega arith) (past, above.1)
        ∙ entries_from test numbered tally none first n (e ∷ es) (past, above.1) shows end
  ]

  -- the tallies below a number, and those of a map from it on
  pub lines_joined : (limit : ℕ) (es : List (ℕ × Tally)) → test no_tally ≡ false → first ≤ limit → IsStrictlySortedBy nat_cmp (keys_of es)
      → ((q : ℕ) → first ≤ q → tally q ≡ tally_of es q) → ((q : ℕ) → limit ≤ q → tally q ≡ no_tally)
      → lines first test numbered tally ++ entries_past first test es ≡ lines limit test numbered tally
  lines_joined limit es none le sorted shows end =
      let split : limit ≡ first + (limit - first) = omega arith in
      ap (λ r. lines first test numbered tally ++ r)
      (past_from none 0 (limit - first) es (above_from_sorted 0 es (all_above_zero (keys_of es)) sorted) shows
      (λ q ge. ap test (end q (omega (arith, ge, split))) ∙ none))
      ∙ sym (lines-add test numbered tally (limit - first) first)
      ∙ ap (λ n. lines n test numbered tally) (sym split)

-- ---- the lines of a list of tallies

module _ {L : Type 0} (test : Tally → Bool) (line : ℕ → Tally → L) where
  abbrev wide : (Tally → Bool) → (ℕ → Tally) → List ℕ → List L
  wide wider t ns = lines_of test line (map (λ c. numbered c (t c)) (filter (λ c. wider (t c)) ns))

  abbrev narrow : (ℕ → Tally) → List ℕ → List L
  narrow t ns = map (λ c. line c (t c)) (filter (λ c. test (t c)) ns)

  one_wide : (wider : Tally → Bool) (t : ℕ → Tally) (n : ℕ) (ns : List ℕ) → wide wider t ns ≡ narrow t ns → (b : Bool) → wider (t n) ≡ true → test (t n) ≡ b
      → wide wider t (n ∷ ns) ≡ narrow t (n ∷ ns)
  one_wide wider t n ns rest true wanted is =
      ap (λ l. lines_of test line (map (λ c. numbered c (t c)) l)) (cond-true _ _ _ wanted)
      ∙ cond-true _ _ _ is ∙ ap (λ r. line n (t n) ∷ r) rest ∙ sym (ap (map (λ c. line c (t c))) (cond-true _ _ _ is))
  one_wide wider t n ns rest false wanted is =
      ap (λ l. lines_of test line (map (λ c. numbered c (t c)) l)) (cond-true _ _ _ wanted)
      ∙ cond-false _ _ _ is ∙ rest ∙ sym (ap (map (λ c. line c (t c))) (cond-false _ _ _ is))

  one_more : (wider : Tally → Bool) (t : ℕ → Tally) (n : ℕ) (ns : List ℕ) → ((t : Tally) → wider t ≡ false → test t ≡ false) → wide wider t ns ≡ narrow t ns
      → (b : Bool) → wider (t n) ≡ b → wide wider t (n ∷ ns) ≡ narrow t (n ∷ ns)
  one_more wider t n ns quiet rest true is = one_wide wider t n ns rest (test (t n)) is refl
  one_more wider t n ns quiet rest false is =
      ap (λ l. lines_of test line (map (λ c. numbered c (t c)) l)) (cond-false _ _ _ is)
      ∙ rest ∙ sym (ap (map (λ c. line c (t c))) (cond-false _ _ _ (quiet (t n) is)))

  of_wide : (wider : Tally → Bool) (t : ℕ → Tally) → ((t : Tally) → wider t ≡ false → test t ≡ false) → (ns : List ℕ) → wide wider t ns ≡ narrow t ns
  of_wide wider t quiet [] = refl
  of_wide wider t quiet (n ∷ ns) = one_more wider t n ns quiet (of_wide wider t quiet ns) (wider (t n)) refl

  -- the lines of a list of all tallies that pass another test, which those pass that pass this one
  pub lines_of_list : (limit : ℕ) (wider : Tally → Bool) (t : ℕ → Tally) (list : List (ℕ × Tally)) → ((t : Tally) → wider t ≡ false → test t ≡ false)
      → list ≡ lines limit wider numbered t → lines_of test line list ≡ lines limit test line t
  lines_of_list limit wider t list quiet is =
      ap (lines_of test line) (is ∙ ap (map (λ c. numbered c (t c))) (rising_all limit (λ c. wider (t c))))
      ∙ of_wide wider t quiet (range_with_len 0 limit)
      ∙ ap (map (λ c. line c (t c))) (sym (rising_all limit (λ c. test (t c))))

-- three groups of lines
pub glue : {L : Type 0} (o u s k u' s' k' a b c : List L) → a ≡ o ++ u → b ≡ a ++ s → c ≡ b ++ k → u ≡ u' → s ≡ s' → k ≡ k' → c ≡ o ++ (u' ++ (s' ++ k'))
glue o u s k u' s' k' a b c one two three eu es ek = grind (arith, append_assoc)

-- one group of lines more
pub before : {L : Type 0} (o a b mid items : List L) → mid ≡ o ++ a → items ≡ mid ++ b → items ≡ o ++ (a ++ b)
before o a b mid items one rest = rest ∙ ap (λ m. m ++ b) one ∙ append_assoc o a b
