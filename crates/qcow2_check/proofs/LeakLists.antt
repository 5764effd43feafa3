-- The leaks from a cluster on, one after another.
use Rattle.std.proofs.Common.{◌≡◌, ◌+◌, ◌-◌, ◌^◌, ◌<◌, ◌≤◌, ◌∷◌, ◌++◌, ℕ, zero, suc, Bool, true, false, cond, Option, Some, None, List, [], length, length-append, add-one, refl, sym, ap, ◌∙◌, arith}
use Rattle.qcow2_check.proofs.Common.{Counts, Leak, Tally, TallyMap, count_in, counted_in, lines, lines_from, is_leaked, leak_of_cluster, leaks_from, leak_at, leak_lines_of, mul-le}
use Rattle.qcow2_check.proofs.KeptBlocks.{count_past_end}
use Rattle.qcow2_check.proofs.Rising.{rising_all, lines-none, lines_more, lines-add, skip}
use Rattle.qcow2_check.proofs.TallyTests.{is_leaked-uncounted}

module _ {L : Type 0} (test : Tally → Bool) (line : ℕ → Tally → L) (tally : ℕ → Tally) where
  abbrev from : ℕ → ℕ → List L
  from = lines_from test line tally

  -- m numbers that don't pass
  pub from-skipped : (m a n : ℕ) → ((q : ℕ) → a ≤ q → q < a + m → test (tally q) ≡ false) → from a (m + n) ≡ from (a + m) n
  from-skipped zero a n fails = let same : a ≡ a + 0 = omega arith in let long : 0 + n ≡ n = omega arith in ap (from a) long ∙ ap (λ a. from a n) same
  from-skipped (suc m) a n fails =
      let long : suc m + n ≡ suc (m + n) = omega arith in
      let there : a + 1 + m ≡ a + suc m = omega arith in
      ap (from a) long ∙ skip test line tally a (m + n) (fails a (omega arith) (omega arith))
      ∙ from-skipped m (a + 1) n (λ q ge lt. fails q (omega arith) (omega arith))
      ∙ ap (λ a. from a n) there

  pub from-none : (n a : ℕ) → ((q : ℕ) → a ≤ q → test (tally q) ≡ false) → from a n ≡ []
  from-none zero a fails = refl
  from-none (suc n) a fails = skip test line tally a n (fails a (omega arith)) ∙ from-none n (a + 1) (λ q ge. fails q (omega arith))

  -- at most as many lines as numbers, of which none passes from an end on
  lines-few : (n : ℕ) → length (lines n test line tally) ≤ n
  lines-few zero = omega (arith, ap length (lines-none test line tally))
  lines-few (suc n) =
      let more : lines (suc n) test line tally ≡ lines n test line tally ++ cond (test (tally n)) (line n (tally n) ∷ []) [] =
      ap (λ n. lines n test line tally) (sym (add-one n)) ∙ lines_more test line tally n in
      omega (arith, ap length more, length-append (lines n test line tally) (cond (test (tally n)) (line n (tally n) ∷ []) []), one (test (tally n)) (line n (tally n)), lines-few n) where
        one : (b : Bool) (x : L) → length (cond b (x ∷ []) []) ≤ 1
        one true x = omega arith
        one false x = omega arith

  few_lines : (end limit : ℕ) → end ≤ limit → ((q : ℕ) → end ≤ q → test (tally q) ≡ false) → length (lines limit test line tally) ≤ end
  few_lines end limit le fails =
      let split : lines limit test line tally ≡ lines end test line tally ++ from end (limit - end) =
      (let all : limit ≡ end + (limit - end) = omega arith in ap (λ n. lines n test line tally) all) ∙ lines-add test line tally (limit - end) end in
      omega (arith, ap length split, length-append (lines end test line tally) (from end (limit - end)), ap length (from-none (limit - end) end fails), lines-few end)

-- ---- the leaks below a limit

abbrev leak_or : Leak → Option Leak → Leak
leak_or x None = x
leak_or x (Some y) = y

if_some : (b : Bool) (x y : Leak) → cond b (Some x) None ≡ Some y → (b ≡ true) × (x ≡ y)
if_some true x y is = (refl, ap (leak_or x) is)
if_some false x y is = cc

if_none : (b : Bool) (x : Leak) → cond b (Some x) None ≡ None → b ≡ false
if_none true x is = cc
if_none false x is = refl

module _ (m : TallyMap) (c : Counts) (limit : ℕ) where
  abbrev below : ℕ → List Leak
  below a = lines_from is_leaked leak_of_cluster (counted_in m c) a (limit - a)

  all-below : below 0 ≡ lines limit is_leaked leak_of_cluster (counted_in m c)
  all-below = grind (arith, rising_all)

  uncounted : (q : ℕ) → count_in c q ≡ 0 → is_leaked (counted_in m c q) ≡ false
  uncounted q none = is_leaked-uncounted (counted_in m c q) none

  skipped-below : (a b : ℕ) → a ≤ b → b ≤ limit → ((q : ℕ) → a ≤ q → q < b → is_leaked (counted_in m c q) ≡ false) → below a ≡ below b
  skipped-below a b first last fails =
      let long : limit - a ≡ b - a + (limit - b) = omega arith in
      let there : a + (b - a) ≡ b = omega arith in
      ap (lines_from is_leaked leak_of_cluster (counted_in m c) a) long
      ∙ from-skipped is_leaked leak_of_cluster (counted_in m c) (b - a) a (limit - b) (λ q ge lt. fails q ge (omega arith))
      ∙ ap (λ a. lines_from is_leaked leak_of_cluster (counted_in m c) a (limit - b)) there

  uncounted-below : (a b : ℕ) → a ≤ b → b ≤ limit → ((q : ℕ) → a ≤ q → q < b → count_in c q ≡ 0) → below a ≡ below b
  uncounted-below a b first last none = skipped-below a b first last (λ q ge lt. uncounted q (none q ge lt))

  none-below : (a : ℕ) → ((q : ℕ) → a ≤ q → count_in c q ≡ 0) → below a ≡ []
  none-below a none = from-none is_leaked leak_of_cluster (counted_in m c) (limit - a) a (λ q ge. uncounted q (none q ge))

  leaked-below : (q : ℕ) (leak : Leak) → q < limit → leak_at m c q ≡ Some leak → (leak.cluster ≡ q) × (below q ≡ leak ∷ below (leak.cluster + 1))
  leaked-below q leak fits is = grind arith

  not_leaked-below : (q : ℕ) → q < limit → leak_at m c q ≡ None → below q ≡ below (q + 1)
  not_leaked-below q fits is =
      let fails = if_none (is_leaked (counted_in m c q)) (leak_of_cluster q (counted_in m c q)) is in
      skipped-below q (q + 1) (omega arith) (omega arith) (λ p ge lt. let same : p ≡ q = omega arith in ap (λ p. is_leaked (counted_in m c p)) same ∙ fails)

-- ---- all of them

module _ (m : TallyMap) (c : Counts) where
  pub leaks_all : leaks_from m c 0 ≡ leak_lines_of (counted_in m c)
  unfolding leaks_from
  leaks_all = all-below m c (2 ^ 64)

  pub few_leaks : length (leak_lines_of (counted_in m c)) ≤ 2 ^ 44
  few_leaks = grind (arith, mul-le, few_lines, count_past_end)

  pub leaks-uncounted : (a b : ℕ) → a ≤ b → b ≤ 2 ^ 64 → ((q : ℕ) → a ≤ q → q < b → count_in c q ≡ 0) → leaks_from m c a ≡ leaks_from m c b
  unfolding leaks_from
  leaks-uncounted = uncounted-below m c (2 ^ 64)

  pub no_leaks : (a : ℕ) → ((q : ℕ) → a ≤ q → count_in c q ≡ 0) → leaks_from m c a ≡ []
  unfolding leaks_from
  no_leaks = none-below m c (2 ^ 64)

  pub leaked_here : (q : ℕ) (leak : Leak) → q < 2 ^ 64 → leak_at m c q ≡ Some leak → (leak.cluster ≡ q) × (leaks_from m c q ≡ leak ∷ leaks_from m c (leak.cluster + 1))
  unfolding leaks_from
  leaked_here = leaked-below m c (2 ^ 64)

  pub not_leaked_here : (q : ℕ) → q < 2 ^ 64 → leak_at m c q ≡ None → leaks_from m c q ≡ leaks_from m c (q + 1)
  unfolding leaks_from
  not_leaked_here = not_leaked-below m c (2 ^ 64)
