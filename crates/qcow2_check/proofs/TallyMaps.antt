-- The tally of a cluster, in an array of small tallies or in a map.
use Rattle.std.proofs.Common.{◌≡◌, ◌<◌, ◌≤◌, ℕ, true, false, List, length, get_or, unwrap_or, Option, Some, ap, ◌∙◌, arith}
use Rattle.qcow2_check.proofs.Common.{get, nat_cmp, cond-true, cond-false, get_or_past, Tally, TallyMap, no_tally, blank, is_blank, widened, small_or, small_in, large_in, tally_in}
use Rattle.qcow2_check.specs.declared.tally_map.SmallTally.{SmallTally}

pub tally-large : (m : TallyMap) (q : ℕ) → is_blank (small_in m q) ≡ true → tally_in m q ≡ large_in m q
unfolding tally_in
tally-large m q none = cond-true _ _ _ none

pub tally-small : (m : TallyMap) (q : ℕ) → is_blank (small_in m q) ≡ false → tally_in m q ≡ widened (small_in m q)
unfolding tally_in
tally-small m q some = cond-false _ _ _ some

pub tally-same : (m n : TallyMap) (q : ℕ) → small_in n q ≡ small_in m q → get nat_cmp n.large q ≡ get nat_cmp m.large q → tally_in n q ≡ tally_in m q
unfolding tally_in
tally-same m n q small large = ap (λ s. small_or s (large_in n q)) small ∙ ap (λ (o : Option Tally). small_or (small_in m q) (unwrap_or o no_tally)) large

-- past the array
pub past_array : (m : TallyMap) (q : ℕ) → length m.small.items ≤ q → tally_in m q ≡ large_in m q
past_array m q past = tally-large m q (ap is_blank (get_or_past m.small.items q blank past))

-- where the map has it, and the array has none
pub tally_put : (m : TallyMap) (q : ℕ) (t : Tally) → small_in m q ≡ blank → get nat_cmp m.large q ≡ Some t → tally_in m q ≡ t
tally_put m q t none put = tally-large m q (ap is_blank none) ∙ ap (λ (o : Option Tally). unwrap_or o no_tally) put

-- where the array has it
pub tally_set : (m : TallyMap) (q : ℕ) (s : SmallTally) (t : Tally) → small_in m q ≡ s → is_blank s ≡ false → widened s ≡ t → tally_in m q ≡ t
tally_set m q s t is some wide = tally-small m q (ap is_blank is ∙ some) ∙ ap widened is ∙ wide

-- a longer array, with blanks after what it had
pub blanks_more : (old new : List SmallTally) (n q : ℕ) → length new ≡ n → length old ≤ n
    → ((k : ℕ) (d : SmallTally) → k < n → k < length old → get_or new k d ≡ get_or old k d)
    → ((k : ℕ) (d : SmallTally) → length old ≤ k → k < n → get_or new k d ≡ blank)
    → get_or new q blank ≡ get_or old q blank
blanks_more old new n q long more front back = grind (arith, get_or_past)
