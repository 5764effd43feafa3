-- A table that is read once for several equal offsets in a row.
use Rattle.std.proofs.Common.{◌≡◌, ◌+◌, ℕ}
use Rattle.qcow2_check.proofs.Common.{TallyMap, tally_in}

-- so many names and marks are to be there, and so many of them aren't yet
pub record IsBehind (old new : TallyMap) (named marked late_named late_marked : ℕ → ℕ) : Type 0 where
  pub more_named : (q : ℕ) → (tally_in new q).named + late_named q ≡ (tally_in old q).named + named q
  pub more_marked : (q : ℕ) → (tally_in new q).marked + late_marked q ≡ (tally_in old q).marked + marked q
  pub same_for_tables : (q : ℕ) → (tally_in new q).for_tables ≡ (tally_in old q).for_tables
  pub same_count : (q : ℕ) → (tally_in new q).count ≡ (tally_in old q).count
