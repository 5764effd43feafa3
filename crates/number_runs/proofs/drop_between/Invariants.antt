use Rattle.std.proofs.Common.{◌≡◌, ◌<◌, ◌≤◌, ℕ, Some, length}
use Rattle.number_runs.specs.NumberRuns.{run_at}
use Rattle.number_runs.proofs.drop_between.Given as goal

-- each run was there, and those that begin elsewhere are
abbrev pub invariant-dropping : goal.invariant-dropping
invariant-dropping l = record {
  was : (k n : ℕ) → run_at l.runs.entries k ≡ Some n → run_at l.fn.runs.entries k ≡ Some n;
  below : (k : ℕ) → k < l.fn.first → run_at l.runs.entries k ≡ run_at l.fn.runs.entries k;
  behind : (k : ℕ) → l.fn.end ≤ k → run_at l.runs.entries k ≡ run_at l.fn.runs.entries k;
  few : length l.runs.entries ≤ length l.fn.runs.entries;
}

abbrev pub decreases-dropping : goal.decreases-dropping
decreases-dropping l = length l.runs.entries
