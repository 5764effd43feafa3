use Rattle.std.proofs.Common.{◌-◌, ◌<◌, ◌≤◌, ◌^◌, ℕ}
use Rattle.number_runs.specs.NumberRuns.{IsIn}
use Rattle.number_runs.proofs.NumberRuns.end_from.Given as goal

-- the numbers up to here are there
abbrev pub invariant-passing : goal.invariant-passing
invariant-passing l = record {
  from : l.fn.number ≤ l.end;
  all : (k : ℕ) → l.fn.number ≤ k → k < l.end → IsIn l.fn.self k;
}

abbrev pub decreases-passing : goal.decreases-passing
decreases-passing l = 2 ^ 64 - l.end
