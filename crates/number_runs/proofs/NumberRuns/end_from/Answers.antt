use Rattle.std.proofs.Common.{arith}
use Rattle.number_runs.proofs.NumberRuns.end_from.Goals as goal

pub passing-init : goal.passing-init
passing-init c = record { from = omega arith; all = λ k from below. absurd (omega (arith, from, below)) }
