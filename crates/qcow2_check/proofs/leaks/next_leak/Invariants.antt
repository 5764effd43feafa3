use Rattle.std.proofs.Common.{◌≡◌, ◌-◌}
use Rattle.qcow2_check.proofs.Common.{leaks_from}
use Rattle.qcow2_check.proofs.leaks.next_leak.Given as goal

abbrev pub invariant-loop-at : goal.invariant-loop-at
invariant-loop-at l = leaks_from l.names l.counts l.at ≡ leaks_from l.names l.counts l.from

abbrev pub decreases-loop-at : goal.decreases-loop-at
decreases-loop-at l = l.end - l.at
