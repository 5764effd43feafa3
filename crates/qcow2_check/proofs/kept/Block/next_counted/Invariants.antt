use Rattle.std.proofs.Common.{◌≡◌, ◌<◌, ◌≤◌, ℕ}
use Rattle.qcow2_check.proofs.Common.{count_of}
use Rattle.qcow2_check.proofs.kept.Block.next_counted.Given as goal

abbrev pub invariant-loop-i : goal.invariant-loop-i
invariant-loop-i l = (k : ℕ) → l.j ≤ k → k < l.i → count_of l.self k ≡ 0
