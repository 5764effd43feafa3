use Rattle.std.proofs.Common.{◌≡◌, ◌++◌, length}
use Rattle.qcow2_alloc.proofs.clusters_to_free.TakenClusters.hand_back.Given as goal

-- those that are handed back, and then the others, follow on what the list had
abbrev pub invariant-loop-pending : goal.invariant-loop-pending
invariant-loop-pending l = l.list ++ l.rest ≡ l.fn.list ++ l.initial.rest

abbrev pub decreases-loop-pending : goal.decreases-loop-pending
decreases-loop-pending l = length l.rest
