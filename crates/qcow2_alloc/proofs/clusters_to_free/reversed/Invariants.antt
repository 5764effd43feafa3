use Rattle.std.proofs.Common.{◌≡◌, ◌++◌, reverse}
use Rattle.qcow2_alloc.proofs.Common.{entries_at}
use Rattle.qcow2_alloc.proofs.clusters_to_free.reversed.Given as goal

abbrev pub invariant-loop-rest : goal.invariant-loop-rest
invariant-loop-rest l = reverse (entries_at l.rest) ++ entries_at l.oldest ≡ reverse (entries_at l.initial.rest)
