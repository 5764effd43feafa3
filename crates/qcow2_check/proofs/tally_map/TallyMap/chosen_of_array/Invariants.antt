use Rattle.std.proofs.Common.{◌≡◌}
use Rattle.qcow2_check.proofs.Common.{tally_in, lines, takes, shown, numbered}
use Rattle.qcow2_check.proofs.tally_map.TallyMap.chosen_of_array.Given as goal

abbrev pub invariant-loop-cluster : goal.invariant-loop-cluster
invariant-loop-cluster l = l.chosen.items ≡ lines l.cluster (takes l.choice) numbered (λ q. shown l.choice q (tally_in l.self q))
