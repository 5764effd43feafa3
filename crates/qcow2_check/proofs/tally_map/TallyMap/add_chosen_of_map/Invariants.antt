use Rattle.std.proofs.Common.{◌≡◌, ◌++◌}
use Rattle.qcow2_check.proofs.Common.{takes, shown_entries, entries_past}
use Rattle.qcow2_check.proofs.tally_map.TallyMap.add_chosen_of_map.Given as goal

abbrev pub invariant-loop-cluster : goal.invariant-loop-cluster
invariant-loop-cluster l =
    l.chosen.items ++ entries_past l.first (takes l.choice) (shown_entries l.choice l.cluster-iterator)
    ≡ l.initial.chosen.items ++ entries_past l.first (takes l.choice) (shown_entries l.choice l.self.large.entries)
