use Rattle.std.proofs.Common.{◌≡◌, ◌+◌, ◌-◌, ◌&&◌}
use Rattle.qcow2_check.proofs.Common.{nat_le, nat_lt, one_if, TalliesGrow}
use Rattle.qcow2_check.proofs.names.Names.add_tables.Given as goal

abbrev pub invariant-loop-cluster : goal.invariant-loop-cluster
invariant-loop-cluster l = record {
  grows : TalliesGrow l.initial.self.clusters l.self.clusters (λ q. one_if (nat_le l.first q && nat_lt q l.cluster)) (λ q. one_if (nat_le l.first q && nat_lt q l.cluster)) (λ _. 0);
  total : l.self.total ≡ l.initial.self.total + (l.cluster - l.first);
}
