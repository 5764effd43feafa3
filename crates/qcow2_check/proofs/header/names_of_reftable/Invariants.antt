use Rattle.std.proofs.Common.{◌+◌, ◌≤◌}
use Rattle.qcow2_check.proofs.Common.{TalliesGrow, blocks_among}
use Rattle.qcow2_check.proofs.header.names_of_reftable.Given as goal

abbrev pub invariant-loop-k : goal.invariant-loop-k
invariant-loop-k l = record {
  grows : TalliesGrow l.initial.names.clusters l.names.clusters (blocks_among l.header l.reftable l.k) (blocks_among l.header l.reftable l.k) (λ _. 0);
  total : l.names.total ≤ l.initial.names.total + l.k;
}
