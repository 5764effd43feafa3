use Rattle.std.proofs.Common.{◌+◌, ◌≤◌}
use Rattle.qcow2_check.proofs.Common.{TalliesGrow, blocks_off}
use Rattle.qcow2_check.proofs.offsets.offsets_of_reftable.Given as goal

abbrev pub invariant-loop-k : goal.invariant-loop-k
invariant-loop-k l = record {
  grows : TalliesGrow l.initial.offsets.clusters l.offsets.clusters (blocks_off l.header l.reftable l.k) (λ _. 0) (λ _. 0);
  total : l.offsets.total ≤ l.initial.offsets.total + l.k;
}
