use Rattle.std.proofs.Common.{◌+◌, ◌≤◌}
use Rattle.qcow2_check.proofs.Common.{TalliesGrow, tables_off}
use Rattle.qcow2_check.proofs.offsets.offsets_of_l1_table.Given as goal

abbrev pub invariant-loop-i : goal.invariant-loop-i
invariant-loop-i l = record {
  grows : TalliesGrow l.initial.offsets.clusters l.offsets.clusters (tables_off l.header l.l1 l.i) (λ _. 0) (λ _. 0);
  total : l.offsets.total ≤ l.initial.offsets.total + l.i;
}
