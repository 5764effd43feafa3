use Rattle.std.proofs.Common.{◌+◌, ◌≤◌}
use Rattle.qcow2_check.proofs.Common.{TalliesGrow, tables_among, marks_among}
use Rattle.qcow2_check.proofs.l1.names_of_l1_entries.Given as goal

abbrev pub invariant-loop-i : goal.invariant-loop-i
invariant-loop-i l = record {
  grows : TalliesGrow l.initial.names.clusters l.names.clusters (tables_among l.header l.l1 l.i) (tables_among l.header l.l1 l.i) (marks_among l.header l.l1 l.i);
  total : l.names.total ≤ l.initial.names.total + l.i;
}
