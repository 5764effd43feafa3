use Rattle.std.proofs.Common.{◌+◌, ◌*◌, ◌≤◌}
use Rattle.qcow2_check.proofs.Common.{byte_at, TalliesGrow, data_off}
use Rattle.qcow2_check.proofs.offsets.offsets_of_l2_table.Given as goal

abbrev pub invariant-loop-j : goal.invariant-loop-j
invariant-loop-j l = record {
  grows : TalliesGrow l.initial.offsets.clusters l.offsets.clusters (λ o. l.times * data_off l.header (byte_at l.table) 0 l.j o) (λ _. 0) (λ _. 0);
  total : l.offsets.total ≤ l.initial.offsets.total + l.times * l.j;
}
