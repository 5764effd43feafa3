use Rattle.std.proofs.Common.{◌+◌, ◌*◌, ◌^◌, ◌≤◌}
use Rattle.qcow2_check.proofs.Common.{byte_at, TalliesGrow, named_by_entries, marked_by_entries}
use Rattle.qcow2_check.proofs.entries.names_of_l2_table.Given as goal

abbrev pub invariant-loop-j : goal.invariant-loop-j
invariant-loop-j l = record {
  grows : TalliesGrow l.initial.names.clusters l.names.clusters (λ q. l.times * named_by_entries l.header (byte_at l.table) 0 l.j q) (λ _. 0) (λ q. l.times * marked_by_entries l.header (byte_at l.table) 0 l.j q);
  total : l.names.total ≤ l.initial.names.total + l.times * (l.j * 2 ^ 15);
}
