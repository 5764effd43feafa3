use Rattle.std.proofs.Common.{◌≡◌, ℕ, length}
use Rattle.qcow2_check.proofs.Common.{sum_by, sum_below, host_offset, entry_at}
use Rattle.qcow2_check.proofs.l1.table_places.Given as goal

abbrev pub invariant-loop-i : goal.invariant-loop-i
invariant-loop-i l = record {
  long : length l.places.items ≡ l.i;
  sums : (f : ℕ → ℕ) → sum_by f l.places.items ≡ sum_below l.i (λ i. f (host_offset (entry_at l.l1 i)));
}
