use Rattle.std.proofs.Common.{◌<◌, ℕ}
use Rattle.qcow2_metadata.proofs.Common.{entry_at, IsClear}
use Rattle.qcow2_metadata.proofs.entry_table.is_clear.Given as goal

abbrev pub invariant-loop-i : goal.invariant-loop-i
invariant-loop-i l = (k : ℕ) → k < l.i → IsClear l.reserved (entry_at l.bytes k)
