use Rattle.std.proofs.Common.{◌≡◌, ◌++◌, drop}
use Rattle.qcow2_check.proofs.Common.{lines_of, is_named, unaligned_line}
use Rattle.qcow2_check.proofs.lines.push_offsets.Given as goal

abbrev pub invariant-loop-offset : goal.invariant-loop-offset
invariant-loop-offset l = l.breaches.items ++ lines_of is_named (unaligned_line l.kind) (drop l.offset-index l.named) ≡ l.initial.breaches.items ++ lines_of is_named (unaligned_line l.kind) l.named
