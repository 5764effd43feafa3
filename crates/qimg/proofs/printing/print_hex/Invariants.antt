use Rattle.std.proofs.Common.{length}
use Rattle.qimg.proofs.Hex.{Printed}
use Rattle.qimg.proofs.printing.print_hex.Given as goal

abbrev pub invariant-loop-rest : goal.invariant-loop-rest
invariant-loop-rest g l = Printed (g.W.Write.contents l.initial.output) (g.W.Write.contents l.output) l.initial.rest l.rest

abbrev pub decreases-loop-rest : goal.decreases-loop-rest
decreases-loop-rest g l = length l.rest
