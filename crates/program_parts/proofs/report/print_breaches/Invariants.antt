use Rattle.program_parts.proofs.Common.{take, Appends, breach_line, text_of_lines}
use Rattle.program_parts.proofs.report.print_breaches.Given as goal

abbrev pub invariant-loop-breach : goal.invariant-loop-breach
invariant-loop-breach g l = Appends (g.W.Write.contents l.initial.output) (g.W.Write.contents l.output) (text_of_lines breach_line (take l.breach-index l.breaches))
