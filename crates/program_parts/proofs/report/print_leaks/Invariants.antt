use Rattle.std.proofs.Common.{◌≡◌, ◌≤◌, ◌^◌, ◌++◌, length}
use Rattle.program_parts.proofs.Common.{Appends, leak_line, text_of_lines}
use Rattle.program_parts.proofs.report.print_leaks.Given as goal

abbrev pub invariant-loop-leak : goal.invariant-loop-leak
invariant-loop-leak g l = record {
  all : l.yielded ++ l.leak-iterator ≡ l.leaks;
  count : l.count ≡ length l.yielded;
  few : length l.leaks ≤ 2 ^ 44;
  printed : Appends (g.W.Write.contents l.initial.output) (g.W.Write.contents l.output) (text_of_lines leak_line l.yielded);
}
