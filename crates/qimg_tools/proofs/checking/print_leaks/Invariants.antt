use denote.Text.{Utf8}
use denote.Shadow.{shadow}
use Rattle.qimg_tools.proofs.checking.print_leaks.Given as goal

abbrev pub invariant-loop-leak : goal.invariant-loop-leak
invariant-loop-leak g l = (goal.iterator-loop-leak g).can_next l.leak-iterator × (goal.iterator-loop-leak g).is_finite l.leak-iterator × shadow (Utf8 l.between)
