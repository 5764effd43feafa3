use Rattle.std.proofs.Common.{IfSome}
use Rattle.qimg.proofs.Scripts.{HasAsked}
use Rattle.qimg.proofs.reading.read_script.Given as goal

abbrev pub invariant-loop : goal.invariant-loop
invariant-loop g l = IfSome (g.R.Read.remaining l.initial.input) (λ text. HasAsked text l.commands.items (g.R.Read.remaining l.input))
