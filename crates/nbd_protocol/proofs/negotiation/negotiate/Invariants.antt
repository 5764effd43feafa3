use Rattle.nbd_protocol.proofs.Common.{ℕ, List, Appends, Consumes}
use Rattle.nbd_protocol.proofs.negotiation.negotiate.Given as goal

abbrev pub invariant-loop : goal.invariant-loop
invariant-loop g l = (heard said : List ℕ) × Consumes (g.R.Read.remaining l.fn.reader) (g.R.Read.remaining l.reader) heard
    × Appends (g.W.Write.contents l.fn.writer) (g.W.Write.contents l.writer) said
