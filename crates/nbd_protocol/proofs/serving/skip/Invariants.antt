use Rattle.std.proofs.Common.{◌≡◌, ◌+◌, ℕ, List, length}
use Rattle.nbd_protocol.proofs.Common.{Consumes}
use Rattle.nbd_protocol.proofs.serving.skip.Given as goal

abbrev pub invariant-loop-rest : goal.invariant-loop-rest
invariant-loop-rest g l = (bytes : List ℕ) × (length bytes + l.rest ≡ l.count) × Consumes (g.R.Read.remaining l.fn.reader) (g.R.Read.remaining l.reader) bytes

abbrev pub decreases-loop-rest : goal.decreases-loop-rest
decreases-loop-rest g l = l.rest
