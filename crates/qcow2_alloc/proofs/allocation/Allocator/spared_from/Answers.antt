use Rattle.qcow2_alloc.proofs.Common.{arith}
use Rattle.qcow2_alloc.proofs.allocation.Allocator.spared_from.Goals as goal

pub returns-in-Some-clause-none : goal.returns-in-Some-clause-none
returns-in-Some-clause-none c = λ k low high. c.in-Some.ensures.between k low (let least = c.min.ensures in omega (arith, least, high))
