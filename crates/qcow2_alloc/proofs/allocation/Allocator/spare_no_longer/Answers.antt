use Rattle.qcow2_alloc.proofs.Common.{arith}
use Rattle.qcow2_alloc.proofs.allocation.Allocator.spare_no_longer.Goals as goal

pub returns-then-not-take-clause-gone : goal.returns-then-not-take-clause-gone
returns-then-not-take-clause-gone c = c.clear.ensures c.args.cluster

pub returns-else-not-take-clause-gone : goal.returns-else-not-take-clause-gone
returns-else-not-take-clause-gone c = (c.take.ensures.taken c.if-not-take.false).gone c.args.cluster (omega arith) (omega arith)
