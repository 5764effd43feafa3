use Rattle.qcow2_alloc.proofs.SparedClusters.{spares_one}
use Rattle.qcow2_alloc.proofs.allocation.Allocator.spare.Goals as goal

pub returns-clause-spares : goal.returns-clause-spares
returns-clause-spares c = spares_one c.args.self.now.named c.give.new.self c.args.cluster c.give.result c.give.ensures.given c.give.ensures.refused
