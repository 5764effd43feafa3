use Rattle.qcow2_alloc.proofs.Common.{number_at}
use Rattle.qcow2_alloc.proofs.Uses.{first_found}
use Rattle.qcow2_alloc.proofs.table_cache.uses.Uses.first_marked.Goals as goal

pub returns : goal.returns
returns g c =
    let i = c.self.inside in
    rw (← c.self.view_is) (first_found g.K.PartialEq.eq (number_at i.marked.entries) i.next i.numbers.cap i.numbers.entries c.self.invariant.0 c.below.result c.below.ensures.found c.below.ensures.none)
