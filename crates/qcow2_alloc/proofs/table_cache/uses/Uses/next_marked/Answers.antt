use Rattle.qcow2_alloc.proofs.Common.{sym, number_at}
use Rattle.qcow2_alloc.proofs.Uses.{next_found, next_missing}
use Rattle.qcow2_alloc.proofs.table_cache.uses.Uses.next_marked.Goals as goal

pub returns-in_default : goal.returns-in_default
returns-in_default g c =
    let i = c.self.inside in
    rw (← c.self.view_is) (next_missing g.K.PartialEq.eq (number_at i.marked.entries) i.next i.numbers.cap i.numbers.entries c.self.invariant.0 c.args.key (sym c.in_default.ensures))

pub returns : goal.returns
returns g c =
    let i = c.self.inside in
    rw (← c.self.view_is) (next_found g.K.PartialEq.eq (number_at i.marked.entries) i.next i.numbers.cap i.numbers.entries c.self.invariant.0 c.args.key c.in-Some.number.now (sym c.in-Some.ensures) c.below.result c.below.ensures.found c.below.ensures.none)
