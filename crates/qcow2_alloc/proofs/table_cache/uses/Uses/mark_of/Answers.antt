use Rattle.qcow2_alloc.proofs.Common.{number_at}
use Rattle.qcow2_alloc.proofs.Uses.{mark_is_none, mark_is_some}
use Rattle.qcow2_alloc.proofs.table_cache.uses.Uses.mark_of.Goals as goal

pub returns-in-None : goal.returns-in-None
returns-in-None g c =
    let i = c.self.inside in
    rw (← c.self.view_is) (mark_is_none (number_at i.marked.entries) (g.K.PartialEq.eq c.args.key) i.numbers.entries c.in-None.ensures)

pub returns-in-Some : goal.returns-in-Some
returns-in-Some g c =
    let i = c.self.inside in
    rw (← c.self.view_is) (mark_is_some (number_at i.marked.entries) (g.K.PartialEq.eq c.args.key) i.numbers.entries c.in-Some.number.now c.contains.result c.in-Some.ensures c.contains.ensures)
