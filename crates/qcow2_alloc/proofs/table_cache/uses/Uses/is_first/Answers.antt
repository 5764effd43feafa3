use Rattle.qcow2_alloc.proofs.Common.{◌∙◌, number_at}
use Rattle.qcow2_alloc.proofs.Uses.{first_is, none_is_first}
use Rattle.qcow2_alloc.proofs.table_cache.uses.Uses.is_first.Goals as goal

pub returns-in-Some : goal.returns-in-Some
returns-in-Some g c =
    let i = c.self.inside in
    rw (← c.self.view_is) (c.eq.ensures ∙ first_is (number_at i.marked.entries) (g.K.PartialEq.eq c.args.key) i.numbers.entries c.in-Some.first.now c.in-Some.field-0-1.now c.in-Some.ensures)

pub returns-in-None : goal.returns-in-None
returns-in-None g c =
    let i = c.self.inside in
    rw (← c.self.view_is) (none_is_first (number_at i.marked.entries) (g.K.PartialEq.eq c.args.key) i.numbers.entries c.in-None.ensures)
