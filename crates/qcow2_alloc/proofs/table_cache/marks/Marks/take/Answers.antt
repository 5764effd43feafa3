use Rattle.qcow2_alloc.proofs.Common.{arith}
use Rattle.qcow2_alloc.proofs.Marks.{take_within, take_here, take_beside, take_rise}
use Rattle.qcow2_alloc.proofs.table_cache.marks.Marks.take.Goals as goal

pub invariant_of-self : goal.invariant_of-self
invariant_of-self g c =
    let i = c.self.inside in
    rw (c.remove.ensures.items, c.count_below-at.ensures.count, ← c.self.view_is) (take_rise 0 c.args.number i.marks.items c.self.invariant)

pub returns-clause-number : goal.returns-clause-number
returns-clause-number g c =
    let i = c.self.inside in
    rw (c.remove.ensures.items, c.count_below-at.ensures.count, ← c.self.view_is) (take_here 0 c.args.number i.marks.items c.self.invariant (rw (← c.self.view_is) at c.requires))

pub returns-clause-others : goal.returns-clause-others
returns-clause-others g c = λ n other.
    let i = c.self.inside in
    rw (c.remove.ensures.items, c.count_below-at.ensures.count, ← c.self.view_is) (take_beside 0 c.args.number n i.marks.items c.self.invariant (rw (← c.self.view_is) at c.requires) other)

pub remove-requires : goal.remove-requires
remove-requires g c =
    let i = c.self.inside in
    let within = take_within c.args.number i.marks.items (rw (← c.self.view_is) at c.requires) in
    let at = rw (← c.self.view_is) at c.count_below-at.ensures.count in
    omega (arith, at, within, i.marks.ok.0)
