use Rattle.qcow2_alloc.proofs.Common.{◌∙◌, ap, arith, slice_get}
use Rattle.qcow2_alloc.proofs.Marks.{found_some, found_none, got_at}
use Rattle.qcow2_alloc.proofs.table_cache.marks.Marks.contains.Goals as goal

pub returns-in-Some : goal.returns-in-Some
returns-in-Some g c =
    let i = c.self.inside in
    let at = rw (← c.self.view_is) at c.count_below-at.ensures.count in
    let got = got_at c.deref.result.now c.count_below-at.result c.in-Some.field-0.now c.in-Some.ensures.lookup.0 c.in-Some.ensures.lookup.1 in
    let here = got ∙ ap (λ l. slice_get l c.count_below-at.result) c.deref.ensures.value ∙ ap (slice_get i.marks.items) at in
    rw (← c.self.view_is) (found_some 0 c.args.number i.marks.items c.in-Some.field-0.now c.self.invariant here)

pub returns-in-None : goal.returns-in-None
returns-in-None g c =
    let i = c.self.inside in
    let at = rw (← c.self.view_is) at c.count_below-at.ensures.count in
    let past = rw c.deref.ensures.value at c.in-None.ensures.lookup.3 in
    rw (← c.self.view_is) (found_none c.args.number i.marks.items (omega (arith, at, past)))
