use Rattle.std.proofs.Common.{◌≡◌, ◌-◌, ℕ, ◌∙◌, ap, sym, arith, Some, slice_get}
use Rattle.qcow2_alloc.proofs.Common.{same_Some}
use Rattle.qcow2_alloc.proofs.Marks.{last_is, last_below, got_at, below_most}
use Rattle.qcow2_alloc.proofs.table_cache.marks.Marks.below.Goals as goal

pub returns-then-count-eq0-clause-none : goal.returns-then-count-eq0-clause-none
returns-then-count-eq0-clause-none g c = λ none. c.count_below-count.ensures.none c.if-count-eq0.true

pub returns-in-Some-clause-found : goal.returns-in-Some-clause-found
returns-in-Some-clause-found g c =
    let i = c.self.inside in
    let is = rw (← c.self.view_is) at c.count_below-count.ensures.count in
    let some = c.if-count-eq0.false in
    let last = last_is 0 c.args.bound i.marks.items (c.count_below-count.result - 1) c.self.invariant (omega (arith, is, some)) in
    let got = got_at c.deref.result.now (c.count_below-count.result - 1) c.in-Some.field-0.now c.in-Some.ensures.lookup.0 c.in-Some.ensures.lookup.1 in
    let here : Some c.in-Some.field-0.now ≡ slice_get i.marks.items (c.count_below-count.result - 1) = rw (← c.deref.ensures.value) got in
    rw (← c.self.view_is) (last_below last c.in-Some.field-0.now.1 (ap (λ (m : ℕ × _). m.1) (same_Some last.last c.in-Some.field-0.now (sym last.at ∙ sym here))))

pub returns-in-None-clause-none : goal.returns-in-None-clause-none
returns-in-None-clause-none g c =
    let i = c.self.inside in
    let is = rw (← c.self.view_is) at c.count_below-count.ensures.count in
    let some = c.if-count-eq0.false in
    let most = below_most c.args.bound i.marks.items in
    let past = rw c.deref.ensures.value at c.in-None.ensures.lookup.3 in
    absurd (omega (arith, is, some, most, past))
