use Rattle.qcow2_alloc.proofs.Common.{true, not, sym, ◌∙◌, number_at}
use Rattle.qcow2_alloc.proofs.Uses.{lacks, none_is, set_none, lookup_none-marks, mark_seen, room_left, room_put, put_numbered}
use Rattle.qcow2_alloc.proofs.table_cache.uses.Uses.mark.Goals as goal

pub returns-in_default : goal.returns-in_default
returns-in_default g c =
    let i = c.self.inside in
    let none = lookup_none-marks (number_at i.marked.entries) (g.K.PartialEq.eq c.args.key) i.numbers.entries (sym c.in_default.ensures) in
    rw (← c.self.view_is) (sym (set_none (g.K.PartialEq.eq c.args.key) _ true none))

pub put_mark-requires-clause-fits : goal.put_mark-requires-clause-fits
put_mark-requires-clause-fits g c = λ new.
    let i = c.self.inside in
    room_left (g.K.PartialEq.eq c.args.key) i.numbers.entries i.marked c.self.invariant.1 c.in-Some.number.now c.in-Some.ensures (sym c.contains-has_mark.ensures ∙ lacks c.contains-has_mark.result new)

pub put_mark-requires-clause-new : goal.put_mark-requires-clause-new
put_mark-requires-clause-new g c = λ new. none_is (sym c.contains-has_mark.ensures ∙ lacks c.contains-has_mark.result new)

pub invariant_of-self : goal.invariant_of-self
invariant_of-self g c =
    let i = c.self.inside in
    let put = c.put_mark.ensures in (
      put_numbered g.met.K.Eq.laws i.next i.numbers.cap (number_at i.marked.entries) i.numbers.entries c.self.invariant.0 c.args.key c.in-Some.number.now (not c.contains-has_mark.result) c.in-Some.ensures (number_at c.put_mark.new.marked.entries) put.number put.others,
      room_put g.met.K.Eq.laws i.next i.numbers.cap i.numbers.entries i.marked c.put_mark.new.marked c.self.invariant.0 c.self.invariant.1 c.args.key c.in-Some.number.now c.in-Some.ensures put.others (not c.contains-has_mark.result)
          (λ new. sym c.contains-has_mark.ensures ∙ lacks c.contains-has_mark.result new) put.number put.count put.room,
    )

pub returns : goal.returns
returns g c =
    let i = c.self.inside in
    let here = rw c.contains-has_mark.ensures at c.put_mark.ensures.number in
    rw (← c.self.view_is) (mark_seen g.met.K.Eq.laws i.next i.numbers.cap i.numbers.entries i.marked c.put_mark.new.marked c.self.invariant.0 c.self.invariant.1 c.args.key c.in-Some.number.now c.in-Some.ensures c.put_mark.ensures.others here)
