use Rattle.std.proofs.Common.{◌≡◌, ◌≢◌, ℕ, false, is_some, refl, sym, ap, arith}
use Rattle.qcow2_alloc.proofs.Common.{same_Some, number_at}
use Rattle.qcow2_alloc.proofs.Uses.{set_none, lookup_none-marks, mark_is, unmarked_numbered, room_set}
use Rattle.qcow2_alloc.proofs.table_cache.uses.Uses.unmark.Goals as goal

pub returns-in_default : goal.returns-in_default
returns-in_default g c =
    let i = c.self.inside in
    let none = lookup_none-marks (number_at i.marked.entries) (g.K.PartialEq.eq c.args.key) i.numbers.entries (sym c.in_default.ensures) in
    rw (← c.self.view_is) (sym (set_none (g.K.PartialEq.eq c.args.key) _ false none))

pub invariant_of-self : goal.invariant_of-self
invariant_of-self g c =
    let i = c.self.inside in
    let taken = c.take_mark.ensures in
    let others : (m : ℕ) → m ≢ c.in-Some.number.now → number_at c.take_mark.new.marked.entries m ≡ number_at i.marked.entries m = λ m other. taken.others m (λ e. other (sym (same_Some c.in-Some.number.now m e))) in
    let seen = mark_is g.met.K.Eq.laws i.next i.numbers.cap (number_at i.marked.entries) i.numbers.entries c.self.invariant.0 c.args.key c.in-Some.number.now (sym c.in-Some.ensures) (number_at c.take_mark.new.marked.entries) others (ap is_some taken.number) in (
      unmarked_numbered g.met.K.Eq.laws i.next i.numbers.cap (number_at i.marked.entries) i.numbers.entries c.self.invariant.0 c.args.key c.in-Some.number.now (sym c.in-Some.ensures) (number_at c.take_mark.new.marked.entries) others taken.number,
      room_set (g.K.PartialEq.eq c.args.key) i.numbers.entries i.marked c.self.invariant.1 c.take_mark.new.marked c.in-Some.number.now (is_some (number_at i.marked.entries c.in-Some.number.now)) false c.in-Some.ensures refl seen (let count = taken.count in omega (arith, count)) taken.room,
    )

pub returns : goal.returns
returns g c =
    let i = c.self.inside in
    rw (← c.self.view_is) (mark_is g.met.K.Eq.laws i.next i.numbers.cap (number_at i.marked.entries) i.numbers.entries c.self.invariant.0 c.args.key c.in-Some.number.now (sym c.in-Some.ensures) (number_at c.take_mark.new.marked.entries)
    (λ m other. c.take_mark.ensures.others m (λ e. other (sym (same_Some c.in-Some.number.now m e)))) (ap is_some c.take_mark.ensures.number))
