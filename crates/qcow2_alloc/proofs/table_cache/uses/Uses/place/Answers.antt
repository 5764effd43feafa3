use Rattle.std.proofs.Common.{◌≡◌, ◌≢◌, ◌+◌, ◌<◌, ◌≤◌, ◌^◌, ℕ, cond, is_some, length, Some, None, inl, inr, arith, sym, ap, ◌∙◌, subst, IfSome}
use Rattle.qcow2_alloc.proofs.Common.{cases_eq, same_Some, option_map_or, number_at}
use Rattle.qcow2_alloc.proofs.Lemmas.{bit, count_at_most, none_marked, unplaced_is, placed_so, numbered_same, room_placed, room_unplaced, found_below}
use Rattle.qcow2_alloc.proofs.table_cache.uses.Uses.place.Goals as goal

here : (n : ℕ) → n ≤ n
here n = omega arith

below_next : (n next : ℕ) → n < next → n ≢ next
below_next n next low e = omega (arith, low, e)

pub put_mark-requires-clause-fits : goal.put_mark-requires-clause-fits
put_mark-requires-clause-fits g c = λ _.
    let i = c.self.inside in
    let most = count_at_most (number_at i.marked.entries) i.numbers.entries in
    let same = ap length c.make_room.ensures.entries in
    let len = c.len.ensures.len in
    let room = c.in_ok-make_room.ensures.room in
    omega (arith, most, same, len, room, c.self.invariant.1.count)

pub put_mark-requires-clause-new : goal.put_mark-requires-clause-new
put_mark-requires-clause-new g c = λ _.
    let i = c.self.inside in
    rw c.make_room.ensures.entries (none_marked g.met.K.Eq.laws i.next i.numbers.cap (number_at i.marked.entries) i.numbers.entries c.self.invariant.0 i.next (here i.next))

pub invariant_of-self-in_default : goal.invariant_of-self-in_default
invariant_of-self-in_default g c =
    let i = c.self.inside in
    let put = rw c.make_room.ensures.entries at c.put_mark.ensures.others in
    let number = rw c.make_room.ensures.entries at c.put_mark.ensures.number in
    let lengths = rw c.make_room.ensures.entries at c.put_mark.ensures.count in
    let taken = c.take_mark.ensures in
    let none = none_marked g.met.K.Eq.laws i.next i.numbers.cap (number_at i.marked.entries) i.numbers.entries c.self.invariant.0 i.next (here i.next) in
    let seen = unplaced_is g.met.K.Eq.laws i.next i.numbers.cap (number_at i.marked.entries) i.numbers.entries c.self.invariant.0 (number_at c.put_mark.new.marked.entries) (number_at c.take_mark.new.marked.entries) put taken.others in
    let same : (n : ℕ) → number_at c.take_mark.new.marked.entries n ≡ number_at i.marked.entries n = λ n. elim (cases_eq n i.next) [
      | inl e ↦ subst (λ j. number_at c.take_mark.new.marked.entries j ≡ number_at i.marked.entries j) (sym e) (taken.number ∙ sym none)
      | inr other ↦ taken.others n (λ e. other (sym (same_Some i.next n e))) ∙ put n other
    ] in
    rw c.in_default.ensures.err (
      numbered_same g.met.K.Eq.laws i.next i.numbers.cap (number_at i.marked.entries) i.numbers.entries c.self.invariant.0 (number_at c.take_mark.new.marked.entries) same,
      room_unplaced (g.K.PartialEq.eq c.args.key) i.numbers.entries i.marked c.self.invariant.1 c.args.is_marked c.put_mark.new.marked c.take_mark.new.marked lengths (number_at c.put_mark.new.marked.entries i.next) c.args.key (number ∙ ap (cond c.args.is_marked (Some c.args.key)) none) taken.count seen
          (let grows = c.make_room.ensures.grows in let a = c.put_mark.ensures.room in let b = taken.room in omega (arith, grows, a, b)),
    )

pub returns-in_default-clause-err : goal.returns-in_default-clause-err
returns-in_default-clause-err g c =
    let i = c.self.inside in
    let put = rw c.make_room.ensures.entries at c.put_mark.ensures.others in
    let same = unplaced_is g.met.K.Eq.laws i.next i.numbers.cap (number_at i.marked.entries) i.numbers.entries c.self.invariant.0 (number_at c.put_mark.new.marked.entries) (number_at c.take_mark.new.marked.entries) put c.take_mark.ensures.others in
    rw c.in_default.ensures.err (same ∙ c.self.view_is)

pub invariant_of-self-2 : goal.invariant_of-self-2
invariant_of-self-2 g c =
    let i = c.self.inside in
    let test = g.K.PartialEq.eq c.args.key in
    let clauses = c.in-Ok.ensures in
    let put = rw c.make_room.ensures.entries at c.put_mark.ensures.others in
    let number = rw c.make_room.ensures.entries at c.put_mark.ensures.number in
    let lengths = rw c.make_room.ensures.entries at c.put_mark.ensures.count in
    let none = none_marked g.met.K.Eq.laws i.next i.numbers.cap (number_at i.marked.entries) i.numbers.entries c.self.invariant.0 i.next (here i.next) in
    let taken = c.take_mark-2.ensures in
    let gone = subst (λ o. IfSome o (λ n. number_at c.take_mark-2.new.marked.entries n ≡ None)) clauses.old taken.number in
    let placed = placed_so g.met.K.Eq.laws i.next i.numbers.cap (number_at i.marked.entries) i.numbers.entries c.self.invariant.0 c.args.key c.args.is_marked (number_at c.put_mark.new.marked.entries) (number_at c.take_mark-2.new.marked.entries)
    (number ∙ ap (cond c.args.is_marked (Some c.args.key)) none) put gone (λ m other. taken.others m (λ e. other (sym clauses.old ∙ e))) (subst (λ n. n < 2 ^ 63) c.len.ensures.len c.len.ensures.fits) in
    let count = subst (λ o. length c.take_mark-2.new.marked.entries + option_map_or (λ n. bit (is_some (number_at c.put_mark.new.marked.entries n))) o 0 ≡ length c.put_mark.new.marked.entries) clauses.old taken.count in
    rw clauses.entries (
      placed.numbered,
      room_placed test i.numbers.entries i.marked c.self.invariant.1 c.args.is_marked c.put_mark.new.marked c.take_mark-2.new.marked lengths c.args.key _ placed.seen count
          (λ n found. put n (below_next n i.next (found_below test i.next n i.numbers.entries c.self.invariant.0.fall found)))
          (let room = c.in_ok-make_room.ensures.room in let len = c.len.ensures.len in let a = c.put_mark.ensures.room in let b = taken.room in omega (arith, room, len, a, b)),
    )

pub returns-clause-ok : goal.returns-clause-ok
returns-clause-ok g c =
    let i = c.self.inside in
    let clauses = c.in-Ok.ensures in
    let put = rw c.make_room.ensures.entries at c.put_mark.ensures.others in
    let number = rw c.make_room.ensures.entries at c.put_mark.ensures.number in
    let none = none_marked g.met.K.Eq.laws i.next i.numbers.cap (number_at i.marked.entries) i.numbers.entries c.self.invariant.0 i.next (here i.next) in
    let taken = c.take_mark-2.ensures in
    let gone = subst (λ o. IfSome o (λ n. number_at c.take_mark-2.new.marked.entries n ≡ None)) clauses.old taken.number in
    let placed = placed_so g.met.K.Eq.laws i.next i.numbers.cap (number_at i.marked.entries) i.numbers.entries c.self.invariant.0 c.args.key c.args.is_marked (number_at c.put_mark.new.marked.entries) (number_at c.take_mark-2.new.marked.entries)
    (number ∙ ap (cond c.args.is_marked (Some c.args.key)) none) put gone (λ m other. taken.others m (λ e. other (sym clauses.old ∙ e))) (subst (λ n. n < 2 ^ 63) c.len.ensures.len c.len.ensures.fits) in
    rw (clauses.entries, ← c.self.view_is) placed.seen
