use Rattle.std.proofs.Common.{◌≤◌, ℕ, arith}
use Rattle.qcow2_alloc.proofs.Marks.{put_here, put_beside, put_rise, below_most}
use Rattle.qcow2_alloc.proofs.table_cache.marks.Marks.put.Goals as goal

least : (n : ℕ) → 0 ≤ n
least n = omega arith

pub insert-room_was_made-requires : goal.insert-room_was_made-requires
insert-room_was_made-requires g c =
    let i = c.self.inside in
    let most = below_most c.args.number i.marks.items in
    let at = rw (← c.self.view_is) at c.count_below-at.ensures.count in
    omega (arith, i.marks.ok.0, at, most)

pub invariant_of-self : goal.invariant_of-self
invariant_of-self g c =
    let i = c.self.inside in
    let none = rw (← c.self.view_is) at c.requires.new in
    let fits = rw (← c.self.view_is) at c.requires.fits in
    rw (c.insert-room_was_made.ensures.items, c.insert-room_was_made.ensures.succeeds (omega (arith, fits, i.marks.ok.0)), c.count_below-at.ensures.count, ← c.self.view_is) (put_rise 0 c.args.number c.args.key i.marks.items (least c.args.number) none c.self.invariant)

pub returns-clause-number : goal.returns-clause-number
returns-clause-number g c =
    let i = c.self.inside in
    let none = rw (← c.self.view_is) at c.requires.new in
    let fits = rw (← c.self.view_is) at c.requires.fits in
    rw (c.insert-room_was_made.ensures.items, c.insert-room_was_made.ensures.succeeds (omega (arith, fits, i.marks.ok.0)), c.count_below-at.ensures.count, ← c.self.view_is) (put_here c.args.number c.args.key i.marks.items none)

pub returns-clause-others : goal.returns-clause-others
returns-clause-others g c = λ n other.
    let i = c.self.inside in
    let fits = rw (← c.self.view_is) at c.requires.fits in
    rw (c.insert-room_was_made.ensures.items, c.insert-room_was_made.ensures.succeeds (omega (arith, fits, i.marks.ok.0)), c.count_below-at.ensures.count, ← c.self.view_is) (put_beside c.args.number n c.args.key i.marks.items other)
