use Rattle.qcow2_alloc.proofs.Common.{inl, inr, arith, IsIn}
use Rattle.qcow2_alloc.proofs.KeptRuns.{listed_open, one_used}
use Rattle.qcow2_alloc.proofs.allocation.Allocator.list_stretch.Goals as goal

pub returns-then-used-eq0-clause-listed : goal.returns-then-used-eq0-clause-listed
returns-then-used-eq0-clause-listed g c = listed_open c.args.self.now c.args.caches.now c.args.block c.args.first c.args.at c.args.end (IsIn c.list_open.new.self.free) c.list_open.result c.list_open.ensures.listed

pub returns-clause-onward : goal.returns-clause-onward
returns-clause-onward g c =
    let some = c.if-used-eq0.false in
    let sum = c.saturating_add.ensures in
    let least = c.min.ensures in
    let below = c.requires.below in
    (omega (arith, some, sum, least, below), omega (arith, least), λ k from to. c.requires.none k (omega (arith, some, sum, least, below, from)) to)

pub returns-clause-listed : goal.returns-clause-listed
returns-clause-listed g c = λ k from below.
    let sum = c.saturating_add.ensures in
    let least = c.min.ensures in
    let low = c.requires.from in
    inl (inr (omega (arith, low, from), omega (arith, below, least), one_used c.args.caches.now c.args.block c.args.first c.args.at c.rb_used_from-used.result k low from (omega (arith, below, sum, least)) c.rb_used_from-used.ensures.used))
