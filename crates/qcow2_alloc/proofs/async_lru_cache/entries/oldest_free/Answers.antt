use Rattle.qcow2_alloc.proofs.CachedEntries.Lists.{oldest_free-here, oldest_free-before, is_pinned-true}
use Rattle.qcow2_alloc.proofs.async_lru_cache.entries.oldest_free.Goals as goal

pub returns-then-slot-eq0 : goal.returns-then-slot-eq0
returns-then-slot-eq0 g c =
    oldest_free-here c.args.entries.now.entries c.loop-key.left c.next_back.new.self (c.in-Some.key.now, c.in-Some.slot.now) c.loop-key.invariant c.in-Some.ensures.steps c.if-slot-eq0.true

pub loop-key-preserved : goal.loop-key-preserved
loop-key-preserved g c =
    oldest_free-before c.args.entries.now.entries c.loop-key.left c.next_back.new.self (c.in-Some.key.now, c.in-Some.slot.now) c.loop-key.invariant c.in-Some.ensures.steps (is_pinned-true c.in-Some.slot.now c.if-slot-eq0.false)
