use Rattle.qcow2_alloc.proofs.Common.{arith}
use Rattle.qcow2_alloc.proofs.Lemmas.{length-pinned, pins_pinned}
use Rattle.qcow2_alloc.proofs.async_lru_cache.AsyncLruCache.invalidate.Goals as goal

pub invariant_of-self : goal.invariant_of-self
invariant_of-self g c =
    let l = length-pinned c.self.inside.entries.entries in
    rw c.evict_free.ensures.entries (omega (arith, l, c.self.invariant.0), c.self.invariant.1)

pub returns-clause-pins : goal.returns-clause-pins
returns-clause-pins g c =
    rw (← c.self.view_is, c.evict_free.ensures.entries) (pins_pinned g.B.Key.PartialEq.eq g.met.B.Key.Eq.laws c.self.inside.entries.entries c.evict_free.ensures.distinct)
