use Rattle.qcow2_alloc.proofs.Common.{sym, ap, length-set_value, cache_of}
use Rattle.qcow2_alloc.proofs.CachedEntries.Lists.{pin_full}
use Rattle.qcow2_alloc.proofs.async_lru_cache.AsyncLruCache.pin.Goals as goal

pub invariant_of-self-then-slot : goal.invariant_of-self-then-slot
invariant_of-self-then-slot g c = rw length-set_value c.self.invariant

pub returns-then-slot-clause-entries : goal.returns-then-slot-clause-entries
returns-then-slot-clause-entries g c =
    rw (← c.self.view_is) (ap (λ es. cache_of c.self.inside.backend c.self.inside.size es) (pin_full (g.B.Key.PartialEq.eq c.args.key) c.self.inside.entries.entries c.in-Some.slot.now (sym c.in-Some.ensures.value) c.if-slot.true))

pub invariant_of-self-2 : goal.invariant_of-self-2
invariant_of-self-2 g c = rw length-set_value c.self.invariant
