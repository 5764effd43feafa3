use Rattle.qcow2_alloc.proofs.Common.{arith}
use Rattle.qcow2_alloc.proofs.CachedEntries.Lists.{length-remove_entry}
use Rattle.qcow2_alloc.proofs.async_lru_cache.AsyncLruCache.remove.Goals as goal

pub invariant_of-self : goal.invariant_of-self
invariant_of-self g c =
    let l = length-remove_entry (g.B.Key.PartialEq.eq c.args.key) c.self.inside.entries.entries in
    rw c.evict_entry.ensures.entries (omega (arith, l, c.self.invariant.0), c.self.invariant.1)
