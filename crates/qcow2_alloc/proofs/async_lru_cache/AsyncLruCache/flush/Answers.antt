use Rattle.qcow2_alloc.proofs.Common.{◌∙◌, arith}
use Rattle.qcow2_alloc.proofs.Lemmas.{length_flushed, all_keeps, all_keep_pins}
use Rattle.qcow2_alloc.proofs.async_lru_cache.AsyncLruCache.flush.Goals as goal

pub invariant_of-self : goal.invariant_of-self
invariant_of-self g c =
    let l = length_flushed (g.B.AsyncLruCacheBackend.steps c.self.inside.backend) c.args.store.now c.self.inside.entries.entries c.flush_all.result c.flush_all.new.store c.flush_all.new.entries.entries c.flush_all.ensures.flushed in
    (omega (arith, l, c.self.invariant.0), c.flush_all.ensures.cap ∙ c.self.invariant.1)

pub returns-clause-known : goal.returns-clause-known
returns-clause-known g c =
    rw (← c.self.view_is) (all_keeps g.met.B.Key.Eq.laws (g.met.B.AsyncLruCacheBackend.lawful c.self.inside.backend) c.args.store.now c.self.inside.entries.entries c.flush_all.result c.flush_all.new.store c.flush_all.new.entries.entries c.flush_all.ensures.distinct c.flush_all.ensures.flushed)

pub returns-clause-pins : goal.returns-clause-pins
returns-clause-pins g c =
    rw (← c.self.view_is) (all_keep_pins g.B.Key.PartialEq.eq g.met.B.Key.Eq.laws (g.B.AsyncLruCacheBackend.steps c.self.inside.backend) c.args.store.now c.self.inside.entries.entries c.flush_all.result c.flush_all.new.store c.flush_all.new.entries.entries c.flush_all.ensures.flushed)
