use Rattle.qcow2_alloc.proofs.Common.{refl, ap, ◌∙◌, lookup, settled}
use Rattle.qcow2_alloc.proofs.FlushedMarks.{is_flushed_so}
use Rattle.qcow2_alloc.proofs.table_cache.TableCache.flush_one.Goals as goal

pub invariant_of-self : goal.invariant_of-self
invariant_of-self g c =
    let i = c.self.inside in
    let there = rw (← c.self.view_is) at c.requires.there in
    let so = is_flushed_so (g.B.AsyncLruCacheBackend.steps i.cache.backend) g.B.Key.PartialEq.eq g.B.Value.CachedValue.is_modified (λ s t k v w h. ((g.met.B.AsyncLruCacheBackend.lawful i.cache.backend).flush_cleans s t k v w h).0) c.args.key c.args.store.now c.flush_key-flushed.new.store i.cache c.flush_key-flushed.new.self c.flush_key-flushed.result
    (lookup (g.B.Key.PartialEq.eq c.args.key) i.cache.entries) refl there c.flush_key-flushed.ensures.others c.flush_key-flushed.ensures.there in
    c.settle.ensures ∙ ap (settled g.B.Key.PartialEq.eq g.B.Value.CachedValue.is_modified c.flush_key-flushed.new.self.entries c.args.key) c.self.invariant ∙ so.settled_so

pub returns-clause-flushed : goal.returns-clause-flushed
returns-clause-flushed g c =
    let i = c.self.inside in
    let there = rw (← c.self.view_is) at c.requires.there in
    let so = is_flushed_so (g.B.AsyncLruCacheBackend.steps i.cache.backend) g.B.Key.PartialEq.eq g.B.Value.CachedValue.is_modified (λ s t k v w h. ((g.met.B.AsyncLruCacheBackend.lawful i.cache.backend).flush_cleans s t k v w h).0) c.args.key c.args.store.now c.flush_key-flushed.new.store i.cache c.flush_key-flushed.new.self c.flush_key-flushed.result
    (lookup (g.B.Key.PartialEq.eq c.args.key) i.cache.entries) refl there c.flush_key-flushed.ensures.others c.flush_key-flushed.ensures.there in
    rw (← c.self.view_is, c.failure_of.ensures) so.flushed
