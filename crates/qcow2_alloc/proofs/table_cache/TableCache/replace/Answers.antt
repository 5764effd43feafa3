use Rattle.qcow2_alloc.proofs.Common.{ap, ◌∙◌, placed}
use Rattle.qcow2_alloc.proofs.TableMarks.{kept_same, put_instead}
use Rattle.qcow2_alloc.proofs.table_cache.TableCache.replace.Goals as goal

pub returns-in_default-clause-kept : goal.returns-in_default-clause-kept
returns-in_default-clause-kept g c = rw (← c.self.view_is) (kept_same g.B.Key.PartialEq.eq c.args.key c.self.inside.cache c.len-count.ensures.distinct)

pub invariant_of-self-2 : goal.invariant_of-self-2
invariant_of-self-2 g c =
    let modified = g.B.Value.CachedValue.is_modified in
    let eq = g.B.Key.PartialEq.eq in
    let i = c.self.inside in
    let put = c.insert-put in
    let there = rw (← c.self.view_is) at c.requires.there in
    let marked = rw (← c.self.view_is) at c.requires.marked in
    let brought = c.in-Ok.ensures.ok ∙ ap (placed (eq c.args.key) c.args.key c.args.is_marked) c.self.invariant in
    put_instead modified eq c.args.key i.cache.entries (g.B.AsyncLruCacheBackend.steps i.cache.backend) c.args.store.now put.new.store put.new.self.entries c.args.is_marked put.new.value put.result c.bring.new.self c.settle.new.uses brought c.settle.ensures
    c.args.value.now there c.requires.given marked put.ensures.there
