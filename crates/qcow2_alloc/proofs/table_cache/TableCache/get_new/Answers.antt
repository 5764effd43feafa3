use Rattle.std.proofs.Common.{◌≡◌, false, None, refl, ap, ◌∙◌}
use Rattle.qcow2_alloc.proofs.Common.{lookup, Cache, placed}
use Rattle.qcow2_alloc.proofs.TableMarks.{kept_same, new_settled, got_new}
use Rattle.qcow2_alloc.proofs.table_cache.TableCache.get_new.Goals as goal

pub returns-in_default-clause-kept : goal.returns-in_default-clause-kept
returns-in_default-clause-kept g c = rw (← c.self.view_is) (kept_same g.B.Key.PartialEq.eq c.args.key c.self.inside.cache c.len-count.ensures.distinct)

pub invariant_of-self-2 : goal.invariant_of-self-2
invariant_of-self-2 g c =
    let modified = g.B.Value.CachedValue.is_modified in
    let eq = g.B.Key.PartialEq.eq in
    let i = c.self.inside in
    let es = i.cache.entries in
    let none : lookup (eq c.args.key) es ≡ None = ap (λ (x : Cache g.row.B.Denot g.row.B-Key.Denot g.row.B-Value.Denot). lookup (eq c.args.key) x.entries) c.self.view_is ∙ c.requires.missing in
    let steps = g.B.AsyncLruCacheBackend.steps i.cache.backend in
    let new = got_new modified eq c.args.key false es steps i.cache.size c.args.may_flush c.args.store.now c.get_or_insert-got.new.store c.get_or_insert-got.new.self.entries refl (g.met.B.AsyncLruCacheBackend.lawful i.cache.backend).load_gives c.get_or_insert-got.result (c.get_or_insert-got.ensures.miss (rw none refl)) in
    let brought = c.in-Ok.ensures.ok ∙ ap (placed (eq c.args.key) c.args.key false) c.self.invariant in
    new_settled modified eq c.args.key false es g.met.B.Key.Eq.laws c.len-count.ensures.distinct none c.get_or_insert-got.new.self.entries new c.next_out-out.result c.next_out-out.ensures c.bring.new.self c.settle.new.uses c.settle-2.new.uses brought c.settle.ensures c.settle-2.ensures
