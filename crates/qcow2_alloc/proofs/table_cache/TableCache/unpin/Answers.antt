use Rattle.qcow2_alloc.proofs.Common.{sym, ◌∙◌}
use Rattle.qcow2_alloc.proofs.TableMarks.{marks_unpinned}
use Rattle.qcow2_alloc.proofs.table_cache.TableCache.unpin.Goals as goal

pub invariant_of-self : goal.invariant_of-self
invariant_of-self g c =
    rw c.unpin.ensures.entries (c.self.invariant ∙ sym (marks_unpinned g.B.Value.CachedValue.is_modified (g.B.Key.PartialEq.eq c.args.key) c.self.inside.cache.entries))
