use Rattle.qcow2_alloc.proofs.Common.{sym, ◌∙◌}
use Rattle.qcow2_alloc.proofs.TableMarks.{marks_pinned}
use Rattle.qcow2_alloc.proofs.table_cache.TableCache.pin.Goals as goal

pub invariant_of-self : goal.invariant_of-self
invariant_of-self g c =
    rw c.pin.ensures.entries (c.self.invariant ∙ sym (marks_pinned g.B.Value.CachedValue.is_modified (g.B.Key.PartialEq.eq c.args.key) c.self.inside.cache.entries))
