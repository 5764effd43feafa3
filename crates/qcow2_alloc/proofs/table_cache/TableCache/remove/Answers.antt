use Rattle.qcow2_alloc.proofs.Common.{sym, ap, ◌∙◌, remove_entry}
use Rattle.qcow2_alloc.proofs.TableMarks.{marks_removed}
use Rattle.qcow2_alloc.proofs.table_cache.TableCache.remove.Goals as goal

pub invariant_of-self-2 : goal.invariant_of-self-2
invariant_of-self-2 g c =
    let test = g.B.Key.PartialEq.eq c.args.key in
    c.remove-2.ensures ∙ ap (remove_entry test) c.self.invariant ∙ sym (rw c.remove.ensures.entries (rw c.if-not-remove.false (marks_removed g.B.Value.CachedValue.is_modified test c.self.inside.cache.entries)))
