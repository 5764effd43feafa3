use Rattle.qcow2_alloc.proofs.TableMarks.{changed_marks}
use Rattle.qcow2_alloc.proofs.table_cache.TableCache.change.Goals as goal

pub invariant_of-self-2 : goal.invariant_of-self-2
invariant_of-self-2 g c =
    let modified = g.B.Value.CachedValue.is_modified in
    let test = g.B.Key.PartialEq.eq c.args.key in
    let i = c.self.inside in
    changed_marks modified test i.cache.entries c.in-Some.value.now c.apply-answer.new.value c.is_modified-is_modified.result c.in-Some.ensures.value c.is_modified-is_modified.ensures i.uses c.set_mark.new.uses c.self.invariant c.set_mark.ensures
