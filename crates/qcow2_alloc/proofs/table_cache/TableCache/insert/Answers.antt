use Rattle.qcow2_alloc.proofs.TableMarks.{missing_entry}
use Rattle.qcow2_alloc.proofs.table_cache.TableCache.insert.Goals as goal

pub returns-in_default-peek-clause-there : goal.returns-in_default-peek-clause-there
returns-in_default-peek-clause-there g c =
    rw (← c.self.view_is, missing_entry g.B.Value.CachedValue.is_modified (g.B.Key.PartialEq.eq c.args.key) c.self.inside.cache.entries c.in_default-peek.ensures) tt
