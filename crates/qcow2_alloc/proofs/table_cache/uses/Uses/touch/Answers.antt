use Rattle.qcow2_alloc.proofs.Common.{◌∙◌}
use Rattle.qcow2_alloc.proofs.Uses.{none_promoted, placed_promoted}
use Rattle.qcow2_alloc.proofs.table_cache.uses.Uses.touch.Goals as goal

pub returns-in_default-clause-ok : goal.returns-in_default-clause-ok
returns-in_default-clause-ok g c = none_promoted (g.K.PartialEq.eq c.args.key) c.args.self.now c.in_default.ensures

pub returns-clause-ok : goal.returns-clause-ok
returns-clause-ok g c = c.in_ok-bring.ensures.ok ∙ placed_promoted (g.K.PartialEq.eq c.args.key) c.args.key c.in-Some.is_marked c.args.self.now c.in-Some.ensures
