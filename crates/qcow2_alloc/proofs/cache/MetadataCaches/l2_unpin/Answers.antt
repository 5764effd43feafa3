use Rattle.qcow2_alloc.proofs.CachePins.{unpin_tables, unpin_sets}
use Rattle.qcow2_alloc.proofs.cache.MetadataCaches.l2_unpin.Goals as goal

pub returns-clause-tables : goal.returns-clause-tables
returns-clause-tables g c = unpin_tables c.args.self.now c.args.cluster c.unpin.new.self c.unpin.result c.unpin.ensures.value c.unpin.ensures.entries

pub returns-clause-unpinned : goal.returns-clause-unpinned
returns-clause-unpinned g c = unpin_sets c.args.self.now c.args.cluster c.unpin.new.self c.unpin.result c.unpin.ensures.value c.unpin.ensures.entries
