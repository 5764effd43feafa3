use Rattle.qcow2_alloc.proofs.CachePins.{pin_tables, pin_sets}
use Rattle.qcow2_alloc.proofs.cache.MetadataCaches.l2_pin.Goals as goal

pub returns-clause-tables : goal.returns-clause-tables
returns-clause-tables g c = pin_tables c.args.self.now c.args.cluster c.pin.new.self c.pin.result c.pin.ensures.value c.pin.ensures.entries

pub returns-clause-pinned : goal.returns-clause-pinned
returns-clause-pinned g c = pin_sets c.args.self.now c.args.cluster c.pin.new.self c.pin.result c.pin.ensures.value c.pin.ensures.entries
