use Rattle.qcow2_alloc.proofs.KeptMarks.{marks_of_caches}
use Rattle.qcow2_alloc.proofs.KeptTables.Held.{held_same, listed_same}
use Rattle.qcow2_alloc.proofs.allocation.Allocator.invalidate_rb_cache.Goals as goal

pub returns-clause-marks : goal.returns-clause-marks
returns-clause-marks g c = marks_of_caches c.invalidate_rb.ensures.step.marks c.invalidate_rb.ensures.step.order (held_same c.args.file.now.caches c.invalidate_rb.new.self c.invalidate_rb.ensures.tables)

pub returns-clause-tables : goal.returns-clause-tables
returns-clause-tables g c = listed_same c.args.file.now.caches c.invalidate_rb.new.self c.invalidate_rb.ensures.tables
