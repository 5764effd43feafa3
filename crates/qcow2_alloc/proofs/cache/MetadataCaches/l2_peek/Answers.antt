use Rattle.qcow2_alloc.proofs.Common.{option_copied}
use Rattle.qcow2_alloc.proofs.KeptTables.Mapping.{shown_if}
use Rattle.qcow2_alloc.proofs.cache.MetadataCaches.l2_peek.Goals as goal

pub returns-clause-shows : goal.returns-clause-shows
returns-clause-shows g c = shown_if c.args.self.now c.args.cluster (option_copied c.peek.result) c.peek.ensures.value
