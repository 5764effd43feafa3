use Rattle.qcow2_alloc.proofs.Common.{sym, ap, ◌∙◌, metadata_entry}
use Rattle.qcow2_alloc.proofs.FormerReftables.{run_of_table}
use Rattle.qcow2_alloc.proofs.allocation.Allocator.former_reftable.Goals as goal

pub returns-clause-of_table : goal.returns-clause-of_table
returns-clause-of_table c =
    run_of_table c.args.self.now.reftable c.in-Ok.former c.in-Some.cluster (sym c.get_cluster.ensures.value ∙ c.in-Some.is) c.get_cluster.ensures.is_table
    (c.in-Ok.ensures ∙ c.metadata-entry.ensures ∙ ap (metadata_entry c.in-Some.cluster) c.cluster_count.ensures)
