use Rattle.qcow2_metadata.proofs.Common.{Some, refl}
use Rattle.qcow2_metadata.proofs.NamedRuns.{named_by_value}
use Rattle.qcow2_metadata.proofs.l2_mapping.L2Mapping.host_clusters.Goals as goal

pub returns-in-Compressed-clause-named : goal.returns-in-Compressed-clause-named
returns-in-Compressed-clause-named c =
    let first = c.run_of_bytes.ensures.first in
    let count = c.run_of_bytes.ensures.count in
    named_by_value c.args.self (Some (c.run_of_bytes.result.0, c.run_of_bytes.result.1)) c.args.cluster_bits c.requires.reach
    (rw (c.in-Compressed.is, first, count, c.value-first.ensures) refl)
