use Rattle.qcow2_check.proofs.Common.{subst, IsInReach}
use Rattle.qcow2_check.proofs.Clusters.{few_of_bits}
use Rattle.qcow2_check.proofs.entries.names_of_compressed.Goals as goal

pub add_range-requires-clause-narrow : goal.add_range-requires-clause-narrow
add_range-requires-clause-narrow c =
    let near = subst IsInReach c.in-Compressed.is c.requires.near in
    few_of_bits c.value-first.result c.in-Compressed.sectors _ c.requires.low c.requires.bits near.2
