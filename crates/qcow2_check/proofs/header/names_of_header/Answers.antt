use Rattle.qcow2_check.proofs.Common.{arith, one_shl}
use Rattle.qcow2_check.proofs.Totals.{cluster_of_place, header_names}
use Rattle.qcow2_check.proofs.header.names_of_header.Goals as goal

pub add_tables-requires-clause-end : goal.add_tables-requires-clause-end
add_tables-requires-clause-end c = cluster_of_place _ _ c.requires.low c.requires.bits (omega arith)

pub add_tables-requires-2-clause-end : goal.add_tables-requires-2-clause-end
add_tables-requires-2-clause-end c = cluster_of_place _ _ c.requires.low c.requires.bits (omega arith)

pub returns-clause-grows : goal.returns-clause-grows
returns-clause-grows c =
    header_names c.args.header.now _ (one_shl c.args.header.now.cluster_bits 64 (omega arith)) _ _ _ _
    c.in_ok-add.ensures.adds c.in_ok-add_tables.ensures.grows c.in_ok-add_tables-2.ensures.grows
