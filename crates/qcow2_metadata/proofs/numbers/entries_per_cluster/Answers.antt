use Rattle.std.proofs.Common.{◌/◌, ap, arith}
use Rattle.qcow2_metadata.proofs.Common.{one_shl}
use Rattle.qcow2_metadata.proofs.Quotients.{eighth_pos}
use Rattle.qcow2_metadata.proofs.numbers.entries_per_cluster.Goals as goal

pub returns-clause-some : goal.returns-clause-some
returns-clause-some c =
    omega (arith, eighth_pos c.args.cluster_bits (omega arith), ap (λ n. n / 8) (one_shl c.args.cluster_bits 64 (omega arith)))
