use Rattle.std.proofs.Common.{◌%◌, ◌/◌, ◌+◌, ◌∙◌, min, ap, arith}
use Rattle.qcow2_metadata.proofs.Common.{one_shl}
use Rattle.qcow2_metadata.proofs.Quotients.{div_ceil_is}
use Rattle.qcow2_metadata.proofs.numbers.ClusterCount.from_byte_size.Goals as goal

pub returns : goal.returns
returns c =
    c.new.ensures ∙ c.div_ceil.ensures
    ∙ ap (λ size. c.args.bytes / size + min 1 (c.args.bytes % size)) (one_shl c.args.cluster_bits 64 (omega arith))
    ∙ div_ceil_is c.args.bytes c.args.cluster_bits
