use Rattle.std.proofs.Common.{◌+◌, ◌-◌, arith, ap}
use Rattle.qcow2_metadata.proofs.Masks.{low_mask, middle_bits, low_mask_below, middle_bits_below}
use Rattle.qcow2_metadata.proofs.l2_mapping.compressed_range.Goals as goal

pub returns-clause-place : goal.returns-clause-place
returns-clause-place c = low_mask c.args.entry (62 - (c.args.cluster_bits - 8)) (omega arith) (omega arith)

pub returns-clause-sectors : goal.returns-clause-sectors
returns-clause-sectors c = ap (λ n. n + 1) (middle_bits c.args.entry (62 - (c.args.cluster_bits - 8)) 62 (omega arith))

pub returns-clause-near : goal.returns-clause-near
returns-clause-near c =
    let few = middle_bits_below c.args.entry (62 - (c.args.cluster_bits - 8)) 62 13 (omega arith) (omega arith) in
    (low_mask_below c.args.entry (62 - (c.args.cluster_bits - 8)) (omega arith), (omega arith), (omega arith))
