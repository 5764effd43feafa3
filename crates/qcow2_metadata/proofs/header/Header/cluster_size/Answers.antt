use Rattle.qcow2_metadata.proofs.Common.{lit<, arith}
use Rattle.qcow2_metadata.proofs.Sizes.{shift_low, shift_high}
use Rattle.qcow2_metadata.proofs.header.Header.cluster_size.Goals as goal

pub returns-clause-low : goal.returns-clause-low
returns-clause-low c = shift_low 9 c.cluster_bits.result c.cluster_bits.ensures.low (omega arith)

pub returns-clause-high : goal.returns-clause-high
returns-clause-high c = shift_high c.cluster_bits.result 21 c.cluster_bits.ensures.high (lit< tt)
