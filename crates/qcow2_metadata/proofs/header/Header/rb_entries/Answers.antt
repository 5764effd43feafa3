use Rattle.qcow2_metadata.proofs.Common.{lit<, arith}
use Rattle.qcow2_metadata.proofs.Sizes.{shift_low, shift_high}
use Rattle.qcow2_metadata.proofs.header.Header.rb_entries.Goals as goal

pub returns-clause-low : goal.returns-clause-low
returns-clause-low c = shift_low 6 c.rb_bits.result c.rb_bits.ensures.low (omega arith)

pub returns-clause-high : goal.returns-clause-high
returns-clause-high c = shift_high c.rb_bits.result 24 c.rb_bits.ensures.high (lit< tt)
