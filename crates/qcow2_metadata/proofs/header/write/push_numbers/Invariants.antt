use Rattle.std.proofs.Common.{◌≡◌, ◌++◌, take}
use Rattle.qcow2_metadata.proofs.Common.{bytes_of_numbers}
use Rattle.qcow2_metadata.proofs.header.write.push_numbers.Given as goal

abbrev pub invariant-loop-number : goal.invariant-loop-number
invariant-loop-number l = l.bytes.items ≡ l.initial.bytes.items ++ bytes_of_numbers (take l.number-index l.numbers)
