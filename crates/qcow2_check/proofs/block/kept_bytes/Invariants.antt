use Rattle.std.proofs.Common.{◌≡◌, ◌<◌, ℕ}
use Rattle.qcow2_check.proofs.Common.{byte_at}
use Rattle.qcow2_check.proofs.block.kept_bytes.Given as goal

abbrev pub invariant-loop-byte : goal.invariant-loop-byte
invariant-loop-byte l = (k : ℕ) → k < l.byte-index → byte_at l.bytes k ≡ 0
