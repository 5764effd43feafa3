-- The rest of the header's cluster stays the same from one contents to the next.
use Rattle.std.proofs.Common.{arith, refl}
use Rattle.qcow2_disk.proofs.Common.{Bytes, KeepsHeaderRest}

pub header_rest_same : (b : Bytes) → KeepsHeaderRest b b
header_rest_same b = record { version = refl; bytes = λ o _ _. refl; cluster_size = refl }

pub header_rest_then : (a b c : Bytes) → KeepsHeaderRest a b → KeepsHeaderRest b c → KeepsHeaderRest a c
header_rest_then a b c one two = grind arith

pub header_rest_back : (a b : Bytes) → KeepsHeaderRest a b → KeepsHeaderRest b a
header_rest_back a b one = grind arith
