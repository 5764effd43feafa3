-- When a range is refused as beyond the size.
use Rattle.std.proofs.Common.{◌≡◌, ◌+◌, ◌≤◌, ℕ, IsTrue, subst, arith}
use Rattle.qcow2_session.proofs.Common.{common_steps, ImageError, Qcow2, size_of, passes, IsRightlyBeyond}

-- a part passes the size only where the whole does
pub part_passes : (size offset n at m : ℕ) → offset ≤ at → at + m ≤ offset + n → IsTrue (passes size at m) → IsTrue (passes size offset n)
part_passes size offset n at m from upto is = grind (arith, common_steps)

-- a part of a range was refused
pub part_refused : {S F : Type 0} (old mid : Qcow2 S F) (offset n at m : ℕ) (e : ImageError) → size_of mid ≡ size_of old → offset ≤ at → at + m ≤ offset + n → IsRightlyBeyond mid at m e → IsRightlyBeyond old offset n e
part_refused old mid offset n at m e same from upto right is = part_passes (size_of old) offset n at m from upto (subst (λ size. IsTrue (passes size at m)) same (right is))
