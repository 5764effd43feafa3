-- Places in a cluster.
use Rattle.std.proofs.Common.{arith, ◌≡◌, ◌+◌, ◌<◌, ◌≤◌, ℕ, true}
use Rattle.qcow2_disk.proofs.Common.{is_within}

pub within_is : (place size o : ℕ) → is_within place size o ≡ true → (place ≤ o) × (o < place + size)
within_is place size o is = grind arith
