-- What the tests of a tally mean.
use Rattle.std.proofs.Common.{◌≡◌, ◌≢◌, ◌≤◌, ◌||◌, false, ap, arith}
use Rattle.qcow2_check.proofs.Common.{not, eq-eqb, le-ltb, Tally, is_named, is_under, is_shared, is_miscopied, is_leaked, is_breached, or_parts}

-- ---- named or not

pub zero_from_is_named : (t : Tally) → is_named t ≡ false → t.named ≡ 0
zero_from_is_named t fails = grind arith

pub is_named-zero : (t : Tally) → t.named ≡ 0 → is_named t ≡ false
is_named-zero t none = ap not (eq-eqb t.named 0 none)

-- ---- counted often enough

pub counted_from_is_under : (t : Tally) → is_under t ≡ false → t.named ≤ t.count
counted_from_is_under t fails = grind arith

pub is_under-counted : (t : Tally) → t.named ≤ t.count → is_under t ≡ false
is_under-counted t enough = le-ltb t.count t.named enough

-- ---- a table's cluster, named once

pub once_from_is_shared : (t : Tally) → is_shared t ≡ false → t.for_tables ≤ t.named → t.for_tables ≢ 0 → t.named ≡ 1
once_from_is_shared t fails few some = grind arith

pub is_shared-once : (t : Tally) → (t.for_tables ≢ 0 → t.named ≡ 1) → is_shared t ≡ false
is_shared-once t once = grind arith

-- ---- marked copied, and its own

pub own_from_is_miscopied : (t : Tally) → is_miscopied t ≡ false → t.marked ≢ 0 → (t.named ≡ 1) × (t.count ≡ 1)
own_from_is_miscopied t fails some = grind arith

pub is_miscopied-own : (t : Tally) → (t.marked ≢ 0 → (t.named ≡ 1) × (t.count ≡ 1)) → is_miscopied t ≡ false
is_miscopied-own t own = grind arith

-- ---- a tally without a breach

front_quiet : (t : Tally) → is_breached t ≡ false → (is_under t || is_shared t) ≡ false
front_quiet t quiet = (or_parts _ (is_miscopied t) quiet).0

pub breached_under : (t : Tally) → is_breached t ≡ false → is_under t ≡ false
breached_under t quiet = (or_parts _ (is_shared t) (front_quiet t quiet)).0

pub breached_shared : (t : Tally) → is_breached t ≡ false → is_shared t ≡ false
breached_shared t quiet = (or_parts (is_under t) _ (front_quiet t quiet)).1

pub breached_miscopied : (t : Tally) → is_breached t ≡ false → is_miscopied t ≡ false
breached_miscopied t quiet = (or_parts (is_under t || is_shared t) _ quiet).1

-- ---- leaked or not

pub is_leaked-uncounted : (t : Tally) → t.count ≡ 0 → is_leaked t ≡ false
is_leaked-uncounted t none = le-ltb t.named t.count (omega (arith, none))
