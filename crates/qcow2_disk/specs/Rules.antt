-- Which whole clusters a call on a range touches, and which offset and length it returns.
use Rattle.std.specs.Prelude.{ℕ, ◌+◌, ◌-◌, ◌*◌, ◌/◌, ◌==◌, nat_lt, min, if◌then◌else◌}
use Rattle.qcow2_metadata.specs.Header.{rounded_up, rounded_down}

-- The whole clusters of a range, within the L2 table of its first whole cluster. A part of a cluster at the end of the disk counts as whole.
abbrev pub touched_from : ℕ → ℕ → ℕ
touched_from cs offset = rounded_up cs offset

abbrev pub touched_to : ℕ → ℕ → ℕ → ℕ → ℕ
touched_to cs size offset length =
    let end = offset + length in
    let table = cs / 8 * cs in
    min (if end == size then rounded_up cs end else rounded_down cs end) (rounded_down table (rounded_up cs offset) + table)

-- The offset and the length that a clearing call returns.
abbrev pub answered : ℕ → ℕ → ℕ → ℕ → ℕ × ℕ
answered cs size offset length =
    let from = touched_from cs offset in
    let to = touched_to cs size offset length in
    (from, (if nat_lt from to then min to (offset + length) - from else 0))
