-- Which bytes of a new cluster are copied from the old one.
use Rattle.std.specs.Prelude.{ℕ, ◌+◌, ◌-◌, ◌*◌, ◌/◌, ◌<◌, ◌≤◌, ◌==◌, nat_lt, min, Bool, true, false, Option, Some, None, if◌then◌else◌}
use Rattle.qcow2_image.specs.declared.copy_range.CopyRange.{CopyRange}

-- The part of a cluster that the caller promised to overwrite, if it did. The range begins at `start` in the cluster.
abbrev pub announced_range_of : ℕ → ℕ → ℕ → Bool → Option CopyRange
announced_range_of cs start length true = Some (record { start = start; end = start + min length (cs - start) })
announced_range_of cs start length false = None

-- The part of a cluster to copy: all of it, except a promised part at its start or at its end.
abbrev pub uncut_copy_range : ℕ → Option CopyRange → CopyRange
uncut_copy_range cs None = record { start = 0; end = cs }
uncut_copy_range cs (Some announced) =
    if announced.start == 0 then record { start = announced.end; end = cs }
    else if announced.end == cs then record { start = 0; end = announced.start }
    else record { start = 0; end = cs }

-- The part to copy, extended to multiples of the alignment within the cluster; or none.
abbrev pub copy_range_of : ℕ → ℕ → Option CopyRange → Option CopyRange
copy_range_of cs alignment announced =
    let r = uncut_copy_range cs announced in
    let step = min alignment cs in
    if nat_lt r.start r.end then Some (record { start = r.start / step * step; end = min ((r.end + step - 1) / step * step) cs }) else None

-- The byte of a cluster lies in the part.
abbrev pub HasByte : Option CopyRange → ℕ → Type 0
HasByte None i = ⊥
HasByte (Some r) i = (r.start ≤ i) × (i < r.end)
