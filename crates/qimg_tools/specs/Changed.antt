-- The size of a disk after a change.
use Rattle.std.specs.Prelude.{ℕ, ◌+◌, ◌-◌, ◌^◌, nat_le, nat_lt, Option, Some, None, if◌then◌else◌}
use Rattle.qimg_tools.specs.declared.sizes.SizeChange.{SizeChange}
use Rattle.qimg_tools.specs.declared.sizes.SizeChange.TheVariants.{To, More, Fewer}

-- The new size, if it fits into 64 bits.
abbrev pub size_after : ℕ → SizeChange → Option ℕ
size_after old (To size) = Some size
size_after old (More bytes) = if nat_lt (old + bytes) (2 ^ 64) then Some (old + bytes) else None
size_after old (Fewer bytes) = if nat_le bytes old then Some (old - bytes) else None
