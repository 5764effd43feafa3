-- What reads say of compressed ranges.
use Rattle.std.specs.Prelude.{ℕ, ◌≡◌, Bool, true, false, Result, Ok, Err}
use Rattle.qcow2_metadata.specs.Bytes.{Bytes}
use Rattle.qcow2_disk.specs.Found.{Kind, special, IsCompressedAt}
use Rattle.qcow2_alloc.specs.declared.error.ImageError.{ImageError}
use Rattle.qcow2_alloc.specs.declared.error.ImageError.TheVariants.{Compressed, NotCompressed}

-- The kind of compressed data.
abbrev pub is_special : Kind → Bool
is_special (special offset) = true
is_special kind = false

-- The read is refused as compressed only if the data are, and as not compressed only if they are not.
abbrev pub ReportsCompressed : Bytes → ℕ → ImageError → Type 0
ReportsCompressed known offset e = (e ≡ Compressed → IsCompressedAt known offset) × (e ≡ NotCompressed offset → ¬ IsCompressedAt known offset)

-- The offset is returned only if the data are not compressed.
abbrev pub ReportsWhether : {A : Type 0} → Bytes → ℕ → Result A ImageError → Type 0
ReportsWhether known offset (Ok at) = ¬ IsCompressedAt known offset
ReportsWhether known offset (Err e) = e ≡ Compressed → IsCompressedAt known offset
