-- The mappings of guest clusters after the whole clusters of a range are cleared.
use Rattle.std.specs.Prelude.{ℕ, ◌+◌, ◌*◌, ◌^◌, ◌≡◌, ◌≤◌, ◌==◌, ◌&&◌, ◌||◌, Bool, true, false, nat_le, nat_lt, None, IsTrue, if◌then◌else◌}
use Rattle.qcow2_metadata.specs.Bytes.{Bytes}
use Rattle.qcow2_metadata.specs.Cover.{cover}
use Rattle.qcow2_metadata.specs.declared.header.HeaderFields.{HeaderFields}
use Rattle.qcow2_metadata.specs.declared.l2_mapping.L2Mapping.{L2Mapping}
use Rattle.qcow2_metadata.specs.declared.l2_mapping.L2Mapping.TheVariants.{Uncovered}
use Rattle.qcow2_metadata.specs.Header.{header, cluster_size, rounded_up}
use Rattle.qcow2_metadata.specs.L2Table.{copied_host, zero_cover}
use Rattle.qcow2_disk.specs.Calls.{Clearing, to_zero, to_kept_zero, to_backing}
use Rattle.qcow2_disk.specs.Rules.{touched_from, touched_to}

-- The new mapping of a cleared guest cluster, by its old one: unmapped; zeros without a host cluster; or zeros that keep the host cluster, if it was marked copied.
abbrev pub cleared_cover : Clearing → L2Mapping → L2Mapping
cleared_cover to_backing old = Uncovered
cleared_cover to_zero old = zero_cover None
cleared_cover to_kept_zero old = zero_cover (copied_host old)

-- Only L2 entries of version 3 and later can mark clusters as zeros.
abbrev pub needs_zeros : Clearing → Bool
needs_zeros to_backing = false
needs_zeros to_zero = true
needs_zeros to_kept_zero = true

-- Rounded up to a cluster, the start of the range, or its end if that is the disk's end, passes 64 bits.
abbrev pub rounds_past : ℕ → ℕ → ℕ → ℕ → Bool
rounds_past cs size offset n = nat_le (2 ^ 64) (rounded_up cs offset) || offset + n == size && nat_le (2 ^ 64) (rounded_up cs (offset + n))

-- Guest cluster g begins between two offsets.
abbrev pub is_between : HeaderFields → (from to g : ℕ) → Bool
is_between h from to g = nat_le from (g * cluster_size h) && nat_lt (g * cluster_size h) to

-- Each guest cluster between two offsets is cleared, and the mappings of all others are the same.
abbrev pub ClearsCovers : Clearing → (from to : ℕ) → HeaderFields → Bytes → HeaderFields → Bytes → Type 0
ClearsCovers how from to h known h' known' = (g : ℕ) → cover h' known' g ≡ (if is_between h from to g then cleared_cover how (cover h known g) else cover h known g)

-- A range was cleared: the image's version has zero clusters if they are needed, the whole clusters of the range lie within 64 bits and are cleared in the known contents, and all other mappings are the same.
pub record IsRightlyCleared (how : Clearing) (before after : Bytes) (offset n : ℕ) : Type 0 where
  pub version : IsTrue (needs_zeros how) → 3 ≤ (header before).version
  pub near : rounds_past (cluster_size (header before)) (header before).size offset n ≡ false
  pub covers : ClearsCovers how (touched_from (cluster_size (header before)) offset) (touched_to (cluster_size (header before)) (header before).size offset n) (header before) before (header after) after
