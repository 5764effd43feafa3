-- L2 entries: the range of their fields, and the host clusters that they refer to.
use Rattle.std.specs.Prelude.{ℕ, ◌+◌, ◌-◌, ◌*◌, ◌/◌, ◌%◌, ◌^◌, ◌≡◌, ◌<◌, ◌≤◌, ⊤, Bool, true, false, ◌==◌, ◌&&◌, nat_le, nat_lt, Option, Some, None, if◌then◌else◌}
use Rattle.qcow2_metadata.specs.Bytes.{one_if}
use Rattle.qcow2_metadata.specs.declared.l2_mapping.L2Mapping.{L2Mapping}
use Rattle.qcow2_metadata.specs.declared.l2_mapping.L2Mapping.TheVariants.{Data, Zero, Compressed, Uncovered}

-- The greatest offset of a host cluster that an entry can hold.
abbrev pub greatest_offset : ℕ
greatest_offset = 0x00fffffffffffe00

-- An L1 or L2 entry can hold the offset of this cluster.
abbrev pub IsHostCluster : ℕ → ℕ → Type 0
IsHostCluster cluster_bits cluster = cluster * 2 ^ cluster_bits ≤ greatest_offset

abbrev pub KeptIsInReach : Option (ℕ × Bool) → Type 0
KeptIsInReach None = ⊤
KeptIsInReach (Some k) = k.0 ≤ greatest_offset

-- An entry can hold the fields of this mapping.
abbrev pub IsInReach : L2Mapping → Type 0
IsInReach (Data host copied) = host ≤ greatest_offset
IsInReach (Zero kept) = KeptIsInReach kept
IsInReach (Compressed place sectors) = (place < 2 ^ 61) × (0 < sectors) × (sectors ≤ 2 ^ 14)
IsInReach Uncovered = ⊤

-- The host offset of data, or the one that a zero entry keeps.
abbrev pub host_of : L2Mapping → Option ℕ
host_of (Data host copied) = Some host
host_of (Zero None) = None
host_of (Zero (Some k)) = Some k.0
host_of (Compressed place sectors) = None
host_of Uncovered = None

-- The mapping has a host offset that is marked copied.
abbrev pub is_marked : L2Mapping → Bool
is_marked (Data host copied) = copied
is_marked (Zero None) = false
is_marked (Zero (Some k)) = k.1
is_marked (Compressed place sectors) = false
is_marked Uncovered = false

abbrev pub KeptIsAlignedTo : ℕ → Option (ℕ × Bool) → Type 0
KeptIsAlignedTo cluster_bits None = ⊤
KeptIsAlignedTo cluster_bits (Some k) = k.0 % 2 ^ cluster_bits ≡ 0

-- The host offset of data, or the one that a zero entry keeps, is aligned.
abbrev pub HasAlignedHost : ℕ → L2Mapping → Type 0
HasAlignedHost cluster_bits (Data host copied) = host % 2 ^ cluster_bits ≡ 0
HasAlignedHost cluster_bits (Zero kept) = KeptIsAlignedTo cluster_bits kept
HasAlignedHost cluster_bits (Compressed place sectors) = ⊤
HasAlignedHost cluster_bits Uncovered = ⊤

-- The clusters from that of one byte to that of another: the first, and how many.
abbrev pub run_of_bytes : ℕ → ℕ → ℕ → Option (ℕ × ℕ)
run_of_bytes cluster_bits first last = Some (first / 2 ^ cluster_bits, last / 2 ^ cluster_bits - first / 2 ^ cluster_bits + 1)

abbrev pub kept_run : ℕ → Option (ℕ × Bool) → Option (ℕ × ℕ)
kept_run cluster_bits None = None
kept_run cluster_bits (Some k) = Some (k.0 / 2 ^ cluster_bits, 1)

-- The host clusters that a mapping refers to: the first, and how many. Compressed data refer to each cluster that their sectors touch.
abbrev pub named_run : ℕ → L2Mapping → Option (ℕ × ℕ)
named_run cluster_bits (Data host copied) = Some (host / 2 ^ cluster_bits, 1)
named_run cluster_bits (Zero kept) = kept_run cluster_bits kept
named_run cluster_bits (Compressed place sectors) = run_of_bytes cluster_bits place ((place / 512 + sectors) * 512 - 1)
named_run cluster_bits Uncovered = None

-- 1 if the cluster is in the run, otherwise 0.
abbrev pub run_has : Option (ℕ × ℕ) → ℕ → ℕ
run_has None cluster = 0
run_has (Some run) cluster = one_if (nat_le run.0 cluster && nat_lt cluster (run.0 + run.1))

abbrev pub is_same_run : Option (ℕ × ℕ) → Option (ℕ × ℕ) → Bool
is_same_run None None = true
is_same_run None (Some new) = false
is_same_run (Some old) None = false
is_same_run (Some old) (Some new) = old.0 == new.0 && old.1 == new.1

-- The host clusters that lose a reference when one mapping replaces another. None if both refer to the same clusters.
abbrev pub old_data_run : ℕ → L2Mapping → L2Mapping → Option (ℕ × ℕ)
old_data_run cluster_bits old new =
    if is_same_run (named_run cluster_bits old) (named_run cluster_bits new) then None else named_run cluster_bits old
