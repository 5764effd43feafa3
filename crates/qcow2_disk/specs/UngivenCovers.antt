-- The mappings of guest clusters that a call gives no byte of.
use Rattle.std.specs.Prelude.{ℕ, ◌+◌, ◌*◌, ◌≡◌, ◌<◌, List, [], ◌∷◌}
use Rattle.qcow2_metadata.specs.Bytes.{Bytes}
use Rattle.qcow2_metadata.specs.Cover.{cover}
use Rattle.qcow2_metadata.specs.Header.{header}
use Rattle.qcow2_disk.specs.Stops.{GivenBytes}

-- The guest cluster has a byte between two offsets.
abbrev pub Touches : (size_of_cluster from to g : ℕ) → Type 0
Touches size_of_cluster from to g = (from < to) × (from < g * size_of_cluster + size_of_cluster) × (g * size_of_cluster < to)

-- No given byte lies in the guest cluster.
abbrev pub IsUngiven : (size_of_cluster : ℕ) → List GivenBytes → (g : ℕ) → Type 0
IsUngiven size_of_cluster [] g = Unit {0}
IsUngiven size_of_cluster (given ∷ others) g = (Touches size_of_cluster given.from (given.from + given.count) g → ⊥) × IsUngiven size_of_cluster others g

-- The mapping of each guest cluster that is given no byte stays the same.
abbrev pub UngivenStay : (size_of_cluster : ℕ) → List GivenBytes → (before after : Bytes) → Type 0
UngivenStay size_of_cluster given before after = (g : ℕ) → IsUngiven size_of_cluster given g → cover (header before) before g ≡ cover (header after) after g
