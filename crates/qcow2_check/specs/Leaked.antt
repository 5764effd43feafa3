-- The leaked clusters, from the references and the refcounts of all clusters.
use Rattle.std.specs.Prelude.{ℕ, ◌+◌, ◌-◌, ◌^◌, ◌≡◌, ◌<◌, List, [], ◌∷◌, Option, Some, None, nat_lt, if◌then◌else◌}
use Rattle.qcow2_check.specs.declared.kept.Counts.{Counts}
use Rattle.qcow2_check.specs.declared.report.Leak.{Leak}
use Rattle.qcow2_check.specs.declared.tally_map.TallyMap.{TallyMap}
use Rattle.qcow2_check.specs.Counted.{count_in, counted_in}
use Rattle.qcow2_check.specs.Tallies.{tally_in}
use Rattle.qcow2_check.specs.Lines.{lines_from, is_leaked, leak_of_cluster}

-- The leaks from a cluster number on.
unfoldable pub leaks_from : TallyMap → Counts → ℕ → List Leak
leaks_from m c first = lines_from is_leaked leak_of_cluster (counted_in m c) first (2 ^ 64 - first)

-- The first leak from a cluster number on, if there is one.
abbrev pub IsNextLeak : TallyMap → Counts → ℕ → Option Leak → Type 0
IsNextLeak m c first None = leaks_from m c first ≡ []
IsNextLeak m c first (Some leak) = (leak.cluster < 2 ^ 46) × (leaks_from m c first ≡ leak ∷ leaks_from m c (leak.cluster + 1))

-- The leak of a cluster with this refcount, if it is leaked.
abbrev pub leak_of_count : TallyMap → ℕ → ℕ → Option Leak
leak_of_count m cluster count =
    if nat_lt (tally_in m cluster).named count then Some (record { cluster = cluster; count = count; named = (tally_in m cluster).named }) else None

-- The leak of a cluster, if it is leaked.
abbrev pub leak_at : TallyMap → Counts → ℕ → Option Leak
leak_at m c cluster = leak_of_count m cluster (count_in c cluster)
