-- The references to each cluster so far.
use Rattle.std.specs.Prelude.{ℕ, ◌+◌, ◌*◌, ◌^◌, ◌≡◌, ◌≤◌, ◌==◌, ◌&&◌, Bool, slice_index_or, unwrap_or, if◌then◌else◌}
use Rattle.std.specs.BTreeMap.{get}
use Rattle.std.specs.Ordering.{nat_cmp}
use Rattle.qcow2_metadata.specs.Bytes.{one_if}
use Rattle.qcow2_check.specs.declared.tally.Tally.{Tally}
use Rattle.qcow2_check.specs.declared.tally_map.SmallTally.{SmallTally}
use Rattle.qcow2_check.specs.declared.tally_map.TallyMap.{TallyMap}

abbrev pub no_tally : Tally
no_tally = record { named = 0; for_tables = 0; marked = 0; count = 0 }

abbrev pub blank : SmallTally
blank = record { named = 0; for_tables = 0; marked = 0 }

-- A small tally of a cluster without references means that there is none.
abbrev pub is_blank : SmallTally → Bool
is_blank s = s.named == 0

abbrev pub widened : SmallTally → Tally
widened s = record { named = s.named; for_tables = s.for_tables; marked = s.marked; count = 0 }

-- A small tally, or another one if there is none.
abbrev pub small_or : SmallTally → Tally → Tally
small_or s other = if is_blank s then other else widened s

abbrev pub large_in : TallyMap → ℕ → Tally
large_in m q = unwrap_or (get nat_cmp m.large q) no_tally

abbrev pub small_in : TallyMap → ℕ → SmallTally
small_in m q = slice_index_or m.small.items q blank

-- The tally of a cluster.
unfoldable pub tally_in : TallyMap → ℕ → Tally
tally_in m q = small_or (small_in m q) (large_in m q)

-- Each cluster has at most this many references.
abbrev pub IsSmall : TallyMap → ℕ → Type 0
IsSmall m total =
    (q : ℕ) → ((tally_in m q).named ≤ total) × (((tally_in m q).for_tables ≤ total) × ((tally_in m q).marked ≤ total))

-- No cluster past 64 bits has a reference or a refcount.
abbrev pub TalliesWithin64Bits : TallyMap → Type 0
TalliesWithin64Bits m = (q : ℕ) → 2 ^ 64 ≤ q → tally_in m q ≡ no_tally

-- Each cluster gets this many more references.
pub record TalliesGrow (old new : TallyMap) (named for_tables marked : ℕ → ℕ) : Type 0 where
  pub more_named : (q : ℕ) → (tally_in new q).named ≡ (tally_in old q).named + named q
  pub more_for_tables : (q : ℕ) → (tally_in new q).for_tables ≡ (tally_in old q).for_tables + for_tables q
  pub more_marked : (q : ℕ) → (tally_in new q).marked ≡ (tally_in old q).marked + marked q
  pub same_count : (q : ℕ) → (tally_in new q).count ≡ (tally_in old q).count

-- One cluster gets one more reference.
abbrev pub AddsToTally : TallyMap → TallyMap → ℕ → Bool → Bool → Type 0
AddsToTally old new cluster for_table marked =
    TalliesGrow old new (λ q. one_if (cluster == q)) (λ q. one_if (cluster == q && for_table)) (λ q. one_if (cluster == q && marked))

-- One cluster gets this many more references.
abbrev pub AddsTimes : TallyMap → TallyMap → ℕ → ℕ → Bool → Bool → Type 0
AddsTimes old new cluster times for_table marked =
    TalliesGrow old new (λ q. times * one_if (cluster == q)) (λ q. times * one_if (cluster == q && for_table)) (λ q. times * one_if (cluster == q && marked))

abbrev pub names_of : Tally → ℕ × (ℕ × ℕ)
names_of t = (t.named, (t.for_tables, t.marked))
