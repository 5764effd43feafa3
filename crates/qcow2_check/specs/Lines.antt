-- The lines of a report, from the tallies of clusters.
use Rattle.std.specs.Prelude.{ℕ, zero, suc, Bool, ◌==◌, ◌&&◌, ◌||◌, not, nat_lt, List, [], ◌∷◌, ◌++◌, map, if◌then◌else◌, ◌%◌, ◌^◌}
use Rattle.std.specs.List.{filter, range_with_len}
use Rattle.qcow2_metadata.specs.declared.header.HeaderFields.{HeaderFields}
use Rattle.qcow2_metadata.specs.Header.{cluster_size}
use Rattle.qcow2_check.specs.declared.tally.Tally.{Tally}
use Rattle.qcow2_check.specs.Counted.{count_in, with_count}
use Rattle.qcow2_check.specs.declared.told.Choice.{Choice}
use Rattle.qcow2_check.specs.declared.told.Choice.TheVariants.{Breached, Named}
use Rattle.qcow2_check.specs.declared.report.Leak.{Leak}
use Rattle.qcow2_check.specs.declared.report.Kind.{Kind}
use Rattle.qcow2_check.specs.declared.report.Kind.TheVariants.{L1, Reftable, L2, Refblock, Data}
use Rattle.qcow2_check.specs.declared.report.Breach.{Breach}
use Rattle.qcow2_check.specs.declared.report.Breach.TheVariants.{Snapshots, External, Unaligned, Under, Shared, Copied}

-- The numbers below a limit that pass a test, in rising order.
unfoldable pub rising : ℕ → (ℕ → Bool) → List ℕ
rising zero p = []
rising (suc n) p = rising n p ++ (if p n then n ∷ [] else [])

-- A line for each cluster whose tally passes a test, in rising order.
abbrev pub lines : {L : Type 0} → ℕ → (Tally → Bool) → (ℕ → Tally → L) → (ℕ → Tally) → List L
lines limit test line tally = map (λ c. line c (tally c)) (rising limit (λ c. test (tally c)))

-- A line for each of the n clusters from `first` on whose tally passes a test.
abbrev pub lines_from : {L : Type 0} → (Tally → Bool) → (ℕ → Tally → L) → (ℕ → Tally) → ℕ → ℕ → List L
lines_from test line tally first n = map (λ c. line c (tally c)) (filter (λ c. test (tally c)) (range_with_len first n))

-- A line for each entry of a map whose tally passes a test.
abbrev pub lines_of : {L : Type 0} → (Tally → Bool) → (ℕ → Tally → L) → List (ℕ × Tally) → List L
lines_of test line [] = []
lines_of test line (e ∷ es) = if test e.1 then line e.0 e.1 ∷ lines_of test line es else lines_of test line es

-- A line for internal snapshots, and one for a data file.
abbrev pub snapshot_lines : HeaderFields → List Breach
snapshot_lines h = if h.snapshots == 0 then [] else Snapshots h.snapshots ∷ []

abbrev pub external_lines : HeaderFields → List Breach
external_lines h = if h.incompatible == 0 then [] else External ∷ []

abbrev pub header_lines : HeaderFields → List Breach
header_lines h = snapshot_lines h ++ external_lines h

-- A line for a table whose offset is not aligned.
abbrev pub table_offset_lines : HeaderFields → Kind → ℕ → List Breach
table_offset_lines h kind place = if place % cluster_size h == 0 then [] else Unaligned kind place ∷ []

abbrev pub is_named : Tally → Bool
is_named t = not (t.named == 0)

abbrev pub unaligned_line : Kind → ℕ → Tally → Breach
unaligned_line kind offset t = Unaligned kind offset

-- A line for each offset that is referred to.
abbrev pub offset_lines : Kind → (ℕ → Tally) → List Breach
offset_lines kind t = lines (2 ^ 64) is_named (unaligned_line kind) t

-- The lines for unaligned offsets of L2 tables, refblocks and data.
abbrev pub unaligned_lines : HeaderFields → (ℕ → Tally) → (ℕ → Tally) → (ℕ → Tally) → List Breach
unaligned_lines h l2_tables refblocks data' =
    table_offset_lines h L1 h.l1_offset ++ (table_offset_lines h Reftable h.reftable_offset
    ++ (offset_lines L2 l2_tables ++ (offset_lines Refblock refblocks ++ offset_lines Data data')))

abbrev pub is_under : Tally → Bool
is_under t = nat_lt t.count t.named

abbrev pub is_shared : Tally → Bool
is_shared t = not (t.for_tables == 0) && nat_lt 1 t.named

abbrev pub is_miscopied : Tally → Bool
is_miscopied t = not (t.marked == 0) && not (t.named == 1 && t.count == 1)

abbrev pub is_leaked : Tally → Bool
is_leaked t = nat_lt t.named t.count

-- A cluster with such a tally has a breach.
abbrev pub is_breached : Tally → Bool
is_breached t = is_under t || is_shared t || is_miscopied t

-- Whether a list contains such tallies.
abbrev pub takes : Choice → Tally → Bool
takes (Breached counts) t = is_breached t
takes Named t = is_named t

-- The tally of a cluster, as a list shows it.
abbrev pub shown : Choice → ℕ → Tally → Tally
shown (Breached counts) cluster t = with_count (count_in counts.now cluster) t
shown Named cluster t = t

-- The tallies of a map's entries, as a list shows them.
abbrev pub shown_entries : Choice → List (ℕ × Tally) → List (ℕ × Tally)
shown_entries choice es = map (λ e. (e.0, shown choice e.0 e.1)) es

-- A tally with its cluster.
abbrev pub numbered : ℕ → Tally → ℕ × Tally
numbered cluster t = (cluster, t)

-- The entries from a cluster number on that pass a test.
abbrev pub entries_past : ℕ → (Tally → Bool) → List (ℕ × Tally) → List (ℕ × Tally)
entries_past first test [] = []
entries_past first test (e ∷ es) = if nat_lt e.0 first then entries_past first test es else (if test e.1 then e ∷ entries_past first test es else entries_past first test es)

abbrev pub under_line : ℕ → Tally → Breach
under_line cluster t = Under cluster t.count t.named

abbrev pub shared_line : ℕ → Tally → Breach
shared_line cluster t = Shared cluster t.named

abbrev pub copied_line : ℕ → Tally → Breach
copied_line cluster t = Copied cluster t.count t.named

abbrev pub leak_of_cluster : ℕ → Tally → Leak
leak_of_cluster c t = record { cluster = c; count = t.count; named = t.named }
