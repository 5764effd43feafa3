-- The sums over the whole image.
use Rattle.std.proofs.Common.{◌≡◌, ◌+◌, ◌-◌, ◌*◌, ◌/◌, ◌%◌, ◌^◌, ◌<◌, ◌≤◌, ◌&&◌, ℕ, zero, suc, true, false, List, length, refl, arith, subst}
use Rattle.qcow2_check.proofs.Common.{nat_le, nat_lt, TallyMap, one_shl, div_below, le-div, pow_mono, Bytes, sum_below, one_if, HeaderFields, cluster_size, reftable_entries, count, l1_entry, reftable_entry, block_offset, host_offset, table_in, named, named_for_tables, named_by_header, named_by_reftable, named_by_l1_table, named_by_l2_table, named_by_l2_tables, Tally, Counts, TalliesGrow, AddsToTally, tally_in, no_tally, tally, mul-le-mul_left, entry_at, blocks_among, count_in, counted_in, named_below, tables_below, marked_below}
use Rattle.qcow2_check.proofs.Sums.{sum_below_more}

pub cluster_of_place : (place bits : ℕ) → 9 ≤ bits → bits ≤ 21 → place < 2 ^ 64 → place / (1 * 2 ^ bits % 2 ^ 64) < 2 ^ 62
cluster_of_place place bits low high fits =
    let is : 1 * 2 ^ bits % 2 ^ 64 ≡ 2 ^ bits = one_shl bits 64 (omega arith) in
    let large : 2 ^ 9 ≤ 2 ^ bits = pow_mono low in
    div_below place (1 * 2 ^ bits % 2 ^ 64) (2 ^ 62) (omega arith) (omega arith)

pub sum_below-add : (n : ℕ) (f g : ℕ → ℕ) → sum_below n (λ i. f i + g i) ≡ sum_below n f + sum_below n g
unfolding sum_below
sum_below-add zero f g = refl
sum_below-add (suc n) f g = let front = sum_below-add n f g in omega arith

pub blocks_more : (h : HeaderFields) (entries : List ℕ) (k place : ℕ) (old mid new : TallyMap) → place ≡ block_offset (entry_at entries k)
    → TalliesGrow old mid (blocks_among h entries k) (blocks_among h entries k) (λ _. 0)
    → TalliesGrow mid new (λ q. table_in h q place) (λ q. table_in h q place) (λ _. 0)
    → TalliesGrow old new (blocks_among h entries (k + 1)) (blocks_among h entries (k + 1)) (λ _. 0)
blocks_more h entries k place old mid new is so_far next = grind (arith, sum_below_more)

-- the run of clusters that n bytes from a place on need
abbrev pub run_in : ℕ → ℕ → ℕ → ℕ → ℕ
run_in place n size q = one_if (nat_le (place / size) q && nat_lt q (place / size + (n + size - 1) / size))

header_names_at : (h : HeaderFields) (old a m new : TallyMap) → AddsToTally old a 0 true false
    → TalliesGrow a m (run_in h.l1_offset (8 * h.l1_entries) (cluster_size h)) (run_in h.l1_offset (8 * h.l1_entries) (cluster_size h)) (λ _. 0)
    → TalliesGrow m new (run_in h.reftable_offset (h.reftable_clusters * cluster_size h) (cluster_size h)) (run_in h.reftable_offset (h.reftable_clusters * cluster_size h) (cluster_size h)) (λ _. 0)
    → TalliesGrow old new (named_by_header h) (named_by_header h) (λ _. 0)
unfolding named_by_header
header_names_at h old a m new one two three = grind arith

pub header_names : (h : HeaderFields) (size : ℕ) → size ≡ cluster_size h → (old a m new : TallyMap)
    → AddsToTally old a 0 true false
    → TalliesGrow a m (λ q. one_if (nat_le (h.l1_offset / size) q && nat_lt q (h.l1_offset / size + (8 * h.l1_entries + size - 1) / size)))
    (λ q. one_if (nat_le (h.l1_offset / size) q && nat_lt q (h.l1_offset / size + (8 * h.l1_entries + size - 1) / size))) (λ _. 0)
    → TalliesGrow m new (λ q. one_if (nat_le (h.reftable_offset / size) q && nat_lt q (h.reftable_offset / size + (h.reftable_clusters * size + size - 1) / size)))
    (λ q. one_if (nat_le (h.reftable_offset / size) q && nat_lt q (h.reftable_offset / size + (h.reftable_clusters * size + size - 1) / size))) (λ _. 0)
    → TalliesGrow old new (named_by_header h) (named_by_header h) (λ _. 0)
header_names h size is old a m new one two three =
    let P : ℕ → Type 0 = λ size. TalliesGrow a m (run_in h.l1_offset (8 * h.l1_entries) size) (run_in h.l1_offset (8 * h.l1_entries) size) (λ _. 0) in
    let Q : ℕ → Type 0 = λ size. TalliesGrow m new (run_in h.reftable_offset (h.reftable_clusters * size) size) (run_in h.reftable_offset (h.reftable_clusters * size) size) (λ _. 0) in
    header_names_at h old a m new one (subst P is two) (subst Q is three)

-- ---- the whole image

pub blocks_all : (h : HeaderFields) (b : Bytes) (entries : List ℕ) (q : ℕ) → length entries / 8 ≡ reftable_entries h
    → ((k : ℕ) → entry_at entries k ≡ reftable_entry h b k) → blocks_among h entries (length entries / 8) q ≡ named_by_reftable h b q
unfolding named_by_reftable
blocks_all h b entries q long are = grind arith

pub named_l1 : (h : HeaderFields) (b : Bytes) (q : ℕ) → named_below h b h.l1_entries q ≡ named_by_l1_table h b q + named_by_l2_tables h b q
unfolding named_by_l1_table named_by_l2_tables
named_l1 h b q = sum_below-add h.l1_entries (λ i. table_in h q (host_offset (l1_entry h b i))) (λ i. named_by_l2_table h b q (host_offset (l1_entry h b i)))

pub tables_l1 : (h : HeaderFields) (b : Bytes) (q : ℕ) → tables_below h b h.l1_entries q ≡ named_by_l1_table h b q
unfolding named_by_l1_table
tables_l1 h b q = refl

pub few_reftable_clusters : (h : HeaderFields) → 9 ≤ h.cluster_bits → reftable_entries h ≤ 2 ^ 20 → h.reftable_clusters ≤ 2 ^ 20
few_reftable_clusters h low few =
    let large : 2 ^ 9 ≤ cluster_size h = pow_mono low in
    let some : 1 ≤ cluster_size h / 8 = le-div 1 (cluster_size h) 8 (omega arith) (omega arith) in
    omega (arith, mul-le-mul_left h.reftable_clusters some)

make : ℕ × (ℕ × ℕ) → ℕ → Tally
make n k = record { named = n.0; for_tables = n.1.0; marked = n.1.1; count = k }

-- what the passes over an image leave
pub all_tallies : (h : HeaderFields) (b : Bytes) (l1 reftable : List ℕ) (m0 m1 m2 m3 : TallyMap) (c : Counts)
    → length l1 / 8 ≡ h.l1_entries → length reftable / 8 ≡ reftable_entries h
    → ((k : ℕ) → entry_at reftable k ≡ reftable_entry h b k)
    → ((q : ℕ) → tally_in m0 q ≡ no_tally)
    → ((q : ℕ) → count_in c q ≡ count h b q)
    → TalliesGrow m0 m1 (named_by_header h) (named_by_header h) (λ _. 0)
    → TalliesGrow m1 m2 (blocks_among h reftable (length reftable / 8)) (blocks_among h reftable (length reftable / 8)) (λ _. 0)
    → TalliesGrow m2 m3 (named_below h b (length l1 / 8)) (tables_below h b (length l1 / 8)) (marked_below h b (length l1 / 8))
    → counted_in m3 c ≡ tally h b
unfolding named named_for_tables
all_tallies h b l1 reftable m0 m1 m2 m3 c l1_long long are none counts head blocks l1s = grind (arith, blocks_all, named_l1, tables_l1)
