-- Steps over offsets.
use Rattle.std.proofs.Common.{◌≡◌, ◌≢◌, ◌+◌, ◌*◌, ◌/◌, ℕ, List, length, sym, ap, ◌∙◌, arith}
use Rattle.qcow2_check.proofs.Common.{cond-true, cond-false, eq-eqb, ne_eqb, TallyMap, Bytes, byte_at, sum_below, HeaderFields, cluster_size, entries_per_cluster, reftable_entries, l1_entry, l2_entry, reftable_entry, entry_cover, host_of, entry_at, HasBytesAt, entry_stands, TalliesGrow, tally_in, no_tally, off_cluster_if, tables_off, blocks_off, off_l2_tables, off_refblocks, data_off, data_off_at, times}
use Rattle.qcow2_check.proofs.Grow.{grows_none, grows_more, times_none, times_more}
use Rattle.qcow2_check.proofs.Sums.{sum_below_none, sum_below_more, sum_below-same}
use Rattle.qcow2_check.proofs.Shifts.{inside_table}

pub once : (n : ℕ) → 1 * n ≡ n
once n = omega arith

-- a sum of terms for each offset
pub terms_none : (f : ℕ → ℕ → ℕ) (m : TallyMap) → TalliesGrow m m (λ o. sum_below 0 (λ i. f o i)) (λ _. 0) (λ _. 0)
terms_none f m = grows_none m _ _ _ (λ o. sum_below_none _) (λ o. omega arith) (λ o. omega arith)

pub terms_more : (f : ℕ → ℕ → ℕ) (i : ℕ) (term : ℕ → ℕ) (old mid new : TallyMap) → ((o : ℕ) → term o ≡ f o i)
    → TalliesGrow old mid (λ o. sum_below i (λ i. f o i)) (λ _. 0) (λ _. 0) → TalliesGrow mid new term (λ _. 0) (λ _. 0)
    → TalliesGrow old new (λ o. sum_below (i + 1) (λ i. f o i)) (λ _. 0) (λ _. 0)
terms_more f i term old mid new is so_far next =
    grows_more old mid new _ _ _ _ _ _ _ _ _ so_far next
    (λ o. sum_below_more i (λ i. f o i) ∙ ap (λ v. sum_below i (λ i. f o i) + v) (sym (is o))) (λ o. omega arith) (λ o. omega arith)

pub times_terms_none : (times : ℕ) (f : ℕ → ℕ → ℕ) (m : TallyMap) → TalliesGrow m m (λ o. times * sum_below 0 (λ i. f o i)) (λ _. 0) (λ _. 0)
times_terms_none times f m = grows_none m _ _ _ (λ o. times_none times (λ i. f o i)) (λ o. omega arith) (λ o. omega arith)

pub times_terms_more : (times : ℕ) (f : ℕ → ℕ → ℕ) (i : ℕ) (term : ℕ → ℕ) (old mid new : TallyMap) → ((o : ℕ) → term o ≡ f o i)
    → TalliesGrow old mid (λ o. times * sum_below i (λ i. f o i)) (λ _. 0) (λ _. 0) → TalliesGrow mid new (λ o. times * term o) (λ _. 0) (λ _. 0)
    → TalliesGrow old new (λ o. times * sum_below (i + 1) (λ i. f o i)) (λ _. 0) (λ _. 0)
times_terms_more times f i term old mid new is so_far next =
    grows_more old mid new _ _ _ _ _ _ _ _ _ so_far next (λ o. times_more times i (λ i. f o i) (term o) (is o)) (λ o. omega arith) (λ o. omega arith)

pub no_data : (h : HeaderFields) (b : Bytes) (place times : ℕ) (m : TallyMap) → place ≡ 0 → TalliesGrow m m (λ o. times * data_off_at h b o place) (λ _. 0) (λ _. 0)
no_data h b place times m none =
    grows_none m _ _ _ (λ o. ap (λ n. times * n) (cond-true _ _ _ (eq-eqb place 0 none)) ∙ omega arith) (λ o. omega arith) (λ o. omega arith)

pub grows_as : (old new : TallyMap) (f g : ℕ → ℕ) → ((q : ℕ) → f q ≡ g q) → TalliesGrow old new f (λ _. 0) (λ _. 0) → TalliesGrow old new g (λ _. 0) (λ _. 0)
grows_as old new f g same grows = grind arith

pub data_part : (h : HeaderFields) (b : Bytes) (bytes : List ℕ) (place times : ℕ) (old new : TallyMap) → place ≢ 0
    → HasBytesAt b place bytes → length bytes ≡ cluster_size h
    → TalliesGrow old new (λ o. times * data_off h (byte_at bytes) 0 (entries_per_cluster h) o) (λ _. 0) (λ _. 0)
    → TalliesGrow old new (λ o. times * data_off_at h b o place) (λ _. 0) (λ _. 0)
data_part h b bytes place times old new some stands whole grows =
    grows_as old new _ _ (λ o. ap (λ n. times * n) (
    sum_below-same (entries_per_cluster h) (λ j. off_cluster_if h o (host_of (entry_cover h (l2_entry (byte_at bytes) 0 j))))
    (λ j. off_cluster_if h o (host_of (entry_cover h (l2_entry b place j))))
    (λ j lt. ap (λ e. off_cluster_if h o (host_of (entry_cover h e)))
    (let within = inside_table (cluster_size h) j lt in entry_stands b place bytes j stands (omega (arith, within, whole))))
    ∙ sym (cond-false _ _ _ (ne_eqb place 0 some)))) grows

-- the tallies of offsets that were counted from none
pub counted_off : (f g : ℕ → ℕ) (m0 m1 : TallyMap) → ((q : ℕ) → tally_in m0 q ≡ no_tally) → ((q : ℕ) → f q ≡ g q) → TalliesGrow m0 m1 f (λ _. 0) (λ _. 0) → tally_in m1 ≡ times g
counted_off f g m0 m1 none same grows = grind arith

pub all_tables_off : (h : HeaderFields) (b : Bytes) (entries : List ℕ) → length entries / 8 ≡ h.l1_entries → ((i : ℕ) → entry_at entries i ≡ l1_entry h b i)
    → (o : ℕ) → tables_off h entries (length entries / 8) o ≡ off_l2_tables h b o
all_tables_off h b entries long are o = grind arith

pub all_blocks_off : (h : HeaderFields) (b : Bytes) (entries : List ℕ) → length entries / 8 ≡ reftable_entries h → ((k : ℕ) → entry_at entries k ≡ reftable_entry h b k)
    → (o : ℕ) → blocks_off h entries (length entries / 8) o ≡ off_refblocks h b o
all_blocks_off h b entries long are o = grind arith
