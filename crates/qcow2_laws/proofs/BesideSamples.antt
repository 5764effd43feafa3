-- The definitions tried on a small image with an external data file: the invariant holds of it, and an entry may change.
use Rattle.std.proofs.Common.{◌≡◌, ◌/◌, ◌%◌, ◌<◌, ◌≤◌, ◌≢◌, ◌⊎◌, ◌==◌, ◌||◌, ℕ, Bool, true, false, zero, suc, refl, sym, ap, ◌∙◌, arith, inl, inr, subst, lit≤, eqb, cond, [], Some}
use Rattle.qcow2_laws.proofs.Common.{agree_below_at, or_cases, eqb-true, cases_lt, cond-false, ne_eqb, nat_tests, Bytes, number_at, sum_below, HeaderFields, header, HeaderReads, l1_entry, l2_entry, reftable_entry, block_count, count_under, count, host_offset, block_offset, L1EntryReads, ReftableEntryReads, table_in, named_for_tables, named_by_header, named_by_reftable, named_by_l1_table, cover, cover_under, cover_of, known_byte, disk_with, L2Mapping, Data, Zero, Compressed, Uncovered, Neither, nothing_pending, table_at, with_cluster, DriverState, StateInvariant, EntryChanges, CoverIsAligned}
use Rattle.qcow2_laws.specs.Beside.{StandsAtGuest, IsOwnTable, ConsistentBeside, table_surplus_of}
use Rattle.qcow2_laws.proofs.Lemmas.{sum_below-zero, Sizes-from, past_guests}
use Rattle.qcow2_laws.proofs.Consistency.{each_entry}
use Rattle.qcow2_laws.proofs.OpenedBeside.{opened_beside}
use Rattle.qcow2_laws.proofs.BesideSteps.{beside_value, beside_changed}

-- five clusters of 512 bytes: the header, the reftable, a refblock, the L1 table and an L2 table
abbrev tables : Bytes
tables o =
    cond (eqb o 518) 4
    (cond (eqb o 1025) 1 (cond (eqb o 1027) 1 (cond (eqb o 1029) 1 (cond (eqb o 1031) 1 (cond (eqb o 1033) 1
    (cond (eqb o 1536) 0x80 (cond (eqb o 1542) 8
    (cond (eqb o 2048) 0x80
    (cond (eqb o 2056) 0x80 (cond (eqb o 2062) 2
    (cond (eqb o 2064) 0x80 (cond (eqb o 2070) 4 (cond (eqb o 2071) 1 0)))))))))))))

abbrev b : Bytes
b o =
    cond (eqb o 0) 0x51 (cond (eqb o 1) 0x46 (cond (eqb o 2) 0x49 (cond (eqb o 3) 0xfb (cond (eqb o 7) 3 (cond (eqb o 23) 9 (cond (eqb o 29) 1 (cond (eqb o 39) 2
    (cond (eqb o 46) 6 (cond (eqb o 54) 2 (cond (eqb o 59) 1 (cond (eqb o 79) 4 (cond (eqb o 99) 4 (cond (eqb o 103) 104 (tables o))))))))))))))

-- the header in numbers
abbrev h : HeaderFields
h = record {
  magic = 0x514649fb;
  version = 3;
  backing_offset = 0;
  backing_length = 0;
  cluster_bits = 9;
  size = 65536;
  crypt_method = 0;
  l1_entries = 2;
  l1_offset = 1536;
  reftable_offset = 512;
  reftable_clusters = 1;
  snapshots = 0;
  snapshots_offset = 0;
  incompatible = 4;
  compatible = 0;
  autoclear = 0;
  refcount_order = 4;
  header_length = 104;
}

header-is : header b ≡ h
unfolding header number_at
header-is = refl

reads : HeaderReads h b
unfolding number_at
reads = record {
  well_formed = record {
    in_range = record {
      magic = refl;
      version = inr refl;
      cluster_bits = (lit≤ tt, lit≤ tt);
      refcount_order = lit≤ tt;
      not_encrypted = refl;
      incompatible = inr refl;
      header_length = ((λ _. lit≤ tt), lit≤ tt);
    };
    extensions = record { list = []; stand = (lit≤ tt, refl) };
    backing_name = record { inside = λ some. absurd (some refl); behind_header = λ some. absurd (some refl); text = λ some. absurd (some refl) };
  };
  within_limits = record { few_l1_entries = lit≤ tt; few_reftable_entries = lit≤ tt };
}

-- ---- each entry of the reftable is none or that of the refblock
block-cases : (k : ℕ) → k < 64 → (reftable_entry h b k ≡ 0) ⊎ (reftable_entry h b k ≡ 1024)
unfolding reftable_entry number_at
block-cases k lt =
    elim (or_cases _ _ (agree_below_at (λ k. (reftable_entry h b k == 0) || (reftable_entry h b k == 1024)) (λ _. true) 64 k refl lt)) [
      | inl none ↦ inl (eqb-true _ 0 none)
      | inr some ↦ inr (eqb-true _ 1024 some)
    ]

block_reads : (entry : ℕ) → (entry ≡ 0) ⊎ (entry ≡ 1024) → ReftableEntryReads entry × (block_offset entry % 512 ≡ 0)
block_reads entry (inl none) = rw none (refl, refl)
block_reads entry (inr some) = rw some (refl, refl)

-- ---- the L1 table names one L2 table
l1-0 : l1_entry h b 0 ≡ 0x8000000000000800
unfolding l1_entry number_at
l1-0 = refl

l1-1 : l1_entry h b 1 ≡ 0
unfolding l1_entry number_at
l1-1 = refl

each_l1 : (P : ℕ → Type 0) → P 0x8000000000000800 → P 0 → (i : ℕ) → i < 2 → P (l1_entry h b i)
each_l1 P first second zero lt = subst P (sym l1-0) first
each_l1 P first second (suc zero) lt = subst P (sym l1-1) second
each_l1 P first second (suc (suc i)) lt = absurd (omega arith)

-- ---- references and counts
block_past : (entry c : ℕ) → 5 ≤ c → (entry ≡ 0) ⊎ (entry ≡ 1024) → table_in h c (block_offset entry) ≡ 0
block_past entry c past (inl none) = rw none refl
block_past entry c past (inr some) = rw some (cond-false (eqb 2 c) 1 0 (ne_eqb 2 c (λ e. omega arith)))

blocks_past : (c : ℕ) → 5 ≤ c → named_by_reftable h b c ≡ 0
unfolding named_by_reftable
blocks_past c past = sum_below-zero 64 _ (λ k lt. block_past (reftable_entry h b k) c past (block-cases k lt))

tables_past : (c : ℕ) → 5 ≤ c → named_by_l1_table h b c ≡ 0
unfolding named_by_l1_table
tables_past c past = sum_below-zero 2 _ (λ i lt. each_l1 (λ e. table_in h c (host_offset e) ≡ 0) (cond-false (eqb 4 c) 1 0 (ne_eqb 4 c (λ e. omega arith))) refl i lt)

header_past : (c : ℕ) → 5 ≤ c → named_by_header h c ≡ 0
unfolding named_by_header
header_past c past = grind (arith, nat_tests)

past_tables : (c : ℕ) → 5 ≤ c → named_for_tables h b c ≡ 0
unfolding named_for_tables
past_tables c past = omega (arith, header_past c past, blocks_past c past, tables_past c past)

one_each : (named_for_tables h b 0 ≡ 1) × (named_for_tables h b 1 ≡ 1) × (named_for_tables h b 2 ≡ 1) × (named_for_tables h b 3 ≡ 1) × (named_for_tables h b 4 ≡ 1)
unfolding number_at reftable_entry l1_entry sum_below named_for_tables named_by_header named_by_reftable named_by_l1_table
one_each = (refl, refl, refl, refl, refl)

counts : (count h b 0 ≡ 1) × (count h b 1 ≡ 1) × (count h b 2 ≡ 1) × (count h b 3 ≡ 1) × (count h b 4 ≡ 1)
unfolding number_at reftable_entry block_count count_under count
counts = (refl, refl, refl, refl, refl)

counted : (c : ℕ) → ((named_for_tables h b c ≡ 1) × (count h b c ≡ 1)) ⊎ (named_for_tables h b c ≡ 0)
counted zero = inl (one_each.0, counts.0)
counted (suc zero) = inl (one_each.1, counts.1)
counted (suc (suc zero)) = inl (one_each.2, counts.2)
counted (suc (suc (suc zero))) = inl (one_each.3, counts.3)
counted (suc (suc (suc (suc zero)))) = inl (one_each.4, counts.4)
counted (suc (suc (suc (suc (suc c))))) = inr (past_tables (suc (suc (suc (suc (suc c))))) (omega arith))

-- ---- the mappings of the first guest clusters: two of data, and one of zeros that keeps its cluster
covers : (cover h b 0 ≡ Data 0 true) × (cover h b 1 ≡ Data 512 true) × (cover h b 2 ≡ Zero (Some (1024, true))) × (cover h b 3 ≡ Uncovered)
unfolding number_at l1_entry l2_entry cover cover_under cover_of
covers = (refl, refl, refl, refl)

abbrev is_uncovered : L2Mapping → Bool
is_uncovered (Data host copied) = false
is_uncovered (Zero kept) = false
is_uncovered (Compressed place sectors) = false
is_uncovered Uncovered = true

uncovered-is : (v : L2Mapping) → is_uncovered v ≡ true → v ≡ Uncovered
uncovered-is Uncovered is = refl
uncovered-is (Data host copied) is = absurd (cc)
uncovered-is (Zero kept) is = absurd (cc)
uncovered-is (Compressed place sectors) is = absurd (cc)

covers_past : (g : ℕ) → cover h b (suc (suc (suc g))) ≡ Uncovered
unfolding number_at l1_entry l2_entry cover cover_under cover_of
covers_past g = elim (cases_lt g 125) [
  | inl lt ↦ uncovered-is _ (agree_below_at (λ k. is_uncovered (cover h b (suc (suc (suc k))))) (λ _. true) 125 g refl lt)
  | inr past ↦ past_guests h b (suc (suc (suc g))) (Sizes-from h b reads) (omega arith)
]

each_cover : (P : ℕ → L2Mapping → Type 0) → P 0 (Data 0 true) → P 1 (Data 512 true) → P 2 (Zero (Some (1024, true))) → ((g : ℕ) → P g Uncovered) → (g : ℕ) → P g (cover h b g)
each_cover P first second third rest zero = subst (P 0) (sym covers.0) first
each_cover P first second third rest (suc zero) = subst (P 1) (sym covers.1) second
each_cover P first second third rest (suc (suc zero)) = subst (P 2) (sym covers.2) third
each_cover P first second third rest (suc (suc (suc g))) = subst (P (suc (suc (suc g)))) (sym (covers_past g)) (rest (suc (suc (suc g))))

consistent : ConsistentBeside h b
consistent = record {
  header_reads = reads;
  reftable_fits = lit≤ tt;
  l1_reads = each_l1 L1EntryReads (refl, refl) (refl, refl);
  reftable_reads = λ k lt. (block_reads _ (block-cases k lt)).0;
  no_snapshots = refl;
  external = refl;
  l1_aligned = refl;
  reftable_aligned = refl;
  l2_tables_aligned = each_l1 (λ e. host_offset e % 512 ≡ 0) refl refl;
  refblocks_aligned = λ k lt. (block_reads _ (block-cases k lt)).1;
  data_aligned = each_entry h b (CoverIsAligned h) (Sizes-from h b reads) (each_cover (λ g v. CoverIsAligned h v) refl refl refl (λ g. tt));
  counted = λ c. elim (counted c) [ inl one ↦ omega arith | inr none ↦ omega arith ];
  tables_once = λ c some. elim (counted c) [ inl one ↦ one.0 | inr none ↦ absurd (some none) ];
  copied_tables = λ i lt real copied. each_l1 (λ e. host_offset e ≢ 0 → IsOwnTable h b (host_offset e)) (λ real. (one_each.4, counts.4)) (λ real. absurd (real refl)) i lt real;
  at_guests = each_cover (StandsAtGuest h) (refl, refl) (refl, refl) refl (λ g. tt);
}

abbrev s : DriverState
s = record { header = h; direction = Neither; pending = nothing_pending (table_surplus_of h b); on_storage = b; known = b }

pub sound : StateInvariant s
sound = opened_beside h b consistent header-is

-- guest byte 517 is byte 517 of the data file
shown : (file backing : Bytes) → (disk_with b file backing).value 517 ≡ known_byte (file 517)
shown file backing = (beside_value s sound refl file backing 517).in_file 512 true covers.1

-- ---- guest cluster 3 gets data
abbrev then : Bytes
then o = cond (eqb o 2072) 0x80 (cond (eqb o 2078) 6 (b o))

then-3 : cover h then 3 ≡ Data 1536 true
unfolding number_at l1_entry l2_entry cover cover_under cover_of
then-3 = refl

elsewhere : (o : ℕ) → o / 512 ≢ 4 → b o ≡ then o
elsewhere o ne = sym (cond-false _ _ _ (ne_eqb o 2072 (λ e. ne (ap (λ n. n / 512) e))) ∙ cond-false _ _ _ (ne_eqb o 2078 (λ e. ne (ap (λ n. n / 512) e))))

same_entries : (k : ℕ) → k < 64 → k ≢ 3 → l2_entry b 2048 k ≡ l2_entry then 2048 k
unfolding l2_entry number_at
same_entries k lt ne =
    elim (or_cases _ _ (agree_below_at (λ k. (k == 3) || (l2_entry b 2048 k == l2_entry then 2048 k)) (λ _. true) 64 k refl lt)) [
      | inl here ↦ absurd (ne (eqb-true _ 3 here))
      | inr same ↦ eqb-true _ _ same
    ]

table-0 : table_at h b 0 ≡ 2048
table-0 = ap host_offset l1-0

changes : EntryChanges s then 0 3
changes = record {
  real = λ none. let e : 2048 ≡ 0 = sym table-0 ∙ none in absurd (omega arith);
  within = lit≤ tt;
  outside = subst (λ t. (o : ℕ) → o / 512 ≢ t / 512 → b o ≡ then o) (sym table-0) elsewhere;
  entries = subst (λ t. (k : ℕ) → k < 64 → k ≢ 3 → l2_entry b t k ≡ l2_entry then t k) (sym table-0) same_entries;
  new_data = λ c. lit≤ tt;
  marked = λ c. lit≤ tt;
  aligned = subst (CoverIsAligned h) (sym then-3) refl;
  at_guest = λ beside. subst (StandsAtGuest h 3) (sym then-3) (refl, refl);
}

shown_then : (file backing : Bytes) → disk_with then file backing ≡ with_cluster 512 (disk_with b file backing) 3 (λ o. known_byte (file o))
shown_then file backing = beside_changed s then 0 3 sound refl changes (Data 1536 true) then-3 file backing
