-- The definitions tried on a small image.
use Rattle.std.proofs.Common.{◌≡◌, ◌%◌, ◌<◌, ◌≤◌, ◌≢◌, ◌⊎◌, ◌==◌, ◌||◌, ℕ, zero, suc, length, refl, arith, inl, inr, lit≤, eqb, [], Some, None, true, false}
use Rattle.qcow2_laws.proofs.Common.{agree_below_at, or_cases, eqb-true, cond-false, ne_eqb, nat_tests, Bytes, byte_at, number_at, sum_below, HeaderFields, header, HeaderReads, l1_entry, l2_entry, reftable_entry, block_count, count_under, count, block_offset, ReftableEntryReads, named_by_cover, table_in, named, named_for_tables, named_by_header, named_by_reftable, named_by_l1_table, named_by_l2_table, named_by_l2_tables, Consistent, IsConsistent, cover, cover_under, cover_of, guest_value, known_byte, Data, Zero, Compressed, Uncovered}
use Rattle.qcow2_laws.proofs.Sums.{sum_below-zero}
use Rattle.qcow2_disk.specs.Rules.{answered}
use Rattle.qcow2_laws.specs.Samples.{empty_image, written_image}

abbrev b : Bytes
b = byte_at empty_image

image-length : length empty_image ≡ 1536
image-length = refl

-- the header in numbers
abbrev h : HeaderFields
h = record {
  magic = 0x514649fb;
  version = 3;
  backing_offset = 0;
  backing_length = 0;
  cluster_bits = 9;
  size = 0;
  crypt_method = 0;
  l1_entries = 0;
  l1_offset = 0;
  reftable_offset = 512;
  reftable_clusters = 1;
  snapshots = 0;
  snapshots_offset = 0;
  incompatible = 0;
  compatible = 0;
  autoclear = 0;
  refcount_order = 4;
  header_length = 104;
}

pub header-is : header b ≡ h
unfolding header number_at
header-is = refl

named-0 : named h b 0 ≡ 1
unfolding number_at reftable_entry sum_below named named_for_tables named_by_header named_by_reftable named_by_l1_table named_by_l2_tables
named-0 = refl

named-1 : named h b 1 ≡ 1
unfolding number_at reftable_entry sum_below named named_for_tables named_by_header named_by_reftable named_by_l1_table named_by_l2_tables
named-1 = refl

named-2 : named h b 2 ≡ 1
unfolding number_at reftable_entry sum_below named named_for_tables named_by_header named_by_reftable named_by_l1_table named_by_l2_tables
named-2 = refl

-- each entry of the reftable is none or that of the refblock
entry-cases : (k : ℕ) → k < 64 → (reftable_entry h b k ≡ 0) ⊎ (reftable_entry h b k ≡ 1024)
unfolding reftable_entry number_at
entry-cases k lt =
    elim (or_cases _ _ (agree_below_at (λ k. (reftable_entry h b k == 0) || (reftable_entry h b k == 1024)) (λ _. true) 64 k refl lt)) [
      | inl none ↦ inl (eqb-true _ 0 none)
      | inr some ↦ inr (eqb-true _ 1024 some)
    ]

named_by_entry-past : (entry c : ℕ) → 3 ≤ c → (entry ≡ 0) ⊎ (entry ≡ 1024) → table_in h c (block_offset entry) ≡ 0
named_by_entry-past entry c past (inl none) = rw none refl
named_by_entry-past entry c past (inr some) = rw some (cond-false (eqb 2 c) 1 0 (ne_eqb 2 c (λ e. omega arith)))

named_by_reftable-past : (c : ℕ) → 3 ≤ c → named_by_reftable h b c ≡ 0
unfolding named_by_reftable
named_by_reftable-past c past = sum_below-zero 64 _ (λ k lt. named_by_entry-past (reftable_entry h b k) c past (entry-cases k lt))

named_by_header-past : (c : ℕ) → 3 ≤ c → named_by_header h c ≡ 0
unfolding named_by_header
named_by_header-past c past = grind (arith, nat_tests)

no_tables : (c : ℕ) → named_by_l1_table h b c ≡ 0
unfolding named_by_l1_table sum_below
no_tables c = refl

no_entries : (c : ℕ) → named_by_l2_tables h b c ≡ 0
unfolding named_by_l2_tables sum_below
no_entries c = refl

tables-past : (c : ℕ) → 3 ≤ c → named_for_tables h b c ≡ 0
unfolding named_for_tables
tables-past c past = omega (arith, named_by_header-past c past, named_by_reftable-past c past, no_tables c)

named-past : (c : ℕ) → 3 ≤ c → named h b c ≡ 0
unfolding named
named-past c past = omega (arith, tables-past c past, no_entries c)

count-0 : count h b 0 ≡ 1
unfolding number_at reftable_entry block_count count_under count
count-0 = refl

count-1 : count h b 1 ≡ 1
unfolding number_at reftable_entry block_count count_under count
count-1 = refl

count-2 : count h b 2 ≡ 1
unfolding number_at reftable_entry block_count count_under count
count-2 = refl

counted : (c : ℕ) → named h b c ≤ count h b c
counted zero = omega (arith, named-0, count-0)
counted (suc zero) = omega (arith, named-1, count-1)
counted (suc (suc zero)) = omega (arith, named-2, count-2)
counted (suc (suc (suc c))) = omega (arith, named-past (suc (suc (suc c))) (omega arith))

tables_once : (c : ℕ) → named_for_tables h b c ≢ 0 → named h b c ≡ 1
tables_once zero some = named-0
tables_once (suc zero) some = named-1
tables_once (suc (suc zero)) some = named-2
tables_once (suc (suc (suc c))) some = absurd (some (tables-past (suc (suc (suc c))) (omega arith)))

reads : HeaderReads h b
unfolding number_at
reads = record {
  well_formed = record {
    in_range = record {
      magic = refl;
      version = inr refl;
      cluster_bits = (lit≤ tt, lit≤ tt);
      refcount_order = lit≤ tt;
      not_encrypted = refl;
      incompatible = inl refl;
      header_length = ((λ _. lit≤ tt), lit≤ tt);
    };
    extensions = record { list = []; stand = (lit≤ tt, refl) };
    backing_name = record { inside = λ some. absurd (some refl); behind_header = λ some. absurd (some refl); text = λ some. absurd (some refl) };
  };
  within_limits = record { few_l1_entries = lit≤ tt; few_reftable_entries = lit≤ tt };
}

entry_reads : (entry : ℕ) → (entry ≡ 0) ⊎ (entry ≡ 1024) → ReftableEntryReads entry × (block_offset entry % 512 ≡ 0)
entry_reads entry (inl none) = rw none (refl, refl)
entry_reads entry (inr some) = rw some (refl, refl)

pub consistent : Consistent h b
consistent = record {
  header_reads = reads;
  reftable_fits = lit≤ tt;
  l1_reads = λ i lt. absurd (omega arith);
  reftable_reads = λ k lt. (entry_reads _ (entry-cases k lt)).0;
  no_snapshots = refl;
  no_data_file = refl;
  l1_aligned = refl;
  reftable_aligned = refl;
  l2_tables_aligned = λ i lt. absurd (omega arith);
  refblocks_aligned = λ k lt. (entry_reads _ (entry-cases k lt)).1;
  data_aligned = λ i j lt. absurd (omega arith);
  counted = counted;
  tables_once = tables_once;
  copied_tables = λ i lt. absurd (omega arith);
  copied_data = λ i j lt. absurd (omega arith);
}

pub is_consistent : IsConsistent (byte_at empty_image)
is_consistent = rw header-is consistent

-- ---- an image with one data cluster

abbrev b3 : Bytes
b3 = byte_at written_image

length-3 : length written_image ≡ 3072
length-3 = refl

size-3 : (header b3).size ≡ 65536
unfolding header number_at
size-3 = refl

cover-0 : cover (header b3) b3 0 ≡ Data 2560 true
unfolding header number_at l1_entry l2_entry cover cover_under cover_of
cover-0 = refl

cover-1 : cover (header b3) b3 1 ≡ Uncovered
unfolding header number_at l1_entry l2_entry cover cover_under cover_of
cover-1 = refl

value-5 : guest_value (header b3) b3 b3 (λ _. 0) 5 ≡ known_byte 0x11
unfolding header number_at l1_entry l2_entry cover cover_under cover_of guest_value
value-5 = refl

count-5 : count (header b3) b3 5 ≡ 1
unfolding header number_at reftable_entry block_count count_under count
count-5 = refl

pub named-5 : named (header b3) b3 5 ≡ 1
unfolding header number_at reftable_entry l1_entry l2_entry cover_of sum_below named named_for_tables named_by_header named_by_reftable named_by_l1_table named_by_l2_table named_by_l2_tables
named-5 = refl

-- ---- rules: what zeroing and discarding answer

rules : (answered 512 65536 100 1000 ≡ (512, 512)) × (answered 512 65536 100 0 ≡ (512, 0)) × (answered 512 1000 0 1000 ≡ (0, 1000))
rules = (refl, refl, refl)

-- ---- entries: two compressed ones that share a sector, a zero one that keeps its cluster, and one without

compressed : cover_of 9 true false 0x4000000000000a80 ≡ Compressed 2688 1
unfolding cover_of
compressed = refl

compressed_names : (named_by_cover h 5 (Compressed 2688 1) ≡ 1) × (named_by_cover h 6 (Compressed 2688 1) ≡ 0) × (named_by_cover h 6 (Compressed 2688 2) ≡ 1)
compressed_names = (refl, refl, refl)

zeros : (cover_of 9 true false 0x8000000000000a01 ≡ Zero (Some (2560, true))) × (cover_of 9 true false 1 ≡ Zero None) × (cover_of 9 false false 0x8000000000000a01 ≡ Data 2560 true)
unfolding cover_of
zeros = (refl, refl, refl)

external : (cover_of 9 true true 0x8000000000000000 ≡ Data 0 true) × (cover_of 9 true false 0x8000000000000000 ≡ Uncovered)
unfolding cover_of
external = (refl, refl)
