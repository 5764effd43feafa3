-- A table that was read into a buffer.
use Rattle.std.proofs.Common.{◌≡◌, ◌+◌, ◌*◌, ◌/◌, ◌<◌, ◌≤◌, ℕ, List, length, ap, arith}
use Rattle.qcow2_check.proofs.Common.{div-mul-le_self, Bytes, byte_at, HeaderFields, cluster_size, entries_per_cluster, l2_entry, entry_cover, named_by_cover, HasBytesAt, entry_stands, marks_of_cover, named_by_entries, marked_by_entries}
use Rattle.qcow2_check.proofs.Sums.{sum_below-same}

pub inside_table : (size j : ℕ) → j < size / 8 → 8 * j + 8 ≤ size
inside_table size j lt = let down = div-mul-le_self size 8 in omega arith

module _ (h : HeaderFields) (b : Bytes) (bytes : List ℕ) (place q : ℕ) (stands : HasBytesAt b place bytes) (whole : length bytes ≡ cluster_size h) where
  entry : (j : ℕ) → j < entries_per_cluster h → l2_entry (byte_at bytes) 0 j ≡ l2_entry b place j
  entry j lt = let inside = inside_table (cluster_size h) j lt in entry_stands b place bytes j stands (omega (arith, inside, whole))

  pub named_by_part : named_by_entries h (byte_at bytes) 0 (entries_per_cluster h) q ≡ named_by_entries h b place (entries_per_cluster h) q
  named_by_part =
      sum_below-same (entries_per_cluster h) (λ j. named_by_cover h q (entry_cover h (l2_entry (byte_at bytes) 0 j))) (λ j. named_by_cover h q (entry_cover h (l2_entry b place j)))
      (λ j lt. ap (λ e. named_by_cover h q (entry_cover h e)) (entry j lt))

  pub marked_by_part : marked_by_entries h (byte_at bytes) 0 (entries_per_cluster h) q ≡ marked_by_entries h b place (entries_per_cluster h) q
  marked_by_part =
      sum_below-same (entries_per_cluster h) (λ j. marks_of_cover h q (entry_cover h (l2_entry (byte_at bytes) 0 j))) (λ j. marks_of_cover h q (entry_cover h (l2_entry b place j)))
      (λ j lt. ap (λ e. marks_of_cover h q (entry_cover h e)) (entry j lt))
