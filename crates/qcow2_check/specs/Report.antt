-- What a report says of an image, and why there may be none.
use Rattle.std.specs.Prelude.{ℕ, ◌≡◌, ◌+◌, ◌*◌, ◌^◌, ◌<◌, List, ◌++◌, ⊤}
use Rattle.qcow2_metadata.specs.Bytes.{Bytes}
use Rattle.qcow2_metadata.specs.declared.header.HeaderFields.{HeaderFields}
use Rattle.qcow2_metadata.specs.Header.{reftable_entries, IsWellFormed, IsWithinLimits, ReftableFits}
use Rattle.qcow2_metadata.specs.Entries.{count, l1_entry, reftable_entry, L1EntryReads, ReftableEntryReads}
use Rattle.qcow2_metadata.specs.Named.{named, named_for_tables}
use Rattle.qcow2_metadata.specs.declared.error.MetadataError.{MetadataError}
use Rattle.qcow2_metadata.specs.declared.error.MetadataError.TheVariants.{Storage, Memory, Version, Unaligned, Limit, Format}
use Rattle.qcow2_check.specs.declared.tally.Tally.{Tally}
use Rattle.qcow2_check.specs.declared.report.Leak.{Leak}
use Rattle.qcow2_check.specs.declared.report.Breach.{Breach}
use Rattle.qcow2_check.specs.Marks.{marked_below}
use Rattle.qcow2_check.specs.Offsets.{times, off_l2_tables, off_refblocks, data_off_below}
use Rattle.qcow2_check.specs.Lines.{lines, header_lines, unaligned_lines, is_under, under_line, is_shared, shared_line, is_miscopied, copied_line, is_leaked, leak_of_cluster}

-- The tally of a cluster in these bytes.
abbrev pub tally : HeaderFields → Bytes → ℕ → Tally
tally h b c = record { named = named h b c; for_tables = named_for_tables h b c; marked = marked_below h b h.l1_entries c; count = count h b c }

-- These are the tallies of clusters, and of unaligned offsets of L2 tables, refblocks and data.
pub record ArePassed (h : HeaderFields) (b : Bytes) (clusters l2_tables refblocks data' : ℕ → Tally) : Type 0 where
  pub clusters_are : clusters ≡ tally h b
  pub l2_tables_are : l2_tables ≡ times (off_l2_tables h b)
  pub refblocks_are : refblocks ≡ times (off_refblocks h b)
  pub data_are : data' ≡ times (data_off_below h b h.l1_entries)

-- The lines for the tallies of clusters, by kind.
abbrev pub cluster_lines : (ℕ → Tally) → List Breach
cluster_lines t = lines (2 ^ 64) is_under under_line t ++ (lines (2 ^ 64) is_shared shared_line t ++ lines (2 ^ 64) is_miscopied copied_line t)

abbrev pub leak_lines_of : (ℕ → Tally) → List Leak
leak_lines_of t = lines (2 ^ 64) is_leaked leak_of_cluster t

unfoldable pub breach_lines : HeaderFields → Bytes → List Breach
breach_lines h b =
    header_lines h ++ (unaligned_lines h (times (off_l2_tables h b)) (times (off_refblocks h b)) (times (data_off_below h b h.l1_entries)) ++ cluster_lines (tally h b))

unfoldable pub leak_lines : HeaderFields → Bytes → List Leak
leak_lines h b = leak_lines_of (tally h b)

-- Each entry of the L1 table and of the reftable is readable.
pub record TablesRead (h : HeaderFields) (b : Bytes) : Type 0 where
  pub l1_entries : (i : ℕ) → i < h.l1_entries → L1EntryReads (l1_entry h b i)
  pub reftable : (k : ℕ) → k < reftable_entries h → ReftableEntryReads (reftable_entry h b k)

-- The ends of the L1 table and of the reftable fit into 64 bits.
pub record TablesFit (h : HeaderFields) : Type 0 where
  pub l1_table : h.l1_offset + 8 * h.l1_entries < 2 ^ 64
  pub reftable : ReftableFits h

-- Why clusters are not counted, although the header is readable.
abbrev pub IsReasonNotToCount : HeaderFields → Bytes → MetadataError → Type 0
IsReasonNotToCount h b Format = ¬ TablesRead h b
IsReasonNotToCount h b Limit = ¬ TablesFit h
IsReasonNotToCount h b Unaligned = ⊥
IsReasonNotToCount h b Version = ⊥
IsReasonNotToCount h b Memory = ⊤
IsReasonNotToCount h b (Storage e) = ⊤

-- Why there is no report.
abbrev pub IsReasonNotToCheck : HeaderFields → Bytes → MetadataError → Type 0
IsReasonNotToCheck h b Format = ¬ (IsWellFormed h b × TablesRead h b)
IsReasonNotToCheck h b Limit = ¬ (IsWithinLimits h × TablesFit h)
IsReasonNotToCheck h b Unaligned = ⊥
IsReasonNotToCheck h b Version = ⊥
IsReasonNotToCheck h b Memory = ⊤
IsReasonNotToCheck h b (Storage e) = ⊤
