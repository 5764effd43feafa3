-- The names that several proofs cite, passed on from one place. Declares nothing.
pub use Rattle.std.proofs.Common.{ℕ, eqb, Some, None, refl, ap, inl, inr, Bool, true, false, cond, ltb, List, [], length, sym, ◌∙◌, arith, zero, suc, length-append, get_or, Option, subst, add-one, map, Ok, append_assoc, unwrap_or, drop, Result, filter, append-nil, Less, Equal, Greater, take}
pub use Rattle.std.proofs.Math.Nat.{div-mul-le_self, mul-le-mul_left, zero-div, zero-mod, div-lt_iff_lt-mul, lt-div-mul-add, div-le_self}
pub use Rattle.std.proofs.Math.Pow.{pow_mono}
pub use Rattle.std.proofs.lemmas.Bool.{cases_eq, eq-eqb, cond-true, cond-false, lt-ltb, le-ltb, ne_eqb, cases_lt, and_from, and_parts, and_right, or_parts, or_from, eqb-true}
pub use Rattle.std.proofs.lemmas.Bool.Decides.{eqb_tells, nat_tests}
pub use Rattle.std.proofs.lemmas.List.{get_or_past, get_or-set_same, get_or-set_other, get_or_append_left, get_or_push, map-append}
pub use Rattle.std.proofs.lemmas.Nat.{one_shl, pow_pos, div-add-mod', div-mul-add, le-div, mod_below, mul-le, pow-add, div_below}
pub use Rattle.std.proofs.lemmas.Result.{err_from_is_err_and}
pub use Rattle.std.specs.BTreeMap.{get, is_at, BTreeMap}
pub use Rattle.std.specs.List.{sum_by, range_with_len, AllByRecursion}
pub use Rattle.std.specs.List.Sorted.{IsStrictlySortedBy}
pub use Rattle.std.specs.Map.{lookup, keys_of}
pub use Rattle.std.specs.Option.{option_copied}
pub use Rattle.std.specs.Ordering.{nat_cmp, is_eq}
pub use Rattle.std.specs.Prelude.{not, slice_get, nat_le, nat_lt, IfSome, is_some, IsTrue}
unfoldable pub use Rattle.qcow2_check.specs.Counted.{count_in}
pub use Rattle.qcow2_check.specs.Counted.{count_of, counts_kept, counted_in, block_count_or_zero, block_numbered, HasBlock, KeepsBlocks, KeepsMore, blocks_among, with_count, count_kept, block_in}
unfoldable pub use Rattle.qcow2_check.specs.Leaked.{leaks_from}
pub use Rattle.qcow2_check.specs.Leaked.{leak_at, leak_of_count}
unfoldable pub use Rattle.qcow2_check.specs.Lines.{rising}
pub use Rattle.qcow2_check.specs.Lines.{lines, is_breached, numbered, lines_from, is_leaked, header_lines, table_offset_lines, offset_lines, is_named, unaligned_line, is_under, under_line, is_shared, shared_line, is_miscopied, copied_line, lines_of, entries_past, takes, shown_entries, shown, leak_of_cluster, snapshot_lines, external_lines, unaligned_lines}
pub use Rattle.qcow2_check.specs.Marks.{marks_of_cover, named_by_entries, marked_by_entries, marked_by_l2_table, mark_of_entry, tables_among, marks_among, marked_at, marked_below, named_below, tables_below, named_by_tables, marked_by_tables, marked_under}
pub use Rattle.qcow2_check.specs.Offsets.{off_cluster, off_cluster_if, times, off_l2_tables, off_refblocks, data_off_at, data_off_below, tables_off, blocks_off, data_off, data_off_by_tables}
unfoldable pub use Rattle.qcow2_check.specs.Report.{breach_lines, leak_lines}
pub use Rattle.qcow2_check.specs.Report.{leak_lines_of, tally, ArePassed, IsReasonNotToCount, TablesRead, cluster_lines}
unfoldable pub use Rattle.qcow2_check.specs.Tallies.{tally_in}
pub use Rattle.qcow2_check.specs.Tallies.{no_tally, TalliesGrow, blank, is_blank, widened, TalliesWithin64Bits, AddsTimes, small_or, small_in, large_in, AddsToTally, names_of}
pub use Rattle.qcow2_check.specs.declared.kept.Block.{Block}
pub use Rattle.qcow2_check.specs.declared.kept.Counts.{Counts}
pub use Rattle.qcow2_check.specs.declared.report.Breach.{Breach}
pub use Rattle.qcow2_check.specs.declared.report.Kind.TheVariants.{L1, Reftable, L2, Refblock}
pub use Rattle.qcow2_check.specs.declared.report.Leak.{Leak}
pub use Rattle.qcow2_check.specs.declared.tally.Tally.{Tally}
pub use Rattle.qcow2_check.specs.declared.tally_map.TallyMap.{TallyMap}
pub use Rattle.qcow2_metadata.proofs.TablesAt.{HasBytesAt, entry_stands, stand_at-loaded, count_stands}
unfoldable pub use Rattle.qcow2_metadata.specs.Bytes.{sum_below}
pub use Rattle.qcow2_metadata.specs.Bytes.{byte_at, Bytes, one_if}
pub use Rattle.qcow2_metadata.specs.Consistent.{CoverIsAligned, CopiedIsOwn, EachCover, Consistent, IsOwn}
unfoldable pub use Rattle.qcow2_metadata.specs.Cover.{cover_of}
pub use Rattle.qcow2_metadata.specs.Cover.{entry_cover}
unfoldable pub use Rattle.qcow2_metadata.specs.Entries.{reftable_entry, count, count_under, l1_entry, l2_entry, block_count}
pub use Rattle.qcow2_metadata.specs.Entries.{block_offset, host_offset, L1EntryReads, ReftableEntryReads, is_copied}
pub use Rattle.qcow2_metadata.specs.Header.{cluster_size, counts_per_block, reftable_entries, entries_per_cluster, IsAligned, HeaderReads, ReftableFits}
pub use Rattle.qcow2_metadata.specs.L2Mapping.{host_of, IsInReach}
pub use Rattle.qcow2_metadata.specs.MetadataError.{OnlyReads}
unfoldable pub use Rattle.qcow2_metadata.specs.Named.{named_by_l2_table, named, named_for_tables, named_by_header, named_by_reftable, named_by_l1_table, named_by_l2_tables}
pub use Rattle.qcow2_metadata.specs.Named.{named_by_cover, table_in, in_cluster}
pub use Rattle.qcow2_metadata.specs.TableBytes.{entry_at, IsOfStorageOrMemory}
pub use Rattle.qcow2_metadata.specs.declared.error.MetadataError.{MetadataError}
pub use Rattle.qcow2_metadata.specs.declared.header.HeaderFields.{HeaderFields}
pub use Rattle.qcow2_metadata.specs.declared.l2_mapping.L2Mapping.{L2Mapping}
pub use Rattle.qcow2_metadata.specs.declared.l2_mapping.L2Mapping.TheVariants.{Data, Zero, Compressed, Uncovered}
pub use mathlib.Core.Path.{fun_ext}
