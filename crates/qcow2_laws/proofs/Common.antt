-- The names that several proofs cite, passed on from one place. Declares nothing.
pub use Rattle.std.proofs.Common.{ℕ, Bool, refl, sym, ap, ◌∙◌, arith, inl, inr, subst, List, length, true, false, cond, eqb, Some, None, [], max, lit≤, leb, ltb, zero, suc, min, replicate, ⊎_elim, Result, append_assoc, add-zero}
pub use Rattle.std.proofs.Math.Pow.{pow_mono}
pub use Rattle.std.proofs.lemmas.Bool.{cases_lt, cases_eq, cond-true, cond-false, eq-eqb, ne_eqb, le-leb, lt-ltb, and_from, le-ltb, eqb-true, cases_Bool, ltb-true, eqb-false, agree_below_at, or_cases}
pub use Rattle.std.proofs.lemmas.Bool.Decides.{nat_tests}
pub use Rattle.std.proofs.lemmas.Nat.{div-add-mod', div-mul-add, mod_below, mod-mul-add, pow_pos, mul-le, le-div, pow-add}
pub use Rattle.std.specs.Prelude.{Option, IsTrue, nat_le, nat_lt}
pub use Rattle.image_access.proofs.EachMomentSince.{passes_if, whole_or_nothing, passes_none, passes_on, passes_change}
unfoldable pub use Rattle.image_access.specs.Contents.{overwritten}
pub use Rattle.qcow2_disk.proofs.ForUsers.{laid_inside, laid_outside}
pub use Rattle.qcow2_disk.proofs.Stops.{kept_on, kept_more, given_more, given_front, given_split, stop_of_kept, kept_either}
pub use Rattle.qcow2_disk.specs.Alike.{IsDataAt, AreDataAt, IsAlike, IsAlikeAt, IsAlikeRun, IsLongestRun}
unfoldable pub use Rattle.qcow2_disk.specs.Disk.{disk_with}
pub use Rattle.qcow2_disk.specs.Disk.{disk, Disk, with_values}
pub use Rattle.qcow2_disk.specs.HeaderRest.{IsOfHeaderRest, KeepsHeaderRest}
pub use Rattle.qcow2_disk.specs.Mappings.{given_shown, given_of}
pub use Rattle.qcow2_disk.specs.Stops.{GivenBytes, IsGiven, Checkpoint, checkpoint_with, StopOkEverywhere, IsAsked, IsIn, SafeThroughout, LeavesKept, IsSafeAfter}
pub use Rattle.qcow2_laws.specs.Beside.{StandsIfBeside}
pub use Rattle.qcow2_laws.specs.Caches.{known_bytes, IsFreeOf, CacheInvariantOver, AreNamedBlocks, IsFreeAt, AreApart, AreClean, HasOwnL2, HasBlock, IsWrittenSo, BlocksMayGo, TablesMayGo, InternalTableWrite}
pub use Rattle.qcow2_laws.specs.Changes.{one_at, with_new_data, with_new_tables, without_old_tables, without_old_data, remapped, renamed, new_data_to_old_data, new_data_to_old_tables, new_tables_to_old_tables, named_now}
pub use Rattle.qcow2_laws.specs.Clusters.{Direction, L2DependsOnRb, RbDependsOnL2, Neither, ClusterInvariant, Cluster, Ordered}
pub use Rattle.qcow2_laws.specs.CrashInvariant.{Pending, SameIn, cluster, CrashInvariant, IsTop, SameTop, SameCovers, SameCounts, IsPartly, IsInOrder, IsMixed, MayTurn}
pub use Rattle.qcow2_laws.specs.GuestLaws.{Kept, IsHostedAt, WritesRun, MapsInTurn, LongerL1TableKeepsGuests, SizeStaysUnlessAsked, HasSizeSince, KeptClusterIsWritten, KeptClusterIsCommitted, KeepsGuests, state_with_l1_table, MapsEntry, IsZeros, ClustersInTurnAreARange, Hosting, InPlace, Held, IsHeld, is_private_hosting, IsGivenAt, RunIsWritten}
unfoldable pub use Rattle.qcow2_laws.specs.Guests.{over_guests, marked_by_l1_table}
pub use Rattle.qcow2_laws.specs.Guests.{guests, names, marks, named_in_either, table_at, named_by_guest, marked_by_cover, marked_by_guest, marked_by_kept}
pub use Rattle.qcow2_laws.specs.Internal.{IsInternal, KeepsFormat, with_cluster, used_by_guests, SameL1Table, SameUsedBytes, IsMappedAnew, IsInternalBut}
pub use Rattle.qcow2_laws.specs.Opened.{surplus_of, nothing_pending, HasNoLeaks}
pub use Rattle.qcow2_laws.specs.SafeSteps.{DriverState, StateInvariant, SafeStep}
pub use Rattle.qcow2_laws.specs.Steps.{block_of, CountRises, CountFalls, EntryChanges, guest_at}
pub use Rattle.qcow2_laws.specs.Tops.{Places, with_places, IsSameBut, WritesL1Entry, WritesReftableEntry, WritesHeader, IsSameOutside, resized_places, with_l1_at, with_reftable_at, KeepsCovers, WritesAt, IsNewTable, places_of, IsNewL1, IsNewBlock, IsNewReftable}
pub use Rattle.qcow2_laws.specs.Writes.{IsUnnamed, IsWritten, MayChange}
pub use Rattle.qcow2_metadata.proofs.BigEndian.{number_at-same}
unfoldable pub use Rattle.qcow2_metadata.specs.Bytes.{sum_below, number_at, laid_over}
pub use Rattle.qcow2_metadata.specs.Bytes.{Bytes, byte_at, SameFrom, one_if, is_within, bytes_from}
pub use Rattle.qcow2_metadata.specs.Consistent.{CoverIsAligned, Consistent, IsConsistent, EachCover, KeptIsOwn, CopiedIsOwn, IsAligned, IsOwn}
unfoldable pub use Rattle.qcow2_metadata.specs.Cover.{cover, cover_under, cover_of}
pub use Rattle.qcow2_metadata.specs.Cover.{entry_cover}
unfoldable pub use Rattle.qcow2_metadata.specs.Entries.{l1_entry, reftable_entry, l2_entry, count, block_count, count_under}
pub use Rattle.qcow2_metadata.specs.Entries.{host_offset, block_offset, is_copied, L1EntryReads, ReftableEntryReads}
unfoldable pub use Rattle.qcow2_metadata.specs.Guest.{guest_value}
pub use Rattle.qcow2_metadata.specs.Guest.{known_byte, Value, value_under, compressed_byte, bytes_of_sectors}
unfoldable pub use Rattle.qcow2_metadata.specs.Header.{header}
pub use Rattle.qcow2_metadata.specs.Header.{cluster_size, HeaderReads, reftable_entries, with_reftable, entries_per_cluster, count_width, counts_per_block, has_data_file, HeaderView, with_size, with_l1_table, without_autoclear, ReftableFits}
unfoldable pub use Rattle.qcow2_metadata.specs.Named.{named_for_tables, named_by_reftable, named_by_l1_table, named, named_by_l2_table, named_by_l2_tables, named_by_header}
pub use Rattle.qcow2_metadata.specs.Named.{in_cluster, named_by_cover, table_in, in_run, named_by_kept}
unfoldable pub use Rattle.qcow2_metadata.specs.Tables.{known}
pub use Rattle.qcow2_metadata.specs.Tables.{CachedTable, overlays}
pub use Rattle.qcow2_metadata.specs.declared.header.HeaderFields.{HeaderFields}
pub use Rattle.qcow2_metadata.specs.declared.l2_mapping.L2Mapping.{L2Mapping}
pub use Rattle.qcow2_metadata.specs.declared.l2_mapping.L2Mapping.TheVariants.{Data, Zero, Compressed, Uncovered}
pub use mathlib.Core.Path.{fun_ext}
