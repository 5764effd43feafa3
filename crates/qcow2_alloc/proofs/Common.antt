-- The names that several proofs cite, passed on from one place. Declares nothing.
pub use Rattle.std.proofs.Common.{ℕ, sym, ap, ◌∙◌, subst, inl, inr, refl, Bool, true, false, List, length, Option, Some, None, Result, Ok, Err, IsErr, IsErrAnd, IsSome, IsTrue, mul-pos, arith, is_some, [], cond, eqb, nat_lt, map, IfSome, IsFalse, slice_get, append_assoc, append-nil, OnOk, IfErr, zero, suc, max, not, min, ltb, rules, ⊎_elim, take, All, length-append, ltb-true, ltb-false, get_or, insert, remove, nat_le, pow-suc, reverse}
pub use Rattle.std.proofs.Math.Nat.{mul-mod_left, mul-le-mul_right, div-le_self, mul-le-mul_left, div-mul-le_self, le_refl, le_trans, lt-div-mul-add, zero-div, mul-div_cancel, mul_assoc, div-eq_of_lt}
pub use Rattle.std.proofs.Math.Pow.{pow_mono}
pub use Rattle.std.proofs.lemmas.Bool.{cases_eq, cases_Bool, eq-eqb, cond-true, or_right, ne_eqb, cond-false, cases_lt, lt-ltb, le-ltb, and_from, le-leb, or_left, eqb-true, and_parts}
pub use Rattle.std.proofs.lemmas.Bool.Decides.{nat_tests}
pub use Rattle.std.proofs.lemmas.Map.{lookup-set_value, length-set_value, lookup-remove_entry}
pub use Rattle.std.proofs.lemmas.Map.Steps.{set_value_same}
pub use Rattle.std.proofs.lemmas.Nat.{mod_below, pow_pos, div-add-mod', div-mul-add, mod-mul-add, mul-le, le-div, one_shl}
pub use Rattle.std.proofs.lemmas.Option.{none-some, same_Some}
pub use Rattle.std.specs.Cmp.{nat_eq_equiv, IsEquivalence}
pub use Rattle.std.specs.Int.{w64, to_be_bytes, from_bool}
unfoldable pub use Rattle.std.specs.List.{IsDistinct}
pub use Rattle.std.specs.List.{AllByRecursion}
pub use Rattle.std.specs.Map.{lookup, set_value, keys_of, lookup_entry, remove_entry}
pub use Rattle.std.specs.Option.{option_or, option_map, option_map_or, IsNone, option_copied, unwrap_or}
pub use Rattle.std.specs.Prelude.{IsErrOf, IfOk, MatchOption, MatchResult}
pub use Rattle.std.specs.Result.{result_err, OnErr}
pub use Rattle.image_access.proofs.Bytes.{byte_at-overwritten, byte_at-overwritten_below, byte_at-bytes_at, byte_at-overwritten_outside, length-bytes_at}
pub use Rattle.image_access.proofs.EachMomentSince.{passes_on, passes_none, passes_if, whole_or_nothing, rose_since, rose_still}
unfoldable pub use Rattle.image_access.specs.Contents.{overwritten, bytes_at}
pub use Rattle.image_access.specs.Moments.{StorageView, Rose, HasCause, EachMomentSince, IsLeftBy, Calls, QuietCalls, Changes, ContentsStay, UnlessErr}
pub use Rattle.image_access.specs.declared.error.StorageError.{StorageError}
pub use Rattle.image_access.specs.declared.error.StorageError.TheVariants.{Fault}
pub use Rattle.lru.proofs.CallerLemmas.{Contains-lookup_entry}
pub use Rattle.lru.specs.LruCache.{promoted, LruCache, lru_cache, demoted, put_entries}
pub use Rattle.number_runs.specs.NumberRuns.{IsIn, Adds, Forgets, SameNumbers, IsRun, NoneIn}
pub use Rattle.qcow2_alloc.specs.Allocation.{IsUnaligned, run_at, is_data, taken_as, Owed, Taken, Listed, owed_as, MayAllocate, MayDecrement, HasNone, NamesBlock, NamesBehindHeader, KeepsRefblocks, NamesLacking, KeepsEntries, KeepsNamed, NamesRefblock, RefblockAt, InternalAllocatorStep, InternalAllocatorGrowth, PlacesBlock, GetsBlock, RefusedGrowth, AllocatesGiven, AllocatesCluster, Allocates, listed_as, Frees, GivesBack, HasBytesAt, DecrementsOne, GrowsTable, placing, first_counts, HasPlaceFor, AllocatesLowest, GivesBackAs, SameLeaks, MayFree, StandsFirst, AllocatesAt, LacksFirst, LoadsBlock, HoldsBlock, AllocatesSomeRun, WritesBlock}
pub use Rattle.qcow2_alloc.specs.ApartCaches.{ChangesTableApart, ChangesBlockApart, IsFlushedSo, AreNoMore, NoClusterDirtyInBoth, StandAsIn, IsPartlyFlushed, table_put, AreFlushedSince, KnownStays, KnownUnder, KeepsKnownApart, KnownWithout, EvictsTableApart, KnownWithoutBlock, AllocatesBlockApart}
pub use Rattle.qcow2_alloc.specs.AsyncLruCache.{Cache, slot_of, value_at, set_at, pins_at, pin_at, unpin_at, with_entries, KeepsPins, OthersStay, IsInFront, pinned, is_pinned, oldest_free, can_remove, cache_of, can_pin, can_unpin, OnlyOldestGoes, KeepsOthers}
pub use Rattle.qcow2_alloc.specs.AsyncLruCacheBackend.{Steps, IsLawful, KeepsBytes, value_laid_over, known_under_key, KeepsKnown, OverlaysBytes}
pub use Rattle.qcow2_alloc.specs.CacheAnswers.{Unit₀, FlushesEntry, FlushesAll, Flushes, Replaces, HasRoomForEntry, HasNoRoom, InsertsNew, GetsNew, Evicts, FlushesKey, MustEvict, FailsToEvict, MakesRoom, Invalidates}
pub use Rattle.qcow2_alloc.specs.CacheCauses.{TablesFit, BlocksFit, AllFit, AreBlocksPinned, MayFailInsertingL2, MayFailInsertingRb, MayFailLoadingL2, MayFailLoadingRb}
pub use Rattle.qcow2_alloc.specs.CachePins.{KeepsPinsAndNotes, CachesHaveRoom, IsInUseOrFault, l2_pins, SameTables, SetsPins, AreAllPinned, LeavesPinned}
pub use Rattle.qcow2_alloc.specs.CacheSteps.{HeldStep, KeepsSoundly, TablesGo, BlocksGo, CacheStep, TurnStep, LoadStep, PutStep, PutsSoundly, KeepsL2Written}
pub use Rattle.qcow2_alloc.specs.CachedEntries.{FlushesFound}
pub use Rattle.qcow2_alloc.specs.ClustersToFree.{metadata_entry, entries_at}
pub use Rattle.qcow2_alloc.specs.CountedChanges.{IsOneChange, counts_none, counts_one, counts_then, CountsChanges}
pub use Rattle.qcow2_alloc.specs.Faults.{FaultsReported, faults_of}
pub use Rattle.qcow2_alloc.specs.FreeList.{IsRunOfTable, OldReftablesQueued, but, run_of, with_listed, of_data, of_tables, to_free, pending_then, ListsTables, SamePlace, FillsClusters, ReftableReplaced, is_same, ReplacesReftable}
pub use Rattle.qcow2_alloc.specs.FreeSteps.{FreesListed}
pub use Rattle.qcow2_alloc.specs.Growing.{IsLeastLength, IsCloneOf, IsLongEnough}
pub use Rattle.qcow2_alloc.specs.GrownTables.{named_by_reftable_entries, counted_run, with_run, without_reftable, NamesReftable, EntersReftable, StandsGrown, reftable_at, IsGrown}
pub use Rattle.qcow2_alloc.specs.HeaderClusters.{IsInHeaderCluster, BytesStay, KeepsHeaderCluster, SameAt, IsBesidePointer}
pub use Rattle.qcow2_alloc.specs.ImageError.{of_storage, IsFault, IsFaultOr, of_cache, IsOfReftableLoad, IsOfTablesIf, IsFaultOrLimit, of_metadata}
pub use Rattle.qcow2_alloc.specs.ImageFile.{view_in, contents_in, known_in, FileInvariant, AllocatorInvariant, HasReftable, RefusedFileStep, pending_at, nothing_given, state_in, InternalFileStep, InternalFileGrowth, InterruptedFileStep, KeepsHeader}
pub use Rattle.qcow2_alloc.specs.ImageStorage.{storage_of, met_fault_of, is_changed_of, RecordsWrite, SameNotes, WritesPlaced, changes_of, RecordsFault}
pub use Rattle.qcow2_alloc.specs.KeptMarks.{KeepMarks, KeepMarksAndTables, KeepsHeldTables, KeepNotes, KeepsMarks}
pub use Rattle.qcow2_alloc.specs.KeptNotes.{KeepsNotes, kept_then, kept_same}
pub use Rattle.qcow2_alloc.specs.KeptTables.{cached_table, cached_tables, AllValuesFit, IsSafeSince, AreElsewhere, AreLoaded, AreKept, IsCurrent, IsInOrderSince}
pub use Rattle.qcow2_alloc.specs.Leaks.{LeaksOne, LeaksUnaligned, IsDecremented, TriesToDecrement, is_unaligned, unaligned_below}
pub use Rattle.qcow2_alloc.specs.Limits.{nameable_clusters, HasNoRoomBelow, HasNoRoomFor, CantGrow, LiesLowest, CantCount, HasNoPlace, IsLowestRoom, IsFull, IsPastLimits, CantCountRun}
pub use Rattle.qcow2_alloc.specs.LoadedTables.{HasUnreadEntry, IsReasonAgainst, EntriesRead, IsReasonAgainstReftable, ReftableReads}
pub use Rattle.qcow2_alloc.specs.LowestRuns.{IsUsed, KeepsUsed, IsPassed, SearchStays, IsLowestRun, NoFreeBelowHint, KeepsNoFreeBelowHint, BrokeOff, IsCovered, StaysUsed, KeepsUsedBut, SearchesAnew, KeepsRuns, NoCluster, PassesNoOthers}
pub use Rattle.qcow2_alloc.specs.MadeClusters.{IsAllocatedMetadata, IsMadeInTurn, listed_at, run_in, AllocatesOnly, IsOfNewRefblock, IsOfReftable, IsListedSince, CountsListed, ListsUsed}
pub use Rattle.qcow2_alloc.specs.MetadataCaches.{order_of, rb_at, IsCountedAt, InternalCacheStep, l2_tables, order, refblocks, known_of, CacheInvariant, IsEntryAt, MadeEntry, Made, HasFormat, HavePlaces, KeepSound, WritesInOrder, HoldsKnown, AllocatesBlock, laid_at, Overlay, IncrementsCount, DecrementsCount, ShowsEntry, ShowsKnown, Evict, EvictsTable, TakenFrom, AreAllWritten, OverlaysBlock, ReportsCount, ReportsZero, InsertKeeps}
pub use Rattle.qcow2_alloc.specs.Quiet.{NextIsClean, OthersStayHeld, KeepAllWritten, IsQuiet, WritesNothing, TableGoesQuietly, BlockGoesQuietly, GetsTableQuietly, GetsBlockQuietly, PutsTableQuietly, PutsBlockQuietly}
pub use Rattle.qcow2_alloc.specs.RecordedFaults.{RecordsFaults}
pub use Rattle.qcow2_alloc.specs.Rooms.{opens, opened, IsLonger, room_length, placed_at, AreFree, InternalNewBlocks, PlacesBlocks, lacks, CountsRun, WritesTable, CountNew, HasCached, HasCachedBlock, RefusedNewBlocks, counted_one, AllocatesFree, FetchesBlock, CachesBlocks, AllocatesRoom, ReachesRoom, CachesBlock}
pub use Rattle.qcow2_alloc.specs.SparedClusters.{IsWithin, NamesBlockIn, NamesTableIn, Spares, IsNamedHere}
pub use Rattle.qcow2_alloc.specs.SparedHeaders.{CachesSpareHeader, KeepBehindHeader, PreservesHeaderButPointer, LeaveHeaderCluster, StandsBehindHeader, SparesBytes, SparesHeader}
pub use Rattle.qcow2_alloc.specs.Steps.{AllocatorFails, err_of, FailsFor, TableStep, FileStep, TakenSoFar, EntersRoom, Fails, GivesSoundly, KeepsMarksInTurn, DataStep, PointerStep, PointerStepTo, GrowthStep, FreeStep, FreeStepInTurn, PartStep, AllocatesClusterSoundly, AllocatesRoomSoundly, AllocatesRunSoundly, EntersTable, AllocatesGivenSoundly}
pub use Rattle.qcow2_alloc.specs.TableCache.{marks_in, settled, FlushesAt, ChangesValue, failure_of}
pub use Rattle.qcow2_alloc.specs.TableCaches.{IsTableOf, l2_steps, rb_steps, cleared_l2, cleared_rb, IsBlockOf}
pub use Rattle.qcow2_alloc.specs.TableChanges.{changed_block, SetsCount, SetsTableCount, SetsTableEntry, LeavesCount, changed_table, ChangesOrStays, SetsEntry, ChangesHeld, CantMap, CountsLess}
pub use Rattle.qcow2_alloc.specs.TableLaws.{same_number, apart}
pub use Rattle.qcow2_alloc.specs.TableSteps.{answer_refused, table_steps, answer_done, LoadsTable, FailsToLoad, FlushesTable, FailsToFlush, IsTableFault, IsOfTable}
pub use Rattle.qcow2_alloc.specs.UsedCounts.{AreUsed, IsFoundUsed, AddsFree, PassesKnown, passed_hint, SparedStayOut, ReportsUsed, AreFoundFree, StaysSound, SearchContinuesIn, ReportsFirstFree, SearchContinuesAt}
pub use Rattle.qcow2_alloc.specs.Uses.{first_marked, behind, IsFoundAs, number_at, marks_of, marked_count, IsLastBelow, placed, Rise, count_below, Marked, Fall, AreNumbered, HaveRoom, is_first}
pub use Rattle.qcow2_alloc.specs.declared.allocation.Allocator.{Allocator}
pub use Rattle.qcow2_alloc.specs.declared.async_lru_cache.error.CacheError.{CacheError}
pub use Rattle.qcow2_alloc.specs.declared.async_lru_cache.error.CacheError.TheVariants.{Memory, InUse, StillInUse, Backend}
pub use Rattle.qcow2_alloc.specs.declared.async_lru_cache.slot.Slot.{Slot}
pub use Rattle.qcow2_alloc.specs.declared.cache.MetadataCaches.{MetadataCaches}
pub use Rattle.qcow2_alloc.specs.declared.cache.backends.L2CacheBackend.{L2CacheBackend}
pub use Rattle.qcow2_alloc.specs.declared.cache.backends.RefBlockCacheBackend.{RefBlockCacheBackend}
pub use Rattle.qcow2_alloc.specs.declared.clusters_to_free.ClusterKind.{ClusterKind}
pub use Rattle.qcow2_alloc.specs.declared.clusters_to_free.ClusterKind.TheVariants.{Data, Metadata}
pub use Rattle.qcow2_alloc.specs.declared.clusters_to_free.ClustersToFreeEntry.{ClustersToFreeEntry}
pub use Rattle.qcow2_alloc.specs.declared.error.ImageError.{ImageError}
pub use Rattle.qcow2_alloc.specs.declared.free_room.Room.{Room}
pub use Rattle.qcow2_alloc.specs.declared.image_file.ImageFile.{ImageFile}
pub use Rattle.qcow2_alloc.specs.declared.image_storage.ImageStorage.{ImageStorage}
pub use Rattle.qcow2_disk.specs.Stops.{Checkpoint, StopOkEverywhere, SafeThroughout, LeavesKept}
pub use Rattle.qcow2_laws.proofs.Beside.{unnamed_free, overwritten_but, data_beside, same_beside, reftable_entry_beside}
pub use Rattle.qcow2_laws.proofs.Blocks.{table_once, counted_covers}
pub use Rattle.qcow2_laws.proofs.Caches.{unnamed_free_l2, clean_counts, kept_sizes, l2s_free, rbs_free, clean_covers, unnamed_free_rb, rb_mixed, l2_mixed, kept_turned}
pub use Rattle.qcow2_laws.proofs.Consistency.{in_own}
pub use Rattle.qcow2_laws.proofs.Guests.{over_guests-same, over_guests-le}
pub use Rattle.qcow2_laws.proofs.Headers.{header_fixed, header_sizes, header_same, header_l1, header_known_covers}
pub use Rattle.qcow2_laws.proofs.Internal.{unseen_none, unseen_then, unseen_known, l1_same_then, unseen_count, l1_same_none, l1_same_storage, l1_same_known, unseen_written, unseen_refblock, table_bytes}
pub use Rattle.qcow2_laws.proofs.KeptSteps.{known_is_on_storage, kept_beside, refblock_changed, l2_table_changed}
pub use Rattle.qcow2_laws.proofs.Lists.{known-at, known-none, unmodified_over, differs, known_there, known_elsewhere, cluster_within, changed_outside, known_unmodified, clean_known, no_overlay, overlays_within, within_cluster, free_too, written_partly, written_known, changed_there, known_promoted}
pub use Rattle.qcow2_laws.proofs.Mixes.{either_cover, top_kept, either_count, mixed_crash_invariant, mixed_either}
pub use Rattle.qcow2_laws.proofs.Places.{count_none, Sizes-from, reftable_entry-past, Sizes, block_count-moved, in_one, reftable-same, has_block}
pub use Rattle.qcow2_laws.proofs.SafeSteps.{done_safe_throughout, safe_throughout_none, raise_safe_throughout, fall_safe_throughout, write_safe_throughout, step_safe_throughout}
pub use Rattle.qcow2_laws.proofs.Shares.{reftable_has, shares, table_has, block_has, top_stays, in_l1, in_reftable, cover_stays, covers_stay, counts_stay}
pub use Rattle.qcow2_laws.proofs.Steps.{data_is_written, count_is_changed, pending_is_changed, table_is_written, table_is_named, header_is_written}
pub use Rattle.qcow2_laws.proofs.Sums.{sum_below-le, sum_below-same, sum_below-longer, some_term, sum_below-change}
pub use Rattle.qcow2_laws.proofs.Tops.{l1_names-same, SameTop-sym, SameTop-trans, IsTop-top, SameTop-refl, for_tables-top}
pub use Rattle.qcow2_laws.specs.Caches.{AreClean, BlocksMayGo, TablesMayGo, AreNamedBlocks, CacheInvariantOver, HasL2, HasOwnL2, HasBlock, known_bytes, IsFreeAt, IsFreeOf, AreApart, IsWrittenSo, IsSafeBetween, InternalTableWrite}
pub use Rattle.qcow2_laws.specs.Changes.{one_at, with_new_data, with_new_tables, without_old_tables, without_old_data, new_data_to_old_tables, new_tables_to_old_tables, named_now}
pub use Rattle.qcow2_laws.specs.Clusters.{Direction, Neither, L2DependsOnRb, RbDependsOnL2}
pub use Rattle.qcow2_laws.specs.CrashInvariant.{Pending, MayTurn, CrashInvariant, SameCovers, SameIn, IsPartly, SameTop, IsMixed, SameCounts, IsInOrder, IsTop}
unfoldable pub use Rattle.qcow2_laws.specs.Guests.{over_guests}
pub use Rattle.qcow2_laws.specs.Guests.{named_by_guest, names, table_at, named_in_either}
pub use Rattle.qcow2_laws.specs.Internal.{IsInternal, KeepsFormat, SameL1Table}
pub use Rattle.qcow2_laws.specs.SafeSteps.{SafeStep, DriverState}
pub use Rattle.qcow2_laws.specs.Steps.{CountRises, CountFalls, block_of}
pub use Rattle.qcow2_laws.specs.Tops.{IsNewReftable, with_places, with_reftable_at, WritesHeader, IsSameOutside, IsSameBut, Places, WritesReftableEntry, IsNewBlock, resized_places, with_l1_at}
pub use Rattle.qcow2_laws.specs.Writes.{IsUnnamed, IsWritten}
pub use Rattle.qcow2_metadata.proofs.EntryTables.{entry_at_past, on_sector, reftable_entries-loaded}
pub use Rattle.qcow2_metadata.proofs.TableEntries.{number_at-moved}
pub use Rattle.qcow2_metadata.proofs.TablesAt.{ref_block_at}
unfoldable pub use Rattle.qcow2_metadata.specs.Bytes.{sum_below}
pub use Rattle.qcow2_metadata.specs.Bytes.{byte_at, Bytes, one_if, is_within}
pub use Rattle.qcow2_metadata.specs.Consistent.{IsAligned}
unfoldable pub use Rattle.qcow2_metadata.specs.Entries.{reftable_entry, count, l1_entry, l2_entry, block_count}
pub use Rattle.qcow2_metadata.specs.Entries.{block_offset, is_copied, ReftableEntryReads, host_offset}
pub use Rattle.qcow2_metadata.specs.EntryTable.{EntryTableView, NamesRefTable, IsRefTableOf, entry_count, IsRefTable, SomeUnread, entry_table, HasRoomIfPlaced, EachReads, IsReasonNotToLoad, PassesLimit, IsL1TableOf}
pub use Rattle.qcow2_metadata.specs.FirstZero.{IsFirstZero}
unfoldable pub use Rattle.qcow2_metadata.specs.Header.{header, backing_name}
pub use Rattle.qcow2_metadata.specs.Header.{cluster_size, counts_per_block, reftable_entries, HeaderView, HeaderReads, count_width, entries_per_cluster, with_reftable, with_fields, has_data_file, first_of_kind, backing_format_kind, data_file_kind, with_size, with_l1_table}
unfoldable pub use Rattle.qcow2_metadata.specs.HeaderWrite.{bytes_of_numbers}
pub use Rattle.qcow2_metadata.specs.HeaderWrite.{reftable_pointer_written, size_written, l1_table_pointer_written}
pub use Rattle.qcow2_metadata.specs.L2Mapping.{old_data_run, IsHostCluster, greatest_offset}
pub use Rattle.qcow2_metadata.specs.L2Table.{L2TableView, cover_at, entries_of, copied_entry, copied_host, zero_entry}
pub use Rattle.qcow2_metadata.specs.MetadataError.{storage_result}
unfoldable pub use Rattle.qcow2_metadata.specs.Named.{named_by_reftable, named_for_tables, named_by_l1_table}
pub use Rattle.qcow2_metadata.specs.Named.{in_cluster, table_in, in_run}
pub use Rattle.qcow2_metadata.specs.RefBlock.{RefBlockView, ChangesCount, count_at, counts_of, IsRefBlock, count_limit, count_in}
pub use Rattle.qcow2_metadata.specs.TableBytes.{entry_at, HasPlace, ChangesEntry, IsOfStorageOrMemory}
pub use Rattle.qcow2_metadata.specs.EntryTable.{IsReasonNotToLoad}
unfoldable pub use Rattle.qcow2_metadata.specs.Tables.{known}
pub use Rattle.qcow2_metadata.specs.Tables.{CachedTable, overlays}
pub use Rattle.qcow2_metadata.specs.declared.error.MetadataError.{MetadataError}
pub use Rattle.qcow2_metadata.specs.declared.header.HeaderFields.{HeaderFields}
pub use Rattle.qcow2_metadata.specs.declared.l2_mapping.L2Mapping.{L2Mapping}
pub use mathlib.Core.Path.{fun_ext}
