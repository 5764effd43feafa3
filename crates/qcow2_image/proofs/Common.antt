-- The names that several proofs cite, passed on from one place. Declares nothing.
pub use Rattle.std.proofs.Common.{ℕ, Bool, true, false, List, [], refl, sym, ap, ◌∙◌, subst, arith, Option, Some, None, IsTrue, nat_lt, Result, Ok, Err, IsErr, IsErrAnd, inl, inr, length, zero, suc, IsSome, IfOk, IfErr, ⊎_elim, cond, eqb, mul_assoc, min, nat_le, is_some, replicate, lit<, max, get_or, rules, IsFalse, map, mul-pos, take}
pub use Rattle.std.proofs.Math.Nat.{le_trans, div-lt_iff_lt-mul, div-mul-le_self, le_refl, div-zero, div-div-eq-div-mul, mul-le-mul_right, div-eq_of_lt}
pub use Rattle.std.proofs.Math.Pow.{pow_mono, shr_mono}
pub use Rattle.std.proofs.lemmas.Bool.{cond-true, cond-false, or_left, or_right, or_cases, cases_eq, eq-eqb, ne_eqb, cases_lt, le-ltb, lt-ltb, and_from, and_left, and_right, le-leb, lt-leb, cases_Bool, ltb-true, eqb-true, leb-true}
pub use Rattle.std.proofs.lemmas.Bool.Decides.{nat_tests}
pub use Rattle.std.proofs.lemmas.Grind.{common_steps}
pub use Rattle.std.proofs.lemmas.List.{append_assoc, append-nil, length-replicate, get_or-replicate, length-append, nil_from_length, take-replicate, length_push}
pub use Rattle.std.proofs.lemmas.Nat.{mul-le, pow_pos, div-add-mod', div-mul-add, mod-mul-add, mod_below, pow-add, le-div, one_shl}
pub use Rattle.std.proofs.lemmas.Option.{slice_get_within, slice_get-get_or, slice_get_read}
pub use Rattle.std.proofs.lemmas.Result.{IfErr-weaker, IfOk-weaker, on_ok_weaker}
pub use Rattle.std.specs.Int.{w64, to_be_bytes, trailing_zeros, bit_at}
pub use Rattle.std.specs.Map.{lookup}
pub use Rattle.std.specs.Option.{option_map_or, option_or, option_flatten, SomeIff}
pub use Rattle.std.specs.Prelude.{slice_get, not, MatchOption, IfSome, OnOk, slice_set, option_map, OnErr, IsOk, IsNone, vec_capacity, MatchResult, unwrap_or}
pub use Rattle.image_access.proofs.Bytes.{byte_at-bytes_at, byte_at-overwritten, length-bytes_at, byte_at-overwritten_outside, length-resized, byte_at-overwritten_below, byte_at-overwritten_behind, bytes_at_past}
pub use Rattle.image_access.proofs.EachMomentSince.{whole_or_nothing, passes_if, passes_on, rose_since, passes_none, passes_change}
pub use Rattle.image_access.specs.Backing.{BackingView}
unfoldable pub use Rattle.image_access.specs.Contents.{overwritten, resized, bytes_at}
pub use Rattle.image_access.specs.Moments.{StorageView, Calls, Changes, ContentsStay, QuietCalls, Rose, EachMomentSince, IsLeftBy, ContentsBecome, UnlessErr, HasCause}
pub use Rattle.image_access.specs.declared.error.StorageError.{StorageError}
pub use Rattle.image_access.specs.declared.storage.PreallocateMode.{PreallocateMode}
pub use Rattle.qcow2_alloc.proofs.AllocationSteps.{handed_on, fault_of_storage}
pub use Rattle.qcow2_alloc.proofs.CachedEntries.Lists.{pinned_gone, pinned_kept, length-pinned, none_of}
pub use Rattle.qcow2_alloc.proofs.FileInvariants.{file_invariant_of, file_fits, file_inserts, file_loads}
pub use Rattle.qcow2_alloc.proofs.FileSteps.{file_step_on, pending_same, one_here, cached_safe_throughout, one_few}
pub use Rattle.qcow2_alloc.proofs.HeaderClusters.{bytes_stay, same_kept, below_others, bytes_then, call_keeps, fewer_stay, quiet_keeps}
pub use Rattle.qcow2_alloc.proofs.KeptAllocators.{allocator_kept, refused_kept, spared_kept, freed_kept, anew_kept}
pub use Rattle.qcow2_alloc.proofs.KeptMarks.{notes_none, notes_then, notes_of_storage, notes_of_both, notes_of_marks, placed_kept, told_kept}
pub use Rattle.qcow2_alloc.proofs.KeptNotes.{read_kept}
pub use Rattle.qcow2_alloc.proofs.KeptTables.AllWritten.{written_then, written_none}
pub use Rattle.qcow2_alloc.proofs.KeptTables.Causes.{faults_alone}
pub use Rattle.qcow2_alloc.proofs.KeptTables.Getting.{cluster_aligned}
pub use Rattle.qcow2_alloc.proofs.KeptTables.Named.{AreCurrentIn, current_entry, loaded_named}
pub use Rattle.qcow2_alloc.proofs.KeptTables.Places.{named_have_places}
pub use Rattle.qcow2_alloc.proofs.KeptTables.Standing.{own_cluster}
pub use Rattle.qcow2_alloc.proofs.KeptTables.Switching.{safe_none, always_ok, safe_keep}
pub use Rattle.qcow2_alloc.proofs.ListedAfter.{header_same, header_then, header_format}
pub use Rattle.qcow2_alloc.proofs.Outcomes.{err_as, not_both, never, on_no_ok, on_ok, if_no_ok}
pub use Rattle.qcow2_alloc.proofs.PlacedBlocks.{file_sizes, known_there, IsFree, covers_written, file_step_rewritten, reftable_rewritten}
pub use Rattle.qcow2_alloc.proofs.Runs.{run_in, run_before, run_after, run_none, run_last}
pub use Rattle.qcow2_alloc.proofs.Steps.{told_of}
pub use Rattle.qcow2_alloc.specs.Allocation.{run_at, taken_as, InternalAllocatorGrowth, RefusedGrowth, Allocates, Frees, SameLeaks, AllocatesAt, HasBytesAt}
pub use Rattle.qcow2_alloc.specs.AsyncLruCache.{is_pinned, pinned, pins_at, value_at}
pub use Rattle.qcow2_alloc.specs.BehindHeader.{LeaveHeaderCluster, KeepBehindHeader}
pub use Rattle.qcow2_alloc.specs.CachePins.{KeepsPinsAndNotes, IsInUseOrFault, l2_pins, SameTables, CachesHaveRoom, LeavesPinned, AreAllPinned, CountsTableChanges}
pub use Rattle.qcow2_alloc.specs.ClustersToFree.{data_entry, metadata_entry}
pub use Rattle.qcow2_alloc.specs.CountedChanges.{counts_none, CountsChanges}
pub use Rattle.qcow2_alloc.specs.Faults.{FaultsReported, CountsFaults, faults_of}
pub use Rattle.qcow2_alloc.specs.FreeList.{with_listed, ListsTables, pending_then}
pub use Rattle.qcow2_alloc.specs.CacheCauses.{MayFailInsertingL2, MayFailLoadingL2}
pub use Rattle.qcow2_alloc.specs.ImageError.{of_storage, of_metadata, IsOfReftableLoad, IsOfTables, IsOfTablesIf, IsFault, IsFaultOr}
pub use Rattle.qcow2_alloc.specs.ImageFile.{state_in, contents_in, known_in, nothing_given, view_in, has_noted, FileInvariant, KeepsHeader, InternalFileStep, InternalFileGrowth, HasReftable, InterruptedFileStep, AllocatorInvariant}
pub use Rattle.qcow2_alloc.specs.ImageStorage.{storage_of, changes_of, is_changed_of, SameNotes}
pub use Rattle.qcow2_alloc.specs.KeptAllocators.{IsAllocatorOf}
pub use Rattle.qcow2_alloc.specs.KeptMarks.{KeepsFileNotes, HaveRisen}
pub use Rattle.qcow2_alloc.specs.KeptNotes.{KeepsNotes, kept_same}
pub use Rattle.qcow2_alloc.specs.Limits.{IsPastLimits, HasNoPlace, CantCount}
pub use Rattle.qcow2_alloc.specs.LoadedTables.{IsReasonAgainstL1Table, IsReasonAgainstReftable, L1TableReads, ReftableReads, HasUnreadEntry}
pub use Rattle.qcow2_alloc.specs.LowestRuns.{KeepsNoFreeBelowHint, NoFreeBelowHint, BrokeOff, SearchesAnew, IsUsed, IsPassed}
pub use Rattle.qcow2_alloc.specs.MetadataCaches.{IsEntryAt, l2_at, MadeEntry, known_of, MapsCachedEntry, order_of, CacheInvariant, l2_tables, refblocks, AreAllWritten, InternalCacheStep, ShowsKnown, ChangesKnownEntry, rb_at, Evict, EvictsTable, HoldsKnown, RecordsEntry, InsertKeeps}
pub use Rattle.qcow2_alloc.specs.Quiet.{IsQuiet, KeepAllWritten, GetsTableQuietly}
pub use Rattle.qcow2_alloc.specs.SparedHeaders.{CachesSpareHeader, StandsBehindHeader, SparesBytes, SparesHeader, PreservesHeaderButPointer, NamesReftableBehind}
pub use Rattle.qcow2_alloc.specs.TableCaches.{IsTableOf}
pub use Rattle.qcow2_alloc.specs.declared.allocation.Allocator.{Allocator}
pub use Rattle.qcow2_alloc.specs.declared.async_lru_cache.slot.Slot.{Slot}
pub use Rattle.qcow2_alloc.specs.declared.cache.MetadataCaches.{MetadataCaches}
pub use Rattle.qcow2_alloc.specs.declared.clusters_to_free.ClusterKind.{ClusterKind}
pub use Rattle.qcow2_alloc.specs.declared.clusters_to_free.ClustersToFreeEntry.{ClustersToFreeEntry}
pub use Rattle.qcow2_alloc.specs.declared.error.ImageError.{ImageError}
pub use Rattle.qcow2_alloc.specs.declared.error.ImageError.TheVariants.{TablePrepared, Memory, OutdatedMapping, Dependency, UnalignedTable, Overflow, Version, Storage, NotCompressed, ForeignState, ReadOnly}
pub use Rattle.qcow2_alloc.specs.declared.image_file.ImageFile.{ImageFile}
pub use Rattle.qcow2_alloc.specs.declared.image_storage.ImageStorage.{ImageStorage}
pub use Rattle.qcow2_disk.proofs.Compose.{stops_of, stops_as, stops_none, rests_none, works_then, works_less, TouchesLess, shown_is, stops_less}
pub use Rattle.qcow2_disk.proofs.ForUsers.{laid_outside, laid_inside, put_given}
pub use Rattle.qcow2_disk.proofs.HeaderRest.{header_rest_same, header_rest_then, header_rest_back}
pub use Rattle.qcow2_disk.proofs.Within.{within_is}
pub use Rattle.qcow2_disk.specs.AbstractImages.{Setting, Guest, guest_of, meaning_at, AbstractImage, IsOpened, HasFreePlaces, stored_bytes, IsWhole, Abstraction, abstract_image}
pub use Rattle.qcow2_disk.specs.Alike.{AreDataAt, IsDataAt, IsAlike, IsAlikeRun, IsLongestRun, IsAlikeAt}
pub use Rattle.qcow2_disk.specs.Calls.{EffectOnSound, RefusedEffect, IsSame, storage, IsRefusalByFault, AnsweredEffect, Refusal, with_slot, cleared, with_disk, to_kept_zero, another, shows_old, given_by_grow, IsShrinkEnd, Shows, Clearing, to_zero, to_backing, EffectOnFailed, Stops, MayGrow, CallEffect, IsShrunk, not_compressed}
unfoldable pub use Rattle.qcow2_disk.specs.Disk.{disk_with}
pub use Rattle.qcow2_disk.specs.Disk.{disk, Disk, zeroed_between, with_bytes, uncovered, grown, shrunk, with_values}
pub use Rattle.qcow2_disk.specs.Found.{rest_of_table, IsCompressed, kind_at, Kind, raw, indirect, zeros, special, eof, IsCompressedAt, IsFoundIn}
pub use Rattle.qcow2_disk.specs.GrownCovers.{first_zeros, Touches, GrownCovers}
pub use Rattle.qcow2_disk.specs.HeaderRest.{KeepsHeaderRest}
pub use Rattle.qcow2_disk.specs.Mappings.{PreparedMapping, IsPrepared, given_shown, given_by_commit, committed, first_of, end_of, is_copied_data, given_by_put, put_disk, put_mapping, IsHiddenIn, given_of}
pub use Rattle.qcow2_disk.specs.Rules.{answered, touched_to, touched_from}
pub use Rattle.qcow2_disk.specs.Stops.{GivenBytes, SafeThroughout, IsGiven, Checkpoint, StopOkEverywhere, checkpoint_at, checkpoint_with, IsAsked, LeavesKept}
pub use Rattle.qcow2_disk.specs.UngivenCovers.{UngivenStay, IsUngiven}
pub use Rattle.qcow2_image.specs.Backings.{HasPinnedMapping}
pub use Rattle.qcow2_image.specs.BehindHeader.{IsBesideNumbers, IsL1TableBehind, KeepsTablesBehind, NamesTablesBehind, PreservesHeaderCluster, TablesBehindHeader, KeepsL1TableBehind, LiesBehindHeader}
pub use Rattle.qcow2_image.specs.CallParts.{RefusedCall, InternalCall, FindsTable, IsReadied, PreparesRange, EndsFreeing, CommitsAll, EntersAll, ShowsPart, CommitsPart, IsEntered, IsWriteOutcome, PutsPart, WritesBytes, IsExisting, put_guest, Readies, InterruptedCall, AreCopied, StaysBeside, IsPut}
pub use Rattle.qcow2_image.specs.Calls.{AnswersGiving, refusal_of, AnswersCall, Discards, FlushesImage, Prepares, Puts, all_given_by_put, Commits}
pub use Rattle.qcow2_image.specs.Clearing.{ClearsImageCovers, ClearsPart, ClearsTable, IsUnderMapping, IsClearable, MayClear, ReadsAll, ReadsDropped, cover_once_cleared, given_bytes_between, is_between, listed_by, setting_of, shown_by, AreCleared, Clears, RefusesUngiven, from_in, needs_zero_entries, refuses_to_clear, rounds_past, to_in, ClearsEntry, is_cleared, ClearsOrRefuses, RefusesClearing, all_given_by_clear, with_caches, cleared_entry}
pub use Rattle.qcow2_image.specs.ClearingCalls.{ClearsSoundly, ClearsStep, FailsToClear, ClearsInTable}
pub use Rattle.qcow2_image.specs.CopyRange.{HasByte, announced_range_of, copy_range_of, uncut_copy_range}
pub use Rattle.qcow2_image.specs.Created.{Enlarges, IsNewDisk, IsPreallocated, IsStopOfCreating, IsUnwritten, ShowsZeros, StopsCreating, IsReasonAgainst, backing_format_in, backing_name_in, data_file_name_in, IsCreated, IsReasonNotToCreate, longest_disk, StaysCreating, IsNewHeader, IsMade, IsThreeWith, WritesThree, begins_image, CountsThree, NamesOne, AllocatesPlace, HasLogarithms, IsAllowed, IsReasonNotToCreateOpen, LacksPlaceCreating, IsUnmapped, HoldsNewDisk, OpensGrown, empty_of, IsCoverOf}
pub use Rattle.qcow2_image.specs.DataFiles.{CallsBeside, DataFileStep}
pub use Rattle.qcow2_image.specs.Faults.{faults_beside, CountsImageFaults, SameFaults, ReportsEachIn, ReportsFault, NoFewerFaults, OneRose, IsNotOfStorage, ReportsEach}
pub use Rattle.qcow2_image.specs.Found.{l1_index_of, l2_index_of, kind_in, mapping_of, NamesL2Table, found_kind, IsRunBehind, AreAlikeBehind, IsAlikeTo, IsFoundInImage, IsFoundWhole, IsMappedAs, writable_place, further_by, IsRunFrom, is_data_file}
pub use Rattle.qcow2_image.specs.Growing.{FitsSize, Extends, Lasts, ReachesSize, SameFormat, WritesBack, LastsCall, LastsKnown, LastsPart, KeepsSurplus, LeavesSound}
pub use Rattle.qcow2_image.specs.HeldMappings.{IsCompressedInTables, IsHeldFrom, RefusesHeld, StaysHeld, FitsTables, IsHeldAs, IsLongestSo, named_place, IsMappedBy, IsMappedSo, KeepsHeld, IsHeldRun, ReadsAs}
pub use Rattle.qcow2_image.specs.Image.{HasPinnedTable, is_beside, is_failed, is_placed_by_guest, place_in, lacks_data_file, is_writable, size_of, IsBegun, number_of, ImageStays, has_noted_change, IsSameImage, with_marks, leaked_in, storage_of_image, HasNothingToFree, leaked_by, KeepsRestOn}
pub use Rattle.qcow2_image.specs.ImageInvariant.{below_of, of_data, of_tables, to_free, new_data_by, over_all, pending_in, abstract_of, meaning, is_entered, is_new, is_private, is_hidden, place_of, mapping_of_cluster, backing_bytes, ImageInvariant, faults_below, IsPending, IsReadyWith, disk_of, listed_run, pins_by, cluster_of, new_data_in, host_begin_of, IsNewAt, IsClusterMappingAt, IsReady, IsHonestBacking, pins_of, image_abstraction, HasL1Table, run_of, surplus_in, begin_of, IsKeptAt, IsGuestAt, Mappings, in_image, set_slot, over_slots, bytes_for, bytes_beside, known_for, contents_for, IsAt, IsInside, abstraction_at}
pub use Rattle.qcow2_image.specs.ImageSteps.{ImageFails, ImageStep, ImageStepWhere, ReadingStep, CallStep, ReadingCall}
pub use Rattle.qcow2_image.specs.InternalSteps.{pending_with_listed, ListGrows, InternalStep, InternalFreeingStep, NamesOwn, KeepsCopied, Ensures, InternalFillingStep, RefusedFillingStep, RefusedStep, FreesLater, Pins, HoldsTable, old_data_by, freed_by, FreesListed, HoldsAll, is_announced, IsFilled, AllocatesData, SameHeld, IsKeptAlone, IsGained, InterruptedStep, DropsNothing, EntersMapping, AreThere, IsInHeldCluster, InterruptedPart, EntersCluster, Gains}
pub use Rattle.qcow2_image.specs.Invalidated.{RespectsPrepared, HoldsNoTable, IsAtRest, IsReasonAgainstPlaces, IsReasonAgainstReading, IsOfPrepared, IsStillInUse, MayFailToInvalidate, KeepsTables, ReadsPlaces, ReplacesTables, reftable_in, ReadsTables, ArePlacesFor, DropsCached, IsAsStored, IsReasonNotToRead, ReadsAnew, HoldsPinnedAlone, WritesNothing}
pub use Rattle.qcow2_image.specs.L1Entries.{ReachesOffset, ReachingStays, HasOwnTable, NeedsOverflowingL1Entry, IsPlacedNear, HasNearEntry, L1EntryOverflows, EndsBefore, HasOwnEntry}
pub use Rattle.qcow2_image.specs.ChangeCauses.{AreCausesOf, Causes, causes_if, HasCompressedCached, IsCompressedStill}
pub use Rattle.qcow2_image.specs.UnalignedTables.{HasUnalignedCached, HasUnalignedOffset, KeepsOffsets}
pub use Rattle.qcow2_image.specs.LookupCauses.{HasUnalignedAt, HasUnalignedBehind, HasUnalignedEntry, HasUnalignedFrom, IsKindIn, IsTableUnaligned, IsUnalignedIn, MayFailFinding, MayFailFindingAgain, MayFailPuttingAt, MayFailReadingFound, MayFailTelling}
pub use Rattle.qcow2_image.specs.Limits.{IfLimit, GoesTo, IsLimited, l1_clusters, IsLimitedAmong, IsLimitedIn, IsLimitedTaking, IsLimitedInternal, IsLimitedWith, LacksPlace, entries_reaching}
pub use Rattle.qcow2_image.specs.ListedClusters.{ListsNoMore}
pub use Rattle.qcow2_image.specs.LongerTables.{RefusedMove, with_table, without_l1, StandsWhole, InternalMove, NamesTable, clusters_of, IsLongerL1, PlacesTable, AllocatesTable, MakesEntry, run_of_table, listed, InterruptedMove, NamesTaken, Lengthens}
pub use Rattle.qcow2_image.specs.MayFail.{MayFailCopying, MayFailFilling, MayFailWriting, MayFailLooking, HasCompressedIn, MayFailGrowing, KeepsL1Place, IsCacheHeld, IsSpecial, CopiesCompressed, HasNearEntries, MayFailAllocating, MayFailAlone, MayFailMapped, MayFailReading, HasUnannounced, IsCopiedCompressed, MayFailLookingAgain, MayFailPutting, copied_end}
pub use Rattle.qcow2_image.specs.MovedTables.{MovesTables, CoversStay}
pub use Rattle.qcow2_image.specs.NewTables.{IsFaultOrLacksTable, MayName, SaysKnown, IsStored, StandsReady, NamesCopied, replacing, LacksTable, OwnsTable, PlacesNewTable, NamesNew, WritesNew, EntersTable, IsFaultOrKeepsL1Table, NamesShared, Stores}
pub use Rattle.qcow2_image.specs.Noted.{ChangesRose, FailsOnceWritten, NoFewerChanges, RecordsChanges, PutsOnce, CommitFailsOnceWritten, CountsImageChanges, HasMoreChanges, MarksOnceChanged, RecordsPart}
pub use Rattle.qcow2_image.specs.Opened.{IsKeptSince, needs_another, Opens, IsFresh, StaysFresh, LeavesFile, needs_missing, IsOpenedFrom, LeavesStorage, OpensAtOnce, StandsOpened, StandsRefused, opened_contents, IsLoaded, SameNames, HasNamesIn, NeedsAnother, NeedsMissing}
pub use Rattle.qcow2_image.specs.PinnedTables.{FindsOwn, RespectsPins, PreparesUnpinned, own_table, own_pins, LiesInOwn, IsWritableInTables, ExistsInTables}
pub use Rattle.qcow2_image.specs.Preallocation.{FilledCovers, FillsPart, RefusedFill, ChangesFree, FillsOrRefuses, FillsSome, InterruptedGiving, IsUnderMappingIn, MayBeZero, given_by_zeros, FillsGrown, FillsGrownInPart, FillsGrownOrRefuses, RefusedGrown, filled_to, all_given_by_growing, GrownFree, FillsFirst, IsWholeRange, CommitsWhole, AreZeros, most_of}
pub use Rattle.qcow2_image.specs.Prepared.{file_of, table_of, offset_of, length_of}
pub use Rattle.qcow2_image.specs.PreparedPlaces.{IsMarkedBehind, IsOwn, IsPlacedBehind, MarkedIsBehind}
pub use Rattle.qcow2_image.specs.Preparing.{IsTaken, IsAnswered, IsPlaceOf, IsWritableAt, IsHeldAlone, IsKeptBy}
pub use Rattle.qcow2_image.specs.Ranges.{ReleasesOneMapping, MayGoOn, AllocatesDataAt, Ends, FindsBehind, ClusterMappingsAt, StandsBehind, BeginsInKept, IsExtended, BreaksOff, GainsAt, IsFirst, IsSharedAt, Reaches, HasRoomForRange, IsLongerMapping, IsNext, EndsWithCluster, GoesNext, GoesOn}
pub use Rattle.qcow2_image.specs.Readable.{IsJustifiedRefusal, IsNewlyOpened, OpeningStep, files_missing, IsReasonAgainstTables, NeededTablesRead, OpensRightly, IsTableRefused, HeaderSuits, IsReadable}
pub use Rattle.qcow2_image.specs.Refusals.{passes, refuse_if, refuses_to_prepare, unusable, MayFail, MayFailIf, MayFailOn, MayFailUncopied, MayFailToRead, MayFailToGrow, FreesRefused, MayFailPreparing, failed_after, MarksFailed, MarksRefused, IsUnlimited, IsFaultOrLimit, failed_by}
pub use Rattle.qcow2_image.specs.Resizing.{GrowsTo, all_given_by_grow, refuses_to_resize, takes_over, boundary_in, RefusesUnchanged, SetsSize, WritesSize, WritesSizeLast, GrowsTables, LacksZeros, Shrinks, DiscardsNext, all_given_by_shrink, all_given_by_shrunk, RefusesDiscard, StopsAt, StopsStep, IsTurnEnd, DiscardsPart, DiscardsTail, TurnStep, DiscardsStep, LeavesTables, IsResized, size_after, GrowsLast, MayFailShrinking, CantDiscard, ShowsBelow, MayStand, ShrinksSoundly, DiscardsClusters}
pub use Rattle.qcow2_image.specs.Unwritten.{ContentsStayThroughout, ReadsQuietly, LoadsQuietly, LooksQuietly, OnlyLooks}
pub use Rattle.qcow2_image.specs.WriteSteps.{KeepingStep, AllocatingStep, BeginsSoundly, PuttingCall, FillingStep, AllocatingStepWhere, keeping, CanEnter}
pub use Rattle.qcow2_image.specs.declared.builder.Qcow2CreateBuilder.{Qcow2CreateBuilder}
pub use Rattle.qcow2_image.specs.declared.copy_range.CopyRange.{CopyRange}
pub use Rattle.qcow2_image.specs.declared.discarding.ClearMode.{ClearMode}
pub use Rattle.qcow2_image.specs.declared.discarding.ClearMode.TheVariants.{Zeros, KeptZeros}
pub use Rattle.qcow2_image.specs.declared.image.Missing.{Missing}
pub use Rattle.qcow2_image.specs.declared.image.Qcow2.{Qcow2}
pub use Rattle.qcow2_image.specs.declared.mapping.MappingKind.{MappingKind}
pub use Rattle.qcow2_image.specs.declared.mapping.MappingKind.TheVariants.{Raw}
pub use Rattle.qcow2_image.specs.declared.mapping.Place.TheVariants.{Image, DataFile}
pub use Rattle.qcow2_image.specs.declared.opening.Qcow2OpenBuilder.{Qcow2OpenBuilder}
pub use Rattle.qcow2_image.specs.declared.prepared.ClusterMapping.{ClusterMapping}
pub use Rattle.qcow2_image.specs.declared.prepared.ClusterMapping.TheVariants.{InPlace, Kept, New}
pub use Rattle.qcow2_image.specs.declared.prepared.CommitRefused.{CommitRefused}
pub use Rattle.qcow2_image.specs.declared.prepared.Prepared.{Prepared}
pub use Rattle.qcow2_laws.proofs.Alike.{run_less, run_data, run_first, run_begins, clusters_on, clusters_end, run_longest, run_shows_data, run_shows_zero, run_shows_uncovered, are_alike, longest_is}
pub use Rattle.qcow2_laws.proofs.Beside.{overwritten_but, l1_entry_beside}
pub use Rattle.qcow2_laws.proofs.Blocks.{table_once, entry_top, entry_counts}
pub use Rattle.qcow2_laws.proofs.CachedChanges.{Takes, takes_own, takes_nothing, takes_new_data}
pub use Rattle.qcow2_laws.proofs.Caches.{clean_counts, shared_covers, unnamed_free_l2, unnamed_free_rb}
pub use Rattle.qcow2_laws.proofs.Consistency.{in_own}
pub use Rattle.qcow2_laws.proofs.Formats.{l1_format, format_then, cover_format, size_format, format_same, guests_format, cover_with, covers_format}
pub use Rattle.qcow2_laws.proofs.GuestLaws.{size_stays_in_calls, longer_l1_table_keeps_guests}
pub use Rattle.qcow2_laws.proofs.Guests.{own_data_of, named-is, over_guests-same, own_names, past_guests}
pub use Rattle.qcow2_laws.proofs.Headers.{header_known_counts, header_l1, header_reftable, header_elsewhere, header_fixed, header_known_l1, header_known_covers}
pub use Rattle.qcow2_laws.proofs.Internal.{unseen_disk, unseen_then, known_header, named_some, unseen_known, unseen_l2_table, table_bytes}
pub use Rattle.qcow2_laws.proofs.KeptClusters.{kept_aligned, kept_unlaid, kept_committed, kept_written, kept_zeroed}
pub use Rattle.qcow2_laws.proofs.MappedAnew.{pending_after, entry_uncovered, entry_zeroed, Maps, private_committed, committed_new_data, committed_old_data}
pub use Rattle.qcow2_laws.proofs.Mixes.{tied}
pub use Rattle.qcow2_laws.proofs.NewImages.{new_image_consistent, new_image_exact}
pub use Rattle.qcow2_laws.proofs.Places.{Sizes-from, Sizes, cover_at, cover_none, l1_entry-past, div_mono, in_one, has_table, cover_in, reftable-same, block_count-moved, l1-same, count_none, has_block}
pub use Rattle.qcow2_laws.proofs.PutRuns.{beside_tables, private_written, run_written}
pub use Rattle.qcow2_laws.proofs.SafeSteps.{safe_step_then, steps_safe_throughout, pending_safe_throughout, safe_throughout_then, step_safe_throughout, safe_step_none, safe_throughout_none, entries_safe_throughout, entry_safe_throughout, more_twice, safe_throughout_asking, safe_throughout_write, keep_safe_throughout, done_safe_throughout, write_safe_throughout, data_safe_throughout}
pub use Rattle.qcow2_laws.proofs.Shares.{run_has, shares, in_l1, l1_has, l1_reftable, table_has, block_has, count_stays, two_tables}
pub use Rattle.qcow2_laws.proofs.Steps.{pending_is_changed, header_is_written, data_is_written, sound_is_consistent, table_is_named}
pub use Rattle.qcow2_laws.proofs.Tops.{for_tables-top, IsTop-top}
pub use Rattle.qcow2_laws.specs.Caches.{AreNamedBlocks, AreClean, BlocksMayGo, HasBlock, CacheInvariantOver, IsFreeAt, IsFreeOf, HasL2, HasOwnL2}
pub use Rattle.qcow2_laws.specs.Changes.{new_data_to_old_data, renamed, new_tables_to_old_tables, with_new_data, one_at, with_new_tables}
pub use Rattle.qcow2_laws.specs.Clusters.{Direction, RbDependsOnL2, Neither}
pub use Rattle.qcow2_laws.specs.CrashInvariant.{Pending, SameCovers, CrashInvariant, SameIn, IsTop}
pub use Rattle.qcow2_laws.specs.GuestLaws.{MapsEntry, Hosting, IsHostedAt, WritesRun, IsHeld, ClearsRange, MapsInTurn, IsZeros, KeepsGuests, IsGivenAt}
unfoldable pub use Rattle.qcow2_laws.specs.Guests.{over_guests}
pub use Rattle.qcow2_laws.specs.Guests.{table_at, names, named_by_guest, guests, marks, marked_by_guest}
pub use Rattle.qcow2_laws.specs.Internal.{SameUsedBytes, used_by_guests, KeepsFormat, SameOtherCovers, IsInternal}
pub use Rattle.qcow2_laws.specs.NewImages.{IsNewImage}
pub use Rattle.qcow2_laws.specs.Opened.{HasNoLeaks, surplus_of, nothing_pending}
pub use Rattle.qcow2_laws.specs.SafeSteps.{StateInvariant, SafeStep, DriverState}
pub use Rattle.qcow2_laws.specs.Steps.{guest_at, EntryChanges}
pub use Rattle.qcow2_laws.specs.Tops.{places_of, with_places, WritesHeader, with_l1_at, resized_places, WritesAt, IsSameBut, IsNewL1, Places, IsSameOutside, WritesL1Entry, IsNewTable}
pub use Rattle.qcow2_laws.specs.Writes.{IsUnnamed}
pub use Rattle.qcow2_metadata.proofs.MadeEntries.{cover_of-0, copied_host_is, cover_of-zero_entry, cover_of-copied_entry, cluster_is_host}
pub use Rattle.qcow2_metadata.proofs.NamedRuns.{named_by_cover-run}
pub use Rattle.qcow2_metadata.proofs.StillHeader.{autoclear_still}
unfoldable pub use Rattle.qcow2_metadata.specs.Bytes.{laid_over, number_at}
pub use Rattle.qcow2_metadata.specs.Bytes.{Bytes, byte_at, one_if, is_within}
pub use Rattle.qcow2_metadata.specs.Consistent.{CoverIsAligned, IsConsistent, Consistent}
unfoldable pub use Rattle.qcow2_metadata.specs.Cover.{cover, cover_of, cover_under}
pub use Rattle.qcow2_metadata.specs.Cover.{entry_cover}
unfoldable pub use Rattle.qcow2_metadata.specs.Entries.{l1_entry, l2_entry, count, reftable_entry, count_under, block_count}
pub use Rattle.qcow2_metadata.specs.Entries.{is_copied, host_offset, block_offset, L1EntryReads}
pub use Rattle.qcow2_metadata.specs.EntryTable.{EntryTableView, entry_count, entry_table, IsL1TableOf, HasRoomIfPlaced, IsOfLengthOrMemory, NamesL1Table, SomeUnread}
unfoldable pub use Rattle.qcow2_metadata.specs.Guest.{guest_value}
pub use Rattle.qcow2_metadata.specs.Guest.{known_byte, Value, value_under}
unfoldable pub use Rattle.qcow2_metadata.specs.Header.{header}
pub use Rattle.qcow2_metadata.specs.Header.{cluster_size, without_autoclear, HeaderView, entries_per_cluster, has_data_file, rounded_up, rounded_down, HeaderReads, counts_per_block, reftable_entries, with_fields, with_l1_table, with_reftable, with_tables_of, with_size, backing_format_kind, data_file_kind, count_width}
pub use Rattle.qcow2_metadata.specs.HeaderLoad.{IsHeaderIn, HasAlignedTables, IsReasonToRefuse}
unfoldable pub use Rattle.qcow2_metadata.specs.HeaderWrite.{bytes_of_numbers, numbers_of, header_bytes}
pub use Rattle.qcow2_metadata.specs.HeaderWrite.{l1_table_pointer_written, size_written, CanBeNew, new_fields, header_written, autoclear_cleared, new_header, HasNewNames, extension_size, name_extension, name_place}
pub use Rattle.qcow2_metadata.specs.L2Mapping.{IsInReach, old_data_run, named_run, IsHostCluster, greatest_offset, is_same_run, HasAlignedHost}
pub use Rattle.qcow2_metadata.specs.L2Table.{L2TableView, copied_host, zero_cover, entries_of, copied_entry, copied_kept, IsEntryHost, l2_table, zero_entry}
pub use Rattle.qcow2_metadata.specs.MetadataError.{OnlyReads}
unfoldable pub use Rattle.qcow2_metadata.specs.Named.{named_for_tables, named, named_by_l1_table, named_by_reftable}
pub use Rattle.qcow2_metadata.specs.Named.{named_by_cover, in_cluster, in_run, table_in}
pub use Rattle.qcow2_metadata.specs.RefBlock.{RefBlockView, count_at, counts_of, IsRefBlockAt, IsRefBlock, ChangesCount, count_limit}
pub use Rattle.qcow2_metadata.specs.TableBytes.{entry_at, HasPlace, ChangesEntry}
unfoldable pub use Rattle.qcow2_metadata.specs.Tables.{known}
pub use Rattle.qcow2_metadata.specs.Tables.{CachedTable}
pub use Rattle.qcow2_metadata.specs.declared.error.MetadataError.{MetadataError}
pub use Rattle.qcow2_metadata.specs.declared.header.HeaderFields.{HeaderFields}
pub use Rattle.qcow2_metadata.specs.declared.l2_mapping.L2Mapping.{L2Mapping}
pub use Rattle.qcow2_metadata.specs.declared.l2_mapping.L2Mapping.TheVariants.{Uncovered, Data, Zero, Compressed}
pub use mathlib.Core.Path.{fun_ext}
pub use Rattle.qcow2_alloc.proofs.GrownTables.{run_few}
