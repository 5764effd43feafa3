-- The names that several proofs cite, passed on from one place. Declares nothing.
pub use Rattle.std.proofs.Common.{inl, inr, ℕ, Bool, true, IsTrue, ap, ◌∙◌, subst, arith, List, length, Option, Some, None, Result, Ok, Err, ⊎_elim, min, [], take, drop, false, refl, sym, not, Bor, IfErr, is_some, suc, eqb, replicate, zero, map, get_or, rules, vec_len, leb, ltb, pow_mono, cond, vec_capacity}
pub use Rattle.std.proofs.Math.Nat.{zero-mod, div-add-mod, mod-eq_of_lt, mul-add-mod_self_left, div-div-eq-div-mul, add-mod_right}
pub use Rattle.std.proofs.lemmas.Bool.{cases_lt, cases_Bool, cond-true, cond-false, ltb-true, eq-eqb, lt-ltb, ne_eqb, cases_eq, leb-true, leb-false, ltb-false, le-ltb, and_parts}
pub use Rattle.std.proofs.lemmas.Grind.{common_steps}
pub use Rattle.std.proofs.lemmas.List.{length-replicate, map-append, take-append-le, length-take-le, get_or-replicate, append-nil, take-append-drop, take-take, take_more, take_all, take_rest}
pub use Rattle.std.proofs.lemmas.Nat.{div-add-mod', div-mul-add, mod_below, pow_pos}
pub use Rattle.std.proofs.lemmas.Option.{slice_get_read, slice_get-get_or}
pub use Rattle.std.specs.Global.{Global}
pub use Rattle.std.specs.Option.{option_or, option_flatten}
pub use Rattle.std.specs.Prelude.{IfSome, Vec, nat_lt, IfOk, IsSome, MatchOption, slice_get, OnOk, IsNone, slice_set, IsErr, IsErrAnd, option_map, IsOk}
pub use Rattle.image_access.proofs.Bytes.{same_contents, length-bytes_at, byte_at-bytes_at, length-resized, byte_at-resized, byte_at-resized_past, length-overwritten_within, byte_at-overwritten, byte_at-overwritten_below, byte_at-overwritten_behind}
pub use Rattle.image_access.specs.Backing.{BackingView}
unfoldable pub use Rattle.image_access.specs.Contents.{bytes_at, overwritten, resized}
pub use Rattle.image_access.specs.Moments.{StorageView, HasCause, Rose, EachMomentSince}
pub use Rattle.image_access.specs.declared.error.StorageError.{StorageError}
pub use Rattle.qcow2_alloc.proofs.AllocationSteps.{fault_of_storage}
pub use Rattle.qcow2_alloc.proofs.KeptTables.AllWritten.{written_then, written_none}
pub use Rattle.qcow2_alloc.specs.ImageError.{of_storage, IsFaultOrLimit}
pub use Rattle.qcow2_alloc.specs.ImageFile.{known_in, contents_in, state_in, nothing_given, view_in}
pub use Rattle.qcow2_alloc.specs.MetadataCaches.{IsEntryAt, ShowsKnown}
pub use Rattle.qcow2_alloc.specs.declared.error.ImageError.{ImageError}
pub use Rattle.qcow2_alloc.specs.declared.error.ImageError.TheVariants.{Memory, InvalidOption, OutdatedMapping, BeyondSize, TablePrepared, ReadOnly, Preallocation, NotCompressed}
pub use Rattle.qcow2_disk.proofs.Compose.{stops_none, rests_none, TouchesLess, works_less, shown_is, works_then, rests_then, stops_resting}
pub use Rattle.qcow2_disk.proofs.RunSteps.{done_as, refused_as, begins, none_as, refused_told, IsAnswer, gave_less, ran_none, ran_more, flushed_as, completes, refines_the_disk}
pub use Rattle.qcow2_disk.specs.AbstractImages.{AbstractImage, Setting, Abstraction, HasFreePlaces, Guest, abstract_image, guest_of, HostRange, meaning_at}
pub use Rattle.qcow2_disk.specs.Alike.{AreDataAt, IsAlike, IsDataAt}
pub use Rattle.qcow2_disk.specs.Calls.{another, Shows, Clearing, Refusal, memory, storage, not_compressed, IsRefusalByFault, AnsweredEffect, RefusedEffect, IsSame, MayWrite, WritesSome, with_disk, with_slot, EffectOnSound, CallEffect, to_zero, cleared_at, given_by_clear, IsShrinkEnd, IsShrunk, given_by_shrink, given_by_shrunk, to_backing, to_kept_zero}
pub use Rattle.qcow2_disk.specs.Disk.{Disk, with_bytes, disk}
pub use Rattle.qcow2_disk.specs.Found.{kind_at, raw, rest_of_table, Kind, IsFoundIn, IsCompressed, eof, indirect, special, zeros, IsFound, IsCompressedAt}
pub use Rattle.qcow2_disk.specs.Headline.{IsHeadline, shown_below, setting_in}
pub use Rattle.qcow2_disk.specs.Mappings.{given_of, PreparedMapping, IsPrepared, put_disk, put_mapping, committed, given_by_put, given_by_commit, is_copied_data, IsPrivateIn, IsHiddenIn}
pub use Rattle.qcow2_disk.specs.Runs.{get_mapping, prepare, done, prepared_is, refused, State, RefinesState, RefinesCommand, CommandStep, Found, found_after, commit, discard, begun, HasNoInvalidation, started, misuse, read, write, bytes_are, write_refused, clear, IsRightlyWritten, mapping_is, CommandMeaning, given_at, given_by, put, grow, number_is, shrink, Run, RefinesRun, IsRightlySpecial, KeepsUnflushed, RefinesDisk, RefinesWholeRun}
pub use Rattle.qcow2_disk.specs.Stops.{IsGiven, GivenBytes, Checkpoint, checkpoint_at, IsSafeAfter, StopOkEverywhere}
pub use Rattle.qcow2_disk.specs.UngivenCovers.{Touches, IsUngiven}
pub use Rattle.qcow2_image.proofs.Call.BehindHeader.{behind_none, behind_then}
pub use Rattle.qcow2_image.proofs.Call.CacheErrors.{finding_read, found_read, telling_or, telling_read}
pub use Rattle.qcow2_image.proofs.Call.KeptOffsets.{met_kept, putting_met, released_offsets}
pub use Rattle.qcow2_image.proofs.Call.FailingErrors.{freeing_met, freeing_read, met_any, read_met, storage_met, storage_read, tables_read}
pub use Rattle.qcow2_image.proofs.Prepare.PinnedL2Tables.{freed_untaken, met_untaken}
pub use Rattle.qcow2_image.proofs.Call.FaultCounts.{faults_then, counted_on, counted_since, each_since, fewer_of, rose_after, tells_since, untouched, counted_still}
pub use Rattle.qcow2_image.proofs.Call.OnceWritten.{changes_before, counts_on, counts_still, counts_released, changes_later, once_none}
pub use Rattle.qcow2_image.proofs.Call.Unlimited.{fault_unlimited, storage_unlimited}
pub use Rattle.qcow2_image.proofs.Images.Free.{free_places, data_inside, whole, nothing_since}
pub use Rattle.qcow2_image.proofs.Images.HiddenBytes.{header_is, hidden_in}
pub use Rattle.qcow2_image.proofs.Images.Sizes.{disk_size, sound_is_usable}
pub use Rattle.qcow2_image.proofs.Images.UngivenCovers.{touches_part, touches_less}
pub use Rattle.qcow2_image.proofs.Map.Quiet.{reads_none, reads_same, reads_aside}
pub use Rattle.qcow2_image.proofs.Prepare.FailingAllocations.{taking_as, taking_kept}
pub use Rattle.qcow2_image.proofs.Prepare.LimitCauses.{limited_from, other_limit, limited_joined, limited_giving, limited_upto}
pub use Rattle.qcow2_image.proofs.Resize.Shrinking.{fault_of}
pub use Rattle.qcow2_image.specs.Backings.{HasPinnedMapping}
pub use Rattle.qcow2_image.specs.BehindHeader.{PreservesHeaderCluster}
pub use Rattle.qcow2_image.specs.Calls.{refusal_of, AnswersGiving, AnswersCall, reason_of, Commits, FlushesImage, Prepares}
pub use Rattle.qcow2_image.specs.Clearing.{IsUnderMapping, from_in, refuses_clearing, to_in, setting_of}
pub use Rattle.qcow2_image.specs.Faults.{CountsImageFaults, IsNotOfStorage, SameFaults, NoFewerFaults, ReportsFault}
pub use Rattle.qcow2_image.specs.Found.{l1_index_of, IsFoundWhole, found_kind, further_by, mapping_of}
pub use Rattle.qcow2_image.specs.HeldMappings.{FitsTables, IsCompressedInTables, IsHeldAs, IsHeldRun, RefusesHeld}
pub use Rattle.qcow2_image.specs.Image.{HasPinnedTable, is_beside, place_in, is_failed, lacks_data_file, is_writable, size_of, number_of, IsSameImage, storage_of_image, HasNothingToFree}
pub use Rattle.qcow2_image.specs.ImageInvariant.{abstract_of, ImageInvariant, disk_of, pending_in, meaning, backing_bytes, IsReadyWith, image_abstraction, abstraction_at, Mappings, in_image, set_slot, over_slots, to_free, of_tables, of_data, IsPending, cluster_of, pins_by, IsHonestBacking}
pub use Rattle.qcow2_image.specs.L1Entries.{NeedsOverflowingL1Entry}
pub use Rattle.qcow2_image.specs.Limits.{IsLimited, IfLimit}
pub use Rattle.qcow2_image.specs.ListedClusters.{ListsNoMore}
pub use Rattle.qcow2_image.specs.LookupCauses.{MayFailFinding, MayFailReadingFound, MayFailTelling}
pub use Rattle.qcow2_image.specs.MayFail.{CopiesCompressed, MayFailReadingRange, MayFailAllocating, IsCacheHeld, MayFailLooking, MayFailMapped, MayFailAlone, HasCompressedIn, MayFailPutting, IsSpecial, MayFailLookingAgain, MayFailSpecial}
pub use Rattle.qcow2_image.specs.Noted.{CountsImageChanges, CommitFailsOnceWritten, FailsOnceWritten}
pub use Rattle.qcow2_image.specs.Opened.{IsKeptSince, Opens}
pub use Rattle.qcow2_image.specs.Preallocation.{IsUnderMappingIn}
pub use Rattle.qcow2_image.specs.Prepared.{file_of, IsHandedBackBy, guest_offset_of, length_of, offset_of, table_of, image_of}
pub use Rattle.qcow2_image.specs.Preparing.{IsAnswered, IsTaken, IsOfNothing}
pub use Rattle.qcow2_image.specs.Ranges.{ReleasesOneMapping}
pub use Rattle.qcow2_image.specs.PinnedTables.{ExistsInTables}
pub use Rattle.qcow2_image.specs.Refusals.{refuse_if, passes, unusable, refuses_to_read, refuses_to_prepare, refuses_mapping, MayFail, MayFailOn, MayFailToRead, MayFailPreparing, IsUnlimited, MarksFailed, MarksRefused, failed_after}
pub use Rattle.qcow2_image.specs.Resizing.{refuses_to_resize, GrowsTo, Shrinks, WritesSizeLast, IsResized, takes_over}
pub use Rattle.qcow2_image.specs.Unwritten.{ReadsQuietly, ContentsStayThroughout, HoldsNothingModified}
pub use Rattle.qcow2_image.specs.declared.image.Missing.{Missing}
pub use Rattle.qcow2_image.specs.declared.image.Qcow2.{Qcow2}
pub use Rattle.qcow2_image.specs.declared.mapping.Mapping.{Mapping}
pub use Rattle.qcow2_image.specs.declared.mapping.Place.TheVariants.{Image, DataFile}
pub use Rattle.qcow2_image.specs.declared.prepared.CommitRefused.{CommitRefused}
pub use Rattle.qcow2_image.specs.declared.prepared.CommitRefused.TheVariants.{Kept, Spent}
pub use Rattle.qcow2_image.specs.declared.prepared.Prepared.{Prepared}
unfoldable pub use Rattle.qcow2_metadata.specs.Bytes.{laid_over}
pub use Rattle.qcow2_metadata.specs.Bytes.{byte_at, is_within, Bytes}
unfoldable pub use Rattle.qcow2_metadata.specs.Cover.{cover}
pub use Rattle.qcow2_metadata.specs.Guest.{Value, known_byte}
unfoldable pub use Rattle.qcow2_metadata.specs.Header.{header}
pub use Rattle.qcow2_metadata.specs.Header.{cluster_size, entries_per_cluster, rounded_down, rounded_up}
pub use Rattle.qcow2_metadata.specs.declared.header.HeaderFields.{HeaderFields}
pub use Rattle.qcow2_metadata.specs.declared.l2_mapping.L2Mapping.{L2Mapping}
pub use Rattle.qcow2_metadata.specs.declared.l2_mapping.L2Mapping.TheVariants.{Data, Zero, Compressed, Uncovered}
pub use Rattle.qcow2_session.specs.ReadCauses.{MayFailReadingFrom}
pub use Rattle.qcow2_session.specs.Causes.{RefusalJustified, HasNothingToDo, MayFailOnSound, IsUntouchedUnder, MayFailWith, ReportsMisuse, first_cause, ClearingMayFail, CommandMayFailAllocating}
pub use Rattle.qcow2_session.specs.Commands.{reply_of_clearing, reply_of, command_of, ReportsPlain, ReportsSpecial}
pub use Rattle.qcow2_session.specs.Conversions.{RefusedConversion, IsRawOf, Imports, ImportsAll, ImportsAnyOf, DiffersWhereKept, IsRefusedUnequal, IsFilledUpTo, Fills, MayFailImporting, IsReasonNotToWrite, HasSome, ImportsAt, ImportsAny, ImportsAnyAt, IsKeptFromWriting, IsUnchanged, IsLeft}
pub use Rattle.qcow2_session.specs.CountedFaults.{refusal_in, CommandCounts, RunCounts, ConversionCounts, ReportsConversion}
pub use Rattle.qcow2_session.specs.Marks.{FailsBy, MarksInParts, MarksAtOnce, MarksConversion, reason_in, MarksBy}
pub use Rattle.qcow2_session.specs.Opening.{bytes_below, missing_beside, EachMomentOpensAgain, HadNoRoom, Headline, MayRefuseToOpen, OpensAgain}
pub use Rattle.qcow2_session.specs.Sessions.{IsRightlyBeyond, IsOfReading, ReadsInto, Writes, EndsCluster, cluster_size_of, LeavesCopied, mapping_at, mappings_in, range_of, RespectsFirst, IsRespectedAt, IsUntouched, ReleasesMappings, Reads, HasWritten, StandsByPart, LooksUp, looked_up_after, found_in, StopsFor, ReadsFirst, WritesFirst}
pub use Rattle.qcow2_session.specs.Told.{RunPoint, StepsAlong, AreExisting, AreReportedAlong, StaysQuiet, KeepsItself, first_point, free_slots, ReportsRange, IsLeftQuietly, IsNeverWritten, IsReportedStep, abstract_at, IsReportedRun, SlotsAfter, ReplyMatchesImage}
pub use Rattle.qcow2_session.specs.declared.session.Command.{Command}
pub use Rattle.qcow2_session.specs.declared.session.Reply.{Reply}
pub use mathlib.Core.Path.{fun_ext}
pub use Rattle.qcow2_image.proofs.Call.Slots.{get_set_same, set_set, set_same, get_set}
pub use Rattle.std.proofs.lemmas.Result.{IfErr-weaker}
pub use Rattle.qcow2_image.proofs.Clear.ClearedCalls.{same_image_then}
