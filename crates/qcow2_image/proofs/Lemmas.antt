-- The lemmas that several proofs cite, passed on from one place. Declares nothing.
pub use Rattle.qcow2_image.proofs.Call.Answered.{same_guest, same_slot, same_mapping, same_meaning, freeing_step_kept}
pub use Rattle.qcow2_image.proofs.Call.BehindHeader.{behind_call, behind_none, behind_then, behind_allocated, behind_by, behind_tables, behind_begun, behind_caches, behind_l1, behind_placed, entry_behind, l1_entered, behind_bits, behind_pointer, begins_behind, l1_placed, behind_zero, behind_freed, behind_guard, behind_wrote, behind_read, behind_first, above_zero, table_behind}
pub use Rattle.qcow2_image.proofs.Call.CacheErrors.{finding_read, found_read, telling_read, unaligned_as}
pub use Rattle.qcow2_image.proofs.Call.CallOutcomes.{outcome_answered, is_fault, outcome, outcome_refused}
pub use Rattle.qcow2_image.proofs.Call.Called.{Quietly, quiet_same, quiet_sound, quiet_works, keeps_then, refuses_early, works_none, listed, quietly_then, quiet_does, quiet_refuses, told_answers, tells_quietly}
pub use Rattle.qcow2_image.proofs.Call.FaultCounts.{counted_marked, counted_ok, fewer_of, untouched, counted_on, counted_since, counted_as, counted_still, same_told, faults_then, same_of, counted_of}
pub use Rattle.qcow2_image.proofs.Call.ImageSteps.{step_then, step_none, step_where}
pub use Rattle.qcow2_image.proofs.Call.Marked.{marks_since, MayMarkBy, MayMark, may_mark_refused, refused_since, marks_memory, may_mark, noted_marks, refused_on}
pub use Rattle.qcow2_image.proofs.Call.Notes.{table_kept, same_kept, pins_kept}
pub use Rattle.qcow2_image.proofs.Call.OnceWritten.{fails_once, fails_none, part_none, changes_before, changes_later, answered_counts, counts_begun, fails_marked, kept_noted, notes_begun, notes_part, notes_since, once_marked, commit_fails_none, counts_on, counts_released, parts_then, call_then, answered_once, failed_part, kept_fewer, refused_once, counts_noted}
pub use Rattle.qcow2_image.proofs.Call.Refused.{refuses_left, refused_then, stays_kept, image_step_stays, stays_then, back_then_freed, back_refused, prepares_after, readied_after, finds, finds_after, left_refused}
pub use Rattle.qcow2_image.proofs.Call.Slots.{get_set_same, set_same, set_set, set_slot_same, set_slot_set, over_all_two, get_set, over_all_put, slot_set, length_set}
pub use Rattle.qcow2_image.proofs.Call.Stepped.{Steps, stepped_sound, stepped_works}
pub use Rattle.qcow2_image.proofs.Call.Unlimited.{short_fault, looking_unlimited, fault_unlimited, in_use_unlimited, short_unlimited, storage_unlimited}
pub use Rattle.qcow2_image.proofs.Call.WriteSteps.{filling_none, keeping_of_filling, keeping_of_read, taking_none, filling_written, taking_of_filling, filling_of_read, filling_then, taking_listed, taking_then, filling_pinned, taking_where, where_then, where_with, keeping_then}
pub use Rattle.qcow2_image.proofs.Clear.Between.{clears_between, no_pins, pinned_under, under_pinned}
pub use Rattle.qcow2_image.proofs.Clear.ClearCalls.{begins, clear_works, clears_early, clears_nothing, if_some, not_refused, refused_for, ungiven_early, whole_in, under_after, works_if, clear_interruption, clear_covers, clear_done, clear_refused, fault_interruption, under_before, ungiven_interruption, ungiven_refused, err_is, covers_after}
pub use Rattle.qcow2_image.proofs.Clear.Touched.{none_answered, some_answered, rounded_from}
pub use Rattle.qcow2_image.proofs.Commit.Entered.{EntersFirst, entered_whole, enters_all, first_false, first_true}
pub use Rattle.qcow2_image.proofs.Commit.Released.{discards}
pub use Rattle.qcow2_image.proofs.Create.Causes.{usable_opened, reasons_made, reasons_of, is_allowed, opening_unlimited, told_closed, told_opening}
pub use Rattle.qcow2_image.proofs.Create.Creating.{format_stored, grown_rest, grown_unwritten, growing_stops, unwritten_as, opening_stops, opens_unwritten, stops_at_none, created_then, creating_stops, grew_then, made_by, new_header_is, three_stops, flushed_enlarges, enlarged_so, unwritten_mid}
pub use Rattle.qcow2_image.proofs.Create.Faults.{grown_refused, unmapped_opened, memory_fault, grown_fault, opening_fault}
pub use Rattle.qcow2_image.proofs.Create.NewDisks.{grow_gives_zeros, kept_either, kept_since, kept_zeros, preallocated_none, preallocated_so, starts_unwritten, unwritten_covers, unwritten_uncovered, zeros_new}
pub use Rattle.qcow2_image.proofs.Create.ThreeWrites.{stops_cleared, writes_then, stops_first, stops_second, stops_third, new_stands, three_there}
pub use Rattle.qcow2_image.proofs.Flush.Freeing.{all_listed, beside, freed_refused, tidy_stays, flushes_with_outcome, frees_on, frees_listed, frees_fault, ends_freeing, frees_any, freeing_step_on}
pub use Rattle.qcow2_image.proofs.Grow.GrownByParts.{call_since, lasts_then, reaches_so, call_none, written_back, call_marked, known_then, lasts_asking, lasts_step, shown_none, freed_part, moved_part, freed_since, lasts_none}
pub use Rattle.qcow2_image.proofs.Grow.L1Lengths.{fits_grown, index_moved, place_same, reaching_stays, reaches_begun, reaches_on, reaches_told, own_after}
pub use Rattle.qcow2_image.proofs.Grow.ReplacedL1Table.{freed_then, makes_none, refused_moved, stays_moved, none_taken_for_table, refused_none, table_named_blocks, longer_taken, is_longer, lengthened, listed_moved, named_then}
pub use Rattle.qcow2_image.proofs.Images.Apart.{pins_own, apart_guests}
pub use Rattle.qcow2_image.proofs.Images.Backings.{some_prepared, table_prepared, found_pinned, none_prepared}
pub use Rattle.qcow2_image.proofs.Images.ClusterMappings.{never_private, byte_cluster, byte_place, byte_of_mapping, Standing, in_new, in_kept, over_all_at, private_shared, private_stands, ready_table, mapping_here, mapping_there, place_in, new_data_at, new_data_once, host_cluster, private_used, freed_none}
pub use Rattle.qcow2_image.proofs.Images.Formats.{entry_at_format, l1_shared, lists_grow}
pub use Rattle.qcow2_image.proofs.Images.Free.{free_places, data_inside}
pub use Rattle.qcow2_image.proofs.Images.Inside.{names_inside}
pub use Rattle.qcow2_image.proofs.Images.Moved.{data_moved, file_step_then, format_file_step, stay_then, format_stay}
pub use Rattle.qcow2_image.proofs.Images.Moving.{file_moved, leaked_still}
pub use Rattle.qcow2_image.proofs.Images.Ready.{still_ready}
pub use Rattle.qcow2_image.proofs.Images.Sizes.{sound_is_usable, disk_size}
pub use Rattle.qcow2_image.proofs.Images.Sound.{free_more, pending_is}
pub use Rattle.qcow2_image.proofs.Images.UngivenCovers.{touches_less, all_stay}
pub use Rattle.qcow2_image.proofs.Invalidate.Reading.{silent_none, silent_then, stays_over, same_places, notes_through, places_read, same_notes, silent_moved, silent_read, begins_of, both_behind, l1_behind, l1_still, tables_read}
pub use Rattle.qcow2_image.proofs.Invalidate.TakenOver.{kept_then, on_refused, on_refused_map, not_above}
pub use Rattle.qcow2_image.proofs.Map.FailingLookups.{held_since, named_aligned, answers_met, cache_looking, named_entry}
pub use Rattle.qcow2_image.proofs.Map.FailingFinds.{unaligned_from, finding_more, finding_call, found_call, telling_call, putting_call, reading_found}
pub use Rattle.qcow2_image.proofs.Map.Held.{writable_held, held_whole, heeds_else, same_found, heeds_then, held_as, none_eof, heeds_on, keeps_marked, uncovered_held, run_held, keeps_storage, plain_marked, reads_marked, special_of, reads_from, still_loaded, heeds_from, held_begun}
pub use Rattle.qcow2_image.proofs.Map.Loading.{caches_moved, still_moved, with_caches, if_ok_any, read_moved, all_known}
pub use Rattle.qcow2_image.proofs.Map.Looked.{found_after, found_before, found_whole, mapped_as, none_past, none_found, cluster_near, says_known, run_found}
pub use Rattle.qcow2_image.proofs.Map.Quiet.{reads_call, reads_bytes, reads_same, kept_throughout, reads_none, looks_begun, looks_call, looks_none, looks_then, only_none}
pub use Rattle.qcow2_image.proofs.Open.Reftables.{allocator_moved}
pub use Rattle.qcow2_image.proofs.Preallocate.Covers.{boundary, covers_own, covers_stay, stay_covers}
pub use Rattle.qcow2_image.proofs.Preallocate.FailingFills.{never_past, met_piece, met_filling_freed, met_before, near_behind, met_behind, near_longer_ends, under_prepared, never_far}
pub use Rattle.qcow2_image.proofs.Preallocate.FillSteps.{same_size, filled_first, filled_next, filled_refused, still_at, same_version, zeroed_first, zeroed_next, zeroed_refused}
pub use Rattle.qcow2_image.proofs.Preallocate.Filled.{given_broken, taken_wider, refused_here, fill_unseen, fills_none, fills_refused, fills_stays, met_taken, refused_after, taken_here, fills_before, fills_or_refuses, zeros_from, cleared_fills, next_whole, next_within}
pub use Rattle.qcow2_image.proofs.Preallocate.FilledGrowth.{up_least, up_to_end, up_whole, early_refused, grown_none, grown_or_refused, up_rising}
pub use Rattle.qcow2_image.proofs.Preallocate.NoPreparedEntries.{never_two, same_row, untaken_grown, untaken_cleared}
pub use Rattle.qcow2_image.proofs.Preallocate.Pieces.{filled_shows, filled_sound, filled_works, gone_same, gone_works, none_of}
pub use Rattle.qcow2_image.proofs.Preallocate.Zeros.{may_none, zeros_of}
pub use Rattle.qcow2_image.proofs.Prepare.FailingAllocations.{looking_taking, taking_as, if_err_both, taking_kept}
pub use Rattle.qcow2_image.proofs.Prepare.FailingCopies.{copying_met, limit_alone, met_as, hands_met, kept_behind, behind_start, reading_met, told_sum, within_cluster, filling_met, new_behind, mapped_met, mapped_met_at}
pub use Rattle.qcow2_image.proofs.Prepare.FailingRanges.{alone_as, guest_fits, next_reads, place_aligned, place_fits, place_kept, place_then}
pub use Rattle.qcow2_image.proofs.Prepare.FailingTables.{met_freed, reading_fault, far_before, hands_alone, faults_looking}
pub use Rattle.qcow2_image.proofs.Prepare.FirstCluster.{listed_after_same, still_holds, taken_new_data, takes_data, takes_data_at, listed_after_on, image_step_left, taken_unused, filled_as}
pub use Rattle.qcow2_image.proofs.Prepare.FollowingCluster.{filled_there, host_is, next_cluster, table_is, behind_in_place, ends_elsewhere, finds_shared, next_says, next_begins}
pub use Rattle.qcow2_image.proofs.Prepare.InternalWrites.{image_step_kept, there_written, written_or_not, image_step_none, image_step_then, disk_kept, image_step_data, own_of, alike_within, same_new_data}
pub use Rattle.qcow2_image.proofs.Prepare.L1EntryWritten.{safe_throughout_named, named_so}
pub use Rattle.qcow2_image.proofs.Prepare.LimitCauses.{limits_as, hands_fault, faults_or_limit, faults_unlimited, hands_either, hands_limit, unlimited_all, other_limit, limits_left, left_taken, left_taken_at, cause_within, goes_step, limited_left, limited_frees, goes_begun, limited_since, limited_taking, hands_unlimited, limited_more, limited_unseen, placed_near, table_clusters, limited_giving, limited_upto, goes_then, limited_from, places_enter, limited_in_since, near_reached, near_placed}
pub use Rattle.qcow2_image.proofs.Prepare.MissingL2Table.{fault_alone, named_place, loads_looking, fault_or_lacking, not_within, short_lacking, lacks_past, owns_or_lacks}
pub use Rattle.qcow2_image.proofs.Prepare.NameablePlaces.{past_existing}
pub use Rattle.qcow2_image.proofs.Prepare.NewL2Table.{holds, keeps_placed, keeps_put, keeps_stored, places_when, stands_ready, stands_there}
pub use Rattle.qcow2_image.proofs.Prepare.NextCluster.{extended}
pub use Rattle.qcow2_image.proofs.Prepare.PinnedL2Tables.{finds_freed, finds_owns, lies_below, pinned_exists, refused_exists, found_pins, heeds_refused, met_untaken, begun_own, heeds_begun, freed_untaken, whole_quotient, unpinned_begun, prepared_unpinned, unpinned_refused}
pub use Rattle.qcow2_image.proofs.Prepare.RefusedAsPrepared.{taken_by}
pub use Rattle.qcow2_image.proofs.Prepare.RestOfCluster.{IsNowPending, mapping_at, prepared_by, private_inside, readied, one_mapping}
pub use Rattle.qcow2_image.proofs.Prepare.Unannounced.{copied_as, compressed_as, compressed_at}
pub use Rattle.qcow2_image.proofs.Prepare.UnlinkedL2Table.{none_taken, table_entered, table_refused, keeps_taken, says_still, as_listed_after, keeps_none, may_still, written_so}
pub use Rattle.qcow2_image.proofs.Prepare.WritableL2Table.{refused, keeps_loaded, holds_table, followed, says_copy, shared_still, owned_then, left_alone, swapped_owns, says_none, entered_owns, owns_already}
pub use Rattle.qcow2_image.proofs.Resize.DiscardedTails.{uncovers_as_many, uncovers_no_cluster}
pub use Rattle.qcow2_image.proofs.Resize.Shrinking.{of_fault, IsDiscardedSoFar, fault_of, marks_nothing, written_stops, next_so_far, none_so_far, tail_refused, tail_stops, begun_call, shrinks_done, shrinks_stopped, shrinks_unwritten, size_is_last, uncovered_honest}
pub use Rattle.qcow2_image.proofs.Resize.TailSteps.{none_between, works_asking, given_as, given_below, given_is, mono_up, shown_below, to_at_most, touches_before, turn_numbers}
pub use Rattle.qcow2_image.proofs.Write.Written.{written, writes, there, since_written, sound_written, same_l1_written, but, steps_written}
