-- The lemmas that several proofs cite, passed on from one place. Declares nothing.
pub use Rattle.qcow2_alloc.proofs.AllocationSteps.{on_of, allocator_step_on, leaves_as, of_equal, on_none, handed_on, leaves_on, may_still, is_sound_on, takes_on, allocator_step_cached, is_sound_now, allocates_then, allocator_step_none, still_sound, allocator_step_as, still_as, place_fits, lacking_none, lacking_more, entries_entered, may_lower_still, counted_at, given_one, owed_counted, owed_has_block, named_then, named_covered, none_named, allocator_step_then, gets_then, gets_taken, none_in_memory, stands_none, gets_placed, lacking_clone, taken_one, names_refblock, fault_of_storage, table_loaded, entered_has, behind_none, entries_then, entries_less, other_range}
pub use Rattle.qcow2_alloc.proofs.CachePins.{marks_tables, marks_blocks, marks_then}
pub use Rattle.qcow2_alloc.proofs.CacheSteps.{cache_step_none, soundly_none, cache_step_then, soundly_then, step_in_turn, step_turned, soundly_turned, switched_at_once, switched_after, differ, l2_not_rb, neither_rb, held_none, load_step_on, load_step_then, fails_cache, fails_less, fails_putting, fails_of_tables, loads_of_tables, put_step_as, put_step_on, put_step_then, puts_refused, keeps_written, rb_not_l2, neither_l2, watched_step, watched_soundly, rb_flushed_step, rb_flushed_soundly, l2_flushed_step, l2_flushed_soundly}
pub use Rattle.qcow2_alloc.proofs.CachedEntries.Flushing.{Flushing, flushing_more, flushing_all, length_flushed, flushed_at, failed_at}
pub use Rattle.qcow2_alloc.proofs.CachedEntries.Knowing.{lookup-promoted, removed_apart, all_keeps, flushed_entry_keeps, failed_entry_keeps, hit_keeps, gets_keeps, inserted, replaced}
pub use Rattle.qcow2_alloc.proofs.CachedEntries.Lists.{lookup-from_entry, pinned_kept, pinned_gone, demoted_front, removed_front, set_front, lookup_front, option_or-none, length-promoted, none_of, promoted_none, entry_none, length-pinned, none_is_none}
pub use Rattle.qcow2_alloc.proofs.CachedEntries.Pins.{all_keep_pins, pins_promoted, gets_keep_pins, pins_same, inserts_keep_pins, replaces_keep_pins, pins_pinned, all_pinned}
pub use Rattle.qcow2_alloc.proofs.CachedEntries.Staying.{stays_promoted, gets_stay, stays_same, inserts_stay, replaces_stay, stays_then, values_stay}
pub use Rattle.qcow2_alloc.proofs.ChangedTables.{changed_by, entry_apart, entry_made_so, entry_set, entry_step, entry_there, if_some_then, stays, table_stays_apart, block_stays_apart, count_after, count_apart, count_set, count_step, count_there, unchanged_by}
pub use Rattle.qcow2_alloc.proofs.Faults.{flush_refused, told_as, rb_flush_tells, l2_flush_tells}
pub use Rattle.qcow2_alloc.proofs.FileInvariants.{file_invariant_of, file_fits}
pub use Rattle.qcow2_alloc.proofs.FileSteps.{pending_same, one_here, leaves_then, file_step_on, on_then, on_interrupted_after, file_step_cached, reftable_cached, file_step_then, interrupted_then}
pub use Rattle.qcow2_alloc.proofs.FormerReftables.{former_none, former_one, former_still}
pub use Rattle.qcow2_alloc.proofs.FreedLists.{listed_stay, listed_then, run_lowered, run_stays, listed_as_well, listed_first}
pub use Rattle.qcow2_alloc.proofs.Freeing.{free_more, but_both, frees_then, but_first}
pub use Rattle.qcow2_alloc.proofs.HeaderClusters.{placed_elsewhere}
pub use Rattle.qcow2_alloc.proofs.Hints.{used_stays, uses_then, passed_same, hint_more, hint_raised, hint_refused, raised_used, range_as, uses_raised, uses_refused, hint_stays, ok_as, passed_still, header_used, taken_used, search_then, kept_then, not_broken, hint_lowered, is_zero, lowered_so, stands_still, lacking_above, hint_got, hint_placed, has_entries, hint_used, uses_got, hint_or_interruption, search_by, search_same, search_after, search_as, kept_refused, not_in_run, taken_pending, hint_passed, hint_taken, hint_header, lowest_behind, lowest_first, lowest_passed, lowest_stays}
pub use Rattle.qcow2_alloc.proofs.KeptMarks.{marks_of_caches, marks_with, kept_marks_then, kept_marks_none, told_kept, marks_of_storage, placed_kept}
pub use Rattle.qcow2_alloc.proofs.KeptNotes.{note_kept}
pub use Rattle.qcow2_alloc.proofs.KeptRuns.{hint_kept, invariant_for, search_kept, moved_on, stayed, stood_still}
pub use Rattle.qcow2_alloc.proofs.KeptTables.ApartCalls.{apart_then, table_kept_apart, table_put_apart, tables_under_then, block_kept_apart, block_put_apart, blocks_under_then}
pub use Rattle.qcow2_alloc.proofs.KeptTables.ApartOff.{tables_taken_apart, blocks_taken_apart, removed_apart_block}
pub use Rattle.qcow2_alloc.proofs.KeptTables.BehindHeader.{tables_left_behind, blocks_left_behind, removed_behind}
pub use Rattle.qcow2_alloc.proofs.KeptTables.Causes.{given_err, not_fetched, table_load_refused, not_put, table_put_refused, block_load_refused, block_put_refused, blocks_flush_refused, tables_flush_refused, tables_fit_as, blocks_fit_as, table_load_as, table_put_as, block_load_as, block_put_as, tables_fit, all_fit, rb_place, fault_alone, faults_alone, block_alone}
pub use Rattle.qcow2_alloc.proofs.KeptTables.Changing.{still_new_data}
pub use Rattle.qcow2_alloc.proofs.KeptTables.Clean.{tables_as, table_put_clean, clean_as, flush_clean, flush_free}
pub use Rattle.qcow2_alloc.proofs.KeptTables.Counting.{count_is, raised, lowered}
pub use Rattle.qcow2_alloc.proofs.KeptTables.Fetching.{none_or_some, table_got, block_got}
pub use Rattle.qcow2_alloc.proofs.KeptTables.Flushing.{blocks_written, tables_written}
pub use Rattle.qcow2_alloc.proofs.KeptTables.Getting.{cluster_aligned}
pub use Rattle.qcow2_alloc.proofs.KeptTables.InOrder.{order_then, table_put_in_order, block_put_in_order}
pub use Rattle.qcow2_alloc.proofs.KeptTables.Inserting.{if_some, l2_taken, taken_at_last, rb_taken}
pub use Rattle.qcow2_alloc.proofs.KeptTables.Loaded.{loaded_beside}
pub use Rattle.qcow2_alloc.proofs.KeptTables.Mapping.{bits_is, covers_known}
pub use Rattle.qcow2_alloc.proofs.KeptTables.Named.{AreCurrentIn, loaded_named, current_none}
pub use Rattle.qcow2_alloc.proofs.KeptTables.Off.{left_of, left_err, tables_taken, blocks_taken, removed_others, removed_marks, removed_takes, removed_clean, removed_gone}
pub use Rattle.qcow2_alloc.proofs.KeptTables.Places.{put_places, named_have_places}
pub use Rattle.qcow2_alloc.proofs.KeptTables.Putting.{put_at_last, laid_then, table_kept, table_laid}
pub use Rattle.qcow2_alloc.proofs.KeptTables.PuttingBlocks.{block_kept, block_laid}
pub use Rattle.qcow2_alloc.proofs.KeptTables.Quiet.{quiet_none, quiet_then, blocks_quiet, tables_quiet}
pub use Rattle.qcow2_alloc.proofs.KeptTables.Standing.{own_cluster}
pub use Rattle.qcow2_alloc.proofs.KeptTables.Switching.{tables_free, blocks_free, tables_clean, blocks_either, both_written, blocks_clean, blocks_still, always_ok, may_l2_depend, stay_then, may_rb_depend}
pub use Rattle.qcow2_alloc.proofs.Limits.{cause_as, count_back, host_of_few, host_below, is_able, placed_fault, range_near, fault_or, grown_why, not_below, full_behind, limit_is_no_fault}
pub use Rattle.qcow2_alloc.proofs.ListedAfter.{listed_after_same, header_counts, more_taken, ends_taken, then_leaves, header_bits, still_taken, grows_none, grows_on, header_same, header_then, lists_same, lists_then, then_none, then_taken}
pub use Rattle.qcow2_alloc.proofs.MadeClusters.{lists_used_still, alone_none, alone_since, made_run, lists_used_none, made_before, made_one, made_refused, made_untaken, lists_used_one, made_entered, made_unentered}
pub use Rattle.qcow2_alloc.proofs.Marks.{bit, count_at_most}
pub use Rattle.qcow2_alloc.proofs.NamedBlocks.{entry_write_as, real, safe_throughout_named, named_so}
pub use Rattle.qcow2_alloc.proofs.NewRefblocks.{new_blocks_kept, new_blocks_none, new_blocks_flushed, new_blocks_refused, has_cached_block, of_place, overlay_of, uncached_next}
pub use Rattle.qcow2_alloc.proofs.Outcomes.{on_no_ok, if_no_ok, on_ok, not_both, handed_unaligned, ok_no_err, entries_none, on_err, never}
pub use Rattle.qcow2_alloc.proofs.PlacedBlocks.{file_sizes, IsFree, covers_written, known_there, is_free, file_step_rewritten, reftable_rewritten, write_as}
pub use Rattle.qcow2_alloc.proofs.PlacedRooms.{EntersSo, Counting, opens_range, enters_none, enters_first, counting_first, has_some}
pub use Rattle.qcow2_alloc.proofs.RoomSteps.{entries_aligned, of_three, rest_then, placed_more, range_within, run_within, counts_as, room_enters, room_counts, may_go}
pub use Rattle.qcow2_alloc.proofs.RoomTables.{counting_beside, table_err, table_ok, stands_ready, names_then, uses_after}
pub use Rattle.qcow2_alloc.proofs.RoomWrites.{free_in_run, allocator_step_removed, removed_stays, table_refused, table_stands}
pub use Rattle.qcow2_alloc.proofs.Rooms.{ends_room, one_none, free_taken, opened_none, still_noted, run_of_same, noted_of_same, noted_of_room, run_past, left_none, left_one, left_fault, owed_now, counted_few, run_taken, run_not_taken, opened_more, more_short, is_flag, flag_few, noted_more, empty_run}
pub use Rattle.qcow2_alloc.proofs.Runs.{run_in, run_before, run_after, taken_alone, none_there, run_last, run_none, taken_none, taken_first, new_data_more}
pub use Rattle.qcow2_alloc.proofs.SparedHeaders.{not_first, spares_then, spares_listed, spares_pointer, placed_above, spares_entry, at_place, spares_cached, spares_tables, spares_written}
pub use Rattle.qcow2_alloc.proofs.Steps.{fails_moved, fails_by_fault, fails_aligned, never_unaligned, tables_more, fails_by, fails_ok, memory_other, step_none, fails_on, fails_since, step_as, step_on, step_then, data_then, data_cached, table_step_none, table_step_as, fails_still, table_step_cached, other_as, table_step_then, table_step_tables, limit_other, step_grown, pointer_step_on, pointer_step_then, free_in_turn, turn_cached, turn_then, growth_step_none, growth_step_on, fails_storage, same_faults, fails_loaded, table_step_dropped, table_step_part, pointer_step_to, fails_of}
pub use Rattle.qcow2_alloc.proofs.TableErrors.{storage_of_tables}
pub use Rattle.qcow2_alloc.proofs.TableMarks.{marks_set, settled_right, mark_looked, kept_same, is_there, is_missing, touched, touched_none, next_out, none_out, removed_next, fewer_without, pinned_without}
pub use Rattle.qcow2_alloc.proofs.UnalignedLeaks.{leaks_as, leaks_then}
pub use Rattle.qcow2_alloc.proofs.Uses.{none_marked, unplaced_is, placed_so, numbered_same, room_placed, room_unplaced, found_below, removed_numbered, removed_is, room_removed}
