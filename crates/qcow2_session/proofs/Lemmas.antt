-- The lemmas that several proofs cite, passed on from one place. Declares nothing.
pub use Rattle.qcow2_session.proofs.Answering.{error_is, first_of_all, not_both, not_old_tables, kept_is, none_to_free, unusable_first, lookup_answer, preparing_first, prepares_answer, reading_first, reads_answer, mapping_first}
pub use Rattle.qcow2_session.proofs.Beyond.{part_refused}
pub use Rattle.qcow2_session.proofs.Bytes.{cut_part, cut_short, shows_as, shows_both, first_two, cut_long}
pub use Rattle.qcow2_session.proofs.Causing.{same_error, then_none, clears_rightly, mapping_reading, is_done, is_misused, is_refused, kept_error, kept_same, not_failed, not_free, same_mapping, where_failed, where_works, is_answered, begun_with, some_error, holds, own_mapping, fits_below, read_answered, leaks_answered, read_refused, size_answered, none_of, put_reads, put_writes, then_early, grow_meets, takes_larger}
pub use Rattle.qcow2_session.proofs.Chunks.{may_write_none, put_refused, written, commit_old_tables, commit_kept}
pub use Rattle.qcow2_session.proofs.Converting.{shown_same, does_nothing, interrupted_if, interrupted_then, interrupted, interrupted_here, any_more, any_none, any_refused, imports_none, all_more, all_refused, same_range, at_refused, at_shown, at_written, at_unwritten, any_nothing, imports_nothing, imports_unflushed, imports_flushed}
pub use Rattle.qcow2_session.proofs.Copied.{kept_cover, same_size, same_index, copied_on, existing_or_not, kept_data, part_copied}
pub use Rattle.qcow2_session.proofs.Counting.{converted, converting_part, so_far_none, so_far_part, so_far_then, converting_image, converting_raw, so_far_call, fewer_since, image_tells, image_marks, converting_else, none_counted, run_counts_more, run_counts_still, commit_since}
pub use Rattle.qcow2_session.proofs.Exporting.{part_of_disk, unchanged_refused, fills_more, filled_same, filled_more, filled_first, filled_all, zeros_there}
pub use Rattle.qcow2_session.proofs.FailingOnSound.{compressed_within, reads_part, memory_looking, looking_prepared, found_there, reads_found, compressed_in_part, existing_found, existing_long, existing_near, put_unlimited, compressed_behind, put_looking}
pub use Rattle.qcow2_session.proofs.Marking.{cleared_at_once, refused_none, answered_at_once, in_parts, refused_at_once, parts_answered, parts_handed, at_rest, commit_at_once, memory_marks, unmarked, parts_behind, parts_beyond, none_answered, once_handed, unchecked, parts_before, call_at_once}
pub use Rattle.qcow2_session.proofs.Meanings.{found_at, none_at, does_commit, refuses_commit, does_discard, found_set, taken, untaken, so_in_slot, host_at, prepared_at, does_prepare, found_fits, isnt_beyond, is_beyond, live, mapped_here, passes_mapped, ranges_after, does_put, refuses_put, is_past}
pub use Rattle.qcow2_session.proofs.Parts.{not_failed_yet, part_reads, part_under, mapping_usable, part_prepares, prepares_usable, under_taken, prepares_within, prepares_writable, put_current, put_met, found_current}
pub use Rattle.qcow2_session.proofs.Places.{set_again, get_front, last_none, last_release, surplus_none}
pub use Rattle.qcow2_session.proofs.Quiet.{quiet_left, quiet_image, quiet_commit, quiet_release, quiet_silent, along_quietly}
pub use Rattle.qcow2_session.proofs.Runs.{GoesOn, command_step_on, map_more}
pub use Rattle.qcow2_session.proofs.Told.{none_refused, IsToldSoFar, first_told, image_itself, itself_then, none_before, same_itself, told_more}
pub use Rattle.qcow2_session.proofs.Turns.{does_if, refused_is, none_within, does_then, does_why, refuses_here, refuses_if, refuses_then, refused_some, does_less, nothing_refused, refuses_less}
pub use Rattle.qcow2_session.proofs.Untaken.{prepared_untaken, untaken_beside}
pub use Rattle.qcow2_session.proofs.Unwritten.{clear_same, existing_set, nothing_prepared, prepare_same, existing_none, put_same, resizes_failed, resized_itself, resizes_reading, same_early}
pub use Rattle.qcow2_session.proofs.Writing.{ends_on, write_refused, chunk_ends}
pub use Rattle.qcow2_session.proofs.WrittenParts.{writes_none, first_given, never_first, no_more_then, stops_behind, stops_first, writes_on}
pub use Rattle.qcow2_session.proofs.WriteCommands.{fill_fails, given_byte, given_bytes, memory_never, unwritten_sees, unwritten_soundly, unwritten_step, writes_answered}
