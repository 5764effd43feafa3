-- The lemmas that several proofs cite, passed on from one place. Declares nothing.
pub use Rattle.qcow2_laws.proofs.Blocks.{entry_top, entry_others, guest_within}
pub use Rattle.qcow2_laws.proofs.Caches.{kept_sizes, rbs_free, l2s_free, unnamed_free_l2, unnamed_free_rb}
pub use Rattle.qcow2_laws.proofs.Consistency.{in_own, crash_invariant_consistent, known_consistent}
pub use Rattle.qcow2_laws.proofs.Guests.{uncovered_names, uncovered_marks, own_names, own_data_of, guest_le, names_within, past_guests, over_guests-same, over_guests-change, l1_marks-le, marks-all}
pub use Rattle.qcow2_laws.proofs.Headers.{writes_header}
pub use Rattle.qcow2_laws.proofs.Internal.{known_header, named_some, table_bytes, size_stays, value_stays}
pub use Rattle.qcow2_laws.proofs.L1Moves.{guests_kept}
pub use Rattle.qcow2_laws.proofs.Lists.{known-at, known-none, no_overlay, overlays_within, within_cluster}
pub use Rattle.qcow2_laws.proofs.Mixes.{tied}
pub use Rattle.qcow2_laws.proofs.Opened.{each_cover, passes, table_in-is}
pub use Rattle.qcow2_laws.proofs.Places.{Sizes, l1-same, reftable-same, Sizes-from, cover_at, in_one, count_in, count_none}
pub use Rattle.qcow2_laws.proofs.SafeSteps.{safe_step_less, safe_step_none, safe_step_then}
pub use Rattle.qcow2_laws.proofs.Shares.{in_l1, in_reftable, l1_has, reftable_has, shares, table_has, top_stays}
pub use Rattle.qcow2_laws.proofs.Steps.{entry_is_changed, data_is_written}
pub use Rattle.qcow2_laws.proofs.Sums.{sum_below-change, sum_below-zero, some_term}
pub use Rattle.qcow2_laws.proofs.Tops.{first_keeps_rest, for_tables-top, IsTop-top, SameTop-refl}
pub use Rattle.qcow2_laws.proofs.Values.{value_is, size_is}
pub use Rattle.qcow2_laws.proofs.Writes.{new_data_is_unnamed, marked_alone, storage_stays, known_covers, its_own}
