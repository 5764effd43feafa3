-- The contents after the first writes of a storage that records its changes are contents that the storage had at a moment since.
use Rattle.std.proofs.Common.{◌≡◌, ⊎_elim, inl, inr, ℕ, List, [], map, length, Option, Result, Ok, Err, sym, ap, subst}
use Rattle.qcow2_session.proofs.Common.{Vec, Global, BackingView, IsHeadline, ImageError, Qcow2, storage_of_image, image_abstraction, command_of, reply_of, EachMomentOpensAgain, HadNoRoom, Headline, bytes_below, Command, Reply}
use Rattle.image_access.specs.Changes.{HadSince}
use Rattle.image_access.specs.TraceStorage.{Trace, view_of_trace}
use Rattle.image_access.proofs.Replays.{had_up_to_write}
use Rattle.qcow2_session.specs.Recorded.{FirstWritesAreStops, contents_after}

had_after : (k : ℕ) (before now : Trace) → before.changes ≡ [] → (view_of_trace now).had_since (view_of_trace before).moment (contents_after k now)
had_after k before now none = let n : length before.changes ≡ 0 = ap length none in subst (λ (t : ℕ). HadSince now.start now.changes t (contents_after k now)) (sym n) (had_up_to_write now.start k now.changes)

module _ {F : Type 0} (backing : F → BackingView) (before : Trace) (below : Option F) (commands : List Command) where
  pub first_writes : (result : Result (Qcow2 Trace F × Vec Reply Global) (Trace × ImageError)) → Headline view_of_trace backing (view_of_trace before) below commands result
      → EachMomentOpensAgain view_of_trace backing (view_of_trace before) below commands result → FirstWritesAreStops backing before below commands result
  first_writes (Ok run) headline again none consistent stays = λ unflushed. (
    (λ k. again unflushed tt consistent stays (contents_after k (storage_of_image run.0)) (had_after k before (storage_of_image run.0) none)),
    ⊎_elim
        (λ (no_room : HadNoRoom view_of_trace backing (view_of_trace before) below run.0 run.1.items). inl no_room)
        (λ (all : IsHeadline (image_abstraction view_of_trace backing) (view_of_trace before) (bytes_below backing below) run.0 (map command_of commands) (map reply_of run.1.items)).
        inr (record { headline = all; writes = λ k. all.stops (contents_after k (storage_of_image run.0)) (had_after k before (storage_of_image run.0) none) }))
        (headline tt consistent stays unflushed),
  )
  first_writes (Err refused) headline again none consistent stays = λ k. again tt consistent stays (contents_after k refused.0) (had_after k before refused.0 none)
