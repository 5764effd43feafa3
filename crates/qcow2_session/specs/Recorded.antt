-- The headline for a storage that records its changes: the contents after its first k writes.
use Rattle.std.specs.Prelude.{ℕ, ◌≡◌, ◌⊎◌, List, [], map, Vec, Option, Result, Ok, Err}
use Rattle.std.specs.Global.{Global}
use Rattle.image_access.specs.Backing.{BackingView}
use Rattle.image_access.specs.Changes.{replayed, up_to_write}
use Rattle.image_access.specs.TraceStorage.{Trace, contents_of, view_of_trace}
use Rattle.qcow2_metadata.specs.Bytes.{byte_at}
use Rattle.qcow2_metadata.specs.Consistent.{IsConsistent}
use Rattle.qcow2_disk.specs.AbstractImages.{abstract_image}
use Rattle.qcow2_disk.specs.Headline.{IsHeadline}
use Rattle.qcow2_disk.specs.Runs.{HasNoInvalidation, IsStopIn, started}
use Rattle.qcow2_alloc.specs.declared.error.ImageError.{ImageError}
use Rattle.qcow2_image.specs.declared.image.Qcow2.{Qcow2}
use Rattle.qcow2_image.specs.Image.{storage_of_image}
use Rattle.qcow2_image.specs.ImageInvariant.{IsHonestBacking, image_abstraction}
use Rattle.qcow2_session.specs.Commands.{command_of, reply_of}
use Rattle.qcow2_session.specs.Opening.{HadNoRoom, OpensAgain, bytes_below}
use Rattle.qcow2_session.specs.declared.session.Command.{Command}
use Rattle.qcow2_session.specs.declared.session.Reply.{Reply}

-- The contents right after the first k writes and zeroings.
abbrev pub contents_after : ℕ → Trace → List ℕ
contents_after writes t = replayed t.start (up_to_write writes t.changes)

module _ {F : Type 0} (backing : F → BackingView) (before : Trace) (below : Option F) where
  -- The headline holds, and a stop in its run may leave the contents after the first k writes, for every k.
  pub record IsRecordedHeadline (new : Qcow2 Trace F) (commands : List Command) (replies : List Reply) : Type 0 where
    pub headline : IsHeadline (image_abstraction view_of_trace backing) (view_of_trace before) (bytes_below backing below) new (map command_of commands) (map reply_of replies)
    pub writes : (k : ℕ) → let spec = image_abstraction view_of_trace backing in
        IsStopIn (spec.setting headline.opened) (started (abstract_image spec headline.opened [])) headline.refines.end (map command_of commands) (map reply_of replies) headline.refines.run
        (byte_at (contents_after k (storage_of_image new)))

  -- What holds for each number of writes: with the storage of the opened image, after a run without the command `InvalidateCache`, or with the storage that a refusal returns.
  abbrev pub LeavesWrites : List Command → Result (Qcow2 Trace F × Vec Reply Global) (Trace × ImageError) → Type 0
  LeavesWrites commands (Ok run) = HasNoInvalidation (map command_of commands) → ((k : ℕ) → OpensAgain (contents_after k (storage_of_image run.0)))
      × (HadNoRoom view_of_trace backing (view_of_trace before) below run.0 run.1.items ⊎ IsRecordedHeadline run.0 commands run.1.items)
  LeavesWrites commands (Err refused) = (k : ℕ) → OpensAgain (contents_after k refused.0)

  -- If the storage holds a consistent image and has made no change yet, and the backing disk is honest: after every number of writes, the contents are a consistent image that opens again, and one that a stop in the run of the headline may leave.
  abbrev pub FirstWritesAreStops : List Command → Result (Qcow2 Trace F × Vec Reply Global) (Trace × ImageError) → Type 0
  FirstWritesAreStops commands result = before.changes ≡ [] → IsConsistent (byte_at (contents_of before)) → IsHonestBacking view_of_trace backing below → LeavesWrites commands result
