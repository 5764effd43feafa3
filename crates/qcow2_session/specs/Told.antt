-- What the replies of a run report about the image itself, beyond their meaning for the guest's disk.
use Rattle.qcow2_image.specs.declared.mapping.Place.TheVariants.{Image}
use Rattle.std.specs.Prelude.{ℕ, ◌<◌, ◌≤◌, ◌≡◌, ◌⊎◌, false, IsTrue, IsNone, List, [], ◌∷◌, MatchOption, Option, Some, None, is_none, replicate, map, slice_get, slice_set}
use Rattle.image_access.specs.Backing.{BackingView}
use Rattle.image_access.specs.Moments.{StorageView}
use Rattle.qcow2_disk.specs.AbstractImages.{AbstractImage, Setting}
use Rattle.qcow2_disk.specs.Rules.{answered}
use Rattle.qcow2_disk.specs.Runs.{State, RefinesState, RefinesCommand, HasNoInvalidation, begun}
use Rattle.qcow2_metadata.specs.Header.{cluster_size}
use Rattle.qcow2_alloc.specs.ImageError.{IsFaultOrLimit}
use Rattle.qcow2_alloc.specs.ImageFile.{known_in}
use Rattle.qcow2_image.specs.declared.image.Qcow2.{Qcow2}
use Rattle.qcow2_image.specs.declared.mapping.Mapping.{Mapping}
use Rattle.qcow2_image.specs.declared.mapping.MappingKind.TheVariants.{Eof}
use Rattle.qcow2_image.specs.declared.prepared.Prepared.{Prepared}
use Rattle.qcow2_image.specs.Image.{is_beside, lacks_data_file, is_failed, is_writable, leaked_in, number_of, size_of}
use Rattle.qcow2_image.specs.ImageInvariant.{abstract_of, meaning, in_image}
use Rattle.qcow2_image.specs.ListedClusters.{ListsNoMore}
use Rattle.qcow2_image.specs.Prepared.{length_of, offset_of, table_of}
use Rattle.qcow2_image.specs.Preparing.{IsAnswered, IsOfNothing}
use Rattle.qcow2_alloc.specs.Quiet.{WritesNothing}
use Rattle.qcow2_image.specs.Unwritten.{HoldsNothingModified, ReadsQuietly}
use Rattle.qcow2_session.specs.Causes.{RefusalJustified}
use Rattle.qcow2_session.specs.Commands.{command_of, reply_of}
use Rattle.qcow2_session.specs.CountedFaults.{CommandCounts, refusal_in}
use Rattle.qcow2_session.specs.Marks.{MarksBy}
use Rattle.qcow2_session.specs.Sessions.{IsUntouched, ReleasesMappings, looked_up_after}
use Rattle.qcow2_session.specs.declared.session.Command.{Command}
use Rattle.qcow2_session.specs.declared.session.Command.TheVariants as C
use Rattle.qcow2_session.specs.declared.session.Reply.{Reply}
use Rattle.qcow2_session.specs.declared.session.Reply.TheVariants as R

-- The slots at the start of a run.
abbrev pub free_slots : List (Option Prepared)
free_slots = replicate 256 None

-- Every prepared mapping is existing.
abbrev pub AreExisting : List (Option Prepared) → Type 0
AreExisting out = (k : ℕ) (p : Prepared) → slice_get out k ≡ Some (Some p) → IsNone (table_of p)

-- An empty slot gets a mapping, and the others stay the same.
abbrev pub FillsSlot : (before : List (Option Prepared)) (slot : ℕ) (p : Prepared) (after : List (Option Prepared)) → Type 0
FillsSlot before slot p after = (slice_get before slot ≡ Some None) × (after ≡ slice_set before slot (Some p))

-- A slot loses its mapping, and the others stay the same.
abbrev pub EmptiesSlot : (before : List (Option Prepared)) (slot : ℕ) (after : List (Option Prepared)) → Type 0
EmptiesSlot before slot after = (p : Prepared) × (slice_get before slot ≡ Some (Some p)) × (after ≡ slice_set before slot None)

-- The slots after a command, whatever the image contains. A prepare fills its slot with the mapping of its reply. A commit or a drop empties its slot, and so may a commit that is refused during its work. Everything else leaves the slots the same.
abbrev pub SlotsAfter : (before : List (Option Prepared)) → Command → Reply → (after : List (Option Prepared)) → Type 0
SlotsAfter before (C.PrepareDataMapping slot offset n overwrite) (R.Prepared host count existing) after =
    (p : Prepared) × FillsSlot before slot p after × (host ≡ offset_of p) × (count ≡ length_of p) × (existing ≡ is_none (table_of p))
SlotsAfter before (C.CommitDataMapping slot) R.Done after = EmptiesSlot before slot after
SlotsAfter before (C.CommitDataMapping slot) (R.Refused e) after = (after ≡ before) ⊎ (IsFaultOrLimit e × EmptiesSlot before slot after)
SlotsAfter before (C.DiscardDataMapping slot) R.Done after = EmptiesSlot before slot after
SlotsAfter before command reply after = after ≡ before

-- The image keeps its number, whether it may be written, whether it has a data file, and whether it lacks one.
pub record KeepsItself {S F : Type 0} (old new : Qcow2 S F) : Type 0 where
  pub number : number_of new ≡ number_of old
  pub writable : is_writable new ≡ is_writable old
  pub lacks : lacks_data_file new ≡ lacks_data_file old
  pub beside : is_beside new ≡ is_beside old

-- A point of a run, between two commands: the image, its prepared mappings by slot, and the lookups.
pub record RunPoint (S F : Type 0) : Type 0 where
  pub image : Qcow2 S F
  pub prepared : List (Option Prepared)
  pub found : ℕ → Option Mapping

-- No mapping is prepared, and nothing was looked up.
abbrev pub first_point : {S F : Type 0} → Qcow2 S F → RunPoint S F
first_point image = record { image = image; prepared = free_slots; found = λ _. None }

module _ {S F : Type 0} (view : S → StorageView) where
  -- An image opened for reading, whatever it contains: if no cached table is modified before, none is after, and nothing is written to an honest storage.
  abbrev pub StaysQuiet : (old new : Qcow2 S F) → Type 0
  StaysQuiet old new = is_writable old ≡ false → ReadsQuietly view old new

  -- An image opened for reading is never written: opening leaves no cached table modified, and then an honest storage has the same contents at every moment.
  abbrev pub IsNeverWritten : (old new : Qcow2 S F) → Type 0
  IsNeverWritten old new = is_writable old ≡ false → HoldsNothingModified old → WritesNothing view old.file.storage new.file.storage

  -- What a command leaves of an image opened for reading, if its prepared mappings are existing.
  pub record IsLeftQuietly (old new : Qcow2 S F) (after : List (Option Prepared)) : Type 0 where
    pub reading : is_writable new ≡ false
    pub quiet : ReadsQuietly view old new
    pub existing : AreExisting after

  abbrev pub LeavesQuietly : (old : Qcow2 S F) (before : List (Option Prepared)) (new : Qcow2 S F) (after : List (Option Prepared)) → Type 0
  LeavesQuietly old before new after = is_writable old ≡ false → AreExisting before → IsLeftQuietly old new after

module _ {S F : Type 0} (view : S → StorageView) (backing : F → BackingView) where
  module _ (old new : Qcow2 S F) where
    -- The mapping that a prepare returns: for no bytes, an existing one of no bytes; otherwise the range that `IsAnswered` describes, by the known contents before and at the return.
    pub record IsMappingFor (offset n : ℕ) (p : Prepared) : Type 0 where
      pub nothing : n ≡ 0 → IsOfNothing p
      pub answered : 0 < n → IsAnswered old.file.header.fields (known_in view old.file) offset n new.file.header.fields (known_in view new.file) p (meaning view backing Image new p)

    -- A lookup returns a mapping of this image that begins at the offset and is no longer than `max`. At the size or past it, the mapping is empty.
    pub record IsLookup (offset max : ℕ) (m : Mapping) : Type 0 where
      pub own : m.image ≡ number_of new
      pub from : m.offset ≡ offset
      pub within : m.length ≤ max
      pub past : size_of old ≤ offset → (m.kind ≡ Eof) × (m.length ≡ 0)

    -- A clearing call returns the whole clusters of its range.
    abbrev pub ReportsRange : (offset n : ℕ) → Reply → Type 0
    ReportsRange offset n (R.Range from count) = (from, count) ≡ answered (cluster_size old.file.header.fields) (size_of old) offset n
    ReportsRange offset n reply = Unit {0}

    -- The reply matches the image: a lookup is a mapping of this image, a clearing call returns its whole clusters, and an offset that is not compressed is the call's own. A size that is not smaller leaves the old one.
    -- The size is that of the header in memory, also on a failed image, and the number of leaks is the one that was counted. A prepare returns the mapping in its slot. A successful write of a sound image leaves the list of clusters to free the same or empty. A refused one returns how many bytes it wrote.
    abbrev pub ReplyMatchesImage : (before after : List (Option Prepared)) → Command → Reply → Type 0
    ReplyMatchesImage before after (C.GetMapping slot offset max) (R.Mapping m) = IsLookup offset max m
    ReplyMatchesImage before after (C.EnsureZeroMapping offset n) reply = ReportsRange offset n reply
    ReplyMatchesImage before after (C.DiscardToZero offset n) reply = ReportsRange offset n reply
    ReplyMatchesImage before after (C.DiscardToAny offset n) reply = ReportsRange offset n reply
    ReplyMatchesImage before after (C.DiscardToBacking offset n) reply = ReportsRange offset n reply
    ReplyMatchesImage before after (C.TryReadvSpecial offset n) (R.NotCompressed plain) = MatchOption plain (n ≡ 0) (λ at. at ≡ offset)
    ReplyMatchesImage before after (C.ResizeShrink size) (R.Shrunk answer) = size_of old ≤ size → answer ≡ size_of old
    ReplyMatchesImage before after C.Size (R.Size n) = n ≡ size_of new
    ReplyMatchesImage before after C.Leaked (R.Leaked n) = n ≡ leaked_in new
    ReplyMatchesImage before after (C.PrepareDataMapping slot offset n overwrite) (R.Prepared host count existing) =
        (abstract_of view backing old (in_image before)).is_sound → (p : Prepared) × (slice_get after slot ≡ Some (Some p)) × IsMappingFor offset n p
    ReplyMatchesImage before after (C.Write offset bytes) (R.Refused e) = ⊥
    ReplyMatchesImage before after (C.Write offset bytes) R.Done = (abstract_of view backing old (in_image before)).is_sound → ListsNoMore old new
    ReplyMatchesImage before after (C.Fill offset n byte) (R.Refused e) = ⊥
    ReplyMatchesImage before after (C.Fill offset n byte) R.Done = (abstract_of view backing old (in_image before)).is_sound → ListsNoMore old new
    ReplyMatchesImage before after command reply = Unit {0}

  -- One command of a run, whatever the image contains. The reply matches the image, and the slots are those after the command. It is refused only for its causes, and with an I/O error only if one was counted.
  -- An I/O error makes the image fail, and a failed image stays failed, with the same size. An image opened for reading is not written.
  pub record IsReportedStep (from to : RunPoint S F) (command : Command) (reply : Reply) : Type 0 where
    pub keeps : KeepsItself from.image to.image
    pub reports : ReplyMatchesImage from.image to.image from.prepared to.prepared command reply
    pub slots : SlotsAfter from.prepared command reply to.prepared
    pub causes : RefusalJustified view backing from.image to.image (in_image from.prepared) from.found command reply
    pub finds : (slot : ℕ) → to.found slot ≡ looked_up_after from.found command reply slot
    pub counts : CommandCounts view backing from.image to.image reply
    pub failed : MarksBy view from.image to.image command (refusal_in reply)
    pub size : IsTrue (is_failed from.image) → size_of to.image ≡ size_of from.image
    pub quiet : LeavesQuietly view from.image from.prepared to.image to.prepared

  -- Each command of the run goes from one of these points to the next.
  abbrev pub AreReportedAlong : (first : RunPoint S F) → List Command → List Reply → (points : List (RunPoint S F)) → (last : RunPoint S F) → Type 0
  AreReportedAlong first [] [] [] last = last ≡ first
  AreReportedAlong first (command ∷ commands) (reply ∷ replies) (next ∷ points) last = IsReportedStep first next command reply × AreReportedAlong next commands replies points last
  AreReportedAlong first commands replies points last = ⊥

  -- The view of a point: the image with its prepared mappings.
  abbrev pub abstract_at : RunPoint S F → AbstractImage
  abstract_at point = abstract_of view backing point.image (in_image point.prepared)

  -- Each command is a step of the run that agrees with the first point, between the same points.
  abbrev pub StepsAlong : (x : Setting) (first : RunPoint S F) (s : State) → List Command → List Reply → (points : List (RunPoint S F)) → (end : State) → Type 0
  StepsAlong x first s [] [] [] end = end ≡ s
  StepsAlong x first s (command ∷ commands) (reply ∷ replies) (next ∷ points) end =
      (step : RefinesCommand x (abstract_at first) (abstract_at next) s (command_of command) (reply_of reply)) × StepsAlong x next step.end commands replies points end
  StepsAlong x first s commands replies points end = ⊥

  module _ (old new : Qcow2 S F) where
    -- A whole run through these points, after which the mappings that are left are dropped. That fails no image. Without the command `InvalidateCache`, the commands are steps of every run that agrees with the image.
    pub record IsReportedRun (commands : List Command) (replies : List Reply) : Type 0 where
      pub points : List (RunPoint S F)
      pub last : RunPoint S F
      pub along : AreReportedAlong (first_point old) commands replies points last
      pub steps : HasNoInvalidation (map command_of commands) → (x : Setting) (s : State) → RefinesState x (abstract_of view backing old (in_image [])) s → (end : State) × StepsAlong x (first_point old) (begun s) commands replies points end
      pub leaves : ReleasesMappings view backing last.image new last.prepared []
      pub keeps : KeepsItself last.image new
      pub failed : is_failed new ≡ is_failed last.image

    -- There is such a run, or no command ran.
    abbrev pub ReportsMatchImage : List Command → List Reply → Type 0
    ReportsMatchImage commands replies = IsUntouched view backing old new replies ⊎ IsReportedRun commands replies
