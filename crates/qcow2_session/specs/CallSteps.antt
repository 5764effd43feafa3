-- What a command, a read or a conversion leaves unchanged whatever the image contains, and what it counts.
use Rattle.std.specs.Prelude.{◌≡◌, ◌≢◌, ◌⊎◌, ◌+◌, ◌<◌, ◌≤◌, ◌^◌, ◌∷◌, ℕ, true, List, [], length, Option, Some, None, Result, Err, MatchResult, IfErr, IfOk, IfSome, IsTrue, OnOk, Vec, map, vec_len}
use Rattle.std.specs.Global.{Global}
use Rattle.image_access.specs.Backing.{BackingView}
use Rattle.image_access.specs.Moments.{StorageView}
use Rattle.qcow2_alloc.specs.ImageFile.{known_in}
use Rattle.qcow2_alloc.specs.declared.error.ImageError.{ImageError}
use Rattle.qcow2_alloc.specs.declared.error.ImageError.TheVariants.{InvalidOption, Limit, TablePrepared}
use Rattle.qcow2_disk.specs.Mappings.{given_of}
use Rattle.qcow2_disk.specs.Runs.{HasNoInvalidation, KeepsUnflushed}
use Rattle.qcow2_image.specs.Backings.{HasPinnedMapping}
use Rattle.qcow2_image.specs.BehindHeader.{PreservesHeaderCluster}
use Rattle.qcow2_image.specs.Clearing.{IsUnderMapping}
use Rattle.qcow2_image.specs.Faults.{CountsImageFaults, NoFewerFaults, SameFaults, ReportsEachBy, ReportsFault}
use Rattle.qcow2_image.specs.Image.{IsSameImage, KeepsWholeHeader, is_failed, number_of, size_of}
use Rattle.qcow2_image.specs.L1Entries.{NeedsOverflowingL1Entry}
use Rattle.qcow2_image.specs.Limits.{IfLimit, IsLimited}
use Rattle.qcow2_image.specs.ImageInvariant.{abstract_of, Mappings, in_image}
use Rattle.qcow2_image.specs.ListedClusters.{ListsNoMore}
use Rattle.qcow2_image.specs.MayFail.{CopiesCompressed, MayFailReadingRange, MayFailAllocating}
use Rattle.qcow2_image.specs.Preallocation.{IsUnderMappingIn}
use Rattle.qcow2_image.specs.Refusals.{MayFailPreparing, refuses_to_prepare, refuses_to_read}
use Rattle.qcow2_image.specs.Unwritten.{ReadsQuietly}
use Rattle.qcow2_image.specs.declared.image.Qcow2.{Qcow2}
use Rattle.qcow2_image.specs.declared.prepared.Prepared.{Prepared}
use Rattle.qcow2_session.specs.ReadCauses.{MayFailReadingFrom}
use Rattle.qcow2_session.specs.Conversions.{DiffersWhereKept, IsLeft, MayFailImporting, IsOfImporting, IsReasonNotToWrite, IsRefusedUnequal, IsUnchanged}
use Rattle.qcow2_session.specs.CountedFaults.{CommandCounts, ConversionCounts, RunCounts, refusal_in}
use Rattle.qcow2_session.specs.Causes.{RefusalJustified}
use Rattle.qcow2_session.specs.Commands.{command_of}
use Rattle.qcow2_session.specs.Marks.{MarksAtOnce, MarksBy, MarksInParts, reason_in}
use Rattle.qcow2_session.specs.Sessions.{CommandSteps, EndsCluster, Finds, IsOfReading, IsOfWriting, IsRightlyBeyond, LeavesCopied, NeedsOverflowingToWrite, RespectsFirst, RespectsMappings, mappings_in}
use Rattle.qcow2_session.specs.Told.{KeepsItself, LeavesQuietly, ReplyMatchesImage, SlotsAfter, StaysQuiet}
use Rattle.qcow2_session.specs.declared.session.Command.{Command}
use Rattle.qcow2_session.specs.declared.session.Reply.{Reply}
use Rattle.qcow2_session.specs.declared.slots.Slots.{Slots}

module _ {S F : Type 0} (view : S → StorageView) (backing : F → BackingView) (old new : Qcow2 S F) where
  -- One command is replied to, whatever the image contains. Its reply reports every fault that was counted and matches the image, the slots and lookups are those after the command, and it is refused only for its causes.
  -- The image stays the same except for its size, and is marked as failed by the rule. A failed image keeps its size too. The header's cluster stays the same, and the command is one step of every run that agrees with the image, unless it drops what is not flushed.
  -- An image opened for reading is not written.
  pub record AnswersCommand (was is : Slots) (command : Command) (reply : Reply) : Type 0 where
    pub keeps : KeepsItself old new
    pub size : IsTrue (is_failed old) → size_of new ≡ size_of old
    pub counts : CommandCounts view backing old new reply
    pub marks : MarksBy view old new command (refusal_in reply)
    pub header_cluster : KeepsUnflushed (command_of command) → PreservesHeaderCluster view old new
    pub slots : is.image ≡ was.image
    pub steps : KeepsUnflushed (command_of command) → CommandSteps view backing old new was is command reply
    pub finds : Finds was is command reply
    pub after : SlotsAfter was.prepared.items command reply is.prepared.items
    pub reports : ReplyMatchesImage view backing old new was.prepared.items is.prepared.items command reply
    pub causes : RefusalJustified view backing old new (in_image was.prepared.items) (mappings_in was.mappings.items) command reply
    pub quiet : LeavesQuietly view old was.prepared.items new is.prepared.items

  -- Dropping a prepared mapping counts no fault and marks nothing.
  pub record ReleasingStep : Type 0 where
    pub image : IsSameImage old new
    pub faults : SameFaults view backing old new
    pub header_cluster : PreservesHeaderCluster view old new
    pub marks : is_failed new ≡ is_failed old
    pub quiet : ReadsQuietly view old new

  -- The first bytes of a range are to be written to a sound image. A refusal has its cause. It is refused 9, and succeeds, only as the prepared mappings allow, and refused 13 only if a limit was passed.
  pub record WritesSoundly (offset n : ℕ) (out : Mappings) (result : Result ℕ ImageError) : Type 0 where
    pub may_fail : IfErr result (MayFailAllocating (HasPinnedMapping out) (IsUnderMapping old.file.header.fields offset out) (CopiesCompressed offset n true new.file.header.fields (known_in view new.file)) (NeedsOverflowingL1Entry old offset))
    pub taken : RespectsFirst view backing old out offset n result
    pub limit : IfLimit result (IsLimited view backing [] (offset + n) old out)

  -- The first bytes of a range were written to a sound image. Part of the bytes ends at a cluster boundary. The list of clusters to free is no longer than before, and the clusters that were written are data of their own.
  pub record WritesPartSoundly (offset : ℕ) (bytes : List ℕ) (out : Mappings) (result : Result ℕ ImageError) : Type 0 where
    pub refused : refuses_to_prepare old offset (length bytes) ≡ None → WritesSoundly offset (length bytes) out result
    pub freeing : OnOk result (ListsNoMore old new)
    pub ends : IfOk result (λ n. n < length bytes → EndsCluster old (offset + n))
    pub copied : 0 < length bytes → IfOk result (LeavesCopied view backing old new offset bytes)

  -- How many bytes of a range were written: at least one, if there are any. The range ends within 64 bits.
  pub record WritesPart (offset : ℕ) (bytes : List ℕ) (result : Result ℕ ImageError) : Type 0 where
    pub some : IfOk result (λ n. 0 < length bytes → 0 < n)
    pub within : IfOk result (λ n. n ≤ length bytes)
    pub end : IfOk result (λ n. (is_failed new ≡ is_failed old) × (offset + length bytes < 2 ^ 64))

  module _ {T : Type 0} (result : Result T ImageError) where
    -- Why a write is refused. The causes that are checked before any work leave the image the same.
    pub record RefusesToWrite (offset n : ℕ) : Type 0 where
      pub early : IfSome (refuses_to_prepare old offset n) (λ e. (result ≡ Err e) × (new ≡ old))
      pub late : refuses_to_prepare old offset n ≡ None → IfErr result (λ e. MayFailPreparing new e × (0 < n))
      pub beyond : IfErr result (IsRightlyBeyond old offset n)
      pub cause : IfErr result IsOfWriting

    -- Why a read is refused. The causes that are checked before any work leave the image the same. On a sound image, each other refusal has its cause.
    pub record RefusesToRead (offset n : ℕ) : Type 0 where
      pub early : IfSome (refuses_to_read old offset n) (λ e. (result ≡ Err e) × (new ≡ old))
      pub late : refuses_to_read old offset n ≡ None → IfErr result (λ e. MayFailReadingFrom new offset (offset + n) e × (0 < n))
      pub may_fail : refuses_to_read old offset n ≡ None → (out : Mappings) → (abstract_of view backing old out).is_sound
          → IfErr result (MayFailReadingRange out offset (offset + n) old.file.header.fields (known_in view old.file))
      pub beyond : IfErr result (IsRightlyBeyond old offset n)
      pub cause : IfErr result IsOfReading

  -- ---- a write of all its parts, whose refusal says how many bytes were written

  module _ (result : Result (Unit {0}) (ImageError × ℕ)) where
    -- A write, whatever the image contains: it is the same image, the result reports every fault that was counted, and the image is marked as failed by the rule. An image that was opened for reading is not written.
    pub record WriteStep : Type 0 where
      pub image : IsSameImage old new
      pub faults : NoFewerFaults view backing old new × IfErr result (λ (e, n). ReportsFault view backing old new e) × ReportsEachBy view backing (λ refused. refused.0) old new result
      pub header_cluster : PreservesHeaderCluster view old new
      pub marks : MatchResult result (λ done. MarksInParts view None old new) (λ (e, n). MarksInParts view (Some e) old new)
      pub quiet : StaysQuiet view old new

    -- Why a write is refused, and that it wrote no more than it was given. The causes that are checked before any work leave the image the same.
    pub record WriteFails (offset n : ℕ) : Type 0 where
      pub early : IfSome (refuses_to_prepare old offset n) (λ e. (result ≡ Err (e, 0)) × (new ≡ old))
      pub late : refuses_to_prepare old offset n ≡ None → IfErr result (λ (e, k). MayFailPreparing new e × (0 < n))
      pub within : IfErr result (λ (e, k). k ≤ n)
      pub beyond : IfErr result (λ (e, k). IsRightlyBeyond old offset n e)
      pub cause : IfErr result (λ (e, k). IsOfWriting e)

    -- A write to a sound image. Each refusal has its cause; a refused write ends at a cluster boundary, unless it wrote nothing. If it is done, the list of clusters to free is no longer than before, and the clusters that were written are data of their own.
    pub record WroteSoundly (offset : ℕ) (bytes : List ℕ) (out : Mappings) : Type 0 where
      pub may_fail : refuses_to_prepare old offset (length bytes) ≡ None → IfErr result (λ (e, n). MayFailAllocating (HasPinnedMapping out) (IsUnderMappingIn old.file.header.fields offset (offset + length bytes) out)
          (CopiesCompressed offset (length bytes) true new.file.header.fields (known_in view new.file)) (NeedsOverflowingToWrite view backing old offset bytes n) e)
      pub taken : refuses_to_prepare old offset (length bytes) ≡ None → IfErr result (λ (e, n). e ≡ TablePrepared → IsUnderMappingIn old.file.header.fields offset (offset + length bytes) out)
      pub taken_part : refuses_to_prepare old offset (length bytes) ≡ None → RespectsMappings view backing old out offset bytes result
      pub limit : refuses_to_prepare old offset (length bytes) ≡ None → IfErr result (λ (e, n). e ≡ Limit → IsLimited view backing (given_of offset bytes ∷ []) (offset + length bytes) old out)
      pub ends : IfErr result (λ (e, n). 0 < n → (n < length bytes) × EndsCluster old (offset + n))
      pub freeing : OnOk result (ListsNoMore old new)
      pub copied : 0 < length bytes → OnOk result (LeavesCopied view backing old new offset bytes (length bytes))

  module _ {T : Type 0} (result : Result T ImageError) where
    -- A read of several parts leaves the header in memory the same, and writes nothing if no cached table is modified.
    pub record ReadingParts : Type 0 where
      pub image : IsSameImage old new
      pub faults : CountsImageFaults view backing old new result
      pub header : KeepsWholeHeader old new
      pub header_cluster : PreservesHeaderCluster view old new
      pub marks : MarksInParts view (reason_in result) old new
      pub quiet : ReadsQuietly view old new

    -- A write of several parts writes nothing to an image that was opened for reading.
    pub record WritingParts : Type 0 where
      pub image : IsSameImage old new
      pub faults : CountsImageFaults view backing old new result
      pub header_cluster : PreservesHeaderCluster view old new
      pub marks : MarksInParts view (reason_in result) old new
      pub quiet : StaysQuiet view old new

    -- A special read is one call, which marks the image at once.
    pub record SpecialStep : Type 0 where
      pub image : IsSameImage old new
      pub faults : CountsImageFaults view backing old new result
      pub header_cluster : PreservesHeaderCluster view old new
      pub marks : MarksAtOnce view (reason_in result) old new
      pub quiet : ReadsQuietly view old new

  -- ---- runs

  -- A run, whatever the image contains: it is the same image, there is a reply to each command or there are none, and they report each fault that was counted. The header's cluster stays the same, unless a command drops what is not flushed.
  pub record RunStep (commands : List Command) (replies : Vec Reply Global) : Type 0 where
    pub number : number_of new ≡ number_of old
    pub faults : RunCounts view backing old new replies.items
    pub header_cluster : HasNoInvalidation (map command_of commands) → PreservesHeaderCluster view old new
    pub count : (replies.items ≡ []) ⊎ (vec_len replies ≡ length commands)

  -- ---- conversions, with the storage of a raw disk

  module _ (raw raw' : StorageView) {T : Type 0} (result : Result T ImageError) where
    -- An import leaves the bytes of the raw disk the same. An image that was opened for reading is never written.
    pub record ImportStep : Type 0 where
      pub image : IsSameImage old new
      pub raw_left : IsLeft raw raw'
      pub faults : ConversionCounts view backing old new raw.faults raw'.faults result
      pub quiet : StaysQuiet view old new
      pub header_cluster : PreservesHeaderCluster view old new

    -- An export leaves the bytes of the disk the same, and writes nothing to the image if no cached table is modified. An honest raw disk stays honest.
    pub record ExportStep : Type 0 where
      pub image : IsSameImage old new
      pub same : IsUnchanged view backing old new result
      pub honest : raw.is_honest → raw'.is_honest
      pub faults : ConversionCounts view backing old new raw.faults raw'.faults result
      pub header_cluster : PreservesHeaderCluster view old new
      pub quiet : ReadsQuietly view old new

  -- Why an import is refused. The causes that are checked before any work leave the image and the raw disk the same, and unequal sizes leave the image the same. On a sound image, each other refusal has its cause: of those to write, only where a cluster differs.
  pub record ImportFails {R : Type 0} (view_of : R → StorageView) (raw raw' : R) (result : Result ℕ ImageError) : Type 0 where
    pub early : IfSome (refuses_to_read old 0 0) (λ e. (result ≡ Err e) × (new ≡ old) × (raw' ≡ raw))
    pub unequal : (view_of raw).is_honest → length (view_of raw).contents ≢ size_of old → IsRefusedUnequal (refuses_to_read old 0 0) (view_of raw).faults (view_of raw').faults result × (new ≡ old)
    pub option : (view_of raw).is_honest → IfErr result (λ e. e ≡ InvalidOption → length (view_of raw).contents ≢ size_of old)
    pub cause : IfErr result IsOfImporting
    pub late : refuses_to_read old 0 0 ≡ None → (out : Mappings) → (abstract_of view backing old out).is_sound → IfErr result (λ e. (e ≡ InvalidOption) ⊎ IsReasonNotToWrite view backing old new 0 (size_of old) out e)
    pub may_fail : refuses_to_read old 0 0 ≡ None → (out : Mappings) → (abstract_of view backing old out).is_sound → IfErr result (λ e. (e ≡ InvalidOption) ⊎ MayFailImporting view 0 (size_of old) new out e)
    pub differs : (view_of raw).is_honest → IfErr result (DiffersWhereKept view backing old 0 (view_of raw).contents)
