-- The headline for an image that is opened from the bytes of a storage, over a backing disk if one is given.
use Rattle.std.specs.Prelude.{ℕ, ◌≡◌, ◌⊎◌, IsTrue, true, false, List, [], map, Vec, Option, Some, None, Result, Ok, Err}
use Rattle.std.specs.Global.{Global}
use Rattle.image_access.specs.Backing.{BackingView}
use Rattle.image_access.specs.Moments.{StorageView}
use Rattle.qcow2_metadata.specs.Bytes.{Bytes, byte_at}
use Rattle.qcow2_metadata.specs.Consistent.{IsConsistent}
use Rattle.qcow2_disk.specs.Headline.{IsHeadline}
use Rattle.qcow2_disk.specs.Runs.{HasNoInvalidation, RefinesState, started}
use Rattle.qcow2_alloc.specs.declared.error.ImageError.{ImageError}
use Rattle.qcow2_alloc.specs.declared.error.ImageError.TheVariants as I
use Rattle.qcow2_image.specs.BehindHeader.{LiesBehindHeader, NamesTablesBehind, PreservesHeaderCluster}
use Rattle.qcow2_image.specs.CountedOpening.{OpeningCounts}
use Rattle.qcow2_image.specs.declared.image.Missing.{Missing}
use Rattle.qcow2_image.specs.declared.image.Missing.TheVariants as M
use Rattle.qcow2_image.specs.declared.image.Qcow2.{Qcow2}
use Rattle.qcow2_image.specs.Image.{is_failed, is_writable, number_of, storage_of_image}
use Rattle.qcow2_image.specs.Opened.{IsKeptSince, IsOpenedFrom, LeavesStorage, NeedsMissing}
use Rattle.qcow2_image.specs.ImageInvariant.{IsHonestBacking, abstract_of, image_abstraction, in_image}
use Rattle.qcow2_image.specs.Readable.{IsJustifiedRefusal, OpensRightly}
use Rattle.qcow2_image.specs.Unwritten.{ContentsStayThroughout}
use Rattle.qcow2_session.specs.Commands.{command_of, reply_of}
use Rattle.qcow2_session.specs.CountedFaults.{RunCounts}
use Rattle.qcow2_session.specs.Told.{ReportsMatchImage}
use Rattle.qcow2_session.specs.declared.session.Command.{Command}
use Rattle.qcow2_session.specs.declared.session.Reply.{Reply}

-- The call was refused, and the returned storage has the same contents, now and at every moment since.
abbrev pub IsLeftAlone : {S R : Type 0} → StorageView → (S → StorageView) → Result R (S × ImageError) → Type 0
IsLeftAlone before view (Ok run) = ⊥
IsLeftAlone before view (Err refused) = ContentsStayThroughout before (view refused.0)

-- The files that are missing when an image is opened: the data file, and the backing file unless a disk is given for it.
abbrev pub missing_beside : {F : Type 0} → Option F → Missing
missing_beside None = M.OtherFiles
missing_beside (Some disk) = M.DataFile

-- The bytes of the backing disk, if one is given.
abbrev pub bytes_below : {F : Type 0} → (F → BackingView) → Option F → Option Bytes
bytes_below backing None = None
bytes_below backing (Some disk) = Some (byte_at (backing disk).bytes)

-- Why a consistent image is not opened for writing: a failed allocation, an I/O error, or a missing file.
abbrev pub MayRefuseToOpen : List ℕ → Missing → ImageError → Type 0
MayRefuseToOpen contents missing I.Memory = Unit {0}
MayRefuseToOpen contents missing I.Storage = Unit {0}
MayRefuseToOpen contents missing I.Dependency = NeedsMissing missing contents
MayRefuseToOpen contents missing e = ⊥

-- An image with these contents opens again for writing: it is consistent, and its contents give no reason to refuse it but the three of `MayRefuseToOpen`, whichever files are missing.
pub record OpensAgain (contents : List ℕ) : Type 0 where
  pub consistent : IsConsistent (byte_at contents)
  pub refused : (missing : Missing) (e : ImageError) → IsJustifiedRefusal contents true missing e → MayRefuseToOpen contents missing e

module _ {S F : Type 0} (view : S → StorageView) (backing : F → BackingView) (before : StorageView) (below : Option F) where
  -- There was no memory for the replies, and no command ran.
  abbrev pub HadNoRoom : Qcow2 S F → List Reply → Type 0
  HadNoRoom image replies = (replies ≡ []) × IsKeptSince before (view (storage_of_image image))

  -- If the storage is honest and holds a consistent image, and the backing disk is honest, the image opens and, without the command `InvalidateCache`, runs as the headline says. If opening is refused, it is for one of three reasons, and every moment has a consistent image with the same disk.
  abbrev pub Headline : List Command → Result (Qcow2 S F × Vec Reply Global) (S × ImageError) → Type 0
  Headline commands (Ok run) = before.is_honest → IsConsistent (byte_at before.contents) → IsHonestBacking view backing below → HasNoInvalidation (map command_of commands)
      → HadNoRoom run.0 run.1.items ⊎ IsHeadline (image_abstraction view backing) before (bytes_below backing below) run.0 (map command_of commands) (map reply_of run.1.items)
  Headline commands (Err refused) = before.is_honest → IsConsistent (byte_at before.contents) → MayRefuseToOpen before.contents (missing_beside below) refused.1 × IsKeptSince before (view refused.0)

  -- If the storage was honest and held a consistent image, and the backing disk is honest, every content that the storage had since then opens again.
  abbrev pub OpensAgainSince : StorageView → Type 0
  OpensAgainSince new = before.is_honest → IsConsistent (byte_at before.contents) → IsHonestBacking view backing below → (c : List ℕ) → new.had_since before.moment c → OpensAgain c

  -- Every content since then opens again, if opening was refused, or if the run had no command `InvalidateCache`.
  abbrev pub EachMomentOpensAgain : List Command → Result (Qcow2 S F × Vec Reply Global) (S × ImageError) → Type 0
  EachMomentOpensAgain commands (Ok run) = HasNoInvalidation (map command_of commands) → OpensAgainSince (view (storage_of_image run.0))
  EachMomentOpensAgain commands (Err refused) = OpensAgainSince (view refused.0)

  -- The image that was opened, whatever it contains: it is over the given backing disk, has its number, is opened for writing and has not failed. Opening changed only the autoclear field. The replies match the image.
  -- If the header's pointers lead past cluster 0, no table lies in cluster 0 when the image is opened, and a run without the command `InvalidateCache` changes only header fields there.
  -- If the contents are consistent and the backing disk is honest, the image is sound, has the surplus of each cluster in them, and begins a run from the disk that it shows.
  pub record IsToldOfOpened (number : ℕ) (commands : List Command) (image : Qcow2 S F) (replies : List Reply) : Type 0 where
    pub opened : Qcow2 S F
    pub over : opened.backing ≡ below
    pub number_is : number_of opened ≡ number
    pub writable : IsTrue (is_writable opened)
    pub works : is_failed opened ≡ false
    pub counts : OpeningCounts view before.faults (Ok opened)
    pub leaves : LeavesStorage view true before (Ok opened)
    pub run : ReportsMatchImage view backing opened image commands replies
    pub behind : NamesTablesBehind opened.file.header.fields → LiesBehindHeader opened
    pub header_cluster : HasNoInvalidation (map command_of commands) → PreservesHeaderCluster view opened image
    pub is : before.is_honest → IsConsistent (byte_at before.contents) → IsHonestBacking view backing below → IsOpenedFrom view backing (byte_at before.contents) opened
    pub begins : before.is_honest → IsConsistent (byte_at before.contents) → IsHonestBacking view backing below → let v = abstract_of view backing opened (in_image []) in RefinesState v.setting v (started v)

  -- If the image is opened, it is as `IsToldOfOpened` says. If not, it is refused as every opening for writing with these missing files, for a reason in the contents, which stay the same unless the storage failed.
  abbrev pub ReportsOfOpened : ℕ → List Command → Result (Qcow2 S F × Vec Reply Global) (S × ImageError) → Type 0
  ReportsOfOpened number commands (Ok run) = IsToldOfOpened number commands run.0 run.1.items
  ReportsOfOpened number commands (Err refused) = OpensRightly {S = S} {F = F} before true (missing_beside below) (Err refused) × LeavesStorage {F = F} view true before (Err refused)

  -- Opening counts the faults of the storage, and each command those of the storage and of the given backing disk since.
  abbrev pub CountsSinceBefore : Result (Qcow2 S F × Vec Reply Global) (S × ImageError) → Type 0
  CountsSinceBefore (Ok run) = (opened : Qcow2 S F) × (opened.backing ≡ below) × OpeningCounts view before.faults (Ok opened) × RunCounts view backing opened run.0 run.1.items
  CountsSinceBefore (Err refused) = OpeningCounts {F = F} view before.faults (Err refused)
