-- Why the commands of a run are refused: checks before any work, in their order, and causes that come during the work.
use Rattle.qcow2_alloc.specs.declared.error.ImageError.TheVariants as I
use Rattle.qcow2_session.specs.ReadCauses.{MayFailReadingFrom}
use Rattle.qcow2_session.specs.declared.session.Command.TheVariants as C
use Rattle.qcow2_session.specs.declared.session.Reply.TheVariants as R
use Rattle.std.specs.Prelude.{ℕ, ◌+◌, ◌<◌, ◌≤◌, ◌≡◌, ◌↔◌, ◌⊎◌, ◌&&◌, not, nat_lt, true, false, length, replicate, List, [], ◌∷◌, Option, Some, None, Ok, Err, IfSome, IsNone, IsSomeAnd, MatchOption, slice_get}
use Rattle.std.specs.Option.{option_or}
use Rattle.image_access.specs.Backing.{BackingView}
use Rattle.image_access.specs.Moments.{StorageView}
use Rattle.image_access.specs.declared.storage.PreallocateMode.{PreallocateMode}
use Rattle.qcow2_metadata.specs.Header.{cluster_size, rounded_up}
use Rattle.qcow2_disk.specs.Calls.{shows_old, to_backing, to_kept_zero, to_zero}
use Rattle.qcow2_alloc.specs.ImageError.{IsFault, IsFaultOrLimit}
use Rattle.qcow2_alloc.specs.ImageFile.{known_in}
use Rattle.qcow2_alloc.specs.declared.error.ImageError.{ImageError}
use Rattle.qcow2_image.specs.Backings.{HasPinnedMapping}
use Rattle.qcow2_image.specs.Clearing.{IsUnderMapping, from_in, refuses_clearing, to_in}
use Rattle.qcow2_image.specs.Found.{IsFoundWhole, further_by}
use Rattle.qcow2_image.specs.HeldMappings.{IsCompressedInTables, RefusesHeld}
use Rattle.qcow2_image.specs.Image.{is_failed, is_writable, size_of}
use Rattle.qcow2_image.specs.ImageInvariant.{abstract_of, Mappings}
use Rattle.qcow2_image.specs.Invalidated.{IsOfPrepared, IsStillInUse, MayFailToInvalidate}
use Rattle.qcow2_image.specs.L1Entries.{NeedsOverflowingL1Entry}
use Rattle.qcow2_image.specs.LookupCauses.{MayFailFinding, MayFailPuttingAt, MayFailReadingFound, MayFailTelling}
use Rattle.qcow2_image.specs.MayFail.{CopiesCompressed, IsCacheHeld, MayFailLooking, MayFailMapped, MayFailPutting, MayFailReadingRange, MayFailSpecial, MayFailGrowing, MayFailAllocating}
use Rattle.qcow2_image.specs.Preallocation.{IsUnderMappingIn}
use Rattle.qcow2_image.specs.Prepared.{length_of, table_of}
use Rattle.qcow2_image.specs.Preparing.{IsTaken}
use Rattle.qcow2_image.specs.Refusals.{MayFailPreparing, MayFailToGrow, refuse_if, refuses_to_prepare, refuses_to_read, unusable}
use Rattle.qcow2_image.specs.Resizing.{boundary_in, refuses_to_resize, takes_over}
use Rattle.qcow2_image.specs.declared.image.Qcow2.{Qcow2}
use Rattle.qcow2_image.specs.declared.mapping.Mapping.{Mapping}
use Rattle.qcow2_image.specs.declared.mapping.MappingKind.TheVariants.{Raw}
use Rattle.qcow2_image.specs.declared.prepared.Prepared.{Prepared}
use Rattle.qcow2_session.specs.CountedFaults.{refusal_in}
use Rattle.qcow2_disk.specs.Mappings.{given_of}
use Rattle.qcow2_image.specs.Limits.{IsLimited}
use Rattle.qcow2_session.specs.Sessions.{RespectsMappings, NeedsOverflowingToWrite}
use Rattle.qcow2_session.specs.declared.session.Command.{Command}
use Rattle.qcow2_session.specs.declared.session.Reply.{Reply}

-- ---- before any work

module _ {S F : Type 0} (image : Qcow2 S F) where
  -- Why putting n bytes into a mapping is refused at once, in this order: an unusable image; and, if n is not 0, an image opened for reading.
  abbrev pub refuses_to_put : ℕ → Option ImageError
  refuses_to_put n = option_or (unusable image) (refuse_if (nat_lt 0 n && not (is_writable image)) I.ReadOnly)

  -- Why a growth is refused at once: as every resize; or because the mode allocates clusters over a backing disk.
  abbrev pub refuses_to_grow : ℕ → PreallocateMode → Option ImageError
  refuses_to_grow size mode = option_or (refuses_to_resize image) (refuse_if (nat_lt (size_of image) size && takes_over image mode) I.Preallocation)

  -- Why a command is refused at once: the first cause that holds, in the order in which its call checks them.
  abbrev pub first_cause : Command → Option ImageError
  first_cause (C.Read offset n) = refuses_to_read image offset n
  first_cause (C.Write offset bytes) = refuses_to_prepare image offset (length bytes.items)
  first_cause (C.Fill offset n byte) = refuses_to_prepare image offset n
  first_cause (C.GetMapping slot offset max) = unusable image
  first_cause (C.ReadMapped slot at n) = unusable image
  first_cause (C.PrepareDataMapping slot offset n overwrite) = refuses_to_prepare image offset n
  first_cause (C.WriteMapped slot at bytes) = refuses_to_put (length bytes.items)
  first_cause (C.CommitDataMapping slot) = refuse_if (is_failed image) I.Failed
  first_cause (C.DiscardDataMapping slot) = None
  first_cause (C.EnsureZeroMapping offset n) = refuses_clearing image offset n to_kept_zero
  first_cause (C.DiscardToZero offset n) = refuses_clearing image offset n to_zero
  first_cause (C.DiscardToAny offset n) = refuses_clearing image offset n to_zero
  first_cause (C.DiscardToBacking offset n) = refuses_clearing image offset n to_backing
  first_cause (C.ReadvSpecial offset n) = unusable image
  first_cause (C.TryReadvSpecial offset n) = unusable image
  first_cause C.Flush = refuse_if (is_failed image) I.Failed
  first_cause C.Sync = refuse_if (is_failed image) I.Failed
  first_cause C.InvalidateCache = refuse_if (is_failed image) I.Failed
  first_cause (C.ResizeGrow size mode) = refuses_to_grow size mode
  first_cause (C.ResizeShrink size) = refuses_to_resize image
  first_cause C.Size = None
  first_cause C.Leaked = None

-- The command is a misuse: its slot is in use or empty, or the range passes the end of the mapping or of the lookup there.
abbrev pub IsMisused : List (Option Prepared) → (found : ℕ → Option Mapping) → Command → Type 0
IsMisused before found (C.ReadMapped slot at n) = MatchOption (found slot) (Unit {0}) (λ f. f.length < at + n)
IsMisused before found (C.PrepareDataMapping slot offset n overwrite) = (p : Prepared) × (slice_get before slot ≡ Some (Some p))
IsMisused before found (C.WriteMapped slot at bytes) = (slice_get before slot ≡ Some None) ⊎ ((p : Prepared) × (slice_get before slot ≡ Some (Some p)) × (length_of p < at + length bytes.items))
IsMisused before found (C.CommitDataMapping slot) = slice_get before slot ≡ Some None
IsMisused before found (C.DiscardDataMapping slot) = slice_get before slot ≡ Some None
IsMisused before found command = ⊥

-- The reply is `Misuse` exactly for a misuse.
abbrev pub ReportsMisuse : List (Option Prepared) → (found : ℕ → Option Mapping) → Command → Reply → Type 0
ReportsMisuse before found command reply = (reply ≡ R.Misuse) ↔ IsMisused before found command

-- ---- during the work

module _ {S F : Type 0} (old new : Qcow2 S F) (before : List (Option Prepared)) (found : ℕ → Option Mapping) where
  -- Why reading a range that was looked up is refused. It is refused 10 only if the tables in memory map it differently, and 7 only if it is compressed.
  abbrev pub MayFailReadingAt : Mapping → (at n : ℕ) → ImageError → Type 0
  MayFailReadingAt m at n e = MayFailReadingFound old new (m.offset + at) n e × RefusesHeld old new (m.offset + at) (further_by at m.kind) n e

  -- The refusals of a command that no check refused, whatever the image contains.
  abbrev pub MayFailWith : Command → ImageError → Type 0
  MayFailWith (C.Read offset n) e = MayFailReadingFrom new offset (offset + n) e
  MayFailWith (C.Write offset bytes) e = MayFailPreparing new e
  MayFailWith (C.Fill offset n byte) e = MayFailPreparing new e
  MayFailWith (C.GetMapping slot offset max) e = MayFailFinding old new offset max e
  MayFailWith (C.ReadMapped slot at n) e = (m : Mapping) × (found slot ≡ Some m) × MayFailReadingAt m at n e
  MayFailWith (C.PrepareDataMapping slot offset n overwrite) e = MayFailPreparing new e
  MayFailWith (C.CommitDataMapping slot) e = IsFaultOrLimit e
  MayFailWith (C.DiscardDataMapping slot) e = ⊥
  MayFailWith (C.EnsureZeroMapping offset n) e = MayFailPreparing new e
  MayFailWith (C.DiscardToZero offset n) e = MayFailPreparing new e
  MayFailWith (C.DiscardToAny offset n) e = MayFailPreparing new e
  MayFailWith (C.DiscardToBacking offset n) e = MayFailPreparing new e
  MayFailWith (C.ReadvSpecial offset n) e = MayFailTelling old new offset 1 e ⊎ ((e ≡ I.NotCompressed offset) × ¬ IsCompressedInTables new offset)
  MayFailWith (C.TryReadvSpecial offset n) e = MayFailTelling old new offset 1 e
  MayFailWith C.Flush e = IsFaultOrLimit e
  MayFailWith C.Sync e = IsFault e
  MayFailWith C.InvalidateCache e = MayFailToInvalidate e
  MayFailWith (C.ResizeGrow size mode) e = MayFailToGrow new mode e
  MayFailWith (C.ResizeShrink size) e = IsFault e ⊎ (e ≡ I.MappingPrepared)
  MayFailWith C.Size e = ⊥
  MayFailWith C.Leaked e = ⊥
  MayFailWith (C.WriteMapped slot at bytes) e = (p : Prepared) × (slice_get before slot ≡ Some (Some p)) × MayFailPuttingAt old new p at (length bytes.items) e

module _ {S F : Type 0} (view : S → StorageView) (old new : Qcow2 S F) (before : Mappings) where
  -- Why clearing a range of a sound image is refused: a fault; a limit; 20; 8, if a mapping is pinned; or 9, if one is pinned in the L2 table of the first offset.
  abbrev pub ClearingMayFail : (offset n : ℕ) → ImageError → Type 0
  ClearingMayFail offset n e = MayFailAllocating (HasPinnedMapping before) (IsUnderMapping old.file.header.fields (from_in old offset n) before) ⊥ (NeedsOverflowingL1Entry old (from_in old offset n)) e

  -- Why a write of n bytes to a sound image is refused during the work. A compressed cluster is one at the moment of the refusal.
  abbrev pub WriteMayFailAllocating : (offset n : ℕ) → ImageError → Type 0
  WriteMayFailAllocating offset n e =
      MayFailAllocating (HasPinnedMapping before) (IsUnderMappingIn old.file.header.fields offset (offset + n) before) (CopiesCompressed offset n true new.file.header.fields (known_in view new.file)) (Unit {0}) e

  -- Why a command that allocates clusters of a sound image is refused during the work.
  abbrev pub CommandMayFailAllocating : Command → ImageError → Type 0
  CommandMayFailAllocating (C.Write offset bytes) e = WriteMayFailAllocating offset (length bytes.items) e
  CommandMayFailAllocating (C.Fill offset n byte) e = WriteMayFailAllocating offset n e
  CommandMayFailAllocating (C.PrepareDataMapping slot offset n overwrite) e =
      MayFailAllocating (HasPinnedMapping before) (IsTaken old.file.header.fields (known_in view old.file) offset n before) (CopiesCompressed offset n overwrite old.file.header.fields (known_in view old.file)) (NeedsOverflowingL1Entry old offset) e
  CommandMayFailAllocating (C.EnsureZeroMapping offset n) e = ClearingMayFail offset n e
  CommandMayFailAllocating (C.DiscardToZero offset n) e = ClearingMayFail offset n e
  CommandMayFailAllocating (C.DiscardToAny offset n) e = ClearingMayFail offset n e
  CommandMayFailAllocating (C.DiscardToBacking offset n) e = ClearingMayFail offset n e
  CommandMayFailAllocating (C.ResizeGrow size mode) e = MayFailGrowing before mode (size_of old) (rounded_up (cluster_size old.file.header.fields) size) old.file.header.fields (known_in view old.file) e
  CommandMayFailAllocating command e = Unit {0}

module _ {S F : Type 0} (view : S → StorageView) (backing : F → BackingView) (old new : Qcow2 S F) (before : Mappings) where
  -- The command has nothing to do.
  abbrev pub HasNothingToDo : Command → Type 0
  HasNothingToDo (C.Read offset n) = n ≡ 0
  HasNothingToDo (C.Write offset bytes) = length bytes.items ≡ 0
  HasNothingToDo (C.Fill offset n byte) = n ≡ 0
  HasNothingToDo (C.GetMapping slot offset max) = size_of old ≤ offset
  HasNothingToDo (C.ReadMapped slot at n) = n ≡ 0
  HasNothingToDo (C.PrepareDataMapping slot offset n overwrite) = n ≡ 0
  HasNothingToDo (C.WriteMapped slot at bytes) = length bytes.items ≡ 0
  HasNothingToDo (C.CommitDataMapping slot) = (p : Prepared) × (slice_get before.slots slot ≡ Some (Some p)) × IsNone (table_of p)
  HasNothingToDo (C.EnsureZeroMapping offset n) = to_in old offset n ≤ from_in old offset n
  HasNothingToDo (C.DiscardToZero offset n) = to_in old offset n ≤ from_in old offset n
  HasNothingToDo (C.DiscardToAny offset n) = to_in old offset n ≤ from_in old offset n
  HasNothingToDo (C.DiscardToBacking offset n) = to_in old offset n ≤ from_in old offset n
  HasNothingToDo (C.ReadvSpecial offset n) = n ≡ 0
  HasNothingToDo (C.TryReadvSpecial offset n) = n ≡ 0
  HasNothingToDo (C.ResizeGrow size mode) = size ≤ size_of old
  HasNothingToDo (C.ResizeShrink size) = size_of old ≤ size
  HasNothingToDo command = ⊥

  -- ---- prepared mappings, on a sound image

  -- A range is prepared only if no mapping is pinned in its L2 table, or the range may be written in place. It is refused 9 only otherwise.
  abbrev pub IsUntakenIn : (offset n : ℕ) → Reply → Type 0
  IsUntakenIn offset n (R.Prepared host count existing) = ¬ IsTaken old.file.header.fields (known_in view old.file) offset n before
  IsUntakenIn offset n reply = refusal_in reply ≡ Some I.TablePrepared → IsTaken old.file.header.fields (known_in view old.file) offset n before

  -- A range with whole clusters is cleared only if no mapping is pinned in its L2 table, and refused 9 only if one is.
  abbrev pub IsUntouchedUnder : (offset n : ℕ) → Reply → Type 0
  IsUntouchedUnder offset n (R.Range from count) = from_in old offset n < to_in old offset n → ¬ IsUnderMapping old.file.header.fields (from_in old offset n) before
  IsUntouchedUnder offset n reply = from_in old offset n < to_in old offset n → refusal_in reply ≡ Some I.TablePrepared → IsUnderMapping old.file.header.fields (from_in old offset n) before

  -- The mapping in a slot is existing, and the bytes are not at its host offset any more.
  pub record IsOutdatedAt (slot at n : ℕ) : Type 0 where
    pub mapping : Prepared
    pub there : slice_get before.slots slot ≡ Some (Some mapping)
    pub existing : table_of mapping ≡ None
    pub moved : ¬ IsFoundWhole view old (mapping.guest + at) (Raw mapping.place (mapping.offset + at) true) n

  -- A range that was looked up is read only if the whole of it is still mapped in the same way, and is refused 10 only if it is not.
  abbrev pub ReadsLookedUp : (found : ℕ → Option Mapping) → (slot at n : ℕ) → Reply → Type 0
  ReadsLookedUp found slot at n (R.Bytes bytes) = 0 < n → (m : Mapping) × (found slot ≡ Some m) × IsFoundWhole view old (m.offset + at) (further_by at m.kind) n
  ReadsLookedUp found slot at n reply = refusal_in reply ≡ Some I.OutdatedMapping → (m : Mapping) × (found slot ≡ Some m) × (¬ IsFoundWhole view old (m.offset + at) (further_by at m.kind) n)

  -- Why reading a range that was looked up is refused, and why putting bytes into a mapping is.
  abbrev pub MayFailLookedUp : (found : ℕ → Option Mapping) → (slot at n : ℕ) → ImageError → Type 0
  MayFailLookedUp found slot at n e = (m : Mapping) × (found slot ≡ Some m) × MayFailMapped (IsCacheHeld old before) (further_by at m.kind) (IsFoundWhole view old (m.offset + at) (further_by at m.kind) n) e

  abbrev pub MayFailPuttingOnSound : (slot at : ℕ) → ImageError → Type 0
  MayFailPuttingOnSound slot at e = (p : Prepared) × (slice_get before.slots slot ≡ Some (Some p)) × MayFailPutting (IsCacheHeld old before) p at e

  -- A write is refused 13 only if it passed a limit, and 20 only if the rest of its range, after the bytes that were written, has that cause. Each of its parts respects the prepared mappings.
  abbrev pub StopsRightly : (offset : ℕ) → List ℕ → Reply → Type 0
  StopsRightly offset bytes (R.WriteRefused e n) = (e ≡ I.Limit → IsLimited view backing (given_of offset bytes ∷ []) (offset + length bytes) old before) × RespectsMappings view backing old before offset bytes (Err (e, n)) × (e ≡ I.Overflow → NeedsOverflowingToWrite view backing old offset bytes n)
  StopsRightly offset bytes R.Done = RespectsMappings view backing old before offset bytes (Ok tt)
  StopsRightly offset bytes reply = Unit {0}

  -- While a mapping that isn't existing is prepared, an invalidation is refused 21, or 14 if there is no memory for the list of pinned tables. Otherwise it is refused only for a fault.
  pub record RespectsInUse (reply : Reply) : Type 0 where
    pub some : HasPinnedMapping before → IsSomeAnd (refusal_in reply) IsOfPrepared
    pub none : ¬ HasPinnedMapping before → IfSome (refusal_in reply) IsFault
    pub told : IfSome (refusal_in reply) (λ e. IsStillInUse e → HasPinnedMapping before)

  -- What prepared mappings refuse: ranges of a pinned L2 table (9), a shrink (17) and an invalidation (21), and nothing else. Putting, and reading what was looked up, is refused 10 only if the mapping is outdated. Commits and flushes are refused only by a fault.
  -- Reads, lookups and puts are refused by a fault, or for a cause in the image or in its prepared mappings.
  abbrev pub MayFailOnSound : (found : ℕ → Option Mapping) → Command → Reply → Type 0
  MayFailOnSound found (C.Read offset n) reply = IfSome (refusal_in reply) (MayFailReadingRange before offset (offset + n) old.file.header.fields (known_in view old.file))
  MayFailOnSound found (C.Write offset bytes) reply = (refusal_in reply ≡ Some I.TablePrepared → IsUnderMappingIn old.file.header.fields offset (offset + length bytes.items) before) × StopsRightly offset bytes.items reply
  MayFailOnSound found (C.Fill offset n byte) reply = (refusal_in reply ≡ Some I.TablePrepared → IsUnderMappingIn old.file.header.fields offset (offset + n) before) × StopsRightly offset (replicate n byte) reply
  MayFailOnSound found (C.PrepareDataMapping slot offset n overwrite) reply = IsUntakenIn offset n reply
  MayFailOnSound found (C.GetMapping slot offset max) reply = IfSome (refusal_in reply) (MayFailLooking (IsCacheHeld old before))
  MayFailOnSound found (C.ReadMapped slot at n) reply = ReadsLookedUp found slot at n reply × IfSome (refusal_in reply) (MayFailLookedUp found slot at n)
  MayFailOnSound found (C.WriteMapped slot at bytes) reply = (refusal_in reply ≡ Some I.OutdatedMapping → IsOutdatedAt slot at (length bytes.items)) × IfSome (refusal_in reply) (MayFailPuttingOnSound slot at)
  MayFailOnSound found (C.CommitDataMapping slot) reply = IfSome (refusal_in reply) IsFault
  MayFailOnSound found C.InvalidateCache reply = RespectsInUse reply
  MayFailOnSound found C.Flush reply = IfSome (refusal_in reply) IsFault
  MayFailOnSound found (C.EnsureZeroMapping offset n) reply = IsUntouchedUnder offset n reply
  MayFailOnSound found (C.DiscardToZero offset n) reply = IsUntouchedUnder offset n reply
  MayFailOnSound found (C.DiscardToAny offset n) reply = IsUntouchedUnder offset n reply
  MayFailOnSound found (C.DiscardToBacking offset n) reply = IsUntouchedUnder offset n reply
  MayFailOnSound found (C.ReadvSpecial offset n) reply = IfSome (refusal_in reply) (MayFailSpecial (IsCacheHeld old before) offset)
  MayFailOnSound found (C.TryReadvSpecial offset n) reply = IfSome (refusal_in reply) (λ e. MayFailLooking (IsCacheHeld old before) e ⊎ (e ≡ I.Compressed))
  MayFailOnSound found (C.ResizeGrow size mode) reply = size_of old < size → refusal_in reply ≡ Some I.TablePrepared → (shows_old mode ≡ false) × IsUnderMappingIn old.file.header.fields (size_of old) (boundary_in old size) before
  MayFailOnSound found (C.ResizeShrink size) reply = size < size_of old → (refusal_in reply ≡ Some I.MappingPrepared) ↔ HasPinnedMapping before
  MayFailOnSound found command reply = Unit {0}

  -- ---- one command

  -- The refusal of a command. A misuse is replied to as such, and nothing changes. Otherwise the first check that fails gives the reply, and nothing changes.
  -- If no check fails, the command is refused only for causes that its work may meet, and on a sound image for fewer. A command with nothing to do is not refused. On a sound image a command respects the prepared mappings.
  pub record RefusalJustified (found : ℕ → Option Mapping) (command : Command) (reply : Reply) : Type 0 where
    pub misuse : ReportsMisuse before.slots found command reply
    pub still : reply ≡ R.Misuse → new ≡ old
    pub early : IfSome (first_cause old command) (λ e. ((refusal_in reply ≡ Some e) ⊎ (reply ≡ R.Misuse)) × (new ≡ old))
    pub late : first_cause old command ≡ None → IfSome (refusal_in reply) (MayFailWith old new before.slots found command)
    pub may_fail : first_cause old command ≡ None → (abstract_of view backing old before).is_sound → IfSome (refusal_in reply) (CommandMayFailAllocating view old new before command)
    pub idle : first_cause old command ≡ None → HasNothingToDo command → refusal_in reply ≡ None
    pub respects : first_cause old command ≡ None → (abstract_of view backing old before).is_sound → MayFailOnSound found command reply
