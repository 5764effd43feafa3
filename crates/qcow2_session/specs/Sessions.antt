-- What a session does to an image: reads, writes, and runs of commands.
use Rattle.std.specs.Prelude.{ℕ, ◌+◌, ◌-◌, ◌%◌, ◌<◌, ◌≤◌, ◌==◌, ◌≡◌, ◌⊎◌, IsTrue, true, false, List, [], ◌∷◌, length, map, take, Vec, Bool, Option, Some, None, is_some, Result, Ok, Err, slice_get, if◌then◌else◌}
use Rattle.std.specs.Global.{Global}
use Rattle.image_access.specs.Backing.{BackingView}
use Rattle.image_access.specs.Moments.{StorageView}
use Rattle.qcow2_metadata.specs.Bytes.{Bytes}
use Rattle.qcow2_metadata.specs.Cover.{cover}
use Rattle.qcow2_metadata.specs.Header.{cluster_size}
use Rattle.qcow2_metadata.specs.declared.l2_mapping.L2Mapping.TheVariants.{Data}
use Rattle.qcow2_disk.specs.Alike.{IsDataAt}
use Rattle.qcow2_disk.specs.Disk.{with_bytes}
use Rattle.qcow2_disk.specs.Mappings.{given_of}
use Rattle.qcow2_disk.specs.AbstractImages.{Setting, Guest, guest_of, IsOpened}
use Rattle.qcow2_disk.specs.Calls.{AnsweredEffect, RefusedEffect, Shows, with_disk, MayWrite}
use Rattle.qcow2_disk.specs.Found.{IsFoundIn, rest_of_table}
use Rattle.qcow2_disk.specs.Runs.{Command as RunCommand, Reply as RunReply, get_mapping, mapping_is, Found, State, RefinesState, RefinesCommand, RefinesWholeRun, RefinesDisk, HasNoInvalidation, begun}
use Rattle.qcow2_alloc.specs.declared.error.ImageError.{ImageError}
use Rattle.qcow2_alloc.specs.declared.error.ImageError.TheVariants.{BeyondSize, Dependency, Failed, ReadOnly, TablePrepared}
use Rattle.qcow2_alloc.specs.ImageFile.{contents_in, known_in}
use Rattle.qcow2_image.specs.declared.image.Qcow2.{Qcow2}
use Rattle.qcow2_image.specs.declared.mapping.Mapping.{Mapping}
use Rattle.qcow2_image.specs.declared.prepared.Prepared.{Prepared}
use Rattle.qcow2_image.specs.Calls.{AnswersCall, Prepares, refusal_of}
use Rattle.qcow2_image.specs.CallParts.{AreCopied}
use Rattle.qcow2_image.specs.Found.{l1_index_of}
use Rattle.qcow2_image.specs.Image.{size_of}
use Rattle.qcow2_image.specs.L1Entries.{NeedsOverflowingL1Entry}
use Rattle.qcow2_image.specs.Prepared.{length_of, offset_of}
use Rattle.qcow2_image.specs.Preparing.{IsTaken}
use Rattle.qcow2_image.specs.Refusals.{passes, MayFail, MayFailToRead}
use Rattle.qcow2_image.specs.ImageInvariant.{abstract_of, image_abstraction, Mappings, in_image}
use Rattle.qcow2_session.specs.Commands.{command_of, reply_of}
use Rattle.qcow2_session.specs.declared.session.Command.{Command}
use Rattle.qcow2_session.specs.declared.session.Command.TheVariants as C
use Rattle.qcow2_session.specs.declared.session.Reply.{Reply}
use Rattle.qcow2_session.specs.declared.session.Reply.TheVariants as R
use Rattle.qcow2_session.specs.declared.slots.Slots.{Slots}

-- The lookup in a slot, if there is one.
abbrev pub mapping_at : Option (Option Mapping) → Option Mapping
mapping_at (Some m) = m
mapping_at None = None

abbrev pub mappings_in : List (Option Mapping) → ℕ → Option Mapping
mappings_in mappings k = mapping_at (slice_get mappings k)

-- The lookups after a command: a new one in its slot, and the same in all others.
abbrev pub looked_up_after : (ℕ → Option Mapping) → Command → Reply → ℕ → Option Mapping
looked_up_after found (C.GetMapping slot offset max) (R.Mapping m) k = if k == slot then Some m else found k
looked_up_after found command reply k = found k

-- The range of a lookup.
abbrev pub range_of : Option Mapping → Option Found
range_of (Some m) = Some (record { from = m.offset; length = m.length })
range_of None = None

abbrev pub found_in : List (Option Mapping) → ℕ → Option Found
found_in mappings k = range_of (mappings_in mappings k)

-- In a run that has not failed, the lookups are those in the slots.
abbrev pub HasFound : State → Slots → Type 0
HasFound s slots = s.is_failed ≡ false → (k : ℕ) → s.found k ≡ found_in slots.mappings.items k

-- The lookups at the start of a run find what is in these bytes.
abbrev pub LooksUp : Bytes → Bool → List RunCommand → List RunReply → Type 0
LooksUp b is_backed (get_mapping place offset max ∷ commands) (mapping_is from kind n ∷ replies) = IsFoundIn b is_backed offset max kind n × LooksUp b is_backed commands replies
LooksUp b is_backed commands replies = Unit {0}

-- The bytes are on the disk, and nothing else changed.
abbrev pub HasWritten : ℕ → List ℕ → Guest → Guest → Type 0
HasWritten offset bytes old new = new ≡ with_disk old (with_bytes old.disk offset bytes)

-- A range is refused as beyond the size only if it is.
abbrev pub IsRightlyBeyond : {S F : Type 0} → Qcow2 S F → ℕ → ℕ → ImageError → Type 0
IsRightlyBeyond image offset n e = e ≡ BeyondSize → IsTrue (passes (size_of image) offset n)

-- The refusals of a read: an unusable image, a range beyond the size, or a cause that comes during the work.
abbrev pub IsOfReading : ImageError → Type 0
IsOfReading e = MayFailToRead e ⊎ ((e ≡ BeyondSize) ⊎ ((e ≡ Failed) ⊎ (e ≡ Dependency)))

-- The refusals of a write: an unusable image, a range beyond the size, a cause that comes during the work, an image opened for reading, or a pinned L2 table.
abbrev pub IsOfWriting : ImageError → Type 0
IsOfWriting e = (MayFail e ⊎ ((e ≡ BeyondSize) ⊎ ((e ≡ Failed) ⊎ (e ≡ Dependency)))) ⊎ ((e ≡ ReadOnly) ⊎ (e ≡ TablePrepared))

-- The cluster size of an image, in bytes.
abbrev pub cluster_size_of : {S F : Type 0} → Qcow2 S F → ℕ
cluster_size_of image = cluster_size image.file.header.fields

-- A cluster of the image ends at this offset.
abbrev pub EndsCluster : {S F : Type 0} → Qcow2 S F → ℕ → Type 0
EndsCluster image place = place % cluster_size_of image ≡ 0

module _ {S F : Type 0} (view : S → StorageView) (backing : F → BackingView) (old new : Qcow2 S F) where
  -- The bytes that were read are those of the disk.
  abbrev pub Reads : ℕ → ℕ → Result (Vec ℕ Global) ImageError → Type 0
  Reads offset n result = AnswersCall view backing old new [] (λ bytes old new. (length bytes.items ≡ n) × Shows old.disk offset bytes.items × (new ≡ old)) result

  -- The bytes in the buffer are those of the disk.
  abbrev pub ReadsInto : ℕ → List ℕ → Result (Unit {0}) ImageError → Type 0
  ReadsInto offset bytes result = AnswersCall view backing old new [] (λ _ old new. Shows old.disk offset bytes × (new ≡ old)) result

  -- The bytes are written. If the write is refused, the first ones are; after a failed allocation, any others may be too.
  abbrev pub Writes : ℕ → List ℕ → Result (Unit {0}) (ImageError × ℕ) → Type 0
  Writes offset bytes (Ok done) = AnswersCall view backing old new (given_of offset bytes ∷ []) (λ _. HasWritten offset bytes) (Ok done)
  Writes offset bytes (Err r) = (out : Mappings) → let v = abstract_of view backing old out in let w = abstract_of view backing new out in RefusedEffect v w (given_of offset bytes ∷ []) [] (refusal_of r.0)
      (MayWrite (refusal_of r.0) (guest_of v) offset bytes r.1 (guest_of w))

  -- The first n bytes were read.
  abbrev pub ReadsFirst : ℕ → List ℕ → Result ℕ ImageError → Type 0
  ReadsFirst offset bytes result = AnswersCall view backing old new [] (λ n old new. Shows old.disk offset (take n bytes) × (new ≡ old)) result

  -- The first n bytes were written, and no others were given.
  abbrev pub WritesFirst : ℕ → List ℕ → Result ℕ ImageError → Type 0
  WritesFirst offset bytes (Ok n) = Writes offset (take n bytes) (Ok tt)
  WritesFirst offset bytes (Err e) = Writes offset bytes (Err (e, 0))

module _ {S F : Type 0} (view : S → StorageView) (backing : F → BackingView) (old : Qcow2 S F) where
  -- A write was refused after its first `done` bytes. At some image `before`, exactly these bytes are written, and the cause of the refusal holds for the rest of the range.
  -- If no bytes were written, `before` is the image at the start of the write.
  pub record StopsFor (cause : (at rest : ℕ) → Qcow2 S F → Type 0) (offset : ℕ) (bytes : List ℕ) (done : ℕ) : Type 0 where
    pub before : Qcow2 S F
    pub written : Writes view backing old before offset (take done bytes) (Ok tt)
    pub begun : done ≡ 0 → before ≡ old
    pub refused : cause (offset + done) (length bytes - done) before

  -- Why a write is refused 20: an L1 entry past 64 bits would have to be written for the first byte of the rest.
  abbrev pub NeedsOverflowingToWrite : (offset : ℕ) → List ℕ → (done : ℕ) → Type 0
  NeedsOverflowingToWrite = StopsFor (λ at n before. NeedsOverflowingL1Entry before at)

  -- Why a write is refused 9: a mapping is pinned in the L2 table of the rest, which cannot all be written in place.
  abbrev pub IsTakenToWrite : Mappings → (offset : ℕ) → List ℕ → (done : ℕ) → Type 0
  IsTakenToWrite out = StopsFor (λ at n before. IsTaken before.file.header.fields (known_in view before.file) at n out)

  -- Byte i of a write was written by a part that began at it or before it, in the same L2 table. At some image `before` the part, exactly the bytes before the part are written.
  -- For the first part, `before` is the image at the start of the write.
  -- No mapping pinned that L2 table then, unless all of the rest could be written in place.
  pub record IsRespectedAt (out : Mappings) (offset : ℕ) (bytes : List ℕ) (i : ℕ) : Type 0 where
    pub from : ℕ
    pub low : from ≤ i
    pub same_table : l1_index_of old.file.header.fields (offset + i) ≡ l1_index_of old.file.header.fields (offset + from)
    pub before : Qcow2 S F
    pub written : Writes view backing old before offset (take from bytes) (Ok tt)
    pub begun : from ≡ 0 → before ≡ old
    pub untaken : ¬ IsTaken before.file.header.fields (known_in view before.file) (offset + from) (length bytes - from) out

  -- Every byte that is reported as written was written in this way. A write is refused 9 only if a pinned mapping is in the way of the rest.
  abbrev pub RespectsMappings : Mappings → (offset : ℕ) → List ℕ → Result (Unit {0}) (ImageError × ℕ) → Type 0
  RespectsMappings out offset bytes (Ok done) = (i : ℕ) → i < length bytes → IsRespectedAt out offset bytes i
  RespectsMappings out offset bytes (Err r) = (r.0 ≡ TablePrepared → IsTakenToWrite out offset bytes r.1) × ((i : ℕ) → i < r.1 → IsRespectedAt out offset bytes i)

  -- The first part of a write lies in one L2 table, and respects the pinned mappings.
  abbrev pub RespectsFirst : Mappings → (offset n : ℕ) → Result ℕ ImageError → Type 0
  RespectsFirst out offset n (Ok count) = 0 < n → (count ≤ rest_of_table old.file.header.fields offset) × (¬ IsTaken old.file.header.fields (known_in view old.file) offset n out)
  RespectsFirst out offset n (Err e) = e ≡ TablePrepared → (0 < n) × IsTaken old.file.header.fields (known_in view old.file) offset n out

module _ {S F : Type 0} (view : S → StorageView) (backing : F → BackingView) (old new : Qcow2 S F) where
  -- One command is one step of every run that agrees with the image and its mappings.
  abbrev pub CommandSteps : Slots → Slots → Command → Reply → Type 0
  CommandSteps slots slots' command reply = (x : Setting) (s : State) → let v = abstract_of view backing old (in_image slots.prepared.items) in let w = abstract_of view backing new (in_image slots'.prepared.items) in
      RefinesState x v s → HasFound s slots → RefinesCommand x v w s (command_of command) (reply_of reply)

  -- Of the prepared mappings only these are left.
  abbrev pub ReleasesMappings : List (Option Prepared) → List (Option Prepared) → Type 0
  ReleasesMappings out left = let v = abstract_of view backing old (in_image out) in let w = abstract_of view backing new (in_image left) in AnsweredEffect v w [] [] ((guest_of w).disk ≡ (guest_of v).disk)

  -- There was no memory for the replies or the slots, and no command ran.
  abbrev pub IsUntouched : List Reply → Type 0
  IsUntouched replies = (replies ≡ []) × (new ≡ old)

  -- Without the command `InvalidateCache`, the replies continue every run that agrees with the image, and then all mappings are dropped.
  abbrev pub RunsThrough : List Command → List Reply → Type 0
  RunsThrough commands replies = HasNoInvalidation (map command_of commands) → (x : Setting) (s : State) →
      RefinesState x (abstract_of view backing old (in_image [])) s → IsUntouched replies ⊎ RefinesWholeRun (image_abstraction view backing) x old new (begun s) (map command_of commands) (map reply_of replies)

  -- On an image that was just opened, the lookups at the start of a run without the command `InvalidateCache` find what is in the bytes of its file.
  abbrev pub LookupsFindContents : List Command → List Reply → Type 0
  LookupsFindContents commands replies = HasNoInvalidation (map command_of commands) → IsOpened (abstract_of view backing old (in_image [])) → LooksUp (contents_in view old.file) (is_some old.backing) (map command_of commands) (map reply_of replies)

  -- On an image that was just opened, the replies are a run of its disk, without the command `InvalidateCache`.
  abbrev pub RunRefinesDisk : List Command → List Reply → Type 0
  RunRefinesDisk commands replies = HasNoInvalidation (map command_of commands) → IsOpened (abstract_of view backing old (in_image [])) → IsUntouched replies ⊎ RefinesDisk (image_abstraction view backing) old new (map command_of commands) (map reply_of replies)

-- A part of a write, after its first `done` bytes. At some image `before` it, exactly these bytes are written, and the rest of the range is prepared.
-- For the first part, `before` is the image at the start of the write.
pub record PlacesPart {S F : Type 0} (view : S → StorageView) (backing : F → BackingView) (old : Qcow2 S F) (offset : ℕ) (bytes : List ℕ) (done : ℕ) (p : Prepared) : Type 0 where
  pub before : Qcow2 S F
  pub written : Writes view backing old before offset (take done bytes) (Ok tt)
  pub begun : done ≡ 0 → before ≡ old
  pub ready : Qcow2 S F
  pub prepares : Prepares view backing before ready (offset + done) (length bytes - done) true (Ok p)

module _ {S F : Type 0} (view : S → StorageView) (backing : F → BackingView) (old new : Qcow2 S F) (offset : ℕ) (bytes : List ℕ) where
  -- Byte i of a write is copied data, at its place in the mapping of a part.
  pub record StandsByPart (i : ℕ) : Type 0 where
    pub done : ℕ
    pub mapping : Prepared
    pub part : PlacesPart view backing old offset bytes done mapping
    pub from : done ≤ i
    pub to : i < done + length_of mapping
    pub stands : IsDataAt new.file.header.fields (known_in view new.file) true (offset + i) (offset_of mapping + (i - done))

  -- The first `count` bytes were written: each guest cluster that they touch is copied data, and each byte is where a part put it. Bytes that were copied data before are still at the same place.
  pub record LeavesCopied (count : ℕ) : Type 0 where
    pub range : AreCopied view offset (offset + count) new
    pub placed : (i : ℕ) → i < count → StandsByPart i
    pub stay : (g host : ℕ) → cover old.file.header.fields (known_in view old.file) g ≡ Data host true → cover new.file.header.fields (known_in view new.file) g ≡ Data host true

-- The lookups are those before the command, with the one that it replied.
abbrev pub Finds : Slots → Slots → Command → Reply → Type 0
Finds slots slots' command reply = (k : ℕ) → mappings_in slots'.mappings.items k ≡ looked_up_after (mappings_in slots.mappings.items) command reply k
