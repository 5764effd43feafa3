-- Commands, replies, and runs: the replies that a list of commands may get, and the disk after each.
use Rattle.std.specs.Prelude.{ℕ, ◌+◌, ◌≡◌, ◌≢◌, ◌⊎◌, ◌≤◌, ◌<◌, ◌==◌, Bool, true, false, IsTrue, List, [], ◌∷◌, length, Option, Some, None, MatchOption, if◌then◌else◌}
use Rattle.image_access.specs.Moments.{StorageView, EachMomentSince, IsLeftBy}
use Rattle.image_access.specs.declared.storage.PreallocateMode.{PreallocateMode}
use Rattle.qcow2_metadata.specs.Bytes.{Bytes, byte_at}
use Rattle.qcow2_metadata.specs.Consistent.{IsConsistent}
use Rattle.qcow2_metadata.specs.Cover.{cover}
use Rattle.qcow2_metadata.specs.Header.{header, cluster_size}
use Rattle.qcow2_disk.specs.Disk.{Disk, with_bytes}
use Rattle.qcow2_disk.specs.Stops.{GivenBytes, Checkpoint, checkpoint_at, checkpoint_with, StopOkEverywhere, StopOk, LeavesKept, LeavesOk}
use Rattle.qcow2_disk.specs.Rules.{answered}
use Rattle.qcow2_disk.specs.Mappings.{PreparedMapping, IsPrepared, put_mapping, put_disk, committed, is_copied_data, IsPrivateIn, IsHiddenIn, given_of, given_by_put, given_by_commit}
use Rattle.qcow2_disk.specs.Found.{Kind, IsFoundIn, IsCompressedAt}
use Rattle.qcow2_disk.specs.AbstractImages.{Setting, HostRange, Guest, Abstraction, AbstractImage, abstract_image, guest_of, stored_bytes}
use Rattle.qcow2_disk.specs.ClearedCovers.{IsRightlyCleared}
use Rattle.qcow2_disk.specs.GrownCovers.{IsRightlyGrown}
use Rattle.qcow2_disk.specs.UngivenCovers.{Touches, UngivenStay}
use Rattle.qcow2_disk.specs.Calls.{Refusal, memory, storage, not_compressed, another, IsRefusalByFault, Shows, with_disk, with_slot, MayWrite, Clearing, cleared_at, given_by_clear, grown_to, given_by_grow, MayGrow, IsShrunk, given_by_shrink, given_by_shrunk}

-- A command of a run: one call on an image.
pub data Command : Type 0 where
  read : (offset length : ℕ) → Command
  write : (offset : ℕ) → (bytes : List ℕ) → Command
  -- A lookup. Its range is remembered at a place, for later reads.
  get_mapping : (place offset max : ℕ) → Command
  read_mapped : (place at length : ℕ) → Command
  prepare : (slot offset length : ℕ) → (overwrite : Bool) → Command
  put : (slot at : ℕ) → (bytes : List ℕ) → Command
  commit : (slot : ℕ) → Command
  discard : (slot : ℕ) → Command
  clear : (how : Clearing) → (offset length : ℕ) → Command
  read_special : (offset length : ℕ) → Command
  try_read_special : (offset length : ℕ) → Command
  flush : Command
  sync : Command
  invalidate_cache : Command
  grow : (size : ℕ) → (mode : PreallocateMode) → Command
  shrink : (size : ℕ) → Command
  get_size : Command
  get_leaked : Command

-- The reply to a command.
pub data Reply : Type 0 where
  done : Reply
  bytes_are : List ℕ → Reply
  -- The kind of the first `length` bytes of a range that begins at `from`.
  mapping_is : (from : ℕ) → (kind : Kind) → (length : ℕ) → Reply
  -- Host offset and length of the prepared range.
  prepared_is : (host length : ℕ) → (is_existing : Bool) → Reply
  range_is : (offset length : ℕ) → Reply
  -- The data at this offset are not compressed. None if no bytes were asked for.
  plain_at : (offset : Option ℕ) → Reply
  number_is : ℕ → Reply
  refused : Refusal → Reply
  write_refused : Refusal → (done : ℕ) → Reply
  misuse : Reply

-- A guest range that a lookup found: offset and length.
pub record Found : Type 0 where
  pub from : ℕ
  pub length : ℕ

abbrev pub given_at : Option PreparedMapping → (PreparedMapping → GivenBytes) → List GivenBytes
given_at None bytes_given = []
given_at (Some m) bytes_given = bytes_given m ∷ []

-- The values that a command gives, and the sizes that it asks for.
abbrev pub given_by : Setting → Guest → Command → List GivenBytes
given_by x g (write offset bytes) = given_of offset bytes ∷ []
given_by x g (put slot at bytes) = given_at (g.slots slot) (λ m. given_by_put g.disk m at bytes)
given_by x g (commit slot) = given_at (g.slots slot) (given_by_commit x.cluster_size g.disk)
given_by x g (clear how offset n) = given_by_clear x g.disk how offset n ∷ []
given_by x g (grow size mode) = given_by_grow x g.disk size mode
given_by x g (shrink size) = given_by_shrink x g.disk size ∷ []
given_by x g command = []

abbrev pub asked_by : Command → List ℕ
asked_by (grow size mode) = size ∷ []
asked_by (shrink size) = size ∷ []
asked_by command = []

-- The slot or the range is wrong: the place or slot is empty, a slot to prepare is in use, or the range passes the end of the found range or mapping.
abbrev pub IsMisuse : (ℕ → Option Found) → Guest → Command → Type 0
IsMisuse found g (read_mapped place at n) = MatchOption (found place) (Unit {0}) (λ f. f.length < at + n)
IsMisuse found g (prepare slot offset n overwrite) = g.slots slot ≢ None
IsMisuse found g (put slot at bytes) = MatchOption (g.slots slot) (Unit {0}) (λ m. m.length < at + length bytes)
IsMisuse found g (commit slot) = g.slots slot ≡ None
IsMisuse found g (discard slot) = g.slots slot ≡ None
IsMisuse found g command = ⊥

-- The image may give this reply to this command, and the guest then sees `new`. `found` is the last lookup of each place.
abbrev pub CommandMeaning : Setting → (ℕ → Option Found) → Guest → Command → Reply → Guest → Type 0
CommandMeaning x found old (read offset n) (bytes_are bytes) new = (length bytes ≡ n) × Shows old.disk offset bytes × (new ≡ old)
CommandMeaning x found old (write offset bytes) done new = new ≡ with_disk old (with_bytes old.disk offset bytes)
CommandMeaning x found old (write offset bytes) (write_refused e n) new = MayWrite e old offset bytes n new
CommandMeaning x found old (get_mapping place offset max) (mapping_is from kind n) new = (from ≡ offset) × (n ≤ max) × (new ≡ old)
CommandMeaning x found old (read_mapped place at n) (bytes_are bytes) new =
    (f : Found) × (found place ≡ Some f) × (length bytes ≡ n) × (0 < n → f.from + at + n ≤ old.disk.size) × Shows old.disk (f.from + at) bytes × (new ≡ old)
CommandMeaning x found old (prepare slot offset n overwrite) (prepared_is host count is_existing) new =
    (old.slots slot ≡ None) × ((m : PreparedMapping) × IsPrepared x.cluster_size old.disk offset n overwrite m × (m.length ≡ count) × (new ≡ with_slot old slot (Some m)))
CommandMeaning x found old (put slot at bytes) done new =
    (m : PreparedMapping) × (old.slots slot ≡ Some m) × (at + length bytes ≤ m.length)
    × (new ≡ with_slot (with_disk old (put_disk old.disk m at bytes)) slot (Some (put_mapping m at bytes)))
CommandMeaning x found old (commit slot) done new = (m : PreparedMapping) × (old.slots slot ≡ Some m) × (new ≡ with_slot (with_disk old (committed old.disk m)) slot None)
CommandMeaning x found old (discard slot) done new = (old.slots slot ≢ None) × (new ≡ with_slot old slot None)
CommandMeaning x found old (clear how offset n) (range_is from count) new =
    (from ≡ (answered x.cluster_size old.disk.size offset n).0) × (count ≡ (answered x.cluster_size old.disk.size offset n).1)
    × (new ≡ with_disk old (cleared_at x old.disk how offset n))
CommandMeaning x found old (read_special offset n) done new = (n ≡ 0) × (new ≡ old)
CommandMeaning x found old (try_read_special offset n) (plain_at at) new = new ≡ old
CommandMeaning x found old flush done new = new ≡ old
CommandMeaning x found old sync done new = new ≡ old
CommandMeaning x found old (grow size mode) done new = new ≡ with_disk old (grown_to x old.disk size mode)
CommandMeaning x found old (grow size mode) (refused e) new = (d : Disk) × MayGrow x old.disk size mode d × (new ≡ with_disk old d)
CommandMeaning x found old (shrink size) (number_is answer) new = (d : Disk) × IsShrunk x old.disk size answer d × (new ≡ with_disk old d)
CommandMeaning x found old get_size (number_is n) new = (n ≡ old.disk.size) × (new ≡ old)
CommandMeaning x found old get_leaked (number_is n) new = new ≡ old
CommandMeaning x found old command (refused e) new = new ≡ old
CommandMeaning x found old command misuse new = IsMisuse found old command × (new ≡ old)
CommandMeaning x found old command reply new = ⊥

-- Limits of replies. A read, a write, a prepare or a clear of at least one byte succeeds only within the size. A refused write wrote no more bytes than it has. The size, the number of leaks and dropping a mapping are never refused, and neither is a lookup at or past the size.
-- A growth to a size that is not larger, and a shrink to one that is not smaller, never fails by an I/O error or a failed allocation.
abbrev pub MayAnswer : Disk → Command → Reply → Type 0
MayAnswer d (read offset n) (bytes_are bytes) = 0 < n → offset + n ≤ d.size
MayAnswer d (write offset bytes) done = 0 < length bytes → offset + length bytes ≤ d.size
MayAnswer d (write offset bytes) (write_refused e n) = n ≤ length bytes
MayAnswer d (prepare slot offset n overwrite) (prepared_is host count is_existing) = 0 < n → offset + n ≤ d.size
MayAnswer d (clear how offset n) (range_is from count) = 0 < n → offset + n ≤ d.size
MayAnswer d (get_mapping place offset max) (refused e) = offset < d.size
MayAnswer d (discard slot) (refused e) = ⊥
MayAnswer d (grow size mode) (refused e) = IsRefusalByFault e → d.size < size
MayAnswer d (shrink size) (refused e) = IsRefusalByFault e → size < d.size
MayAnswer d get_size (refused e) = ⊥
MayAnswer d get_leaked (refused e) = ⊥
MayAnswer d command reply = Unit {0}

-- The replies of a failed image: refusal 16. Dropping a mapping, getters and misuse are replied to as usual.
abbrev pub IsAnswerOfFailed : Command → Reply → Type 0
IsAnswerOfFailed (read_mapped place at n) misuse = Unit {0}
IsAnswerOfFailed (prepare slot offset n overwrite) misuse = Unit {0}
IsAnswerOfFailed (put slot at bytes) misuse = Unit {0}
IsAnswerOfFailed (commit slot) misuse = Unit {0}
IsAnswerOfFailed (discard slot) misuse = Unit {0}
IsAnswerOfFailed (discard slot) done = Unit {0}
IsAnswerOfFailed get_size (number_is n) = Unit {0}
IsAnswerOfFailed get_leaked (number_is n) = Unit {0}
IsAnswerOfFailed (discard slot) (refused e) = ⊥
IsAnswerOfFailed get_size (refused e) = ⊥
IsAnswerOfFailed get_leaked (refused e) = ⊥
IsAnswerOfFailed command (refused e) = e ≡ another 16
IsAnswerOfFailed command (write_refused e n) = (e ≡ another 16) × (n ≡ 0)
IsAnswerOfFailed command reply = ⊥

-- The reply is an I/O error or a failed allocation.
abbrev pub IsFaultReply : Reply → Type 0
IsFaultReply (refused e) = IsRefusalByFault e
IsFaultReply (write_refused e n) = IsRefusalByFault e
IsFaultReply reply = ⊥

-- The reply is an I/O error.
abbrev pub IsStorageReply : Reply → Type 0
IsStorageReply (refused e) = e ≡ storage
IsStorageReply (write_refused e n) = e ≡ storage
IsStorageReply reply = ⊥

-- The lookups after a command: a new one at its place, and the same at all others.
abbrev pub found_after : (ℕ → Option Found) → Command → Reply → ℕ → Option Found
found_after found (get_mapping place offset max) (mapping_is from kind n) k = if k == place then Some (record { from = from; length = n }) else found k
found_after found command reply k = found k

-- Every command except `invalidate_cache`, which drops everything that is not flushed and reads the tables in the file again.
abbrev pub KeepsUnflushed : Command → Type 0
KeepsUnflushed invalidate_cache = ⊥
KeepsUnflushed command = Unit {0}

-- No command of the list is `invalidate_cache`.
abbrev pub HasNoInvalidation : List Command → Type 0
HasNoInvalidation [] = Unit {0}
HasNoInvalidation (command ∷ commands) = KeepsUnflushed command × HasNoInvalidation commands

-- The state of a run: what the guest sees, the last lookups, whether the image failed, and the checkpoint: the last flush with everything given and asked for since.
pub record State : Type 0 where
  pub guest : Guest
  pub found : ℕ → Option Found
  pub is_failed : Bool
  pub checkpoint : Checkpoint

-- The state at the start of a run: nothing was looked up, and the checkpoint is the disk and the contents of the storage.
abbrev pub started : AbstractImage → State
started v = record { guest = guest_of v; found = λ _. None; is_failed = false; checkpoint = checkpoint_at (guest_of v).disk (stored_bytes v) }

-- The state with no lookup remembered.
abbrev pub begun : State → State
begun s = record s { found = λ _. None }

-- The state at the end of a run: no mapping is prepared any more.
abbrev pub over : State → State
over s = record s { guest = record s.guest { slots = λ _. None } }

-- The checkpoint while a command is under way. It includes what the command gives and asks for.
abbrev pub checkpoint_during : Setting → State → Command → Checkpoint
checkpoint_during x old command = checkpoint_with (given_by x old.guest command) (asked_by command) old.checkpoint

-- The checkpoint after a command. A successful flush starts a new one. A successful shrink gave the values that it unmapped.
abbrev pub checkpoint_after : Setting → State → Command → Reply → Guest → Checkpoint
checkpoint_after x old flush done new = checkpoint_at new.disk old.checkpoint.header_bytes
checkpoint_after x old (shrink size) (number_is answer) new = checkpoint_with (given_by_shrunk x old.guest.disk size answer ∷ []) (asked_by (shrink size)) old.checkpoint
checkpoint_after x old command reply new = checkpoint_during x old command

-- The state after a command that was replied to.
abbrev pub stepped : Setting → State → Command → Reply → Guest → Bool → State
stepped x old command reply new failed = record {
  guest = new;
  found = found_after old.found command reply;
  is_failed = failed;
  checkpoint = checkpoint_after x old command reply new;
}

-- One command of a run. An I/O error makes the image fail, a failed allocation may, and no other reply does. A failed image replies as `IsAnswerOfFailed` says.
abbrev pub CommandStep : Setting → State → Command → Reply → State → Type 0
CommandStep x old command reply new =
    (IsTrue old.is_failed × IsAnswerOfFailed command reply × (new ≡ old))
    ⊎ ((old.is_failed ≡ false) × MayAnswer old.guest.disk command reply × (¬ IsStorageReply reply) × ((guest : Guest) × CommandMeaning x old.found old.guest command reply guest × (new ≡ stepped x old command reply guest false))
    ⊎ ((old.is_failed ≡ false) × MayAnswer old.guest.disk command reply × IsFaultReply reply × (new ≡ stepped x old command reply old.guest true)))

-- A run: each command has one reply, and leads from one state to the next.
abbrev pub Run : Setting → State → List Command → List Reply → State → Type 0
Run x old [] [] new = new ≡ old
Run x old (command ∷ commands) (reply ∷ replies) new = (mid : State) × CommandStep x old command reply mid × Run x mid commands replies new
Run x old [] (reply ∷ replies) new = ⊥
Run x old (command ∷ commands) [] new = ⊥

-- ---- what a stop during a run leaves

-- What a stop during a call may leave. Until the return every moment is safe at checkpoint `under`, at the return at checkpoint `after`. An image that has failed writes nothing.
pub record IsSafeWhile (backing : Bytes) (old new : StorageView) (failed : Bool) (under after : Checkpoint) : Type 0 where
  pub moments : failed ≡ false → EachMomentSince old new (λ c. StopOk backing under (byte_at c))
  pub at_return : LeavesOk backing after new
  pub silent : IsTrue failed → EachMomentSince old new (IsLeftBy old)
  pub unchanged : IsTrue failed → new.contents ≡ old.contents

-- The image when a command returns. If it has not failed, it is sound, the guest sees the disk of the run, the known contents are consistent, and every surplus is the one at the start. No cluster leaked, even if the image failed.
pub record RefinesGuest (v : AbstractImage) (s : State) (before : ℕ → ℕ) (leaked : ℕ) : Type 0 where
  pub works : s.is_failed ≡ false → v.is_sound
  pub failed : IsTrue s.is_failed → IsTrue v.is_failed
  pub guest : s.is_failed ≡ false → guest_of v ≡ s.guest
  pub consistent : s.is_failed ≡ false → IsConsistent v.known
  pub surplus : s.is_failed ≡ false → v.surplus ≡ before
  pub leaks : v.leaked ≡ leaked

-- Moments during a call: at any checkpoint that was safe when the call began, they are safe with nothing more than what this call gives and asks for.
abbrev pub IsOwnInterval : Bytes → (old new : StorageView) → (known : Bytes) → List GivenBytes → List ℕ → Type 0
IsOwnInterval backing old new known given asked = (m : Checkpoint) → LeavesKept backing m old → StopOkEverywhere backing m known
    → EachMomentSince old new (λ c. StopOkEverywhere backing (checkpoint_with given asked m) (byte_at c))

-- The reply of a prepare is the host range of the mapping in its slot. Every byte of that mapping is private unless it was copied data, and hidden unless a zero entry keeps a host cluster.
pub record IsPreparedRightly (before : Bytes) (new : AbstractImage) (slot n : ℕ) (host : HostRange) : Type 0 where
  pub written : new.hosts slot ≡ Some host
  pub private : 0 < n → (m : PreparedMapping) → new.slots slot ≡ Some m → IsPrivateIn (header before) before m
  pub hidden : (m : PreparedMapping) → new.slots slot ≡ Some m → IsHiddenIn (header new.known) new.known m

-- When a special read of n bytes may be refused: as compressed (7) only if there are compressed data at its offset; as not compressed only if there are none, with the offset of the call. A read of no bytes is refused as neither.
abbrev pub IsRightlySpecial : (before : Bytes) → (offset n : ℕ) → Refusal → Type 0
IsRightlySpecial before offset n (another number) = number ≡ 7 → (0 < n) × IsCompressedAt before offset
IsRightlySpecial before offset n (not_compressed at) = (0 < n) × (at ≡ offset) × (¬ IsCompressedAt before offset)
IsRightlySpecial before offset n memory = Unit {0}
IsRightlySpecial before offset n storage = Unit {0}

-- When `try_read_special` may return an offset: only that of the call, and only if the data there are not compressed. It returns none exactly for no bytes.
abbrev pub IsRightlyPlain : (before : Bytes) → (offset n : ℕ) → Option ℕ → Type 0
IsRightlyPlain before offset n (Some at) = (0 < n) × (at ≡ offset) × (¬ IsCompressedAt before offset)
IsRightlyPlain before offset n None = n ≡ 0

-- After a write, each guest cluster that it touches is copied data.
abbrev pub IsRightlyWritten : (offset n : ℕ) → (after : Bytes) → Type 0
IsRightlyWritten offset n after = (g : ℕ) → Touches (cluster_size (header after)) offset (offset + n) g → is_copied_data (cover (header after) after g) ≡ true

-- The reply matches the tables. A lookup returns what the known contents hold, and leaves them unchanged. The replies of a prepare, a clear, a special read and a growth match the mappings before and after. After a write its clusters are copied data. After a flush no cluster waits to be freed.
abbrev pub ReplyMatches : Setting → (before : Bytes) → AbstractImage → Command → Reply → Type 0
ReplyMatches x before new (get_mapping place offset max) (mapping_is from kind n) = IsFoundIn new.known x.is_backed offset max kind n × (new.known ≡ before)
ReplyMatches x before new (prepare slot offset n overwrite) (prepared_is host count is_existing) = IsPreparedRightly before new slot n (record { offset = host; length = count; is_existing = is_existing })
ReplyMatches x before new (write offset bytes) done = IsRightlyWritten offset (length bytes) new.known
ReplyMatches x before new (clear how offset n) (range_is from count) = IsRightlyCleared how before new.known offset n
ReplyMatches x before new (read_special offset n) (refused e) = IsRightlySpecial before offset n e
ReplyMatches x before new (try_read_special offset n) (refused e) = IsRightlySpecial before offset n e
ReplyMatches x before new (try_read_special offset n) (plain_at at) = IsRightlyPlain before offset n at
ReplyMatches x before new (grow size mode) done = IsRightlyGrown mode size before new.known
ReplyMatches x before new flush done = (c : ℕ) → new.to_be_freed c ≡ 0
ReplyMatches x before new command reply = Unit {0}

-- A resize writes the size last: every moment before has the old size.
abbrev pub ResizesLast : (size : ℕ) → (old new : StorageView) → Command → Type 0
ResizesLast size old new (grow asked mode) = EachMomentSince old new (λ c. ((header (byte_at c)).size ≡ size) ⊎ (c ≡ new.contents))
ResizesLast size old new (shrink asked) = EachMomentSince old new (λ c. ((header (byte_at c)).size ≡ size) ⊎ (c ≡ new.contents))
ResizesLast size old new command = Unit {0}

-- What else one command promises: its moments are safe with what it gives and asks for, a resize writes the size last, the reply matches the tables, and the mapping of every guest cluster that is given no byte is the same.
pub record IsCommandInterval (x : Setting) (old : StorageView) (known : Bytes) (new : AbstractImage) (s : State) (command : Command) (reply : Reply) (end : State) : Type 0 where
  pub own : s.is_failed ≡ false → IsOwnInterval x.backing old new.storage known (given_by x s.guest command) (asked_by command)
  pub sized : s.is_failed ≡ false → ResizesLast s.guest.disk.size old new.storage command
  pub told : end.is_failed ≡ false → ReplyMatches x known new command reply
  pub beside : end.is_failed ≡ false → UngivenStay x.cluster_size (given_by x s.guest command) known new.known

-- Along a run: when each command returns, the image agrees with the run, and every moment during the command is safe.
abbrev pub RefinesAlong : {D P : Type 0} (spec : Abstraction D P) (x : Setting) (before : ℕ → ℕ) (leaked : ℕ) (old new : D) (s end : State) (commands : List Command) (replies : List Reply) → Run x s commands replies end → Type 0
RefinesAlong spec x before leaked old new s end [] [] run = new ≡ old
RefinesAlong {D = D} {P = P} spec x before leaked old new s end (command ∷ commands) (reply ∷ replies) run =
    (mid : D) × (out : List (Option P)) × RefinesGuest (abstract_image spec mid out) run.0 before leaked
    × IsSafeWhile x.backing (spec.storage old) (spec.storage mid) s.is_failed (checkpoint_during x s command) run.0.checkpoint
    × RefinesAlong spec x before leaked mid new run.0 end commands replies run.2
RefinesAlong spec x before leaked old new s end [] (reply ∷ replies) run = ⊥
RefinesAlong spec x before leaked old new s end (command ∷ commands) [] run = ⊥

-- A stop during one of the commands of a run, or after the last, may leave these bytes.
abbrev pub IsStopIn : (x : Setting) (s end : State) (commands : List Command) (replies : List Reply) → Run x s commands replies end → Bytes → Type 0
IsStopIn x s end [] [] run b = StopOk x.backing end.checkpoint b
IsStopIn x s end (command ∷ commands) (reply ∷ replies) run b = StopOk x.backing (checkpoint_during x s command) b ⊎ IsStopIn x run.0 end commands replies run.2 b
IsStopIn x s end [] (reply ∷ replies) run b = ⊥
IsStopIn x s end (command ∷ commands) [] run b = ⊥

-- ---- runs of an image

-- The image agrees with a state of a run.
pub record RefinesState (x : Setting) (v : AbstractImage) (s : State) : Type 0 where
  pub setting : v.setting ≡ x
  pub works : s.is_failed ≡ false → v.is_sound
  pub failed : IsTrue s.is_failed → IsTrue v.is_failed
  pub guest : s.is_failed ≡ false → guest_of v ≡ s.guest
  pub known : s.is_failed ≡ false → StopOkEverywhere x.backing s.checkpoint v.known
  pub contents : s.is_failed ≡ false → LeavesKept x.backing s.checkpoint v.storage
  -- What a stop at this moment leaves.
  pub at_rest : LeavesOk x.backing s.checkpoint v.storage

-- One command of a run, with the moments during it.
pub record RefinesCommand (x : Setting) (old new : AbstractImage) (s : State) (command : Command) (reply : Reply) : Type 0 where
  pub end : State
  pub step : CommandStep x s command reply end
  pub stands : RefinesState x new end
  pub safe : IsSafeWhile x.backing old.storage new.storage s.is_failed (checkpoint_during x s command) end.checkpoint
  pub interval : IsCommandInterval x old.storage old.known new s command reply end
  pub surplus : end.is_failed ≡ false → new.surplus ≡ old.surplus
  pub leaks : new.leaked ≡ old.leaked
  pub since : end.is_failed ≡ false → s.is_failed ≡ false

module _ {D P : Type 0} (spec : Abstraction D P) where
  -- A run from one image with its prepared mappings to another.
  pub record RefinesRun (x : Setting) (old : D) (before : List (Option P)) (new : D) (out : List (Option P)) (s : State) (commands : List Command) (replies : List Reply) : Type 0 where
    pub end : State
    pub run : Run x s commands replies end
    pub along : RefinesAlong spec x (spec.surplus old before) (spec.leaked old) old new s end commands replies run
    pub stands : RefinesState x (abstract_image spec new out) end
    pub surplus : end.is_failed ≡ false → spec.surplus new out ≡ spec.surplus old before
    pub leaks : spec.leaked new ≡ spec.leaked old

  -- A run after which all mappings that are left are dropped.
  pub record RefinesWholeRun (x : Setting) (old new : D) (s : State) (commands : List Command) (replies : List Reply) : Type 0 where
    pub end : State
    pub run : Run x s commands replies end
    -- The image when the last command returned.
    pub last : D
    pub along : RefinesAlong spec x (spec.surplus old []) (spec.leaked old) old last s end commands replies run
    pub leaves : IsSafeWhile x.backing (spec.storage last) (spec.storage new) end.is_failed end.checkpoint end.checkpoint
    pub stands : RefinesState x (abstract_image spec new []) (over end)
    pub surplus : end.is_failed ≡ false → spec.surplus new [] ≡ spec.surplus old []
    pub leaks : spec.leaked new ≡ spec.leaked old

  -- What every list of commands with its replies does to an image that was just opened.
  pub record RefinesDisk (old new : D) (commands : List Command) (replies : List Reply) : Type 0 where
    pub end : State
    -- The replies are a run of the disk.
    pub run : Run (spec.setting old) (started (abstract_image spec old [])) commands replies end
    -- At the start a stop is safe. During the run every moment is safe at the checkpoint of the command under way. When each command returns, the guest sees the disk of the run.
    pub at_start : LeavesOk (spec.setting old).backing (started (abstract_image spec old [])).checkpoint (spec.storage old)
    pub last : D
    pub along : RefinesAlong spec (spec.setting old) (spec.surplus old []) (spec.leaked old) old last (started (abstract_image spec old [])) end commands replies run
    -- At the end the mappings that are left are dropped. Every moment of that is safe, and the guest still sees the disk of the run.
    pub leaves : IsSafeWhile (spec.setting old).backing (spec.storage last) (spec.storage new) end.is_failed end.checkpoint end.checkpoint
    pub at_end : RefinesGuest (abstract_image spec new []) (over end) (spec.surplus old []) (spec.leaked old)
    pub setting : spec.setting new ≡ spec.setting old
    -- There are no other moments since the start.
    pub since_start : (c : List ℕ) → (spec.storage new).had_since (spec.storage old).moment c → IsStopIn (spec.setting old) (started (abstract_image spec old [])) end commands replies run (byte_at c)
