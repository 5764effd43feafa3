-- What each call does to an image.
use Rattle.std.specs.Prelude.{ℕ, ◌+◌, ◌≡◌, ◌⊎◌, ◌≤◌, ◌<◌, ◌==◌, ◌||◌, Bool, true, false, IsTrue, List, [], ◌∷◌, length, take, Option, nat_le, if◌then◌else◌}
use Rattle.image_access.specs.Moments.{EachMomentSince, IsLeftBy}
use Rattle.image_access.specs.declared.storage.PreallocateMode.{PreallocateMode}
use Rattle.image_access.specs.declared.storage.PreallocateMode.TheVariants as Mode
use Rattle.qcow2_metadata.specs.Bytes.{byte_at}
use Rattle.qcow2_metadata.specs.Header.{rounded_up}
use Rattle.qcow2_metadata.specs.Guest.{known_byte}
use Rattle.qcow2_disk.specs.Disk.{Disk, with_bytes, zeroed_between, uncovered, grown, shrunk}
use Rattle.qcow2_disk.specs.Stops.{GivenBytes, Checkpoint, checkpoint_with, StopOkEverywhere, LeavesKept}
use Rattle.qcow2_disk.specs.Mappings.{PreparedMapping, given_shown}
use Rattle.qcow2_disk.specs.Rules.{touched_from, touched_to}
use Rattle.qcow2_disk.specs.AbstractImages.{Setting, Guest, AbstractImage, guest_of}
use Rattle.qcow2_disk.specs.UngivenCovers.{UngivenStay}

-- Why a call was refused, in the detail that the state after it depends on. Other refusals have their number.
pub data Refusal : Type 0 where
  memory : Refusal
  storage : Refusal
  -- The data at this guest offset are not compressed.
  not_compressed : (offset : ℕ) → Refusal
  another : ℕ → Refusal

-- The refusal is an I/O error or a failed allocation.
abbrev pub IsRefusalByFault : Refusal → Type 0
IsRefusalByFault memory = Unit {0}
IsRefusalByFault storage = Unit {0}
IsRefusalByFault (not_compressed offset) = ⊥
IsRefusalByFault (another number) = ⊥

-- ---- what every call does

-- Every stop during a call is safe at checkpoint m, extended by the values that the call gives and the sizes that it asks for.
pub record Stops (old new : AbstractImage) (given : List GivenBytes) (asked : List ℕ) (m : Checkpoint) : Type 0 where
  pub moments : EachMomentSince old.storage new.storage (λ c. StopOkEverywhere old.setting.backing (checkpoint_with given asked m) (byte_at c))
  pub contents : LeavesKept old.setting.backing (checkpoint_with given asked m) new.storage
  pub known : new.is_sound → StopOkEverywhere old.setting.backing (checkpoint_with given asked m) new.known

-- The storage and the known contents are safe at a checkpoint, before a call.
abbrev pub StartsAt : AbstractImage → Checkpoint → Type 0
StartsAt v m = LeavesKept v.setting.backing m v.storage × StopOkEverywhere v.setting.backing m v.known

-- What a call does to a sound image. While the image stays sound, the mapping of every guest cluster that is given no byte stays the same. No cluster is leaked, even if the call is refused or fails.
pub record EffectOnSound (old new : AbstractImage) (given : List GivenBytes) (asked : List ℕ) : Type 0 where
  pub setting : new.setting ≡ old.setting
  pub surplus : new.is_sound → new.surplus ≡ old.surplus
  pub beside : new.is_sound → UngivenStay old.setting.cluster_size given old.known new.known
  pub leaks : new.leaked ≡ old.leaked
  pub stops : (m : Checkpoint) → StartsAt old m → Stops old new given asked m

-- A failed image writes nothing more.
pub record EffectOnFailed (old new : AbstractImage) : Type 0 where
  pub setting : new.setting ≡ old.setting
  pub failed : IsTrue new.is_failed
  pub contents : new.storage.contents ≡ old.storage.contents
  pub moments : EachMomentSince old.storage new.storage (IsLeftBy old.storage)
  pub leaks : new.leaked ≡ old.leaked

-- The whole effect of a call that gives these values and asks for these sizes.
pub record CallEffect (old new : AbstractImage) (given : List GivenBytes) (asked : List ℕ) : Type 0 where
  pub number : new.number ≡ old.number
  pub works : old.is_sound → EffectOnSound old new given asked
  pub rests : IsTrue old.is_failed → EffectOnFailed old new

-- The call succeeded: the image is sound, and `done` holds.
pub record AnsweredEffect (old new : AbstractImage) (given : List GivenBytes) (asked : List ℕ) (done : Type 0) : Type 0 where
  pub acts : CallEffect old new given asked
  pub answer : old.is_sound → new.is_sound × done

-- The call was refused. Either the image is sound and `still` holds, or the image failed, by an I/O error or a failed allocation. An I/O error always makes the image fail.
pub record RefusedEffect (old new : AbstractImage) (given : List GivenBytes) (asked : List ℕ) (e : Refusal) (still : Type 0) : Type 0 where
  pub acts : CallEffect old new given asked
  pub answer : old.is_sound → (new.is_sound × still) ⊎ (IsRefusalByFault e × IsTrue new.is_failed)
  pub fault : e ≡ storage → IsTrue new.is_failed

-- The guest sees what it saw before.
abbrev pub IsSame : AbstractImage → AbstractImage → Type 0
IsSame old new = guest_of new ≡ guest_of old

-- ---- what single calls do

-- The disk has these bytes from `offset` on.
abbrev pub Shows : Disk → ℕ → List ℕ → Type 0
Shows d offset bytes = (i : ℕ) → i < length bytes → d.value (offset + i) ≡ known_byte (byte_at bytes i)

abbrev pub with_disk : Guest → Disk → Guest
with_disk g d = record g { disk = d }

abbrev pub with_slot : Guest → ℕ → Option PreparedMapping → Guest
with_slot g slot m = record g { slots = λ k. if k == slot then m else g.slots k }

-- The disk after a refused write, of which the first n bytes were written. After a failed allocation, any of the other bytes may have been written too.
pub record WritesSome (old : Disk) (offset : ℕ) (bytes : List ℕ) (n : ℕ) (new : Disk) : Type 0 where
  pub size : new.size ≡ old.size
  pub values : (o : ℕ) → (new.value o ≡ (with_bytes old offset (take n bytes)).value o) ⊎ (new.value o ≡ (with_bytes old offset bytes).value o)

-- What a guest may see after a refused write, of which the first n bytes were written.
abbrev pub MayWrite : Refusal → Guest → ℕ → List ℕ → ℕ → Guest → Type 0
MayWrite memory old offset bytes n new = (n ≤ length bytes) × ((d : Disk) × WritesSome old.disk offset bytes n d × (new ≡ with_disk old d))
MayWrite e old offset bytes n new = (n ≤ length bytes) × (new ≡ with_disk old (with_bytes old.disk offset (take n bytes)))

-- How whole clusters are cleared: to zeros, with their host clusters freed; to zeros, keeping host clusters that are marked copied; or unmapped, so that the backing disk shows.
pub data Clearing : Type 0 where
  to_zero : Clearing
  to_kept_zero : Clearing
  to_backing : Clearing

-- The disk after the clusters between two offsets are cleared.
abbrev pub cleared : Setting → Disk → Clearing → ℕ → ℕ → Disk
cleared x d to_backing from to = uncovered d x.backing from to
cleared x d to_zero from to = zeroed_between d from to
cleared x d to_kept_zero from to = zeroed_between d from to

-- The disk after the whole clusters of a range are cleared.
abbrev pub cleared_at : Setting → Disk → Clearing → ℕ → ℕ → Disk
cleared_at x d how offset n = cleared x d how (touched_from x.cluster_size offset) (touched_to x.cluster_size d.size offset n)

-- What clearing a range gives: the values that its whole clusters then show.
abbrev pub given_by_clear : Setting → Disk → Clearing → ℕ → ℕ → GivenBytes
given_by_clear x d how offset n = given_shown (cleared_at x d how offset n) (touched_from x.cluster_size offset) (touched_to x.cluster_size d.size offset n)

-- Whether a growth in this mode leaves the old bytes past the end as they are.
abbrev pub shows_old : PreallocateMode → Bool
shows_old Mode.None = true
shows_old mode = false

-- The disk after a growth. A size that is not larger changes nothing.
abbrev pub grown_to : Setting → Disk → ℕ → PreallocateMode → Disk
grown_to x d size mode = if nat_le size d.size then d else grown x.cluster_size d size (shows_old mode)

-- The disk after a refused growth: the size is the old one. If the new bytes were to be zeros, some bytes past the old size may be zero already.
pub record MayGrow (x : Setting) (old : Disk) (size : ℕ) (mode : PreallocateMode) (new : Disk) : Type 0 where
  pub same_size : new.size ≡ old.size
  pub values : (o : ℕ) → (new.value o ≡ old.value o)
      ⊎ ((shows_old mode ≡ false) × (old.size < size) × (old.size ≤ o) × (o < rounded_up x.cluster_size size) × (new.value o ≡ known_byte 0))

-- What a growth gives: zeros past the old end, if the mode asks for them. A growth to a size that is not larger gives nothing.
abbrev pub given_by_grow : Setting → Disk → ℕ → PreallocateMode → List GivenBytes
given_by_grow x d size mode =
    if nat_le size d.size || shows_old mode then [] else given_shown (zeroed_between d d.size (rounded_up x.cluster_size size)) d.size (rounded_up x.cluster_size size) ∷ []

-- Where a shrink may end: at the old size; at the new size, if nothing was unmapped; or at a cluster boundary between them, up to which clusters were unmapped.
abbrev pub IsShrinkEnd : ℕ → (old size answer : ℕ) → Type 0
IsShrinkEnd cluster_size old size answer = (answer ≡ old) ⊎ ((answer ≡ size) ⊎ ((rounded_up cluster_size answer ≡ answer) × (rounded_up cluster_size size < answer) × (answer < old)))

-- The disk after a shrink: it has the new size, and the backing disk shows in the clusters that were unmapped, up to `answer`.
pub record IsShrunk (x : Setting) (old : Disk) (size answer : ℕ) (new : Disk) : Type 0 where
  pub no_smaller : old.size ≤ size → (answer ≡ old.size) × (new ≡ old)
  pub smaller : size < old.size → IsShrinkEnd x.cluster_size old.size size answer × (new ≡ shrunk x.cluster_size old x.backing size answer)

-- All values that a shrink may give: those of the backing disk, from the new end to the old end.
abbrev pub given_by_shrink : Setting → Disk → ℕ → GivenBytes
given_by_shrink x d size = given_shown (uncovered d x.backing (rounded_up x.cluster_size size) (rounded_up x.cluster_size d.size)) (rounded_up x.cluster_size size) (rounded_up x.cluster_size d.size)

-- The values that a successful shrink gave. The old size counts up to the end of its cluster.
abbrev pub given_by_shrunk : Setting → Disk → (size answer : ℕ) → GivenBytes
given_by_shrunk x d size answer =
    given_shown (shrunk x.cluster_size d x.backing size answer) (rounded_up x.cluster_size size) (if answer == d.size then rounded_up x.cluster_size answer else answer)
