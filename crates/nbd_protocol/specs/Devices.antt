-- The view of a block device in contracts, and what a call does to it.
use Rattle.std.specs.Prelude.{ℕ, ◌+◌, ◌*◌, ◌/◌, ◌%◌, ◌≡◌, ◌⊎◌, ◌<◌, ◌≤◌, Bool, true, false, IsTrue, List, length, slice_index, Option, Some, Result, Ok, Err, IfErr, IsErrOf}
use Rattle.nbd_protocol.specs.declared.device.Errno.{Errno}
use Rattle.nbd_protocol.specs.declared.device.Errno.TheVariants as E
use Rattle.nbd_protocol.specs.declared.device.State.{State}
use Rattle.nbd_protocol.specs.declared.device.State.TheVariants as S

-- The view of a device.
pub record DeviceView : Type 1 where
  -- The driver's invariant holds. Clauses about bytes hold only for sound devices.
  pub is_sound : Type 0
  -- A call failed in a way that no later call can repair.
  pub is_failed : Bool
  pub is_read_only : Bool
  -- The size in bytes.
  pub size : ℕ
  -- The byte at an offset, or none if it can't be read.
  pub value : ℕ → Option ℕ
  -- The size in bytes of a unit, such as a cluster, that is cleared only as a whole. The last unit of the disk may be shorter.
  pub unit : ℕ

-- The error number that a client is sent.
abbrev pub error_number : Errno → ℕ
error_number E.NotPermitted = 1
error_number E.Io = 5
error_number E.NoMemory = 12
error_number E.Invalid = 22
error_number E.NoSpace = 28
error_number E.NotSupported = 95

-- The state number that a client is sent: bit 0 is a hole, bit 1 zeros.
abbrev pub state_number : State → ℕ
state_number S.Data = 0
state_number S.Zero = 2
state_number S.Hole = 3

-- The state says that all bytes are zero.
abbrev pub is_zeros : State → Bool
is_zeros S.Data = false
is_zeros S.Zero = true
is_zeros S.Hole = true

-- The disk has these bytes at an offset.
abbrev pub Shows : DeviceView → ℕ → List ℕ → Type 0
Shows d offset bytes = (i : ℕ) → i < length bytes → d.value (offset + i) ≡ Some (slice_index bytes i)

-- The disk has zeros from one offset up to another.
abbrev pub ShowsZeros : DeviceView → (from to : ℕ) → Type 0
ShowsZeros d from to = (o : ℕ) → o < d.size → from ≤ o → o < to → d.value o ≡ Some 0

-- Outside of a range, the disk is the same.
pub record StaysBeside (from to : ℕ) (old new : DeviceView) : Type 0 where
  pub size : new.size ≡ old.size
  pub unit : new.unit ≡ old.unit
  pub values : (o : ℕ) → o < old.size → (o < from) ⊎ (to ≤ o) → new.value o ≡ old.value o

abbrev pub Stays : (old new : DeviceView) → Type 0
Stays = StaysBeside 0 0

-- The range has zeros. Outside of it the disk is the same.
pub record Zeroes (from to : ℕ) (old new : DeviceView) : Type 0 where
  pub beside : StaysBeside from to old new
  pub within : ShowsZeros new from to

-- Each byte of the range is zero or the old one. Outside of it the disk is the same.
pub record MayZero (from to : ℕ) (old new : DeviceView) : Type 0 where
  pub beside : StaysBeside from to old new
  pub within : (o : ℕ) → o < old.size → from ≤ o → o < to → (new.value o ≡ old.value o) ⊎ (new.value o ≡ Some 0)

-- The bytes are written. Outside of their range the disk is the same.
pub record Writes (offset : ℕ) (bytes : List ℕ) (old new : DeviceView) : Type 0 where
  pub beside : StaysBeside offset (offset + length bytes) old new
  pub within : (i : ℕ) → i < length bytes → offset + i < new.size → new.value (offset + i) ≡ Some (slice_index bytes i)

-- Each byte may be written or the old one. Outside of their range the disk is the same.
pub record MayWrite (offset : ℕ) (bytes : List ℕ) (old new : DeviceView) : Type 0 where
  pub beside : StaysBeside offset (offset + length bytes) old new
  pub within : (i : ℕ) → i < length bytes → offset + i < old.size → (new.value (offset + i) ≡ old.value (offset + i)) ⊎ (new.value (offset + i) ≡ Some (slice_index bytes i))

-- The range from one offset up to another consists of whole units. The last one may end with the disk.
pub record AreUnits (unit size from to : ℕ) : Type 0 where
  pub some : 0 < unit
  pub begins : from % unit ≡ 0
  pub ends : (to % unit ≡ 0) ⊎ (size ≤ to)

-- The unit that contains the offset lies within the range, or its part on the disk does.
pub record IsInWhole (unit size from to o : ℕ) : Type 0 where
  pub after : from ≤ o / unit * unit
  pub before : o < to
  pub ends : (o / unit * unit + unit ≤ to) ⊎ (size ≤ to)

-- Each byte is the old one, or zero in a unit that lies within the range. Units that lie in it only partly stay the same.
pub record Trims (from to : ℕ) (old new : DeviceView) : Type 0 where
  pub size : new.size ≡ old.size
  pub unit : new.unit ≡ old.unit
  pub values : (o : ℕ) → o < old.size → (new.value o ≡ old.value o) ⊎ (IsInWhole old.unit old.size from to o × (new.value o ≡ Some 0))

-- Whole units of the range are zeroed, which are returned as an offset and a length. Everything else is the same, also the rest of the range.
pub record Clears (offset n : ℕ) (part : ℕ × ℕ) (old new : DeviceView) : Type 0 where
  pub low : offset ≤ part.0
  pub high : 0 < part.1 → part.0 + part.1 ≤ offset + n
  pub whole : 0 < part.1 → AreUnits old.unit old.size part.0 (part.0 + part.1)
  pub zeroes : Zeroes part.0 (part.0 + part.1) old new

-- The result of a lookup: no more bytes than requested, at least one if the disk has any there, and a state of zeros only if all of them are zero.
pub record Tells (offset max : ℕ) (found : State × ℕ) (d : DeviceView) : Type 0 where
  pub within : found.1 ≤ max
  pub some : offset < d.size → 0 < max → 0 < found.1
  pub zeros : IsTrue (is_zeros found.0) → ShowsZeros d offset (offset + found.1)

-- What every call keeps: whether the device is read-only, and that it failed.
pub record IsSameDevice (old new : DeviceView) : Type 0 where
  pub read_only : new.is_read_only ≡ old.is_read_only
  pub failed : IsTrue old.is_failed → IsTrue new.is_failed

-- EIO or ENOMEM: the device failed, or there is no memory.
abbrev pub IsFault : Errno → Type 0
IsFault E.NotPermitted = ⊥
IsFault E.Io = Unit {0}
IsFault E.NoMemory = Unit {0}
IsFault E.Invalid = ⊥
IsFault E.NoSpace = ⊥
IsFault E.NotSupported = ⊥

-- Why a read up to an offset is refused.
abbrev pub RefusesToRead : DeviceView → (to : ℕ) → Errno → Type 0
RefusesToRead d to E.Invalid = d.size < to
RefusesToRead d to e = IsFault e

-- Why a change up to an offset is refused: as a read is, or because the device is read-only or has no room left.
abbrev pub RefusesToChange : DeviceView → (to : ℕ) → Errno → Type 0
RefusesToChange d to E.NotPermitted = IsTrue d.is_read_only
RefusesToChange d to E.Invalid = d.size < to
RefusesToChange d to E.NoSpace = Unit {0}
RefusesToChange d to e = IsFault e

-- Why a call is refused. A failed device refuses every call with EIO, a sound one only for these reasons.
pub record Fails {T : Type 0} (old : DeviceView) (Refuses : Errno → Type 0) (result : Result T Errno) : Type 0 where
  pub failed : IsTrue old.is_failed → IsErrOf result E.Io
  pub cause : old.is_sound → IfErr result Refuses

-- Why a change up to an offset is refused, which may need no call. A failed device refuses it only with EIO or ENOMEM, a sound one only for the reasons against a change.
pub record ChangeFails {T : Type 0} (old : DeviceView) (to : ℕ) (result : Result T Errno) : Type 0 where
  pub failed : IsTrue old.is_failed → IfErr result IsFault
  pub cause : old.is_sound → IfErr result (RefusesToChange old to)

-- If the call succeeded, a sound device is sound, and `done` holds. If it was refused, the device is sound and `still` holds, or it failed.
abbrev pub Acts : {T : Type 0} (old new : DeviceView) → (done : T → Type 0) → (still : Type 0) → Result T Errno → Type 0
Acts old new done still (Ok answer) = old.is_sound → new.is_sound × done answer
Acts old new done still (Err e) = old.is_sound → (new.is_sound × still) ⊎ IsTrue new.is_failed

-- Everything that was written was flushed, and then synced.
pub record Persists {D : Type 0} (Flushed Synced : D → D → Type 0) (old new : D) : Type 0 where
  pub between : D
  pub flushed : Flushed old between
  pub synced : Synced between new
