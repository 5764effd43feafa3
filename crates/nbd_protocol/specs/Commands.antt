-- What a request does to a device.
use Rattle.std.specs.Prelude.{ℕ, ◌+◌, ◌≡◌, ◌<◌, ◌≤◌, ◌&&◌, ◌||◌, Bool, true, false, nat_lt, IsTrue, List, [], ◌∷◌, length, Option, Some, None, Result, Ok, Err, IfErr, IfSome, IsErrOf, if◌then◌else◌}
use Rattle.nbd_protocol.specs.Devices.{DeviceView, IsFault, MayWrite, MayZero, Persists, ShowsZeros, Stays, Trims, Writes, Zeroes, is_zeros}
use Rattle.nbd_protocol.specs.declared.device.Errno.{Errno}
use Rattle.nbd_protocol.specs.declared.device.Errno.TheVariants as E
use Rattle.nbd_protocol.specs.declared.replies.Extent.{Extent}
use Rattle.nbd_protocol.specs.declared.request.Command.{Command}
use Rattle.nbd_protocol.specs.declared.request.Command.TheVariants as C
use Rattle.nbd_protocol.specs.declared.request.Request.{Request}

-- The end of a request's range.
abbrev pub end_of : Request → ℕ
end_of r = r.offset + r.length

abbrev pub changes : Command → Bool
changes C.Write = true
changes C.Trim = true
changes C.WriteZeroes = true
changes command = false

-- The payload of a write has the length that the request says.
abbrev pub HasPayload : Request → List ℕ → Type 0
HasPayload r payload = r.command ≡ C.Write → length payload ≡ r.length

-- The supported commands whose reply is a status, without data.
abbrev pub is_done : Command → Bool
is_done C.Write = true
is_done C.Flush = true
is_done C.Trim = true
is_done C.Cache = true
is_done C.WriteZeroes = true
is_done command = false

abbrev pub is_flush : Command → Bool
is_flush C.Flush = true
is_flush command = false

-- FLUSH, and every request with FUA.
abbrev pub persists : Request → Bool
persists r = r.flags.durable || is_flush r.command

-- The greatest payload, in bytes.
abbrev pub most : ℕ
most = 33554432

-- The error for a range that ends past the end of the disk.
abbrev pub past_end : Command → Errno
past_end C.Write = E.NoSpace
past_end C.WriteZeroes = E.NoSpace
past_end command = E.Invalid

-- Why a request to a disk of this size is refused before anything is done. In this order: an unknown flag, a change of a read-only disk, a range that ends past the end of the disk, or a meaningless request.
abbrev pub refuses : (read_only : Bool) → (size : ℕ) → (meaningless : Bool) → Request → Option Errno
refuses read_only size meaningless r =
    if r.flags.unknown then Some E.Invalid else if changes r.command && read_only then Some E.NotPermitted
    else if nat_lt size (end_of r) then Some (past_end r.command) else if meaningless then Some E.Invalid else None

-- Why a request that passed the checks is refused: the device failed, there is no memory, or there is no room for a change.
abbrev pub IsLate : Command → Errno → Type 0
IsLate command E.NoSpace = IsTrue (changes command)
IsLate command e = IsFault e

-- Commands that always call the device.
abbrev pub asks_always : Command → Bool
asks_always C.Read = true
asks_always C.Write = true
asks_always C.BlockStatus = true
asks_always command = false

abbrev pub asks_device : Request → Bool
asks_device r = persists r || asks_always r.command

-- The request is refused with EIO or ENOMEM.
abbrev pub IsFailure : {T : Type 0} → Result T Errno → Type 0
IsFailure (Ok x) = ⊥
IsFailure (Err e) = IsFault e

-- The error of a result, if there is one.
abbrev pub refusal_of : {T : Type 0} → Result T Errno → Option Errno
refusal_of (Ok x) = None
refusal_of (Err e) = Some e

-- The checks refuse a request exactly for these reasons. The size that its range is compared with is the disk's, if the device is sound.
pub record IsChecked {T : Type 0} (d : DeviceView) (meaningless : Bool) (r : Request) (result : Result T Errno) : Type 0 where
  pub size : ℕ
  pub is_size : d.is_sound → size ≡ d.size
  pub refusal : refusal_of result ≡ refuses d.is_read_only size meaningless r

-- Which errors answer a request. The size that its range is compared with is the disk's, if the device is sound. A request that passes the checks and has to call a failed device is answered with EIO or ENOMEM.
pub record Refused {T : Type 0} (d : DeviceView) (meaningless : Bool) (r : Request) (result : Result T Errno) : Type 0 where
  pub size : ℕ
  pub is_size : d.is_sound → size ≡ d.size
  pub early : IfSome (refuses d.is_read_only size meaningless r) (λ e. IsErrOf result e)
  pub late : refuses d.is_read_only size meaningless r ≡ None → d.is_sound → IfErr result (IsLate r.command)
  pub failed : refuses d.is_read_only size meaningless r ≡ None → IsTrue d.is_failed → IsTrue (asks_device r) → IsFailure result

-- What was done, if the reply has no error.
abbrev pub Does : Command → Request → List ℕ → (old new : DeviceView) → Type 0
Does C.Write r payload = Writes r.offset payload
Does C.Trim r payload = Trims r.offset (end_of r)
Does C.WriteZeroes r payload = Zeroes r.offset (end_of r)
Does command r payload = Stays

-- What may have been done, if the reply has an error.
abbrev pub MayDo : Command → Request → List ℕ → (old new : DeviceView) → Type 0
MayDo C.Write r payload = MayWrite r.offset payload
MayDo C.Trim r payload = Trims r.offset (end_of r)
MayDo C.WriteZeroes r payload = MayZero r.offset (end_of r)
MayDo command r payload = Stays

-- FLUSH, and every request with FUA, ends with a flush and then a sync.
abbrev pub PersistsLast : {D : Type 0} → (Flushed Synced : D → D → Type 0) → D → Type 0
PersistsLast {D} Flushed Synced new = (before : D) × Persists Flushed Synced before new

-- Consecutive runs of the disk, from an offset on. None is empty, and all bytes of a run are zero if its state says so.
abbrev pub AreExtents : DeviceView → ℕ → List Extent → Type 0
AreExtents d offset [] = Unit {0}
AreExtents d offset (e ∷ es) = (0 < e.length) × (IsTrue (is_zeros e.state) → ShowsZeros d offset (offset + e.length)) × AreExtents d (offset + e.length) es

-- The number of bytes of runs of the disk.
abbrev pub total : List Extent → ℕ
total [] = 0
total (e ∷ es) = e.length + total es

-- The runs in a reply: at least one, at most 1,024 (or one, if the request asks for one), and no more bytes than the range has.
pub record IsLookedUp (r : Request) (found : List Extent) : Type 0 where
  pub some : 0 < length found
  pub few : length found ≤ (if r.flags.one_extent then 1 else 1024)
  pub within : total found ≤ r.length
