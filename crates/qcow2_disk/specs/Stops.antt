-- What a stop may leave: for each guest byte, its value at the last flush or one given by a call since.
use Rattle.std.specs.Prelude.{ℕ, ◌+◌, ◌-◌, ◌≡◌, ◌<◌, ◌≤◌, ◌⊎◌, ◌++◌, List, [], ◌∷◌}
use Rattle.image_access.specs.Moments.{StorageView, EachMomentSince}
use Rattle.qcow2_metadata.specs.Bytes.{Bytes, byte_at}
use Rattle.qcow2_metadata.specs.Guest.{Value}
use Rattle.qcow2_metadata.specs.Consistent.{IsConsistent}
use Rattle.qcow2_disk.specs.Disk.{Disk, disk}
use Rattle.qcow2_disk.specs.HeaderRest.{KeepsHeaderRest}

-- Values that a call writes, zeroes or unmaps, from an offset on.
pub record GivenBytes : Type 0 where
  pub from : ℕ
  pub count : ℕ
  pub value : ℕ → Value

-- The value is the one that is given for offset o.
abbrev pub IsIn : GivenBytes → ℕ → Value → Type 0
IsIn g o v = (g.from ≤ o) × (o < g.from + g.count) × (v ≡ g.value (o - g.from))

-- The value is one of those that are given for offset o.
abbrev pub IsGiven : List GivenBytes → ℕ → Value → Type 0
IsGiven [] o v = ⊥
IsGiven (g ∷ given_bytes) o v = IsIn g o v ⊎ IsGiven given_bytes o v

abbrev pub IsAsked : List ℕ → ℕ → Type 0
IsAsked [] size = ⊥
IsAsked (asked ∷ sizes) size = (size ≡ asked) ⊎ IsAsked sizes size

-- The disk at the last flush, and the values that calls have given and the sizes that they have asked for since.
pub record Checkpoint : Type 0 where
  pub last : Disk
  -- Contents with the header whose extensions and names stay the same.
  pub header_bytes : Bytes
  pub given : List GivenBytes
  pub asked : List ℕ

-- A checkpoint right after a flush: nothing was given since.
abbrev pub checkpoint_at : Disk → Bytes → Checkpoint
checkpoint_at d b = record { last = d; header_bytes = b; given = []; asked = [] }

-- The checkpoint after calls that give these values and ask for these sizes.
abbrev pub checkpoint_with : List GivenBytes → List ℕ → Checkpoint → Checkpoint
checkpoint_with given asked m = record m { given = given ++ m.given; asked = asked ++ m.asked }

-- What a stop may leave: a consistent image, with the same header extensions and names. Its size is the size at the last flush, or one asked for since. Each byte below both sizes has its value at the last flush, or one given since.
pub record StopOk (backing : Bytes) (m : Checkpoint) (image : Bytes) : Type 0 where
  pub consistent : IsConsistent image
  pub rest : KeepsHeaderRest m.header_bytes image
  pub size : ((disk image backing).size ≡ m.last.size) ⊎ IsAsked m.asked (disk image backing).size
  pub values : (o : ℕ) → o < (disk image backing).size → o < m.last.size
      → ((disk image backing).value o ≡ m.last.value o) ⊎ IsGiven m.given o ((disk image backing).value o)

-- The stronger form of `StopOk`, which calls keep. It also covers values past both sizes, since a later growth may show them.
pub record StopOkEverywhere (backing : Bytes) (m : Checkpoint) (image : Bytes) : Type 0 where
  pub consistent : IsConsistent image
  pub rest : KeepsHeaderRest m.header_bytes image
  pub size : ((disk image backing).size ≡ m.last.size) ⊎ IsAsked m.asked (disk image backing).size
  pub values : (o : ℕ) → ((disk image backing).value o ≡ m.last.value o) ⊎ IsGiven m.given o ((disk image backing).value o)

-- A stop at this moment leaves contents that satisfy `StopOkEverywhere`.
abbrev pub LeavesKept : Bytes → Checkpoint → StorageView → Type 0
LeavesKept backing m v = StopOkEverywhere backing m (byte_at v.contents)

-- A stop at this moment leaves contents that satisfy `StopOk`.
abbrev pub LeavesOk : Bytes → Checkpoint → StorageView → Type 0
LeavesOk backing m v = StopOk backing m (byte_at v.contents)

-- These contents are safe at every checkpoint at which the old contents and the known contents were, extended by what a call gives and asks for.
abbrev pub IsSafeAfter : StorageView → Bytes → (Bytes → List GivenBytes) → List ℕ → List ℕ → Type 0
IsSafeAfter old known given asked c = (backing : Bytes) (m : Checkpoint) → LeavesKept backing m old → StopOkEverywhere backing m known → StopOkEverywhere backing (checkpoint_with (given backing) asked m) (byte_at c)

-- Every moment since `old` and the new contents are safe, with what a call gives and asks for.
pub record SafeThroughout (old new : StorageView) (known : Bytes) (given : Bytes → List GivenBytes) (asked : List ℕ) : Type 0 where
  pub moments : EachMomentSince old new (IsSafeAfter old known given asked)
  pub contents : IsSafeAfter old known given asked new.contents
