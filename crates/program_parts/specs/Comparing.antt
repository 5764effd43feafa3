-- The parts of a comparison of two disks.
use Rattle.std.specs.Prelude.{ℕ, ◌≡◌, ◌≢◌, ◌<◌, ◌≤◌, List, length, Option, Some, None, Result, Ok, Err, slice_index}
use Rattle.program_parts.specs.Disks.{SeenDisk, IsSeenAs, AreSameBelow}
use Rattle.qcow2_disk.specs.Disk.{Disk}

-- The first index at which two lists differ.
pub record IsFirstOther (bytes others : List ℕ) (i : ℕ) : Type 0 where
  pub within : i < length bytes
  pub before : (j : ℕ) → j < i → slice_index bytes j ≡ slice_index others j
  pub differs : slice_index bytes i ≢ slice_index others i

-- The first offset, from one on and before an end, at which two disks differ.
pub record IsWhereOther (d e : Disk) (from end at : ℕ) : Type 0 where
  pub after : from ≤ at
  pub within : at < end
  pub before : AreSameBelow d e from → AreSameBelow d e at
  pub differs : d.value at ≢ e.value at

-- What a comparison of a range of two disks finds.
abbrev pub IsFoundBetween : Disk → Disk → ℕ → ℕ → Option ℕ → Type 0
IsFoundBetween d e from end None = AreSameBelow d e from → AreSameBelow d e end
IsFoundBetween d e from end (Some at) = IsWhereOther d e from end at

-- A range of both disks was read and compared. Both disks are the same as before.
pub record IsCompared (a a' b b' : SeenDisk) (from end : ℕ) (found : Option ℕ) : Type 0 where
  pub one : IsSeenAs a.disk a'
  pub other : IsSeenAs b.disk b'
  pub found_is : end ≤ a.disk.size → end ≤ b.disk.size → IsFoundBetween a.disk b.disk from end found

-- The range was compared, if it could be read.
abbrev pub IsComparedUpTo : {E : Type 0} → (a a' b b' : SeenDisk) → ℕ → ℕ → Result (Option ℕ) E → Type 0
IsComparedUpTo a a' b b' from end (Ok found) = a.is_honest → b.is_honest → IsCompared a a' b b' from end found
IsComparedUpTo a a' b b' from end (Err e) = Unit {0}
