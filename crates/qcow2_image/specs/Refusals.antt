-- When calls on an image are refused, and what a refusal leaves.
use Rattle.std.specs.Prelude.{◌≡◌, ◌⊎◌, ℕ, ◌<◌, ◌+◌, ◌==◌, ◌&&◌, ◌||◌, Bool, true, not, nat_lt, Option, Some, None, Result, Ok, Err, if◌then◌else◌}
use Rattle.std.specs.Option.{option_or}
use Rattle.image_access.specs.declared.storage.PreallocateMode.{PreallocateMode}
use Rattle.image_access.specs.declared.storage.PreallocateMode.TheVariants as Mode
pub use Rattle.qcow2_alloc.specs.ImageError.{IsFaultOrLimit}
use Rattle.qcow2_alloc.specs.ImageError.{IsFault}
use Rattle.qcow2_alloc.specs.declared.error.ImageError.{ImageError}
use Rattle.qcow2_alloc.specs.declared.error.ImageError.TheVariants as I
use Rattle.qcow2_image.specs.declared.image.Qcow2.{Qcow2}
use Rattle.qcow2_image.specs.ChangeCauses.{Causes, any_cause, causes_if, causes_of}
use Rattle.qcow2_image.specs.Image.{HasNothingToFree, HasPinnedTable, has_noted_change, is_failed, is_writable, lacks_data_file, size_of, number_of}

-- A refusal, if a test says so.
abbrev pub refuse_if : Bool → ImageError → Option ImageError
refuse_if test e = if test then Some e else None

-- The range is not empty, and ends past the size.
abbrev pub passes : ℕ → ℕ → ℕ → Bool
passes size offset n = nat_lt 0 n && nat_lt size (offset + n)

module _ {S F : Type 0} (image : Qcow2 S F) where
  -- Why every call on guest data is refused: an earlier failure, or a missing data file.
  abbrev pub unusable : Option ImageError
  unusable = option_or (refuse_if (is_failed image) I.Failed) (refuse_if (lacks_data_file image) I.Dependency)

  -- Why a prepare is refused, in this order: an unusable image, a range beyond the size, an image opened for reading.
  abbrev pub refuses_to_prepare : ℕ → ℕ → Option ImageError
  refuses_to_prepare offset n =
      option_or unusable (option_or (refuse_if (passes (size_of image) offset n) I.BeyondSize) (refuse_if (nat_lt 0 n && not (is_writable image)) I.ReadOnly))

  -- Why a read is refused before anything is done.
  abbrev pub refuses_to_read : ℕ → ℕ → Option ImageError
  refuses_to_read offset n = option_or unusable (refuse_if (passes (size_of image) offset n) I.BeyondSize)

  -- Why reading and writing in a mapping is refused before anything is done.
  abbrev pub refuses_mapping : ℕ → Option ImageError
  refuses_mapping number = option_or unusable (refuse_if (not (number == number_of image)) I.ForeignState)

-- The refusals that come during the work, after all checks: 4 and 7, each for its cause, and 8, 13, 14, 15, 19 and 20.
abbrev pub MayFailIf : Causes → ImageError → Type 0
MayFailIf causes I.ReadOnly = ⊥
MayFailIf causes I.BeyondSize = ⊥
MayFailIf causes I.Version = ⊥
MayFailIf causes I.UnalignedTable = causes.unaligned
MayFailIf causes I.InvalidOption = ⊥
MayFailIf causes I.Preallocation = ⊥
MayFailIf causes I.Compressed = causes.compressed
MayFailIf causes I.InUse = Unit {0}
MayFailIf causes I.TablePrepared = ⊥
MayFailIf causes I.OutdatedMapping = ⊥
MayFailIf causes I.ForeignState = ⊥
MayFailIf causes I.Dependency = ⊥
MayFailIf causes I.Limit = Unit {0}
MayFailIf causes I.Memory = Unit {0}
MayFailIf causes I.Storage = Unit {0}
MayFailIf causes I.Failed = ⊥
MayFailIf causes I.MappingPrepared = ⊥
MayFailIf causes (I.NotCompressed offset) = ⊥
MayFailIf causes I.Metadata = Unit {0}
MayFailIf causes I.Overflow = Unit {0}
MayFailIf causes (I.StillInUse tables) = ⊥

-- The same, for any cause.
abbrev pub MayFail : ImageError → Type 0
MayFail = MayFailIf any_cause

-- The refusals of a read during its work: 4, 7, 8, 13, 14 and 15.
abbrev pub MayFailToRead : ImageError → Type 0
MayFailToRead I.ReadOnly = ⊥
MayFailToRead I.BeyondSize = ⊥
MayFailToRead I.Version = ⊥
MayFailToRead I.UnalignedTable = Unit {0}
MayFailToRead I.InvalidOption = ⊥
MayFailToRead I.Preallocation = ⊥
MayFailToRead I.Compressed = Unit {0}
MayFailToRead I.InUse = Unit {0}
MayFailToRead I.TablePrepared = ⊥
MayFailToRead I.OutdatedMapping = ⊥
MayFailToRead I.ForeignState = ⊥
MayFailToRead I.Dependency = ⊥
MayFailToRead I.Limit = Unit {0}
MayFailToRead I.Memory = Unit {0}
MayFailToRead I.Storage = Unit {0}
MayFailToRead I.Failed = ⊥
MayFailToRead I.MappingPrepared = ⊥
MayFailToRead (I.NotCompressed offset) = ⊥
MayFailToRead I.Metadata = ⊥
MayFailToRead I.Overflow = ⊥
MayFailToRead (I.StillInUse tables) = ⊥

module _ {S F : Type 0} (new : Qcow2 S F) where
  -- The refusals of a change during its work: 4 only if an offset is not on a cluster, and 7 only if an entry is compressed, by the tables in memory.
  abbrev pub MayFailOn : ImageError → Type 0
  MayFailOn = MayFailIf (causes_of new)

  -- The refusals of a part that copies no old bytes: never 7.
  abbrev pub MayFailUncopied : ImageError → Type 0
  MayFailUncopied = MayFailIf (causes_if new ⊥)

  -- The refusals of a prepare during its work: also 9, while an L2 table is pinned by another mapping.
  abbrev pub MayFailPreparing : ImageError → Type 0
  MayFailPreparing e = MayFailOn e ⊎ ((e ≡ I.TablePrepared) × HasPinnedTable new)

  -- The refusals of growing a disk during the work: as of a prepare; or 3, if zero clusters are asked for below version 3.
  abbrev pub MayFailToGrow : PreallocateMode → ImageError → Type 0
  MayFailToGrow mode e = MayFailPreparing e ⊎ ((e ≡ I.Version) × (mode ≡ Mode.Zero) × (new.file.header.fields.version < 3))

-- The refusal is not a limit.
abbrev pub IsUnlimited : ImageError → Type 0
IsUnlimited I.Limit = ⊥
IsUnlimited e = Unit {0}

-- What a refused prepare leaves: no cluster waits to be freed, except after a fault and after 9.
abbrev pub FreesRefused : {S F : Type 0} → Qcow2 S F → ImageError → Type 0
FreesRefused new e = IsFault e ⊎ ((e ≡ I.TablePrepared) ⊎ HasNothingToFree new)

-- When a refused call marks the image as failed: always after an I/O error, after a failed allocation if a change was recorded, and never otherwise.
abbrev pub failed_after : ImageError → (before recorded now : Bool) → Type 0
failed_after I.Storage before recorded now = now ≡ true
failed_after I.Memory before recorded now = now ≡ (before || recorded)
failed_after e before recorded now = now ≡ before

abbrev pub failed_by : {A : Type 0} → Result A ImageError → (before recorded now : Bool) → Type 0
failed_by (Ok _) before recorded now = now ≡ before
failed_by (Err e) before recorded now = failed_after e before recorded now

module _ {S F : Type 0} (old new : Qcow2 S F) where
  -- A call marks the image as failed exactly by this rule.
  abbrev pub MarksFailed : {A : Type 0} → Result A ImageError → Type 0
  MarksFailed result = failed_by result (is_failed old) (has_noted_change new) (is_failed new)

  -- A refused call marks the image as failed exactly by this rule.
  abbrev pub MarksRefused : ImageError → Type 0
  MarksRefused e = failed_after e (is_failed old) (has_noted_change new) (is_failed new)
