-- The name of a file in a folder, and what a conversion does to it.
use Rattle.std.specs.Prelude.{ℕ, ◌≡◌, ◌⊎◌, All, IfOk, List, ◌∷◌, ◌++◌, Option, Some, None, Result, Ok, Err}
use Rattle.image_access.specs.Moments.{StorageView}
use Rattle.image_access.specs.declared.storage.Format.{Format}
use Rattle.qcow2_metadata.specs.Bytes.{byte_at}
use Rattle.qcow2_metadata.specs.Consistent.{IsConsistent}
use Rattle.qcow2_session.specs.Conversions.{IsRawOf}
use Rattle.program_parts.specs.Conversions.{IsExport, IsImageOfSize, disk_alone}
use Rattle.program_parts.specs.Copies.{CopiesFrom}
use Rattle.program_parts.specs.declared.placing.Conversion.{Conversion}
use Rattle.program_parts.specs.declared.placing.Conversion.TheVariants as C
use Rattle.program_parts.specs.declared.placing.Unplaced.{Unplaced}
use Rattle.program_parts.specs.declared.placing.Unplaced.TheVariants as U

-- The view of a name. It is honest if nobody else changes the folder, and if a file gets the name in one moment, is on its device by then, and isn't written afterwards.
pub record NameView : Type 1 where
  pub is_honest : Type 0
  -- The contents of the file with this name, or None if there is none.
  pub holds : Option (List ℕ)
  -- The contents at each moment before, the latest first.
  pub held : List (Option (List ℕ))

-- Nothing happened to the name.
pub record StaysNamed (old new : NameView) : Type 0 where
  pub honest : old.is_honest → new.is_honest
  pub holds : new.holds ≡ old.holds
  pub held : new.held ≡ old.held

-- A file with these bytes got the name.
pub record GetsName (bytes : List ℕ) (old new : NameView) : Type 0 where
  pub honest : old.is_honest → new.is_honest
  pub holds : new.holds ≡ Some bytes
  pub held : new.held ≡ old.holds ∷ old.held

-- The file got the name. If that was refused, the file may have got the name nevertheless.
abbrev pub Renames : {E : Type 0} → Result (Unit {0}) E → List ℕ → NameView → NameView → Type 0
Renames (Ok _) bytes old new = GetsName bytes old new
Renames (Err _) bytes old new = StaysNamed old new ⊎ GetsName bytes old new

-- Since the old view, the name had its old contents, and after them only contents that satisfy P.
pub record EachHeldSince (old new : NameView) (P : Option (List ℕ) → Type 0) : Type 0 where
  pub honest : old.is_honest → new.is_honest
  pub since : List (Option (List ℕ))
  pub trace : new.holds ∷ new.held ≡ since ++ (old.holds ∷ old.held)
  pub each : All P since

-- ---- conversions

abbrev pub source_format : Conversion → Format
source_format C.ImageToRaw = Format.Qcow2
source_format (C.RawToImage cluster width) = Format.Raw
source_format C.RawToRaw = Format.Raw

abbrev pub target_format : Conversion → Format
target_format C.ImageToRaw = Format.Raw
target_format (C.RawToImage cluster width) = Format.Qcow2
target_format C.RawToRaw = Format.Raw

-- A consistent image of size n, whatever was read. If the raw disk is honest, the image has its bytes.
pub record IsWholeImage (n : ℕ) (source : StorageView) (bytes : List ℕ) : Type 0 where
  pub image : IsImageOfSize n (byte_at bytes)
  pub disk : source.is_honest → IsRawOf (disk_alone (byte_at bytes)) source.contents

-- The bytes are the whole result: the raw disk of a consistent image, an image of a raw disk, or a copy of one.
abbrev pub IsWhole : Conversion → ℕ → StorageView → List ℕ → Type 0
IsWhole C.ImageToRaw n source bytes = source.is_honest → IsConsistent (byte_at source.contents) → IsExport source.contents n bytes
IsWhole (C.RawToImage cluster width) n source bytes = IsWholeImage n source bytes
IsWhole C.RawToRaw n source bytes = source.is_honest → CopiesFrom source.contents bytes n

-- An honest storage has the whole result.
pub record IsMade (how : Conversion) (n : ℕ) (source storage : StorageView) : Type 0 where
  pub honest : storage.is_honest
  pub whole : IsWhole how n source storage.contents

-- The file of a name has the whole result.
abbrev pub HoldsWhole : Conversion → ℕ → StorageView → Option (List ℕ) → Type 0
HoldsWhole how n source (Some bytes) = IsWhole how n source bytes
HoldsWhole how n source None = ⊥

-- At every moment of a conversion, the name belongs to the old file or to one with the whole result. After a success it belongs to the latter.
pub record Replaces {E : Type 0} (how : Conversion) (source : StorageView) (old new : NameView) (result : Result ℕ E) : Type 0 where
  pub each_moment : EachHeldSince old new (λ held. (n : ℕ) × HoldsWhole how n source held)
  pub done : IfOk result (λ n. HoldsWhole how n source new.holds)

-- A result that is not made leaves the name unchanged.
abbrev pub IsNameKept : {F P : Type 0} → Unplaced F → P → P → Type 0
IsNameKept (U.Unmade file unmade) old new = new ≡ old
IsNameKept (U.Unnamed cause) old new = Unit {0}
