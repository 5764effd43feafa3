-- Images that are made of disks.
use Rattle.std.specs.Prelude.{ℕ, ◌≡◌, ◌⊎◌, ◌+◌, ◌≤◌, List, length, replicate, IfOk, Option, Some, None, Result, Ok}
use Rattle.image_access.specs.Backing.{BackingView}
use Rattle.image_access.specs.Moments.{StorageView}
use Rattle.qcow2_metadata.specs.Bytes.{byte_at}
use Rattle.qcow2_metadata.specs.Header.{header, cluster_size, count_width}
use Rattle.qcow2_disk.specs.Calls.{Shows}
use Rattle.qcow2_image.specs.ImageInvariant.{disk_of}
use Rattle.qcow2_image.specs.declared.image.Qcow2.{Qcow2}
use Rattle.qcow2_session.specs.Conversions.{Imports, ImportsAll, ImportsAt}
use Rattle.program_parts.specs.Conversions.{IsImageOfSize, disk_alone}
use Rattle.program_parts.specs.Disks.{AreSameDisks, SeenDisk}
use Rattle.program_parts.specs.Places.{EachHeldSince, NameView}
use Rattle.program_parts.specs.declared.disk_images.Layout.{Layout}
use Rattle.qcow2_image.specs.declared.mapping.Place.TheVariants.{Image}

-- A consistent image of size n with this layout, whatever was read. If reads of the disk return its bytes, the image has them.
pub record IsWholeOfDisk (seen : SeenDisk) (layout : Layout) (n : ℕ) (bytes : List ℕ) : Type 0 where
  pub image : IsImageOfSize n (byte_at bytes)
  pub disk : seen.is_honest → AreSameDisks seen.disk (disk_alone (byte_at bytes))
  pub clusters : cluster_size (header (byte_at bytes)) ≡ layout.cluster
  pub counts : count_width (header (byte_at bytes)) ≡ layout.width

-- An honest storage has such an image.
pub record IsDiskMade (seen : SeenDisk) (layout : Layout) (n : ℕ) (storage : StorageView) : Type 0 where
  pub honest : storage.is_honest
  pub whole : IsWholeOfDisk seen layout n storage.contents

-- The file of a name has such an image.
abbrev pub HoldsDisk : SeenDisk → Layout → ℕ → Option (List ℕ) → Type 0
HoldsDisk seen layout n (Some bytes) = IsWholeOfDisk seen layout n bytes
HoldsDisk seen layout n None = ⊥

-- At every moment of a conversion, the name belongs to the old file or to one with a whole image of the disk. After a success it belongs to the latter.
pub record ReplacesByDisk {E : Type 0} (seen : SeenDisk) (layout : Layout) (old new : NameView) (result : Result ℕ E) : Type 0 where
  pub each_moment : EachHeldSince old new (λ held. (n : ℕ) × HoldsDisk seen layout n held)
  pub done : IfOk result (λ n. HoldsDisk seen layout n new.holds)

-- ---- the parts of it

module _ {S F : Type 0} (view : S → StorageView) (backing : F → BackingView) where
  -- The disk of the image is zeros, up to an offset.
  abbrev pub ShowsNothing : ℕ → Qcow2 S F → Type 0
  ShowsNothing n image = Shows (disk_of view backing Image image) 0 (replicate n 0)

  module _ (old new : Qcow2 S F) where
    -- The image was given the bytes of a range of the disk; zeros were not written.
    pub record FillsAt (at n : ℕ) (from : SeenDisk) : Type 0 where
      pub bytes : List ℕ
      pub long : length bytes ≡ n
      pub filled : ((bytes ≡ replicate n 0) × (new ≡ old)) ⊎ ImportsAt view backing old new at bytes (Ok tt)
      pub shows : from.is_honest → at + n ≤ from.disk.size → Shows from.disk at bytes

    -- It was given the first n bytes of the disk.
    pub record FillsUpTo (n : ℕ) (from : SeenDisk) : Type 0 where
      pub bytes : List ℕ
      pub long : length bytes ≡ n
      pub filled : ImportsAll view backing old new bytes (Ok tt)
      pub shows : from.is_honest → n ≤ from.disk.size → Shows from.disk 0 bytes

    -- It has these bytes, and they are on the storage.
    pub record FillsDisk (n : ℕ) (from : SeenDisk) : Type 0 where
      pub bytes : List ℕ
      pub long : length bytes ≡ n
      pub filled : Imports view backing old new bytes (Ok n)
      pub shows : from.is_honest → n ≤ from.disk.size → Shows from.disk 0 bytes
