-- Why a read of a range is refused, whatever the image contains: by the tables in memory, as the read leaves them.
use Rattle.std.specs.Prelude.{ℕ, ◌+◌, ◌≤◌, ◌≡◌, ◌⊎◌}
use Rattle.qcow2_alloc.specs.CachePins.{AreAllPinned}
use Rattle.qcow2_alloc.specs.ImageError.{IsFault}
use Rattle.qcow2_alloc.specs.declared.error.ImageError.{ImageError}
use Rattle.qcow2_alloc.specs.declared.error.ImageError.TheVariants as I
use Rattle.qcow2_image.specs.HeldMappings.{IsCompressedInTables}
use Rattle.qcow2_image.specs.LookupCauses.{HasUnalignedEntry, IsTableUnaligned}
use Rattle.qcow2_image.specs.declared.image.Qcow2.{Qcow2}

module _ {S F : Type 0} (image : Qcow2 S F) (from to : ℕ) where
  -- For some part of the range, the L2 table or a host offset in it is not on a cluster.
  pub record MeetsUnaligned : Type 0 where
    pub at : ℕ
    pub length : ℕ
    pub begins : from ≤ at
    pub ends : at + length ≤ to
    pub unaligned : IsTableUnaligned image at ⊎ HasUnalignedEntry image at length

  -- Some part of the range begins in a compressed cluster.
  pub record MeetsCompressed : Type 0 where
    pub at : ℕ
    pub begins : from ≤ at
    pub ends : at ≤ to
    pub compressed : IsCompressedInTables image at

  -- Why a read of the range is refused during its work: a fault; a limit; 8, if all cached L2 tables are pinned; 4, if it meets an offset that is not on a cluster; or 7, if it meets a compressed cluster.
  abbrev pub MayFailReadingFrom : ImageError → Type 0
  MayFailReadingFrom e =
      IsFault e ⊎ ((e ≡ I.Limit) ⊎ (((e ≡ I.InUse) × AreAllPinned image.file.caches) ⊎ (((e ≡ I.UnalignedTable) × MeetsUnaligned) ⊎ ((e ≡ I.Compressed) × MeetsCompressed))))
