-- Causes of refusals during the work of a call that changes an image, by the tables in memory.
use Rattle.std.specs.Prelude.{ℕ, ◌≡◌, Some}
use Rattle.qcow2_metadata.specs.L2Table.{L2TableView}
use Rattle.qcow2_metadata.specs.declared.l2_mapping.L2Mapping.{L2Mapping}
use Rattle.qcow2_disk.specs.Found.{IsCompressed}
use Rattle.qcow2_alloc.specs.KeptMarks.{KeepsHeldTables}
use Rattle.qcow2_alloc.specs.MetadataCaches.{l2_at}
use Rattle.qcow2_alloc.specs.declared.cache.MetadataCaches.{MetadataCaches}
use Rattle.qcow2_image.specs.Found.{mapping_of}
use Rattle.qcow2_image.specs.UnalignedTables.{HasUnalignedOffset}
use Rattle.qcow2_image.specs.declared.image.Qcow2.{Qcow2}

-- What holds after a refusal: one after 4, and one after 7.
pub record Causes : Type 1 where
  pub unaligned : Type 0
  pub compressed : Type 0

-- Each cause is followed by the same one of the others.
pub record AreCausesOf (causes others : Causes) : Type 0 where
  pub unaligned : causes.unaligned → others.unaligned
  pub compressed : causes.compressed → others.compressed

-- Every refusal has its cause.
abbrev pub any_cause : Causes
any_cause = record { unaligned = Unit {0}; compressed = Unit {0} }

-- A cached L2 table has a compressed entry.
pub record HasCompressedCached {S : Type 0} (caches : MetadataCaches S) : Type 0 where
  pub cluster : ℕ
  pub table : L2TableView
  pub is : l2_at caches cluster ≡ Some table
  pub guest : ℕ
  pub compressed : IsCompressed (mapping_of table guest)

-- The mapping of a guest cluster is compressed, and the same L2 tables are cached as before.
pub record IsCompressedStill {S : Type 0} (caches caches' : MetadataCaches S) (mapping : L2Mapping) : Type 0 where
  pub compressed : IsCompressed mapping
  pub tables : KeepsHeldTables caches caches'

module _ {S F : Type 0} (image : Qcow2 S F) where
  -- 4 only if an offset is not on a cluster, and 7 only if this holds.
  abbrev pub causes_if : Type 0 → Causes
  causes_if compressed = record { unaligned = HasUnalignedOffset image; compressed = compressed }

  -- 7 only if a cached L2 table has a compressed entry.
  abbrev pub causes_of : Causes
  causes_of = causes_if (HasCompressedCached image.file.caches)
