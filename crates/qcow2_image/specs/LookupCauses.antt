-- Why lookups and reads are refused, whatever the image contains.
use Rattle.std.specs.Prelude.{ℕ, ◌+◌, ◌-◌, ◌*◌, ◌/◌, ◌%◌, ◌^◌, ◌≡◌, ◌<◌, ◌≤◌, ◌⊎◌, Some, None}
use Rattle.qcow2_metadata.specs.Header.{cluster_size}
use Rattle.qcow2_metadata.specs.L2Table.{L2TableView}
use Rattle.qcow2_metadata.specs.declared.header.HeaderFields.{HeaderFields}
use Rattle.qcow2_alloc.specs.CacheCauses.{MayFailLoadingL2}
use Rattle.qcow2_alloc.specs.ImageError.{IsFault}
use Rattle.qcow2_alloc.specs.MetadataCaches.{l2_at}
use Rattle.qcow2_alloc.specs.declared.cache.MetadataCaches.{MetadataCaches}
use Rattle.qcow2_alloc.specs.declared.error.ImageError.{ImageError}
use Rattle.qcow2_alloc.specs.declared.error.ImageError.TheVariants as I
use Rattle.qcow2_image.specs.Found.{further_by}
use Rattle.qcow2_image.specs.HeldMappings.{IsCompressedInTables}
use Rattle.qcow2_image.specs.MayFail.{IsSpecial}
use Rattle.qcow2_image.specs.PinnedTables.{own_table}
pub use Rattle.qcow2_image.specs.UnalignedTables.{IsTableUnaligned, IsUnalignedIn}
use Rattle.qcow2_image.specs.Prepared.{guest_offset_of, offset_of, table_of}
use Rattle.qcow2_image.specs.declared.image.Qcow2.{Qcow2}
use Rattle.qcow2_image.specs.declared.mapping.MappingKind.{MappingKind}
use Rattle.qcow2_image.specs.declared.prepared.Prepared.{Prepared}

-- So it is of the guest cluster, or of a later one that begins less than so many bytes after its end.
abbrev pub HasUnalignedBehind : L2TableView → (guest max : ℕ) → Type 0
HasUnalignedBehind table guest max = IsUnalignedIn table guest ⊎ ((k : ℕ) × (k * 2 ^ table.cluster_bits < max) × IsUnalignedIn table (guest + k + 1))

-- So it is of the guest cluster of an offset, or of a later one that the n bytes from the offset on touch.
abbrev pub HasUnalignedFrom : HeaderFields → L2TableView → (offset n : ℕ) → Type 0
HasUnalignedFrom h table offset n =
    IsUnalignedIn table (offset / cluster_size h) ⊎ ((k : ℕ) × (cluster_size h - offset % cluster_size h + k * 2 ^ table.cluster_bits < n) × IsUnalignedIn table (offset / cluster_size h + k + 1))

-- The L2 table in a cluster is cached, and has such an entry for the n bytes from an offset on.
abbrev pub HasUnalignedAt : {S : Type 0} → HeaderFields → MetadataCaches S → (cluster offset n : ℕ) → Type 0
HasUnalignedAt h caches cluster offset n = (table : L2TableView) × (l2_at caches cluster ≡ Some table) × HasUnalignedFrom h table offset n

module _ {S F : Type 0} (image : Qcow2 S F) (offset : ℕ) where
  -- The L2 table of the offset is cached, and has such an entry for the n bytes.
  abbrev pub HasUnalignedEntry : ℕ → Type 0
  HasUnalignedEntry n = HasUnalignedAt image.file.header.fields image.file.caches (own_table image offset) offset n

  -- A lookup's kind: its host offset fits into 64 bits, and it is special only where the tables in memory have the guest cluster as compressed.
  pub record IsKindIn (kind : MappingKind) : Type 0 where
    pub whole : further_by 0 kind ≡ kind
    pub special : IsSpecial kind → IsCompressedInTables image offset

module _ {S F : Type 0} (old new : Qcow2 S F) (offset n : ℕ) where
  -- Why a lookup is refused: 4, if the L2 table or a cluster that the n bytes touch is not on a cluster; or as the load of that L2 table.
  abbrev pub MayFailFinding : ImageError → Type 0
  MayFailFinding e = ((e ≡ I.UnalignedTable) × (IsTableUnaligned new offset ⊎ HasUnalignedEntry new offset n)) ⊎ MayFailLoadingL2 old.file.caches new.file.caches (own_table old offset) e

  -- Why a range that was looked up before is refused: as a lookup; or 10, if it is mapped differently by now.
  abbrev pub MayFailFindingAgain : ImageError → Type 0
  MayFailFindingAgain e = MayFailFinding e ⊎ (e ≡ I.OutdatedMapping)

  -- Why a read of a mapping is refused: as a range that was looked up before; or 7, if its first byte is compressed.
  abbrev pub MayFailReadingFound : ImageError → Type 0
  MayFailReadingFound e = MayFailFindingAgain e ⊎ ((e ≡ I.Compressed) × IsCompressedInTables new offset)

  -- Why a special read is refused: as a lookup; or 7, if the offset's guest cluster is compressed.
  abbrev pub MayFailTelling : ImageError → Type 0
  MayFailTelling e = MayFailFinding e ⊎ ((e ≡ I.Compressed) × IsCompressedInTables new offset)

-- Why a put of n bytes is refused: a fault; for an existing mapping, as a range that was looked up before; 20, if its host offset passes 64 bits; or 19, if it lies in the header's cluster, where no mapping is.
abbrev pub MayFailPuttingAt : {S F : Type 0} → (old new : Qcow2 S F) → Prepared → (at n : ℕ) → ImageError → Type 0
MayFailPuttingAt old new p at n e =
    IsFault e ⊎ (((table_of p ≡ None) × MayFailFindingAgain old new (guest_offset_of p + at) n e) ⊎ (((e ≡ I.Overflow) × (2 ^ 64 ≤ offset_of p + at)) ⊎ ((e ≡ I.Metadata) × (offset_of p + at < cluster_size old.file.header.fields))))
