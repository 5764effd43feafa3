-- Offsets of tables and of clusters that are not on a cluster, by the tables in memory.
use Rattle.std.specs.Prelude.{ℕ, ◌%◌, ◌≡◌, ◌⊎◌, Some, IfSome, IsSomeAnd}
use Rattle.qcow2_metadata.specs.Entries.{host_offset}
use Rattle.qcow2_metadata.specs.Header.{cluster_size}
use Rattle.qcow2_metadata.specs.L2Mapping.{HasAlignedHost}
use Rattle.qcow2_metadata.specs.L2Table.{L2TableView}
use Rattle.qcow2_metadata.specs.TableBytes.{entry_at}
use Rattle.qcow2_alloc.specs.Allocation.{HasUnaligned}
use Rattle.qcow2_alloc.specs.KeptMarks.{KeepsHeldTables}
use Rattle.qcow2_alloc.specs.MetadataCaches.{l2_at}
use Rattle.qcow2_alloc.specs.declared.cache.MetadataCaches.{MetadataCaches}
use Rattle.qcow2_image.specs.Found.{l1_index_of, mapping_of}
use Rattle.qcow2_image.specs.declared.image.Qcow2.{Qcow2}

-- The host offset of a guest cluster is not on a cluster, by an L2 table.
abbrev pub IsUnalignedIn : L2TableView → ℕ → Type 0
IsUnalignedIn table guest = ¬ HasAlignedHost table.cluster_bits (mapping_of table guest)

-- A cached L2 table has an entry whose host offset is not on a cluster.
pub record HasUnalignedCached {S : Type 0} (caches : MetadataCaches S) : Type 0 where
  pub cluster : ℕ
  pub table : L2TableView
  pub is : l2_at caches cluster ≡ Some table
  pub guest : ℕ
  pub off : IsUnalignedIn table guest

module _ {S F : Type 0} (image : Qcow2 S F) where
  -- The offset of the L2 table of a guest offset is not on a cluster, by the L1 table in memory.
  abbrev pub IsTableUnaligned : ℕ → Type 0
  IsTableUnaligned offset = ¬ (host_offset (entry_at image.l1_table.bytes (l1_index_of image.file.header.fields offset)) % cluster_size image.file.header.fields ≡ 0)

  -- The offset of a refblock, of an L2 table or of a cluster is not on a cluster, by the tables in memory.
  abbrev pub HasUnalignedOffset : Type 0
  HasUnalignedOffset = IsSomeAnd image.allocator (λ allocator. HasUnaligned image.file.header.fields allocator.reftable) ⊎ (((offset : ℕ) × IsTableUnaligned offset) ⊎ HasUnalignedCached image.file.caches)

-- The tables in memory keep their offsets: the header, the L1 table, the reftable, and the entries of each cached L2 table.
pub record KeepsOffsets {S F : Type 0} (old new : Qcow2 S F) : Type 0 where
  pub header : new.file.header ≡ old.file.header
  pub l1_table : new.l1_table ≡ old.l1_table
  pub reftable : IfSome old.allocator (λ was. IsSomeAnd new.allocator (λ now. now.reftable ≡ was.reftable))
  pub tables : KeepsHeldTables old.file.caches new.file.caches
