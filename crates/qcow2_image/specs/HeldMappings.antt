-- How the tables in memory map a guest range, whatever the image contains.
use Rattle.std.specs.Prelude.{ℕ, ◌+◌, ◌-◌, ◌*◌, ◌/◌, ◌%◌, ◌^◌, ◌≡◌, ◌<◌, ◌≤◌, ◌⊎◌, Bool, Some, is_some, min, List, length, replicate, MatchOption, Result, Ok, Err}
use Rattle.image_access.specs.Contents.{bytes_at}
use Rattle.image_access.specs.Moments.{StorageView}
use Rattle.qcow2_metadata.specs.Entries.{host_offset}
use Rattle.qcow2_metadata.specs.EntryTable.{EntryTableView}
use Rattle.qcow2_metadata.specs.Header.{cluster_size}
use Rattle.qcow2_metadata.specs.L2Table.{L2TableView}
use Rattle.qcow2_metadata.specs.TableBytes.{entry_at}
use Rattle.qcow2_metadata.specs.declared.header.HeaderFields.{HeaderFields}
use Rattle.qcow2_metadata.specs.declared.l2_mapping.L2Mapping.TheVariants.{Uncovered}
use Rattle.qcow2_disk.specs.Found.{IsCompressed, rest_of_table}
use Rattle.qcow2_alloc.specs.MetadataCaches.{l2_at}
use Rattle.qcow2_alloc.specs.declared.cache.MetadataCaches.{MetadataCaches}
use Rattle.qcow2_alloc.specs.declared.error.ImageError.{ImageError}
use Rattle.qcow2_alloc.specs.declared.error.ImageError.TheVariants.{Compressed, OutdatedMapping}
use Rattle.qcow2_image.specs.declared.image.Qcow2.{Qcow2}
use Rattle.qcow2_image.specs.declared.mapping.MappingKind.{MappingKind}
use Rattle.qcow2_image.specs.declared.mapping.MappingKind.TheVariants as Kind
use Rattle.qcow2_alloc.specs.ImageFile.{view_in}
use Rattle.qcow2_image.specs.Found.{found_kind, further_by, kind_in, mapping_of, IsAlikeTo, l1_index_of}
use Rattle.qcow2_image.specs.Image.{is_beside}
use Rattle.qcow2_image.specs.MayFail.{IsSpecial}

-- The offset of the L2 table that the L1 table in memory has for a guest offset, 0 for none.
abbrev pub named_place : HeaderFields → EntryTableView → ℕ → ℕ
named_place h l1_table offset = host_offset (entry_at l1_table.bytes (l1_index_of h offset))

module _ {S : Type 0} (h : HeaderFields) (is_beside is_backed : Bool) (l1_table : EntryTableView) (caches : MetadataCaches S) (offset : ℕ) where
  -- An L2 table maps n bytes in this way: the first guest cluster, and all others that the range touches like it.
  pub record IsMappedBy (table : L2TableView) (kind : MappingKind) (n : ℕ) : Type 0 where
    pub first : found_kind kind ≡ kind_in h is_beside is_backed offset (mapping_of table (offset / cluster_size h))
    pub alike : (k : ℕ) → cluster_size h - offset % cluster_size h + k * 2 ^ table.cluster_bits < n → IsAlikeTo table (offset / cluster_size h) (k + 1)

  -- The L1 table has no L2 table for the offset, so it is unmapped.
  pub record IsUncovered (kind : MappingKind) : Type 0 where
    pub none : named_place h l1_table offset ≡ 0
    pub kind_is : found_kind kind ≡ kind_in h is_beside is_backed offset Uncovered

  -- The L2 table of the offset is cached, and maps the n bytes in this way.
  pub record IsMappedByNamed (kind : MappingKind) (n : ℕ) : Type 0 where
    pub named : ¬ (named_place h l1_table offset ≡ 0)
    pub table : L2TableView
    pub held : l2_at caches (named_place h l1_table offset / cluster_size h) ≡ Some table
    pub mapped : IsMappedBy table kind n

  -- The range lies below the size, one L2 table covers it, and the tables in memory map it in this way.
  pub record IsMappedSo (kind : MappingKind) (n : ℕ) : Type 0 where
    pub below : offset + n ≤ h.size
    pub within : n ≤ rest_of_table h offset
    pub mapped : IsUncovered kind ⊎ IsMappedByNamed kind n

  -- The longest range that is mapped in this way, up to a limit.
  pub record IsLongestSo (max : ℕ) (kind : MappingKind) (n : ℕ) : Type 0 where
    pub mapped : IsMappedSo kind n
    pub at_most : n ≤ max
    pub longest : n < max → ¬ IsMappedSo kind (n + 1)

module _ {S F : Type 0} (image : Qcow2 S F) (offset : ℕ) where
  -- The tables in memory map the range in this way.
  abbrev pub IsHeldAs : MappingKind → ℕ → Type 0
  IsHeldAs kind n = IsMappedSo image.file.header.fields (is_beside image) (is_some image.backing) image.l1_table image.file.caches offset kind n

  -- The tables in memory map the range in this way, and no longer one, up to a limit.
  abbrev pub IsHeldRun : ℕ → MappingKind → ℕ → Type 0
  IsHeldRun max kind n = IsLongestSo image.file.header.fields (is_beside image) (is_some image.backing) image.l1_table image.file.caches offset max kind n

  -- The tables in memory have an L2 table for the offset, and the offset's guest cluster is compressed by it.
  pub record IsCompressedInTables : Type 0 where
    pub named : ¬ (named_place image.file.header.fields image.l1_table offset ≡ 0)
    pub table : L2TableView
    pub held : l2_at image.file.caches (named_place image.file.header.fields image.l1_table offset / cluster_size image.file.header.fields) ≡ Some table
    pub compressed : IsCompressed (mapping_of table (offset / cluster_size image.file.header.fields))

  -- A lookup found this kind, and n of at most `max` bytes, in the L2 table of the offset.
  pub record IsHeldFrom (max : ℕ) (kind : MappingKind) (n : ℕ) : Type 0 where
    pub plain : IsCompressedInTables → IsSpecial kind
    pub special : IsSpecial kind → IsCompressedInTables
    pub whole : further_by 0 kind ≡ kind
    pub run : (limit : ℕ) → max ≡ min (min limit (image.file.header.fields.size - offset)) (rest_of_table image.file.header.fields offset) → offset < image.file.header.fields.size → IsHeldRun limit kind n

module _ {S F : Type 0} (old new : Qcow2 S F) (offset : ℕ) where
  -- Ranges at this offset that the tables in memory map in some way stay mapped so.
  abbrev pub StaysHeld : Type 0
  StaysHeld = (kind : MappingKind) (n : ℕ) → IsHeldAs old offset kind n → IsHeldAs new offset kind n

  -- A range is refused 10 only if the tables in memory don't map it in this way, neither before nor after the call. It is refused 7 only if they do, and it is compressed.
  pub record RefusesHeld (kind : MappingKind) (n : ℕ) (e : ImageError) : Type 0 where
    pub outdated : e ≡ OutdatedMapping → ¬ IsHeldAs old offset kind n × ¬ IsHeldAs new offset kind n
    pub compressed : e ≡ Compressed → IsHeldAs new offset kind n × IsSpecial kind

  -- A call succeeds only if the tables in memory map the range in this way, and is refused 10 only if they don't.
  abbrev pub FitsTables : {A : Type 0} → MappingKind → ℕ → Result A ImageError → Type 0
  FitsTables kind n (Ok _) = IsHeldAs new offset kind n
  FitsTables kind n (Err e) = RefusesHeld kind n e

module _ {S F : Type 0} where
  -- What the tables in memory map stays the same.
  pub record KeepsHeld (old new : Qcow2 S F) : Type 0 where
    pub header : new.file.header ≡ old.file.header
    pub beside : is_beside new ≡ is_beside old
    pub backed : is_some new.backing ≡ is_some old.backing
    pub l1_table : new.l1_table ≡ old.l1_table
    pub caches : new.file.caches ≡ old.file.caches

-- Bytes that were read from the data file, or without one from the image's own storage, are those at a place, if that file is honest.
abbrev pub ReadsFrom : {S F : Type 0} → (S → StorageView) → (old new : Qcow2 S F) → ℕ → List ℕ → Type 0
ReadsFrom view old new host bytes =
    MatchOption old.data_file ((view_in view old.file).is_honest → bytes ≡ bytes_at (view_in view new.file).contents host (length bytes))
    (λ file. (view file).is_honest → bytes ≡ bytes_at (view file).contents host (length bytes))

-- Bytes that were read are those at the mapping's place, and those of zeros are zeros, whatever the image contains. Compressed bytes are never read, nor bytes past the end.
abbrev pub ReadsAs : {S F : Type 0} → (S → StorageView) → (old new : Qcow2 S F) → MappingKind → List ℕ → Type 0
ReadsAs view old new (Kind.Raw place host writable) bytes = ReadsFrom view old new host bytes
ReadsAs view old new (Kind.Indirect offset) bytes = Unit {0}
ReadsAs view old new (Kind.Zero explicit) bytes = bytes ≡ replicate (length bytes) 0
ReadsAs view old new (Kind.Special offset) bytes = ⊥
ReadsAs view old new Kind.Eof bytes = ⊥
