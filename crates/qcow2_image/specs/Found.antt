-- What a lookup finds in an image: the kind of a mapping, and its length.
use Rattle.std.specs.Prelude.{ℕ, ◌+◌, ◌*◌, ◌/◌, ◌%◌, ◌^◌, ◌≡◌, ◌<◌, ◌≤◌, ◌≢◌, Bool, true, false, is_some, List, length, Option, Some, None, if◌then◌else◌}
use Rattle.image_access.specs.Moments.{StorageView}
use Rattle.qcow2_metadata.specs.Bytes.{Bytes, byte_at}
use Rattle.qcow2_metadata.specs.Header.{cluster_size, entries_per_cluster}
use Rattle.qcow2_metadata.specs.L2Table.{L2TableView, entries_of, cover_at}
use Rattle.qcow2_metadata.specs.declared.header.HeaderFields.{HeaderFields}
use Rattle.qcow2_metadata.specs.declared.l2_mapping.L2Mapping.{L2Mapping}
use Rattle.qcow2_disk.specs.Alike.{IsAlike}
use Rattle.qcow2_metadata.specs.declared.l2_mapping.L2Mapping.TheVariants.{Data, Zero, Compressed, Uncovered}
use Rattle.qcow2_disk.specs.Found.{Kind, raw, indirect, zeros, special, eof, kind_at, IsMapped, IsLongestOf, IsFound as IsFoundOf}
use Rattle.qcow2_laws.specs.Guests.{table_at}
use Rattle.qcow2_alloc.specs.ImageFile.{contents_in, known_in}
use Rattle.qcow2_image.specs.declared.image.Qcow2.{Qcow2}
use Rattle.qcow2_image.specs.declared.mapping.MappingKind.{MappingKind}
use Rattle.qcow2_image.specs.declared.mapping.MappingKind.TheVariants as M
use Rattle.qcow2_image.specs.declared.mapping.Place.{Place}
use Rattle.qcow2_image.specs.declared.mapping.Place.TheVariants.{Image, DataFile}

-- The file is the external data file.
abbrev pub is_data_file : Place → Bool
is_data_file Image = false
is_data_file DataFile = true

-- The kind of a mapping, as a lookup returns it.
abbrev pub found_kind : MappingKind → Kind
found_kind (M.Raw file offset writable) = raw (is_data_file file) offset writable
found_kind (M.Indirect offset) = indirect offset
found_kind (M.Zero explicit) = zeros explicit
found_kind (M.Special offset) = special offset
found_kind M.Eof = eof

-- The kind of a mapping at a guest offset, with a data file or without, and with a backing disk or without.
abbrev pub kind_in : HeaderFields → (is_beside is_backed : Bool) → ℕ → L2Mapping → Kind
kind_in h is_beside is_backed offset (Data host copied) = raw is_beside (host + offset % cluster_size h) copied
kind_in h is_beside is_backed offset (Zero kept) = kind_at h is_backed offset (Zero kept)
kind_in h is_beside is_backed offset (Compressed place sectors) = kind_at h is_backed offset (Compressed place sectors)
kind_in h is_beside is_backed offset Uncovered = kind_at h is_backed offset Uncovered

-- The host offset where the range may be written in place, if it may.
abbrev pub writable_place : Kind → Option ℕ
writable_place (raw external offset writable) = if writable then Some offset else None
writable_place (indirect offset) = None
writable_place (zeros explicit) = None
writable_place (special offset) = None
writable_place eof = None

-- The same kind, n bytes further on. Offsets wrap around at 64 bits.
abbrev pub further_by : ℕ → MappingKind → MappingKind
further_by n (M.Raw file offset writable) = M.Raw file ((offset + n) % 2 ^ 64) writable
further_by n (M.Indirect offset) = M.Indirect ((offset + n) % 2 ^ 64)
further_by n (M.Special offset) = M.Special ((offset + n) % 2 ^ 64)
further_by n (M.Zero explicit) = M.Zero explicit
further_by n M.Eof = M.Eof

-- The indices of the L1 entry, and of the entry of its L2 table, that cover an offset.
abbrev pub l1_index_of : HeaderFields → ℕ → ℕ
l1_index_of h offset = offset / cluster_size h / entries_per_cluster h

abbrev pub l2_index_of : HeaderFields → ℕ → ℕ
l2_index_of h offset = offset / cluster_size h % entries_per_cluster h

-- These bytes are at this offset of a file.
abbrev pub AreBytesOf : Bytes → ℕ → List ℕ → Type 0
AreBytesOf b place bytes = (i : ℕ) → i < length bytes → byte_at bytes i ≡ b (place + i)

-- The mapping that an L2 table has for a guest cluster that it covers.
abbrev pub mapping_of : L2TableView → ℕ → L2Mapping
mapping_of table guest = cover_at table (guest % entries_of table)

-- The guest cluster k clusters after another is mapped like it.
abbrev pub IsAlikeTo : L2TableView → ℕ → ℕ → Type 0
IsAlikeTo table guest k = IsAlike (k * 2 ^ table.cluster_bits) (mapping_of table guest) (mapping_of table (guest + k))

-- The n guest clusters after another are mapped like it.
abbrev pub AreAlikeBehind : L2TableView → ℕ → ℕ → Type 0
AreAlikeBehind table guest n = (k : ℕ) → 0 < k → k ≤ n → IsAlikeTo table guest k

-- n bytes are whole clusters after one that are mapped like it, and as many as there are, up to a limit.
pub record IsRunBehind (table : L2TableView) (guest max n : ℕ) : Type 0 where
  pub count : ℕ
  pub whole : n ≡ count * 2 ^ table.cluster_bits
  pub near : n < max + 2 ^ table.cluster_bits
  pub alike : AreAlikeBehind table guest count
  pub longest : n < max → ¬ IsAlikeTo table guest (count + 1)

module _ {S F : Type 0} (view : S → StorageView) (image : Qcow2 S F) (offset : ℕ) where
  -- The L1 entry of an offset names the L2 table in this cluster, or none.
  abbrev pub NamesL2Table : Option ℕ → Type 0
  NamesL2Table None = table_at image.file.header.fields (contents_in view image.file) (l1_index_of image.file.header.fields offset) ≡ 0
  NamesL2Table (Some cluster) =
      (table_at image.file.header.fields (contents_in view image.file) (l1_index_of image.file.header.fields offset) ≡ cluster * cluster_size image.file.header.fields)
      × (table_at image.file.header.fields (contents_in view image.file) (l1_index_of image.file.header.fields offset) ≢ 0)

  -- The n bytes from the offset on are mapped in this way.
  abbrev pub IsMappedAs : MappingKind → ℕ → Type 0
  IsMappedAs kind n = IsMapped image.file.header.fields (known_in view image.file) (is_some image.backing) offset (found_kind kind) n

  -- The longest run of clusters that are mapped alike, up to a limit.
  abbrev pub IsRunFrom : ℕ → MappingKind → ℕ → Type 0
  IsRunFrom limit kind n = IsLongestOf image.file.header.fields (known_in view image.file) (is_some image.backing) offset limit (found_kind kind) n

  -- What a lookup finds: nothing at or past the size; otherwise the longest such run within one L2 table and below the size.
  abbrev pub IsFoundInImage : ℕ → MappingKind → ℕ → Type 0
  IsFoundInImage max kind n = IsFoundOf image.file.header.fields (known_in view image.file) (is_some image.backing) offset max (found_kind kind) n

  -- A lookup finds the whole range mapped in this way.
  abbrev pub IsFoundWhole : MappingKind → ℕ → Type 0
  IsFoundWhole kind n = IsFoundInImage n kind n
