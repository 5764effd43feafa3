-- An L2 table in memory: the bytes of its entries, its cluster, and whether it was modified.
use Rattle.std.specs.Prelude.{◌≡◌, ℕ, ◌+◌, ◌/◌, ◌%◌, ◌^◌, ◌<◌, ◌≤◌, ◌==◌, IsTrue, Bool, true, List, length, Option, Some, None, if◌then◌else◌}
use Rattle.qcow2_metadata.specs.Header.{HeaderFields, has_data_file}
use Rattle.qcow2_metadata.specs.Bytes.{Bytes}
use Rattle.qcow2_metadata.specs.Entries.{l2_entry}
use Rattle.qcow2_metadata.specs.Cover.{cover_of}
use Rattle.qcow2_metadata.specs.L2Mapping.{greatest_offset}
use Rattle.qcow2_metadata.specs.TableBytes.{entry_at, IsClusterBits, IsPlaced}
use Rattle.qcow2_metadata.specs.declared.l2_mapping.L2Mapping.{L2Mapping}
use Rattle.qcow2_metadata.specs.declared.l2_mapping.L2Mapping.TheVariants.{Data, Zero, Compressed, Uncovered}

pub record L2TableView : Type 0 where
  -- The cluster of the table, if it has one.
  pub cluster : Option ℕ
  pub bytes : List ℕ
  -- The table is new, or was changed since it was last read or written.
  pub is_modified : Bool
  pub cluster_bits : ℕ
  -- Bit 0 of an entry marks zeros (version 3).
  pub has_zero_bit : Bool
  -- The data are in an external file.
  pub data_is_external : Bool

-- The number of entries.
abbrev pub entries_of : L2TableView → ℕ
entries_of table = 2 ^ table.cluster_bits / 8

-- The mapping of entry i.
abbrev pub cover_at : L2TableView → ℕ → L2Mapping
cover_at table i = cover_of table.cluster_bits table.has_zero_bit table.data_is_external (entry_at table.bytes i)

-- An L2 table of an image.
abbrev pub l2_table : HeaderFields → Option ℕ → List ℕ → Bool → L2TableView
l2_table h cluster bytes is_modified = record {
  cluster = cluster;
  bytes = bytes;
  is_modified = is_modified;
  cluster_bits = h.cluster_bits;
  has_zero_bit = h.version == 3;
  data_is_external = has_data_file h;
}

-- The table has the size of one cluster.
pub record IsL2Table (table : L2TableView) : Type 0 where
  pub whole : length table.bytes ≡ 2 ^ table.cluster_bits
  pub bits : IsClusterBits table.cluster_bits
  pub placed : IsPlaced table.cluster_bits table.cluster

-- The entries are those at an offset of a file.
abbrev pub IsL2TableAt : Bytes → ℕ → L2TableView → Type 0
IsL2TableAt b place table = (i : ℕ) → i < entries_of table → entry_at table.bytes i ≡ l2_entry b place i

-- An entry can hold this host offset as one that exists. Offset 0 exists only in an external data file.
pub record IsEntryHost (external : Bool) (host : ℕ) : Type 0 where
  pub near : host ≤ greatest_offset
  pub whole : host % 512 ≡ 0
  pub there : host ≡ 0 → IsTrue external

-- The entry of data at a host offset, marked copied.
abbrev pub copied_entry : ℕ → ℕ
copied_entry host = 2 ^ 63 + host

-- The entry of a zero cluster. It may keep a host cluster, marked copied.
abbrev pub zero_entry : Option ℕ → ℕ
zero_entry None = 1
zero_entry (Some host) = copied_entry host + 1

-- The mapping of a zero cluster.
abbrev pub zero_cover : Option ℕ → L2Mapping
zero_cover None = Zero None
zero_cover (Some host) = Zero (Some (host, true))

abbrev pub copied_kept : Option (ℕ × Bool) → Option ℕ
copied_kept None = None
copied_kept (Some k) = if k.1 then Some k.0 else None

-- The host offset of data or of a zero entry, if it is marked copied.
abbrev pub copied_host : L2Mapping → Option ℕ
copied_host (Data host copied) = if copied then Some host else None
copied_host (Zero kept) = copied_kept kept
copied_host (Compressed place sectors) = None
copied_host Uncovered = None
