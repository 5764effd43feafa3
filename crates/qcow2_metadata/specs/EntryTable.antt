-- The L1 table and the reftable in memory: the bytes of their entries, and the cluster where they begin.
use Rattle.std.specs.Prelude.{◌≡◌, ◌≢◌, ℕ, ◌+◌, ◌*◌, ◌/◌, ◌%◌, ◌^◌, ◌<◌, ◌≤◌, ◌⊎◌, List, length, Option, Some, None, bit_and}
use Rattle.qcow2_metadata.specs.Header.{HeaderFields, reftable_entries}
use Rattle.qcow2_metadata.specs.Bytes.{Bytes}
use Rattle.qcow2_metadata.specs.Entries.{l1_entry, reftable_entry, L1EntryReads, ReftableEntryReads}
use Rattle.qcow2_metadata.specs.TableBytes.{entry_at, IsClusterBits}
use Rattle.qcow2_metadata.specs.declared.error.MetadataError.{MetadataError}
use Rattle.qcow2_metadata.specs.declared.error.MetadataError.TheVariants.{Storage, Memory, Version, Unaligned, Limit, Format}

-- The view of an L1 table or a reftable in memory.
pub record EntryTableView : Type 0 where
  -- The cluster where the table begins, if it has a place.
  pub cluster : Option ℕ
  pub bytes : List ℕ
  pub cluster_bits : ℕ

-- The L1 table or reftable of an image.
abbrev pub entry_table : HeaderFields → Option ℕ → List ℕ → EntryTableView
entry_table h cluster bytes = record { cluster = cluster; bytes = bytes; cluster_bits = h.cluster_bits }

abbrev pub entry_count : EntryTableView → ℕ
entry_count t = length t.bytes / 8

-- The offset n bytes after the start of a cluster fits into 64 bits.
abbrev pub HasRoom : ℕ → ℕ → ℕ → Type 0
HasRoom cluster_bits n cluster = cluster * 2 ^ cluster_bits + n < 2 ^ 64

-- If a table has a place, the offset n bytes after its start fits into 64 bits.
abbrev pub HasRoomIfPlaced : ℕ → ℕ → Option ℕ → Type 0
HasRoomIfPlaced cluster_bits n None = Unit {0}
HasRoomIfPlaced cluster_bits n (Some cluster) = HasRoom cluster_bits n cluster

-- The table has whole entries, at most `greatest` of them, and its offset fits into 64 bits.
pub record IsEntryTable (greatest : ℕ) (t : EntryTableView) : Type 0 where
  pub bits : IsClusterBits t.cluster_bits
  pub whole : length t.bytes % 8 ≡ 0
  pub few : entry_count t ≤ greatest
  pub placed : HasRoomIfPlaced t.cluster_bits 0 t.cluster

-- Every entry of these bytes is readable.
abbrev pub EachReads : (ℕ → Type 0) → List ℕ → Type 0
EachReads Reads bytes = (i : ℕ) → Reads (entry_at bytes i)

-- Some entry of these bytes is not readable.
abbrev pub SomeUnread : (ℕ → Type 0) → List ℕ → Type 0
SomeUnread Reads bytes = (i : ℕ) × (i < length bytes / 8) × ¬ Reads (entry_at bytes i)

-- No reserved bit of the entry is set.
abbrev pub IsClear : ℕ → ℕ → Type 0
IsClear reserved entry = bit_and entry reserved ≡ 0

pub record IsL1Table (t : EntryTableView) : Type 0 where
  pub table : IsEntryTable 4194304 t
  pub reads : EachReads L1EntryReads t.bytes

-- A reftable. The offset of its end fits into 64 bits.
pub record IsRefTable (t : EntryTableView) : Type 0 where
  pub table : IsEntryTable 1048576 t
  pub room : HasRoomIfPlaced t.cluster_bits (length t.bytes) t.cluster
  pub reads : EachReads ReftableEntryReads t.bytes

-- A table of this kind with so many entries, loaded from the start of a cluster on.
pub record IsLoaded (IsTable : EntryTableView → Type 0) (cluster_bits cluster entries : ℕ) (t : EntryTableView) : Type 0 where
  pub table : t ≡ record { cluster = Some cluster; bytes = t.bytes; cluster_bits = cluster_bits }
  pub length : length t.bytes ≡ 8 * entries
  pub whole : IsTable t

-- The header points to an L1 table at this offset, with this many entries.
abbrev pub NamesL1Table : HeaderFields → ℕ → ℕ → Type 0
NamesL1Table h place entries = (h.l1_offset ≡ place) × (h.l1_entries ≡ entries)

-- The header points to a reftable at this offset, with this many entries.
abbrev pub NamesRefTable : HeaderFields → ℕ → ℕ → Type 0
NamesRefTable h place entries = (h.reftable_offset ≡ place) × (reftable_entries h ≡ entries)

-- The entries are those of the image's L1 table.
abbrev pub IsL1TableOf : HeaderFields → Bytes → EntryTableView → Type 0
IsL1TableOf h b t = (i : ℕ) → entry_at t.bytes i ≡ l1_entry h b i

-- All entries except perhaps one are those of the image's L1 table.
abbrev pub IsL1TableBut : ℕ → HeaderFields → Bytes → EntryTableView → Type 0
IsL1TableBut index h b t = (i : ℕ) → i ≢ index → entry_at t.bytes i ≡ l1_entry h b i

-- The entries are those of the image's reftable.
abbrev pub IsRefTableOf : HeaderFields → Bytes → EntryTableView → Type 0
IsRefTableOf h b t = (i : ℕ) → entry_at t.bytes i ≡ reftable_entry h b i

-- All entries except perhaps one are those of the image's reftable.
abbrev pub IsRefTableBut : ℕ → HeaderFields → Bytes → EntryTableView → Type 0
IsRefTableBut index h b t = (i : ℕ) → i ≢ index → entry_at t.bytes i ≡ reftable_entry h b i

-- There are more entries than `greatest`, or the offset n bytes after the table's start does not fit into 64 bits.
abbrev pub PassesLimit : ℕ → ℕ → ℕ → ℕ → ℕ → Type 0
PassesLimit greatest cluster_bits n cluster entries = (greatest < entries) ⊎ (2 ^ 64 ≤ cluster * 2 ^ cluster_bits + n)

-- The error is a failed allocation, or the table passes a limit.
abbrev pub IsOfLengthOrMemory : Type 0 → MetadataError → Type 0
IsOfLengthOrMemory passes_limit Memory = Unit {0}
IsOfLengthOrMemory passes_limit Limit = passes_limit
IsOfLengthOrMemory passes_limit (Storage _) = ⊥
IsOfLengthOrMemory passes_limit Version = ⊥
IsOfLengthOrMemory passes_limit Unaligned = ⊥
IsOfLengthOrMemory passes_limit Format = ⊥

-- The error has a cause: the storage failed, memory ran out, the table passes a limit, or an entry is not readable.
abbrev pub IsReasonNotToLoad : Type 0 → Type 0 → MetadataError → Type 0
IsReasonNotToLoad passes_limit unread (Storage _) = Unit {0}
IsReasonNotToLoad passes_limit unread Memory = Unit {0}
IsReasonNotToLoad passes_limit unread Limit = passes_limit
IsReasonNotToLoad passes_limit unread Format = unread
IsReasonNotToLoad passes_limit unread Version = ⊥
IsReasonNotToLoad passes_limit unread Unaligned = ⊥
