-- Tables of 8-byte entries, as bytes from a cluster boundary on.
use Rattle.std.specs.Prelude.{◌≡◌, ◌≢◌, ℕ, ◌*◌, ◌^◌, ◌<◌, ◌≤◌, List, length, Option, Some, None}
use Rattle.qcow2_metadata.specs.Bytes.{byte_at}
use Rattle.qcow2_metadata.specs.Entries.{l2_entry}
use Rattle.qcow2_metadata.specs.declared.error.MetadataError.{MetadataError}
use Rattle.qcow2_metadata.specs.declared.error.MetadataError.TheVariants.{Storage, Memory, Version, Unaligned, Limit, Format}

-- Entry i of a table with these bytes, 0 past its end.
abbrev pub entry_at : List ℕ → ℕ → ℕ
entry_at bytes i = l2_entry (byte_at bytes) 0 i

-- Entry i changes to `entry`, and all others stay the same.
pub record ChangesEntry (old new : List ℕ) (i entry : ℕ) : Type 0 where
  pub entry_is : entry_at new i ≡ entry
  pub others : (j : ℕ) → j ≢ i → entry_at new j ≡ entry_at old j
  pub as_long : length new ≡ length old

-- The offset of the cluster fits into 64 bits.
abbrev pub HasPlace : ℕ → ℕ → Type 0
HasPlace cluster_bits cluster = cluster * 2 ^ cluster_bits < 2 ^ 64

-- If the table has a place, its offset fits into 64 bits.
abbrev pub IsPlaced : ℕ → Option ℕ → Type 0
IsPlaced cluster_bits None = Unit {0}
IsPlaced cluster_bits (Some cluster) = HasPlace cluster_bits cluster

-- Cluster sizes of the format: 512 bytes to 2 MiB.
abbrev pub IsClusterBits : ℕ → Type 0
IsClusterBits bits = (9 ≤ bits) × (bits ≤ 21)

-- The error is one of the storage, or a failed allocation.
abbrev pub IsOfStorageOrMemory : MetadataError → Type 0
IsOfStorageOrMemory (Storage _) = Unit {0}
IsOfStorageOrMemory Memory = Unit {0}
IsOfStorageOrMemory Version = ⊥
IsOfStorageOrMemory Unaligned = ⊥
IsOfStorageOrMemory Limit = ⊥
IsOfStorageOrMemory Format = ⊥
