-- A refblock in memory: the bytes of its refcounts, its cluster, and whether it was modified.
use Rattle.std.specs.Prelude.{◌≡◌, ◌≢◌, ℕ, ◌*◌, ◌/◌, ◌^◌, ◌<◌, ◌≤◌, Bool, List, length, Option}
use Rattle.qcow2_metadata.specs.Bytes.{Bytes, byte_at}
use Rattle.qcow2_metadata.specs.Header.{HeaderFields}
use Rattle.qcow2_metadata.specs.Entries.{block_count}
use Rattle.qcow2_metadata.specs.TableBytes.{IsClusterBits, IsPlaced}

-- The view of a refblock in memory.
pub record RefBlockView : Type 0 where
  -- The cluster of the refblock, if it has one.
  pub cluster : Option ℕ
  pub bytes : List ℕ
  -- The refblock is new, or was changed since it was last read or written.
  pub is_modified : Bool
  pub cluster_bits : ℕ
  pub refcount_order : ℕ

-- Refcount i of a refblock with these bytes, 0 past its end.
abbrev pub count_in : ℕ → List ℕ → ℕ → ℕ
count_in order bytes i = block_count (byte_at bytes) (2 ^ order) 0 i

abbrev pub count_at : RefBlockView → ℕ → ℕ
count_at block i = count_in block.refcount_order block.bytes i

-- The number of refcounts.
abbrev pub counts_of : RefBlockView → ℕ
counts_of block = 2 ^ block.cluster_bits * 8 / 2 ^ block.refcount_order

-- The least number that is too large for a refcount.
abbrev pub count_limit : RefBlockView → ℕ
count_limit block = 2 ^ (2 ^ block.refcount_order)

-- A refblock of an image.
abbrev pub ref_block : HeaderFields → Option ℕ → List ℕ → Bool → RefBlockView
ref_block h cluster bytes is_modified = record {
  cluster = cluster;
  bytes = bytes;
  is_modified = is_modified;
  cluster_bits = h.cluster_bits;
  refcount_order = h.refcount_order;
}

-- The refblock has the size of one cluster.
pub record IsRefBlock (block : RefBlockView) : Type 0 where
  pub whole : length block.bytes ≡ 2 ^ block.cluster_bits
  pub bits : IsClusterBits block.cluster_bits
  pub order : block.refcount_order ≤ 6
  pub placed : IsPlaced block.cluster_bits block.cluster

-- The refcounts are those at an offset of a file.
abbrev pub IsRefBlockAt : Bytes → ℕ → RefBlockView → Type 0
IsRefBlockAt b place block = (i : ℕ) → i < counts_of block → count_at block i ≡ block_count b (2 ^ block.refcount_order) place i

-- Refcount i changes to `count`, and all others stay the same.
pub record ChangesCount (order : ℕ) (old new : List ℕ) (i count : ℕ) : Type 0 where
  pub count_is : count_in order new i ≡ count
  pub others : (j : ℕ) → j ≢ i → count_in order new j ≡ count_in order old j
  pub as_long : length new ≡ length old
