-- What `get_mapping` finds: the kind of a guest range, and its length.
use Rattle.std.specs.Prelude.{ℕ, ◌+◌, ◌-◌, ◌*◌, ◌/◌, ◌%◌, ◌≡◌, ◌<◌, ◌≤◌, Bool, true, false, min, if◌then◌else◌}
use Rattle.qcow2_metadata.specs.Bytes.{Bytes}
use Rattle.qcow2_metadata.specs.Header.{header, cluster_size, entries_per_cluster}
use Rattle.qcow2_metadata.specs.Cover.{cover}
use Rattle.qcow2_metadata.specs.declared.header.HeaderFields.{HeaderFields}
use Rattle.qcow2_metadata.specs.declared.l2_mapping.L2Mapping.{L2Mapping}
use Rattle.qcow2_metadata.specs.declared.l2_mapping.L2Mapping.TheVariants.{Data, Zero, Compressed, Uncovered}
use Rattle.qcow2_disk.specs.Alike.{IsAlikeRun, IsLongestRun}

-- The kind of a mapping.
pub data Kind : Type 0 where
  -- Bytes of a file, from a host offset on: of the image's own file or of an external one. They are writable in place if the cluster is marked copied.
  raw : (is_external : Bool) → (offset : ℕ) → (is_writable : Bool) → Kind
  -- Bytes of the backing disk, from an offset on.
  indirect : (offset : ℕ) → Kind
  -- Zeros: explicit for a zero entry, implicit for an unmapped range without a backing disk.
  zeros : (is_explicit : Bool) → Kind
  -- Compressed data at a guest offset.
  special : (offset : ℕ) → Kind
  -- The range begins at or past the size of the disk.
  eof : Kind

-- The kind of a mapping at a guest offset, with a backing disk or without.
abbrev pub kind_at : HeaderFields → Bool → ℕ → L2Mapping → Kind
kind_at h is_backed offset (Data host copied) = raw false (host + offset % cluster_size h) copied
kind_at h is_backed offset (Zero kept) = zeros true
kind_at h is_backed offset (Compressed place sectors) = special offset
kind_at h is_backed offset Uncovered = if is_backed then indirect offset else zeros false

-- How many bytes the L2 table of an offset covers from there on.
abbrev pub rest_of_table : HeaderFields → ℕ → ℕ
rest_of_table h offset = cluster_size h * entries_per_cluster h - offset % (cluster_size h * entries_per_cluster h)

module _ (h : HeaderFields) (known : Bytes) (is_backed : Bool) (offset : ℕ) where
  -- The n bytes from `offset` on have this kind, and are mapped alike.
  pub record IsMapped (kind : Kind) (n : ℕ) : Type 0 where
    pub kind_is : kind ≡ kind_at h is_backed offset (cover h known (offset / cluster_size h))
    pub alike : IsAlikeRun h known offset n

  -- The longest run of bytes, up to a limit, that are mapped alike: its kind and its length.
  pub record IsLongestOf (limit : ℕ) (kind : Kind) (n : ℕ) : Type 0 where
    pub kind_is : kind ≡ kind_at h is_backed offset (cover h known (offset / cluster_size h))
    pub longest : IsLongestRun h known offset limit n

  -- What a lookup of at most `max` bytes finds: `eof` and length 0 at or past the size; otherwise the longest run within one L2 table and below the size.
  pub record IsFound (max : ℕ) (kind : Kind) (n : ℕ) : Type 0 where
    pub past : h.size ≤ offset → (kind ≡ eof) × (n ≡ 0)
    pub run : offset < h.size → IsLongestOf (min (min max (h.size - offset)) (rest_of_table h offset)) kind n

-- The mapping is compressed data.
abbrev pub IsCompressed : L2Mapping → Type 0
IsCompressed (Compressed place sectors) = Unit {0}
IsCompressed mapping = ⊥

-- The offset lies in a compressed guest cluster, also past the size.
abbrev pub IsCompressedAt : Bytes → ℕ → Type 0
IsCompressedAt known offset = IsCompressed (cover (header known) known (offset / cluster_size (header known)))

-- What a lookup finds in these bytes, with their own header.
abbrev pub IsFoundIn : Bytes → Bool → ℕ → ℕ → Kind → ℕ → Type 0
IsFoundIn known is_backed offset max kind n = IsFound (header known) known is_backed offset max kind n
