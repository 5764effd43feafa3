-- Contiguous guest data, and runs of guest clusters that are mapped alike.
use Rattle.std.specs.Prelude.{ℕ, ◌+◌, ◌-◌, ◌*◌, ◌/◌, ◌%◌, ◌<◌, ◌≤◌, ◌≡◌, ⊤, Bool}
use Rattle.qcow2_metadata.specs.Bytes.{Bytes}
use Rattle.qcow2_metadata.specs.declared.header.HeaderFields.{HeaderFields}
use Rattle.qcow2_metadata.specs.Header.{cluster_size}
use Rattle.qcow2_metadata.specs.Cover.{cover}
use Rattle.qcow2_metadata.specs.declared.l2_mapping.L2Mapping.{L2Mapping}
use Rattle.qcow2_metadata.specs.declared.l2_mapping.L2Mapping.TheVariants.{Data, Zero, Compressed, Uncovered}

-- Guest byte o is data at this host offset, in a cluster that is marked copied or not.
abbrev pub IsDataAt : HeaderFields → Bytes → Bool → ℕ → ℕ → Type 0
IsDataAt h b copied o place = (host : ℕ) × (cover h b (o / cluster_size h) ≡ Data host copied) × (host + o % cluster_size h ≡ place)

-- The n guest bytes from `offset` on are data, contiguous in the file from `place` on.
abbrev pub AreDataAt : HeaderFields → Bytes → Bool → ℕ → ℕ → ℕ → Type 0
AreDataAt h b copied offset place n = (i : ℕ) → i < n → IsDataAt h b copied (offset + i) (place + i)

-- Two mappings of the same kind, the second of a guest cluster `distance` bytes after the first. Data must also lie `distance` bytes later in the file, with the same copied mark.
abbrev pub IsAlike : ℕ → L2Mapping → L2Mapping → Type 0
IsAlike distance (Data host copied) (Data next marked) = (next ≡ host + distance) × (marked ≡ copied)
IsAlike distance (Zero kept) (Zero next) = ⊤
IsAlike distance (Compressed host sectors) (Compressed next more) = ⊤
IsAlike distance Uncovered Uncovered = ⊤
IsAlike distance first next = ⊥

-- The guest cluster of byte offset + i is mapped like the guest cluster of byte offset.
abbrev pub IsAlikeAt : HeaderFields → Bytes → ℕ → ℕ → Type 0
IsAlikeAt h b offset i =
    IsAlike (((offset + i) / cluster_size h - offset / cluster_size h) * cluster_size h) (cover h b (offset / cluster_size h)) (cover h b ((offset + i) / cluster_size h))

-- The n guest bytes from `offset` on are mapped alike.
abbrev pub IsAlikeRun : HeaderFields → Bytes → ℕ → ℕ → Type 0
IsAlikeRun h b offset n = (i : ℕ) → i < n → IsAlikeAt h b offset i

-- A run of n bytes that are mapped alike, and that cannot be longer: it reaches the limit, or the next byte is mapped otherwise.
pub record IsLongestRun (h : HeaderFields) (b : Bytes) (offset limit n : ℕ) : Type 0 where
  pub within : n ≤ limit
  pub alike : IsAlikeRun h b offset n
  pub longest : n < limit → IsAlikeAt h b offset n → ⊥
