-- What a prepare returns, in terms of the known contents before it.
use Rattle.qcow2_image.specs.ImageInvariant.{Mappings}
use Rattle.std.specs.Prelude.{ℕ, ◌+◌, ◌-◌, ◌*◌, ◌/◌, ◌%◌, ◌<◌, ◌≤◌, ◌≡◌, ◌↔◌, ◌⊎◌, true, false, List, slice_get, Option, Some, None, IsNone, IsSome, IsTrue}
use Rattle.qcow2_metadata.specs.Bytes.{Bytes}
use Rattle.qcow2_metadata.specs.Header.{cluster_size}
use Rattle.qcow2_metadata.specs.Cover.{cover}
use Rattle.qcow2_metadata.specs.Entries.{count}
use Rattle.qcow2_metadata.specs.Named.{named}
use Rattle.qcow2_metadata.specs.declared.header.HeaderFields.{HeaderFields}
use Rattle.qcow2_metadata.specs.declared.l2_mapping.L2Mapping.TheVariants.{Zero}
use Rattle.qcow2_disk.specs.Alike.{IsDataAt, AreDataAt}
use Rattle.qcow2_disk.specs.Mappings.{PreparedMapping, IsPrivateIn}
use Rattle.qcow2_image.specs.declared.prepared.Prepared.{Prepared}
use Rattle.qcow2_disk.specs.Found.{rest_of_table}
use Rattle.qcow2_image.specs.Found.{l1_index_of}
use Rattle.qcow2_image.specs.Ranges.{BeginsInKept, EndsAt}
use Rattle.qcow2_image.specs.Prepared.{length_of, offset_of, table_of}

-- An existing mapping of no bytes, at offset 0.
abbrev pub IsOfNothing : Prepared → Type 0
IsOfNothing p = IsNone (table_of p) × (offset_of p ≡ 0) × (length_of p ≡ 0)

-- A host cluster with refcount 1 that nothing in the known contents refers to.
abbrev pub IsHeldAlone : HeaderFields → Bytes → ℕ → Type 0
IsHeldAlone h known host = (count h known host ≡ 1) × (named h known host ≡ 0)

-- A host cluster that the zero entry of a guest cluster keeps.
abbrev pub IsKeptBy : HeaderFields → Bytes → ℕ → ℕ → Type 0
IsKeptBy h known guest host = cover h known guest ≡ Zero (Some (host * cluster_size h, true))

module _ (h : HeaderFields) (known : Bytes) (offset : ℕ) where
  -- The n bytes may be written in place: they are copied data, contiguous in the file, within one L2 table.
  abbrev pub IsWritableAt : ℕ → ℕ → Type 0
  IsWritableAt n place = (n ≤ rest_of_table h offset) × AreDataAt h known true offset place n

  -- The mapping p that was prepared for n bytes, with the meaning m. It is existing exactly if all n bytes may be written in place, and then covers exactly these.
  -- Otherwise it covers at least the rest of the first cluster, and as much of the range after it as can be contiguous in the file within one L2 table. If it is shorter than the range, there is a cause.
  -- If the zero entry of the first guest cluster keeps a host cluster, the mapping begins there.
  -- Copied data are in place, and are still copied data at the return. All other bytes are private, at the same offset in their cluster: a host cluster that only the mapping holds, or that the zero entry keeps.
  pub record IsAnswered (n : ℕ) (h' : HeaderFields) (now : Bytes) (p : Prepared) (m : PreparedMapping) : Type 0 where
    pub existing : IsNone (table_of p) ↔ ((place : ℕ) × IsWritableAt n place)
    pub whole : IsNone (table_of p) → length_of p ≡ n
    pub first : IsSome (table_of p) → cluster_size h - offset % cluster_size h ≤ length_of p
    pub most : IsSome (table_of p) → n < length_of p → length_of p ≡ cluster_size h - offset % cluster_size h
    pub within : length_of p ≤ rest_of_table h offset
    pub short : length_of p < n → EndsAt h' now (offset + length_of p) (offset_of p + length_of p)
    pub kept : BeginsInKept h offset (cover h known (offset / cluster_size h)) p
    pub private : IsPrivateIn h known m
    pub in_place : (i : ℕ) → i < length_of p → m.is_private (offset + i) ≡ false → IsDataAt h known true (offset + i) (offset_of p + i)
    pub stays : (i : ℕ) → i < length_of p → m.is_private (offset + i) ≡ false → IsDataAt h' now true (offset + i) (offset_of p + i)
    pub own : (i : ℕ) → i < length_of p → IsTrue (m.is_private (offset + i))
        → ((offset_of p + i) % cluster_size h ≡ (offset + i) % cluster_size h) × (IsHeldAlone h' now ((offset_of p + i) / cluster_size h) ⊎ IsKeptBy h known ((offset + i) / cluster_size h) ((offset_of p + i) / cluster_size h))

  -- Why a prepare may be refused 9: another mapping is pinned in the same L2 table, and not all of the range may be written in place.
  pub record IsTaken (n : ℕ) (out : Mappings) : Type 0 where
    pub place : ℕ
    pub other : Prepared
    pub is_out : slice_get out.slots place ≡ Some (Some other)
    pub keeps_table : IsSome (table_of other)
    pub same_table : l1_index_of h other.guest ≡ l1_index_of h offset
    pub never : (host : ℕ) → ¬ IsWritableAt n host

  -- ---- parts of the work

  -- The host offset where n bytes may be written in place, or none.
  abbrev pub IsPlaceOf : ℕ → Option ℕ → Type 0
  IsPlaceOf n None = (place : ℕ) → ¬ IsWritableAt n place
  IsPlaceOf n (Some place) = IsWritableAt n place
