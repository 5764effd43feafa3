-- The part of the header's cluster that an open image never changes. The header extensions and the names lie in this part.
use Rattle.std.specs.Prelude.{ℕ, ◌≡◌, ◌<◌, ◌≤◌, ◌⊎◌}
use Rattle.qcow2_metadata.specs.Bytes.{Bytes}
use Rattle.qcow2_metadata.specs.declared.header.HeaderFields.{HeaderFields}
use Rattle.qcow2_metadata.specs.Header.{header, cluster_size}

-- Offset o is outside of the fields that an open image may write: the size, the pointers to the L1 table and the reftable, and in version 3 the autoclear bits.
abbrev pub IsOfHeaderRest : HeaderFields → ℕ → Type 0
IsOfHeaderRest h o = (o < 24) ⊎ (((32 ≤ o) × (o < 36)) ⊎ ((60 ≤ o) × ((o < 88) ⊎ ((96 ≤ o) ⊎ (h.version ≡ 2)))))

-- All bytes outside of these fields are the same.
pub record KeepsHeaderRest (old new : Bytes) : Type 0 where
  pub version : (header new).version ≡ (header old).version
  pub bytes : (o : ℕ) → o < cluster_size (header old) → IsOfHeaderRest (header old) o → new o ≡ old o
  pub cluster_size : cluster_size (header new) ≡ cluster_size (header old)
