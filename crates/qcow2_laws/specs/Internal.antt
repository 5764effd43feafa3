-- Steps that guests cannot see: they change no mapping and no byte of a cluster that guests use, or only those of one cluster.
use Rattle.std.specs.Prelude.{ℕ, ◌+◌, ◌/◌, ◌<◌, ◌≡◌, ◌≢◌, ◌==◌, if◌then◌else◌}
use Rattle.qcow2_metadata.specs.declared.header.HeaderFields.{HeaderFields}
use Rattle.qcow2_metadata.specs.Header.{cluster_size, with_reftable}
use Rattle.qcow2_metadata.specs.Entries.{l1_entry}
use Rattle.qcow2_metadata.specs.Cover.{cover}
use Rattle.qcow2_metadata.specs.Guest.{Value}
use Rattle.qcow2_disk.specs.Disk.{Disk}
use Rattle.qcow2_laws.specs.Guests.{over_guests, names}
use Rattle.qcow2_laws.specs.CrashInvariant.{SameCovers}
use Rattle.qcow2_laws.specs.SafeSteps.{DriverState}

-- References of guest clusters to a host cluster in the known contents, and its uses as new data.
abbrev pub used_by_guests : DriverState → ℕ → ℕ
used_by_guests s c = over_guests s.header (names s.header s.known c) + s.pending.new_data c

-- Each cluster that guests use has the same bytes.
abbrev pub SameUsedBytes : DriverState → DriverState → Type 0
SameUsedBytes old new = (o : ℕ) → 0 < used_by_guests old (o / cluster_size old.header) → new.known o ≡ old.known o

-- Every header field stays the same, except the pointer to the reftable.
abbrev pub KeepsFormat : HeaderFields → HeaderFields → Type 0
KeepsFormat h h' = h' ≡ with_reftable h h'.reftable_offset h'.reftable_clusters

-- Guests cannot see the step: all mappings, the bytes that guests use, and the header except for the pointer to the reftable stay the same.
pub record IsInternal (old new : DriverState) : Type 0 where
  pub header : KeepsFormat old.header new.header
  pub covers : SameCovers old.header old.known new.known
  pub bytes : SameUsedBytes old new

-- The L1 table stays the same.
abbrev pub SameL1Table : DriverState → DriverState → Type 0
SameL1Table old new = (i : ℕ) → l1_entry old.header new.on_storage i ≡ l1_entry old.header old.on_storage i

-- Each cluster that guests use has the same bytes, except cluster c.
abbrev pub SameUsedBytesBut : ℕ → DriverState → DriverState → Type 0
SameUsedBytesBut c old new = (o : ℕ) → o / cluster_size old.header ≢ c → 0 < used_by_guests old (o / cluster_size old.header) → new.known o ≡ old.known o

-- Guests cannot see the step, except in the bytes of cluster c.
pub record IsInternalBut (c : ℕ) (old new : DriverState) : Type 0 where
  pub header : KeepsFormat old.header new.header
  pub covers : SameCovers old.header old.known new.known
  pub bytes : SameUsedBytesBut c old new

-- The mapping of each guest cluster is the same, except one.
abbrev pub SameOtherCovers : ℕ → DriverState → DriverState → Type 0
SameOtherCovers guest old new = (g : ℕ) → g ≢ guest → cover old.header old.known g ≡ cover old.header new.known g

-- The mapping of one guest cluster changes. The header, all other mappings and the bytes that guests use stay the same.
pub record IsMappedAnew (guest : ℕ) (old new : DriverState) : Type 0 where
  pub header : new.header ≡ old.header
  pub covers : SameOtherCovers guest old new
  pub bytes : SameUsedBytes old new

-- The disk with these values in one guest cluster.
abbrev pub with_cluster : ℕ → Disk → ℕ → (ℕ → Value) → Disk
with_cluster size d guest values = record d { value = λ o. if o / size == guest then values o else d.value o }
