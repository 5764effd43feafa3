-- Which clusters a write of data may change, and what it gives.
use Rattle.std.specs.Prelude.{ℕ, ◌+◌, ◌*◌, ◌/◌, ◌%◌, ◌<◌, ◌≡◌, ◌⊎◌, List}
use Rattle.qcow2_metadata.specs.Bytes.{Bytes}
use Rattle.qcow2_metadata.specs.declared.header.HeaderFields.{HeaderFields}
use Rattle.qcow2_metadata.specs.Header.{cluster_size}
use Rattle.qcow2_metadata.specs.Guest.{known_byte}
use Rattle.qcow2_metadata.specs.Named.{named_for_tables}
use Rattle.qcow2_disk.specs.Stops.{GivenBytes, IsGiven}
use Rattle.qcow2_laws.specs.Guests.{marks, named_in_either}
use Rattle.qcow2_laws.specs.CrashInvariant.{SameIn}

-- The cluster holds no table, and no entry names it, on the storage or in the known contents.
pub record IsUnnamed (h : HeaderFields) (on_storage known : Bytes) (c : ℕ) : Type 0 where
  pub no_table : named_for_tables h on_storage c ≡ 0
  pub no_entry : named_in_either h on_storage known c ≡ 0

-- The known entry of a guest cluster is marked copied for the cluster, and each byte that changes is given at its guest offset.
pub record IsInPlace (h : HeaderFields) (on_storage known on_storage' known' : Bytes) (given : List GivenBytes) (c : ℕ) : Type 0 where
  pub guest : ℕ
  pub marked : 0 < marks h known c guest
  pub gives : (o : ℕ) → o / cluster_size h ≡ c → ((on_storage o ≡ on_storage' o) × (known o ≡ known' o)) ⊎ IsGiven given (guest * cluster_size h + o % cluster_size h) (known_byte (known' o))

-- What a write of data may do in a cluster: nothing; anything, if nothing names it; or write in place what is given.
abbrev pub MayChange : HeaderFields → Bytes → Bytes → Bytes → Bytes → List GivenBytes → ℕ → Type 0
MayChange h on_storage known on_storage' known' given c =
    (SameIn (cluster_size h) c on_storage on_storage' × SameIn (cluster_size h) c known known') ⊎ (IsUnnamed h on_storage known c ⊎ IsInPlace h on_storage known on_storage' known' given c)

-- The same bytes are written to the storage and to the known contents.
pub record IsWritten (h : HeaderFields) (on_storage known on_storage' known' : Bytes) (given : List GivenBytes) : Type 0 where
  pub agree : (o : ℕ) → on_storage o ≡ known o → on_storage' o ≡ known' o
  pub each : (c : ℕ) → MayChange h on_storage known on_storage' known' given c
