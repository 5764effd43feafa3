-- Steps of the driver: the invariant holds again, and a stop is as safe as before, with what the step gives and asks for.
use Rattle.std.specs.Prelude.{ℕ, List}
use Rattle.qcow2_metadata.specs.Bytes.{Bytes}
use Rattle.qcow2_metadata.specs.declared.header.HeaderFields.{HeaderFields}
use Rattle.qcow2_disk.specs.Stops.{GivenBytes, Checkpoint, checkpoint_with, StopOkEverywhere}
use Rattle.qcow2_laws.specs.Clusters.{Direction}
use Rattle.qcow2_laws.specs.CrashInvariant.{Pending, CrashInvariant}

-- The state of the driver: the fields of the header, the direction, what is pending, the bytes on the storage, and the known contents.
pub record DriverState : Type 0 where
  pub header : HeaderFields
  pub direction : Direction
  pub pending : Pending
  pub on_storage : Bytes
  pub known : Bytes

-- The crash invariant of a state.
abbrev pub StateInvariant : DriverState → Type 0
StateInvariant s = CrashInvariant s.header s.direction s.pending s.on_storage s.known

-- One step, which gives these values over each backing disk, and asks for these sizes. It keeps the crash invariant, and leaves a stop as safe as before.
pub record SafeStep (old new : DriverState) (given : Bytes → List GivenBytes) (asked : List ℕ) : Type 0 where
  pub sound : StateInvariant new
  pub on_storage : (backing : Bytes) (m : Checkpoint) → StopOkEverywhere backing m old.on_storage → StopOkEverywhere backing m old.known → StopOkEverywhere backing (checkpoint_with (given backing) asked m) new.on_storage
  pub known : (backing : Bytes) (m : Checkpoint) → StopOkEverywhere backing m old.on_storage → StopOkEverywhere backing m old.known → StopOkEverywhere backing (checkpoint_with (given backing) asked m) new.known
