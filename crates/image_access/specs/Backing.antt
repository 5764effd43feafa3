-- The view of a backing disk in contracts, and what a read of it does.
use Rattle.std.specs.Prelude.{◌≡◌, ℕ, List, Result}
use Rattle.image_access.specs.Moments.{HasCause}
use Rattle.image_access.specs.declared.error.StorageError.{StorageError}

-- The view of a backing disk.
pub record BackingView : Type 1 where
  -- The bytes. Past their end all are zero.
  pub bytes : List ℕ
  -- How often the disk has failed. The counter stops at the greatest u64.
  pub faults : ℕ
  -- The disk returns its bytes, and nobody changes them. Clauses about bytes hold only for honest disks.
  pub is_honest : Type 0

-- What every read does: an honest disk stays honest, its bytes stay the same, and a fault is counted.
pub record Stays {T : Type 0} (old new : BackingView) (result : Result T StorageError) : Type 0 where
  pub honest : old.is_honest → new.is_honest
  pub bytes : old.is_honest → new.bytes ≡ old.bytes
  pub cause : HasCause old.faults new.faults result
