-- What a call that fails with a `MetadataError` did to the storage, in the terms of the storage's own calls.
use Rattle.std.specs.Prelude.{◌≡◌, Result, Ok, Err}
use Rattle.image_access.specs.Moments.{StorageView, HasCause, EachMomentSince, IsLeftBy}
use Rattle.image_access.specs.declared.error.StorageError.{StorageError}
use Rattle.image_access.specs.declared.error.StorageError.TheVariants.{Memory as StorageMemory}
use Rattle.qcow2_metadata.specs.declared.error.MetadataError.{MetadataError}
use Rattle.qcow2_metadata.specs.declared.error.MetadataError.TheVariants.{Storage, Memory, Version, Unaligned, Limit, Format}

-- The storage's part of a result. A refusal because of the bytes that were read is a success of the storage.
abbrev pub storage_result : {T : Type 0} → Result T MetadataError → Result (Unit {0}) StorageError
storage_result (Ok _) = Ok tt
storage_result (Err (Storage e)) = Err e
storage_result (Err Memory) = Err StorageMemory
storage_result (Err Version) = Ok tt
storage_result (Err Unaligned) = Ok tt
storage_result (Err Limit) = Ok tt
storage_result (Err Format) = Ok tt

-- The call only reads, once or several times: the contents stay the same at every moment.
pub record OnlyReads {T : Type 0} (old new : StorageView) (result : Result T MetadataError) : Type 0 where
  pub honest : old.is_honest → new.is_honest
  pub same : old.is_honest → new.contents ≡ old.contents
  pub time : old.is_honest → EachMomentSince old new (IsLeftBy old)
  pub cause : HasCause old.faults new.faults (storage_result result)
