-- The error of a lower layer becomes a refusal of tables.
use Rattle.qcow2_alloc.proofs.Common.{IsOfStorageOrMemory, StorageError, MetadataError, of_storage, of_metadata, IsOfTablesIf}
use Rattle.image_access.specs.declared.error.StorageError.TheVariants as S
use Rattle.qcow2_metadata.specs.declared.error.MetadataError.TheVariants as M

pub storage_of_tables : (unaligned : Type 0) (e : StorageError) → IsOfTablesIf unaligned (of_storage e)
storage_of_tables unaligned S.Fault = tt
storage_of_tables unaligned S.Memory = tt

pub stored_of_tables : (unaligned : Type 0) (e : MetadataError) → IsOfStorageOrMemory e → IsOfTablesIf unaligned (of_metadata e)
stored_of_tables unaligned (M.Storage e) among = storage_of_tables unaligned e
stored_of_tables unaligned M.Memory among = tt
stored_of_tables unaligned M.Version among = absurd among
stored_of_tables unaligned M.Unaligned among = absurd among
stored_of_tables unaligned M.Limit among = absurd among
stored_of_tables unaligned M.Format among = absurd among
