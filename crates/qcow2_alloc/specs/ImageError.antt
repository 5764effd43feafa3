-- The refusals: their numbers, their kinds, and the refusal for each error of a lower layer.
use Rattle.std.specs.Prelude.{ℕ, ◌≡◌, ◌⊎◌}
use Rattle.std.specs.declared.io.ErrorKind.{ErrorKind}
use Rattle.std.specs.declared.io.ErrorKind.TheVariants as Kind
use Rattle.image_access.specs.declared.error.StorageError.{StorageError}
use Rattle.image_access.specs.declared.error.StorageError.TheVariants as S
use Rattle.qcow2_metadata.specs.declared.error.MetadataError.{MetadataError}
use Rattle.qcow2_metadata.specs.declared.error.MetadataError.TheVariants as M
use Rattle.qcow2_alloc.specs.declared.async_lru_cache.error.CacheError.{CacheError}
use Rattle.qcow2_alloc.specs.declared.async_lru_cache.error.CacheError.TheVariants as C
use Rattle.qcow2_alloc.specs.declared.error.ImageError.{ImageError}
use Rattle.qcow2_alloc.specs.declared.error.ImageError.TheVariants as I

abbrev pub error_number_of : ImageError → ℕ
error_number_of I.ReadOnly = 1
error_number_of I.BeyondSize = 2
error_number_of I.Version = 3
error_number_of I.UnalignedTable = 4
error_number_of I.InvalidOption = 5
error_number_of I.Preallocation = 6
error_number_of I.Compressed = 7
error_number_of I.InUse = 8
error_number_of I.TablePrepared = 9
error_number_of I.OutdatedMapping = 10
error_number_of I.ForeignState = 11
error_number_of I.Dependency = 12
error_number_of I.Limit = 13
error_number_of I.Memory = 14
error_number_of I.Storage = 15
error_number_of I.Failed = 16
error_number_of I.MappingPrepared = 17
error_number_of (I.NotCompressed offset) = 18
error_number_of I.Metadata = 19
error_number_of I.Overflow = 20
error_number_of (I.StillInUse tables) = 21

abbrev pub error_kind_of : ImageError → ErrorKind
error_kind_of I.ReadOnly = Kind.Other
error_kind_of I.BeyondSize = Kind.UnexpectedEof
error_kind_of I.Version = Kind.Unsupported
error_kind_of I.UnalignedTable = Kind.InvalidData
error_kind_of I.InvalidOption = Kind.InvalidInput
error_kind_of I.Preallocation = Kind.Unsupported
error_kind_of I.Compressed = Kind.Unsupported
error_kind_of I.InUse = Kind.Other
error_kind_of I.TablePrepared = Kind.Other
error_kind_of I.OutdatedMapping = Kind.Other
error_kind_of I.ForeignState = Kind.InvalidInput
error_kind_of I.Dependency = Kind.Other
error_kind_of I.Limit = Kind.Other
error_kind_of I.Memory = Kind.OutOfMemory
error_kind_of I.Storage = Kind.Other
error_kind_of I.Failed = Kind.Other
error_kind_of I.MappingPrepared = Kind.Other
error_kind_of (I.NotCompressed offset) = Kind.Other
error_kind_of I.Metadata = Kind.InvalidData
error_kind_of I.Overflow = Kind.InvalidInput
error_kind_of (I.StillInUse tables) = Kind.Other

abbrev pub of_storage : StorageError → ImageError
of_storage S.Fault = I.Storage
of_storage S.Memory = I.Memory

abbrev pub of_metadata : MetadataError → ImageError
of_metadata (M.Storage e) = of_storage e
of_metadata M.Memory = I.Memory
of_metadata M.Version = I.Version
of_metadata M.Unaligned = I.UnalignedTable
of_metadata M.Limit = I.Limit
of_metadata M.Format = I.Metadata

-- The refusal for an error of a cache, whose keys are clusters.
abbrev pub of_cache : CacheError ℕ MetadataError → ImageError
of_cache C.InUse = I.InUse
of_cache (C.StillInUse tables) = I.StillInUse tables
of_cache C.Memory = I.Memory
of_cache (C.Backend e) = of_metadata e

-- A fault: an I/O error or a failed allocation of memory.
abbrev pub IsFault : ImageError → Type 0
IsFault e = (e ≡ I.Storage) ⊎ (e ≡ I.Memory)

-- The refusal is a fault, or a limit (13) with this cause.
abbrev pub IsFaultOr : Type 0 → ImageError → Type 0
IsFaultOr Cause e = IsFault e ⊎ ((e ≡ I.Limit) × Cause)

-- The refusal is a fault or a limit.
abbrev pub IsFaultOrLimit : ImageError → Type 0
IsFaultOrLimit e = IsFault e ⊎ (e ≡ I.Limit)

-- The refusals of loading, changing and writing tables, and of allocating clusters: 4, if this holds, and 8, 13, 14 and 15.
abbrev pub IsOfTablesIf : Type 0 → ImageError → Type 0
IsOfTablesIf unaligned I.ReadOnly = ⊥
IsOfTablesIf unaligned I.BeyondSize = ⊥
IsOfTablesIf unaligned I.Version = ⊥
IsOfTablesIf unaligned I.UnalignedTable = unaligned
IsOfTablesIf unaligned I.InvalidOption = ⊥
IsOfTablesIf unaligned I.Preallocation = ⊥
IsOfTablesIf unaligned I.Compressed = ⊥
IsOfTablesIf unaligned I.InUse = Unit {0}
IsOfTablesIf unaligned I.TablePrepared = ⊥
IsOfTablesIf unaligned I.OutdatedMapping = ⊥
IsOfTablesIf unaligned I.ForeignState = ⊥
IsOfTablesIf unaligned I.Dependency = ⊥
IsOfTablesIf unaligned I.Limit = Unit {0}
IsOfTablesIf unaligned I.Memory = Unit {0}
IsOfTablesIf unaligned I.Storage = Unit {0}
IsOfTablesIf unaligned I.Failed = ⊥
IsOfTablesIf unaligned I.MappingPrepared = ⊥
IsOfTablesIf unaligned (I.NotCompressed offset) = ⊥
IsOfTablesIf unaligned I.Metadata = ⊥
IsOfTablesIf unaligned I.Overflow = ⊥
IsOfTablesIf unaligned (I.StillInUse tables) = ⊥

-- The same, with 4 for any cause.
abbrev pub IsOfTables : ImageError → Type 0
IsOfTables = IsOfTablesIf (Unit {0})

-- The refusals of loading the reftable: also 19, for an entry that is not readable.
abbrev pub IsOfReftableLoad : ImageError → Type 0
IsOfReftableLoad e = (e ≡ I.Metadata) ⊎ IsOfTables e
