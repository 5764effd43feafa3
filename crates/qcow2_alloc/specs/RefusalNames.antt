-- The names of the refusals, as `Display` prints them.
use Rattle.std.specs.Prelude.{ℕ, List, codes}
use Rattle.qcow2_alloc.specs.declared.error.ImageError.{ImageError}
use Rattle.qcow2_alloc.specs.declared.error.ImageError.TheVariants as I

abbrev pub error_name_of : ImageError → List ℕ
error_name_of I.ReadOnly = codes "read-only"
error_name_of I.BeyondSize = codes "beyond size"
error_name_of I.Version = codes "version"
error_name_of I.UnalignedTable = codes "unaligned table"
error_name_of I.InvalidOption = codes "invalid option"
error_name_of I.Preallocation = codes "preallocation"
error_name_of I.Compressed = codes "compressed"
error_name_of I.InUse = codes "everything is in use"
error_name_of I.TablePrepared = codes "table prepared"
error_name_of I.OutdatedMapping = codes "outdated mapping"
error_name_of I.ForeignState = codes "foreign state"
error_name_of I.Dependency = codes "dependency"
error_name_of I.Limit = codes "limit"
error_name_of I.Memory = codes "memory"
error_name_of I.Storage = codes "storage"
error_name_of I.Failed = codes "failed"
error_name_of I.MappingPrepared = codes "mapping prepared"
error_name_of (I.NotCompressed offset) = codes "not compressed"
error_name_of I.Metadata = codes "metadata"
error_name_of I.Overflow = codes "overflow"
error_name_of (I.StillInUse tables) = codes "still in use"
