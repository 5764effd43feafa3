-- Reads one after another.
use Rattle.std.proofs.Common.{arith, ◌≡◌, refl, Result, Ok}
use Rattle.std.specs.Prelude.{Err, IsErrAnd}
use Rattle.qcow2_check.proofs.Common.{MetadataError, OnlyReads}
use Rattle.qcow2_metadata.specs.declared.error.MetadataError.TheVariants.{Memory}
use Rattle.image_access.specs.Moments.{StorageView}

-- whatever value was read
pub reads_another : {T U : Type 0} {x : T} {y : U} (old new : StorageView) → OnlyReads old new (Ok x) → OnlyReads old new (Ok y)
reads_another old new reads = record { honest = reads.honest; same = reads.same; time = reads.time; cause = reads.cause }

-- a read that succeeded, and then others
pub reads_then : {T U : Type 0} {x : T} {two : Result U MetadataError} {old mid new : StorageView} → OnlyReads old mid (Ok x) → OnlyReads mid new two → OnlyReads old new two
reads_then first next = grind (arith, first.cause.told)

-- the refusal is passed on
pub reads_refused : {T U : Type 0} {e : MetadataError} {old new : StorageView} → OnlyReads {T = T} old new (Err e) → OnlyReads {T = U} old new (Err e)
reads_refused reads = record { honest = reads.honest; same = reads.same; time = reads.time; cause = reads.cause }

-- memory runs out after a read
pub reads_short : {T U : Type 0} {x : T} {old new : StorageView} → OnlyReads old new (Ok x) → OnlyReads {T = U} old new (Err Memory)
reads_short reads = record { honest = reads.honest; same = reads.same; time = reads.time; cause = grind arith }

-- what a `?` passes on
pub refused_as : {T E : Type 0} {e : E} (two : Result T E) → IsErrAnd two (λ f. f ≡ e) → two ≡ Err e
refused_as (Ok x) passed = absurd passed
refused_as (Err f) passed = rw passed refl
