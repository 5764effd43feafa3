-- Refusals of tables and of lower layers are among the refusals that come during the work of a call.
use Rattle.std.proofs.Common.{◌≡◌, inl, inr, refl, sym, subst, Option, Some}
use Rattle.std.specs.Prelude.{IsSomeAnd}
use Rattle.qcow2_alloc.specs.Allocation.{HasUnaligned}
use Rattle.qcow2_image.proofs.Common.{AreCausesOf, Causes, causes_if, IsSpecial, MayFailUncopied, Allocator, IsFault, IsOfTablesIf, MayFailIf, MayFailOn, Qcow2, StorageError, MetadataError, ImageError, IsOfLengthOrMemory, IsOfPrepared, of_storage, of_metadata, IsFaultOr, IsFaultOrLimit, IsOfReftableLoad, IsOfTables, MappingKind, MayFail, MayFailCopying, MayFailReading, MayFailToInvalidate, MayFailToRead, MayFailWriting}
use Rattle.image_access.specs.declared.error.StorageError.TheVariants as S
use Rattle.qcow2_metadata.specs.declared.error.MetadataError.TheVariants as M
use Rattle.qcow2_alloc.specs.declared.error.ImageError.TheVariants as I

pub tables_read : (e : ImageError) → IsOfTables e → MayFailToRead e
tables_read I.UnalignedTable h = tt
tables_read I.InUse h = tt
tables_read I.Limit h = tt
tables_read I.Memory h = tt
tables_read I.Storage h = tt
tables_read e h = absurd h

pub read_met : (e : ImageError) → MayFailToRead e → MayFail e
read_met I.UnalignedTable h = tt
read_met I.Compressed h = tt
read_met I.InUse h = tt
read_met I.Limit h = tt
read_met I.Memory h = tt
read_met I.Storage h = tt
read_met e h = absurd h

pub tables_met : (causes : Causes) (e : ImageError) → IsOfTablesIf causes.unaligned e → MayFailIf causes e
tables_met causes I.UnalignedTable h = h
tables_met causes I.InUse h = tt
tables_met causes I.Limit h = tt
tables_met causes I.Memory h = tt
tables_met causes I.Storage h = tt
tables_met causes e h = absurd h

-- with other causes
pub met_if : {P Q : Causes} (more : AreCausesOf P Q) (e : ImageError) → MayFailIf P e → MayFailIf Q e
met_if more I.UnalignedTable h = more.unaligned h
met_if more I.Compressed h = more.compressed h
met_if more I.InUse h = tt
met_if more I.Limit h = tt
met_if more I.Memory h = tt
met_if more I.Storage h = tt
met_if more I.Metadata h = tt
met_if more I.Overflow h = tt
met_if more e h = absurd h

pub met_any : {S F : Type 0} (image : Qcow2 S F) (e : ImageError) → MayFailOn image e → MayFail e
met_any image e met = met_if (record { unaligned = λ _. tt; compressed = λ _. tt }) e met

-- with another cause of 7, or without one
pub met_with : {S F : Type 0} (image : Qcow2 S F) {P Q : Type 0} → (P → Q) → (e : ImageError) → MayFailIf (causes_if image P) e → MayFailIf (causes_if image Q) e
met_with image more e met = met_if (record { unaligned = λ off. off; compressed = more }) e met

pub uncopied_met : {S F : Type 0} (image : Qcow2 S F) (P : Type 0) (e : ImageError) → MayFailUncopied image e → MayFailIf (causes_if image P) e
uncopied_met image P e met = met_with image {P = ⊥} {Q = P} (λ bad. absurd bad) e met

-- of the allocator
pub allocator_met : {S F : Type 0} (image : Qcow2 S F) (allocator : Allocator) → image.allocator ≡ Some allocator → (e : ImageError) → IsOfTablesIf (HasUnaligned image.file.header.fields allocator.reftable) e → MayFailOn image e
allocator_met image allocator is e tables =
    met_if {P = record { unaligned = HasUnaligned image.file.header.fields allocator.reftable; compressed = ⊥ }}
    (record { unaligned = λ off. inl (subst (λ (a : Option Allocator). IsSomeAnd a (λ x. HasUnaligned image.file.header.fields x.reftable)) (sym is) off); compressed = λ bad. absurd bad }) e (tables_met _ e tables)

pub reftable_met : (e : ImageError) → IsOfReftableLoad e → MayFail e
reftable_met e (inl is) = subst MayFail (sym is) tt
reftable_met e (inr tables) = tables_met _ e tables

-- ---- clusters that are freed, and caches that are flushed
pub fault_met : (causes : Causes) (e : ImageError) → IsFault e → MayFailIf causes e
fault_met causes e (inl storage) = subst (MayFailIf causes) (sym storage) tt
fault_met causes e (inr memory) = subst (MayFailIf causes) (sym memory) tt

pub freeing_met : (causes : Causes) (e : ImageError) → IsFaultOrLimit e → MayFailIf causes e
freeing_met causes e (inl fault) = fault_met causes e fault
freeing_met causes e (inr limit) = subst (MayFailIf causes) (sym limit) tt

pub freeing_read : (e : ImageError) → IsFaultOrLimit e → MayFailToRead e
freeing_read e (inl (inl storage)) = subst MayFailToRead (sym storage) tt
freeing_read e (inl (inr memory)) = subst MayFailToRead (sym memory) tt
freeing_read e (inr limit) = subst MayFailToRead (sym limit) tt

pub storage_or_limit : (e : StorageError) → IsFaultOrLimit (of_storage e)
storage_or_limit S.Fault = inl (inl refl)
storage_or_limit S.Memory = inl (inr refl)

pub fault_or_limit : (P : Type 0) (e : ImageError) → IsFaultOr P e → IsFaultOrLimit e
fault_or_limit P e (inl fault) = inl fault
fault_or_limit P e (inr limit) = inr limit.0

-- ---- bytes that are read, copied or written
pub reading_copied : {S F : Type 0} (new : Qcow2 S F) (kind : MappingKind) (e : ImageError) → MayFailReading kind e → MayFailCopying new kind e
reading_copied new kind e (inl fault) = inl (fault_met _ e fault)
reading_copied new kind e (inr (inl special)) = inl (subst (MayFailIf (causes_if new (IsSpecial kind))) (sym special.0) special.1)
reading_copied new kind e (inr (inr past)) = inr past

pub writing_met : (causes : Causes) (e : ImageError) → MayFailWriting e → MayFailIf causes e
writing_met causes e (inl fault) = fault_met causes e fault
writing_met causes e (inr metadata) = subst (MayFailIf causes) (sym metadata) tt

-- ---- errors of the storage
pub storage_read : (e : StorageError) → MayFailToRead (of_storage e)
storage_read S.Fault = tt
storage_read S.Memory = tt

pub storage_met : (causes : Causes) (e : StorageError) → MayFailIf causes (of_storage e)
storage_met causes S.Fault = tt
storage_met causes S.Memory = tt

-- ---- errors of tables
pub memory_met : (causes : Causes) (e : MetadataError) → e ≡ M.Memory → MayFailIf causes (of_metadata e)
memory_met causes e is = subst (λ (x : MetadataError). MayFailIf causes (of_metadata x)) (sym is) tt

pub length_met : (causes : Causes) (IsTooLong : Type 0) (e : MetadataError) → IsOfLengthOrMemory IsTooLong e → MayFailIf causes (of_metadata e)
length_met causes IsTooLong M.Memory h = tt
length_met causes IsTooLong M.Limit h = tt
length_met causes IsTooLong e h = absurd h

pub header_anew : (e : MetadataError) → MayFailToInvalidate (of_metadata e)
header_anew (M.Storage e) = inl (storage_met _ e)
header_anew M.Version = inr (inl refl)
header_anew e = inl tt

pub prepared_anew : (e : ImageError) → IsOfPrepared e → MayFailToInvalidate e
prepared_anew e (inl used) = inr (inr used)
prepared_anew e (inr memory) = inl (subst MayFail (sym memory) tt)
