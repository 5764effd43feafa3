-- Refusals that are not limits.
use Rattle.std.proofs.Common.{◌≡◌, inl, inr, refl, sym, subst}
use Rattle.qcow2_image.proofs.Common.{StorageError, MetadataError, IsOfLengthOrMemory, IsInUseOrFault, IsFault, of_metadata, of_storage, MetadataCaches, ImageError, MayFailLooking, IsUnlimited}
use Rattle.image_access.specs.declared.error.StorageError.TheVariants as S
use Rattle.qcow2_metadata.specs.declared.error.MetadataError.TheVariants as M

pub storage_unlimited : (e : StorageError) → IsUnlimited (of_storage e)
storage_unlimited S.Fault = tt
storage_unlimited S.Memory = tt

pub unaligned_unlimited : (e : MetadataError) → e ≡ M.Unaligned → IsUnlimited (of_metadata e)
unaligned_unlimited e is = subst (λ (x : MetadataError). IsUnlimited (of_metadata x)) (sym is) tt

pub fault_unlimited : (e : ImageError) → IsFault e → IsUnlimited e
fault_unlimited e (inl is) = subst IsUnlimited (sym is) tt
fault_unlimited e (inr is) = subst IsUnlimited (sym is) tt

pub in_use_unlimited : {S : Type 0} (caches : MetadataCaches S) (e : ImageError) → IsInUseOrFault caches e → IsUnlimited e
in_use_unlimited caches e (inl used) = subst IsUnlimited (sym used.0) tt
in_use_unlimited caches e (inr fault) = fault_unlimited e fault

pub looking_unlimited : {Held : Type 0} (e : ImageError) → MayFailLooking Held e → IsUnlimited e
looking_unlimited e (inl fault) = fault_unlimited e fault
looking_unlimited e (inr used) = subst IsUnlimited (sym used.0) tt

-- memory was wanted, where no limit was passed
pub short_fault : (Past : Type 0) → (Past → ⊥) → (e : MetadataError) → IsOfLengthOrMemory Past e → IsFault (of_metadata e)
short_fault Past not M.Memory why = inr refl
short_fault Past not M.Limit why = absurd (not why)
short_fault Past not e why = absurd why

pub short_unlimited : (Past : Type 0) → (Past → ⊥) → (e : MetadataError) → IsOfLengthOrMemory Past e → IsUnlimited (of_metadata e)
short_unlimited Past not M.Memory why = tt
short_unlimited Past not M.Limit why = absurd (not why)
short_unlimited Past not e why = absurd why
