-- Why a call that allocates is refused, whatever is prepared, from the refusals of its parts.
use Rattle.std.proofs.Common.{◌≡◌, inl, inr, Result, Ok, Err, IfErr}
use Rattle.qcow2_image.proofs.Common.{ImageError, MayFailLooking, MayFailAllocating}
use Rattle.qcow2_alloc.specs.declared.error.ImageError.TheVariants as I
use Rattle.qcow2_image.proofs.Prepare.FailingRanges.{alone_as}

-- the causes follow from those of a part
pub taking_as : {H K C D H' K' C' D' : Type 0} → (H → H') → (K → K') → (C → C') → (D → D') → (e : ImageError) → MayFailAllocating H K C D e → MayFailAllocating H' K' C' D' e
taking_as held kept compressed far e may_fail = elim may_fail [
  | inl alone ↦ inl (alone_as compressed far e alone)
  | inr other ↦ elim other [ inl used ↦ inr (inl (used.0, held used.1)) | inr table ↦ inr (inr (table.0, kept table.1)) ]
]

-- why a table is kept is stated separately
pub taking_kept : {H K C D K' C' D' : Type 0} → (C → C') → (D → D') → (e : ImageError) → (e ≡ I.TablePrepared → K') → MayFailAllocating H K C D e → MayFailAllocating H K' C' D' e
taking_kept compressed far e kept may_fail = elim may_fail [
  | inl alone ↦ inl (alone_as compressed far e alone)
  | inr other ↦ elim other [ inl used ↦ inr (inl used) | inr table ↦ inr (inr (table.0, kept table.0)) ]
]

-- a refused result, of which two things are known
pub if_err_both : {A : Type 0} {P Q R : ImageError → Type 0} → ((e : ImageError) → P e → Q e → R e) → (r : Result A ImageError) → IfErr r P → IfErr r Q → IfErr r R
if_err_both to (Ok x) p q = tt
if_err_both to (Err e) p q = to e p q

-- a lookup is part of it
pub looking_taking : {H : Type 0} (K C D : Type 0) (e : ImageError) → MayFailLooking H e → MayFailAllocating H K C D e
looking_taking K C D e may_fail = elim may_fail [ inl fault ↦ inl (inl (inl fault)) | inr used ↦ inr (inl used) ]
