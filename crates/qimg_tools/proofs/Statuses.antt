-- What the status for a report says.
use Rattle.std.proofs.Common.{◌≡◌, ◌↔◌, ◌≤◌, ℕ, List, [], ◌∷◌, refl, sym, ◌∙◌, subst, arith}
use Rattle.std.specs.Prelude.{Result, Ok, Err, IfOk, IfErr, ◌⊎◌}
use Rattle.std.proofs.Common.{inl, inr}
use Rattle.image_access.specs.declared.error.StorageError.TheVariants as S
use Rattle.qcow2_metadata.specs.Bytes.{Bytes}
use Rattle.qcow2_metadata.specs.Consistent.{IsConsistent}
use Rattle.qcow2_metadata.specs.Header.{header}
use Rattle.qcow2_metadata.specs.declared.error.MetadataError.TheVariants as M
use Rattle.qcow2_check.specs.Report.{leak_lines}
use Rattle.qcow2_check.specs.declared.report.Breach.{Breach}
use Rattle.qcow2_check.specs.declared.report.Leak.{Leak}
use Rattle.qimg_tools.specs.Statuses.{status_of, IsCovered, IsOfWork, IsReasonForNoStatus, IsStatusOf, IsStatusOfErrors}
use Rattle.qimg_tools.specs.declared.failures.Failure.{Failure}
use Rattle.qimg_tools.specs.declared.failures.Failure.TheVariants.{Refused, Unprinted}

says : (image : Bytes) (breaches : List Breach) (leaks : List Leak) → ((breaches ≡ []) ↔ IsConsistent image) → leaks ≡ leak_lines (header image) image → IsStatusOf image (status_of breaches leaks)
says image [] [] is leaked = record { clean = λ e covered. (is.0 refl, sym leaked); broken = λ e. absurd cc; leaking = λ e. absurd cc }
says image [] (leak ∷ leaks) is leaked = record {
  clean = λ e covered. absurd cc;
  broken = λ e. absurd cc;
  leaking = λ e. (is.0 refl, λ none. let told : (leak ∷ leaks) ≡ [] = leaked ∙ none in absurd cc);
}
says image (breach ∷ breaches) leaks is leaked = record {
  clean = λ e covered. absurd cc;
  broken = λ e. λ consistent. let told : (breach ∷ breaches) ≡ [] = is.1 consistent in absurd cc;
  leaking = λ e. absurd cc;
}

pub status_says : (image : Bytes) (breaches : List Breach) (leaks : List Leak) (status : ℕ) → ((breaches ≡ []) ↔ IsConsistent image) → leaks ≡ leak_lines (header image) image → status ≡ status_of breaches leaks → IsStatusOf image status
status_says image breaches leaks status is leaked e = subst (IsStatusOf image) (sym e) (says image breaches leaks is leaked)

no_three : (n : ℕ) → (n ≡ 0) ⊎ (n ≡ 2) → n ≡ 3 → ⊥
no_three n (inl none) e = omega (arith, none, e)
no_three n (inr two) e = omega (arith, two, e)

-- the status of an image that a report doesn't cover
pub partly_says : {E : Type 0} (image : Bytes) (breaches : List Breach) (r : Result ℕ E) → ((breaches ≡ []) ↔ IsConsistent image) → ¬ IsCovered (header image) → IfOk r (IsStatusOfErrors breaches) → IfOk r (IsStatusOf image)
partly_says image breaches (Ok status) is uncovered of = record {
  clean = λ e covered. absurd (uncovered covered);
  broken = λ e. λ consistent. of.broken e (is.1 consistent);
  leaking = λ e. absurd (no_three status of.some e);
}
partly_says image breaches (Err cause) is uncovered of = tt

at_most : (n : ℕ) → (n ≡ 0) ⊎ (n ≡ 2) → n ≤ 3
at_most n (inl none) = omega (arith, none)
at_most n (inr two) = omega (arith, two)

reason : (image : Bytes) (failure : Failure) → IsOfWork failure → IsReasonForNoStatus image failure
reason image (Refused e) (inl storage) = (M.Storage S.Fault, storage, tt)
reason image (Refused e) (inr memory) = (M.Memory, memory, tt)
reason image (Unprinted cause) is = tt

-- what the work meets is a reason for no status
pub partly_fails : (image : Bytes) (r : Result ℕ Failure) → IfErr r IsOfWork → IfErr r (IsReasonForNoStatus image)
partly_fails image (Ok status) is = tt
partly_fails image (Err failure) is = reason image failure is

-- so is what printing meets
pub work_fails : {A : Type 0} (image : Bytes) (r : Result A Failure) (failure : Failure) → r ≡ Err failure → IfErr r IsOfWork → IsReasonForNoStatus image failure
work_fails {A} image r failure is work = let P : Result A Failure → Type 0 = λ it. IfErr it IsOfWork in reason image failure (subst P is work)
