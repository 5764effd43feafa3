-- Printing the lines of a list, one after another.
use Rattle.std.proofs.Common.{◌≡◌, ℕ, List, [], Option, subst}
use Rattle.program_parts.proofs.Common.{Appends, Bytes, IsConsistent, header, leak_lines, Breach, text_of_report, IsFoundConsistent}
use Rattle.qcow2_check.specs.declared.report.Leak.{Leak}

-- a report without a breach was told
pub found_consistent : (image : Bytes) (breaches : List Breach) (leaks : List Leak) (old new : Option (List ℕ)) → ((breaches ≡ []) → IsConsistent image) → leaks ≡ leak_lines (header image) image
    → breaches ≡ [] → Appends old new (text_of_report breaches leaks) → IsFoundConsistent image old new
found_consistent image breaches leaks old new is leaked none told = record {
  consistent = is none;
  leaks_are_told = subst (λ l. Appends old new (text_of_report [] l)) leaked (subst (λ b. Appends old new (text_of_report b leaks)) none told);
}
