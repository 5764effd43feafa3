-- What the status of a comparison says.
use Rattle.std.proofs.Common.{◌≡◌, ℕ, sym, ◌∙◌, subst, arith}
use Rattle.std.specs.Prelude.{Result, Ok, Err, IfOk}
use Rattle.image_access.specs.Moments.{StorageView}
use Rattle.image_access.specs.declared.storage.Format.{Format}
use Rattle.program_parts.specs.Disks.{IsComparisonIn, IsComparisonOf, disk_held}
use Rattle.program_parts.specs.declared.comparing.Comparison.{Comparison}
use Rattle.program_parts.specs.declared.comparing.Comparison.TheVariants as C
use Rattle.qimg_tools.specs.Compared.{IsStatusOfComparison, SaysOfDisks, status_of_comparison}

says : (f : Format) (v : StorageView) (g : Format) (w : StorageView) (found : Comparison) → IsComparisonOf (disk_held f v) (disk_held g w) found → SaysOfDisks f v g w (status_of_comparison found)
says f v g w C.Same is = record { same = λ e. is; differ = λ e. absurd cc; bound = omega arith }
says f v g w C.OtherSize is = record { same = λ e. absurd cc; differ = λ e. λ same. is same.size; bound = omega arith }
says f v g w (C.DiffersAt at) is = record {
  same = λ e. absurd cc;
  differ = λ e. λ same. let byte = same.bytes at is.within in is.differs (byte.1 ∙ sym byte.2);
  bound = omega arith;
}

pub told : {E : Type 0} (f : Format) (v : StorageView) (g : Format) (w : StorageView) (found : Comparison) (r : Result ℕ E) → IsComparisonIn f v g w found
    → IfOk r (λ status. status ≡ status_of_comparison found) → IfOk r (IsStatusOfComparison f v g w)
told f v g w found (Ok status) is e = λ honest other holds other_holds. subst (SaysOfDisks f v g w) (sym e) (says f v g w found (is honest other holds other_holds))
told f v g w found (Err cause) is e = tt
