-- The exit status of a check.
use Rattle.std.specs.Prelude.{ℕ, ◌≡◌, ◌≢◌, ◌⊎◌, ◌%◌, List, [], ◌∷◌, Option}
use Rattle.std.specs.Io.KnownBytes.{Appends}
use Rattle.qcow2_metadata.specs.Bytes.{Bytes}
use Rattle.qcow2_metadata.specs.Consistent.{IsConsistent}
use Rattle.qcow2_metadata.specs.Header.{header}
use Rattle.qcow2_metadata.specs.declared.header.HeaderFields.{HeaderFields}
use Rattle.qcow2_metadata.specs.declared.error.MetadataError.{MetadataError}
use Rattle.qcow2_alloc.specs.ImageError.{of_metadata, IsFault}
use Rattle.qcow2_check.specs.Report.{IsReasonNotToCheck, breach_lines, leak_lines}
use Rattle.qcow2_check.specs.declared.report.Breach.{Breach}
use Rattle.qcow2_check.specs.declared.report.Leak.{Leak}
use Rattle.program_parts.specs.Reports.{text_of_report}
use Rattle.qimg_tools.specs.declared.failures.Failure.{Failure}
use Rattle.qimg_tools.specs.declared.failures.Failure.TheVariants.{Refused, Unprinted}

-- The status for a report with these breaches and leaks.
abbrev pub status_of : List Breach → List Leak → ℕ
status_of [] [] = 0
status_of [] (leak ∷ leaks) = 3
status_of (breach ∷ breaches) leaks = 2

-- The status is that of a report of the image in these bytes.
abbrev pub IsStatusOfLines : Bytes → ℕ → Type 0
IsStatusOfLines image status = status ≡ status_of (breach_lines (header image) image) (leak_lines (header image) image)

-- The image has no snapshots, no valid bitmaps, and no incompatible feature.
pub record IsCovered (h : HeaderFields) : Type 0 where
  pub no_snapshots : h.snapshots ≡ 0
  pub no_data_file : h.incompatible ≡ 0
  pub no_bitmaps : h.autoclear % 2 ≡ 0

-- What a status says of the image in these bytes.
pub record IsStatusOf (image : Bytes) (status : ℕ) : Type 0 where
  pub clean : status ≡ 0 → IsCovered (header image) → IsConsistent image × (leak_lines (header image) image ≡ [])
  pub broken : status ≡ 2 → ¬ IsConsistent image
  pub leaking : status ≡ 3 → IsConsistent image × ¬ (leak_lines (header image) image ≡ [])

-- The report of the image in these bytes was printed.
abbrev pub IsReported : Bytes → Option (List ℕ) → Option (List ℕ) → Type 0
IsReported image old new = Appends old new (text_of_report (breach_lines (header image) image) (leak_lines (header image) image))

-- Why there is no status: a refusal, with its cause if it has one; or the output failed.
abbrev pub IsReasonForNoStatus : Bytes → Failure → Type 0
IsReasonForNoStatus image (Refused e) = (reason : MetadataError) × (e ≡ of_metadata reason) × IsReasonNotToCheck (header image) image reason
IsReasonForNoStatus image (Unprinted cause) = Unit {0}

-- The status for errors that were chosen among these breaches.
pub record IsStatusOfErrors (breaches : List Breach) (status : ℕ) : Type 0 where
  pub some : (status ≡ 0) ⊎ (status ≡ 2)
  pub broken : status ≡ 2 → breaches ≢ []

-- The failures that may come during the work.
abbrev pub IsOfWork : Failure → Type 0
IsOfWork (Refused e) = IsFault e
IsOfWork (Unprinted cause) = Unit {0}
