-- When to accept an untrusted image.
use Rattle.std.specs.Prelude.{ℕ, ◌≡◌, ◌≤◌, ◌↔◌, ◌&&◌, ◌==◌, not, Bool, IsTrue, None, length}
use Rattle.qcow2_metadata.specs.Bytes.{Bytes}
use Rattle.qcow2_metadata.specs.Consistent.{IsConsistent}
use Rattle.qcow2_metadata.specs.Header.{header, backing_name}
use Rattle.qcow2_metadata.specs.declared.error.MetadataError.{MetadataError}
use Rattle.qcow2_check.specs.Report.{IsReasonNotToCheck, breach_lines, leak_lines}
use Rattle.qcow2_alloc.specs.ImageError.{of_metadata}
use Rattle.qcow2_alloc.specs.declared.error.ImageError.{ImageError}
use Rattle.program_parts.specs.declared.vetting.Vetted.{Vetted}

-- The image is consistent, needs no other file and no key, has no snapshots, and its disk has at most `max` bytes.
pub record MayBeTakenIn (max : ℕ) (image : Bytes) : Type 0 where
  pub consistent : IsConsistent image
  pub no_backing_file : backing_name (header image) image ≡ None
  pub no_data_file : (header image).incompatible ≡ 0
  pub no_snapshots : (header image).snapshots ≡ 0
  pub not_encrypted : (header image).crypt_method ≡ 0
  pub small : (header image).size ≤ max

-- The result speaks for accepting the image.
abbrev pub passes : Vetted → Bool
passes found = (length found.report.breaches.items == 0) && (not found.has_backing_file && not found.is_too_large)

-- The result for the image in these bytes: its breaches, its size, and that it passes exactly if it may be accepted.
pub record IsVetted (image : Bytes) (max : ℕ) (found : Vetted) : Type 0 where
  pub breaches : found.report.breaches.items ≡ breach_lines (header image) image
  pub leaks : found.report.leaks ≡ leak_lines (header image) image
  pub size : found.size ≡ (header image).size
  pub passing : IsTrue (passes found) ↔ MayBeTakenIn max image

-- Why there is no result: the reasons for which there is no report.
abbrev pub IsReasonNotToVet : Bytes → ImageError → Type 0
IsReasonNotToVet image e = (reason : MetadataError) × (e ≡ of_metadata reason) × IsReasonNotToCheck (header image) image reason
