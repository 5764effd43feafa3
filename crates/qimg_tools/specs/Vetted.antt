-- The exit status of vetting an image.
use Rattle.std.specs.Prelude.{ℕ, ◌≡◌, ◌↔◌}
use Rattle.qcow2_metadata.specs.Bytes.{Bytes}
use Rattle.program_parts.specs.Vetting.{IsReasonNotToVet, MayBeTakenIn}
use Rattle.qimg_tools.specs.declared.failures.Failure.{Failure}
use Rattle.qimg_tools.specs.declared.failures.Failure.TheVariants.{Refused, Unprinted}

-- What a status says of the image in these bytes, whose disk may have `max` bytes.
pub record IsVerdictOn (max : ℕ) (image : Bytes) (status : ℕ) : Type 0 where
  pub passes : (status ≡ 0) ↔ MayBeTakenIn max image
  pub fails : ¬ MayBeTakenIn max image → status ≡ 2

-- Why there is no verdict: a number, with its cause; or that the result couldn't be printed.
abbrev pub IsReasonForNoVerdict : Bytes → Failure → Type 0
IsReasonForNoVerdict image (Refused e) = IsReasonNotToVet image e
IsReasonForNoVerdict image (Unprinted cause) = Unit {0}
