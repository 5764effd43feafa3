-- What the replies to commands, and the results of conversions, say of failures of the storage and of the backing disk.
use Rattle.std.specs.Prelude.{ℕ, ◌≡◌, ◌⊎◌, ◌≤◌, List, [], ◌∷◌, Option, Some, None, IfSome, IsTrue, Result, IfErr}
use Rattle.image_access.specs.Backing.{BackingView}
use Rattle.image_access.specs.Moments.{StorageView, Rose, UnlessErr}
use Rattle.qcow2_alloc.specs.declared.error.ImageError.{ImageError}
use Rattle.qcow2_alloc.specs.declared.error.ImageError.TheVariants.{Storage}
use Rattle.qcow2_image.specs.declared.image.Qcow2.{Qcow2}
use Rattle.qcow2_image.specs.Image.{is_failed}
use Rattle.qcow2_image.specs.Faults.{NoFewerFaults, OneRose, SameFaults, ReportsEachIn, ReportsFault}
use Rattle.qcow2_session.specs.Marks.{MarksConversion}
use Rattle.qcow2_session.specs.declared.session.Reply.{Reply}
use Rattle.qcow2_session.specs.declared.session.Reply.TheVariants as R

-- The refusal in a reply, if there is one.
abbrev pub refusal_in : Reply → Option ImageError
refusal_in (R.Refused e) = Some e
refusal_in (R.WriteRefused e n) = Some e
refusal_in reply = None

module _ {S F : Type 0} (view : S → StorageView) (backing : F → BackingView) where
  -- Neither number of faults falls in a command. If it is refused with an I/O error, one of the two rose, or is the greatest u64. Otherwise both stay the same: every fault is reported.
  pub record CommandCounts (old new : Qcow2 S F) (reply : Reply) : Type 0 where
    pub no_fewer : NoFewerFaults view backing old new
    pub rose : IfSome (refusal_in reply) (ReportsFault view backing old new)
    pub told : ReportsEachIn view backing old new (refusal_in reply)

  -- Each command of a run counts its faults, from the image that the command before it left. After the last one both numbers stay the same.
  abbrev pub RunCounts : Qcow2 S F → Qcow2 S F → List Reply → Type 0
  RunCounts old new [] = SameFaults view backing old new
  RunCounts old new (reply ∷ replies) = (mid : Qcow2 S F) × CommandCounts old mid reply × RunCounts mid new replies

  -- ---- conversions, with the faults of a raw disk

  -- A conversion is refused with an I/O error only if one of the image's two storages failed, which fails the image, or if the raw disk failed.
  abbrev pub ReportsConversion : (old new : Qcow2 S F) (before now : ℕ) → ImageError → Type 0
  ReportsConversion old new before now e = e ≡ Storage → (OneRose view backing old new × IsTrue (is_failed new)) ⊎ Rose before now

  -- None of the numbers of faults falls in a conversion. If it is refused with an I/O error, one of the three rose, or is the greatest u64. Otherwise all three stay the same. `MarksConversion` says when the image fails.
  pub record ConversionCounts {T : Type 0} (old new : Qcow2 S F) (before now : ℕ) (result : Result T ImageError) : Type 0 where
    pub no_fewer : NoFewerFaults view backing old new
    pub raw : before ≤ now
    pub rose : IfErr result (ReportsConversion old new before now)
    pub told : UnlessErr result Storage (SameFaults view backing old new × (now ≡ before))
    pub marks : MarksConversion view old new result
