-- An image that was opened for reading, and whose cached tables are unmodified, is never written, whatever it contains.
use Rattle.std.proofs.Common.{◌≡◌, ◌∷◌, inl, inr, List, [], false, IsTrue, sym, ap, ◌∙◌, subst, Option}
use Rattle.qcow2_session.proofs.Common.{cases_Bool, BackingView, StorageView, view_in, Qcow2, Prepared, is_failed, is_writable, ReleasesOneMapping, ContentsStayThroughout, HoldsNothingModified, ReadsQuietly, reads_none, reads_same, reads_aside, written_then, AreExisting, IsLeftQuietly, AreReportedAlong, RunPoint, Command, Reply}
use Rattle.qcow2_alloc.specs.ImageStorage.{storage_of}
use Rattle.qcow2_image.proofs.Map.Unmodified.{quiet_still}

module _ {S F : Type 0} (view : S → StorageView) where
  -- the image is the same one
  pub quiet_image : (old new : Qcow2 S F) → new ≡ old → ReadsQuietly view old new
  quiet_image old new same = reads_same view old new (ap (λ (image : Qcow2 S F). image.file) same)

  -- nothing was written, and no table was modified
  pub quiet_silent : (old new : Qcow2 S F) → (HoldsNothingModified old → HoldsNothingModified new) → ((view_in view old.file).is_honest → ContentsStayThroughout (view_in view old.file) (view_in view new.file)) → ReadsQuietly view old new
  quiet_silent old new unmodified silent = record {
    tables = unmodified;
    quiet = λ all honest. let same = silent honest in quiet_still (view_in view old.file) (view_in view new.file) (same.1.honest honest) same.1 (same.0 honest);
  }

  -- a mapping was let go
  pub quiet_release : (old new : Qcow2 S F) → ReleasesOneMapping view old new → ReadsQuietly view old new
  quiet_release old new gone = reads_aside view old new (ap (λ (image : Qcow2 S F). storage_of image.file.storage) gone.rest) gone.written

  -- an existing mapping is committed; a failed image stays as it is
  pub quiet_commit : {X Y : Type 0} (old new : Qcow2 S F) → (IsTrue (is_failed old) → X × (new ≡ old)) → (is_failed old ≡ false → Y × ReleasesOneMapping view old new) → ReadsQuietly view old new
  quiet_commit old new failed existing = elim (cases_Bool (is_failed old)) [
    | inl fails ↦ quiet_image old new (failed fails).1
    | inr works ↦ quiet_release old new (existing works).1
  ]

  -- a command that left the image
  pub quiet_left : (old new : Qcow2 S F) (out : List (Option Prepared)) → new ≡ old → is_writable old ≡ false → AreExisting out → IsLeftQuietly view old new out
  quiet_left old new out same reading existing = record { reading = ap is_writable same ∙ reading; quiet = quiet_image old new same; existing = existing }

  -- commands, one after another
  module _ (backing : F → BackingView) where
    pub along_quietly : (first : RunPoint S F) (commands : List Command) (replies : List Reply) (points : List (RunPoint S F)) (last : RunPoint S F)
        → AreReportedAlong view backing first commands replies points last → is_writable first.image ≡ false → AreExisting first.prepared → ReadsQuietly view first.image last.image
    along_quietly first [] [] [] last along reading existing = subst (λ (p : RunPoint S F). ReadsQuietly view first.image p.image) (sym along) (reads_none view first.image)
    along_quietly first (command ∷ commands) (reply ∷ replies) (next ∷ points) last along reading existing =
        let left = along.0.quiet reading existing in
        written_then view left.quiet (along_quietly next commands replies points last along.1 left.reading left.existing)
    along_quietly first [] [] (next ∷ points) last along reading existing = absurd along
    along_quietly first [] (reply ∷ replies) points last along reading existing = absurd along
    along_quietly first (command ∷ commands) [] points last along reading existing = absurd along
    along_quietly first (command ∷ commands) (reply ∷ replies) [] last along reading existing = absurd along
