-- A raw disk that was made from an image.
use Rattle.qcow2_image.specs.ImageInvariant.{in_image}
use Rattle.std.proofs.Common.{◌≡◌, ⊎_elim, inl, ℕ, List, [], refl, sym, ap, ◌∙◌, subst, Result, Ok, Err, IfOk, false}
use Rattle.program_parts.proofs.Common.{is_some, BackingView, StorageView, IsLeftBy, passes_if, byte_at, IsConsistent, IsOpened, guest_of, CallEffect, disk, KeepsHeaderRest, StopOkEverywhere, checkpoint_at, LeavesKept, IsQuiet, ImageError, Qcow2, storage_of_image, abstract_of, header_rest_same, whole, IsRawOf, Exports, IsUnchanged, IsExport, KeepsDisk, disk_alone, zeros_below}
use Rattle.qcow2_image.specs.Opened.{OpensAtOnce}
use Rattle.qcow2_image.proofs.Map.Unmodified.{quiet_still}
use Rattle.program_parts.proofs.Imported.{none_below, of_ok}

-- contents that are consistent keep their disk
pub keeps_itself : (storage : StorageView) (contents : List ℕ) → IsConsistent (byte_at storage.contents) → contents ≡ storage.contents
    → StopOkEverywhere zeros_below (checkpoint_at (disk_alone (byte_at storage.contents)) (byte_at storage.contents)) (byte_at contents)
keeps_itself storage contents consistent same =
    subst (λ c. StopOkEverywhere zeros_below (checkpoint_at (disk_alone (byte_at storage.contents)) (byte_at storage.contents)) (byte_at c)) (sym same)
    (record { consistent = consistent; rest = header_rest_same (byte_at storage.contents); size = inl refl; values = λ o. inl refl })

-- what is so of a raw disk that was copied is so once it was flushed
pub once_flushed : (P : ℕ → List ℕ → Type 0) (before now : List ℕ) (copied told : Result ℕ ImageError) → now ≡ before → IfOk told (λ n. copied ≡ Ok n)
    → IfOk copied (λ n. P n before) → IfOk told (λ n. P n now)
once_flushed P before now copied (Ok n) same is h = subst (P n) (sym same) (of_ok (λ m. P m before) copied n is h)
once_flushed P before now copied (Err e) same is h = tt

module _ {S F : Type 0} (view : S → StorageView) (backing : F → BackingView) (storage : StorageView) (old new : Qcow2 S F)
    (opened : IsOpened (abstract_of view backing old (in_image []))) (alone : is_some old.backing ≡ false) (same : (view (storage_of_image old)).contents ≡ storage.contents) where
  -- the disk of the image is that of the contents
  pub disk_is : (guest_of (abstract_of view backing old (in_image []))).disk ≡ disk_alone (byte_at storage.contents)
  disk_is = ap (λ b. disk b (abstract_of view backing old (in_image [])).setting.backing) (opened.clean ∙ ap byte_at same) ∙ ap (disk (byte_at storage.contents)) (none_below view backing old.backing alone)

  pub has_export : (raw : List ℕ) (n : ℕ) → Exports view backing old raw n → IsExport storage.contents n raw
  has_export raw n exports = let done = exports (in_image []) opened.sound in record { count = done.0; is_disk = subst (λ d. IsRawOf d raw) disk_is done.1 }

  keeps : CallEffect (abstract_of view backing old (in_image [])) (abstract_of view backing new (in_image [])) [] [] → KeepsDisk storage (view (storage_of_image new))
  keeps acts =
      let v = abstract_of view backing old (in_image []) in
      let here : IsConsistent v.known = (whole view backing old (in_image []) opened.sound).consistent in
      let b = byte_at storage.contents in
      let is : v.known ≡ b = opened.clean ∙ ap byte_at same in
      let start : StopOkEverywhere v.setting.backing (checkpoint_at (guest_of v).disk b) v.known = record { consistent = here; rest = subst (KeepsHeaderRest b) (sym is) (header_rest_same b); size = inl refl; values = λ o. inl refl } in
      let stops = (acts.works opened.sound).stops (checkpoint_at (guest_of v).disk b) (subst (StopOkEverywhere v.setting.backing (checkpoint_at (guest_of v).disk b)) opened.clean start, start) in
      subst (λ d. LeavesKept zeros_below (checkpoint_at d b) (view (storage_of_image new))) disk_is
      (subst (λ below. LeavesKept below (checkpoint_at (guest_of v).disk b) (view (storage_of_image new))) (none_below view backing old.backing alone) stops.contents)

  pub keeps_disk : (result : Result ℕ ImageError) → IsUnchanged view backing old new result → KeepsDisk storage (view (storage_of_image new))
  keeps_disk (Ok n) unchanged = keeps (unchanged (in_image [])).acts
  keeps_disk (Err e) unchanged = keeps (unchanged (in_image [])).acts

-- so nothing was written to it
pub opened_quietly : (old new : StorageView) → new.is_honest → OpensAtOnce false old new → new.contents ≡ old.contents → IsQuiet old new
opened_quietly old new honest time same = quiet_still old new honest (passes_if (IsLeftBy old) (λ c is. ⊎_elim (λ (e : c ≡ old.contents). e) (λ (e : c ≡ old.contents). e) is) time) same
