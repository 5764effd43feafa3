-- What a stop may leave while an image is made from a raw disk.
use Rattle.qcow2_image.specs.ImageInvariant.{in_image}
use Rattle.std.proofs.Common.{◌≡◌, ◌^◌, ◌∷◌, inl, inr, ⊎_elim, ℕ, List, [], refl, sym, ap, ◌∙◌, subst, Result, Ok, Err}
use Rattle.program_parts.proofs.Common.{BackingView, StorageView, EachMomentSince, passes_if, passes_on, Bytes, byte_at, IsConsistent, header, count_width, AbstractImage, IsOpened, stored_bytes, CallEffect, disk, disk_with, GivenBytes, StopOkEverywhere, checkpoint_at, checkpoint_with, LeavesKept, KeepsHeaderRest, header_rest_same, ImageError, Qcow2, storage_of_image, abstract_of, Imports, ImportsAny, IsNewDisk, IsStopOfCreating, new_disk_consistent, IsImageOfSize, IsStopOfMaking}
use Rattle.image_access.specs.declared.storage.PreallocateMode.{PreallocateMode}
use Rattle.image_access.specs.declared.storage.PreallocateMode.TheVariants as Mode
use Rattle.qcow2_disk.specs.Mappings.{given_of}
use Rattle.qcow2_disk.proofs.HeaderNames.{order_stays}
use Rattle.qcow2_image.specs.Opened.{IsKeptSince}

-- ---- creating
new_disk_size : (mode : PreallocateMode) (n : ℕ) (b : Bytes) → IsNewDisk mode n b → (header b).size ≡ n
new_disk_size Mode.None n b new = new.size
new_disk_size Mode.Zero n b new = new.size
new_disk_size Mode.FormatAllocate n b new = new.size
new_disk_size Mode.FullAllocate n b new = new.size
new_disk_size Mode.WriteData n b new = new.size

pub new_image : (mode : PreallocateMode) (n : ℕ) (b : Bytes) → IsNewDisk mode n b → IsImageOfSize n b
new_image mode n b new = record { consistent = new_disk_consistent mode n b new; size = new_disk_size mode n b new }

pub while_created : (mode : PreallocateMode) (n : ℕ) (old new : StorageView) → EachMomentSince old new (λ c. IsStopOfCreating mode n (byte_at c)) → EachMomentSince old new (λ c. IsStopOfMaking n (byte_at c))
while_created mode n old new = passes_if (λ c. IsStopOfMaking n (byte_at c)) (λ c. ⊎_elim (λ e. inl e) (λ disks. inr (⊎_elim (λ first. inl (new_image mode 0 (byte_at c) first)) (λ last. inr (new_image mode n (byte_at c) last)) disks)))

-- ---- opening, and what gives bytes alone
same_counts : (b c : Bytes) → IsConsistent b → KeepsHeaderRest b c → count_width (header c) ≡ count_width (header b)
same_counts b c consistent rest = ap (λ order. 2 ^ order) (order_stays b c consistent.header_reads rest)

disk_size : (b below : Bytes) → (disk b below).size ≡ (header b).size
unfolding disk_with
disk_size b below = refl

module _ (n : ℕ) (b : Bytes) (image : IsImageOfSize n b) where
  -- what is kept of its disk, whatever is below, keeps its size
  starts : (below : Bytes) → StopOkEverywhere below (checkpoint_at (disk b below) b) b
  starts below = record { consistent = image.consistent; rest = header_rest_same b; size = inl refl; values = λ o. inl refl }

  size_stays : (below : Bytes) (given : List GivenBytes) (c : Bytes) → StopOkEverywhere below (checkpoint_with given [] (checkpoint_at (disk b below) b)) c → IsImageOfSize n c
  size_stays below given c kept = record { consistent = kept.consistent; size = sym (disk_size c below) ∙ ⊎_elim (λ e. e) (λ h. absurd h) kept.size ∙ disk_size b below ∙ image.size }

module _ (n : ℕ) (old new : StorageView) (image : IsImageOfSize n (byte_at old.contents)) (kept : IsKeptSince old new) where
  pub while_opened : EachMomentSince old new (λ c. IsImageOfSize n (byte_at c))
  while_opened = passes_if (λ c. IsImageOfSize n (byte_at c))
      (λ c keeps. size_stays n (byte_at old.contents) image (λ o. 0) [] (byte_at c) (keeps (λ o. 0) (checkpoint_at (disk (byte_at old.contents) (λ o. 0)) (byte_at old.contents)) (starts n (byte_at old.contents) image (λ o. 0)) (starts n (byte_at old.contents) image (λ o. 0)))) kept.moments

  pub once_opened : IsImageOfSize n (byte_at new.contents)
  once_opened = size_stays n (byte_at old.contents) image (λ o. 0) [] (byte_at new.contents)
      (kept.contents (λ o. 0) (checkpoint_at (disk (byte_at old.contents) (λ o. 0)) (byte_at old.contents)) (starts n (byte_at old.contents) image (λ o. 0)) (starts n (byte_at old.contents) image (λ o. 0)))

  -- so do the bits of its counts
  pub counts_opened : count_width (header (byte_at new.contents)) ≡ count_width (header (byte_at old.contents))
  counts_opened = same_counts (byte_at old.contents) (byte_at new.contents) image.consistent
      (kept.contents (λ o. 0) (checkpoint_at (disk (byte_at old.contents) (λ o. 0)) (byte_at old.contents)) (starts n (byte_at old.contents) image (λ o. 0)) (starts n (byte_at old.contents) image (λ o. 0))).rest

module _ (n : ℕ) (v w : AbstractImage) (given : List GivenBytes) (opened : IsOpened v) (acts : CallEffect v w given []) (image : IsImageOfSize n (stored_bytes v)) where
  pub while_filled : EachMomentSince v.storage w.storage (λ c. IsImageOfSize n (byte_at c))
  while_filled =
      let below = v.setting.backing in
      let m = checkpoint_at (disk (stored_bytes v) below) (stored_bytes v) in
      let start : LeavesKept below m v.storage = starts n (stored_bytes v) image below in
      passes_if (λ c. IsImageOfSize n (byte_at c)) (λ c kept. size_stays n (stored_bytes v) image below given (byte_at c) kept)
      ((acts.works opened.sound).stops m (start, subst (StopOkEverywhere below m) (sym opened.clean) start)).moments

  pub once_filled : IsImageOfSize n (stored_bytes w)
  once_filled =
      let below = v.setting.backing in
      let m = checkpoint_at (disk (stored_bytes v) below) (stored_bytes v) in
      let start : LeavesKept below m v.storage = starts n (stored_bytes v) image below in
      size_stays n (stored_bytes v) image below given (stored_bytes w) ((acts.works opened.sound).stops m (start, subst (StopOkEverywhere below m) (sym opened.clean) start)).contents

  pub counts_filled : count_width (header (stored_bytes w)) ≡ count_width (header (stored_bytes v))
  counts_filled =
      let below = v.setting.backing in
      let m = checkpoint_at (disk (stored_bytes v) below) (stored_bytes v) in
      let start : LeavesKept below m v.storage = starts n (stored_bytes v) image below in
      same_counts (stored_bytes v) (stored_bytes w) image.consistent ((acts.works opened.sound).stops m (start, subst (StopOkEverywhere below m) (sym opened.clean) start)).contents.rest

module _ {S F : Type 0} (view : S → StorageView) (backing : F → BackingView) (old new : Qcow2 S F) where
  -- refused or not, it gives these bytes
  imports_acts : (bytes : List ℕ) (result : Result ℕ ImageError) → Imports view backing old new bytes result → CallEffect (abstract_of view backing old (in_image [])) (abstract_of view backing new (in_image [])) (given_of 0 bytes ∷ []) []
  imports_acts bytes (Ok n) imports = (imports (in_image [])).acts
  imports_acts bytes (Err e) imports = (imports (in_image [])).acts

  pub while_imported : (n : ℕ) (result : Result ℕ ImageError) → ImportsAny view backing old new result → IsOpened (abstract_of view backing old (in_image []))
      → IsImageOfSize n (byte_at (view (storage_of_image old)).contents) → EachMomentSince (view (storage_of_image old)) (view (storage_of_image new)) (λ c. IsImageOfSize n (byte_at c))
  while_imported n result any opened image =
      while_filled n (abstract_of view backing old (in_image [])) (abstract_of view backing new (in_image [])) (given_of 0 any.0 ∷ []) opened (imports_acts any.0 result any.2) image

  pub once_imported : (n : ℕ) (result : Result ℕ ImageError) → ImportsAny view backing old new result → IsOpened (abstract_of view backing old (in_image []))
      → IsImageOfSize n (byte_at (view (storage_of_image old)).contents) → IsImageOfSize n (byte_at (view (storage_of_image new)).contents)
  once_imported n result any opened image =
      once_filled n (abstract_of view backing old (in_image [])) (abstract_of view backing new (in_image [])) (given_of 0 any.0 ∷ []) opened (imports_acts any.0 result any.2) image

  pub counts_imported : (n : ℕ) (bytes : List ℕ) (result : Result ℕ ImageError) → Imports view backing old new bytes result → IsOpened (abstract_of view backing old (in_image []))
      → IsImageOfSize n (byte_at (view (storage_of_image old)).contents) → count_width (header (byte_at (view (storage_of_image new)).contents)) ≡ count_width (header (byte_at (view (storage_of_image old)).contents))
  counts_imported n bytes result imports opened image =
      counts_filled n (abstract_of view backing old (in_image [])) (abstract_of view backing new (in_image [])) (given_of 0 bytes ∷ []) opened (imports_acts bytes result imports) image

-- ---- one after the other
module _ (n : ℕ) (start created opened : StorageView) (making : EachMomentSince start created (λ c. IsStopOfMaking n (byte_at c))) where
  pub then_opened : EachMomentSince created opened (λ c. IsImageOfSize n (byte_at c)) → EachMomentSince start opened (λ c. IsStopOfMaking n (byte_at c))
  then_opened opening = passes_on (λ c. IsStopOfMaking n (byte_at c)) making opening (λ c image. inr (inr image))
