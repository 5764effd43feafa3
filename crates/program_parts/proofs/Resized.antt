-- The disk of an image that is resized.
use Rattle.std.proofs.Common.{◌≡◌, ◌⊎◌, ◌+◌, ◌-◌, ◌<◌, ◌≤◌, ◌∷◌, if◌then◌else◌, ⊎_elim, inl, inr, ℕ, List, [], refl, sym, ap, ◌∙◌, subst, arith, true, false, Bool}
use Rattle.program_parts.proofs.Common.{StorageView, EachMomentSince, passes_if, passes_on, Bytes, byte_at, Value, known_byte, IsConsistent, AbstractImage, Setting, IsOpened, CallEffect, Disk, disk, GivenBytes, StopOkEverywhere, checkpoint_at, checkpoint_with, LeavesKept, header_rest_same, BackingView, Qcow2, abstract_of, backing_bytes, disk_with, header, size_of, storage_of_image, whole}
use Rattle.std.specs.Prelude.{nat_le, ◌||◌}
use Rattle.std.proofs.lemmas.Bool.{leb-true}
use Rattle.std.proofs.lemmas.List.{append-nil}
use Rattle.image_access.specs.declared.storage.PreallocateMode.{PreallocateMode}
use Rattle.qcow2_disk.proofs.ForUsers.{laid_inside, laid_outside}
use Rattle.qcow2_disk.specs.Calls.{IsShrunk, given_by_grow, given_by_shrink, given_by_shrunk, grown_to, shows_old}
use Rattle.qcow2_disk.specs.Disk.{grown, zeroed_between}
use Rattle.qcow2_disk.specs.Mappings.{given_shown}
use Rattle.qcow2_disk.specs.Stops.{IsGiven}
use Rattle.qcow2_metadata.specs.Header.{rounded_up}
use Rattle.qcow2_image.proofs.Preallocate.FilledGrowth.{up_least}
use Rattle.qcow2_image.proofs.Images.Sizes.{disk_size}
use Rattle.qcow2_image.specs.ImageInvariant.{disk_of, in_image}
use Rattle.program_parts.specs.Resizing.{IsResizedDisk, IsStopOfResizing}
use Rattle.qcow2_image.specs.declared.mapping.Place.TheVariants.{Image}

-- ---- stops

-- a consistent image of the old size or the new one, with the old bytes below both
pub record IsStop (below : Bytes) (d : Disk) (size : ℕ) (image : Bytes) : Type 0 where
  pub consistent : IsConsistent image
  pub size_is : ((disk image below).size ≡ d.size) ⊎ ((disk image below).size ≡ size)
  pub kept : (o : ℕ) → o < d.size → o < size → (disk image below).value o ≡ d.value o

-- what is given lies behind the smaller end
abbrev pub AreBeyond : Disk → ℕ → List GivenBytes → Type 0
AreBeyond d size gs = (o : ℕ) (x : Value) → IsGiven gs o x → o < d.size → o < size → ⊥

stop_is : (below : Bytes) (d : Disk) (b : Bytes) (gs : List GivenBytes) (size : ℕ) → AreBeyond d size gs → (c : Bytes) → StopOkEverywhere below (checkpoint_with gs (size ∷ []) (checkpoint_at d b)) c → IsStop below d size c
stop_is below d b gs size beyond c kept = record {
  consistent = kept.consistent;
  size_is = ⊎_elim (λ same. inl same) (λ asked. ⊎_elim (λ new. inr new) (λ none. absurd none) asked) kept.size;
  kept = λ o within_old within_new. ⊎_elim (λ same. same) (λ given. absurd (beyond o _ (subst (λ (g : List GivenBytes). IsGiven g o ((disk c below).value o)) (append-nil gs) given) within_old within_new)) (kept.values o);
}

module _ (v mid : AbstractImage) (gs : List GivenBytes) (size : ℕ) (opened : IsOpened v) (consistent : IsConsistent v.known) (beyond : AreBeyond (disk v.known v.setting.backing) size gs) (first : CallEffect v mid gs (size ∷ [])) where
  begins : StopOkEverywhere v.setting.backing (checkpoint_at (disk v.known v.setting.backing) v.known) v.known
  begins = record { consistent = consistent; rest = header_rest_same v.known; size = inl refl; values = λ o. inl refl }

  begins_there : LeavesKept v.setting.backing (checkpoint_at (disk v.known v.setting.backing) v.known) v.storage
  begins_there = subst (StopOkEverywhere v.setting.backing (checkpoint_at (disk v.known v.setting.backing) v.known)) opened.clean begins

  pub stops_first : EachMomentSince v.storage mid.storage (λ c. IsStop v.setting.backing (disk v.known v.setting.backing) size (byte_at c))
  stops_first =
      passes_if (λ c. IsStop v.setting.backing (disk v.known v.setting.backing) size (byte_at c)) (λ c kept. stop_is v.setting.backing (disk v.known v.setting.backing) v.known gs size beyond (byte_at c) kept)
      ((first.works opened.sound).stops (checkpoint_at (disk v.known v.setting.backing) v.known) (begins_there, begins)).moments

  -- and of a call that gives nothing after it
  pub stops_then : (new : AbstractImage) → mid.is_sound → CallEffect mid new [] [] → EachMomentSince v.storage new.storage (λ c. IsStop v.setting.backing (disk v.known v.setting.backing) size (byte_at c))
  stops_then new sound second =
      let m = checkpoint_at (disk v.known v.setting.backing) v.known in
      let m' = checkpoint_with gs (size ∷ []) m in
      let works = first.works opened.sound in
      let f = works.stops m (begins_there, begins) in
      let same : mid.setting.backing ≡ v.setting.backing = ap (λ (x : Setting). x.backing) works.setting in
      let l = (second.works sound).stops m' (subst (λ k. LeavesKept k m' mid.storage) (sym same) f.contents, subst (λ k. StopOkEverywhere k m' mid.known) (sym same) (f.known sound)) in
      passes_on (λ c. IsStop v.setting.backing (disk v.known v.setting.backing) size (byte_at c)) stops_first l.moments
      (λ c kept. stop_is v.setting.backing (disk v.known v.setting.backing) v.known gs size beyond (byte_at c) (subst (λ k. StopOkEverywhere k m' (byte_at c)) same kept))

-- ---- in an image's words

size_in : (b below : Bytes) → (disk b below).size ≡ (header b).size
unfolding disk_with
size_in b below = refl

module _ {S F : Type 0} (view : S → StorageView) (backing : F → BackingView) (old mid : Qcow2 S F) (gs : List GivenBytes) (size : ℕ) (opened : IsOpened (abstract_of view backing old (in_image []))) (beyond : AreBeyond (disk_of view backing Image old) size gs)
    (first : CallEffect (abstract_of view backing old (in_image [])) (abstract_of view backing mid (in_image [])) gs (size ∷ [])) where
  to_stop : (c : Bytes) → IsStop (backing_bytes view backing old.backing) (disk_of view backing Image old) size c → IsStopOfResizing view backing size old c
  to_stop c stop =
      let is : size_of old ≡ (disk_of view backing Image old).size = disk_size view backing old (in_image []) opened.sound in
      record {
        consistent = stop.consistent;
        size_is = ⊎_elim (λ same. inl (sym (size_in c (backing_bytes view backing old.backing)) ∙ same ∙ sym is)) (λ new. inr (sym (size_in c (backing_bytes view backing old.backing)) ∙ new)) stop.size_is;
        kept = λ o within_old within_new. stop.kept o (omega (arith, is, within_old)) within_new;
      }

  pub moments_first : EachMomentSince (view (storage_of_image old)) (view (storage_of_image mid)) (λ c. IsStopOfResizing view backing size old (byte_at c))
  moments_first =
      passes_if (λ c. IsStopOfResizing view backing size old (byte_at c)) (λ c stop. to_stop (byte_at c) stop)
      (stops_first (abstract_of view backing old (in_image [])) (abstract_of view backing mid (in_image [])) gs size opened (whole view backing old (in_image []) opened.sound).consistent beyond first)

  pub moments_then : (new : Qcow2 S F) → (abstract_of view backing mid (in_image [])).is_sound → CallEffect (abstract_of view backing mid (in_image [])) (abstract_of view backing new (in_image [])) [] []
      → EachMomentSince (view (storage_of_image old)) (view (storage_of_image new)) (λ c. IsStopOfResizing view backing size old (byte_at c))
  moments_then new sound second =
      passes_if (λ c. IsStopOfResizing view backing size old (byte_at c)) (λ c stop. to_stop (byte_at c) stop)
      (stops_then (abstract_of view backing old (in_image [])) (abstract_of view backing mid (in_image [])) gs size opened (whole view backing old (in_image []) opened.sound).consistent beyond first (abstract_of view backing new (in_image [])) sound second)

-- ---- what is given

pub beyond_from : (d : Disk) (size : ℕ) (g : GivenBytes) → (size ≤ g.from) ⊎ (d.size ≤ g.from) → AreBeyond d size (g ∷ [])
beyond_from d size g from o x (inl given) within_old within_new = ⊎_elim (λ past. absurd (omega (arith, past, given.0, within_new))) (λ past. absurd (omega (arith, past, given.0, within_old))) from
beyond_from d size g from o x (inr none) within_old within_new = absurd none

beyond_if : (b : Bool) (d : Disk) (size : ℕ) (g : GivenBytes) → d.size ≤ g.from → AreBeyond d size (if b then [] else g ∷ [])
beyond_if true d size g from o x given within_old within_new = given
beyond_if false d size g from o x given within_old within_new = beyond_from d size g (inr from) o x given within_old within_new

module _ (x : Setting) (d : Disk) (size : ℕ) (some : 0 < x.cluster_size) where
  pub beyond_shrink : AreBeyond d size (given_by_shrink x d size ∷ [])
  beyond_shrink = beyond_from d size (given_by_shrink x d size) (inl (up_least x.cluster_size size some))

  pub beyond_shrunk : (answer : ℕ) → AreBeyond d size (given_by_shrunk x d size answer ∷ [])
  beyond_shrunk answer = beyond_from d size (given_by_shrunk x d size answer) (inl (up_least x.cluster_size size some))

  pub beyond_grow : (mode : PreallocateMode) → AreBeyond d size (given_by_grow x d size mode)
  beyond_grow mode = beyond_if (nat_le size d.size || shows_old mode) d size (given_shown (zeroed_between d d.size (rounded_up x.cluster_size size)) d.size (rounded_up x.cluster_size size)) (omega arith)

  -- ---- the disk then

  pub resized_smaller : (mode : PreallocateMode) (answer : ℕ) (e : Disk) → size < d.size → IsShrunk x d size answer e → IsResizedDisk d size mode e
  resized_smaller mode answer e smaller is =
      let same = (is.smaller smaller).1 in
      let reaches = up_least x.cluster_size size some in
      record {
        size_is = ap (λ (k : Disk). k.size) same;
        kept = λ o within_old within_new. ap (λ (k : Disk). k.value o) same ∙ laid_outside _ _ _ d.value o (inl (omega (arith, within_new, reaches)));
        zeros = λ mode_is o past within. absurd (omega (arith, past, within, smaller));
        left = λ o past within. absurd (omega (arith, past, within, smaller));
      }

  grown_is : (mode : PreallocateMode) (b : Bool) → shows_old mode ≡ b → d.size ≤ size → IsResizedDisk d size mode (grown x.cluster_size d size b)
  grown_is mode true shows larger = record {
    size_is = refl;
    kept = λ o within_old within_new. refl;
    zeros = λ none o past within. absurd (let no : true ≡ false = sym shows ∙ none in cc);
    left = λ o past within. inl refl;
  }
  grown_is mode false shows larger =
      let reaches = up_least x.cluster_size size some in
      let zero_at : (o : ℕ) → d.size ≤ o → o < size → (zeroed_between d d.size (rounded_up x.cluster_size size)).value o ≡ known_byte 0 = λ o past within.
      let place : d.size + (o - d.size) ≡ o = omega (arith, past) in
      ap (zeroed_between d d.size (rounded_up x.cluster_size size)).value (sym place) ∙ laid_inside d.size (rounded_up x.cluster_size size - d.size) (λ i. known_byte 0) d.value (o - d.size) (omega (arith, past, within, reaches))
      in
      record {
        size_is = refl;
        kept = λ o within_old within_new. laid_outside _ _ _ d.value o (inl within_old);
        zeros = λ none o past within. zero_at o past within;
        left = λ o past within. inr (zero_at o past within);
      }

  pub resized_larger : (mode : PreallocateMode) → d.size ≤ size → IsResizedDisk d size mode (grown_to x d size mode)
  resized_larger mode larger = by (nat_le size d.size) refl where
    by : (b : Bool) → nat_le size d.size ≡ b → IsResizedDisk d size mode (if b then d else grown x.cluster_size d size (shows_old mode))
    by true is =
        let few : size ≤ d.size = leb-true size d.size is in
        record {
          size_is = omega (arith, few, larger);
          kept = λ o within_old within_new. refl;
          zeros = λ none o past within. absurd (omega (arith, past, within, few));
          left = λ o past within. inl refl;
        }
    by false is = grown_is mode (shows_old mode) refl larger
