-- Zeros past the end of a disk, before its size grows.
use Rattle.std.proofs.Common.{◌≡◌, ◌+◌, ◌-◌, ◌*◌, ◌/◌, ◌%◌, ◌<◌, ◌≤◌, ◌∷◌, ◌||◌, ⊎_elim, inl, inr, ℕ, true, false, List, [], Option, refl, sym, ap, ◌∙◌, subst, arith, Result, Ok, Err}
use Rattle.qcow2_image.proofs.Common.{cases_lt, cond-false, lt-leb, div-add-mod', mod-mul-add, mod_below, BackingView, StorageView, PreallocateMode, Value, known_byte, cluster_size, rounded_up, guest_of, shows_old, with_disk, Disk, zeroed_between, given_shown, GivenBytes, IsGiven, works_less, TouchesLess, known_in, ImageError, Qcow2, Prepared, size_of, ImageInvariant, abstract_of, disk_of, pending_in, ChangesFree, FilledCovers, FillsGrown, FillsGrownInPart, FillsGrownOrRefuses, FillsOrRefuses, FillsPart, FillsSome, InterruptedGiving, IsUnderMappingIn, RefusedFill, RefusedGrown, filled_to, given_by_zeros, all_given_by_growing, MayFail, IsUnlimited, Mappings}
use Rattle.image_access.specs.declared.storage.PreallocateMode.TheVariants as Mode
use Rattle.qcow2_image.specs.Preallocation.{first_zeros}
use Rattle.qcow2_image.proofs.Call.Called.{works_none}
use Rattle.qcow2_image.proofs.Preallocate.Filled.{met_taken, refused_here}
use Rattle.qcow2_image.proofs.Preallocate.Covers.{boundary}
use Rattle.qcow2_image.proofs.Preallocate.Pieces.{none_of}
use Rattle.qcow2_image.proofs.Preallocate.Zeros.{zeros_shown}
use Rattle.qcow2_image.proofs.Prepare.LimitCauses.{limited_less, limited_not}
use Rattle.qcow2_image.proofs.Images.Sizes.{disk_size}
use Rattle.qcow2_image.proofs.Images.UngivenCovers.{touches_part}

-- ---- a number rounded up
pub up_whole : (cs n : ℕ) → 0 < cs → rounded_up cs n % cs ≡ 0
up_whole cs n some = let e : rounded_up cs n ≡ (n + cs - 1) / cs * cs + 0 = omega arith in ap (λ x. x % cs) e ∙ mod-mul-add ((n + cs - 1) / cs) cs 0 some

pub up_least : (cs n : ℕ) → 0 < cs → n ≤ rounded_up cs n
up_least cs n some =
    let is : (n + cs - 1) / cs * cs + (n + cs - 1) % cs ≡ n + cs - 1 = div-add-mod' (n + cs - 1) cs in
    let below = mod_below (n + cs - 1) cs some in
    omega (arith, is, below)

up_near : (cs n : ℕ) → 0 < cs → rounded_up cs n < n + cs
up_near cs n some = let is : (n + cs - 1) / cs * cs + (n + cs - 1) % cs ≡ n + cs - 1 = div-add-mod' (n + cs - 1) cs in omega (arith, is, some)

pub up_rising : (cs a b : ℕ) → 0 < cs → a ≤ b → rounded_up cs a ≤ rounded_up cs b
up_rising cs a b some le = elim (cases_lt (rounded_up cs b) (rounded_up cs a)) [
  | inr is ↦ is
  | inl past ↦
      let end = boundary cs (rounded_up cs b) (rounded_up cs a) some (up_whole cs a some) past in
      let whole = up_whole cs b some in
      let near = up_near cs a some in
      let least = up_least cs b some in
      absurd (omega (arith, end, whole, near, least, le))
]

pub up_to_end : (cs a b : ℕ) → 0 < cs → a ≤ b → a ≤ rounded_up cs b
up_to_end cs a b some le = let least = up_least cs b some in omega (arith, least, le)

module _ {S F : Type 0} (view : S → StorageView) (backing : F → BackingView) (out : Mappings) (old : Qcow2 S F) (sound : ImageInvariant view backing (pending_in view backing old out) old out) (size : ℕ) (mode : PreallocateMode) (larger : size_of old < size) where
  abbrev d : Disk
  d = disk_of view backing out.place old

  abbrev end : ℕ
  end = rounded_up (cluster_size old.file.header.fields) size

  size_is : size_of old ≡ d.size
  size_is = disk_size view backing old out sound

  more : d.size < size
  more = subst (λ n. n < size) size_is larger

  -- of no mode
  pub grown_none : mode ≡ Mode.None → FillsGrown view backing size mode old old out
  grown_none none = record {
    works = none_of _ _ (all_given_by_growing view backing out.place old size mode) (works_none (abstract_of view backing old out) sound);
    sound = sound;
    shows = ap (λ (e : Disk). with_disk (guest_of (abstract_of view backing old out)) e) (subst (λ (x : PreallocateMode). d ≡ filled_to (cluster_size old.file.header.fields) d size x) (sym none) refl);
    header = refl;
    l1_table = λ within. (refl, refl);
    covers = record { filled = λ hides. absurd (let no : true ≡ false = sym (ap shows_old none) ∙ hides in cc); same = λ _ g. refl };
    free = λ hides. absurd (let no : true ≡ false = sym (ap shows_old none) ∙ hides in cc);
  }

  module _ (hides : shows_old mode ≡ false) where
    given_bytes_are : all_given_by_growing view backing out.place old size mode ≡ given_shown (zeroed_between d d.size end) d.size end ∷ []
    given_bytes_are = cond-false _ _ _ (ap (λ b. b || shows_old mode) (lt-leb size d.size more) ∙ hides)

    given_zeros : (o : ℕ) (w : Value) → IsGiven (given_by_zeros (size_of old) end ∷ []) o w → IsGiven (all_given_by_growing view backing out.place old size mode) o w
    given_zeros o w given =
        subst (λ (gs : List GivenBytes). IsGiven gs o w) (sym given_bytes_are) (zeros_shown d d.size end o w (subst (λ n. IsGiven (given_by_zeros n end ∷ []) o w) size_is given))

    zeros_touched : TouchesLess (cluster_size old.file.header.fields) (given_by_zeros (size_of old) end ∷ []) (all_given_by_growing view backing out.place old size mode)
    zeros_touched = subst (TouchesLess (cluster_size old.file.header.fields) (given_by_zeros (size_of old) end ∷ [])) (sym given_bytes_are) (touches_part (cluster_size old.file.header.fields) _ _ _ _ (let same = size_is in omega (arith, same)) (let same = size_is in omega (arith, same)))

    module _ (new : Qcow2 S F) where
      pub grown_all : (first : ℕ) → first ≡ first_zeros (cluster_size old.file.header.fields) (size_of old) size mode → FillsPart view backing first (size_of old) end old new out → FillsGrown view backing size mode old new out
      grown_all first begins part = record {
        works = works_less (abstract_of view backing old out) (abstract_of view backing new out) (given_by_zeros (size_of old) end ∷ []) (all_given_by_growing view backing out.place old size mode) [] (λ o w given. inr (given_zeros o w given)) zeros_touched part.works;
        sound = part.sound;
        shows = part.shows ∙ ap (λ (e : Disk). with_disk (guest_of (abstract_of view backing old out)) e) (ap (λ n. zeroed_between d n end) size_is ∙ sym (cond-false (shows_old mode) d (zeroed_between d d.size end) hides));
        header = part.header;
        l1_table = part.l1_table;
        covers = record {
          filled = λ _. subst (λ f. FilledCovers (cluster_size old.file.header.fields) f (size_of old) end old.file.header.fields (known_in view old.file) new.file.header.fields (known_in view new.file)) begins part.covers;
          same = λ shows. absurd (let no : true ≡ false = sym shows ∙ hides in cc);
        };
        free = λ _. subst (λ f. ChangesFree (cluster_size old.file.header.fields) f (size_of old) end old.file.header.fields (known_in view old.file) out) begins part.free;
      }

      in_part : FillsSome view backing (size_of old) end old new out → FillsGrownInPart view backing size mode old new out
      in_part part = record {
        works = works_less (abstract_of view backing old out) (abstract_of view backing new out) (given_by_zeros (size_of old) end ∷ []) (all_given_by_growing view backing out.place old size mode) [] (λ o w given. inr (given_zeros o w given)) zeros_touched part.works;
        sound = part.sound;
        now = part.now;
        may = record {
          same_size = part.may.size;
          values = λ o. ⊎_elim (λ (same : part.now.value o ≡ d.value o). inl same)
              (λ (zero : (size_of old ≤ o) × (o < end) × (part.now.value o ≡ known_byte 0)). inr (hides, more, subst (λ n. n ≤ o) size_is zero.0, zero.1, zero.2)) (part.may.values o);
        };
        shows = part.shows;
      }

      broken : (e : ImageError) → InterruptedGiving view backing (given_by_zeros (size_of old) end ∷ []) old new out e → InterruptedGiving view backing (all_given_by_growing view backing out.place old size mode) old new out e
      broken e interrupted = record {
        fault = interrupted.fault;
        recorded = interrupted.recorded;
        works = works_less (abstract_of view backing old out) (abstract_of view backing (record new { is_failed = true }) out) (given_by_zeros (size_of old) end ∷ []) (all_given_by_growing view backing out.place old size mode) [] (λ o w given. inr (given_zeros o w given)) zeros_touched interrupted.works;
      }

      pub grown_refused : (e : ImageError) → RefusedFill view backing (size_of old) end old new out e
          → RefusedGrown view backing size mode old new out e
      grown_refused e refused = record {
        left = ⊎_elim (λ (part : FillsSome view backing (size_of old) end old new out). inl (in_part part)) (λ (interrupted : InterruptedGiving view backing (given_by_zeros (size_of old) end ∷ []) old new out e). inr (broken e interrupted)) refused.left;
        taken = λ is. (hides, subst (λ n. IsUnderMappingIn old.file.header.fields n end out) size_is (refused.taken is));
        limit = λ is. limited_less (given_by_zeros (size_of old) end ∷ []) (all_given_by_growing view backing out.place old size mode) given_zeros zeros_touched (refused.limit is);
      }

      pub grown_or_refused : (first from : ℕ) → first ≡ first_zeros (cluster_size old.file.header.fields) from size mode → from ≡ size_of old → (r : Result (Unit {0}) ImageError) → FillsOrRefuses view backing first from end old new out r → FillsGrownOrRefuses view backing size mode old new out r
      grown_or_refused first from begins here (Ok done) fills =
          grown_all first (begins ∙ ap (λ n. first_zeros (cluster_size old.file.header.fields) n size mode) here) (subst (λ n. FillsPart view backing first n end old new out) here fills)
      grown_or_refused first from begins here (Err e) refused = grown_refused e (subst (λ n. RefusedFill view backing n end old new out e) here refused)

    -- refused before anything was done
    pub early_refused : (e : ImageError) → MayFail e → IsUnlimited e → RefusedGrown view backing size mode old old out e
    early_refused e may_fail unlimited = grown_refused old e (refused_here view backing out old (size_of old) end e (λ is. met_taken _ e may_fail is) (limited_not e unlimited) sound)
