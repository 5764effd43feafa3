-- Bytes that the disk already has are never refused as ones that may not be written.
use Rattle.std.proofs.Common.{◌≡◌, ◌+◌, ◌<◌, ◌≤◌, ◌∷◌, inl, inr, ℕ, Bool, true, false, List, [], take, length, refl, sym, ap, ◌∙◌, subst, arith, IfErr, Option, Result, Ok, Err}
use Rattle.qcow2_session.proofs.Common.{MatchOption, option_or, BackingView, bytes_at, HasCause, StorageView, StorageError, same_contents, length-bytes_at, byte_at-bytes_at, known_byte, Disk, with_bytes, given_of, Guest, guest_of, AnsweredEffect, Shows, with_disk, of_storage, ImageError, lacks_data_file, is_failed, size_of, MayFailToRead, passes, refuse_if, refuses_to_read, Qcow2, Prepared, abstract_of, IsOfReading, ReadsInto, DiffersWhereKept, IsKeptFromWriting, IsRefusedUnequal, Mappings}
use Rattle.image_access.specs.declared.error.StorageError.TheVariants as S
use Rattle.qcow2_alloc.specs.declared.error.ImageError.TheVariants as I
use Rattle.qcow2_session.proofs.Lemmas.{cut_part, cut_short, shows_as, shown_same}

-- ---- sizes

-- a raw disk that doesn't return its size
pub size_untold : {A : Type 0} (early : Option ImageError) (x : StorageError) (before now : ℕ) → HasCause {T = A} before now (Err x) → IsRefusedUnequal early before now (Err (of_storage x))
size_untold early S.Fault before now cause = inr (inr (inr (refl, cause.fault refl)))
size_untold early S.Memory before now cause = inr (inr (inl refl))

-- ---- what isn't refused so

-- a read isn't
pub reading_other : (e : ImageError) → IsOfReading e → IsKeptFromWriting e → ⊥
reading_other e (inl may_fail) (inl is) = let no : MayFailToRead I.ReadOnly = subst MayFailToRead is may_fail in no
reading_other e (inl may_fail) (inr is) = let no : MayFailToRead I.TablePrepared = subst MayFailToRead is may_fail in no
reading_other e (inr (inl beyond)) (inl is) = let no : I.ReadOnly ≡ I.BeyondSize = sym is ∙ beyond in cc
reading_other e (inr (inl beyond)) (inr is) = let no : I.TablePrepared ≡ I.BeyondSize = sym is ∙ beyond in cc
reading_other e (inr (inr (inl failed))) (inl is) = let no : I.ReadOnly ≡ I.Failed = sym is ∙ failed in cc
reading_other e (inr (inr (inl failed))) (inr is) = let no : I.TablePrepared ≡ I.Failed = sym is ∙ failed in cc
reading_other e (inr (inr (inr missing))) (inl is) = let no : I.ReadOnly ≡ I.Dependency = sym is ∙ missing in cc
reading_other e (inr (inr (inr missing))) (inr is) = let no : I.TablePrepared ≡ I.Dependency = sym is ∙ missing in cc

-- nor are sizes that differ
pub option_other : IsKeptFromWriting I.InvalidOption → ⊥
option_other (inl is) = let no : I.InvalidOption ≡ I.ReadOnly = is in cc
option_other (inr is) = let no : I.InvalidOption ≡ I.TablePrepared = is in cc

-- what refuses a read before any work
pub early_reading : {S F : Type 0} (image : Qcow2 S F) (at n : ℕ) (r : Result (Unit {0}) ImageError) → MatchOption (refuses_to_read image at n) (r ≡ Ok tt) (λ e. r ≡ Err e) → IfErr r IsOfReading
early_reading image at n r told = by (is_failed image) (lacks_data_file image) (passes (size_of image) at n) told
  where
    by : (a b p : Bool) → MatchOption (option_or (option_or (refuse_if a I.Failed) (refuse_if b I.Dependency)) (refuse_if p I.BeyondSize)) (r ≡ Ok tt) (λ e. r ≡ Err e) → IfErr r IsOfReading
    by true b p is = subst (λ (q : Result (Unit {0}) ImageError). IfErr q IsOfReading) (sym is) (inr (inr (inl refl)))
    by false true p is = subst (λ (q : Result (Unit {0}) ImageError). IfErr q IsOfReading) (sym is) (inr (inr (inr refl)))
    by false false true is = subst (λ (q : Result (Unit {0}) ImageError). IfErr q IsOfReading) (sym is) (inr (inl refl))
    by false false false is = subst (λ (q : Result (Unit {0}) ImageError). IfErr q IsOfReading) (sym is) tt

-- ---- bytes that a disk has

-- the first of them
shows_front : (d : Disk) (bytes : List ℕ) (n : ℕ) → Shows d 0 bytes → Shows d 0 (take n bytes)
shows_front d bytes n shows i lt = shows i (omega (arith, lt, cut_short n bytes)) ∙ ap known_byte (sym (cut_part n bytes i lt))

-- a range of them
shows_range : (d : Disk) (bytes : List ℕ) (at n : ℕ) → at + n ≤ length bytes → Shows d 0 bytes → Shows d at (bytes_at bytes at n)
shows_range d bytes at n fits shows i lt =
    let inside : i < n = omega (arith, lt, length-bytes_at bytes at n) in
    let place : 0 + (at + i) ≡ at + i = omega arith in
    ap d.value (sym place) ∙ shows (at + i) (omega (arith, fits, inside)) ∙ ap known_byte (sym (byte_at-bytes_at bytes at n i inside))

byte_is : {a b : ℕ} → known_byte a ≡ known_byte b → a ≡ b
byte_is e = cc

-- at one place a disk has one row of bytes of a length
shown_alike : (d : Disk) (at : ℕ) (a b : List ℕ) → length a ≡ length b → Shows d at a → Shows d at b → a ≡ b
shown_alike d at a b long first second = same_contents a b long (λ o lt. byte_is (sym (first o lt) ∙ second o (omega (arith, lt, long))))

-- ---- a range, in the calls' words

module _ {S F : Type 0} (view : S → StorageView) (backing : F → BackingView) (old : Qcow2 S F) (at : ℕ) (bytes : List ℕ) where
  -- it was refused for what a read is refused for
  pub reading_differs : {A : Type 0} (e : ImageError) (r : Result A ImageError) → r ≡ Err e → IsOfReading e → IfErr r (DiffersWhereKept view backing old at bytes)
  reading_differs {A = A} e r is cause = subst (λ (q : Result A ImageError). IfErr q (DiffersWhereKept view backing old at bytes)) (sym is) (λ out sound kept shows. reading_other e cause kept)

  -- the disk was read there, and has other bytes
  pub other_bytes : (mid : Qcow2 S F) (present wanted : List ℕ) → ReadsInto view backing old mid at present (Ok tt) → length wanted ≡ length present → wanted ≡ bytes → (wanted ≡ present → ⊥) → (e : ImageError) → DiffersWhereKept view backing old at bytes e
  other_bytes mid present wanted reads long are other e out sound kept shows =
      let d : Disk = (guest_of (abstract_of view backing old out)).disk in
      let there : Shows d at wanted = subst (λ (b : List ℕ). Shows d at b) (sym are) shows in
      other (shown_alike d at wanted present long there ((reads out).answer sound).1.0)

-- ---- all ranges, in the calls' words

module _ {S F : Type 0} (view : S → StorageView) (backing : F → BackingView) (old mid : Qcow2 S F) (contents : List ℕ) (at count : ℕ) (fits : at + count ≤ length contents) (chunk : List ℕ) (is : chunk ≡ bytes_at contents at count)
    (first : (out : Mappings) → AnsweredEffect (abstract_of view backing old out) (abstract_of view backing mid out) (given_of 0 contents ∷ []) []
    (guest_of (abstract_of view backing mid out) ≡ with_disk (guest_of (abstract_of view backing old out)) (with_bytes (guest_of (abstract_of view backing old out)).disk 0 (take at contents)))) where
  -- a disk that has all of the bytes has them still where the first ones are written
  pub part_differs : (e : ImageError) → DiffersWhereKept view backing mid at chunk e → DiffersWhereKept view backing old 0 contents e
  part_differs e differs out sound kept shows =
      let d : Disk = (guest_of (abstract_of view backing old out)).disk in
      let so_far = (first out).answer sound in
      let same : with_bytes d 0 (take at contents) ≡ d = shown_same d 0 (take at contents) (shows_front d contents at shows) in
      let still : (guest_of (abstract_of view backing mid out)).disk ≡ d = ap (λ (g : Guest). g.disk) so_far.1 ∙ same in
      differs out so_far.0 kept (shows_as (sym still) refl (sym is) (shows_range d contents at count fits shows))

  pub part_kept : {A : Type 0} (e : ImageError) (r : Result A ImageError) → r ≡ Err e → DiffersWhereKept view backing mid at chunk e → IfErr r (DiffersWhereKept view backing old 0 contents)
  part_kept {A = A} e r err differs = subst (λ (q : Result A ImageError). IfErr q (DiffersWhereKept view backing old 0 contents)) (sym err) (part_differs e differs)
