-- What the parts of a call say of its result.
use Rattle.std.proofs.Common.{◌≡◌, ◌&&◌, ℕ, Bool, true, false, List, [], refl, sym, subst, nat_lt, Option, Result, Ok, Err, IsErr, IsErrAnd}
use Rattle.qcow2_image.proofs.Common.{not, MatchOption, option_or, BackingView, StorageView, GivenBytes, Guest, RefusedEffect, IsSame, ImageError, Qcow2, Prepared, refusal_of, AnswersCall, is_failed, lacks_data_file, is_writable, size_of, passes, refuse_if, refuses_to_prepare, unusable, abstract_of, Mappings}
use Rattle.qcow2_alloc.specs.declared.error.ImageError.TheVariants as I

module _ {S F : Type 0} (view : S → StorageView) (backing : F → BackingView) (old new : Qcow2 S F) where
  -- an answer that is this refusal
  pub answers_err : {A : Type 0} (given : List GivenBytes) (Done : A → Guest → Guest → Type 0) (r : Result A ImageError) (e : ImageError) → IsErr r × IsErrAnd r (λ x. x ≡ e)
      → ((out : Mappings) → RefusedEffect (abstract_of view backing old out) (abstract_of view backing new out) given [] (refusal_of e) (IsSame (abstract_of view backing old out) (abstract_of view backing new out)))
      → AnswersCall view backing old new given Done r
  answers_err given Done (Ok a) e is refuses = absurd (let no : false ≡ true = is.0 in cc)
  answers_err given Done (Err x) e is refuses = λ out.
      subst (λ (y : ImageError). RefusedEffect (abstract_of view backing old out) (abstract_of view backing new out) given [] (refusal_of y) (IsSame (abstract_of view backing old out) (abstract_of view backing new out))) (sym is.1) (refuses out)

-- an image that isn't refused wasn't marked as failed
not_failed : (failed : Bool) (rest : Option ImageError) (r : Result (Unit {0}) ImageError) → r ≡ Ok tt → MatchOption (option_or (refuse_if failed I.Failed) rest) (r ≡ Ok tt) (λ e. r ≡ Err e) → failed ≡ false
not_failed false rest r ok is = refl
not_failed true rest r ok is = absurd cc

pub usable_works : {S F : Type 0} (image : Qcow2 S F) (r : Result (Unit {0}) ImageError) → r ≡ Ok tt → MatchOption (unusable image) (r ≡ Ok tt) (λ e. r ≡ Err e) → is_failed image ≡ false
usable_works image r ok is = not_failed (is_failed image) (refuse_if (lacks_data_file image) I.Dependency) r ok is

not_failed_first : (failed : Bool) (more rest : Option ImageError) (r : Result (Unit {0}) ImageError) → r ≡ Ok tt
    → MatchOption (option_or (option_or (refuse_if failed I.Failed) more) rest) (r ≡ Ok tt) (λ e. r ≡ Err e) → failed ≡ false
not_failed_first false more rest r ok is = refl
not_failed_first true more rest r ok is = absurd cc

pub prepare_usable : {S F : Type 0} (image : Qcow2 S F) (offset n : ℕ) (r : Result (Unit {0}) ImageError) → r ≡ Ok tt → MatchOption (refuses_to_prepare image offset n) (r ≡ Ok tt) (λ e. r ≡ Err e) → is_failed image ≡ false
prepare_usable image offset n r ok is =
    not_failed_first (is_failed image) (refuse_if (lacks_data_file image) I.Dependency) (option_or (refuse_if (passes (size_of image) offset n) I.BeyondSize) (refuse_if (nat_lt 0 n && not (is_writable image)) I.ReadOnly)) r ok is
