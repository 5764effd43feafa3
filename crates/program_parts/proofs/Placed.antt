-- A file that gets its name.
use Rattle.std.proofs.Common.{◌≡◌, ◌⊎◌, ◌∷◌, ⊎_elim, ℕ, List, [], ap, ◌∙◌, subst, sym, IfOk, Option, Some, Result, Ok, Err}
use Rattle.program_parts.proofs.Common.{StorageView, IsQuiet, IsImageMade, IsKeptQuietly}
use Rattle.std.proofs.lemmas.List.Elements.{All-cons, All-nil}
use Rattle.program_parts.specs.Places.{EachHeldSince, GetsName, HoldsWhole, IsMade, IsWhole, NameView, Replaces, StaysNamed}
use Rattle.program_parts.specs.declared.placing.Conversion.{Conversion}
use Rattle.program_parts.specs.declared.placing.Conversion.TheVariants as C

pub stays_held : (old new : NameView) (P : Option (List ℕ) → Type 0) → StaysNamed old new → EachHeldSince old new P
stays_held old new P stays = record {
  honest = stays.honest;
  since = [];
  trace = ap (λ x. x ∷ new.held) stays.holds ∙ ap (λ xs. old.holds ∷ xs) stays.held;
  each = All-nil P;
}

pub gets_held : (bytes : List ℕ) (old new : NameView) (P : Option (List ℕ) → Type 0) → P (Some bytes) → GetsName bytes old new → EachHeldSince old new P
gets_held bytes old new P whole gets = record {
  honest = gets.honest;
  since = Some bytes ∷ [];
  trace = ap (λ x. x ∷ new.held) gets.holds ∙ ap (λ xs. Some bytes ∷ xs) gets.held;
  each = All-cons P (Some bytes) [] whole (All-nil P);
}

module _ (how : Conversion) (source : StorageView) (old : NameView) where
  module _ (new : NameView) (n : ℕ) (bytes : List ℕ) (whole : IsWhole how n source bytes) where
    holds_whole : (held : Option (List ℕ)) → held ≡ Some bytes → HoldsWhole how n source held
    holds_whole held is = subst (HoldsWhole how n source) (sym is) whole

    pub replaces_all : {E : Type 0} → GetsName bytes old new → Replaces {E = E} how source old new (Ok n)
    replaces_all {E} gets = record { each_moment = gets_held bytes old new (λ held. (n : ℕ) × HoldsWhole how n source held) (n, whole) gets; done = holds_whole new.holds gets.holds }

    pub replaces_maybe : {E : Type 0} (e : E) → StaysNamed old new ⊎ GetsName bytes old new → Replaces {E = E} how source old new (Err e)
    replaces_maybe {E} e either = record {
      each_moment = ⊎_elim (stays_held old new (λ held. (n : ℕ) × HoldsWhole how n source held)) (gets_held bytes old new (λ held. (n : ℕ) × HoldsWhole how n source held) (n, whole)) either;
      done = tt;
    }

-- ---- what was made

made_still_by : (how : Conversion) (n : ℕ) (source a b : StorageView) → IsMade how n source a → IsQuiet a b → IsMade how n source b
made_still_by how n source a b made quiet = record { honest = quiet.honest; whole = subst (IsWhole how n source) (sym quiet.contents) made.whole }

-- it is so still once it was compared
pub made_still : (how : Conversion) (n : ℕ) (source a b : StorageView) → IsMade how n source a → IsKeptQuietly a b → IsMade how n source b
made_still how n source a b made kept = made_still_by how n source a b made (kept made.honest)

module _ {E : Type 0} (how : Conversion) (source file : StorageView) where
  image_by : (r : Result ℕ E) (cluster width : ℕ) → IfOk r (λ n. IsImageMade source n file cluster width) → IfOk r (λ n. IsMade (C.RawToImage cluster width) n source file)
  image_by (Ok n) cluster width is = record { honest = is.honest; whole = record { image = is.image; disk = λ honest. (is.disk honest).has_disk.is_disk } }
  image_by (Err e) cluster width is = tt

  pub made_image : (r : Result ℕ E) (cluster width : ℕ) → how ≡ C.RawToImage cluster width → IfOk r (λ n. IsImageMade source n file cluster width) → IfOk r (λ n. IsMade how n source file)
  made_image r cluster width is image = subst (λ h. IfOk r (λ n. IsMade h n source file)) (sym is) (image_by r cluster width image)

ok_made : {E : Type 0} (P : ℕ → Type 0) (r : Result ℕ E) (n : ℕ) → r ≡ Ok n → IfOk r P → P n
ok_made {E} P r n is made = subst (λ (q : Result ℕ E). IfOk q P) is made

pub made_now : {E : Type 0} (how : Conversion) (n : ℕ) (source a b : StorageView) (r : Result ℕ E) → r ≡ Ok n → IfOk r (λ k. IsMade how k source a) → IsKeptQuietly a b → IsMade how n source b
made_now how n source a b r is made kept = made_still how n source a b (ok_made (λ k. IsMade how k source a) r n is made) kept
