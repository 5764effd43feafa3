-- A storage is emptied, unless it is empty: at each moment since, it has its old contents or none.
use Rattle.std.proofs.Common.{◌≡◌, ◌⊎◌, ◌≤◌, ◌∷◌, inl, inr, ⊎_elim, ℕ, List, [], length, Result, sym, ◌∙◌, subst, arith}
use Rattle.qcow2_image.proofs.Common.{resized, StorageError, StorageView, EachMomentSince, Calls, QuietCalls, Changes, IsLeftBy, length-resized, whole_or_nothing, passes_on}

-- contents of no length
pub none_there : (c : List ℕ) → length c ≡ 0 → c ≡ []
none_there [] none = cc
none_there (b ∷ c) none = absurd (omega (arith, none))

module _ {old new : StorageView} (counts : (t : ℕ) → t ≤ old.moment → old.had_since t old.contents) where
  -- a call after which the contents are those of before, or these
  pub passes_as : (P : List ℕ → Type 0) → EachMomentSince old new (IsLeftBy new) → (new.contents ≡ old.contents) ⊎ P new.contents → EachMomentSince old new P
  passes_as P time either = record {
    honest = time.honest;
    later = time.later;
    each = λ t c le had. ⊎_elim (λ before. inl before)
        (λ (is : c ≡ new.contents). ⊎_elim
        (λ same. inl (subst (old.had_since t) (sym (is ∙ same)) (counts t le)))
        (λ holds. inr (subst P (sym is) holds)) either)
        (time.each t c le had);
  }

  -- emptied or not
  pub emptied : {T : Type 0} (result : Result T StorageError) → Calls old new result → Changes old new result (λ b. resized b 0) → old.is_honest → EachMomentSince old new (λ c. c ≡ [])
  emptied result calls changes honest =
      passes_as (λ c. c ≡ []) (calls.time honest) (⊎_elim (λ same. inl same) (λ cut. inr (cut ∙ none_there (resized old.contents 0) (length-resized old.contents 0))) (whole_or_nothing result old.contents (resized old.contents 0) new.contents (changes honest)))

pub asked_first : {old mid new : StorageView} {T U : Type 0} (size : Result U StorageError) (result : Result T StorageError) → ((t : ℕ) → t ≤ old.moment → old.had_since t old.contents) → ((t : ℕ) → t ≤ mid.moment → mid.had_since t mid.contents)
    → QuietCalls old mid size → mid.contents ≡ old.contents → Calls mid new result → Changes mid new result (λ b. resized b 0) → mid.is_honest → EachMomentSince old new (λ c. c ≡ [])
asked_first size result counts counts_mid asks same calls changes honest =
    passes_on (λ c. c ≡ []) (passes_as counts (λ c. c ≡ []) asks.time (inl same)) (emptied counts_mid result calls changes honest) (λ c is. is)

pub cut_to_none : (old new : List ℕ) → new ≡ resized old 0 → new ≡ []
cut_to_none old new is = is ∙ none_there (resized old 0) (length-resized old 0)
