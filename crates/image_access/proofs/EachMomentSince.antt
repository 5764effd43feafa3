-- How the moments and the fault counts of several storage calls compose.
use Rattle.std.proofs.Common.{◌≡◌, ◌⊎◌, inl, inr, ⊎_elim, ℕ, ◌≤◌, List, Result, Ok, Err, sym, ◌∙◌, subst, arith}
use Rattle.image_access.specs.declared.error.StorageError.{StorageError}
use Rattle.image_access.specs.declared.error.StorageError.TheVariants.{Fault, Memory}
use Rattle.image_access.specs.Moments.{StorageView, ContentsBecome, Rose, HasCause, EachMomentSince, Calls, Changes}

-- whatever the answer, the change is whole or nothing
pub whole_or_nothing : {T : Type 0} (result : Result T StorageError) (old changed new : List ℕ) → ContentsBecome result old changed new → (new ≡ old) ⊎ (new ≡ changed)
whole_or_nothing (Ok _) old changed new is = inr is
whole_or_nothing (Err Memory) old changed new is = inl is
whole_or_nothing (Err Fault) old changed new either = either

-- no call at all
pub passes_none : (view : StorageView) (P : List ℕ → Type 0) → EachMomentSince view view P
passes_none view P = record { honest = λ h. h; later = omega arith; each = λ t c le had. inl had }

module _ {old mid new : StorageView} where
  -- one run after another
  pub passes_more : {P Q : List ℕ → Type 0} → EachMomentSince old mid P → EachMomentSince mid new Q → EachMomentSince old new (λ c. P c ⊎ Q c)
  passes_more first second = record {
    honest = λ h. second.honest (first.honest h);
    later = omega (arith, first.later, second.later);
    each = λ t c le had. ⊎_elim
        (λ before. ⊎_elim (λ h. inl h) (λ p. inr (inl p)) (first.each t c le before))
        (λ q. inr (inr q))
        (second.each t c (omega (arith, le, first.later)) had);
  }

  -- one call or run more, at whose moments P holds too
  pub passes_on : {Q : List ℕ → Type 0} (P : List ℕ → Type 0) → EachMomentSince old mid P → EachMomentSince mid new Q → ((c : List ℕ) → Q c → P c) → EachMomentSince old new P
  passes_on P so_far more here = record {
    honest = λ h. more.honest (so_far.honest h);
    later = omega (arith, so_far.later, more.later);
    each = λ t c le had. ⊎_elim (so_far.each t c le) (λ q. inr (here c q)) (more.each t c (omega (arith, le, so_far.later)) had);
  }

  module _ {T : Type 0} {result : Result T StorageError} where
    -- one call more, which makes a whole change or none
    pub passes_change : (P : List ℕ → Type 0) (change : List ℕ → List ℕ) → EachMomentSince old mid P → Calls mid new result → Changes mid new result change → mid.is_honest → P mid.contents → P (change mid.contents) → EachMomentSince old new P
    passes_change P change so_far call changes honest at_mid at_changed =
        passes_on P so_far (call.time honest) (λ c is. ⊎_elim
        (λ (e : new.contents ≡ mid.contents). subst P (sym (is ∙ e)) at_mid)
        (λ (e : new.contents ≡ change mid.contents). subst P (sym (is ∙ e)) at_changed)
        (whole_or_nothing result mid.contents (change mid.contents) new.contents (changes honest)))

module _ {old new : StorageView} where
  pub passes_if : {P : List ℕ → Type 0} (Q : List ℕ → Type 0) → ((c : List ℕ) → P c → Q c) → EachMomentSince old new P → EachMomentSince old new Q
  passes_if Q implies passes = record { honest = passes.honest; later = passes.later; each = λ t c le had. ⊎_elim (λ h. inl h) (λ p. inr (implies c p)) (passes.each t c le had) }

  -- Since its start there are the contents of the start and those with P. The first premise is the trait's `only_now`.
  pub since_start : {P : List ℕ → Type 0} → ((c : List ℕ) → old.had_since old.moment c → c ≡ old.contents) → EachMomentSince old new P → (c : List ℕ) → new.had_since old.moment c → (c ≡ old.contents) ⊎ P c
  since_start only passes c had = ⊎_elim (λ h. inl (only c h)) (λ p. inr p) (passes.each old.moment c (omega arith) had)

-- a fault that is counted is counted since earlier
pub rose_since : (before mid now : ℕ) → before ≤ mid → Rose mid now → Rose before now
rose_since before mid now le rose = omega arith

-- a fault that was counted stays counted
pub rose_still : (before mid now : ℕ) → Rose before mid → mid ≤ now → Rose before now
rose_still before mid now rose le = omega arith

-- the cause of a later call's refusal
pub cause_since : {T : Type 0} {result : Result T StorageError} (before mid now : ℕ) → mid ≡ before → HasCause mid now result → HasCause before now result
cause_since {T} {result} before mid now same cause = subst (λ n. HasCause n now result) same cause
