-- The first pinned entry.
use Rattle.std.proofs.Common.{◌≡◌, ◌<◌, ◌∷◌, ◌∙◌, inl, inr, Bool, true, false, List, [], Option, Some, None, refl, sym, subst, arith, slice_get, IfSome}
use Rattle.qcow2_alloc.proofs.Common.{IsEquivalence, AllByRecursion, IsDistinct, option_map, keys_of, lookup, cases_Bool, nat_tests, Slot, pinned, is_pinned, pins_at}
use Rattle.std.specs.Prelude.{IsNone}
use Rattle.qcow2_alloc.proofs.CachedEntries.Lists.{pinned_kept, pinned_gone}

module _ {K V : Type 0} where
  pub first_none : (es : List (K × Slot V)) → option_map (λ (e : K × Slot V). e.0) (slice_get es 0) ≡ None → es ≡ []
  first_none [] h = refl
  first_none (e ∷ es) h = absurd (cc)

  head_is : (e f : K × Slot V) (es fs : List (K × Slot V)) → e ∷ es ≡ f ∷ fs → e ≡ f
  head_is e f es fs h = cc

  -- it is one of the entries
  pinned_key : (P : K → Type 0) (es rest : List (K × Slot V)) (e : K × Slot V) → pinned es ≡ e ∷ rest → AllByRecursion P (keys_of es) → P e.0
  pinned_key P [] rest e h all = absurd (cc)
  pinned_key P (f ∷ es) rest e h all = elim (cases_Bool (is_pinned f.1)) [
    | inl some ↦ subst (λ (x : K × Slot V). P x.0) (head_is f e (pinned es) rest (sym (pinned_kept f es some) ∙ h)) all.0
    | inr none ↦ pinned_key P es rest e (sym (pinned_gone f es none) ∙ h) all.1
  ]

  pinned_lookup : {eq : K → K → Bool} (laws : IsEquivalence eq) (es rest : List (K × Slot V)) (e : K × Slot V) → IsDistinct eq (keys_of es) → pinned es ≡ e ∷ rest
      → (lookup (eq e.0) es ≡ Some e.1) × (is_pinned e.1 ≡ true)
  unfolding IsDistinct
  pinned_lookup laws [] rest e d h = absurd (cc)
  pinned_lookup {eq} laws (f ∷ es) rest e d h = elim (cases_Bool (is_pinned f.1)) [
    | inl some ↦ subst (λ (x : K × Slot V). (lookup (eq x.0) (f ∷ es) ≡ Some x.1) × (is_pinned x.1 ≡ true)) (head_is f e (pinned es) rest (sym (pinned_kept f es some) ∙ h)) (rw (laws.refl f.0) refl, some)
    | inr none ↦
        let later : pinned es ≡ e ∷ rest = sym (pinned_gone f es none) ∙ h in
        let apart : eq f.0 e.0 ≡ false = pinned_key (λ y. eq f.0 y ≡ false) es rest e later d.0 in
        let other : eq e.0 f.0 ≡ false = laws.symm e.0 f.0 ∙ apart in
        let there = pinned_lookup laws es rest e d.1 later in
        (rw other there.0, there.1)
  ]

  has_pins : (test : K → Bool) (es : List (K × Slot V)) (s : Slot V) → lookup test es ≡ Some s → is_pinned s ≡ true → 0 < pins_at test es
  has_pins test es s found some = rw found (grind (arith, nat_tests))

  first_some : {eq : K → K → Bool} (laws : IsEquivalence eq) (es some : List (K × Slot V)) (key : K) → IsDistinct eq (keys_of es) → pinned es ≡ some → option_map (λ (e : K × Slot V). e.0) (slice_get some 0) ≡ Some key → 0 < pins_at (eq key) es
  first_some laws es [] key d is h = absurd (cc)
  first_some {eq} laws es (e ∷ rest) key d is h =
      let there = pinned_lookup laws es rest e d is in
      let same : e.0 ≡ key = cc in
      subst (λ k. 0 < pins_at (eq k) es) same (has_pins (eq e.0) es e.1 there.0 there.1)

  pub first_is : {eq : K → K → Bool} (laws : IsEquivalence eq) (es : List (K × Slot V)) (key : K) → IsDistinct eq (keys_of es) → option_map (λ (e : K × Slot V). e.0) (slice_get (pinned es) 0) ≡ Some key → 0 < pins_at (eq key) es
  first_is laws es key d h = first_some laws es (pinned es) key d refl h

  -- what a search for it answers
  pub none_first : (es : List (K × Slot V)) (r : Option K) → r ≡ option_map (λ (e : K × Slot V). e.0) (slice_get (pinned es) 0) → IsNone r → pinned es ≡ []
  none_first es None e none = first_none (pinned es) (sym e)
  none_first es (Some key) e none = absurd (let no : true ≡ false = none in cc)

  pub some_first : {eq : K → K → Bool} (laws : IsEquivalence eq) (es : List (K × Slot V)) (r : Option K) → IsDistinct eq (keys_of es) → r ≡ option_map (λ (e : K × Slot V). e.0) (slice_get (pinned es) 0) → IfSome r (λ key. 0 < pins_at (eq key) es)
  some_first laws es None d e = tt
  some_first laws es (Some key) d e = first_is laws es key d (sym e)

  -- where none has a pin, none under any key has one
  pub none_pinned : (test : K → Bool) (es : List (K × Slot V)) → pinned es ≡ [] → pins_at test es ≡ 0
  none_pinned test [] h = refl
  none_pinned test (e ∷ es) h = elim (cases_Bool (is_pinned e.1)) [
    | inl some ↦ absurd (let no : e ∷ pinned es ≡ [] = sym (pinned_kept e es some) ∙ h in cc)
    | inr none ↦
        let rest = none_pinned test es (sym (pinned_gone e es none) ∙ h) in
        let here : e.1.pins ≡ 0 = grind (arith, nat_tests) in
        elim (cases_Bool (test e.0)) [ inl t ↦ rw t here | inr f ↦ rw f rest ]
  ]
