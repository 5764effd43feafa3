-- Lists of entries.
use Rattle.std.proofs.Common.{◌≡◌, ◌+◌, ◌-◌, ◌^◌, ◌≤◌, ◌∷◌, ◌++◌, Bool, true, false, cond, List, [], length, Option, Some, None, refl, sym, ap, ◌∙◌, subst, arith, nat_lt, is_some, IsSome}
use Rattle.qcow2_alloc.proofs.Common.{set_value_same, IsEquivalence, AllByRecursion, IsDistinct, none-some, option_map_or, option_or, option_map, keys_of, lookup, lookup_entry, remove_entry, set_value, nat_tests, promoted, demoted, Slot, oldest_free, pinned, is_pinned, pin_at, unpin_at}

pub option_or-assoc : {X : Type 0} (o p q : Option X) → option_or (option_or o p) q ≡ option_or o (option_or p q)
option_or-assoc None p q = refl
option_or-assoc (Some x) p q = refl

pub option_or-none : {X : Type 0} (o : Option X) → option_or o None ≡ o
option_or-none None = refl
option_or-none (Some x) = refl

pub is_pinned-true : {V : Type 0} (s : Slot V) → (s.pins ≡ 0 → ⊥) → is_pinned s ≡ true
is_pinned-true s h = grind (arith, nat_tests)

pub is_pinned-false : {V : Type 0} (s : Slot V) → s.pins ≡ 0 → is_pinned s ≡ false
is_pinned-false s h = rw h refl

pub none_of : {X : Type 0} {o : Option X} → false ≡ is_some o → o ≡ None
none_of {o = None} h = refl
none_of {o = Some x} h = cc

pub none_is_none : {X : Type 0} {o : Option X} → o ≡ None → IsSome o → ⊥
none_is_none h g = let i = rw h at g in cc

none_back : {X Y : Type 0} (f : X → Y) (o : Option X) → option_map f o ≡ None → o ≡ None
none_back f None h = refl
none_back f (Some x) h = absurd (none-some (f x) (sym h))

module _ {K X : Type 0} (test : K → Bool) where
  pub remove_entry-set_value : (es : List (K × X)) (w : X) → remove_entry test (set_value test es w) ≡ remove_entry test es
  remove_entry-set_value [] w = refl
  remove_entry-set_value (e ∷ es) w = (elim (test e.0) as (λ y. test e.0 ≡ y → remove_entry test (set_value test (e ∷ es) w) ≡ remove_entry test (e ∷ es)) [
    | true ↦ λ h. rw (h, h) refl
    | false ↦ λ h. rw (h, h) (ap (λ l. e ∷ l) (remove_entry-set_value es w))
  ]) refl

  pub length-remove_entry : (es : List (K × X)) → length (remove_entry test es) ≤ length es
  length-remove_entry [] = omega arith
  length-remove_entry (e ∷ es) = elim (test e.0) as (λ y. length (cond y es (e ∷ remove_entry test es)) ≤ length (e ∷ es)) [
    | true ↦ omega arith
    | false ↦ omega (arith, length-remove_entry es)
  ]

  -- a list with an entry that passes gets shorter
  pub length-remove_found : (es : List (K × X)) (w : X) → lookup test es ≡ Some w → length (remove_entry test es) + 1 ≡ length es
  length-remove_found [] w h = cc
  length-remove_found (e ∷ es) w h = (elim (test e.0) as (λ y. test e.0 ≡ y → length (remove_entry test (e ∷ es)) + 1 ≡ length (e ∷ es)) [
    | true ↦ λ t. rw t (omega arith)
    | false ↦ λ t. let r = length-remove_found es w (rw t at h) in rw t (omega arith)
  ]) refl

  -- the entry at the front that passes goes last
  pub demoted_front : (e : K × X) (es : List (K × X)) → test e.0 ≡ true → demoted test (e ∷ es) ≡ es ++ e ∷ []
  demoted_front e es t = rw t refl

  pub removed_front : (e : K × X) (es : List (K × X)) → test e.0 ≡ true → remove_entry test (e ∷ es) ≡ es
  removed_front e es t = rw t refl

  pub set_front : (e : K × X) (es : List (K × X)) (w : X) → test e.0 ≡ true → set_value test (e ∷ es) w ≡ (e.0, w) ∷ es
  set_front e es w t = rw t refl

  pub lookup_front : (e : K × X) (es : List (K × X)) → test e.0 ≡ true → lookup test (e ∷ es) ≡ Some e.1
  lookup_front e es t = rw t refl

module _ {K X : Type 0} (test : K → Bool) where
  pub lookup-from_entry : (es : List (K × X)) → lookup test es ≡ option_map (λ (e : K × X). e.1) (lookup_entry test es)
  lookup-from_entry [] = refl
  lookup-from_entry (e ∷ es) = elim (test e.0) as (λ y. cond y (Some e.1) (lookup test es) ≡ option_map (λ (x : K × X). x.1) (cond y (Some e) (lookup_entry test es))) [
    | true ↦ refl
    | false ↦ lookup-from_entry es
  ]

  pub entry_none : (es : List (K × X)) → lookup test es ≡ None → lookup_entry test es ≡ None
  entry_none es h = none_back (λ (e : K × X). e.1) (lookup_entry test es) (sym (lookup-from_entry es) ∙ h)

  pub promoted_none : (es : List (K × X)) → lookup test es ≡ None → promoted test es ≡ es
  promoted_none es h = rw (entry_none es h) refl

  promoted_len : (es : List (K × X)) (o : Option (K × X)) → lookup_entry test es ≡ o → length (option_map_or (λ e. e ∷ remove_entry test es) o es) ≡ length es
  promoted_len es None h = refl
  promoted_len es (Some e) h = let r = length-remove_found test es e.1 (lookup-from_entry es ∙ ap (option_map (λ (x : K × X). x.1)) h) in omega arith

  pub length-promoted : (es : List (K × X)) → length (promoted test es) ≡ length es
  length-promoted es = promoted_len es (lookup_entry test es) refl

  -- a key that is not there isn't there once another is gone
  pub lookup_none-removed : (other : K → Bool) (es : List (K × X)) → lookup test es ≡ None → lookup test (remove_entry other es) ≡ None
  lookup_none-removed other [] h = refl
  lookup_none-removed other (e ∷ es) h = (elim (test e.0) as (λ y. test e.0 ≡ y → lookup test (remove_entry other (e ∷ es)) ≡ None) [
    | true ↦ λ t. let g = rw t at h in absurd (none-some e.1 (sym g))
    | false ↦ λ t. let g = rw t at h in elim (other e.0) as (λ y. lookup test (cond y es (e ∷ remove_entry other es)) ≡ None) [
      | true ↦ g
      | false ↦ rw t (lookup_none-removed other es g)
    ]
  ]) refl

module _ {K V : Type 0} where
  pub oldest_free-push : (es : List (K × Slot V)) (e : K × Slot V) → oldest_free (es ++ e ∷ []) ≡ cond (is_pinned e.1) (oldest_free es) (Some e)
  oldest_free-push [] e = elim (is_pinned e.1) as (λ y. option_or None (cond y None (Some e)) ≡ cond y None (Some e)) [ true ↦ refl | false ↦ refl ]
  oldest_free-push (f ∷ es) e = rw (oldest_free-push es e) (elim (is_pinned e.1) as (λ y. option_or (cond y (oldest_free es) (Some e)) (cond (is_pinned f.1) None (Some f)) ≡ cond y (oldest_free (f ∷ es)) (Some e)) [ true ↦ refl | false ↦ refl ])

  pub oldest_cases : (o : Option (K × Slot V)) (b : Bool) (f e : K × Slot V) → option_or o (cond b None (Some f)) ≡ Some e → {P : Type 0} → (o ≡ Some e → P) → (o ≡ None → f ≡ e → P) → P
  oldest_cases None true f e h p q = cc
  oldest_cases None false f e h p q = q refl cc
  oldest_cases (Some g) b f e h p q = p h

  pub oldest_free-key : (P : K → Type 0) (es : List (K × Slot V)) (e : K × Slot V) → oldest_free es ≡ Some e → AllByRecursion P (keys_of es) → P e.0
  oldest_free-key P [] e h all = cc
  oldest_free-key P (f ∷ es) e h all = oldest_cases (oldest_free es) (is_pinned f.1) f e h (λ g. oldest_free-key P es e g all.1) (λ _ g. subst (λ x. P x.0) g all.0)

  pub oldest_free-lookup : {eq : K → K → Bool} (laws : IsEquivalence eq) (es : List (K × Slot V)) (e : K × Slot V) → IsDistinct eq (keys_of es) → oldest_free es ≡ Some e → lookup (eq e.0) es ≡ Some e.1
  unfolding IsDistinct
  oldest_free-lookup laws [] e d h = cc
  oldest_free-lookup {eq} laws (f ∷ es) e d h = oldest_cases (oldest_free es) (is_pinned f.1) f e h
      (λ g. let apart : eq f.0 e.0 ≡ false = oldest_free-key (λ y. eq f.0 y ≡ false) es e g d.0 in
      let other : eq e.0 f.0 ≡ false = laws.symm e.0 f.0 ∙ apart in rw other (oldest_free-lookup laws es e d.1 g))
      (λ _ g. subst (λ x. lookup (eq x.0) (f ∷ es) ≡ Some x.1) g (rw (laws.refl f.0) refl))

  -- the last entry has no pin
  pub oldest_free-here : (es left t : List (K × Slot V)) (e : K × Slot V) → oldest_free es ≡ oldest_free left → left ≡ t ++ e ∷ [] → e.1.pins ≡ 0 → Some e.0 ≡ option_map (λ (x : K × Slot V). x.0) (oldest_free es)
  oldest_free-here es left t e h last z = rw (h, last, oldest_free-push t e, z) refl

  -- it has one
  pub oldest_free-before : (es left t : List (K × Slot V)) (e : K × Slot V) → oldest_free es ≡ oldest_free left → left ≡ t ++ e ∷ [] → is_pinned e.1 ≡ true → oldest_free es ≡ oldest_free t
  oldest_free-before es left t e h last z = rw (h, last, oldest_free-push t e, z) refl

  pub pinned_kept : (e : K × Slot V) (es : List (K × Slot V)) → is_pinned e.1 ≡ true → pinned (e ∷ es) ≡ e ∷ pinned es
  pinned_kept e es h = rw h refl

  pub pinned_gone : (e : K × Slot V) (es : List (K × Slot V)) → is_pinned e.1 ≡ false → pinned (e ∷ es) ≡ pinned es
  pinned_gone e es h = rw h refl

  pub length-pinned : (es : List (K × Slot V)) → length (pinned es) ≤ length es
  length-pinned [] = omega arith
  length-pinned (e ∷ es) = elim (is_pinned e.1) as (λ y. length (cond y (e ∷ pinned es) (pinned es)) ≤ length (e ∷ es)) [
    | true ↦ omega (arith, length-pinned es)
    | false ↦ omega (arith, length-pinned es)
  ]

  module _ (test : K → Bool) (es : List (K × Slot V)) (s : Slot V) (found : lookup test es ≡ Some s) where
    pub pin_full : s.pins ≡ 2 ^ 64 - 1 → set_value test es s ≡ pin_at test es
    pin_full z =
        let full : nat_lt s.pins (2 ^ 64 - 1) ≡ false = grind (arith, nat_tests) in
        set_value_same test es s found ∙ sym (rw (found, full) refl)

    pub unpin_none : s.pins ≡ 0 → set_value test es s ≡ unpin_at test es
    unpin_none z =
        let none : nat_lt 0 s.pins ≡ false = grind (arith, nat_tests) in
        set_value_same test es s found ∙ sym (rw (found, none) refl)
