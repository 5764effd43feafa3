-- A property of all entries of a cache still holds after entries are flushed, loaded or inserted.
use Rattle.std.proofs.Common.{◌≡◌, ◌∷◌, inl, inr, ℕ, eqb, Bool, true, false, List, [], Option, Some, None, Result, Ok, refl, sym, subst, cond}
use Rattle.qcow2_alloc.proofs.Common.{lookup_entry, remove_entry, option_map_or, promoted, Slot, CacheError, slot_of, Steps, Unit₀, FlushesEntry, FlushesAll, Flushes, GetsNew, HasRoomForEntry, InsertsNew, Replaces}
use Rattle.qcow2_alloc.proofs.CachedEntries.Cases.{flush_cases, get_cases, insert_cases, replace_cases}

-- it holds of a list where it holds of each entry
pub record IsOfEach {V : Type 0} (One : ℕ → V → Type 0) (All : List (ℕ × Slot V) → Type 0) : Type 0 where
  pub none : All []
  pub more : (e : ℕ × Slot V) (es : List (ℕ × Slot V)) → One e.0 e.1.value → All es → All (e ∷ es)
  pub first : (e : ℕ × Slot V) (es : List (ℕ × Slot V)) → All (e ∷ es) → One e.0 e.1.value
  pub rest : (e : ℕ × Slot V) (es : List (ℕ × Slot V)) → All (e ∷ es) → All es

some_is : {A : Type 0} {a b : A} → Some a ≡ Some b → a ≡ b
some_is e = cc

module _ {V : Type 0} {One : ℕ → V → Type 0} {All : List (ℕ × Slot V) → Type 0} (of : IsOfEach One All) where
  each_removed : (test : ℕ → Bool) (es : List (ℕ × Slot V)) → All es → All (remove_entry test es)
  each_removed test [] all = all
  each_removed test (e ∷ es) all = elim (test e.0) as (λ b. All (cond b es (e ∷ remove_entry test es))) [
    | true ↦ of.rest e es all
    | false ↦ of.more e (remove_entry test es) (of.first e es all) (each_removed test es (of.rest e es all))
  ]

  pub each_found : (test : ℕ → Bool) (es : List (ℕ × Slot V)) (e : ℕ × Slot V) → lookup_entry test es ≡ Some e → All es → One e.0 e.1.value
  each_found test [] e h all = absurd (cc)
  each_found test (f ∷ es) e h all = (elim (test f.0) as (λ b. test f.0 ≡ b → One e.0 e.1.value) [
    | true ↦ λ t. let h' = rw t at h in subst (λ (x : ℕ × Slot V). One x.0 x.1.value) (some_is h') (of.first f es all)
    | false ↦ λ t. each_found test es e (rw t at h) (of.rest f es all)
  ]) refl

  each_hit : (test : ℕ → Bool) (es : List (ℕ × Slot V)) (o : Option (ℕ × Slot V)) → lookup_entry test es ≡ o → All es → All (option_map_or (λ e. e ∷ remove_entry test es) o es)
  each_hit test es None h all = all
  each_hit test es (Some e) h all = of.more e (remove_entry test es) (each_found test es e h all) (each_removed test es all)

  pub each_promoted : (test : ℕ → Bool) (es : List (ℕ × Slot V)) → All es → All (promoted test es)
  each_promoted test es all = each_hit test es (lookup_entry test es) refl all

  module _ {S E : Type 0} (steps : Steps S ℕ V E) where
    -- where it holds of what a flush leaves of one
    module _ (flushed : (s t : S) (k : ℕ) (v w : V) → steps.flushed s k v w t → One k v → One k w) where
      one_flushed : (s t : S) (e : ℕ × Slot V) (x : Option E) (d : Slot V) → FlushesEntry steps s e x t d → One e.0 e.1.value → One e.0 d.value
      one_flushed s t e None d h one = flushed s t e.0 e.1.value d.value h.0 one
      one_flushed s t e (Some x) d h one = subst (λ (y : Slot V). One e.0 y.value) (sym h.1) one

      pub all_flushed : (s t : S) (es fs : List (ℕ × Slot V)) (x : Option E) → FlushesAll steps s es x t fs → All es → All fs
      all_flushed s t [] fs x h all = subst All (sym h.2) all
      all_flushed s t (e ∷ es) fs x h all = subst All (sym h.8) (of.more (e.0, h.2) h.4 (one_flushed s h.1 e h.0 h.2 h.5 (of.first e es all)) (all_flushed h.1 t es h.4 h.3 h.6 (of.rest e es all)))

      pub each_flushed : (s t : S) (es fs : List (ℕ × Slot V)) (r : Result Unit₀ (CacheError ℕ E)) → Flushes steps s es r t fs → All es → All fs
      each_flushed s t es fs r h all = let f = flush_cases steps s t es fs r h in all_flushed s t es fs f.0 f.1 all

    module _ (may_flush : Bool) (k : ℕ) (s t : S) (es fs : List (ℕ × Slot V)) (r : Result Bool (CacheError ℕ E)) (all : All es) where
      module _ (size : ℕ) where
        room_left : (q : S) (gs : List (ℕ × Slot V)) → HasRoomForEntry steps eqb size may_flush s es q gs → All gs
        room_left q gs room = elim room [
          | inl there ↦ subst All (sym there.2) all
          | inr evicts ↦ subst All (sym evicts.rest) (each_removed (eqb evicts.entry.0) es all)
        ]

        pub each_got : ((q : S) (v : V) → steps.loaded q k v t → One k v) → GetsNew steps eqb size may_flush k s es r t fs → All fs
        each_got loaded = get_cases steps s t es fs k may_flush All all eqb size room_left r (λ q gs v room loads. of.more (k, slot_of v 0) gs (loaded q v loads) (room_left q gs room))

        pub each_inserted : (v : V) (left : Option V) → (r ≡ Ok true → One k v) → InsertsNew steps eqb size may_flush k v s es r t fs left → All fs
        each_inserted v left is = insert_cases steps s t es fs k may_flush All all eqb size room_left v r left (λ gs ok room. of.more (k, slot_of v 0) gs (is ok) (room_left t gs room))

      pub each_replaced : (v : V) (e : ℕ × Slot V) (left : Option V) → lookup_entry (eqb k) es ≡ Some e → (r ≡ Ok true → One e.0 v) → Replaces steps k e (remove_entry (eqb k) es) v may_flush s es r t fs left → All fs
      each_replaced v e left found is =
          let others = each_removed (eqb k) es all in
          replace_cases steps s t es fs k may_flush All all e (remove_entry (eqb k) es) v r left (of.more e (remove_entry (eqb k) es) (each_found (eqb k) es e found all) others)
          (λ ok. of.more (e.0, slot_of v e.1.pins) (remove_entry (eqb k) es) (is ok) others)
