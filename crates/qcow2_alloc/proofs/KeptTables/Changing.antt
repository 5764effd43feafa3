-- A cached table is changed in place.
use Rattle.std.proofs.Common.{◌≡◌, ◌+◌, ◌-◌, ◌/◌, ◌%◌, ◌<◌, ◌&&◌, ◌∷◌, ◌++◌, inl, inr, ℕ, Bool, true, false, eqb, List, [], Option, Some, None, IsSome, refl, sym, ap, ◌∙◌, subst, arith}
use Rattle.qcow2_alloc.proofs.Common.{cases_Bool, eq-eqb, option_map, lookup, set_value, Bytes, is_within, CachedTable, known, overlays, AreApart, known-none, known_there, known_elsewhere, unmodified_over, overlays_within, within_cluster, cluster_within, Slot, slot_of, value_at, set_at, same_number, AreElsewhere, IsCurrent, AreLoaded, AllValuesFit}
use Rattle.qcow2_alloc.proofs.KeptTables.Loaded.{elsewhere_with, in_own_cluster}
use Rattle.qcow2_alloc.proofs.KeptTables.Listing.{free_elsewhere, loaded_distinct}
use Rattle.qcow2_alloc.proofs.KeptTables.Entries.{away_from}

-- ---- the entry of a key, and another value in its place
pub record Held {V : Type 0} (key : ℕ) (es : List (ℕ × Slot V)) (v : V) : Type 0 where
  pub front : List (ℕ × Slot V)
  pub back : List (ℕ × Slot V)
  pub pins : ℕ
  pub is : es ≡ front ++ (key, slot_of v pins) ∷ back
  pub set : (w : V) → set_at (eqb key) es w ≡ front ++ (key, slot_of w pins) ∷ back

set_found : {V : Type 0} (key : ℕ) (es : List (ℕ × Slot V)) (s : Slot V) (w : V) → lookup (eqb key) es ≡ Some s → set_at (eqb key) es w ≡ set_value (eqb key) es (slot_of w s.pins)
set_found key es s w found = rw found refl

record Splits {V : Type 0} (key : ℕ) (es : List (ℕ × Slot V)) (s : Slot V) : Type 0 where
  front : List (ℕ × Slot V)
  back : List (ℕ × Slot V)
  is : es ≡ front ++ (key, s) ∷ back
  set : (x : Slot V) → set_value (eqb key) es x ≡ front ++ (key, x) ∷ back

splits : {V : Type 0} (key : ℕ) (es : List (ℕ × Slot V)) (s : Slot V) → lookup (eqb key) es ≡ Some s → Splits key es s
splits key [] s h = absurd (cc)
splits key (e ∷ es) s h = (elim (eqb key e.0) as (λ b. eqb key e.0 ≡ b → Splits key (e ∷ es) s) [
  | true ↦ λ t.
      let h' = rw t at h in
      let own : e.0 ≡ key = sym (same_number key e.0 t) in
      let val : e.1 ≡ s = some_is h' in
      record { front = []; back = es; is = ap (λ k. (k, e.1) ∷ es) own ∙ ap (λ x. (key, x) ∷ es) val; set = λ x. rw t (ap (λ k. (k, x) ∷ es) own) }
  | false ↦ λ t.
      let r = splits key es s (rw t at h) in
      record { front = e ∷ r.front; back = r.back; is = ap (λ l. e ∷ l) r.is; set = λ x. rw t (ap (λ l. e ∷ l) (r.set x)) }
]) refl
  where
    some_is : {A : Type 0} {a b : A} → Some a ≡ Some b → a ≡ b
    some_is e = cc

pub new_data : {V : Type 0} (key : ℕ) (es : List (ℕ × Slot V)) (v : V) → value_at (eqb key) es ≡ Some v → Held key es v
new_data {V = V} key es v h = of (lookup (eqb key) es) refl h
  where
    some_is : {A : Type 0} {a b : A} → Some a ≡ Some b → a ≡ b
    some_is e = cc

    of : (o : Option (Slot V)) → lookup (eqb key) es ≡ o → option_map (λ s. s.value) o ≡ Some v → Held key es v
    of None found is = absurd (cc)
    of (Some s) found is =
        let sp = splits key es s found in
        let same : s ≡ slot_of v s.pins = ap (λ x. slot_of x s.pins) (some_is is) in
        record {
          front = sp.front;
          back = sp.back;
          pins = s.pins;
          is = sp.is ∙ ap (λ x. sp.front ++ (key, x) ∷ sp.back) same;
          set = λ w. set_found key es s w found ∙ sp.set (slot_of w s.pins);
        }

-- the same value leaves the entries as they are
pub set_same : {V : Type 0} (key : ℕ) (es : List (ℕ × Slot V)) (v : V) → value_at (eqb key) es ≡ Some v → set_at (eqb key) es v ≡ es
set_same key es v found = let there = new_data key es v found in there.set v ∙ sym there.is

-- an entry that is there is found, whatever stands before and behind it
found_there : {V : Type 0} (key : ℕ) (front back : List (ℕ × Slot V)) (s : Slot V) → IsSome (value_at (eqb key) (front ++ (key, s) ∷ back))
found_there key [] back s = rw (eq-eqb key key refl) refl
found_there key (e ∷ front) back s = (elim (eqb key e.0) as (λ b. eqb key e.0 ≡ b → IsSome (value_at (eqb key) (e ∷ (front ++ (key, s) ∷ back)))) [
  | true ↦ λ t. rw t refl
  | false ↦ λ t. rw t (found_there key front back s)
]) refl

-- a key that is held is held with another value
pub still_new_data : {V : Type 0} (key : ℕ) (es : List (ℕ × Slot V)) (v w : V) → value_at (eqb key) es ≡ Some v → IsSome (value_at (eqb key) (set_at (eqb key) es w))
still_new_data key es v w found = let there = new_data key es v found in subst (λ (l : List (ℕ × Slot _)). IsSome (value_at (eqb key) l)) (sym (there.set w)) (found_there key there.front there.back (slot_of w there.pins))

-- ---- lists of loaded tables

pub loaded_apart : (size : ℕ) (IsNamed : ℕ → Type 0) (on_storage : Bytes) (ts : List CachedTable) → AreLoaded size IsNamed ts on_storage → AreApart size ts
loaded_apart size IsNamed on_storage [] loaded = tt
loaded_apart size IsNamed on_storage (t ∷ ts) loaded = (
  loaded.0,
  (λ o over. free_elsewhere size IsNamed on_storage ts t.place o loaded.0 loaded.1 loaded.3 (within_cluster t.place size o loaded.0 (overlays_within size t o over))),
  loaded_apart size IsNamed on_storage ts loaded.3,
)

-- one becomes another one that is modified
pub loaded_changed : (size : ℕ) (IsNamed : ℕ → Type 0) (on_storage : Bytes) (front back : List CachedTable) (t t' : CachedTable) → t'.place ≡ t.place → t'.is_modified ≡ true
    → AreLoaded size IsNamed (front ++ t ∷ back) on_storage → AreLoaded size IsNamed (front ++ t' ∷ back) on_storage
loaded_changed size IsNamed on_storage [] back t t' place marked loaded = (
  ap (λ n. n % size) place ∙ loaded.0,
  subst (λ n. AreElsewhere n back) (sym place) loaded.1,
  (λ clean. absurd (differ t'.is_modified marked clean)),
  loaded.3,
)
  where
    differ : (b : Bool) → b ≡ true → b ≡ false → ⊥
    differ b is isnt = cc
loaded_changed size IsNamed on_storage (u ∷ front) back t t' place marked loaded =
    (loaded.0, elsewhere_with u.place front back t t' place loaded.1, loaded.2, loaded_changed size IsNamed on_storage front back t t' place marked loaded.3)

own_part : (size : ℕ) (IsNamed : ℕ → Type 0) (on_storage : Bytes) (front back : List CachedTable) (t : CachedTable) → AreLoaded size IsNamed (front ++ t ∷ back) on_storage
    → (t.place % size ≡ 0) × (t.is_modified ≡ false → IsNamed (t.place / size) → IsCurrent size t on_storage)
own_part size IsNamed on_storage [] back t loaded = (loaded.0, loaded.2)
own_part size IsNamed on_storage (u ∷ front) back t loaded = own_part size IsNamed on_storage front back t loaded.3

loaded_rest : (size : ℕ) (IsNamed : ℕ → Type 0) (on_storage : Bytes) (front back : List CachedTable) (t : CachedTable) → AreLoaded size IsNamed (front ++ t ∷ back) on_storage → AreLoaded size IsNamed (front ++ back) on_storage
loaded_rest size IsNamed on_storage [] back t loaded = loaded.3
loaded_rest size IsNamed on_storage (u ∷ front) back t loaded = (loaded.0, without front loaded.1, loaded.2, loaded_rest size IsNamed on_storage front back t loaded.3)
  where
    without : (front : List CachedTable) → AreElsewhere u.place (front ++ t ∷ back) → AreElsewhere u.place (front ++ back)
    without [] away = away.1
    without (v ∷ front) away = (away.0, without front away.1)

-- what a table that is named holds is known
module _ (size : ℕ) (IsNamed : ℕ → Type 0) (on_storage : Bytes) (front back : List CachedTable) (t : CachedTable) (loaded : AreLoaded size IsNamed (front ++ t ∷ back) on_storage) where
  pub place_aligned : t.place % size ≡ 0
  place_aligned = (own_part size IsNamed on_storage front back t loaded).0

  pub list_knows : IsNamed (t.place / size) → (i : ℕ) → i < size → known size (front ++ t ∷ back) on_storage (t.place + i) ≡ t.bytes i
  list_knows named i lt =
      let here = in_own_cluster size t.place i place_aligned lt in
      let some : 0 < size = omega arith in
      elim (cases_Bool t.is_modified) [
        | inl modified ↦
            let over : overlays size t (t.place + i) ≡ true = ap (λ m. m && is_within t.place size (t.place + i)) modified ∙ cluster_within t.place size (t.place + i) some place_aligned here in
            let back_to : t.place + i - t.place ≡ i = omega arith in
            known_there size front back t on_storage (t.place + i) (loaded_apart size IsNamed on_storage (front ++ t ∷ back) loaded) over ∙ ap t.bytes back_to
        | inr clean ↦
            let away = away_from front back t (loaded_distinct size IsNamed on_storage (front ++ t ∷ back) loaded) in
            known_elsewhere size front back t on_storage (t.place + i) (unmodified_over size t (t.place + i) clean)
            ∙ known-none size (front ++ back) on_storage (t.place + i) (free_elsewhere size IsNamed on_storage (front ++ back) t.place (t.place + i) place_aligned away (loaded_rest size IsNamed on_storage front back t loaded) here)
            ∙ sym ((own_part size IsNamed on_storage front back t loaded).1 clean named i lt)
      ]

-- ---- the values of entries, of which one is changed
module _ {V : Type 0} (IsFit : V → Type 0) where
  pub fit_set : (key : ℕ) (front back : List (ℕ × Slot V)) (v w : V) (pins : ℕ) → IsFit w → AllValuesFit IsFit (front ++ (key, slot_of v pins) ∷ back) → AllValuesFit IsFit (front ++ (key, slot_of w pins) ∷ back)
  fit_set key [] back v w pins is all = (is, all.1)
  fit_set key (u ∷ front) back v w pins is all = (all.0, fit_set key front back v w pins is all.1)

  pub fit_new_data : (key : ℕ) (front back : List (ℕ × Slot V)) (v : V) (pins : ℕ) → AllValuesFit IsFit (front ++ (key, slot_of v pins) ∷ back) → IsFit v
  fit_new_data key [] back v pins all = all.0
  fit_new_data key (u ∷ front) back v pins all = fit_new_data key front back v pins all.1
