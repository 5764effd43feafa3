-- Flushing only the modified entries is flushing all.
use Rattle.std.proofs.Common.{◌≡◌, ◌+◌, ◌≤◌, ◌∷◌, ◌++◌, Bool, true, false, cond, List, [], length, Option, Some, None, Result, Ok, Err, refl, sym, ap, ◌∙◌, subst, append_assoc, arith, length-append, IfSome, IsSome}
use Rattle.qcow2_alloc.proofs.Common.{set_value_same, none-some, same_Some, IsEquivalence, IsDistinct, AllByRecursion, keys_of, lookup, set_value, option_map_or, option_or, Slot, CacheError, InUse, StillInUse, Memory, Backend, Cache, with_entries, slot_of, Steps, FlushesAll, FlushesKey, first_marked, behind, IsFoundAs, marks_in, settled, failure_of, FlushesAt}
use Rattle.qcow2_alloc.proofs.Lemmas.{Flushing, flushing_more, flushing_all, option_or-none, marks_set, settled_right, mark_looked}

module _ {K V : Type 0} (is_modified : V → Bool) where
  -- no value is modified
  abbrev pub AreUnmodified : List (K × Slot V) → Type 0
  AreUnmodified es = AllByRecursion (λ (e : K × Slot V). is_modified e.1.value ≡ false) es

  -- the first modified entry, and what lies around it
  pub record IsFirstModified (j : K) (es : List (K × Slot V)) : Type 0 where
    pub before : List (K × Slot V)
    pub slot : Slot V
    pub rest : List (K × Slot V)
    pub split : es ≡ before ++ (j, slot) ∷ rest
    pub clean : AreUnmodified before

  pub first_modified : (es : List (K × Slot V)) (j : K) → first_marked (marks_in is_modified es) ≡ Some j → IsFirstModified j es
  first_modified [] j h = absurd (none-some j h)
  first_modified (e ∷ es) j h = (elim (is_modified e.1.value) as (λ b. is_modified e.1.value ≡ b → IsFirstModified j (e ∷ es)) [
    | true ↦ λ t. let k : e.0 ≡ j = same_Some e.0 j (rw t at h) in record { before = []; slot = e.1; rest = es; split = ap (λ x. (x, e.1) ∷ es) k; clean = tt }
    | false ↦ λ t. let r = first_modified es j (rw t at h) in record { before = e ∷ r.before; slot = r.slot; rest = r.rest; split = ap (λ l. e ∷ l) r.split; clean = (t, r.clean) }
  ]) refl

  pub none_modified : (es : List (K × Slot V)) → first_marked (marks_in is_modified es) ≡ None → AreUnmodified es
  none_modified [] h = tt
  none_modified (e ∷ es) h = (elim (is_modified e.1.value) as (λ b. is_modified e.1.value ≡ b → AreUnmodified (e ∷ es)) [
    | true ↦ λ t. absurd (none-some e.0 (sym (rw t at h)))
    | false ↦ λ t. (t, none_modified es (rw t at h))
  ]) refl

  pub marks_behind : (test : K → Bool) (es : List (K × Slot V)) → behind test (marks_in is_modified es) ≡ marks_in is_modified (behind test es)
  marks_behind test [] = refl
  marks_behind test (e ∷ es) = elim (test e.0) as (λ y. cond y (marks_in is_modified es) (behind test (marks_in is_modified es)) ≡ marks_in is_modified (cond y es (behind test es))) [
    | true ↦ refl
    | false ↦ marks_behind test es
  ]

module _ {K : Type 0} {eq : K → K → Bool} (laws : IsEquivalence eq) where
  -- no key of a list passes
  abbrev pub NonePasses : {X : Type 0} → K → List (K × X) → Type 0
  NonePasses {X} j es = AllByRecursion (λ (e : K × X). eq j e.0 ≡ false) es

  beside : {X : Type 0} (x j : K) (s : X) (front rest : List (K × X)) → AllByRecursion (λ y. eq x y ≡ false) (keys_of (front ++ (j, s) ∷ rest)) → eq x j ≡ false
  beside x j s [] rest all = all.0
  beside x j s (e ∷ es) rest all = beside x j s es rest all.1

  pub none_before : {X : Type 0} (j : K) (s : X) (front rest : List (K × X)) → IsDistinct eq (keys_of (front ++ (j, s) ∷ rest)) → NonePasses j front
  unfolding IsDistinct
  none_before j s [] rest d = tt
  none_before j s (e ∷ es) rest d = (laws.symm j e.0 ∙ beside e.0 j s es rest d.0, none_before j s es rest d.1)

  pub look_at : {X : Type 0} (j : K) (s : X) (front rest : List (K × X)) → NonePasses j front → lookup (eq j) (front ++ (j, s) ∷ rest) ≡ Some s
  look_at j s [] rest none = rw (laws.refl j) refl
  look_at j s (e ∷ es) rest none = rw (none.0) (look_at j s es rest none.1)

  pub put_at : {X : Type 0} (j : K) (s d : X) (front rest : List (K × X)) → NonePasses j front → set_value (eq j) (front ++ (j, s) ∷ rest) d ≡ front ++ (j, d) ∷ rest
  put_at j s d [] rest none = rw (laws.refl j) refl
  put_at j s d (e ∷ es) rest none = rw (none.0) (ap (λ l. e ∷ l) (put_at j s d es rest none.1))

  pub behind_at : {X : Type 0} (j : K) (s : X) (front rest : List (K × X)) → NonePasses j front → behind (eq j) (front ++ (j, s) ∷ rest) ≡ rest
  behind_at j s [] rest none = rw (laws.refl j) refl
  behind_at j s (e ∷ es) rest none = rw (none.0) (behind_at j s es rest none.1)

-- ---- the walk

module _ {S K V E : Type 0} (steps : Steps S K V E) (eq : K → K → Bool) (is_modified : V → Bool) where
  module _ (s₀ : S) (all : List (K × Slot V)) where
    -- as far as a flush has come, with the next modified key
    pub record IsWalking (first : Option E) (next : Option K) (s : S) (es : List (K × Slot V)) : Type 0 where
      pub todo : List (K × Slot V)
      pub done : List (K × Slot V)
      pub split : es ≡ done ++ todo
      pub flushing : Flushing steps s₀ all first s todo done
      pub found : IsFoundAs eq next (first_marked (marks_in is_modified todo))

    pub walk_begins : (next : Option K) → IsFoundAs eq next (first_marked (marks_in is_modified all)) → IsWalking None next s₀ all
    walk_begins next found = record { todo = all; done = []; split = refl; flushing = record { eviction_on = λ y t rest h. h }; found = found }

    module _ (rests : (s : S) (k : K) (v : V) → is_modified v ≡ false → steps.flushed s k v v s) where
      -- what isn't modified is passed
      passed : (first : Option E) (s : S) (before todo done : List (K × Slot V)) → AreUnmodified is_modified before → Flushing steps s₀ all first s (before ++ todo) done → Flushing steps s₀ all first s todo (done ++ before)
      passed first s [] todo done clean f = subst (λ l. Flushing steps s₀ all first s todo l) (sym (append_nil done)) f
        where
          append_nil : {X : Type 0} (l : List X) → l ++ [] ≡ l
          append_nil [] = refl
          append_nil (x ∷ xs) = ap (λ l. x ∷ l) (append_nil xs)
      passed first s (e ∷ es) todo done clean f =
          let one = flushing_more steps s₀ all first s e (es ++ todo) done None s e.1 f (rests s e.0 e.1.value clean.0, refl) in
          let on = subst (λ o. Flushing steps s₀ all o s (es ++ todo) (done ++ e ∷ [])) (option_or-none first) one in
          subst (λ l. Flushing steps s₀ all first s todo l) (append_assoc done (e ∷ []) es) (passed first s es todo (done ++ e ∷ []) clean.1 on)

      pub walk_ends : (first : Option E) (s : S) (es : List (K × Slot V)) → IsWalking first None s es → FlushesAll steps s₀ all first s es
      walk_ends first s es w =
          let f = passed first s w.todo [] w.done (none_modified is_modified w.todo (none_as w.found)) (subst (λ l. Flushing steps s₀ all first s l w.done) (sym (append_nil w.todo)) w.flushing) in
          subst (FlushesAll steps s₀ all first s) (sym w.split) (flushing_all steps s₀ all first s (w.done ++ w.todo) f)
        where
          append_nil : {X : Type 0} (l : List X) → l ++ [] ≡ l
          append_nil [] = refl
          append_nil (x ∷ xs) = ap (λ l. x ∷ l) (append_nil xs)

          none_as : {o : Option K} → IsFoundAs eq None o → o ≡ None
          none_as {o = None} h = refl
          none_as {o = Some j} h = absurd h

      module _ (laws : IsEquivalence eq) (exact : (j k : K) → eq j k ≡ true → j ≡ k) (first : Option E) (k : K) (s : S) (es : List (K × Slot V)) (w : IsWalking first (Some k) s es) (distinct : IsDistinct eq (keys_of es)) where
        -- the key that was found, and the entry under it
        record Here : Type 0 where
          at : IsFirstModified is_modified k w.todo
          split : es ≡ (w.done ++ at.before) ++ (k, at.slot) ∷ at.rest
          none : NonePasses laws k (w.done ++ at.before)

        here_of : (o : Option K) → first_marked (marks_in is_modified w.todo) ≡ o → IsFoundAs eq (Some k) o → Here
        here_of None h found = absurd found
        here_of (Some j) h found =
            let at = first_modified is_modified w.todo k (h ∙ ap Some (sym (exact k j found))) in
            let split : es ≡ (w.done ++ at.before) ++ (k, at.slot) ∷ at.rest = w.split ∙ ap (λ l. w.done ++ l) at.split ∙ sym (append_assoc w.done at.before ((k, at.slot) ∷ at.rest)) in
            record { at = at; split = split; none = none_before laws k at.slot (w.done ++ at.before) at.rest (subst (λ l. IsDistinct eq (keys_of l)) split distinct) }

        here : Here
        here = here_of (first_marked (marks_in is_modified w.todo)) refl w.found

        found_here : lookup (eq k) es ≡ Some here.at.slot
        found_here = ap (lookup (eq k)) here.split ∙ look_at laws k here.at.slot (w.done ++ here.at.before) here.at.rest here.none

        pub is_held : IsSome (lookup (eq k) es)
        is_held = rw found_here refl

        pub measured : length (behind (eq k) es) + 1 ≤ length w.todo
        measured =
            let left : behind (eq k) es ≡ here.at.rest = ap (behind (eq k)) here.split ∙ behind_at laws k here.at.slot (w.done ++ here.at.before) here.at.rest here.none in
            let whole = ap length here.at.split ∙ length-append here.at.before ((k, here.at.slot) ∷ here.at.rest) in
            rw left (omega (arith, whole))

        -- one entry further
        pub record HasWalked (first' : Option E) (next' : Option K) (t : S) (fs : List (K × Slot V)) : Type 0 where
          pub walk : IsWalking first' next' t fs
          pub shorter : length walk.todo + 1 ≡ length (behind (eq k) es) + 1

        pub walks_on : {B : Type 0} (old new : Cache B K V) → old.entries ≡ es → (x : Option E) (t : S) → IfSome (lookup (eq k) old.entries) (λ d. FlushesAt eq steps k d s old x t new)
            → (next' : Option K) → IsFoundAs eq next' (first_marked (behind (eq k) (marks_in is_modified new.entries))) → HasWalked (option_or first x) next' t new.entries
        walks_on old new same x t flush next' found =
            let f = rw (ap (lookup (eq k)) same ∙ found_here) at flush in
            let front = w.done ++ here.at.before in
            let entries : new.entries ≡ front ++ (k, f.slot) ∷ here.at.rest =
            ap (λ (c : Cache _ K V). c.entries) f.entries ∙ ap (λ l. set_value (eq k) l f.slot) (same ∙ here.split) ∙ put_at laws k here.at.slot f.slot front here.at.rest here.none in
            let rest : behind (eq k) (marks_in is_modified new.entries) ≡ marks_in is_modified here.at.rest =
            ap (λ l. behind (eq k) (marks_in is_modified l)) entries ∙ marks_behind is_modified (eq k) (front ++ (k, f.slot) ∷ here.at.rest) ∙ ap (marks_in is_modified) (behind_at laws k f.slot front here.at.rest here.none) in
            let clean = passed first s here.at.before ((k, here.at.slot) ∷ here.at.rest) w.done here.at.clean (subst (λ l. Flushing steps s₀ all first s l w.done) here.at.split w.flushing) in record {
              walk = record {
                todo = here.at.rest;
                done = front ++ (k, f.slot) ∷ [];
                split = entries ∙ sym (append_assoc front ((k, f.slot) ∷ []) here.at.rest);
                flushing = flushing_more steps s₀ all first s (k, here.at.slot) here.at.rest front x t f.slot clean f.step;
                found = subst (λ l. IsFoundAs eq next' (first_marked l)) rest found;
              };
              shorter = ap (λ l. length l + 1) (sym (ap (behind (eq k)) here.split ∙ behind_at laws k here.at.slot front here.at.rest here.none));
            }

    -- what is left of the walk
    pub left_to_walk : (laws : IsEquivalence eq) (exact : (j k : K) → eq j k ≡ true → j ≡ k) (rests : (s : S) (k : K) (v : V) → is_modified v ≡ false → steps.flushed s k v v s) (first : Option E) (next : Option K) (s : S) (es : List (K × Slot V))
        (w : IsWalking first next s es) → IsDistinct eq (keys_of es) → option_map_or (λ k. length (behind (eq k) es) + 1) next 0 ≤ length w.todo
    left_to_walk laws exact rests first None s es w distinct = omega arith
    left_to_walk laws exact rests first (Some k) s es w distinct = measured rests laws exact first k s es w distinct

  -- ---- one flush

  put_found : {X : Type 0} (test : K → Bool) (es : List (K × X)) (d w : X) → lookup test es ≡ Some d → lookup test (set_value test es w) ≡ Some w
  put_found test [] d w h = absurd (none-some d h)
  put_found test (e ∷ es) d w h = (elim (test e.0) as (λ y. test e.0 ≡ y → lookup test (set_value test (e ∷ es) w) ≡ Some w) [
    | true ↦ λ t. rw (t, t) refl
    | false ↦ λ t. rw (t, t) (put_found test es d w (rw t at h))
  ]) refl

  -- what one flush leaves
  pub flushed_so : {B : Type 0} (k : K) (d : Slot V) (s t : S) (old new : Cache B K V) (r : Result Bool (CacheError K E)) → lookup (eq k) old.entries ≡ Some d → new ≡ with_entries old new.entries
      → FlushesKey steps (eq k) k d s old.entries r t new.entries → FlushesAt eq steps k d s old (failure_of r) t new
  flushed_so k d s t old new (Ok true) found others h = record { slot = slot_of h.0 d.pins; step = (h.1, refl); entries = others ∙ ap (with_entries old) h.2 }
  flushed_so k d s t old new (Ok false) found others h = absurd h
  flushed_so k d s t old new (Err (Backend x)) found others h = record { slot = d; step = (h.0, refl); entries = others ∙ ap (with_entries old) (h.1 ∙ sym (set_value_same (eq k) old.entries d found)) }
  flushed_so k d s t old new (Err InUse) found others h = absurd h
  flushed_so k d s t old new (Err Memory) found others h = absurd h
  flushed_so k d s t old new (Err (StillInUse _)) found others h = absurd h

  pub flushed_settled : (lawful : (s t : S) (k : K) (v w : V) → steps.flushed s k v w t → is_modified w ≡ false) (k : K) (d : Slot V) (s t : S) (es fs : List (K × Slot V)) (r : Result Bool (CacheError K E))
      → lookup (eq k) es ≡ Some d → FlushesKey steps (eq k) k d s es r t fs → settled eq is_modified fs k (marks_in is_modified es) ≡ marks_in is_modified fs
  flushed_settled lawful k d s t es fs (Ok true) found h =
      let clean = lawful s t k d.value h.0 h.1 in
      let slot = slot_of h.0 d.pins in
      subst (λ l. settled eq is_modified l k (marks_in is_modified es) ≡ marks_in is_modified l) (sym h.2)
      (rw ((put_found (eq k) es d slot found), clean) (sym (marks_set is_modified (eq k) es slot ∙ ap (set_value (eq k) (marks_in is_modified es)) clean)))
  flushed_settled lawful k d s t es fs (Ok false) found h = absurd h
  flushed_settled lawful k d s t es fs (Err (Backend x)) found h = subst (λ l. settled eq is_modified l k (marks_in is_modified es) ≡ marks_in is_modified l) (sym h.1) (settled_right is_modified eq es (marks_in is_modified es) k (mark_looked is_modified (eq k) es))
  flushed_settled lawful k d s t es fs (Err InUse) found h = absurd h
  flushed_settled lawful k d s t es fs (Err Memory) found h = absurd h
  flushed_settled lawful k d s t es fs (Err (StillInUse _)) found h = absurd h

  -- of the entry that is there
  pub record IsFlushedSo {B : Type 0} (k : K) (s t : S) (old new : Cache B K V) (r : Result Bool (CacheError K E)) : Type 0 where
    pub flushed : IfSome (lookup (eq k) old.entries) (λ d. FlushesAt eq steps k d s old (failure_of r) t new)
    pub settled_so : settled eq is_modified new.entries k (marks_in is_modified old.entries) ≡ marks_in is_modified new.entries

  pub is_flushed_so : (lawful : (s t : S) (k : K) (v w : V) → steps.flushed s k v w t → is_modified w ≡ false) {B : Type 0} (k : K) (s t : S) (old new : Cache B K V) (r : Result Bool (CacheError K E)) (o : Option (Slot V)) → lookup (eq k) old.entries ≡ o
      → IsSome o → new ≡ with_entries old new.entries → IfSome o (λ d. FlushesKey steps (eq k) k d s old.entries r t new.entries) → IsFlushedSo k s t old new r
  is_flushed_so lawful k s t old new r None found there others h = cc
  is_flushed_so lawful k s t old new r (Some d) found there others h = record {
    flushed = rw found (flushed_so k d s t old new r found others h);
    settled_so = flushed_settled lawful k d s t old.entries new.entries r found h;
  }
