-- What a call does to the pins of the entries: each key keeps its own pins.
use Rattle.std.proofs.Common.{◌≡◌, ◌∷◌, ℕ, Bool, true, false, cond, inl, inr, List, [], Option, Some, None, Result, refl, sym, ap, ◌∙◌, subst, arith, nat_lt, IfSome, IsSome}
use Rattle.qcow2_alloc.proofs.Common.{nat_tests, IsEquivalence, AllByRecursion, IsDistinct, option_map, option_map_or, option_or, keys_of, lookup, lookup_entry, remove_entry, set_value, lookup-remove_entry, promoted, Slot, CacheError, slot_of, pins_at, is_pinned, pinned, oldest_free, KeepsPins, Steps, FlushesEntry, FlushesAll, HasRoomForEntry, InsertsNew, GetsNew, Replaces}
use Rattle.qcow2_alloc.proofs.CachedEntries.Knowing.{lookup_alike, removed_apart, lookup-promoted}
use Rattle.qcow2_alloc.proofs.CachedEntries.Lists.{oldest_cases, oldest_free-lookup, pinned_kept, pinned_gone, none_is_none, lookup-from_entry}
use Rattle.qcow2_alloc.proofs.CachedEntries.Room.{room_missing}
use Rattle.qcow2_alloc.proofs.CachedEntries.Cases.{get_cases, insert_cases, replace_cases}

-- ---- lists in which none is pinned
module _ {K V : Type 0} where
  -- no entry has a pin
  abbrev AreFree : List (K × Slot V) → Type 0
  AreFree [] = Unit {0}
  AreFree (e ∷ es) = (is_pinned e.1 ≡ false) × AreFree es

  free_case : (e : K × Slot V) (es : List (K × Slot V)) (b : Bool) → cond b (e ∷ pinned es) (pinned es) ≡ [] → (b ≡ false) × (pinned es ≡ [])
  free_case e es true h = cc
  free_case e es false h = (refl, h)

  are_free : (es : List (K × Slot V)) → pinned es ≡ [] → AreFree es
  are_free [] h = tt
  are_free (e ∷ es) h = let c = free_case e es (is_pinned e.1) h in (c.0, are_free es c.1)

  none_pinned : (es : List (K × Slot V)) → AreFree es → pinned es ≡ []
  none_pinned [] h = refl
  none_pinned (e ∷ es) h = pinned_gone e es h.0 ∙ none_pinned es h.1

  free_removed : (test : K → Bool) (es : List (K × Slot V)) → AreFree es → AreFree (remove_entry test es)
  free_removed test [] h = tt
  free_removed test (e ∷ es) h = elim (test e.0) as (λ b. AreFree (cond b es (e ∷ remove_entry test es))) [ true ↦ h.1 | false ↦ (h.0, free_removed test es h.1) ]

  free_entry : (test : K → Bool) (es : List (K × Slot V)) (e : K × Slot V) → lookup_entry test es ≡ Some e → AreFree es → is_pinned e.1 ≡ false
  free_entry test [] e h all = absurd (cc)
  free_entry test (f ∷ es) e h all = (elim (test f.0) as (λ b. test f.0 ≡ b → is_pinned e.1 ≡ false) [
    | true ↦ λ t. let h' = rw t at h in subst (λ (x : K × Slot V). is_pinned x.1 ≡ false) (some_is h') all.0
    | false ↦ λ t. free_entry test es e (rw t at h) all.1
  ]) refl
    where
      some_is : {A : Type 0} {a b : A} → Some a ≡ Some b → a ≡ b
      some_is e = cc

  free_hit : (test : K → Bool) (es : List (K × Slot V)) (o : Option (K × Slot V)) → lookup_entry test es ≡ o → AreFree es → AreFree (option_map_or (λ e. e ∷ remove_entry test es) o es)
  free_hit test es None h all = all
  free_hit test es (Some e) h all = (free_entry test es e h all, free_removed test es all)

  -- another value in its place, with its pins
  free_set : (test : K → Bool) (es : List (K × Slot V)) (s w : Slot V) → lookup test es ≡ Some s → w.pins ≡ s.pins → AreFree es → AreFree (set_value test es w)
  free_set test [] s w found same all = all
  free_set test (e ∷ es) s w found same all = (elim (test e.0) as (λ b. test e.0 ≡ b → AreFree (set_value test (e ∷ es) w)) [
    | true ↦ λ t. let h = rw t at found in let is : e.1 ≡ s = some_is h in rw t (ap (λ n. nat_lt 0 n) same ∙ ap (λ (x : Slot V). is_pinned x) (sym is) ∙ all.0, all.1)
    | false ↦ λ t. rw t (all.0, free_set test es s w (rw t at found) same all.1)
  ]) refl
    where
      some_is : {A : Type 0} {a b : A} → Some a ≡ Some b → a ≡ b
      some_is e = cc

  pub set_free : (test : K → Bool) (es : List (K × Slot V)) (s w : Slot V) → lookup test es ≡ Some s → w.pins ≡ s.pins → pinned es ≡ [] → pinned (set_value test es w) ≡ []
  set_free test es s w found same free = none_pinned (set_value test es w) (free_set test es s w found same (are_free es free))

  pub removed_free : (test : K → Bool) (es : List (K × Slot V)) → pinned es ≡ [] → pinned (remove_entry test es) ≡ []
  removed_free test es free = none_pinned (remove_entry test es) (free_removed test es (are_free es free))

  -- the entries with a pin have one
  pub pinned_twice : (es : List (K × Slot V)) → pinned (pinned es) ≡ pinned es
  pinned_twice [] = refl
  pinned_twice (e ∷ es) = (elim (is_pinned e.1) as (λ b. is_pinned e.1 ≡ b → pinned (pinned (e ∷ es)) ≡ pinned (e ∷ es)) [
    | true ↦ λ is. ap pinned (pinned_kept e es is) ∙ pinned_kept e (pinned es) is ∙ ap (λ l. e ∷ l) (pinned_twice es) ∙ sym (pinned_kept e es is)
    | false ↦ λ is. ap pinned (pinned_gone e es is) ∙ pinned_twice es ∙ sym (pinned_gone e es is)
  ]) refl

  -- the oldest entry with no pin has none
  pub oldest_unpinned : (es : List (K × Slot V)) (e : K × Slot V) → oldest_free es ≡ Some e → is_pinned e.1 ≡ false
  oldest_unpinned [] e h = absurd (cc)
  oldest_unpinned (f ∷ es) e h =
      (elim (is_pinned f.1) as (λ b. is_pinned f.1 ≡ b → option_or (oldest_free es) (cond b None (Some f)) ≡ Some e → is_pinned e.1 ≡ false) [
        | true ↦ λ t g. oldest_cases (oldest_free es) true f e g (λ later. oldest_unpinned es e later) (λ none _. absurd (let g' = rw none at g in cc))
        | false ↦ λ t g. oldest_cases (oldest_free es) false f e g (λ later. oldest_unpinned es e later) (λ _ is. subst (λ (x : K × Slot V). is_pinned x.1 ≡ false) is t)
      ]) refl h

  -- where there is no oldest one, all are pinned
  none_left : (o : Option (K × Slot V)) (b : Bool) (e : K × Slot V) → option_or o (cond b None (Some e)) ≡ None → (o ≡ None) × (b ≡ true)
  none_left None true e h = (refl, refl)
  none_left None false e h = cc
  none_left (Some x) b e h = cc

  pub all_pinned : (es : List (K × Slot V)) → oldest_free es ≡ None → pinned es ≡ es
  all_pinned [] h = refl
  all_pinned (e ∷ es) h = let c = none_left (oldest_free es) (is_pinned e.1) e h in pinned_kept e es c.1 ∙ ap (λ l. e ∷ l) (all_pinned es c.0)

no_pins : {V : Type 0} (s : Slot V) → is_pinned s ≡ false → s.pins ≡ 0
no_pins s h = grind (arith, nat_tests)

-- ---- what calls do to the pins
module _ {K V : Type 0} (eq : K → K → Bool) where
  abbrev Kept : List (K × Slot V) → List (K × Slot V) → Type 0
  Kept es fs = KeepsPins eq es fs

  abbrev pins_of : Option (Slot V) → ℕ
  pins_of o = option_map_or (λ s. s.pins) o 0

  pub pins_same : (es fs : List (K × Slot V)) → fs ≡ es → Kept es fs
  pins_same es fs is = record { pins = λ k. ap (λ l. pins_at (eq k) l) is; free = λ h. ap pinned is ∙ h }

  pub pins_then : (ds es fs : List (K × Slot V)) → Kept ds es → Kept es fs → Kept ds fs
  pins_then ds es fs g h = record { pins = λ k. h.pins k ∙ g.pins k; free = λ f. h.free (g.free f) }

  module _ (laws : IsEquivalence eq) where
    pub pins_promoted : (es : List (K × Slot V)) (k : K) → Kept es (promoted (eq k) es)
    pins_promoted es k = record {
      pins = λ j. ap pins_of (lookup-promoted laws es k j);
      free = λ f. none_pinned (promoted (eq k) es) (free_hit (eq k) es (lookup_entry (eq k) es) refl (are_free es f));
    }

    gone_case : (es : List (K × Slot V)) (e : K × Slot V) → IsDistinct eq (keys_of es) → oldest_free es ≡ Some e → (j : K) (c : Bool) → eq e.0 j ≡ c → pins_at (eq j) (remove_entry (eq e.0) es) ≡ pins_at (eq j) es
    gone_case es e d eviction j true same =
        let gone : lookup (eq j) (remove_entry (eq e.0) es) ≡ None = lookup-remove_entry laws (eq e.0) (λ p q z. laws.congr e.0 p q z) j es d ∙ ap (λ c. cond c None (lookup (eq j) es)) same in
        let was : lookup (eq j) es ≡ Some e.1 = sym (lookup_alike laws es e.0 j same) ∙ oldest_free-lookup laws es e d eviction in
        ap pins_of gone ∙ sym (ap pins_of was ∙ no_pins e.1 (oldest_unpinned es e eviction))
    gone_case es e d eviction j false other = ap pins_of (removed_apart laws es e.0 j other)

    -- the oldest entry with no pin goes
    pins_gone : (es : List (K × Slot V)) (e : K × Slot V) → IsDistinct eq (keys_of es) → oldest_free es ≡ Some e → Kept es (remove_entry (eq e.0) es)
    pins_gone es e d eviction = record {
      pins = λ j. gone_case es e d eviction j (eq e.0 j) refl;
      free = λ f. none_pinned (remove_entry (eq e.0) es) (free_removed (eq e.0) es (are_free es f));
    }

    none_later : (es : List (K × Slot V)) (k j : K) → AllByRecursion (λ y. eq k y ≡ false) (keys_of es) → eq k j ≡ true → lookup (eq j) es ≡ None
    none_later [] k j apart same = refl
    none_later (e ∷ es) k j apart same = rw (sym (laws.congr k j e.0 same) ∙ apart.0) (none_later es k j apart.1 same)

    pinned_pins : (es : List (K × Slot V)) → IsDistinct eq (keys_of es) → (j : K) → pins_at (eq j) (pinned es) ≡ pins_at (eq j) es
    unfolding IsDistinct
    pinned_pins [] d j = refl
    pinned_pins (e ∷ es) d j = (elim (is_pinned e.1) as (λ b. is_pinned e.1 ≡ b → pins_at (eq j) (pinned (e ∷ es)) ≡ pins_at (eq j) (e ∷ es)) [
      | true ↦ λ is. ap (λ l. pins_at (eq j) l) (pinned_kept e es is) ∙ (elim (eq j e.0) as (λ b. pins_of (cond b (Some e.1) (lookup (eq j) (pinned es))) ≡ pins_of (cond b (Some e.1) (lookup (eq j) es))) [
        | true ↦ refl
        | false ↦ pinned_pins es d.1 j
      ])
      | false ↦ λ is. ap (λ l. pins_at (eq j) l) (pinned_gone e es is) ∙ pinned_pins es d.1 j ∙ free_case_of (eq j e.0) refl is
    ]) refl
      where
        free_case_of : (b : Bool) → eq j e.0 ≡ b → is_pinned e.1 ≡ false → pins_of (lookup (eq j) es) ≡ pins_of (cond b (Some e.1) (lookup (eq j) es))
        free_case_of false same is = refl
        free_case_of true same is = ap pins_of (none_later es e.0 j d.0 (laws.symm e.0 j ∙ same)) ∙ sym (no_pins e.1 is)

    -- those without a pin go
    pub pins_pinned : (es : List (K × Slot V)) → IsDistinct eq (keys_of es) → Kept es (pinned es)
    pins_pinned es d = record { pins = pinned_pins es d; free = λ f. pinned_twice es ∙ f }

    new_case : (es : List (K × Slot V)) (k : K) (v : V) → lookup (eq k) es ≡ None → (j : K) (c : Bool) → eq j k ≡ c → pins_of (cond c (Some (slot_of v 0)) (lookup (eq j) es)) ≡ pins_at (eq j) es
    new_case es k v none j true same = sym (ap pins_of (lookup_alike laws es j k same ∙ none))
    new_case es k v none j false other = refl

    -- a new entry comes with no pin
    pins_new : (es : List (K × Slot V)) (k : K) (v : V) → lookup (eq k) es ≡ None → Kept es ((k, slot_of v 0) ∷ es)
    pins_new es k v none = record { pins = λ j. new_case es k v none j (eq j k) refl; free = λ f. f }

    -- another value comes in the place of one, with its pins
    pins_put : (es : List (K × Slot V)) (k : K) (e : K × Slot V) (v : V) → lookup_entry (eq k) es ≡ Some e → Kept es ((e.0, slot_of v e.1.pins) ∷ remove_entry (eq k) es)
    pins_put es k e v found =
        let front : promoted (eq k) es ≡ e ∷ remove_entry (eq k) es = rw found refl in
        let moved = pins_promoted es k in record {
          pins = λ j. put_case j (eq j e.0) ∙ ap (λ l. pins_at (eq j) l) (sym front) ∙ moved.pins j;
          free = λ f. let a = are_free es f in none_pinned ((e.0, slot_of v e.1.pins) ∷ remove_entry (eq k) es) (free_entry (eq k) es e found a, free_removed (eq k) es a);
        }
      where
        put_case : (j : K) (c : Bool) → pins_of (cond c (Some (slot_of v e.1.pins)) (lookup (eq j) (remove_entry (eq k) es))) ≡ pins_of (cond c (Some e.1) (lookup (eq j) (remove_entry (eq k) es)))
        put_case j true = refl
        put_case j false = refl

    module _ {S E : Type 0} (steps : Steps S K V E) where
      one_pins : (s : S) (e : K × Slot V) (x : Option E) (t : S) (d : Slot V) → FlushesEntry steps s e x t d → d.pins ≡ e.1.pins
      one_pins s e None t d h = h.1
      one_pins s e (Some x) t d h = ap (λ (y : Slot V). y.pins) h.1

      all_pins : (s : S) (es : List (K × Slot V)) (x : Option E) (t : S) (fs : List (K × Slot V)) → FlushesAll steps s es x t fs → (k : K) → pins_at (eq k) fs ≡ pins_at (eq k) es
      all_pins s [] x t fs h k = ap (λ l. pins_at (eq k) l) h.2
      all_pins s (e ∷ es) x t fs h k =
          ap (λ l. pins_at (eq k) l) h.8 ∙ (elim (eq k e.0) as (λ b. pins_of (cond b (Some h.2) (lookup (eq k) h.4)) ≡ pins_of (cond b (Some e.1) (lookup (eq k) es))) [
            | true ↦ one_pins s e h.0 h.1 h.2 h.5
            | false ↦ all_pins h.1 es h.3 t h.4 h.6 k
          ])

      all_free : (s : S) (es : List (K × Slot V)) (x : Option E) (t : S) (fs : List (K × Slot V)) → FlushesAll steps s es x t fs → AreFree es → AreFree fs
      all_free s [] x t fs h a = subst AreFree (sym h.2) tt
      all_free s (e ∷ es) x t fs h a = subst AreFree (sym h.8) (ap (λ n. nat_lt 0 n) (one_pins s e h.0 h.1 h.2 h.5) ∙ a.0, all_free h.1 es h.3 t h.4 h.6 a.1)

      -- a flush of all
      pub all_keep_pins : (s : S) (es : List (K × Slot V)) (x : Option E) (t : S) (fs : List (K × Slot V)) → FlushesAll steps s es x t fs → Kept es fs
      all_keep_pins s es x t fs h = record { pins = all_pins s es x t fs h; free = λ f. none_pinned fs (all_free s es x t fs h (are_free es f)) }

      module _ (size : ℕ) (may_flush : Bool) (s : S) (es : List (K × Slot V)) where
        room_pins : (t : S) (fs : List (K × Slot V)) → IsDistinct eq (keys_of es) → HasRoomForEntry steps eq size may_flush s es t fs → Kept es fs
        room_pins t fs d h = elim h [
          | inl r ↦ pins_same es fs r.2
          | inr r ↦ subst (Kept es) (sym r.rest) (pins_gone es r.entry d r.eviction)
        ]

        -- a load of a new key
        pub gets_keep_pins : (k : K) (r : Result Bool (CacheError K E)) (t : S) (fs : List (K × Slot V)) → IsDistinct eq (keys_of es) → lookup (eq k) es ≡ None
            → GetsNew steps eq size may_flush k s es r t fs → Kept es fs
        gets_keep_pins k r t fs d none =
            get_cases steps s t es fs k may_flush (Kept es) (pins_same es es refl) eq size (λ q gs room. room_pins q gs d room) r
            (λ q gs v room _. pins_then es gs ((k, slot_of v 0) ∷ gs) (room_pins q gs d room) (pins_new gs k v (room_missing steps eq size may_flush k s es q gs room none)))

        inserts_keep : (k : K) (v : V) (r : Result Bool (CacheError K E)) (t : S) (fs : List (K × Slot V)) (left : Option V) → IsDistinct eq (keys_of es) → lookup (eq k) es ≡ None
            → InsertsNew steps eq size may_flush k v s es r t fs left → Kept es fs
        inserts_keep k v r t fs left d none =
            insert_cases steps s t es fs k may_flush (Kept es) (pins_same es es refl) eq size (λ q gs room. room_pins q gs d room) v r left
            (λ gs _ room. pins_then es gs ((k, slot_of v 0) ∷ gs) (room_pins t gs d room) (pins_new gs k v (room_missing steps eq size may_flush k s es t gs room none)))

        -- a value is put in
        pub inserts_keep_pins : (k : K) (o : Option V) (r : Result Bool (CacheError K E)) (t : S) (fs : List (K × Slot V)) (left : Option V) → IsDistinct eq (keys_of es) → lookup (eq k) es ≡ None → IsSome o
            → IfSome o (λ v. InsertsNew steps eq size may_flush k v s es r t fs left) → Kept es fs
        inserts_keep_pins k None r t fs left d none some h = absurd (cc)
        inserts_keep_pins k (Some v) r t fs left d none some h = inserts_keep k v r t fs left d none h

      module _ (may_flush : Bool) (s : S) (es : List (K × Slot V)) (k : K) (t : S) (fs : List (K × Slot V)) (left : Option V) where
        replaces_keep : (e : K × Slot V) (v : V) (r : Result Bool (CacheError K E)) → lookup_entry (eq k) es ≡ Some e → Replaces steps k e (remove_entry (eq k) es) v may_flush s es r t fs left → Kept es fs
        replaces_keep e v r found = replace_cases steps s t es fs k may_flush (Kept es) (pins_same es es refl) e (remove_entry (eq k) es) v r left (pins_put es k e e.1.value found) (λ _. pins_put es k e v found)

        replaced_of : (e : Option (K × Slot V)) (o : Option V) (r : Result Bool (CacheError K E)) → lookup_entry (eq k) es ≡ e → IsSome (lookup (eq k) es) → IsSome o
            → IfSome e (λ e. IfSome o (λ v. Replaces steps k e (remove_entry (eq k) es) v may_flush s es r t fs left)) → Kept es fs
        replaced_of None o r found there some h = absurd (none_is_none (lookup-from_entry (eq k) es ∙ ap (option_map (λ (x : K × Slot V). x.1)) found) there)
        replaced_of (Some e) None r found there some h = absurd (cc)
        replaced_of (Some e) (Some v) r found there some h = replaces_keep e v r found h

        -- in the place of another one
        pub replaces_keep_pins : (o : Option V) (r : Result Bool (CacheError K E)) → IsSome (lookup (eq k) es) → IsSome o
            → IfSome (lookup_entry (eq k) es) (λ e. IfSome o (λ v. Replaces steps k e (remove_entry (eq k) es) v may_flush s es r t fs left)) → Kept es fs
        replaces_keep_pins o r = replaced_of (lookup_entry (eq k) es) o r refl
