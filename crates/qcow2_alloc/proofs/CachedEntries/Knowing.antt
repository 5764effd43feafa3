-- Loads and flushes leave the known bytes the same: those of the store with the modified values overlaid.
use Rattle.std.proofs.Common.{◌≡◌, ◌≢◌, ◌∷◌, ℕ, Bool, true, false, cond, inl, inr, List, [], Option, Some, None, Result, Ok, Err, refl, sym, ap, ◌∙◌, subst, IfSome, IsSome}
use Rattle.qcow2_alloc.proofs.Common.{IsEquivalence, AllByRecursion, IsDistinct, option_map, option_map_or, keys_of, lookup, lookup_entry, remove_entry, set_value, lookup-remove_entry, lookup-set_value, set_value_same, LruCache, promoted, Contains-lookup_entry, Slot, CacheError, InUse, StillInUse, Memory, Backend, slot_of, Steps, IsLawful, KeepsBytes, value_laid_over, known_under_key, KeepsKnown, OverlaysBytes, FlushesEntry, FlushesAll, Evicts, HasRoomForEntry, HasNoRoom, InsertsNew, GetsNew, Replaces, FlushesFound}
use Rattle.qcow2_alloc.proofs.CachedEntries.Lists.{none_is_none, lookup-from_entry, oldest_free-lookup}
use Rattle.qcow2_alloc.proofs.CachedEntries.Room.{room_missing}

module _ {K X : Type 0} {eq : K → K → Bool} (laws : IsEquivalence eq) where
  -- equal keys find the same
  pub lookup_alike : (es : List (K × X)) (k j : K) → eq k j ≡ true → lookup (eq k) es ≡ lookup (eq j) es
  lookup_alike [] k j h = refl
  lookup_alike (e ∷ es) k j h = rw (laws.congr k j e.0 h) (ap (λ o. cond (eq j e.0) (Some e.1) o) (lookup_alike es k j h))

  -- another key's entry is none of its
  apart_from : (k j : K) (e : K × X) → eq k e.0 ≡ true → eq k j ≡ false → eq j e.0 ≡ false
  apart_from k j e passes other = laws.symm j e.0 ∙ sym (laws.congr k e.0 j passes) ∙ other

  pub removed_apart : (es : List (K × X)) (k j : K) → eq k j ≡ false → lookup (eq j) (remove_entry (eq k) es) ≡ lookup (eq j) es
  removed_apart [] k j other = refl
  removed_apart (e ∷ es) k j other = (elim (eq k e.0) as (λ b. eq k e.0 ≡ b → lookup (eq j) (cond b es (e ∷ remove_entry (eq k) es)) ≡ lookup (eq j) (e ∷ es)) [
    | true ↦ λ passes. rw (apart_from k j e passes other) refl
    | false ↦ λ _. ap (λ o. cond (eq j e.0) (Some e.1) o) (removed_apart es k j other)
  ]) refl

  hit_case : (es : List (K × X)) (k j : K) (o : Option (K × X)) → lookup_entry (eq k) es ≡ o → (b : Bool) → eq k j ≡ b → lookup (eq j) (option_map_or (λ e. e ∷ remove_entry (eq k) es) o es) ≡ lookup (eq j) es
  hit_case es k j None h b same = refl
  hit_case es k j (Some e) h true same =
      let here : eq j e.0 ≡ true = sym (laws.congr k j e.0 same) ∙ ((Contains-lookup_entry (eq k) es e h).1) in
      let found : lookup (eq k) es ≡ Some e.1 = lookup-from_entry (eq k) es ∙ ap (option_map (λ (x : K × X). x.1)) h in
      rw here (sym (sym (lookup_alike es k j same) ∙ found))
  hit_case es k j (Some e) h false other = rw (apart_from k j e (Contains-lookup_entry (eq k) es e h).1 other) (removed_apart es k j other)

  -- a key that comes to the front loses nothing
  pub lookup-promoted : (es : List (K × X)) (k j : K) → lookup (eq j) (promoted (eq k) es) ≡ lookup (eq j) es
  lookup-promoted es k j = hit_case es k j (lookup_entry (eq k) es) refl (eq k j) refl

module _ {S K V E : Type 0} {steps : Steps S K V E} {eq : K → K → Bool} (laws : IsEquivalence eq) {is_modified : V → Bool} {bytes : V → List ℕ} {stored : S → K → List ℕ} {is_honest : S → Type 0} (b : IsLawful steps eq is_modified bytes stored is_honest) where
  abbrev seen : S → List (K × Slot V) → K → List ℕ
  seen = known_under_key eq is_modified bytes stored

  abbrev shown : Option (Slot V) → List ℕ → List ℕ
  shown o under = option_map_or (λ slot. value_laid_over is_modified bytes slot.value under) o under

  abbrev pub KeepsKnownBytes : S → List (K × Slot V) → S → List (K × Slot V) → Type 0
  KeepsKnownBytes = KeepsKnown eq is_modified bytes stored is_honest

  keeps_then : (r s t : S) (ds es fs : List (K × Slot V)) → KeepsKnownBytes r ds s es → KeepsKnownBytes s es t fs → KeepsKnownBytes r ds t fs
  keeps_then r s t ds es fs g h = record { honest = λ x. h.honest (g.honest x); stays = λ x j. h.stays (g.honest x) j ∙ g.stays x j }

  -- nothing happens
  pub keeps_none : (s t : S) (es fs : List (K × Slot V)) → t ≡ s → fs ≡ es → KeepsKnownBytes s es t fs
  keeps_none s t es fs t_is fs_is = record { honest = λ x. subst is_honest (sym t_is) x; stays = λ x j. ap (λ u. seen u fs j) t_is ∙ ap (λ l. seen s l j) fs_is }

  -- the store changes at no key, and each key finds the same
  keeps_store : (s t : S) (es fs : List (K × Slot V)) → (is_honest s → is_honest t × KeepsBytes stored s t) → ((j : K) → lookup (eq j) fs ≡ lookup (eq j) es) → KeepsKnownBytes s es t fs
  keeps_store s t es fs h same = record { honest = λ x. (h x).0; stays = λ x j. ap (λ o. shown o (stored t j)) (same j) ∙ ap (shown (lookup (eq j) es)) ((h x).1 j) }

  pub hit_keeps : (s : S) (es : List (K × Slot V)) (k : K) → KeepsKnownBytes s es s (promoted (eq k) es)
  hit_keeps s es k = keeps_store s s es (promoted (eq k) es) (λ x. (x, λ j. refl)) (λ j. lookup-promoted laws es k j)

  -- the flushed value shows nothing of its own
  clean_shown : (s t : S) (k : K) (v w : V) → steps.flushed s k v w t → (under : List ℕ) → value_laid_over is_modified bytes w under ≡ under
  clean_shown s t k v w h under = rw (b.flush_cleans s t k v w h).0 refl

  here : (s t : S) (k : K) (v w : V) → steps.flushed s k v w t → is_honest s → (j : K) → eq k j ≡ true → stored t j ≡ value_laid_over is_modified bytes v (stored s j)
  here s t k v w h x j same = (b.flush_writes s t k v w h x).1 j ∙ rw same refl

  there : (s t : S) (k : K) (v w : V) → steps.flushed s k v w t → is_honest s → (j : K) → eq k j ≡ false → stored t j ≡ stored s j
  there s t k v w h x j other = (b.flush_writes s t k v w h x).1 j ∙ rw other refl

  -- a failed flush changes nothing that shows
  failed_shown : (s t : S) (k : K) (v : V) (x : E) → steps.flush_failed s k v x t → is_honest s → (j : K) → value_laid_over is_modified bytes v (stored t j) ≡ value_laid_over is_modified bytes v (stored s j)
  failed_shown s t k v x h honest j = (elim (is_modified v) as (λ m. is_modified v ≡ m → cond m (bytes v) (stored t j) ≡ cond m (bytes v) (stored s j)) [
    | true ↦ λ m. refl
    | false ↦ λ m. (b.failed_flush_keeps s t k v x h honest).1 m j
  ]) refl

  evict_case : (s t : S) (es : List (K × Slot V)) (e : K × Slot V) (w : V) → IsDistinct eq (keys_of es) → lookup (eq e.0) es ≡ Some e.1 → steps.flushed s e.0 e.1.value w t → is_honest s
      → (j : K) (c : Bool) → eq e.0 j ≡ c → seen t (remove_entry (eq e.0) es) j ≡ seen s es j
  evict_case s t es e w d found h x j true same =
      let gone : lookup (eq j) (remove_entry (eq e.0) es) ≡ None = lookup-remove_entry laws (eq e.0) (λ p q z. laws.congr e.0 p q z) j es d ∙ ap (λ c. cond c None (lookup (eq j) es)) same in
      let was : lookup (eq j) es ≡ Some e.1 = sym (lookup_alike laws es e.0 j same) ∙ found in
      rw (gone, was) (here s t e.0 e.1.value w h x j same)
  evict_case s t es e w d found h x j false other =
      ap (λ o. shown o (stored t j)) (removed_apart laws es e.0 j other) ∙ ap (shown (lookup (eq j) es)) (there s t e.0 e.1.value w h x j other)

  failed_case : (s t : S) (es : List (K × Slot V)) (k : K) (d : Slot V) (x : E) → lookup (eq k) es ≡ Some d → steps.flush_failed s k d.value x t → is_honest s → (j : K) (c : Bool) → eq k j ≡ c → seen t es j ≡ seen s es j
  failed_case s t es k d x found h honest j true same =
      let was : lookup (eq j) es ≡ Some d = sym (lookup_alike laws es k j same) ∙ found in
      rw was (failed_shown s t k d.value x h honest j)
  failed_case s t es k d x found h honest j false other = ap (shown (lookup (eq j) es)) ((b.failed_flush_keeps s t k d.value x h honest).2 j other)

  -- a flush that fails
  pub failed_keeps : (s t : S) (es : List (K × Slot V)) (k : K) (d : Slot V) (x : E) → lookup (eq k) es ≡ Some d → steps.flush_failed s k d.value x t → KeepsKnownBytes s es t es
  failed_keeps s t es k d x found h = record {
    honest = λ honest. (b.failed_flush_keeps s t k d.value x h honest).0;
    stays = λ honest j. failed_case s t es k d x found h honest j (eq k j) refl;
  }

  set_case : (s t : S) (es : List (K × Slot V)) (k : K) (d : Slot V) (w : V) (n : ℕ) → lookup (eq k) es ≡ Some d → steps.flushed s k d.value w t → is_honest s
      → (j : K) (c : Bool) → eq k j ≡ c → shown (cond c (Some (slot_of w n)) (lookup (eq j) es)) (stored t j) ≡ seen s es j
  set_case s t es k d w n found h x j true same =
      let was : lookup (eq j) es ≡ Some d = sym (lookup_alike laws es k j same) ∙ found in
      clean_shown s t k d.value w h (stored t j) ∙ here s t k d.value w h x j same ∙ sym (ap (λ o. shown o (stored s j)) was)
  set_case s t es k d w n found h x j false other = ap (shown (lookup (eq j) es)) (there s t k d.value w h x j other)

  -- a flush that succeeds, of an entry that stays
  pub flush_keeps : (s t : S) (es : List (K × Slot V)) (k : K) (d : Slot V) (w : V) (n : ℕ) → lookup (eq k) es ≡ Some d → steps.flushed s k d.value w t → KeepsKnownBytes s es t (set_value (eq k) es (slot_of w n))
  flush_keeps s t es k d w n found h = record {
    honest = λ x. (b.flush_writes s t k d.value w h x).0;
    stays = λ x j.
        let is_some : IsSome (lookup (eq k) es) = rw found refl in
        ap (λ o. shown o (stored t j)) (lookup-set_value laws (eq k) (λ p q z. laws.congr k p q z) j (slot_of w n) es is_some) ∙ set_case s t es k d w n found h x j (eq k j) refl;
  }

  -- what `flush_key` leaves
  flushed_entry : (s t : S) (c n : LruCache K (Slot V)) (k : K) (o : Option (Slot V)) → lookup (eq k) c.entries ≡ o → IfSome o (λ e. FlushesFound steps (eq k) k e s c None t n) → IsSome o → KeepsKnownBytes s c.entries t n.entries
  flushed_entry s t c n k None found h g = cc
  flushed_entry s t c n k (Some e) found h g =
      subst (KeepsKnownBytes s c.entries t) (sym (ap (λ m. m.entries) h.entries)) (flush_keeps s t c.entries k e h.slot.value h.slot.pins found h.step.0)

  pub flushed_entry_keeps : (s t : S) (c n : LruCache K (Slot V)) (k : K) → IfSome (lookup (eq k) c.entries) (λ e. FlushesFound steps (eq k) k e s c None t n) → IsSome (lookup (eq k) c.entries) → KeepsKnownBytes s c.entries t n.entries
  flushed_entry_keeps s t c n k = flushed_entry s t c n k (lookup (eq k) c.entries) refl

  failed_entry : (s t : S) (c n : LruCache K (Slot V)) (k : K) (x : E) (o : Option (Slot V)) → lookup (eq k) c.entries ≡ o → IfSome o (λ e. FlushesFound steps (eq k) k e s c (Some x) t n) → IsSome o → KeepsKnownBytes s c.entries t n.entries
  failed_entry s t c n k x None found h g = cc
  failed_entry s t c n k x (Some e) found h g =
      let same : n.entries ≡ c.entries = ap (λ m. m.entries) h.entries ∙ ap (set_value (eq k) c.entries) h.step.1 ∙ set_value_same (eq k) c.entries e found in
      subst (KeepsKnownBytes s c.entries t) (sym same) (failed_keeps s t c.entries k e x found h.step.0)

  pub failed_entry_keeps : (s t : S) (c n : LruCache K (Slot V)) (k : K) (x : E) → IfSome (lookup (eq k) c.entries) (λ e. FlushesFound steps (eq k) k e s c (Some x) t n) → IsSome (lookup (eq k) c.entries) → KeepsKnownBytes s c.entries t n.entries
  failed_entry_keeps s t c n k x = failed_entry s t c n k x (lookup (eq k) c.entries) refl

  oldest_keeps : (size : ℕ) (may_flush : Bool) (s t : S) (es fs : List (K × Slot V)) → IsDistinct eq (keys_of es) → Evicts steps eq size may_flush s es t fs → KeepsKnownBytes s es t fs
  oldest_keeps size may_flush s t es fs d h =
      let found = oldest_free-lookup laws es h.entry d h.eviction in record {
        honest = λ x. (b.flush_writes s t h.entry.0 h.entry.1.value h.clean h.flushed x).0;
        stays = λ x j. ap (λ l. seen t l j) h.rest ∙ evict_case s t es h.entry h.clean d found h.flushed x j (eq h.entry.0 j) refl;
      }

  pub room_keeps : (size : ℕ) (may_flush : Bool) (s t : S) (es fs : List (K × Slot V)) → IsDistinct eq (keys_of es) → HasRoomForEntry steps eq size may_flush s es t fs → KeepsKnownBytes s es t fs
  room_keeps size may_flush s t es fs d h = elim h [ inl r ↦ keeps_none s t es fs r.1 r.2 | inr r ↦ oldest_keeps size may_flush s t es fs d r ]

  pub no_room_keeps : (size : ℕ) (may_flush : Bool) (s t : S) (es fs : List (K × Slot V)) (r : Result Bool (CacheError K E)) → IsDistinct eq (keys_of es) → HasNoRoom steps eq size may_flush s es r t fs → KeepsKnownBytes s es t fs
  no_room_keeps size may_flush s t es fs (Ok true) d h = absurd h
  no_room_keeps size may_flush s t es fs (Ok false) d h = keeps_none s t es fs h.2 h.3
  no_room_keeps size may_flush s t es fs (Err InUse) d h = keeps_none s t es fs h.2 h.3
  no_room_keeps size may_flush s t es fs (Err (StillInUse _)) d h = absurd h
  no_room_keeps size may_flush s t es fs (Err Memory) d h = absurd h
  no_room_keeps size may_flush s t es fs (Err (Backend x)) d h =
      subst (KeepsKnownBytes s es t) (sym h.same) (failed_keeps s t es h.entry.0 h.entry.1 x (oldest_free-lookup laws es h.entry d h.eviction) h.failed)

  load_case : (s t : S) (es : List (K × Slot V)) (k : K) (v : V) → steps.loaded s k v t → lookup (eq k) es ≡ None → is_honest s → (j : K) (c : Bool) → eq j k ≡ c
      → shown (cond c (Some (slot_of v 0)) (lookup (eq j) es)) (stored t j) ≡ seen s es j
  load_case s t es k v h none x j true same =
      let gone : lookup (eq j) es ≡ None = lookup_alike laws es j k same ∙ none in
      rw (gone, b.load_gives s t k v h) ((b.load_reads s t k v h x).2 j)
  load_case s t es k v h none x j false other = ap (shown (lookup (eq j) es)) ((b.load_reads s t k v h x).2 j)

  load_keeps : (s t : S) (es : List (K × Slot V)) (k : K) (v : V) → steps.loaded s k v t → lookup (eq k) es ≡ None → KeepsKnownBytes s es t ((k, slot_of v 0) ∷ es)
  load_keeps s t es k v h none = record { honest = λ x. (b.load_reads s t k v h x).0; stays = λ x j. load_case s t es k v h none x j (eq j k) refl }

  -- a load of a new key
  pub gets_keeps : (size : ℕ) (may_flush : Bool) (k : K) (s t : S) (es fs : List (K × Slot V)) (r : Result Bool (CacheError K E)) → IsDistinct eq (keys_of es) → lookup (eq k) es ≡ None
      → GetsNew steps eq size may_flush k s es r t fs → KeepsKnownBytes s es t fs
  gets_keeps size may_flush k s t es fs (Ok true) d none h =
      subst (KeepsKnownBytes s es t) (sym h.5) (keeps_then s h.0 t es h.1 ((k, slot_of h.2 0) ∷ h.1) (room_keeps size may_flush s h.0 es h.1 d h.3) (load_keeps h.0 t h.1 k h.2 h.4 (room_missing steps eq size may_flush k s es h.0 h.1 h.3 none)))
  gets_keeps size may_flush k s t es fs (Ok false) d none h = no_room_keeps size may_flush s t es fs (Ok false) d h
  gets_keeps size may_flush k s t es fs (Err InUse) d none h = no_room_keeps size may_flush s t es fs (Err InUse) d h
  gets_keeps size may_flush k s t es fs (Err (StillInUse _)) d none h = absurd h
  gets_keeps size may_flush k s t es fs (Err Memory) d none h =
      keeps_then s h.0 t es fs fs (room_keeps size may_flush s h.0 es fs d h.2) (keeps_store h.0 t fs fs (λ x. ((b.load_reads h.0 t k h.1 h.3 x).0, (b.load_reads h.0 t k h.1 h.3 x).2)) (λ j. refl))
  gets_keeps size may_flush k s t es fs (Err (Backend x)) d none h = elim h [
    | inl r ↦ no_room_keeps size may_flush s t es fs (Err (Backend x)) d r
    | inr r ↦ keeps_then s r.0 t es fs fs (room_keeps size may_flush s r.0 es fs d r.1) (keeps_store r.0 t fs fs (b.failed_load_keeps r.0 t k x r.2) (λ j. refl))
  ]

  -- a flush of one entry, which stays
  entry_apart : (s t : S) (e : K × Slot V) (o : Option E) (d : Slot V) → FlushesEntry steps s e o t d → is_honest s → is_honest t × ((j : K) → eq e.0 j ≡ false → stored t j ≡ stored s j)
  entry_apart s t e None d h x = ((b.flush_writes s t e.0 e.1.value d.value h.0 x).0, λ j other. there s t e.0 e.1.value d.value h.0 x j other)
  entry_apart s t e (Some y) d h x = let f = b.failed_flush_keeps s t e.0 e.1.value y h.0 x in (f.0, f.2)

  entry_shown : (s t : S) (e : K × Slot V) (o : Option E) (d : Slot V) → FlushesEntry steps s e o t d → is_honest s → (j : K) → eq e.0 j ≡ true → value_laid_over is_modified bytes d.value (stored t j) ≡ value_laid_over is_modified bytes e.1.value (stored s j)
  entry_shown s t e None d h x j same = clean_shown s t e.0 e.1.value d.value h.0 (stored t j) ∙ here s t e.0 e.1.value d.value h.0 x j same
  entry_shown s t e (Some y) d h x j same = ap (λ (c : Slot V). value_laid_over is_modified bytes c.value (stored t j)) h.1 ∙ failed_shown s t e.0 e.1.value y h.0 x j

  -- no entry has a key like this one
  abbrev NoneAlike : K → List (K × Slot V) → Type 0
  NoneAlike j es = AllByRecursion (λ y. eq y j ≡ false) (keys_of es)

  none_alike : (k j : K) (es : List (K × Slot V)) → eq k j ≡ true → AllByRecursion (λ y. eq k y ≡ false) (keys_of es) → NoneAlike j es
  none_alike k j [] same h = h
  none_alike k j (e ∷ es) same h = (laws.symm e.0 j ∙ sym (laws.congr k j e.0 same) ∙ h.0, none_alike k j es same h.1)

  all_apart : (s : S) (es : List (K × Slot V)) (o : Option E) (t : S) (fs : List (K × Slot V)) → FlushesAll steps s es o t fs → is_honest s → is_honest t × ((j : K) → NoneAlike j es → stored t j ≡ stored s j)
  all_apart s [] o t fs h x = (subst is_honest (sym h.1) x, λ j _. ap (λ u. stored u j) h.1)
  all_apart s (e ∷ es) o t fs h x =
      let one = entry_apart s h.1 e h.0 h.2 h.5 x in
      let rest = all_apart h.1 es h.3 t h.4 h.6 one.0 in
      (rest.0, λ j none. rest.1 j none.1 ∙ one.1 j none.0)

  all_known : (s : S) (es : List (K × Slot V)) (o : Option E) (t : S) (fs : List (K × Slot V)) → IsDistinct eq (keys_of es) → FlushesAll steps s es o t fs → is_honest s → (j : K) → seen t fs j ≡ seen s es j
  unfolding IsDistinct
  all_known s [] o t fs d h x j = ap (λ l. seen t l j) h.2 ∙ ap (λ u. stored u j) h.1
  all_known s (e ∷ es) o t fs d h x j =
      let one = entry_apart s h.1 e h.0 h.2 h.5 x in
      ap (λ l. seen t l j) h.8 ∙ (elim (eq j e.0) as (λ c. eq j e.0 ≡ c → shown (cond c (Some h.2) (lookup (eq j) h.4)) (stored t j) ≡ shown (cond c (Some e.1) (lookup (eq j) es)) (stored s j)) [
        | true ↦ λ c. let same : eq e.0 j ≡ true = laws.symm e.0 j ∙ c in
            ap (value_laid_over is_modified bytes h.2.value) ((all_apart h.1 es h.3 t h.4 h.6 one.0).1 j (none_alike e.0 j es same d.0)) ∙ entry_shown s h.1 e h.0 h.2 h.5 x j same
        | false ↦ λ c. let other : eq e.0 j ≡ false = laws.symm e.0 j ∙ c in
            all_known h.1 es h.3 t h.4 d.1 h.6 one.0 j ∙ ap (shown (lookup (eq j) es)) (one.1 j other)
      ]) refl

  -- a flush of all
  pub all_keeps : (s : S) (es : List (K × Slot V)) (o : Option E) (t : S) (fs : List (K × Slot V)) → IsDistinct eq (keys_of es) → FlushesAll steps s es o t fs → KeepsKnownBytes s es t fs
  all_keeps s es o t fs d h = record { honest = λ x. (all_apart s es o t fs h x).0; stays = λ x. all_known s es o t fs d h x }

  abbrev pub Overlays : K → V → S → List (K × Slot V) → S → List (K × Slot V) → Type 0
  Overlays = OverlaysBytes eq is_modified bytes stored is_honest

  front_case : (t : S) (es : List (K × Slot V)) (k : K) (v : V) → lookup (eq k) es ≡ None → (j : K) (c : Bool) → eq k j ≡ c
      → shown (cond c (Some (slot_of v 0)) (lookup (eq j) es)) (stored t j) ≡ cond c (value_laid_over is_modified bytes v (seen t es j)) (seen t es j)
  front_case t es k v none j true same = let gone : lookup (eq j) es ≡ None = sym (lookup_alike laws es k j same) ∙ none in rw gone refl
  front_case t es k v none j false other = refl

  -- a new entry in front
  front_lays : (s t : S) (es gs : List (K × Slot V)) (k : K) (v : V) → lookup (eq k) gs ≡ None → KeepsKnownBytes s es t gs → Overlays k v s es t ((k, slot_of v 0) ∷ gs)
  front_lays s t es gs k v none h = record {
    honest = h.honest;
    laid = λ x j.
        ap (λ c. shown (cond c (Some (slot_of v 0)) (lookup (eq j) gs)) (stored t j)) (laws.symm j k)
        ∙ front_case t gs k v none j (eq k j) refl
        ∙ ap (λ (l : List ℕ). cond (eq k j) (value_laid_over is_modified bytes v l) l) (h.stays x j);
  }

  pub inserts_keeps : (size : ℕ) (may_flush : Bool) (k : K) (v : V) (s t : S) (es fs : List (K × Slot V)) (left : Option V) (r : Result Bool (CacheError K E)) → IsDistinct eq (keys_of es)
      → InsertsNew steps eq size may_flush k v s es r t fs left → r ≢ Ok true → KeepsKnownBytes s es t fs
  inserts_keeps size may_flush k v s t es fs left (Ok true) d h ne = absurd (ne refl)
  inserts_keeps size may_flush k v s t es fs left (Ok false) d h ne = no_room_keeps size may_flush s t es fs (Ok false) d h.0
  inserts_keeps size may_flush k v s t es fs left (Err InUse) d h ne = no_room_keeps size may_flush s t es fs (Err InUse) d h.0
  inserts_keeps size may_flush k v s t es fs left (Err (StillInUse _)) d h ne = absurd h
  inserts_keeps size may_flush k v s t es fs left (Err Memory) d h ne = room_keeps size may_flush s t es fs d h.0
  inserts_keeps size may_flush k v s t es fs left (Err (Backend x)) d h ne = no_room_keeps size may_flush s t es fs (Err (Backend x)) d h.0

  pub inserts_lays : (size : ℕ) (may_flush : Bool) (k : K) (v : V) (s t : S) (es fs : List (K × Slot V)) (left : Option V) (r : Result Bool (CacheError K E)) → IsDistinct eq (keys_of es) → lookup (eq k) es ≡ None
      → InsertsNew steps eq size may_flush k v s es r t fs left → r ≡ Ok true → Overlays k v s es t fs
  inserts_lays size may_flush k v s t es fs left r d none h is =
      let done = subst (λ y. InsertsNew steps eq size may_flush k v s es y t fs left) is h in
      subst (Overlays k v s es t) (sym done.0.2) (front_lays s t es done.0.0 k v (room_missing steps eq size may_flush k s es t done.0.0 done.0.1 none) (room_keeps size may_flush s t es done.0.0 d done.0.1))

  -- the entry under the key in front of the others
  module _ (k : K) (e : K × Slot V) (es : List (K × Slot V)) (found : lookup_entry (eq k) es ≡ Some e) where
    abbrev others : List (K × Slot V)
    others = remove_entry (eq k) es

    there_is : lookup (eq k) es ≡ Some e.1
    there_is = lookup-from_entry (eq k) es ∙ ap (option_map (λ (x : K × Slot V). x.1)) found

    in_front : promoted (eq k) es ≡ e ∷ others
    in_front = rw found refl

    same_key : (j : K) → eq j e.0 ≡ eq k j
    same_key j = laws.symm j e.0 ∙ sym (laws.congr k e.0 j (Contains-lookup_entry (eq k) es e found).1)

    pub replaces_keeps : (v : V) (may_flush : Bool) (s t : S) (fs : List (K × Slot V)) (left : Option V) (r : Result Bool (CacheError K E)) → Replaces steps k e others v may_flush s es r t fs left → r ≢ Ok true → KeepsKnownBytes s es t fs
    replaces_keeps v may_flush s t fs left (Ok true) h ne = absurd (ne refl)
    replaces_keeps v may_flush s t fs left (Ok false) h ne = keeps_none s t es fs h.1 h.2
    replaces_keeps v may_flush s t fs left (Err InUse) h ne = absurd h
    replaces_keeps v may_flush s t fs left (Err (StillInUse _)) h ne = absurd h
    replaces_keeps v may_flush s t fs left (Err Memory) h ne = absurd h
    replaces_keeps v may_flush s t fs left (Err (Backend x)) h ne =
        subst (KeepsKnownBytes s es t) (in_front ∙ sym h.2) (keeps_then s t t es es (promoted (eq k) es) (failed_keeps s t es k e.1 x there_is h.1) (hit_keeps t es k))

    replaced_case : (v w : V) (n : ℕ) (s t : S) → steps.flushed s k e.1.value w t → is_honest s → (j : K) (c : Bool) → eq k j ≡ c
        → shown (cond c (Some (slot_of v n)) (lookup (eq j) others)) (stored t j) ≡ cond c (value_laid_over is_modified bytes v (seen s es j)) (seen s es j)
    replaced_case v w n s t h x j true same =
        let was : lookup (eq j) es ≡ Some e.1 = sym (lookup_alike laws es k j same) ∙ there_is in
        ap (value_laid_over is_modified bytes v) (here s t k e.1.value w h x j same ∙ ap (λ o. shown o (stored s j)) (sym was))
    replaced_case v w n s t h x j false other = ap (λ o. shown o (stored t j)) (removed_apart laws es k j other) ∙ ap (shown (lookup (eq j) es)) (there s t k e.1.value w h x j other)

    pub replaces_lays : (v : V) (may_flush : Bool) (s t : S) (fs : List (K × Slot V)) (left : Option V) (r : Result Bool (CacheError K E)) → Replaces steps k e others v may_flush s es r t fs left → r ≡ Ok true → Overlays k v s es t fs
    replaces_lays v may_flush s t fs left r h is =
        let done = subst (λ y. Replaces steps k e others v may_flush s es y t fs left) is h in record {
          honest = λ x. (b.flush_writes s t k e.1.value done.1.0 done.1.1 x).0;
          laid = λ x j.
              ap (λ l. seen t l j) done.2
              ∙ ap (λ c. shown (cond c (Some (slot_of v e.1.pins)) (lookup (eq j) others)) (stored t j)) (same_key j)
              ∙ replaced_case v done.1.0 e.1.pins s t done.1.1 x j (eq k j) refl;
        }

  -- what `insert` leaves
  pub record HasInserted (k : K) (o : Option V) (s : S) (es : List (K × Slot V)) (r : Result Bool (CacheError K E)) (t : S) (fs : List (K × Slot V)) : Type 0 where
    pub laid : IfSome o (λ v. r ≡ Ok true → Overlays k v s es t fs)
    pub known : r ≢ Ok true → KeepsKnownBytes s es t fs

  pub inserted : (size : ℕ) (may_flush : Bool) (k : K) (o : Option V) (s t : S) (es fs : List (K × Slot V)) (left : Option V) (r : Result Bool (CacheError K E)) → IsDistinct eq (keys_of es) → lookup (eq k) es ≡ None → IsSome o
      → IfSome o (λ v. InsertsNew steps eq size may_flush k v s es r t fs left) → HasInserted k o s es r t fs
  inserted size may_flush k None s t es fs left r d none is h = cc
  inserted size may_flush k (Some v) s t es fs left r d none is h = record {
    laid = inserts_lays size may_flush k v s t es fs left r d none h;
    known = inserts_keeps size may_flush k v s t es fs left r d h;
  }

  replaced_at : (may_flush : Bool) (k : K) (o : Option V) (s t : S) (es fs : List (K × Slot V)) (left : Option V) (r : Result Bool (CacheError K E)) (x : Option (K × Slot V)) → lookup_entry (eq k) es ≡ x → IsSome (lookup (eq k) es) → IsSome o
      → IfSome x (λ e. IfSome o (λ v. Replaces steps k e (remove_entry (eq k) es) v may_flush s es r t fs left)) → HasInserted k o s es r t fs
  replaced_at may_flush k None s t es fs left r x found there is h = cc
  replaced_at may_flush k (Some v) s t es fs left r None found there is h =
      absurd (none_is_none (lookup-from_entry (eq k) es ∙ ap (option_map (λ (y : K × Slot V). y.1)) found) there)
  replaced_at may_flush k (Some v) s t es fs left r (Some e) found there is h = record {
    laid = replaces_lays k e es found v may_flush s t fs left r h;
    known = replaces_keeps k e es found v may_flush s t fs left r h;
  }

  pub replaced : (may_flush : Bool) (k : K) (o : Option V) (s t : S) (es fs : List (K × Slot V)) (left : Option V) (r : Result Bool (CacheError K E)) → IsSome (lookup (eq k) es) → IsSome o
      → IfSome (lookup_entry (eq k) es) (λ e. IfSome o (λ v. Replaces steps k e (remove_entry (eq k) es) v may_flush s es r t fs left)) → HasInserted k o s es r t fs
  replaced may_flush k o s t es fs left r = replaced_at may_flush k o s t es fs left r (lookup_entry (eq k) es) refl
