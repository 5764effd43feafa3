-- Which keys of a cache's entries have modified values.
use Rattle.std.proofs.Common.{◌≡◌, ◌⊎◌, ◌+◌, ◌-◌, ◌^◌, ◌<◌, ◌||◌, ◌∷◌, inl, inr, ℕ, suc, nat_lt, Bool, true, false, not, cond, arith, List, [], length, Option, Some, None, Result, Ok, Err, refl, sym, ap, ◌∙◌, subst, IsSome, IfSome, is_some}
use Rattle.qcow2_alloc.proofs.Common.{set_value_same, none-some, same_Some, IsEquivalence, IsDistinct, keys_of, lookup, lookup_entry, remove_entry, set_value, option_map, option_map_or, promoted, Contains-lookup_entry, Slot, CacheError, InUse, StillInUse, Memory, Backend, Cache, with_entries, slot_of, is_pinned, can_remove, pinned, oldest_free, pin_at, unpin_at, set_at, value_at, KeepsOthers, Steps, GetsNew, InsertsNew, Replaces, HasRoomForEntry, placed, marks_in, settled, lookup-remove_entry}
use Rattle.qcow2_alloc.proofs.CachedEntries.Lists.{oldest_free-lookup, lookup-from_entry, lookup_none-removed, none_of, promoted_none}
use Rattle.qcow2_alloc.proofs.CachedEntries.Pins.{pins_same, oldest_unpinned}
use Rattle.qcow2_alloc.proofs.CachedEntries.Staying.{stays_same}
use Rattle.qcow2_alloc.proofs.CachedEntries.Knowing.{lookup_alike}
use Rattle.qcow2_alloc.proofs.Uses.{entry_none as no_entry}

module _ {K V : Type 0} (is_modified : V → Bool) where
  marks : List (K × Slot V) → List (K × Bool)
  marks es = marks_in is_modified es

  module _ (test : K → Bool) where
    pub marks_removed : (es : List (K × Slot V)) → marks_in is_modified (remove_entry test es) ≡ remove_entry test (marks_in is_modified es)
    marks_removed [] = refl
    marks_removed (e ∷ es) = elim (test e.0) as (λ y. marks_in is_modified (cond y es (e ∷ remove_entry test es)) ≡ cond y (marks_in is_modified es) ((e.0, is_modified e.1.value) ∷ remove_entry test (marks_in is_modified es))) [
      | true ↦ refl
      | false ↦ ap (λ l. (e.0, is_modified e.1.value) ∷ l) (marks_removed es)
    ]

    pub mark_looked : (es : List (K × Slot V)) → lookup test (marks_in is_modified es) ≡ option_map (λ (s : Slot V). is_modified s.value) (lookup test es)
    mark_looked [] = refl
    mark_looked (e ∷ es) = elim (test e.0) as (λ y. cond y (Some (is_modified e.1.value)) (lookup test (marks_in is_modified es)) ≡ option_map (λ (s : Slot V). is_modified s.value) (cond y (Some e.1) (lookup test es))) [
      | true ↦ refl
      | false ↦ mark_looked es
    ]

    pub mark_entry : (es : List (K × Slot V)) → lookup_entry test (marks_in is_modified es) ≡ option_map (λ (e : K × Slot V). (e.0, is_modified e.1.value)) (lookup_entry test es)
    mark_entry [] = refl
    mark_entry (e ∷ es) = elim (test e.0) as (λ y. cond y (Some (e.0, is_modified e.1.value)) (lookup_entry test (marks_in is_modified es)) ≡ option_map (λ (f : K × Slot V). (f.0, is_modified f.1.value)) (cond y (Some e) (lookup_entry test es))) [
      | true ↦ refl
      | false ↦ mark_entry es
    ]

    pub marks_promoted : (es : List (K × Slot V)) → marks_in is_modified (promoted test es) ≡ promoted test (marks_in is_modified es)
    marks_promoted es = rw (mark_entry es) (elim (lookup_entry test es) as (λ o. marks_in is_modified (option_map_or (λ e. e ∷ remove_entry test es) o es)
        ≡ option_map_or (λ e. e ∷ remove_entry test (marks_in is_modified es)) (option_map (λ (e : K × Slot V). (e.0, is_modified e.1.value)) o) (marks_in is_modified es)) [
          | None ↦ refl
          | Some e ↦ ap (λ l. (e.0, is_modified e.1.value) ∷ l) (marks_removed es)
        ])

    pub marks_set : (es : List (K × Slot V)) (w : Slot V) → marks_in is_modified (set_value test es w) ≡ set_value test (marks_in is_modified es) (is_modified w.value)
    marks_set [] w = refl
    marks_set (e ∷ es) w = elim (test e.0) as (λ y. marks_in is_modified (cond y ((e.0, w) ∷ es) (e ∷ set_value test es w)) ≡ cond y ((e.0, is_modified w.value) ∷ marks_in is_modified es) ((e.0, is_modified e.1.value) ∷ set_value test (marks_in is_modified es) (is_modified w.value))) [
      | true ↦ refl
      | false ↦ ap (λ l. (e.0, is_modified e.1.value) ∷ l) (marks_set es w)
    ]

    -- another slot with the same value
    marks_of_same : (es : List (K × Slot V)) (s w : Slot V) → lookup test es ≡ Some s → w.value ≡ s.value → marks_in is_modified (set_value test es w) ≡ marks_in is_modified es
    marks_of_same es s w found same =
        marks_set es w ∙ ap (set_value test (marks_in is_modified es)) (ap is_modified same) ∙ set_value_same test (marks_in is_modified es) (is_modified s.value) (mark_looked es ∙ ap (option_map (λ (x : Slot V). is_modified x.value)) found)

    pub marks_pinned : (es : List (K × Slot V)) → marks_in is_modified (pin_at test es) ≡ marks_in is_modified es
    marks_pinned es = (elim (lookup test es) as (λ o. lookup test es ≡ o → marks_in is_modified (option_map_or (λ s. cond (nat_lt s.pins (2 ^ 64 - 1)) (set_value test es (slot_of s.value (s.pins + 1))) es) o es) ≡ marks_in is_modified es) [
      | None ↦ λ _. refl
      | Some s ↦ λ h. elim (nat_lt s.pins (2 ^ 64 - 1)) as (λ b. marks_in is_modified (cond b (set_value test es (slot_of s.value (s.pins + 1))) es) ≡ marks_in is_modified es) [
        | true ↦ marks_of_same es s (slot_of s.value (s.pins + 1)) h refl
        | false ↦ refl
      ]
    ]) refl

    pub marks_unpinned : (es : List (K × Slot V)) → marks_in is_modified (unpin_at test es) ≡ marks_in is_modified es
    marks_unpinned es = (elim (lookup test es) as (λ o. lookup test es ≡ o → marks_in is_modified (option_map_or (λ s. cond (nat_lt 0 s.pins) (set_value test es (slot_of s.value (s.pins - 1))) es) o es) ≡ marks_in is_modified es) [
      | None ↦ λ _. refl
      | Some s ↦ λ h. elim (nat_lt 0 s.pins) as (λ b. marks_in is_modified (cond b (set_value test es (slot_of s.value (s.pins - 1))) es) ≡ marks_in is_modified es) [
        | true ↦ marks_of_same es s (slot_of s.value (s.pins - 1)) h refl
        | false ↦ refl
      ]
    ]) refl

    pub found_marked : (es : List (K × Slot V)) → is_some (lookup test (marks_in is_modified es)) ≡ is_some (lookup test es)
    found_marked es = rw (mark_looked es) (elim (lookup test es) as (λ o. is_some (option_map (λ (s : Slot V). is_modified s.value) o) ≡ is_some o) [ None ↦ refl | Some s ↦ refl ])

  -- a key whose mark is right stays so
  module _ (eq : K → K → Bool) where
    pub settled_right : (fs : List (K × Slot V)) (us : List (K × Bool)) (k : K) → lookup (eq k) us ≡ option_map (λ (s : Slot V). is_modified s.value) (lookup (eq k) fs) → settled eq is_modified fs k us ≡ us
    settled_right fs us k right = (elim (lookup (eq k) fs) as (λ o. lookup (eq k) us ≡ option_map (λ (s : Slot V). is_modified s.value) o → option_map_or (λ s. cond (is_modified s.value) us (set_value (eq k) us false)) o (remove_entry (eq k) us) ≡ us) [
      | None ↦ λ h. (no_entry (eq k) us h).1
      | Some s ↦ λ h. (elim (is_modified s.value) as (λ b. lookup (eq k) us ≡ Some b → cond b us (set_value (eq k) us false) ≡ us) [ true ↦ λ g. refl | false ↦ λ g. set_value_same (eq k) us false g ]) h
    ]) right

    -- a key that isn't there goes
    pub settled_gone : (fs : List (K × Slot V)) (us : List (K × Bool)) (k : K) → lookup (eq k) fs ≡ None → settled eq is_modified fs k us ≡ remove_entry (eq k) us
    settled_gone fs us k gone = rw gone refl

pub kept_same : {B K V : Type 0} (eq : K → K → Bool) (key : K) (c : Cache B K V) → IsDistinct eq (keys_of c.entries) → KeepsOthers eq key c c
kept_same eq key c distinct = record { distinct = distinct; others = refl; stays = stays_same eq key c.entries c.entries refl; pins = pins_same eq c.entries c.entries refl }

-- ---- a key that is brought to the front

module _ {K V : Type 0} (is_modified : V → Bool) (test : K → Bool) (es : List (K × Slot V)) (us : List (K × Bool)) (same : us ≡ marks_in is_modified es) (b : Bool) (answer : b ≡ is_some (lookup test us)) where
  pub is_there : b ≡ true → IsSome (lookup test es)
  is_there so = sym (found_marked is_modified test es) ∙ ap (λ l. is_some (lookup test l)) (sym same) ∙ sym answer ∙ so

  pub is_missing : b ≡ false → lookup test es ≡ None
  is_missing so = none_of (sym so ∙ answer ∙ ap (λ l. is_some (lookup test l)) same ∙ found_marked is_modified test es)

  pub touched : (us' : List (K × Bool)) → us' ≡ promoted test us → us' ≡ marks_in is_modified (promoted test es)
  touched us' is = is ∙ ap (promoted test) same ∙ sym (marks_promoted is_modified test es)

  pub touched_none : (us' : List (K × Bool)) → us' ≡ promoted test us → b ≡ false → us' ≡ marks_in is_modified es
  touched_none us' is so = touched us' is ∙ ap (marks_in is_modified) (promoted_none test es (is_missing so))

-- ---- what a new key leaves

module _ {K V : Type 0} (is_modified : V → Bool) (eq : K → K → Bool) (k : K) (m : Bool) (es : List (K × Slot V)) where
  -- the oldest entry with no pin may have gone
  abbrev pub MayHaveGone : List (K × Slot V) → Type 0
  MayHaveGone gs = (gs ≡ es) ⊎ ((e : K × Slot V) × (oldest_free es ≡ Some e) × (gs ≡ remove_entry (eq e.0) es))

  -- and the new key may be in front
  pub record MayBeNew (fs : List (K × Slot V)) : Type 0 where
    pub rest : List (K × Slot V)
    pub room : MayHaveGone rest
    pub front : (fs ≡ rest) ⊎ ((v : V) × (is_modified v ≡ m) × (fs ≡ (k, slot_of v 0) ∷ rest))

  module _ (laws : IsEquivalence eq) (distinct : IsDistinct eq (keys_of es)) (none : lookup (eq k) es ≡ None) where
    missing_rest : (gs : List (K × Slot V)) → MayHaveGone gs → lookup (eq k) gs ≡ None
    missing_rest gs room = elim room [
      | inl same ↦ ap (lookup (eq k)) same ∙ none
      | inr gone ↦ ap (lookup (eq k)) gone.2 ∙ lookup_none-removed (eq k) (eq gone.0.0) es none
    ]

    -- where the new key isn't in front
    once_without : (gs : List (K × Slot V)) → MayHaveGone gs → settled eq is_modified gs k ((k, m) ∷ marks_in is_modified es) ≡ marks_in is_modified es
    once_without gs room = settled_gone is_modified eq gs ((k, m) ∷ marks_in is_modified es) k (missing_rest gs room) ∙ rw (laws.refl k) refl

    once_with : (v : V) → is_modified v ≡ m → (gs : List (K × Slot V)) → settled eq is_modified ((k, slot_of v 0) ∷ gs) k ((k, m) ∷ marks_in is_modified es) ≡ (k, m) ∷ marks_in is_modified es
    once_with v marked gs = settled_right is_modified eq ((k, slot_of v 0) ∷ gs) ((k, m) ∷ marks_in is_modified es) k (rw (laws.refl k) (ap Some (sym marked)))

    apart : (e : K × Slot V) → oldest_free es ≡ Some e → eq e.0 k ≡ false
    apart e oldest = (elim (eq e.0 k) as (λ y. eq e.0 k ≡ y → eq e.0 k ≡ false) [
      | true ↦ λ t. absurd (none-some e.1 (sym (sym (oldest_free-lookup laws es e distinct oldest) ∙ lookup_alike laws es e.0 k t ∙ none)))
      | false ↦ λ t. t
    ]) refl

    gone_from : (e : K × Slot V) → lookup (eq e.0) (remove_entry (eq e.0) es) ≡ None
    gone_from e = lookup-remove_entry laws (eq e.0) (λ x y h. laws.congr e.0 x y h) e.0 es distinct ∙ rw (laws.refl e.0) refl

    right_still : (fs : List (K × Slot V)) (o : K) → settled eq is_modified fs o (marks_in is_modified fs) ≡ marks_in is_modified fs
    right_still fs o = settled_right is_modified eq fs (marks_in is_modified fs) o (mark_looked is_modified (eq o) fs)

    -- the oldest one settled too
    twice_without : (gs : List (K × Slot V)) → MayHaveGone gs → (o : Option (K × Slot V)) → oldest_free es ≡ o
        → option_map_or (λ x. settled eq is_modified gs x (marks_in is_modified es)) (option_map (λ (e : K × Slot V). e.0) o) (marks_in is_modified es) ≡ marks_in is_modified gs
    twice_without gs (inl same) None oldest = ap (marks_in is_modified) (sym same)
    twice_without gs (inr gone) None oldest = absurd (none-some gone.0 (sym oldest ∙ gone.1))
    twice_without gs (inl same) (Some e) oldest = subst (λ l. settled eq is_modified l e.0 (marks_in is_modified es) ≡ marks_in is_modified l) (sym same) (right_still es e.0)
    twice_without gs (inr gone) (Some e) oldest =
        let this : gone.0 ≡ e = same_Some gone.0 e (sym gone.1 ∙ oldest) in
        let left : gs ≡ remove_entry (eq e.0) es = gone.2 ∙ ap (λ (f : K × Slot V). remove_entry (eq f.0) es) this in
        subst (λ l. settled eq is_modified l e.0 (marks_in is_modified es) ≡ marks_in is_modified l) (sym left)
        (settled_gone is_modified eq (remove_entry (eq e.0) es) (marks_in is_modified es) e.0 (gone_from e) ∙ sym (marks_removed is_modified (eq e.0) es))

    twice_with : (v : V) → is_modified v ≡ m → (gs : List (K × Slot V)) → MayHaveGone gs → (o : Option (K × Slot V)) → oldest_free es ≡ o
        → option_map_or (λ x. settled eq is_modified ((k, slot_of v 0) ∷ gs) x ((k, m) ∷ marks_in is_modified es)) (option_map (λ (e : K × Slot V). e.0) o) ((k, m) ∷ marks_in is_modified es) ≡ marks_in is_modified ((k, slot_of v 0) ∷ gs)
    twice_with v marked gs (inl same) None oldest = rw marked (ap (λ l. (k, m) ∷ marks_in is_modified l) (sym same))
    twice_with v marked gs (inr gone) None oldest = absurd (none-some gone.0 (sym oldest ∙ gone.1))
    twice_with v marked gs (inl same) (Some e) oldest =
        let now : (k, m) ∷ marks_in is_modified es ≡ marks_in is_modified ((k, slot_of v 0) ∷ gs) = rw marked (ap (λ l. (k, m) ∷ marks_in is_modified l) (sym same)) in
        ap (settled eq is_modified ((k, slot_of v 0) ∷ gs) e.0) now ∙ right_still ((k, slot_of v 0) ∷ gs) e.0
    twice_with v marked gs (inr gone) (Some e) oldest =
        let this : gone.0 ≡ e = same_Some gone.0 e (sym gone.1 ∙ oldest) in
        let left : gs ≡ remove_entry (eq e.0) es = gone.2 ∙ ap (λ (f : K × Slot V). remove_entry (eq f.0) es) this in
        let away = apart e oldest in
        let none_left : lookup (eq e.0) ((k, slot_of v 0) ∷ gs) ≡ None = rw away (ap (lookup (eq e.0)) left ∙ gone_from e) in
        settled_gone is_modified eq ((k, slot_of v 0) ∷ gs) ((k, m) ∷ marks_in is_modified es) e.0 none_left
        ∙ rw (away, marked) (ap (λ l. (k, m) ∷ l) (sym (marks_removed is_modified (eq e.0) es) ∙ ap (marks_in is_modified) (sym left)))

    pub new_settled : (fs : List (K × Slot V)) → MayBeNew fs → (out : Option K) → out ≡ option_map (λ (e : K × Slot V). e.0) (oldest_free es) → (u v w : List (K × Bool)) → u ≡ placed (eq k) k m (marks_in is_modified es)
        → v ≡ settled eq is_modified fs k u → w ≡ option_map_or (λ x. settled eq is_modified fs x v) out v → w ≡ marks_in is_modified fs
    new_settled fs new out is u v w first second third =
        let gone = no_entry (eq k) (marks_in is_modified es) (mark_looked is_modified (eq k) es ∙ ap (option_map (λ (s : Slot V). is_modified s.value)) none) in
        let begun : u ≡ (k, m) ∷ marks_in is_modified es = first ∙ rw (gone.0, gone.1) refl in
        let more = λ (l : List (K × Bool)). option_map_or (λ x. settled eq is_modified fs x l) (option_map (λ (e : K × Slot V). e.0) (oldest_free es)) l in
        let third_is : w ≡ more (settled eq is_modified fs k ((k, m) ∷ marks_in is_modified es)) = third ∙ ap (λ o. option_map_or (λ x. settled eq is_modified fs x v) o v) is ∙ ap more (second ∙ ap (settled eq is_modified fs k) begun) in
        third_is ∙ (elim new.front [
          | inl same ↦ subst (λ l. option_map_or (λ x. settled eq is_modified l x (settled eq is_modified l k ((k, m) ∷ marks_in is_modified es))) (option_map (λ (e : K × Slot V). e.0) (oldest_free es)) (settled eq is_modified l k ((k, m) ∷ marks_in is_modified es)) ≡ marks_in is_modified l) (sym same)
              (rw (once_without new.rest new.room) (twice_without new.rest new.room (oldest_free es) refl))
          | inr put ↦ subst (λ l. option_map_or (λ x. settled eq is_modified l x (settled eq is_modified l k ((k, m) ∷ marks_in is_modified es))) (option_map (λ (e : K × Slot V). e.0) (oldest_free es)) (settled eq is_modified l k ((k, m) ∷ marks_in is_modified es)) ≡ marks_in is_modified l) (sym put.2)
              (rw (once_with put.0 put.1 new.rest) (twice_with put.0 put.1 new.rest new.room (oldest_free es) refl))
        ])

  module _ {S E : Type 0} (steps : Steps S K V E) (size : ℕ) (may_flush : Bool) (s t : S) (fs : List (K × Slot V)) where
    room_left : (r : S) (gs : List (K × Slot V)) → HasRoomForEntry steps eq size may_flush s es r gs → MayHaveGone gs
    room_left r gs room = elim room [ inl h ↦ inl h.2 | inr h ↦ inr (h.entry, h.eviction, h.rest) ]

    same_left : fs ≡ es → MayBeNew fs
    same_left same = record { rest = fs; room = inl same; front = inl refl }

    pub got_new : m ≡ false → ((s t : S) (k : K) (v : V) → steps.loaded s k v t → is_modified v ≡ false) → (r : Result Bool (CacheError K E)) → GetsNew steps eq size may_flush k s es r t fs → MayBeNew fs
    got_new unmarked gives (Ok true) h = record { rest = h.1; room = room_left h.0 h.1 h.3; front = inr (h.2, gives h.0 t k h.2 h.4 ∙ sym unmarked, h.5) }
    got_new unmarked gives (Ok false) h = same_left h.3
    got_new unmarked gives (Err InUse) h = same_left h.3
    got_new unmarked gives (Err (StillInUse _)) h = absurd h
    got_new unmarked gives (Err Memory) h = record { rest = fs; room = room_left h.0 fs h.2; front = inl refl }
    got_new unmarked gives (Err (Backend x)) h = elim h [
      | inl none_free ↦ same_left none_free.same
      | inr failed ↦ record { rest = fs; room = room_left failed.0 fs failed.1; front = inl refl }
    ]

    pub inserted_new : (v : V) → is_modified v ≡ m → (left : Option V) (r : Result Bool (CacheError K E)) → InsertsNew steps eq size may_flush k v s es r t fs left → MayBeNew fs
    inserted_new v marked left (Ok true) h = record { rest = h.0.0; room = room_left t h.0.0 h.0.1; front = inr (v, marked, h.0.2) }
    inserted_new v marked left (Ok false) h = same_left h.0.3
    inserted_new v marked left (Err InUse) h = same_left h.0.3
    inserted_new v marked left (Err (StillInUse _)) h = absurd h
    inserted_new v marked left (Err Memory) h = record { rest = fs; room = room_left t fs h.0; front = inl refl }
    inserted_new v marked left (Err (Backend x)) h = same_left h.0.same

    pub put_new : (o left : Option V) (r : Result Bool (CacheError K E)) → IsSome o → IfSome o (λ v. is_modified v ≡ m) → IfSome o (λ v. InsertsNew steps eq size may_flush k v s es r t fs left) → MayBeNew fs
    put_new None left r there marked h = cc
    put_new (Some v) left r there marked h = inserted_new v marked left r h

-- ---- a value in the place of another one

module _ {K V : Type 0} (is_modified : V → Bool) (eq : K → K → Bool) (k : K) (es : List (K × Slot V)) where
  -- the entry in front settled
  front_settled : (j : K) (x : Slot V) (m : Bool) (others : List (K × Slot V)) → eq k j ≡ true → (is_modified x.value ≡ true → m ≡ true)
      → settled eq is_modified ((j, x) ∷ others) k ((j, m) ∷ marks_in is_modified others) ≡ (j, is_modified x.value) ∷ marks_in is_modified others
  front_settled j x m others passes marked = rw passes ((elim (is_modified x.value) as (λ b. (b ≡ true → m ≡ true) → cond b ((j, m) ∷ marks_in is_modified others) ((j, false) ∷ marks_in is_modified others) ≡ (j, b) ∷ marks_in is_modified others) [
    | true ↦ λ h. ap (λ y. (j, y) ∷ marks_in is_modified others) (h refl)
    | false ↦ λ h. refl
  ]) marked)

  module _ {S E : Type 0} (steps : Steps S K V E) (s t : S) (fs : List (K × Slot V)) (e : K × Slot V) (v : V) (m : Bool) (found : lookup_entry (eq k) es ≡ Some e) (marked : m ≡ (is_modified v || is_modified e.1.value)) where
    placed_so : (u : List (K × Bool)) → u ≡ placed (eq k) k m (marks_in is_modified es) → u ≡ (e.0, m) ∷ marks_in is_modified (remove_entry (eq k) es)
    placed_so u is = is ∙ rw (mark_entry is_modified (eq k) es, found) (ap (λ l. (e.0, m) ∷ l) (sym (marks_removed is_modified (eq k) es)))

    of_new : is_modified v ≡ true → m ≡ true
    of_new h = marked ∙ rw h refl

    of_old : is_modified e.1.value ≡ true → m ≡ true
    of_old h = marked ∙ rw h (elim (is_modified v) as (λ b. (b || true) ≡ true) [ true ↦ refl | false ↦ refl ])

    front_as : (x : Slot V) → (is_modified x.value ≡ true → m ≡ true) → fs ≡ (e.0, x) ∷ remove_entry (eq k) es → (u w : List (K × Bool)) → u ≡ placed (eq k) k m (marks_in is_modified es) → w ≡ settled eq is_modified fs k u → w ≡ marks_in is_modified fs
    front_as x so is u w first second =
        second ∙ ap (settled eq is_modified fs k) (placed_so u first)
        ∙ subst (λ l. settled eq is_modified l k ((e.0, m) ∷ marks_in is_modified (remove_entry (eq k) es)) ≡ marks_in is_modified l) (sym is) (front_settled e.0 x m (remove_entry (eq k) es) ((Contains-lookup_entry (eq k) es e found).1) so)

    pub replaced_settled : (left : Option V) (r : Result Bool (CacheError K E)) → Replaces steps k e (remove_entry (eq k) es) v true s es r t fs left
        → (u w : List (K × Bool)) → u ≡ placed (eq k) k m (marks_in is_modified es) → w ≡ settled eq is_modified fs k u → w ≡ marks_in is_modified fs
    replaced_settled left (Ok true) h u w = front_as (slot_of v e.1.pins) of_new h.2 u w
    replaced_settled left (Ok false) h u w = absurd (true_isnt_false h.0)
      where
        true_isnt_false : true ≡ false → ⊥
        true_isnt_false e = cc
    replaced_settled left (Err (Backend x)) h u w = front_as e.1 of_old h.2 u w
    replaced_settled left (Err InUse) h u w = absurd h
    replaced_settled left (Err (StillInUse _)) h u w = absurd h
    replaced_settled left (Err Memory) h u w = absurd h

  module _ {S E : Type 0} (steps : Steps S K V E) (s t : S) (fs : List (K × Slot V)) (m : Bool) (left : Option V) (r : Result Bool (CacheError K E)) (u w : List (K × Bool)) (first : u ≡ placed (eq k) k m (marks_in is_modified es)) (second : w ≡ settled eq is_modified fs k u) where
    replaced_of : (e : Option (K × Slot V)) (o : Option V) → lookup_entry (eq k) es ≡ e → IsSome e → IsSome o → IfSome e (λ d. IfSome o (λ v. m ≡ (is_modified v || is_modified d.1.value)))
        → IfSome e (λ d. IfSome o (λ v. Replaces steps k d (remove_entry (eq k) es) v true s es r t fs left)) → w ≡ marks_in is_modified fs
    replaced_of None o found there given marked h = cc
    replaced_of (Some e) None found there given marked h = cc
    replaced_of (Some e) (Some v) found there given marked h = replaced_settled steps s t fs e v m found marked left r h u w first second

    pub put_instead : (o : Option V) → IsSome (lookup (eq k) es) → IsSome o → IfSome (lookup (eq k) es) (λ d. IfSome o (λ v. m ≡ (is_modified v || is_modified d.value)))
        → IfSome (lookup_entry (eq k) es) (λ d. IfSome o (λ v. Replaces steps k d (remove_entry (eq k) es) v true s es r t fs left)) → w ≡ marks_in is_modified fs
    put_instead o there given marked h =
        let same = lookup-from_entry (eq k) es in
        replaced_of (lookup_entry (eq k) es) o refl (some_entry (lookup_entry (eq k) es) (subst IsSome same there)) given (marked_entry (lookup_entry (eq k) es) (subst (λ d. IfSome d (λ x. IfSome o (λ v. m ≡ (is_modified v || is_modified x.value)))) same marked)) h
      where
        some_entry : (e : Option (K × Slot V)) → IsSome (option_map (λ (x : K × Slot V). x.1) e) → IsSome e
        some_entry None h = h
        some_entry (Some e) h = refl

        marked_entry : (e : Option (K × Slot V)) → IfSome (option_map (λ (x : K × Slot V). x.1) e) (λ x. IfSome o (λ v. m ≡ (is_modified v || is_modified x.value))) → IfSome e (λ d. IfSome o (λ v. m ≡ (is_modified v || is_modified d.1.value)))
        marked_entry None h = h
        marked_entry (Some e) h = h

-- ---- a change of a value

module _ {K V : Type 0} (is_modified : V → Bool) (test : K → Bool) (es : List (K × Slot V)) where
  pub missing_entry : None ≡ value_at test es → lookup_entry test es ≡ None
  missing_entry h = (no_entry test es (none_mapped (lookup test es) (sym h))).0
    where
      none_mapped : (o : Option (Slot V)) → option_map (λ (s : Slot V). s.value) o ≡ None → o ≡ None
      none_mapped None h = refl
      none_mapped (Some s) h = absurd (none-some s.value (sym h))

  -- the marks after a change of the value under the key
  pub changed_marks : (v w : V) (b : Bool) → Some v ≡ value_at test es → b ≡ is_modified w → (us us' : List (K × Bool)) → us ≡ marks_in is_modified es → us' ≡ set_value test us b → us' ≡ marks_in is_modified (set_at test es w)
  changed_marks v w b value so us us' same is =
      is ∙ ap (λ l. set_value test l b) same ∙ ap (set_value test (marks_in is_modified es)) so ∙ changed_of (lookup test es) value
    where
      changed_of : (o : Option (Slot V)) → Some v ≡ option_map (λ (s : Slot V). s.value) o → set_value test (marks_in is_modified es) (is_modified w) ≡ marks_in is_modified (option_map_or (λ s. set_value test es (slot_of w s.pins)) o es)
      changed_of None h = absurd (none-some v (sym h))
      changed_of (Some s) h = sym (marks_set is_modified test es (slot_of w s.pins))

-- ---- entries with no pin are taken out

module _ {K V : Type 0} where
  pub pinned_without : (test : K → Bool) (es : List (K × Slot V)) (s : Slot V) → lookup test es ≡ Some s → is_pinned s ≡ false → pinned (remove_entry test es) ≡ pinned es
  pinned_without test [] s found free = refl
  pinned_without test (e ∷ es) s found free = (elim (test e.0) as (λ y. test e.0 ≡ y → pinned (remove_entry test (e ∷ es)) ≡ pinned (e ∷ es)) [
    | true ↦ λ t. let same : e.1 ≡ s = same_Some e.1 s (rw t at found) in rw (t, same, free) refl
    | false ↦ λ t. rw t (ap (λ l. cond (is_pinned e.1) (e ∷ l) l) (pinned_without test es s (rw t at found) free))
  ]) refl

  pub fewer_without : (test : K → Bool) (es : List (K × Slot V)) (s : Slot V) → lookup test es ≡ Some s → length (remove_entry test es) < length es
  fewer_without test [] s found = absurd (none-some s found)
  fewer_without test (e ∷ es) s found = (elim (test e.0) as (λ y. test e.0 ≡ y → length (remove_entry test (e ∷ es)) < suc (length es)) [
    | true ↦ λ t. rw t (omega arith)
    | false ↦ λ t. let deep = fewer_without test es s (rw t at found) in rw t (omega (arith, deep))
  ]) refl

  -- the key that is the next to go
  pub record IsNextOut (eq : K → K → Bool) (es : List (K × Slot V)) (k : K) : Type 0 where
    pub slot : Slot V
    pub found : lookup (eq k) es ≡ Some slot
    pub free : is_pinned slot ≡ false

  pub next_out : {eq : K → K → Bool} → IsEquivalence eq → (es : List (K × Slot V)) → IsDistinct eq (keys_of es) → (k : K) → Some k ≡ option_map (λ (e : K × Slot V). e.0) (oldest_free es) → IsNextOut eq es k
  next_out {eq} laws es distinct k is = of (oldest_free es) refl is
    where
      of : (o : Option (K × Slot V)) → oldest_free es ≡ o → Some k ≡ option_map (λ (e : K × Slot V). e.0) o → IsNextOut eq es k
      of None h g = absurd (none-some k (sym g))
      of (Some e) h g =
          let same : e.0 ≡ k = same_Some e.0 k (sym g) in
          record { slot = e.1; found = subst (λ x. lookup (eq x) es ≡ Some e.1) same (oldest_free-lookup laws es e distinct h); free = oldest_unpinned es e h }

  pub none_out : (es : List (K × Slot V)) → None ≡ option_map (λ (e : K × Slot V). e.0) (oldest_free es) → oldest_free es ≡ None
  none_out es is = of (oldest_free es) refl is
    where
      of : (o : Option (K × Slot V)) → oldest_free es ≡ o → None ≡ option_map (λ (e : K × Slot V). e.0) o → oldest_free es ≡ None
      of None h g = h
      of (Some e) h g = absurd (none-some e.0 g)

  -- it is taken out
  pub removed_next : {B : Type 0} (eq : K → K → Bool) (old new : Cache B K V) (k : K) (next : IsNextOut eq old.entries k) (r : Bool) → r ≡ can_remove (eq k) old.entries
      → new ≡ with_entries old (cond r (remove_entry (eq k) old.entries) old.entries) → new ≡ with_entries old (remove_entry (eq k) old.entries)
  removed_next eq old new k next r value is =
      let can : can_remove (eq k) old.entries ≡ true = rw next.found (ap not next.free) in
      is ∙ ap (λ b. with_entries old (cond b (remove_entry (eq k) old.entries) old.entries)) (value ∙ can)
