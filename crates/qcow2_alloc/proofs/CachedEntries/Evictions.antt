-- Which entry moves to the front, and which is evicted.
use Rattle.std.proofs.Common.{◌≡◌, ◌∷◌, ℕ, Bool, true, false, cond, inl, inr, List, Option, Some, None, Result, Ok, Err, refl, ap, ◌∙◌, is_some, IsSome}
use Rattle.qcow2_alloc.proofs.Common.{IsEquivalence, IsNone, option_map, option_map_or, lookup, lookup_entry, remove_entry, promoted, Contains-lookup_entry, Slot, CacheError, InUse, StillInUse, Memory, Backend, slot_of, IsInFront, OnlyOldestGoes, Steps, HasRoomForEntry, HasNoRoom, GetsNew}
use Rattle.qcow2_alloc.proofs.Lemmas.{lookup-from_entry, lookup-promoted, removed_apart}

some_or_none : {X : Type 0} (o : Option X) → IsSome o → IsNone o → ⊥
some_or_none None h g = cc
some_or_none (Some x) h g = cc

module _ {K V : Type 0} (test : K → Bool) (es : List (K × Slot V)) where
  front_of : (o : Option (K × Slot V)) → lookup_entry test es ≡ o → IsSome (lookup test es) → IsInFront test (option_map_or (λ e. e ∷ remove_entry test es) o es)
  front_of None h g = absurd (some_or_none (lookup test es) g (ap is_some (lookup-from_entry test es ∙ ap (option_map (λ (x : K × Slot V). x.1)) h)))
  front_of (Some e) h g = (Contains-lookup_entry test es e h).1

  -- a hit is in front
  pub front-promoted : IsSome (lookup test es) → IsInFront test (promoted test es)
  front-promoted = front_of (lookup_entry test es) refl

module _ {S K V E : Type 0} (steps : Steps S K V E) {eq : K → K → Bool} (laws : IsEquivalence eq) (s : S) where
  -- its flush succeeded
  abbrev pub IsFlushed : K × Slot V → Type 0
  IsFlushed e = (w : V) × (t : S) × steps.flushed s e.0 e.1.value w t

  abbrev pub OldestGoes : List (K × Slot V) → List (K × Slot V) → Type 0
  OldestGoes = OnlyOldestGoes eq IsFlushed

  eviction_none : (es fs : List (K × Slot V)) → fs ≡ es → OldestGoes es fs
  eviction_none es fs is j there gone = absurd (some_or_none (lookup (eq j) es) there (rw is at gone))

  pub hit_eviction : (es : List (K × Slot V)) (k : K) → OldestGoes es (promoted (eq k) es)
  hit_eviction es k j there gone = absurd (some_or_none (lookup (eq j) es) there (rw (lookup-promoted laws es k j) at gone))

  evict_case : (t : S) (es : List (K × Slot V)) (e : K × Slot V) (w : V) → steps.flushed s e.0 e.1.value w t → (j : K) → IsSome (lookup (eq j) es) → IsNone (lookup (eq j) (remove_entry (eq e.0) es))
      → (c : Bool) → eq j e.0 ≡ c → (eq j e.0 ≡ true) × IsFlushed e
  evict_case t es e w h j there gone true same = (same, (w, t, h))
  evict_case t es e w h j there gone false other = absurd (some_or_none (lookup (eq j) es) there (rw (removed_apart laws es e.0 j (laws.symm e.0 j ∙ other)) at gone))

  room_eviction : (size : ℕ) (may_flush : Bool) (t : S) (es fs : List (K × Slot V)) → HasRoomForEntry steps eq size may_flush s es t fs → OldestGoes es fs
  room_eviction size may_flush t es fs h = elim h [
    | inl r ↦ eviction_none es fs r.2
    | inr r ↦ λ j there gone. rw r.eviction (evict_case t es r.entry r.clean r.flushed j there (rw r.rest at gone) (eq j r.entry.0) refl)
  ]

  no_room_eviction : (size : ℕ) (may_flush : Bool) (t : S) (es fs : List (K × Slot V)) (r : Result Bool (CacheError K E)) → HasNoRoom steps eq size may_flush s es r t fs → OldestGoes es fs
  no_room_eviction size may_flush t es fs (Ok true) h = absurd h
  no_room_eviction size may_flush t es fs (Ok false) h = eviction_none es fs h.3
  no_room_eviction size may_flush t es fs (Err InUse) h = eviction_none es fs h.3
  no_room_eviction size may_flush t es fs (Err (StillInUse _)) h = absurd h
  no_room_eviction size may_flush t es fs (Err Memory) h = absurd h
  no_room_eviction size may_flush t es fs (Err (Backend x)) h = eviction_none es fs h.same

  new_eviction : (es gs : List (K × Slot V)) (k : K) (v : V) → OldestGoes es gs → OldestGoes es ((k, slot_of v 0) ∷ gs)
  new_eviction es gs k v h j there gone = h j there (behind (eq j k) (lookup (eq j) gs) gone)
    where
      behind : (c : Bool) (o : Option (Slot V)) → IsNone (cond c (Some (slot_of v 0)) o) → IsNone o
      behind true o g = cc
      behind false o g = g

  -- a load of a new key
  pub gets_eviction : (size : ℕ) (may_flush : Bool) (k : K) (t : S) (es fs : List (K × Slot V)) (r : Result Bool (CacheError K E)) → GetsNew steps eq size may_flush k s es r t fs → OldestGoes es fs
  gets_eviction size may_flush k t es fs (Ok true) h = rw h.5 (new_eviction es h.1 k h.2 (room_eviction size may_flush h.0 es h.1 h.3))
  gets_eviction size may_flush k t es fs (Ok false) h = no_room_eviction size may_flush t es fs (Ok false) h
  gets_eviction size may_flush k t es fs (Err InUse) h = no_room_eviction size may_flush t es fs (Err InUse) h
  gets_eviction size may_flush k t es fs (Err (StillInUse _)) h = absurd h
  gets_eviction size may_flush k t es fs (Err Memory) h = room_eviction size may_flush h.0 es fs h.2
  gets_eviction size may_flush k t es fs (Err (Backend x)) h = elim h [
    | inl r ↦ no_room_eviction size may_flush t es fs (Err (Backend x)) r
    | inr r ↦ room_eviction size may_flush r.0 es fs r.1
  ]
