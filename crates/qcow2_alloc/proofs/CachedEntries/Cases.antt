-- What each call of a cache does to its entries, by cases.
use Rattle.std.proofs.Common.{◌≡◌, ◌∷◌, inl, inr, ℕ, Bool, true, false, List, Option, Some, None, Result, Ok, Err, refl, sym, subst}
use Rattle.qcow2_alloc.proofs.Common.{Slot, CacheError, InUse, StillInUse, Memory, Backend, slot_of, Steps, Unit₀, FlushesAll, Flushes, GetsNew, HasRoomForEntry, InsertsNew, Replaces}

module _ {S K V E : Type 0} (steps : Steps S K V E) (s t : S) (es fs : List (K × Slot V)) where
  -- a flush is one of each entry in turn
  pub flush_cases : (r : Result Unit₀ (CacheError K E)) → Flushes steps s es r t fs → (x : Option E) × FlushesAll steps s es x t fs
  flush_cases (Ok _) h = (None, h)
  flush_cases (Err (Backend x)) h = (Some x, h)
  flush_cases (Err InUse) h = absurd h
  flush_cases (Err Memory) h = absurd h
  flush_cases (Err (StillInUse _)) h = absurd h

  -- what holds of the entries as they are, and of those that a call can leave, holds of those that it leaves
  module _ (k : K) (may_flush : Bool) (Goal : List (K × Slot V) → Type 0) (same : Goal es) where
    module _ (eq : K → K → Bool) (size : ℕ) (room : (q : S) (gs : List (K × Slot V)) → HasRoomForEntry steps eq size may_flush s es q gs → Goal gs) where
      pub get_cases : (r : Result Bool (CacheError K E)) → ((q : S) (gs : List (K × Slot V)) (v : V) → HasRoomForEntry steps eq size may_flush s es q gs → steps.loaded q k v t → Goal ((k, slot_of v 0) ∷ gs))
          → GetsNew steps eq size may_flush k s es r t fs → Goal fs
      get_cases (Ok true) new h = subst Goal (sym h.5) (new h.0 h.1 h.2 h.3 h.4)
      get_cases (Ok false) new h = subst Goal (sym h.3) same
      get_cases (Err InUse) new h = subst Goal (sym h.3) same
      get_cases (Err (StillInUse _)) new h = absurd h
      get_cases (Err Memory) new h = room h.0 fs h.2
      get_cases (Err (Backend x)) new h = elim h [ inl none ↦ subst Goal (sym none.same) same | inr failed ↦ room failed.0 fs failed.1 ]

      pub insert_cases : (v : V) (r : Result Bool (CacheError K E)) (left : Option V) → ((gs : List (K × Slot V)) → r ≡ Ok true → HasRoomForEntry steps eq size may_flush s es t gs → Goal ((k, slot_of v 0) ∷ gs))
          → InsertsNew steps eq size may_flush k v s es r t fs left → Goal fs
      insert_cases v (Ok true) left new h = subst Goal (sym h.0.2) (new h.0.0 refl h.0.1)
      insert_cases v (Ok false) left new h = subst Goal (sym h.0.3) same
      insert_cases v (Err InUse) left new h = subst Goal (sym h.0.3) same
      insert_cases v (Err (StillInUse _)) left new h = absurd h
      insert_cases v (Err Memory) left new h = room t fs h.0
      insert_cases v (Err (Backend x)) left new h = subst Goal (sym h.0.same) same

    pub replace_cases : (e : K × Slot V) (others : List (K × Slot V)) (v : V) (r : Result Bool (CacheError K E)) (left : Option V) → Goal (e ∷ others) → (r ≡ Ok true → Goal ((e.0, slot_of v e.1.pins) ∷ others))
        → Replaces steps k e others v may_flush s es r t fs left → Goal fs
    replace_cases e others v (Ok true) left front new h = subst Goal (sym h.2) (new refl)
    replace_cases e others v (Ok false) left front new h = subst Goal (sym h.2) same
    replace_cases e others v (Err (Backend x)) left front new h = subst Goal (sym h.2) front
    replace_cases e others v (Err InUse) left front new h = absurd h
    replace_cases e others v (Err (StillInUse _)) left front new h = absurd h
    replace_cases e others v (Err Memory) left front new h = absurd h
