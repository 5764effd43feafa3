-- What a cache call leaves of a measure of its store that steps never lower and faults increase.
use Rattle.std.proofs.Common.{◌≡◌, ◌≤◌, ◌∷◌, ℕ, Bool, true, false, List, [], Option, Some, None, Result, Ok, Err, ⊎_elim, ap, sym, ◌∙◌, subst, arith}
use Rattle.qcow2_alloc.proofs.Common.{option_or, Rose, rose_since, rose_still, Slot, CacheError, InUse, StillInUse, Memory, Backend, Steps, Unit₀, FlushesEntry, FlushesAll, Flushes, Replaces, HasRoomForEntry, HasNoRoom, InsertsNew, GetsNew, Evicts}

module _ {S K V E : Type 0} (steps : Steps S K V E) (faults : S → ℕ) (IsFault : E → Type 0) where
  -- a failure with this error, where there was one, raised the number
  pub record Fails (s : S) (x : E) (t : S) : Type 0 where
    pub no_fewer : faults s ≤ faults t
    pub rose : IsFault x → Rose (faults s) (faults t)

  -- a failure of one step with this error: but for a fault, the number stays
  pub record FailsOnce (s : S) (x : E) (t : S) : Type 0 where
    pub fails : Fails s x t
    pub stays : ¬ IsFault x → faults t ≡ faults s

  -- a fault raises the number, and nothing else changes it
  pub record CountsFaults : Type 0 where
    pub loaded : (s t : S) (k : K) (v : V) → steps.loaded s k v t → faults t ≡ faults s
    pub load_failed : (s t : S) (k : K) (x : E) → steps.load_failed s k x t → FailsOnce s x t
    pub flushed : (s t : S) (k : K) (v w : V) → steps.flushed s k v w t → faults t ≡ faults s
    pub flush_failed : (s t : S) (k : K) (v : V) (x : E) → steps.flush_failed s k v x t → FailsOnce s x t

  -- what an answer says, where such a failure has told so
  module _ (Told : S → E → S → Type 0) where
    abbrev pub AnswersBy : {A : Type 0} → S → Result A (CacheError K E) → S → Type 0
    AnswersBy s (Ok _) t = faults t ≡ faults s
    AnswersBy s (Err InUse) t = faults t ≡ faults s
    AnswersBy s (Err (StillInUse _)) t = ⊥
    AnswersBy s (Err Memory) t = faults t ≡ faults s
    AnswersBy s (Err (Backend x)) t = Told s x t

  -- of a flush of all, which goes on past its first failure, and of a call that stops there
  abbrev pub FlushAnswers : {A : Type 0} → S → Result A (CacheError K E) → S → Type 0
  FlushAnswers = AnswersBy Fails

  abbrev pub Answers : {A : Type 0} → S → Result A (CacheError K E) → S → Type 0
  Answers = AnswersBy FailsOnce

  abbrev pub AnswersOne : S → Option E → S → Type 0
  AnswersOne s None t = faults t ≡ faults s
  AnswersOne s (Some x) t = Fails s x t

  module _ (counts : CountsFaults) where
    fails_after : (s r t : S) (x : E) → faults r ≡ faults s → Fails r x t → Fails s x t
    fails_after s r t x same f = record {
      no_fewer = omega (arith, same, f.no_fewer);
      rose = λ h. rose_since (faults s) (faults r) (faults t) (omega (arith, same)) (f.rose h);
    }

    once_after : (s r t : S) (x : E) → faults r ≡ faults s → FailsOnce r x t → FailsOnce s x t
    once_after s r t x same f = record { fails = fails_after s r t x same f.fails; stays = λ no. f.stays no ∙ same }

    fails_before : (s r t : S) (x : E) → Fails s x r → faults r ≤ faults t → Fails s x t
    fails_before s r t x f le = record {
      no_fewer = omega (arith, f.no_fewer);
      rose = λ h. rose_still (faults s) (faults r) (faults t) (f.rose h) le;
    }

    one_entry : (s t : S) (e : K × Slot V) (o : Option E) (d : Slot V) → FlushesEntry steps s e o t d → AnswersOne s o t
    one_entry s t e None d h = counts.flushed s t e.0 e.1.value d.value h.0
    one_entry s t e (Some x) d h = (counts.flush_failed s t e.0 e.1.value x h.0).fails

    first_of : (s r t : S) (x y : Option E) → AnswersOne s x r → AnswersOne r y t → AnswersOne s (option_or x y) t
    first_of s r t None None f g = g ∙ f
    first_of s r t None (Some y) f g = fails_after s r t y f g
    first_of s r t (Some x) None f g = fails_before s r t x f (omega (arith, g))
    first_of s r t (Some x) (Some y) f g = fails_before s r t x f g.no_fewer

    flush_of_all : (s t : S) (es fs : List (K × Slot V)) (o : Option E) → FlushesAll steps s es o t fs → AnswersOne s o t
    flush_of_all s t [] fs o h = subst (λ o. AnswersOne s o t) (sym h.0) (ap faults h.1)
    flush_of_all s t (e ∷ es) fs o (x, r, d, y, rest, one, more, is, _) =
        subst (λ o. AnswersOne s o t) (sym is) (first_of s r t x y (one_entry s r e x d one) (flush_of_all r t es rest y more))

    pub flush_answers : (s t : S) (es fs : List (K × Slot V)) (result : Result Unit₀ (CacheError K E)) → Flushes steps s es result t fs → FlushAnswers s result t
    flush_answers s t es fs (Ok _) h = flush_of_all s t es fs None h
    flush_answers s t es fs (Err (Backend x)) h = flush_of_all s t es fs (Some x) h
    flush_answers s t es fs (Err InUse) h = absurd h
    flush_answers s t es fs (Err Memory) h = absurd h
    flush_answers s t es fs (Err (StillInUse _)) h = absurd h

    module _ (eq : K → K → Bool) (size : ℕ) (may_flush : Bool) where
      room : (s t : S) (es fs : List (K × Slot V)) → HasRoomForEntry steps eq size may_flush s es t fs → faults t ≡ faults s
      room s t es fs h = ⊎_elim
          (λ same. ap faults same.1)
          (λ (evicted : Evicts steps eq size may_flush s es t fs). counts.flushed s t evicted.entry.0 evicted.entry.1.value evicted.clean evicted.flushed)
          h

      no_room : (s t : S) (es fs : List (K × Slot V)) (result : Result Bool (CacheError K E)) → HasNoRoom steps eq size may_flush s es result t fs → Answers s result t
      no_room s t es fs (Ok true) h = absurd h
      no_room s t es fs (Ok false) h = ap faults h.2
      no_room s t es fs (Err InUse) h = ap faults h.2
      no_room s t es fs (Err (Backend x)) h = counts.flush_failed s t h.entry.0 h.entry.1.value x h.failed
      no_room s t es fs (Err Memory) h = absurd h
      no_room s t es fs (Err (StillInUse _)) h = absurd h

      pub get_answers : (s t : S) (k : K) (es fs : List (K × Slot V)) (result : Result Bool (CacheError K E)) → GetsNew steps eq size may_flush k s es result t fs → Answers s result t
      get_answers s t k es fs (Ok true) (r, gs, v, had, loaded, _) = counts.loaded r t k v loaded ∙ room s r es gs had
      get_answers s t k es fs (Ok false) h = no_room s t es fs (Ok false) h
      get_answers s t k es fs (Err Memory) (r, v, had, loaded) = counts.loaded r t k v loaded ∙ room s r es fs had
      get_answers s t k es fs (Err InUse) h = no_room s t es fs (Err InUse) h
      get_answers s t k es fs (Err (Backend x)) h = ⊎_elim (λ no. no_room s t es fs (Err (Backend x)) no)
          (λ (failed : (r : S) × HasRoomForEntry steps eq size may_flush s es r fs × steps.load_failed r k x t). once_after s failed.0 t x (room s failed.0 es fs failed.1) (counts.load_failed failed.0 t k x failed.2)) h
      get_answers s t k es fs (Err (StillInUse _)) h = absurd h

      pub insert_answers : (s t : S) (k : K) (v : V) (es fs : List (K × Slot V)) (left : Option V) (result : Result Bool (CacheError K E)) → InsertsNew steps eq size may_flush k v s es result t fs left → Answers s result t
      insert_answers s t k v es fs left (Ok true) h = room s t es h.0.0 h.0.1
      insert_answers s t k v es fs left (Ok false) h = no_room s t es fs (Ok false) h.0
      insert_answers s t k v es fs left (Err Memory) h = room s t es fs h.0
      insert_answers s t k v es fs left (Err InUse) h = no_room s t es fs (Err InUse) h.0
      insert_answers s t k v es fs left (Err (Backend x)) h = no_room s t es fs (Err (Backend x)) h.0
      insert_answers s t k v es fs left (Err (StillInUse _)) h = absurd h

    pub replace_answers : (s t : S) (k : K) (e : K × Slot V) (others : List (K × Slot V)) (v : V) (may_flush : Bool) (es fs : List (K × Slot V)) (left : Option V) (result : Result Bool (CacheError K E))
        → Replaces steps k e others v may_flush s es result t fs left → Answers s result t
    replace_answers s t k e others v may_flush es fs left (Ok true) h = counts.flushed s t k e.1.value h.1.0 h.1.1
    replace_answers s t k e others v may_flush es fs left (Ok false) h = ap faults h.1
    replace_answers s t k e others v may_flush es fs left (Err (Backend x)) h = counts.flush_failed s t k e.1.value x h.1
    replace_answers s t k e others v may_flush es fs left (Err InUse) h = absurd h
    replace_answers s t k e others v may_flush es fs left (Err (StillInUse _)) h = absurd h
    replace_answers s t k e others v may_flush es fs left (Err Memory) h = absurd h
