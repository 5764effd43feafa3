-- One step of the loops that visit each entry once.
use Rattle.std.proofs.Common.{◌≡◌, ◌+◌, ◌<◌, ◌≤◌, ◌∷◌, ◌++◌, ℕ, Bool, true, false, List, [], length, All, Option, Some, None, refl, sym, ap, ◌∙◌, subst, arith, append_assoc, append-nil, slice_get, IsSome, IfSome}
use Rattle.qcow2_alloc.proofs.Common.{IsEquivalence, option_map, option_or, lookup, remove_entry, set_value, same_Some, none-some, LruCache, lru_cache, demoted, Slot, pinned, is_pinned, Steps, FlushesAll, FlushesFound}
use Rattle.std.proofs.lemmas.List.Elements.{All-cons}
use Rattle.qcow2_alloc.proofs.Lemmas.{pinned_kept, pinned_gone, demoted_front, removed_front, set_front, lookup_front, Flushing, flushing_more, flushing_all}

module _ {X : Type 0} (all : List X) (P : List X → List X → Type 0) where
  -- after so many turns the list is what is left and then what was kept, and P holds of these
  pub record IsAround (es : List X) (turn : ℕ) : Type 0 where
    pub todo : List X
    pub done : List X
    pub split : es ≡ todo ++ done
    pub left : turn + length todo ≡ length all
    pub holds : P todo done

  -- the first that is left
  pub record IsNext (x : X) (es : List X) (turn : ℕ) (todo done : List X) : Type 0 where
    pub rest : List X
    pub todo_is : todo ≡ x ∷ rest
    pub es_is : es ≡ x ∷ (rest ++ done)
    pub left : (turn + 1) + length rest ≡ length all

  next_of : (x : X) (es : List X) (turn : ℕ) (todo done : List X) → es ≡ todo ++ done → turn + length todo ≡ length all → turn < length all → slice_get es 0 ≡ Some x → IsNext x es turn todo done
  next_of x es turn [] done split left lt peek = absurd (omega arith)
  next_of x es turn (y ∷ rest) done split left lt peek =
      let same : y ≡ x = let h : Some y ≡ Some x = rw split at peek in same_Some y x h in record {
        rest = rest;
        todo_is = ap (λ z. z ∷ rest) same;
        es_is = split ∙ ap (λ z. z ∷ (rest ++ done)) same;
        left = omega arith;
      }

  pub next : (x : X) (es : List X) (turn : ℕ) (a : IsAround es turn) → turn < length all → slice_get es 0 ≡ Some x → IsNext x es turn a.todo a.done
  next x es turn a = next_of x es turn a.todo a.done a.split a.left

  first_of : {Y : Type 0} (f : Y → X) (o : Option Y) (es : List X) (turn : ℕ) (todo done : List X) → es ≡ todo ++ done → turn + length todo ≡ length all → turn < length all → option_map f o ≡ slice_get es 0 → IsSome o
  first_of f o es turn [] done split left lt peek = absurd (omega arith)
  first_of f None es turn (y ∷ rest) done split left lt peek = let h : None ≡ Some y = rw split at peek in absurd (none-some y h)
  first_of f (Some z) es turn (y ∷ rest) done split left lt peek = refl

  -- before the end there is a first
  pub has_first : {Y : Type 0} (f : Y → X) (o : Option Y) (es : List X) (turn : ℕ) → IsAround es turn → turn < length all → option_map f o ≡ slice_get es 0 → IsSome o
  has_first f o es turn a = first_of f o es turn a.todo a.done a.split a.left

  ended : (es : List X) (turn : ℕ) (todo done : List X) → es ≡ todo ++ done → turn + length todo ≡ length all → P todo done → length all ≤ turn → P [] es
  ended es turn [] done split left h le = subst (P []) (sym split) h
  ended es turn (x ∷ xs) done split left h le = absurd (omega arith)

  -- once around
  pub around : (es : List X) (turn : ℕ) → IsAround es turn → length all ≤ turn → P [] es
  around es turn a = ended es turn a.todo a.done a.split a.left a.holds

module _ {K V : Type 0} (all : List (K × Slot V)) (Q : K × Slot V → Type 0) where
  -- the entries with a pin are kept, and Q holds of each that was passed
  pub record IsEvicting (todo done : List (K × Slot V)) : Type 0 where
    pub kept : pinned all ≡ done ++ pinned todo
    pub passed : All Q todo → All Q all

  -- one turn further
  pub record HasTurned (c n : LruCache K (Slot V)) (turn : ℕ) : Type 0 where
    pub around : IsAround all IsEvicting n.entries (turn + 1)
    pub cap : n.cap ≡ c.cap

  module _ {eq : K → K → Bool} (laws : IsEquivalence eq) (c n : LruCache K (Slot V)) (turn : ℕ) (a : IsAround all IsEvicting c.entries turn) (lt : turn < length all) (k : K) (s : Slot V) (peek : slice_get c.entries 0 ≡ Some (k, s)) where
    passes : Q (k, s) → (rest : List (K × Slot V)) → a.todo ≡ (k, s) ∷ rest → All Q rest → All Q all
    passes holds rest is h = a.holds.passed (subst (All Q) (sym is) (All-cons Q (k, s) rest holds h))

    pub kept_turn : Q (k, s) → is_pinned s ≡ true → n ≡ lru_cache (demoted (eq k) c.entries) c.cap → HasTurned c n turn
    kept_turn holds pin is =
        let f = next all IsEvicting (k, s) c.entries turn a lt peek in
        let keeps : pinned a.todo ≡ (k, s) ∷ pinned f.rest = ap pinned f.todo_is ∙ pinned_kept (k, s) f.rest pin in record {
          around = record {
            todo = f.rest;
            done = a.done ++ (k, s) ∷ [];
            split = ap (λ m. m.entries) is ∙ ap (demoted (eq k)) f.es_is ∙ demoted_front (eq k) (k, s) (f.rest ++ a.done) (laws.refl k) ∙ append_assoc f.rest a.done ((k, s) ∷ []);
            left = f.left;
            holds = record {
              kept = a.holds.kept ∙ ap (λ l. a.done ++ l) keeps ∙ sym (append_assoc a.done ((k, s) ∷ []) (pinned f.rest));
              passed = passes holds f.rest f.todo_is;
            };
          };
          cap = ap (λ m. m.cap) is;
        }

    pub gone_turn : Q (k, s) → is_pinned s ≡ false → n ≡ lru_cache (remove_entry (eq k) c.entries) c.cap → HasTurned c n turn
    gone_turn holds pin is =
        let f = next all IsEvicting (k, s) c.entries turn a lt peek in
        let keeps : pinned a.todo ≡ pinned f.rest = ap pinned f.todo_is ∙ pinned_gone (k, s) f.rest pin in record {
          around = record {
            todo = f.rest;
            done = a.done;
            split = ap (λ m. m.entries) is ∙ ap (remove_entry (eq k)) f.es_is ∙ removed_front (eq k) (k, s) (f.rest ++ a.done) (laws.refl k);
            left = f.left;
            holds = record {
              kept = a.holds.kept ∙ ap (λ l. a.done ++ l) keeps;
              passed = passes holds f.rest f.todo_is;
            };
          };
          cap = ap (λ m. m.cap) is;
        }

-- the first entry is found under its key
pub lookup-first : {K X : Type 0} {eq : K → K → Bool} (laws : IsEquivalence eq) (es : List (K × X)) (k : K) (x : X) → slice_get es 0 ≡ Some (k, x) → lookup (eq k) es ≡ Some x
lookup-first laws [] k x h = cc
lookup-first {eq} laws (e ∷ es) k x h = let p = same_Some e (k, x) h in subst (λ y. lookup (eq k) (y ∷ es) ≡ Some x) (sym p) (lookup_front (eq k) (k, x) es (laws.refl k))

module _ {S K V E : Type 0} (steps : Steps S K V E) (s₀ : S) (all : List (K × Slot V)) where
  -- as far as a flush of all has come
  abbrev pub IsFlushing : Option E → S → List (K × Slot V) → ℕ → Type 0
  IsFlushing first s = IsAround all (Flushing steps s₀ all first s)

  -- one turn further
  pub record HasFlushed (first : Option E) (s : S) (c n : LruCache K (Slot V)) (turn : ℕ) : Type 0 where
    pub flushing : IsFlushing first s n.entries (turn + 1)
    pub cap : n.cap ≡ c.cap

  pub flush_turn : {eq : K → K → Bool} (laws : IsEquivalence eq) (first : Option E) (s : S) (c m n : LruCache K (Slot V)) (turn : ℕ) → IsFlushing first s c.entries turn → turn < length all
      → (k : K) (e : Slot V) → slice_get c.entries 0 ≡ Some (k, e) → (x : Option E) (t : S) → IfSome (lookup (eq k) c.entries) (λ slot. FlushesFound steps (eq k) k slot s c x t m)
      → n ≡ lru_cache (demoted (eq k) m.entries) m.cap → (y : Option E) → y ≡ option_or first x → HasFlushed y t c n turn
  flush_turn {eq} laws first s c m n turn a lt k e peek x t flush is y sum =
      let h = rw (lookup-first laws c.entries k e peek) at flush in
      let f = next all (Flushing steps s₀ all first s) (k, e) c.entries turn a lt peek in
      let set : m.entries ≡ (k, h.slot) ∷ (f.rest ++ a.done) = ap (λ l. l.entries) h.entries ∙ ap (λ l. set_value (eq k) l h.slot) f.es_is ∙ set_front (eq k) (k, e) (f.rest ++ a.done) h.slot (laws.refl k) in record {
        flushing = record {
          todo = f.rest;
          done = a.done ++ (k, h.slot) ∷ [];
          split = ap (λ l. l.entries) is ∙ ap (demoted (eq k)) set ∙ demoted_front (eq k) (k, h.slot) (f.rest ++ a.done) (laws.refl k) ∙ append_assoc f.rest a.done ((k, h.slot) ∷ []);
          left = f.left;
          holds = subst (λ o. Flushing steps s₀ all o t f.rest (a.done ++ (k, h.slot) ∷ [])) (sym sum)
              (flushing_more steps s₀ all first s (k, e) f.rest a.done x t h.slot (subst (λ l. Flushing steps s₀ all first s l a.done) f.todo_is a.holds) h.step);
        };
        cap = ap (λ l. l.cap) is ∙ ap (λ l. l.cap) h.entries;
      }

  pub flush_begins : IsFlushing None s₀ all 0
  flush_begins = record { todo = all; done = []; split = sym (append-nil all); left = omega arith; holds = record { eviction_on = λ y t rest h. h } }

  pub flushed_around : (first : Option E) (s : S) (es : List (K × Slot V)) (turn : ℕ) → IsFlushing first s es turn → length all ≤ turn → FlushesAll steps s₀ all first s es
  flushed_around first s es turn a le = flushing_all steps s₀ all first s es (around all (Flushing steps s₀ all first s) es turn a le)
