-- Flushing all entries up to some entry.
use Rattle.std.proofs.Common.{◌≡◌, ◌∷◌, ◌++◌, List, [], length, Option, Some, None, Bool, true, Result, Ok, Err, refl, sym, ap, ◌∙◌, subst, append_assoc, append-nil, arith, IfSome, IsSome, OnOk, IfErr}
use Rattle.qcow2_alloc.proofs.Common.{option_or, OnErr, result_err, lookup, set_value, length-set_value, set_value_same, LruCache, lru_cache, Slot, Steps, slot_of, CacheError, Backend, Unit₀, FlushesEntry, FlushesAll, FlushesKey, FlushesFound}
use Rattle.qcow2_alloc.proofs.CachedEntries.Lists.{option_or-assoc, option_or-none}

module _ {S K V E : Type 0} (steps : Steps S K V E) (s : S) (es : List (K × Slot V)) where
  -- whatever a flush of what is left does, with what was done it is a flush of all
  pub record Flushing (first : Option E) (r : S) (todo done : List (K × Slot V)) : Type 0 where
    pub eviction_on : (y : Option E) (t : S) (rest : List (K × Slot V)) → FlushesAll steps r todo y t rest → FlushesAll steps s es (option_or first y) t (done ++ rest)

  pub flushing_more : (first : Option E) (r : S) (e : K × Slot V) (todo done : List (K × Slot V)) (x : Option E) (r' : S) (d : Slot V)
      → Flushing first r (e ∷ todo) done → FlushesEntry steps r e x r' d → Flushing (option_or first x) r' todo (done ++ (e.0, d) ∷ [])
  flushing_more first r e todo done x r' d f h = record {
    eviction_on = λ y t rest g.
        subst (λ l. FlushesAll steps s es (option_or (option_or first x) y) t l) (sym (append_assoc done ((e.0, d) ∷ []) rest))
        (subst (λ o. FlushesAll steps s es o t (done ++ (e.0, d) ∷ rest)) (sym (option_or-assoc first x y))
        (f.eviction_on (option_or x y) t ((e.0, d) ∷ rest) (x, r', d, y, rest, h, g, refl, refl)));
  }

  pub flushing_all : (first : Option E) (r : S) (done : List (K × Slot V)) → Flushing first r [] done → FlushesAll steps s es first r done
  flushing_all first r done f =
      subst (λ l. FlushesAll steps s es first r l) (append-nil done)
      (subst (λ o. FlushesAll steps s es o r (done ++ [])) (option_or-none first)
      (f.eviction_on None r [] (refl, refl, refl)))

pub length_flushed : {S K V E : Type 0} (steps : Steps S K V E) (s : S) (es : List (K × Slot V)) (o : Option E) (t : S) (fs : List (K × Slot V)) → FlushesAll steps s es o t fs → length fs ≡ length es
length_flushed steps s [] o t fs h = ap length h.2
length_flushed steps s (e ∷ es) o t fs h = let r = length_flushed steps h.1 es h.3 t h.4 h.6 in let l = ap length h.8 in omega arith

-- what a backend's flush of the value under a key makes of the entries
pub flushed_found : {S K V E : Type 0} (steps : Steps S K V E) (test : K → Bool) (k : K) (s : S) (c : LruCache K (Slot V)) (t : S) (e : Slot V) (v : V) (r : Result Unit₀ E)
    → OnOk r (steps.flushed s k e.value v t) → IfErr r (λ x. steps.flush_failed s k e.value x t) → OnErr r (v ≡ e.value)
    → FlushesFound steps test k e s c (result_err r) t (lru_cache (set_value test c.entries (slot_of v e.pins)) c.cap)
flushed_found steps test k s c t e v (Ok u) ok err kept = record { slot = slot_of v e.pins; step = (ok, refl); entries = refl }
flushed_found steps test k s c t e v (Err x) ok err kept = record { slot = slot_of v e.pins; step = (err, ap (λ w. slot_of w e.pins) kept); entries = refl }

module _ {S K V E : Type 0} (steps : Steps S K V E) (test : K → Bool) (k : K) (s : S) (c n : LruCache K (Slot V)) (t : S) where
  -- what `flush_key` answers and leaves
  pub record IsFlushedAt (r : Result Bool (CacheError K E)) : Type 0 where
    pub answer : IfSome (lookup test c.entries) (λ e. FlushesKey steps test k e s c.entries r t n.entries)
    pub fits : length n.entries ≡ length c.entries
    pub cap : n.cap ≡ c.cap

  flushed_of : (o : Option (Slot V)) → lookup test c.entries ≡ o → IfSome o (λ e. FlushesFound steps test k e s c None t n) → IsSome o → IsFlushedAt (Ok true)
  flushed_of None h f g = cc
  flushed_of (Some e) h f g = record {
    answer = rw h (f.slot.value, f.step.0, ap (λ m. m.entries) f.entries ∙ ap (λ p. set_value test c.entries (slot_of f.slot.value p)) f.step.1);
    fits = ap (λ m. length m.entries) f.entries ∙ length-set_value test c.entries f.slot;
    cap = ap (λ m. m.cap) f.entries;
  }

  pub flushed_at : IfSome (lookup test c.entries) (λ e. FlushesFound steps test k e s c None t n) → IsSome (lookup test c.entries) → IsFlushedAt (Ok true)
  flushed_at = flushed_of (lookup test c.entries) refl

  failed_of : (x : E) (o : Option (Slot V)) → lookup test c.entries ≡ o → IfSome o (λ e. FlushesFound steps test k e s c (Some x) t n) → IsSome o → IsFlushedAt (Err (Backend x))
  failed_of x None h f g = cc
  failed_of x (Some e) h f g =
      let same : n ≡ c = f.entries ∙ ap (λ l. lru_cache l c.cap) (ap (set_value test c.entries) f.step.1 ∙ set_value_same test c.entries e h) in record {
        answer = rw h (f.step.0, ap (λ m. m.entries) same);
        fits = ap (λ m. length m.entries) same;
        cap = ap (λ m. m.cap) same;
      }

  pub failed_at : (x : E) → IfSome (lookup test c.entries) (λ e. FlushesFound steps test k e s c (Some x) t n) → IsSome (lookup test c.entries) → IsFlushedAt (Err (Backend x))
  failed_at x = failed_of x (lookup test c.entries) refl
