-- Making room for one more entry.
use Rattle.std.proofs.Common.{◌≡◌, ◌<◌, ◌≤◌, ℕ, Bool, true, length, Option, Some, None, Result, Ok, IfSome, inl, inr, List, refl, sym, ap, ◌∙◌, subst, arith}
use Rattle.qcow2_alloc.proofs.Common.{IsEquivalence, IsDistinct, option_map, keys_of, lookup, remove_entry, set_value_same, LruCache, lru_cache, Slot, CacheError, oldest_free, Steps, MustEvict, FailsToEvict, HasRoomForEntry, MakesRoom, FlushesFound}
use Rattle.qcow2_alloc.proofs.CachedEntries.Lists.{remove_entry-set_value, length-remove_found, lookup_none-removed, oldest_free-lookup}

module _ {K V : Type 0} (eq : K → K → Bool) (es : List (K × Slot V)) where
  -- the entry that `oldest_free` names by its key
  pub record IsOldest (k : K) : Type 0 where
    pub entry : K × Slot V
    pub eviction : oldest_free es ≡ Some entry
    pub key : entry.0 ≡ k
    pub here : lookup (eq k) es ≡ Some entry.1

  oldest_of : IsEquivalence eq → IsDistinct eq (keys_of es) → (k : K) (o : Option (K × Slot V)) → oldest_free es ≡ o → Some k ≡ option_map (λ (x : K × Slot V). x.0) o → IsOldest k
  oldest_of laws d k None is h = cc
  oldest_of laws d k (Some e) is h =
      let key : e.0 ≡ k = cc in record {
        entry = e;
        eviction = is;
        key = key;
        here = subst (λ x. lookup (eq x) es ≡ Some e.1) key (oldest_free-lookup laws es e d is);
      }

  pub oldest : IsEquivalence eq → IsDistinct eq (keys_of es) → (k : K) → Some k ≡ option_map (λ (x : K × Slot V). x.0) (oldest_free es) → IsOldest k
  oldest laws d k = oldest_of laws d k (oldest_free es) refl

module _ {S K V E : Type 0} (steps : Steps S K V E) (eq : K → K → Bool) (size : ℕ) (may_flush : Bool) (s : S) (c : LruCache K (Slot V)) (must : MustEvict steps eq size may_flush c.entries) (k : K) (o : IsOldest eq c.entries k) (t : S) (n : LruCache K (Slot V)) where
  -- what is there once the flush failed
  pub record IsRefused (x : E) : Type 0 where
    pub room : FailsToEvict steps eq size may_flush s c.entries x t n.entries
    pub same : n ≡ c

  pub room_refused : (x : E) → IfSome (lookup (eq k) c.entries) (λ slot. FlushesFound steps (eq k) k slot s c (Some x) t n) → IsRefused x
  room_refused x h =
      let f = rw o.here at h in
      let same : n ≡ c = f.entries ∙ ap (λ l. lru_cache l c.cap) (set_value_same (eq k) c.entries f.slot (o.here ∙ ap (λ y. Some y) (sym f.step.1))) in record {
        room = record {
          must = must;
          entry = o.entry;
          eviction = o.eviction;
          failed = subst (λ y. steps.flush_failed s y o.entry.1.value x t) (sym o.key) f.step.0;
          same = ap (λ m. m.entries) same;
        };
        same = same;
      }

  -- what is there once the entry was removed
  pub record IsMade (p : LruCache K (Slot V)) : Type 0 where
    pub room : HasRoomForEntry steps eq size may_flush s c.entries t p.entries
    pub cap : p.cap ≡ c.cap
    pub space : length p.entries < size

  pub room_made : length c.entries ≤ size → IfSome (lookup (eq k) c.entries) (λ slot. FlushesFound steps (eq k) k slot s c None t n)
      → (p : LruCache K (Slot V)) → p ≡ lru_cache (remove_entry (eq k) n.entries) n.cap → IsMade p
  room_made fits h p pop =
      let f = rw o.here at h in
      let rest : p.entries ≡ remove_entry (eq k) c.entries = ap (λ m. m.entries) pop ∙ ap (λ m. remove_entry (eq k) m.entries) f.entries ∙ remove_entry-set_value (eq k) c.entries f.slot in
      let less = length-remove_found (eq k) c.entries o.entry.1 o.here in
      let len = ap length rest in record {
        room = inr record {
          must = must;
          entry = o.entry;
          eviction = o.eviction;
          clean = f.slot.value;
          flushed = subst (λ y. steps.flushed s y o.entry.1.value f.slot.value t) (sym o.key) f.step.0;
          rest = rest ∙ ap (λ y. remove_entry (eq y) c.entries) (sym o.key);
        };
        cap = ap (λ m. m.cap) pop ∙ ap (λ m. m.cap) f.entries;
        space = omega arith;
      }

module _ {S K V E : Type 0} (steps : Steps S K V E) (eq : K → K → Bool) (size : ℕ) (may_flush : Bool) where
  -- room does not bring a key
  pub room_missing : (k : K) (s : S) (es : List (K × Slot V)) (t : S) (fs : List (K × Slot V)) → HasRoomForEntry steps eq size may_flush s es t fs → lookup (eq k) es ≡ None → lookup (eq k) fs ≡ None
  room_missing k s es t fs h m = elim h [
    | inl r ↦ ap (lookup (eq k)) r.2 ∙ m
    | inr r ↦ ap (lookup (eq k)) r.rest ∙ lookup_none-removed (eq k) (eq r.entry.0) es m
  ]

  pub room_at : (s : S) (es : List (K × Slot V)) (r : Result Bool (CacheError K E)) (b : Bool) (t : S) (fs : List (K × Slot V)) → MakesRoom steps eq size may_flush s es r t fs → r ≡ Ok b → b ≡ true → HasRoomForEntry steps eq size may_flush s es t fs
  room_at s es r b t fs h e z = subst (λ x. MakesRoom steps eq size may_flush s es x t fs) (e ∙ ap (λ (y : Bool). Ok y) z) h
