-- Inserting a value into a cache, and replacing one there.
use Rattle.std.proofs.Common.{◌≡◌, ◌-◌, ◌^◌, ◌<◌, ◌≤◌, ◌∷◌, ℕ, Bool, true, List, length, take, Option, Some, None, IfSome, IsSome, refl, ap, ◌∙◌, arith}
use Rattle.qcow2_alloc.proofs.Common.{none-some, option_map, lookup, lookup_entry, remove_entry, set_value, LruCache, lru_cache, promoted, put_entries, Contains-lookup_entry, Slot, Steps, FlushesEntry, FlushesFound}
use Rattle.std.proofs.lemmas.Grind.{common_steps}
use Rattle.qcow2_alloc.proofs.CachedEntries.Lists.{none_is_none, entry_none, lookup-from_entry, lookup_front, set_front, length-remove_found}

pub some_of : {X : Type 0} (o : Option X) → IsSome o → (x : X) × (o ≡ Some x)
some_of None h = cc
some_of (Some x) h = (x, refl)

pub is_some_mapped : {X Y : Type 0} (f : X → Y) (o : Option X) (y : Y) → option_map f o ≡ Some y → IsSome o
is_some_mapped f None y h = absurd (none-some y h)
is_some_mapped f (Some x) y h = refl

take_all : {X : Type 0} (n : ℕ) (xs : List X) → length xs ≤ n → take n xs ≡ xs
take_all n xs h = grind (arith, common_steps)

module _ {K X : Type 0} (eq : K → K → Bool) (size : ℕ) (m : LruCache K X) (k : K) (v : X) where
  -- a new pair stands in front of all that were there
  pub record IsPutNew (n : LruCache K X) : Type 0 where
    pub entries : n.entries ≡ (k, v) ∷ m.entries
    pub fits : length n.entries ≤ size

  pub put_new : lookup (eq k) m.entries ≡ None → length m.entries < size → size < 2 ^ 64 → m.cap ≡ 2 ^ 64 - 1 → (n : LruCache K X) → n ≡ lru_cache (put_entries eq m k v) m.cap → IsPutNew n
  put_new none space range cap n put =
      let all : take (m.cap - 1) m.entries ≡ m.entries = take_all (m.cap - 1) m.entries (omega arith) in
      let entries : n.entries ≡ (k, v) ∷ m.entries = ap (λ x. x.entries) put ∙ rw (entry_none (eq k) m.entries none) (ap (λ r. (k, v) ∷ r) all) in
      let len = ap length entries in
      record { entries = entries; fits = omega arith }

module _ {K X : Type 0} (test : K → Bool) (c p : LruCache K X) where
  -- the entry under the key is in front of the others
  pub record IsPromoted : Type 0 where
    pub entry : K × X
    pub was : lookup_entry test c.entries ≡ Some entry
    pub front : p.entries ≡ entry ∷ remove_entry test c.entries
    pub passes : test entry.0 ≡ true
    pub found : lookup test p.entries ≡ Some entry.1
    pub cap : p.cap ≡ c.cap
    pub fits : length p.entries ≡ length c.entries

  promoted_of : (o : Option (K × X)) → lookup_entry test c.entries ≡ o → IsSome (lookup test c.entries) → p ≡ lru_cache (promoted test c.entries) c.cap → IsPromoted
  promoted_of None h g is = absurd (none_is_none (lookup-from_entry test c.entries ∙ ap (option_map (λ (x : K × X). x.1)) h) g)
  promoted_of (Some e) h g is =
      let passes = (Contains-lookup_entry test c.entries e h).1 in
      let there : lookup test c.entries ≡ Some e.1 = lookup-from_entry test c.entries ∙ ap (option_map (λ (x : K × X). x.1)) h in
      let front : p.entries ≡ e ∷ remove_entry test c.entries = ap (λ m. m.entries) is ∙ rw h refl in
      let less = length-remove_found test c.entries e.1 there in
      let len = ap length front in record {
        entry = e;
        was = h;
        front = front;
        passes = passes;
        found = ap (lookup test) front ∙ lookup_front test e (remove_entry test c.entries) passes;
        cap = ap (λ m. m.cap) is;
        fits = omega arith;
      }

  pub is_promoted : IsSome (lookup test c.entries) → p ≡ lru_cache (promoted test c.entries) c.cap → IsPromoted
  is_promoted = promoted_of (lookup_entry test c.entries) refl

module _ {S K V E : Type 0} (steps : Steps S K V E) (test : K → Bool) (s : S) (c p : LruCache K (Slot V)) (k : K) (b : IsPromoted test c p) (t : S) (n : LruCache K (Slot V)) where
  abbrev others : List (K × Slot V)
  others = remove_entry test c.entries

  -- the entry in front after its flush
  pub record IsFlushedInFront (o : Option E) : Type 0 where
    pub slot : Slot V
    pub step : FlushesEntry steps s (k, b.entry.1) o t slot
    pub front : n.entries ≡ (b.entry.0, slot) ∷ others
    pub found : lookup test n.entries ≡ Some slot
    pub cap : n.cap ≡ c.cap
    pub fits : length n.entries ≡ length c.entries
    pub replaced : (w : Slot V) → set_value test n.entries w ≡ (b.entry.0, w) ∷ others

  pub flushed_in_front : (o : Option E) → IfSome (lookup test p.entries) (λ slot. FlushesFound steps test k slot s p o t n) → IsFlushedInFront o
  flushed_in_front o h =
      let f = rw b.found at h in
      let front : n.entries ≡ (b.entry.0, f.slot) ∷ others = ap (λ m. m.entries) f.entries ∙ ap (λ l. set_value test l f.slot) b.front ∙ set_front test b.entry others f.slot b.passes in
      let len = ap length front in
      let was = ap length b.front in record {
        slot = f.slot;
        step = f.step;
        front = front;
        found = ap (lookup test) front ∙ lookup_front test (b.entry.0, f.slot) others b.passes;
        cap = ap (λ m. m.cap) f.entries ∙ b.cap;
        fits = omega (arith, len, was, b.fits);
        replaced = λ w. ap (λ l. set_value test l w) front ∙ set_front test (b.entry.0, f.slot) others w b.passes;
      }
