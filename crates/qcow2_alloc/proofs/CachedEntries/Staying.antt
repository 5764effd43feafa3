-- The other entries that are still in the cache after a call are unchanged.
use Rattle.std.proofs.Common.{◌≡◌, ◌∷◌, ℕ, Bool, true, false, cond, inl, inr, List, Option, Some, None, Result, eqb, refl, sym, ap, ◌∙◌, subst, IfSome, IsSome}
use Rattle.qcow2_alloc.proofs.Common.{IsEquivalence, IsDistinct, option_map, keys_of, lookup, lookup_entry, remove_entry, lookup-remove_entry, promoted, Contains-lookup_entry, Slot, CacheError, slot_of, value_at, OthersStay, Steps, HasRoomForEntry, InsertsNew, GetsNew, Replaces}
use Rattle.qcow2_alloc.proofs.CachedEntries.Knowing.{removed_apart, lookup-promoted}
use Rattle.qcow2_alloc.proofs.CachedEntries.Lists.{none_is_none, lookup-from_entry}
use Rattle.qcow2_alloc.proofs.CachedEntries.Cases.{get_cases, insert_cases, replace_cases}

none_there : {X : Type 0} (o : Option X) → o ≡ None → IsSome o → ⊥
none_there None is there = cc
none_there (Some x) is there = cc

module _ {K V : Type 0} (eq : K → K → Bool) where
  pub stays_same : (k : K) (es fs : List (K × Slot V)) → fs ≡ es → OthersStay eq k es fs
  stays_same k es fs is j other there = ap (λ l. lookup (eq j) l) is

  pub stays_then : (k : K) (ds es fs : List (K × Slot V)) → OthersStay eq k ds es → OthersStay eq k es fs → OthersStay eq k ds fs
  stays_then k ds es fs first second j other there = let was = second j other there in was ∙ first j other (subst IsSome was there)

  module _ (laws : IsEquivalence eq) where
    pub stays_promoted : (k : K) (es : List (K × Slot V)) → OthersStay eq k es (promoted (eq k) es)
    stays_promoted k es j other there = lookup-promoted laws es k j

    gone_case : (es : List (K × Slot V)) (e : K × Slot V) → IsDistinct eq (keys_of es) → (j : K) (c : Bool) → eq e.0 j ≡ c → IsSome (lookup (eq j) (remove_entry (eq e.0) es)) → lookup (eq j) (remove_entry (eq e.0) es) ≡ lookup (eq j) es
    gone_case es e d j true same there =
        let gone : lookup (eq j) (remove_entry (eq e.0) es) ≡ None = lookup-remove_entry laws (eq e.0) (λ p q z. laws.congr e.0 p q z) j es d ∙ ap (λ c. cond c None (lookup (eq j) es)) same in
        absurd (none_there (lookup (eq j) (remove_entry (eq e.0) es)) gone there)
    gone_case es e d j false other there = removed_apart laws es e.0 j other

    -- a new entry is in front
    new_stays : (k : K) (es gs : List (K × Slot V)) (slot : Slot V) → OthersStay eq k es gs → OthersStay eq k es ((k, slot) ∷ gs)
    new_stays k es gs slot stay j other there =
        let apart : eq j k ≡ false = laws.symm j k ∙ other in
        let there' = rw apart at there in
        rw apart (stay j other there')

    -- another value is in the place of one
    put_stays : (k : K) (es : List (K × Slot V)) (e : K × Slot V) (slot : Slot V) → lookup_entry (eq k) es ≡ Some e → OthersStay eq k es ((e.0, slot) ∷ remove_entry (eq k) es)
    put_stays k es e slot found j other there =
        let passes : eq k e.0 ≡ true = (Contains-lookup_entry (eq k) es e found).1 in
        let apart : eq j e.0 ≡ false = laws.symm j e.0 ∙ sym (laws.congr k e.0 j passes) ∙ other in
        rw apart (removed_apart laws es k j other)

    module _ {S E : Type 0} (steps : Steps S K V E) where
      module _ (size : ℕ) (may_flush : Bool) (s : S) (es : List (K × Slot V)) (k : K) where
        room_stays : (t : S) (fs : List (K × Slot V)) → IsDistinct eq (keys_of es) → HasRoomForEntry steps eq size may_flush s es t fs → OthersStay eq k es fs
        room_stays t fs d h = elim h [
          | inl r ↦ stays_same k es fs r.2
          | inr r ↦ subst (OthersStay eq k es) (sym r.rest) (λ j other there. gone_case es r.entry d j (eq r.entry.0 j) refl there)
        ]

        -- a load of a new key
        pub gets_stay : (r : Result Bool (CacheError K E)) (t : S) (fs : List (K × Slot V)) → IsDistinct eq (keys_of es) → GetsNew steps eq size may_flush k s es r t fs → OthersStay eq k es fs
        gets_stay r t fs d =
            get_cases steps s t es fs k may_flush (OthersStay eq k es) (stays_same k es es refl) eq size (λ q gs room. room_stays q gs d room) r
            (λ q gs v room _. new_stays k es gs (slot_of v 0) (room_stays q gs d room))

        inserts_keep : (v : V) (r : Result Bool (CacheError K E)) (t : S) (fs : List (K × Slot V)) (left : Option V) → IsDistinct eq (keys_of es) → InsertsNew steps eq size may_flush k v s es r t fs left → OthersStay eq k es fs
        inserts_keep v r t fs left d =
            insert_cases steps s t es fs k may_flush (OthersStay eq k es) (stays_same k es es refl) eq size (λ q gs room. room_stays q gs d room) v r left
            (λ gs _ room. new_stays k es gs (slot_of v 0) (room_stays t gs d room))

        -- a value is put in
        pub inserts_stay : (o : Option V) (r : Result Bool (CacheError K E)) (t : S) (fs : List (K × Slot V)) (left : Option V) → IsDistinct eq (keys_of es) → IsSome o
            → IfSome o (λ v. InsertsNew steps eq size may_flush k v s es r t fs left) → OthersStay eq k es fs
        inserts_stay None r t fs left d some h = absurd (cc)
        inserts_stay (Some v) r t fs left d some h = inserts_keep v r t fs left d h

      module _ (may_flush : Bool) (s : S) (es : List (K × Slot V)) (k : K) (t : S) (fs : List (K × Slot V)) (left : Option V) where
        replaces_keep : (e : K × Slot V) (v : V) (r : Result Bool (CacheError K E)) → lookup_entry (eq k) es ≡ Some e → Replaces steps k e (remove_entry (eq k) es) v may_flush s es r t fs left → OthersStay eq k es fs
        replaces_keep e v r found =
            replace_cases steps s t es fs k may_flush (OthersStay eq k es) (stays_same k es es refl) e (remove_entry (eq k) es) v r left (put_stays k es e e.1 found) (λ _. put_stays k es e (slot_of v e.1.pins) found)

        replaced_of : (o : Option (K × Slot V)) (value : Option V) (r : Result Bool (CacheError K E)) → lookup_entry (eq k) es ≡ o → IsSome (lookup (eq k) es) → IsSome value
            → IfSome o (λ e. IfSome value (λ v. Replaces steps k e (remove_entry (eq k) es) v may_flush s es r t fs left)) → OthersStay eq k es fs
        replaced_of None value r found there some h = absurd (none_is_none (lookup-from_entry (eq k) es ∙ ap (option_map (λ (x : K × Slot V). x.1)) found) there)
        replaced_of (Some e) None r found there some h = absurd (cc)
        replaced_of (Some e) (Some v) r found there some h = replaces_keep e v r found h

        -- in the place of another one
        pub replaces_stay : (value : Option V) (r : Result Bool (CacheError K E)) → IsSome (lookup (eq k) es) → IsSome value
            → IfSome (lookup_entry (eq k) es) (λ e. IfSome value (λ v. Replaces steps k e (remove_entry (eq k) es) v may_flush s es r t fs left)) → OthersStay eq k es fs
        replaces_stay value r = replaced_of (lookup_entry (eq k) es) value r refl

-- ---- by their values

value_there : {V : Type 0} (o : Option (Slot V)) → IsSome (option_map (λ s. s.value) o) → IsSome o
value_there None there = there
value_there (Some s) there = refl

pub values_stay : {V : Type 0} (k : ℕ) (es fs : List (ℕ × Slot V)) → OthersStay eqb k es fs → (c : ℕ) → eqb k c ≡ false → IsSome (value_at (eqb c) fs) → value_at (eqb c) fs ≡ value_at (eqb c) es
values_stay k es fs stay c other there = ap (option_map (λ s. s.value)) (stay c other (value_there (lookup (eqb c) fs) there))
