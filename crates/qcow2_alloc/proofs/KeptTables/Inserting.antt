-- What a call that puts a table into a cache takes, or keeps.
use Rattle.std.proofs.Common.{◌≡◌, ◌∷◌, ℕ, Bool, true, false, eqb, List, Option, Some, None, Result, Ok, Err, arith, refl, sym, ap, ◌∙◌, subst, IfSome}
use Rattle.qcow2_alloc.proofs.Common.{IsNone, option_map, lookup, lookup_entry, remove_entry, Contains-lookup_entry, nat_tests, StorageView, HeaderFields, MetadataError, L2TableView, RefBlockView, Slot, CacheError, L2CacheBackend, RefBlockCacheBackend, MetadataCaches, ImageStorage, Cache, slot_of, value_at, with_entries, Steps, InsertsNew, Replaces, storage_of, l2_steps, rb_steps, IsTableOf, IsBlockOf, HasFormat}
use Rattle.qcow2_alloc.proofs.CachedEntries.Lists.{lookup-from_entry}

pub found_or_not : {X Y : Type 0} (o : Option X) → (o ≡ None → Y) → ((x : X) → o ≡ Some x → Y) → Y
found_or_not None none some = none refl
found_or_not (Some x) none some = some x refl

pub lookup_none : {K X : Type 0} (test : K → Bool) (es : List (K × X)) → lookup_entry test es ≡ None → lookup test es ≡ None
lookup_none test es none = lookup-from_entry test es ∙ ap (option_map (λ (e : _). e.1)) none

-- headers that say the same of tables
pub table_as : (g h : HeaderFields) (v : L2TableView) → HasFormat g h → IsTableOf h v → IsTableOf g v
table_as g h v same is = record { bits = is.bits ∙ sym same.bits; zero_bit = is.zero_bit ∙ sym same.zero_bit; external = is.external ∙ sym same.external }

pub block_as : (g h : HeaderFields) (v : RefBlockView) → HasFormat g h → IsBlockOf h v → IsBlockOf g v
block_as g h v same is = record { bits = is.bits ∙ sym same.bits; order = is.order ∙ sym same.order }

-- what holds of what is there
pub if_some : {A : Type 0} (P : A → Type 0) (o : Option A) (a : A) → o ≡ Some a → P a → IfSome o P
if_some P o a is holds = subst (λ x. IfSome x P) (sym is) holds

-- the value is there where it was put in, and is kept where nothing was done
pub record IsTakenOrKept {V E : Type 0} (key : ℕ) (v : V) (may_flush : Bool) (fs : List (ℕ × Slot V)) (answer : Result Bool (CacheError ℕ E)) (left : Option V) : Type 0 where
  pub new_data : answer ≡ Ok true → value_at (eqb key) fs ≡ Some v
  pub kept : answer ≡ Ok false → left ≡ Some v
  pub done : answer ≡ Ok false → may_flush ≡ false

in_front : {V : Type 0} (key k : ℕ) (v : V) (n : ℕ) (gs fs : List (ℕ × Slot V)) → eqb key k ≡ true → fs ≡ (k, slot_of v n) ∷ gs → value_at (eqb key) fs ≡ Some v
in_front key k v n gs fs passes is = rw is (rw passes refl)

own : (a : ℕ) → eqb a a ≡ true
own a = grind (arith, nat_tests)

true_false : {E : Type 0} {r : Result Bool E} → r ≡ Ok true → r ≡ Ok false → ⊥
true_false a b = let e = sym a ∙ b in cc

module _ {S V E : Type 0} (steps : Steps S ℕ V E) (size : ℕ) (may_flush : Bool) (key : ℕ) (v : V) (s t : S) (es fs : List (ℕ × Slot V)) where
  pub taken_new : (answer : Result Bool (CacheError ℕ E)) (left : Option V) → InsertsNew steps eqb size may_flush key v s es answer t fs left → IsTakenOrKept key v may_flush fs answer left
  taken_new (Ok true) left h = record { new_data = λ _. in_front key key v 0 h.0.0 fs (own key) h.0.2; kept = λ no. absurd (true_false refl no); done = λ no. absurd (true_false refl no) }
  taken_new (Ok false) left h = record { new_data = λ yes. absurd (true_false yes refl); kept = λ _. h.1; done = λ _. h.0.1 }
  taken_new (Err x) left h = record { new_data = λ yes. absurd (cc); kept = λ no. absurd (cc); done = λ no. absurd (cc) }

module _ {S V E : Type 0} (steps : Steps S ℕ V E) (may_flush : Bool) (key : ℕ) (v : V) (s t : S) (es fs : List (ℕ × Slot V)) (e : ℕ × Slot V) (others : List (ℕ × Slot V)) where
  pub taken_place : (answer : Result Bool (CacheError ℕ E)) (left : Option V) → eqb key e.0 ≡ true → Replaces steps key e others v may_flush s es answer t fs left → IsTakenOrKept key v may_flush fs answer left
  taken_place (Ok true) left passes h = record { new_data = λ _. in_front key e.0 v e.1.pins others fs passes h.2; kept = λ no. absurd (true_false refl no); done = λ no. absurd (true_false refl no) }
  taken_place (Ok false) left passes h = record { new_data = λ yes. absurd (true_false yes refl); kept = λ _. h.3; done = λ _. h.0 }
  taken_place (Err x) left passes h = record { new_data = λ yes. absurd (cc); kept = λ no. absurd (cc); done = λ no. absurd (cc) }

-- a call that may flush takes the value, unless it is refused
pub taken_at_last : {V E : Type 0} (key : ℕ) (v : V) (fs : List (ℕ × Slot V)) (answer : Result Bool (CacheError ℕ E)) (left : Option V) (b : Bool) → answer ≡ Ok b → IsTakenOrKept key v true fs answer left → value_at (eqb key) fs ≡ Some v
taken_at_last key v fs answer left true is taken = taken.new_data is
taken_at_last key v fs answer left false is taken = let e = taken.done is in absurd (cc)

module _ {S : Type 0} (view : S → StorageView) (old new : ImageStorage S) (caches : MetadataCaches S) (may_flush : Bool) (key : ℕ) where
  abbrev seen : ImageStorage S → StorageView
  seen s = view (storage_of s)

  -- ---- an L2 table
  module _ (l2 : Cache (L2CacheBackend S) ℕ L2TableView) (others : l2 ≡ with_entries caches.l2 l2.entries) (v : L2TableView) (value left : Option L2TableView) (is : value ≡ Some v) (answer : Result Bool (CacheError ℕ MetadataError))
      (there : IfSome (lookup_entry (eqb key) caches.l2.entries) (λ e. IfSome value (λ v.
      Replaces (l2_steps seen caches.l2.backend.header.fields) key e (remove_entry (eqb key) caches.l2.entries) v may_flush old caches.l2.entries answer new l2.entries left)))
      (missing : IsNone (lookup (eqb key) caches.l2.entries)
      → IfSome value (λ v. InsertsNew (l2_steps seen caches.l2.backend.header.fields) eqb caches.l2.size may_flush key v old caches.l2.entries answer new l2.entries left)) where
    -- it is the value that is put in, or kept
    pub l2_taken : IsTakenOrKept key v may_flush l2.entries answer left
    l2_taken =
        found_or_not (lookup_entry (eqb key) caches.l2.entries)
        (λ none. taken_new (l2_steps seen caches.l2.backend.header.fields) caches.l2.size may_flush key v old new caches.l2.entries l2.entries answer left
        (rw is at (missing (rw (lookup_none (eqb key) caches.l2.entries none) refl))))
        (λ e some. taken_place (l2_steps seen caches.l2.backend.header.fields) may_flush key v old new caches.l2.entries l2.entries e (remove_entry (eqb key) caches.l2.entries) answer left
        (Contains-lookup_entry (eqb key) caches.l2.entries e some).1 (rw is at (rw some at there)))

  -- ---- a refblock
  module _ (rb : Cache (RefBlockCacheBackend S) ℕ RefBlockView) (others : rb ≡ with_entries caches.rb rb.entries) (v : RefBlockView) (value left : Option RefBlockView) (is : value ≡ Some v) (answer : Result Bool (CacheError ℕ MetadataError))
      (there : IfSome (lookup_entry (eqb key) caches.rb.entries) (λ e. IfSome value (λ v.
      Replaces (rb_steps seen caches.rb.backend.header.fields) key e (remove_entry (eqb key) caches.rb.entries) v may_flush old caches.rb.entries answer new rb.entries left)))
      (missing : IsNone (lookup (eqb key) caches.rb.entries)
      → IfSome value (λ v. InsertsNew (rb_steps seen caches.rb.backend.header.fields) eqb caches.rb.size may_flush key v old caches.rb.entries answer new rb.entries left)) where
    -- it is the value that is put in, or kept
    pub rb_taken : IsTakenOrKept key v may_flush rb.entries answer left
    rb_taken =
        found_or_not (lookup_entry (eqb key) caches.rb.entries)
        (λ none. taken_new (rb_steps seen caches.rb.backend.header.fields) caches.rb.size may_flush key v old new caches.rb.entries rb.entries answer left
        (rw is at (missing (rw (lookup_none (eqb key) caches.rb.entries none) refl))))
        (λ e some. taken_place (rb_steps seen caches.rb.backend.header.fields) may_flush key v old new caches.rb.entries rb.entries e (remove_entry (eqb key) caches.rb.entries) answer left
        (Contains-lookup_entry (eqb key) caches.rb.entries e some).1 (rw is at (rw some at there)))
