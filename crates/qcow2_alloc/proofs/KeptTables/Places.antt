-- The clusters of modified refblocks have places, also those of new ones.
use Rattle.std.proofs.Common.{◌≡◌, ◌*◌, ◌^◌, ◌==◌, ◌∷◌, inl, inr, ℕ, Bool, true, List, [], Option, Some, None, IsSome, refl, sym, ap, subst, IfSome}
use Rattle.qcow2_alloc.proofs.Common.{cases_eq, eq-eqb, ne_eqb, Bytes, HeaderFields, RefBlockView, HasPlace, Pending, HasBlock, AreNamedBlocks, Slot, MetadataCaches, value_at, cached_tables, AllValuesFit, AreElsewhere, AreLoaded, refblocks, rb_at, HavePlaces, CacheInvariant, OthersStayHeld, IsBlockOf}
use Rattle.qcow2_alloc.proofs.KeptTables.BlocksNamed.{blocks_stand, block_place}
use Rattle.qcow2_alloc.proofs.KeptTables.Standing.{AreStanding}

module _ {V : Type 0} (is_modified : V → Bool) (IsFit : V → Type 0) (Named : ℕ → Type 0) where
  -- the table of a key stands
  pub standing_at : (es : List (ℕ × Slot V)) (c : ℕ) → AreStanding is_modified IsFit Named es → IfSome (value_at (λ k. c == k) es) (λ v. is_modified v ≡ true → Named c)
  standing_at [] c all = tt
  standing_at (e ∷ es) c all = elim (cases_eq c e.0) [
    | inl here ↦ let yes_so = eq-eqb c e.0 here in rw yes_so (λ modified. subst Named (sym here) (all.0.named modified))
    | inr other ↦ let no = ne_eqb c e.0 other in rw no (standing_at es c all.1)
  ]

  module _ (bits : ℕ) (bytes : V → List ℕ) where
    -- a key whose place is another table's isn't in the list
    none_elsewhere : (es : List (ℕ × Slot V)) (c : ℕ) → AreElsewhere (c * 2 ^ bits) (cached_tables bits bytes is_modified es) → value_at (λ k. c == k) es ≡ None
    none_elsewhere [] c away = refl
    none_elsewhere (e ∷ es) c away = elim (cases_eq c e.0) [
      | inl here ↦ absurd (away.0 (ap (λ n. n * 2 ^ bits) (sym here)))
      | inr other ↦ let no = ne_eqb c e.0 other in rw no (none_elsewhere es c away.1)
    ]

    -- tables of which each stands that a key finds
    pub all_standing : (IsNamed : ℕ → Type 0) (on_storage : Bytes) (es : List (ℕ × Slot V)) → AllValuesFit IsFit es → AreLoaded (2 ^ bits) IsNamed (cached_tables bits bytes is_modified es) on_storage
        → ((c : ℕ) → IfSome (value_at (λ k. c == k) es) (λ v. is_modified v ≡ true → Named c)) → AreStanding is_modified IsFit Named es
    all_standing IsNamed on_storage [] fits loaded each = tt
    all_standing IsNamed on_storage (e ∷ es) fits loaded each = (
      record { fits = fits.0; named = let yes_so = eq-eqb e.0 e.0 refl in rw yes_so at (each e.0) },
      all_standing IsNamed on_storage es fits.1 loaded.3 (λ c. elim (cases_eq c e.0) [
        | inl here ↦ let none = none_elsewhere es c (subst (λ n. AreElsewhere (n * 2 ^ bits) (cached_tables bits bytes is_modified es)) (sym here) loaded.1) in rw none tt
        | inr other ↦ let no = ne_eqb c e.0 other in rw no at (each c)
      ]),
    )

module _ {S : Type 0} (h : HeaderFields) (p : Pending) (caches : MetadataCaches S) (on_storage : Bytes) (sound : CacheInvariant h p caches on_storage) where
  if_some : {A : Type 0} (P Q : A → Type 0) (o : Option A) → ((a : A) → P a → Q a) → IfSome o P → IfSome o Q
  if_some P Q None more is = tt
  if_some P Q (Some a) more is = more a is

  -- those that the reftable names
  pub named_have_places : AreNamedBlocks h (refblocks caches) on_storage → HavePlaces h caches
  named_have_places named c =
      if_some (λ (b : RefBlockView). b.is_modified ≡ true → HasBlock h on_storage c) (λ (b : RefBlockView). b.is_modified ≡ true → HasPlace h.cluster_bits c) (value_at (λ k. c == k) caches.rb.entries)
      (λ b is modified. block_place h on_storage h.cluster_bits refl c (is modified))
      (standing_at (λ (b : RefBlockView). b.is_modified) (IsBlockOf caches.rb.backend.header.fields) (HasBlock h on_storage) caches.rb.entries c (blocks_stand h p caches on_storage sound named))

  pub places_stand : HavePlaces h caches → AreStanding (λ (b : RefBlockView). b.is_modified) (IsBlockOf caches.rb.backend.header.fields) (HasPlace caches.rb.backend.header.fields.cluster_bits) caches.rb.entries
  places_stand places =
      all_standing (λ (b : RefBlockView). b.is_modified) (IsBlockOf caches.rb.backend.header.fields) (HasPlace caches.rb.backend.header.fields.cluster_bits) caches.rb.backend.header.fields.cluster_bits (λ (b : RefBlockView). b.bytes)
      (HasBlock h on_storage) on_storage caches.rb.entries sound.rb_fit
      (subst (λ n. AreLoaded (2 ^ n) (HasBlock h on_storage) (refblocks caches) on_storage) (sym sound.rb_format.bits) sound.kept.rb_loaded)
      (λ c. subst (λ n. IfSome (value_at (λ k. c == k) caches.rb.entries) (λ b. b.is_modified ≡ true → HasPlace n c)) (sym sound.rb_format.bits) (places c))

-- a modified refblock has a place there
abbrev IsPlaced : HeaderFields → ℕ → RefBlockView → Type 0
IsPlaced h c b = b.is_modified ≡ true → HasPlace h.cluster_bits c

each_placed : (h : HeaderFields) (c : ℕ) (o : Option RefBlockView) → HasPlace h.cluster_bits c → IfSome o (IsPlaced h c)
each_placed h c None here = tt
each_placed h c (Some b) here = λ modified. here

placed_still : (h : HeaderFields) (c : ℕ) (o o' : Option RefBlockView) → (IsSome o' → o' ≡ o) → IfSome o (IsPlaced h c) → IfSome o' (IsPlaced h c)
placed_still h c o None same placed = tt
placed_still h c o (Some b) same placed = subst (λ (x : Option RefBlockView). IfSome x (IsPlaced h c)) (sym (same refl)) placed

-- after a refblock was put in or loaded in a cluster that has a place
pub put_places : {S : Type 0} (h : HeaderFields) (old new : MetadataCaches S) (at : ℕ) → HasPlace h.cluster_bits at → OthersStayHeld rb_at old new at → HavePlaces h old → HavePlaces h new
put_places h old new at here stay places c = elim (cases_eq at c) [
  | inl same ↦ each_placed h c (rb_at new c) (subst (HasPlace h.cluster_bits) same here)
  | inr other ↦ placed_still h c (rb_at old c) (rb_at new c) (stay c (ne_eqb at c other)) (places c)
]
