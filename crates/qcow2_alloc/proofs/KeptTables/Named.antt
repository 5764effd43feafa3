-- A cached table gets its reference: the invariant of the caches holds over the new bytes.
use Rattle.std.proofs.Common.{◌≡◌, ◌≢◌, ◌⊎◌, ◌+◌, ◌*◌, ◌/◌, ◌%◌, ◌^◌, ◌<◌, ◌∷◌, ◌++◌, inl, inr, ℕ, Bool, eqb, List, [], Option, Some, None, refl, sym, ap, ◌∙◌, subst}
use Rattle.qcow2_alloc.proofs.Common.{lookup, option_map, Bytes, byte_at, HeaderFields, cluster_size, CachedTable, Pending, CrashInvariant, SameIn, HasL2, HasOwnL2, HasBlock, AreNamedBlocks, kept_beside, Slot, MetadataCaches, slot_of, value_at, cached_table, cached_tables, AreElsewhere, IsCurrent, AreLoaded, order_of, l2_tables, refblocks, known_of, CacheInvariant}
use Rattle.qcow2_alloc.proofs.KeptTables.Changing.{new_data}
use Rattle.qcow2_alloc.proofs.KeptTables.Entries.{tables_at, elsewhere_of_none}
use Rattle.qcow2_alloc.proofs.KeptTables.Getting.{cluster_aligned}
use Rattle.qcow2_alloc.proofs.KeptTables.Loaded.{in_own_cluster, one_place}
use Rattle.qcow2_alloc.proofs.KeptTables.Standing.{own_cluster}

-- each table that begins in the cluster holds what stands there
abbrev pub AreCurrentIn : ℕ → ℕ → List CachedTable → Bytes → Type 0
AreCurrentIn size c [] on_storage = Unit {0}
AreCurrentIn size c (t ∷ ts) on_storage = (t.place / size ≡ c → IsCurrent size t on_storage) × AreCurrentIn size c ts on_storage

-- ---- a list of loaded tables, where a cluster with a table stays, or has a current one
pub loaded_named : (size : ℕ) (IsNamed IsNamed' : ℕ → Type 0) (on_storage on_storage' : Bytes) (us : List CachedTable) → ((c : ℕ) → IsNamed' c → (IsNamed c × SameIn size c on_storage' on_storage) ⊎ AreCurrentIn size c us on_storage')
    → AreLoaded size IsNamed us on_storage → AreLoaded size IsNamed' us on_storage'
loaded_named size IsNamed IsNamed' on_storage on_storage' [] named loaded = tt
loaded_named size IsNamed IsNamed' on_storage on_storage' (u ∷ us) named loaded = (
  loaded.0,
  loaded.1,
  (λ clean is. elim (named (u.place / size) is) [
    | inl old ↦ λ i lt. loaded.2 clean old.0 i lt ∙ sym (old.1 (u.place + i) (in_own_cluster size u.place i loaded.0 lt))
    | inr now ↦ now.0 refl
  ]),
  loaded_named size IsNamed IsNamed' on_storage on_storage' us (λ c is. elim (named c is) [ inl old ↦ inl old | inr now ↦ inr now.1 ]) loaded.3,
)

-- tables elsewhere don't begin in the cluster
current_away : (size : ℕ) (IsNamed : ℕ → Type 0) (on_storage on_storage' : Bytes) (place : ℕ) (us : List CachedTable) → place % size ≡ 0 → AreElsewhere place us → AreLoaded size IsNamed us on_storage → AreCurrentIn size (place / size) us on_storage'
current_away size IsNamed on_storage on_storage' place [] aligned away loaded = tt
current_away size IsNamed on_storage on_storage' place (u ∷ us) aligned away loaded =
    ((λ here. absurd (away.0 (one_place size u.place place loaded.0 aligned here))), current_away size IsNamed on_storage on_storage' place us aligned away.1 loaded.3)

-- where one of them holds what stands in its cluster, the cluster has a current one
pub current_at : (size : ℕ) (IsNamed : ℕ → Type 0) (on_storage on_storage' : Bytes) (front back : List CachedTable) (t : CachedTable) → IsCurrent size t on_storage' → AreLoaded size IsNamed (front ++ t ∷ back) on_storage
    → AreCurrentIn size (t.place / size) (front ++ t ∷ back) on_storage'
current_at size IsNamed on_storage on_storage' [] back t current loaded = ((λ _. current), current_away size IsNamed on_storage on_storage' t.place back loaded.0 loaded.1 loaded.3)
current_at size IsNamed on_storage on_storage' (u ∷ front) back t current loaded =
    ((λ here. absurd (elsewhere front loaded.1 (sym (one_place size u.place t.place loaded.0 (aligned front loaded.3) here)))), current_at size IsNamed on_storage on_storage' front back t current loaded.3)
  where
    elsewhere : (front : List CachedTable) → AreElsewhere u.place (front ++ t ∷ back) → t.place ≢ u.place
    elsewhere [] away = away.0
    elsewhere (v ∷ front) away = elsewhere front away.1

    aligned : (front : List CachedTable) → AreLoaded size IsNamed (front ++ t ∷ back) on_storage → t.place % size ≡ 0
    aligned [] loaded = loaded.0
    aligned (v ∷ front) loaded = aligned front loaded.3

-- so for the entry of a key
pub current_entry : {V : Type 0} (bits : ℕ) (bytes : V → List ℕ) (is_modified : V → Bool) (IsNamed : ℕ → Type 0) (on_storage on_storage' : Bytes) (key : ℕ) (es : List (ℕ × Slot V)) (v : V) → value_at (eqb key) es ≡ Some v
    → ((i : ℕ) → i < 2 ^ bits → byte_at (bytes v) i ≡ on_storage' (key * 2 ^ bits + i)) → AreLoaded (2 ^ bits) IsNamed (cached_tables bits bytes is_modified es) on_storage
    → AreCurrentIn (2 ^ bits) key (cached_tables bits bytes is_modified es) on_storage'
current_entry bits bytes is_modified IsNamed on_storage on_storage' key es v found current loaded =
    let there = new_data key es v found in
    let is = ap (cached_tables bits bytes is_modified) there.is ∙ tables_at bits bytes is_modified there.front there.back (key, slot_of v there.pins) in
    subst (λ ts. AreCurrentIn (2 ^ bits) key ts on_storage') (sym is)
    (subst (λ c. AreCurrentIn (2 ^ bits) c (cached_tables bits bytes is_modified there.front ++ cached_table bits bytes is_modified (key, slot_of v there.pins) ∷ cached_tables bits bytes is_modified there.back) on_storage') (own_cluster bits key)
    (current_at (2 ^ bits) IsNamed on_storage on_storage' (cached_tables bits bytes is_modified there.front) (cached_tables bits bytes is_modified there.back) (cached_table bits bytes is_modified (key, slot_of v there.pins)) current
    (subst (λ ts. AreLoaded (2 ^ bits) IsNamed ts on_storage) is loaded)))

-- and where there is none of a key, none is out of date
pub current_none : {V : Type 0} (bits : ℕ) (bytes : V → List ℕ) (is_modified : V → Bool) (IsNamed : ℕ → Type 0) (on_storage on_storage' : Bytes) (key : ℕ) (es : List (ℕ × Slot V)) → value_at (eqb key) es ≡ None
    → AreLoaded (2 ^ bits) IsNamed (cached_tables bits bytes is_modified es) on_storage → AreCurrentIn (2 ^ bits) key (cached_tables bits bytes is_modified es) on_storage'
current_none {V = V} bits bytes is_modified IsNamed on_storage on_storage' key es none loaded =
    subst (λ c. AreCurrentIn (2 ^ bits) c (cached_tables bits bytes is_modified es) on_storage') (own_cluster bits key)
    (current_away (2 ^ bits) IsNamed on_storage on_storage' (key * 2 ^ bits) (cached_tables bits bytes is_modified es) (cluster_aligned key bits) (elsewhere_of_none bits bytes is_modified key es (no_slot (lookup (eqb key) es) none)) loaded)
  where
    no_slot : (o : Option (Slot V)) → option_map (λ s. s.value) o ≡ None → o ≡ None
    no_slot None is = refl
    no_slot (Some s) is = absurd (cc)

-- ---- tables are named that are in their caches, and no other one is named or changed
module _ {S : Type 0} (h : HeaderFields) (p p' : Pending) (caches : MetadataCaches S) (on_storage on_storage' : Bytes) (sound : CacheInvariant h p caches on_storage) (named_blocks : AreNamedBlocks h (refblocks caches) on_storage)
    (l2_still : (c : ℕ) → HasOwnL2 h on_storage c → HasOwnL2 h on_storage' c) (rb_still : (c : ℕ) → HasBlock h on_storage c → HasBlock h on_storage' c)
    (l2_now : (c : ℕ) → HasL2 h on_storage' c → (HasL2 h on_storage c × SameIn (cluster_size h) c on_storage' on_storage) ⊎ AreCurrentIn (cluster_size h) c (l2_tables caches) on_storage')
    (rb_now : (c : ℕ) → HasBlock h on_storage' c → (HasBlock h on_storage c × SameIn (cluster_size h) c on_storage' on_storage) ⊎ AreCurrentIn (cluster_size h) c (refblocks caches) on_storage') where
  pub named_blocks_named : AreNamedBlocks h (refblocks caches) on_storage'
  named_blocks_named c = elim (named_blocks c) [ inl free ↦ inl free | inr has ↦ inr (rb_still c has) ]

  pub sound_named : CrashInvariant h (order_of caches) p' on_storage' (known_of h caches on_storage') → CacheInvariant h p' caches on_storage'
  sound_named crash_invariant = record {
    l2_format = sound.l2_format;
    rb_format = sound.rb_format;
    l2_fit = sound.l2_fit;
    rb_fit = sound.rb_fit;
    kept = record {
      kept =
          kept_beside h h (order_of caches) (order_of caches) p p' (l2_tables caches) (refblocks caches) on_storage on_storage' sound.kept.kept refl crash_invariant
          (λ c has. inr (l2_still c has))
          (λ c either. elim (named_blocks c) [ inl free ↦ inl free | inr has ↦ inr (inl (rb_still c has)) ]);
      l2_loaded = loaded_named (cluster_size h) (HasL2 h on_storage) (HasL2 h on_storage') on_storage on_storage' (l2_tables caches) l2_now sound.kept.l2_loaded;
      rb_loaded = loaded_named (cluster_size h) (HasBlock h on_storage) (HasBlock h on_storage') on_storage on_storage' (refblocks caches) rb_now sound.kept.rb_loaded;
    };
  }
