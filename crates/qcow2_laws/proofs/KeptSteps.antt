-- The invariant of the caches, after their tables or the bytes under them changed.
use Rattle.std.proofs.Common.{◌≡◌, ◌/◌, ◌%◌, ◌≢◌, ◌⊎◌, ◌∷◌, ◌++◌, ℕ, inl, inr, List, [], false, sym, ap, subst, ◌∙◌, max}
use Rattle.qcow2_laws.proofs.Common.{cases_eq, Bytes, HeaderFields, cluster_size, CachedTable, known, overlays, named_by_guest, Direction, names, Pending, CrashInvariant, SameCovers, IsUnnamed, known_bytes, IsFreeAt, IsFreeOf, AreApart, HasOwnL2, HasBlock, CacheInvariantOver, AreNamedBlocks}
use Rattle.qcow2_laws.proofs.Lemmas.{over_guests-same, known-at, known-none, no_overlay, overlays_within, within_cluster}

-- where another table was changed, none lies where none lay
free_changed : (size : ℕ) (front back : List CachedTable) (t t' : CachedTable) (o : ℕ) → overlays size t' o ≡ false → IsFreeAt size (front ++ t ∷ back) o → IsFreeAt size (front ++ t' ∷ back) o
free_changed size [] back t t' o past free = (past, free.1)
free_changed size (u ∷ front) back t t' o past free = (free.0, free_changed size front back t t' o past free.1)

-- a table that is changed lies in its own cluster alone
elsewhere_free : (size : ℕ) (front back : List CachedTable) (t t' : CachedTable) (c : ℕ) → t'.place % size ≡ 0 → c ≢ t'.place / size → IsFreeOf size (front ++ t ∷ back) c → IsFreeOf size (front ++ t' ∷ back) c
elsewhere_free size front back t t' c aligned other free o in_c =
    free_changed size front back t t' o (no_overlay size t' o (λ over. other (sym in_c ∙ within_cluster t'.place size o aligned (overlays_within size t' o over)))) (free o in_c)

-- ---- a cached refblock changes, and what it says of clusters with it
pub refblock_changed : (h : HeaderFields) (d d' : Direction) (p p' : Pending) (l2s front back : List CachedTable) (t t' : CachedTable) (on_storage : Bytes) → CacheInvariantOver h d p l2s (front ++ t ∷ back) on_storage
    → t'.place % cluster_size h ≡ 0 → HasBlock h on_storage (t'.place / cluster_size h) → AreApart (cluster_size h) (front ++ t' ∷ back)
    → SameCovers h (known_bytes (cluster_size h) l2s (front ++ t ∷ back) on_storage) (known_bytes (cluster_size h) l2s (front ++ t' ∷ back) on_storage)
    → CrashInvariant h d' p' on_storage (known_bytes (cluster_size h) l2s (front ++ t' ∷ back) on_storage) → CacheInvariantOver h d' p' l2s (front ++ t' ∷ back) on_storage
refblock_changed h d d' p p' l2s front back t t' on_storage kept aligned stands apart covers crash_invariant = record {
  crash_invariant = crash_invariant;
  l2_apart = kept.l2_apart;
  rb_apart = apart;
  l2_stand = kept.l2_stand;
  rb_stand = λ c. elim (cases_eq c (t'.place / cluster_size h)) [
    | inl here ↦ inr (inl (subst (HasBlock h on_storage) (sym here) stands))
    | inr other ↦ elim (kept.rb_stand c) [
      | inl free ↦ inl (elsewhere_free (cluster_size h) front back t t' c aligned other free)
      | inr more ↦ elim more [
        | inl has ↦ inr (inl has)
        | inr unnamed ↦ inr (inr (record {
          no_table = unnamed.no_table;
          no_entry =
              let same = over_guests-same h (λ g. max (names h on_storage c g) (names h (known_bytes (cluster_size h) l2s (front ++ t ∷ back) on_storage) c g))
              (λ g. max (names h on_storage c g) (names h (known_bytes (cluster_size h) l2s (front ++ t' ∷ back) on_storage) c g))
              (λ g. ap (λ v. max (names h on_storage c g) (named_by_guest h c v)) (covers g)) in
              sym same ∙ unnamed.no_entry;
        }))
      ]
    ]
  ];
}

-- ---- a cached L2 table changes, while no refblock is unnamed
pub l2_table_changed : (h : HeaderFields) (d d' : Direction) (p p' : Pending) (front back rbs : List CachedTable) (t t' : CachedTable) (on_storage : Bytes) → CacheInvariantOver h d p (front ++ t ∷ back) rbs on_storage
    → AreNamedBlocks h rbs on_storage → t'.place % cluster_size h ≡ 0 → HasOwnL2 h on_storage (t'.place / cluster_size h) → AreApart (cluster_size h) (front ++ t' ∷ back)
    → CrashInvariant h d' p' on_storage (known_bytes (cluster_size h) (front ++ t' ∷ back) rbs on_storage) → CacheInvariantOver h d' p' (front ++ t' ∷ back) rbs on_storage
l2_table_changed h d d' p p' front back rbs t t' on_storage kept named_blocks aligned stands apart crash_invariant = record {
  crash_invariant = crash_invariant;
  l2_apart = apart;
  rb_apart = kept.rb_apart;
  l2_stand = λ c. elim (cases_eq c (t'.place / cluster_size h)) [
    | inl here ↦ inr (subst (HasOwnL2 h on_storage) (sym here) stands)
    | inr other ↦ elim (kept.l2_stand c) [
      | inl free ↦ inl (elsewhere_free (cluster_size h) front back t t' c aligned other free)
      | inr has ↦ inr has
    ]
  ];
  rb_stand = λ c. elim (named_blocks c) [ inl free ↦ inl free | inr has ↦ inr (inl has) ];
}

-- ---- bytes are written to the storage, beside the modified tables

-- what is known changes with it, as the storage does
pub known_beside : (size : ℕ) (l2s rbs : List CachedTable) (on_storage on_storage' : Bytes) (o : ℕ) → on_storage o ≡ on_storage' o → known_bytes size l2s rbs on_storage o ≡ known_bytes size l2s rbs on_storage' o
known_beside size l2s rbs on_storage on_storage' o same = known-at size l2s (known size rbs on_storage) (known size rbs on_storage') o (known-at size rbs on_storage on_storage' o same)

pub known_is_on_storage : (size : ℕ) (l2s rbs : List CachedTable) (on_storage : Bytes) (o : ℕ) → IsFreeAt size l2s o → IsFreeAt size rbs o → known_bytes size l2s rbs on_storage o ≡ on_storage o
known_is_on_storage size l2s rbs on_storage o l2_free rb_free = known-none size l2s (known size rbs on_storage) o l2_free ∙ known-none size rbs on_storage o rb_free

-- where the two were alike they still are, if each byte stays or has no modified table over it
pub still_agree : (size : ℕ) (l2s rbs : List CachedTable) (on_storage on_storage' : Bytes) → ((o : ℕ) → (on_storage o ≡ on_storage' o) ⊎ (IsFreeAt size l2s o × IsFreeAt size rbs o))
    → (o : ℕ) → on_storage o ≡ known_bytes size l2s rbs on_storage o → on_storage' o ≡ known_bytes size l2s rbs on_storage' o
still_agree size l2s rbs on_storage on_storage' each o same = elim (each o) [
  | inl stays ↦ sym stays ∙ same ∙ known_beside size l2s rbs on_storage on_storage' o stays
  | inr free ↦ sym (known_is_on_storage size l2s rbs on_storage' o free.0 free.1)
]

-- what lies where is kept by what refers to it, before and after
pub kept_beside : (h h' : HeaderFields) (d d' : Direction) (p p' : Pending) (l2s rbs : List CachedTable) (on_storage on_storage' : Bytes) → CacheInvariantOver h d p l2s rbs on_storage → cluster_size h' ≡ cluster_size h
    → CrashInvariant h' d' p' on_storage' (known_bytes (cluster_size h') l2s rbs on_storage')
    → ((c : ℕ) → HasOwnL2 h on_storage c → IsFreeOf (cluster_size h) l2s c ⊎ HasOwnL2 h' on_storage' c)
    → ((c : ℕ) → HasBlock h on_storage c ⊎ IsUnnamed h on_storage (known_bytes (cluster_size h) l2s rbs on_storage) c
    → IsFreeOf (cluster_size h) rbs c ⊎ (HasBlock h' on_storage' c ⊎ IsUnnamed h' on_storage' (known_bytes (cluster_size h') l2s rbs on_storage') c))
    → CacheInvariantOver h' d' p' l2s rbs on_storage'
kept_beside h h' d d' p p' l2s rbs on_storage on_storage' kept size crash_invariant l2 rb = record {
  crash_invariant = crash_invariant;
  l2_apart = subst (λ n. AreApart n l2s) (sym size) kept.l2_apart;
  rb_apart = subst (λ n. AreApart n rbs) (sym size) kept.rb_apart;
  l2_stand = λ c. elim (kept.l2_stand c) [
    | inl free ↦ inl (subst (λ n. IsFreeOf n l2s c) (sym size) free)
    | inr has ↦ elim (l2 c has) [ inl free ↦ inl (subst (λ n. IsFreeOf n l2s c) (sym size) free) | inr still ↦ inr still ]
  ];
  rb_stand = λ c. elim (kept.rb_stand c) [
    | inl free ↦ inl (subst (λ n. IsFreeOf n rbs c) (sym size) free)
    | inr more ↦ elim (rb c more) [ inl free ↦ inl (subst (λ n. IsFreeOf n rbs c) (sym size) free) | inr still ↦ inr still ]
  ];
}
