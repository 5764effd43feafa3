-- The lists of cached tables change, and the known contents don't: an unmodified table is inserted, evicted or moved to the front.
use Rattle.std.proofs.Common.{◌≡◌, ◌⊎◌, ◌+◌, ◌%◌, ◌/◌, ◌<◌, ◌≤◌, ◌∷◌, ◌++◌, ℕ, arith, true, false, inl, inr, List, [], sym, ap, ◌∙◌, subst}
use Rattle.qcow2_alloc.proofs.Common.{Bytes, HeaderFields, cluster_size, named_by_reftable, named_by_l1_table, CachedTable, known, overlays, Direction, Pending, CrashInvariant, IsUnnamed, known_bytes, IsFreeAt, AreApart, HasL2, HasBlock, CacheInvariantOver, known_unmodified, known_promoted, unmodified_over, overlays_within, within_cluster, no_overlay, differs, table_has, block_has, rbs_free, l2s_free, known_is_on_storage, AreElsewhere, IsCurrent, AreLoaded, AreKept}
use Rattle.qcow2_alloc.proofs.KeptTables.Loaded.{one_place, in_own_cluster, loaded_without, loaded_promoted}
use Rattle.qcow2_alloc.proofs.KeptTables.Entries.{AreDistinct}

pub loaded_distinct : (size : ℕ) (IsNamed : ℕ → Type 0) (on_storage : Bytes) (ts : List CachedTable) → AreLoaded size IsNamed ts on_storage → AreDistinct ts
loaded_distinct size IsNamed on_storage [] loaded = tt
loaded_distinct size IsNamed on_storage (t ∷ ts) loaded = (loaded.1, loaded_distinct size IsNamed on_storage ts loaded.3)

-- ---- what another list keeps

-- it shows the same, is apart, and is free wherever the old one was
pub record ShowsSame (size : ℕ) (ts us : List CachedTable) : Type 0 where
  pub known : (b : Bytes) → known size us b ≡ known size ts b
  pub apart : AreApart size us
  pub free : (o : ℕ) → IsFreeAt size ts o → IsFreeAt size us o

pub l2_relisted : (h : HeaderFields) (d : Direction) (p : Pending) (l2s l2s' rbs : List CachedTable) (on_storage : Bytes) → ShowsSame (cluster_size h) l2s l2s' → CacheInvariantOver h d p l2s rbs on_storage → CacheInvariantOver h d p l2s' rbs on_storage
l2_relisted h d p l2s l2s' rbs on_storage same kept =
    let shows : known_bytes (cluster_size h) l2s' rbs on_storage ≡ known_bytes (cluster_size h) l2s rbs on_storage = same.known (known (cluster_size h) rbs on_storage) in
    record {
      crash_invariant = subst (CrashInvariant h d p on_storage) (sym shows) kept.crash_invariant;
      l2_apart = same.apart;
      rb_apart = kept.rb_apart;
      l2_stand = λ c. elim (kept.l2_stand c) [ inl free ↦ inl (λ o in_c. same.free o (free o in_c)) | inr has ↦ inr has ];
      rb_stand = λ c. elim (kept.rb_stand c) [
        | inl free ↦ inl free
        | inr more ↦ elim more [
          | inl has ↦ inr (inl has)
          | inr unnamed ↦ inr (inr (subst (λ (k : Bytes). IsUnnamed h on_storage k c) (sym shows) unnamed))
        ]
      ];
    }

pub rb_relisted : (h : HeaderFields) (d : Direction) (p : Pending) (l2s rbs rbs' : List CachedTable) (on_storage : Bytes) → ShowsSame (cluster_size h) rbs rbs' → CacheInvariantOver h d p l2s rbs on_storage → CacheInvariantOver h d p l2s rbs' on_storage
rb_relisted h d p l2s rbs rbs' on_storage same kept =
    let shows : known_bytes (cluster_size h) l2s rbs' on_storage ≡ known_bytes (cluster_size h) l2s rbs on_storage = ap (known (cluster_size h) l2s) (same.known on_storage) in
    record {
      crash_invariant = subst (CrashInvariant h d p on_storage) (sym shows) kept.crash_invariant;
      l2_apart = kept.l2_apart;
      rb_apart = same.apart;
      l2_stand = kept.l2_stand;
      rb_stand = λ c. elim (kept.rb_stand c) [
        | inl free ↦ inl (λ o in_c. same.free o (free o in_c))
        | inr more ↦ elim more [
          | inl has ↦ inr (inl has)
          | inr unnamed ↦ inr (inr (subst (λ (k : Bytes). IsUnnamed h on_storage k c) (sym shows) unnamed))
        ]
      ];
    }

-- ---- the three changes

-- where no table begins at the place, none lies in its cluster
pub free_elsewhere : (size : ℕ) (IsNamed : ℕ → Type 0) (on_storage : Bytes) (ts : List CachedTable) (place o : ℕ) → place % size ≡ 0 → AreElsewhere place ts → AreLoaded size IsNamed ts on_storage → o / size ≡ place / size → IsFreeAt size ts o
free_elsewhere size IsNamed on_storage [] place o aligned away loaded here = tt
free_elsewhere size IsNamed on_storage (u ∷ ts) place o aligned away loaded here = (
  no_overlay size u o (λ over. away.0 (one_place size u.place place loaded.0 aligned (sym (within_cluster u.place size o loaded.0 (overlays_within size u o over)) ∙ here))),
  free_elsewhere size IsNamed on_storage ts place o aligned away.1 loaded.3 here,
)

free_without : (size : ℕ) (front back : List CachedTable) (t : CachedTable) (o : ℕ) → IsFreeAt size (front ++ t ∷ back) o → IsFreeAt size (front ++ back) o
free_without size [] back t o free = free.1
free_without size (u ∷ front) back t o free = (free.0, free_without size front back t o free.1)

pub free_of : (size : ℕ) (front back : List CachedTable) (t : CachedTable) (o : ℕ) → IsFreeAt size (front ++ t ∷ back) o → overlays size t o ≡ false
free_of size [] back t o free = free.0
free_of size (u ∷ front) back t o free = free_of size front back t o free.1

apart_without : (size : ℕ) (front back : List CachedTable) (t : CachedTable) → AreApart size (front ++ t ∷ back) → AreApart size (front ++ back)
apart_without size [] back t apart = apart.2
apart_without size (u ∷ front) back t apart = (apart.0, (λ o over. free_without size front back t o (apart.1 o over)), apart_without size front back t apart.2)

apart_front : (size : ℕ) (front back : List CachedTable) (t : CachedTable) → AreApart size (front ++ t ∷ back) → (t.place % size ≡ 0) × ((o : ℕ) → overlays size t o ≡ true → IsFreeAt size (front ++ back) o)
apart_front size [] back t apart = (apart.0, apart.1)
apart_front size (u ∷ front) back t apart =
    let rest = apart_front size front back t apart.2 in
    (rest.0, (λ o over. (no_overlay size u o (λ both. differs (overlays size t o) over (free_of size front back t o (apart.1 o both))), rest.1 o over)))

pub shows_without : (size : ℕ) (front back : List CachedTable) (t : CachedTable) → t.is_modified ≡ false → AreApart size (front ++ t ∷ back) → ShowsSame size (front ++ t ∷ back) (front ++ back)
shows_without size front back t clean apart = record {
  known = λ b. sym (known_unmodified size front back t b clean);
  apart = apart_without size front back t apart;
  free = free_without size front back t;
}

pub shows_more : (size : ℕ) (ts : List CachedTable) (t : CachedTable) → t.is_modified ≡ false → t.place % size ≡ 0 → AreApart size ts → ShowsSame size ts (t ∷ ts)
shows_more size ts t clean aligned apart = record {
  known = λ b. known_unmodified size [] ts t b clean;
  apart = (aligned, (λ o over. absurd (differs (overlays size t o) over (unmodified_over size t o clean))), apart);
  free = λ o free. (unmodified_over size t o clean, free);
}

pub shows_promoted : (size : ℕ) (front back : List CachedTable) (t : CachedTable) → AreApart size (front ++ t ∷ back) → ShowsSame size (front ++ t ∷ back) (t ∷ (front ++ back))
shows_promoted size front back t apart = record {
  known = λ b. sym (known_promoted size front back t b apart);
  apart = let own = apart_front size front back t apart in (own.0, own.1, apart_without size front back t apart);
  free = λ o free. (free_of size front back t o free, free_without size front back t o free);
}

-- ---- of the L2 tables, and of the refblocks
module _ (h : HeaderFields) (d : Direction) (p : Pending) where
  pub l2_drop : (rbs front back : List CachedTable) (t : CachedTable) (on_storage : Bytes) → AreKept h d p (front ++ t ∷ back) rbs on_storage → t.is_modified ≡ false
      → AreKept h d p (front ++ back) rbs on_storage × (known_bytes (cluster_size h) (front ++ back) rbs on_storage ≡ known_bytes (cluster_size h) (front ++ t ∷ back) rbs on_storage)
  l2_drop rbs front back t on_storage are clean =
      let same = shows_without (cluster_size h) front back t clean are.kept.l2_apart in (
        record {
          kept = l2_relisted h d p (front ++ t ∷ back) (front ++ back) rbs on_storage same are.kept;
          l2_loaded = loaded_without (cluster_size h) (HasL2 h on_storage) on_storage front back t are.l2_loaded;
          rb_loaded = are.rb_loaded;
        },
        same.known (known (cluster_size h) rbs on_storage),
      )

  pub l2_add : (rbs : List CachedTable) (t : CachedTable) (ts : List CachedTable) (on_storage : Bytes) → AreKept h d p ts rbs on_storage → t.place % cluster_size h ≡ 0 → AreElsewhere t.place ts → t.is_modified ≡ false
      → IsCurrent (cluster_size h) t on_storage ⊎ ((i : ℕ) → i < cluster_size h → t.bytes i ≡ known_bytes (cluster_size h) ts rbs on_storage (t.place + i)) → AreKept h d p (t ∷ ts) rbs on_storage × (known_bytes (cluster_size h) (t ∷ ts) rbs on_storage ≡ known_bytes (cluster_size h) ts rbs on_storage)
  l2_add rbs t ts on_storage are aligned away clean holds =
      let same = shows_more (cluster_size h) ts t clean aligned are.kept.l2_apart in (
        record {
          kept = l2_relisted h d p ts (t ∷ ts) rbs on_storage same are.kept;
          l2_loaded = (
            aligned,
            away,
            (λ _ has. elim holds [
              | inl current ↦ current
              | inr known ↦ λ i lt.
                  known i lt
                  ∙ known_is_on_storage (cluster_size h) ts rbs on_storage (t.place + i)
                  (free_elsewhere (cluster_size h) (HasL2 h on_storage) on_storage ts t.place (t.place + i) aligned away are.l2_loaded (in_own_cluster (cluster_size h) t.place i aligned lt))
                  (rbs_free h d p ts rbs on_storage are.kept (t.place / cluster_size h)
                  (let one : 1 ≤ named_by_l1_table h on_storage (t.place / cluster_size h) = subst (λ n. 1 ≤ named_by_l1_table h on_storage n) has.2 (table_has h on_storage has.0 has.1) in omega arith)
                  (t.place + i) (in_own_cluster (cluster_size h) t.place i aligned lt))
            ]),
            are.l2_loaded,
          );
          rb_loaded = are.rb_loaded;
        },
        same.known (known (cluster_size h) rbs on_storage),
      )

  pub l2_promote : (rbs front back : List CachedTable) (t : CachedTable) (on_storage : Bytes) → AreKept h d p (front ++ t ∷ back) rbs on_storage
      → AreKept h d p (t ∷ (front ++ back)) rbs on_storage × (known_bytes (cluster_size h) (t ∷ (front ++ back)) rbs on_storage ≡ known_bytes (cluster_size h) (front ++ t ∷ back) rbs on_storage)
  l2_promote rbs front back t on_storage are =
      let same = shows_promoted (cluster_size h) front back t are.kept.l2_apart in (
        record {
          kept = l2_relisted h d p (front ++ t ∷ back) (t ∷ (front ++ back)) rbs on_storage same are.kept;
          l2_loaded = loaded_promoted (cluster_size h) (HasL2 h on_storage) on_storage front back t are.l2_loaded;
          rb_loaded = are.rb_loaded;
        },
        same.known (known (cluster_size h) rbs on_storage),
      )

  pub rb_drop : (l2s front back : List CachedTable) (t : CachedTable) (on_storage : Bytes) → AreKept h d p l2s (front ++ t ∷ back) on_storage → t.is_modified ≡ false
      → AreKept h d p l2s (front ++ back) on_storage × (known_bytes (cluster_size h) l2s (front ++ back) on_storage ≡ known_bytes (cluster_size h) l2s (front ++ t ∷ back) on_storage)
  rb_drop l2s front back t on_storage are clean =
      let same = shows_without (cluster_size h) front back t clean are.kept.rb_apart in (
        record {
          kept = rb_relisted h d p l2s (front ++ t ∷ back) (front ++ back) on_storage same are.kept;
          l2_loaded = are.l2_loaded;
          rb_loaded = loaded_without (cluster_size h) (HasBlock h on_storage) on_storage front back t are.rb_loaded;
        },
        ap (known (cluster_size h) l2s) (same.known on_storage),
      )

  pub rb_add : (l2s : List CachedTable) (t : CachedTable) (ts : List CachedTable) (on_storage : Bytes) → AreKept h d p l2s ts on_storage → t.place % cluster_size h ≡ 0 → AreElsewhere t.place ts → t.is_modified ≡ false
      → IsCurrent (cluster_size h) t on_storage ⊎ ((i : ℕ) → i < cluster_size h → t.bytes i ≡ known_bytes (cluster_size h) l2s ts on_storage (t.place + i)) → AreKept h d p l2s (t ∷ ts) on_storage × (known_bytes (cluster_size h) l2s (t ∷ ts) on_storage ≡ known_bytes (cluster_size h) l2s ts on_storage)
  rb_add l2s t ts on_storage are aligned away clean holds =
      let same = shows_more (cluster_size h) ts t clean aligned are.kept.rb_apart in (
        record {
          kept = rb_relisted h d p l2s ts (t ∷ ts) on_storage same are.kept;
          l2_loaded = are.l2_loaded;
          rb_loaded = (
            aligned,
            away,
            (λ _ has. elim holds [
              | inl current ↦ current
              | inr known ↦ λ i lt.
                  known i lt
                  ∙ known_is_on_storage (cluster_size h) l2s ts on_storage (t.place + i)
                  (l2s_free h d p l2s ts on_storage are.kept (t.place / cluster_size h)
                  (let one : 1 ≤ named_by_reftable h on_storage (t.place / cluster_size h) = subst (λ n. 1 ≤ named_by_reftable h on_storage n) has.2 (block_has h on_storage has.0 has.1) in omega arith)
                  (t.place + i) (in_own_cluster (cluster_size h) t.place i aligned lt))
                  (free_elsewhere (cluster_size h) (HasBlock h on_storage) on_storage ts t.place (t.place + i) aligned away are.rb_loaded (in_own_cluster (cluster_size h) t.place i aligned lt))
            ]),
            are.rb_loaded,
          );
        },
        ap (known (cluster_size h) l2s) (same.known on_storage),
      )

  pub rb_promote : (l2s front back : List CachedTable) (t : CachedTable) (on_storage : Bytes) → AreKept h d p l2s (front ++ t ∷ back) on_storage
      → AreKept h d p l2s (t ∷ (front ++ back)) on_storage × (known_bytes (cluster_size h) l2s (t ∷ (front ++ back)) on_storage ≡ known_bytes (cluster_size h) l2s (front ++ t ∷ back) on_storage)
  rb_promote l2s front back t on_storage are =
      let same = shows_promoted (cluster_size h) front back t are.kept.rb_apart in (
        record {
          kept = rb_relisted h d p l2s (front ++ t ∷ back) (t ∷ (front ++ back)) on_storage same are.kept;
          l2_loaded = are.l2_loaded;
          rb_loaded = loaded_promoted (cluster_size h) (HasBlock h on_storage) on_storage front back t are.rb_loaded;
        },
        ap (known (cluster_size h) l2s) (same.known on_storage),
      )
