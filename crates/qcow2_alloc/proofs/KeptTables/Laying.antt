-- A modified table is inserted into the caches: it is overlaid on the known contents.
use Rattle.std.proofs.Common.{◌≡◌, ◌≢◌, ◌⊎◌, ◌-◌, ◌/◌, ◌%◌, ◌≤◌, ◌∷◌, inl, inr, ℕ, max, true, false, cond, List, [], refl, sym, ap, ◌∙◌, subst, arith}
use Rattle.qcow2_alloc.proofs.Common.{cases_Bool, cases_eq, cond-true, fun_ext, Bytes, HeaderFields, L2Mapping, cluster_size, entries_per_cluster, host_offset, named_by_l1_table, named_by_reftable, named_by_guest, CachedTable, known, overlays, Direction, Pending, CrashInvariant, SameCovers, SameIn, names, table_at, IsUnnamed, known_bytes, IsFreeAt, AreNamedBlocks, HasL2, HasOwnL2, HasBlock, table_once, over_guests-same, known-at, known-none, known_elsewhere, no_overlay, overlays_within, within_cluster, differs, shares, table_has, block_has, cover_stays, IsTop-top, AreElsewhere, AreKept}
use Rattle.qcow2_alloc.proofs.KeptTables.Listing.{free_elsewhere}

-- ---- what is known

known_first : (size : ℕ) (t : CachedTable) (ts : List CachedTable) (b : Bytes) (o : ℕ) → known size (t ∷ ts) b o ≡ cond (overlays size t o) (t.bytes (o - t.place)) (known size ts b o)
unfolding known
known_first size t ts b o = refl

-- over the other tables of its list
pub laid_first : (size : ℕ) (t : CachedTable) (ts : List CachedTable) (b : Bytes) → known size (t ∷ ts) b ≡ known size (t ∷ []) (known size ts b)
unfolding known
laid_first size t ts b = fun_ext (λ o. refl)

-- under a list of which none lies there
pub laid_under : (size : ℕ) (t : CachedTable) (l2s rbs : List CachedTable) (on_storage : Bytes) → ((o : ℕ) → overlays size t o ≡ true → IsFreeAt size l2s o)
    → known size l2s (known size (t ∷ rbs) on_storage) ≡ known size (t ∷ []) (known size l2s (known size rbs on_storage))
laid_under size t l2s rbs on_storage free = fun_ext (λ o. elim (cases_Bool (overlays size t o)) [
  | inl over ↦
      known-none size l2s (known size (t ∷ rbs) on_storage) o (free o over) ∙ known_first size t rbs on_storage o ∙ cond-true _ _ _ over
      ∙ sym (known_first size t [] (known size l2s (known size rbs on_storage)) o ∙ cond-true _ _ _ over)
  | inr past ↦
      known-at size l2s (known size (t ∷ rbs) on_storage) (known size rbs on_storage) o (known_elsewhere size [] rbs t on_storage o past)
      ∙ sym (known_elsewhere size [] [] t (known size l2s (known size rbs on_storage)) o past ∙ known-none size [] (known size l2s (known size rbs on_storage)) o tt)
])

-- ---- what is kept
module _ (h : HeaderFields) (d : Direction) (p : Pending) (l2s rbs : List CachedTable) (on_storage : Bytes) (are : AreKept h d p l2s rbs on_storage) (t : CachedTable) (aligned : t.place % cluster_size h ≡ 0) (marked : t.is_modified ≡ true) (p' : Pending) where
  abbrev size : ℕ
  size = cluster_size h

  past_other : (c : ℕ) → c ≢ t.place / size → (o : ℕ) → o / size ≡ c → overlays size t o ≡ false
  past_other c other o in_c = no_overlay size t o (λ over. other (sym in_c ∙ within_cluster t.place size o aligned (overlays_within size t o over)))

  -- an L2 table that an L1 entry names
  pub l2_laid : AreElsewhere t.place l2s → AreNamedBlocks h rbs on_storage → HasOwnL2 h on_storage (t.place / size) → CrashInvariant h d p' on_storage (known_bytes size (t ∷ l2s) rbs on_storage) → AreKept h d p' (t ∷ l2s) rbs on_storage
  l2_laid away named_blocks has crash_invariant = record {
    kept = record {
      crash_invariant = crash_invariant;
      l2_apart = (
        aligned,
        (λ o over. free_elsewhere size (HasL2 h on_storage) on_storage l2s t.place o aligned away are.l2_loaded (within_cluster t.place size o aligned (overlays_within size t o over))),
        are.kept.l2_apart,
      );
      rb_apart = are.kept.rb_apart;
      l2_stand = λ c. elim (cases_eq c (t.place / size)) [
        | inl here ↦ inr (subst (HasOwnL2 h on_storage) (sym here) has)
        | inr other ↦ elim (are.kept.l2_stand c) [ inl free ↦ inl (λ o in_c. (past_other c other o in_c, free o in_c)) | inr named ↦ inr named ]
      ];
      rb_stand = λ c. elim (named_blocks c) [ inl free ↦ inl free | inr named ↦ inr (inl named) ];
    };
    l2_loaded = (aligned, away, (λ clean. absurd (differs t.is_modified marked clean)), are.l2_loaded);
    rb_loaded = are.rb_loaded;
  }

  -- a refblock that the reftable names, or one where nothing is named
  module _ (stands : HasBlock h on_storage (t.place / size) ⊎ IsUnnamed h on_storage (known_bytes size l2s (t ∷ rbs) on_storage) (t.place / size)) (crash_invariant : CrashInvariant h d p' on_storage (known_bytes size l2s (t ∷ rbs) on_storage)) where
    no_l2 : HasL2 h on_storage (t.place / size) → ⊥
    no_l2 has =
        let s = shares h on_storage (t.place / size) in
        let table : 1 ≤ named_by_l1_table h on_storage (t.place / size) = subst (λ n. 1 ≤ named_by_l1_table h on_storage n) has.2 (table_has h on_storage has.0 has.1) in
        elim stands [
          | inl block ↦
              let also : 1 ≤ named_by_reftable h on_storage (t.place / size) = subst (λ n. 1 ≤ named_by_reftable h on_storage n) block.2 (block_has h on_storage block.0 block.1) in
              let once = table_once h d p' on_storage (known_bytes size l2s (t ∷ rbs) on_storage) crash_invariant (t.place / size) (omega arith) in
              omega arith
          | inr unnamed ↦ let none = unnamed.no_table in omega arith
        ]

    same_elsewhere : (c : ℕ) → c ≢ t.place / size → SameIn size c (known_bytes size l2s rbs on_storage) (known_bytes size l2s (t ∷ rbs) on_storage)
    same_elsewhere c other o in_c = sym (known-at size l2s (known size (t ∷ rbs) on_storage) (known size rbs on_storage) o (known_elsewhere size [] rbs t on_storage o (past_other c other o in_c)))

    same_covers : SameCovers h (known_bytes size l2s rbs on_storage) (known_bytes size l2s (t ∷ rbs) on_storage)
    same_covers g =
        let i = g / entries_per_cluster h in
        let top = are.kept.crash_invariant.same_top in
        cover_stays h (known_bytes size l2s rbs on_storage) (known_bytes size l2s (t ∷ rbs) on_storage) (IsTop-top h on_storage (known_bytes size l2s rbs on_storage) top are.kept.crash_invariant.top) g (sym (top.l1 i) ∙ crash_invariant.same_top.l1 i)
        (λ real. same_elsewhere (table_at h (known_bytes size l2s rbs on_storage) i / size) (λ here. no_l2 (named_on_storage i real here)))
      where
        named_on_storage : (i : ℕ) → table_at h (known_bytes size l2s rbs on_storage) i ≢ 0 → table_at h (known_bytes size l2s rbs on_storage) i / size ≡ t.place / size → HasL2 h on_storage (t.place / size)
        named_on_storage i real here = let e : table_at h on_storage i ≡ table_at h (known_bytes size l2s rbs on_storage) i = ap host_offset (are.kept.crash_invariant.same_top.l1 i) in (i, (λ none. real (sym e ∙ none)), ap (λ n. n / size) e ∙ here)

    still_unnamed : (c : ℕ) → IsUnnamed h on_storage (known_bytes size l2s rbs on_storage) c → IsUnnamed h on_storage (known_bytes size l2s (t ∷ rbs) on_storage) c
    still_unnamed c unnamed = record {
      no_table = unnamed.no_table;
      no_entry = over_guests-same h _ _ (λ g. ap (λ (m : L2Mapping). max (names h on_storage c g) (named_by_guest h c m)) (sym (same_covers g))) ∙ unnamed.no_entry;
    }

    pub rb_laid : AreElsewhere t.place rbs → AreKept h d p' l2s (t ∷ rbs) on_storage
    rb_laid away = record {
      kept = record {
        crash_invariant = crash_invariant;
        l2_apart = are.kept.l2_apart;
        rb_apart = (
          aligned,
          (λ o over. free_elsewhere size (HasBlock h on_storage) on_storage rbs t.place o aligned away are.rb_loaded (within_cluster t.place size o aligned (overlays_within size t o over))),
          are.kept.rb_apart,
        );
        l2_stand = are.kept.l2_stand;
        rb_stand = λ c. elim (cases_eq c (t.place / size)) [
          | inl here ↦ inr (subst (λ n. HasBlock h on_storage n ⊎ IsUnnamed h on_storage (known_bytes size l2s (t ∷ rbs) on_storage) n) (sym here) stands)
          | inr other ↦ elim (are.kept.rb_stand c) [
            | inl free ↦ inl (λ o in_c. (past_other c other o in_c, free o in_c))
            | inr more ↦ elim more [ inl has ↦ inr (inl has) | inr unnamed ↦ inr (inr (still_unnamed c unnamed)) ]
          ]
        ];
      };
      l2_loaded = are.l2_loaded;
      rb_loaded = (aligned, away, (λ clean. absurd (differs t.is_modified marked clean)), are.rb_loaded);
    }
