-- A cached table is written: the invariant holds, the known contents stay the same, and a stop is as safe as before.
use Rattle.std.proofs.Common.{◌≡◌, ◌+◌, ◌/◌, ◌<◌, ◌≤◌, ◌≢◌, ◌⊎◌, ◌∷◌, ◌++◌, ℕ, inl, inr, List, true, refl, sym, ap, subst, ◌∙◌, arith}
use Rattle.qcow2_laws.proofs.Common.{fun_ext, cases_eq, Bytes, HeaderFields, cluster_size, entries_per_cluster, counts_per_block, l1_entry, is_copied, reftable_entry, host_offset, block_offset, cover, in_cluster, named_for_tables, named_by_reftable, named_by_l1_table, CachedTable, known, Direction, Neither, L2DependsOnRb, RbDependsOnL2, table_at, Pending, CrashInvariant, SameTop, SameIn, IsPartly, SameCovers, SameCounts, IsInOrder, IsMixed, MayTurn, IsUnnamed, known_bytes, IsFreeAt, IsFreeOf, AreApart, AreClean, HasOwnL2, HasBlock, CacheInvariantOver, BlocksMayGo, TablesMayGo, IsWrittenSo, InternalTableWrite, AreNamedBlocks}
use Rattle.qcow2_laws.proofs.Places.{Sizes, Sizes-from}
use Rattle.qcow2_laws.proofs.Tops.{for_tables-top}
use Rattle.qcow2_laws.proofs.Mixes.{top_kept, mixed_crash_invariant, mixed_either, turned_crash_invariant}
use Rattle.qcow2_laws.proofs.Values.{mixed_kept}
use Rattle.qcow2_laws.proofs.Blocks.{table_once}
use Rattle.qcow2_laws.proofs.Shares.{shares, in_l1, in_reftable, two_tables, table_has, block_has, cover_stays, count_stays}
use Rattle.qcow2_laws.proofs.Lists.{known-at, known-none, clean_known, free_too, apart_too, written_partly, written_known}

module _ (h : HeaderFields) (d : Direction) (p : Pending) (l2s rbs : List CachedTable) (on_storage : Bytes) (kept : CacheInvariantOver h d p l2s rbs on_storage) where
  pub kept_sizes : Sizes h
  kept_sizes = Sizes-from h on_storage kept.crash_invariant.top.header_reads

  -- ---- which clusters no modified table lies in

  -- one kind of table alone lies in a cluster
  l2_share : (c : ℕ) → HasOwnL2 h on_storage c → 1 ≤ named_by_l1_table h on_storage c
  l2_share c has = subst (λ n. 1 ≤ named_by_l1_table h on_storage n) has.2 (table_has h on_storage has.0 has.1)

  block_share : (c : ℕ) → HasBlock h on_storage c → 1 ≤ named_by_reftable h on_storage c
  block_share c has = subst (λ n. 1 ≤ named_by_reftable h on_storage n) has.2 (block_has h on_storage has.0 has.1)

  once_at : (c : ℕ) → 0 < named_for_tables h on_storage c → named_for_tables h on_storage c ≡ 1
  once_at c table_refs = table_once h d p on_storage (known_bytes (cluster_size h) l2s rbs on_storage) kept.crash_invariant c table_refs

  pub rbs_free : (c : ℕ) → 0 < in_cluster h c 0 + in_l1 h c + in_reftable h c + named_by_l1_table h on_storage c → IsFreeOf (cluster_size h) rbs c
  rbs_free c some =
      let s = shares h on_storage c in
      let one = once_at c (omega arith) in
      elim (kept.rb_stand c) [
        | inl free ↦ free
        | inr more ↦ elim more [
          | inl has ↦ absurd (let b = block_share c has in omega arith)
          | inr unnamed ↦ absurd (let none = unnamed.no_table in omega arith)
        ]
      ]

  pub l2s_free : (c : ℕ) → 0 < in_cluster h c 0 + in_l1 h c + in_reftable h c + named_by_reftable h on_storage c → IsFreeOf (cluster_size h) l2s c
  l2s_free c some =
      let s = shares h on_storage c in
      let one = once_at c (omega arith) in
      elim (kept.l2_stand c) [
        | inl free ↦ free
        | inr has ↦ absurd (let t = l2_share c has in omega arith)
      ]

  -- where no table lies
  pub unnamed_free_l2 : (c : ℕ) → named_for_tables h on_storage c ≡ 0 → IsFreeOf (cluster_size h) l2s c
  unnamed_free_l2 c none = elim (kept.l2_stand c) [
    | inl free ↦ free
    | inr has ↦ absurd (let s = shares h on_storage c in let t = l2_share c has in omega arith)
  ]

  pub unnamed_free_rb : AreNamedBlocks h rbs on_storage → (c : ℕ) → named_for_tables h on_storage c ≡ 0 → IsFreeOf (cluster_size h) rbs c
  unnamed_free_rb named_blocks c none = elim (named_blocks c) [
    | inl free ↦ free
    | inr has ↦ absurd (let s = shares h on_storage c in let t = block_share c has in omega arith)
  ]

  apart : (c : ℕ) → IsFreeOf (cluster_size h) l2s c ⊎ IsFreeOf (cluster_size h) rbs c
  apart c = elim (kept.l2_stand c) [
    | inl free ↦ inl free
    | inr has ↦ inr (rbs_free c (let t = l2_share c has in omega arith))
  ]

  -- ---- a moment while refblocks are written, and one while L2 tables are

  -- each cluster is the old one where none of the tables lies
  stays_in : (ts : List CachedTable) (b : Bytes) (c : ℕ) → IsPartly (cluster_size h) on_storage (known (cluster_size h) ts on_storage) b → IsFreeOf (cluster_size h) ts c → SameIn (cluster_size h) c b on_storage
  stays_in ts b c partly free = elim (partly c) [
    | inl same ↦ same
    | inr same ↦ λ o in_c. same o in_c ∙ known-none (cluster_size h) ts on_storage o (free o in_c)
  ]

  blocks_partly : (b : Bytes) → IsPartly (cluster_size h) on_storage (known (cluster_size h) rbs on_storage) b → IsPartly (cluster_size h) on_storage (known_bytes (cluster_size h) l2s rbs on_storage) b
  blocks_partly b partly c = elim (apart c) [
    | inl free ↦ elim (partly c) [
      | inl same ↦ inl same
      | inr same ↦ inr (λ o in_c. same o in_c ∙ sym (known-none (cluster_size h) l2s (known (cluster_size h) rbs on_storage) o (free o in_c)))
    ]
    | inr free ↦ inl (stays_in rbs b c partly free)
  ]

  tables_partly : (b : Bytes) → IsPartly (cluster_size h) on_storage (known (cluster_size h) l2s on_storage) b → IsPartly (cluster_size h) on_storage (known_bytes (cluster_size h) l2s rbs on_storage) b
  tables_partly b partly c = elim (apart c) [
    | inl free ↦ inl (stays_in l2s b c partly free)
    | inr free ↦ elim (partly c) [
      | inl same ↦ inl same
      | inr same ↦ inr (λ o in_c. same o in_c ∙ sym (known-at (cluster_size h) l2s (known (cluster_size h) rbs on_storage) on_storage o (known-none (cluster_size h) rbs on_storage o (free o in_c))))
    ]
  ]

  top_of : (b : Bytes) → IsPartly (cluster_size h) on_storage (known_bytes (cluster_size h) l2s rbs on_storage) b → SameTop h on_storage b
  top_of b partly = top_kept h on_storage (known_bytes (cluster_size h) l2s rbs on_storage) b kept.crash_invariant.top kept.crash_invariant.same_top partly

  flipped : (c : ℕ) (b : Bytes) → SameIn (cluster_size h) c b on_storage → SameIn (cluster_size h) c on_storage b
  flipped c b same o in_c = sym (same o in_c)

  blocks_covers : (b : Bytes) → IsPartly (cluster_size h) on_storage (known (cluster_size h) rbs on_storage) b → SameCovers h on_storage b
  blocks_covers b partly g =
      let top = top_of b (blocks_partly b partly) in
      cover_stays h on_storage b kept.crash_invariant.top g (top.l1 (g / entries_per_cluster h)) (λ real.
      let c = table_at h on_storage (g / entries_per_cluster h) / cluster_size h in
      flipped c b (stays_in rbs b c partly (rbs_free c (let t = table_has h on_storage (g / entries_per_cluster h) real in omega arith))))

  tables_counts : (b : Bytes) → IsPartly (cluster_size h) on_storage (known (cluster_size h) l2s on_storage) b → SameCounts h on_storage b
  tables_counts b partly x =
      let top = top_of b (tables_partly b partly) in
      count_stays h on_storage b kept.crash_invariant.top x (top.reftable (x / counts_per_block h)) (λ real.
      let c = block_offset (reftable_entry h on_storage (x / counts_per_block h)) / cluster_size h in
      flipped c b (stays_in l2s b c partly (l2s_free c (let t = block_has h on_storage (x / counts_per_block h) real in omega arith))))

  -- where the caches are clean, the entries, the counts on the storage are known
  pub clean_covers : AreClean l2s → SameCovers h on_storage (known_bytes (cluster_size h) l2s rbs on_storage)
  clean_covers clean =
      subst (SameCovers h on_storage) (sym (clean_known (cluster_size h) l2s (known (cluster_size h) rbs on_storage) clean))
      (blocks_covers (known (cluster_size h) rbs on_storage) (λ c. inr (λ o in_c. refl)))

  pub clean_counts : AreClean rbs → SameCounts h on_storage (known_bytes (cluster_size h) l2s rbs on_storage)
  clean_counts clean =
      subst (λ (b : Bytes). SameCounts h on_storage (known (cluster_size h) l2s b)) (sym (clean_known (cluster_size h) rbs on_storage clean))
      (tables_counts (known (cluster_size h) l2s on_storage) (λ c. inr (λ o in_c. refl)))

  -- the L2 table of an L1 entry that isn't marked copied is not modified: its known bytes are those on the storage
  shared_free : (i : ℕ) → (is_copied (l1_entry h on_storage i) ≡ true → ⊥) → table_at h on_storage i ≢ 0 → IsFreeOf (cluster_size h) l2s (table_at h on_storage i / cluster_size h)
  shared_free i shared real = elim (kept.l2_stand (table_at h on_storage i / cluster_size h)) [
    | inl free ↦ free
    | inr has ↦ elim (cases_eq has.0 i) [
      | inl same ↦ absurd (shared (ap (λ k. is_copied (l1_entry h on_storage k)) (sym same) ∙ has.3))
      | inr other ↦ absurd (
          let two = two_tables h on_storage (table_at h on_storage i / cluster_size h) has.0 i other has.1 real has.2 refl in
          let s = shares h on_storage (table_at h on_storage i / cluster_size h) in
          let one = once_at (table_at h on_storage i / cluster_size h) (omega arith) in
          omega arith)
    ]
  ]

  pub shared_covers : (i : ℕ) → (is_copied (l1_entry h on_storage i) ≡ true → ⊥) → (g : ℕ) → g / entries_per_cluster h ≡ i → cover h on_storage g ≡ cover h (known_bytes (cluster_size h) l2s rbs on_storage) g
  shared_covers i shared g here =
      cover_stays h on_storage (known_bytes (cluster_size h) l2s rbs on_storage) kept.crash_invariant.top g (kept.crash_invariant.same_top.l1 (g / entries_per_cluster h)) (λ real o in_c.
      let c = table_at h on_storage (g / entries_per_cluster h) / cluster_size h in
      let l2_free : IsFreeOf (cluster_size h) l2s (table_at h on_storage (g / entries_per_cluster h) / cluster_size h) =
      shared_free (g / entries_per_cluster h) (λ copied. shared (ap (λ k. is_copied (l1_entry h on_storage k)) (sym here) ∙ copied)) real in
      let rb_free = rbs_free c (let t = table_has h on_storage (g / entries_per_cluster h) real in omega arith) in
      sym (known-none (cluster_size h) l2s (known (cluster_size h) rbs on_storage) o (l2_free o in_c) ∙ known-none (cluster_size h) rbs on_storage o (rb_free o in_c)))

  blocks_order : (e : Direction) → BlocksMayGo e l2s → (b : Bytes) → IsPartly (cluster_size h) on_storage (known (cluster_size h) rbs on_storage) b → IsInOrder e h on_storage (known_bytes (cluster_size h) l2s rbs on_storage) b
  blocks_order Neither may b partly = tt
  blocks_order L2DependsOnRb may b partly = inl (blocks_covers b partly)
  blocks_order RbDependsOnL2 may b partly = inr (λ g. sym (clean_covers may g) ∙ blocks_covers b partly g)

  tables_order : (e : Direction) → TablesMayGo e rbs → (b : Bytes) → IsPartly (cluster_size h) on_storage (known (cluster_size h) l2s on_storage) b → IsInOrder e h on_storage (known_bytes (cluster_size h) l2s rbs on_storage) b
  tables_order Neither may b partly = tt
  tables_order L2DependsOnRb may b partly = inr (λ c. sym (clean_counts may c) ∙ tables_counts b partly c)
  tables_order RbDependsOnL2 may b partly = inl (tables_counts b partly)

  -- ---- what lies where, in a mix
  l2_stands : (b : Bytes) → SameTop h on_storage b → (c : ℕ) → HasOwnL2 h on_storage c → HasOwnL2 h b c
  l2_stands b top c has =
      let e = ap host_offset (top.l1 has.0) in
      (has.0, (λ none. has.1 (e ∙ none)), ap (λ n. n / cluster_size h) (sym e) ∙ has.2, ap is_copied (sym (top.l1 has.0)) ∙ has.3)

  block_stands : (b : Bytes) → SameTop h on_storage b → (c : ℕ) → HasBlock h on_storage c → HasBlock h b c
  block_stands b top c has =
      let e = ap block_offset (top.reftable has.0) in
      (has.0, (λ none. has.1 (e ∙ none)), ap (λ n. n / cluster_size h) (sym e) ∙ has.2)

  still_unnamed : (b : Bytes) → IsMixed h d on_storage (known_bytes (cluster_size h) l2s rbs on_storage) b → SameTop h on_storage b → (c : ℕ)
      → IsUnnamed h on_storage (known_bytes (cluster_size h) l2s rbs on_storage) c → IsUnnamed h b (known_bytes (cluster_size h) l2s rbs on_storage) c
  still_unnamed b mixed top c unnamed = record {
    no_table = sym (for_tables-top h on_storage b c top) ∙ unnamed.no_table;
    no_entry =
        let le = mixed_either h d p on_storage (known_bytes (cluster_size h) l2s rbs on_storage) b kept.crash_invariant mixed c in
        let none = unnamed.no_entry in
        omega arith;
  }

  -- ---- one refblock is written
  module _ (front back : List CachedTable) (t t' : CachedTable) (on_storage' : Bytes) (are : rbs ≡ front ++ t ∷ back) (so : IsWrittenSo (cluster_size h) t t' on_storage on_storage') (may : BlocksMayGo d l2s) where
    rb_apart_at : AreApart (cluster_size h) (front ++ t ∷ back)
    rb_apart_at = subst (AreApart (cluster_size h)) are kept.rb_apart

    rb_partly : IsPartly (cluster_size h) on_storage (known (cluster_size h) rbs on_storage) on_storage'
    rb_partly = subst (λ ts. IsPartly (cluster_size h) on_storage (known (cluster_size h) ts on_storage) on_storage') (sym are)
        (written_partly (cluster_size h) t t' on_storage on_storage' so front back kept_sizes.some rb_apart_at)

    pub rb_mixed : IsMixed h d on_storage (known_bytes (cluster_size h) l2s rbs on_storage) on_storage'
    rb_mixed = record { partly = blocks_partly on_storage' rb_partly; ordered = blocks_order d may on_storage' rb_partly }

    rb_known : known_bytes (cluster_size h) l2s (front ++ t' ∷ back) on_storage' ≡ known_bytes (cluster_size h) l2s rbs on_storage
    rb_known = ap (known (cluster_size h) l2s) (written_known (cluster_size h) t t' on_storage on_storage' so front back rb_apart_at ∙ ap (λ ts. known (cluster_size h) ts on_storage) (sym are))

    pub block_written : InternalTableWrite h d p l2s rbs on_storage l2s (front ++ t' ∷ back) on_storage'
    block_written =
        let top = top_of on_storage' (blocks_partly on_storage' rb_partly) in
        let now = mixed_crash_invariant h d p on_storage (known_bytes (cluster_size h) l2s rbs on_storage) on_storage' kept.crash_invariant rb_mixed in
        record {
          kept = record {
            crash_invariant = subst (CrashInvariant h d p on_storage') (sym rb_known) now;
            l2_apart = kept.l2_apart;
            rb_apart = apart_too (cluster_size h) t t' on_storage on_storage' so front back rb_apart_at;
            l2_stand = λ c. elim (kept.l2_stand c) [ inl free ↦ inl free | inr has ↦ inr (l2_stands on_storage' top c has) ];
            rb_stand = λ c. elim (kept.rb_stand c) [
              | inl free ↦ inl (λ o in_c. free_too (cluster_size h) t t' on_storage on_storage' so front back o (subst (λ ts. IsFreeAt (cluster_size h) ts o) are (free o in_c)))
              | inr more ↦ elim more [
                | inl has ↦ inr (inl (block_stands on_storage' top c has))
                | inr unnamed ↦ inr (inr (subst (λ (k : Bytes). IsUnnamed h on_storage' k c) (sym rb_known) (still_unnamed on_storage' rb_mixed top c unnamed)))
              ]
            ];
          };
          known = rb_known;
          safe = λ backing m ok known_ok. mixed_kept h d p on_storage (known_bytes (cluster_size h) l2s rbs on_storage) on_storage' kept.crash_invariant rb_mixed backing m ok known_ok;
        }

  -- ---- one L2 table is written
  module _ (front back : List CachedTable) (t t' : CachedTable) (on_storage' : Bytes) (are : l2s ≡ front ++ t ∷ back) (so : IsWrittenSo (cluster_size h) t t' on_storage on_storage') (may : TablesMayGo d rbs) where
    l2_apart_at : AreApart (cluster_size h) (front ++ t ∷ back)
    l2_apart_at = subst (AreApart (cluster_size h)) are kept.l2_apart

    l2_partly : IsPartly (cluster_size h) on_storage (known (cluster_size h) l2s on_storage) on_storage'
    l2_partly = subst (λ ts. IsPartly (cluster_size h) on_storage (known (cluster_size h) ts on_storage) on_storage') (sym are)
        (written_partly (cluster_size h) t t' on_storage on_storage' so front back kept_sizes.some l2_apart_at)

    pub l2_mixed : IsMixed h d on_storage (known_bytes (cluster_size h) l2s rbs on_storage) on_storage'
    l2_mixed = record { partly = tables_partly on_storage' l2_partly; ordered = tables_order d may on_storage' l2_partly }

    l2_free : (o : ℕ) → IsFreeAt (cluster_size h) l2s o → IsFreeAt (cluster_size h) (front ++ t' ∷ back) o
    l2_free o free = free_too (cluster_size h) t t' on_storage on_storage' so front back o (subst (λ ts. IsFreeAt (cluster_size h) ts o) are free)

    l2_known : known_bytes (cluster_size h) (front ++ t' ∷ back) rbs on_storage' ≡ known_bytes (cluster_size h) l2s rbs on_storage
    l2_known = fun_ext (λ o. elim (apart (o / cluster_size h)) [
      | inl free ↦
          let new = known-none (cluster_size h) (front ++ t' ∷ back) (known (cluster_size h) rbs on_storage') o (l2_free o (free o refl)) in
          new ∙ known-at (cluster_size h) rbs on_storage' on_storage o (stays_in l2s on_storage' (o / cluster_size h) l2_partly free o refl) ∙ sym (known-none (cluster_size h) l2s (known (cluster_size h) rbs on_storage) o (free o refl))
      | inr free ↦
          known-at (cluster_size h) (front ++ t' ∷ back) (known (cluster_size h) rbs on_storage') on_storage' o (known-none (cluster_size h) rbs on_storage' o (free o refl))
          ∙ ap (λ (m : Bytes). m o) (written_known (cluster_size h) t t' on_storage on_storage' so front back l2_apart_at ∙ ap (λ ts. known (cluster_size h) ts on_storage) (sym are))
          ∙ sym (known-at (cluster_size h) l2s (known (cluster_size h) rbs on_storage) on_storage o (known-none (cluster_size h) rbs on_storage o (free o refl)))
    ])

    pub table_written : InternalTableWrite h d p l2s rbs on_storage (front ++ t' ∷ back) rbs on_storage'
    table_written =
        let top = top_of on_storage' (tables_partly on_storage' l2_partly) in
        let now = mixed_crash_invariant h d p on_storage (known_bytes (cluster_size h) l2s rbs on_storage) on_storage' kept.crash_invariant l2_mixed in
        record {
          kept = record {
            crash_invariant = subst (CrashInvariant h d p on_storage') (sym l2_known) now;
            l2_apart = apart_too (cluster_size h) t t' on_storage on_storage' so front back l2_apart_at;
            rb_apart = kept.rb_apart;
            l2_stand = λ c. elim (kept.l2_stand c) [
              | inl free ↦ inl (λ o in_c. l2_free o (free o in_c))
              | inr has ↦ inr (l2_stands on_storage' top c has)
            ];
            rb_stand = λ c. elim (kept.rb_stand c) [
              | inl free ↦ inl free
              | inr more ↦ elim more [
                | inl has ↦ inr (inl (block_stands on_storage' top c has))
                | inr unnamed ↦ inr (inr (subst (λ (k : Bytes). IsUnnamed h on_storage' k c) (sym l2_known) (still_unnamed on_storage' l2_mixed top c unnamed)))
              ]
            ];
          };
          known = l2_known;
          safe = λ backing m ok known_ok. mixed_kept h d p on_storage (known_bytes (cluster_size h) l2s rbs on_storage) on_storage' kept.crash_invariant l2_mixed backing m ok known_ok;
        }

  -- ---- changes of the direction
  pub kept_turned : (to : Direction) → MayTurn d to h on_storage (known_bytes (cluster_size h) l2s rbs on_storage) → CacheInvariantOver h to p l2s rbs on_storage
  kept_turned to may = record {
    crash_invariant = turned_crash_invariant h d to p on_storage (known_bytes (cluster_size h) l2s rbs on_storage) may kept.crash_invariant;
    l2_apart = kept.l2_apart;
    rb_apart = kept.rb_apart;
    l2_stand = kept.l2_stand;
    rb_stand = kept.rb_stand;
  }
