-- What holds throughout calls of caches in which no cluster has a modified table in both.
use Rattle.std.proofs.Common.{◌≡◌, ◌⊎◌, ◌/◌, ◌%◌, ◌^◌, ◌<◌, ◌∷◌, ◌++◌, inl, inr, ℕ, Bool, false, eqb, List, [], None, refl, sym, ap, ◌∙◌, subst}
use Rattle.qcow2_alloc.proofs.Common.{fun_ext, AllByRecursion, IsDistinct, keys_of, lookup, Bytes, CachedTable, known, Direction, Neither, L2DependsOnRb, RbDependsOnL2, SameIn, IsPartly, known_bytes, IsFreeAt, IsFreeOf, AreApart, AreClean, BlocksMayGo, TablesMayGo, IsWrittenSo, known-at, known-none, unmodified_over, free_too, written_partly, written_known, IsFlushedSo, cached_tables, AreElsewhere, AreLoaded, Slot}
use Rattle.qcow2_alloc.proofs.KeptTables.Loaded.{stays_free, loaded_written, loaded_without, loaded_promoted}
use Rattle.qcow2_alloc.proofs.KeptTables.Listing.{loaded_distinct, ShowsSame, shows_without, shows_more, shows_promoted}
use Rattle.qcow2_alloc.proofs.KeptTables.Changing.{loaded_apart}
use Rattle.qcow2_alloc.proofs.KeptTables.Entries.{AreDistinct, elsewhere_of_none}
use Rattle.qcow2_alloc.proofs.KeptTables.Getting.{HoldsWhatStands, cluster_aligned}

-- each table fills a cluster of its own
abbrev pub AreSpread : ℕ → List CachedTable → Bytes → Type 0
AreSpread size = AreLoaded size (λ c. ⊥)

-- the tables of entries under keys of their own
module _ {V : Type 0} (bits : ℕ) (bytes : V → List ℕ) (is_modified : V → Bool) where
  none_behind : (k : ℕ) (es : List (ℕ × Slot V)) → AllByRecursion (λ j. eqb k j ≡ false) (keys_of es) → lookup (eqb k) es ≡ None
  none_behind k [] apart = refl
  none_behind k (e ∷ es) apart = rw apart.0 (none_behind k es apart.1)

  pub spread_entries : (es : List (ℕ × Slot V)) (b : Bytes) → IsDistinct eqb (keys_of es) → AreSpread (2 ^ bits) (cached_tables bits bytes is_modified es) b
  unfolding IsDistinct
  spread_entries [] b distinct = tt
  spread_entries (e ∷ es) b distinct = (cluster_aligned e.0 bits, elsewhere_of_none bits bytes is_modified e.0 es (none_behind e.0 es distinct.0), (λ clean no. absurd no), spread_entries es b distinct.1)

pub clean_free : (size : ℕ) (ts : List CachedTable) → AreClean ts → (c : ℕ) → IsFreeOf size ts c
clean_free size [] clean c o in_c = tt
clean_free size (t ∷ ts) clean c o in_c = (unmodified_over size t o clean.0, clean_free size ts clean.1 c o in_c)

-- ---- the tables of one cache change, beside those of the other one
module _ (size : ℕ) (some : 0 < size) (own others : List CachedTable) (apart : (c : ℕ) → IsFreeOf size own c ⊎ IsFreeOf size others c) (all : List CachedTable → Bytes → Bytes)
    (past : (ts : List CachedTable) (b : Bytes) (o : ℕ) → IsFreeAt size others o → all ts b o ≡ known size ts b o)
    (free : (ts us : List CachedTable) (b c : Bytes) (o : ℕ) → IsFreeAt size ts o → IsFreeAt size us o → b o ≡ c o → all ts b o ≡ all us c o)
    (relisted : (ts us : List CachedTable) (b : Bytes) → ((m : Bytes) → known size us m ≡ known size ts m) → all us b ≡ all ts b)
    (b0 : Bytes) (Ordered : Bytes → Type 0) where
  -- they were these, and are so many of them; what is known is the same, each cluster is as it was or as is known, and none changed where none of them lay
  pub record Along (ts : List CachedTable) (b : Bytes) : Type 0 where
    pub spread : AreSpread size ts b
    pub known : all ts b ≡ all own b0
    pub no_more : (c : ℕ) → IsFreeOf size own c → IsFreeOf size ts c
    pub beside : (c : ℕ) → IsFreeOf size own c → SameIn size c b b0
    pub partly : IsPartly size b0 (all own b0) b
    pub ordered : Ordered b

  pub along_start : AreSpread size own b0 → Ordered b0 → Along own b0
  along_start spread ordered = record {
    spread = spread;
    known = refl;
    no_more = λ c is. is;
    beside = λ c is o in_c. refl;
    partly = λ c. inl (λ o in_c. refl);
    ordered = ordered;
  }

  pub along_distinct : (ts : List CachedTable) (b : Bytes) → Along ts b → AreDistinct ts
  along_distinct ts b are = loaded_distinct size (λ c. ⊥) b ts are.spread

  along_listed : (ts us : List CachedTable) (b : Bytes) → Along ts b → ShowsSame size ts us → AreSpread size us b → Along us b × (all us b ≡ all ts b)
  along_listed ts us b are same spread =
      let shows = relisted ts us b same.known in (
        record {
          spread = spread;
          known = shows ∙ are.known;
          no_more = λ c is o in_c. same.free o (are.no_more c is o in_c);
          beside = are.beside;
          partly = are.partly;
          ordered = are.ordered;
        },
        shows,
      )

  pub along_drop : (front back : List CachedTable) (t : CachedTable) (b : Bytes) → Along (front ++ t ∷ back) b → t.is_modified ≡ false → Along (front ++ back) b × (all (front ++ back) b ≡ all (front ++ t ∷ back) b)
  along_drop front back t b are clean =
      along_listed (front ++ t ∷ back) (front ++ back) b are (shows_without size front back t clean (loaded_apart size (λ c. ⊥) b (front ++ t ∷ back) are.spread)) (loaded_without size (λ c. ⊥) b front back t are.spread)

  pub along_promote : (front back : List CachedTable) (t : CachedTable) (b : Bytes) → Along (front ++ t ∷ back) b → Along (t ∷ (front ++ back)) b × (all (t ∷ (front ++ back)) b ≡ all (front ++ t ∷ back) b)
  along_promote front back t b are =
      along_listed (front ++ t ∷ back) (t ∷ (front ++ back)) b are (shows_promoted size front back t (loaded_apart size (λ c. ⊥) b (front ++ t ∷ back) are.spread)) (loaded_promoted size (λ c. ⊥) b front back t are.spread)

  module _ (bits : ℕ) (is : 2 ^ bits ≡ size) where
    pub along_add : (t : CachedTable) (ts : List CachedTable) (b : Bytes) → Along ts b → t.place % 2 ^ bits ≡ 0 → AreElsewhere t.place ts → t.is_modified ≡ false → HoldsWhatStands all (2 ^ bits) t ts b
        → Along (t ∷ ts) b × (all (t ∷ ts) b ≡ all ts b)
    along_add t ts b are aligned away clean holds =
        let aligned' : t.place % size ≡ 0 = subst (λ n. t.place % n ≡ 0) is aligned in
        along_listed ts (t ∷ ts) b are (shows_more size ts t clean aligned' (loaded_apart size (λ c. ⊥) b ts are.spread)) (aligned', away, (λ _ no. absurd no), are.spread)

    -- one of them is written, which is in order where nothing changed but where one of them lay
    module _ (orders : (b : Bytes) → ((c : ℕ) → IsFreeOf size own c → SameIn size c b b0) → Ordered b) (front back : List CachedTable) (t t' : CachedTable) (b b' : Bytes) (are : Along (front ++ t ∷ back) b) (wrote : IsWrittenSo (2 ^ bits) t t' b b') where
      so : IsWrittenSo size t t' b b'
      so = subst (λ n. IsWrittenSo n t t' b b') is wrote

      own_apart : AreApart size (front ++ t ∷ back)
      own_apart = loaded_apart size (λ c. ⊥) b (front ++ t ∷ back) are.spread

      stays : (c : ℕ) → IsFreeOf size own c → SameIn size c b' b
      stays c none = stays_free size t t' b b' so front back c (are.no_more c none)

      same : all (front ++ t' ∷ back) b' ≡ all (front ++ t ∷ back) b
      same = fun_ext (λ o. elim (apart (o / size)) [
        | inl none ↦
            let before : IsFreeAt size (front ++ t ∷ back) o = are.no_more (o / size) none o refl in
            free (front ++ t' ∷ back) (front ++ t ∷ back) b' b o (free_too size t t' b b' so front back o before) before (stays (o / size) none o refl)
        | inr none ↦
            past (front ++ t' ∷ back) b' o (none o refl) ∙ ap (λ (m : Bytes). m o) (written_known size t t' b b' so front back own_apart) ∙ sym (past (front ++ t ∷ back) b o (none o refl))
      ])

      beside : (c : ℕ) → IsFreeOf size own c → SameIn size c b' b0
      beside c none o in_c = stays c none o in_c ∙ are.beside c none o in_c

      pub along_step : Along (front ++ t' ∷ back) b' × (all (front ++ t' ∷ back) b' ≡ all (front ++ t ∷ back) b)
      along_step = (
        record {
          spread = loaded_written size t t' b b' so (λ c. ⊥) (λ c. ⊥) front back (λ c no. no) are.spread;
          known = same ∙ are.known;
          no_more = λ c none o in_c. free_too size t t' b b' so front back o (are.no_more c none o in_c);
          beside = beside;
          partly = λ c. elim (written_partly size t t' b b' so front back some own_apart c) [
            | inl before ↦ elim (are.partly c) [
              | inl old ↦ inl (λ o in_c. before o in_c ∙ old o in_c)
              | inr told ↦ inr (λ o in_c. before o in_c ∙ told o in_c)
            ]
            | inr told ↦ elim (apart c) [
              | inl none ↦ inl (beside c none)
              | inr none ↦ inr (λ o in_c. told o in_c ∙ sym (past (front ++ t ∷ back) b o (none o in_c)) ∙ ap (λ (m : Bytes). m o) are.known)
            ]
          ];
          ordered = orders b' beside;
        },
        same,
      )

-- ---- L2 tables are laid over the refblocks
module _ (size : ℕ) where
  pub tables_past : (rbs ts : List CachedTable) (b : Bytes) (o : ℕ) → IsFreeAt size rbs o → known_bytes size ts rbs b o ≡ known size ts b o
  tables_past rbs ts b o none = known-at size ts (known size rbs b) b o (known-none size rbs b o none)

  pub tables_free : (rbs ts us : List CachedTable) (b c : Bytes) (o : ℕ) → IsFreeAt size ts o → IsFreeAt size us o → b o ≡ c o → known_bytes size ts rbs b o ≡ known_bytes size us rbs c o
  tables_free rbs ts us b c o none none' same = known-none size ts (known size rbs b) o none ∙ known-at size rbs b c o same ∙ sym (known-none size us (known size rbs c) o none')

  pub blocks_past : (l2s ts : List CachedTable) (b : Bytes) (o : ℕ) → IsFreeAt size l2s o → known_bytes size l2s ts b o ≡ known size ts b o
  blocks_past l2s ts b o none = known-none size l2s (known size ts b) o none

  pub blocks_free : (l2s ts us : List CachedTable) (b c : Bytes) (o : ℕ) → IsFreeAt size ts o → IsFreeAt size us o → b o ≡ c o → known_bytes size l2s ts b o ≡ known_bytes size l2s us c o
  blocks_free l2s ts us b c o none none' same = known-at size l2s (known size ts b) (known size us c) o (known-none size ts b o none ∙ same ∙ sym (known-none size us c o none'))

-- ---- the order in which modified tables are written
module _ (size : ℕ) (l2s rbs : List CachedTable) (on_storage known : Bytes) where
  -- none is
  pub unwritten : (d : Direction) → IsFlushedSo d size l2s rbs on_storage known on_storage
  unwritten Neither = tt
  unwritten L2DependsOnRb = inl (λ c. inr (λ o in_c. refl))
  unwritten RbDependsOnL2 = inl (λ c. inr (λ o in_c. refl))

  module _ (apart : (c : ℕ) → IsFreeOf size l2s c ⊎ IsFreeOf size rbs c) where
    -- only L2 tables are
    pub tables_ordered : (d : Direction) → TablesMayGo d rbs → (b : Bytes) → ((c : ℕ) → IsFreeOf size l2s c → SameIn size c b on_storage) → IsFlushedSo d size l2s rbs on_storage known b
    tables_ordered Neither may b beside = tt
    tables_ordered L2DependsOnRb may b beside = inr (λ c. inl (clean_free size rbs may c))
    tables_ordered RbDependsOnL2 may b beside = inl (λ c. elim (apart c) [ inl none ↦ inr (beside c none) | inr none ↦ inl none ])

    -- only refblocks are
    pub blocks_ordered : (d : Direction) → BlocksMayGo d l2s → (b : Bytes) → ((c : ℕ) → IsFreeOf size rbs c → SameIn size c b on_storage) → IsFlushedSo d size l2s rbs on_storage known b
    blocks_ordered Neither may b beside = tt
    blocks_ordered L2DependsOnRb may b beside = inl (λ c. elim (apart c) [ inl none ↦ inl none | inr none ↦ inr (beside c none) ])
    blocks_ordered RbDependsOnL2 may b beside = inr (λ c. inl (clean_free size l2s may c))
