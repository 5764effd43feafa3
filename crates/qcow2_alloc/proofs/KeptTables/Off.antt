-- Tables are dropped from the caches, unwritten: each cluster then has its known bytes or those on the storage.
use Rattle.std.proofs.Common.{◌≡◌, ◌⊎◌, ◌+◌, ◌*◌, ◌/◌, ◌%◌, ◌^◌, ◌<◌, ◌≤◌, ◌&&◌, ◌∷◌, ◌++◌, inl, inr, ℕ, max, Bool, true, false, cond, not, nat_lt, eqb, List, [], Option, Some, None, Result, Ok, Err, IsTrue, map, refl, sym, ap, ◌∙◌, subst, arith, IfSome, IsErr, IsErrAnd}
use Rattle.qcow2_alloc.proofs.Common.{cases_Bool, cases_eq, div-mul-add, mul-mod_left, nat_eq_equiv, option_map, option_map_or, lookup, lookup_entry, remove_entry, Contains-lookup_entry, Bytes, is_within, HeaderFields, MetadataError, L2Mapping, cluster_size, L2TableView, RefBlockView, named_by_l1_table, named_by_guest, CachedTable, known, overlays, Direction, Pending, CrashInvariant, IsPartly, named_in_either, IsUnnamed, known_bytes, IsFreeAt, IsFreeOf, AreApart, AreClean, AreNamedBlocks, HasL2, HasBlock, over_guests-le, known-at, known-none, known_there, known_elsewhere, known_unmodified, clean_known, no_overlay, unmodified_over, overlays_within, within_cluster, cluster_within, either_cover, table_has, kept_sizes, rbs_free, Slot, CacheError, InUse, StillInUse, Memory, Backend, L2CacheBackend, RefBlockCacheBackend, MetadataCaches, ImageError, of_cache, Cache, value_at, can_remove, is_pinned, pinned, with_entries, Unit₀, Invalidates, counts_none, CachesHaveRoom, KeepsPinsAndNotes, LeavesPinned, same_number, IsTableOf, IsBlockOf, cached_table, cached_tables, AreElsewhere, AreLoaded, AreKept, AllValuesFit, order_of, l2_tables, refblocks, rb_at, CacheInvariant, Evict, EvictsTable, TakenFrom, AllocatesBlock}
use Rattle.qcow2_alloc.proofs.CachedEntries.Knowing.{removed_apart}
use Rattle.qcow2_alloc.proofs.CachedEntries.Lists.{lookup-from_entry}
use Rattle.qcow2_alloc.proofs.CachedEntries.Pins.{removed_free}
use Rattle.qcow2_alloc.proofs.KeptTables.Entries.{AreDistinct, Found, split_found, tables_at, tables_both, away_from}
use Rattle.qcow2_alloc.proofs.KeptTables.Listing.{loaded_distinct}

-- ---- some of a list, in their order

abbrev pub SomeOf : {X : Type 0} → List X → List X → Type 0
SomeOf [] us = us ≡ []
SomeOf {X} (t ∷ ts) us = SomeOf ts us ⊎ ((rest : List X) × (us ≡ t ∷ rest) × SomeOf ts rest)

module _ {X : Type 0} where
  pub some_all : (ts : List X) → SomeOf ts ts
  some_all [] = refl
  some_all (t ∷ ts) = inr (ts, refl, some_all ts)

  pub some_none : (ts : List X) → SomeOf ts []
  some_none [] = refl
  some_none (t ∷ ts) = inl (some_none ts)

pub some_map : {X Y : Type 0} (f : X → Y) (ts us : List X) → SomeOf ts us → SomeOf (map f ts) (map f us)
some_map f [] us h = ap (map f) h
some_map f (t ∷ ts) us h = elim h [
  | inl less ↦ inl (some_map f ts us less)
  | inr more ↦ inr (map f more.0, ap (map f) more.1, some_map f ts more.0 more.2)
]

pub some_removed : {K X : Type 0} (test : K → Bool) (es : List (K × X)) → SomeOf es (remove_entry test es)
some_removed test [] = refl
some_removed test (e ∷ es) = elim (test e.0) as (λ b. SomeOf (e ∷ es) (cond b es (e ∷ remove_entry test es))) [
  | true ↦ inl (some_all es)
  | false ↦ inr (remove_entry test es, refl, some_removed test es)
]

pub some_pinned : {K V : Type 0} (es : List (K × Slot V)) → SomeOf es (pinned es)
some_pinned [] = refl
some_pinned (e ∷ es) = elim (is_pinned e.1) as (λ b. SomeOf (e ∷ es) (cond b (e ∷ pinned es) (pinned es))) [
  | true ↦ inr (pinned es, refl, some_pinned es)
  | false ↦ inl (some_pinned es)
]

-- ---- what holds of all holds of some

pub some_fit : {V : Type 0} (IsFit : V → Type 0) (es fs : List (ℕ × Slot V)) → SomeOf es fs → AllValuesFit IsFit es → AllValuesFit IsFit fs
some_fit IsFit [] fs h all = subst (AllValuesFit IsFit) (sym h) tt
some_fit IsFit (e ∷ es) fs h all = elim h [
  | inl less ↦ some_fit IsFit es fs less all.1
  | inr more ↦ subst (AllValuesFit IsFit) (sym more.1) (all.0, some_fit IsFit es more.0 more.2 all.1)
]

some_elsewhere : (place : ℕ) (ts us : List CachedTable) → SomeOf ts us → AreElsewhere place ts → AreElsewhere place us
some_elsewhere place [] us h all = subst (AreElsewhere place) (sym h) tt
some_elsewhere place (t ∷ ts) us h all = elim h [
  | inl less ↦ some_elsewhere place ts us less all.1
  | inr more ↦ subst (AreElsewhere place) (sym more.1) (all.0, some_elsewhere place ts more.0 more.2 all.1)
]

pub some_clean : (ts us : List CachedTable) → SomeOf ts us → AreClean ts → AreClean us
some_clean [] us h all = subst AreClean (sym h) tt
some_clean (t ∷ ts) us h all = elim h [
  | inl less ↦ some_clean ts us less all.1
  | inr more ↦ subst AreClean (sym more.1) (all.0, some_clean ts more.0 more.2 all.1)
]

module _ (size : ℕ) where
  pub some_free : (ts us : List CachedTable) (o : ℕ) → SomeOf ts us → IsFreeAt size ts o → IsFreeAt size us o
  some_free [] us o h all = subst (λ l. IsFreeAt size l o) (sym h) tt
  some_free (t ∷ ts) us o h all = elim h [
    | inl less ↦ some_free ts us o less all.1
    | inr more ↦ subst (λ l. IsFreeAt size l o) (sym more.1) (all.0, some_free ts more.0 o more.2 all.1)
  ]

  some_loaded : (IsNamed : ℕ → Type 0) (on_storage : Bytes) (ts us : List CachedTable) → SomeOf ts us → AreLoaded size IsNamed ts on_storage → AreLoaded size IsNamed us on_storage
  some_loaded IsNamed on_storage [] us h all = subst (λ l. AreLoaded size IsNamed l on_storage) (sym h) tt
  some_loaded IsNamed on_storage (t ∷ ts) us h all = elim h [
    | inl less ↦ some_loaded IsNamed on_storage ts us less all.3
    | inr more ↦ subst (λ l. AreLoaded size IsNamed l on_storage) (sym more.1) (all.0, some_elsewhere t.place ts more.0 more.2 all.1, all.2, some_loaded IsNamed on_storage ts more.0 more.2 all.3)
  ]

  some_apart : (ts us : List CachedTable) → SomeOf ts us → AreApart size ts → AreApart size us
  some_apart [] us h all = subst (AreApart size) (sym h) tt
  some_apart (t ∷ ts) us h all = elim h [
    | inl less ↦ some_apart ts us less all.2
    | inr more ↦ subst (AreApart size) (sym more.1) (all.0, (λ o over. some_free ts more.0 o more.2 (all.1 o over)), some_apart ts more.0 more.2 all.2)
  ]

  -- a table lies over a whole cluster, or not at all
  over_all : (t : CachedTable) (c : ℕ) → 0 < size → t.place % size ≡ 0 → ((o : ℕ) → o / size ≡ c → overlays size t o ≡ true) ⊎ ((o : ℕ) → o / size ≡ c → overlays size t o ≡ false)
  over_all t c some aligned = elim (cases_Bool t.is_modified) [
    | inr clean ↦ inr (λ o in_c. unmodified_over size t o clean)
    | inl marked ↦ elim (cases_eq c (t.place / size)) [
      | inl here ↦ inl (λ o in_c. ap (λ m. m && is_within t.place size o) marked ∙ cluster_within t.place size o some aligned (in_c ∙ here))
      | inr other ↦ inr (λ o in_c. no_overlay size t o (λ over. other (sym in_c ∙ within_cluster t.place size o aligned (overlays_within size t o over))))
    ]
  ]

  -- each cluster is known as before, or as it stands
  pub some_known : 0 < size → (b : Bytes) (ts us : List CachedTable) → SomeOf ts us → AreApart size ts → IsPartly size b (known size ts b) (known size us b)
  some_known some b [] us h apart c = inl (λ o in_c. ap (λ l. known size l b o) h ∙ known-none size [] b o tt)
  some_known some b (t ∷ ts) us h apart c = elim h [
    | inl less ↦ elim (some_known some b ts us less apart.2 c) [
      | inl stands ↦ inl stands
      | inr same ↦ elim (over_all t c some apart.0) [
        | inl over ↦ inl (λ o in_c. same o in_c ∙ known-none size ts b o (apart.1 o (over o in_c)))
        | inr past ↦ inr (λ o in_c. same o in_c ∙ sym (known_elsewhere size [] ts t b o (past o in_c)))
      ]
    ]
    | inr more ↦ elim (over_all t c some apart.0) [
      | inl over ↦ inr (λ o in_c.
          ap (λ l. known size l b o) more.1
          ∙ known_there size [] more.0 t b o (some_apart (t ∷ ts) (t ∷ more.0) (inr (more.0, refl, more.2)) apart) (over o in_c)
          ∙ sym (known_there size [] ts t b o apart (over o in_c)))
      | inr past ↦ elim (some_known some b ts more.0 more.2 apart.2 c) [
        | inl stands ↦ inl (λ o in_c. ap (λ l. known size l b o) more.1 ∙ known_elsewhere size [] more.0 t b o (past o in_c) ∙ stands o in_c)
        | inr same ↦ inr (λ o in_c. ap (λ l. known size l b o) more.1 ∙ known_elsewhere size [] more.0 t b o (past o in_c) ∙ same o in_c ∙ sym (known_elsewhere size [] ts t b o (past o in_c)))
      ]
    ]
  ]

-- ---- of both caches
module _ (h : HeaderFields) (d : Direction) (p : Pending) (l2s rbs l2s' rbs' : List CachedTable) (on_storage : Bytes) (are : AreKept h d p l2s rbs on_storage) (l2_some : SomeOf l2s l2s') (rb_some : SomeOf rbs rbs') where
  abbrev size : ℕ
  size = cluster_size h

  some_bytes : 0 < size
  some_bytes = (kept_sizes h d p l2s rbs on_storage are.kept).some

  either_free : (c : ℕ) → IsFreeOf size l2s c ⊎ IsFreeOf size rbs c
  either_free c = elim (are.kept.l2_stand c) [
    | inl free ↦ inl free
    | inr has ↦ inr (rbs_free h d p l2s rbs on_storage are.kept c (let one : 1 ≤ named_by_l1_table h on_storage c = subst (λ n. 1 ≤ named_by_l1_table h on_storage n) has.2 (table_has h on_storage has.0 has.1) in omega arith))
  ]

  pub off_partly : IsPartly size on_storage (known_bytes size l2s rbs on_storage) (known_bytes size l2s' rbs' on_storage)
  off_partly c = elim (either_free c) [
    | inl free ↦ elim (some_known size some_bytes on_storage rbs rbs' rb_some are.kept.rb_apart c) [
      | inl stands ↦ inl (λ o in_c. new_free o (free o in_c) ∙ stands o in_c)
      | inr same ↦ inr (λ o in_c. new_free o (free o in_c) ∙ same o in_c ∙ sym (known-none size l2s (known size rbs on_storage) o (free o in_c)))
    ]
    | inr free ↦ elim (some_known size some_bytes on_storage l2s l2s' l2_some are.kept.l2_apart c) [
      | inl stands ↦ inl (λ o in_c. under l2s' rbs' o (some_free size rbs rbs' o rb_some (free o in_c)) ∙ stands o in_c)
      | inr same ↦ inr (λ o in_c. under l2s' rbs' o (some_free size rbs rbs' o rb_some (free o in_c)) ∙ same o in_c ∙ sym (under l2s rbs o (free o in_c)))
    ]
  ]
    where
      new_free : (o : ℕ) → IsFreeAt size l2s o → known_bytes size l2s' rbs' on_storage o ≡ known size rbs' on_storage o
      new_free o free = known-none size l2s' (known size rbs' on_storage) o (some_free size l2s l2s' o l2_some free)

      under : (ts us : List CachedTable) (o : ℕ) → IsFreeAt size us o → known_bytes size ts us on_storage o ≡ known size ts on_storage o
      under ts us o free = known-at size ts (known size us on_storage) on_storage o (known-none size us on_storage o free)

  -- names that are no more than in either are none where these were none
  less_named : (f : L2Mapping → ℕ) (e b k : L2Mapping) → (e ≡ b) ⊎ (e ≡ k) → max (f b) (f e) ≤ max (f b) (f k)
  less_named f e b k (inl is) = let same : f e ≡ f b = ap f is in omega arith
  less_named f e b k (inr is) = let same : f e ≡ f k = ap f is in omega arith

  still_unnamed : (c : ℕ) → IsUnnamed h on_storage (known_bytes size l2s rbs on_storage) c → IsUnnamed h on_storage (known_bytes size l2s' rbs' on_storage) c
  still_unnamed c unnamed = record {
    no_table = unnamed.no_table;
    no_entry =
        let le : named_in_either h on_storage (known_bytes size l2s' rbs' on_storage) c ≤ named_in_either h on_storage (known_bytes size l2s rbs on_storage) c =
        over_guests-le h _ _ (λ g. less_named (named_by_guest h c) _ _ _ (either_cover h on_storage (known_bytes size l2s rbs on_storage) (known_bytes size l2s' rbs' on_storage) are.kept.crash_invariant.top are.kept.crash_invariant.same_top off_partly g)) in
        let none = unnamed.no_entry in
        omega arith;
  }

  pub off_named_blocks : AreNamedBlocks h rbs on_storage → AreNamedBlocks h rbs' on_storage
  off_named_blocks named_blocks c = elim (named_blocks c) [ inl free ↦ inl (λ o in_c. some_free size rbs rbs' o rb_some (free o in_c)) | inr has ↦ inr has ]

  pub off_kept : (p' : Pending) → CrashInvariant h d p' on_storage (known_bytes size l2s' rbs' on_storage) → AreKept h d p' l2s' rbs' on_storage
  off_kept p' crash_invariant = record {
    kept = record {
      crash_invariant = crash_invariant;
      l2_apart = some_apart size l2s l2s' l2_some are.kept.l2_apart;
      rb_apart = some_apart size rbs rbs' rb_some are.kept.rb_apart;
      l2_stand = λ c. elim (are.kept.l2_stand c) [ inl free ↦ inl (λ o in_c. some_free size l2s l2s' o l2_some (free o in_c)) | inr has ↦ inr has ];
      rb_stand = λ c. elim (are.kept.rb_stand c) [
        | inl free ↦ inl (λ o in_c. some_free size rbs rbs' o rb_some (free o in_c))
        | inr more ↦ elim more [ inl has ↦ inr (inl has) | inr unnamed ↦ inr (inr (still_unnamed c unnamed)) ]
      ];
    };
    l2_loaded = some_loaded size (HasL2 h on_storage) on_storage l2s l2s' l2_some are.l2_loaded;
    rb_loaded = some_loaded size (HasBlock h on_storage) on_storage rbs rbs' rb_some are.rb_loaded;
  }

-- ---- the caches
module _ {S : Type 0} (h : HeaderFields) (p : Pending) (on_storage : Bytes) (caches : MetadataCaches S) (sound : CacheInvariant h p caches on_storage) where
  -- some of the L2 tables stay
  pub tables_off : (es : List (ℕ × Slot L2TableView)) → SomeOf caches.l2.entries es → Evict (AreClean (l2_tables caches)) h caches (record caches { l2 = with_entries caches.l2 es }) on_storage
  tables_off es some =
      let tables : List (ℕ × Slot L2TableView) → List CachedTable = cached_tables caches.l2.backend.header.fields.cluster_bits (λ (t : L2TableView). t.bytes) (λ t. t.is_modified) in
      let fewer : SomeOf (l2_tables caches) (tables es) = some_map (cached_table caches.l2.backend.header.fields.cluster_bits (λ (t : L2TableView). t.bytes) (λ t. t.is_modified)) caches.l2.entries es some in
      let all : SomeOf (refblocks caches) (refblocks caches) = some_all (refblocks caches) in
      record {
        known = off_partly h (order_of caches) p (l2_tables caches) (refblocks caches) (tables es) (refblocks caches) on_storage sound.kept fewer all;
        same = λ clean.
            clean_known (cluster_size h) (tables es) (known (cluster_size h) (refblocks caches) on_storage) (some_clean (l2_tables caches) (tables es) fewer clean)
            ∙ sym (clean_known (cluster_size h) (l2_tables caches) (known (cluster_size h) (refblocks caches) on_storage) clean);
        named_blocks = λ named_blocks. named_blocks;
        sound = λ p' crash_invariant. record {
          l2_format = sound.l2_format;
          rb_format = sound.rb_format;
          l2_fit = some_fit (IsTableOf caches.l2.backend.header.fields) caches.l2.entries es some sound.l2_fit;
          rb_fit = sound.rb_fit;
          kept = off_kept h (order_of caches) p (l2_tables caches) (refblocks caches) (tables es) (refblocks caches) on_storage sound.kept fewer all p' crash_invariant;
        };
      }

  -- some of the refblocks stay
  pub blocks_off : (Unmodified : Type 0) (es : List (ℕ × Slot RefBlockView)) → SomeOf caches.rb.entries es
      → (Unmodified → known (cluster_size h) (refblocks (record caches { rb = with_entries caches.rb es })) on_storage ≡ known (cluster_size h) (refblocks caches) on_storage)
      → Evict Unmodified h caches (record caches { rb = with_entries caches.rb es }) on_storage
  blocks_off Unmodified es some same =
      let blocks : List (ℕ × Slot RefBlockView) → List CachedTable = cached_tables caches.rb.backend.header.fields.cluster_bits (λ (b : RefBlockView). b.bytes) (λ b. b.is_modified) in
      let fewer : SomeOf (refblocks caches) (blocks es) = some_map (cached_table caches.rb.backend.header.fields.cluster_bits (λ (b : RefBlockView). b.bytes) (λ b. b.is_modified)) caches.rb.entries es some in
      let all : SomeOf (l2_tables caches) (l2_tables caches) = some_all (l2_tables caches) in
      record {
        known = off_partly h (order_of caches) p (l2_tables caches) (refblocks caches) (l2_tables caches) (blocks es) on_storage sound.kept all fewer;
        same = λ clean. ap (known (cluster_size h) (l2_tables caches)) (same clean);
        named_blocks = off_named_blocks h (order_of caches) p (l2_tables caches) (refblocks caches) (l2_tables caches) (blocks es) on_storage sound.kept all fewer;
        sound = λ p' crash_invariant. record {
          l2_format = sound.l2_format;
          rb_format = sound.rb_format;
          l2_fit = sound.l2_fit;
          rb_fit = some_fit (IsBlockOf caches.rb.backend.header.fields) caches.rb.entries es some sound.rb_fit;
          kept = off_kept h (order_of caches) p (l2_tables caches) (refblocks caches) (l2_tables caches) (blocks es) on_storage sound.kept all fewer p' crash_invariant;
        };
      }

  pub blocks_off_clean : (es : List (ℕ × Slot RefBlockView)) → SomeOf caches.rb.entries es → Evict (AreClean (refblocks caches)) h caches (record caches { rb = with_entries caches.rb es }) on_storage
  blocks_off_clean es some =
      let blocks : List (ℕ × Slot RefBlockView) → List CachedTable = cached_tables caches.rb.backend.header.fields.cluster_bits (λ (b : RefBlockView). b.bytes) (λ b. b.is_modified) in
      let fewer : SomeOf (refblocks caches) (blocks es) = some_map (cached_table caches.rb.backend.header.fields.cluster_bits (λ (b : RefBlockView). b.bytes) (λ b. b.is_modified)) caches.rb.entries es some in
      blocks_off (AreClean (refblocks caches)) es some
      (λ clean. clean_known (cluster_size h) (blocks es) on_storage (some_clean (refblocks caches) (blocks es) fewer clean) ∙ sym (clean_known (cluster_size h) (refblocks caches) on_storage clean))

  -- ---- the refblock of a cluster goes
  module _ (key : ℕ) (e : ℕ × Slot RefBlockView) (found : lookup_entry (eqb key) caches.rb.entries ≡ Some e) where
    abbrev bits : ℕ
    bits = caches.rb.backend.header.fields.cluster_bits

    abbrev blocks : List (ℕ × Slot RefBlockView) → List CachedTable
    blocks = cached_tables caches.rb.backend.header.fields.cluster_bits (λ (b : RefBlockView). b.bytes) (λ b. b.is_modified)

    abbrev block : CachedTable
    block = cached_table caches.rb.backend.header.fields.cluster_bits (λ (b : RefBlockView). b.bytes) (λ b. b.is_modified) e

    there : Found (eqb key) caches.rb.entries e
    there = split_found (eqb key) caches.rb.entries e found

    own_key : e.0 ≡ key
    own_key = sym (same_number key e.0 (Contains-lookup_entry (eqb key) caches.rb.entries e found).1)

    before : refblocks caches ≡ blocks there.front ++ block ∷ blocks there.back
    before = ap blocks there.is ∙ tables_at bits (λ (b : RefBlockView). b.bytes) (λ b. b.is_modified) there.front there.back e

    after : blocks (remove_entry (eqb key) caches.rb.entries) ≡ blocks there.front ++ blocks there.back
    after = ap blocks there.rest ∙ tables_both bits (λ (b : RefBlockView). b.bytes) (λ b. b.is_modified) there.front there.back

    aligned : block.place % cluster_size h ≡ 0
    aligned = subst (λ n. e.0 * 2 ^ n % cluster_size h ≡ 0) (sym sound.rb_format.bits) (mul-mod_left e.0 (cluster_size h))

    place_is : block.place / cluster_size h ≡ key
    place_is =
        let some : 0 < cluster_size h = (kept_sizes h (order_of caches) p (l2_tables caches) (refblocks caches) on_storage sound.kept.kept).some in
        let more : e.0 * cluster_size h ≡ e.0 * cluster_size h + 0 = omega arith in
        ap (λ n. e.0 * 2 ^ n / cluster_size h) sound.rb_format.bits ∙ ap (λ n. n / cluster_size h) more ∙ div-mul-add e.0 (cluster_size h) 0 some ∙ own_key

    modified_at : (IfSome (rb_at caches key) (λ (b : RefBlockView). b.is_modified ≡ false)) → e.1.value.is_modified ≡ false
    modified_at clean = rw (ap (option_map (λ (s : Slot RefBlockView). s.value)) (lookup-from_entry (eqb key) caches.rb.entries ∙ ap (option_map (λ (x : ℕ × Slot RefBlockView). x.1)) found)) at clean

    pub block_off : TakenFrom h caches (record caches { rb = with_entries caches.rb (remove_entry (eqb key) caches.rb.entries) }) on_storage key
    block_off = record {
      off = blocks_off (IfSome (rb_at caches key) (λ (b : RefBlockView). b.is_modified ≡ false)) (remove_entry (eqb key) caches.rb.entries) (some_removed (eqb key) caches.rb.entries) (λ clean.
          ap (λ ts. known (cluster_size h) ts on_storage) after
          ∙ sym (known_unmodified (cluster_size h) (blocks there.front) (blocks there.back) block on_storage (modified_at clean))
          ∙ sym (ap (λ ts. known (cluster_size h) ts on_storage) before));
      outside = λ o other.
          known-at (cluster_size h) (l2_tables caches) (known (cluster_size h) (refblocks caches) on_storage) (known (cluster_size h) (blocks (remove_entry (eqb key) caches.rb.entries)) on_storage) o
          (ap (λ ts. known (cluster_size h) ts on_storage o) before
          ∙ known_elsewhere (cluster_size h) (blocks there.front) (blocks there.back) block on_storage o
          (no_overlay (cluster_size h) block o (λ over. other (within_cluster block.place (cluster_size h) o aligned (overlays_within (cluster_size h) block o over) ∙ place_is)))
          ∙ sym (ap (λ ts. known (cluster_size h) ts on_storage o) after));
      gone = ap (option_map (λ (s : Slot RefBlockView). s.value)) (none_at key (remove_entry (eqb key) caches.rb.entries)
          (subst (AreElsewhere (key * 2 ^ bits)) (sym after) (subst (λ k. AreElsewhere (k * 2 ^ bits) (blocks there.front ++ blocks there.back)) own_key
          (away_from (blocks there.front) (blocks there.back) block (subst AreDistinct before (loaded_distinct (cluster_size h) (HasBlock h on_storage) on_storage (refblocks caches) sound.kept.rb_loaded))))));
    }
      where
        none_at : (k : ℕ) (es : List (ℕ × Slot RefBlockView)) → AreElsewhere (k * 2 ^ bits) (blocks es) → lookup (eqb k) es ≡ None
        none_at k [] away = refl
        none_at k (f ∷ es) away = (elim (eqb k f.0) as (λ b. eqb k f.0 ≡ b → cond b (Some f.1) (lookup (eqb k) es) ≡ None) [
          | true ↦ λ same. absurd (away.0 (ap (λ n. n * 2 ^ bits) (sym (same_number k f.0 same))))
          | false ↦ λ other. none_at k es away.1
        ]) refl

-- ---- what removing a refblock does
module _ {S : Type 0} (caches : MetadataCaches S) (key : ℕ) (b : Bool) (rb : Cache (RefBlockCacheBackend S) ℕ RefBlockView) (told : b ≡ can_remove (eqb key) caches.rb.entries)
    (is : rb ≡ with_entries caches.rb (cond b (remove_entry (eqb key) caches.rb.entries) caches.rb.entries)) where
  entries_is : rb.entries ≡ cond b (remove_entry (eqb key) caches.rb.entries) caches.rb.entries
  entries_is = ap (λ (c : Cache (RefBlockCacheBackend S) ℕ RefBlockView). c.entries) is

  others_case : (c : Bool) (j : ℕ) → eqb key j ≡ false → value_at (eqb j) (cond c (remove_entry (eqb key) caches.rb.entries) caches.rb.entries) ≡ value_at (eqb j) caches.rb.entries
  others_case true j other = ap (option_map (λ (s : Slot RefBlockView). s.value)) (removed_apart nat_eq_equiv caches.rb.entries key j other)
  others_case false j other = refl

  pub removed_others : (j : ℕ) → eqb key j ≡ false → value_at (eqb j) rb.entries ≡ value_at (eqb j) caches.rb.entries
  removed_others j other = ap (λ l. value_at (eqb j) l) entries_is ∙ others_case b j other

  free_case : (c : Bool) → pinned caches.rb.entries ≡ [] → pinned (cond c (remove_entry (eqb key) caches.rb.entries) caches.rb.entries) ≡ []
  free_case true free = removed_free (eqb key) caches.rb.entries free
  free_case false free = free

  pub removed_marks : KeepsPinsAndNotes caches (record caches { rb = rb })
  removed_marks = record {
    pins = λ _. refl;
    room = λ r. record { tables = r.tables; some = subst (λ (c : Cache (RefBlockCacheBackend S) ℕ RefBlockView). 0 < c.size) (sym is) r.some; free = ap pinned entries_is ∙ free_case b r.free };
    changes = counts_none caches.is_changed caches.changes;
  }

  found_of : (o : Option (ℕ × Slot RefBlockView)) → lookup_entry (eqb key) caches.rb.entries ≡ o → b ≡ true → AllocatesBlock caches (record caches { rb = rb }) key
  found_of None none went = absurd (
      let missing = lookup-from_entry (eqb key) caches.rb.entries ∙ ap (option_map (λ (x : ℕ × Slot RefBlockView). x.1)) none in
      let can = sym went ∙ told in
      (let no = rw missing at can in cc))
  found_of (Some e) some went = λ h p on_storage sound.
      subst (λ (c : Cache (RefBlockCacheBackend S) ℕ RefBlockView). TakenFrom h caches (record caches { rb = c }) on_storage key) (sym (rw went at is)) (block_off h p on_storage caches sound key e some)

  pub removed_takes : IsTrue b → AllocatesBlock caches (record caches { rb = rb }) key
  removed_takes went = found_of (lookup_entry (eqb key) caches.rb.entries) refl went

-- ---- what invalidating a cache does
module _ {V E : Type 0} (es fs : List (ℕ × Slot V)) where
  pub left_of : (r : Result Unit₀ (CacheError ℕ E)) → Invalidates es r fs → SomeOf es fs
  left_of (Ok u) h = subst (SomeOf es) (sym h.1) (some_none es)
  left_of (Err (StillInUse keys)) h = subst (SomeOf es) (sym h.2) (some_pinned es)
  left_of (Err Memory) h = subst (SomeOf es) (sym h.1) (some_all es)
  left_of (Err InUse) h = absurd h
  left_of (Err (Backend x)) h = absurd h

err_is : (r : Result Unit₀ ImageError) (e : ImageError) → IsErr r × IsErrAnd r (λ x. x ≡ e) → r ≡ Err e
err_is (Ok u) e is = absurd (cc)
err_is (Err x) e is = ap (λ (y : ImageError). Err y) is.1

pub left_err : {V : Type 0} (es fs : List (ℕ × Slot V)) (r : Result Unit₀ (CacheError ℕ MetadataError)) (e : CacheError ℕ MetadataError) → r ≡ Err e → Invalidates es r fs → (answer : Result Unit₀ ImageError)
    → IsErr answer × IsErrAnd answer (λ x. x ≡ of_cache e) → LeavesPinned es answer fs
left_err es fs r (StillInUse keys) is h answer told = let g = rw is at h in subst (λ (a : Result Unit₀ ImageError). LeavesPinned es a fs) (sym (err_is answer _ told)) (g.0, inr (keys, refl, g.1, g.2))
left_err es fs r Memory is h answer told = let g = rw is at h in subst (λ (a : Result Unit₀ ImageError). LeavesPinned es a fs) (sym (err_is answer _ told)) (g.0, inl (refl, g.1))
left_err es fs r InUse is h answer told = absurd (rw is at h)
left_err es fs r (Backend x) is h answer told = absurd (rw is at h)

module _ {S : Type 0} (caches : MetadataCaches S) where
  -- of the L2 tables
  pub tables_taken : (l2 : Cache (L2CacheBackend S) ℕ L2TableView) → l2 ≡ with_entries caches.l2 l2.entries → SomeOf caches.l2.entries l2.entries → EvictsTable (AreClean (l2_tables caches)) caches (record caches { l2 = l2 })
  tables_taken l2 others some h p on_storage sound =
      subst (λ (c : Cache (L2CacheBackend S) ℕ L2TableView). Evict (AreClean (l2_tables caches)) h caches (record caches { l2 = c }) on_storage) (sym others) (tables_off h p on_storage caches sound l2.entries some)

  -- of the refblocks
  pub blocks_taken : (rb : Cache (RefBlockCacheBackend S) ℕ RefBlockView) → rb ≡ with_entries caches.rb rb.entries → SomeOf caches.rb.entries rb.entries → EvictsTable (AreClean (refblocks caches)) caches (record caches { rb = rb })
  blocks_taken rb others some h p on_storage sound =
      subst (λ (c : Cache (RefBlockCacheBackend S) ℕ RefBlockView). Evict (AreClean (refblocks caches)) h caches (record caches { rb = c }) on_storage) (sym others) (blocks_off_clean h p on_storage caches sound rb.entries some)

-- an entry without a pin can be removed, so one that can't isn't there
pub none_unremoved : {V : Type 0} (test : ℕ → Bool) (es : List (ℕ × Slot V)) → pinned es ≡ [] → can_remove test es ≡ false → value_at test es ≡ None
none_unremoved test [] free can = refl
none_unremoved {V} test (e ∷ es) free can =
    (elim (nat_lt 0 e.1.pins) as (λ p. nat_lt 0 e.1.pins ≡ p → cond p (e ∷ pinned es) (pinned es) ≡ [] → value_at test (e ∷ es) ≡ None) [
      | true ↦ λ _ bad. cc
      | false ↦ λ unpinned rest. (elim (test e.0) as (λ b. test e.0 ≡ b → option_map_or (λ (s : Slot V). not (nat_lt 0 s.pins)) (cond b (Some e.1) (lookup test es)) false ≡ false
          → option_map (λ (s : Slot V). s.value) (cond b (Some e.1) (lookup test es)) ≡ None) [
            | true ↦ λ _ can. absurd (let bad : not (nat_lt 0 e.1.pins) ≡ false = can in (let no = rw unpinned at bad in cc))
            | false ↦ λ _ can. none_unremoved test es rest can
          ]) refl can
    ]) refl free

module _ {S : Type 0} (caches : MetadataCaches S) (key : ℕ) (b : Bool) (rb : Cache (RefBlockCacheBackend S) ℕ RefBlockView) (told : b ≡ can_remove (eqb key) caches.rb.entries)
    (is : rb ≡ with_entries caches.rb (cond b (remove_entry (eqb key) caches.rb.entries) caches.rb.entries)) where
  clean_case : (c : Bool) (bits : ℕ) (es : List (ℕ × Slot RefBlockView)) → AreClean (cached_tables bits (λ (b : RefBlockView). b.bytes) (λ b. b.is_modified) es)
      → AreClean (cached_tables bits (λ (b : RefBlockView). b.bytes) (λ b. b.is_modified) (cond c (remove_entry (eqb key) es) es))
  clean_case true bits es all = clean_without bits es all
    where
      clean_without : (bits : ℕ) (es : List (ℕ × Slot RefBlockView)) → AreClean (cached_tables bits (λ (b : RefBlockView). b.bytes) (λ b. b.is_modified) es)
          → AreClean (cached_tables bits (λ (b : RefBlockView). b.bytes) (λ b. b.is_modified) (remove_entry (eqb key) es))
      clean_without bits [] all = tt
      clean_without bits (e ∷ es) all =
          elim (eqb key e.0) as (λ t. AreClean (cached_tables bits (λ (b : RefBlockView). b.bytes) (λ b. b.is_modified) (cond t es (e ∷ remove_entry (eqb key) es)))) [ true ↦ all.1 | false ↦ (all.0, clean_without bits es all.1) ]
  clean_case false bits es all = all

  -- none that stays is modified, where none was
  pub removed_clean : AreClean (refblocks caches) → AreClean (refblocks (record caches { rb = rb }))
  removed_clean all = subst (λ (x : Cache (RefBlockCacheBackend S) ℕ RefBlockView). AreClean (refblocks (record caches { rb = x }))) (sym is) (clean_case b caches.rb.backend.header.fields.cluster_bits caches.rb.entries all)

  -- it is no longer held
  pub removed_gone : (h : HeaderFields) (p : Pending) (on_storage : Bytes) → CacheInvariant h p caches on_storage → CachesHaveRoom caches → value_at (eqb key) rb.entries ≡ None
  removed_gone h p on_storage sound room = elim (cases_Bool b) [
    | inl went ↦ (removed_takes caches key b rb told is went h p on_storage sound).gone
    | inr stayed ↦
        ap (λ (x : Cache (RefBlockCacheBackend S) ℕ RefBlockView). value_at (eqb key) x.entries) is ∙ ap (λ c. value_at (eqb key) (cond c (remove_entry (eqb key) caches.rb.entries) caches.rb.entries)) stayed
        ∙ none_unremoved (eqb key) caches.rb.entries room.free (sym told ∙ stayed)
  ]
