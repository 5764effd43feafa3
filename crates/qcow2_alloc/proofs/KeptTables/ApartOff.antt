-- Tables are dropped unwritten from caches in which no cluster has a modified table in both.
use Rattle.std.proofs.Common.{◌≡◌, ◌⊎◌, ◌+◌, ◌*◌, ◌/◌, ◌%◌, ◌^◌, ◌<◌, ◌&&◌, ◌∷◌, ◌++◌, inl, inr, ℕ, Bool, true, false, cond, eqb, List, Option, Some, None, IsTrue, arith, refl, sym, ap, ◌∙◌, subst, IfSome}
use Rattle.qcow2_alloc.proofs.Common.{pow_pos, div-mul-add, IsDistinct, option_map, keys_of, lookup_entry, remove_entry, Contains-lookup_entry, Bytes, is_within, HeaderFields, cluster_size, L2TableView, RefBlockView, CachedTable, known, overlays, SameIn, IsPartly, known_bytes, IsFreeAt, IsFreeOf, AreApart, AreClean, known-at, known-none, known_elsewhere, known_unmodified, clean_known, no_overlay, overlays_within, within_cluster, cluster_within, differs, Slot, L2CacheBackend, RefBlockCacheBackend, MetadataCaches, Cache, can_remove, with_entries, same_number, cached_table, cached_tables, rb_at, l2_tables, refblocks, AreNoMore, NoClusterDirtyInBoth, KnownWithout, EvictsTableApart, KnownWithoutBlock, AllocatesBlockApart}
use Rattle.qcow2_alloc.proofs.CachedEntries.Lists.{lookup-from_entry}
use Rattle.qcow2_alloc.proofs.KeptTables.Loaded.{loaded_without}
use Rattle.qcow2_alloc.proofs.KeptTables.Listing.{loaded_distinct, free_elsewhere, free_of}
use Rattle.qcow2_alloc.proofs.KeptTables.Entries.{split_found, tables_at, tables_both, away_from}
use Rattle.qcow2_alloc.proofs.KeptTables.Getting.{cluster_aligned}
use Rattle.qcow2_alloc.proofs.KeptTables.Changing.{loaded_apart}
use Rattle.qcow2_alloc.proofs.KeptTables.Inserting.{if_some}
use Rattle.qcow2_alloc.proofs.KeptTables.Off.{SomeOf, some_map, some_removed, some_clean, some_free, some_known}
use Rattle.qcow2_alloc.proofs.KeptTables.Apart.{AreSpread, spread_entries, tables_past, tables_free, blocks_past, blocks_free}

-- ---- some of the tables of one cache are left, beside those of the other one
module _ (size : ℕ) (some : 0 < size) (own own' others : List CachedTable) (apart : (c : ℕ) → IsFreeOf size own c ⊎ IsFreeOf size others c) (all : List CachedTable → Bytes → Bytes)
    (past : (ts : List CachedTable) (b : Bytes) (o : ℕ) → IsFreeAt size others o → all ts b o ≡ known size ts b o)
    (free : (ts us : List CachedTable) (b c : Bytes) (o : ℕ) → IsFreeAt size ts o → IsFreeAt size us o → b o ≡ c o → all ts b o ≡ all us c o)
    (b : Bytes) (own_apart : AreApart size own) (fewer : SomeOf own own') where
  no_more : AreNoMore size own own'
  no_more c none o in_c = some_free size own own' o fewer (none o in_c)

  less_partly : IsPartly size b (all own b) (all own' b)
  less_partly c = elim (apart c) [
    | inl none ↦ inr (λ o in_c. free own' own b b o (no_more c none o in_c) (none o in_c) refl)
    | inr none ↦ elim (some_known size some b own own' fewer own_apart c) [
      | inl stands ↦ inl (λ o in_c. past own' b o (none o in_c) ∙ stands o in_c)
      | inr same ↦ inr (λ o in_c. past own' b o (none o in_c) ∙ same o in_c ∙ sym (past own b o (none o in_c)))
    ]
  ]

-- the tables of entries under keys of their own
module _ {V : Type 0} (bits : ℕ) (bytes : V → List ℕ) (is_modified : V → Bool) (size : ℕ) (is_size : 2 ^ bits ≡ size) (es : List (ℕ × Slot V)) (distinct : IsDistinct eqb (keys_of es)) (b : Bytes) where
  pub spread : AreSpread size (cached_tables bits bytes is_modified es) b
  spread = subst (λ n. AreSpread n (cached_tables bits bytes is_modified es) b) is_size (spread_entries bits bytes is_modified es b distinct)

  are_apart : AreApart size (cached_tables bits bytes is_modified es)
  are_apart = loaded_apart size (λ c. ⊥) b (cached_tables bits bytes is_modified es) spread

module _ {S : Type 0} (caches : MetadataCaches S) where
  -- ---- of the L2 tables
  pub tables_taken_apart : (l2 : Cache (L2CacheBackend S) ℕ L2TableView) → l2 ≡ with_entries caches.l2 l2.entries → SomeOf caches.l2.entries l2.entries → IsDistinct eqb (keys_of caches.l2.entries)
      → EvictsTableApart (AreClean (l2_tables caches)) caches (record caches { l2 = l2 })
  tables_taken_apart l2 others some distinct h on_storage are =
      let bits = caches.l2.backend.header.fields.cluster_bits in
      let tables : List (ℕ × Slot L2TableView) → List CachedTable = cached_tables bits (λ (t : L2TableView). t.bytes) (λ t. t.is_modified) in
      let fewer : SomeOf (l2_tables caches) (tables l2.entries) = some_map (cached_table bits (λ (t : L2TableView). t.bytes) (λ t. t.is_modified)) caches.l2.entries l2.entries some in
      let own = are_apart bits (λ (t : L2TableView). t.bytes) (λ t. t.is_modified) (cluster_size h) (ap (λ n. 2 ^ n) are.l2_bits) caches.l2.entries distinct on_storage in
      let all : List CachedTable → Bytes → Bytes = λ ts b. known_bytes (cluster_size h) ts (refblocks caches) b in
      let less : AreNoMore (cluster_size h) (l2_tables caches) (tables l2.entries) = λ c none o in_c. some_free (cluster_size h) (l2_tables caches) (tables l2.entries) o fewer (none o in_c) in
      subst (λ (c : Cache (L2CacheBackend S) ℕ L2TableView). KnownWithout (AreClean (l2_tables caches)) h caches (record caches { l2 = c }) on_storage) (sym others)
      (record {
        apart = record { l2_bits = are.l2_bits; rb_bits = are.rb_bits; apart = λ c. elim (are.apart c) [ inl none ↦ inl (less c none) | inr none ↦ inr none ] };
        known = less_partly (cluster_size h) (pow_pos h.cluster_bits) (l2_tables caches) (tables l2.entries) (refblocks caches) are.apart all (tables_past (cluster_size h) (refblocks caches)) (tables_free (cluster_size h) (refblocks caches)) on_storage own fewer;
        same = λ clean.
            clean_known (cluster_size h) (tables l2.entries) (known (cluster_size h) (refblocks caches) on_storage) (some_clean (l2_tables caches) (tables l2.entries) fewer clean)
            ∙ sym (clean_known (cluster_size h) (l2_tables caches) (known (cluster_size h) (refblocks caches) on_storage) clean);
        tables = less;
        blocks = λ c none. none;
      })

  -- ---- of the refblocks
  module _ (h : HeaderFields) (on_storage : Bytes) (are : NoClusterDirtyInBoth h caches) (distinct : IsDistinct eqb (keys_of caches.rb.entries)) where
    abbrev bits : ℕ
    bits = caches.rb.backend.header.fields.cluster_bits

    abbrev blocks : List (ℕ × Slot RefBlockView) → List CachedTable
    blocks = cached_tables bits (λ (b : RefBlockView). b.bytes) (λ b. b.is_modified)

    rb_size : 2 ^ bits ≡ cluster_size h
    rb_size = ap (λ n. 2 ^ n) are.rb_bits

    blocks_without : (Unmodified : Type 0) (es : List (ℕ × Slot RefBlockView)) → SomeOf caches.rb.entries es → (Unmodified → known (cluster_size h) (blocks es) on_storage ≡ known (cluster_size h) (refblocks caches) on_storage)
        → KnownWithout Unmodified h caches (record caches { rb = with_entries caches.rb es }) on_storage
    blocks_without Unmodified es some same =
        let fewer : SomeOf (refblocks caches) (blocks es) = some_map (cached_table bits (λ (b : RefBlockView). b.bytes) (λ b. b.is_modified)) caches.rb.entries es some in
        let less : AreNoMore (cluster_size h) (refblocks caches) (blocks es) = λ c none o in_c. some_free (cluster_size h) (refblocks caches) (blocks es) o fewer (none o in_c) in
        record {
          apart = record { l2_bits = are.l2_bits; rb_bits = are.rb_bits; apart = λ c. elim (are.apart c) [ inl none ↦ inl none | inr none ↦ inr (less c none) ] };
          known = less_partly (cluster_size h) (pow_pos h.cluster_bits) (refblocks caches) (blocks es) (l2_tables caches) (λ c. elim (are.apart c) [ inl none ↦ inr none | inr none ↦ inl none ])
              (λ ts b. known_bytes (cluster_size h) (l2_tables caches) ts b) (blocks_past (cluster_size h) (l2_tables caches)) (blocks_free (cluster_size h) (l2_tables caches)) on_storage
              (are_apart bits (λ (b : RefBlockView). b.bytes) (λ b. b.is_modified) (cluster_size h) rb_size caches.rb.entries distinct on_storage) fewer;
          same = λ unmodified. ap (known (cluster_size h) (l2_tables caches)) (same unmodified);
          tables = λ c none. none;
          blocks = less;
        }

    -- ---- the refblock of a cluster goes
    module _ (key : ℕ) (e : ℕ × Slot RefBlockView) (found : lookup_entry (eqb key) caches.rb.entries ≡ Some e) where
      abbrev block : CachedTable
      block = cached_table bits (λ (b : RefBlockView). b.bytes) (λ b. b.is_modified) e

      abbrev front : List CachedTable
      front = blocks (split_found (eqb key) caches.rb.entries e found).front

      abbrev back : List CachedTable
      back = blocks (split_found (eqb key) caches.rb.entries e found).back

      own_key : e.0 ≡ key
      own_key = sym (same_number key e.0 (Contains-lookup_entry (eqb key) caches.rb.entries e found).1)

      whole : refblocks caches ≡ front ++ block ∷ back
      whole = let f = split_found (eqb key) caches.rb.entries e found in ap blocks f.is ∙ tables_at bits (λ (b : RefBlockView). b.bytes) (λ b. b.is_modified) f.front f.back e

      rest : blocks (remove_entry (eqb key) caches.rb.entries) ≡ front ++ back
      rest = let f = split_found (eqb key) caches.rb.entries e found in ap blocks f.rest ∙ tables_both bits (λ (b : RefBlockView). b.bytes) (λ b. b.is_modified) f.front f.back

      place_is : block.place ≡ key * cluster_size h
      place_is = ap (λ n. e.0 * n) rb_size ∙ ap (λ n. n * cluster_size h) own_key

      aligned : block.place % cluster_size h ≡ 0
      aligned = ap (λ n. n % cluster_size h) place_is ∙ cluster_aligned key h.cluster_bits

      own_place : block.place / cluster_size h ≡ key
      own_place =
          let more : key * cluster_size h ≡ key * cluster_size h + 0 = omega arith in
          ap (λ n. n / cluster_size h) (place_is ∙ more) ∙ div-mul-add key (cluster_size h) 0 (pow_pos h.cluster_bits)

      held : rb_at caches key ≡ Some e.1.value
      held = ap (option_map (λ (s : Slot RefBlockView). s.value)) (lookup-from_entry (eqb key) caches.rb.entries ∙ ap (option_map (λ (x : ℕ × Slot RefBlockView). x.1)) found)

      spread_at : AreSpread (cluster_size h) (front ++ block ∷ back) on_storage
      spread_at = subst (λ ts. AreSpread (cluster_size h) ts on_storage) whole (spread bits (λ (b : RefBlockView). b.bytes) (λ b. b.is_modified) (cluster_size h) rb_size caches.rb.entries distinct on_storage)

      gone : (o : ℕ) → o / cluster_size h ≡ key → IsFreeAt (cluster_size h) (front ++ back) o
      gone o in_c =
          free_elsewhere (cluster_size h) (λ c. ⊥) on_storage (front ++ back) block.place o aligned
          (away_from front back block (loaded_distinct (cluster_size h) (λ c. ⊥) on_storage (front ++ block ∷ back) spread_at))
          (loaded_without (cluster_size h) (λ c. ⊥) on_storage front back block spread_at) (in_c ∙ sym own_place)

      covers : e.1.value.is_modified ≡ true → (o : ℕ) → o / cluster_size h ≡ key → overlays (cluster_size h) block o ≡ true
      covers marked o in_c = ap (λ m. m && is_within block.place (cluster_size h) o) marked ∙ cluster_within block.place (cluster_size h) o (pow_pos h.cluster_bits) aligned (in_c ∙ sym own_place)

      pub block_without : KnownWithoutBlock h caches (record caches { rb = with_entries caches.rb (remove_entry (eqb key) caches.rb.entries) }) on_storage key
      block_without = record {
        off = blocks_without (IfSome (rb_at caches key) (λ (b : RefBlockView). b.is_modified ≡ false)) (remove_entry (eqb key) caches.rb.entries) (some_removed (eqb key) caches.rb.entries) (λ clean.
            ap (λ ts. known (cluster_size h) ts on_storage) rest
            ∙ sym (known_unmodified (cluster_size h) front back block on_storage (rw held at clean))
            ∙ sym (ap (λ ts. known (cluster_size h) ts on_storage) whole));
        outside = λ o other.
            known-at (cluster_size h) (l2_tables caches) (known (cluster_size h) (refblocks caches) on_storage) (known (cluster_size h) (blocks (remove_entry (eqb key) caches.rb.entries)) on_storage) o
            (ap (λ ts. known (cluster_size h) ts on_storage o) whole
            ∙ known_elsewhere (cluster_size h) front back block on_storage o (no_overlay (cluster_size h) block o (λ over. other (within_cluster block.place (cluster_size h) o aligned (overlays_within (cluster_size h) block o over) ∙ own_place)))
            ∙ sym (ap (λ ts. known (cluster_size h) ts on_storage o) rest));
        stands = if_some (λ (b : RefBlockView). b.is_modified ≡ true → SameIn (cluster_size h) key (known_bytes (cluster_size h) (l2_tables caches) (blocks (remove_entry (eqb key) caches.rb.entries)) on_storage) on_storage) (rb_at caches key) e.1.value held (λ marked o in_c.
            let no_table : IsFreeAt (cluster_size h) (l2_tables caches) o = elim (are.apart key) [
              | inl none ↦ none o in_c
              | inr none ↦ absurd (differs (overlays (cluster_size h) block o) (covers marked o in_c) (free_of (cluster_size h) front back block o (subst (λ ts. IsFreeAt (cluster_size h) ts o) whole (none o in_c))))
            ] in
            known-none (cluster_size h) (l2_tables caches) (known (cluster_size h) (blocks (remove_entry (eqb key) caches.rb.entries)) on_storage) o no_table
            ∙ ap (λ ts. known (cluster_size h) ts on_storage o) rest
            ∙ known-none (cluster_size h) (front ++ back) on_storage o (gone o in_c));
      }

  pub blocks_taken_apart : (rb : Cache (RefBlockCacheBackend S) ℕ RefBlockView) → rb ≡ with_entries caches.rb rb.entries → SomeOf caches.rb.entries rb.entries → IsDistinct eqb (keys_of caches.rb.entries)
      → EvictsTableApart (AreClean (refblocks caches)) caches (record caches { rb = rb })
  blocks_taken_apart rb others some distinct h on_storage are =
      let blocks : List (ℕ × Slot RefBlockView) → List CachedTable = cached_tables caches.rb.backend.header.fields.cluster_bits (λ (b : RefBlockView). b.bytes) (λ b. b.is_modified) in
      let fewer : SomeOf (refblocks caches) (blocks rb.entries) = some_map (cached_table caches.rb.backend.header.fields.cluster_bits (λ (b : RefBlockView). b.bytes) (λ b. b.is_modified)) caches.rb.entries rb.entries some in
      subst (λ (c : Cache (RefBlockCacheBackend S) ℕ RefBlockView). KnownWithout (AreClean (refblocks caches)) h caches (record caches { rb = c }) on_storage) (sym others)
      (blocks_without h on_storage are distinct (AreClean (refblocks caches)) rb.entries some
      (λ clean. clean_known (cluster_size h) (blocks rb.entries) on_storage (some_clean (refblocks caches) (blocks rb.entries) fewer clean) ∙ sym (clean_known (cluster_size h) (refblocks caches) on_storage clean)))

-- ---- a refblock is removed
module _ {S : Type 0} (caches : MetadataCaches S) (key : ℕ) (b : Bool) (rb : Cache (RefBlockCacheBackend S) ℕ RefBlockView) (told : b ≡ can_remove (eqb key) caches.rb.entries)
    (is : rb ≡ with_entries caches.rb (cond b (remove_entry (eqb key) caches.rb.entries) caches.rb.entries)) (distinct : IsDistinct eqb (keys_of caches.rb.entries)) where
  found_apart : (o : Option (ℕ × Slot RefBlockView)) → lookup_entry (eqb key) caches.rb.entries ≡ o → b ≡ true → AllocatesBlockApart caches (record caches { rb = rb }) key
  found_apart None none went = absurd (
      let missing = lookup-from_entry (eqb key) caches.rb.entries ∙ ap (option_map (λ (x : ℕ × Slot RefBlockView). x.1)) none in
      let can = sym went ∙ told in
      (let no = rw missing at can in cc))
  found_apart (Some e) some went = λ h on_storage are.
      subst (λ (c : Cache (RefBlockCacheBackend S) ℕ RefBlockView). KnownWithoutBlock h caches (record caches { rb = c }) on_storage key) (sym (rw went at is)) (block_without caches h on_storage are distinct key e some)

  pub removed_apart_block : IsTrue b → AllocatesBlockApart caches (record caches { rb = rb }) key
  removed_apart_block went = found_apart (lookup_entry (eqb key) caches.rb.entries) refl went
