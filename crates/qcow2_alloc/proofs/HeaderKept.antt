-- Header numbers are written, whatever tables are cached: the caches' invariant holds with the new header.
use Rattle.std.proofs.Common.{◌≡◌, ◌≢◌, ◌⊎◌, ◌+◌, ◌/◌, ◌<◌, inl, inr, ℕ, refl, sym, ap, ◌∙◌, subst, arith}
use Rattle.qcow2_alloc.proofs.Common.{StorageView, Bytes, HeaderFields, cluster_size, is_copied, l1_entry, reftable_entry, host_offset, block_offset, in_cluster, named_for_tables, named_by_l1_table, named_by_reftable, CacheInvariantOver, HasL2, HasOwnL2, HasBlock, AreNamedBlocks, Pending, CrashInvariant, SameIn, Places, WritesHeader, with_places, table_once, in_own, header_sizes, header_fixed, header_same, kept_beside, shares, table_has, block_has, ImageFile, contents_in, known_in, FileInvariant, HasFormat, order_of, l2_tables, refblocks, known_of, CacheInvariant}
use Rattle.qcow2_alloc.proofs.Lemmas.{loaded_beside, AreCurrentIn, loaded_named}

-- the format isn't told by these numbers
format_placed : (g h : HeaderFields) (a : Places) → HasFormat g h → HasFormat g (with_places h a)
format_placed g h a has = record { bits = has.bits; order = has.order; zero_bit = has.zero_bit; external = has.external }

-- where the entries are the same, the same clusters have tables
pub has_table : (h h' : HeaderFields) (b b' : Bytes) (c : ℕ) → cluster_size h' ≡ cluster_size h → ((i : ℕ) → l1_entry h' b' i ≡ l1_entry h b i) → HasL2 h b c → HasL2 h' b' c
has_table h h' b b' c size same has =
    let e = ap host_offset (same has.0) in
    (has.0, (λ none. has.1 (sym e ∙ none)), ap (λ n. n / cluster_size h') e ∙ ap (λ n. host_offset (l1_entry h b has.0) / n) size ∙ has.2)

has_own_table : (h h' : HeaderFields) (b b' : Bytes) (c : ℕ) → cluster_size h' ≡ cluster_size h → ((i : ℕ) → l1_entry h' b' i ≡ l1_entry h b i) → HasOwnL2 h b c → HasOwnL2 h' b' c
has_own_table h h' b b' c size same has =
    let e = ap host_offset (same has.0) in
    (has.0, (λ none. has.1 (sym e ∙ none)), ap (λ n. n / cluster_size h') e ∙ ap (λ n. host_offset (l1_entry h b has.0) / n) size ∙ has.2, ap is_copied (same has.0) ∙ has.3)

-- an entry that is the same names the same cluster
pub same_block : (h h' : HeaderFields) (b b' : Bytes) (c : ℕ) → cluster_size h' ≡ cluster_size h → (has : HasBlock h b c) → reftable_entry h' b' has.0 ≡ reftable_entry h b has.0 → HasBlock h' b' c
same_block h h' b b' c size has same =
    let e = ap block_offset same in
    (has.0, (λ none. has.1 (sym e ∙ none)), ap (λ n. n / cluster_size h') e ∙ ap (λ n. block_offset (reftable_entry h b has.0) / n) size ∙ has.2)

-- Entries of the L1 table stay, and so does each refblock that is named; where one is named anew, no cached one is out of date.
module _ {S : Type 0} (view : S → StorageView) (p p' : Pending) (file : ImageFile S) (sound : FileInvariant view p file) (a : Places) (on_storage' : Bytes)
    (writes : WritesHeader file.header.fields a (contents_in view file) (known_in view file) on_storage' (known_of file.header.fields file.caches on_storage'))
    (crash_invariant : CrashInvariant (with_places file.header.fields a) (order_of file.caches) p' on_storage' (known_of file.header.fields file.caches on_storage'))
    (l1_still : (i : ℕ) → l1_entry (with_places file.header.fields a) on_storage' i ≡ l1_entry file.header.fields (contents_in view file) i)
    (rb_still : (c : ℕ) → HasBlock file.header.fields (contents_in view file) c → HasBlock (with_places file.header.fields a) on_storage' c)
    (rb_now : (c : ℕ) → HasBlock (with_places file.header.fields a) on_storage' c → HasBlock file.header.fields (contents_in view file) c ⊎ AreCurrentIn (cluster_size file.header.fields) c (refblocks file.caches) on_storage') where
  abbrev h : HeaderFields
  h = file.header.fields

  abbrev h' : HeaderFields
  h' = with_places file.header.fields a

  abbrev on_storage : Bytes
  on_storage = contents_in view file

  kept : CacheInvariantOver file.header.fields (order_of file.caches) p (l2_tables file.caches) (refblocks file.caches) (contents_in view file)
  kept = sound.caches.kept.kept

  once : named_for_tables h on_storage 0 ≡ 1
  once = table_once h (order_of file.caches) p on_storage (known_in view file) kept.crash_invariant 0 (header_fixed h a (order_of file.caches) p on_storage (known_in view file) on_storage' (known_of h file.caches on_storage') kept.crash_invariant writes)

  same_there : (c : ℕ) → c ≢ 0 → SameIn (cluster_size h) c on_storage on_storage'
  same_there = header_same h a (order_of file.caches) p on_storage (known_in view file) on_storage' (known_of h file.caches on_storage') kept.crash_invariant writes

  -- a cluster with a table is another one
  table_elsewhere : (c : ℕ) → 0 < named_by_l1_table h on_storage c + named_by_reftable h on_storage c → c ≢ 0
  table_elsewhere c some e =
      let here : 0 < named_by_l1_table h on_storage 0 + named_by_reftable h on_storage 0 = subst (λ n. 0 < named_by_l1_table h on_storage n + named_by_reftable h on_storage n) e some in
      let s = shares h on_storage 0 in
      let only = once in
      let sizes = header_sizes h a (order_of file.caches) p on_storage (known_in view file) on_storage' (known_of h file.caches on_storage') kept.crash_invariant writes in
      let zero : 0 / cluster_size h ≡ 0 = let some_size = sizes.some in omega arith in
      let one : in_cluster h 0 0 ≡ 1 = ap (λ n. in_cluster h n 0) (sym zero) ∙ in_own h 0 in
      absurd (omega arith)

  stays : (c : ℕ) → 0 < named_by_l1_table h on_storage c + named_by_reftable h on_storage c → SameIn (cluster_size h) c on_storage' on_storage
  stays c some o in_c = sym (same_there c (table_elsewhere c some) o in_c)

  pub header_named_blocks : AreNamedBlocks h' (refblocks file.caches) on_storage'
  header_named_blocks c = elim (sound.named_blocks c) [ inl free ↦ inl free | inr has ↦ inr (rb_still c has) ]

  pub header_sound : CacheInvariant h' p' file.caches on_storage'
  header_sound = record {
    l2_format = format_placed _ h a sound.caches.l2_format;
    rb_format = format_placed _ h a sound.caches.rb_format;
    l2_fit = sound.caches.l2_fit;
    rb_fit = sound.caches.rb_fit;
    kept = record {
      kept =
          kept_beside h h' (order_of file.caches) (order_of file.caches) p p' (l2_tables file.caches) (refblocks file.caches) on_storage on_storage' kept refl crash_invariant
          (λ c has. inr (has_own_table h h' on_storage on_storage' c refl l1_still has))
          (λ c either. elim (sound.named_blocks c) [ inl free ↦ inl free | inr has ↦ inr (inl (rb_still c has)) ]);
      l2_loaded = loaded_beside (cluster_size h) (HasL2 h on_storage) (HasL2 h' on_storage') on_storage on_storage' (l2_tables file.caches)
          (λ c has. let was = has_table h' h on_storage' on_storage c refl (λ i. sym (l1_still i)) has in (was, table_stays c was)) sound.caches.kept.l2_loaded;
      rb_loaded = loaded_named (cluster_size h) (HasBlock h on_storage) (HasBlock h' on_storage') on_storage on_storage' (refblocks file.caches)
          (λ c has. elim (rb_now c has) [ inl was ↦ inl (was, block_stays c was) | inr current ↦ inr current ]) sound.caches.kept.rb_loaded;
    };
  }
    where
      table_stays : (c : ℕ) → HasL2 h on_storage c → SameIn (cluster_size h) c on_storage' on_storage
      table_stays c has = stays c (subst (λ n. 0 < named_by_l1_table h on_storage n + named_by_reftable h on_storage n) has.2 (let one = table_has h on_storage has.0 has.1 in omega arith))

      block_stays : (c : ℕ) → HasBlock h on_storage c → SameIn (cluster_size h) c on_storage' on_storage
      block_stays c has = stays c (subst (λ n. 0 < named_by_l1_table h on_storage n + named_by_reftable h on_storage n) has.2 (let one = block_has h on_storage has.0 has.1 in omega arith))
