-- One refcount of a cached refblock changes.
use Rattle.std.proofs.Common.{◌≡◌, ◌↔◌, ◌+◌, ◌-◌, ◌*◌, ◌/◌, ◌%◌, ◌^◌, ◌<◌, ◌≤◌, ◌==◌, ◌∷◌, ◌++◌, IsTrue, ℕ, Bool, true, false, eqb, List, [], Some, refl, sym, ap, ◌∙◌, subst, arith}
use Rattle.qcow2_alloc.proofs.Common.{mod_below, eq-eqb, ne_eqb, Bytes, byte_at, HeaderFields, cluster_size, count_width, counts_per_block, reftable_entry, block_offset, block_count, count, named_by_reftable, RefBlockView, count_in, count_at, counts_of, ChangesCount, CachedTable, known, Pending, CrashInvariant, SameCovers, block_of, CountRises, CountFalls, IsSameOutside, known_bytes, HasBlock, AreNamedBlocks, Sizes, block_count-moved, known-at, known-none, changed_outside, block_has, kept_sizes, l2s_free, counted_covers, refblock_changed, Slot, MetadataCaches, slot_of, value_at, set_at, with_entries, IsBlockOf, cached_table, cached_tables, AreKept, AreLoaded, AllValuesFit, order_of, l2_tables, refblocks, known_of, CacheInvariant, IsCountedAt, Made}
use Rattle.qcow2_laws.proofs.Places.{count_in as count_found}
use Rattle.qcow2_laws.proofs.CachedChanges.{count_rises, count_falls}
use Rattle.qcow2_alloc.proofs.KeptTables.Entries.{tables_at}
use Rattle.qcow2_alloc.proofs.KeptTables.Loaded.{in_own_cluster}
use Rattle.qcow2_alloc.proofs.KeptTables.BlocksNamed.{blocks_stand, named_blocks_in}
use Rattle.qcow2_alloc.proofs.KeptTables.Standing.{AreStanding, stand_set, own_cluster}
use Rattle.qcow2_alloc.proofs.KeptTables.Changing.{Held, new_data, loaded_apart, loaded_changed, list_knows, fit_set, fit_new_data}

module _ {S : Type 0} (h : HeaderFields) (p : Pending) (on_storage : Bytes) (caches : MetadataCaches S) (sound : CacheInvariant h p caches on_storage) (key index : ℕ) (v : RefBlockView)
    (found : value_at (eqb key) caches.rb.entries ≡ Some v) (c : ℕ) (at : IsCountedAt h (known_of h caches on_storage) c key index) where
  abbrev bits : ℕ
  bits = caches.rb.backend.header.fields.cluster_bits

  there : Held key caches.rb.entries v
  there = new_data key caches.rb.entries v found

  abbrev tables : List (ℕ × Slot RefBlockView) → List CachedTable
  tables = cached_tables caches.rb.backend.header.fields.cluster_bits (λ (b : RefBlockView). b.bytes) (λ b. b.is_modified)

  abbrev table : RefBlockView → CachedTable
  table w = cached_table caches.rb.backend.header.fields.cluster_bits (λ (b : RefBlockView). b.bytes) (λ b. b.is_modified) (key, slot_of w there.pins)

  abbrev list_with : RefBlockView → List CachedTable
  list_with w = tables there.front ++ table w ∷ tables there.back

  entries_is : refblocks caches ≡ list_with v
  entries_is = ap tables there.is ∙ tables_at bits (λ (b : RefBlockView). b.bytes) (λ b. b.is_modified) there.front there.back (key, slot_of v there.pins)

  kept : AreKept h (order_of caches) p (l2_tables caches) (list_with v) on_storage
  kept = subst (λ ts. AreKept h (order_of caches) p (l2_tables caches) ts on_storage) entries_is sound.kept

  sizes : Sizes h
  sizes = kept_sizes h (order_of caches) p (l2_tables caches) (list_with v) on_storage kept.kept

  known_is : known_of h caches on_storage ≡ known_bytes (cluster_size h) (l2_tables caches) (list_with v) on_storage
  known_is = ap (λ ts. known_bytes (cluster_size h) (l2_tables caches) ts on_storage) entries_is

  place_is : (w : RefBlockView) → (table w).place ≡ block_of h (known_of h caches on_storage) c
  place_is w = ap (λ n. key * 2 ^ n) sound.rb_format.bits ∙ sym at.place

  same_entry : reftable_entry h on_storage (c / counts_per_block h) ≡ reftable_entry h (known_of h caches on_storage) (c / counts_per_block h)
  same_entry = sound.kept.kept.crash_invariant.same_top.reftable (c / counts_per_block h)

  has : (w : RefBlockView) → HasBlock h on_storage ((table w).place / cluster_size h)
  has w = (c / counts_per_block h, (λ none. at.real (ap block_offset (sym same_entry) ∙ none)), ap (λ n. n / cluster_size h) (ap block_offset same_entry ∙ sym (place_is w)))

  l2_free : (w : RefBlockView) → (i : ℕ) → i < cluster_size h → (table w).place % cluster_size h ≡ 0 → (b : Bytes) → known (cluster_size h) (l2_tables caches) b ((table w).place + i) ≡ b ((table w).place + i)
  l2_free w i lt aligned b =
      known-none (cluster_size h) (l2_tables caches) b ((table w).place + i)
      (l2s_free h (order_of caches) p (l2_tables caches) (list_with v) on_storage kept.kept ((table w).place / cluster_size h)
      (let x = has w in let one : 1 ≤ named_by_reftable h on_storage ((table w).place / cluster_size h) = subst (λ n. 1 ≤ named_by_reftable h on_storage n) x.2 (block_has h on_storage x.0 x.1) in omega arith)
      ((table w).place + i) (in_own_cluster (cluster_size h) (table w).place i aligned lt))

  -- a list with this refblock knows what it holds
  knows : (w : RefBlockView) → AreLoaded (cluster_size h) (HasBlock h on_storage) (list_with w) on_storage → (i : ℕ) → i < cluster_size h
      → known_bytes (cluster_size h) (l2_tables caches) (list_with w) on_storage (block_of h (known_of h caches on_storage) c + i) ≡ byte_at w.bytes i
  knows w loaded i lt =
      ap (λ n. known_bytes (cluster_size h) (l2_tables caches) (list_with w) on_storage (n + i)) (sym (place_is w))
      ∙ l2_free w i lt (place_aligned_of w loaded) (known (cluster_size h) (list_with w) on_storage)
      ∙ list_knows (cluster_size h) (HasBlock h on_storage) on_storage (tables there.front) (tables there.back) (table w) loaded (has w) i lt
    where
      place_aligned_of : (w : RefBlockView) → AreLoaded (cluster_size h) (HasBlock h on_storage) (list_with w) on_storage → (table w).place % cluster_size h ≡ 0
      place_aligned_of w loaded = aligned_in (tables there.front) loaded
        where
          aligned_in : (front : List CachedTable) → AreLoaded (cluster_size h) (HasBlock h on_storage) (front ++ table w ∷ tables there.back) on_storage → (table w).place % cluster_size h ≡ 0
          aligned_in [] l = l.0
          aligned_in (u ∷ front) l = aligned_in front l.3

  -- the counts that it holds are known
  counts_known : (w : RefBlockView) (b : Bytes) → AreLoaded (cluster_size h) (HasBlock h on_storage) (list_with w) on_storage → b ≡ known_bytes (cluster_size h) (l2_tables caches) (list_with w) on_storage → (i : ℕ) → i < counts_per_block h
      → count_in h.refcount_order w.bytes i ≡ block_count b (count_width h) (block_of h (known_of h caches on_storage) c) i
  counts_known w b loaded is i lt =
      block_count-moved h (byte_at w.bytes) b 0 (block_of h (known_of h caches on_storage) c) i sizes lt
      (λ k k_lt. let e : 0 + k ≡ k = omega arith in ap (byte_at w.bytes) e ∙ sym (ap (λ (m : Bytes). m (block_of h (known_of h caches on_storage) c + k)) is ∙ knows w loaded k k_lt))

  pub was : (i : ℕ) → i < counts_per_block h → count_in h.refcount_order v.bytes i ≡ block_count (known_of h caches on_storage) (count_width h) (block_of h (known_of h caches on_storage) c) i
  was = counts_known v (known_of h caches on_storage) kept.rb_loaded known_is

  pub order_is : v.refcount_order ≡ h.refcount_order
  order_is = (fit_new_data (IsBlockOf caches.rb.backend.header.fields) key there.front there.back v there.pins (subst (AllValuesFit (IsBlockOf caches.rb.backend.header.fields)) there.is sound.rb_fit)).order ∙ sound.rb_format.order

  -- the count that the refblock holds is the cluster's
  pub count_is : count h (known_of h caches on_storage) c ≡ count_in v.refcount_order v.bytes index
  count_is =
      count_found h (known_of h caches on_storage) c at.real ∙ sym (was (c % counts_per_block h) (mod_below c (counts_per_block h) sizes.counts))
      ∙ ap (count_in h.refcount_order v.bytes) at.at ∙ ap (λ n. count_in n v.bytes index) (sym order_is)

  bits_is : v.cluster_bits ≡ h.cluster_bits
  bits_is = (fit_new_data (IsBlockOf caches.rb.backend.header.fields) key there.front there.back v there.pins (subst (AllValuesFit (IsBlockOf caches.rb.backend.header.fields)) there.is sound.rb_fit)).bits ∙ sound.rb_format.bits

  -- the refblock has such a count
  pub index_fits : index < counts_of v
  index_fits =
      subst (λ n. n < counts_of v) at.at
      (subst (λ n. c % counts_per_block h < 2 ^ n * 8 / 2 ^ v.refcount_order) (sym bits_is)
      (subst (λ n. c % counts_per_block h < 2 ^ h.cluster_bits * 8 / 2 ^ n) (sym order_is) (mod_below c (counts_per_block h) sizes.counts)))

  pub zero_told : (b : Bool) → (IsTrue b ↔ (count_at v index ≡ 0)) → b ≡ (count h (known_of h caches on_storage) c == 0)
  zero_told true is = let none : count_in v.refcount_order v.bytes index ≡ 0 = is.0 refl in sym (eq-eqb (count h (known_of h caches on_storage) c) 0 (count_is ∙ none))
  zero_told false is = sym (ne_eqb (count h (known_of h caches on_storage) c) 0 (λ none. let e : false ≡ true = is.1 (sym count_is ∙ none) in cc))

  -- ---- another refblock in its place
  module _ (w : RefBlockView) (marked : w.is_modified ≡ true) (same_bits : w.cluster_bits ≡ v.cluster_bits) (same_order : w.refcount_order ≡ v.refcount_order) (caches' : MetadataCaches S)
      (l2_is : caches'.l2 ≡ caches.l2) (rb_is : caches'.rb ≡ with_entries caches.rb (set_at (eqb key) caches.rb.entries w)) (direction_is : caches'.direction ≡ caches.direction) where
    new_list : refblocks (record caches { rb = with_entries caches.rb (set_at (eqb key) caches.rb.entries w) }) ≡ list_with w
    new_list = ap tables (there.set w) ∙ tables_at bits (λ (b : RefBlockView). b.bytes) (λ b. b.is_modified) there.front there.back (key, slot_of w there.pins)

    loaded' : AreLoaded (cluster_size h) (HasBlock h on_storage) (list_with w) on_storage
    loaded' = loaded_changed (cluster_size h) (HasBlock h on_storage) on_storage (tables there.front) (tables there.back) (table v) (table w) refl marked kept.rb_loaded

    known' : known_of h caches' on_storage ≡ known_bytes (cluster_size h) (l2_tables caches) (list_with w) on_storage
    known' = rw (l2_is, rb_is) (ap (λ ts. known_bytes (cluster_size h) (l2_tables caches) ts on_storage) new_list)

    pub now : (i : ℕ) → i < counts_per_block h → count_in h.refcount_order w.bytes i ≡ block_count (known_of h caches' on_storage) (count_width h) (block_of h (known_of h caches on_storage) c) i
    now = counts_known w (known_of h caches' on_storage) loaded' known'

    aligned_v : (table v).place % cluster_size h ≡ 0
    aligned_v = aligned_in (tables there.front) kept.rb_loaded
      where
        aligned_in : (front : List CachedTable) → AreLoaded (cluster_size h) (HasBlock h on_storage) (front ++ table v ∷ tables there.back) on_storage → (table v).place % cluster_size h ≡ 0
        aligned_in [] l = l.0
        aligned_in (u ∷ front) l = aligned_in front l.3

    pub outside : IsSameOutside (cluster_size h) (block_of h (known_of h caches on_storage) c / cluster_size h) (known_of h caches on_storage) (known_of h caches' on_storage)
    outside = λ o other.
        ap (λ (m : Bytes). m o) known_is
        ∙ known-at (cluster_size h) (l2_tables caches) (known (cluster_size h) (list_with v) on_storage) (known (cluster_size h) (list_with w) on_storage) o
        (changed_outside (cluster_size h) (tables there.front) (tables there.back) (table v) (table w) on_storage refl aligned_v o (λ here. other (here ∙ ap (λ n. n / cluster_size h) (place_is v))))
        ∙ sym (ap (λ (m : Bytes). m o) known')

    pub sound_again : (p' : Pending) → CrashInvariant h (order_of caches') p' on_storage (known_of h caches' on_storage) → CacheInvariant h p' caches' on_storage
    sound_again p' crash_invariant =
        let covers : SameCovers h (known_bytes (cluster_size h) (l2_tables caches) (list_with v) on_storage) (known_bytes (cluster_size h) (l2_tables caches) (list_with w) on_storage) =
        subst (λ (b : Bytes). SameCovers h b (known_bytes (cluster_size h) (l2_tables caches) (list_with w) on_storage)) known_is
        (subst (λ (b : Bytes). SameCovers h (known_of h caches on_storage) b) known' (counted_covers h (order_of caches) p on_storage (known_of h caches on_storage) (known_of h caches' on_storage) sound.kept.kept.crash_invariant c at.real outside)) in
        let crash_invariant' : CrashInvariant h (order_of caches) p' on_storage (known_bytes (cluster_size h) (l2_tables caches) (list_with w) on_storage) =
        subst (λ (b : Bytes). CrashInvariant h (order_of caches) p' on_storage b) known' (rw direction_is at crash_invariant) in
        let again = refblock_changed h (order_of caches) (order_of caches) p p' (l2_tables caches) (tables there.front) (tables there.back) (table v) (table w) on_storage kept.kept aligned_v (has w)
        (loaded_apart (cluster_size h) (HasBlock h on_storage) on_storage (list_with w) loaded') covers crash_invariant' in
        let all : AllValuesFit (IsBlockOf caches.rb.backend.header.fields) (set_at (eqb key) caches.rb.entries w) =
        let old = subst (AllValuesFit (IsBlockOf caches.rb.backend.header.fields)) there.is sound.rb_fit in
        let own = fit_new_data (IsBlockOf caches.rb.backend.header.fields) key there.front there.back v there.pins old in
        subst (AllValuesFit (IsBlockOf caches.rb.backend.header.fields)) (sym (there.set w))
        (fit_set (IsBlockOf caches.rb.backend.header.fields) key there.front there.back v w there.pins (record { bits = same_bits ∙ own.bits; order = same_order ∙ own.order }) old) in
        rw (l2_is, rb_is, direction_is) (record {
          l2_format = sound.l2_format;
          rb_format = sound.rb_format;
          l2_fit = sound.l2_fit;
          rb_fit = all;
          kept = rw new_list (record { kept = again; l2_loaded = kept.l2_loaded; rb_loaded = loaded' });
        })

    -- the refblock is named, and the others are as they were
    pub named_blocks_again : AreNamedBlocks h (refblocks caches) on_storage → AreNamedBlocks h (refblocks caches') on_storage
    named_blocks_again named_blocks =
        let mine : IsBlockOf caches.rb.backend.header.fields w = let own = fit_new_data (IsBlockOf caches.rb.backend.header.fields) key there.front there.back v there.pins (subst (AllValuesFit (IsBlockOf caches.rb.backend.header.fields)) there.is sound.rb_fit) in
        record { bits = same_bits ∙ own.bits; order = same_order ∙ own.order } in
        let own_key : (table w).place / cluster_size h ≡ key = ap (λ n. key * 2 ^ n / cluster_size h) sound.rb_format.bits ∙ own_cluster h.cluster_bits key in
        let all = stand_set (λ (b : RefBlockView). b.is_modified) (IsBlockOf caches.rb.backend.header.fields) (HasBlock h on_storage) key there.front there.back v w there.pins (record { fits = mine; named = λ _. subst (HasBlock h on_storage) own_key (has w) })
        (subst (AreStanding (λ (b : RefBlockView). b.is_modified) (IsBlockOf caches.rb.backend.header.fields) (HasBlock h on_storage)) there.is (blocks_stand h p caches on_storage sound named_blocks)) in
        rw rb_is (named_blocks_in h on_storage caches.rb.backend.header.fields.cluster_bits sound.rb_format.bits (IsBlockOf caches.rb.backend.header.fields) (set_at (eqb key) caches.rb.entries w)
        (subst (AreStanding (λ (b : RefBlockView). b.is_modified) (IsBlockOf caches.rb.backend.header.fields) (HasBlock h on_storage)) (sym (there.set w)) all))

    pub raised : ChangesCount v.refcount_order v.bytes w.bytes index (count_in v.refcount_order v.bytes index + 1) → count h (known_of h caches on_storage) c ≡ 0
        → Made (CountRises h (known_of h caches on_storage) (known_of h caches' on_storage) c) h caches caches' on_storage
    raised changes free = record {
      change = count_rises h (known_of h caches on_storage) (known_of h caches' on_storage) c v.bytes w.bytes sizes at.real outside was now
          (rw (order_is, sym at.at) at changes) (ap (count_in h.refcount_order v.bytes) at.at ∙ ap (λ n. count_in n v.bytes index) (sym order_is) ∙ sym count_is ∙ free);
      named_blocks = named_blocks_again;
      sound = sound_again;
    }

    pub lowered : ChangesCount v.refcount_order v.bytes w.bytes index (count_in v.refcount_order v.bytes index - 1) → 0 < count_in v.refcount_order v.bytes index
        → Made (CountFalls h (known_of h caches on_storage) (known_of h caches' on_storage) c) h caches caches' on_storage
    lowered changes some = record {
      change = count_falls h (known_of h caches on_storage) (known_of h caches' on_storage) c v.bytes w.bytes sizes at.real outside was now
          (rw (order_is, sym at.at) at changes) (rw (order_is, sym at.at) at some);
      named_blocks = named_blocks_again;
      sound = sound_again;
    }
