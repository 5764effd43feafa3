-- One entry of a cached L2 table changes.
use Rattle.std.proofs.Common.{◌≡◌, ◌+◌, ◌*◌, ◌/◌, ◌%◌, ◌^◌, ◌<◌, ◌≤◌, ◌∷◌, ◌++◌, ℕ, true, eqb, List, [], Option, Some, None, IfSome, refl, sym, ap, ◌∙◌, subst, arith}
use Rattle.qcow2_alloc.proofs.Common.{Bytes, byte_at, HeaderFields, cluster_size, entries_per_cluster, l1_entry, l2_entry, host_offset, is_copied, named_by_l1_table, old_data_run, L2TableView, cover_at, entries_of, entry_at, ChangesEntry, CachedTable, known, number_at-moved, table_at, Pending, CrashInvariant, IsSameOutside, known_bytes, HasL2, HasOwnL2, AreNamedBlocks, Sizes, known-at, known-none, changed_outside, table_has, kept_sizes, rbs_free, l2_table_changed, Slot, MetadataCaches, slot_of, value_at, set_at, with_entries, IsTableOf, cached_table, cached_tables, AreKept, AreLoaded, AllValuesFit, order_of, l2_tables, refblocks, known_of, CacheInvariant, IsEntryAt, MadeEntry, ShowsEntry, ShowsKnown}
use Rattle.qcow2_metadata.specs.Cover.{entry_cover}
use Rattle.qcow2_alloc.proofs.KeptTables.Entries.{tables_at}
use Rattle.qcow2_alloc.proofs.KeptTables.Loaded.{in_own_cluster}
use Rattle.qcow2_alloc.proofs.KeptTables.Changing.{Held, new_data, loaded_apart, loaded_changed, list_knows, fit_set, fit_new_data}

module _ {S : Type 0} (h : HeaderFields) (p : Pending) (on_storage : Bytes) (caches : MetadataCaches S) (sound : CacheInvariant h p caches on_storage) (key index : ℕ) (v : L2TableView)
    (found : value_at (eqb key) caches.l2.entries ≡ Some v) (i : ℕ) (at : IsEntryAt h (known_of h caches on_storage) i key index) where
  abbrev bits : ℕ
  bits = caches.l2.backend.header.fields.cluster_bits

  there : Held key caches.l2.entries v
  there = new_data key caches.l2.entries v found

  abbrev tables : List (ℕ × Slot L2TableView) → List CachedTable
  tables = cached_tables caches.l2.backend.header.fields.cluster_bits (λ (t : L2TableView). t.bytes) (λ t. t.is_modified)

  abbrev table : L2TableView → CachedTable
  table w = cached_table caches.l2.backend.header.fields.cluster_bits (λ (t : L2TableView). t.bytes) (λ t. t.is_modified) (key, slot_of w there.pins)

  abbrev list_with : L2TableView → List CachedTable
  list_with w = tables there.front ++ table w ∷ tables there.back

  -- what the refblocks lay over the storage
  abbrev under : Bytes
  under = known (cluster_size h) (refblocks caches) on_storage

  entries_is : l2_tables caches ≡ list_with v
  entries_is = ap tables there.is ∙ tables_at bits (λ (t : L2TableView). t.bytes) (λ t. t.is_modified) there.front there.back (key, slot_of v there.pins)

  kept : AreKept h (order_of caches) p (list_with v) (refblocks caches) on_storage
  kept = subst (λ ts. AreKept h (order_of caches) p ts (refblocks caches) on_storage) entries_is sound.kept

  sizes : Sizes h
  sizes = kept_sizes h (order_of caches) p (list_with v) (refblocks caches) on_storage kept.kept

  known_is : known_of h caches on_storage ≡ known_bytes (cluster_size h) (list_with v) (refblocks caches) on_storage
  known_is = ap (λ ts. known_bytes (cluster_size h) ts (refblocks caches) on_storage) entries_is

  place_is : (w : L2TableView) → (table w).place ≡ table_at h (known_of h caches on_storage) i
  place_is w = ap (λ n. key * 2 ^ n) sound.l2_format.bits ∙ sym at.place

  same_entry : table_at h on_storage i ≡ table_at h (known_of h caches on_storage) i
  same_entry = ap host_offset (sound.kept.kept.crash_invariant.same_top.l1 i)

  has : (w : L2TableView) → HasL2 h on_storage ((table w).place / cluster_size h)
  has w = (i, (λ none. at.real (sym same_entry ∙ none)), ap (λ n. n / cluster_size h) (same_entry ∙ sym (place_is w)))

  aligned_in : (w : L2TableView) (front : List CachedTable) → AreLoaded (cluster_size h) (HasL2 h on_storage) (front ++ table w ∷ tables there.back) on_storage → (table w).place % cluster_size h ≡ 0
  aligned_in w [] l = l.0
  aligned_in w (u ∷ front) l = aligned_in w front l.3

  rb_free : (w : L2TableView) (k : ℕ) → k < cluster_size h → (table w).place % cluster_size h ≡ 0 → under ((table w).place + k) ≡ on_storage ((table w).place + k)
  rb_free w k lt aligned =
      known-none (cluster_size h) (refblocks caches) on_storage ((table w).place + k)
      (rbs_free h (order_of caches) p (list_with v) (refblocks caches) on_storage kept.kept ((table w).place / cluster_size h)
      (let x = has w in let one : 1 ≤ named_by_l1_table h on_storage ((table w).place / cluster_size h) = subst (λ n. 1 ≤ named_by_l1_table h on_storage n) x.2 (table_has h on_storage x.0 x.1) in omega arith)
      ((table w).place + k) (in_own_cluster (cluster_size h) (table w).place k aligned lt))

  -- a list with this table knows what it holds
  knows : (w : L2TableView) → AreLoaded (cluster_size h) (HasL2 h on_storage) (list_with w) on_storage → (k : ℕ) → k < cluster_size h
      → known_bytes (cluster_size h) (list_with w) (refblocks caches) on_storage (table_at h (known_of h caches on_storage) i + k) ≡ byte_at w.bytes k
  knows w loaded k lt =
      ap (λ n. known_bytes (cluster_size h) (list_with w) (refblocks caches) on_storage (n + k)) (sym (place_is w))
      ∙ known-at (cluster_size h) (list_with w) under on_storage ((table w).place + k) (rb_free w k lt (aligned_in w (tables there.front) loaded))
      ∙ list_knows (cluster_size h) (HasL2 h on_storage) on_storage (tables there.front) (tables there.back) (table w) loaded (has w) k lt

  -- the entries that it holds are known
  entries_known : (w : L2TableView) (b : Bytes) → AreLoaded (cluster_size h) (HasL2 h on_storage) (list_with w) on_storage → b ≡ known_bytes (cluster_size h) (list_with w) (refblocks caches) on_storage → (k : ℕ) → k < entries_per_cluster h
      → entry_at w.bytes k ≡ l2_entry b (table_at h (known_of h caches on_storage) i) k
  unfolding l2_entry
  entries_known w b loaded is k lt =
      number_at-moved (byte_at w.bytes) b (0 + 8 * k) (table_at h (known_of h caches on_storage) i + 8 * k) 8 (λ n n_lt.
      let eights = sizes.eights in
      let front : 0 + 8 * k + n ≡ 8 * k + n = omega arith in
      let behind : table_at h (known_of h caches on_storage) i + 8 * k + n ≡ table_at h (known_of h caches on_storage) i + (8 * k + n) = omega arith in
      ap (byte_at w.bytes) front ∙ sym (knows w loaded (8 * k + n) (omega arith)) ∙ sym (ap (λ (m : Bytes). m (table_at h (known_of h caches on_storage) i + (8 * k + n))) is) ∙ ap b (sym behind))

  was : (k : ℕ) → k < entries_per_cluster h → entry_at v.bytes k ≡ l2_entry (known_of h caches on_storage) (table_at h (known_of h caches on_storage) i) k
  was = entries_known v (known_of h caches on_storage) kept.l2_loaded known_is

  own_fit : IsTableOf caches.l2.backend.header.fields v
  own_fit = fit_new_data (IsTableOf caches.l2.backend.header.fields) key there.front there.back v there.pins (subst (AllValuesFit (IsTableOf caches.l2.backend.header.fields)) there.is sound.l2_fit)

  -- it is a table of this format
  pub bits_is : v.cluster_bits ≡ h.cluster_bits
  bits_is = own_fit.bits ∙ sound.l2_format.bits

  pub index_fits : index < entries_of v
  index_fits = subst (λ n. index < 2 ^ n / 8) (sym bits_is) at.within

  cover_is : (w : L2TableView) → IsTableOf caches.l2.backend.header.fields w → cover_at w index ≡ entry_cover h (entry_at w.bytes index)
  cover_is w fit = rw (fit.bits ∙ sound.l2_format.bits, fit.zero_bit ∙ sound.l2_format.zero_bit, fit.external ∙ sound.l2_format.external) refl

  -- what its entry covers is known
  pub covers_known : cover_at v index ≡ entry_cover h (l2_entry (known_of h caches on_storage) (table_at h (known_of h caches on_storage) i) index)
  covers_known = cover_is v own_fit ∙ ap (entry_cover h) (was index at.within)

  pub entry_shown : ShowsEntry h (known_of h caches on_storage) i index v
  entry_shown = record {
    format = record { bits = bits_is; zero_bit = own_fit.zero_bit ∙ sound.l2_format.zero_bit; external = own_fit.external ∙ sound.l2_format.external };
    entry = was index at.within;
  }

  -- ---- another table in its place
  module _ (own : is_copied (l1_entry h on_storage i) ≡ true) (w : L2TableView) (marked : w.is_modified ≡ true) (same_bits : w.cluster_bits ≡ v.cluster_bits) (same_zero : w.has_zero_bit ≡ v.has_zero_bit) (same_external : w.data_is_external ≡ v.data_is_external)
      (caches' : MetadataCaches S) (l2_is : caches'.l2 ≡ with_entries caches.l2 (set_at (eqb key) caches.l2.entries w)) (rb_is : caches'.rb ≡ caches.rb) (direction_is : caches'.direction ≡ caches.direction) where
    new_list : l2_tables (record caches { l2 = with_entries caches.l2 (set_at (eqb key) caches.l2.entries w) }) ≡ list_with w
    new_list = ap tables (there.set w) ∙ tables_at bits (λ (t : L2TableView). t.bytes) (λ t. t.is_modified) there.front there.back (key, slot_of w there.pins)

    loaded' : AreLoaded (cluster_size h) (HasL2 h on_storage) (list_with w) on_storage
    loaded' = loaded_changed (cluster_size h) (HasL2 h on_storage) on_storage (tables there.front) (tables there.back) (table v) (table w) refl marked kept.l2_loaded

    known' : known_of h caches' on_storage ≡ known_bytes (cluster_size h) (list_with w) (refblocks caches) on_storage
    known' = rw (l2_is, rb_is) (ap (λ ts. known_bytes (cluster_size h) ts (refblocks caches) on_storage) new_list)

    now : (k : ℕ) → k < entries_per_cluster h → entry_at w.bytes k ≡ l2_entry (known_of h caches' on_storage) (table_at h (known_of h caches on_storage) i) k
    now = entries_known w (known_of h caches' on_storage) loaded' known'

    aligned_v : (table v).place % cluster_size h ≡ 0
    aligned_v = aligned_in v (tables there.front) kept.l2_loaded

    outside : IsSameOutside (cluster_size h) (table_at h (known_of h caches on_storage) i / cluster_size h) (known_of h caches on_storage) (known_of h caches' on_storage)
    outside = λ o other.
        ap (λ (m : Bytes). m o) known_is
        ∙ changed_outside (cluster_size h) (tables there.front) (tables there.back) (table v) (table w) under refl aligned_v o (λ here. other (here ∙ ap (λ n. n / cluster_size h) (place_is v)))
        ∙ sym (ap (λ (m : Bytes). m o) known')

    has_own : HasOwnL2 h on_storage ((table w).place / cluster_size h)
    has_own = (i, (λ none. at.real (sym same_entry ∙ none)), ap (λ n. n / cluster_size h) (same_entry ∙ sym (place_is w)), own)

    fit' : IsTableOf caches.l2.backend.header.fields w
    fit' = record { bits = same_bits ∙ own_fit.bits; zero_bit = same_zero ∙ own_fit.zero_bit; external = same_external ∙ own_fit.external }

    sound_again : (p' : Pending) → AreNamedBlocks h (refblocks caches) on_storage → CrashInvariant h (order_of caches') p' on_storage (known_of h caches' on_storage) → CacheInvariant h p' caches' on_storage
    sound_again p' named_blocks crash_invariant =
        let crash_invariant' : CrashInvariant h (order_of caches) p' on_storage (known_bytes (cluster_size h) (list_with w) (refblocks caches) on_storage) =
        subst (λ (b : Bytes). CrashInvariant h (order_of caches) p' on_storage b) known' (rw direction_is at crash_invariant) in
        let again = l2_table_changed h (order_of caches) (order_of caches) p p' (tables there.front) (tables there.back) (refblocks caches) (table v) (table w) on_storage kept.kept named_blocks aligned_v has_own
        (loaded_apart (cluster_size h) (HasL2 h on_storage) on_storage (list_with w) loaded') crash_invariant' in
        let all : AllValuesFit (IsTableOf caches.l2.backend.header.fields) (set_at (eqb key) caches.l2.entries w) =
        subst (AllValuesFit (IsTableOf caches.l2.backend.header.fields)) (sym (there.set w))
        (fit_set (IsTableOf caches.l2.backend.header.fields) key there.front there.back v w there.pins fit' (subst (AllValuesFit (IsTableOf caches.l2.backend.header.fields)) there.is sound.l2_fit)) in
        rw (l2_is, rb_is, direction_is) (record {
          l2_format = sound.l2_format;
          rb_format = sound.rb_format;
          l2_fit = all;
          rb_fit = sound.rb_fit;
          kept = rw new_list (record { kept = again; l2_loaded = loaded'; rb_loaded = kept.rb_loaded });
        })

    pub entry_made : (entry : ℕ) (answer : Option (ℕ × ℕ)) → ChangesEntry v.bytes w.bytes index entry → answer ≡ old_data_run v.cluster_bits (cover_at v index) (cover_at w index) → MadeEntry h caches caches' on_storage i index entry answer
    entry_made entry answer changes answered = record {
      change = record {
        outside = outside;
        others = λ k lt other. sym (now k lt) ∙ changes.others k other ∙ was k lt;
        is = sym (now index at.within) ∙ changes.entry_is;
      };
      named_blocks = rw rb_is (λ named_blocks. named_blocks);
      answered =
          answered ∙ ap (λ n. old_data_run n (cover_at v index) (cover_at w index)) bits_is
          ∙ ap (λ c. old_data_run h.cluster_bits c (cover_at w index)) covers_known
          ∙ ap (old_data_run h.cluster_bits (entry_cover h (l2_entry (known_of h caches on_storage) (table_at h (known_of h caches on_storage) i) index))) (cover_is w fit' ∙ ap (entry_cover h) changes.entry_is);
      sound = sound_again;
    }

-- what a peek shows
pub shown_if : {S : Type 0} (caches : MetadataCaches S) (cluster : ℕ) (o : Option L2TableView) → o ≡ value_at (eqb cluster) caches.l2.entries → IfSome o (ShowsKnown caches cluster)
shown_if caches cluster None is = tt
shown_if caches cluster (Some t) is = λ h p on_storage i index sound at. entry_shown h p on_storage caches sound cluster index t (sym is) i at
