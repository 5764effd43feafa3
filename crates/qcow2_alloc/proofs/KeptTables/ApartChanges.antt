-- A cached table is changed in place, in caches in which no cluster has a modified table in both.
use Rattle.std.proofs.Common.{◌≡◌, ◌⊎◌, ◌+◌, ◌-◌, ◌*◌, ◌/◌, ◌%◌, ◌^◌, ◌<◌, ◌&&◌, ◌∷◌, ◌++◌, inl, inr, ℕ, Bool, true, eqb, List, Option, Some, None, arith, refl, sym, ap, ◌∙◌, subst, IfSome}
use Rattle.qcow2_alloc.proofs.Common.{cases_Bool, pow_pos, div-mul-add, IsDistinct, keys_of, lookup, Bytes, byte_at, is_within, cluster_size, L2TableView, RefBlockView, CachedTable, known, overlays, known_bytes, IsFreeAt, IsFreeOf, AreApart, IsSameOutside, known-none, known_there, known_elsewhere, unmodified_over, cluster_within, differs, changed_outside, changed_there, Slot, MetadataCaches, slot_of, value_at, set_at, with_entries, cached_table, cached_tables, l2_tables, refblocks, ChangesTableApart, ChangesBlockApart}
use Rattle.qcow2_alloc.proofs.KeptTables.Loaded.{in_own_cluster, loaded_without}
use Rattle.qcow2_alloc.proofs.KeptTables.Listing.{loaded_distinct, free_elsewhere, free_of}
use Rattle.qcow2_alloc.proofs.KeptTables.Entries.{tables_at, away_from}
use Rattle.qcow2_alloc.proofs.KeptTables.Getting.{cluster_aligned}
use Rattle.qcow2_alloc.proofs.KeptTables.Changing.{loaded_apart, loaded_changed, Held, new_data}
use Rattle.qcow2_alloc.proofs.KeptTables.OneChanged.{here_of}
use Rattle.qcow2_alloc.proofs.KeptTables.Inserting.{if_some}
use Rattle.qcow2_alloc.proofs.KeptTables.Apart.{AreSpread, tables_past, tables_free, blocks_past, blocks_free}
use Rattle.qcow2_alloc.proofs.KeptTables.ApartOff.{spread}

-- ---- a held table is changed in its place, and is modified then
module _ {V : Type 0} (bits : ℕ) (bytes : V → List ℕ) (is_modified : V → Bool) (size : ℕ) (is_size : 2 ^ bits ≡ size) (es : List (ℕ × Slot V)) (distinct : IsDistinct eqb (keys_of es)) (others : List CachedTable) (all : List CachedTable → Bytes → Bytes)
    (past : (ts : List CachedTable) (b : Bytes) (o : ℕ) → IsFreeAt size others o → all ts b o ≡ known size ts b o)
    (free : (ts us : List CachedTable) (b c : Bytes) (o : ℕ) → IsFreeAt size ts o → IsFreeAt size us o → b o ≡ c o → all ts b o ≡ all us c o)
    (b : Bytes) (key : ℕ) (v w : V) (found : value_at (eqb key) es ≡ Some v) (marked : is_modified w ≡ true)
    (apart : (c : ℕ) → IsFreeOf size (cached_tables bits bytes is_modified es) c ⊎ IsFreeOf size others c) (apart' : (c : ℕ) → IsFreeOf size (cached_tables bits bytes is_modified (set_at (eqb key) es w)) c ⊎ IsFreeOf size others c) where
  abbrev tables : List (ℕ × Slot V) → List CachedTable
  tables = cached_tables bits bytes is_modified

  there : Held key es v
  there = new_data key es v found

  abbrev old_table : CachedTable
  old_table = cached_table bits bytes is_modified (key, slot_of v there.pins)

  abbrev new_table : CachedTable
  new_table = cached_table bits bytes is_modified (key, slot_of w there.pins)

  abbrev front : List CachedTable
  front = tables there.front

  abbrev back : List CachedTable
  back = tables there.back

  whole : tables es ≡ front ++ old_table ∷ back
  whole = ap tables there.is ∙ tables_at bits bytes is_modified there.front there.back (key, slot_of v there.pins)

  whole' : tables (set_at (eqb key) es w) ≡ front ++ new_table ∷ back
  whole' = ap tables (there.set w) ∙ tables_at bits bytes is_modified there.front there.back (key, slot_of w there.pins)

  some : 0 < size
  some = subst (λ n. 0 < n) is_size (pow_pos bits)

  place_is : old_table.place ≡ key * size
  place_is = ap (λ n. key * n) is_size

  same_place : new_table.place ≡ old_table.place
  same_place = refl

  is_marked : new_table.is_modified ≡ true
  is_marked = marked

  aligned : old_table.place % size ≡ 0
  aligned = subst (λ n. key * 2 ^ bits % n ≡ 0) is_size (cluster_aligned key bits)

  own_place : old_table.place / size ≡ key
  own_place = let more : key * size ≡ key * size + 0 = omega arith in ap (λ n. n / size) (place_is ∙ more) ∙ div-mul-add key size 0 some

  spread_at : AreSpread size (front ++ old_table ∷ back) b
  spread_at = subst (λ ts. AreSpread size ts b) whole (spread bits bytes is_modified size is_size es distinct b)

  apart_at : AreApart size (front ++ old_table ∷ back)
  apart_at = loaded_apart size (λ c. ⊥) b (front ++ old_table ∷ back) spread_at

  apart_at' : AreApart size (front ++ new_table ∷ back)
  apart_at' = loaded_apart size (λ c. ⊥) b (front ++ new_table ∷ back) (loaded_changed size (λ c. ⊥) b front back old_table new_table same_place is_marked spread_at)

  -- a modified one lies over all of the cluster
  covers : (t : CachedTable) → t.place ≡ old_table.place → t.is_modified ≡ true → (o : ℕ) → o / size ≡ key → overlays size t o ≡ true
  covers t place is o in_c = ap (λ m. m && is_within t.place size o) is ∙ ap (λ n. is_within n size o) place ∙ cluster_within old_table.place size o some aligned (in_c ∙ sym own_place)

  -- so none of the others does
  others_free : IsFreeOf size others key
  others_free o in_c = elim (apart' key) [
    | inr none ↦ none o in_c
    | inl none ↦ absurd (differs (overlays size new_table o) (covers new_table same_place is_marked o in_c) (free_of size front back new_table o (subst (λ ts. IsFreeAt size ts o) whole' (none o in_c))))
  ]

  in_key : (i : ℕ) → i < size → (old_table.place + i) / size ≡ key
  in_key i lt = in_own_cluster size old_table.place i aligned lt ∙ own_place

  alone : (o : ℕ) → o / size ≡ key → IsFreeAt size (front ++ back) o
  alone o in_c = free_elsewhere size (λ c. ⊥) b (front ++ back) old_table.place o aligned (away_from front back old_table (loaded_distinct size (λ c. ⊥) b (front ++ old_table ∷ back) spread_at)) (loaded_without size (λ c. ⊥) b front back old_table spread_at) (in_c ∙ sym own_place)

  pub was_known : (is_modified v ≡ true) ⊎ ((i : ℕ) → i < size → byte_at (bytes v) i ≡ b (key * size + i)) → (i : ℕ) → i < size → all (tables es) b (key * size + i) ≡ byte_at (bytes v) i
  was_known cases i lt =
      let here = in_key i lt in
      let back_to : old_table.place + i - old_table.place ≡ i = omega arith in
      let own : known size (front ++ old_table ∷ back) b (old_table.place + i) ≡ byte_at (bytes v) i = elim (cases_Bool (is_modified v)) [
        | inl is ↦ known_there size front back old_table b (old_table.place + i) apart_at (covers old_table refl is (old_table.place + i) here) ∙ ap old_table.bytes back_to
        | inr clean ↦ elim cases [
          | inl is ↦ absurd (differs (is_modified v) is clean)
          | inr current ↦
              known_elsewhere size front back old_table b (old_table.place + i) (unmodified_over size old_table (old_table.place + i) clean)
              ∙ known-none size (front ++ back) b (old_table.place + i) (alone (old_table.place + i) here)
              ∙ ap (λ n. b (n + i)) place_is ∙ sym (current i lt)
        ]
      ] in
      ap (λ n. all (tables es) b (n + i)) (sym place_is)
      ∙ past (tables es) b (old_table.place + i) (others_free (old_table.place + i) here)
      ∙ ap (λ ts. known size ts b (old_table.place + i)) whole ∙ own

  pub is_known : (i : ℕ) → i < size → all (tables (set_at (eqb key) es w)) b (key * size + i) ≡ byte_at (bytes w) i
  is_known i lt =
      ap (λ n. all (tables (set_at (eqb key) es w)) b (n + i)) (sym place_is)
      ∙ past (tables (set_at (eqb key) es w)) b (old_table.place + i) (others_free (old_table.place + i) (in_key i lt))
      ∙ ap (λ ts. known size ts b (old_table.place + i)) whole'
      ∙ ap (λ n. known size (front ++ new_table ∷ back) b (n + i)) (sym same_place)
      ∙ changed_there size front back old_table new_table b same_place aligned apart_at' is_marked i lt

  pub known_outside : IsSameOutside size key (all (tables es) b) (all (tables (set_at (eqb key) es w)) b)
  known_outside o other =
      let beside : IsFreeAt size others o → all (tables es) b o ≡ all (tables (set_at (eqb key) es w)) b o = λ none.
      past (tables es) b o none ∙ ap (λ ts. known size ts b o) whole ∙ changed_outside size front back old_table new_table b same_place aligned o (λ here. other (here ∙ own_place))
      ∙ sym (ap (λ ts. known size ts b o) whole') ∙ sym (past (tables (set_at (eqb key) es w)) b o none) in
      elim (apart (o / size)) [
        | inr none ↦ beside (none o refl)
        | inl none ↦ elim (apart' (o / size)) [
          | inr none' ↦ beside (none' o refl)
          | inl none' ↦ free (tables es) (tables (set_at (eqb key) es w)) b b o (none o refl) (none' o refl) refl
        ]
      ]

-- ---- in the caches
module _ {V : Type 0} (key : ℕ) (es : List (ℕ × Slot V)) (w : V) where
  -- of a value that is held, and the one in its place
  pub both_held : (Q : V → V → Type 0) → ((v : V) → value_at (eqb key) es ≡ Some v → Q v w) → IfSome (value_at (eqb key) es) (λ t. IfSome (value_at (eqb key) (set_at (eqb key) es w)) (Q t))
  both_held Q each = of (value_at (eqb key) es) refl
    where
      of : (o : Option V) → value_at (eqb key) es ≡ o → IfSome o (λ t. IfSome (value_at (eqb key) (set_at (eqb key) es w)) (Q t))
      of None is = tt
      of (Some v) is = if_some (Q v) (value_at (eqb key) (set_at (eqb key) es w)) w (here_of key es w (lookup (eqb key) es) refl v is) (each v is)

module _ {S : Type 0} (caches : MetadataCaches S) (key : ℕ) (recorded : Bool) (changes : ℕ) where
  pub table_changed_apart : (w : L2TableView) → IsDistinct eqb (keys_of caches.l2.entries) → ChangesTableApart caches (record caches { l2 = with_entries caches.l2 (set_at (eqb key) caches.l2.entries w); is_changed = recorded; changes = changes }) key
  table_changed_apart w distinct = both_held key caches.l2.entries w _ (λ v found marked h on_storage are are' current.
      let bits = caches.l2.backend.header.fields.cluster_bits in
      let all : List CachedTable → Bytes → Bytes = λ ts b. known_bytes (cluster_size h) ts (refblocks caches) b in
      let past = tables_past (cluster_size h) (refblocks caches) in
      let free = tables_free (cluster_size h) (refblocks caches) in
      record {
        before = was_known bits (λ (t : L2TableView). t.bytes) (λ t. t.is_modified) (cluster_size h) (ap (λ n. 2 ^ n) are.l2_bits) caches.l2.entries distinct (refblocks caches) all past free on_storage key v w found marked are.apart are'.apart current;
        after = is_known bits (λ (t : L2TableView). t.bytes) (λ t. t.is_modified) (cluster_size h) (ap (λ n. 2 ^ n) are.l2_bits) caches.l2.entries distinct (refblocks caches) all past free on_storage key v w found marked are.apart are'.apart;
        outside = known_outside bits (λ (t : L2TableView). t.bytes) (λ t. t.is_modified) (cluster_size h) (ap (λ n. 2 ^ n) are.l2_bits) caches.l2.entries distinct (refblocks caches) all past free on_storage key v w found marked are.apart are'.apart;
      })

  pub block_changed_apart : (w : RefBlockView) → IsDistinct eqb (keys_of caches.rb.entries) → ChangesBlockApart caches (record caches { rb = with_entries caches.rb (set_at (eqb key) caches.rb.entries w); is_changed = recorded; changes = changes }) key
  block_changed_apart w distinct = both_held key caches.rb.entries w _ (λ v found marked h on_storage are are' current.
      let bits = caches.rb.backend.header.fields.cluster_bits in
      let all : List CachedTable → Bytes → Bytes = λ ts b. known_bytes (cluster_size h) (l2_tables caches) ts b in
      let past = blocks_past (cluster_size h) (l2_tables caches) in
      let free = blocks_free (cluster_size h) (l2_tables caches) in
      let one : (c : ℕ) → IsFreeOf (cluster_size h) (refblocks caches) c ⊎ IsFreeOf (cluster_size h) (l2_tables caches) c = λ c. elim (are.apart c) [ inl none ↦ inr none | inr none ↦ inl none ] in
      let two : (c : ℕ) → IsFreeOf (cluster_size h) (cached_tables bits (λ (b : RefBlockView). b.bytes) (λ b. b.is_modified) (set_at (eqb key) caches.rb.entries w)) c ⊎ IsFreeOf (cluster_size h) (l2_tables caches) c = λ c. elim (are'.apart c) [ inl none ↦ inr none | inr none ↦ inl none ] in
      record {
        before = was_known bits (λ (b : RefBlockView). b.bytes) (λ b. b.is_modified) (cluster_size h) (ap (λ n. 2 ^ n) are.rb_bits) caches.rb.entries distinct (l2_tables caches) all past free on_storage key v w found marked one two current;
        after = is_known bits (λ (b : RefBlockView). b.bytes) (λ b. b.is_modified) (cluster_size h) (ap (λ n. 2 ^ n) are.rb_bits) caches.rb.entries distinct (l2_tables caches) all past free on_storage key v w found marked one two;
        outside = known_outside bits (λ (b : RefBlockView). b.bytes) (λ b. b.is_modified) (cluster_size h) (ap (λ n. 2 ^ n) are.rb_bits) caches.rb.entries distinct (l2_tables caches) all past free on_storage key v w found marked one two;
      })
