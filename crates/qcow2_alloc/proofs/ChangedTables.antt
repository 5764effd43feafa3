-- What changing a cached table in place means for the caches.
use Rattle.std.proofs.Common.{◌≡◌, ◌<◌, ℕ, true, List, Option, Some, None, eqb, refl, sym, ap, ◌∙◌, subst, IfSome, IsSome}
use Rattle.qcow2_alloc.proofs.Common.{MatchOption, none-some, IsDistinct, keys_of, Bytes, count, is_copied, l1_entry, old_data_run, L2TableView, cover_at, entries_of, RefBlockView, ChangesCount, count_at, counts_of, ChangesEntry, HeaderFields, Pending, Slot, MetadataCaches, ChangesTableApart, ChangesBlockApart, Cache, with_entries, set_at, value_at, HeldStep, IsOneChange, known_of, CacheInvariant, IsCountedAt, IsEntryAt, MadeEntry, ChangesValue, changed_block, changed_table, ChangesOrStays, SetsCount, SetsEntry, SetsTableCount, SetsTableEntry}
use Rattle.qcow2_alloc.proofs.CachePins.{marks_blocks, marks_noted, marks_tables, set_keeps_pins}
use Rattle.qcow2_alloc.proofs.KeptTables.ApartChanges.{block_changed_apart, table_changed_apart}
use Rattle.qcow2_alloc.proofs.KeptTables.BehindHeader.{noted_behind, set_behind, set_table_behind}
use Rattle.qcow2_alloc.proofs.KeptTables.Changing.{set_same}
use Rattle.qcow2_alloc.proofs.KeptTables.Counting.{count_is, index_fits as block_index_fits}
use Rattle.qcow2_alloc.proofs.KeptTables.Mapping.{bits_is, entry_made, index_fits}
use Rattle.qcow2_alloc.proofs.KeptTables.OneChanged.{one_changed}

-- ---- what a change of a value leaves

-- a value that has P has Q
pub if_some_then : {V : Type 0} (P Q : V → Type 0) (o : Option V) → IfSome o P → ((v : V) → P v → Q v) → IfSome o Q
if_some_then P Q None h then = tt
if_some_then P Q (Some v) h then = then v h

module _ {A B V : Type 0} (Refuses : V → Type 0) (Changes : V → A → V → Type 0) (k : ℕ) (old new : Cache B ℕ V) (r : Option A) where
  abbrev pub GoesSo : Option V → Type 0
  GoesSo o = MatchOption o ((r ≡ None) × (new ≡ old)) (λ v. ChangesValue eqb (ChangesOrStays Refuses Changes) k v old r new)

  -- another value is there, as the change makes it
  pub record IsChangedBy (a : A) : Type 0 where
    pub before : V
    pub found : value_at (eqb k) old.entries ≡ Some before
    pub after : V
    pub by : Changes before a after
    pub is : new ≡ with_entries old (set_at (eqb k) old.entries after)

  pub changed_by : GoesSo (value_at (eqb k) old.entries) → (a : A) → r ≡ Some a → IsChangedBy a
  changed_by goes a is = of (value_at (eqb k) old.entries) refl goes
    where
      of : (o : Option V) → value_at (eqb k) old.entries ≡ o → GoesSo o → IsChangedBy a
      of None found g = absurd (none-some a (sym g.0 ∙ is))
      of (Some v) found g =
          let by : Changes v a g.0 = subst (λ x. ChangesOrStays Refuses Changes v x g.0) is g.1 in
          record { before = v; found = found; after = g.0; by = by; is = g.2 }

  -- where the value stays, nothing changes
  pub unchanged_by : {a : A} (ch : IsChangedBy a) → ch.after ≡ ch.before → new ≡ old
  unchanged_by ch same = ch.is ∙ ap (λ v. with_entries old (set_at (eqb k) old.entries v)) same ∙ ap (with_entries old) (set_same k old.entries ch.before ch.found)

  -- nothing changes, and a value that is there refuses the change
  pub stays : GoesSo (value_at (eqb k) old.entries) → r ≡ None → (new ≡ old) × IfSome (value_at (eqb k) old.entries) Refuses
  stays goes none = of (value_at (eqb k) old.entries) refl goes
    where
      of : (o : Option V) → value_at (eqb k) old.entries ≡ o → GoesSo o → (new ≡ old) × IfSome o Refuses
      of None found g = (g.1, tt)
      of (Some v) found g =
          let left : Refuses v × (g.0 ≡ v) = subst (λ x. ChangesOrStays Refuses Changes v x g.0) none g.1 in
          (g.2 ∙ ap (λ w. with_entries old (set_at (eqb k) old.entries w)) left.1 ∙ ap (with_entries old) (set_same k old.entries v found), left.0)

-- ---- nothing changes

module _ {S : Type 0} (c : MetadataCaches S) (k : ℕ) where
  pub table_stays_apart : IsDistinct eqb (keys_of c.l2.entries) → ChangesTableApart c c k
  table_stays_apart distinct = of (value_at (eqb k) c.l2.entries) refl
    where
      of : (o : Option L2TableView) → value_at (eqb k) c.l2.entries ≡ o → ChangesTableApart c c k
      of None found = rw found tt
      of (Some t) found = subst (λ (es : List (ℕ × Slot L2TableView)). ChangesTableApart c (record c { l2 = with_entries c.l2 es }) k) (set_same k c.l2.entries t found) (table_changed_apart c k c.is_changed c.changes t distinct)

  pub block_stays_apart : IsDistinct eqb (keys_of c.rb.entries) → ChangesBlockApart c c k
  block_stays_apart distinct = of (value_at (eqb k) c.rb.entries) refl
    where
      of : (o : Option RefBlockView) → value_at (eqb k) c.rb.entries ≡ o → ChangesBlockApart c c k
      of None found = rw found tt
      of (Some b) found = subst (λ (es : List (ℕ × Slot RefBlockView)). ChangesBlockApart c (record c { rb = with_entries c.rb es }) k) (set_same k c.rb.entries b found) (block_changed_apart c k c.is_changed c.changes b distinct)

  -- a table that is held has each entry of the image that lies in it, so none refuses a change of it
  pub entry_there : (Refuses : L2TableView → Type 0) (index : ℕ) (h : HeaderFields) (p : Pending) (on_storage : Bytes) (i : ℕ) → CacheInvariant h p c on_storage → IsEntryAt h (known_of h c on_storage) i k index
      → IsSome (value_at (eqb k) c.l2.entries) → IfSome (value_at (eqb k) c.l2.entries) Refuses → ((t : L2TableView) → index < entries_of t → t.cluster_bits ≡ h.cluster_bits → Refuses t → ⊥) → ⊥
  entry_there Refuses index h p on_storage i sound at there refused never = of (value_at (eqb k) c.l2.entries) refl there refused
    where
      of : (o : Option L2TableView) → value_at (eqb k) c.l2.entries ≡ o → IsSome o → IfSome o Refuses → ⊥
      of None found is r = cc
      of (Some t) found is r = never t (index_fits h p on_storage c sound k index t found i at) (bits_is h p on_storage c sound k index t found i at) r

  -- a refblock that is held has the refcount of each cluster of its range
  pub count_there : (Refuses : RefBlockView → Type 0) (index : ℕ) (h : HeaderFields) (p : Pending) (on_storage : Bytes) (n : ℕ) → CacheInvariant h p c on_storage → IsCountedAt h (known_of h c on_storage) n k index
      → IsSome (value_at (eqb k) c.rb.entries) → IfSome (value_at (eqb k) c.rb.entries) Refuses
      → ((b : RefBlockView) → index < counts_of b → count h (known_of h c on_storage) n ≡ count_at b index → Refuses b → ⊥) → ⊥
  count_there Refuses index h p on_storage n sound at there refused never = of (value_at (eqb k) c.rb.entries) refl there refused
    where
      of : (o : Option RefBlockView) → value_at (eqb k) c.rb.entries ≡ o → IsSome o → IfSome o Refuses → ⊥
      of None found is r = cc
      of (Some b) found is r = never b (block_index_fits h p on_storage c sound k index b found n at) (count_is h p on_storage c sound k index b found n at) r

-- ---- an entry of an L2 table becomes another one

module _ {S : Type 0} (c : MetadataCaches S) (k : ℕ) (w : L2TableView) (n : ℕ) (one : IsOneChange true c.changes n) where
  abbrev with_table : MetadataCaches S
  with_table = record c { l2 = with_entries c.l2 (set_at (eqb k) c.l2.entries w) }

  abbrev pub entry_after : MetadataCaches S
  entry_after = record with_table { is_changed = true; changes = n }

  pub entry_step : HeldStep c entry_after
  entry_step = record {
    marks = marks_noted c with_table n one (marks_tables c (with_entries c.l2 (set_at (eqb k) c.l2.entries w)) refl (set_keeps_pins k c.l2.entries w));
    order = refl;
    header_cluster = noted_behind c with_table n (set_table_behind c k w);
  }

  pub entry_apart : IsDistinct eqb (keys_of c.l2.entries) → ChangesTableApart c entry_after k
  entry_apart distinct = table_changed_apart c k true n w distinct

  module _ {t : L2TableView} {index entry : ℕ} {answer : Option (ℕ × ℕ)} (found : value_at (eqb k) c.l2.entries ≡ Some t) (sets : SetsTableEntry t index entry answer w) where
    pub entry_set : SetsEntry c entry_after k index t entry answer
    entry_set = record {
      change = one_changed k c.l2.entries w t found (changed_table t) (λ bytes. ChangesEntry t.bytes bytes index entry × (answer ≡ old_data_run t.cluster_bits (cover_at t index) (cover_at (changed_table t bytes) index))) w.bytes sets.same
          (sets.changed, sets.old_data ∙ ap (λ (x : L2TableView). old_data_run t.cluster_bits (cover_at t index) (cover_at x index)) sets.same);
      blocks = refl;
      recorded = one;
    }

    pub entry_made_so : (h : HeaderFields) (p : Pending) (on_storage : Bytes) (i : ℕ) → CacheInvariant h p c on_storage → IsEntryAt h (known_of h c on_storage) i k index → is_copied (l1_entry h on_storage i) ≡ true → (entry' : ℕ) → entry ≡ entry'
        → MadeEntry h c entry_after on_storage i index entry' answer
    entry_made_so h p on_storage i sound at own entry' is =
        let same = sets.same in
        entry_made h p on_storage c sound k index t found i at own w (ap (λ (x : L2TableView). x.is_modified) same) (ap (λ (x : L2TableView). x.cluster_bits) same) (ap (λ (x : L2TableView). x.has_zero_bit) same) (ap (λ (x : L2TableView). x.data_is_external) same)
        entry_after refl refl refl entry' answer (subst (λ e. ChangesEntry t.bytes w.bytes index e) is sets.changed) sets.old_data

-- ---- a count of a refblock becomes another one

module _ {S : Type 0} (c : MetadataCaches S) (k : ℕ) (w : RefBlockView) (n : ℕ) (one : IsOneChange true c.changes n) where
  abbrev with_block : MetadataCaches S
  with_block = record c { rb = with_entries c.rb (set_at (eqb k) c.rb.entries w) }

  abbrev pub count_after : MetadataCaches S
  count_after = record with_block { is_changed = true; changes = n }

  pub count_step : HeldStep c count_after
  count_step = record {
    marks = marks_noted c with_block n one (marks_blocks c (with_entries c.rb (set_at (eqb k) c.rb.entries w)) refl (set_keeps_pins k c.rb.entries w));
    order = refl;
    header_cluster = noted_behind c with_block n (set_behind c k w);
  }

  pub count_apart : IsDistinct eqb (keys_of c.rb.entries) → ChangesBlockApart c count_after k
  count_apart distinct = block_changed_apart c k true n w distinct

  module _ {b : RefBlockView} {index m : ℕ} (found : value_at (eqb k) c.rb.entries ≡ Some b) (sets : SetsTableCount b index m w) where
    pub count_set : SetsCount c count_after k index b m
    count_set = record { count = one_changed k c.rb.entries w b found (changed_block b) (λ bytes. ChangesCount b.refcount_order b.bytes bytes index m) w.bytes sets.same sets.counted; tables = refl }
