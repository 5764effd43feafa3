-- If no table of a cache is modified, none is after a flush, or after an unmodified one was inserted.
use Rattle.std.proofs.Common.{◌≡◌, ◌∷◌, inl, inr, ℕ, Bool, true, false, cond, eqb, List, [], Option, Some, None, Result, Ok, IsSome, refl, sym, subst, IfSome}
use Rattle.qcow2_alloc.proofs.Common.{IsNone, option_or, lookup, lookup_entry, remove_entry, promoted, StorageView, MetadataError, L2TableView, RefBlockView, CachedTable, overlays, Direction, Neither, L2DependsOnRb, RbDependsOnL2, IsFreeAt, AreClean, BlocksMayGo, TablesMayGo, unmodified_over, Slot, CacheError, L2CacheBackend, RefBlockCacheBackend, MetadataCaches, ImageStorage, Cache, is_pinned, oldest_free, slot_of, Steps, Unit₀, GetsNew, InsertsNew, Replaces, Flushes, storage_of, l2_steps, cached_table, cached_tables, l2_tables, refblocks, NextIsClean}
use Rattle.qcow2_alloc.proofs.KeptTables.Fetching.{none_or_some}
use Rattle.qcow2_alloc.proofs.KeptTables.Inserting.{found_or_not, lookup_none}
use Rattle.qcow2_alloc.proofs.CachedEntries.Each.{IsOfEach, each_flushed, each_got, each_inserted, each_promoted, each_replaced}

-- wherever the clusters begin
pub clean_as : {V : Type 0} (bits bits' : ℕ) (bytes : V → List ℕ) (is_modified : V → Bool) (es : List (ℕ × Slot V)) → AreClean (cached_tables bits bytes is_modified es) → AreClean (cached_tables bits' bytes is_modified es)
clean_as bits bits' bytes is_modified [] all = tt
clean_as bits bits' bytes is_modified (e ∷ es) all = (all.0, clean_as bits bits' bytes is_modified es all.1)

module _ {S V E : Type 0} (steps : Steps S ℕ V E) (bits : ℕ) (bytes : V → List ℕ) (is_modified : V → Bool) where
  abbrev Clean : List (ℕ × Slot V) → Type 0
  Clean es = AreClean (cached_tables bits bytes is_modified es)

  clean_each : IsOfEach (λ k v. is_modified v ≡ false) Clean
  clean_each = record { none = tt; more = λ e es clean all. (clean, all); first = λ e es all. all.0; rest = λ e es all. all.1 }

  module _ (size : ℕ) (may_flush : Bool) (key : ℕ) (s t : S) (es fs : List (ℕ × Slot V)) (v : V) (left : Option V) (clean : is_modified v ≡ false) (all : Clean es) where
    pub put_clean : (answer : Result Bool (CacheError ℕ E)) (value : Option V) → value ≡ Some v
        → IfSome (lookup_entry (eqb key) es) (λ e. IfSome value (λ v. Replaces steps key e (remove_entry (eqb key) es) v may_flush s es answer t fs left))
        → (IsNone (lookup (eqb key) es) → IfSome value (λ v. InsertsNew steps eqb size may_flush key v s es answer t fs left)) → Clean fs
    put_clean answer value is there missing =
        found_or_not (lookup_entry (eqb key) es)
        (λ none. each_inserted clean_each steps may_flush key s t es fs answer all size v left (λ _. clean) (rw is at (missing (rw (lookup_none (eqb key) es none) refl))))
        (λ e some. each_replaced clean_each steps may_flush key s t es fs answer all v e left some (λ _. clean) (rw is at (rw some at there)))

  -- ---- a load leaves none modified that wasn't
  module _ (loads : (s t : S) (k : ℕ) (v : V) → steps.loaded s k v t → is_modified v ≡ false) (size : ℕ) (may_flush : Bool) (key : ℕ) (s t : S) (es fs : List (ℕ × Slot V)) (all : Clean es) where
    pub get_clean : (answer : Result Bool (CacheError ℕ E)) → (IsSome (lookup (eqb key) es) → (answer ≡ Ok true) × (fs ≡ promoted (eqb key) es) × (t ≡ s))
        → (IsNone (lookup (eqb key) es) → GetsNew steps eqb size may_flush key s es answer t fs) → Clean fs
    get_clean answer hit miss = elim (none_or_some (lookup (eqb key) es)) [
      | inl there ↦ subst Clean (sym (hit there).1) (each_promoted clean_each (eqb key) es all)
      | inr missing ↦ each_got clean_each steps may_flush key s t es fs answer all size (λ q v. loads q t key v) (miss missing)
    ]

  -- ---- a flush leaves none modified that wasn't
  module _ (cleans : (s t : S) (k : ℕ) (v w : V) → steps.flushed s k v w t → is_modified w ≡ false) where
    pub flush_clean : (s t : S) (es fs : List (ℕ × Slot V)) (r : Result Unit₀ (CacheError ℕ E)) → Flushes steps s es r t fs → Clean es → Clean fs
    flush_clean s t es fs r h all = each_flushed clean_each steps (λ s t k v w flushed _. cleans s t k v w flushed) s t es fs r h all

  -- nor does one come to lie where none did
  module _ (cleans : (s t : S) (k : ℕ) (v w : V) → steps.flushed s k v w t → is_modified w ≡ false) (size o : ℕ) where
    abbrev Free : List (ℕ × Slot V) → Type 0
    Free es = IsFreeAt size (cached_tables bits bytes is_modified es) o

    free_each : IsOfEach (λ k v. overlays size (cached_table bits bytes is_modified (k, slot_of v 0)) o ≡ false) Free
    free_each = record { none = tt; more = λ e es free all. (free, all); first = λ e es all. all.0; rest = λ e es all. all.1 }

    pub flush_free : (s t : S) (es fs : List (ℕ × Slot V)) (r : Result Unit₀ (CacheError ℕ E)) → Flushes steps s es r t fs → Free es → Free fs
    flush_free s t es fs r h free =
        each_flushed free_each steps (λ s t k v w flushed _. unmodified_over size (cached_table bits bytes is_modified (k, slot_of w 0)) o (cleans s t k v w flushed)) s t es fs r h free

-- what may be written stays so where no table is modified that wasn't
pub blocks_go : (d : Direction) (ts ts' : List CachedTable) → (AreClean ts → AreClean ts') → BlocksMayGo d ts → BlocksMayGo d ts'
blocks_go Neither ts ts' clean may = tt
blocks_go L2DependsOnRb ts ts' clean may = tt
blocks_go RbDependsOnL2 ts ts' clean may = clean may

pub tables_go : (d : Direction) (ts ts' : List CachedTable) → (AreClean ts → AreClean ts') → TablesMayGo d ts → TablesMayGo d ts'
tables_go Neither ts ts' clean may = tt
tables_go L2DependsOnRb ts ts' clean may = clean may
tables_go RbDependsOnL2 ts ts' clean may = tt

-- an L2 table that isn't modified is put in
module _ {S : Type 0} (view : S → StorageView) (old new : ImageStorage S) (caches : MetadataCaches S) (may_flush : Bool) (key : ℕ) (l2 : Cache (L2CacheBackend S) ℕ L2TableView)
    (v : L2TableView) (value left : Option L2TableView) (is : value ≡ Some v) (answer : Result Bool (CacheError ℕ MetadataError))
    (there : IfSome (lookup_entry (eqb key) caches.l2.entries) (λ e. IfSome value (λ v.
    Replaces (l2_steps (λ s. view (storage_of s)) caches.l2.backend.header.fields) key e (remove_entry (eqb key) caches.l2.entries) v may_flush old caches.l2.entries answer new l2.entries left)))
    (missing : IsNone (lookup (eqb key) caches.l2.entries)
    → IfSome value (λ v. InsertsNew (l2_steps (λ s. view (storage_of s)) caches.l2.backend.header.fields) eqb caches.l2.size may_flush key v old caches.l2.entries answer new l2.entries left)) where
  pub table_put_clean : AreClean (l2_tables caches) → v.is_modified ≡ false → AreClean (l2_tables (record caches { l2 = l2 }))
  table_put_clean all clean =
      put_clean (l2_steps (λ s. view (storage_of s)) caches.l2.backend.header.fields) l2.backend.header.fields.cluster_bits (λ (t : L2TableView). t.bytes) (λ t. t.is_modified) caches.l2.size may_flush key old new caches.l2.entries l2.entries
      v left clean (clean_as _ _ (λ (t : L2TableView). t.bytes) (λ t. t.is_modified) caches.l2.entries all) answer value is there missing

-- the same L2 tables beside other refblocks
pub tables_as : {S : Type 0} (a b : MetadataCaches S) → b.l2 ≡ a.l2 → AreClean (l2_tables a) → AreClean (l2_tables b)
tables_as {S} a b same clean =
    subst (λ (l2 : Cache (L2CacheBackend S) ℕ L2TableView). AreClean (cached_tables l2.backend.header.fields.cluster_bits (λ (t : L2TableView). t.bytes) (λ t. t.is_modified) l2.entries)) (sym same) clean

-- the same refblocks beside other L2 tables
pub blocks_as : {S : Type 0} (a b : MetadataCaches S) → b.rb ≡ a.rb → AreClean (refblocks a) → AreClean (refblocks b)
blocks_as {S} a b same clean =
    subst (λ (rb : Cache (RefBlockCacheBackend S) ℕ RefBlockView). AreClean (cached_tables rb.backend.header.fields.cluster_bits (λ (b : RefBlockView). b.bytes) (λ b. b.is_modified) rb.entries)) (sym same) clean

-- and the entry that goes next isn't
either_clean : {V : Type 0} (is_modified : V → Bool) (a b : Option (ℕ × Slot V)) → IfSome a (λ e. is_modified e.1.value ≡ false) → IfSome b (λ e. is_modified e.1.value ≡ false) → IfSome (option_or a b) (λ e. is_modified e.1.value ≡ false)
either_clean is_modified None b first then = then
either_clean is_modified (Some e) b first then = first

pub clean_next : {V : Type 0} (bits : ℕ) (bytes : V → List ℕ) (is_modified : V → Bool) (es : List (ℕ × Slot V)) → AreClean (cached_tables bits bytes is_modified es) → NextIsClean is_modified es
clean_next bits bytes is_modified [] all = tt
clean_next bits bytes is_modified (e ∷ es) all =
    either_clean is_modified (oldest_free es) (cond (is_pinned e.1) None (Some e)) (clean_next bits bytes is_modified es all.1)
    (elim (is_pinned e.1) as (λ b. IfSome (cond b None (Some e)) (λ (x : ℕ × Slot _). is_modified x.1.value ≡ false)) [ true ↦ tt | false ↦ all.0 ])
