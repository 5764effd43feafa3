-- Why calls of the caches are refused, whatever they hold; and on sound caches.
use Rattle.std.proofs.Common.{◌≡◌, ◌⊎◌, ◌≤◌, ◌^◌, arith, inl, inr, ℕ, Bool, true, false, eqb, List, [], length, Option, Some, Result, Ok, Err, IfErr, IsErr, IsErrAnd, IsSome, refl, sym, ◌∙◌, subst, IfSome}
use Rattle.qcow2_alloc.proofs.Common.{IsNone, lookup, lookup_entry, remove_entry, promoted, StorageView, Bytes, MetadataError, HeaderFields, L2TableView, RefBlockView, HasPlace, IsOfStorageOrMemory, Pending, AreNamedBlocks, Slot, CacheError, InUse, StillInUse, Memory, Backend, L2CacheBackend, RefBlockCacheBackend, MetadataCaches, with_entries, ImageError, ImageStorage, Cache, pinned, Steps, Unit₀, Flushes, GetsNew, InsertsNew, Replaces, CachesHaveRoom, AreAllPinned, IsInUseOrFault, of_metadata, of_cache, IsFault, IsFaultOr, TablesFit, BlocksFit, AllFit, AreBlocksPinned, MayFailInsertingL2, MayFailInsertingRb, MayFailLoadingL2, MayFailLoadingRb, IsOfTablesIf, IsOfTable, storage_of, l2_steps, rb_steps, cleared_l2, cleared_rb, IsTableOf, IsBlockOf, HavePlaces, CacheInvariant, err_of, FailsFor, IsFreeOf, l2_tables, refblocks}
use Rattle.image_access.specs.declared.error.StorageError.TheVariants as S
use Rattle.qcow2_metadata.specs.declared.error.MetadataError.TheVariants as M
use Rattle.qcow2_alloc.specs.declared.error.ImageError.TheVariants as I
use Rattle.qcow2_alloc.proofs.CachedEntries.Pins.{all_pinned}
use Rattle.qcow2_alloc.proofs.KeptTables.Flushing.{table_still, block_still}
use Rattle.qcow2_alloc.proofs.KeptTables.Inserting.{found_or_not, lookup_none}
use Rattle.qcow2_alloc.proofs.KeptTables.Fetching.{none_or_some}
use Rattle.qcow2_alloc.proofs.KeptTables.BlocksNamed.{table_place}
use Rattle.qcow2_alloc.proofs.KeptTables.Places.{places_stand, named_have_places}
use Rattle.qcow2_alloc.proofs.KeptTables.Standing.{IsCause, IsFull, standing_of, flush_cause, get_cause, insert_cause, replace_cause}

-- ---- what a lower layer's error becomes

of_table : (Fit : Type 0) (e : MetadataError) → IsOfTable e → (Fit → IsOfStorageOrMemory e) → IsFaultOr (¬ Fit) (of_metadata e)
of_table Fit (M.Storage S.Fault) among cause = inl (inl refl)
of_table Fit (M.Storage S.Memory) among cause = inl (inr refl)
of_table Fit M.Memory among cause = inl (inr refl)
of_table Fit M.Version among cause = absurd among
of_table Fit M.Unaligned among cause = absurd among
of_table Fit M.Limit among cause = inr (refl, cause)
of_table Fit M.Format among cause = absurd among

refused_by : {A E : Type 0} (P : E → Type 0) (r : Result A E) (e : E) → r ≡ Err e → IfErr r P → P e
refused_by P r e is all = rw is at all

-- a call of a cache is refused for such a cause, and a flush never because all is in use
cause_of : {A : Type 0} (Fit P Q : Type 0) (r : Result A (CacheError ℕ MetadataError)) (e : CacheError ℕ MetadataError) → r ≡ Err e → (P → Q) → IfErr r (IsCause Fit P) → ((of_cache e ≡ I.InUse) × Q) ⊎ IsFaultOr (¬ Fit) (of_cache e)
cause_of Fit P Q r e is more all = by e (refused_by (IsCause Fit P) r e is all) where
  by : (e : CacheError ℕ MetadataError) → IsCause Fit P e → ((of_cache e ≡ I.InUse) × Q) ⊎ IsFaultOr (¬ Fit) (of_cache e)
  by InUse full = inl (refl, more full)
  by (StillInUse _) none = absurd none
  by Memory is = inr (inl (inr refl))
  by (Backend e) is = inr (of_table Fit e is.0 is.1)

never_in_use : {P Q : Type 0} → (P × ⊥) ⊎ Q → Q
never_in_use (inl none) = absurd none.1
never_in_use (inr is) = is

some_refused : {A E : Type 0} (r : Result A E) (x : A) (P : E → Type 0) → r ≡ Ok x → IfErr r P
some_refused r x P is = rw is tt

-- what a `?` hands on
pub given_err : {A E : Type 0} (r : Result A E) (e : E) (P : E → Type 0) → IsErr r × IsErrAnd r (λ x. x ≡ e) → P e → IfErr r P
given_err (Ok x) e P is holds = tt
given_err (Err x) e P is holds = subst P (sym is.1) holds

-- ---- with less in the way, and where the same is cached
pub fits_less : (P Q : Type 0) (e : ImageError) → (Q → P) → IsFaultOr (¬ P) e → IsFaultOr (¬ Q) e
fits_less P Q e less (inl fault) = inl fault
fits_less P Q e less (inr limit) = inr (limit.0, λ fit. limit.1 (less fit))

pub in_use_less : {Full P Q : Type 0} (e : ImageError) → (Q → P) → ((e ≡ I.InUse) × Full) ⊎ IsFaultOr (¬ P) e → ((e ≡ I.InUse) × Full) ⊎ IsFaultOr (¬ Q) e
in_use_less e less (inl used) = inl used
in_use_less {Full} {P} {Q} e less (inr is) = inr (fits_less P Q e less is)

pub tables_fit_as : {S : Type 0} (a b : MetadataCaches S) → b.l2 ≡ a.l2 → TablesFit a → TablesFit b
tables_fit_as {S} a b same fit = subst (λ (l2 : Cache (L2CacheBackend S) ℕ L2TableView). TablesFit (record a { l2 = l2 })) (sym same) fit

pub blocks_fit_as : {S : Type 0} (a b : MetadataCaches S) → b.rb ≡ a.rb → BlocksFit a → BlocksFit b
blocks_fit_as {S} a b same fit = subst (λ (rb : Cache (RefBlockCacheBackend S) ℕ RefBlockView). BlocksFit (record a { rb = rb })) (sym same) fit

-- why a table is not loaded or inserted, by the tables of its kind alone
abbrev pub TableLoads : {S : Type 0} → MetadataCaches S → Cache (L2CacheBackend S) ℕ L2TableView → ℕ → ImageError → Type 0
TableLoads caches l2 key e = ((e ≡ I.InUse) × (AreAllPinned caches × AreAllPinned (record caches { l2 = l2 }))) ⊎ IsFaultOr (¬ (TablesFit caches × HasPlace caches.l2.backend.header.fields.cluster_bits key)) e

abbrev pub TablePuts : {S : Type 0} → MetadataCaches S → ImageError → Type 0
TablePuts caches e = ((e ≡ I.InUse) × AreAllPinned caches) ⊎ IsFaultOr (¬ TablesFit caches) e

abbrev pub BlockLoads : {S : Type 0} → MetadataCaches S → ℕ → ImageError → Type 0
BlockLoads caches key e = ((e ≡ I.InUse) × AreBlocksPinned caches) ⊎ IsFaultOr (¬ (BlocksFit caches × HasPlace caches.rb.backend.header.fields.cluster_bits key)) e

abbrev pub BlockPuts : {S : Type 0} → MetadataCaches S → ImageError → Type 0
BlockPuts caches e = ((e ≡ I.InUse) × AreBlocksPinned caches) ⊎ IsFaultOr (¬ BlocksFit caches) e

-- so it is of other caches with the same tables of that kind
module _ {S : Type 0} (a b : MetadataCaches S) (e : ImageError) where
  pub table_load_as : (l2 : Cache (L2CacheBackend S) ℕ L2TableView) (key : ℕ) → b.l2 ≡ a.l2 → TableLoads b l2 key e → MayFailLoadingL2 a (record b { l2 = l2 }) key e
  table_load_as l2 key same is = in_use_less e (λ fit. (fit.0.0, fit.1)) (subst (λ (x : Cache (L2CacheBackend S) ℕ L2TableView). TableLoads (record a { l2 = x }) l2 key e) same is)

  pub table_put_as : b.l2 ≡ a.l2 → TablePuts b e → MayFailInsertingL2 a e
  table_put_as same is = in_use_less e (λ fit. fit.0) (subst (λ (l2 : Cache (L2CacheBackend S) ℕ L2TableView). TablePuts (record a { l2 = l2 }) e) same is)

  pub block_load_as : (key : ℕ) → b.rb ≡ a.rb → BlockLoads b key e → MayFailLoadingRb a key e
  block_load_as key same is = in_use_less e (λ fit. (fit.0.1, fit.1)) (subst (λ (rb : Cache (RefBlockCacheBackend S) ℕ RefBlockView). BlockLoads (record a { rb = rb }) key e) same is)

  pub block_put_as : b.rb ≡ a.rb → BlockPuts b e → MayFailInsertingRb a e
  block_put_as same is = in_use_less e (λ fit. fit.1) (subst (λ (rb : Cache (RefBlockCacheBackend S) ℕ RefBlockView). BlockPuts (record a { rb = rb }) e) same is)

-- ---- a call that is not done leaves the entries as they are
module _ {S V E : Type 0} (steps : Steps S ℕ V E) (size : ℕ) (may_flush : Bool) (key : ℕ) (s t : S) (es fs : List (ℕ × Slot V)) (answer : Result Bool (CacheError ℕ E)) (is : answer ≡ Ok false) where
  pub not_fetched : (IsSome (lookup (eqb key) es) → (answer ≡ Ok true) × (fs ≡ promoted (eqb key) es) × (t ≡ s))
      → (IsNone (lookup (eqb key) es) → GetsNew steps eqb size may_flush key s es answer t fs) → fs ≡ es
  not_fetched hit miss = elim (none_or_some (lookup (eqb key) es)) [
    | inl there ↦ absurd (let e = sym is ∙ (hit there).0 in cc)
    | inr missing ↦ (rw is at (miss missing)).3
  ]

  pub not_put : (v : V) (value left : Option V) → value ≡ Some v → IfSome (lookup_entry (eqb key) es) (λ e. IfSome value (λ v. Replaces steps key e (remove_entry (eqb key) es) v may_flush s es answer t fs left))
      → (IsNone (lookup (eqb key) es) → IfSome value (λ v. InsertsNew steps eqb size may_flush key v s es answer t fs left)) → fs ≡ es
  not_put v value left is_value there missing =
      found_or_not (lookup_entry (eqb key) es)
      (λ none. (rw is at (rw is_value at (missing (rw (lookup_none (eqb key) es none) refl)))).0.3)
      (λ x some. (rw is at (rw is_value at (rw some at there))).2)

module _ {S : Type 0} (view : S → StorageView) (old new : ImageStorage S) (caches : MetadataCaches S) where
  abbrev seen : ImageStorage S → StorageView
  seen s = view (storage_of s)

  is_all_pinned : IsFull caches.l2.size caches.l2.entries → AreAllPinned caches
  is_all_pinned full = (full.0, all_pinned caches.l2.entries full.1)

  are_blocks_pinned : IsFull caches.rb.size caches.rb.entries → AreBlocksPinned caches
  are_blocks_pinned full = (full.0, all_pinned caches.rb.entries full.1)

  -- the entries are the same
  still_pinned : (l2 : Cache (L2CacheBackend S) ℕ L2TableView) → l2 ≡ with_entries caches.l2 l2.entries → l2.entries ≡ caches.l2.entries → AreAllPinned caches → AreAllPinned (record caches { l2 = l2 })
  still_pinned l2 others same full =
      subst (λ (x : Cache (L2CacheBackend S) ℕ L2TableView). (x.size ≤ length x.entries) × (pinned x.entries ≡ x.entries)) (sym others)
      (subst (λ es. (caches.l2.size ≤ length es) × (pinned es ≡ es)) (sym same) full)

  -- ---- a flush
  pub tables_flush_refused : (l2 : Cache (L2CacheBackend S) ℕ L2TableView) (answer : Result Unit₀ (CacheError ℕ MetadataError)) → Flushes (l2_steps seen caches.l2.backend.header.fields) old caches.l2.entries answer new l2.entries
      → (e : CacheError ℕ MetadataError) → answer ≡ Err e → IsFaultOr (¬ TablesFit caches) (of_cache e)
  tables_flush_refused l2 answer flushes e is =
      never_in_use (cause_of (TablesFit caches) ⊥ ⊥ answer e is (λ none. none)
      (flush_cause seen caches.l2.backend.header.fields.cluster_bits (λ (t : L2TableView). t.bytes) (λ t. t.is_modified) cleared_l2 (IsTableOf caches.l2.backend.header.fields) (λ v. refl) (table_still caches.l2.backend.header.fields) (HasPlace caches.l2.backend.header.fields.cluster_bits)
      (λ k here. here) old new caches.l2.entries l2.entries answer flushes))

  pub blocks_flush_refused : (rb : Cache (RefBlockCacheBackend S) ℕ RefBlockView) (answer : Result Unit₀ (CacheError ℕ MetadataError))
      → Flushes (rb_steps seen caches.rb.backend.header.fields) old caches.rb.entries answer new rb.entries → (e : CacheError ℕ MetadataError) → answer ≡ Err e → IsFaultOr (¬ BlocksFit caches) (of_cache e)
  blocks_flush_refused rb answer flushes e is =
      never_in_use (cause_of (BlocksFit caches) ⊥ ⊥ answer e is (λ none. none)
      (flush_cause seen caches.rb.backend.header.fields.cluster_bits (λ (b : RefBlockView). b.bytes) (λ b. b.is_modified) cleared_rb (IsBlockOf caches.rb.backend.header.fields) (λ v. refl) (block_still caches.rb.backend.header.fields) (HasPlace caches.rb.backend.header.fields.cluster_bits)
      (λ k here. here) old new caches.rb.entries rb.entries answer flushes))

  module _ (may_flush : Bool) (key : ℕ) (answer : Result Bool (CacheError ℕ MetadataError)) (e : CacheError ℕ MetadataError) (is : answer ≡ Err e) where
    -- ---- a load
    pub table_load_refused : (l2 : Cache (L2CacheBackend S) ℕ L2TableView) → l2 ≡ with_entries caches.l2 l2.entries
        → (IsSome (lookup (eqb key) caches.l2.entries) → (answer ≡ Ok true) × (l2.entries ≡ promoted (eqb key) caches.l2.entries) × (new ≡ old))
        → (IsNone (lookup (eqb key) caches.l2.entries) → GetsNew (l2_steps seen caches.l2.backend.header.fields) eqb caches.l2.size may_flush key old caches.l2.entries answer new l2.entries)
        → TableLoads caches l2 key (of_cache e)
    table_load_refused l2 others hit miss =
        cause_of (TablesFit caches × HasPlace caches.l2.backend.header.fields.cluster_bits key) (IsFull caches.l2.size caches.l2.entries × (l2.entries ≡ caches.l2.entries)) (AreAllPinned caches × AreAllPinned (record caches { l2 = l2 })) answer e is
        (λ full. (is_all_pinned full.0, still_pinned l2 others full.1 (is_all_pinned full.0))) (elim (none_or_some (lookup (eqb key) caches.l2.entries)) [
          | inl there ↦ some_refused answer true _ (hit there).0
          | inr missing ↦ get_cause seen caches.l2.backend.header.fields.cluster_bits (λ (t : L2TableView). t.bytes) (λ t. t.is_modified) cleared_l2 (IsTableOf caches.l2.backend.header.fields) (λ v. refl) (table_still caches.l2.backend.header.fields) (HasPlace caches.l2.backend.header.fields.cluster_bits)
              (λ k here. here) caches.l2.size may_flush old new key caches.l2.entries l2.entries answer (miss missing)
        ])

    pub block_load_refused : (rb : Cache (RefBlockCacheBackend S) ℕ RefBlockView)
        → (IsSome (lookup (eqb key) caches.rb.entries) → (answer ≡ Ok true) × (rb.entries ≡ promoted (eqb key) caches.rb.entries) × (new ≡ old))
        → (IsNone (lookup (eqb key) caches.rb.entries) → GetsNew (rb_steps seen caches.rb.backend.header.fields) eqb caches.rb.size may_flush key old caches.rb.entries answer new rb.entries)
        → BlockLoads caches key (of_cache e)
    block_load_refused rb hit miss =
        cause_of (BlocksFit caches × HasPlace caches.rb.backend.header.fields.cluster_bits key) (IsFull caches.rb.size caches.rb.entries × (rb.entries ≡ caches.rb.entries)) (AreBlocksPinned caches) answer e is (λ full. are_blocks_pinned full.0) (elim (none_or_some (lookup (eqb key) caches.rb.entries)) [
          | inl there ↦ some_refused answer true _ (hit there).0
          | inr missing ↦ get_cause seen caches.rb.backend.header.fields.cluster_bits (λ (b : RefBlockView). b.bytes) (λ b. b.is_modified) cleared_rb (IsBlockOf caches.rb.backend.header.fields) (λ v. refl) (block_still caches.rb.backend.header.fields) (HasPlace caches.rb.backend.header.fields.cluster_bits)
              (λ k here. here) caches.rb.size may_flush old new key caches.rb.entries rb.entries answer (miss missing)
        ])

    -- ---- a table is put in
    pub table_put_refused : (l2 : Cache (L2CacheBackend S) ℕ L2TableView) (v : L2TableView) (value left : Option L2TableView) → value ≡ Some v
        → IfSome (lookup_entry (eqb key) caches.l2.entries) (λ e. IfSome value (λ v. Replaces (l2_steps seen caches.l2.backend.header.fields) key e (remove_entry (eqb key) caches.l2.entries) v may_flush old caches.l2.entries answer new l2.entries left))
        → (IsNone (lookup (eqb key) caches.l2.entries) → IfSome value (λ v. InsertsNew (l2_steps seen caches.l2.backend.header.fields) eqb caches.l2.size may_flush key v old caches.l2.entries answer new l2.entries left))
        → TablePuts caches (of_cache e)
    table_put_refused l2 v value left is_value there missing =
        cause_of (TablesFit caches) (IsFull caches.l2.size caches.l2.entries × (l2.entries ≡ caches.l2.entries)) (AreAllPinned caches) answer e is (λ full. is_all_pinned full.0)
        (found_or_not (lookup_entry (eqb key) caches.l2.entries)
        (λ none. insert_cause seen caches.l2.backend.header.fields.cluster_bits (λ (t : L2TableView). t.bytes) (λ t. t.is_modified) cleared_l2 (IsTableOf caches.l2.backend.header.fields) (λ v. refl) (table_still caches.l2.backend.header.fields) (HasPlace caches.l2.backend.header.fields.cluster_bits)
        (λ k here. here) caches.l2.size may_flush old new key v caches.l2.entries l2.entries answer left (rw is_value at (missing (rw (lookup_none (eqb key) caches.l2.entries none) refl))))
        (λ x some. replace_cause seen caches.l2.backend.header.fields.cluster_bits (λ (t : L2TableView). t.bytes) (λ t. t.is_modified) cleared_l2 (IsTableOf caches.l2.backend.header.fields) (λ v. refl) (table_still caches.l2.backend.header.fields) (HasPlace caches.l2.backend.header.fields.cluster_bits)
        (λ k here. here) may_flush old new key v caches.l2.entries l2.entries x (IsFull caches.l2.size caches.l2.entries × (l2.entries ≡ caches.l2.entries)) answer left some (rw is_value at (rw some at there))))

    pub block_put_refused : (rb : Cache (RefBlockCacheBackend S) ℕ RefBlockView) (v : RefBlockView) (value left : Option RefBlockView) → value ≡ Some v
        → IfSome (lookup_entry (eqb key) caches.rb.entries) (λ e. IfSome value (λ v. Replaces (rb_steps seen caches.rb.backend.header.fields) key e (remove_entry (eqb key) caches.rb.entries) v may_flush old caches.rb.entries answer new rb.entries left))
        → (IsNone (lookup (eqb key) caches.rb.entries) → IfSome value (λ v. InsertsNew (rb_steps seen caches.rb.backend.header.fields) eqb caches.rb.size may_flush key v old caches.rb.entries answer new rb.entries left))
        → BlockPuts caches (of_cache e)
    block_put_refused rb v value left is_value there missing =
        cause_of (BlocksFit caches) (IsFull caches.rb.size caches.rb.entries × (rb.entries ≡ caches.rb.entries)) (AreBlocksPinned caches) answer e is (λ full. are_blocks_pinned full.0)
        (found_or_not (lookup_entry (eqb key) caches.rb.entries)
        (λ none. insert_cause seen caches.rb.backend.header.fields.cluster_bits (λ (b : RefBlockView). b.bytes) (λ b. b.is_modified) cleared_rb (IsBlockOf caches.rb.backend.header.fields) (λ v. refl) (block_still caches.rb.backend.header.fields) (HasPlace caches.rb.backend.header.fields.cluster_bits)
        (λ k here. here) caches.rb.size may_flush old new key v caches.rb.entries rb.entries answer left (rw is_value at (missing (rw (lookup_none (eqb key) caches.rb.entries none) refl))))
        (λ x some. replace_cause seen caches.rb.backend.header.fields.cluster_bits (λ (b : RefBlockView). b.bytes) (λ b. b.is_modified) cleared_rb (IsBlockOf caches.rb.backend.header.fields) (λ v. refl) (block_still caches.rb.backend.header.fields) (HasPlace caches.rb.backend.header.fields.cluster_bits)
        (λ k here. here) may_flush old new key v caches.rb.entries rb.entries x (IsFull caches.rb.size caches.rb.entries × (rb.entries ≡ caches.rb.entries)) answer left some (rw is_value at (rw some at there))))

-- ---- on sound caches, whose tables can be written
module _ {S : Type 0} (h : HeaderFields) (p : Pending) (caches : MetadataCaches S) (on_storage : Bytes) (sound : CacheInvariant h p caches on_storage) where
  pub tables_fit : TablesFit caches
  tables_fit =
      standing_of caches.l2.backend.header.fields.cluster_bits (λ (t : L2TableView). t.bytes) (λ t. t.is_modified) (IsTableOf caches.l2.backend.header.fields) (HasPlace caches.l2.backend.header.fields.cluster_bits) caches.l2.entries sound.l2_fit
      (subst (λ n. (c : ℕ) → IsFreeOf (2 ^ n) (l2_tables caches) c ⊎ HasPlace n c) (sym sound.l2_format.bits)
      (λ c. elim (sound.kept.kept.l2_stand c) [ inl free ↦ inl free | inr has ↦ inr (table_place h on_storage h.cluster_bits refl c (has.0, has.1, has.2)) ]))

  pub all_fit : HavePlaces h caches → AllFit caches
  all_fit places = (tables_fit, places_stand h p caches on_storage sound places)

  pub named_fit : AreNamedBlocks h (refblocks caches) on_storage → AllFit caches
  named_fit named = all_fit (named_have_places h p caches on_storage sound named)

  pub l2_place : (c : ℕ) → HasPlace h.cluster_bits c → HasPlace caches.l2.backend.header.fields.cluster_bits c
  l2_place c here = subst (λ n. HasPlace n c) (sym sound.l2_format.bits) here

  pub rb_place : (c : ℕ) → HasPlace h.cluster_bits c → HasPlace caches.rb.backend.header.fields.cluster_bits c
  rb_place c here = subst (λ n. HasPlace n c) (sym sound.rb_format.bits) here

-- so a refusal is a fault, unless all is in use
pub fault_alone : {Fit : Type 0} (e : ImageError) → Fit → IsFaultOr (¬ Fit) e → IsFault e
fault_alone e fit (inl fault) = fault
fault_alone e fit (inr limit) = absurd (limit.1 fit)

pub faults_alone : {A Fit : Type 0} {before now : ℕ} (r : Result A ImageError) → Fit → FailsFor before now (err_of r) (IsFaultOr (¬ Fit)) → IfErr r IsFault
faults_alone (Ok x) fit fails = tt
faults_alone (Err e) fit fails = fault_alone e fit fails.cause

pub in_use_alone : {S : Type 0} (caches : MetadataCaches S) {Full Fit : Type 0} (e : ImageError) → (Full → AreAllPinned caches) → Fit → ((e ≡ I.InUse) × Full) ⊎ IsFaultOr (¬ Fit) e → IsInUseOrFault caches e
in_use_alone caches e full fit (inl used) = inl (used.0, full used.1)
in_use_alone caches e full fit (inr is) = inr (fault_alone e fit is)

-- no refblock is pinned
blocks_room : {S : Type 0} (caches : MetadataCaches S) → CachesHaveRoom caches → AreBlocksPinned caches → ⊥
blocks_room caches room full = let none : caches.rb.entries ≡ [] = sym full.1 ∙ room.free in let some = room.some in let size = rw none at full.0 in omega (arith, some, size)

pub block_alone : {S : Type 0} (caches : MetadataCaches S) {Fit : Type 0} (e : ImageError) → CachesHaveRoom caches → Fit → ((e ≡ I.InUse) × AreBlocksPinned caches) ⊎ IsFaultOr (¬ Fit) e → IsFault e
block_alone caches e room fit (inl used) = absurd (blocks_room caches room used.1)
block_alone caches e room fit (inr is) = fault_alone e fit is

-- ---- among the refusals of tables
pub fault_or_of_tables : (unaligned P : Type 0) (e : ImageError) → IsFaultOr P e → IsOfTablesIf unaligned e
fault_or_of_tables unaligned P e (inl (inl is)) = subst (IsOfTablesIf unaligned) (sym is) tt
fault_or_of_tables unaligned P e (inl (inr is)) = subst (IsOfTablesIf unaligned) (sym is) tt
fault_or_of_tables unaligned P e (inr limit) = subst (IsOfTablesIf unaligned) (sym limit.0) tt

pub in_use_of_tables : (unaligned Full P : Type 0) (e : ImageError) → ((e ≡ I.InUse) × Full) ⊎ IsFaultOr P e → IsOfTablesIf unaligned e
in_use_of_tables unaligned Full P e (inl used) = subst (IsOfTablesIf unaligned) (sym used.0) tt
in_use_of_tables unaligned Full P e (inr is) = fault_or_of_tables unaligned P e is
