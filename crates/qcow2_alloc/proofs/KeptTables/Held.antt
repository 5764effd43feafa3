-- A flush leaves the contents of each cached table the same.
use Rattle.std.proofs.Common.{◌≡◌, ◌∷◌, ℕ, Bool, inl, inr, eqb, List, [], Option, Some, None, Result, ap, ◌∙◌}
use Rattle.qcow2_alloc.proofs.Common.{cases_Bool, option_map, StorageView, MetadataError, RefBlockView, Slot, CacheError, RefBlockCacheBackend, MetadataCaches, ImageStorage, Cache, value_at, Steps, Unit₀, Flushes, FlushesEntry, FlushesAll, storage_of, rb_at, rb_steps, l2_steps, cleared_l2, L2CacheBackend, L2TableView, l2_tables, cached_tables}
use Rattle.qcow2_alloc.specs.KeptMarks.{KeepsHeldTables}
use Rattle.qcow2_alloc.proofs.KeptTables.Flushing.{all_of}

module _ {S V E X : Type 0} (steps : Steps S ℕ V E) (bytes : V → X) (keeps : (s t : S) (k : ℕ) (v w : V) → steps.flushed s k v w t → bytes w ≡ bytes v) (test : ℕ → Bool) where
  abbrev bytes_held : List (ℕ × Slot V) → Option X
  bytes_held es = option_map bytes (value_at test es)

  entry_held : (s t : S) (e : ℕ × Slot V) (x : Option E) (d : Slot V) → FlushesEntry steps s e x t d → bytes d.value ≡ bytes e.1.value
  entry_held s t e None d h = keeps s t e.0 e.1.value d.value h.0
  entry_held s t e (Some x) d h = ap (λ (z : Slot V). bytes z.value) h.1

  next_held : (e : ℕ × Slot V) (d : Slot V) (es fs : List (ℕ × Slot V)) → bytes d.value ≡ bytes e.1.value → bytes_held fs ≡ bytes_held es → bytes_held ((e.0, d) ∷ fs) ≡ bytes_held (e ∷ es)
  next_held e d es fs here rest = elim (cases_Bool (test e.0)) [
    | inl is ↦ rw is (ap (λ z. Some z) here)
    | inr other ↦ rw other rest
  ]

  all_held : (s t : S) (es fs : List (ℕ × Slot V)) (o : Option E) → FlushesAll steps s es o t fs → bytes_held fs ≡ bytes_held es
  all_held s t [] fs o h = ap bytes_held h.2
  all_held s t (e ∷ es) fs o h =
      ap bytes_held h.8 ∙ next_held e h.2 es h.4 (entry_held s h.1 e h.0 h.2 h.5) (all_held h.1 t es h.4 h.3 h.6)

-- the same L2 tables beside other refblocks
pub held_same : {S : Type 0} (a b : MetadataCaches S) → b.l2 ≡ a.l2 → KeepsHeldTables a b
held_same {S} a b same c = ap (λ (x : Cache (L2CacheBackend S) ℕ L2TableView). option_map cleared_l2 (value_at (λ k. eqb c k) x.entries)) same

pub listed_same : {S : Type 0} (a b : MetadataCaches S) → b.l2 ≡ a.l2 → l2_tables b ≡ l2_tables a
listed_same {S} a b same = ap (λ (x : Cache (L2CacheBackend S) ℕ L2TableView). cached_tables x.backend.header.fields.cluster_bits (λ (t : L2TableView). t.bytes) (λ t. t.is_modified) x.entries) same

-- a flush of the refblocks leaves each held one its bytes
pub blocks_held : {S : Type 0} (view : S → StorageView) (old new : ImageStorage S) (caches : MetadataCaches S) (rb : Cache (RefBlockCacheBackend S) ℕ RefBlockView) (result : Result Unit₀ (CacheError ℕ MetadataError))
    → Flushes (rb_steps (λ s. view (storage_of s)) caches.rb.backend.header.fields) old caches.rb.entries result new rb.entries
    → (c : ℕ) → option_map (λ (b : RefBlockView). b.bytes) (rb_at (record caches { rb = rb }) c) ≡ option_map (λ (b : RefBlockView). b.bytes) (rb_at caches c)
blocks_held {S} view old new caches rb result h c =
    let steps = rb_steps (λ (s : ImageStorage S). view (storage_of s)) caches.rb.backend.header.fields in
    let all = all_of steps old new caches.rb.entries rb.entries result h in
    all_held steps (λ (b : RefBlockView). b.bytes) (λ s t k v w f. ap (λ (b : RefBlockView). b.bytes) f.clean) (λ k. eqb c k) old new caches.rb.entries rb.entries all.0 all.1

-- and one of the L2 tables its entries
pub tables_held : {S : Type 0} (view : S → StorageView) (old new : ImageStorage S) (caches : MetadataCaches S) (l2 : Cache (L2CacheBackend S) ℕ L2TableView) (result : Result Unit₀ (CacheError ℕ MetadataError))
    → Flushes (l2_steps (λ s. view (storage_of s)) caches.l2.backend.header.fields) old caches.l2.entries result new l2.entries → KeepsHeldTables caches (record caches { l2 = l2 })
tables_held {S} view old new caches l2 result h c =
    let steps = l2_steps (λ (s : ImageStorage S). view (storage_of s)) caches.l2.backend.header.fields in
    let all = all_of steps old new caches.l2.entries l2.entries result h in
    all_held steps cleared_l2 (λ s t k v w f. ap cleared_l2 f.clean) (λ k. eqb c k) old new caches.l2.entries l2.entries all.0 all.1
