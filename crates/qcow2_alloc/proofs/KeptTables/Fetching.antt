-- A table is loaded into the caches.
use Rattle.std.proofs.Common.{◌≡◌, ◌⊎◌, ◌^◌, ◌%◌, ◌∷◌, inl, inr, ℕ, Bool, true, false, eqb, List, Option, Some, None, Result, Ok, IsSome, refl, sym, ap, subst}
use Rattle.qcow2_alloc.proofs.Common.{IsNone, lookup, promoted, StorageView, Bytes, byte_at, MetadataError, cluster_size, L2TableView, RefBlockView, CachedTable, known_bytes, BlocksMayGo, TablesMayGo, HasL2, HasBlock, CacheError, L2CacheBackend, RefBlockCacheBackend, MetadataCaches, ImageStorage, Cache, with_entries, GetsNew, storage_of, l2_steps, rb_steps, cleared_l2, cleared_rb, IsTableOf, IsBlockOf, cached_tables, AllValuesFit, AreElsewhere, AreKept, order_of, l2_tables, refblocks, KeepSound}
use Rattle.qcow2_alloc.proofs.KeptTables.BlocksNamed.{named_blocks_beside, named_blocks_anew, blocks_stand, block_place}
use Rattle.qcow2_alloc.proofs.KeptTables.Standing.{AreStanding, stand_promoted, get_stands}
use Rattle.qcow2_alloc.proofs.KeptTables.Writing.{crash_safety, Flushed}
use Rattle.qcow2_alloc.proofs.KeptTables.Entries.{AreDistinct}
use Rattle.qcow2_alloc.proofs.KeptTables.Fitting.{fit_promoted, get_fits}
use Rattle.qcow2_alloc.proofs.KeptTables.Listing.{loaded_distinct, l2_drop, l2_add, l2_promote, rb_drop, rb_add, rb_promote}
use Rattle.qcow2_alloc.proofs.KeptTables.Getting.{HoldsWhatStands, hit_done, get_done}
use Rattle.qcow2_alloc.proofs.KeptTables.Flushing.{l2_step, rb_step, table_still, block_still}

pub none_or_some : {X : Type 0} (o : Option X) → IsSome o ⊎ IsNone o
none_or_some None = inr refl
none_or_some (Some x) = inl refl

pub is_none : {X : Type 0} (o : Option X) → IsNone o → o ≡ None
is_none None h = refl
is_none (Some x) h = cc

module _ {S : Type 0} (view : S → StorageView) (old new : ImageStorage S) (caches : MetadataCaches S) (may_flush : Bool) (key : ℕ) where
  abbrev seen : ImageStorage S → StorageView
  seen s = view (storage_of s)

  -- ---- an L2 table
  module _ (l2 : Cache (L2CacheBackend S) ℕ L2TableView) (others : l2 ≡ with_entries caches.l2 l2.entries) (answer : Result Bool (CacheError ℕ MetadataError))
      (hit : IsSome (lookup (eqb key) caches.l2.entries) → (answer ≡ Ok true) × (l2.entries ≡ promoted (eqb key) caches.l2.entries) × (new ≡ old))
      (miss : IsNone (lookup (eqb key) caches.l2.entries)
      → GetsNew (l2_steps seen caches.l2.backend.header.fields) eqb caches.l2.size may_flush key old caches.l2.entries answer new l2.entries) where
    pub table_got : (may_flush ≡ true → TablesMayGo (order_of caches) (refblocks caches)) → KeepSound view old caches new (record caches { l2 = l2 })
    table_got may = λ h p honest sound.
        let bits = caches.l2.backend.header.fields.cluster_bits in
        let P : List CachedTable → Bytes → Type 0 = λ ts on_storage. AreKept h (order_of caches) p ts (refblocks caches) on_storage in
        let all : List CachedTable → Bytes → Bytes = λ ts on_storage. known_bytes (cluster_size h) ts (refblocks caches) on_storage in
        let same_backend : l2.backend ≡ caches.l2.backend = ap (λ c. c.backend) others in
        let distinct : (ts : List CachedTable) (on_storage : Bytes) → P ts on_storage → AreDistinct ts = λ ts on_storage are. loaded_distinct (cluster_size h) (HasL2 h on_storage) on_storage ts are.l2_loaded in
        let add : (t : CachedTable) (ts : List CachedTable) (on_storage : Bytes) → P ts on_storage → t.place % 2 ^ bits ≡ 0 → AreElsewhere t.place ts → t.is_modified ≡ false → HoldsWhatStands all (2 ^ bits) t ts on_storage
        → P (t ∷ ts) on_storage × (all (t ∷ ts) on_storage ≡ all ts on_storage) =
        λ t ts on_storage are aligned away clean current.
        l2_add h (order_of caches) p (refblocks caches) t ts on_storage are (subst (λ n. t.place % 2 ^ n ≡ 0) sound.l2_format.bits aligned) away clean (subst (λ n. HoldsWhatStands all (2 ^ n) t ts on_storage) sound.l2_format.bits current) in
        let f : Flushed seen bits (λ (t : L2TableView). t.bytes) (λ t. t.is_modified) cleared_l2 (IsTableOf caches.l2.backend.header.fields) (λ v. refl) (λ v. refl) P all crash_safety old new (l2_tables caches)
        (cached_tables bits (λ (t : L2TableView). t.bytes) (λ t. t.is_modified) l2.entries) =
        elim (none_or_some (lookup (eqb key) caches.l2.entries)) [
          | inl there ↦
              let is = hit there in
              rw (is.1, is.2) (hit_done seen bits (λ (t : L2TableView). t.bytes) (λ t. t.is_modified) cleared_l2 (IsTableOf caches.l2.backend.header.fields) (λ v. refl) (λ v. refl) P all crash_safety distinct (l2_drop h (order_of caches) p (refblocks caches)) add (l2_promote h (order_of caches) p (refblocks caches)) old key caches.l2.entries honest sound.kept)
          | inr missing ↦
              get_done seen bits (λ (t : L2TableView). t.bytes) (λ t. t.is_modified) cleared_l2 (IsTableOf caches.l2.backend.header.fields) (λ v. refl) (λ v. refl) P all crash_safety distinct (l2_drop h (order_of caches) p (refblocks caches)) add (l2_promote h (order_of caches) p (refblocks caches)) caches.l2.size may_flush
              (λ flush. l2_step h (order_of caches) p bits sound.l2_format.bits (refblocks caches) (may flush))
              old new key caches.l2.entries l2.entries answer honest sound.kept (is_none (lookup (eqb key) caches.l2.entries) missing) (miss missing)
        ] in
        let fit : AllValuesFit (IsTableOf caches.l2.backend.header.fields) l2.entries = elim (none_or_some (lookup (eqb key) caches.l2.entries)) [
          | inl there ↦ subst (AllValuesFit (IsTableOf caches.l2.backend.header.fields)) (sym (hit there).1) (fit_promoted (IsTableOf caches.l2.backend.header.fields) (eqb key) caches.l2.entries sound.l2_fit)
          | inr missing ↦ get_fits seen caches.l2.backend.header.fields.cluster_bits (λ (t : L2TableView). t.bytes) (λ t. t.is_modified) cleared_l2 (IsTableOf caches.l2.backend.header.fields) (table_still caches.l2.backend.header.fields) caches.l2.size may_flush old new key caches.l2.entries l2.entries answer sound.l2_fit (miss missing)
        ] in
        rw same_backend (record {
          honest = f.honest;
          sound = record { l2_format = sound.l2_format; rb_format = sound.rb_format; l2_fit = fit; rb_fit = sound.rb_fit; kept = f.kept };
          known = f.known;
          named_blocks = named_blocks_beside h (order_of caches) (order_of caches) p p (l2_tables caches) (refblocks caches) (cached_tables bits (λ (t : L2TableView). t.bytes) (λ t. t.is_modified) l2.entries) (refblocks caches) (byte_at (seen old).contents) (byte_at (seen new).contents) sound.kept f.kept f.known;
          since = f.since;
        })

  -- ---- a refblock
  module _ (rb : Cache (RefBlockCacheBackend S) ℕ RefBlockView) (others : rb ≡ with_entries caches.rb rb.entries) (answer : Result Bool (CacheError ℕ MetadataError))
      (hit : IsSome (lookup (eqb key) caches.rb.entries) → (answer ≡ Ok true) × (rb.entries ≡ promoted (eqb key) caches.rb.entries) × (new ≡ old))
      (miss : IsNone (lookup (eqb key) caches.rb.entries)
      → GetsNew (rb_steps seen caches.rb.backend.header.fields) eqb caches.rb.size may_flush key old caches.rb.entries answer new rb.entries) where
    pub block_got : (may_flush ≡ true → BlocksMayGo (order_of caches) (l2_tables caches)) → KeepSound view old caches new (record caches { rb = rb })
    block_got may = λ h p honest sound.
        let bits = caches.rb.backend.header.fields.cluster_bits in
        let P : List CachedTable → Bytes → Type 0 = λ ts on_storage. AreKept h (order_of caches) p (l2_tables caches) ts on_storage in
        let all : List CachedTable → Bytes → Bytes = λ ts on_storage. known_bytes (cluster_size h) (l2_tables caches) ts on_storage in
        let same_backend : rb.backend ≡ caches.rb.backend = ap (λ c. c.backend) others in
        let distinct : (ts : List CachedTable) (on_storage : Bytes) → P ts on_storage → AreDistinct ts = λ ts on_storage are. loaded_distinct (cluster_size h) (HasBlock h on_storage) on_storage ts are.rb_loaded in
        let add : (t : CachedTable) (ts : List CachedTable) (on_storage : Bytes) → P ts on_storage → t.place % 2 ^ bits ≡ 0 → AreElsewhere t.place ts → t.is_modified ≡ false → HoldsWhatStands all (2 ^ bits) t ts on_storage
        → P (t ∷ ts) on_storage × (all (t ∷ ts) on_storage ≡ all ts on_storage) =
        λ t ts on_storage are aligned away clean current.
        rb_add h (order_of caches) p (l2_tables caches) t ts on_storage are (subst (λ n. t.place % 2 ^ n ≡ 0) sound.rb_format.bits aligned) away clean (subst (λ n. HoldsWhatStands all (2 ^ n) t ts on_storage) sound.rb_format.bits current) in
        let f : Flushed seen bits (λ (b : RefBlockView). b.bytes) (λ b. b.is_modified) cleared_rb (IsBlockOf caches.rb.backend.header.fields) (λ v. refl) (λ v. refl) P all crash_safety old new (refblocks caches)
        (cached_tables bits (λ (b : RefBlockView). b.bytes) (λ b. b.is_modified) rb.entries) =
        elim (none_or_some (lookup (eqb key) caches.rb.entries)) [
          | inl there ↦
              let is = hit there in
              rw (is.1, is.2) (hit_done seen bits (λ (b : RefBlockView). b.bytes) (λ b. b.is_modified) cleared_rb (IsBlockOf caches.rb.backend.header.fields) (λ v. refl) (λ v. refl) P all crash_safety distinct (rb_drop h (order_of caches) p (l2_tables caches)) add (rb_promote h (order_of caches) p (l2_tables caches)) old key caches.rb.entries honest sound.kept)
          | inr missing ↦
              get_done seen bits (λ (b : RefBlockView). b.bytes) (λ b. b.is_modified) cleared_rb (IsBlockOf caches.rb.backend.header.fields) (λ v. refl) (λ v. refl) P all crash_safety distinct (rb_drop h (order_of caches) p (l2_tables caches)) add (rb_promote h (order_of caches) p (l2_tables caches)) caches.rb.size may_flush
              (λ flush. rb_step h (order_of caches) p bits sound.rb_format.bits (l2_tables caches) (may flush))
              old new key caches.rb.entries rb.entries answer honest sound.kept (is_none (lookup (eqb key) caches.rb.entries) missing) (miss missing)
        ] in
        let fit : AllValuesFit (IsBlockOf caches.rb.backend.header.fields) rb.entries = elim (none_or_some (lookup (eqb key) caches.rb.entries)) [
          | inl there ↦ subst (AllValuesFit (IsBlockOf caches.rb.backend.header.fields)) (sym (hit there).1) (fit_promoted (IsBlockOf caches.rb.backend.header.fields) (eqb key) caches.rb.entries sound.rb_fit)
          | inr missing ↦ get_fits seen caches.rb.backend.header.fields.cluster_bits (λ (b : RefBlockView). b.bytes) (λ b. b.is_modified) cleared_rb (IsBlockOf caches.rb.backend.header.fields) (block_still caches.rb.backend.header.fields) caches.rb.size may_flush old new key caches.rb.entries rb.entries answer sound.rb_fit (miss missing)
        ] in
        rw same_backend (record {
          honest = f.honest;
          sound = record { l2_format = sound.l2_format; rb_format = sound.rb_format; l2_fit = sound.l2_fit; rb_fit = fit; kept = f.kept };
          known = f.known;
          named_blocks = λ named_blocks.
              named_blocks_anew h (order_of caches) (order_of caches) p p (l2_tables caches) (refblocks caches) (l2_tables caches) (cached_tables bits (λ (b : RefBlockView). b.bytes) (λ b. b.is_modified) rb.entries) (byte_at (seen old).contents) (byte_at (seen new).contents) sound.kept f.kept f.known bits sound.rb_format.bits (IsBlockOf caches.rb.backend.header.fields) rb.entries
              (elim (none_or_some (lookup (eqb key) caches.rb.entries)) [
                | inl there ↦ subst (AreStanding (λ (b : RefBlockView). b.is_modified) (IsBlockOf caches.rb.backend.header.fields) (HasBlock h (byte_at (seen old).contents))) (sym (hit there).1)
                    (stand_promoted (λ (b : RefBlockView). b.is_modified) (IsBlockOf caches.rb.backend.header.fields) (HasBlock h (byte_at (seen old).contents)) (eqb key) caches.rb.entries (blocks_stand h p caches (byte_at (seen old).contents) sound named_blocks))
                | inr missing ↦ get_stands seen bits (λ (b : RefBlockView). b.bytes) (λ b. b.is_modified) cleared_rb (IsBlockOf caches.rb.backend.header.fields) (λ v. refl) (block_still caches.rb.backend.header.fields) (HasBlock h (byte_at (seen old).contents)) (block_place h (byte_at (seen old).contents) caches.rb.backend.header.fields.cluster_bits sound.rb_format.bits) caches.rb.size may_flush old new key caches.rb.entries rb.entries answer (blocks_stand h p caches (byte_at (seen old).contents) sound named_blocks) (miss missing)
              ]);
          since = f.since;
        })
