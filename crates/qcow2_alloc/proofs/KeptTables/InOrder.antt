-- Calls of the caches write tables in the order of the direction.
use Rattle.std.proofs.Common.{◌≡◌, inl, inr, ℕ, Bool, true, false, eqb, List, [], Option, Some, Result, Ok, Err, IsSome, refl, subst, IfSome}
use Rattle.qcow2_alloc.proofs.Common.{IsNone, lookup, lookup_entry, remove_entry, promoted, StorageView, passes_none, passes_on, passes_if, Bytes, byte_at, HeaderFields, MetadataError, cluster_size, L2TableView, RefBlockView, CachedTable, Direction, IsMixed, known_bytes, BlocksMayGo, TablesMayGo, HasL2, HasBlock, Slot, CacheError, L2CacheBackend, RefBlockCacheBackend, MetadataCaches, ImageStorage, Cache, Unit₀, Flushes, GetsNew, InsertsNew, Replaces, storage_of, l2_steps, rb_steps, cleared_l2, cleared_rb, IsTableOf, IsBlockOf, IsInOrderSince, order_of, l2_tables, refblocks, known_of, KeepSound, WritesInOrder}
use Rattle.qcow2_alloc.proofs.KeptTables.Writing.{crash_safety, Flushed, Puts, flushed_all}
use Rattle.qcow2_alloc.proofs.KeptTables.Flushing.{all_of}
use Rattle.qcow2_alloc.proofs.KeptTables.Fetching.{none_or_some, is_none}
use Rattle.qcow2_alloc.proofs.KeptTables.Inserting.{found_or_not, lookup_none}
use Rattle.qcow2_alloc.proofs.KeptTables.Listing.{loaded_distinct}
use Rattle.qcow2_alloc.proofs.KeptTables.Getting.{get_done, insert_put, replace_put}
use Rattle.qcow2_alloc.proofs.KeptTables.Ordering.{mixed_same, mixed_then, OrderedTables, OrderedBlocks, l2_drop_ordered, l2_add_ordered, l2_promote_ordered, l2_step_ordered, rb_drop_ordered, rb_add_ordered, rb_promote_ordered, rb_step_ordered}

module _ {S : Type 0} (view : S → StorageView) where
  -- nothing is written
  pub order_none : (s : ImageStorage S) (c : MetadataCaches S) → WritesInOrder view s c s
  order_none s c h p honest sound = record { moments = passes_none (view (storage_of s)) _; contents = mixed_same h (order_of c) (byte_at (view (storage_of s)).contents) (known_of h c (byte_at (view (storage_of s)).contents)) }

  -- one call after another, in the same direction
  pub order_then : (r s t : ImageStorage S) (a b : MetadataCaches S) → KeepSound view r a s b → WritesInOrder view r a s → order_of b ≡ order_of a → WritesInOrder view s b t → WritesInOrder view r a t
  order_then r s t a b keeps first same second h p honest sound =
      let k = keeps h p honest sound in
      let one = first h p honest sound in
      let two : IsInOrderSince h (order_of a) (view (storage_of s)) (view (storage_of t)) (known_of h a (byte_at (view (storage_of r)).contents)) =
      subst (λ (d : Direction). IsInOrderSince h d (view (storage_of s)) (view (storage_of t)) (known_of h a (byte_at (view (storage_of r)).contents))) same
      (subst (λ (m : Bytes). IsInOrderSince h (order_of b) (view (storage_of s)) (view (storage_of t)) m) k.known (second h p k.honest k.sound)) in
      let then : (l : List ℕ) → IsMixed h (order_of a) (byte_at (view (storage_of s)).contents) (known_of h a (byte_at (view (storage_of r)).contents)) (byte_at l)
      → IsMixed h (order_of a) (byte_at (view (storage_of r)).contents) (known_of h a (byte_at (view (storage_of r)).contents)) (byte_at l) =
      λ l now. mixed_then h (order_of a) p (byte_at (view (storage_of r)).contents) (known_of h a (byte_at (view (storage_of r)).contents)) (byte_at (view (storage_of s)).contents) (byte_at l) sound.kept.kept.crash_invariant one.contents now in
      record { moments = passes_on _ one.moments two.moments then; contents = then (view (storage_of t)).contents two.contents }

-- what was put in, or wasn't, came in that order
module _ {S V : Type 0} (view : S → StorageView) (bits : ℕ) (bytes : V → List ℕ) (is_modified : V → Bool) (cleared : V → V) (IsFit : V → Type 0)
    (unmodified : (v : V) → is_modified (cleared v) ≡ false) (same_bytes : (v : V) → bytes (cleared v) ≡ bytes v)
    (P : List CachedTable → Bytes → Type 0) (all : List CachedTable → Bytes → Bytes) (k : ℕ) (v : V) (s t : S) (es fs : List (ℕ × Slot V))
    (h : HeaderFields) (d : Direction) (known : Bytes) (mixed : (ts : List CachedTable) (b : Bytes) → P ts b → IsMixed h d (byte_at (view s).contents) known b) where
  since_flushed : (ts us : List CachedTable) → Flushed view bits bytes is_modified cleared IsFit unmodified same_bytes P all crash_safety s t ts us → IsInOrderSince h d (view s) (view t) known
  since_flushed ts us f = record { moments = passes_if _ (λ l now. mixed now.0 (byte_at l) now.1) f.moments; contents = mixed us (byte_at (view t).contents) f.kept }

  since_put : (r : Result Bool (CacheError ℕ MetadataError)) → Puts view bits bytes is_modified cleared IsFit unmodified same_bytes P all crash_safety k v s t es fs r → IsInOrderSince h d (view s) (view t) known
  since_put (Ok true) ready = since_flushed _ _ ready.done
  since_put (Ok false) f = since_flushed _ _ f
  since_put (Err e) f = since_flushed _ _ f

module _ {S : Type 0} (view : S → StorageView) (old new : ImageStorage S) (caches : MetadataCaches S) where
  abbrev seen : ImageStorage S → StorageView
  seen s = view (storage_of s)

  -- ---- a flush of the L2 tables, of the refblocks
  pub tables_in_order : (l2 : Cache (L2CacheBackend S) ℕ L2TableView) (answer : Result Unit₀ (CacheError ℕ MetadataError))
      → Flushes (l2_steps seen caches.l2.backend.header.fields) old caches.l2.entries answer new l2.entries → TablesMayGo (order_of caches) (refblocks caches) → WritesInOrder view old caches new
  tables_in_order l2 answer flushes may h p honest sound =
      let bits = caches.l2.backend.header.fields.cluster_bits in
      let on_storage = byte_at (seen old).contents in
      let all = all_of (l2_steps seen caches.l2.backend.header.fields) old new caches.l2.entries l2.entries answer flushes in
      let f = flushed_all seen bits (λ (t : L2TableView). t.bytes) (λ t. t.is_modified) cleared_l2 (IsTableOf caches.l2.backend.header.fields) (λ v. refl) (λ v. refl)
      (OrderedTables h (order_of caches) p on_storage (known_of h caches on_storage) sound.kept.kept.crash_invariant bits sound.l2_format.bits (refblocks caches))
      (λ ts on_storage. known_bytes (cluster_size h) ts (refblocks caches) on_storage) crash_safety
      (l2_step_ordered h (order_of caches) p on_storage (known_of h caches on_storage) sound.kept.kept.crash_invariant bits sound.l2_format.bits (refblocks caches) may)
      old new [] caches.l2.entries l2.entries all.0 honest (sound.kept, refl, mixed_same h (order_of caches) on_storage (known_of h caches on_storage)) all.1 in
      record { moments = passes_if _ (λ l now. now.1.2) f.moments; contents = f.kept.2 }

  pub blocks_in_order : (rb : Cache (RefBlockCacheBackend S) ℕ RefBlockView) (answer : Result Unit₀ (CacheError ℕ MetadataError))
      → Flushes (rb_steps seen caches.rb.backend.header.fields) old caches.rb.entries answer new rb.entries → BlocksMayGo (order_of caches) (l2_tables caches) → WritesInOrder view old caches new
  blocks_in_order rb answer flushes may h p honest sound =
      let bits = caches.rb.backend.header.fields.cluster_bits in
      let on_storage = byte_at (seen old).contents in
      let all = all_of (rb_steps seen caches.rb.backend.header.fields) old new caches.rb.entries rb.entries answer flushes in
      let f = flushed_all seen bits (λ (b : RefBlockView). b.bytes) (λ b. b.is_modified) cleared_rb (IsBlockOf caches.rb.backend.header.fields) (λ v. refl) (λ v. refl)
      (OrderedBlocks h (order_of caches) p on_storage (known_of h caches on_storage) sound.kept.kept.crash_invariant bits sound.rb_format.bits (l2_tables caches))
      (λ ts on_storage. known_bytes (cluster_size h) (l2_tables caches) ts on_storage) crash_safety
      (rb_step_ordered h (order_of caches) p on_storage (known_of h caches on_storage) sound.kept.kept.crash_invariant bits sound.rb_format.bits (l2_tables caches) may)
      old new [] caches.rb.entries rb.entries all.0 honest (sound.kept, refl, mixed_same h (order_of caches) on_storage (known_of h caches on_storage)) all.1 in
      record { moments = passes_if _ (λ l now. now.1.2) f.moments; contents = f.kept.2 }

  -- ---- an L2 table
  pub table_got_in_order : (may_flush : Bool) (key : ℕ) (l2 : Cache (L2CacheBackend S) ℕ L2TableView) (answer : Result Bool (CacheError ℕ MetadataError))
      → (IsSome (lookup (eqb key) caches.l2.entries) → (answer ≡ Ok true) × (l2.entries ≡ promoted (eqb key) caches.l2.entries) × (new ≡ old))
      → (IsNone (lookup (eqb key) caches.l2.entries) → GetsNew (l2_steps seen caches.l2.backend.header.fields) eqb caches.l2.size may_flush key old caches.l2.entries answer new l2.entries)
      → (may_flush ≡ true → TablesMayGo (order_of caches) (refblocks caches)) → WritesInOrder view old caches new
  table_got_in_order may_flush key l2 answer hit miss may h p honest sound =
      let bits = caches.l2.backend.header.fields.cluster_bits in
      let on_storage = byte_at (seen old).contents in
      elim (none_or_some (lookup (eqb key) caches.l2.entries)) [
        | inl there ↦ let is = hit there in rw is.2 (order_none view old caches h p honest sound)
        | inr missing ↦
            let f = get_done seen bits (λ (t : L2TableView). t.bytes) (λ t. t.is_modified) cleared_l2 (IsTableOf caches.l2.backend.header.fields) (λ v. refl) (λ v. refl) (OrderedTables h (order_of caches) p on_storage (known_of h caches on_storage) sound.kept.kept.crash_invariant bits sound.l2_format.bits (refblocks caches)) (λ ts on_storage. known_bytes (cluster_size h) ts (refblocks caches) on_storage) crash_safety (λ ts on_storage are. loaded_distinct (cluster_size h) (HasL2 h on_storage) on_storage ts are.0.l2_loaded) (l2_drop_ordered h (order_of caches) p on_storage (known_of h caches on_storage) sound.kept.kept.crash_invariant bits sound.l2_format.bits (refblocks caches)) (l2_add_ordered h (order_of caches) p on_storage (known_of h caches on_storage) sound.kept.kept.crash_invariant bits sound.l2_format.bits (refblocks caches)) (l2_promote_ordered h (order_of caches) p on_storage (known_of h caches on_storage) sound.kept.kept.crash_invariant bits sound.l2_format.bits (refblocks caches)) caches.l2.size may_flush
            (λ flush. l2_step_ordered h (order_of caches) p on_storage (known_of h caches on_storage) sound.kept.kept.crash_invariant bits sound.l2_format.bits (refblocks caches) (may flush))
            old new key caches.l2.entries l2.entries answer honest (sound.kept, refl, mixed_same h (order_of caches) on_storage (known_of h caches on_storage)) (is_none (lookup (eqb key) caches.l2.entries) missing) (miss missing) in
            record { moments = passes_if _ (λ l now. now.1.2) f.moments; contents = f.kept.2 }
      ]

  pub table_put_in_order : (may_flush : Bool) (key : ℕ) (l2 : Cache (L2CacheBackend S) ℕ L2TableView) (v : L2TableView) (value left : Option L2TableView) → value ≡ Some v → (answer : Result Bool (CacheError ℕ MetadataError))
      → IfSome (lookup_entry (eqb key) caches.l2.entries) (λ e. IfSome value (λ v. Replaces (l2_steps seen caches.l2.backend.header.fields) key e (remove_entry (eqb key) caches.l2.entries) v may_flush old caches.l2.entries answer new l2.entries left))
      → (IsNone (lookup (eqb key) caches.l2.entries) → IfSome value (λ v. InsertsNew (l2_steps seen caches.l2.backend.header.fields) eqb caches.l2.size may_flush key v old caches.l2.entries answer new l2.entries left))
      → (may_flush ≡ true → TablesMayGo (order_of caches) (refblocks caches)) → WritesInOrder view old caches new
  table_put_in_order may_flush key l2 v value left is answer there missing may h p honest sound =
      let bits = caches.l2.backend.header.fields.cluster_bits in
      let on_storage = byte_at (seen old).contents in
      since_put seen bits (λ (t : L2TableView). t.bytes) (λ t. t.is_modified) cleared_l2 (IsTableOf caches.l2.backend.header.fields) (λ v. refl) (λ v. refl) (OrderedTables h (order_of caches) p on_storage (known_of h caches on_storage) sound.kept.kept.crash_invariant bits sound.l2_format.bits (refblocks caches)) (λ ts on_storage. known_bytes (cluster_size h) ts (refblocks caches) on_storage) key v old new caches.l2.entries l2.entries h (order_of caches) (known_of h caches on_storage) (λ ts b now. now.2) answer
      (found_or_not (lookup_entry (eqb key) caches.l2.entries)
      (λ none. insert_put seen bits (λ (t : L2TableView). t.bytes) (λ t. t.is_modified) cleared_l2 (IsTableOf caches.l2.backend.header.fields) (λ v. refl) (λ v. refl) (OrderedTables h (order_of caches) p on_storage (known_of h caches on_storage) sound.kept.kept.crash_invariant bits sound.l2_format.bits (refblocks caches)) (λ ts on_storage. known_bytes (cluster_size h) ts (refblocks caches) on_storage) crash_safety (λ ts on_storage are. loaded_distinct (cluster_size h) (HasL2 h on_storage) on_storage ts are.0.l2_loaded) (l2_drop_ordered h (order_of caches) p on_storage (known_of h caches on_storage) sound.kept.kept.crash_invariant bits sound.l2_format.bits (refblocks caches)) (l2_add_ordered h (order_of caches) p on_storage (known_of h caches on_storage) sound.kept.kept.crash_invariant bits sound.l2_format.bits (refblocks caches)) (l2_promote_ordered h (order_of caches) p on_storage (known_of h caches on_storage) sound.kept.kept.crash_invariant bits sound.l2_format.bits (refblocks caches)) caches.l2.size may_flush (λ flush. l2_step_ordered h (order_of caches) p on_storage (known_of h caches on_storage) sound.kept.kept.crash_invariant bits sound.l2_format.bits (refblocks caches) (may flush)) key v
      old new caches.l2.entries l2.entries answer left honest (sound.kept, refl, mixed_same h (order_of caches) on_storage (known_of h caches on_storage)) (lookup_none (eqb key) caches.l2.entries none) (rw is at (missing (rw (lookup_none (eqb key) caches.l2.entries none) refl))))
      (λ e some. replace_put seen bits (λ (t : L2TableView). t.bytes) (λ t. t.is_modified) cleared_l2 (IsTableOf caches.l2.backend.header.fields) (λ v. refl) (λ v. refl) (OrderedTables h (order_of caches) p on_storage (known_of h caches on_storage) sound.kept.kept.crash_invariant bits sound.l2_format.bits (refblocks caches)) (λ ts on_storage. known_bytes (cluster_size h) ts (refblocks caches) on_storage) crash_safety (λ ts on_storage are. loaded_distinct (cluster_size h) (HasL2 h on_storage) on_storage ts are.0.l2_loaded) (l2_drop_ordered h (order_of caches) p on_storage (known_of h caches on_storage) sound.kept.kept.crash_invariant bits sound.l2_format.bits (refblocks caches)) (l2_add_ordered h (order_of caches) p on_storage (known_of h caches on_storage) sound.kept.kept.crash_invariant bits sound.l2_format.bits (refblocks caches)) (l2_promote_ordered h (order_of caches) p on_storage (known_of h caches on_storage) sound.kept.kept.crash_invariant bits sound.l2_format.bits (refblocks caches)) caches.l2.size may_flush (λ flush. l2_step_ordered h (order_of caches) p on_storage (known_of h caches on_storage) sound.kept.kept.crash_invariant bits sound.l2_format.bits (refblocks caches) (may flush)) key v
      old new caches.l2.entries e some honest (sound.kept, refl, mixed_same h (order_of caches) on_storage (known_of h caches on_storage)) l2.entries answer left (rw is at (rw some at there))))

  -- ---- a refblock
  pub block_got_in_order : (may_flush : Bool) (key : ℕ) (rb : Cache (RefBlockCacheBackend S) ℕ RefBlockView) (answer : Result Bool (CacheError ℕ MetadataError))
      → (IsSome (lookup (eqb key) caches.rb.entries) → (answer ≡ Ok true) × (rb.entries ≡ promoted (eqb key) caches.rb.entries) × (new ≡ old))
      → (IsNone (lookup (eqb key) caches.rb.entries) → GetsNew (rb_steps seen caches.rb.backend.header.fields) eqb caches.rb.size may_flush key old caches.rb.entries answer new rb.entries)
      → (may_flush ≡ true → BlocksMayGo (order_of caches) (l2_tables caches)) → WritesInOrder view old caches new
  block_got_in_order may_flush key rb answer hit miss may h p honest sound =
      let bits = caches.rb.backend.header.fields.cluster_bits in
      let on_storage = byte_at (seen old).contents in
      elim (none_or_some (lookup (eqb key) caches.rb.entries)) [
        | inl there ↦ let is = hit there in rw is.2 (order_none view old caches h p honest sound)
        | inr missing ↦
            let f = get_done seen bits (λ (b : RefBlockView). b.bytes) (λ b. b.is_modified) cleared_rb (IsBlockOf caches.rb.backend.header.fields) (λ v. refl) (λ v. refl) (OrderedBlocks h (order_of caches) p on_storage (known_of h caches on_storage) sound.kept.kept.crash_invariant bits sound.rb_format.bits (l2_tables caches)) (λ ts on_storage. known_bytes (cluster_size h) (l2_tables caches) ts on_storage) crash_safety (λ ts on_storage are. loaded_distinct (cluster_size h) (HasBlock h on_storage) on_storage ts are.0.rb_loaded) (rb_drop_ordered h (order_of caches) p on_storage (known_of h caches on_storage) sound.kept.kept.crash_invariant bits sound.rb_format.bits (l2_tables caches)) (rb_add_ordered h (order_of caches) p on_storage (known_of h caches on_storage) sound.kept.kept.crash_invariant bits sound.rb_format.bits (l2_tables caches)) (rb_promote_ordered h (order_of caches) p on_storage (known_of h caches on_storage) sound.kept.kept.crash_invariant bits sound.rb_format.bits (l2_tables caches)) caches.rb.size may_flush
            (λ flush. rb_step_ordered h (order_of caches) p on_storage (known_of h caches on_storage) sound.kept.kept.crash_invariant bits sound.rb_format.bits (l2_tables caches) (may flush))
            old new key caches.rb.entries rb.entries answer honest (sound.kept, refl, mixed_same h (order_of caches) on_storage (known_of h caches on_storage)) (is_none (lookup (eqb key) caches.rb.entries) missing) (miss missing) in
            record { moments = passes_if _ (λ l now. now.1.2) f.moments; contents = f.kept.2 }
      ]

  pub block_put_in_order : (may_flush : Bool) (key : ℕ) (rb : Cache (RefBlockCacheBackend S) ℕ RefBlockView) (v : RefBlockView) (value left : Option RefBlockView) → value ≡ Some v → (answer : Result Bool (CacheError ℕ MetadataError))
      → IfSome (lookup_entry (eqb key) caches.rb.entries) (λ e. IfSome value (λ v. Replaces (rb_steps seen caches.rb.backend.header.fields) key e (remove_entry (eqb key) caches.rb.entries) v may_flush old caches.rb.entries answer new rb.entries left))
      → (IsNone (lookup (eqb key) caches.rb.entries) → IfSome value (λ v. InsertsNew (rb_steps seen caches.rb.backend.header.fields) eqb caches.rb.size may_flush key v old caches.rb.entries answer new rb.entries left))
      → (may_flush ≡ true → BlocksMayGo (order_of caches) (l2_tables caches)) → WritesInOrder view old caches new
  block_put_in_order may_flush key rb v value left is answer there missing may h p honest sound =
      let bits = caches.rb.backend.header.fields.cluster_bits in
      let on_storage = byte_at (seen old).contents in
      since_put seen bits (λ (b : RefBlockView). b.bytes) (λ b. b.is_modified) cleared_rb (IsBlockOf caches.rb.backend.header.fields) (λ v. refl) (λ v. refl) (OrderedBlocks h (order_of caches) p on_storage (known_of h caches on_storage) sound.kept.kept.crash_invariant bits sound.rb_format.bits (l2_tables caches)) (λ ts on_storage. known_bytes (cluster_size h) (l2_tables caches) ts on_storage) key v old new caches.rb.entries rb.entries h (order_of caches) (known_of h caches on_storage) (λ ts b now. now.2) answer
      (found_or_not (lookup_entry (eqb key) caches.rb.entries)
      (λ none. insert_put seen bits (λ (b : RefBlockView). b.bytes) (λ b. b.is_modified) cleared_rb (IsBlockOf caches.rb.backend.header.fields) (λ v. refl) (λ v. refl) (OrderedBlocks h (order_of caches) p on_storage (known_of h caches on_storage) sound.kept.kept.crash_invariant bits sound.rb_format.bits (l2_tables caches)) (λ ts on_storage. known_bytes (cluster_size h) (l2_tables caches) ts on_storage) crash_safety (λ ts on_storage are. loaded_distinct (cluster_size h) (HasBlock h on_storage) on_storage ts are.0.rb_loaded) (rb_drop_ordered h (order_of caches) p on_storage (known_of h caches on_storage) sound.kept.kept.crash_invariant bits sound.rb_format.bits (l2_tables caches)) (rb_add_ordered h (order_of caches) p on_storage (known_of h caches on_storage) sound.kept.kept.crash_invariant bits sound.rb_format.bits (l2_tables caches)) (rb_promote_ordered h (order_of caches) p on_storage (known_of h caches on_storage) sound.kept.kept.crash_invariant bits sound.rb_format.bits (l2_tables caches)) caches.rb.size may_flush (λ flush. rb_step_ordered h (order_of caches) p on_storage (known_of h caches on_storage) sound.kept.kept.crash_invariant bits sound.rb_format.bits (l2_tables caches) (may flush)) key v
      old new caches.rb.entries rb.entries answer left honest (sound.kept, refl, mixed_same h (order_of caches) on_storage (known_of h caches on_storage)) (lookup_none (eqb key) caches.rb.entries none) (rw is at (missing (rw (lookup_none (eqb key) caches.rb.entries none) refl))))
      (λ e some. replace_put seen bits (λ (b : RefBlockView). b.bytes) (λ b. b.is_modified) cleared_rb (IsBlockOf caches.rb.backend.header.fields) (λ v. refl) (λ v. refl) (OrderedBlocks h (order_of caches) p on_storage (known_of h caches on_storage) sound.kept.kept.crash_invariant bits sound.rb_format.bits (l2_tables caches)) (λ ts on_storage. known_bytes (cluster_size h) (l2_tables caches) ts on_storage) crash_safety (λ ts on_storage are. loaded_distinct (cluster_size h) (HasBlock h on_storage) on_storage ts are.0.rb_loaded) (rb_drop_ordered h (order_of caches) p on_storage (known_of h caches on_storage) sound.kept.kept.crash_invariant bits sound.rb_format.bits (l2_tables caches)) (rb_add_ordered h (order_of caches) p on_storage (known_of h caches on_storage) sound.kept.kept.crash_invariant bits sound.rb_format.bits (l2_tables caches)) (rb_promote_ordered h (order_of caches) p on_storage (known_of h caches on_storage) sound.kept.kept.crash_invariant bits sound.rb_format.bits (l2_tables caches)) caches.rb.size may_flush (λ flush. rb_step_ordered h (order_of caches) p on_storage (known_of h caches on_storage) sound.kept.kept.crash_invariant bits sound.rb_format.bits (l2_tables caches) (may flush)) key v
      old new caches.rb.entries e some honest (sound.kept, refl, mixed_same h (order_of caches) on_storage (known_of h caches on_storage)) rb.entries answer left (rw is at (rw some at there))))
