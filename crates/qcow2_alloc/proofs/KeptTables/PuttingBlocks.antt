-- A refblock is put into the caches, or nothing is.
use Rattle.std.proofs.Common.{◌≡◌, ◌⊎◌, ◌+◌, ◌*◌, ◌/◌, ◌%◌, ◌^◌, ◌<◌, ◌∷◌, ℕ, Bool, true, false, eqb, List, [], Option, Some, Result, Ok, refl, sym, ap, ◌∙◌, subst, IfSome}
use Rattle.qcow2_alloc.proofs.Common.{mul-mod_left, HoldsKnown, IsNone, lookup, lookup_entry, remove_entry, Contains-lookup_entry, StorageView, Bytes, byte_at, HeaderFields, MetadataError, cluster_size, RefBlockView, CachedTable, known, Pending, CrashInvariant, IsUnnamed, known_bytes, BlocksMayGo, IsFreeOf, AreNamedBlocks, HasBlock, SameTop-sym, overlays_within, within_cluster, Slot, CacheError, RefBlockCacheBackend, MetadataCaches, ImageStorage, Cache, slot_of, with_entries, InsertsNew, Replaces, storage_of, same_number, rb_steps, cleared_rb, IsBlockOf, cached_table, cached_tables, AllValuesFit, AreElsewhere, AreKept, laid_at, order_of, l2_tables, refblocks, CacheInvariant, InternalCacheStep, Overlay}
use Rattle.qcow2_alloc.proofs.KeptTables.BlocksNamed.{top_still, named_blocks_anew, blocks_stand, block_place}
use Rattle.qcow2_alloc.proofs.KeptTables.Standing.{IsStanding, AreStanding, own_cluster, insert_stands, replace_stands, clean_stands}
use Rattle.qcow2_alloc.proofs.KeptTables.Writing.{crash_safety, block_named, Flushed, Ready, Puts, nothing_new, made_ready}
use Rattle.qcow2_alloc.proofs.KeptTables.Entries.{AreDistinct}
use Rattle.qcow2_alloc.proofs.KeptTables.Fitting.{insert_fits, replace_fits}
use Rattle.qcow2_alloc.proofs.KeptTables.Listing.{loaded_distinct, rb_drop, rb_add, rb_promote}
use Rattle.qcow2_alloc.proofs.KeptTables.Getting.{HoldsWhatStands, insert_put, replace_put, put_done}
use Rattle.qcow2_alloc.proofs.KeptTables.Flushing.{rb_step, block_still}
use Rattle.qcow2_alloc.proofs.KeptTables.Inserting.{found_or_not, lookup_none, block_as}
use Rattle.qcow2_alloc.proofs.KeptTables.Laying.{laid_under, rb_laid}

module _ {S : Type 0} (view : S → StorageView) (old new : ImageStorage S) (caches : MetadataCaches S) (may_flush : Bool) (key : ℕ) where
  abbrev seen : ImageStorage S → StorageView
  seen s = view (storage_of s)

  -- ---- a refblock
  module _ (rb : Cache (RefBlockCacheBackend S) ℕ RefBlockView) (others : rb ≡ with_entries caches.rb rb.entries) (v : RefBlockView) (value left : Option RefBlockView) (is : value ≡ Some v) (answer : Result Bool (CacheError ℕ MetadataError))
      (there : IfSome (lookup_entry (eqb key) caches.rb.entries) (λ e. IfSome value (λ v.
      Replaces (rb_steps seen caches.rb.backend.header.fields) key e (remove_entry (eqb key) caches.rb.entries) v may_flush old caches.rb.entries answer new rb.entries left)))
      (missing : IsNone (lookup (eqb key) caches.rb.entries)
      → IfSome value (λ v. InsertsNew (rb_steps seen caches.rb.backend.header.fields) eqb caches.rb.size may_flush key v old caches.rb.entries answer new rb.entries left))
      (may : may_flush ≡ true → BlocksMayGo (order_of caches) (l2_tables caches)) (h : HeaderFields) (p : Pending) (honest : (seen old).is_honest) (sound : CacheInvariant h p caches (byte_at (seen old).contents)) where
    abbrev bits : ℕ
    bits = caches.rb.backend.header.fields.cluster_bits

    abbrev IsFit : RefBlockView → Type 0
    IsFit = IsBlockOf caches.rb.backend.header.fields

    abbrev P : List CachedTable → Bytes → Type 0
    P ts on_storage = AreKept h (order_of caches) p (l2_tables caches) ts on_storage

    abbrev all : List CachedTable → Bytes → Bytes
    all ts on_storage = known_bytes (cluster_size h) (l2_tables caches) ts on_storage

    abbrev blocks : List (ℕ × Slot RefBlockView) → List CachedTable
    blocks = cached_tables bits (λ (b : RefBlockView). b.bytes) (λ b. b.is_modified)

    abbrev Named : ℕ → Type 0
    Named = HasBlock h (byte_at (seen old).contents)

    abbrev BlocksStand : List (ℕ × Slot RefBlockView) → Type 0
    BlocksStand = AreStanding (λ (b : RefBlockView). b.is_modified) IsFit Named

    distinct : (ts : List CachedTable) (on_storage : Bytes) → P ts on_storage → AreDistinct ts
    distinct ts on_storage are = loaded_distinct (cluster_size h) (HasBlock h on_storage) on_storage ts are.rb_loaded

    add : (t : CachedTable) (ts : List CachedTable) (on_storage : Bytes) → P ts on_storage → t.place % 2 ^ bits ≡ 0 → AreElsewhere t.place ts → t.is_modified ≡ false → HoldsWhatStands all (2 ^ bits) t ts on_storage
        → P (t ∷ ts) on_storage × (all (t ∷ ts) on_storage ≡ all ts on_storage)
    add t ts on_storage are aligned away clean current =
        rb_add h (order_of caches) p (l2_tables caches) t ts on_storage are (subst (λ n. t.place % 2 ^ n ≡ 0) sound.rb_format.bits aligned) away clean (subst (λ n. HoldsWhatStands all (2 ^ n) t ts on_storage) sound.rb_format.bits current)

    puts : Puts seen bits (λ (b : RefBlockView). b.bytes) (λ b. b.is_modified) cleared_rb IsFit (λ v. refl) (λ v. refl) P all crash_safety key v old new caches.rb.entries rb.entries answer
    puts = found_or_not (lookup_entry (eqb key) caches.rb.entries)
        (λ none. insert_put seen bits (λ (b : RefBlockView). b.bytes) (λ b. b.is_modified) cleared_rb IsFit (λ v. refl) (λ v. refl) P all crash_safety distinct (rb_drop h (order_of caches) p (l2_tables caches)) add (rb_promote h (order_of caches) p (l2_tables caches)) caches.rb.size may_flush
        (λ flush. rb_step h (order_of caches) p bits sound.rb_format.bits (l2_tables caches) (may flush)) key v
        old new caches.rb.entries rb.entries answer left honest sound.kept (lookup_none (eqb key) caches.rb.entries none)
        (rw is at (missing (rw (lookup_none (eqb key) caches.rb.entries none) refl))))
        (λ e some. replace_put seen bits (λ (b : RefBlockView). b.bytes) (λ b. b.is_modified) cleared_rb IsFit (λ v. refl) (λ v. refl) P all crash_safety distinct (rb_drop h (order_of caches) p (l2_tables caches)) add (rb_promote h (order_of caches) p (l2_tables caches)) caches.rb.size may_flush
        (λ flush. rb_step h (order_of caches) p bits sound.rb_format.bits (l2_tables caches) (may flush)) key v
        old new caches.rb.entries e some honest sound.kept rb.entries answer left (rw is at (rw some at there)))

    fit : (answer ≡ Ok true → IsFit v) → AllValuesFit IsFit rb.entries
    fit fits = found_or_not (lookup_entry (eqb key) caches.rb.entries)
        (λ none. insert_fits seen bits (λ (b : RefBlockView). b.bytes) (λ b. b.is_modified) cleared_rb IsFit (block_still caches.rb.backend.header.fields) caches.rb.size may_flush old new key v caches.rb.entries rb.entries answer left fits sound.rb_fit (rw is at (missing (rw (lookup_none (eqb key) caches.rb.entries none) refl))))
        (λ e some. replace_fits seen bits (λ (b : RefBlockView). b.bytes) (λ b. b.is_modified) cleared_rb IsFit (block_still caches.rb.backend.header.fields) may_flush old new key v caches.rb.entries rb.entries e answer left some fits sound.rb_fit (rw is at (rw some at there)))

    stand : AreNamedBlocks h (refblocks caches) (byte_at (seen old).contents) → (answer ≡ Ok true → IsStanding (λ (b : RefBlockView). b.is_modified) IsFit Named key v) → BlocksStand rb.entries
    stand named_blocks stands = found_or_not (lookup_entry (eqb key) caches.rb.entries)
        (λ none. insert_stands seen bits (λ (b : RefBlockView). b.bytes) (λ b. b.is_modified) cleared_rb IsFit (λ v. refl) (block_still caches.rb.backend.header.fields) Named (block_place h (byte_at (seen old).contents) bits sound.rb_format.bits) caches.rb.size may_flush old new key v caches.rb.entries rb.entries answer left stands
        (blocks_stand h p caches (byte_at (seen old).contents) sound named_blocks) (rw is at (missing (rw (lookup_none (eqb key) caches.rb.entries none) refl))))
        (λ e some. replace_stands seen bits (λ (b : RefBlockView). b.bytes) (λ b. b.is_modified) cleared_rb IsFit (λ v. refl) (block_still caches.rb.backend.header.fields) Named (block_place h (byte_at (seen old).contents) bits sound.rb_format.bits) may_flush old new key v caches.rb.entries rb.entries e answer left some
        (λ went. subst (λ n. IsStanding (λ (b : RefBlockView). b.is_modified) IsFit Named n v) (same_number key e.0 (Contains-lookup_entry (eqb key) caches.rb.entries e some).1) (stands went))
        (blocks_stand h p caches (byte_at (seen old).contents) sound named_blocks) (rw is at (rw some at there)))

    -- The caches are as sound as before, where the call leaves what was kept.
    still_sound : Flushed seen bits (λ (b : RefBlockView). b.bytes) (λ b. b.is_modified) cleared_rb IsFit (λ v. refl) (λ v. refl) P all crash_safety old new (refblocks caches) (blocks rb.entries) → AllValuesFit IsFit rb.entries
        → (AreNamedBlocks h (refblocks caches) (byte_at (seen old).contents) → BlocksStand rb.entries) → InternalCacheStep h p (seen old) caches (seen new) (record caches { rb = rb })
    still_sound f fit stand =
        let same_backend : rb.backend ≡ caches.rb.backend = ap (λ c. c.backend) others in
        rw same_backend (record {
          honest = f.honest;
          sound = record { l2_format = sound.l2_format; rb_format = sound.rb_format; l2_fit = sound.l2_fit; rb_fit = fit; kept = f.kept };
          known = f.known;
          named_blocks = λ named_blocks.
              named_blocks_anew h (order_of caches) (order_of caches) p p (l2_tables caches) (refblocks caches) (l2_tables caches) (blocks rb.entries) (byte_at (seen old).contents) (byte_at (seen new).contents) sound.kept f.kept f.known bits sound.rb_format.bits IsFit rb.entries
              (stand named_blocks);
          since = f.since;
        })

    pub block_kept : (answer ≡ Ok true → ⊥) → InternalCacheStep h p (seen old) caches (seen new) (record caches { rb = rb })
    block_kept isnt =
        still_sound (nothing_new seen bits (λ (b : RefBlockView). b.bytes) (λ b. b.is_modified) cleared_rb IsFit (λ v. refl) (λ v. refl) P all crash_safety key v old new caches.rb.entries rb.entries answer isnt puts) (fit (λ went. absurd (isnt went)))
        (λ named_blocks. stand named_blocks (λ went. absurd (isnt went)))

    -- an unmodified one with the known contents
    pub block_put : IsBlockOf h v → v.is_modified ≡ false → HoldsKnown h caches (byte_at (seen old).contents) v.bytes key → InternalCacheStep h p (seen old) caches (seen new) (record caches { rb = rb })
    block_put fits clean holds =
        let of_format = block_as caches.rb.backend.header.fields h v sound.rb_format fits in
        let holds' = subst (λ n. (i : ℕ) → i < 2 ^ n → byte_at v.bytes i ≡ all (refblocks caches) (byte_at (seen old).contents) (key * 2 ^ n + i)) (sym sound.rb_format.bits) holds in
        still_sound (put_done seen bits (λ (b : RefBlockView). b.bytes) (λ b. b.is_modified) cleared_rb IsFit (λ v. refl) (λ v. refl) P all crash_safety distinct (rb_drop h (order_of caches) p (l2_tables caches)) add (rb_promote h (order_of caches) p (l2_tables caches)) caches.rb.size may_flush
        (λ flush. rb_step h (order_of caches) p bits sound.rb_format.bits (l2_tables caches) (may flush)) key v clean old new caches.rb.entries rb.entries answer holds' puts)
        (fit (λ _. of_format)) (λ named_blocks. stand named_blocks (λ _. clean_stands (λ (b : RefBlockView). b.is_modified) IsFit Named key v of_format clean))

    module _ (went : answer ≡ Ok true) (fits : IsBlockOf h v) (marked : v.is_modified ≡ true) where
      ready : Ready seen bits (λ (b : RefBlockView). b.bytes) (λ b. b.is_modified) cleared_rb IsFit (λ v. refl) (λ v. refl) P all crash_safety key v old new caches.rb.entries rb.entries
      ready = made_ready seen bits (λ (b : RefBlockView). b.bytes) (λ b. b.is_modified) cleared_rb IsFit (λ v. refl) (λ v. refl) P all crash_safety key v old new caches.rb.entries rb.entries answer went puts

      abbrev entries : List (ℕ × Slot RefBlockView)
      entries = (key, slot_of v ready.pins) ∷ ready.rest

      laid_is : cached_table bits (λ (b : RefBlockView). b.bytes) (λ b. b.is_modified) (key, slot_of v ready.pins) ≡ laid_at h key v.bytes
      laid_is =
          ap (λ n. record { place = key * 2 ^ n; bytes = byte_at v.bytes; is_modified = v.is_modified }) sound.rb_format.bits
          ∙ ap (λ m. record { place = key * cluster_size h; bytes = byte_at v.bytes; is_modified = m }) marked

      list_is : blocks entries ≡ laid_at h key v.bytes ∷ blocks ready.rest
      list_is = ap (λ (t : CachedTable). t ∷ blocks ready.rest) laid_is

      away : AreElsewhere (key * cluster_size h) (blocks ready.rest)
      away = subst (λ n. AreElsewhere (key * 2 ^ n) (blocks ready.rest)) sound.rb_format.bits ready.away

      own_fit : IsFit v
      own_fit = block_as caches.rb.backend.header.fields h v sound.rb_format fits

      -- where the reftable names it, it named it before
      named_before : HasBlock h (byte_at (seen new).contents) key → Named key
      named_before has =
          block_named h (byte_at (seen old).contents) (byte_at (seen new).contents)
          (SameTop-sym h (byte_at (seen old).contents) (byte_at (seen new).contents)
          (top_still h (order_of caches) (order_of caches) p p (l2_tables caches) (refblocks caches) (l2_tables caches) (blocks ready.rest) (byte_at (seen old).contents) (byte_at (seen new).contents) sound.kept ready.done.kept ready.done.known))
          key has

      pub block_laid : IsFreeOf (cluster_size h) (l2_tables caches) key
          → Overlay (λ on_storage known. HasBlock h on_storage key ⊎ IsUnnamed h on_storage known key) (λ on_storage. HasBlock h on_storage key) h (seen old) caches (seen new) (record caches { rb = rb }) (laid_at h key v.bytes)
      block_laid free =
          let whole : rb ≡ with_entries caches.rb entries = others ∙ ap (with_entries caches.rb) ready.is in
          let on_storage' = byte_at (seen new).contents in
          let own : key * cluster_size h / cluster_size h ≡ key = own_cluster h.cluster_bits key in
          subst (λ (c : Cache (RefBlockCacheBackend S) ℕ RefBlockView). Overlay (λ on_storage known. HasBlock h on_storage key ⊎ IsUnnamed h on_storage known key) (λ on_storage. HasBlock h on_storage key) h (seen old) caches (seen new) (record caches { rb = c }) (laid_at h key v.bytes)) (sym whole)
          (record {
            honest = ready.done.honest;
            known = ap (λ ts. known_bytes (cluster_size h) (l2_tables caches) ts on_storage') list_is
                ∙ laid_under (cluster_size h) (laid_at h key v.bytes) (l2_tables caches) (blocks ready.rest) on_storage'
                (λ o over. free o (within_cluster (key * cluster_size h) (cluster_size h) o (mul-mod_left key (cluster_size h)) (overlays_within (cluster_size h) (laid_at h key v.bytes) o over) ∙ own))
                ∙ ap (known (cluster_size h) (laid_at h key v.bytes ∷ [])) ready.done.known;
            since = ready.done.since;
            named_blocks = λ named named_blocks.
                subst (λ es. AreNamedBlocks h (blocks es) on_storage') ready.is
                (named_blocks_anew h (order_of caches) (order_of caches) p p (l2_tables caches) (refblocks caches) (l2_tables caches) (blocks ready.rest) (byte_at (seen old).contents) on_storage' sound.kept ready.done.kept ready.done.known bits sound.rb_format.bits IsFit rb.entries
                (stand named_blocks (λ _. record { fits = own_fit; named = λ _. named_before named })));
            sound = λ p' stands crash_invariant. record {
              l2_format = sound.l2_format;
              rb_format = sound.rb_format;
              l2_fit = sound.l2_fit;
              rb_fit = subst (AllValuesFit IsFit) ready.is (fit (λ _. own_fit));
              kept = subst (λ ts. AreKept h (order_of caches) p' (l2_tables caches) ts on_storage') (sym list_is)
                  (rb_laid h (order_of caches) p (l2_tables caches) (blocks ready.rest) on_storage' ready.done.kept (laid_at h key v.bytes) (mul-mod_left key (cluster_size h)) refl p'
                  (subst (λ n. HasBlock h on_storage' n ⊎ IsUnnamed h on_storage' (known_bytes (cluster_size h) (l2_tables caches) (laid_at h key v.bytes ∷ blocks ready.rest) on_storage') n) (sym own)
                  (subst (λ ts. HasBlock h on_storage' key ⊎ IsUnnamed h on_storage' (known_bytes (cluster_size h) (l2_tables caches) ts on_storage') key) list_is stands))
                  (subst (λ ts. CrashInvariant h (order_of caches) p' on_storage' (known_bytes (cluster_size h) (l2_tables caches) ts on_storage')) list_is crash_invariant) away);
            };
          })
