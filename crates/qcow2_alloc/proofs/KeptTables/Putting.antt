-- An L2 table is put into the caches, or nothing is.
use Rattle.std.proofs.Common.{◌≡◌, ◌+◌, ◌*◌, ◌%◌, ◌^◌, ◌<◌, ◌∷◌, ℕ, Bool, true, false, eqb, List, [], Option, Some, Result, Ok, refl, sym, ap, ◌∙◌, subst, IfSome}
use Rattle.qcow2_alloc.proofs.Common.{mul-mod_left, HoldsKnown, IsNone, lookup, lookup_entry, remove_entry, StorageView, Bytes, byte_at, HeaderFields, MetadataError, cluster_size, L2TableView, CachedTable, known, Pending, CrashInvariant, known_bytes, TablesMayGo, AreNamedBlocks, HasL2, HasOwnL2, Slot, CacheError, L2CacheBackend, MetadataCaches, ImageStorage, Cache, slot_of, with_entries, InsertsNew, Replaces, storage_of, l2_steps, cleared_l2, IsTableOf, cached_table, cached_tables, AllValuesFit, AreElsewhere, AreKept, laid_at, order_of, l2_tables, refblocks, CacheInvariant, InternalCacheStep, Overlay}
use Rattle.qcow2_alloc.proofs.KeptTables.BlocksNamed.{named_blocks_beside}
use Rattle.qcow2_alloc.proofs.KeptTables.Standing.{own_cluster}
use Rattle.qcow2_alloc.proofs.KeptTables.Writing.{crash_safety, Flushed, Ready, Puts, nothing_new, made_ready}
use Rattle.qcow2_alloc.proofs.KeptTables.Entries.{AreDistinct}
use Rattle.qcow2_alloc.proofs.KeptTables.Fitting.{insert_fits, replace_fits}
use Rattle.qcow2_alloc.proofs.KeptTables.Listing.{loaded_distinct, l2_drop, l2_add, l2_promote}
use Rattle.qcow2_alloc.proofs.KeptTables.Getting.{HoldsWhatStands, insert_put, replace_put, put_done}
use Rattle.qcow2_alloc.proofs.KeptTables.Flushing.{l2_step, table_still}
use Rattle.qcow2_alloc.proofs.KeptTables.Inserting.{IsTakenOrKept, found_or_not, lookup_none, table_as}
use Rattle.qcow2_alloc.proofs.KeptTables.Laying.{laid_first, l2_laid}
use Rattle.qcow2_alloc.proofs.KeptTables.Switching.{safe_then}

-- where a value may be flushed for it, the value is put in
pub put_at_last : {V E : Type 0} (key : ℕ) (v : V) (fs : List (ℕ × Slot V)) (answer : Result Bool (CacheError ℕ E)) (left : Option V) (b : Bool) → answer ≡ Ok b → IsTakenOrKept key v true fs answer left → answer ≡ Ok true
put_at_last key v fs answer left true is taken = is
put_at_last key v fs answer left false is taken = let e = taken.done is in absurd (cc)

-- ---- nothing new, and then a table is laid over
module _ {S : Type 0} (view : S → StorageView) (h : HeaderFields) (p : Pending) (r s t : ImageStorage S) (a b c : MetadataCaches S) (table : CachedTable) (Stands : Bytes → Bytes → Type 0) (IsNamed : Bytes → Type 0) where
  pub laid_then : InternalCacheStep h p (view (storage_of r)) a (view (storage_of s)) b → Overlay Stands IsNamed h (view (storage_of s)) b (view (storage_of t)) c table → Overlay Stands IsNamed h (view (storage_of r)) a (view (storage_of t)) c table
  laid_then first second = record {
    honest = second.honest;
    known = second.known ∙ ap (known (cluster_size h) (table ∷ [])) first.known;
    since = safe_then (view (storage_of r)) (view (storage_of s)) (view (storage_of t)) _ _ first.known first.since second.since;
    named_blocks = λ named named_blocks. second.named_blocks named (first.named_blocks named_blocks);
    sound = second.sound;
  }

module _ {S : Type 0} (view : S → StorageView) (old new : ImageStorage S) (caches : MetadataCaches S) (may_flush : Bool) (key : ℕ) where
  abbrev seen : ImageStorage S → StorageView
  seen s = view (storage_of s)

  -- ---- an L2 table
  module _ (l2 : Cache (L2CacheBackend S) ℕ L2TableView) (others : l2 ≡ with_entries caches.l2 l2.entries) (v : L2TableView) (value left : Option L2TableView) (is : value ≡ Some v) (answer : Result Bool (CacheError ℕ MetadataError))
      (there : IfSome (lookup_entry (eqb key) caches.l2.entries) (λ e. IfSome value (λ v.
      Replaces (l2_steps seen caches.l2.backend.header.fields) key e (remove_entry (eqb key) caches.l2.entries) v may_flush old caches.l2.entries answer new l2.entries left)))
      (missing : IsNone (lookup (eqb key) caches.l2.entries)
      → IfSome value (λ v. InsertsNew (l2_steps seen caches.l2.backend.header.fields) eqb caches.l2.size may_flush key v old caches.l2.entries answer new l2.entries left))
      (may : may_flush ≡ true → TablesMayGo (order_of caches) (refblocks caches)) (h : HeaderFields) (p : Pending) (honest : (seen old).is_honest) (sound : CacheInvariant h p caches (byte_at (seen old).contents)) where
    abbrev bits : ℕ
    bits = caches.l2.backend.header.fields.cluster_bits

    abbrev IsFit : L2TableView → Type 0
    IsFit = IsTableOf caches.l2.backend.header.fields

    abbrev P : List CachedTable → Bytes → Type 0
    P ts on_storage = AreKept h (order_of caches) p ts (refblocks caches) on_storage

    abbrev all : List CachedTable → Bytes → Bytes
    all ts on_storage = known_bytes (cluster_size h) ts (refblocks caches) on_storage

    abbrev tables : List (ℕ × Slot L2TableView) → List CachedTable
    tables = cached_tables bits (λ (t : L2TableView). t.bytes) (λ t. t.is_modified)

    distinct : (ts : List CachedTable) (on_storage : Bytes) → P ts on_storage → AreDistinct ts
    distinct ts on_storage are = loaded_distinct (cluster_size h) (HasL2 h on_storage) on_storage ts are.l2_loaded

    add : (t : CachedTable) (ts : List CachedTable) (on_storage : Bytes) → P ts on_storage → t.place % 2 ^ bits ≡ 0 → AreElsewhere t.place ts → t.is_modified ≡ false → HoldsWhatStands all (2 ^ bits) t ts on_storage
        → P (t ∷ ts) on_storage × (all (t ∷ ts) on_storage ≡ all ts on_storage)
    add t ts on_storage are aligned away clean current =
        l2_add h (order_of caches) p (refblocks caches) t ts on_storage are (subst (λ n. t.place % 2 ^ n ≡ 0) sound.l2_format.bits aligned) away clean (subst (λ n. HoldsWhatStands all (2 ^ n) t ts on_storage) sound.l2_format.bits current)

    puts : Puts seen bits (λ (t : L2TableView). t.bytes) (λ t. t.is_modified) cleared_l2 IsFit (λ v. refl) (λ v. refl) P all crash_safety key v old new caches.l2.entries l2.entries answer
    puts = found_or_not (lookup_entry (eqb key) caches.l2.entries)
        (λ none. insert_put seen bits (λ (t : L2TableView). t.bytes) (λ t. t.is_modified) cleared_l2 IsFit (λ v. refl) (λ v. refl) P all crash_safety distinct (l2_drop h (order_of caches) p (refblocks caches)) add (l2_promote h (order_of caches) p (refblocks caches)) caches.l2.size may_flush
        (λ flush. l2_step h (order_of caches) p bits sound.l2_format.bits (refblocks caches) (may flush)) key v
        old new caches.l2.entries l2.entries answer left honest sound.kept (lookup_none (eqb key) caches.l2.entries none)
        (rw is at (missing (rw (lookup_none (eqb key) caches.l2.entries none) refl))))
        (λ e some. replace_put seen bits (λ (t : L2TableView). t.bytes) (λ t. t.is_modified) cleared_l2 IsFit (λ v. refl) (λ v. refl) P all crash_safety distinct (l2_drop h (order_of caches) p (refblocks caches)) add (l2_promote h (order_of caches) p (refblocks caches)) caches.l2.size may_flush
        (λ flush. l2_step h (order_of caches) p bits sound.l2_format.bits (refblocks caches) (may flush)) key v
        old new caches.l2.entries e some honest sound.kept l2.entries answer left (rw is at (rw some at there)))

    fit : (answer ≡ Ok true → IsFit v) → AllValuesFit IsFit l2.entries
    fit fits = found_or_not (lookup_entry (eqb key) caches.l2.entries)
        (λ none. insert_fits seen bits (λ (t : L2TableView). t.bytes) (λ t. t.is_modified) cleared_l2 IsFit (table_still caches.l2.backend.header.fields) caches.l2.size may_flush old new key v caches.l2.entries l2.entries answer left fits sound.l2_fit (rw is at (missing (rw (lookup_none (eqb key) caches.l2.entries none) refl))))
        (λ e some. replace_fits seen bits (λ (t : L2TableView). t.bytes) (λ t. t.is_modified) cleared_l2 IsFit (table_still caches.l2.backend.header.fields) may_flush old new key v caches.l2.entries l2.entries e answer left some fits sound.l2_fit (rw is at (rw some at there)))

    -- The caches are as sound as before, where the call leaves what was kept.
    still_sound : Flushed seen bits (λ (t : L2TableView). t.bytes) (λ t. t.is_modified) cleared_l2 IsFit (λ v. refl) (λ v. refl) P all crash_safety old new (l2_tables caches) (tables l2.entries) → AllValuesFit IsFit l2.entries → InternalCacheStep h p (seen old) caches (seen new) (record caches { l2 = l2 })
    still_sound f fit =
        let same_backend : l2.backend ≡ caches.l2.backend = ap (λ c. c.backend) others in
        rw same_backend (record {
          honest = f.honest;
          sound = record { l2_format = sound.l2_format; rb_format = sound.rb_format; l2_fit = fit; rb_fit = sound.rb_fit; kept = f.kept };
          known = f.known;
          named_blocks = named_blocks_beside h (order_of caches) (order_of caches) p p (l2_tables caches) (refblocks caches) (tables l2.entries) (refblocks caches) (byte_at (seen old).contents) (byte_at (seen new).contents) sound.kept f.kept f.known;
          since = f.since;
        })

    pub table_kept : (answer ≡ Ok true → ⊥) → InternalCacheStep h p (seen old) caches (seen new) (record caches { l2 = l2 })
    table_kept isnt = still_sound (nothing_new seen bits (λ (t : L2TableView). t.bytes) (λ t. t.is_modified) cleared_l2 IsFit (λ v. refl) (λ v. refl) P all crash_safety key v old new caches.l2.entries l2.entries answer isnt puts) (fit (λ went. absurd (isnt went)))

    -- an unmodified one with the known contents
    pub table_put : IsTableOf h v → v.is_modified ≡ false → HoldsKnown h caches (byte_at (seen old).contents) v.bytes key → InternalCacheStep h p (seen old) caches (seen new) (record caches { l2 = l2 })
    table_put fits clean holds =
        let holds' = subst (λ n. (i : ℕ) → i < 2 ^ n → byte_at v.bytes i ≡ all (l2_tables caches) (byte_at (seen old).contents) (key * 2 ^ n + i)) (sym sound.l2_format.bits) holds in
        still_sound (put_done seen bits (λ (t : L2TableView). t.bytes) (λ t. t.is_modified) cleared_l2 IsFit (λ v. refl) (λ v. refl) P all crash_safety distinct (l2_drop h (order_of caches) p (refblocks caches)) add (l2_promote h (order_of caches) p (refblocks caches)) caches.l2.size may_flush
        (λ flush. l2_step h (order_of caches) p bits sound.l2_format.bits (refblocks caches) (may flush)) key v clean old new caches.l2.entries l2.entries answer holds' puts)
        (fit (λ _. table_as caches.l2.backend.header.fields h v sound.l2_format fits))

    module _ (went : answer ≡ Ok true) (fits : IsTableOf h v) (marked : v.is_modified ≡ true) where
      ready : Ready seen bits (λ (t : L2TableView). t.bytes) (λ t. t.is_modified) cleared_l2 IsFit (λ v. refl) (λ v. refl) P all crash_safety key v old new caches.l2.entries l2.entries
      ready = made_ready seen bits (λ (t : L2TableView). t.bytes) (λ t. t.is_modified) cleared_l2 IsFit (λ v. refl) (λ v. refl) P all crash_safety key v old new caches.l2.entries l2.entries answer went puts

      abbrev entries : List (ℕ × Slot L2TableView)
      entries = (key, slot_of v ready.pins) ∷ ready.rest

      laid_is : cached_table bits (λ (t : L2TableView). t.bytes) (λ t. t.is_modified) (key, slot_of v ready.pins) ≡ laid_at h key v.bytes
      laid_is =
          ap (λ n. record { place = key * 2 ^ n; bytes = byte_at v.bytes; is_modified = v.is_modified }) sound.l2_format.bits
          ∙ ap (λ m. record { place = key * cluster_size h; bytes = byte_at v.bytes; is_modified = m }) marked

      list_is : tables entries ≡ laid_at h key v.bytes ∷ tables ready.rest
      list_is = ap (λ (t : CachedTable). t ∷ tables ready.rest) laid_is

      away : AreElsewhere (key * cluster_size h) (tables ready.rest)
      away = subst (λ n. AreElsewhere (key * 2 ^ n) (tables ready.rest)) sound.l2_format.bits ready.away

      pub table_laid : Overlay (λ on_storage known. AreNamedBlocks h (refblocks caches) on_storage × HasOwnL2 h on_storage key) (λ on_storage. Unit {0}) h (seen old) caches (seen new) (record caches { l2 = l2 }) (laid_at h key v.bytes)
      table_laid =
          let whole : l2 ≡ with_entries caches.l2 entries = others ∙ ap (with_entries caches.l2) ready.is in
          let on_storage' = byte_at (seen new).contents in
          subst (λ (c : Cache (L2CacheBackend S) ℕ L2TableView). Overlay (λ on_storage known. AreNamedBlocks h (refblocks caches) on_storage × HasOwnL2 h on_storage key) (λ on_storage. Unit {0}) h (seen old) caches (seen new) (record caches { l2 = c }) (laid_at h key v.bytes)) (sym whole)
          (record {
            honest = ready.done.honest;
            known = ap (λ ts. known_bytes (cluster_size h) ts (refblocks caches) on_storage') list_is ∙ laid_first (cluster_size h) (laid_at h key v.bytes) (tables ready.rest) (known (cluster_size h) (refblocks caches) on_storage')
                ∙ ap (known (cluster_size h) (laid_at h key v.bytes ∷ [])) ready.done.known;
            since = ready.done.since;
            named_blocks = λ _. named_blocks_beside h (order_of caches) (order_of caches) p p (l2_tables caches) (refblocks caches) (tables ready.rest) (refblocks caches) (byte_at (seen old).contents) on_storage' sound.kept ready.done.kept ready.done.known;
            sound = λ p' stands crash_invariant. record {
              l2_format = sound.l2_format;
              rb_format = sound.rb_format;
              l2_fit = subst (AllValuesFit IsFit) ready.is (fit (λ _. table_as caches.l2.backend.header.fields h v sound.l2_format fits));
              rb_fit = sound.rb_fit;
              kept = subst (λ ts. AreKept h (order_of caches) p' ts (refblocks caches) on_storage') (sym list_is)
                  (l2_laid h (order_of caches) p (tables ready.rest) (refblocks caches) on_storage' ready.done.kept (laid_at h key v.bytes) (mul-mod_left key (cluster_size h)) refl p' away stands.0
                  (subst (HasOwnL2 h on_storage') (sym (own_cluster h.cluster_bits key)) stands.1)
                  (subst (λ ts. CrashInvariant h (order_of caches) p' on_storage' (known_bytes (cluster_size h) ts (refblocks caches) on_storage')) list_is crash_invariant));
            };
          })
