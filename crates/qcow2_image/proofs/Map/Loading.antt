-- Tables are loaded, written and evicted, and bytes are read, which guests don't see.
use Rattle.std.proofs.Common.{◌≡◌, ◌+◌, ℕ, List, [], refl, sym, ap, ◌∙◌, subst, arith, Option, Result, Ok, Err, IfOk}
use Rattle.qcow2_image.proofs.Common.{IfSome, BackingView, StorageView, IsLeftBy, QuietCalls, EachMomentSince, ContentsStay, Bytes, byte_at, l1_entry, reftable_entry, count, cover, append-nil, Pending, DriverState, StateInvariant, StopOkEverywhere, unseen_known, MetadataCaches, ImageStorage, Allocator, l2_pins, CachesHaveRoom, SameTables, storage_of, HeaderFields, cluster_size, CachedTable, known, AreNamedBlocks, StorageError, l2_tables, refblocks, known_of, AreAllWritten, CacheInvariant, InternalCacheStep, state_in, view_in, contents_in, known_in, IsAllocatorOf, allocator_kept, Qcow2, Prepared, cluster_of, ImageInvariant, InternalStep, cached_safe_throughout, safe_none, safe_keep, file_invariant_of, Mappings}
use Rattle.qcow2_laws.proofs.Lists.{clean_known}
use Rattle.qcow2_image.proofs.Images.Ready.{still_ready}

-- in two sound states with the same header and the same known bytes, the tables above are the same on the storage
module _ (s s' : DriverState) (sound : StateInvariant s) (sound' : StateInvariant s') (header : s'.header ≡ s.header) (known : s'.known ≡ s.known) where
  same_l1 : (i : ℕ) → l1_entry s.header s'.on_storage i ≡ l1_entry s.header s.on_storage i
  same_l1 i = subst (λ h. l1_entry h s'.on_storage i ≡ l1_entry h s'.known i) header (sound'.same_top.l1 i) ∙ ap (λ b. l1_entry s.header b i) known ∙ sym (sound.same_top.l1 i)

  same_reftable : (k : ℕ) → reftable_entry s.header s'.on_storage k ≡ reftable_entry s.header s.on_storage k
  same_reftable k = subst (λ h. reftable_entry h s'.on_storage k ≡ reftable_entry h s'.known k) header (sound'.same_top.reftable k) ∙ ap (λ b. reftable_entry s.header b k) known ∙ sym (sound.same_top.reftable k)

module _ {S F : Type 0} (view : S → StorageView) (backing : F → BackingView) (old : Qcow2 S F) (out : Mappings) (p : Pending) (sound : ImageInvariant view backing p old out) where
  abbrev pub with_caches : ImageStorage S → MetadataCaches S → Qcow2 S F
  with_caches storage caches = record old { file = record old.file { storage = storage; caches = caches } }

  module _ (storage' : ImageStorage S) (caches' : MetadataCaches S)
      (stay : InternalCacheStep old.file.header.fields p (view_in view old.file) old.file.caches (view (storage_of storage')) caches') (room : CachesHaveRoom old.file.caches → CachesHaveRoom caches')
      (pins : (table : ℕ) → l2_pins caches' table ≡ l2_pins old.file.caches table) where
    allocator_still : (a : Option Allocator) → IfSome a (IsAllocatorOf view old.file) → IfSome a (IsAllocatorOf view (with_caches storage' caches').file)
    allocator_still = allocator_kept view old.file (with_caches storage' caches').file
        (λ t has. record {
          cluster = has.cluster;
          bits = has.bits;
          count = has.count;
          entries = λ i. has.entries i ∙ sym (same_reftable (state_in view old.file p) (state_in view (with_caches storage' caches').file p) sound.file.caches.kept.kept.crash_invariant stay.sound.kept.kept.crash_invariant refl stay.known i);
        })
        (λ k. let e = ap (λ (b : Bytes). count old.file.header.fields b k) stay.known in omega arith)

    l1_still : (i : ℕ) → l1_entry old.file.header.fields (contents_in view (with_caches storage' caches').file) i ≡ l1_entry old.file.header.fields (contents_in view old.file) i
    l1_still i = same_l1 (state_in view old.file p) (state_in view (with_caches storage' caches').file p) sound.file.caches.kept.kept.crash_invariant stay.sound.kept.kept.crash_invariant refl stay.known i

    pub caches_moved : InternalStep view backing p p old (with_caches storage' caches') out
    caches_moved = record {
      sound = record {
        works = sound.works;
        file = file_invariant_of stay.honest stay.sound (stay.named_blocks sound.file.named_blocks) (room sound.file.room);
        l1_table = record { cluster = sound.l1_table.cluster; bits = sound.l1_table.bits; count = sound.l1_table.count; entries = λ i. sound.l1_table.entries i ∙ sym (l1_still i) };
        reftable = allocator_still old.allocator sound.reftable;
        stands = sound.stands;
        below = sound.below;
        ready = λ k q at. let r = sound.ready k q at in record {
          own = r.own;
          mapped = still_ready old.file.header.fields out.place (known_in view old.file) (contents_in view old.file) (known_in view (with_caches storage' caches').file) (contents_in view (with_caches storage' caches').file)
              q sound.file.caches.kept.kept.crash_invariant.same_top.l1 stay.sound.kept.kept.crash_invariant.same_top.l1 (λ i is. l1_still i) (λ i. ap (λ b. cover old.file.header.fields b (cluster_of old.file.header.fields q + i)) (sym stay.known)) q.table r.mapped;
        };
        pinned = λ table. pins table ∙ sound.pinned table;
        once = sound.once;
      };
      safe_step = record {
        sound = stay.sound.kept.kept.crash_invariant;
        on_storage = λ bytes m kept known_kept. stay.since.contents bytes m kept known_kept;
        known = λ bytes m kept known_kept. subst (λ b. StopOkEverywhere bytes m b) (sym stay.known) known_kept;
      };
      since = cached_safe_throughout (view_in view old.file) (view (storage_of storage')) (known_in view old.file) stay.since;
      unseen = unseen_known (state_in view old.file p) (state_in view (with_caches storage' caches').file p) refl stay.known;
      copied = λ i is. l1_still i;
      below = refl;
      list = record { more = []; is = sym (append-nil old.file.free_list) };
      leaks = refl;
    }

-- if all tables are written, the known bytes are those on the storage
pub all_known : {S : Type 0} (h : HeaderFields) (caches : MetadataCaches S) (on_storage : Bytes) → AreAllWritten caches → known_of h caches on_storage ≡ on_storage
all_known h caches on_storage written = clean_known (cluster_size h) (l2_tables caches) (known (cluster_size h) (refblocks caches) on_storage) written.0 ∙ clean_known (cluster_size h) (refblocks caches) on_storage written.1

-- ---- where nothing is loaded or written

module _ {S : Type 0} (h : HeaderFields) (p : Pending) (caches caches' : MetadataCaches S) (tables : SameTables caches caches') where
  stays_at : (v : StorageView) → v.is_honest → CacheInvariant h p caches (byte_at v.contents) → InternalCacheStep h p v caches v caches'
  stays_at v honest sound = record {
    honest = honest;
    sound = tables.sound h p (byte_at v.contents) sound;
    known = tables.known h (byte_at v.contents);
    named_blocks = λ named_blocks. subst (λ (ts : List CachedTable). AreNamedBlocks h ts (byte_at v.contents)) (sym tables.refblocks) named_blocks;
    since = safe_none v (known_of h caches (byte_at v.contents));
  }

  pub stays : (v v' : StorageView) → v' ≡ v → v.is_honest → CacheInvariant h p caches (byte_at v.contents) → InternalCacheStep h p v caches v' caches'
  stays v v' same honest sound = subst (λ (w : StorageView). InternalCacheStep h p v caches w caches') (sym same) (stays_at v honest sound)

-- what is so of each answer
pub if_ok_any : {A E : Type 0} {Q : A → Type 0} (answer : Result A E) → ((x : A) → Q x) → IfOk answer Q
if_ok_any (Ok x) all = all x
if_ok_any (Err e) all = tt

-- ---- where the contents stay, while time goes on

module _ {S : Type 0} (h : HeaderFields) (p : Pending) (caches : MetadataCaches S) (v v' : StorageView) where
  pub stays_still : v'.is_honest → EachMomentSince v v' (IsLeftBy v') → v'.contents ≡ v.contents → CacheInvariant h p caches (byte_at v.contents) → InternalCacheStep h p v caches v' caches
  stays_still honest time same sound = record {
    honest = honest;
    sound = subst (λ c. CacheInvariant h p caches (byte_at c)) (sym same) sound;
    known = ap (λ c. known_of h caches (byte_at c)) same;
    named_blocks = λ named_blocks. subst (λ c. AreNamedBlocks h (refblocks caches) (byte_at c)) (sym same) named_blocks;
    since = safe_keep v v' (known_of h caches (byte_at v.contents)) time same;
  }

module _ {S F : Type 0} (view : S → StorageView) (backing : F → BackingView) (image : Qcow2 S F) (out : Mappings) (p : Pending) (sound : ImageInvariant view backing p image out) where
  pub still_moved : (storage' : ImageStorage S) → (view (storage_of storage')).is_honest → EachMomentSince (view_in view image.file) (view (storage_of storage')) (IsLeftBy (view (storage_of storage')))
      → (view (storage_of storage')).contents ≡ (view_in view image.file).contents → InternalStep view backing p p image (with_caches view backing image out p sound storage' image.file.caches) out
  still_moved storage' honest time same = caches_moved view backing image out p sound storage' image.file.caches
      (stays_still image.file.header.fields p image.file.caches (view_in view image.file) (view (storage_of storage')) honest time same sound.file.caches) (λ room. room) (λ table. refl)

  pub read_moved : {T : Type 0} {result : Result T StorageError} (storage' : ImageStorage S) → QuietCalls (view_in view image.file) (view (storage_of storage')) result → ContentsStay (view_in view image.file) (view (storage_of storage'))
      → InternalStep view backing p p image (with_caches view backing image out p sound storage' image.file.caches) out
  read_moved storage' calls keeps = still_moved storage' (calls.honest sound.file.honest) calls.time (keeps sound.file.honest)
