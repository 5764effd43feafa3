-- The header and the tables are loaded from the storage, and the autoclear bits are cleared: the file is as sound as before.
use Rattle.std.proofs.Common.{◌≡◌, ◌*◌, ◌/◌, ◌^◌, ℕ, [], List, Result, length, refl, sym, ap, ◌∙◌, subst, arith, Some, None, false}
use Rattle.qcow2_image.proofs.Common.{BackingView, StorageView, EachMomentSince, IsLeftBy, passes_if, Bytes, byte_at, HeaderView, cluster_size, HeaderFields, Consistent, IsConsistent, l1_entry, reftable_entry, EntryTableView, entry_table, NamesL1Table, IsL1TableOf, IsHeaderIn, entry_at, OnlyReads, MetadataError, AreNamedBlocks, Neither, Pending, CrashInvariant, nothing_pending, surplus_of, IsOpened, l1_entry-past, keep_safe_throughout, safe_throughout_then, ImageFile, ImageStorage, view_in, contents_in, nothing_given, storage_of, refblocks, known_of, CacheInvariant, own_cluster, file_invariant_of, Qcow2, is_failed, IsFresh, StaysFresh, IsLoaded, IsKeptSince, SameNames, HasNamesIn, HasL1Table, IsHonestBacking, ImageInvariant, of_data, of_tables, to_free, pending_in, abstract_of, in_image}
use Rattle.qcow2_laws.proofs.Opened.{opened_crash_invariant}
use Rattle.qcow2_alloc.specs.ImageFile.{l2_pins, CachesHaveRoom}
use Rattle.qcow2_image.proofs.Images.Sound.{pending_is}

-- names that stay are still those in the contents
pub named_still : (old new : HeaderView) (contents : List ℕ) → IsHeaderIn old contents → SameNames old new → HasNamesIn new contents
named_still old new contents is same = record { fields = refl; reads = is.reads; backing_name = same.0 ∙ is.backing_name; backing_format = same.1 ∙ is.backing_format; data_file_name = same.2 ∙ is.data_file_name }

-- ---- what is kept
pub kept_read : (old new : StorageView) → EachMomentSince old new (IsLeftBy new) → new.contents ≡ old.contents → IsKeptSince old new
kept_read old new time same = keep_safe_throughout old new (byte_at old.contents) time same

pub kept_then : (old mid new : StorageView) → IsKeptSince old mid → IsKeptSince mid new → IsKeptSince old new
kept_then old mid new first second = safe_throughout_then old mid new (byte_at old.contents) (byte_at mid.contents) nothing_given nothing_given [] [] first first.contents second

pub kept_loaded : {T : Type 0} {result : Result T MetadataError} (old new : StorageView) → OnlyReads old new result → old.is_honest → IsKeptSince old new
kept_loaded old new reads honest = kept_read old new (passes_if _ (λ c is. is ∙ sym (reads.same honest)) (reads.time honest)) (reads.same honest)

module _ {S F : Type 0} (view : S → StorageView) (backing : F → BackingView) where
  -- ---- the L1 table
  pub l1_cleared : (file : ImageFile S) (t : EntryTableView) → file.header.fields.l1_entries ≡ 0 → t ≡ entry_table file.header.fields None [] → ((i : ℕ) → entry_at t.bytes i ≡ 0) → HasL1Table view backing file t
  l1_cleared file t none is zeros = record {
    cluster = λ some. absurd (omega arith);
    bits = ap (λ (x : EntryTableView). x.cluster_bits) is;
    count = ap (λ (x : EntryTableView). length x.bytes / 8) is ∙ sym none;
    entries = λ i. zeros i ∙ sym (l1_entry-past file.header.fields (contents_in view file) i (omega arith));
  }

  pub l1_loaded : (file : ImageFile S) (storage : ImageStorage S) (t : EntryTableView) (cluster bits entries offset : ℕ) → t ≡ entry_table file.header.fields (Some cluster) t.bytes → length t.bytes ≡ 8 * entries → bits ≡ file.header.fields.cluster_bits
      → cluster * 2 ^ bits ≡ offset → offset ≡ file.header.fields.l1_offset → entries ≡ file.header.fields.l1_entries
      → (NamesL1Table file.header.fields (cluster * cluster_size file.header.fields) entries → IsL1TableOf file.header.fields (contents_in view file) t) → (view (storage_of storage)).contents ≡ (view_in view file).contents
      → HasL1Table view backing (record file { storage = storage }) t
  l1_loaded file storage t cluster bits entries offset is long same_bits at is_offset is_entries of_image same =
      let place : cluster * cluster_size file.header.fields ≡ file.header.fields.l1_offset = ap (λ n. cluster * 2 ^ n) (sym same_bits) ∙ at ∙ is_offset in
      let named = of_image (sym place, sym is_entries) in record {
        cluster = λ some. ap (λ (x : EntryTableView). x.cluster) is ∙ ap (λ n. Some n) (sym (own_cluster file.header.fields.cluster_bits cluster) ∙ ap (λ n. n / cluster_size file.header.fields) place);
        bits = ap (λ (x : EntryTableView). x.cluster_bits) is;
        count = omega (arith, long, is_entries);
        entries = λ k. named k ∙ ap (λ (c : List ℕ). l1_entry file.header.fields (byte_at c) k) (sym same);
      }

  -- ---- a storage that was read
  pub new_tables_read : (p : Pending) (file : ImageFile S) (storage : ImageStorage S) → IsFresh view backing p file → (view (storage_of storage)).is_honest → (view (storage_of storage)).contents ≡ (view_in view file).contents
      → StaysFresh view backing p file (record file { storage = storage })
  new_tables_read p file storage new_tables honest same = record {
    new_tables = record {
      sound = file_invariant_of
          honest
          (subst (λ (c : List ℕ). CacheInvariant file.header.fields p file.caches (byte_at c)) (sym same) new_tables.sound.caches)
          (subst (λ (c : List ℕ). AreNamedBlocks file.header.fields (refblocks file.caches) (byte_at c)) (sym same) new_tables.sound.named_blocks)
          new_tables.sound.room;
      inside = new_tables.inside;
      header = subst (λ (c : List ℕ). IsHeaderIn file.header c) (sym same) new_tables.header;
      clean = new_tables.clean;
      unpinned = new_tables.unpinned;
      list = new_tables.list;
    };
    l1_table = λ t has. record { cluster = has.cluster; bits = has.bits; count = has.count; entries = λ k. has.entries k ∙ ap (λ (c : List ℕ). l1_entry file.header.fields (byte_at c) k) (sym same) };
    reftable = λ t has. record { cluster = has.cluster; bits = has.bits; count = has.count; entries = λ k. has.entries k ∙ ap (λ (c : List ℕ). reftable_entry file.header.fields (byte_at c) k) (sym same) };
  }

  pub new_tables_then : (p : Pending) (old new : ImageFile S) → IsFresh view backing p old → new ≡ record old { storage = new.storage } → ((view_in view old).is_honest → (view_in view new).is_honest)
      → ((view_in view old).is_honest → (view_in view new).contents ≡ (view_in view old).contents) → StaysFresh view backing p old new
  new_tables_then p old new new_tables rest honest same =
      subst (StaysFresh view backing p old) (sym rest) (new_tables_read p old new.storage new_tables (honest new_tables.sound.honest) (same new_tables.sound.honest))

  -- the kind of the next write is set
  pub told_new_tables : (p : Pending) (old file : ImageFile S) (told : ImageStorage S) → IsFresh view backing p old → file ≡ record old { storage = file.storage } → ((view_in view old).is_honest → (view_in view file).is_honest)
      → ((view_in view old).is_honest → (view_in view file).contents ≡ (view_in view old).contents) → EachMomentSince (view_in view old) (view_in view file) (IsLeftBy (view_in view file)) → storage_of told ≡ storage_of file.storage
      → IsFresh view backing p (record file { storage = told }) × IsKeptSince (view_in view old) (view (storage_of told))
  told_new_tables p old file told new_tables rest honest same time is =
      let read = new_tables_then p old file new_tables rest honest same in (
        (new_tables_read p file told read.new_tables (subst (λ s. (view s).is_honest) (sym is) read.new_tables.sound.honest) (ap (λ s. (view s).contents) is)).new_tables,
        subst (λ s. IsKeptSince (view_in view old) (view s)) (sym is) (kept_read (view_in view old) (view_in view file) time (same new_tables.sound.honest)),
      )

  -- after the header the tables are loaded
  pub kept_opened : {T : Type 0} (result : Result T MetadataError) (first old last : S) (file new : ImageFile S) → first ≡ old → last ≡ storage_of new.storage → OnlyReads (view first) (view_in view file) result
      → ((view first).is_honest → IsConsistent (byte_at (view first).contents) → IsKeptSince (view_in view file) (view_in view new)) → (view old).is_honest → IsConsistent (byte_at (view old).contents) → IsKeptSince (view old) (view last)
  kept_opened result first old last file new same_old same_last reads rest =
      subst (λ s. (view s).is_honest → IsConsistent (byte_at (view s).contents) → IsKeptSince (view s) (view last)) same_old
      (λ honest consistent. subst (λ s. IsKeptSince (view first) (view s)) (sym same_last)
      (kept_then (view first) (view_in view file) (view_in view new) (kept_loaded {result = result} (view first) (view_in view file) reads honest) (rest honest consistent)))

  pub stays_then : (p : Pending) (a b c : ImageFile S) → StaysFresh view backing p a b → StaysFresh view backing p b c → StaysFresh view backing p a c
  stays_then p a b c first second = record {
    new_tables = second.new_tables;
    l1_table = λ t has. second.l1_table t (first.l1_table t has);
    reftable = λ t has. second.reftable t (first.reftable t has);
  }

  -- ---- the image
  -- the header of a consistent image, and new caches
  pub new_tables_new : (contents : List ℕ) (file : ImageFile S) → IsConsistent (byte_at contents) → (view_in view file).is_honest → (view_in view file).contents ≡ contents → IsHeaderIn file.header contents
      → ((p : Pending) (on_storage : Bytes) → CrashInvariant file.header.fields Neither p on_storage on_storage → CacheInvariant file.header.fields p file.caches on_storage)
      → ((on_storage : Bytes) → known_of file.header.fields file.caches on_storage ≡ on_storage) → ((on_storage : Bytes) → AreNamedBlocks file.header.fields (refblocks file.caches) on_storage)
      → CachesHaveRoom file.caches → ((cluster : ℕ) → l2_pins file.caches cluster ≡ 0) → file.free_list ≡ [] → IsFresh view backing (nothing_pending (surplus_of file.header.fields (byte_at contents))) file
  new_tables_new contents file consistent honest same there sound known named_blocks room pins list =
      let p = nothing_pending (surplus_of file.header.fields (byte_at contents)) in
      let crash_invariant : CrashInvariant file.header.fields Neither p (byte_at contents) (byte_at contents) =
      opened_crash_invariant file.header.fields (byte_at contents) (subst (λ k. Consistent k (byte_at contents)) (sym there.fields) consistent) (sym there.fields) in record {
        sound = file_invariant_of
            honest
            (subst (λ (c : List ℕ). CacheInvariant file.header.fields (nothing_pending (surplus_of file.header.fields (byte_at contents))) file.caches (byte_at c)) (sym same) (sound p (byte_at contents) crash_invariant))
            (named_blocks (contents_in view file))
            room;
        inside = ap (λ (h : HeaderFields). h.incompatible) there.fields ∙ consistent.no_data_file;
        header = subst (IsHeaderIn file.header) (sym same) there;
        clean = known;
        unpinned = pins;
        list = list;
      }

  pub opened : (image : Qcow2 S F) (surplus : ℕ → ℕ) → is_failed image ≡ false → image.data_file ≡ None → IsHonestBacking view backing image.backing → IsLoaded view backing (nothing_pending surplus) image.file image.l1_table image.allocator
      → IsOpened (abstract_of view backing image (in_image [])) × ((abstract_of view backing image (in_image [])).surplus ≡ surplus)
  opened image surplus works alone below loaded =
      let p = nothing_pending surplus in
      let at : ImageInvariant view backing p image (in_image []) = record {
        works = works;
        file = loaded.new_tables.sound;
        l1_table = loaded.l1_table;
        reftable = loaded.reftable;
        stands = record { inside = loaded.new_tables.inside; alone = alone };
        below = below;
        ready = λ k q none. absurd cc;
        pinned = loaded.new_tables.unpinned;
        once = λ table. omega arith;
      } in
      let is : p ≡ pending_in view backing image (in_image []) = pending_is view backing image (in_image []) p loaded.new_tables.sound.caches.kept.kept.crash_invariant loaded.new_tables.inside (record {
        new_data = λ k. refl;
        new_tables = λ k. refl;
        old_tables = λ k. ap (λ l. to_free of_tables l k) (sym loaded.new_tables.list);
        old_data = λ k. ap (λ l. to_free of_data l k) (sym loaded.new_tables.list);
      }) in
      (record { sound = subst (λ q. ImageInvariant view backing q image (in_image [])) is at; clean = loaded.new_tables.clean (contents_in view image.file) }, sym (ap (λ (q : Pending). q.surplus) is))
