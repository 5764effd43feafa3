-- New refblocks in the caches: they lie in clusters that nothing names, and nothing else of what is known changes.
use Rattle.std.proofs.Common.{◌≡◌, ◌⊎◌, ◌+◌, ◌-◌, ◌*◌, ◌/◌, ◌%◌, ◌<◌, ◌≤◌, ◌==◌, ◌∷◌, inl, inr, ℕ, max, Bool, true, false, cond, IsTrue, List, [], length, Option, Some, None, Result, Ok, Err, IfErr, OnOk, refl, sym, ap, ◌∙◌, subst, arith, IfSome}
use Rattle.qcow2_alloc.proofs.Common.{cases_eq, cond-true, cond-false, eq-eqb, ne_eqb, or_right, pow_pos, StorageView, Bytes, byte_at, HeaderFields, L2Mapping, HeaderView, cluster_size, count, EntryTableView, named_for_tables, RefBlockView, CachedTable, overlays, Checkpoint, SafeThroughout, StopOkEverywhere, IsFreeAt, IsFreeOf, AreClean, AreNamedBlocks, BlocksMayGo, HasBlock, Direction, Pending, CrashInvariant, IsTop, IsMixed, SameTop, SameCovers, SameCounts, SameIn, names, named_by_guest, named_in_either, over_guests, IsSameOutside, IsUnnamed, IsWritten, unnamed_free_l2, over_guests-le, over_guests-same, unseen_none, unseen_known, unseen_then, l1_same_then, known-none, known_elsewhere, no_overlay, overlays_within, unmodified_over, within_cluster, cluster_within, Sizes, mixed_crash_invariant, mixed_either, top_stays, covers_stay, counts_stay, SameTop-refl, SameTop-sym, SameTop-trans, IsTop-top, for_tables-top, Allocator, MetadataCaches, ImageError, Room, ImageFile, ImageStorage, run_at, InternalAllocatorStep, HeldStep, KeepsSoundly, IsGrown, nothing_given, view_in, contents_in, known_in, state_in, FileInvariant, AllocatorInvariant, RefusedFileStep, storage_of, is_changed_of, KeepMarks, order_of, l2_tables, refblocks, rb_at, laid_at, CacheInvariant, HavePlaces, InternalCacheStep, Overlay, OverlaysBlock, WritesInOrder, IsBlockOf, room_length, placed_at, AreFree, CountNew, InternalNewBlocks, HasCached, HasCachedBlock, PlacesBlocks, RefusedNewBlocks}
use Rattle.qcow2_laws.proofs.Lists.{known_there as known_over}
use Rattle.qcow2_laws.proofs.Writes.{same_crash_invariant, written_known_kept}
use Rattle.qcow2_alloc.specs.ImageFile.{IsFault}
use Rattle.qcow2_alloc.proofs.AllocationSteps.{allocator_step_then, is_sound_now}
use Rattle.qcow2_alloc.proofs.FileInvariants.{file_invariant_of}
use Rattle.qcow2_alloc.proofs.FileSteps.{cached_safe_throughout, file_step_none, safe_throughout_then}
use Rattle.qcow2_alloc.proofs.KeptTables.Getting.{cluster_aligned}
use Rattle.qcow2_alloc.proofs.KeptTables.Standing.{own_cluster}
use Rattle.qcow2_alloc.proofs.PlacedBlocks.{in_own, file_sizes, known_there}
use Rattle.qcow2_alloc.proofs.RoomTables.{counting_still, in_longer}
use Rattle.qcow2_alloc.proofs.Runs.{run_last, none_there}

-- ---- other bytes are known of a cluster that nothing names
module _ (h : HeaderFields) (d : Direction) (q : Pending) (on_storage known₀ known₁ : Bytes) (sound : CrashInvariant h d q on_storage known₀) (c : ℕ) (unnamed : IsUnnamed h on_storage known₀ c) (unheld : q.new_data c ≡ 0)
    (outside : IsSameOutside (cluster_size h) c known₀ known₁) where
  is_top : IsTop h known₀
  is_top = IsTop-top h on_storage known₀ sound.same_top sound.top

  stays : (k : ℕ) → 0 < named_for_tables h known₀ k → SameIn (cluster_size h) k known₀ known₁
  stays k some o in_k = outside o (λ here.
      let same = for_tables-top h on_storage known₀ k sound.same_top in
      let none : named_for_tables h on_storage k ≡ 0 = ap (named_for_tables h on_storage) (sym in_k ∙ here) ∙ unnamed.no_table in
      omega (arith, some, same, none))

  known_top : SameTop h known₀ known₁
  known_top = top_stays h known₀ known₁ is_top stays

  pub laid_covers : SameCovers h known₀ known₁
  laid_covers = covers_stay h known₀ known₁ is_top stays

  pub laid_counts : SameCounts h known₀ known₁
  laid_counts = counts_stay h known₀ known₁ is_top stays

  pub unused : over_guests h (names h known₀ c) ≡ 0
  unused =
      let le = over_guests-le h (names h known₀ c) (λ g. max (names h on_storage c g) (names h known₀ c g)) (λ g. omega arith) in
      let none = unnamed.no_entry in
      omega (arith, le, none)

  elsewhere : (o : ℕ) → 0 < named_in_either h on_storage known₀ (o / cluster_size h) + q.new_data (o / cluster_size h) → known₀ o ≡ known₁ o
  elsewhere o some = outside o (λ here.
      let none : named_in_either h on_storage known₀ (o / cluster_size h) ≡ 0 = ap (named_in_either h on_storage known₀) here ∙ unnamed.no_entry in
      let no_data : q.new_data (o / cluster_size h) ≡ 0 = ap q.new_data here ∙ unheld in
      omega (arith, some, none, no_data))

  pub laid_invariant : CrashInvariant h d q on_storage known₁
  laid_invariant =
      same_crash_invariant h d q on_storage known₀ on_storage known₁ sound (SameTop-refl h on_storage) known_top (λ g. refl) laid_covers (λ k. refl) laid_counts (λ o some. sound.not_overlaid o some ∙ elsewhere o some)

  pub laid_unnamed : (k : ℕ) → IsUnnamed h on_storage known₀ k → IsUnnamed h on_storage known₁ k
  laid_unnamed k free = record {
    no_table = free.no_table;
    no_entry = over_guests-same h _ _ (λ g. ap (λ (m : L2Mapping). max (names h on_storage k g) (named_by_guest h k m)) (sym (laid_covers g))) ∙ free.no_entry;
  }

  -- as if the storage had them too
  abbrev both : Bytes
  both = λ o. cond (o / cluster_size h == c) (known₁ o) (on_storage o)

  both_written : IsWritten h on_storage known₀ both known₁ []
  both_written = record {
    agree = λ o same. elim (cases_eq (o / cluster_size h) c) [
      | inl here ↦ cond-true {A = ℕ} (o / cluster_size h == c) (known₁ o) (on_storage o) (eq-eqb _ c here)
      | inr other ↦ cond-false {A = ℕ} (o / cluster_size h == c) (known₁ o) (on_storage o) (ne_eqb _ c other) ∙ same ∙ outside o other
    ];
    each = λ k. elim (cases_eq k c) [
      | inl here ↦ inr (inl (subst (IsUnnamed h on_storage known₀) (sym here) unnamed))
      | inr other ↦ inl (
        (λ o in_k. sym (cond-false {A = ℕ} (o / cluster_size h == c) (known₁ o) (on_storage o) (ne_eqb _ c (λ here. other (sym in_k ∙ here))))),
        (λ o in_k. outside o (λ here. other (sym in_k ∙ here))),
      )
    ];
  }

  pub laid_kept : (backing : Bytes) (m : Checkpoint) → StopOkEverywhere backing m known₀ → StopOkEverywhere backing m known₁
  laid_kept backing m ok = written_known_kept h d q on_storage known₀ both known₁ [] sound both_written backing m ok

-- ---- some tables are written
module _ (h : HeaderFields) (d : Direction) (q : Pending) (on_storage known₀ b : Bytes) (sound : CrashInvariant h d q on_storage known₀) (mixed : IsMixed h d on_storage known₀ b) where
  pub mixed_top : SameTop h on_storage b
  mixed_top = SameTop-trans h on_storage known₀ b sound.same_top (SameTop-sym h b known₀ (mixed_crash_invariant h d q on_storage known₀ b sound mixed).same_top)

  pub mixed_unnamed : (k : ℕ) → IsUnnamed h on_storage known₀ k → IsUnnamed h b known₀ k
  mixed_unnamed k free = record {
    no_table = sym (for_tables-top h on_storage b k mixed_top) ∙ free.no_table;
    no_entry = let le = mixed_either h d q on_storage known₀ b sound mixed k in let none = free.no_entry in omega (arith, le, none);
  }

clean_free : (size : ℕ) (ts : List CachedTable) → AreClean ts → (o : ℕ) → IsFreeAt size ts o
clean_free size [] clean o = tt
clean_free size (t ∷ ts) clean o = (unmodified_over size t o clean.0, clean_free size ts clean.1 o)

-- where none is modified, each that is has its name
pub clean_named : (h : HeaderFields) (ts : List CachedTable) (on_storage : Bytes) → AreClean ts → AreNamedBlocks h ts on_storage
clean_named h ts on_storage clean c = inl (λ o in_c. clean_free (cluster_size h) ts clean o)

module _ {S : Type 0} (view : S → StorageView) (q : Pending) (a : Allocator) where
  -- ---- none is cached yet
  pub new_blocks_none : (first n : ℕ) (file : ImageFile S) → AllocatorInvariant view a q file → AreFree view q file first n → InternalNewBlocks view q file a file first n
  new_blocks_none first n file sound free =
      let step = file_step_none view q file sound.sound in
      record {
        honest = sound.sound.honest;
        caches = sound.sound.caches;
        room = sound.sound.room;
        reftable = sound.reftable;
        safe_step = step.safe_step;
        since = step.since;
        unseen = step.unseen;
        l1_table = step.l1_table;
        counts = λ k. refl;
        free = free;
        named = inl sound.sound.named_blocks;
      }

  -- ---- all are written
  pub new_blocks_named : (first n : ℕ) (old file : ImageFile S) → file.header ≡ old.header → InternalNewBlocks view q old a file first n → AreNamedBlocks file.header.fields (refblocks file.caches) (contents_in view file) → InternalAllocatorStep view q old a file q
  new_blocks_named first n old file same blocks named = record {
    file_step = record {
      sound = file_invariant_of blocks.honest blocks.caches named blocks.room;
      safe_step = blocks.safe_step;
      since = blocks.since;
      unseen = blocks.unseen;
      l1_table = blocks.l1_table;
      counts = λ k.
          let is : count old.header.fields (known_in view old) k ≡ count file.header.fields (known_in view file) k = ap (λ (x : HeaderView). count x.fields (known_in view old) k) (sym same) ∙ blocks.counts k in
          omega (arith, is);
    };
    reftable = blocks.reftable;
  }

  module _ (first n : ℕ) (old f : ImageFile S) (storage : ImageStorage S) (caches : MetadataCaches S) (blocks : InternalNewBlocks view q old a f first n)
      (ordered : WritesInOrder view f.storage f.caches storage) (marks : KeepMarks view f.storage f.caches storage caches) where
    abbrev h : HeaderFields
    h = f.header.fields

    abbrev called : ImageFile S
    called = record f { storage = storage; caches = caches }

    crash_invariant : CrashInvariant h (order_of f.caches) q (contents_in view f) (known_in view f)
    crash_invariant = blocks.caches.kept.kept.crash_invariant

    mixed : IsMixed h (order_of f.caches) (contents_in view f) (known_in view f) (contents_in view called)
    mixed = (ordered h q blocks.honest blocks.caches).contents

    top : SameTop h (contents_in view f) (contents_in view called)
    top = mixed_top h (order_of f.caches) q (contents_in view f) (known_in view f) (contents_in view called) crash_invariant mixed

    still_unnamed : (k : ℕ) → IsUnnamed h (contents_in view f) (known_in view f) k → IsUnnamed h (contents_in view called) (known_in view f) k
    still_unnamed = mixed_unnamed h (order_of f.caches) q (contents_in view f) (known_in view f) (contents_in view called) crash_invariant mixed

    -- ---- a call of the caches
    pub new_blocks_kept : InternalCacheStep h q (view_in view f) f.caches (view (storage_of storage)) caches → InternalNewBlocks view q old a called first n
    new_blocks_kept kept = record {
      honest = kept.honest;
      caches = kept.sound;
      room = marks.pins.room blocks.room;
      reftable = record { cluster = blocks.reftable.cluster; bits = blocks.reftable.bits; count = blocks.reftable.count; entries = λ k. blocks.reftable.entries k ∙ top.reftable k };
      safe_step = record {
        sound = kept.sound.kept.kept.crash_invariant;
        on_storage = λ backing m ok known_ok. kept.since.contents backing m (blocks.safe_step.on_storage backing m ok known_ok) (blocks.safe_step.known backing m ok known_ok);
        known = λ backing m ok known_ok. subst (StopOkEverywhere backing m) (sym kept.known) (blocks.safe_step.known backing m ok known_ok);
      };
      since = safe_throughout_then view old f called blocks.since blocks.safe_step.known (cached_safe_throughout (view_in view f) (view_in view called) (known_in view f) kept.since);
      unseen = unseen_then (state_in view old q) (state_in view f q) (state_in view called q) blocks.unseen (unseen_known (state_in view f q) (state_in view called q) refl kept.known) (λ k some. some);
      l1_table = l1_same_then (state_in view old q) (state_in view f q) (state_in view called q) blocks.unseen.header blocks.l1_table (λ i. sym (top.l1 i));
      counts = λ k. blocks.counts k ∙ ap (λ (b : Bytes). count h b k) (sym kept.known);
      free = λ k some. (subst (λ (b : Bytes). IsUnnamed h (contents_in view called) b k) (sym kept.known) (still_unnamed k (blocks.free k some).0), (blocks.free k some).1);
      named = elim blocks.named [ inl named ↦ inl (kept.named_blocks named) | inr recorded ↦ inr (marks.pins.changes.recorded recorded) ];
    }

    -- what inserting a refblock lays over what is known
    pub overlay_of : (at : ℕ) (block : RefBlockView) → OverlaysBlock view f.storage f.caches storage caches block → IsBlockOf h block → block.is_modified ≡ true → block.cluster ≡ Some at → 0 < run_at first n at
        → Overlay (λ on_storage known. HasBlock h on_storage at ⊎ IsUnnamed h on_storage known at) (λ on_storage. HasBlock h on_storage at) h (view_in view f) f.caches (view (storage_of storage)) caches (laid_at h at block.bytes)
    overlay_of at block lays fits modified is some =
        subst (λ (o : Option ℕ). IfSome o (λ k. IsFreeOf (cluster_size h) (l2_tables f.caches) k
        → Overlay (λ on_storage known. HasBlock h on_storage k ⊎ IsUnnamed h on_storage known k) (λ on_storage. HasBlock h on_storage k) h (view_in view f) f.caches (view (storage_of storage)) caches (laid_at h k block.bytes))) is
        (lays h q blocks.honest blocks.caches fits modified)
        (unnamed_free_l2 h (order_of f.caches) q (l2_tables f.caches) (refblocks f.caches) (contents_in view f) blocks.caches.kept.kept at (blocks.free at some).0.no_table)

    -- ---- a new one is put into the cache
    module _ (at : ℕ) (block : RefBlockView) (some : 0 < run_at first n at)
        (laid : Overlay (λ on_storage known. HasBlock h on_storage at ⊎ IsUnnamed h on_storage known at) (λ on_storage. HasBlock h on_storage at) h (view_in view f) f.caches (view (storage_of storage)) caches (laid_at h at block.bytes)) where
      abbrev t : CachedTable
      t = laid_at h at block.bytes

      aligned : t.place % cluster_size h ≡ 0
      aligned = cluster_aligned at h.cluster_bits

      own : t.place / cluster_size h ≡ at
      own = own_cluster h.cluster_bits at

      pub put_outside : IsSameOutside (cluster_size h) at (known_in view f) (known_in view called)
      put_outside o other =
          let past = no_overlay (cluster_size h) t o (λ over. other (within_cluster t.place (cluster_size h) o aligned (overlays_within (cluster_size h) t o over) ∙ own)) in
          sym (ap (λ (b : Bytes). b o) laid.known ∙ known_elsewhere (cluster_size h) [] [] t (known_in view f) o past ∙ known-none (cluster_size h) [] (known_in view f) o tt)

      pub put_inside : (i : ℕ) → i < cluster_size h → byte_at block.bytes i ≡ known_in view called (at * cluster_size h + i)
      put_inside i lt =
          let o : ℕ = at * cluster_size h + i in
          let in_it : o / cluster_size h ≡ t.place / cluster_size h = in_own h.cluster_bits at i lt ∙ sym own in
          let over : overlays (cluster_size h) t o ≡ true = cluster_within t.place (cluster_size h) o (pow_pos h.cluster_bits) aligned in_it in
          let rest : at * cluster_size h + i - at * cluster_size h ≡ i = omega arith in
          sym (ap (λ (b : Bytes). b o) laid.known ∙ known_over (cluster_size h) [] [] t (known_in view f) o (aligned, (λ p over. tt), tt) over ∙ ap (byte_at block.bytes) rest)

      crash_invariant_now : CrashInvariant h (order_of f.caches) q (contents_in view called) (known_in view f)
      crash_invariant_now = mixed_crash_invariant h (order_of f.caches) q (contents_in view f) (known_in view f) (contents_in view called) crash_invariant mixed

      unnamed_now : IsUnnamed h (contents_in view called) (known_in view f) at
      unnamed_now = still_unnamed at (blocks.free at some).0

      unheld : q.new_data at ≡ 0
      unheld = (blocks.free at some).1

      free_put : AreFree view q called first n
      free_put k within = (
        laid_unnamed h (order_of f.caches) q (contents_in view called) (known_in view f) (known_in view called) crash_invariant_now at unnamed_now unheld put_outside k (still_unnamed k (blocks.free k within).0),
        (blocks.free k within).1,
      )

      sound_put : CacheInvariant h q caches (contents_in view called)
      sound_put =
          laid.sound q (inr (free_put at some).0)
          (subst (λ (d : Direction). CrashInvariant h d q (contents_in view called) (known_in view called)) (sym marks.order)
          (laid_invariant h (order_of f.caches) q (contents_in view called) (known_in view f) (known_in view called) crash_invariant_now at unnamed_now unheld put_outside))

      -- and the change is recorded
      new_block_put : (b : Bool) (m : ℕ) → IsTrue b → InternalNewBlocks view q old a (record f { storage = storage; caches = record caches { is_changed = b; changes = m } }) first n
      new_block_put b m recorded = record {
        honest = laid.honest;
        caches = record { l2_format = sound_put.l2_format; rb_format = sound_put.rb_format; l2_fit = sound_put.l2_fit; rb_fit = sound_put.rb_fit; kept = sound_put.kept };
        room = (let room = marks.pins.room blocks.room in record { tables = room.tables; some = room.some; free = room.free });
        reftable = record { cluster = blocks.reftable.cluster; bits = blocks.reftable.bits; count = blocks.reftable.count; entries = λ k. blocks.reftable.entries k ∙ top.reftable k };
        safe_step = record {
          sound = sound_put.kept.kept.crash_invariant;
          on_storage = λ backing m ok known_ok. laid.since.contents backing m (blocks.safe_step.on_storage backing m ok known_ok) (blocks.safe_step.known backing m ok known_ok);
          known = λ backing m ok known_ok.
              laid_kept h (order_of f.caches) q (contents_in view called) (known_in view f) (known_in view called) crash_invariant_now at unnamed_now unheld put_outside backing m (blocks.safe_step.known backing m ok known_ok);
        };
        since = safe_throughout_then view old f called blocks.since blocks.safe_step.known (cached_safe_throughout (view_in view f) (view_in view called) (known_in view f) laid.since);
        unseen = unseen_then (state_in view old q) (state_in view f q) (state_in view called q) blocks.unseen
            (record {
              header = (unseen_none (state_in view f q)).header;
              covers = laid_covers h (order_of f.caches) q (contents_in view called) (known_in view f) (known_in view called) crash_invariant_now at unnamed_now unheld put_outside;
              bytes = λ o used. sym (put_outside o (λ here.
                  let none : over_guests h (names h (known_in view f) (o / cluster_size h)) ≡ 0 = ap (λ k. over_guests h (names h (known_in view f) k)) here
                  ∙ unused h (order_of f.caches) q (contents_in view called) (known_in view f) (known_in view called) crash_invariant_now at unnamed_now unheld put_outside in
                  let no_data : q.new_data (o / cluster_size h) ≡ 0 = ap q.new_data here ∙ unheld in
                  omega (arith, used, none, no_data)));
            })
            (λ k some. some);
        l1_table = l1_same_then (state_in view old q) (state_in view f q) (state_in view called q) blocks.unseen.header blocks.l1_table (λ i. sym (top.l1 i));
        counts = λ k. blocks.counts k ∙ laid_counts h (order_of f.caches) q (contents_in view called) (known_in view f) (known_in view called) crash_invariant_now at unnamed_now unheld put_outside k;
        free = free_put;
        named = inr recorded;
      }

      pub has_cached_block : (now : MetadataCaches S) → now ≡ record caches { is_changed = now.is_changed; changes = now.changes } → IsTrue now.is_changed → HavePlaces h caches → length block.bytes ≡ cluster_size h
          → HasCachedBlock view q old a (record f { storage = storage; caches = now }) f first n at block.bytes
      has_cached_block now same recorded places long =
          subst (λ (x : MetadataCaches S). HasCachedBlock view q old a (record f { storage = storage; caches = x }) f first n at block.bytes) (sym same) (record {
            blocks = new_block_put now.is_changed now.changes recorded;
            places = places;
            stands = λ i lt. put_inside i (subst (λ m. i < m) long lt);
            outside = put_outside;
          })

module _ {S : Type 0} (view : S → StorageView) (q : Pending) (a : Allocator) where
  -- ---- all refblocks are written, the new ones too
  pub new_blocks_flushed : (old f : ImageFile S) (storage : ImageStorage S) (caches : MetadataCaches S) (before after : EntryTableView) (room : Room) (result : Result (Unit {0}) ImageError) → FileInvariant view q old → f.header ≡ old.header
      → HasCached view q old a f before after room → KeepsSoundly view f.storage f.caches storage caches → KeepMarks view f.storage f.caches storage caches → IfErr result IsFault → OnOk result (AreClean (refblocks caches))
      → OnOk result (BlocksMayGo (order_of caches) (l2_tables caches)) → PlacesBlocks view q old a (record f { storage = storage; caches = caches }) before after room result
  new_blocks_flushed old f storage caches before after room (Err e) sound same cached keeps marks fault clean may =
      (fault, new_blocks_kept view q a room.first (room_length room) old f storage caches cached.blocks keeps.ordered marks (keeps.keeps f.header.fields q cached.blocks.honest cached.blocks.caches))
  new_blocks_flushed old f storage caches before after room (Ok x) sound same cached keeps marks fault clean may =
      let first = room.first in
      let n = room_length room in
      let h = f.header.fields in
      let flushed : ImageFile S = record f { storage = storage; caches = caches } in
      let stays = keeps.keeps h q cached.blocks.honest cached.blocks.caches in
      let kept = new_blocks_kept view q a first n old f storage caches cached.blocks keeps.ordered marks stays in
      let step = new_blocks_named view q a first n old flushed same kept (clean_named h (refblocks caches) (contents_in view flushed) clean) in
      let grown = subst (λ (x : HeaderView). IsGrown x.fields before (placed_at after (first + room.blocks)) first room.blocks room.clusters) (sym same) cached.grown in
      let sizes = subst (λ (x : HeaderView). Sizes x.fields) (sym same) (file_sizes view q old sound) in
      record {
        allocator_step = step;
        free = kept.free;
        grown = cached.grown;
        counts = counting_still h sizes (known_in view flushed) (contents_in view flushed) before (placed_at after (first + room.blocks)) first room.blocks room.clusters n grown
            (subst (λ (b : Bytes). CountNew h b before after first n) (sym stays.known) cached.counts)
            (λ c some. let free = kept.free c (in_longer first room.blocks n c (omega arith) some) in known_there view q flushed c step.file_step.sound (record { unnamed = free.0; unheld = free.1 }));
        clean = clean;
        may = may;
      }

  -- ---- a refusal, after which the new refblocks were dropped
  pub new_blocks_refused : (first n : ℕ) (old f new : ImageFile S) (e : ImageError) → f.header ≡ old.header → new ≡ record f { caches = new.caches } → HeldStep f.caches new.caches → RefusedNewBlocks view q old a f first n e
      → (AllocatorInvariant view a q f → AreFree view q f first n → InternalAllocatorStep view q f a new q) → RefusedFileStep view q old a new e
  new_blocks_refused first n old f new e same rest held refused drops = elim refused.1.named [
    | inl named ↦
        let one = new_blocks_named view q a first n old f same refused.1 named in
        let all = allocator_step_then view q q old f new a a one (drops (is_sound_now view q q old f a one) refused.1.free) in
        inl (all.file_step, all.reftable)
    | inr recorded ↦ inr (record {
      fault = refused.0;
      recorded = λ _. or_right (is_changed_of new.storage) new.caches.is_changed (held.marks.changes.recorded recorded);
      since = subst (λ (x : ImageFile S). SafeThroughout (view_in view old) (view_in view x) (known_in view old) nothing_given []) (sym rest) refused.1.since;
    })
  ]

-- a fact of the place that a refblock has
pub of_place : (P : ℕ → Type 0) (o : Option ℕ) (at : ℕ) → o ≡ Some at → IfSome o P → P at
of_place P o at is holds = subst (λ (x : Option ℕ). IfSome x P) is holds

-- no refblock is cached for one cluster more of a run
pub uncached_next : {S : Type 0} (old new : MetadataCaches S) (first cluster : ℕ) → first ≤ cluster → ((c : ℕ) → cluster == c ≡ false → rb_at new c ≡ rb_at old c) → rb_at new cluster ≡ None
    → ((c : ℕ) → 0 < run_at first (cluster - first) c → rb_at old c ≡ None) → (c : ℕ) → 0 < run_at first (cluster + 1 - first) c → rb_at new c ≡ None
uncached_next old new first cluster from others gone before c some = elim (cases_eq c cluster) [
  | inl here ↦ ap (λ k. rb_at new k) here ∙ gone
  | inr other ↦
      let last = run_last first (cluster - first) c in
      let here : first + (cluster - first) ≡ cluster = omega (arith, from) in
      let more : cluster - first + 1 ≡ cluster + 1 - first = omega (arith, from) in
      let same = ap (λ k. run_at first k c) more in
      let none = none_there (first + (cluster - first)) c (λ e. other (e ∙ here)) in
      others c (ne_eqb cluster c (λ e. other (sym e))) ∙ before c (omega (arith, some, last, same, none))
]
