-- Replacing the reftable by a longer one: in memory, then at a place with room, and the old one is listed to be freed.
use Rattle.std.proofs.Common.{◌≡◌, ◌⊎◌, ◌+◌, ◌-◌, ◌*◌, ◌/◌, ◌%◌, ◌^◌, ◌==◌, ◌∷◌, ◌++◌, inl, IsTrue, ℕ, List, length, [], Some, Result, Ok, Err, refl, sym, ap, ◌∙◌, subst, arith, IfErr}
use Rattle.qcow2_alloc.proofs.Common.{KeepsUsed, cond-true, eq-eqb, div-add-mod', StorageView, sum_below, HeaderFields, HeaderView, cluster_size, entries_per_cluster, block_offset, EntryTableView, IsRefTable, entry_count, in_cluster, table_in, entry_at, Pending, Sizes, sum_below-same, sum_below-longer, Allocator, ClustersToFreeEntry, ImageError, ImageFile, InternalAllocatorStep, InternalAllocatorGrowth, metadata_entry, of_data, of_tables, to_free, pending_then, IsCloneOf, named_by_reftable_entries, counted_run, with_run, without_reftable, NamesReftable, EntersReftable, FileInvariant, HasReftable, RefusedFileStep, IsFaultOr, IsLonger}
use Rattle.qcow2_alloc.proofs.Lemmas.{on_of, allocator_step_on, leaves_as, pending_same, free_more, used_stays, uses_then, file_sizes, ends_room, file_invariant_of}
use Rattle.qcow2_alloc.proofs.GrownTables.{whole_clusters}
use Rattle.qcow2_alloc.proofs.NamedReftables.{reftable_run}

-- ---- in memory: the entries that it has more name nothing
none_named : (h : HeaderFields) (c e : ℕ) → e ≡ 0 → table_in h c (block_offset e) ≡ 0
none_named h c e zero =
    let none : block_offset e ≡ 0 = ap block_offset zero in
    cond-true {A = ℕ} (block_offset e == 0) 0 (in_cluster h c (block_offset e)) (eq-eqb _ 0 none)

named_alike : (h : HeaderFields) (old t : EntryTableView) → IsCloneOf old t → (c : ℕ) → named_by_reftable_entries h t c ≡ named_by_reftable_entries h old c
named_alike h old t clone c =
    let more : entry_count old + (entry_count t - entry_count old) ≡ entry_count t = let le = clone.longer in omega arith in
    sum_below-same (entry_count t) (λ k. table_in h c (block_offset (entry_at t.bytes k))) (λ k. table_in h c (block_offset (entry_at old.bytes k))) (λ k lt. ap (λ e. table_in h c (block_offset e)) (clone.entries k))
    ∙ ap (λ n. sum_below n (λ k. table_in h c (block_offset (entry_at old.bytes k)))) (sym more)
    ∙ sum_below-longer (entry_count old) (entry_count t - entry_count old) (λ k. table_in h c (block_offset (entry_at old.bytes k))) (λ k past. none_named h c (entry_at old.bytes k) (clone.none k past))

-- it fills whole clusters
module _ {S : Type 0} (view : S → StorageView) (q : Pending) (file : ImageFile S) (old t : EntryTableView) (clusters : ℕ) (sound : FileInvariant view q file) (has : HasReftable view file old) (clone : IsCloneOf old t)
    (whole : entry_count t % entries_per_cluster file.header.fields ≡ 0) (is : clusters ≡ (length t.bytes + 2 ^ t.cluster_bits - 1) / 2 ^ t.cluster_bits) where
  sizes : Sizes file.header.fields
  sizes = file_sizes view q file sound

  bits : t.cluster_bits ≡ file.header.fields.cluster_bits
  bits = clone.bits ∙ has.bits

  size : entry_count t / entries_per_cluster file.header.fields * cluster_size file.header.fields ≡ 8 * entry_count t
  size =
      let n : ℕ = entry_count t / entries_per_cluster file.header.fields in
      let parts : entry_count t / entries_per_cluster file.header.fields * entries_per_cluster file.header.fields ≡ entry_count t = let e = div-add-mod' (entry_count t) (entries_per_cluster file.header.fields) in omega (arith, e, whole) in
      ap (λ s. n * s) sizes.eights ∙ (let p = ap (λ m. 8 * m) parts in omega (arith, p))

  long : length t.bytes ≡ entry_count t / entries_per_cluster file.header.fields * cluster_size file.header.fields
  long = clone.long ∙ sym size

  pub clone_clusters : clusters ≡ entry_count t / entries_per_cluster file.header.fields
  clone_clusters =
      let h = file.header.fields in
      let n : ℕ = entry_count t / entries_per_cluster file.header.fields in
      is ∙ ap (λ b. (length t.bytes + 2 ^ b - 1) / 2 ^ b) bits ∙ ap (λ m. (m + cluster_size h - 1) / cluster_size h) long ∙ whole_clusters n (cluster_size file.header.fields) sizes.some

  pub clone_is_longer : IsLonger file.header.fields old t clusters
  clone_is_longer =
      let h = file.header.fields in record {
        bits = bits;
        long = long ∙ ap (λ m. m * cluster_size h) (sym clone_clusters);
        whole = sym size ∙ ap (λ m. m * cluster_size h) (sym clone_clusters);
        entries = clone.entries;
        named = named_alike h old t clone;
      }

module _ {S : Type 0} (view : S → StorageView) (p : Pending) (a b c : ImageFile S) (u u' : Allocator) (t : EntryTableView) (first n : ℕ) (same : b.header ≡ a.header) (room : InternalAllocatorStep view p a u b (with_run p a.header.fields t first n)) where
  fields : b.header.fields ≡ a.header.fields
  fields = ap (λ (h : HeaderView). h.fields) same

  pub room_now : InternalAllocatorStep view p a u b (with_run p b.header.fields t first n)
  room_now = subst (λ (h : HeaderFields). InternalAllocatorStep view p a u b (with_run p h t first n)) (sym fields) room

  -- ---- there was room for it
  pub entered : (result : Result (Unit {0}) ImageError) → ((k : ℕ) → counted_run a.header.fields t first n k ≡ 0) ⊎ IsTrue c.caches.is_changed → NamesReftable view (with_run p b.header.fields t first n) p b u' c result → EntersReftable view p a u' c result
  entered (Ok done) recorded names =
      allocator_step_on view p (with_run p b.header.fields t first n) (without_reftable p a.header.fields) a b c u u' (λ k some. some) (on_of view p (with_run p b.header.fields t first n) a b u room_now)
      (subst (λ (h : HeaderFields). InternalAllocatorGrowth view (with_run p b.header.fields t first n) b u' c (without_reftable p h)) fields names)
  entered (Err e) recorded names =
      leaves_as view p a c u' e (ends_room view p t first n a b c u u' e room recorded names.0 (subst (λ (h : HeaderFields). RefusedFileStep view (with_run p h t first n) b u' c e) fields names.1))

  pub uses_entered : (result : Result (Unit {0}) ImageError) → KeepsUsed view b c result → KeepsUsed view a c result
  uses_entered result uses = uses_then view a b c result (λ k used. used_stays view p (with_run p a.header.fields t first n) a b u k room (omega arith) used) uses

-- once there was room for it, it is refused by a fault alone
pub names_fault : {S : Type 0} (view : S → StorageView) (q p : Pending) (b c : ImageFile S) (u' : Allocator) (Cause : Type 0) (result : Result (Unit {0}) ImageError) → NamesReftable view q p b u' c result → IfErr result (IsFaultOr Cause)
names_fault view q p b c u' Cause (Ok done) names = tt
names_fault view q p b c u' Cause (Err e) names = inl names.0

-- ---- the former one is listed
module _ {S : Type 0} (view : S → StorageView) (p : Pending) (old new : ImageFile S) (allocator : Allocator) (t : EntryTableView) (cluster : ℕ) (former : ClustersToFreeEntry) (sound : FileInvariant view p old) (has : HasReftable view old t)
    (is_table : IsRefTable t) (some : t.cluster ≡ Some cluster) (is : former ≡ metadata_entry cluster ((length t.bytes + 2 ^ t.cluster_bits - 1) / 2 ^ t.cluster_bits)) where
  listed : (l : List ClustersToFreeEntry) → without_reftable p old.header.fields ≡ pending_then p l (l ++ former ∷ [])
  listed l =
      pending_same (without_reftable p old.header.fields) (pending_then p l (l ++ former ∷ [])) (λ k. refl) (λ k. refl)
      (λ k.
      let more = free_more of_tables l (former ∷ []) k in
      let one : to_free of_tables (former ∷ []) k ≡ to_free of_tables (metadata_entry cluster ((length t.bytes + 2 ^ t.cluster_bits - 1) / 2 ^ t.cluster_bits) ∷ []) k = ap (λ e. to_free of_tables (e ∷ []) k) is in
      let run = reftable_run view p old t cluster sound has is_table some k in
      omega (arith, more, one, run))
      (λ k.
      let more = free_more of_data l (former ∷ []) k in
      let one : to_free of_data (former ∷ []) k ≡ to_free of_data (metadata_entry cluster ((length t.bytes + 2 ^ t.cluster_bits - 1) / 2 ^ t.cluster_bits) ∷ []) k = ap (λ e. to_free of_data (e ∷ []) k) is in
      omega (arith, more, one))
      (λ k. refl)

  pub grown : InternalAllocatorGrowth view p old allocator new (without_reftable p old.header.fields) → (l : List ClustersToFreeEntry) → InternalAllocatorGrowth view p old allocator (record new { free_list = l ++ former ∷ [] }) (pending_then p l (l ++ former ∷ []))
  grown allocator_step l =
      subst (λ (q : Pending). InternalAllocatorGrowth view p old allocator (record new { free_list = l ++ former ∷ [] }) q) (listed l)
      (record {
        file_step = record {
          sound = file_invariant_of allocator_step.file_step.sound.honest allocator_step.file_step.sound.caches allocator_step.file_step.sound.named_blocks allocator_step.file_step.sound.room;
          safe_step = allocator_step.file_step.safe_step;
          since = allocator_step.file_step.since;
          unseen = allocator_step.file_step.unseen;
          l1_table = allocator_step.file_step.l1_table;
        };
        reftable = record { cluster = allocator_step.reftable.cluster; bits = allocator_step.reftable.bits; count = allocator_step.reftable.count; entries = allocator_step.reftable.entries };
      })
