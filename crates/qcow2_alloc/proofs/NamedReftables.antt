-- The header's pointer to a longer reftable is written, and the allocator uses that table from then on.
use Rattle.std.proofs.Common.{◌≡◌, ◌≢◌, ◌⊎◌, ◌+◌, ◌-◌, ◌*◌, ◌/◌, ◌^◌, ◌<◌, ◌≤◌, inl, inr, ℕ, List, [], length, Some, Result, Ok, IsTrue, refl, sym, ap, ◌∙◌, subst, arith}
use Rattle.qcow2_alloc.proofs.Common.{mul-le-mul_left, cases_eq, or_left, StorageView, Changes, Calls, StorageError, Bytes, byte_at, HeaderFields, HeaderView, cluster_size, entries_per_cluster, with_fields, with_reftable, reftable_pointer_written, l1_entry, reftable_entry, block_offset, EntryTableView, IsRefTable, entry_count, entry_at, HasBlock, Pending, SafeStep, SafeThroughout, WritesHeader, with_reftable_at, IsNewReftable, IsInternal, header_fixed, header_l1, header_known_covers, step_safe_throughout, header_is_written, table_bytes, Allocator, ImageFile, ImageStorage, ImageError, run_at, InternalAllocatorGrowth, reftable_at, with_run, without_reftable, StandsGrown, nothing_given, view_in, contents_in, known_in, state_in, FileInvariant, AllocatorInvariant, HasReftable, InternalFileGrowth, InterruptedFileStep, storage_of, is_changed_of, AreLoaded, IsUsed, order_of, refblocks, known_of}
use Rattle.qcow2_laws.proofs.ReftableMoves.{now_l1, now_reftable, known_counts}
use Rattle.qcow2_alloc.specs.ImageFile.{IsFault}
use Rattle.qcow2_alloc.proofs.Lemmas.{pending_same, AreCurrentIn, current_none, own_cluster, file_sizes, file_invariant_of}
use Rattle.qcow2_alloc.proofs.GrownTables.{counted_anew, clusters_of_run, run_counted, whole_clusters, new_entries, few_entries, ends, new_reftable}
use Rattle.qcow2_alloc.proofs.HeaderKept.{same_block, header_named_blocks, header_sound}
use Rattle.qcow2_alloc.proofs.Numbers.{reftable_pointer_writes}

-- the clusters of the reftable in memory are those that the header names
pub reftable_run : {S : Type 0} (view : S → StorageView) (q : Pending) (file : ImageFile S) (t : EntryTableView) (cluster : ℕ) → FileInvariant view q file → HasReftable view file t → IsRefTable t → t.cluster ≡ Some cluster
    → (c : ℕ) → reftable_at file.header.fields c ≡ run_at cluster ((length t.bytes + 2 ^ t.cluster_bits - 1) / 2 ^ t.cluster_bits) c
reftable_run view q file t cluster sound has is_table some c =
    let h = file.header.fields in
    let sizes = file_sizes view q file sound in
    let begins : h.reftable_offset / cluster_size h ≡ cluster = some_is (sym has.cluster ∙ some) in
    let whole = is_table.table.whole in
    let eights : h.reftable_clusters * cluster_size h ≡ 8 * (h.reftable_clusters * entries_per_cluster h) = ap (λ s. h.reftable_clusters * s) sizes.eights ∙ omega arith in
    let long : length t.bytes ≡ h.reftable_clusters * cluster_size h = let many = has.count in omega (arith, whole, eights, many) in
    ap (λ f. run_at f ((h.reftable_clusters * cluster_size h + cluster_size h - 1) / cluster_size h) c) begins
    ∙ ap (λ n. run_at cluster ((n + 2 ^ h.cluster_bits - 1) / 2 ^ h.cluster_bits) c) (sym long)
    ∙ ap (λ b. run_at cluster ((length t.bytes + 2 ^ b - 1) / 2 ^ b) c) (sym has.bits)
  where
    some_is : {A : Type 0} {a b : A} → Some a ≡ Some b → a ≡ b
    some_is e = cc

-- ---- it names a table that stands ready
module _ {S : Type 0} (view : S → StorageView) (p : Pending) (first blocks clusters : ℕ) (file : ImageFile S) (old t : EntryTableView)
    (sound : FileInvariant view (with_run p file.header.fields old first (blocks + clusters)) file) (has : HasReftable view file old) (ready : StandsGrown view file old t first blocks clusters) (is_table : IsRefTable t) where
  abbrev h : HeaderFields
  h = file.header.fields

  abbrev q : Pending
  q = with_run p file.header.fields old first (blocks + clusters)

  abbrev on_storage : Bytes
  on_storage = contents_in view file

  abbrev known : Bytes
  known = known_in view file

  abbrev place : ℕ
  place = (first + blocks) * cluster_size file.header.fields

  abbrev h' : HeaderFields
  h' = with_reftable file.header.fields ((first + blocks) * cluster_size file.header.fields) clusters

  abbrev anew : ℕ → ℕ
  anew = counted_anew file.header.fields old first (blocks + clusters)

  abbrev change : List ℕ → List ℕ
  change = reftable_pointer_written (with_reftable file.header.fields ((first + blocks) * cluster_size file.header.fields) clusters)

  abbrev written : List ℕ
  written = change (view_in view file).contents

  new : IsNewReftable h (order_of file.caches) q on_storage known place clusters (run_at first blocks) anew
  new = new_reftable view p first blocks clusters file old t sound has ready is_table

  limit : clusters * entries_per_cluster h ≤ 1048576
  limit = few_entries view p first blocks clusters file old t sound has ready is_table

  few : clusters < 2 ^ 32
  few =
      let sizes = file_sizes view q file sound in
      let one : clusters * 1 ≤ clusters * entries_per_cluster h = mul-le-mul_left clusters sizes.entries in
      let most = limit in
      omega (arith, one, most)

  near : place < 2 ^ 64
  near = let last = ends view p first blocks clusters file old t sound has ready is_table in omega (arith, last)

  writes : WritesHeader h (with_reftable_at h place clusters) on_storage known (byte_at written) (known_of h file.caches (byte_at written))
  writes = reftable_pointer_writes view q file sound place clusters few limit near

  safe_step_at : (b : Bytes) → WritesHeader h (with_reftable_at h place clusters) on_storage known b (known_of h file.caches b)
      → SafeStep (state_in view file q) (record (state_in view file q) { header = h'; pending = without_reftable p h; on_storage = b; known = known_of h file.caches b }) nothing_given []
  safe_step_at b so =
      let safe_step = header_is_written.reftable (state_in view file q) b (known_of h file.caches b) place clusters (run_at first blocks) anew sound.caches.kept.kept.crash_invariant so new in
      subst (λ (r : Pending). SafeStep (state_in view file q) (record (state_in view file q) { header = h'; pending = r; on_storage = b; known = known_of h file.caches b }) nothing_given [])
      (pending_same _ (without_reftable p h) (λ k. refl)
      (λ k.
      let all = clusters_of_run view p first blocks clusters file old t sound has ready is_table k in
      let split = run_counted h old first (blocks + clusters) k in
      omega (arith, all, split))
      (λ k. refl) (λ k. refl) (λ k. refl)) safe_step

  -- whatever the storage answers
  pub lasts_named : (result : Result (Unit {0}) StorageError) (after : S) → Changes (view_in view file) (view after) result change → Calls (view_in view file) (view after) result
      → SafeThroughout (view_in view file) (view after) known nothing_given []
  lasts_named result after wrote called =
      step_safe_throughout {result = result} (view_in view file) (view after) (state_in view file q) (record (state_in view file q) { header = h'; pending = without_reftable p h; on_storage = byte_at written; known = known_of h file.caches (byte_at written) })
      nothing_given [] change called wrote sound.honest refl refl (safe_step_at (byte_at written) writes)

  module _ (storage : ImageStorage S) (is : (view (storage_of storage)).contents ≡ written) (honest : (view (storage_of storage)).is_honest) where
    abbrev named : ImageFile S
    named = record file { storage = storage; header = with_fields file.header (with_reftable file.header.fields ((first + blocks) * cluster_size file.header.fields) clusters) }

    abbrev on_storage' : Bytes
    on_storage' = contents_in view named

    abbrev known' : Bytes
    known' = known_of file.header.fields file.caches (contents_in view named)

    writes_now : WritesHeader h (with_reftable_at h place clusters) on_storage known on_storage' known'
    writes_now = subst (λ (c : List ℕ). WritesHeader h (with_reftable_at h place clusters) on_storage known (byte_at c) (known_of h file.caches (byte_at c))) (sym is) writes

    safe_step_now : SafeStep (state_in view file q) (state_in view named (without_reftable p h)) nothing_given []
    safe_step_now = safe_step_at on_storage' writes_now

    l1_now : (i : ℕ) → l1_entry h' on_storage' i ≡ l1_entry h on_storage i
    l1_now i = sym (now_l1 h place clusters (run_at first blocks) anew (order_of file.caches) q on_storage known on_storage' known' sound.caches.kept.kept.crash_invariant writes_now new i)

    entry_now : (k : ℕ) → reftable_entry h' on_storage k ≡ reftable_entry h' on_storage' k
    entry_now = now_reftable h place clusters (run_at first blocks) anew (order_of file.caches) q on_storage known on_storage' known' sound.caches.kept.kept.crash_invariant writes_now new

    entries_now : (k : ℕ) → entry_at t.bytes k ≡ reftable_entry h' on_storage' k
    entries_now k = new_entries view p first blocks clusters file old t sound has ready is_table k ∙ entry_now k

    block_same : (k : ℕ) → block_offset (reftable_entry h on_storage k) ≢ 0 → reftable_entry h' on_storage' k ≡ reftable_entry h on_storage k
    block_same k real = sym (entry_now k) ∙ new.same k real

    rb_still : (c : ℕ) → HasBlock h on_storage c → HasBlock h' on_storage' c
    rb_still c there = same_block h h' on_storage on_storage' c refl there (block_same there.0 there.1)

    -- a refblock that is named anew isn't cached
    uncached : (c : ℕ) → 0 < run_at first blocks c → AreCurrentIn (cluster_size h) c (refblocks file.caches) on_storage'
    uncached c some =
        subst (λ n. AreCurrentIn (2 ^ n) c (refblocks file.caches) on_storage') sound.caches.rb_format.bits
        (current_none file.caches.rb.backend.header.fields.cluster_bits (λ b. b.bytes) (λ b. b.is_modified) (HasBlock h on_storage) on_storage on_storage' c file.caches.rb.entries (ready.uncached c some)
        (subst (λ n. AreLoaded (2 ^ n) (HasBlock h on_storage) (refblocks file.caches) on_storage) (sym sound.caches.rb_format.bits) sound.caches.kept.rb_loaded))

    rb_now : (c : ℕ) → HasBlock h' on_storage' c → HasBlock h on_storage c ⊎ AreCurrentIn (cluster_size h) c (refblocks file.caches) on_storage'
    rb_now c now = elim (cases_eq (block_offset (reftable_entry h on_storage now.0)) 0) [
      | inl none ↦
          let at = ap block_offset (entries_now now.0) in
          let placed = ready.grown.placed now.0 (ap block_offset (has.entries now.0) ∙ none) (λ zero. now.1 (sym at ∙ zero)) in
          inr (uncached c (subst (λ n. 0 < run_at first blocks n) (ap (λ n. n / cluster_size h) at ∙ now.2) placed))
      | inr real ↦ inl (same_block h' h on_storage' on_storage c refl now (sym (block_same now.0 real)))
    ]

    unseen_now : IsInternal (state_in view file q) (state_in view named (without_reftable p h))
    unseen_now =
        let crash_invariant = sound.caches.kept.kept.crash_invariant in record {
          header = refl;
          covers = header_known_covers h (with_reftable_at h place clusters) (order_of file.caches) q on_storage known on_storage' known' crash_invariant writes_now;
          bytes = table_bytes (state_in view file q) (state_in view named (without_reftable p h)) crash_invariant 0 (header_fixed h (with_reftable_at h place clusters) (order_of file.caches) q on_storage known on_storage' known' crash_invariant writes_now)
              writes_now.known_others;
        }

    pub on_named : SafeThroughout (view_in view file) (view (storage_of storage)) known nothing_given [] → InternalFileGrowth view q (without_reftable p h) file named
    on_named since = record {
      sound = file_invariant_of
          honest
          (header_sound view q (without_reftable p h) file sound (with_reftable_at h place clusters) on_storage' writes_now safe_step_now.sound l1_now rb_still rb_now)
          (header_named_blocks view q (without_reftable p h) file sound (with_reftable_at h place clusters) on_storage' writes_now safe_step_now.sound l1_now rb_still rb_now)
          sound.room;
      safe_step = safe_step_now;
      since = since;
      unseen = unseen_now;
      l1_table = λ i. sym (header_l1 h (with_reftable_at h place clusters) (order_of file.caches) q on_storage known on_storage' known' sound.caches.kept.kept.crash_invariant writes_now i);
    }

    pub reftable_named : HasReftable view named t
    reftable_named = record {
      cluster = ready.grown.cluster ∙ ap (λ n. Some n) (sym (own_cluster h.cluster_bits (first + blocks)));
      bits = ready.grown.bits;
      count = many_now;
      entries = entries_now;
    }
      where
        many_now : entry_count t ≡ clusters * entries_per_cluster h
        many_now =
            let whole = ready.grown.whole in
            let sizes = file_sizes view q file sound in
            let eights : clusters * cluster_size h ≡ 8 * (clusters * entries_per_cluster h) = ap (λ s. clusters * s) sizes.eights ∙ omega arith in
            omega (arith, whole, eights)

    -- no count falls
    pub uses_named : (k : ℕ) → IsUsed view file k → IsUsed view named k
    uses_named k used zero =
        let counts = known_counts h place clusters (run_at first blocks) anew (order_of file.caches) q on_storage known on_storage' known' sound.caches.kept.kept.crash_invariant writes_now new k in
        used (omega (arith, counts, zero))

-- ---- as the calls say it
module _ {S : Type 0} (view : S → StorageView) (p : Pending) (first blocks clusters : ℕ) (file : ImageFile S) (allocator : Allocator) (t : EntryTableView) (cluster offset count : ℕ)
    (sound : AllocatorInvariant view allocator (with_run p file.header.fields allocator.reftable first (blocks + clusters)) file) (ready : StandsGrown view file allocator.reftable t first blocks clusters) (is_table : IsRefTable t)
    (some : t.cluster ≡ Some cluster) (at : offset ≡ cluster * 2 ^ t.cluster_bits) (many : count ≡ (length t.bytes + 2 ^ t.cluster_bits - 1) / 2 ^ t.cluster_bits) where
  count_is : count ≡ clusters
  count_is =
      let h = file.header.fields in
      let whole = is_table.table.whole in
      let eights = ready.grown.whole in
      let long : length t.bytes ≡ clusters * cluster_size h = omega (arith, whole, eights) in
      many ∙ ap (λ b. (length t.bytes + 2 ^ b - 1) / 2 ^ b) ready.grown.bits ∙ ap (λ n. (n + 2 ^ h.cluster_bits - 1) / 2 ^ h.cluster_bits) long
      ∙ whole_clusters clusters (cluster_size h) (file_sizes view (with_run p h allocator.reftable first (blocks + clusters)) file sound.sound).some

  offset_is : offset ≡ (first + blocks) * cluster_size file.header.fields
  offset_is =
      let here : cluster ≡ first + blocks = some_is (sym some ∙ ready.grown.cluster) in
      at ∙ ap (λ n. n * 2 ^ t.cluster_bits) here ∙ ap (λ b. (first + blocks) * 2 ^ b) ready.grown.bits
    where
      some_is : {A : Type 0} {a b : A} → Some a ≡ Some b → a ≡ b
      some_is e = cc

  -- so long a table may be named
  pub within_limit : 1048576 < count * entries_per_cluster file.header.fields → ⊥
  within_limit more =
      let few = few_entries view p first blocks clusters file allocator.reftable t sound.sound sound.reftable ready is_table in
      let same : count * entries_per_cluster file.header.fields ≡ clusters * entries_per_cluster file.header.fields = ap (λ n. n * entries_per_cluster file.header.fields) count_is in
      absurd (omega (arith, few, same, more))

  module _ (header : HeaderView) (storage : ImageStorage S) (asked : S) (result : Result (Unit {0}) StorageError) (is_header : header ≡ with_fields file.header (with_reftable file.header.fields offset count))
      (same : asked ≡ storage_of file.storage)
      (wrote : Changes (view asked) (view (storage_of storage)) result (reftable_pointer_written header.fields)) (calls : Calls (view asked) (view (storage_of storage)) result) where
    abbrev taken : Pending
    taken = with_run p file.header.fields allocator.reftable first (blocks + clusters)

    abbrev written_file : ImageFile S
    written_file = record file { storage = storage; header = header }

    abbrev new_fields : HeaderFields
    new_fields = with_reftable file.header.fields ((first + blocks) * cluster_size file.header.fields) clusters

    header_now : header ≡ with_fields file.header new_fields
    header_now =
        is_header ∙ ap (λ n. with_fields file.header (with_reftable file.header.fields n count)) offset_is
        ∙ ap (λ n. with_fields file.header (with_reftable file.header.fields ((first + blocks) * cluster_size file.header.fields) n)) count_is

    changes : Changes (view_in view file) (view (storage_of storage)) result (reftable_pointer_written new_fields)
    changes =
        subst (λ (s : S). Changes (view s) (view (storage_of storage)) result (reftable_pointer_written new_fields)) same
        (subst (λ (v : HeaderView). Changes (view asked) (view (storage_of storage)) result (reftable_pointer_written v.fields)) header_now wrote)

    calls_now : Calls (view_in view file) (view (storage_of storage)) result
    calls_now = subst (λ (s : S). Calls (view s) (view (storage_of storage)) result) same calls

    lasts : SafeThroughout (view_in view file) (view (storage_of storage)) (known_in view file) nothing_given []
    lasts = lasts_named view p first blocks clusters file allocator.reftable t sound.sound sound.reftable ready is_table result (storage_of storage) changes calls_now

    pub interrupted_named : IsTrue (is_changed_of storage) → (e : ImageError) → IsFault e → InterruptedFileStep view file written_file e
    interrupted_named changed e fault = record { fault = fault; recorded = λ _. or_left (is_changed_of storage) file.caches.is_changed changed; since = lasts }

    module _ (x : Unit {0}) (done : result ≡ Ok x) where
      abbrev after : ImageFile S
      after = record file { storage = storage; header = with_fields file.header (with_reftable file.header.fields ((first + blocks) * cluster_size file.header.fields) clusters) }

      is_written : (view (storage_of storage)).contents ≡ reftable_pointer_written new_fields (view_in view file).contents
      is_written = rw done at (changes sound.sound.honest)

      allocator_step_after : InternalAllocatorGrowth view taken file (record allocator { reftable = t }) after (without_reftable p file.header.fields)
      allocator_step_after = record {
        file_step = on_named view p first blocks clusters file allocator.reftable t sound.sound sound.reftable ready is_table storage is_written (calls_now.honest sound.sound.honest) lasts;
        reftable = reftable_named view p first blocks clusters file allocator.reftable t sound.sound sound.reftable ready is_table storage is_written (calls_now.honest sound.sound.honest);
      }

      pub allocator_step_named : InternalAllocatorGrowth view taken file (record allocator { reftable = t }) written_file (without_reftable p file.header.fields)
      allocator_step_named = subst (λ (v : HeaderView). InternalAllocatorGrowth view taken file (record allocator { reftable = t }) (record file { storage = storage; header = v }) (without_reftable p file.header.fields)) (sym header_now) allocator_step_after

      pub keeps_used : (k : ℕ) → IsUsed view file k → IsUsed view written_file k
      keeps_used k used =
          subst (λ (v : HeaderView). IsUsed view (record file { storage = storage; header = v }) k) (sym header_now)
          (uses_named view p first blocks clusters file allocator.reftable t sound.sound sound.reftable ready is_table storage is_written (calls_now.honest sound.sound.honest) k used)
