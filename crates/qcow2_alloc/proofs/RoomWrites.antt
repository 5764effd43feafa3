-- Bytes are written to clusters of a run that have no references.
use Rattle.std.proofs.Common.{◌≡◌, ◌⊎◌, ◌+◌, ◌*◌, ◌/◌, ◌<◌, ◌≤◌, ◌^◌, inl, inr, ℕ, Bool, true, false, IsTrue, IsFalse, List, length, Result, Ok, Err, refl, sym, ap, ◌∙◌, subst, arith}
use Rattle.qcow2_alloc.proofs.Common.{fun_ext, cases_eq, cases_lt, ne_eqb, cond-false, div-add-mod', mod_below, pow_pos, mul-le-mul_left, overwritten, StorageView, Changes, Calls, StorageError, byte_at-overwritten, whole_or_nothing, Bytes, byte_at, HeaderFields, EntryTableView, entry_at, cluster_size, counts_per_block, block_offset, BlocksMayGo, Pending, CrashInvariant, SameIn, IsUnnamed, Direction, overwritten_but, count_none, data_is_written, Allocator, MetadataCaches, ImageFile, ImageStorage, run_at, InternalAllocatorStep, KeepsPinsAndNotes, counted_run, with_run, view_in, contents_in, known_in, state_in, FileInvariant, AllocatorInvariant, HasReftable, storage_of, order_of, l2_tables, known_of, InternalCacheStep, AllocatesBlock, of_storage, WritesTable}
use Rattle.qcow2_alloc.proofs.AllocationSteps.{fault_of_storage, allocator_step_cached}
use Rattle.qcow2_alloc.proofs.FileWrites.{file_step_written, reftable_written}
use Rattle.qcow2_alloc.proofs.KeptTables.Switching.{safe_none, stay_none}
use Rattle.qcow2_alloc.proofs.Runs.{run_in, run_before, run_after}
use Rattle.qcow2_alloc.proofs.PlacedBlocks.{IsFree, has_none, covers_written, known_there}

module _ {S : Type 0} (view : S → StorageView) where
  -- nothing names a cluster of a run whose counted clusters are fresh
  pub free_in_run : (p : Pending) (first n : ℕ) (file : ImageFile S) (t : EntryTableView) → FileInvariant view (with_run p file.header.fields t first n) file → HasReftable view file t → BlocksMayGo (order_of file.caches) (l2_tables file.caches)
      → (c : ℕ) → 0 < run_at first n c → IsFree view (with_run p file.header.fields t first n) file c
  free_in_run p first n file t sound has may c some =
      let h = file.header.fields in
      let q : Pending = with_run p file.header.fields t first n in
      let crash_invariant = sound.caches.kept.kept.crash_invariant in
      let tally = (crash_invariant.each_cluster c).tally in
      elim (cases_eq (block_offset (entry_at t.bytes (c / counts_per_block file.header.fields))) 0) [
        | inl none ↦
            let none_there = has_none view q file t sound has (c / counts_per_block file.header.fields) none in
            let known_none = count_none h (known_in view file) c none_there.1 in
            record { unnamed = data_is_written.unused (state_in view file q) c crash_invariant known_none (count_none h (contents_in view file) c none_there.0); unheld = omega (arith, tally, known_none) }
        | inr real ↦
            let is : counted_run h t first n c ≡ run_at first n c = cond-false {A = ℕ} _ 0 (run_at first n c) (ne_eqb _ 0 real) in
            let new_tables : 0 < p.new_tables c + counted_run h t first n c = omega (arith, is, some) in
            let few = (crash_invariant.each_cluster c).pending (omega (arith, new_tables)) in
            record { unnamed = data_is_written.new_tables (state_in view file q) c crash_invariant new_tables (covers_written view q file sound may); unheld = omega (arith, tally, few, new_tables) }
      ]

  -- ---- a refblock is forgotten where nothing names its cluster
  module _ (q : Pending) (file : ImageFile S) (caches : MetadataCaches S) (cluster : ℕ) (sound : FileInvariant view q file) (free : IsFree view q file cluster) (order : order_of caches ≡ order_of file.caches) where
    abbrev h : HeaderFields
    h = file.header.fields

    abbrev on_storage : Bytes
    on_storage = contents_in view file

    stays_as : (known : known_of h caches on_storage ≡ known_in view file) → AllocatesBlock file.caches caches cluster → InternalCacheStep h q (view_in view file) file.caches (view_in view file) caches
    stays_as known takes =
        let off = takes h q on_storage sound.caches in
        let crash_invariant = subst (λ (d : Direction). CrashInvariant h d q on_storage (known_in view file)) (sym order) sound.caches.kept.kept.crash_invariant in
        record {
          honest = sound.honest;
          sound = off.off.sound q (subst (λ (b : Bytes). CrashInvariant h (order_of caches) q on_storage b) (sym known) crash_invariant);
          known = known;
          named_blocks = off.off.named_blocks;
          since = safe_none (view_in view file) (known_in view file);
        }

    pub removed_stays : (taken : Bool) → (IsFalse taken → caches ≡ file.caches) → (IsTrue taken → AllocatesBlock file.caches caches cluster) → InternalCacheStep h q (view_in view file) file.caches (view_in view file) caches
    removed_stays true same takes =
        let off = takes refl h q on_storage sound.caches in
        stays_as (fun_ext (λ o. elim (cases_eq (o / cluster_size h) cluster) [
          | inl here ↦ elim (off.off.known cluster) [ inl as_on_storage ↦ as_on_storage o here ∙ sym ((known_there view q file cluster sound free) o here) | inr as_known ↦ as_known o here ]
          | inr other ↦ sym (off.outside o other)
        ])) (takes refl)
    removed_stays false same takes =
        subst (λ (c : MetadataCaches S). InternalCacheStep h q (view_in view file) file.caches (view_in view file) c) (sym (same refl)) (stay_none view h q file.storage file.caches sound.honest sound.caches)

    pub allocator_step_removed : (a : Allocator) → HasReftable view file a.reftable → (taken : Bool) → (IsFalse taken → caches ≡ file.caches) → (IsTrue taken → AllocatesBlock file.caches caches cluster) → KeepsPinsAndNotes file.caches caches
        → InternalAllocatorStep view q file a (record file { caches = caches }) q
    allocator_step_removed a has taken same takes marks = allocator_step_cached view q file a file.storage caches (record { sound = sound; reftable = has }) (removed_stays taken same takes) marks

  -- ---- a table is written to clusters of a run
  module _ (p : Pending) (first n : ℕ) (file : ImageFile S) (a : Allocator) (sound : AllocatorInvariant view a (with_run p file.header.fields a.reftable first n) file) (may : BlocksMayGo (order_of file.caches) (l2_tables file.caches))
      (at m : ℕ) (low : first ≤ at) (high : at + m ≤ first + n) (t : EntryTableView) (t_bits : t.cluster_bits ≡ file.header.fields.cluster_bits) (long : length t.bytes ≡ m * cluster_size file.header.fields)
      (asked : S) (after : ImageStorage S) (result : Result (Unit {0}) StorageError) (asked_same : asked ≡ storage_of file.storage)
      (written : Changes (view asked) (view (storage_of after)) result (λ b. overwritten b (at * 2 ^ t.cluster_bits) t.bytes)) (calls : Calls (view asked) (view (storage_of after)) result) where
    abbrev table_pending : Pending
    table_pending = with_run p file.header.fields a.reftable first n

    abbrev table_written : ImageFile S
    table_written = record file { storage = after }

    abbrev place : ℕ
    place = at * cluster_size file.header.fields

    table_writes : Changes (view_in view file) (view (storage_of after)) result (λ b. overwritten b (at * cluster_size file.header.fields) t.bytes)
    table_writes =
        subst (λ (s : S). Changes (view s) (view (storage_of after)) result (λ b. overwritten b (at * cluster_size file.header.fields) t.bytes)) asked_same
        (subst (λ b. Changes (view asked) (view (storage_of after)) result (λ c. overwritten c (at * 2 ^ b) t.bytes)) t_bits written)

    table_calls : Calls (view_in view file) (view (storage_of after)) result
    table_calls = subst (λ (s : S). Calls (view s) (view (storage_of after)) result) asked_same calls

    -- a cluster of the table, or one outside of it
    in_or_out : (c : ℕ) → (0 < run_at at m c) ⊎ ((o : ℕ) → o / cluster_size file.header.fields ≡ c → (o < place) ⊎ (place + length t.bytes ≤ o))
    in_or_out c =
        elim (cases_lt c at) [
          | inl below ↦ inr (λ o in_c. inl (
              let e = div-add-mod' o (cluster_size file.header.fields) in
              let lt = mod_below o (cluster_size file.header.fields) (pow_pos file.header.fields.cluster_bits) in
              let same : o / cluster_size file.header.fields * cluster_size file.header.fields ≡ c * cluster_size file.header.fields = ap (λ k. k * cluster_size file.header.fields) in_c in
              let product : cluster_size file.header.fields * (c + 1) ≤ cluster_size file.header.fields * at = mul-le-mul_left (cluster_size file.header.fields) (omega (arith, below)) in
              omega (arith, e, lt, same, product)))
          | inr from ↦ elim (cases_lt c (at + m)) [
            | inl within ↦ inl (let one = run_in at m c from within in omega (arith, one))
            | inr past ↦ inr (λ o in_c. inr (
                let e = div-add-mod' o (cluster_size file.header.fields) in
                let same : o / cluster_size file.header.fields * cluster_size file.header.fields ≡ c * cluster_size file.header.fields = ap (λ k. k * cluster_size file.header.fields) in_c in
                let product : cluster_size file.header.fields * (at + m) ≤ cluster_size file.header.fields * c = mul-le-mul_left (cluster_size file.header.fields) past in
                omega (arith, e, same, product, long)))
          ]
        ]

    in_run : (c : ℕ) → 0 < run_at at m c → 0 < run_at first n c
    in_run c some = elim (cases_lt c at) [
      | inl below ↦ absurd (let none = run_before at m c below in omega (arith, some, none))
      | inr from ↦ elim (cases_lt c (at + m)) [
        | inl within ↦ let one = run_in first n c (omega (arith, low, from)) (omega (arith, high, within)) in omega (arith, one)
        | inr past ↦ absurd (let none = run_after at m c past in omega (arith, some, none))
      ]
    ]

    each : (c : ℕ) → SameIn (cluster_size file.header.fields) c (contents_in view file) (byte_at (view (storage_of after)).contents)
        ⊎ (IsUnnamed file.header.fields (contents_in view file) (known_in view file) c × (table_pending.new_data c ≡ 0))
    each c = elim (whole_or_nothing result (view_in view file).contents (overwritten (view_in view file).contents (at * cluster_size file.header.fields) t.bytes) (view (storage_of after)).contents (table_writes sound.sound.honest)) [
      | inl same ↦ inl (λ o in_c. ap (λ (l : List ℕ). byte_at l o) (sym same))
      | inr new ↦ elim (in_or_out c) [
        | inl inside ↦ inr (let free = free_in_run p first n file a.reftable sound.sound sound.reftable may c (in_run c inside) in (free.unnamed, free.unheld))
        | inr out ↦ inl (λ o in_c. overwritten_but (view_in view file).contents (at * cluster_size file.header.fields) t.bytes o (out o in_c) ∙ ap (λ (l : List ℕ). byte_at l o) (sym new))
      ]
    ]

    allocator_step_table : InternalAllocatorStep view table_pending file a table_written table_pending
    allocator_step_table = record {
      file_step = file_step_written view table_pending file after sound.sound (table_calls.honest sound.sound.honest) each (table_calls.time sound.sound.honest);
      reftable = reftable_written view table_pending file after sound.sound (table_calls.honest sound.sound.honest) each a.reftable sound.reftable;
    }

    pub table_refused : (e : StorageError) → WritesTable view table_pending file a table_written at m t.bytes (Err (of_storage e))
    table_refused e = (fault_of_storage e, inl (allocator_step_table.file_step, allocator_step_table.reftable))

    pub table_stands : (x : Unit {0}) → result ≡ Ok x → WritesTable view table_pending file a table_written at m t.bytes (Ok x)
    table_stands x ok =
        let now = rw ok at (table_writes sound.sound.honest) in
        record {
          allocator_step = allocator_step_table;
          stands = λ i lt. sym (ap (λ (l : List ℕ). byte_at l (at * cluster_size file.header.fields + i)) now ∙ byte_at-overwritten (view_in view file).contents (at * cluster_size file.header.fields) t.bytes i lt);
          outside = λ c none o in_c. elim (in_or_out c) [
            | inl inside ↦ absurd (omega (arith, inside, none))
            | inr out ↦ overwritten_but (view_in view file).contents (at * cluster_size file.header.fields) t.bytes o (out o in_c) ∙ ap (λ (l : List ℕ). byte_at l o) (sym now)
          ];
        }
