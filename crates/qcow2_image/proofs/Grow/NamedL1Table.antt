-- The header's pointer to a longer L1 table is written, and the image uses that table from then on.
use Rattle.std.proofs.Common.{◌≡◌, ◌+◌, ◌*◌, ◌/◌, ◌^◌, ◌<◌, ◌≤◌, ℕ, List, [], length, Option, Some, Result, Ok, Err, inr, refl, sym, ap, ◌∙◌, subst, arith, IsTrue}
use Rattle.qcow2_image.proofs.Common.{or_right, IfSome, append-nil, BackingView, StorageView, Changes, Calls, StorageError, Bytes, byte_at, HeaderFields, HeaderView, cluster_size, with_fields, with_l1_table, l1_table_pointer_written, l1_entry, reftable_entry, count, count_under, EntryTableView, entry_count, IsHostCluster, in_run, renamed, Pending, SameIn, KeepsGuests, SafeStep, SafeThroughout, WritesHeader, with_places, with_l1_at, IsNewL1, longer_l1_table_keeps_guests, step_safe_throughout, Sizes, l1-same, run_has, header_is_written, Allocator, ImageStorage, nothing_given, view_in, contents_in, known_in, state_in, of_storage, storage_of, is_changed_of, order_of, known_of, fault_of_storage, pending_same, cluster_aligned, own_cluster, file_sizes, known_there, IsAllocatorOf, allocator_kept, header_known_counts, file_invariant_of, Qcow2, Prepared, with_table, without_l1, StandsWhole, InternalMove, NamesTable, ImageInvariant, MovesTables, Mappings}
use Rattle.qcow2_laws.specs.GuestLaws.{state_with_l1_table as with_new_l1}
use Rattle.qcow2_laws.proofs.L1Moves.{now_l1, now_reftable}
use Rattle.qcow2_alloc.proofs.Numbers.{l1_pointer_writes}
use Rattle.qcow2_image.proofs.Open.HeaderKept.{placed_named_blocks, placed_sound}
use Rattle.qcow2_image.proofs.Grow.NewL1Table.{same_run, run_free}
use Rattle.qcow2_image.proofs.Images.Moved.{ready_moved}
use Rattle.qcow2_image.proofs.Images.Places.{inside_of}

-- the sizes don't depend on the offset of the L1 table
same_sizes : (h : HeaderFields) (offset entries : ℕ) → Sizes h → Sizes (with_places h (with_l1_at h offset entries))
same_sizes h offset entries s = record { some = s.some; large = s.large; whole = s.whole; entries = s.entries; eights = s.eights; counts = s.counts; order = s.order }

module _ {S F : Type 0} (view : S → StorageView) (backing : F → BackingView) (out : Mappings) (p : Pending) (old : Qcow2 S F) (t : EntryTableView) (cluster : ℕ) (sound : ImageInvariant view backing (with_table p t cluster) old out)
    (ready : StandsWhole view old t cluster) (near : IsHostCluster old.file.header.fields.cluster_bits cluster) (few : entry_count t ≤ 4194304) where
  abbrev h : HeaderFields
  h = old.file.header.fields

  abbrev q : Pending
  q = with_table p t cluster

  abbrev on_storage : Bytes
  on_storage = contents_in view old.file

  abbrev known : Bytes
  known = known_in view old.file

  abbrev place : ℕ
  place = cluster * cluster_size old.file.header.fields

  abbrev h' : HeaderFields
  h' = with_l1_table old.file.header.fields (cluster * cluster_size old.file.header.fields) (entry_count t)

  -- the clusters of the table
  run_is : (c : ℕ) → in_run h c place (8 * entry_count t) ≡ in_run h c place (length t.bytes)
  run_is c = ap (λ n. in_run h c place n) (sym ready.table.whole)

  -- the known bytes there are those on the storage
  known_in_run : (c : ℕ) → 0 < in_run h c place (length t.bytes) → SameIn (cluster_size h) c known on_storage
  known_in_run c some = known_there view q old.file c sound.file (run_free view p old t cluster sound.file ready.table.bits ready.covers c some)

  same_entries : (i : ℕ) → l1_entry h' on_storage i ≡ l1_entry h on_storage i
  same_entries i = ready.stands i ∙ ready.table.entries i ∙ sound.l1_table.entries i

  new_l1 : IsNewL1 h (order_of old.file.caches) q on_storage known place (entry_count t)
  new_l1 =
      let sizes = file_sizes view q old.file sound.file in
      let aligned = cluster_aligned cluster old.file.header.fields.cluster_bits in record {
        longer = ready.table.longer;
        aligned = aligned;
        same = same_entries;
        known_same = λ i.
            l1-same h' known on_storage i (same_sizes h place (entry_count t) sizes) aligned
            (λ lt. known_in_run ((place + 8 * i) / cluster_size h)
            (let has = run_has h place (length t.bytes) (8 * i) sizes.some aligned (let w = ready.table.whole in omega (arith, w, lt)) in omega (arith, has)))
            ∙ same_entries i ∙ sound.file.caches.kept.kept.crash_invariant.same_top.l1 i;
        new_tables = λ c some. (let run = same_run h t cluster c ready.table.bits in let is = run_is c in omega (arith, run, is, some), ready.counts c);
        written = ready.covers;
      }

  near_64 : place < 2 ^ 64
  near_64 = omega (arith, near)

  safe_step_at : (b : Bytes) → WritesHeader h (with_l1_at h place (entry_count t)) on_storage known b (known_of h old.file.caches b)
      → SafeStep (state_in view old.file q) (record (state_in view old.file q) { header = h'; pending = without_l1 p h; on_storage = b; known = known_of h old.file.caches b }) nothing_given []
  safe_step_at b writes =
      let safe_step = header_is_written.l1_table (state_in view old.file q) b (known_of h old.file.caches b) place (entry_count t) sound.file.caches.kept.kept.crash_invariant writes new_l1 in
      subst (λ (r : Pending). SafeStep (state_in view old.file q) (record (state_in view old.file q) { header = h'; pending = r; on_storage = b; known = known_of h old.file.caches b }) nothing_given [])
      (pending_same (renamed q (λ c. in_run h c place (8 * entry_count t)) (λ c. in_run h c h.l1_offset (8 * h.l1_entries))) (without_l1 p h) (λ k. refl)
      (λ k. let run = same_run h t cluster k ready.table.bits in let is = run_is k in omega (arith, run, is)) (λ k. refl) (λ k. refl) (λ k. refl)) safe_step

  -- whatever the storage answers
  pub lasts_named : {T : Type 0} (result : Result T StorageError) (asked after : S) → asked ≡ storage_of old.file.storage → Changes (view asked) (view after) result (l1_table_pointer_written h')
      → Calls (view asked) (view after) result → SafeThroughout (view_in view old.file) (view after) known nothing_given []
  lasts_named result asked after same wrote called =
      let new = byte_at (l1_table_pointer_written h' (view_in view old.file).contents) in
      step_safe_throughout {result = result} (view_in view old.file) (view after) (state_in view old.file q) (record (state_in view old.file q) { header = h'; pending = without_l1 p h; on_storage = new; known = known_of h old.file.caches new }) nothing_given []
      (l1_table_pointer_written h')
      (subst (λ (s : S). Calls (view s) (view after) result) same called)
      (subst (λ (s : S). Changes (view s) (view after) result (l1_table_pointer_written h')) same wrote)
      sound.file.honest refl refl (safe_step_at new (l1_pointer_writes view q old.file sound.file place (entry_count t) few near_64))

  module _ (storage : ImageStorage S) (is : (view (storage_of storage)).contents ≡ l1_table_pointer_written h' (view_in view old.file).contents) (honest : (view (storage_of storage)).is_honest) where
    abbrev now : Qcow2 S F
    now = record old { file = record old.file { storage = storage; header = with_fields old.file.header h' }; l1_table = t }

    writes_now : WritesHeader h (with_l1_at h place (entry_count t)) on_storage known (contents_in view now.file) (known_of h old.file.caches (contents_in view now.file))
    writes_now = subst (λ (c : List ℕ). WritesHeader h (with_l1_at h place (entry_count t)) on_storage known (byte_at c) (known_of h old.file.caches (byte_at c))) (sym is) (l1_pointer_writes view q old.file sound.file place (entry_count t) few near_64)

    safe_step_now : SafeStep (state_in view old.file q) (state_in view now.file (without_l1 p h)) nothing_given []
    safe_step_now = safe_step_at (contents_in view now.file) writes_now

    l1_now : (i : ℕ) → l1_entry h' (contents_in view now.file) i ≡ l1_entry h on_storage i
    l1_now i = sym (now_l1 h place (entry_count t) (order_of old.file.caches) q on_storage known (contents_in view now.file) (known_of h old.file.caches (contents_in view now.file)) sound.file.caches.kept.kept.crash_invariant writes_now new_l1 i)

    blocks_now : (k : ℕ) → reftable_entry h' (contents_in view now.file) k ≡ reftable_entry h on_storage k
    blocks_now k = sym (now_reftable h place (entry_count t) (order_of old.file.caches) q on_storage known (contents_in view now.file) (known_of h old.file.caches (contents_in view now.file)) sound.file.caches.kept.kept.crash_invariant writes_now new_l1 k)

    -- refcounts don't depend on the offset of the L1 table
    counts_too : (b : Bytes) (k : ℕ) → count h' b k ≡ count h b k
    unfolding count count_under reftable_entry
    counts_too b k = refl

    counts_now : (k : ℕ) → count h known k ≡ count h' (known_in view now.file) k
    counts_now k =
        header_known_counts h (with_l1_at h place (entry_count t)) (order_of old.file.caches) q on_storage known (contents_in view now.file) (known_of h old.file.caches (contents_in view now.file)) sound.file.caches.kept.kept.crash_invariant writes_now k
        ∙ sym (counts_too (known_in view now.file) k)

    reftable_now : (a : Option Allocator) → IfSome a (IsAllocatorOf view old.file) → IfSome a (IsAllocatorOf view now.file)
    reftable_now = allocator_kept view old.file now.file (λ t has. record { cluster = has.cluster; bits = has.bits; count = has.count; entries = λ k. has.entries k ∙ sym (blocks_now k) })
        (λ k. let e = counts_now k in omega arith)

    guests_now : KeepsGuests (state_in view old.file q) (with_new_l1 (state_in view old.file q) place (entry_count t) (contents_in view now.file) (known_of h old.file.caches (contents_in view now.file)))
    guests_now = longer_l1_table_keeps_guests (state_in view old.file q) (contents_in view now.file) (known_of h old.file.caches (contents_in view now.file)) place (entry_count t) sound.file.caches.kept.kept.crash_invariant writes_now new_l1

    known_l1_now : (i : ℕ) → l1_entry h' (known_in view now.file) i ≡ l1_entry h known i
    known_l1_now i = sym (safe_step_now.sound.same_top.l1 i) ∙ l1_now i ∙ sound.file.caches.kept.kept.crash_invariant.same_top.l1 i

    named_sound : ImageInvariant view backing (without_l1 p h) now out
    named_sound = record {
      works = sound.works;
      file = file_invariant_of
          honest
          (placed_sound view q (without_l1 p h) old.file sound.file (with_l1_at h place (entry_count t)) (contents_in view now.file) writes_now safe_step_now.sound l1_now blocks_now)
          (placed_named_blocks view q (without_l1 p h) old.file sound.file (with_l1_at h place (entry_count t)) (contents_in view now.file) writes_now safe_step_now.sound l1_now blocks_now)
          sound.file.room;
      l1_table = record {
        cluster = λ some. ready.cluster_is ∙ ap (λ n. Some n) (sym (own_cluster old.file.header.fields.cluster_bits cluster));
        bits = ready.table.bits;
        count = refl;
        entries = λ i. sym (ready.stands i) ∙ same_entries i ∙ sym (l1_now i);
      };
      reftable = reftable_now old.allocator sound.reftable;
      stands = sound.stands;
      below = sound.below;
      ready = λ k r at. let was = sound.ready k r at in record {
        own = was.own;
        mapped = ready_moved h out.place place (entry_count t) known on_storage (known_in view now.file) (contents_in view now.file) r guests_now.covers known_l1_now l1_now r.table was.mapped;
      };
      pinned = sound.pinned;
      once = sound.once;
    }

    named_file_step : SafeThroughout (view_in view old.file) (view (storage_of storage)) known nothing_given [] → InternalMove view backing q (without_l1 p h) old now out
    named_file_step since = record {
      sound = named_sound;
      safe_step = safe_step_now;
      since = since;
      header = refl;
      covers = guests_now.covers;
      bytes = guests_now.bytes;
      used = λ c some. subst (λ n. 0 < n) (sym (guests_now.used c)) some;
      shows = guests_now.disk (inside_of sound);
      below = refl;
      list = record { more = []; is = sym (append-nil old.file.free_list) };
      leaks = refl;
    }

  -- as the calls say it
  module _ (offset entries : ℕ) (header : HeaderView) (at : offset ≡ cluster * cluster_size old.file.header.fields) (many : entries ≡ entry_count t) (is_header : header ≡ with_fields old.file.header (with_l1_table old.file.header.fields offset entries)) where
    header_now : header ≡ with_fields old.file.header h'
    header_now = is_header ∙ ap (λ n. with_fields old.file.header (with_l1_table old.file.header.fields n entries)) at ∙ ap (λ n. with_fields old.file.header (with_l1_table old.file.header.fields place n)) many

    pub pointer_written_as : {T : Type 0} (result : Result T StorageError) (asked after : S) → Changes (view asked) (view after) result (l1_table_pointer_written header.fields)
        → Changes (view asked) (view after) result (l1_table_pointer_written h')
    pointer_written_as result asked after wrote = subst (λ (v : HeaderView). Changes (view asked) (view after) result (l1_table_pointer_written v.fields)) header_now wrote

    pub named_so : (result : Result (Unit {0}) StorageError) (storage : ImageStorage S) (asked : S) → asked ≡ storage_of old.file.storage → Changes (view asked) (view (storage_of storage)) result (l1_table_pointer_written header.fields)
        → Calls (view asked) (view (storage_of storage)) result → (x : Unit {0}) → result ≡ Ok x
        → NamesTable view backing p old (record old { file = record old.file { storage = storage; header = header }; l1_table = t }) out t cluster (Ok x)
    named_so result storage asked same wrote called x done =
        let wrote' = pointer_written_as result asked (storage_of storage) wrote in
        let calls : Calls (view_in view old.file) (view (storage_of storage)) result = subst (λ (s : S). Calls (view s) (view (storage_of storage)) result) same called in
        let is = rw done at (subst (λ (s : S). Changes (view s) (view (storage_of storage)) result (l1_table_pointer_written h')) same wrote' sound.file.honest) in
        subst (λ (v : HeaderView). NamesTable view backing p old (record old { file = record old.file { storage = storage; header = v }; l1_table = t }) out t cluster (Ok x)) (sym header_now)
        (named_file_step storage is (calls.honest sound.file.honest) (lasts_named result asked (storage_of storage) same wrote' called))

    -- the storage failed
    pub named_interruption : {T : Type 0} (result : Result T StorageError) (storage : ImageStorage S) (asked : S) → asked ≡ storage_of old.file.storage → Changes (view asked) (view (storage_of storage)) result (l1_table_pointer_written header.fields)
        → Calls (view asked) (view (storage_of storage)) result → (e : StorageError) → IsTrue old.file.caches.is_changed
        → NamesTable view backing p old (record old { file = record old.file { storage = storage; header = header } }) out t cluster (Err (of_storage e))
    named_interruption result storage asked same wrote called e recorded = inr (record {
      interrupted = record { fault = fault_of_storage e; recorded = λ is. or_right (is_changed_of storage) old.file.caches.is_changed recorded; since = lasts_named result asked (storage_of storage) same (pointer_written_as result asked (storage_of storage) wrote) called };
      header = subst (λ (v : HeaderView). MovesTables old.file.header.fields v.fields) (sym header_now) refl;
      below = refl;
      leaks = refl;
    })
