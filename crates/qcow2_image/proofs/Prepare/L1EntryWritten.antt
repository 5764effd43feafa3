-- An L1 entry is written for a new L2 table that is in its cluster.
use Rattle.std.proofs.Common.{◌≡◌, ◌≢◌, ◌⊎◌, ◌+◌, ◌*◌, ◌/◌, ◌%◌, ◌^◌, ◌<◌, ◌≤◌, inl, inr, ℕ, true, List, [], length, Option, Result, Ok, refl, sym, ap, ◌∙◌, subst, arith}
use Rattle.qcow2_image.proofs.Common.{cases_eq, eq-eqb, ne_eqb, cond-true, cond-false, append-nil, mod_below, div-add-mod', IfSome, w64, to_be_bytes, BackingView, overwritten, StorageView, EachMomentSince, Changes, Calls, IsLeftBy, StorageError, Bytes, byte_at, HeaderFields, cluster_size, entries_per_cluster, counts_per_block, l1_entry, l2_entry, reftable_entry, block_offset, host_offset, is_copied, L1EntryReads, count, cover, entry_cover, EntryTableView, IsL1TableOf, entry_count, L2TableView, copied_entry, IsHostCluster, table_in, in_cluster, named_for_tables, named_by_l1_table, named_by_reftable, entry_at, ChangesEntry, SafeThroughout, one_at, with_new_tables, renamed, Pending, SameIn, table_at, HasL2, HasOwnL2, HasBlock, SafeStep, IsSameBut, IsSameOutside, WritesL1Entry, IsNewTable, IsInternal, overwritten_but, l1_entry_beside, table_once, clean_counts, shared_covers, Sizes, cover_none, shares, in_l1, l1_has, l1_reftable, table_has, block_has, count_stays, table_is_named, unseen_l2_table, done_safe_throughout, write_safe_throughout, Allocator, ImageStorage, nothing_given, view_in, contents_in, known_in, state_in, storage_of, order_of, l2_tables, refblocks, CacheInvariant, one_here, pending_same, cluster_aligned, AreCurrentIn, current_entry, loaded_named, own_cluster, IsFree, covers_written, file_sizes, known_there, IsAllocatorOf, allocator_kept, file_invariant_of, Qcow2, Prepared, SaysKnown, StandsReady, MayName, NamesCopied, replacing, NamesOwn, KeepsCopied, InternalStep, cluster_of, IsReadyWith, ImageInvariant, HasL1Table, Mappings}
use Rattle.qcow2_metadata.proofs.EntryTables.{on_sector}
use Rattle.qcow2_metadata.proofs.TablesAt.{entry_stands}
use Rattle.qcow2_metadata.proofs.WrittenTables.{IsL1TableOf-written_entry}
use Rattle.qcow2_laws.proofs.KeptSteps.{kept_beside}
use Rattle.qcow2_laws.proofs.NewTables.{outside_eight, other_l1}
use Rattle.qcow2_alloc.specs.KeptTables.{AreLoaded}
use Rattle.qcow2_alloc.proofs.NamedBlocks.{entry_write_as}
use Rattle.qcow2_alloc.proofs.PlacedBlocks.{in_own}
use Rattle.qcow2_image.proofs.Prepare.NewL2Table.{free_here}
use Rattle.qcow2_image.proofs.Images.Ready.{still_ready}
use Rattle.qcow2_alloc.proofs.KeptTables.Apart.{clean_free}

-- a table that begins in a cluster lies in this one alone
pub table_alone : (h : HeaderFields) (at c : ℕ) → at * cluster_size h ≢ 0 → table_in h c (at * cluster_size h) ≡ one_at at c
table_alone h at c real =
    let inside : table_in h c (at * cluster_size h) ≡ in_cluster h c (at * cluster_size h) = cond-false _ _ _ (ne_eqb (at * cluster_size h) 0 real) in
    let own = own_cluster h.cluster_bits at in
    elim (cases_eq c at) [
      | inl same ↦ inside ∙ cond-true {A = ℕ} _ 1 0 (eq-eqb (at * cluster_size h / cluster_size h) c (own ∙ sym same)) ∙ sym (cond-true {A = ℕ} _ 1 0 (eq-eqb c at same))
      | inr other ↦ inside ∙ cond-false {A = ℕ} _ 1 0 (ne_eqb (at * cluster_size h / cluster_size h) c (λ e. other (sym e ∙ own))) ∙ sym (cond-false {A = ℕ} _ 1 0 (ne_eqb c at other))
    ]

module _ {S F : Type 0} (view : S → StorageView) (backing : F → BackingView) (old : Qcow2 S F) (out : Mappings) (p : Pending) (index at : ℕ) (t' : EntryTableView) (table : L2TableView)
    (sound : ImageInvariant view backing (with_new_tables p (one_at at)) old out) (may : MayName view old index) (says : SaysKnown old.file.header.fields (known_in view old.file) index table) (whole : length table.bytes ≡ 2 ^ table.cluster_bits)
    (ready : StandsReady view old at table.bytes) (within : index < entry_count old.l1_table) (nameable : IsHostCluster old.l1_table.cluster_bits at) (same : t' ≡ record old.l1_table { bytes = t'.bytes })
    (enters : ChangesEntry old.l1_table.bytes t'.bytes index (copied_entry (at * 2 ^ old.l1_table.cluster_bits))) (offset : host_offset (entry_at t'.bytes index) ≡ at * 2 ^ old.l1_table.cluster_bits)
    (copied : is_copied (entry_at t'.bytes index) ≡ true) (fits : entry_at t'.bytes index < 2 ^ 64) where
  abbrev h : HeaderFields
  h = old.file.header.fields

  abbrev q : Pending
  q = with_new_tables p (one_at at)

  abbrev on_storage : Bytes
  on_storage = contents_in view old.file

  abbrev known : Bytes
  known = known_in view old.file

  abbrev entry : ℕ
  entry = entry_at t'.bytes index

  sizes : Sizes h
  sizes = file_sizes view q old.file sound.file

  some : 0 < q.new_tables at
  some = let own = one_here at in omega (arith, own)

  free : IsFree view q old.file at
  free = free_here view backing old out q sound ready.stored at some

  place : host_offset entry ≡ at * cluster_size h
  place = offset ∙ ap (λ n. at * 2 ^ n) sound.l1_table.bits

  in_at : host_offset entry / cluster_size h ≡ at
  in_at = ap (λ n. n / cluster_size h) place ∙ own_cluster h.cluster_bits at

  -- the header's cluster is no table's
  real : at * cluster_size h ≢ 0
  real is =
      let zero : 0 / cluster_size h ≡ at = ap (λ n. n / cluster_size h) (sym is) ∙ own_cluster h.cluster_bits at in
      let first : in_cluster h at 0 ≡ 1 = cond-true {A = ℕ} _ 1 0 (eq-eqb (0 / cluster_size h) at zero) in
      let parts = shares h on_storage at in
      let none = free.unnamed.no_table in
      absurd (omega (arith, parts, first, none))

  reads : L1EntryReads entry
  reads =
      let value = enters.entry_is ∙ ap (λ n. copied_entry (at * 2 ^ n)) sound.l1_table.bits in
      let near = subst (λ n. IsHostCluster n at) sound.l1_table.bits nameable in
      let aligned = on_sector at h.cluster_bits sound.file.caches.kept.kept.crash_invariant.top.header_reads.well_formed.in_range.cluster_bits.0 in
      (omega (arith, value, near, aligned), omega (arith, value, near, aligned))

  -- what the new table says, on the storage and as known
  long : length table.bytes ≡ cluster_size h
  long = whole ∙ ap (λ n. 2 ^ n) says.format.bits

  known_here : (i : ℕ) → i < length table.bytes → byte_at table.bytes i ≡ known (at * cluster_size h + i)
  known_here i lt =
      ready.stands i lt ∙ sym ((known_there view q old.file at sound.file free) (at * cluster_size h + i) (in_own h.cluster_bits at i (subst (λ n. i < n) long lt)))

  stands : (b : Bytes) → ((i : ℕ) → i < length table.bytes → byte_at table.bytes i ≡ b (at * cluster_size h + i)) → (j : ℕ) → j < entries_per_cluster h → entry_at table.bytes j ≡ l2_entry b (host_offset entry) j
  stands b there j lt =
      let eights = sizes.eights in
      entry_stands b (at * cluster_size h) table.bytes j there (omega (arith, long, eights, lt)) ∙ ap (λ n. l2_entry b n j) (sym place)

  known_covers : (g : ℕ) → g / entries_per_cluster h ≡ index → cover h known g ≡ entry_cover h (l2_entry known (host_offset entry) (g % entries_per_cluster h))
  known_covers g here = says.says g here ∙ ap (entry_cover h) (stands known known_here (g % entries_per_cluster h) (mod_below g (entries_per_cluster h) sizes.entries))

  -- the known mappings of the entry's guest clusters are those on the storage
  stored : (g : ℕ) → g / entries_per_cluster h ≡ index → cover h on_storage g ≡ cover h known g
  stored g here = elim (cases_eq (table_at h on_storage index) 0) [
    | inl none ↦
        let at_storage : table_at h on_storage (g / entries_per_cluster h) ≡ 0 = ap (table_at h on_storage) here ∙ none in
        cover_none h on_storage g at_storage ∙ sym (cover_none h known g (ap host_offset (sym (sound.file.caches.kept.kept.crash_invariant.same_top.l1 (g / entries_per_cluster h))) ∙ at_storage))
    | inr real ↦ shared_covers h (order_of old.file.caches) q (l2_tables old.file.caches) (refblocks old.file.caches) on_storage sound.file.caches.kept.kept index (λ copied. may (real, copied)) g here
  ]

  covers : (g : ℕ) → g / entries_per_cluster h ≡ index → cover h on_storage g ≡ entry_cover h (l2_entry on_storage (host_offset entry) (g % entries_per_cluster h))
  covers g here = stored g here ∙ says.says g here ∙ ap (entry_cover h) (stands on_storage ready.stands (g % entries_per_cluster h) (mod_below g (entries_per_cluster h) sizes.entries))

  new_table : IsNewTable h (order_of old.file.caches) q on_storage known index entry
  new_table = record {
    reads = reads;
    real = λ none. real (sym place ∙ none);
    aligned = ap (λ n. n % cluster_size h) place ∙ cluster_aligned at h.cluster_bits;
    new_tables = subst (λ n. 0 < q.new_tables n) (sym in_at) some;
    counted = clean_counts h (order_of old.file.caches) q (l2_tables old.file.caches) (refblocks old.file.caches) on_storage sound.file.caches.kept.kept ready.stored.counts (host_offset entry / cluster_size h);
    written = covers_written view q old.file sound.file ready.stored.first;
    covers = covers;
    known_covers = known_covers;
  }

  module _ (storage : ImageStorage S) (is : (view (storage_of storage)).contents ≡ overwritten (view_in view old.file).contents (h.l1_offset + 8 * index) (to_be_bytes w64 entry)) where
    abbrev named : Qcow2 S F
    named = record old { file = record old.file { storage = storage }; l1_table = t' }

    abbrev on_storage' : Bytes
    on_storage' = contents_in view named.file

    -- where the entry lies
    abbrev written_to : ℕ
    written_to = (h.l1_offset + 8 * index) / cluster_size h

    within_table : index < h.l1_entries
    within_table = let e = sound.l1_table.count in omega (arith, within, e)

    but : IsSameBut (h.l1_offset + 8 * index) 8 on_storage on_storage'
    but = subst (λ (l : List ℕ). IsSameBut (h.l1_offset + 8 * index) 8 on_storage (byte_at l)) (sym is) (overwritten_but (view_in view old.file).contents (h.l1_offset + 8 * index) (to_be_bytes w64 entry))

    outside : IsSameOutside (cluster_size h) written_to on_storage on_storage'
    outside = outside_eight (cluster_size h) h.l1_offset index on_storage on_storage' sizes.whole sizes.some sound.file.caches.kept.kept.crash_invariant.top.l1_aligned but

    stays_in : (c : ℕ) → c ≢ written_to → SameIn (cluster_size h) c on_storage on_storage'
    stays_in c other o in_c = outside o (λ e. other (sym in_c ∙ e))

    table_now : IsL1TableOf h on_storage' t'
    table_now =
        let count : entry_count t' ≡ entry_count old.l1_table = ap (λ n. n / 8) enters.as_long in
        subst (λ (l : List ℕ). IsL1TableOf h (byte_at l) t') (sym is)
        (IsL1TableOf-written_entry h (view_in view old.file).contents h.l1_offset t' index (subst (λ n. index < n) (sym count) within) fits
        ((refl, sym sound.l1_table.count ∙ sym count), (λ i other. enters.others i other ∙ sound.l1_table.entries i)))

    writes : WritesL1Entry h on_storage known on_storage' (known_in view named.file) index entry
    writes = l1_entry_beside h (order_of old.file.caches) q (l2_tables old.file.caches) (refblocks old.file.caches) on_storage on_storage' sound.file.caches.kept.kept index entry within_table but (sym (table_now index))

    fewer : renamed q (λ c. table_in h c (host_offset entry)) (λ c. table_in h c (table_at h on_storage index)) ≡ replacing view p old index
    fewer = pending_same _ (replacing view p old index) (λ k. refl) (λ k. let one = ap (table_in h k) place ∙ table_alone h at k real in omega (arith, one)) (λ k. refl) (λ k. refl) (λ k. refl)

    safe_step : SafeStep (state_in view old.file q) (state_in view named.file (replacing view p old index)) nothing_given []
    safe_step = subst (λ (r : Pending). SafeStep (state_in view old.file q) (state_in view named.file r) nothing_given []) fewer
        (table_is_named.l2_table (state_in view old.file q) on_storage' (known_in view named.file) index entry sound.file.caches.kept.kept.crash_invariant writes new_table)

    unseen : IsInternal (state_in view old.file q) (state_in view named.file (replacing view p old index))
    unseen = unseen_l2_table (state_in view old.file q) (state_in view named.file (replacing view p old index)) sound.file.caches.kept.kept.crash_invariant index entry refl writes new_table

    -- ---- the caches
    part : 1 ≤ in_l1 h written_to
    part = let one = l1_has h index sizes sound.file.caches.kept.kept.crash_invariant.top.l1_aligned within_table in omega (arith, one)

    once : named_for_tables h on_storage written_to ≡ 1
    once = let parts = shares h on_storage written_to in let one = part in table_once h (order_of old.file.caches) q on_storage known sound.file.caches.kept.kept.crash_invariant written_to (omega (arith, parts, one))

    reftable_same : (k : ℕ) → reftable_entry h on_storage k ≡ reftable_entry h on_storage' k
    reftable_same = l1_reftable h on_storage on_storage' sound.file.caches.kept.kept.crash_invariant.top written_to part (let one = once in omega (arith, one)) stays_in

    apart : (c : ℕ) → 0 < named_by_l1_table h on_storage c + named_by_reftable h on_storage c → c ≢ written_to
    apart c some here =
        let parts = shares h on_storage written_to in
        let one = part in
        let only = once in
        let some_here = subst (λ n. 0 < named_by_l1_table h on_storage n + named_by_reftable h on_storage n) here some in
        absurd (omega (arith, only, parts, one, some_here))

    back_in : (c : ℕ) → 0 < named_by_l1_table h on_storage c + named_by_reftable h on_storage c → SameIn (cluster_size h) c on_storage' on_storage
    back_in c some o in_c = sym (stays_in c (apart c some) o in_c)

    -- the new table does not overlap the L1 table, and its cached bytes are those on the storage
    free_apart : at ≢ written_to
    free_apart here =
        let parts = shares h on_storage written_to in
        let one = part in
        let none : named_for_tables h on_storage written_to ≡ 0 = ap (named_for_tables h on_storage) (sym here) ∙ free.unnamed.no_table in
        absurd (omega (arith, parts, one, none))

    current : AreCurrentIn (cluster_size h) at (l2_tables old.file.caches) on_storage'
    current =
        let new_data = ready.new_data in
        let same_bits = sound.file.caches.l2_format.bits in
        let there : (i : ℕ) → i < cluster_size h → byte_at new_data.0.bytes i ≡ on_storage' (at * cluster_size h + i) = λ i lt.
        ap (λ l. byte_at l i) new_data.2 ∙ ready.stands i (subst (λ n. i < n) (sym long) lt)
        ∙ outside (at * cluster_size h + i) (λ e. free_apart (sym (in_own h.cluster_bits at i lt) ∙ e)) in
        subst (λ n. AreCurrentIn (2 ^ n) at (l2_tables old.file.caches) on_storage') same_bits
        (current_entry old.file.caches.l2.backend.header.fields.cluster_bits (λ (t : L2TableView). t.bytes) (λ t. t.is_modified) (HasL2 h on_storage) on_storage on_storage' at old.file.caches.l2.entries new_data.0 new_data.1
        (subst (λ n. (i : ℕ) → i < 2 ^ n → byte_at new_data.0.bytes i ≡ on_storage' (at * 2 ^ n + i)) (sym same_bits) there)
        (subst (λ n. AreLoaded (2 ^ n) (HasL2 h on_storage) (l2_tables old.file.caches) on_storage) (sym same_bits) sound.file.caches.kept.l2_loaded))

    -- a table whose entry is marked copied is named still
    still_named : (c : ℕ) → HasOwnL2 h on_storage c → HasOwnL2 h on_storage' c
    still_named c has =
        let same : l1_entry h on_storage has.0 ≡ l1_entry h on_storage' has.0 = other_l1 h on_storage on_storage' index has.0 but (λ here.
        may ((λ none. has.1 (ap (table_at h on_storage) here ∙ none)), ap (λ k. is_copied (l1_entry h on_storage k)) (sym here) ∙ has.3)) in
        let e : table_at h on_storage has.0 ≡ table_at h on_storage' has.0 = ap host_offset same in
        (has.0, (λ gone. has.1 (e ∙ gone)), ap (λ n. n / cluster_size h) (sym e) ∙ has.2, ap is_copied (sym same) ∙ has.3)

    l2_now : (c : ℕ) → HasL2 h on_storage' c → (HasL2 h on_storage c × SameIn (cluster_size h) c on_storage' on_storage) ⊎ AreCurrentIn (cluster_size h) c (l2_tables old.file.caches) on_storage'
    l2_now c has = elim (cases_eq has.0 index) [
      | inl same ↦
          let here : at ≡ c = sym in_at ∙ ap (λ e. host_offset e / cluster_size h) (table_now index) ∙ ap (λ k. table_at h on_storage' k / cluster_size h) (sym same) ∙ has.2 in
          inr (subst (λ k. AreCurrentIn (cluster_size h) k (l2_tables old.file.caches) on_storage') here current)
      | inr other ↦
          let e : table_at h on_storage has.0 ≡ table_at h on_storage' has.0 = ap host_offset (other_l1 h on_storage on_storage' index has.0 but other) in
          let was : HasL2 h on_storage c = (has.0, (λ none. has.1 (sym e ∙ none)), ap (λ n. n / cluster_size h) e ∙ has.2) in
          inl (was, back_in c (let one = subst (λ n. 1 ≤ named_by_l1_table h on_storage n) was.2 (table_has h on_storage was.0 was.1) in omega (arith, one)))
    ]

    rb_now : (c : ℕ) → HasBlock h on_storage' c → (HasBlock h on_storage c × SameIn (cluster_size h) c on_storage' on_storage) ⊎ AreCurrentIn (cluster_size h) c (refblocks old.file.caches) on_storage'
    rb_now c has =
        let e = ap block_offset (reftable_same has.0) in
        let was : HasBlock h on_storage c = (has.0, (λ none. has.1 (sym e ∙ none)), ap (λ n. n / cluster_size h) e ∙ has.2) in
        inl (was, back_in c (let one = subst (λ n. 1 ≤ named_by_reftable h on_storage n) was.2 (block_has h on_storage was.0 was.1) in omega (arith, one)))

    caches_named : CacheInvariant h (replacing view p old index) old.file.caches on_storage'
    caches_named = record {
      l2_format = sound.file.caches.l2_format;
      rb_format = sound.file.caches.rb_format;
      l2_fit = sound.file.caches.l2_fit;
      rb_fit = sound.file.caches.rb_fit;
      kept = record {
        kept =
            kept_beside h h (order_of old.file.caches) (order_of old.file.caches) q (replacing view p old index) (l2_tables old.file.caches) (refblocks old.file.caches) on_storage on_storage' sound.file.caches.kept.kept refl safe_step.sound
            (λ c has. inr (still_named c has)) (λ c either. inl (clean_free (cluster_size h) (refblocks old.file.caches) ready.stored.counts c));
        l2_loaded = loaded_named (cluster_size h) (HasL2 h on_storage) (HasL2 h on_storage') on_storage on_storage' (l2_tables old.file.caches) l2_now sound.file.caches.kept.l2_loaded;
        rb_loaded = loaded_named (cluster_size h) (HasBlock h on_storage) (HasBlock h on_storage') on_storage on_storage' (refblocks old.file.caches) rb_now sound.file.caches.kept.rb_loaded;
      };
    }

    -- ---- the image
    own_stays : KeepsCopied (state_in view old.file q) (state_in view named.file (replacing view p old index))
    own_stays i own = sym (other_l1 h on_storage on_storage' index i but (λ here. may (subst (λ k. NamesOwn (l1_entry h on_storage k)) here own)))

    -- no refblock lies where the entry is written
    storage_counts : (k : ℕ) → count h on_storage k ≡ count h on_storage' k
    storage_counts k =
        count_stays h on_storage on_storage' sound.file.caches.kept.kept.crash_invariant.top k (reftable_same (k / counts_per_block h))
        (λ real o in_block. sym (back_in (block_offset (reftable_entry h on_storage (k / counts_per_block h)) / cluster_size h) (let one = block_has h on_storage (k / counts_per_block h) real in omega (arith, one)) o in_block))

    counts_named : (k : ℕ) → count h known k ≡ count h (known_in view named.file) k
    counts_named k =
        let before = clean_counts h (order_of old.file.caches) q (l2_tables old.file.caches) (refblocks old.file.caches) on_storage sound.file.caches.kept.kept ready.stored.counts k in
        let after = clean_counts h (order_of old.file.caches) (replacing view p old index) (l2_tables old.file.caches) (refblocks old.file.caches) on_storage' caches_named.kept.kept ready.stored.counts k in
        sym before ∙ storage_counts k ∙ after

    reftable_named : (a : Option Allocator) → IfSome a (IsAllocatorOf view old.file) → IfSome a (IsAllocatorOf view named.file)
    reftable_named = allocator_kept view old.file named.file (λ t has. record { cluster = has.cluster; bits = has.bits; count = has.count; entries = λ k. has.entries k ∙ reftable_same k })
        (λ k. let e = counts_named k in omega arith)

    l1_named : HasL1Table view backing named.file t'
    l1_named = record {
      cluster = λ some. ap (λ (x : EntryTableView). x.cluster) same ∙ sound.l1_table.cluster some;
      bits = ap (λ (x : EntryTableView). x.cluster_bits) same ∙ sound.l1_table.bits;
      count = ap (λ n. n / 8) enters.as_long ∙ sound.l1_table.count;
      entries = table_now;
    }

    ready_named : (j : ℕ) (r : Prepared) → IsReadyWith h out.place known on_storage r r.table → IsReadyWith h out.place (known_in view named.file) on_storage' r r.table
    ready_named j r is_ready =
        still_ready h out.place known on_storage (known_in view named.file) on_storage' r sound.file.caches.kept.kept.crash_invariant.same_top.l1 safe_step.sound.same_top.l1 own_stays (λ i. unseen.covers (cluster_of h r + i)) r.table is_ready

    pub keeps_named : (view (storage_of storage)).is_honest → EachMomentSince (view_in view old.file) (view (storage_of storage)) (IsLeftBy (view (storage_of storage))) → InternalStep view backing q (replacing view p old index) old named out
    keeps_named honest time = record {
      sound = record {
        works = sound.works;
        file = file_invariant_of honest caches_named (λ c. inl (clean_free (cluster_size h) (refblocks old.file.caches) ready.stored.counts c)) sound.file.room;
        l1_table = l1_named;
        reftable = reftable_named old.allocator sound.reftable;
        stands = sound.stands;
        below = sound.below;
        ready = λ j r there. let was = sound.ready j r there in record { own = was.own; mapped = ready_named j r was.mapped };
        pinned = sound.pinned;
        once = sound.once;
      };
      safe_step = safe_step;
      since = done_safe_throughout (view_in view old.file) (view (storage_of storage)) (state_in view old.file q) (state_in view named.file (replacing view p old index)) nothing_given [] time refl refl safe_step;
      unseen = unseen;
      copied = own_stays;
      below = refl;
      list = record { more = []; is = sym (append-nil old.file.free_list) };
      leaks = refl;
    }

    pub names_copied : NamesCopied view named index at
    names_copied =
        let now = table_now index in
        record {
          place = ap host_offset (sym now) ∙ place;
          own = ((λ none. real (sym place ∙ ap host_offset now ∙ none)), ap is_copied (sym now) ∙ copied);
        }

  -- ---- the write is done, or is not
  module _ (storage : ImageStorage S) (asked : S) (result : Result (Unit {0}) StorageError) (before : asked ≡ storage_of old.file.storage)
      (wrote : IfSome t'.cluster (λ k. Changes (view asked) (view (storage_of storage)) result (λ b. overwritten b (k * 2 ^ t'.cluster_bits + 8 * index) (to_be_bytes w64 entry)))) (called : Calls (view asked) (view (storage_of storage)) result) where
    calls : Calls (view_in view old.file) (view (storage_of storage)) result
    calls = subst (λ s. Calls (view s) (view (storage_of storage)) result) before called

    changes : Changes (view_in view old.file) (view (storage_of storage)) result (λ b. overwritten b (h.l1_offset + 8 * index) (to_be_bytes w64 entry))
    changes =
        let few : 0 < h.l1_entries = let e = sound.l1_table.count in omega (arith, within, e) in
        let aligned = sound.file.caches.kept.kept.crash_invariant.top.l1_aligned in
        entry_write_as view (storage_of old.file.storage) asked (storage_of storage) t'.cluster (h.l1_offset / cluster_size h) t'.cluster_bits h.cluster_bits h.l1_offset (8 * index) (to_be_bytes w64 entry) result before
        (ap (λ (x : EntryTableView). x.cluster) same ∙ sound.l1_table.cluster few) (ap (λ (x : EntryTableView). x.cluster_bits) same ∙ sound.l1_table.bits) (let e = div-add-mod' h.l1_offset (cluster_size h) in omega (arith, e, aligned)) wrote

    pub safe_throughout_named : SafeThroughout (view_in view old.file) (view (storage_of storage)) known nothing_given []
    safe_throughout_named =
        write_safe_throughout {result = result} (view_in view old.file) (view (storage_of storage)) (state_in view old.file q) nothing_given [] (λ b. overwritten b (h.l1_offset + 8 * index) (to_be_bytes w64 entry)) calls changes
        sound.file.honest refl (λ is. (state_in view (record old.file { storage = storage }) (replacing view p old index), refl, safe_step storage is))

    pub named_so : (x : Unit {0}) → result ≡ Ok x → InternalStep view backing q (replacing view p old index) old (record old { file = record old.file { storage = storage }; l1_table = t' }) out × NamesCopied view (record old { file = record old.file { storage = storage }; l1_table = t' }) index at
    named_so x done = let is = rw done at (changes sound.file.honest) in (keeps_named storage is (calls.honest sound.file.honest) (calls.time sound.file.honest), names_copied storage is)
