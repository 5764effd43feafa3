-- A reftable entry is written for a refblock that is in its cluster, and isn't cached.
use Rattle.std.proofs.Common.{◌≡◌, ◌≢◌, ◌⊎◌, ◌+◌, ◌*◌, ◌/◌, ◌%◌, ◌^◌, ◌<◌, ◌≤◌, inl, inr, ℕ, Bool, true, false, List, [], Option, Some, None, Result, Ok, refl, sym, ap, ◌∙◌, subst, arith, IfSome}
use Rattle.qcow2_alloc.proofs.Common.{cases_Bool, cases_eq, cases_lt, eq-eqb, ne_eqb, cond-true, cond-false, div-add-mod', mod_below, w64, to_be_bytes, overwritten, StorageView, EachMomentSince, Changes, Calls, IsLeftBy, StorageError, Bytes, byte_at, EntryTableView, IsRefTableOf, entry_count, RefBlockView, IsRefBlock, count_at, entry_at, ChangesEntry, HeaderFields, cluster_size, counts_per_block, count_width, reftable_entries, is_copied, reftable_entry, block_offset, block_count, host_offset, table_in, in_cluster, named_by_l1_table, named_by_reftable, on_sector, ref_block_at, SafeThroughout, one_at, with_new_tables, named_now, Pending, SameIn, AreClean, BlocksMayGo, HasL2, HasOwnL2, HasBlock, table_at, SafeStep, IsInternal, SameL1Table, IsSameBut, IsSameOutside, WritesReftableEntry, IsNewBlock, overwritten_but, reftable_entry_beside, table_once, clean_counts, Sizes, block_count-moved, done_safe_throughout, write_safe_throughout, shares, table_has, block_has, reftable_has, table_is_named, unseen_refblock, ImageFile, ImageStorage, placing, first_counts, HasPlaceFor, StandsFirst, HasBytesAt, nothing_given, view_in, contents_in, known_in, state_in, FileInvariant, HasReftable, InternalFileStep, storage_of, AreLoaded, order_of, l2_tables, refblocks, rb_at, IsBlockOf}
use Rattle.qcow2_metadata.proofs.WrittenTables.{IsRefTableOf-written_entry}
use Rattle.qcow2_laws.proofs.NewBlocks.{other_reftable}
use Rattle.qcow2_laws.proofs.NewTables.{outside_eight}
use Rattle.qcow2_alloc.proofs.CountsStay.{counts_follow, fixed_more}
use Rattle.qcow2_alloc.proofs.FileSteps.{one_here, pending_same}
use Rattle.qcow2_alloc.proofs.KeptTables.Getting.{cluster_aligned}
use Rattle.qcow2_alloc.proofs.KeptTables.Named.{AreCurrentIn, current_none, named_blocks_named, sound_named}
use Rattle.qcow2_alloc.proofs.KeptTables.Standing.{own_cluster}
use Rattle.qcow2_alloc.proofs.PlacedBlocks.{IsFree, is_free, file_sizes, has_none, covers_written, known_there, in_own, range_of_first}
use Rattle.qcow2_alloc.proofs.FileInvariants.{file_invariant_of}

-- what a write of an entry says
pub entry_write_as : {S : Type 0} (view : S → StorageView) (before asked after : S) (cluster : Option ℕ) (k bits bits' place n : ℕ) (bytes : List ℕ) (result : Result (Unit {0}) StorageError) → asked ≡ before → cluster ≡ Some k → bits ≡ bits' → k * 2 ^ bits' ≡ place
    → IfSome cluster (λ k. Changes (view asked) (view after) result (λ b. overwritten b (k * 2 ^ bits + n) bytes)) → Changes (view before) (view after) result (λ b. overwritten b (place + n) bytes)
entry_write_as view before asked after cluster k bits bits' place n bytes result same is same_bits at written =
    subst (λ s. Changes (view s) (view after) result (λ b. overwritten b (place + n) bytes)) same
    (subst (λ o. Changes (view asked) (view after) result (λ b. overwritten b (o + n) bytes)) at
    (subst (λ b. Changes (view asked) (view after) result (λ c. overwritten c (k * 2 ^ b + n) bytes)) same_bits (rw is at written)))

-- a table that stands in a cluster lies in this one alone
-- what is counted beside
surplus_placing : (d : Bool) (p : Pending) (at k : ℕ) → (placing d p at).surplus k ≡ p.surplus k
surplus_placing true p at k = refl
surplus_placing false p at k = refl

pub table_in-one : (h : HeaderFields) (c place at : ℕ) → place ≢ 0 → place / cluster_size h ≡ at → table_in h c place ≡ one_at at c
table_in-one h c place at real in_it =
    let inside : table_in h c place ≡ in_cluster h c place = cond-false _ _ _ (ne_eqb place 0 real) in
    elim (cases_eq c at) [
      | inl same ↦ inside ∙ cond-true {A = ℕ} _ 1 0 (eq-eqb (place / cluster_size h) c (in_it ∙ sym same)) ∙ sym (cond-true {A = ℕ} _ 1 0 (eq-eqb c at same))
      | inr other ↦ inside ∙ cond-false {A = ℕ} _ 1 0 (ne_eqb (place / cluster_size h) c (λ e. other (sym e ∙ in_it))) ∙ sym (cond-false {A = ℕ} _ 1 0 (ne_eqb c at other))
    ]

-- the first cluster of a range among those of it
first_of_range : (range per at c : ℕ) → 0 < per → at ≡ range * per → c / per ≡ range → one_at 0 (c % per) ≡ one_at at c
first_of_range range per at c some is in_range =
    let e = div-add-mod' c per in
    let whole : c / per * per ≡ range * per = ap (λ n. n * per) in_range in
    elim (cases_eq (c % per) 0) [
      | inl none ↦ cond-true {A = ℕ} _ 1 0 (eq-eqb (c % per) 0 none) ∙ sym (cond-true {A = ℕ} _ 1 0 (eq-eqb c at (omega (arith, e, whole, is, none))))
      | inr some ↦ cond-false {A = ℕ} _ 1 0 (ne_eqb (c % per) 0 some) ∙ sym (cond-false {A = ℕ} _ 1 0 (ne_eqb c at (λ same. some (omega (arith, e, whole, is, same)))))
    ]

-- what a new refblock says of the clusters of its range
abbrev new_counts : Bool → ℕ → ℕ → ℕ
new_counts true at c = one_at at c
new_counts false at c = 0

counts_as : (d : Bool) (h : HeaderFields) (range at c : ℕ) → 0 < counts_per_block h → StandsFirst d h range at → c / counts_per_block h ≡ range → first_counts d (c % counts_per_block h) ≡ new_counts d at c
counts_as true h range at c some first in_range = first_of_range range (counts_per_block h) at c some first in_range
counts_as false h range at c some first in_range = refl

module _ {S : Type 0} (view : S → StorageView) (d : Bool) (p : Pending) (range at : ℕ) (file : ImageFile S) (t t' : EntryTableView) (block : RefBlockView) (sound : FileInvariant view (placing d p at) file)
    (has : HasReftable view file t) (clean : AreClean (refblocks file.caches)) (may : BlocksMayGo (order_of file.caches) (l2_tables file.caches)) (place : HasPlaceFor d file.header.fields t range at)
    (within : range < entry_count t) (same : t' ≡ record t { bytes = t'.bytes }) (enters : ChangesEntry t.bytes t'.bytes range (at * cluster_size file.header.fields))
    (offset : block_offset (entry_at t'.bytes range) ≡ at * cluster_size file.header.fields) (fits : entry_at t'.bytes range < 2 ^ 64)
    (whole : IsRefBlock block) (format : IsBlockOf file.header.fields block) (counts : (i : ℕ) → count_at block i ≡ first_counts d i)
    (uncached : rb_at file.caches at ≡ None) (stands : HasBytesAt (contents_in view file) (at * cluster_size file.header.fields) block.bytes) where
  abbrev h : HeaderFields
  h = file.header.fields

  abbrev q : Pending
  q = placing d p at

  abbrev on_storage : Bytes
  on_storage = contents_in view file

  abbrev entry : ℕ
  entry = entry_at t'.bytes range

  sizes : Sizes h
  sizes = file_sizes view q file sound

  free : IsFree view q file at
  free = is_free view d p range at file t sound has may place

  in_at : block_offset entry / cluster_size h ≡ at
  in_at = ap (λ n. n / cluster_size h) offset ∙ own_cluster h.cluster_bits at

  -- the header's cluster is no refblock's
  pub real : 0 < at * cluster_size h
  real = elim (cases_lt 0 (at * cluster_size h)) [
    | inl some ↦ some
    | inr none ↦
        let is : at * cluster_size h ≡ 0 = omega arith in
        let zero : 0 / cluster_size h ≡ at = ap (λ n. n / cluster_size h) (sym is) ∙ own_cluster h.cluster_bits at in
        let first : in_cluster h at 0 ≡ 1 = cond-true {A = ℕ} _ 1 0 (eq-eqb (0 / cluster_size h) at zero) in
        let parts = shares h on_storage at in
        absurd (omega (arith, parts, first, free.unnamed.no_table))
  ]

  has_place : block_offset entry ≢ 0
  has_place none = let some = real in absurd (omega (arith, none, offset, some))

  module _ (storage : ImageStorage S) (is : (view (storage_of storage)).contents ≡ overwritten (view_in view file).contents (h.reftable_offset + 8 * range) (to_be_bytes w64 entry)) where
    abbrev named : ImageFile S
    named = record file { storage = storage }

    abbrev on_storage' : Bytes
    on_storage' = contents_in view named

    -- where the entry stands
    abbrev written_to : ℕ
    written_to = (h.reftable_offset + 8 * range) / cluster_size h

    within_table : range < reftable_entries h
    within_table = let e = has.count in omega (arith, within, e)

    but : IsSameBut (h.reftable_offset + 8 * range) 8 on_storage on_storage'
    but = subst (λ (l : List ℕ). IsSameBut (h.reftable_offset + 8 * range) 8 on_storage (byte_at l)) (sym is) (overwritten_but (view_in view file).contents (h.reftable_offset + 8 * range) (to_be_bytes w64 entry))

    outside : IsSameOutside (cluster_size h) written_to on_storage on_storage'
    outside = outside_eight (cluster_size h) h.reftable_offset range on_storage on_storage' sizes.whole sizes.some sound.caches.kept.kept.crash_invariant.top.reftable_aligned but

    table_now : IsRefTableOf h on_storage' t'
    table_now =
        let count : entry_count t' ≡ entry_count t = ap (λ n. n / 8) enters.as_long in
        subst (λ (l : List ℕ). IsRefTableOf h (byte_at l) t') (sym is)
        (IsRefTableOf-written_entry h (view_in view file).contents h.reftable_offset t' range (subst (λ n. range < n) (sym count) within) fits
        ((refl, sym has.count ∙ sym count), (λ i other. enters.others i other ∙ has.entries i)))

    pub writes : WritesReftableEntry h on_storage (known_in view file) on_storage' (known_in view named) range entry
    writes = reftable_entry_beside h (order_of file.caches) q (l2_tables file.caches) (refblocks file.caches) on_storage on_storage' sound.caches.kept.kept range entry within_table but (sym (table_now range))

    -- ---- the refblock that is named
    counted : (i : ℕ) → i < counts_per_block h → block_count on_storage (count_width h) (at * cluster_size h) i ≡ first_counts d i
    counted i lt =
        let per : counts_per_block h ≡ 2 ^ block.cluster_bits * 8 / 2 ^ block.refcount_order = sym (ap (λ n. 2 ^ n * 8 / 2 ^ block.refcount_order) format.bits ∙ ap (λ n. 2 ^ h.cluster_bits * 8 / 2 ^ n) format.order) in
        sym (subst (λ n. count_at block i ≡ block_count on_storage (2 ^ n) (at * cluster_size h) i) format.order (ref_block_at on_storage (at * cluster_size h) block whole stands i (subst (λ n. i < n) per lt))) ∙ counts i

    known_same : (i : ℕ) → i < counts_per_block h → block_count (known_in view file) (count_width h) (at * cluster_size h) i ≡ block_count on_storage (count_width h) (at * cluster_size h) i
    known_same i lt =
        block_count-moved h (known_in view file) on_storage (at * cluster_size h) (at * cluster_size h) i sizes lt (λ k k_lt. known_there view q file at sound free (at * cluster_size h + k) (in_own h.cluster_bits at k k_lt))

    new_with : (n : ℕ → ℕ) → ((c : ℕ) → c / counts_per_block h ≡ range → first_counts d (c % counts_per_block h) ≡ n c) → IsNewBlock h on_storage (known_in view file) range entry n
    new_with n says = record {
      none = (has_none view q file t sound has range place.none).0;
      reads = let aligned = on_sector at h.cluster_bits sound.caches.kept.kept.crash_invariant.top.header_reads.well_formed.in_range.cluster_bits.0 in let e = enters.entry_is in omega (arith, aligned, e);
      real = has_place;
      aligned = ap (λ n. n % cluster_size h) offset ∙ cluster_aligned at h.cluster_bits;
      says = λ c in_range.
          let lt = mod_below c (counts_per_block h) sizes.counts in
          ap (λ x. block_count on_storage (count_width h) x (c % counts_per_block h)) offset ∙ counted (c % counts_per_block h) lt ∙ says c in_range;
      known_says = λ c in_range.
          let lt = mod_below c (counts_per_block h) sizes.counts in
          ap (λ x. block_count (known_in view file) (count_width h) x (c % counts_per_block h)) offset ∙ known_same (c % counts_per_block h) lt ∙ counted (c % counts_per_block h) lt ∙ says c in_range;
    }

    first_says : (c : ℕ) → c / counts_per_block h ≡ range → first_counts d (c % counts_per_block h) ≡ new_counts d at c
    first_says c in_range = counts_as d h range at c sizes.counts place.first in_range

    named_pending : d ≡ false → named_now q (λ c. table_in h c (block_offset entry)) ≡ p
    named_pending is =
        ap (λ b. named_now (placing b p at) (λ c. table_in h c (block_offset entry))) is
        ∙ pending_same (named_now (with_new_tables p (one_at at)) (λ c. table_in h c (block_offset entry))) p (λ k. refl) (λ k. let one = table_in-one h k (block_offset entry) at has_place in_at in omega (arith, one)) (λ k. refl) (λ k. refl) (λ k. refl)

    pub safe_step : SafeStep (state_in view file q) (state_in view named p) nothing_given []
    safe_step = elim (cases_Bool d) [
      | inl is ↦
          subst (λ (r : Pending). SafeStep (state_in view file q) (state_in view named r) nothing_given []) (ap (λ b. placing b p at) is)
          (table_is_named.itself (state_in view file q) on_storage' (known_in view named) range entry sound.caches.kept.kept.crash_invariant writes
          (new_with (λ c. table_in h c (block_offset entry)) (λ c in_range. first_says c in_range ∙ ap (λ b. new_counts b at c) is ∙ sym (table_in-one h c (block_offset entry) at has_place in_at)))
          (ap (λ n. n / counts_per_block h) in_at ∙ (range_of_first range (counts_per_block h) at sizes.counts (subst (λ b. StandsFirst b h range at) is place.first)).0))
      | inr is ↦
          let own = one_here at in
          let new_tables : q.new_tables (block_offset entry / cluster_size h) ≡ p.new_tables at + one_at at at = ap q.new_tables in_at ∙ ap (λ (b : Bool). (placing b p at).new_tables at) is in
          subst (λ (r : Pending). SafeStep (state_in view file q) (state_in view named r) nothing_given []) (named_pending is)
          (table_is_named.refblock (state_in view file q) on_storage' (known_in view named) range entry sound.caches.kept.kept.crash_invariant writes
          (new_with (λ c. 0) (λ c in_range. first_says c in_range ∙ ap (λ b. new_counts b at c) is)) (omega (arith, new_tables, own))
          (clean_counts h (order_of file.caches) q (l2_tables file.caches) (refblocks file.caches) on_storage sound.caches.kept.kept clean (block_offset entry / cluster_size h))
          (covers_written view q file sound may))
    ]

    -- the others are named as they were
    still_named : (k : ℕ) → block_offset (reftable_entry h on_storage k) ≢ 0 → reftable_entry h on_storage' k ≡ reftable_entry h on_storage k
    still_named k some = sym (other_reftable h on_storage on_storage' range k but (λ same. some (ap (λ n. block_offset (reftable_entry h on_storage n)) same ∙ (has_none view q file t sound has range place.none).0)))

    -- ---- the caches
    abbrev unseen : IsInternal (state_in view file q) (state_in view named p) × SameL1Table (state_in view file q) (state_in view named p)
    unseen = unseen_refblock (state_in view file q) (state_in view named p) sound.caches.kept.kept.crash_invariant range entry refl writes

    -- tables stand in other clusters than the reftable
    apart : (c : ℕ) → 0 < named_by_l1_table h on_storage c + named_by_reftable h on_storage c → c ≢ written_to
    apart c some here =
        let one = reftable_has h range sizes sound.caches.kept.kept.crash_invariant.top.reftable_aligned within_table in
        let parts = shares h on_storage written_to in
        let some_here = subst (λ n. 0 < named_by_l1_table h on_storage n + named_by_reftable h on_storage n) here some in
        absurd (omega (arith, table_once h (order_of file.caches) q on_storage (known_in view file) sound.caches.kept.kept.crash_invariant written_to (omega (arith, parts, one)), parts, one, some_here))

    stays_in : (c : ℕ) → c ≢ written_to → SameIn (cluster_size h) c on_storage' on_storage
    stays_in c other o in_c = sym (outside o (λ e. other (sym in_c ∙ e)))

    l2_same : (i : ℕ) → table_at h on_storage' i ≡ table_at h on_storage i
    l2_same i = ap host_offset (unseen.1 i)

    l2_still : (c : ℕ) → HasOwnL2 h on_storage c → HasOwnL2 h on_storage' c
    l2_still c has = (has.0, (λ none. has.1 (sym (l2_same has.0) ∙ none)), ap (λ n. n / cluster_size h) (l2_same has.0) ∙ has.2, ap is_copied (unseen.1 has.0) ∙ has.3)

    l2_now : (c : ℕ) → HasL2 h on_storage' c → (HasL2 h on_storage c × SameIn (cluster_size h) c on_storage' on_storage) ⊎ AreCurrentIn (cluster_size h) c (l2_tables file.caches) on_storage'
    l2_now c has =
        let was : HasL2 h on_storage c = (has.0, (λ none. has.1 (l2_same has.0 ∙ none)), ap (λ n. n / cluster_size h) (sym (l2_same has.0)) ∙ has.2) in
        inl (was, stays_in c (apart c (let one = subst (λ n. 1 ≤ named_by_l1_table h on_storage n) was.2 (table_has h on_storage was.0 was.1) in omega (arith, one))))

    rb_other : (k : ℕ) → k ≢ range → block_offset (reftable_entry h on_storage k) ≡ block_offset (reftable_entry h on_storage' k)
    rb_other k other = ap block_offset (other_reftable h on_storage on_storage' range k but other)

    rb_still : (c : ℕ) → HasBlock h on_storage c → HasBlock h on_storage' c
    rb_still c there =
        let e = rb_other there.0 (λ same. there.1 (ap (λ k. block_offset (reftable_entry h on_storage k)) same ∙ (has_none view q file t sound has range place.none).0)) in
        (there.0, (λ none. there.1 (e ∙ none)), ap (λ n. n / cluster_size h) (sym e) ∙ there.2)

    current : AreCurrentIn (cluster_size h) at (refblocks file.caches) on_storage'
    current =
        let same_bits = sound.caches.rb_format.bits in
        subst (λ n. AreCurrentIn (2 ^ n) at (refblocks file.caches) on_storage') same_bits
        (current_none file.caches.rb.backend.header.fields.cluster_bits (λ (b : RefBlockView). b.bytes) (λ b. b.is_modified) (HasBlock h on_storage) on_storage on_storage' at file.caches.rb.entries uncached
        (subst (λ n. AreLoaded (2 ^ n) (HasBlock h on_storage) (refblocks file.caches) on_storage) (sym same_bits) sound.caches.kept.rb_loaded))

    rb_now : (c : ℕ) → HasBlock h on_storage' c → (HasBlock h on_storage c × SameIn (cluster_size h) c on_storage' on_storage) ⊎ AreCurrentIn (cluster_size h) c (refblocks file.caches) on_storage'
    rb_now c has = elim (cases_eq has.0 range) [
      | inl same ↦
          let here : at ≡ c = sym in_at ∙ ap (λ e. block_offset e / cluster_size h) (table_now range) ∙ ap (λ k. block_offset (reftable_entry h on_storage' k) / cluster_size h) (sym same) ∙ has.2 in
          inr (subst (λ n. AreCurrentIn (cluster_size h) n (refblocks file.caches) on_storage') here current)
      | inr other ↦
          let e = rb_other has.0 other in
          let was : HasBlock h on_storage c = (has.0, (λ none. has.1 (sym e ∙ none)), ap (λ n. n / cluster_size h) e ∙ has.2) in
          inl (was, stays_in c (apart c (let one = subst (λ n. 1 ≤ named_by_reftable h on_storage n) was.2 (block_has h on_storage was.0 was.1) in omega (arith, one))))
    ]

    pub reftable_named : HasReftable view named t'
    reftable_named = record {
      cluster = ap (λ (x : EntryTableView). x.cluster) same ∙ has.cluster;
      bits = ap (λ (x : EntryTableView). x.cluster_bits) same ∙ has.bits;
      count = ap (λ n. n / 8) enters.as_long ∙ has.count;
      entries = table_now;
    }

    pub file_step_named : (view (storage_of storage)).is_honest → EachMomentSince (view_in view file) (view (storage_of storage)) (IsLeftBy (view (storage_of storage))) → InternalFileStep view q p file named
    file_step_named honest time = record {
      sound = file_invariant_of
          honest
          (sound_named h q p file.caches on_storage on_storage' sound.caches sound.named_blocks l2_still rb_still l2_now rb_now safe_step.sound)
          (named_blocks_named h q p file.caches on_storage on_storage' sound.caches sound.named_blocks l2_still rb_still l2_now rb_now)
          sound.room;
      safe_step = safe_step;
      since = done_safe_throughout (view_in view file) (view (storage_of storage)) (state_in view file q) (state_in view named p) nothing_given [] time refl refl safe_step;
      unseen = unseen.0;
      l1_table = unseen.1;
      counts = λ k. counts_follow h (order_of file.caches) (order_of file.caches) q p on_storage on_storage' (known_in view file) (known_in view named) sound.caches.kept.kept.crash_invariant safe_step.sound unseen.0.covers (fixed_more h on_storage on_storage' still_named unseen.1) k (sym (surplus_placing d p at k));
    }

  -- what is kept of the storage and of what is known is kept, whether the write is done or not; and where it is done, the refblock is named
  module _ (storage : ImageStorage S) (result : Result (Unit {0}) StorageError) (calls : Calls (view_in view file) (view (storage_of storage)) result)
      (changes : Changes (view_in view file) (view (storage_of storage)) result (λ b. overwritten b (h.reftable_offset + 8 * range) (to_be_bytes w64 entry))) where
    pub safe_throughout_named : SafeThroughout (view_in view file) (view (storage_of storage)) (known_in view file) nothing_given []
    safe_throughout_named =
        write_safe_throughout {result = result} (view_in view file) (view (storage_of storage)) (state_in view file q) nothing_given [] (λ b. overwritten b (h.reftable_offset + 8 * range) (to_be_bytes w64 entry)) calls changes sound.honest refl
        (λ is. (state_in view (record file { storage = storage }) p, refl, safe_step storage is))

    pub named_so : (x : Unit {0}) → result ≡ Ok x → InternalFileStep view q p file (record file { storage = storage }) × HasReftable view (record file { storage = storage }) t'
    named_so x done = let is = rw done at (changes sound.honest) in (file_step_named storage is (calls.honest sound.honest) (calls.time sound.honest), reftable_named storage is)
