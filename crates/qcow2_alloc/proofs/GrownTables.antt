-- The header may point to a longer reftable that is on the storage with its refblocks.
use Rattle.std.proofs.Common.{◌≡◌, ◌≢◌, ◌+◌, ◌-◌, ◌*◌, ◌/◌, ◌%◌, ◌^◌, ◌<◌, ◌≤◌, ◌==◌, inl, inr, ℕ, cond, nat_lt, List, length, Option, Some, refl, sym, ap, ◌∙◌, subst, arith}
use Rattle.qcow2_alloc.proofs.Common.{cases_eq, cases_lt, eq-eqb, ne_eqb, cond-true, cond-false, lt-ltb, le-ltb, div-mul-add, mod_below, StorageView, Bytes, byte_at, sum_below, HeaderFields, cluster_size, counts_per_block, count_width, reftable_entries, entries_per_cluster, with_reftable, reftable_entry, l2_entry, block_offset, block_count, count, ReftableEntryReads, EntryTableView, HasRoomIfPlaced, IsRefTable, IsRefTableOf, NamesRefTable, entry_count, in_run, table_in, named_by_reftable, entry_at, entry_at_past, number_at-moved, Pending, SameIn, IsNewReftable, with_places, with_reftable_at, clean_counts, Sizes, reftable-same, block_count-moved, in_one, reftable_has, sum_below-same, ImageFile, run_at, HasBytesAt, HasNone, counted_run, with_run, named_by_reftable_entries, StandsGrown, contents_in, known_in, FileInvariant, HasReftable, order_of, l2_tables, refblocks}
use Rattle.qcow2_metadata.specs.Bytes.{number_at}
use Rattle.qcow2_alloc.proofs.Lemmas.{cluster_aligned, own_cluster, IsFree, file_sizes, covers_written, known_there, free_in_run, run_in, run_before, run_after}

-- ---- runs

-- each cluster is one of a run, or isn't
pub run_few : (first n c : ℕ) → run_at first n c ≤ 1
run_few first n c = elim (cases_lt c first) [
  | inl below ↦ let e = run_before first n c below in omega arith
  | inr above ↦ elim (cases_lt c (first + n)) [
    | inl within ↦ let e = run_in first n c above within in omega arith
    | inr past ↦ let e = run_after first n c past in omega arith
  ]
]

-- a run in two parts
pub run_parts : (first m n c : ℕ) → run_at first (m + n) c ≡ run_at first m c + run_at (first + m) n c
run_parts first m n c = elim (cases_lt c first) [
  | inl below ↦ let a = run_before first (m + n) c below in let b = run_before first m c below in let d = run_before (first + m) n c (omega arith) in omega arith
  | inr above ↦ elim (cases_lt c (first + m)) [
    | inl within ↦ let a = run_in first (m + n) c above (omega arith) in let b = run_in first m c above within in let d = run_before (first + m) n c within in omega arith
    | inr behind ↦ elim (cases_lt c (first + m + n)) [
      | inl within ↦ let a = run_in first (m + n) c above (omega arith) in let b = run_after first m c behind in let d = run_in (first + m) n c behind within in omega arith
      | inr past ↦ let a = run_after first (m + n) c (omega arith) in let b = run_after first m c behind in let d = run_after (first + m) n c past in omega arith
    ]
  ]
]

-- whole clusters, as those that their bytes need
pub whole_clusters : (n size : ℕ) → 0 < size → (n * size + size - 1) / size ≡ n
whole_clusters n size some =
    let e : n * size + size - 1 ≡ n * size + (size - 1) = omega arith in
    ap (λ k. k / size) e ∙ div-mul-add n size (size - 1) (omega arith)

pub run_of_clusters : (h : HeaderFields) (first n c : ℕ) → 0 < cluster_size h → in_run h c (first * cluster_size h) (n * cluster_size h) ≡ run_at first n c
run_of_clusters h first n c some =
    ap (λ f. run_at f ((n * cluster_size h + cluster_size h - 1) / cluster_size h) c) (own_cluster h.cluster_bits first) ∙ ap (λ k. run_at first k c) (whole_clusters n (cluster_size h) some)

-- ---- entries of a table whose bytes stand there
stands_entry : (b : Bytes) (place n : ℕ) (bytes : List ℕ) → length bytes ≡ 8 * n → HasBytesAt b place bytes → (i : ℕ) → entry_at bytes i ≡ cond (nat_lt i n) (number_at b (place + 8 * i) 8) 0
unfolding l2_entry
stands_entry b place n bytes whole stands i = elim (cases_lt i n) [
  | inl within ↦
      number_at-moved (byte_at bytes) b (0 + 8 * i) (place + 8 * i) 8 (λ k lt.
      let inside : 0 + 8 * i + k ≡ 8 * i + k = omega arith in
      let there : place + (8 * i + k) ≡ place + 8 * i + k = omega arith in
      ap (byte_at bytes) inside ∙ stands (8 * i + k) (omega arith) ∙ ap b there) ∙ sym (cond-true _ _ _ (lt-ltb i n within))
  | inr past ↦ entry_at_past bytes i (omega arith) ∙ sym (cond-false _ _ _ (le-ltb i n past))
]

pub reftable_stands : (h : HeaderFields) (b : Bytes) (place : ℕ) (t : EntryTableView) → length t.bytes % 8 ≡ 0 → NamesRefTable h place (entry_count t) → HasBytesAt b place t.bytes → IsRefTableOf h b t
unfolding reftable_entry
reftable_stands h b place t whole names stands = λ i. rw (names.0, names.1) (stands_entry b place (entry_count t) t.bytes (omega arith) stands i)

-- how often the entries of an image's reftable name a cluster
pub named_as : (h : HeaderFields) (b : Bytes) (t : EntryTableView) (n c : ℕ) → entry_count t ≡ n → IsRefTableOf h b t → sum_below n (λ k. table_in h c (block_offset (reftable_entry h b k))) ≡ named_by_reftable_entries h t c
named_as h b t n c many is =
    ap (λ m. sum_below m (λ k. table_in h c (block_offset (reftable_entry h b k)))) (sym many)
    ∙ sum_below-same (entry_count t) (λ k. table_in h c (block_offset (reftable_entry h b k))) (λ k. table_in h c (block_offset (entry_at t.bytes k))) (λ k lt. ap (λ e. table_in h c (block_offset e)) (sym (is k)))

pub named_by_table : (h : HeaderFields) (b : Bytes) (t : EntryTableView) (c : ℕ) → entry_count t ≡ reftable_entries h → IsRefTableOf h b t → named_by_reftable h b c ≡ named_by_reftable_entries h t c
unfolding named_by_reftable
named_by_table h b t c many is = named_as h b t (reftable_entries h) c many is

-- the sizes aren't told by the place of the reftable
same_sizes : (h : HeaderFields) (offset clusters : ℕ) → Sizes h → Sizes (with_places h (with_reftable_at h offset clusters))
same_sizes h offset clusters s = record { some = s.some; large = s.large; whole = s.whole; entries = s.entries; eights = s.eights; counts = s.counts; order = s.order }

-- ---- what new refblocks count: clusters of the run whose range had none
abbrev pub counted_anew : HeaderFields → EntryTableView → ℕ → ℕ → ℕ → ℕ
counted_anew h t first n c = cond (block_offset (entry_at t.bytes (c / counts_per_block h)) == 0) (run_at first n c) 0

module _ (h : HeaderFields) (t : EntryTableView) (first n c : ℕ) where
  pub anew_none : HasNone t (c / counts_per_block h) → counted_anew h t first n c ≡ run_at first n c
  anew_none none = cond-true {A = ℕ} _ (run_at first n c) 0 (eq-eqb _ 0 none)

  pub anew_some : block_offset (entry_at t.bytes (c / counts_per_block h)) ≢ 0 → counted_anew h t first n c ≡ 0
  anew_some real = cond-false {A = ℕ} _ (run_at first n c) 0 (ne_eqb _ 0 real)

  counted_none : HasNone t (c / counts_per_block h) → counted_run h t first n c ≡ 0
  counted_none none = cond-true {A = ℕ} _ 0 (run_at first n c) (eq-eqb _ 0 none)

  counted_some : block_offset (entry_at t.bytes (c / counts_per_block h)) ≢ 0 → counted_run h t first n c ≡ run_at first n c
  counted_some real = cond-false {A = ℕ} _ 0 (run_at first n c) (ne_eqb _ 0 real)

  pub run_counted : run_at first n c ≡ counted_run h t first n c + counted_anew h t first n c
  run_counted = elim (cases_eq (block_offset (entry_at t.bytes (c / counts_per_block h))) 0) [
    | inl none ↦ let a = anew_none none in let b = counted_none none in omega arith
    | inr real ↦ let a = anew_some real in let b = counted_some real in omega arith
  ]

module _ {S : Type 0} (view : S → StorageView) (p : Pending) (first blocks clusters : ℕ) (file : ImageFile S) (old t : EntryTableView)
    (sound : FileInvariant view (with_run p file.header.fields old first (blocks + clusters)) file) (has : HasReftable view file old) (ready : StandsGrown view file old t first blocks clusters) (is_table : IsRefTable t) where
  abbrev h : HeaderFields
  h = file.header.fields

  abbrev n : ℕ
  n = blocks + clusters

  abbrev q : Pending
  q = with_run p file.header.fields old first (blocks + clusters)

  abbrev on_storage : Bytes
  on_storage = contents_in view file

  abbrev known : Bytes
  known = known_in view file

  abbrev place : ℕ
  place = (first + blocks) * cluster_size file.header.fields

  abbrev h' : HeaderFields
  h' = with_reftable file.header.fields ((first + blocks) * cluster_size file.header.fields) clusters

  sizes : Sizes h
  sizes = file_sizes view q file sound

  -- nothing names a cluster of the run
  free : (c : ℕ) → 0 < run_at first n c → IsFree view q file c
  free = free_in_run view p first n file old sound has ready.may

  known_run : (c : ℕ) → 0 < run_at first n c → SameIn (cluster_size h) c known on_storage
  known_run c some = known_there view q file c sound (free c some)

  -- the table's own clusters
  table_run : (c : ℕ) → in_run h c place (clusters * cluster_size h) ≡ run_at (first + blocks) clusters c
  table_run c = run_of_clusters h (first + blocks) clusters c sizes.some

  pub clusters_of_run : (c : ℕ) → in_run h c place (clusters * cluster_size h) + run_at first blocks c ≡ run_at first n c
  clusters_of_run c = let parts = run_parts first blocks clusters c in let own = table_run c in omega (arith, parts, own)

  many : entry_count t ≡ reftable_entries h'
  many =
      let whole = ready.grown.whole in
      let eights : clusters * cluster_size h ≡ 8 * (clusters * entries_per_cluster h) = ap (λ s. clusters * s) sizes.eights ∙ omega arith in
      omega (arith, whole, eights)

  pub new_entries : IsRefTableOf h' on_storage t
  new_entries = reftable_stands h' on_storage place t is_table.table.whole (refl, sym many) ready.stands

  pub few_entries : clusters * entries_per_cluster h ≤ 1048576
  few_entries = let few = is_table.table.few in let e = many in omega (arith, few, e)

  -- where a refblock stands that is new
  new_place : (k : ℕ) → HasNone old k → block_offset (entry_at t.bytes k) ≢ 0 → 0 < run_at first n (block_offset (entry_at t.bytes k) / cluster_size h)
  new_place k none real =
      let at = ready.grown.placed k none real in
      let parts = run_parts first blocks clusters (block_offset (entry_at t.bytes k) / cluster_size h) in
      omega (arith, at, parts)

  new_says : (c : ℕ) → HasNone old (c / counts_per_block h) → block_offset (entry_at t.bytes (c / counts_per_block h)) ≢ 0
      → (block_count on_storage (count_width h) (block_offset (entry_at t.bytes (c / counts_per_block h))) (c % counts_per_block h) ≡ counted_anew h old first n c)
      × (block_count known (count_width h) (block_offset (entry_at t.bytes (c / counts_per_block h))) (c % counts_per_block h) ≡ counted_anew h old first n c)
  new_says c none real =
      let k = c / counts_per_block h in
      let at = block_offset (entry_at t.bytes (c / counts_per_block h)) in
      let says = ready.counts c none real ∙ sym (anew_none h old first n c none) in
      let same = block_count-moved h known on_storage at at (c % counts_per_block h) sizes (mod_below c (counts_per_block h) sizes.counts)
      (λ i lt. known_run (at / cluster_size h) (new_place k none real) (at + i) (in_one (cluster_size h) at i (ready.grown.aligned k) lt)) in
      (says, same ∙ says)

  old_none : (k : ℕ) → block_offset (reftable_entry h on_storage k) ≡ 0 → HasNone old k
  old_none k none = ap block_offset (has.entries k) ∙ none

  old_real : (k : ℕ) → block_offset (reftable_entry h on_storage k) ≢ 0 → block_offset (entry_at old.bytes k) ≢ 0
  old_real k real none = real (ap block_offset (sym (has.entries k)) ∙ none)

  new_known : (k : ℕ) → reftable_entry h' known k ≡ reftable_entry h' on_storage k
  new_known k =
      let aligned = cluster_aligned (first + blocks) h.cluster_bits in
      reftable-same h' known on_storage k (same_sizes h place clusters sizes) aligned (λ lt.
      let one = reftable_has h' k (same_sizes h place clusters sizes) aligned lt in
      let all = clusters_of_run ((place + 8 * k) / cluster_size h) in
      known_run ((place + 8 * k) / cluster_size h) (omega (arith, one, all)))

  new_same : (k : ℕ) → block_offset (reftable_entry h on_storage k) ≢ 0 → reftable_entry h' on_storage k ≡ reftable_entry h on_storage k
  new_same k real = sym (new_entries k) ∙ ready.grown.keeps k (old_real k real) ∙ has.entries k

  new_blocks : (c : ℕ) → named_by_reftable h' on_storage c ≡ named_by_reftable h on_storage c + run_at first blocks c
  new_blocks c =
      let now : named_by_reftable h' on_storage c ≡ named_by_reftable_entries h t c = named_by_table h' on_storage t c many new_entries in
      let before = named_by_table h on_storage old c has.count has.entries in
      let more = ready.grown.named c in
      omega (arith, now, before, more)

  anew_covered : (c : ℕ) → 0 < counted_anew h old first n c → (block_offset (reftable_entry h on_storage (c / counts_per_block h)) ≡ 0) × (block_offset (reftable_entry h' on_storage (c / counts_per_block h)) ≢ 0)
  anew_covered c some = elim (cases_eq (block_offset (entry_at old.bytes (c / counts_per_block h))) 0) [
    | inl none ↦
        let all = anew_none h old first n c none in (
          ap block_offset (sym (has.entries (c / counts_per_block h))) ∙ none,
          (λ zero. ready.grown.covered c (omega (arith, all, some)) (ap block_offset (new_entries (c / counts_per_block h)) ∙ zero)),
        )
    | inr real ↦ let zero = anew_some h old first n c real in absurd (omega (arith, zero, some))
  ]

  run_new_tables : (c : ℕ) → counted_anew h old first n c < in_run h c place (clusters * cluster_size h) + run_at first blocks c → (0 < q.new_tables c) × (count h on_storage c ≡ count h known c)
  run_new_tables c less =
      let all = clusters_of_run c in
      let split = run_counted h old first n c in (
        omega (arith, less, all, split),
        clean_counts h (order_of file.caches) q (l2_tables file.caches) (refblocks file.caches) on_storage sound.caches.kept.kept ready.clean c,
      )

  pub ends : place + length t.bytes < 2 ^ 64
  ends =
      let room : HasRoomIfPlaced t.cluster_bits (length t.bytes) (Some (first + blocks)) = subst (λ (c : Option ℕ). HasRoomIfPlaced t.cluster_bits (length t.bytes) c) ready.grown.cluster is_table.room in
      subst (λ b. (first + blocks) * 2 ^ b + length t.bytes < 2 ^ 64) ready.grown.bits room

  pub new_reftable : IsNewReftable h (order_of file.caches) q on_storage known place clusters (run_at first blocks) (counted_anew h old first n)
  new_reftable = record {
    aligned = cluster_aligned (first + blocks) h.cluster_bits;
    fits = let last = ends in let whole = is_table.table.whole in let entries = many in omega (arith, last, whole, entries);
    same = new_same;
    known_same = new_known;
    reads = λ k. subst ReftableEntryReads (new_entries k) (is_table.reads k);
    blocks_aligned = λ k. ap (λ e. block_offset e % cluster_size h) (sym (new_entries k)) ∙ ready.grown.aligned k;
    blocks_are = new_blocks;
    says = λ c none real.
        let k = c / counts_per_block h in
        let at = ap block_offset (sym (new_entries (c / counts_per_block h))) in
        let said = new_says c (old_none k none) (λ zero. real (at ∙ zero)) in (
          ap (λ x. block_count on_storage (count_width h) x (c % counts_per_block h)) at ∙ said.0,
          ap (λ x. block_count known (count_width h) x (c % counts_per_block h)) at ∙ said.1,
        );
    counted_anew = anew_covered;
    once = λ c. let all = clusters_of_run c in let few = run_few first n c in omega (arith, all, few);
    counted_there = λ c. let all = clusters_of_run c in let split = run_counted h old first n c in omega (arith, all, split);
    new_tables = run_new_tables;
    written = covers_written view q file sound ready.may;
  }
