-- A refblock is placed: its bytes are written to a cluster without references, and then a reftable entry names it.
use Rattle.std.proofs.Common.{◌≡◌, ◌≢◌, ◌⊎◌, ◌+◌, ◌-◌, ◌*◌, ◌/◌, ◌%◌, ◌^◌, ◌<◌, ◌≤◌, inl, inr, ℕ, Bool, true, false, List, length, Option, Some, Result, sym, ap, ◌∙◌, subst, arith, IfSome}
use Rattle.qcow2_alloc.proofs.Common.{cases_eq, cases_lt, div-mul-add, mod-mul-add, overwritten, StorageView, Changes, Calls, StorageError, whole_or_nothing, byte_at, EntryTableView, entry_at, cluster_size, counts_per_block, reftable_entry, block_offset, count, one_at, with_new_tables, RbDependsOnL2, Pending, SameCovers, SameIn, BlocksMayGo, IsUnnamed, overwritten_but, unnamed_free, clean_covers, known_is_on_storage, Sizes, Sizes-from, count_none, in_one, data_is_written, ImageFile, ImageStorage, placing, HasPlaceFor, view_in, contents_in, known_in, state_in, FileInvariant, HasReftable, InternalFileStep, storage_of, order_of, l2_tables, refblocks}
use Rattle.qcow2_alloc.proofs.FileSteps.{one_here}
use Rattle.qcow2_alloc.proofs.FileWrites.{file_step_written, reftable_written}
use Rattle.qcow2_alloc.proofs.KeptTables.Getting.{cluster_aligned}
use Rattle.qcow2_alloc.proofs.KeptTables.Standing.{own_cluster}

-- a place in a cluster
pub in_own : (bits at i : ℕ) → i < 2 ^ bits → (at * 2 ^ bits + i) / 2 ^ bits ≡ at
in_own bits at i lt = in_one (2 ^ bits) (at * 2 ^ bits) i (cluster_aligned at bits) lt ∙ own_cluster bits at

-- what lies in another cluster lies outside of it
pub outside_cluster : (bits at o : ℕ) → o / 2 ^ bits ≢ at → (o < at * 2 ^ bits) ⊎ (at * 2 ^ bits + 2 ^ bits ≤ o)
outside_cluster bits at o other = elim (cases_lt o (at * 2 ^ bits)) [
  | inl below ↦ inl below
  | inr above ↦ elim (cases_lt o (at * 2 ^ bits + 2 ^ bits)) [
    | inl within ↦ absurd (other (
        let e : o ≡ at * 2 ^ bits + (o - at * 2 ^ bits) = omega arith in
        ap (λ n. n / 2 ^ bits) e ∙ in_own bits at (o - at * 2 ^ bits) (omega arith)))
    | inr past ↦ inr past
  ]
]

-- the first cluster of a range
pub range_of_first : (range per at : ℕ) → 0 < per → at ≡ range * per → (at / per ≡ range) × (at % per ≡ 0)
range_of_first range per at some is =
    let e : at ≡ range * per + 0 = omega arith in
    (ap (λ n. n / per) e ∙ div-mul-add range per 0 some, ap (λ n. n % per) e ∙ mod-mul-add range per 0 some)

module _ {S : Type 0} (view : S → StorageView) where
  pub file_sizes : (q : Pending) (file : ImageFile S) → FileInvariant view q file → Sizes file.header.fields
  file_sizes q file sound = Sizes-from file.header.fields (contents_in view file) sound.caches.kept.kept.crash_invariant.top.header_reads

  -- nothing names the cluster, and no guest's data are to stand in it
  pub record IsFree (q : Pending) (file : ImageFile S) (at : ℕ) : Type 0 where
    pub unnamed : IsUnnamed file.header.fields (contents_in view file) (known_in view file) at
    pub unheld : q.new_data at ≡ 0

  pub covers_written : (q : Pending) (file : ImageFile S) → FileInvariant view q file → BlocksMayGo (order_of file.caches) (l2_tables file.caches) → order_of file.caches ≡ RbDependsOnL2
      → SameCovers file.header.fields (contents_in view file) (known_in view file)
  covers_written q file sound may is =
      clean_covers file.header.fields (order_of file.caches) q (l2_tables file.caches) (refblocks file.caches) (contents_in view file) sound.caches.kept.kept (rw is at may)

  -- a range that the reftable names no refblock for has none
  pub has_none : (q : Pending) (file : ImageFile S) (t : EntryTableView) → FileInvariant view q file → HasReftable view file t → (range : ℕ) → block_offset (entry_at t.bytes range) ≡ 0
      → (block_offset (reftable_entry file.header.fields (contents_in view file) range) ≡ 0) × (block_offset (reftable_entry file.header.fields (known_in view file) range) ≡ 0)
  has_none q file t sound has range none =
      let on_storage = ap block_offset (sym (has.entries range)) ∙ none in
      (on_storage, ap block_offset (sym (sound.caches.kept.kept.crash_invariant.same_top.reftable range)) ∙ on_storage)

  -- so may its refblock's cluster be written
  pub is_free : (d : Bool) (p : Pending) (range at : ℕ) (file : ImageFile S) (t : EntryTableView) → FileInvariant view (placing d p at) file → HasReftable view file t
      → BlocksMayGo (order_of file.caches) (l2_tables file.caches) → HasPlaceFor d file.header.fields t range at → IsFree (placing d p at) file at
  is_free true p range at file t sound has may place =
      let h = file.header.fields in
      let none = has_none p file t sound has range place.none in
      let in_range = (range_of_first range (counts_per_block file.header.fields) at (file_sizes p file sound).counts place.first).0 in
      let known_none : count file.header.fields (known_in view file) at ≡ 0 = count_none h (known_in view file) at (ap (λ k. block_offset (reftable_entry file.header.fields (known_in view file) k)) in_range ∙ none.1) in
      let storage_none : count file.header.fields (contents_in view file) at ≡ 0 = count_none h (contents_in view file) at (ap (λ k. block_offset (reftable_entry file.header.fields (contents_in view file) k)) in_range ∙ none.0) in
      let tally = (sound.caches.kept.kept.crash_invariant.each_cluster at).tally in
      record {
        unnamed = data_is_written.unused (state_in view file p) at sound.caches.kept.kept.crash_invariant known_none storage_none;
        unheld = omega (arith, tally, known_none);
      }
  is_free false p range at file t sound has may place =
      let own = one_here at in
      let crash_invariant = sound.caches.kept.kept.crash_invariant in
      let tally = (crash_invariant.each_cluster at).tally in
      let some : 0 < p.new_tables at + one_at at at = omega arith in
      let few = (crash_invariant.each_cluster at).pending (omega (arith, some)) in
      record {
        unnamed = data_is_written.new_tables (state_in view file (with_new_tables p (one_at at))) at crash_invariant some (covers_written (with_new_tables p (one_at at)) file sound may);
        unheld = omega (arith, tally, few, some);
      }

  -- what is known of it stands there
  pub known_there : (q : Pending) (file : ImageFile S) (at : ℕ) → FileInvariant view q file → IsFree q file at → SameIn (cluster_size file.header.fields) at (known_in view file) (contents_in view file)
  known_there q file at sound free o in_it =
      let h = file.header.fields in
      let beside = unnamed_free h (order_of file.caches) q (l2_tables file.caches) (refblocks file.caches) (contents_in view file) (contents_in view file) sound.caches.kept.kept sound.named_blocks at free.unnamed in
      known_is_on_storage (cluster_size h) (l2_tables file.caches) (refblocks file.caches) (contents_in view file) o (beside.0 o in_it) (beside.1 o in_it)

  -- ---- bytes are written to it
  module _ (q : Pending) (file : ImageFile S) (storage : ImageStorage S) (at : ℕ) (bytes : List ℕ) (result : Result (Unit {0}) StorageError) (sound : FileInvariant view q file) (free : IsFree q file at)
      (long : length bytes ≡ cluster_size file.header.fields)
      (writes : Changes (view_in view file) (view (storage_of storage)) result (λ b. overwritten b (at * cluster_size file.header.fields) bytes))
      (calls : Calls (view_in view file) (view (storage_of storage)) result) where
    abbrev rewritten : ImageFile S
    rewritten = record file { storage = storage }

    each : (c : ℕ) → SameIn (cluster_size file.header.fields) c (contents_in view file) (byte_at (view (storage_of storage)).contents)
        ⊎ (IsUnnamed file.header.fields (contents_in view file) (known_in view file) c × (q.new_data c ≡ 0))
    each c = elim (whole_or_nothing result (view_in view file).contents (overwritten (view_in view file).contents (at * cluster_size file.header.fields) bytes) (view (storage_of storage)).contents (writes sound.honest)) [
      | inl same ↦ inl (λ o in_c. ap (λ (l : List ℕ). byte_at l o) (sym same))
      | inr new ↦ elim (cases_eq c at) [
        | inl here ↦ inr (subst (λ n. IsUnnamed file.header.fields (contents_in view file) (known_in view file) n × (q.new_data n ≡ 0)) (sym here) (free.unnamed, free.unheld))
        | inr other ↦ inl (λ o in_c.
            overwritten_but (view_in view file).contents (at * cluster_size file.header.fields) bytes o
            (subst (λ n. (o < at * cluster_size file.header.fields) ⊎ (at * cluster_size file.header.fields + n ≤ o)) (sym long) (outside_cluster file.header.fields.cluster_bits at o (λ e. other (sym in_c ∙ e))))
            ∙ ap (λ (l : List ℕ). byte_at l o) (sym new))
      ]
    ]

    pub file_step_rewritten : InternalFileStep view q q file rewritten
    file_step_rewritten = file_step_written view q file storage sound (calls.honest sound.honest) each (calls.time sound.honest)

    pub reftable_rewritten : (t : EntryTableView) → HasReftable view file t → HasReftable view rewritten t
    reftable_rewritten = reftable_written view q file storage sound (calls.honest sound.honest) each

  -- what a write of a refblock says
  pub write_as : (before asked after : S) (at : ℕ) (cluster : Option ℕ) (bits bits' : ℕ) (bytes : List ℕ) (result : Result (Unit {0}) StorageError) → asked ≡ before → cluster ≡ Some at → bits ≡ bits'
      → IfSome cluster (λ k. Changes (view asked) (view after) result (λ b. overwritten b (k * 2 ^ bits) bytes)) → Changes (view before) (view after) result (λ b. overwritten b (at * 2 ^ bits') bytes)
  write_as before asked after at cluster bits bits' bytes result same is same_bits written =
      subst (λ (s : S). Changes (view s) (view after) result (λ b. overwritten b (at * 2 ^ bits') bytes)) same
      (subst (λ n. Changes (view asked) (view after) result (λ b. overwritten b (at * 2 ^ n) bytes)) same_bits (rw is at written))
