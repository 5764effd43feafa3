-- Clusters that are in use only after steps that guests don't see: each is pending, or holds a new refblock or the new reftable.
use Rattle.std.proofs.Common.{◌≡◌, ◌≢◌, ◌⊎◌, ◌+◌, ◌-◌, ◌*◌, ◌/◌, ◌^◌, ◌<◌, ◌≤◌, ◌==◌, ◌∷◌, ◌++◌, inl, inr, ℕ, Bool, true, false, List, [], Option, Some, None, Result, Ok, Err, refl, sym, ap, ◌∙◌, subst, arith}
use Rattle.qcow2_alloc.proofs.Common.{IfOk, cases_eq, cond-true, cond-false, eq-eqb, ne_eqb, mul-le-mul_left, div-add-mod', div-mul-add, pow_pos, StorageView, Bytes, sum_below, HeaderFields, cluster_size, entries_per_cluster, reftable_entries, with_reftable, l1_entry, reftable_entry, block_offset, count, EntryTableView, IsRefTableOf, entry_count, entry_at, in_cluster, table_in, named_by_reftable, named_by_l1_table, named_for_tables, named_by_guest, one_at, Direction, Pending, CrashInvariant, SameCovers, over_guests, names, KeepsFormat, over_guests-same, reftable_entry-past, shares, in_l1, in_reftable, block_has, some_term, sum_below-le, sum_below-longer, l1_names-same, run_at, taken_as, is_data, Allocates, KeepsRefblocks, RefusedGrowth, InternalAllocatorGrowth, of_data, of_tables, to_free, pending_then, run_of, ListsTables, OldReftablesQueued, IsRunOfTable, reftable_at, without_reftable, pending_at, contents_in, known_in, FileInvariant, HasReftable, AllocatorInvariant, InternalFileGrowth, IsPastLimits, IsUsed, order_of, IsOfNewRefblock, IsOfReftable, IsAllocatedMetadata, IsMadeInTurn, IsListedSince, listed_at, run_in, CountsListed, ListsUsed, AllocatesOnly, Allocator, ClusterKind, Data, Metadata, ClustersToFreeEntry, ImageError, ImageFile}
use Rattle.std.specs.Prelude.{IsNone}
use Rattle.qcow2_laws.proofs.Formats.{size_format, guests_format, l1_format}
use Rattle.qcow2_alloc.proofs.FormerReftables.{gave_longer}
use Rattle.qcow2_alloc.proofs.Freeing.{free_more}
use Rattle.qcow2_alloc.proofs.Hints.{taken_pending, header_used}
use Rattle.qcow2_alloc.proofs.PlacedBlocks.{file_sizes}
use Rattle.qcow2_alloc.proofs.Runs.{taken_alone}

-- ---- the clusters of the reftable, as the header has them and as the reftable in memory does
module _ {S : Type 0} (view : S → StorageView) (p : Pending) (file : ImageFile S) (t : EntryTableView) (sound : FileInvariant view p file) (has : HasReftable view file t) where
  pub reftable_clusters : (k : ℕ) → reftable_at file.header.fields k ≡ run_at (file.header.fields.reftable_offset / cluster_size file.header.fields) ((8 * entry_count t + 2 ^ t.cluster_bits - 1) / 2 ^ t.cluster_bits) k
  reftable_clusters k =
      let h = file.header.fields in
      let sizes = file_sizes view p file sound in
      let eights : h.reftable_clusters * cluster_size h ≡ 8 * (h.reftable_clusters * entries_per_cluster h) = ap (λ s. h.reftable_clusters * s) sizes.eights ∙ omega arith in
      let long : h.reftable_clusters * cluster_size h ≡ 8 * entry_count t = let many = has.count in omega (arith, eights, many) in
      ap (λ n. run_at (h.reftable_offset / cluster_size h) ((n + 2 ^ h.cluster_bits - 1) / 2 ^ h.cluster_bits) k) long
      ∙ ap (λ b. run_at (h.reftable_offset / cluster_size h) ((8 * entry_count t + 2 ^ b - 1) / 2 ^ b) k) (sym has.bits)

  first_is : (first : ℕ) → t.cluster ≡ Some first → file.header.fields.reftable_offset / cluster_size file.header.fields ≡ first
  first_is first placed = some_is (sym has.cluster ∙ placed)
    where
      some_is : {A : Type 0} {a b : A} → Some a ≡ Some b → a ≡ b
      some_is e = cc

  named_run : (k first : ℕ) → t.cluster ≡ Some first → 0 < run_at first ((8 * entry_count t + 2 ^ t.cluster_bits - 1) / 2 ^ t.cluster_bits) k → 0 < in_reftable file.header.fields k
  named_run k first placed within =
      let there : 0 < run_at (file.header.fields.reftable_offset / cluster_size file.header.fields) ((8 * entry_count t + 2 ^ t.cluster_bits - 1) / 2 ^ t.cluster_bits) k =
      subst (λ n. 0 < run_at n ((8 * entry_count t + 2 ^ t.cluster_bits - 1) / 2 ^ t.cluster_bits) k) (sym (first_is first placed)) within in
      subst (λ n. 0 < n) (sym (reftable_clusters k)) there

  -- a cluster of the reftable is in use
  pub reftable_used : (k : ℕ) → 0 < in_reftable file.header.fields k → IsUsed view file k
  reftable_used k some zero =
      let tally = (sound.caches.kept.kept.crash_invariant.each_cluster k).tally in
      let parts = shares file.header.fields (contents_in view file) k in
      absurd (omega (arith, some, tally, parts, zero))

  -- the run that is listed where it goes has just them
  pub run_counts : (e : ClustersToFreeEntry) → IsRunOfTable t e → (k : ℕ) → run_of e k ≡ reftable_at file.header.fields k
  run_counts e run k =
      ap (λ (x : ClustersToFreeEntry). run_of x k) run.run ∙ ap (λ n. run_at n ((8 * entry_count t + 2 ^ t.cluster_bits - 1) / 2 ^ t.cluster_bits) k) (sym (first_is run.cluster run.placed)) ∙ sym (reftable_clusters k)

  -- so is each of those that are listed where it goes
  pub run_used : (e : ClustersToFreeEntry) → IsRunOfTable t e → (k : ℕ) → 0 < run_of e k → IsUsed view file k
  run_used e run k some = reftable_used k (named_run k run.cluster run.placed (subst (λ (e : ClustersToFreeEntry). 0 < run_of e k) run.run some))

-- ---- what is named anew
l1_named_with : (h : HeaderFields) (offset clusters : ℕ) (b : Bytes) (k : ℕ) → named_by_l1_table (with_reftable h offset clusters) b k ≡ named_by_l1_table h b k
unfolding named_by_l1_table l1_entry
l1_named_with h offset clusters b k = refl

module _ (h h' : HeaderFields) (format : KeepsFormat h h') (d d' : Direction) (p p' : Pending) (on_storage on_storage' known known' : Bytes) (old : CrashInvariant h d p on_storage known) (new : CrashInvariant h' d' p' on_storage' known')
    (covers : SameCovers h known known') (l1 : (i : ℕ) → l1_entry h on_storage' i ≡ l1_entry h on_storage i) (k : ℕ) where
  guests_alike : over_guests h' (names h' known' k) ≡ over_guests h (names h known k)
  guests_alike = guests_format h h' format known' k ∙ over_guests-same h (names h known' k) (names h known k) (λ g. ap (named_by_guest h k) (sym (covers g)))

  header_format : in_cluster h' k 0 ≡ in_cluster h k 0
  header_format = ap (λ (j : HeaderFields). in_cluster j k 0) format

  in_l1_format : in_l1 h' k ≡ in_l1 h k
  in_l1_format = ap (λ (j : HeaderFields). in_l1 j k) format

  l1_same : (i : ℕ) → l1_entry h' on_storage' i ≡ l1_entry h' on_storage i
  l1_same i = l1_format h h' format on_storage' i ∙ l1 i ∙ sym (l1_format h h' format on_storage i)

  l1_named : named_by_l1_table h' on_storage' k ≡ named_by_l1_table h on_storage k
  l1_named = l1_names-same h' on_storage' on_storage k l1_same ∙ ap (λ (j : HeaderFields). named_by_l1_table j on_storage k) format ∙ l1_named_with h h'.reftable_offset h'.reftable_clusters on_storage k

  -- what names it still, and what is pending, count it; but the reftable may be named no longer
  pub counted_on : p'.surplus k ≡ p.surplus k → named_by_reftable h on_storage k ≤ named_by_reftable h' on_storage' k → count h known k + pending_at p' k ≤ count h' known' k + pending_at p k + in_reftable h k
  counted_on same blocks =
      let was = shares h on_storage k in
      let now = shares h' on_storage' k in
      let tally = (new.each_cluster k).tally in
      let tally_before = (old.each_cluster k).tally in
      let c = guests_alike in let d = header_format in let e = in_l1_format in let f = l1_named in
      omega (arith, was, now, tally, tally_before, c, d, e, f, same, blocks)

  module _ (same : p'.surplus k ≡ p.surplus k) (free : count h known k ≡ 0) where
    before : named_for_tables h on_storage k ≡ 0
    before = let tally = (old.each_cluster k).tally in omega (arith, tally, free)

    none_pending : pending_at p k ≡ 0
    none_pending = let tally = (old.each_cluster k).tally in omega (arith, tally, free)

    by_guests : over_guests h' (names h' known' k) ≡ 0
    by_guests =
        let tally = (old.each_cluster k).tally in
        let none : over_guests h (names h known k) ≡ 0 = omega (arith, tally, free) in
        guests_alike ∙ none

    pub named_anew : count h' known' k ≢ 0 → (0 < in_reftable h' k) ⊎ (0 < named_by_reftable h' on_storage' k) ⊎ (pending_at p k < pending_at p' k)
    named_anew used = elim (cases_eq (in_reftable h' k) 0) [
      | inr some ↦ inl (omega (arith, some))
      | inl no_table ↦ elim (cases_eq (named_by_reftable h' on_storage' k) 0) [
        | inr some ↦ inr (inl (omega (arith, some)))
        | inl no_block ↦
            let was = shares h on_storage k in
            let now = shares h' on_storage' k in
            let tally = (new.each_cluster k).tally in
            let tally_before = (old.each_cluster k).tally in
            let a = before in let b = none_pending in let c = by_guests in let d = header_format in let e = in_l1_format in let f = l1_named in
            let table_refs : named_for_tables h' on_storage' k ≡ 0 = omega (arith, was, now, no_table, no_block, a, d, e, f) in
            inr (inr (omega (arith, tally, tally_before, table_refs, b, c, used, free, same)))
      ]
    ]

-- a table in a cluster is one, and begins in it
table_there : (h : HeaderFields) (k place : ℕ) → 0 < table_in h k place → (place ≢ 0) × (place / cluster_size h ≡ k)
table_there h k place some = elim (cases_eq place 0) [
  | inl none ↦
      let zero : table_in h k place ≡ 0 = cond-true {A = ℕ} (place == 0) 0 (in_cluster h k place) (eq-eqb _ 0 none) in
      absurd (omega (arith, some, zero))
  | inr real ↦ elim (cases_eq (place / cluster_size h) k) [
    | inl here ↦ (real, here)
    | inr other ↦
        let one : table_in h k place ≡ in_cluster h k place = cond-false _ _ _ (ne_eqb place 0 real) in
        let zero : in_cluster h k place ≡ 0 = cond-false _ _ _ (ne_eqb (place / cluster_size h) k other) in
        absurd (omega (arith, some, one, zero))
  ]
]

-- an entry of the reftable names it
block_there : (h : HeaderFields) (b : Bytes) (k : ℕ) → 0 < named_by_reftable h b k → (i : ℕ) × (i < reftable_entries h) × (0 < table_in h k (block_offset (reftable_entry h b i)))
unfolding named_by_reftable
block_there h b k some = some_term (reftable_entries h) (λ i. table_in h k (block_offset (reftable_entry h b i))) some

-- a reftable that is no shorter names what one names whose refblocks it has
blocks_kept : (h h' : HeaderFields) (b b' : Bytes) (t t' : EntryTableView) → KeepsFormat h h' → IsRefTableOf h b t → IsRefTableOf h' b' t' → entry_count t ≡ reftable_entries h → entry_count t' ≡ reftable_entries h' → entry_count t ≤ entry_count t' → KeepsRefblocks t t'
    → (k : ℕ) → named_by_reftable h b k ≤ named_by_reftable h' b' k
unfolding named_by_reftable
blocks_kept h h' b b' t t' format has has' many many' longer ranges k =
    let Before : ℕ → ℕ = λ i. table_in h k (block_offset (reftable_entry h b i)) in
    let Now : ℕ → ℕ = λ i. table_in h' k (block_offset (reftable_entry h' b' i)) in
    let nothing : (i : ℕ) → block_offset (reftable_entry h b i) ≡ 0 → Before i ≡ 0 = λ i none. cond-true {A = ℕ} (block_offset (reftable_entry h b i) == 0) 0 (in_cluster h k (block_offset (reftable_entry h b i))) (eq-eqb _ 0 none) in
    let each : (i : ℕ) → i < reftable_entries h' → Before i ≤ Now i = λ i lt. elim (cases_eq (block_offset (entry_at t.bytes i)) 0) [
      | inl none ↦ let no = nothing i (ap block_offset (sym (has i)) ∙ none) in omega (arith, no)
      | inr some ↦
          let entry : reftable_entry h' b' i ≡ reftable_entry h b i = sym (has' i) ∙ ranges i some ∙ has i in
          let same : Now i ≡ Before i = ap (λ e. table_in h' k (block_offset e)) entry ∙ ap (λ (j : HeaderFields). table_in j k (block_offset (reftable_entry h b i))) format in
          omega (arith, same)
    ] in
    let all : reftable_entries h + (reftable_entries h' - reftable_entries h) ≡ reftable_entries h' = omega (arith, many, many', longer) in
    let further = sum_below-longer (reftable_entries h) (reftable_entries h' - reftable_entries h) Before (λ i past. nothing i (ap block_offset (reftable_entry-past h b i past))) in
    let end : sum_below (reftable_entries h + (reftable_entries h' - reftable_entries h)) Before ≡ sum_below (reftable_entries h') Before = ap (λ n. sum_below n Before) all in
    let le = sum_below-le (reftable_entries h') Before Now each in
    omega (arith, further, end, le)

module _ {S : Type 0} (view : S → StorageView) (p q : Pending) (old new : ImageFile S) (t t' : EntryTableView) (sound : FileInvariant view p old) (has : HasReftable view old t) (growth : InternalFileGrowth view p q old new) (has' : HasReftable view new t') (k : ℕ)
    (same : q.surplus k ≡ p.surplus k) where
  abbrev h : HeaderFields
  h = old.header.fields

  abbrev h' : HeaderFields
  h' = new.header.fields

  size : cluster_size h' ≡ cluster_size h
  size = size_format h h' growth.unseen.header

  -- nothing named it before
  free_named : count h (known_in view old) k ≡ 0 → named_for_tables h (contents_in view old) k ≡ 0
  free_named free = let tally = (sound.caches.kept.kept.crash_invariant.each_cluster k).tally in omega (arith, tally, free)

  -- it isn't the header's
  behind : count h (known_in view old) k ≡ 0 → 0 < k
  behind free = elim (cases_eq k 0) [ inl zero ↦ absurd (header_used view p old sound (subst (λ n. count h (known_in view old) n ≡ 0) zero free)) | inr some ↦ omega (arith, some) ]

  of_block : count h (known_in view old) k ≡ 0 → 0 < named_by_reftable h' (contents_in view new) k → IsOfNewRefblock h t t' k
  of_block free some =
      let at = block_there h' (contents_in view new) k some in
      let there = table_there h' k (block_offset (reftable_entry h' (contents_in view new) at.0)) at.2 in
      let aligned = growth.sound.caches.kept.kept.crash_invariant.top.refblocks_aligned at.0 at.1 in
      let whole = div-add-mod' (block_offset (reftable_entry h' (contents_in view new) at.0)) (cluster_size h') in
      let begin : k * cluster_size h' ≡ block_offset (reftable_entry h' (contents_in view new) at.0) = ap (λ n. n * cluster_size h') (sym there.1) ∙ (omega (arith, whole, aligned)) in
      record {
        range = at.0;
        within = subst (λ n. at.0 < n) (sym has'.count) at.1;
        behind_header = behind free;
        names = ap (λ n. k * n) (sym size) ∙ begin ∙ ap block_offset (sym (has'.entries at.0));
        anew = λ named.
            let place : k * cluster_size h ≡ block_offset (reftable_entry h (contents_in view old) at.0) = named ∙ ap block_offset (has.entries at.0) in
            let real : block_offset (reftable_entry h (contents_in view old) at.0) ≢ 0 = λ zero. product_some k (cluster_size h) (behind free) (pow_pos h.cluster_bits) (place ∙ zero) in
            let plus : k * cluster_size h ≡ k * cluster_size h + 0 = omega arith in
            let here : block_offset (reftable_entry h (contents_in view old) at.0) / cluster_size h ≡ k = ap (λ n. n / cluster_size h) (sym place) ∙ ap (λ n. n / cluster_size h) plus ∙ div-mul-add k (cluster_size h) 0 (pow_pos h.cluster_bits) in
            let one = subst (λ n. 1 ≤ named_by_reftable h (contents_in view old) n) here (block_has h (contents_in view old) at.0 real) in
            let parts = shares h (contents_in view old) k in
            let none = free_named free in
            absurd (omega (arith, one, parts, none));
      }
    where
      product_some : (a b : ℕ) → 0 < a → 0 < b → a * b ≡ 0 → ⊥
      product_some a b some_a some_b zero = let more = mul-le-mul_left a some_b in absurd (omega (arith, some_a, more, zero))

  of_table : count h (known_in view old) k ≡ 0 → 0 < in_reftable h' k → IsOfReftable t' k × ¬ IsOfReftable t k
  of_table free some = (
    record { first = h'.reftable_offset / cluster_size h'; placed = has'.cluster; within = subst (λ n. 0 < n) (reftable_clusters view q new t' growth.sound has' k) some },
    λ was. absurd (reftable_used view p old t sound has k (named_run view p old t sound has k was.first was.placed was.within) free),
  )

  pub counted : entry_count t ≤ entry_count t' → KeepsRefblocks t t' → count h (known_in view old) k + pending_at q k ≤ count h' (known_in view new) k + pending_at p k + reftable_at h k
  counted longer ranges =
      counted_on h h' growth.unseen.header (order_of old.caches) (order_of new.caches) p q (contents_in view old) (contents_in view new) (known_in view old) (known_in view new)
      sound.caches.kept.kept.crash_invariant growth.safe_step.sound growth.unseen.covers growth.l1_table k same
      (blocks_kept h h' (contents_in view old) (contents_in view new) t t' growth.unseen.header has.entries has'.entries has.count has'.count longer ranges k)

  pub made : IsUsed view new k → IsUsed view old k ⊎ IsAllocatedMetadata h t t' k ⊎ (pending_at p k < pending_at q k)
  made used = elim (cases_eq (count h (known_in view old) k) 0) [
    | inr was ↦ inl was
    | inl free ↦
        elim (named_anew h h' growth.unseen.header (order_of old.caches) (order_of new.caches) p q (contents_in view old) (contents_in view new) (known_in view old) (known_in view new)
        sound.caches.kept.kept.crash_invariant growth.safe_step.sound growth.unseen.covers growth.l1_table k same free used) [
          | inl table ↦ inr (inl (inr (of_table free table)))
          | inr (inl block) ↦ inr (inl (inl (of_block free block)))
          | inr (inr more) ↦ inr (inr more)
        ]
  ]

-- ---- what is listed
listed_parts : (l : List ClustersToFreeEntry) (k : ℕ) → listed_at l k ≡ to_free of_tables l k + to_free of_data l k
listed_parts [] k = refl
listed_parts (e ∷ es) k = of_kind e.kind (listed_parts es k)
  where
    of_kind : (kind : ClusterKind) → listed_at es k ≡ to_free of_tables es k + to_free of_data es k → run_of e k + listed_at es k ≡ of_tables kind (run_of e k) + to_free of_tables es k + (of_data kind (run_of e k) + to_free of_data es k)
    of_kind Data rest = omega (arith, rest)
    of_kind Metadata rest = omega (arith, rest)

-- as much more is pending as is listed more
listed_more : (p : Pending) (l l' : List ClustersToFreeEntry) → ListsTables l l' → (k : ℕ) → pending_at (pending_then p l l') k + listed_at l k ≡ pending_at p k + listed_at l' k
listed_more p l l' lists k =
    let before = listed_parts l k in
    let after = listed_parts l' k in
    let tables : to_free of_tables l' k ≡ to_free of_tables l k + to_free of_tables lists.more k = ap (λ (x : List ClustersToFreeEntry). to_free of_tables x k) lists.is ∙ free_more of_tables l lists.more k in
    let of_files : to_free of_data l' k ≡ to_free of_data l k + to_free of_data lists.more k = ap (λ (x : List ClustersToFreeEntry). to_free of_data x k) lists.is ∙ free_more of_data l lists.more k in
    omega (arith, before, after, tables, of_files)

listed_pending : (p : Pending) (l l' : List ClustersToFreeEntry) → ListsTables l l' → (k n : ℕ) → pending_at p k < pending_at (pending_then p l l') k + n → IsListedSince l l' k ⊎ (0 < n)
listed_pending p l l' lists k n more =
    let listed = listed_more p l l' lists k in
    elim (cases_eq n 0) [
      | inl none ↦ inl (omega (arith, listed, more, none))
      | inr some ↦ inr (omega (arith, some))
    ]

pub listed_one : (l : List ClustersToFreeEntry) (e : ClustersToFreeEntry) (k : ℕ) → IsListedSince l (l ++ e ∷ []) k → 0 < run_of e k
listed_one [] e k more = omega (arith, more)
listed_one (x ∷ l) e k more = listed_one l e k (omega (arith, more))

listed_then : (l : List ClustersToFreeEntry) (e : ClustersToFreeEntry) (k : ℕ) → listed_at (l ++ e ∷ []) k ≡ listed_at l k + run_of e k
listed_then [] e k = omega arith
listed_then (x ∷ l) e k = let rest = listed_then l e k in omega (arith, rest)

-- ---- what a call takes into use
module _ {S : Type 0} (view : S → StorageView) (p : Pending) (old new : ImageFile S) (allocator allocator' : Allocator) (sound : AllocatorInvariant view allocator p old) (lists : ListsTables old.free_list new.free_list)
    (former : OldReftablesQueued allocator.reftable allocator'.reftable old.free_list new.free_list) where
  abbrev q : Pending
  q = pending_then p old.free_list new.free_list

  abbrev Made : ℕ → Type 0
  Made = IsAllocatedMetadata old.header.fields allocator.reftable allocator'.reftable

  taken_surplus : (d : Bool) (n : ℕ → ℕ) (k : ℕ) → (taken_as d q n).surplus k ≡ p.surplus k
  taken_surplus true n k = refl
  taken_surplus false n k = refl

  made_taken : (d : Bool) (n : ℕ → ℕ) → InternalAllocatorGrowth view p old allocator' new (taken_as d q n) → (k : ℕ) → IsUsed view new k → IsUsed view old k ⊎ (0 < n k) ⊎ Made k ⊎ IsListedSince old.free_list new.free_list k
  made_taken d n growth k used =
      elim (made view p (taken_as d q n) old new allocator.reftable allocator'.reftable sound.sound sound.reftable growth.file_step growth.reftable k (taken_surplus d n k) used) [
        | inl was ↦ inl was
        | inr (inl anew) ↦ inr (inr (inl anew))
        | inr (inr more) ↦
            elim (listed_pending p old.free_list new.free_list lists k (n k) (let parts = taken_pending d q n k in omega (arith, more, parts))) [
              | inl listed ↦ inr (inr (inr listed))
              | inr taken ↦ inr (inl taken)
            ]
      ]

  -- what is listed is counted, whatever was taken beside it
  counts_then : (r : Pending) → ((k : ℕ) → r.surplus k ≡ p.surplus k) → ((k : ℕ) → pending_at q k ≤ pending_at r k) → InternalAllocatorGrowth view p old allocator' new r → CountsListed view old new
  counts_then r surplus more growth k =
      let listed = listed_more p old.free_list new.free_list lists k in
      let longer = gave_longer allocator.reftable allocator'.reftable former.more former.gone in
      let is = counted view p r old new allocator.reftable allocator'.reftable sound.sound sound.reftable growth.file_step growth.reftable k (surplus k) longer former.ranges in
      let beside = more k in
      omega (arith, listed, is, beside)

  counts_none : InternalAllocatorGrowth view p old allocator' new q → CountsListed view old new
  counts_none = counts_then q (λ k. refl) (λ k. omega arith)

  counts_taken : (d : Bool) (n : ℕ → ℕ) → InternalAllocatorGrowth view p old allocator' new (taken_as d q n) → CountsListed view old new
  counts_taken d n = counts_then (taken_as d q n) (taken_surplus d n) (λ k. let parts = taken_pending d q n k in omega (arith, parts))

  made_none : InternalAllocatorGrowth view p old allocator' new q → (k : ℕ) → IsUsed view new k → IsUsed view old k ⊎ Made k ⊎ IsListedSince old.free_list new.free_list k
  made_none growth k used =
      elim (made view p q old new allocator.reftable allocator'.reftable sound.sound sound.reftable growth.file_step growth.reftable k refl used) [
        | inl was ↦ inl was
        | inr (inl anew) ↦ inr (inl anew)
        | inr (inr more) ↦
            elim (listed_pending p old.free_list new.free_list lists k 0 (omega (arith, more))) [
              | inl listed ↦ inr (inr listed)
              | inr some ↦ absurd (omega (arith, some))
            ]
      ]

  -- a run of clusters was taken, or none
  pub made_run : (kind : ClusterKind) (count : ℕ) (result : Result ClustersToFreeEntry ImageError) → Allocates view p old allocator' new q kind count result
      → AllocatesOnly view run_of (IsMadeInTurn old.header.fields allocator.reftable allocator'.reftable old.free_list new.free_list) old new result
  made_run kind count (Ok run) takes = (
    λ k used.
        elim (made_taken (is_data kind) (run_at run.first_cluster count) takes.2 k used) [
          | inl was ↦ inl was
          | inr (inl taken) ↦ inr (inl (subst (λ n. 0 < run_at run.first_cluster n k) (sym takes.0) taken))
          | inr (inr anew) ↦ inr (inr anew)
        ],
    counts_taken (is_data kind) (run_at run.first_cluster count) takes.2,
  )
  made_run kind count (Err e) takes = elim takes [
    | inl growth ↦ inl (made_none growth, counts_none growth)
    | inr interrupted ↦ inr (interrupted.fault, interrupted.recorded)
  ]

  -- what was listed was in use
  module _ (listed : ListsUsed view old new) where
    made_alone : InternalAllocatorGrowth view p old allocator' new q → (k : ℕ) → IsUsed view new k → IsUsed view old k ⊎ Made k
    made_alone growth k used = elim (made_none growth k used) [
      | inl was ↦ inl was
      | inr (inl anew) ↦ inr anew
      | inr (inr since) ↦ inl (listed k since)
    ]

    -- just this cluster was taken
    pub made_one : (d : Bool) (n cluster : ℕ) (run : ClustersToFreeEntry) → n ≡ cluster → run.first_cluster ≡ cluster → run.count ≡ 1 → InternalAllocatorGrowth view p old allocator' new (taken_as d q (one_at n)) → AllocatesOnly view run_in Made old new (Ok (Some run))
    made_one d n cluster run same first count growth =
        let taken_run : InternalAllocatorGrowth view p old allocator' new (taken_as d q (run_at n 1)) = subst (λ (r : Pending). InternalAllocatorGrowth view p old allocator' new r) (taken_alone d q n) growth in (
          λ k used.
              let here : run_of run k ≡ run_at n 1 k = ap (λ m. run_at run.first_cluster m k) count ∙ ap (λ m. run_at m 1 k) (first ∙ sym same) in
              elim (made_taken d (run_at n 1) taken_run k used) [
                | inl was ↦ inl was
                | inr (inl taken) ↦ inr (inl (subst (λ m. 0 < m) (sym here) taken))
                | inr (inr (inl anew)) ↦ inr (inr anew)
                | inr (inr (inr since)) ↦ inl (listed k since)
              ],
          counts_taken d (run_at n 1) taken_run,
        )

    -- it was not
    pub made_untaken : InternalAllocatorGrowth view p old allocator' new q → AllocatesOnly view run_in Made old new (Ok None)
    made_untaken growth = ((λ k used. elim (made_alone growth k used) [ inl was ↦ inl was | inr anew ↦ inr (inr anew) ]), counts_none growth)

    -- that was refused
    pub made_refused : (e : ImageError) → RefusedGrowth view p old allocator' new q e → AllocatesOnly view run_in Made old new (Err e)
    made_refused e leaves = elim leaves [
      | inl growth ↦ inl (made_alone growth, counts_none growth)
      | inr interrupted ↦ inr (interrupted.fault, interrupted.recorded)
    ]

    -- a cluster that can't be taken was in use, or was made on the way
    pub made_before : (start : ImageFile S) → ((k : ℕ) → IsUsed view old k → IsUsed view start k) → (cluster : ℕ) → InternalAllocatorGrowth view p old allocator' new q → IsUsed view new cluster → IsUsed view new cluster × (IsUsed view start cluster ⊎ Made cluster)
    made_before start uses cluster growth used = (used, elim (made_alone growth cluster used) [ inl was ↦ inl (uses cluster was) | inr anew ↦ inr anew ])

-- a longer reftable is entered: where the former one stands was in use
module _ {S : Type 0} (view : S → StorageView) (p : Pending) (old new : ImageFile S) (allocator allocator' : Allocator) (sound : AllocatorInvariant view allocator p old) where
  pub made_entered : (e : ClustersToFreeEntry) (list : List ClustersToFreeEntry) → IsRunOfTable allocator.reftable e → list ≡ old.free_list ++ e ∷ [] → entry_count allocator.reftable ≤ entry_count allocator'.reftable → KeepsRefblocks allocator.reftable allocator'.reftable
      → InternalAllocatorGrowth view p old allocator' new (without_reftable p old.header.fields) → (done : Unit {0}) → AllocatesOnly view (λ done k. 0) (IsAllocatedMetadata old.header.fields allocator.reftable allocator'.reftable) old (record new { free_list = list }) (Ok done)
  made_entered e list run is longer ranges growth done = (
    λ k used.
        elim (made view p (without_reftable p old.header.fields) old new allocator.reftable allocator'.reftable sound.sound sound.reftable growth.file_step growth.reftable k refl used) [
          | inl was ↦ inl was
          | inr (inl anew) ↦ inr (inr anew)
          | inr (inr more) ↦ inl (reftable_used view p old allocator.reftable sound.sound sound.reftable k (omega (arith, more)))
        ],
    λ k.
        let listed : listed_at list k ≡ listed_at old.free_list k + run_of e k = ap (λ (l : List ClustersToFreeEntry). listed_at l k) is ∙ listed_then old.free_list e k in
        let own : run_of e k ≡ reftable_at old.header.fields k = run_counts view p old allocator.reftable sound.sound sound.reftable e run k in
        let counts = counted view p (without_reftable p old.header.fields) old new allocator.reftable allocator'.reftable sound.sound sound.reftable growth.file_step growth.reftable k refl longer ranges in
        omega (arith, listed, own, counts),
  )

  pub made_unentered : (e : ImageError) → new.free_list ≡ old.free_list → allocator'.reftable ≡ allocator.reftable → RefusedGrowth view p old allocator' new p e
      → AllocatesOnly view {A = Unit {0}} (λ done k. 0) (IsAllocatedMetadata old.header.fields allocator.reftable allocator'.reftable) old new (Err e)
  made_unentered e same kept leaves = elim leaves [
    | inl growth ↦ inl (
      (λ k used.
          elim (made view p p old new allocator.reftable allocator'.reftable sound.sound sound.reftable growth.file_step growth.reftable k refl used) [
            | inl was ↦ inl was
            | inr (inl anew) ↦ inr anew
            | inr (inr more) ↦ absurd (omega (arith, more))
          ]),
      λ k.
          let listed : listed_at new.free_list k ≡ listed_at old.free_list k = ap (λ (l : List ClustersToFreeEntry). listed_at l k) same in
          let many = ap (λ (t : EntryTableView). entry_count t) kept in
          let counts = counted view p p old new allocator.reftable allocator'.reftable sound.sound sound.reftable growth.file_step growth.reftable k refl (omega (arith, many)) (λ range has. ap (λ (t : EntryTableView). entry_at t.bytes range) kept) in
          omega (arith, listed, counts),
    )
    | inr interrupted ↦ inr (interrupted.fault, interrupted.recorded)
  ]

-- it began before, where as much was counted, and with another storage and other caches alone
module _ {S : Type 0} (view : S → StorageView) (start old : ImageFile S) (rest : old ≡ record start { storage = old.storage; caches = old.caches }) (known : known_in view old ≡ known_in view start) where
  uses_since : (k : ℕ) → IsUsed view old k → IsUsed view start k
  uses_since k used = subst (λ b. count start.header.fields b k ≢ 0) known (subst (λ (f : ImageFile S). count f.header.fields (known_in view old) k ≢ 0) rest used)

  counts_since : (new : ImageFile S) → CountsListed view old new → CountsListed view start new
  counts_since new counts k =
      let is = counts k in
      let more : count old.header.fields (known_in view old) k ≡ count start.header.fields (known_in view start) k = ap (λ (f : ImageFile S). count f.header.fields (known_in view old) k) rest ∙ ap (λ b. count start.header.fields b k) known in
      let listed : listed_at old.free_list k ≡ listed_at start.free_list k = ap (λ (f : ImageFile S). listed_at f.free_list k) rest in
      let own : reftable_at old.header.fields k ≡ reftable_at start.header.fields k = ap (λ (f : ImageFile S). reftable_at f.header.fields k) rest in
      omega (arith, is, more, listed, own)

  pub alone_since : {A : Type 0} (taken : A → ℕ → ℕ) (Made : ℕ → Type 0) (new : ImageFile S) (result : Result A ImageError) → AllocatesOnly view taken Made old new result → AllocatesOnly view taken Made start new result
  alone_since taken Made new (Ok answer) alone = ((λ k used. elim (alone.0 k used) [ inl was ↦ inl (uses_since k was) | inr anew ↦ inr anew ]), counts_since new alone.1)
  alone_since taken Made new (Err e) alone = elim alone [
    | inl stays ↦ inl ((λ k used. elim (stays.0 k used) [ inl was ↦ inl (uses_since k was) | inr anew ↦ inr anew ]), counts_since new stays.1)
    | inr broke ↦ inr broke
  ]

  -- nothing was done but that
  pub alone_none : ((k : ℕ) → IsUsed view old k → IsUsed view start k) × CountsListed view start old
  alone_none = (uses_since, counts_since old (λ k. omega arith))

-- ---- nothing is listed, or a reftable that gave way
none_listed : (l l' : List ClustersToFreeEntry) → l' ≡ l → (k : ℕ) → IsListedSince l l' k → ⊥
none_listed l l' same k since = let e = ap (λ (x : List ClustersToFreeEntry). listed_at x k) same in omega (arith, e, since)

module _ {S : Type 0} (view : S → StorageView) where
  pub lists_used_none : (old new : ImageFile S) → new.free_list ≡ old.free_list → ListsUsed view old new
  lists_used_none old new same k since = absurd (none_listed old.free_list new.free_list same k since)

  pub lists_used_still : (old mid new : ImageFile S) → ListsUsed view old mid → new.free_list ≡ mid.free_list → ListsUsed view old new
  lists_used_still old mid new listed same k since = listed k (subst (λ (l : List ClustersToFreeEntry). IsListedSince old.free_list l k) same since)

  pub lists_used_one : (p : Pending) (old new : ImageFile S) (t : EntryTableView) (e : ClustersToFreeEntry) → FileInvariant view p old → HasReftable view old t → IsRunOfTable t e → new.free_list ≡ old.free_list ++ e ∷ [] → ListsUsed view old new
  lists_used_one p old new t e sound has run same k since = run_used view p old t sound has e run k (listed_one old.free_list e k (subst (λ (l : List ClustersToFreeEntry). IsListedSince old.free_list l k) same since))

-- the answer that no cluster was taken, with less said of it
pub none_used : {S : Type 0} (view : S → StorageView) (new : ImageFile S) (h : HeaderFields) (cluster : ℕ) (Was : Type 0) (result : Result (Option ClustersToFreeEntry) ImageError)
    → IfOk result (λ run. IsNone run → IsPastLimits h cluster ⊎ (IsUsed view new cluster × Was)) → IfOk result (λ run. IsNone run → IsPastLimits h cluster ⊎ IsUsed view new cluster)
none_used view new h cluster Was (Ok run) why = λ none. elim (why none) [ inl far ↦ inl far | inr used ↦ inr used.0 ]
none_used view new h cluster Was (Err e) why = tt
