-- A longer L1 table is written to clusters that were allocated for it, after all refcounts.
use Rattle.std.proofs.Common.{◌≡◌, ◌⊎◌, ◌+◌, ◌-◌, ◌*◌, ◌/◌, ◌^◌, ◌<◌, ◌≤◌, ◌&&◌, inl, inr, ℕ, List, length, Option, Some, Result, Ok, refl, sym, ap, ◌∙◌, subst, arith, nat_le, nat_lt}
use Rattle.qcow2_image.proofs.Common.{IfSome, cases_lt, BackingView, overwritten, StorageView, Changes, Calls, StorageError, whole_or_nothing, byte_at, one_if, HeaderFields, cluster_size, l1_entry, EntryTableView, entry_count, in_run, entry_at, AreClean, BlocksMayGo, RbDependsOnL2, Pending, SameCovers, SameIn, with_places, with_l1_at, IsUnnamed, overwritten_but, clean_counts, run_has, data_is_written, Allocator, ImageStorage, run_at, view_in, contents_in, known_in, state_in, FileInvariant, storage_of, order_of, l2_tables, refblocks, cluster_aligned, own_cluster, IsFree, covers_written, file_sizes, IsAllocatorOf, Qcow2, Prepared, with_table, clusters_of, IsLongerL1, StandsWhole, InternalStep, ImageInvariant, Mappings}
use Rattle.qcow2_metadata.proofs.WrittenTables.{IsL1TableOf-written}
use Rattle.qcow2_alloc.proofs.FileWrites.{file_step_written, reftable_written}
use Rattle.qcow2_image.proofs.Lemmas.{allocator_moved, file_moved}

-- the clusters of a table, as those that its bytes need
pub same_run : (h : HeaderFields) (t : EntryTableView) (cluster c : ℕ) → t.cluster_bits ≡ h.cluster_bits → in_run h c (cluster * cluster_size h) (length t.bytes) ≡ run_at cluster (clusters_of t) c
same_run h t cluster c bits =
    ap (λ f. one_if (nat_le f c && nat_lt c (f + (length t.bytes + cluster_size h - 1) / cluster_size h))) (own_cluster h.cluster_bits cluster)
    ∙ ap (λ b. run_at cluster ((length t.bytes + 2 ^ b - 1) / 2 ^ b) c) (sym bits)

-- what a write of a table that was given its cluster says
pub table_write_as : {S : Type 0} (view : S → StorageView) (t : EntryTableView) (cluster bits : ℕ) (t' : EntryTableView) (result : Result (Unit {0}) StorageError) (asked after : S) → t' ≡ record t { cluster = Some cluster } → t.cluster_bits ≡ bits
    → IfSome t'.cluster (λ k. Changes (view asked) (view after) result (λ b. overwritten b (k * 2 ^ t'.cluster_bits) t'.bytes))
    → Changes (view asked) (view after) result (λ b. overwritten b (cluster * 2 ^ bits) t.bytes)
table_write_as view t cluster bits t' result asked after is same wrote =
    subst (λ n. Changes (view asked) (view after) result (λ b. overwritten b (cluster * 2 ^ n) t.bytes)) same
    (subst (λ (u : EntryTableView). IfSome u.cluster (λ k. Changes (view asked) (view after) result (λ b. overwritten b (k * 2 ^ u.cluster_bits) u.bytes))) is wrote)

-- nothing names clusters that were allocated for a table, and none is held for data
pub run_free : {S F : Type 0} (view : S → StorageView) (p : Pending) (image : Qcow2 S F) (t : EntryTableView) (cluster : ℕ) → FileInvariant view (with_table p t cluster) image.file → t.cluster_bits ≡ image.file.header.fields.cluster_bits
    → (order_of image.file.caches ≡ RbDependsOnL2 → SameCovers image.file.header.fields (contents_in view image.file) (known_in view image.file))
    → (c : ℕ) → 0 < in_run image.file.header.fields c (cluster * cluster_size image.file.header.fields) (length t.bytes) → IsFree view (with_table p t cluster) image.file c
run_free view p image t cluster sound bits covers c some =
    let run = same_run image.file.header.fields t cluster c bits in
    let crash_invariant = sound.caches.kept.kept.crash_invariant in
    let new_tables : 0 < p.new_tables c + run_at cluster (clusters_of t) c = omega (arith, run, some) in
    let tally = (crash_invariant.each_cluster c).tally in
    let few = (crash_invariant.each_cluster c).pending (omega (arith, new_tables)) in
    record { unnamed = data_is_written.new_tables (state_in view image.file (with_table p t cluster)) c crash_invariant new_tables covers; unheld = omega (arith, tally, few, new_tables) }

module _ {S F : Type 0} (view : S → StorageView) (backing : F → BackingView) (out : Mappings) (p : Pending) (image : Qcow2 S F) (t : EntryTableView) (cluster : ℕ) (sound : ImageInvariant view backing (with_table p t cluster) image out)
    (longer : IsLongerL1 image t) (clean : AreClean (refblocks image.file.caches)) (may : BlocksMayGo (order_of image.file.caches) (l2_tables image.file.caches)) where
  abbrev h : HeaderFields
  h = image.file.header.fields

  abbrev q : Pending
  q = with_table p t cluster

  abbrev place : ℕ
  place = cluster * cluster_size image.file.header.fields

  module _ (asked after : S) (result : Result (Unit {0}) StorageError) (same : asked ≡ storage_of image.file.storage)
      (wrote : Changes (view asked) (view after) result (λ b. overwritten b (cluster * 2 ^ image.file.header.fields.cluster_bits) t.bytes)) (called : Calls (view asked) (view after) result) where
    writes : Changes (view_in view image.file) (view after) result (λ b. overwritten b place t.bytes)
    writes = subst (λ (s : S). Changes (view s) (view after) result (λ b. overwritten b place t.bytes)) same wrote

    -- outside of them all stays
    outside : (c : ℕ) → in_run h c place (length t.bytes) ≤ 0 → SameIn (cluster_size h) c (contents_in view image.file) (byte_at (overwritten (view_in view image.file).contents place t.bytes))
    outside c none o in_c = overwritten_but (view_in view image.file).contents place t.bytes o (elim (cases_lt o place) [
      | inl below ↦ inl below
      | inr above ↦ elim (cases_lt o (place + length t.bytes)) [
        | inr past ↦ inr past
        | inl within ↦
            let sizes = file_sizes view q image.file sound.file in
            let e : place + (o - place) ≡ o = omega (arith, above) in
            let has = run_has h place (length t.bytes) (o - place) sizes.some (cluster_aligned cluster image.file.header.fields.cluster_bits) (omega (arith, above, within)) in
            let here : in_run h c place (length t.bytes) ≡ 1 = ap (λ n. in_run h n place (length t.bytes)) (sym in_c ∙ ap (λ n. n / cluster_size h) (sym e)) ∙ has in
            absurd (omega (arith, here, none))
      ]
    ])

    each : (c : ℕ) → SameIn (cluster_size h) c (contents_in view image.file) (byte_at (view after).contents) ⊎ (IsUnnamed h (contents_in view image.file) (known_in view image.file) c × (q.new_data c ≡ 0))
    each c = elim (cases_lt 0 (in_run h c place (length t.bytes))) [
      | inl some ↦ let free = run_free view p image t cluster sound.file longer.bits (λ ordered. covers_written view q image.file sound.file may ordered) c some in inr (free.unnamed, free.unheld)
      | inr none ↦ inl (elim (whole_or_nothing result (view_in view image.file).contents (overwritten (view_in view image.file).contents place t.bytes) (view after).contents (writes sound.file.honest)) [
        | inl still ↦ λ o in_c. ap (λ (l : List ℕ). byte_at l o) (sym still)
        | inr new ↦ λ o in_c. outside c none o in_c ∙ ap (λ (l : List ℕ). byte_at l o) (sym new)
      ])
    ]

    module _ (storage : ImageStorage S) (stored : storage_of storage ≡ after) where
      abbrev placed : Qcow2 S F
      placed = record image { file = record image.file { storage = storage } }

      each_now : (c : ℕ) → SameIn (cluster_size h) c (contents_in view image.file) (contents_in view placed.file) ⊎ (IsUnnamed h (contents_in view image.file) (known_in view image.file) c × (q.new_data c ≡ 0))
      each_now c = subst (λ (s : S). SameIn (cluster_size h) c (contents_in view image.file) (byte_at (view s).contents) ⊎ (IsUnnamed h (contents_in view image.file) (known_in view image.file) c × (q.new_data c ≡ 0))) (sym stored) (each c)

      calls_now : Calls (view_in view image.file) (view (storage_of storage)) result
      calls_now = subst (λ (s : S). Calls (view_in view image.file) (view s) result) (sym stored) (subst (λ (s : S). Calls (view s) (view after) result) same called)

      reftable_now : (a : Option Allocator) → IfSome a (IsAllocatorOf view image.file) → IfSome a (IsAllocatorOf view placed.file)
      reftable_now = allocator_moved view image.file placed.file q (file_step_written view q image.file storage sound.file (calls_now.honest sound.file.honest) each_now (calls_now.time sound.file.honest))
          (reftable_written view q image.file storage sound.file (calls_now.honest sound.file.honest) each_now)

      pub keeps_placed : InternalStep view backing q q image placed out
      keeps_placed = file_moved view backing image out q q sound placed.file image.allocator (file_step_written view q image.file storage sound.file (calls_now.honest sound.file.honest) each_now (calls_now.time sound.file.honest)) (reftable_now image.allocator sound.reftable)
          refl (λ k. refl) refl

      pub stands_whole : (t' : EntryTableView) → t' ≡ record t { cluster = Some cluster } → (x : Unit {0}) → result ≡ Ok x → StandsWhole view placed t' cluster
      stands_whole t' is x done =
          let now : (view (storage_of storage)).contents ≡ overwritten (view_in view image.file).contents place t.bytes = ap (λ (s : S). (view s).contents) stored ∙ (rw done at (writes sound.file.honest)) in
          let kept = keeps_placed.sound.file.caches.kept.kept in
          let d = order_of image.file.caches in
          let l2s = l2_tables image.file.caches in
          let rbs = refblocks image.file.caches in
          let h' = with_places h (with_l1_at h place (entry_count t)) in
          subst (λ (u : EntryTableView). StandsWhole view placed u cluster) (sym is) (record {
            table = record { bits = longer.bits; whole = longer.whole; longer = longer.longer; entries = longer.entries };
            cluster_is = refl;
            stands = λ i. sym (subst (λ (l : List ℕ). entry_at t.bytes i ≡ l1_entry h' (byte_at l) i) (sym now)
                (IsL1TableOf-written h' (view_in view image.file).contents place t (let w = longer.whole in omega (arith, w)) (refl, refl) i));
            counts = clean_counts h d q l2s rbs (contents_in view placed.file) kept clean;
            covers = λ ordered. covers_written view q placed.file keeps_placed.sound.file may ordered;
          })
