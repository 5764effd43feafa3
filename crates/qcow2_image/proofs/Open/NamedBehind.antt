-- The pointers of a sound image lead past cluster 0, since only the header refers to cluster 0.
use Rattle.std.proofs.Common.{◌≡◌, ◌⊎◌, ◌+◌, ◌*◌, ◌/◌, ◌%◌, ◌<◌, ◌≤◌, ◌∙◌, inl, inr, ℕ, Result, Ok, Err, zero, suc, refl, ap, subst, arith, IfOk}
use Rattle.qcow2_image.proofs.Common.{mul-le, pow_pos, BackingView, StorageView, Bytes, byte_at, IsConsistent, block_offset, reftable_entry, cluster_size, counts_per_block, entries_per_cluster, reftable_entries, in_cluster, in_run, named_for_tables, HeaderFields, Direction, CrashInvariant, Pending, in_own, count_none, has_block, run_has, shares, ImageError, LiesBehindHeader, NamesTablesBehind, Opens, Qcow2}

none_or_some : (n : ℕ) → (n ≡ 0) ⊎ (0 < n)
none_or_some zero = inl refl
none_or_some (suc n) = inr (omega arith)

-- a run from the first byte on has the first cluster
run_at_first : (h : HeaderFields) (place n : ℕ) → place ≡ 0 → 0 < n → in_run h (0 / cluster_size h) place n ≡ 1
run_at_first h place n first some =
    let size = pow_pos h.cluster_bits in
    let none : 0 % cluster_size h ≡ 0 = omega arith in
    let at : place + 0 ≡ 0 = omega (arith, first) in
    subst (λ m. in_run h (m / cluster_size h) place n ≡ 1) at (run_has h place n 0 size (ap (λ m. m % cluster_size h) first ∙ none) some)

module _ (h : HeaderFields) (d : Direction) (p : Pending) (on_storage known : Bytes) (invariant : CrashInvariant h d p on_storage known) where
  abbrev first : ℕ
  first = 0 / cluster_size h

  -- no other table has the first cluster
  alone : named_for_tables h on_storage first ≡ 1
  alone =
      let own = in_own h 0 in
      let all = shares h on_storage first in
      let least : 0 < named_for_tables h on_storage first = omega (arith, own, all) in
      let most = (invariant.each_cluster first).table least in
      omega (arith, most, least)

  no_run : (place n : ℕ) → in_run h first place n ≡ 1 → in_cluster h first 0 + in_run h first place n ≤ named_for_tables h on_storage first → ⊥
  no_run place n has within = let own = in_own h 0 in omega (arith, has, within, own, alone)

  -- the reftable has clusters, since the header's is counted
  some_clusters : 0 < h.reftable_clusters
  some_clusters = elim (none_or_some h.reftable_clusters) [
    | inr some ↦ some
    | inl none ↦
        let k = first / counts_per_block h in
        let entries : reftable_entries h ≡ 0 * entries_per_cluster h = ap (λ n. n * entries_per_cluster h) none in
        let nothing : block_offset (reftable_entry h known k) ≡ 0 = elim (none_or_some (block_offset (reftable_entry h known k))) [
          | inl is ↦ is
          | inr real ↦ let within = has_block h known k (λ is. omega (arith, is, real)) in absurd (omega (arith, within, entries))
        ] in
        let uncounted = count_none h known first nothing in
        let tally = (invariant.each_cluster first).tally in
        absurd (omega (arith, uncounted, tally, alone))
  ]

  reftable_behind : 0 < h.reftable_offset
  reftable_behind = elim (none_or_some h.reftable_offset) [
    | inr some ↦ some
    | inl at ↦
        let size = pow_pos h.cluster_bits in
        let long : 1 * 1 ≤ h.reftable_clusters * cluster_size h = mul-le 1 1 h.reftable_clusters (cluster_size h) (omega (arith, some_clusters)) (omega (arith, size)) in
        let has = run_at_first h h.reftable_offset (h.reftable_clusters * cluster_size h) at (omega (arith, long)) in
        let all = shares h on_storage first in
        absurd (no_run h.reftable_offset (h.reftable_clusters * cluster_size h) has (omega (arith, all)))
  ]

  l1_behind : (h.l1_entries ≡ 0) ⊎ (0 < h.l1_offset)
  l1_behind = elim (none_or_some h.l1_entries) [
    | inl none ↦ inl none
    | inr some ↦ elim (none_or_some h.l1_offset) [
      | inr behind ↦ inr behind
      | inl at ↦
          let has = run_at_first h h.l1_offset (8 * h.l1_entries) at (omega (arith, some)) in
          let all = shares h on_storage first in
          absurd (no_run h.l1_offset (8 * h.l1_entries) has (omega (arith, all)))
    ]
  ]

  pub names_behind : NamesTablesBehind h
  names_behind = record { reftable = inr reftable_behind; l1_table = l1_behind }

-- so does an image that was opened so
module _ {S F : Type 0} (view : S → StorageView) (backing : F → BackingView) where
  -- The image's tables lie past cluster 0 if it was opened from a consistent image, or if its header names them there.
  pub lies_if : (Honest : Type 0) (storage : StorageView) (r : Result (Qcow2 S F) (S × ImageError)) → (Honest → storage.is_honest × IsConsistent (byte_at storage.contents)) → IfOk r (Opens view backing storage)
      → IfOk r (λ image. NamesTablesBehind image.file.header.fields → LiesBehindHeader image) → IfOk r (λ image. Honest ⊎ NamesTablesBehind image.file.header.fields → LiesBehindHeader image)
  lies_if Honest storage (Ok image) made opens lies = λ which. elim which [ inl honest ↦ let from = made honest in lies (names_behind _ _ _ _ _ (opens from.0 from.1).opened.sound.file.caches.kept.kept.crash_invariant) | inr names ↦ lies names ]
  lies_if Honest storage (Err e) made opens lies = tt
