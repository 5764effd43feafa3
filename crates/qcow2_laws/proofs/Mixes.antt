-- An image in which some cached tables were written, in an allowed order, still has the crash invariant.
use Rattle.std.proofs.Common.{◌≡◌, ◌+◌, ◌*◌, ◌/◌, ◌%◌, ◌≤◌, ◌≢◌, ◌⊎◌, ℕ, refl, sym, ap, ◌∙◌, arith, inl, inr, subst, max}
use Rattle.qcow2_laws.proofs.Common.{Bytes, SameFrom, HeaderFields, cluster_size, entries_per_cluster, counts_per_block, reftable_entry, count, host_offset, block_offset, cover, named_by_guest, CoverIsAligned, L2Mapping, Direction, Neither, L2DependsOnRb, RbDependsOnL2, over_guests, names, marks, marked_by_guest, named_in_either, table_at, IsTop, SameTop, Pending, cluster, CrashInvariant, IsPartly, SameCovers, IsInOrder, IsMixed, MayTurn}
use Rattle.qcow2_laws.proofs.Clusters.{Tied, Good, Nearer, InOrder, mix, turn_from_free, turn_to_l2, turn_to_rb, turn_free, turn_free_too}
use Rattle.qcow2_laws.proofs.Places.{Sizes, Sizes-from, SameFrom-in, SameFrom-sym, l1-same, reftable-same, has_table, has_block, count-same, cover-same}
use Rattle.qcow2_laws.proofs.Guests.{over_guests-le, over_guests-same, marks-le, marks-all}
use Rattle.qcow2_laws.proofs.Tops.{SameTop-sym, SameTop-trans, for_tables-top, copied_l1_refs-top, IsTop-top}

pub tied : (h : HeaderFields) (p : Pending) (on_storage known : Bytes) (c : ℕ) → Tied (cluster h p on_storage known c)
tied h p on_storage known c = grind (arith, over_guests-le, marks-le)

pub good : (h : HeaderFields) (d : Direction) (p : Pending) (on_storage known : Bytes) → CrashInvariant h d p on_storage known → (c : ℕ) → Good d (cluster h p on_storage known c) (p.surplus c)
good h d p on_storage known crash_invariant c = record { each_cluster = crash_invariant.each_cluster c; ordered = crash_invariant.ordered c }

-- ---- what is read in an image of which each cluster is that of the one or of the other
module _ (h : HeaderFields) (on_storage known b : Bytes) (top : IsTop h on_storage) (same_top : SameTop h on_storage known) (partly : IsPartly (cluster_size h) on_storage known b) where
  sizes : Sizes h
  sizes = Sizes-from h on_storage top.header_reads

  first : SameFrom 0 (cluster_size h) on_storage b
  first =
      let aligned : 0 % cluster_size h ≡ 0 = let s = sizes.some in omega arith in
      elim (partly (0 / cluster_size h)) [
        | inl same ↦ SameFrom-sym 0 (cluster_size h) b on_storage (SameFrom-in (cluster_size h) _ 0 b on_storage same aligned refl)
        | inr same ↦ λ i lt. same_top.first_cluster i lt ∙ sym (SameFrom-in (cluster_size h) _ 0 b known same aligned refl i lt)
      ]

  pub top_kept : SameTop h on_storage b
  top_kept = record {
    first_cluster = first;
    l1 = λ i. elim (partly ((h.l1_offset + 8 * i) / cluster_size h)) [
      | inl same ↦ sym (l1-same h b on_storage i sizes top.l1_aligned (λ _. same))
      | inr same ↦ same_top.l1 i ∙ sym (l1-same h b known i sizes top.l1_aligned (λ _. same))
    ];
    reftable = λ k. elim (partly ((h.reftable_offset + 8 * k) / cluster_size h)) [
      | inl same ↦ sym (reftable-same h b on_storage k sizes top.reftable_aligned (λ _. same))
      | inr same ↦ same_top.reftable k ∙ sym (reftable-same h b known k sizes top.reftable_aligned (λ _. same))
    ];
  }

  pub either_cover : (g : ℕ) → (cover h b g ≡ cover h on_storage g) ⊎ (cover h b g ≡ cover h known g)
  either_cover g =
      let i = g / entries_per_cluster h in
      let aligned : table_at h on_storage i ≢ 0 → table_at h on_storage i % cluster_size h ≡ 0 = λ real. top.l2_tables_aligned i (has_table h on_storage i real) in
      let here = ap host_offset (same_top.l1 i) in
      elim (partly (table_at h on_storage (g / entries_per_cluster h) / cluster_size h)) [
        | inl same ↦ inl (sym (cover-same h on_storage b g sizes (top_kept.l1 i) (λ real. SameFrom-sym _ _ b on_storage (SameFrom-in (cluster_size h) _ _ b on_storage same (aligned real) refl))))
        | inr same ↦ inr (sym (cover-same h known b g sizes (sym (same_top.l1 i) ∙ top_kept.l1 i)
            (λ real. subst (λ place. SameFrom place (cluster_size h) known b) here
            (SameFrom-sym _ _ b known (SameFrom-in (cluster_size h) _ _ b known same (aligned (λ none. real (sym here ∙ none))) refl)))))
      ]

  pub either_count : (c : ℕ) → (count h b c ≡ count h on_storage c) ⊎ (count h b c ≡ count h known c)
  either_count c =
      let k = c / counts_per_block h in
      let aligned : block_offset (reftable_entry h on_storage k) ≢ 0 → block_offset (reftable_entry h on_storage k) % cluster_size h ≡ 0 =
      λ real. top.refblocks_aligned k (has_block h on_storage k real) in
      let here = ap block_offset (same_top.reftable k) in
      elim (partly (block_offset (reftable_entry h on_storage (c / counts_per_block h)) / cluster_size h)) [
        | inl same ↦ inl (sym (count-same h on_storage b c sizes (top_kept.reftable k) (λ real. SameFrom-sym _ _ b on_storage (SameFrom-in (cluster_size h) _ _ b on_storage same (aligned real) refl))))
        | inr same ↦ inr (sym (count-same h known b c sizes (sym (same_top.reftable k) ∙ top_kept.reftable k)
            (λ real. subst (λ place. SameFrom place (cluster_size h) known b) here
            (SameFrom-sym _ _ b known (SameFrom-in (cluster_size h) _ _ b known same (aligned (λ none. real (sym here ∙ none))) refl)))))
      ]

-- one of two covers counts no more than the larger
one_of : (f : L2Mapping → ℕ) (e on_storage known : L2Mapping) → (e ≡ on_storage) ⊎ (e ≡ known) → f e ≤ max (f on_storage) (f known)
one_of f e on_storage known (inl is) = let h : f e ≡ f on_storage = ap f is in omega arith
one_of f e on_storage known (inr is) = let h : f e ≡ f known = ap f is in omega arith

two_of : (f : L2Mapping → ℕ) (e on_storage known : L2Mapping) → (e ≡ on_storage) ⊎ (e ≡ known) → max (f e) (f known) ≤ max (f on_storage) (f known)
two_of f e on_storage known either = let h = one_of f e on_storage known either in omega arith

-- covers that are as on the storage, or as known
pub as_on_storage : (h : HeaderFields) (on_storage b : Bytes) → SameCovers h on_storage b → (f : L2Mapping → ℕ) → over_guests h (λ g. f (cover h b g)) ≡ over_guests h (λ g. f (cover h on_storage g))
as_on_storage h on_storage b same f = over_guests-same h _ _ (λ g. ap f (sym (same g)))

pub as_known : (h : HeaderFields) (known b : Bytes) → SameCovers h known b → (f : L2Mapping → ℕ)
    → over_guests h (λ g. max (f (cover h b g)) (f (cover h known g))) ≡ over_guests h (λ g. f (cover h known g))
as_known h known b same f = over_guests-same h _ _ (λ g. let e : f (cover h known g) ≡ f (cover h b g) = ap f (same g) in omega arith)

module _ (h : HeaderFields) (d : Direction) (p : Pending) (on_storage known b : Bytes) (crash_invariant : CrashInvariant h d p on_storage known) (mixed : IsMixed h d on_storage known b) where
  kept : SameTop h on_storage b
  kept = top_kept h on_storage known b crash_invariant.top crash_invariant.same_top mixed.partly

  pick : (g : ℕ) → (cover h b g ≡ cover h on_storage g) ⊎ (cover h b g ≡ cover h known g)
  pick = either_cover h on_storage known b crash_invariant.top crash_invariant.same_top mixed.partly

  nearer : (c : ℕ) → Nearer (cluster h p on_storage known c) (over_guests h (names h b c)) (named_in_either h b known c)
      (over_guests h (marks h b c)) (over_guests h (λ g. max (marks h b c g) (marks h known c g))) (count h b c)
  nearer c = record {
    in_storage = over_guests-le h _ _ (λ g. one_of (named_by_guest h c) _ _ _ (pick g));
    in_either = over_guests-le h _ _ (λ g. two_of (named_by_guest h c) _ _ _ (pick g));
    marks_in_storage = over_guests-le h _ _ (λ g. one_of (marked_by_guest h c) _ _ _ (pick g));
    marks_either = over_guests-le h _ _ (λ g. two_of (marked_by_guest h c) _ _ _ (pick g));
    count = either_count h on_storage known b crash_invariant.top crash_invariant.same_top mixed.partly c;
  }

  in_order : (e : Direction) → IsInOrder e h on_storage known b → (c : ℕ) → InOrder e (cluster h p on_storage known c) (over_guests h (names h b c)) (named_in_either h b known c)
      (over_guests h (marks h b c)) (over_guests h (λ g. max (marks h b c g) (marks h known c g))) (count h b c)
  in_order Neither o c = tt
  in_order L2DependsOnRb o c = elim o [
    | inl same ↦ inl (as_on_storage h on_storage b same (named_by_guest h c), as_on_storage h on_storage b same (marked_by_guest h c))
    | inr same ↦ inr (sym (same c))
  ]
  in_order RbDependsOnL2 o c = elim o [
    | inl same ↦ inl (sym (same c))
    | inr same ↦ inr (as_known h known b same (named_by_guest h c), as_known h known b same (marked_by_guest h c))
  ]

  good_mix : (c : ℕ) → Good d (cluster h p b known c) (p.surplus c)
  good_mix c =
      let before = mix d (cluster h p on_storage known c) (p.surplus c) _ _ _ _ _ (tied h p on_storage known c) (nearer c) (in_order d mixed.ordered c) (good h d p on_storage known crash_invariant c) in
      let table_refs = for_tables-top h on_storage b c kept in
      let copied_l1_refs = copied_l1_refs-top h on_storage b c kept in
      subst (λ k. Good d k (p.surplus c)) (λ j. record (cluster h p b known c) { table_refs = table_refs j; copied_l1_refs = copied_l1_refs j }) before

  -- a mix names nothing that neither names
  pub mixed_either : (c : ℕ) → named_in_either h b known c ≤ named_in_either h on_storage known c
  mixed_either c = (nearer c).in_either

  pub mixed_crash_invariant : CrashInvariant h d p b known
  mixed_crash_invariant = record {
    top = IsTop-top h on_storage b kept crash_invariant.top;
    same_top = SameTop-trans h b on_storage known (SameTop-sym h on_storage b kept) crash_invariant.same_top;
    each_cluster = λ c. (good_mix c).each_cluster;
    ordered = λ c. (good_mix c).ordered;
    aligned = λ g. elim (pick g) [
      | inl same ↦ subst (CoverIsAligned h) (sym same) (crash_invariant.aligned g)
      | inr same ↦ subst (CoverIsAligned h) (sym same) (crash_invariant.known_aligned g)
    ];
    known_aligned = crash_invariant.known_aligned;
    own = λ g c marked. elim (pick g) [
      | inl same ↦ subst (λ v. named_by_guest h c v ≤ marked_by_guest h c v) (sym same) (crash_invariant.own g c marked)
      | inr same ↦ subst (λ v. named_by_guest h c v ≤ marked_by_guest h c v) (sym same) (marks-all h c (cover h known g) marked)
    ];
    not_overlaid = λ o some.
        let le = (nearer (o / cluster_size h)).in_either in
        elim (mixed.partly (o / cluster_size h)) [
          | inl same ↦ same o refl ∙ (crash_invariant.not_overlaid o (omega arith))
          | inr same ↦ same o refl
        ];
    at_guests = crash_invariant.at_guests;
  }

-- ---- what is known is itself guarded

known_in_order : (d : Direction) (h : HeaderFields) (on_storage known : Bytes) → IsInOrder d h on_storage known known
known_in_order Neither h on_storage known = tt
known_in_order L2DependsOnRb h on_storage known = inr (λ c. refl)
known_in_order RbDependsOnL2 h on_storage known = inr (λ g. refl)

pub known_crash_invariant : (h : HeaderFields) (d : Direction) (p : Pending) (on_storage known : Bytes) → CrashInvariant h d p on_storage known → CrashInvariant h d p known known
known_crash_invariant h d p on_storage known crash_invariant = mixed_crash_invariant h d p on_storage known known crash_invariant (record { partly = λ c. inr (λ o in_c. refl); ordered = known_in_order d h on_storage known })

-- ---- changes of the direction

turned : (d to : Direction) (h : HeaderFields) (p : Pending) (on_storage known : Bytes) (c x : ℕ) → MayTurn d to h on_storage known → Good d (cluster h p on_storage known c) x → Good to (cluster h p on_storage known c) x
turned Neither to h p on_storage known c x may g = turn_from_free to (cluster h p on_storage known c) x (tied h p on_storage known c) g
turned L2DependsOnRb RbDependsOnL2 h p on_storage known c x may g = turn_to_l2 (cluster h p on_storage known c) x (tied h p on_storage known c) (may c) g
turned RbDependsOnL2 L2DependsOnRb h p on_storage known c x may g =
    turn_to_rb (cluster h p on_storage known c) x (tied h p on_storage known c) (as_known h known on_storage (λ k. sym (may k)) (named_by_guest h c)) (as_known h known on_storage (λ k. sym (may k)) (marked_by_guest h c)) g
turned L2DependsOnRb Neither h p on_storage known c x may g =
    turn_free_too (cluster h p on_storage known c) x (tied h p on_storage known c) (may.0 c) (as_known h known on_storage (λ k. sym (may.1 k)) (named_by_guest h c)) (as_known h known on_storage (λ k. sym (may.1 k)) (marked_by_guest h c)) g
turned RbDependsOnL2 Neither h p on_storage known c x may g =
    turn_free (cluster h p on_storage known c) x (tied h p on_storage known c) (may.0 c) (as_known h known on_storage (λ k. sym (may.1 k)) (named_by_guest h c)) (as_known h known on_storage (λ k. sym (may.1 k)) (marked_by_guest h c)) g
turned _ _ h p on_storage known c x may g = g

pub turned_crash_invariant : (h : HeaderFields) (d to : Direction) (p : Pending) (on_storage known : Bytes) → MayTurn d to h on_storage known → CrashInvariant h d p on_storage known → CrashInvariant h to p on_storage known
turned_crash_invariant h d to p on_storage known may crash_invariant = record {
  top = crash_invariant.top;
  same_top = crash_invariant.same_top;
  each_cluster = λ c. crash_invariant.each_cluster c;
  ordered = λ c. (turned d to h p on_storage known c (p.surplus c) may (good h d p on_storage known crash_invariant c)).ordered;
  aligned = crash_invariant.aligned;
  known_aligned = crash_invariant.known_aligned;
  own = crash_invariant.own;
  not_overlaid = crash_invariant.not_overlaid;
  at_guests = crash_invariant.at_guests;
}
