-- The header, the L1 table or the reftable changes, on the storage and in the known contents, and all guest clusters keep their mappings.
use Rattle.std.proofs.Common.{◌≡◌, ◌+◌, ◌-◌, ◌*◌, ◌/◌, ◌<◌, ◌≤◌, ◌⊎◌, ℕ, List, [], refl, sym, ap, ◌∙◌, arith, inl, inr, ⊎_elim, subst, max}
use Rattle.qcow2_laws.proofs.Common.{mul-le, Bytes, sum_below, HeaderFields, header, cluster_size, entries_per_cluster, count, cover, guest_value, value_under, named_for_tables, named_by_guest, CoverIsAligned, StandsIfBeside, L2Mapping, Uncovered, disk, IsOfHeaderRest, IsAsked, Direction, RbDependsOnL2, guests, over_guests, names, named_in_either, marked_by_guest, marked_by_l1_table, IsTop, SameTop, Pending, cluster, CrashInvariant, SafeStep, SameCovers, Places, with_places, KeepsCovers, kept_on}
use Rattle.qcow2_laws.proofs.Clusters.{Good, rename}
use Rattle.qcow2_laws.proofs.Sums.{sum_below-same, sum_below-longer}
use Rattle.qcow2_laws.proofs.Places.{Sizes, Sizes-from}
use Rattle.qcow2_laws.proofs.Guests.{uncovered_names, uncovered_marks, own_names, own_data_of, past_guests, guest_le, names_within, l1_marks-le}
use Rattle.qcow2_laws.proofs.Mixes.{tied, good}
use Rattle.qcow2_laws.proofs.Shares.{shares}
use Rattle.qcow2_laws.proofs.Writes.{written_covers}
use Rattle.qcow2_laws.proofs.Tops.{IsTop-top, rest_kept, from_start}
use Rattle.qcow2_laws.proofs.Consistency.{crash_invariant_consistent, known_consistent, own_of_kept}
use Rattle.qcow2_laws.proofs.Values.{shown, value_is, size_is}
use Rattle.qcow2_laws.proofs.SafeSteps.{state}

-- a sum over the guest clusters of a longer L1 table
over_guests-longer : (h : HeaderFields) (a : Places) (f g : ℕ → ℕ) → h.l1_entries ≤ a.l1_entries → ((k : ℕ) → f k ≡ g k) → ((k : ℕ) → guests h ≤ k → f k ≡ 0)
    → over_guests h f ≡ over_guests (with_places h a) g
unfolding over_guests
over_guests-longer h a f g longer same none =
    let rows : h.l1_entries * entries_per_cluster h ≤ a.l1_entries * entries_per_cluster h = mul-le h.l1_entries (entries_per_cluster h) a.l1_entries (entries_per_cluster h) longer (omega arith) in
    let e : guests h + (guests (with_places h a) - guests h) ≡ guests (with_places h a) = omega arith in
    sym (sum_below-longer (guests h) (guests (with_places h a) - guests h) f none)
    ∙ ap (λ n. sum_below n f) e
    ∙ sum_below-same (guests (with_places h a)) f g (λ k lt. same k)

module _ (h : HeaderFields) (a : Places) (d : Direction) (p p' : Pending) (on_storage known on_storage' known' : Bytes) (crash_invariant : CrashInvariant h d p on_storage known)
    (top : IsTop (with_places h a) on_storage') (same_top : SameTop (with_places h a) on_storage' known') (longer : h.l1_entries ≤ a.l1_entries)
    (covers : KeepsCovers h a on_storage on_storage') (known_covers : KeepsCovers h a known known')
    (not_overlaid : (o : ℕ) → 0 < named_in_either h on_storage known (o / cluster_size h) + p'.new_data (o / cluster_size h) → on_storage' o ≡ known' o) where
  sizes : Sizes h
  sizes = Sizes-from h on_storage crash_invariant.top.header_reads

  -- what counts covers sums up alike
  storage_sum : (f : L2Mapping → ℕ) → f Uncovered ≡ 0 → over_guests h (λ g. f (cover h on_storage g)) ≡ over_guests (with_places h a) (λ g. f (cover (with_places h a) on_storage' g))
  storage_sum f none = over_guests-longer h a _ _ longer (λ g. ap f (covers g)) (λ g past. ap f (past_guests h on_storage g sizes past) ∙ none)

  pub known_sum : (f : L2Mapping → ℕ) → f Uncovered ≡ 0 → over_guests h (λ g. f (cover h known g)) ≡ over_guests (with_places h a) (λ g. f (cover (with_places h a) known' g))
  known_sum f none = over_guests-longer h a _ _ longer (λ g. ap f (known_covers g)) (λ g past. ap f (past_guests h known g sizes past) ∙ none)

  either_sum : (f : L2Mapping → ℕ) → f Uncovered ≡ 0 → over_guests h (λ g. max (f (cover h on_storage g)) (f (cover h known g)))
      ≡ over_guests (with_places h a) (λ g. max (f (cover (with_places h a) on_storage' g)) (f (cover (with_places h a) known' g)))
  either_sum f none =
      over_guests-longer h a _ _ longer
      (λ g. ap (λ v. max (f v) (f (cover h known g))) (covers g) ∙ ap (λ v. max (f (cover (with_places h a) on_storage' g)) (f v)) (known_covers g))
      (λ g past.
      let in_storage : f (cover h on_storage g) ≡ 0 = ap f (past_guests h on_storage g sizes past) ∙ none in
      let in_known : f (cover h known g) ≡ 0 = ap f (past_guests h known g sizes past) ∙ none in
      omega arith)

  pub top_changed : ((c : ℕ) → Good d (record (cluster h p on_storage known c) {
    table_refs = named_for_tables (with_places h a) on_storage' c;
    copied_l1_refs = marked_by_l1_table (with_places h a) on_storage' c;
    storage_count = count (with_places h a) on_storage' c;
    known_count = count (with_places h a) known' c;
    new_data = p'.new_data c;
    new_tables = p'.new_tables c;
    old_tables = p'.old_tables c;
    old_data = p'.old_data c;
  }) (p'.surplus c)) → CrashInvariant (with_places h a) d p' on_storage' known'
  top_changed numbers =
      let now : (c : ℕ) → Good d (cluster (with_places h a) p' on_storage' known' c) (p'.surplus c) = λ c.
      let in_storage = storage_sum (named_by_guest h c) (uncovered_names h c) in
      let in_known = known_sum (named_by_guest h c) (uncovered_names h c) in
      let in_either = either_sum (named_by_guest h c) (uncovered_names h c) in
      let marks_in_storage = storage_sum (marked_by_guest h c) (uncovered_marks h c) in
      let marks_known = known_sum (marked_by_guest h c) (uncovered_marks h c) in
      let marks_either = either_sum (marked_by_guest h c) (uncovered_marks h c) in
      subst (λ k. Good d k (p'.surplus c)) (λ j. record (cluster (with_places h a) p' on_storage' known' c) {
        in_storage = in_storage j;
        in_known = in_known j;
        in_either = in_either j;
        marks_in_storage = marks_in_storage j;
        marks_known = marks_known j;
        marks_either = marks_either j;
      }) (numbers c) in
      record {
        top = top;
        same_top = same_top;
        each_cluster = λ c. (now c).each_cluster;
        ordered = λ c. (now c).ordered;
        aligned = λ g. subst (CoverIsAligned h) (covers g) (crash_invariant.aligned g);
        known_aligned = λ g. subst (CoverIsAligned h) (known_covers g) (crash_invariant.known_aligned g);
        own = λ g c some. subst (λ v. named_by_guest h c v ≤ marked_by_guest h c v) (covers g) (crash_invariant.own g c (subst (λ v. 0 < marked_by_guest h c v) (sym (known_covers g)) some));
        not_overlaid = λ o some. not_overlaid o (let e = either_sum (named_by_guest h (o / cluster_size h)) (uncovered_names h (o / cluster_size h)) in omega arith);
        at_guests = λ g. subst (StandsIfBeside h g) (known_covers g) (crash_invariant.at_guests g);
      }

  -- the same, by how often tables are named anew: i are fresh and counted on the storage, s are counted with it, u are no longer named
  pub tables_renamed : (i s u : ℕ → ℕ) → ((c : ℕ) → (p'.new_data c ≡ p.new_data c) × (p'.new_tables c ≡ p.new_tables c - i c) × (p'.old_tables c ≡ p.old_tables c + u c) × (p'.old_data c ≡ p.old_data c) × (p'.surplus c ≡ p.surplus c))
      → ((c : ℕ) → i c + s c ≤ 1)
      → ((c : ℕ) → named_for_tables (with_places h a) on_storage' c + u c ≡ named_for_tables h on_storage c + i c + s c)
      → ((c : ℕ) → marked_by_l1_table (with_places h a) on_storage' c ≤ marked_by_l1_table h on_storage c + i c)
      → ((c : ℕ) → count (with_places h a) on_storage' c ≡ count h on_storage c + s c) → ((c : ℕ) → count (with_places h a) known' c ≡ count h known c + s c)
      → ((c : ℕ) → 0 < i c → (0 < p.new_tables c) × (count h on_storage c ≡ count h known c) × (d ≡ RbDependsOnL2 → SameCovers h on_storage known))
      → ((c : ℕ) → 0 < s c → (count h known c ≡ 0) × (count h on_storage c ≡ 0))
      → CrashInvariant (with_places h a) d p' on_storage' known'
  tables_renamed i s u pending one table_refs copied_l1_refs counts known_counts new_tables empty = top_changed (λ c.
      let l1_le = l1_marks-le (with_places h a) on_storage' c in
      let in_fixed = shares (with_places h a) on_storage' c in
      let is = table_refs c in
      let few = one c in
      let fewer = copied_l1_refs c in
      let next = rename d (cluster h p on_storage known c) (p.surplus c) (named_for_tables (with_places h a) on_storage' c) (marked_by_l1_table (with_places h a) on_storage' c) (i c) (i c) (s c) (u c)
      (tied h p on_storage known c) (omega arith) (omega arith) (omega arith) (omega arith) (omega arith)
      (λ some. (new_tables c some).0) (λ some. (new_tables c some).1) (λ some. written_covers h d p on_storage known crash_invariant c (new_tables c some).2) (λ some. (empty c some).0) (λ some. (empty c some).1) (good h d p on_storage known crash_invariant c) in
      subst (λ n. Good d (record (cluster h p on_storage known c) {
        table_refs = named_for_tables (with_places h a) on_storage' c;
        copied_l1_refs = marked_by_l1_table (with_places h a) on_storage' c;
        storage_count = count (with_places h a) on_storage' c;
        known_count = count (with_places h a) known' c;
        new_data = p'.new_data c;
        new_tables = p'.new_tables c;
        old_tables = p'.old_tables c;
        old_data = p'.old_data c;
      }) n) (sym (pending c).4)
      (subst (λ k. Good d k (p.surplus c)) (λ t. record (cluster h p on_storage known c) {
        table_refs = named_for_tables (with_places h a) on_storage' c;
        copied_l1_refs = marked_by_l1_table (with_places h a) on_storage' c;
        storage_count = (sym (counts c)) t;
        known_count = (sym (known_counts c)) t;
        new_data = (sym (pending c).0) t;
        new_tables = (sym (pending c).1) t;
        old_tables = (sym (pending c).2) t;
        old_data = (sym (pending c).3) t;
      }) next))

  -- ---- what guests see
  pub same_value : h.incompatible ≡ 0 → (b b' backing : Bytes) → KeepsCovers h a b b' → ((g : ℕ) → CoverIsAligned h (cover h b g)) → ((g o : ℕ) → 0 < names h b (o / cluster_size h) g → b o ≡ b' o)
      → (o : ℕ) → guest_value h b b backing o ≡ guest_value (with_places h a) b' b' backing o
  unfolding guest_value
  same_value own b b' backing keeps aligned bytes o =
      shown h b b' backing o (cover h b (o / cluster_size h)) (aligned (o / cluster_size h)) (λ place some. bytes (o / cluster_size h) place (let e = own_names h (place / cluster_size h) (cover h b (o / cluster_size h)) (own_data_of h own) in omega (arith, some, e)))
      ∙ ap (λ v. value_under h b' b' backing o v) (keeps (o / cluster_size h))

  module _ (crash_invariant' : CrashInvariant (with_places h a) d p' on_storage' known')
      (storage_bytes : (o : ℕ) → 0 < named_in_either h on_storage known (o / cluster_size h) → on_storage o ≡ on_storage' o)
      (known_bytes : (o : ℕ) → 0 < named_in_either h on_storage known (o / cluster_size h) → known o ≡ known' o)
      (rest : (o : ℕ) → o < cluster_size h → IsOfHeaderRest h o → on_storage' o ≡ on_storage o)
      (asked : List ℕ) (size : (a.size ≡ h.size) ⊎ IsAsked asked a.size) where
    in_sum : (b : Bytes) (c g : ℕ) → 0 < names h b c g → (names h b c g ≤ max (names h on_storage c g) (names h known c g)) → 0 < named_in_either h on_storage known c
    in_sum b c g some le = let sum = guest_le h (λ k. max (names h on_storage c k) (names h known c k)) g (names_within h b c g sizes some) in omega arith

    size_too : (b b' backing : Bytes) → header b ≡ h → header b' ≡ with_places h a → ((disk b' backing).size ≡ (disk b backing).size) ⊎ IsAsked asked (disk b' backing).size
    size_too b b' backing is is' =
        let e = size_is (with_places h a) b' backing is' in
        ⊎_elim (λ s. inl (e ∙ s ∙ sym (size_is h b backing is))) (λ s. inr (subst (λ n. IsAsked asked n) (sym e) s)) size

    pub moved_step : SafeStep (state h d p on_storage known) (state (with_places h a) d p' on_storage' known') (λ _. []) asked
    moved_step = record {
      sound = crash_invariant';
      on_storage = λ backing m kept _.
          let own = own_of_kept h backing m on_storage crash_invariant.top.header_is kept in
          kept_on backing m [] asked on_storage on_storage' (crash_invariant_consistent (with_places h a) d p' on_storage' known' crash_invariant' own)
          (rest_kept h (with_places h a) on_storage on_storage' crash_invariant.top.header_is top.header_is refl refl rest) (size_too on_storage on_storage' backing crash_invariant.top.header_is top.header_is)
          (λ o. inl (value_is (with_places h a) on_storage' backing o top.header_is
          ∙ sym (same_value own on_storage on_storage' backing covers crash_invariant.aligned (λ g place some. storage_bytes place (in_sum on_storage (place / cluster_size h) g some (omega arith))) o)
          ∙ sym (value_is h on_storage backing o crash_invariant.top.header_is))) kept;
      known = λ backing m _ kept.
          let was = (IsTop-top h on_storage known crash_invariant.same_top crash_invariant.top).header_is in
          let own = own_of_kept h backing m known was kept in
          let is = (IsTop-top (with_places h a) on_storage' known' same_top top).header_is in
          kept_on backing m [] asked known known' (known_consistent (with_places h a) d p' on_storage' known' crash_invariant' own)
          (rest_kept h (with_places h a) known known' was is refl refl (λ o lt of_rest.
          sym (from_start (cluster_size h) on_storage' known' same_top.first_cluster o lt) ∙ rest o lt of_rest ∙ from_start (cluster_size h) on_storage known crash_invariant.same_top.first_cluster o lt)) (size_too known known' backing was is)
          (λ o. inl (value_is (with_places h a) known' backing o is
          ∙ sym (same_value own known known' backing known_covers crash_invariant.known_aligned (λ g place some. known_bytes place (in_sum known (place / cluster_size h) g some (omega arith))) o)
          ∙ sym (value_is h known backing o was))) kept;
    }
