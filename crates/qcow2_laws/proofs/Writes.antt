-- Writes to clusters without a table keep the invariant, and leave a stop as safe as before, with what they give.
use Rattle.std.proofs.Common.{◌≡◌, ◌+◌, ◌*◌, ◌/◌, ◌%◌, ◌<◌, ◌≤◌, ◌⊎◌, false, ℕ, List, [], refl, sym, ap, ◌∙◌, arith, inl, inr, subst, max}
use Rattle.qcow2_laws.proofs.Common.{cases_eq, cases_lt, div-add-mod', mod_below, mod-mul-add, pow_pos, Bytes, HeaderFields, cluster_size, has_data_file, count, cover, known_byte, guest_value, value_under, named_for_tables, in_cluster, named_by_cover, named_by_guest, marked_by_cover, CoverIsAligned, StandsIfBeside, L2Mapping, Data, Compressed, GivenBytes, IsGiven, Checkpoint, checkpoint_with, StopOkEverywhere, Direction, RbDependsOnL2, over_guests, names, marks, named_in_either, marked_by_guest, Pending, cluster, CrashInvariant, SameTop, SameCovers, SameCounts, SameIn, IsUnnamed, IsWritten}
use Rattle.qcow2_laws.proofs.Clusters.{Good, Written, new_data_unnamed, new_tables_unnamed, unused_unnamed, named_once}
use Rattle.qcow2_laws.proofs.Places.{Sizes, Sizes-from, in_one}
use Rattle.qcow2_laws.proofs.Guests.{own_data_of, over_guests-same, guest_le, two_guests_le, names_within, marks-le}
use Rattle.qcow2_laws.proofs.Tops.{SameTop-sym, SameTop-trans, for_tables-top, copied_l1_refs-top, IsTop-top}
use Rattle.qcow2_laws.proofs.Mixes.{tied, good}
use Rattle.qcow2_laws.proofs.Consistency.{in_own, crash_invariant_consistent, known_consistent, own_of_kept}
use Rattle.qcow2_laws.proofs.Shares.{top_stays, covers_stay, counts_stay}
use Rattle.qcow2_laws.proofs.Values.{shown, kept_shown}

-- ---- two images that mean the same are guarded alike
module _ (h : HeaderFields) (d : Direction) (p : Pending) (on_storage known on_storage' known' : Bytes) (crash_invariant : CrashInvariant h d p on_storage known)
    (top : SameTop h on_storage on_storage') (known_top : SameTop h known known') (covers : SameCovers h on_storage on_storage') (known_covers : SameCovers h known known')
    (counts : SameCounts h on_storage on_storage') (known_counts : SameCounts h known known')
    (not_overlaid : (o : ℕ) → 0 < named_in_either h on_storage known (o / cluster_size h) + p.new_data (o / cluster_size h) → on_storage' o ≡ known' o) where
  either_same : (f : L2Mapping → ℕ) → over_guests h (λ g. max (f (cover h on_storage' g)) (f (cover h known' g))) ≡ over_guests h (λ g. max (f (cover h on_storage g)) (f (cover h known g)))
  either_same f = over_guests-same h _ _ (λ g. ap (λ v. max (f v) (f (cover h known' g))) (sym (covers g)) ∙ ap (λ v. max (f (cover h on_storage g)) (f v)) (sym (known_covers g)))

  good_too : (c : ℕ) → Good d (cluster h p on_storage' known' c) (p.surplus c)
  good_too c =
      let table_refs = for_tables-top h on_storage on_storage' c top in
      let copied_l1_refs = copied_l1_refs-top h on_storage on_storage' c top in
      let in_storage = over_guests-same h (names h on_storage c) (names h on_storage' c) (λ g. ap (named_by_guest h c) (covers g)) in
      let in_known = over_guests-same h (names h known c) (names h known' c) (λ g. ap (named_by_guest h c) (known_covers g)) in
      let in_either = sym (either_same (named_by_guest h c)) in
      let marks_in_storage = over_guests-same h (marks h on_storage c) (marks h on_storage' c) (λ g. ap (marked_by_guest h c) (covers g)) in
      let marks_known = over_guests-same h (marks h known c) (marks h known' c) (λ g. ap (marked_by_guest h c) (known_covers g)) in
      let marks_either = sym (either_same (marked_by_guest h c)) in
      subst (λ k. Good d k (p.surplus c)) (λ j. record (cluster h p on_storage' known' c) {
        table_refs = table_refs j;
        copied_l1_refs = copied_l1_refs j;
        in_storage = in_storage j;
        in_known = in_known j;
        in_either = in_either j;
        marks_in_storage = marks_in_storage j;
        marks_known = marks_known j;
        marks_either = marks_either j;
        storage_count = counts c j;
        known_count = known_counts c j;
      }) (good h d p on_storage known crash_invariant c)

  pub same_crash_invariant : CrashInvariant h d p on_storage' known'
  same_crash_invariant = record {
    top = IsTop-top h on_storage on_storage' top crash_invariant.top;
    same_top = SameTop-trans h on_storage' on_storage known' (SameTop-sym h on_storage on_storage' top) (SameTop-trans h on_storage known known' crash_invariant.same_top known_top);
    each_cluster = λ c. (good_too c).each_cluster;
    ordered = λ c. (good_too c).ordered;
    aligned = λ g. subst (CoverIsAligned h) (covers g) (crash_invariant.aligned g);
    known_aligned = λ g. subst (CoverIsAligned h) (known_covers g) (crash_invariant.known_aligned g);
    own = λ g c some.
        subst (λ v. named_by_guest h c v ≤ marked_by_guest h c v) (covers g) (crash_invariant.own g c (subst (λ v. 0 < marked_by_guest h c v) (sym (known_covers g)) some));
    not_overlaid = λ o some. not_overlaid o (let e = either_same (named_by_guest h (o / cluster_size h)) in omega arith);
    at_guests = λ g. subst (StandsIfBeside h g) (known_covers g) (crash_invariant.at_guests g);
  }

-- ---- what is pending, or counted nowhere, is unnamed
module _ (h : HeaderFields) (d : Direction) (p : Pending) (on_storage known : Bytes) (crash_invariant : CrashInvariant h d p on_storage known) (c : ℕ) where
  pub new_data_is_unnamed : 0 < p.new_data c → IsUnnamed h on_storage known c
  new_data_is_unnamed some =
      let none = new_data_unnamed d (cluster h p on_storage known c) (p.surplus c) (tied h p on_storage known c) some (good h d p on_storage known crash_invariant c) in
      record { no_table = none.1; no_entry = none.0 }

  -- where what is known of entries is on the storage, no mix has more
  pub written_covers : (d ≡ RbDependsOnL2 → SameCovers h on_storage known) → Written d (cluster h p on_storage known c)
  written_covers = grind arith

  -- a fresh cluster may still be named by an entry on the storage, unless L2 tables are written
  pub new_tables_is_unnamed : 0 < p.new_tables c → (d ≡ RbDependsOnL2 → SameCovers h on_storage known) → IsUnnamed h on_storage known c
  new_tables_is_unnamed some covers =
      let none = new_tables_unnamed d (cluster h p on_storage known c) (p.surplus c) (tied h p on_storage known c) some (written_covers covers) (good h d p on_storage known crash_invariant c) in
      record { no_table = none.1; no_entry = none.0 }

  pub unused_is_unnamed : count h known c ≡ 0 → count h on_storage c ≡ 0 → IsUnnamed h on_storage known c
  unused_is_unnamed known_none storage_none =
      let none = unused_unnamed d (cluster h p on_storage known c) (p.surplus c) (tied h p on_storage known c) known_none storage_none (good h d p on_storage known crash_invariant c) in
      record { no_table = let t = (crash_invariant.each_cluster c).tally in omega arith; no_entry = none }

  pub marked_alone : (g : ℕ) → 0 < marks h known c g → (named_for_tables h on_storage c ≡ 0) × (named_in_either h on_storage known c ≤ 1)
  marked_alone g some =
      let sizes = Sizes-from h on_storage crash_invariant.top.header_reads in
      let le = marks-le h c (cover h known g) in
      let inside = names_within h known c g sizes (omega arith) in
      let in_sum = guest_le h (marks h known c) g inside in
      let in_either = guest_le h (λ k. max (names h on_storage c k) (names h known c k)) g inside in
      let table = (crash_invariant.each_cluster c).table in
      let once = named_once d (cluster h p on_storage known c) (p.surplus c) (tied h p on_storage known c) (omega arith) (good h d p on_storage known crash_invariant c) in
      (elim (cases_lt 0 (named_for_tables h on_storage c)) [ inl table_refs ↦ absurd (let t = table table_refs in omega arith) | inr none ↦ omega arith ], once)

-- ---- a value that is as before, or given
shown_given : (h : HeaderFields) (b b' backing : Bytes) (o : ℕ) (given : List GivenBytes) (v : L2Mapping) → CoverIsAligned h v
    → ((place : ℕ) → 0 < named_by_cover h (place / cluster_size h) v
    → (b place ≡ b' place) ⊎ ((0 < marked_by_cover h (place / cluster_size h) v) × (place % cluster_size h ≡ o % cluster_size h → (b place ≡ b' place) ⊎ IsGiven given o (known_byte (b' place)))))
    → (value_under h b' b' backing o v ≡ value_under h b b backing o v) ⊎ IsGiven given o (value_under h b' b' backing o v)
shown_given h b b' backing o given (Data host copied) aligned each =
    let some : 0 < cluster_size h = pow_pos h.cluster_bits in
    let place = host + o % cluster_size h in
    let below = mod_below o (cluster_size h) some in
    let inside = in_one (cluster_size h) host (o % cluster_size h) aligned below in
    let is : host / cluster_size h * cluster_size h + host % cluster_size h ≡ host = div-add-mod' host (cluster_size h) in
    let e : host + o % cluster_size h ≡ host / cluster_size h * cluster_size h + o % cluster_size h = omega arith in
    let rest : (host + o % cluster_size h) % cluster_size h ≡ o % cluster_size h = ap (λ n. n % cluster_size h) e ∙ mod-mul-add (host / cluster_size h) (cluster_size h) (o % cluster_size h) below in
    elim (each place (let one : in_cluster h ((host + o % cluster_size h) / cluster_size h) host ≡ 1 = ap (λ n. in_cluster h n host) inside ∙ in_own h host in omega arith)) [
      | inl same ↦ inl (ap known_byte (sym same))
      | inr change ↦ elim (change.1 rest) [ inl same ↦ inl (ap known_byte (sym same)) | inr bytes_given ↦ inr bytes_given ]
    ]
shown_given h b b' backing o given (Compressed host sectors) aligned each =
    inl (sym (shown h b b' backing o (Compressed host sectors) tt (λ place some. elim (each place some) [ inl same ↦ same | inr change ↦ absurd (omega (arith, change.0)) ])))
shown_given h b b' backing o given _ aligned each = inl refl

guest_given : (h : HeaderFields) (b b' backing : Bytes) (o : ℕ) (given : List GivenBytes) → has_data_file h ≡ false → cover h b (o / cluster_size h) ≡ cover h b' (o / cluster_size h) → CoverIsAligned h (cover h b (o / cluster_size h))
    → ((place : ℕ) → 0 < names h b (place / cluster_size h) (o / cluster_size h)
    → (b place ≡ b' place) ⊎ ((0 < marks h b (place / cluster_size h) (o / cluster_size h)) × (place % cluster_size h ≡ o % cluster_size h → (b place ≡ b' place) ⊎ IsGiven given o (known_byte (b' place)))))
    → (guest_value h b' b' backing o ≡ guest_value h b b backing o) ⊎ IsGiven given o (guest_value h b' b' backing o)
unfolding guest_value
guest_given h b b' backing o given own same aligned each = grind (arith, shown_given)

-- ---- a write of data
module _ (h : HeaderFields) (d : Direction) (p : Pending) (on_storage known on_storage' known' : Bytes) (given : List GivenBytes) (crash_invariant : CrashInvariant h d p on_storage known)
    (written : IsWritten h on_storage known on_storage' known' given) where
  sizes : Sizes h
  sizes = Sizes-from h on_storage crash_invariant.top.header_reads

  stays : (c : ℕ) → 0 < named_for_tables h on_storage c → SameIn (cluster_size h) c on_storage on_storage' × SameIn (cluster_size h) c known known'
  stays c some = elim (written.each c) [
    | inl same ↦ same
    | inr change ↦ elim change [
      | inl unnamed ↦ absurd (omega (arith, some, unnamed.no_table))
      | inr place ↦ absurd (let none = marked_alone h d p on_storage known crash_invariant c place.guest place.marked in omega (arith, some, none.0))
    ]
  ]

  pub storage_stays : (c : ℕ) → 0 < named_for_tables h on_storage c → SameIn (cluster_size h) c on_storage on_storage'
  storage_stays c some = (stays c some).0

  known_stays : (c : ℕ) → 0 < named_for_tables h known c → SameIn (cluster_size h) c known known'
  known_stays c some = (stays c (let e = for_tables-top h on_storage known c crash_invariant.same_top in omega arith)).1

  now_covers : SameCovers h on_storage on_storage'
  now_covers = covers_stay h on_storage on_storage' crash_invariant.top storage_stays

  pub known_covers : SameCovers h known known'
  known_covers = covers_stay h known known' (IsTop-top h on_storage known crash_invariant.same_top crash_invariant.top) known_stays

  pub written_crash_invariant : CrashInvariant h d p on_storage' known'
  written_crash_invariant =
      let known_top = IsTop-top h on_storage known crash_invariant.same_top crash_invariant.top in
      same_crash_invariant h d p on_storage known on_storage' known' crash_invariant
      (top_stays h on_storage on_storage' crash_invariant.top storage_stays) (top_stays h known known' known_top known_stays) now_covers known_covers
      (counts_stay h on_storage on_storage' crash_invariant.top storage_stays) (counts_stay h known known' known_top known_stays)
      (λ o some. written.agree o (crash_invariant.not_overlaid o some))

  -- a cluster that a guest cluster has to itself is named by no other
  pub its_own : (c g g' : ℕ) → 0 < marks h known c g → 0 < names h on_storage c g' + names h known c g' → g ≡ g'
  its_own c g g' marked some = elim (cases_eq g g') [
    | inl same ↦ same
    | inr other ↦ absurd (
        let le = marks-le h c (cover h known g) in
        let within = names_within h known c g sizes (omega arith) in
        let once = marked_alone h d p on_storage known crash_invariant c g marked in
        elim (cases_lt 0 (names h on_storage c g')) [
          | inl in_storage ↦ let two = two_guests_le h (λ k. max (names h on_storage c k) (names h known c k)) g g' within (names_within h on_storage c g' sizes in_storage) other in omega arith
          | inr none ↦ let two = two_guests_le h (λ k. max (names h on_storage c k) (names h known c k)) g g' within (names_within h known c g' sizes (omega arith)) other in omega arith
        ])
  ]

  named_too : (c g : ℕ) → 0 < names h on_storage c g + names h known c g → 0 < named_in_either h on_storage known c
  named_too c g some = elim (cases_lt 0 (names h on_storage c g)) [
    | inl in_storage ↦ let le = guest_le h (λ k. max (names h on_storage c k) (names h known c k)) g (names_within h on_storage c g sizes in_storage) in omega arith
    | inr none ↦ let le = guest_le h (λ k. max (names h on_storage c k) (names h known c k)) g (names_within h known c g sizes (omega arith)) in omega arith
  ]

  -- what was given for a guest cluster that has the place to itself
  given_at : (place o g : ℕ) → g ≡ o / cluster_size h → place % cluster_size h ≡ o % cluster_size h → IsGiven given (g * cluster_size h + place % cluster_size h) (known_byte (known' place)) → IsGiven given o (known_byte (known' place))
  given_at place o g here rest bytes_given = grind (arith, div-add-mod')

  storage_place : (o place : ℕ) → 0 < names h on_storage (place / cluster_size h) (o / cluster_size h)
      → (on_storage place ≡ on_storage' place) ⊎ ((0 < marks h on_storage (place / cluster_size h) (o / cluster_size h)) × (place % cluster_size h ≡ o % cluster_size h → (on_storage place ≡ on_storage' place) ⊎ IsGiven given o (known_byte (on_storage' place))))
  storage_place o place some = elim (written.each (place / cluster_size h)) [
    | inl same ↦ inl (same.0 place refl)
    | inr change ↦ elim change [
      | inl unnamed ↦ absurd (let n = named_too (place / cluster_size h) (o / cluster_size h) (omega arith) in omega (arith, n, unnamed.no_entry))
      | inr at ↦
          let here = its_own (place / cluster_size h) at.guest (o / cluster_size h) at.marked (omega arith) in
          let marked : 0 < marks h known (place / cluster_size h) (o / cluster_size h) = subst (λ n. 0 < marks h known (place / cluster_size h) n) here at.marked in
          let owns = crash_invariant.own (o / cluster_size h) (place / cluster_size h) marked in
          let both : on_storage' place ≡ known' place = written.agree place (crash_invariant.not_overlaid place (let n = named_too (place / cluster_size h) (o / cluster_size h) (omega arith) in omega arith)) in
          inr (
            omega arith,
            (λ rest. elim (at.gives place refl) [
              | inl same ↦ inl same.0
              | inr bytes_given ↦ inr (subst (λ n. IsGiven given o (known_byte n)) (sym both) (given_at place o at.guest here rest bytes_given))
            ]),
          )
    ]
  ]

  known_place : (o place : ℕ) → 0 < names h known (place / cluster_size h) (o / cluster_size h)
      → (known place ≡ known' place) ⊎ ((0 < marks h known (place / cluster_size h) (o / cluster_size h)) × (place % cluster_size h ≡ o % cluster_size h → (known place ≡ known' place) ⊎ IsGiven given o (known_byte (known' place))))
  known_place o place some = elim (written.each (place / cluster_size h)) [
    | inl same ↦ inl (same.1 place refl)
    | inr change ↦ elim change [
      | inl unnamed ↦ absurd (let n = named_too (place / cluster_size h) (o / cluster_size h) (omega arith) in omega (arith, n, unnamed.no_entry))
      | inr at ↦
          let here = its_own (place / cluster_size h) at.guest (o / cluster_size h) at.marked (omega arith) in
          let marked : 0 < marks h known (place / cluster_size h) (o / cluster_size h) = subst (λ n. 0 < marks h known (place / cluster_size h) n) here at.marked in
          inr (
            marked,
            (λ rest. elim (at.gives place refl) [
              | inl same ↦ inl same.1
              | inr bytes_given ↦ inr (given_at place o at.guest here rest bytes_given)
            ]),
          )
    ]
  ]

  pub written_kept : (backing : Bytes) (m : Checkpoint) → StopOkEverywhere backing m on_storage → StopOkEverywhere backing (checkpoint_with given [] m) on_storage'
  written_kept backing m kept =
      let own = own_of_kept h backing m on_storage crash_invariant.top.header_is kept in
      kept_shown h backing m given on_storage on_storage' crash_invariant.top.header_is written_crash_invariant.top.header_is (crash_invariant_consistent h d p on_storage' known' written_crash_invariant own)
      (top_stays h on_storage on_storage' crash_invariant.top storage_stays).first_cluster
      (λ o. guest_given h on_storage on_storage' backing o given (own_data_of h own) (now_covers (o / cluster_size h)) (crash_invariant.aligned (o / cluster_size h)) (storage_place o)) kept

  pub written_known_kept : (backing : Bytes) (m : Checkpoint) → StopOkEverywhere backing m known → StopOkEverywhere backing (checkpoint_with given [] m) known'
  written_known_kept backing m kept =
      let own = own_of_kept h backing m known (IsTop-top h on_storage known crash_invariant.same_top crash_invariant.top).header_is kept in
      kept_shown h backing m given known known' (IsTop-top h on_storage known crash_invariant.same_top crash_invariant.top).header_is
      (IsTop-top h on_storage' known' written_crash_invariant.same_top written_crash_invariant.top).header_is (known_consistent h d p on_storage' known' written_crash_invariant own)
      (top_stays h known known' (IsTop-top h on_storage known crash_invariant.same_top crash_invariant.top) known_stays).first_cluster
      (λ o. guest_given h known known' backing o given (own_data_of h own) (known_covers (o / cluster_size h)) (crash_invariant.known_aligned (o / cluster_size h)) (known_place o)) kept
