-- A consistent image with an external data file has the invariant when it is opened.
use Rattle.std.proofs.Common.{◌≡◌, ◌<◌, ◌≤◌, ℕ, refl, arith, max}
use Rattle.qcow2_laws.proofs.Common.{cond-true, Bytes, HeaderFields, header, count, cover, named_for_tables, named_by_l1_table, CoverIsAligned, L2Mapping, Neither, ClusterInvariant, guests, over_guests, names, marks, named_by_guest, marked_by_guest, marked_by_l1_table, cluster, CrashInvariant, nothing_pending}
use Rattle.qcow2_laws.specs.Beside.{ConsistentBeside, table_surplus_of}
use Rattle.qcow2_laws.proofs.Lemmas.{some_term, sum_below-zero, Sizes, Sizes-from, l1_marks-le, marks-all, SameTop-refl, each_cover}

module _ (h : HeaderFields) (b : Bytes) (ok : ConsistentBeside h b) where
  sizes : Sizes h
  sizes = Sizes-from h b ok.header_reads

  -- guest clusters name and mark nothing
  no_name : (c : ℕ) (v : L2Mapping) → named_by_guest h c v ≡ 0
  no_name c v = cond-true {A = ℕ} _ _ _ ok.external

  no_mark : (c : ℕ) (v : L2Mapping) → marked_by_guest h c v ≡ 0
  no_mark c v = cond-true {A = ℕ} _ _ _ ok.external

  nothing : (f : ℕ → ℕ) → ((g : ℕ) → f g ≡ 0) → over_guests h f ≡ 0
  unfolding over_guests
  nothing f none = sum_below-zero (guests h) f (λ g lt. none g)

  no_names : (c : ℕ) → over_guests h (names h b c) ≡ 0
  no_names c = nothing (names h b c) (λ g. no_name c (cover h b g))

  no_marks : (c : ℕ) → over_guests h (marks h b c) ≡ 0
  no_marks c = nothing (marks h b c) (λ g. no_mark c (cover h b g))

  none_either : (f : ℕ → ℕ) → ((g : ℕ) → f g ≡ 0) → over_guests h (λ g. max (f g) (f g)) ≡ 0
  none_either f none = nothing (λ g. max (f g) (f g)) (λ g. let e = none g in omega arith)

  alone : (c : ℕ) → 0 < marked_by_l1_table h b c → count h b c ≤ 1
  unfolding marked_by_l1_table
  alone c some = grind (arith, some_term)

  fixed_l1 : (c : ℕ) → named_by_l1_table h b c ≤ named_for_tables h b c
  unfolding named_for_tables
  fixed_l1 c = omega arith

  each_cluster : (c : ℕ) → ClusterInvariant (cluster h (nothing_pending (table_surplus_of h b)) b b c) (table_surplus_of h b c)
  each_cluster c =
      let counted = ok.counted c in
      let n = no_names c in
      let m = no_marks c in
      let either = none_either (names h b c) (λ g. no_name c (cover h b g)) in
      record {
        tally = omega arith;
        marked = λ some. alone c (omega arith);
        pending = λ some. absurd (omega arith);
        table = λ some. let once = ok.tables_once c (λ none. omega (arith, none)) in omega arith;
        copied_l1_refs = omega (arith, l1_marks-le h b c, fixed_l1 c);
      }

  pub opened_beside : header b ≡ h → CrashInvariant h Neither (nothing_pending (table_surplus_of h b)) b b
  opened_beside is = record {
    top = record {
      header_is = is;
      header_reads = ok.header_reads;
      reftable_fits = ok.reftable_fits;
      l1_reads = ok.l1_reads;
      reftable_reads = ok.reftable_reads;
      no_snapshots = ok.no_snapshots;
      l1_aligned = ok.l1_aligned;
      reftable_aligned = ok.reftable_aligned;
      l2_tables_aligned = ok.l2_tables_aligned;
      refblocks_aligned = ok.refblocks_aligned;
    };
    same_top = SameTop-refl h b;
    each_cluster = each_cluster;
    ordered = λ c.
        let counted = ok.counted c in
        let n = no_names c in
        let m = no_marks c in
        let either = none_either (names h b c) (λ g. no_name c (cover h b g)) in
        let marked = none_either (marks h b c) (λ g. no_mark c (cover h b g)) in
        let once = alone c in
        (record { covers = omega arith; alone = λ some. once (omega arith) }, record { covers = omega arith; alone = λ some. once (omega arith) });
    aligned = each_cover h b (CoverIsAligned h) sizes tt ok.data_aligned;
    known_aligned = each_cover h b (CoverIsAligned h) sizes tt ok.data_aligned;
    own = λ g c marked. marks-all h c (cover h b g) marked;
    not_overlaid = λ o some. refl;
    at_guests = λ g beside. ok.at_guests g;
  }
