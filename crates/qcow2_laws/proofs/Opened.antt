-- A consistent image has the crash invariant when it is opened.
use Rattle.std.proofs.Common.{◌≡◌, ◌+◌, ◌/◌, ◌%◌, ◌<◌, ◌≤◌, ℕ, Bool, true, false, cond, eqb, refl, sym, ap, ◌∙◌, arith, max, Some, None}
use Rattle.qcow2_laws.proofs.Common.{Option, cond-false, eqb-true, Bytes, HeaderFields, header, cluster_size, has_data_file, count, cover, named_for_tables, named_by_l1_table, table_in, in_cluster, Consistent, EachCover, CoverIsAligned, IsOwn, KeptIsOwn, CopiedIsOwn, L2Mapping, Data, Zero, Uncovered, Neither, ClusterInvariant, over_guests, names, marks, marked_by_cover, marked_by_guest, marked_by_kept, marked_by_l1_table, cluster, CrashInvariant, nothing_pending, surplus_of}
use Rattle.qcow2_laws.proofs.Sums.{some_term}
use Rattle.qcow2_laws.proofs.Places.{Sizes, Sizes-from, cover_in, cover_none, has_table}
use Rattle.qcow2_laws.proofs.Guests.{named-is, over_guests-same, some_guest, marks-all, l1_marks-le}
use Rattle.qcow2_laws.proofs.Tops.{SameTop-refl}

-- what holds of each entry of each table, and of none, holds of each guest cluster
pub each_cover : (h : HeaderFields) (b : Bytes) (P : L2Mapping → Type 0) → Sizes h → P Uncovered → EachCover h b P → (g : ℕ) → P (cover h b g)
each_cover h b P sizes none each g = grind (arith, cover_none, cover_in, has_table)

-- where a test is 1, it passes
pub passes : (t : Bool) (n : ℕ) → 0 < cond t n 0 → (t ≡ true) × (0 < n)
passes true n some = (refl, some)
passes false n some = absurd (omega arith)

fails : (t : Bool) (n : ℕ) → 0 < cond t 0 n → (t ≡ false) × (0 < n)
fails true n some = absurd (omega arith)
fails false n some = (refl, some)

pub in_cluster-is : (h : HeaderFields) (c place : ℕ) → 0 < in_cluster h c place → place / cluster_size h ≡ c
in_cluster-is h c place some = eqb-true (place / cluster_size h) c (passes (eqb (place / cluster_size h) c) 1 some).0

pub table_in-is : (h : HeaderFields) (c place : ℕ) → 0 < table_in h c place → place / cluster_size h ≡ c
table_in-is h c place some = in_cluster-is h c place (fails (eqb place 0) (in_cluster h c place) some).1

counted_at : (h : HeaderFields) (b : Bytes) (c place : ℕ) → place / cluster_size h ≡ c → IsOwn h b place → count h b c ≡ 1
counted_at h b c place here own = ap (count h b) (sym here) ∙ own.1

kept_counted : (h : HeaderFields) (b : Bytes) (c : ℕ) (k : Option (ℕ × Bool)) → KeptIsOwn h b k → 0 < marked_by_kept h c k → count h b c ≡ 1
kept_counted h b c None own some = absurd (omega arith)
kept_counted h b c (Some k) own some = let t = passes k.1 (in_cluster h c k.0) some in counted_at h b c k.0 (in_cluster-is h c k.0 t.1) (own t.0)

cover_counted : (h : HeaderFields) (b : Bytes) (c : ℕ) (v : L2Mapping) → CopiedIsOwn h b v → 0 < marked_by_cover h c v → count h b c ≡ 1
cover_counted h b c (Data host copied) own some = let t = passes copied (in_cluster h c host) some in counted_at h b c host (in_cluster-is h c host t.1) (own t.0)
cover_counted h b c (Zero kept) own some = kept_counted h b c kept own some
cover_counted h b c _ own some = absurd (omega arith)

module _ (h : HeaderFields) (b : Bytes) (ok : Consistent h b) where
  sizes : Sizes h
  sizes = Sizes-from h b ok.header_reads

  own_data : has_data_file h ≡ false
  own_data = ap (λ n. eqb (n / 4 % 2) 1) ok.no_data_file

  sole_counted : (c : ℕ) → 0 < marked_by_l1_table h b c → count h b c ≡ 1
  unfolding marked_by_l1_table
  sole_counted c some = grind (arith, some_term)

  marks_counted : (c : ℕ) → 0 < over_guests h (marks h b c) → count h b c ≡ 1
  marks_counted c some =
      let t = some_guest h (marks h b c) some in
      cover_counted h b c (cover h b t.0) (each_cover h b (CopiedIsOwn h b) sizes tt ok.copied_data t.0) (let is : marked_by_guest h c (cover h b t.0) ≡ marked_by_cover h c (cover h b t.0) = cond-false {A = ℕ} _ _ _ own_data in omega (arith, t.2, is))

  alone : (c : ℕ) → 0 < marked_by_l1_table h b c + over_guests h (marks h b c) → count h b c ≤ 1
  alone c some = grind (arith, sole_counted, marks_counted)

  twice : (f : ℕ → ℕ) → over_guests h (λ g. max (f g) (f g)) ≡ over_guests h f
  twice f = over_guests-same h _ _ (λ g. omega arith)

  fixed_l1 : (c : ℕ) → named_by_l1_table h b c ≤ named_for_tables h b c
  unfolding named_for_tables
  fixed_l1 c = omega arith

  each_cluster : (c : ℕ) → ClusterInvariant (cluster h (nothing_pending (surplus_of h b)) b b c) (surplus_of h b c)
  each_cluster c =
      let e = named-is h b c sizes own_data in
      let counted = ok.counted c in
      let either = twice (names h b c) in
      record {
        tally = omega arith;
        marked = alone c;
        pending = λ some. absurd (omega arith);
        table = λ some. let once = ok.tables_once c (λ none. omega (arith, none)) in omega arith;
        copied_l1_refs = omega (arith, l1_marks-le h b c, fixed_l1 c);
      }

  pub opened_crash_invariant : header b ≡ h → CrashInvariant h Neither (nothing_pending (surplus_of h b)) b b
  opened_crash_invariant is = record {
    top = record {
      header_is = is;
      header_reads = ok.header_reads;
      reftable_fits = ok.reftable_fits;
      l1_reads = ok.l1_reads;
      reftable_reads = ok.reftable_reads;
      no_snapshots = ok.no_snapshots;
      l1_aligned = ok.l1_aligned;
      reftable_aligned = ok.reftable_aligned;
      l2_tables_aligned = ok.l2_tables_aligned;
      refblocks_aligned = ok.refblocks_aligned;
    };
    same_top = SameTop-refl h b;
    each_cluster = each_cluster;
    ordered = λ c.
        let e = named-is h b c sizes own_data in
        let counted = ok.counted c in
        let either = twice (names h b c) in
        let marked = twice (marks h b c) in
        let once = alone c in
        (record { covers = omega arith; alone = λ some. once (omega arith) }, record { covers = omega arith; alone = λ some. once (omega arith) });
    aligned = each_cover h b (CoverIsAligned h) sizes tt ok.data_aligned;
    known_aligned = each_cover h b (CoverIsAligned h) sizes tt ok.data_aligned;
    own = λ g c marked. marks-all h c (cover h b g) marked;
    not_overlaid = λ o some. refl;
    at_guests = λ g beside. let none : false ≡ true = sym own_data ∙ beside in absurd (cc);
  }
