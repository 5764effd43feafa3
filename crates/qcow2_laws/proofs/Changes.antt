-- A change of the known contents keeps the crash invariant, and leaves a stop as safe as before.
use Rattle.std.proofs.Common.{◌≡◌, ◌+◌, ◌-◌, ◌/◌, ◌<◌, ◌≤◌, ◌≢◌, ◌⊎◌, ℕ, true, false, cond, eqb, List, [], refl, sym, ap, ◌∙◌, arith, inl, inr, subst, max}
use Rattle.qcow2_laws.proofs.Common.{cases_eq, cases_lt, Bytes, HeaderFields, cluster_size, count, cover, guest_value, named_by_guest, CoverIsAligned, StandsIfBeside, L2Mapping, GivenBytes, IsGiven, Checkpoint, checkpoint_with, StopOkEverywhere, Direction, L2DependsOnRb, RbDependsOnL2, guests, over_guests, names, marks, named_in_either, marked_by_guest, SameTop, Pending, cluster, CrashInvariant, SameCovers, SameCounts, one_at, with_new_data, with_new_tables, without_old_tables, without_old_data, new_data_to_old_data, new_data_to_old_tables, new_tables_to_old_tables, remapped}
use Rattle.qcow2_laws.proofs.Clusters.{Good, allocate_data, allocate_table, free_table, free_data, drop_new_data, undo, abandon, remap, new_data_unnamed}
use Rattle.qcow2_laws.proofs.Places.{Sizes-from}
use Rattle.qcow2_laws.proofs.Guests.{own_data_of, over_guests-same, over_guests-change, guest_le, names_within}
use Rattle.qcow2_laws.proofs.Tops.{SameTop-trans, IsTop-top, SameTop-refl}
use Rattle.qcow2_laws.proofs.Mixes.{tied, good}
use Rattle.qcow2_laws.proofs.Consistency.{known_consistent, own_of_kept}
use Rattle.qcow2_laws.proofs.Values.{guest_value-same, kept_shown}

pub one_at-le : (c k : ℕ) → one_at c k ≤ 1
one_at-le c k = elim (eqb k c) as (λ t. cond t 1 0 ≤ 1) [ true ↦ omega arith | false ↦ omega arith ]

pub at_one : (c k : ℕ) (f : ℕ → ℕ) (n : ℕ) → f c ≡ n → 0 < one_at c k → f k ≡ n
at_one c k f n is some = grind arith

-- ---- counts and what is pending change, and covers stay
module _ (h : HeaderFields) (d : Direction) (p p' : Pending) (on_storage known known' : Bytes) (crash_invariant : CrashInvariant h d p on_storage known)
    (top : SameTop h known known') (covers : SameCovers h known known')
    (bytes : (o : ℕ) → 0 < named_in_either h on_storage known (o / cluster_size h) + p'.new_data (o / cluster_size h) → on_storage o ≡ known' o) where
  sum_same : (f : L2Mapping → ℕ) → over_guests h (λ g. f (cover h known' g)) ≡ over_guests h (λ g. f (cover h known g))
  sum_same f = over_guests-same h _ _ (λ g. ap f (sym (covers g)))

  max_same : (f : L2Mapping → ℕ) → over_guests h (λ g. max (f (cover h on_storage g)) (f (cover h known' g))) ≡ over_guests h (λ g. max (f (cover h on_storage g)) (f (cover h known g)))
  max_same f = over_guests-same h _ _ (λ g. ap (λ v. max (f (cover h on_storage g)) (f v)) (sym (covers g)))

  pub counts_changed : ((c : ℕ) → Good d (record (cluster h p on_storage known c) { known_count = count h known' c; new_data = p'.new_data c; new_tables = p'.new_tables c; old_tables = p'.old_tables c; old_data = p'.old_data c }) (p'.surplus c))
      → CrashInvariant h d p' on_storage known'
  counts_changed numbers =
      let now : (c : ℕ) → Good d (cluster h p' on_storage known' c) (p'.surplus c) = λ c.
      let in_known = sym (sum_same (named_by_guest h c)) in
      let in_either = sym (max_same (named_by_guest h c)) in
      let marks_known = sym (sum_same (marked_by_guest h c)) in
      let marks_either = sym (max_same (marked_by_guest h c)) in
      subst (λ k. Good d k (p'.surplus c)) (λ j. record (cluster h p' on_storage known' c) { in_known = in_known j; in_either = in_either j; marks_known = marks_known j; marks_either = marks_either j }) (numbers c) in
      record {
        top = crash_invariant.top;
        same_top = SameTop-trans h on_storage known known' crash_invariant.same_top top;
        each_cluster = λ c. (now c).each_cluster;
        ordered = λ c. (now c).ordered;
        aligned = crash_invariant.aligned;
        known_aligned = λ g. subst (CoverIsAligned h) (covers g) (crash_invariant.known_aligned g);
        own = λ g c marked. crash_invariant.own g c (subst (λ v. 0 < marked_by_guest h c v) (sym (covers g)) marked);
        not_overlaid = λ o some. let same = max_same (named_by_guest h (o / cluster_size h)) in bytes o (omega arith);
        at_guests = λ g. subst (StandsIfBeside h g) (covers g) (crash_invariant.at_guests g);
      }

-- the guest sees what it saw
module _ (h : HeaderFields) (d d' : Direction) (p p' : Pending) (on_storage known known' : Bytes) (crash_invariant : CrashInvariant h d p on_storage known) (crash_invariant' : CrashInvariant h d' p' on_storage known')
    (covers : SameCovers h known known')
    (bytes : (o : ℕ) → 0 < named_in_either h on_storage known (o / cluster_size h) → known o ≡ known' o) where
  pub covers_kept : (backing : Bytes) (m : Checkpoint) → StopOkEverywhere backing m known → StopOkEverywhere backing m known'
  covers_kept backing m kept =
      kept_shown h backing m [] known known' (IsTop-top h on_storage known crash_invariant.same_top crash_invariant.top).header_is (IsTop-top h on_storage known' crash_invariant'.same_top crash_invariant'.top).header_is
      (known_consistent h d' p' on_storage known' crash_invariant' (own_of_kept h backing m known (IsTop-top h on_storage known crash_invariant.same_top crash_invariant.top).header_is kept))
      (λ i lt. sym (crash_invariant.same_top.first_cluster i lt) ∙ crash_invariant'.same_top.first_cluster i lt)
      (λ o. inl (sym (guest_value-same h known known' backing o (own_data_of h (own_of_kept h backing m known (IsTop-top h on_storage known crash_invariant.same_top crash_invariant.top).header_is kept)) (covers (o / cluster_size h)) (crash_invariant.known_aligned (o / cluster_size h)) (λ place some.
      bytes place (
      let within = names_within h known (place / cluster_size h) (o / cluster_size h) (Sizes-from h on_storage crash_invariant.top.header_reads) some in
      let le = guest_le h (λ k. max (names h on_storage (place / cluster_size h) k) (names h known (place / cluster_size h) k)) (o / cluster_size h) within in
      omega arith))))) kept

-- ---- counts of single clusters
module _ (h : HeaderFields) (p : Pending) (on_storage known known' : Bytes) (n : ℕ → ℕ) (top : SameTop h known known') (covers : SameCovers h known known') (few : (c : ℕ) → n c ≤ 1) where
  pub data_counted : CrashInvariant h L2DependsOnRb p on_storage known
      → ((o : ℕ) → 0 < named_in_either h on_storage known (o / cluster_size h) + (with_new_data p n).new_data (o / cluster_size h) → on_storage o ≡ known' o)
      → ((c : ℕ) → 0 < n c → count h known c ≡ 0) → ((c : ℕ) → count h known' c ≡ count h known c + n c)
      → CrashInvariant h L2DependsOnRb (with_new_data p n) on_storage known'
  data_counted crash_invariant bytes free checkpoint_with =
      counts_changed h L2DependsOnRb p (with_new_data p n) on_storage known known' crash_invariant top covers bytes (λ c.
      let next = allocate_data (cluster h p on_storage known c) (p.surplus c) (n c) (tied h p on_storage known c) (few c) (free c) (good h L2DependsOnRb p on_storage known crash_invariant c) in
      let e : count h known c + n c ≡ count h known' c = sym (checkpoint_with c) in
      subst (λ k. Good L2DependsOnRb k (p.surplus c)) (λ j. record (cluster h p on_storage known c) { known_count = e j; new_data = p.new_data c + n c }) next)

  pub table_counted : (d : Direction) → CrashInvariant h d p on_storage known
      → ((o : ℕ) → 0 < named_in_either h on_storage known (o / cluster_size h) + p.new_data (o / cluster_size h) → on_storage o ≡ known' o)
      → ((c : ℕ) → 0 < n c → count h known c ≡ 0) → ((c : ℕ) → count h known' c ≡ count h known c + n c)
      → CrashInvariant h d (with_new_tables p n) on_storage known'
  table_counted d crash_invariant bytes free checkpoint_with =
      counts_changed h d p (with_new_tables p n) on_storage known known' crash_invariant top covers bytes (λ c.
      let next = allocate_table d (cluster h p on_storage known c) (p.surplus c) (n c) (tied h p on_storage known c) (few c) (free c) (good h d p on_storage known crash_invariant c) in
      let e : count h known c + n c ≡ count h known' c = sym (checkpoint_with c) in
      subst (λ k. Good d k (p.surplus c)) (λ j. record (cluster h p on_storage known c) { known_count = e j; new_tables = p.new_tables c + n c }) next)

  pub table_freed : (d : Direction) → CrashInvariant h d p on_storage known
      → ((o : ℕ) → 0 < named_in_either h on_storage known (o / cluster_size h) + p.new_data (o / cluster_size h) → on_storage o ≡ known' o)
      → ((c : ℕ) → 0 < n c → 0 < p.old_tables c) → ((c : ℕ) → count h known' c + n c ≡ count h known c)
      → CrashInvariant h d (without_old_tables p n) on_storage known'
  table_freed d crash_invariant bytes some less =
      counts_changed h d p (without_old_tables p n) on_storage known known' crash_invariant top covers bytes (λ c.
      let next = free_table d (cluster h p on_storage known c) (p.surplus c) (n c) (tied h p on_storage known c) (few c) (some c) (good h d p on_storage known crash_invariant c) in
      let e : count h known c - n c ≡ count h known' c = let l = less c in omega arith in
      subst (λ k. Good d k (p.surplus c)) (λ j. record (cluster h p on_storage known c) { known_count = e j; old_tables = p.old_tables c - n c }) next)

  pub data_freed : CrashInvariant h RbDependsOnL2 p on_storage known
      → ((o : ℕ) → 0 < named_in_either h on_storage known (o / cluster_size h) + p.new_data (o / cluster_size h) → on_storage o ≡ known' o)
      → ((c : ℕ) → 0 < n c → 0 < p.old_data c) → ((c : ℕ) → count h known' c + n c ≡ count h known c)
      → CrashInvariant h RbDependsOnL2 (without_old_data p n) on_storage known'
  data_freed crash_invariant bytes some less =
      counts_changed h RbDependsOnL2 p (without_old_data p n) on_storage known known' crash_invariant top covers bytes (λ c.
      let next = free_data (cluster h p on_storage known c) (p.surplus c) (n c) (tied h p on_storage known c) (few c) (some c) (good h RbDependsOnL2 p on_storage known crash_invariant c) in
      let e : count h known c - n c ≡ count h known' c = let l = less c in omega arith in
      subst (λ k. Good RbDependsOnL2 k (p.surplus c)) (λ j. record (cluster h p on_storage known c) { known_count = e j; old_data = p.old_data c - n c }) next)

-- ---- what is pending changes alone
module _ (h : HeaderFields) (d : Direction) (p : Pending) (on_storage known : Bytes) (crash_invariant : CrashInvariant h d p on_storage known) (n : ℕ → ℕ) (few : (c : ℕ) → n c ≤ 1) where
  pub old_data_instead : ((c : ℕ) → 0 < n c → 0 < p.new_data c) → CrashInvariant h d (new_data_to_old_data p n) on_storage known
  old_data_instead some =
      counts_changed h d p (new_data_to_old_data p n) on_storage known known crash_invariant (SameTop-refl h known) (λ g. refl) (λ o any. crash_invariant.not_overlaid o (omega arith))
      (λ c. drop_new_data d (cluster h p on_storage known c) (p.surplus c) (n c) (tied h p on_storage known c) (few c) (some c) (good h d p on_storage known crash_invariant c))

  pub old_tables_instead : ((c : ℕ) → 0 < n c → 0 < p.new_data c) → CrashInvariant h d (new_data_to_old_tables p n) on_storage known
  old_tables_instead some =
      counts_changed h d p (new_data_to_old_tables p n) on_storage known known crash_invariant (SameTop-refl h known) (λ g. refl) (λ o any. crash_invariant.not_overlaid o (omega arith))
      (λ c. undo d (cluster h p on_storage known c) (p.surplus c) (n c) (tied h p on_storage known c) (few c) (some c) (good h d p on_storage known crash_invariant c))

  pub never_named : ((c : ℕ) → 0 < n c → 0 < p.new_tables c) → CrashInvariant h d (new_tables_to_old_tables p n) on_storage known
  never_named some =
      counts_changed h d p (new_tables_to_old_tables p n) on_storage known known crash_invariant (SameTop-refl h known) (λ g. refl) (λ o any. crash_invariant.not_overlaid o (omega arith))
      (λ c. abandon d (cluster h p on_storage known c) (p.surplus c) (n c) (tied h p on_storage known c) (few c) (some c) (good h d p on_storage known crash_invariant c))

-- ---- one guest cluster gets another mapping: the references that it gains come from new data
module _ (h : HeaderFields) (d : Direction) (p : Pending) (on_storage known known' : Bytes) (crash_invariant : CrashInvariant h d p on_storage known) (g0 : ℕ) (within : g0 < guests h)
    (top : SameTop h known known') (others : (g : ℕ) → g ≢ g0 → cover h known g ≡ cover h known' g) (counts : SameCounts h known known')
    (new_data : (c : ℕ) → names h known' c g0 - names h known c g0 ≤ p.new_data c)
    (marked : (c : ℕ) → marks h known' c g0 ≤ marks h known c g0 + (names h known' c g0 - names h known c g0))
    (aligned : CoverIsAligned h (cover h known' g0)) (at_guest : StandsIfBeside h g0 (cover h known' g0))
    (bytes : (o : ℕ) → 0 < named_in_either h on_storage known (o / cluster_size h) + p.new_data (o / cluster_size h) → known o ≡ known' o) where
  sum_changed : (f : L2Mapping → ℕ) → over_guests h (λ g. f (cover h known' g)) + f (cover h known g0) ≡ over_guests h (λ g. f (cover h known g)) + f (cover h known' g0)
  sum_changed f = over_guests-change h (λ g. f (cover h known' g)) (λ g. f (cover h known g)) g0 within (λ g ne. ap f (sym (others g ne)))

  max_changed : (f : L2Mapping → ℕ) → over_guests h (λ g. max (f (cover h on_storage g)) (f (cover h known' g))) + max (f (cover h on_storage g0)) (f (cover h known g0))
      ≡ over_guests h (λ g. max (f (cover h on_storage g)) (f (cover h known g))) + max (f (cover h on_storage g0)) (f (cover h known' g0))
  max_changed f = over_guests-change h (λ g. max (f (cover h on_storage g)) (f (cover h known' g))) (λ g. max (f (cover h on_storage g)) (f (cover h known g))) g0 within
      (λ g ne. ap (λ v. max (f (cover h on_storage g)) (f v)) (sym (others g ne)))

  now : (c : ℕ) → Good d (cluster h (remapped p (λ c. names h known c g0) (λ c. names h known' c g0)) on_storage known' c) (p.surplus c)
  now c =
      let in_known = sum_changed (named_by_guest h c) in
      let in_either = max_changed (named_by_guest h c) in
      let marks_known = sum_changed (marked_by_guest h c) in
      let marks_either = max_changed (marked_by_guest h c) in
      let taken = new_data c in
      let checkpoint = marked c in
      let next = remap d (cluster h p on_storage known c) (p.surplus c) (names h known c g0) (names h known' c g0)
      (over_guests h (names h known' c)) (named_in_either h on_storage known' c)
      (over_guests h (marks h known' c)) (over_guests h (λ g. max (marks h on_storage c g) (marks h known' c g)))
      (tied h p on_storage known c) (omega arith) (omega arith) (omega arith) (omega arith) (omega arith) (good h d p on_storage known crash_invariant c) in
      subst (λ k. Good d k (p.surplus c)) (λ j. record (cluster h (remapped p (λ c. names h known c g0) (λ c. names h known' c g0)) on_storage known' c) { known_count = counts c j }) next

  own_there : (c : ℕ) → 0 < marks h known' c g0 → names h on_storage c g0 ≤ marks h on_storage c g0
  own_there c some = elim (cases_lt 0 (marks h known c g0)) [
    | inl before ↦ crash_invariant.own g0 c before
    | inr not ↦
        let taken = new_data c in
        let checkpoint = marked c in
        let from : 0 < p.new_data c = omega arith in
        let none = new_data_unnamed d (cluster h p on_storage known c) (p.surplus c) (tied h p on_storage known c) from (good h d p on_storage known crash_invariant c) in
        let le = guest_le h (λ g. max (names h on_storage c g) (names h known c g)) g0 within in
        let zero_sum : named_in_either h on_storage known c ≡ 0 = none.0 in
        omega arith
  ]

  pub entry_mapped : CrashInvariant h d (remapped p (λ c. names h known c g0) (λ c. names h known' c g0)) on_storage known'
  entry_mapped = record {
    top = crash_invariant.top;
    same_top = SameTop-trans h on_storage known known' crash_invariant.same_top top;
    each_cluster = λ c. (now c).each_cluster;
    ordered = λ c. (now c).ordered;
    aligned = crash_invariant.aligned;
    known_aligned = λ g. elim (cases_eq g g0) [
      | inl e ↦ subst (λ n. CoverIsAligned h (cover h known' n)) (sym e) aligned
      | inr ne ↦ subst (CoverIsAligned h) (others g ne) (crash_invariant.known_aligned g)
    ];
    own = λ g c some. elim (cases_eq g g0) [
      | inl e ↦ subst (λ n. names h on_storage c n ≤ marks h on_storage c n) (sym e) (own_there c (subst (λ n. 0 < marks h known' c n) e some))
      | inr ne ↦ crash_invariant.own g c (subst (λ v. 0 < marked_by_guest h c v) (sym (others g ne)) some)
    ];
    not_overlaid = λ o some.
        let changed = max_changed (named_by_guest h (o / cluster_size h)) in
        let taken = new_data (o / cluster_size h) in
        let as_before : 0 < named_in_either h on_storage known (o / cluster_size h) + p.new_data (o / cluster_size h) = omega arith in
        crash_invariant.not_overlaid o as_before ∙ bytes o as_before;
    at_guests = λ g. elim (cases_eq g g0) [
      | inl e ↦ subst (λ n. StandsIfBeside h n (cover h known' n)) (sym e) at_guest
      | inr ne ↦ subst (StandsIfBeside h g) (others g ne) (crash_invariant.at_guests g)
    ];
  }

  -- the other guest clusters show what they showed
  pub mapping_kept : (backing : Bytes) (m : Checkpoint) (given : List GivenBytes)
      → ((o : ℕ) → o / cluster_size h ≡ g0 → (guest_value h known' known' backing o ≡ guest_value h known known backing o) ⊎ IsGiven given o (guest_value h known' known' backing o))
      → StopOkEverywhere backing m known → StopOkEverywhere backing (checkpoint_with given [] m) known'
  mapping_kept backing m given there kept =
      kept_shown h backing m given known known' (IsTop-top h on_storage known crash_invariant.same_top crash_invariant.top).header_is (IsTop-top h on_storage known' entry_mapped.same_top crash_invariant.top).header_is
      (known_consistent h d (remapped p (λ c. names h known c g0) (λ c. names h known' c g0)) on_storage known' entry_mapped (own_of_kept h backing m known (IsTop-top h on_storage known crash_invariant.same_top crash_invariant.top).header_is kept)) top.first_cluster
      (λ o. elim (cases_eq (o / cluster_size h) g0) [
        | inl here ↦ there o here
        | inr other ↦ inl (sym (guest_value-same h known known' backing o (own_data_of h (own_of_kept h backing m known (IsTop-top h on_storage known crash_invariant.same_top crash_invariant.top).header_is kept)) (others (o / cluster_size h) other) (crash_invariant.known_aligned (o / cluster_size h)) (λ place some.
            bytes place (
            let inside = names_within h known (place / cluster_size h) (o / cluster_size h) (Sizes-from h on_storage crash_invariant.top.header_reads) some in
            let le = guest_le h (λ k. max (names h on_storage (place / cluster_size h) k) (names h known (place / cluster_size h) k)) (o / cluster_size h) inside in
            omega arith))))
      ]) kept
