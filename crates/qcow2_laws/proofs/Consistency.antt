-- An image with the crash invariant is consistent, and a consistent image has the crash invariant.
use Rattle.std.proofs.Common.{◌≡◌, ◌+◌, ◌*◌, ◌/◌, ◌%◌, ◌<◌, ◌≢◌, ℕ, Bool, false, cond, eqb, ap, refl, sym, ◌∙◌, arith, subst, Some, None}
use Rattle.qcow2_laws.proofs.Common.{IsTrue, Option, eq-eqb, ne_eqb, cond-true, cond-false, Bytes, HeaderFields, header, cluster_size, entries_per_cluster, has_data_file, l1_entry, is_copied, count, cover, named, table_in, in_cluster, Consistent, IsConsistent, EachCover, CoverIsAligned, KeptIsOwn, CopiedIsOwn, L2Mapping, Data, Zero, Checkpoint, StopOkEverywhere, Direction, over_guests, marks, marked_by_cover, marked_by_guest, marked_by_kept, marked_by_l1_table, table_at, Pending, cluster, CrashInvariant}
use Rattle.qcow2_laws.proofs.Sums.{term_le-sum_below}
use Rattle.qcow2_laws.proofs.Places.{Sizes, Sizes-from, cover_at}
use Rattle.qcow2_laws.proofs.Clusters.{Fine, fine}
use Rattle.qcow2_laws.proofs.Guests.{named-is, guest_le, names_within, marks-le}
use Rattle.qcow2_laws.proofs.Mixes.{tied, good, known_crash_invariant}

pub in_own : (h : HeaderFields) (place : ℕ) → in_cluster h (place / cluster_size h) place ≡ 1
in_own h place = cond-true {A = ℕ} _ 1 0 (eq-eqb _ _ refl)

pub table_in_own : (h : HeaderFields) (place : ℕ) → place ≢ 0 → table_in h (place / cluster_size h) place ≡ 1
table_in_own h place real = cond-false _ _ _ (ne_eqb place 0 real) ∙ in_own h place

abbrev Owned : HeaderFields → Bytes → ℕ → Type 0
Owned h b c = (named h b c ≡ 1) × (count h b c ≡ 1)

kept_own : (h : HeaderFields) (b : Bytes) (k : Option (ℕ × Bool)) → ((c : ℕ) → 0 < marked_by_kept h c k → Owned h b c) → KeptIsOwn h b k
kept_own h b None own = tt
kept_own h b (Some k) own = λ copied.
    own (k.0 / cluster_size h) (let e : cond k.1 (in_cluster h (k.0 / cluster_size h) k.0) 0 ≡ in_cluster h (k.0 / cluster_size h) k.0 = cond-true _ _ _ copied in let one = in_own h k.0 in omega arith)

cover_own : (h : HeaderFields) (b : Bytes) (v : L2Mapping) → ((c : ℕ) → 0 < marked_by_cover h c v → Owned h b c) → CopiedIsOwn h b v
cover_own h b (Data host copied) own = λ is.
    own (host / cluster_size h) (let e : cond copied (in_cluster h (host / cluster_size h) host) 0 ≡ in_cluster h (host / cluster_size h) host = cond-true _ _ _ is in let one = in_own h host in omega arith)
cover_own h b (Zero kept) own = kept_own h b kept own
cover_own h b _ own = tt

pub l1_marked : (h : HeaderFields) (b : Bytes) (i : ℕ) → i < h.l1_entries → table_at h b i ≢ 0 → IsTrue (is_copied (l1_entry h b i))
    → 0 < marked_by_l1_table h b (table_at h b i / cluster_size h)
unfolding marked_by_l1_table
l1_marked h b i lt real copied =
    let c = table_at h b i / cluster_size h in
    let term = term_le-sum_below h.l1_entries (λ k. cond (is_copied (l1_entry h b k)) (table_in h (table_at h b i / cluster_size h) (table_at h b k)) 0) i lt in
    let here : cond (is_copied (l1_entry h b i)) (table_in h (table_at h b i / cluster_size h) (table_at h b i)) 0 ≡ table_in h (table_at h b i / cluster_size h) (table_at h b i) = cond-true _ _ _ copied in
    let one = table_in_own h (table_at h b i) real in
    omega arith

-- what holds of each guest cluster holds of each entry of each table
pub each_entry : (h : HeaderFields) (b : Bytes) (P : L2Mapping → Type 0) → Sizes h → ((g : ℕ) → P (cover h b g)) → EachCover h b P
each_entry h b P sizes each i j lt real within = subst P (cover_at h b i j sizes real within) (each (i * entries_per_cluster h + j))

module _ (h : HeaderFields) (d : Direction) (p : Pending) (on_storage known : Bytes) (crash_invariant : CrashInvariant h d p on_storage known) (own : h.incompatible ≡ 0) where
  sizes : Sizes h
  sizes = Sizes-from h on_storage crash_invariant.top.header_reads

  own_data : has_data_file h ≡ false
  own_data = ap (λ n. eqb (n / 4 % 2) 1) own

  fine_at : (c : ℕ) → Fine (cluster h p on_storage known c)
  fine_at c = fine d (cluster h p on_storage known c) (p.surplus c) (tied h p on_storage known c) (good h d p on_storage known crash_invariant c)

  owned : (c : ℕ) → 0 < marked_by_l1_table h on_storage c + over_guests h (marks h on_storage c) → Owned h on_storage c
  owned c some = let f = (fine_at c).copied some in (named-is h on_storage c sizes own_data ∙ f.0, f.1)

  pub consistent : Consistent h on_storage
  consistent = record {
    header_reads = crash_invariant.top.header_reads;
    reftable_fits = crash_invariant.top.reftable_fits;
    l1_reads = crash_invariant.top.l1_reads;
    reftable_reads = crash_invariant.top.reftable_reads;
    no_snapshots = crash_invariant.top.no_snapshots;
    no_data_file = own;
    l1_aligned = crash_invariant.top.l1_aligned;
    reftable_aligned = crash_invariant.top.reftable_aligned;
    l2_tables_aligned = crash_invariant.top.l2_tables_aligned;
    refblocks_aligned = crash_invariant.top.refblocks_aligned;
    data_aligned = each_entry h on_storage (CoverIsAligned h) sizes crash_invariant.aligned;
    counted = λ c. let e = named-is h on_storage c sizes own_data in let f = (fine_at c).counted in omega arith;
    tables_once = λ c some. named-is h on_storage c sizes own_data ∙ (fine_at c).tables (omega (arith, some));
    copied_tables = λ i lt real copied. owned (table_at h on_storage i / cluster_size h) (let s = l1_marked h on_storage i lt real copied in omega arith);
    copied_data = each_entry h on_storage (CopiedIsOwn h on_storage) sizes (λ g. cover_own h on_storage (cover h on_storage g)
        (λ c some. let is : marked_by_guest h c (cover h on_storage g) ≡ marked_by_cover h c (cover h on_storage g) = cond-false {A = ℕ} _ _ _ own_data in owned c (let le = guest_le h (marks h on_storage c) g (names_within h on_storage c g sizes (let m = marks-le h c (cover h on_storage g) in omega arith)) in omega arith)));
  }

  pub crash_invariant_consistent : IsConsistent on_storage
  crash_invariant_consistent = subst (λ t. Consistent t on_storage) (sym crash_invariant.top.header_is) consistent

pub known_consistent : (h : HeaderFields) (d : Direction) (p : Pending) (on_storage known : Bytes) → CrashInvariant h d p on_storage known → h.incompatible ≡ 0 → IsConsistent known
known_consistent h d p on_storage known crash_invariant own = crash_invariant_consistent h d p known known (known_crash_invariant h d p on_storage known crash_invariant) own

-- what was kept at a stop has its data in the image itself
pub own_of_kept : (h : HeaderFields) (backing : Bytes) (m : Checkpoint) (b : Bytes) → header b ≡ h → StopOkEverywhere backing m b → h.incompatible ≡ 0
own_of_kept h backing m b is kept = ap (λ (t : HeaderFields). t.incompatible) (sym is) ∙ kept.consistent.no_data_file
