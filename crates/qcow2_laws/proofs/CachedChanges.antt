-- Changes of a cached table's bytes, as changes of the known contents.
use Rattle.std.proofs.Common.{◌≡◌, ◌+◌, ◌-◌, ◌/◌, ◌%◌, ◌<◌, ◌≤◌, ◌≢◌, ℕ, true, false, cond, eqb, inl, inr, List, Some, None, refl, sym, ap, ◌∙◌, subst, arith, max}
use Rattle.qcow2_laws.proofs.Common.{cases_eq, cases_lt, eq-eqb, ne_eqb, cond-true, cond-false, mod_below, Bytes, HeaderFields, cluster_size, entries_per_cluster, count_width, counts_per_block, has_data_file, l2_entry, block_count, cover, in_cluster, named_by_guest, CoverIsAligned, L2Mapping, Data, Zero, Uncovered, names, table_at, marked_by_guest, one_at, IsSameOutside, DriverState, StateInvariant, block_of, CountRises, CountFalls}
use Rattle.qcow2_metadata.specs.TableBytes.{entry_at, ChangesEntry}
use Rattle.qcow2_metadata.specs.RefBlock.{count_in, ChangesCount}
use Rattle.qcow2_metadata.specs.L2Table.{copied_host}
use Rattle.qcow2_laws.proofs.Lemmas.{Sizes, Sizes-from, guest_le, names_within, new_data_is_unnamed}
use Rattle.qcow2_laws.proofs.Places.{count_in as count_found}
use Rattle.qcow2_laws.proofs.Opened.{in_cluster-is}
use Rattle.qcow2_laws.proofs.Shares.{one_or_none}

one_here : (i : ℕ) → one_at i i ≡ 1
one_here i = cond-true {A = ℕ} _ 1 0 (eq-eqb i i refl)

none_there : (i j : ℕ) → j ≢ i → one_at i j ≡ 0
none_there i j ne = cond-false {A = ℕ} _ 1 0 (ne_eqb j i ne)

-- ---- a count of a cached refblock, whose counts are those known before and after
module _ (h : HeaderFields) (known known' : Bytes) (c : ℕ) (old new : List ℕ) (sizes : Sizes h) (real : block_of h known c ≢ 0)
    (outside : IsSameOutside (cluster_size h) (block_of h known c / cluster_size h) known known')
    (was : (i : ℕ) → i < counts_per_block h → count_in h.refcount_order old i ≡ block_count known (count_width h) (block_of h known c) i)
    (now : (i : ℕ) → i < counts_per_block h → count_in h.refcount_order new i ≡ block_count known' (count_width h) (block_of h known c) i) where
  pub count_rises : ChangesCount h.refcount_order old new (c % counts_per_block h) (count_in h.refcount_order old (c % counts_per_block h) + 1) → count_in h.refcount_order old (c % counts_per_block h) ≡ 0 → CountRises h known known' c
  count_rises changes free = record {
    real = real;
    outside = outside;
    more = λ i lt. let a = was i lt in let b = now i lt in elim (cases_eq i (c % counts_per_block h)) [
      | inl here ↦
          let one : one_at (c % counts_per_block h) i ≡ 1 = ap (one_at (c % counts_per_block h)) here ∙ one_here (c % counts_per_block h) in
          let after : count_in h.refcount_order new i ≡ count_in h.refcount_order old i + 1 = ap (count_in h.refcount_order new) here ∙ changes.count_is ∙ ap (λ n. count_in h.refcount_order old n + 1) (sym here) in
          omega arith
      | inr other ↦ let none = none_there (c % counts_per_block h) i other in let same = changes.others i other in omega arith
    ];
    free = count_found h known c real ∙ sym (was (c % counts_per_block h) (mod_below c (counts_per_block h) sizes.counts)) ∙ free;
  }

  pub count_falls : ChangesCount h.refcount_order old new (c % counts_per_block h) (count_in h.refcount_order old (c % counts_per_block h) - 1) → 0 < count_in h.refcount_order old (c % counts_per_block h) → CountFalls h known known' c
  count_falls changes some = grind arith

-- ---- what an entry takes from what is held, where its cover becomes another one
pub record Takes (h : HeaderFields) (enough : ℕ → ℕ) (before after : L2Mapping) : Type 0 where
  pub new_data : (c : ℕ) → named_by_guest h c after - named_by_guest h c before ≤ enough c
  pub marked : (c : ℕ) → marked_by_guest h c after ≤ marked_by_guest h c before + (named_by_guest h c after - named_by_guest h c before)
  pub aligned : CoverIsAligned h after

-- it names nothing any more
pub takes_nothing : (h : HeaderFields) (new_data : ℕ → ℕ) (before : L2Mapping) → Takes h new_data before Uncovered × Takes h new_data before (Zero None)
takes_nothing h new_data before = grind arith

pub takes_own : (h : HeaderFields) (new_data : ℕ → ℕ) (before : L2Mapping) (host : ℕ) → host % cluster_size h ≡ 0 → copied_host before ≡ Some host
    → Takes h new_data before (Data host true) × Takes h new_data before (Zero (Some (host, true)))
takes_own h new_data before host aligned is = grind arith

-- it takes a host cluster that is held
pub in_most : (h : HeaderFields) (c place : ℕ) → in_cluster h c place ≤ 1
in_most h c place = one_or_none (eqb (place / cluster_size h) c)

data_at_most : (h : HeaderFields) (c host : ℕ) → named_by_guest h c (Data host true) ≤ in_cluster h c host
data_at_most h c host = elim (has_data_file h) as (λ t. cond t 0 (in_cluster h c host) ≤ in_cluster h c host) [ true ↦ omega arith | false ↦ omega arith ]

marked_as_named : (h : HeaderFields) (c host : ℕ) → marked_by_guest h c (Data host true) ≡ named_by_guest h c (Data host true)
marked_as_named h c host = refl

pub takes_new_data : (s : DriverState) (g host : ℕ) → StateInvariant s → host % cluster_size s.header ≡ 0 → 0 < s.pending.new_data (host / cluster_size s.header) → Takes s.header s.pending.new_data (cover s.header s.known g) (Data host true)
takes_new_data s g host sound aligned some = record {
  new_data = λ c. let n = data_at_most s.header c host in elim (cases_lt 0 (in_cluster s.header c host)) [
    | inl here ↦
        let most = in_most s.header c host in
        let enough : 0 < s.pending.new_data c = subst (λ n. 0 < s.pending.new_data n) (in_cluster-is s.header c host here) some in
        omega arith
    | inr none ↦ omega arith
  ];
  marked = λ c. let n = data_at_most s.header c host in let m = marked_as_named s.header c host in elim (cases_lt 0 (in_cluster s.header c host)) [
    | inl here ↦
        let enough : 0 < s.pending.new_data c = subst (λ n. 0 < s.pending.new_data n) (in_cluster-is s.header c host here) some in
        let unnamed = new_data_is_unnamed s.header s.direction s.pending s.on_storage s.known sound c enough in
        let before : names s.header s.known c g ≡ 0 = elim (cases_lt 0 (names s.header s.known c g)) [
          | inl named ↦ absurd (
              let within = names_within s.header s.known c g (Sizes-from s.header s.on_storage sound.top.header_reads) named in
              let le = guest_le s.header (λ k. max (names s.header s.on_storage c k) (names s.header s.known c k)) g within in
              let zero = unnamed.no_entry in
              omega arith)
          | inr zero ↦ omega arith
        ] in
        omega arith
    | inr none ↦ omega arith
  ];
  aligned = aligned;
}

-- ---- an entry of a cached L2 table, whose entries are those known before and after
module _ (s : DriverState) (known' : Bytes) (i j entry : ℕ) (old new : List ℕ) (sound : StateInvariant s) (real : table_at s.header s.known i ≢ 0) (within : j < entries_per_cluster s.header)
    (outside : IsSameOutside (cluster_size s.header) (table_at s.header s.known i / cluster_size s.header) s.known known')
    (was : (k : ℕ) → k < entries_per_cluster s.header → entry_at old k ≡ l2_entry s.known (table_at s.header s.known i) k)
    (now : (k : ℕ) → k < entries_per_cluster s.header → entry_at new k ≡ l2_entry known' (table_at s.header s.known i) k)
    (changes : ChangesEntry old new j entry) where
  sizes : Sizes s.header
  sizes = Sizes-from s.header s.on_storage sound.top.header_reads
