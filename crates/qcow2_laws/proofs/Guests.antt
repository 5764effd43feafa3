-- Sums over all guest clusters.
use Rattle.std.proofs.Common.{◌≡◌, ◌+◌, ◌*◌, ◌/◌, ◌%◌, ◌<◌, ◌≤◌, ◌≢◌, ◌^◌, ℕ, Bool, true, false, cond, eqb, sym, ap, ◌∙◌, refl, arith, inl, inr, Some, None}
use Rattle.qcow2_laws.proofs.Common.{Option, cases_eq, cases_lt, ne_eqb, cond-false, cond-true, eq-eqb, div-mul-add, div-add-mod', mod_below, mul-le, Bytes, sum_below, HeaderFields, entries_per_cluster, has_data_file, l1_entry, l2_entry, is_copied, cover, entry_cover, in_cluster, table_in, named_by_cover, named_by_kept, named_by_l2_table, named_by_l2_tables, named_by_l1_table, named_for_tables, named, L2Mapping, Data, Zero, Uncovered, guests, over_guests, marked_by_kept, marked_by_cover, named_by_guest, marked_by_guest, names, table_at, marked_by_l1_table}
use Rattle.qcow2_laws.proofs.Sums.{sum_below-le, sum_below-same, sum_below-zero, sum_below-change, sum_below-rows, term_le-sum_below, two_terms_le-sum_below, some_term}
use Rattle.qcow2_laws.proofs.Places.{Sizes, l1_entry-past, cover_none, cover_at}

pub over_guests-le : (h : HeaderFields) (f g : ℕ → ℕ) → ((k : ℕ) → f k ≤ g k) → over_guests h f ≤ over_guests h g
unfolding over_guests
over_guests-le h f g le = sum_below-le (guests h) f g (λ k lt. le k)

pub over_guests-same : (h : HeaderFields) (f g : ℕ → ℕ) → ((k : ℕ) → f k ≡ g k) → over_guests h f ≡ over_guests h g
unfolding over_guests
over_guests-same h f g same = sum_below-same (guests h) f g (λ k lt. same k)

pub over_guests-change : (h : HeaderFields) (f g : ℕ → ℕ) (k0 : ℕ) → k0 < guests h → ((k : ℕ) → k ≢ k0 → f k ≡ g k) → over_guests h f + g k0 ≡ over_guests h g + f k0
unfolding over_guests
over_guests-change h f g k0 lt same = sum_below-change (guests h) f g k0 lt (λ k _ ne. same k ne)

pub guest_le : (h : HeaderFields) (f : ℕ → ℕ) (k : ℕ) → k < guests h → f k ≤ over_guests h f
unfolding over_guests
guest_le h f k lt = term_le-sum_below (guests h) f k lt

pub two_guests_le : (h : HeaderFields) (f : ℕ → ℕ) (k l : ℕ) → k < guests h → l < guests h → k ≢ l → f k + f l ≤ over_guests h f
unfolding over_guests
two_guests_le h f k l lt lt' ne = two_terms_le-sum_below (guests h) f k l lt lt' ne

pub some_guest : (h : HeaderFields) (f : ℕ → ℕ) → 0 < over_guests h f → (k : ℕ) × (k < guests h) × (0 < f k)
unfolding over_guests
some_guest h f some = some_term (guests h) f some

-- ---- guest clusters past the L1 table are unmapped

pub past_guests : (h : HeaderFields) (b : Bytes) (g : ℕ) → Sizes h → guests h ≤ g → cover h b g ≡ Uncovered
past_guests h b g sizes past =
    let is : g / entries_per_cluster h * entries_per_cluster h + g % entries_per_cluster h ≡ g = div-add-mod' g (entries_per_cluster h) in
    let rest = mod_below g (entries_per_cluster h) sizes.entries in
    cover_none h b g (ap (λ e. e / 2 ^ 9 % 2 ^ 47 * 512) (l1_entry-past h b (g / entries_per_cluster h) (elim (cases_lt (g / entries_per_cluster h) h.l1_entries) [
      | inl lt ↦
          let far : (g / entries_per_cluster h + 1) * entries_per_cluster h ≤ h.l1_entries * entries_per_cluster h =
          mul-le (g / entries_per_cluster h + 1) (entries_per_cluster h) h.l1_entries (entries_per_cluster h) (omega arith) (omega arith) in
          absurd (omega arith)
      | inr le ↦ le
    ])))

nothing_either : (t : Bool) → cond t 0 0 ≡ (let n : ℕ = 0 in n)
nothing_either true = refl
nothing_either false = refl

pub uncovered_names : (h : HeaderFields) (c : ℕ) → named_by_guest h c Uncovered ≡ 0
uncovered_names h c = nothing_either (has_data_file h)

pub uncovered_marks : (h : HeaderFields) (c : ℕ) → marked_by_guest h c Uncovered ≡ 0
uncovered_marks h c = nothing_either (has_data_file h)

-- if the data are in the image's own file, the mappings of guest clusters refer to and mark what they say
pub own_names : (h : HeaderFields) (c : ℕ) (v : L2Mapping) → has_data_file h ≡ false → named_by_guest h c v ≡ named_by_cover h c v
own_names h c v own = cond-false {A = ℕ} (has_data_file h) 0 (named_by_cover h c v) own

-- a header without incompatible bits
pub own_data_of : (h : HeaderFields) → h.incompatible ≡ 0 → has_data_file h ≡ false
own_data_of h none = ap (λ n. eqb (n / 4 % 2) 1) none

-- what a guest cluster names is part of the sum
pub names_within : (h : HeaderFields) (b : Bytes) (c g : ℕ) → Sizes h → 0 < names h b c g → g < guests h
names_within h b c g sizes some = elim (cases_lt g (guests h)) [
  | inl lt ↦ lt
  | inr past ↦ absurd (let none : names h b c g ≡ 0 = ap (named_by_guest h c) (past_guests h b g sizes past) ∙ uncovered_names h c in omega (arith, some, none))
]

-- ---- marks are names

kept-marks : (h : HeaderFields) (c : ℕ) (k : Option (ℕ × Bool)) → marked_by_kept h c k ≤ named_by_kept h c k
kept-marks h c None = omega arith
kept-marks h c (Some k) = elim (k.1) as (λ t. cond t (in_cluster h c k.0) 0 ≤ in_cluster h c k.0) [ true ↦ omega arith | false ↦ omega arith ]

cover_marks-le : (h : HeaderFields) (c : ℕ) (v : L2Mapping) → marked_by_cover h c v ≤ named_by_cover h c v
cover_marks-le h c (Data host copied) = elim copied as (λ t. cond t (in_cluster h c host) 0 ≤ in_cluster h c host) [ true ↦ omega arith | false ↦ omega arith ]
cover_marks-le h c (Zero kept) = kept-marks h c kept
cover_marks-le h c _ = omega arith

pub marks-le : (h : HeaderFields) (c : ℕ) (v : L2Mapping) → marked_by_guest h c v ≤ named_by_guest h c v
marks-le h c v = elim (has_data_file h) as (λ t. cond t 0 (marked_by_cover h c v) ≤ cond t 0 (named_by_cover h c v)) [ true ↦ omega arith | false ↦ cover_marks-le h c v ]

all_of : (t : Bool) (n : ℕ) → 0 < cond t n 0 → n ≤ cond t n 0
all_of true n some = omega arith
all_of false n some = absurd (omega arith)

kept-all : (h : HeaderFields) (c : ℕ) (k : Option (ℕ × Bool)) → 0 < marked_by_kept h c k → named_by_kept h c k ≤ marked_by_kept h c k
kept-all h c None some = omega arith
kept-all h c (Some k) some = all_of (k.1) (in_cluster h c k.0) some

cover_marks-all : (h : HeaderFields) (c : ℕ) (v : L2Mapping) → 0 < marked_by_cover h c v → named_by_cover h c v ≤ marked_by_cover h c v
cover_marks-all h c (Data host copied) some = all_of copied (in_cluster h c host) some
cover_marks-all h c (Zero kept) some = kept-all h c kept some
cover_marks-all h c _ some = absurd (omega arith)

pub marks-all : (h : HeaderFields) (c : ℕ) (v : L2Mapping) → 0 < marked_by_guest h c v → named_by_guest h c v ≤ marked_by_guest h c v
marks-all h c v = elim (has_data_file h) as (λ t. 0 < cond t 0 (marked_by_cover h c v) → cond t 0 (named_by_cover h c v) ≤ cond t 0 (marked_by_cover h c v)) [ true ↦ λ some. omega arith | false ↦ cover_marks-all h c v ]

pub l1_marks-le : (h : HeaderFields) (b : Bytes) (c : ℕ) → marked_by_l1_table h b c ≤ named_by_l1_table h b c
unfolding marked_by_l1_table named_by_l1_table
l1_marks-le h b c = sum_below-le h.l1_entries _ _ (λ i lt. below (is_copied (l1_entry h b i)) (table_in h c (table_at h b i)))
  where
    below : (t : Bool) (n : ℕ) → cond t n 0 ≤ n
    below true n = omega arith
    below false n = omega arith

-- ---- a cluster is named by tables and by guest clusters

pub named-guests : (h : HeaderFields) (b : Bytes) (c : ℕ) → Sizes h → has_data_file h ≡ false → named_by_l2_tables h b c ≡ over_guests h (names h b c)
unfolding named_by_l2_tables named_by_l2_table over_guests
named-guests h b c sizes own_data =
    sum_below-same h.l1_entries _ _ (λ i lt. row i) ∙ sum_below-rows h.l1_entries (entries_per_cluster h) (names h b c)
  where
    is : (v : L2Mapping) → named_by_guest h c v ≡ named_by_cover h c v
    is v = cond-false {A = ℕ} _ _ _ own_data

    row : (i : ℕ) → cond (eqb (table_at h b i) 0) 0 (sum_below (entries_per_cluster h) (λ j. named_by_cover h c (entry_cover h (l2_entry b (table_at h b i) j))))
        ≡ sum_below (entries_per_cluster h) (λ j. names h b c (i * entries_per_cluster h + j))
    row i = elim (cases_eq (table_at h b i) 0) [
      | inl none ↦
          cond-true {A = ℕ} _ _ _ (eq-eqb (table_at h b i) 0 none)
          ∙ sym (sum_below-zero (entries_per_cluster h) (λ j. names h b c (i * entries_per_cluster h + j)) (λ j lt.
          ap (named_by_guest h c) (cover_none h b (i * entries_per_cluster h + j) (ap (table_at h b) (div-mul-add i (entries_per_cluster h) j lt) ∙ none)) ∙ uncovered_names h c))
      | inr real ↦
          cond-false {A = ℕ} _ _ _ (ne_eqb (table_at h b i) 0 real)
          ∙ sum_below-same (entries_per_cluster h) _ _ (λ j lt. sym (ap (named_by_guest h c) (cover_at h b i j sizes real lt) ∙ is _))
    ]

pub named-is : (h : HeaderFields) (b : Bytes) (c : ℕ) → Sizes h → has_data_file h ≡ false → named h b c ≡ named_for_tables h b c + over_guests h (names h b c)
unfolding named
named-is h b c sizes own_data = let e = named-guests h b c sizes own_data in omega arith
