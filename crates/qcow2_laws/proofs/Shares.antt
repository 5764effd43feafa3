-- What a cluster holds: the header, a part of the L1 table or of the reftable, a refblock or an L2 table. Changes of other bytes don't affect it.
use Rattle.std.proofs.Common.{◌≡◌, ◌+◌, ◌-◌, ◌*◌, ◌/◌, ◌%◌, ◌<◌, ◌≤◌, ◌≢◌, ◌&&◌, ℕ, Bool, true, false, ltb, leb, refl, sym, ap, ◌∙◌, arith, subst}
use Rattle.qcow2_laws.proofs.Common.{cond-true, le-leb, lt-ltb, and_from, div-add-mod', div-mul-add, mod_below, le-div, Bytes, SameFrom, one_if, HeaderFields, cluster_size, entries_per_cluster, reftable_entries, counts_per_block, l1_entry, reftable_entry, count, block_offset, cover, in_cluster, in_run, table_in, named_by_header, named_by_reftable, named_by_l1_table, named_for_tables, table_at, IsTop, SameTop, SameCovers, SameCounts, SameIn, IsSameOutside}
use Rattle.qcow2_laws.proofs.Sums.{term_le-sum_below, two_terms_le-sum_below}
use Rattle.qcow2_laws.proofs.Places.{Sizes, Sizes-from, div_mono, SameFrom-in, l1-same, reftable-same, has_table, has_block, count-same, cover-same}
use Rattle.qcow2_laws.proofs.Consistency.{in_own, table_in_own}

abbrev pub in_l1 : HeaderFields → ℕ → ℕ
in_l1 h c = in_run h c h.l1_offset (8 * h.l1_entries)

abbrev pub in_reftable : HeaderFields → ℕ → ℕ
in_reftable h c = in_run h c h.reftable_offset (h.reftable_clusters * cluster_size h)

pub shares : (h : HeaderFields) (b : Bytes) (c : ℕ) → named_for_tables h b c ≡ in_cluster h c 0 + in_l1 h c + in_reftable h c + named_by_reftable h b c + named_by_l1_table h b c
unfolding named_for_tables named_by_header
shares h b c = omega arith

pub one_or_none : (t : Bool) → one_if t ≤ 1
one_or_none true = omega arith
one_or_none false = omega arith

pub in_run-le : (h : HeaderFields) (c place n : ℕ) → in_run h c place n ≤ 1
in_run-le h c place n = one_or_none (leb (place / cluster_size h) c && ltb c (place / cluster_size h + (n + cluster_size h - 1) / cluster_size h))

-- ---- each has a part in its own cluster

-- a byte of a run lies in one of its clusters
pub run_has : (h : HeaderFields) (place n k : ℕ) → 0 < cluster_size h → place % cluster_size h ≡ 0 → k < n → in_run h ((place + k) / cluster_size h) place n ≡ 1
run_has h place n k some aligned lt =
    let cs = cluster_size h in
    let from = div_mono place (place + k) (cluster_size h) some (omega arith) in
    let is : place / cluster_size h * cluster_size h + place % cluster_size h ≡ place = div-add-mod' place (cluster_size h) in
    let k-is : k / cluster_size h * cluster_size h + k % cluster_size h ≡ k = div-add-mod' k (cluster_size h) in
    let rest : k % cluster_size h < cluster_size h = mod_below k (cluster_size h) some in
    let e : place + k ≡ (place / cluster_size h + k / cluster_size h) * cluster_size h + k % cluster_size h = omega arith in
    let at : (place + k) / cluster_size h ≡ place / cluster_size h + k / cluster_size h = ap (λ m. m / cluster_size h) e ∙ div-mul-add (place / cluster_size h + k / cluster_size h) (cluster_size h) (k % cluster_size h) rest in
    let up : k / cluster_size h + 1 ≤ (n + cluster_size h - 1) / cluster_size h = le-div (k / cluster_size h + 1) (n + cluster_size h - 1) (cluster_size h) some (omega arith) in
    cond-true {A = ℕ} _ 1 0 (and_from _ _ (le-leb (place / cluster_size h) ((place + k) / cluster_size h) from)
    (lt-ltb ((place + k) / cluster_size h) (place / cluster_size h + (n + cluster_size h - 1) / cluster_size h) (omega arith)))

pub l1_has : (h : HeaderFields) (i : ℕ) → Sizes h → h.l1_offset % cluster_size h ≡ 0 → i < h.l1_entries → in_l1 h ((h.l1_offset + 8 * i) / cluster_size h) ≡ 1
l1_has h i sizes aligned lt = run_has h h.l1_offset (8 * h.l1_entries) (8 * i) sizes.some aligned (omega arith)

pub reftable_has : (h : HeaderFields) (k : ℕ) → Sizes h → h.reftable_offset % cluster_size h ≡ 0 → k < reftable_entries h → in_reftable h ((h.reftable_offset + 8 * k) / cluster_size h) ≡ 1
reftable_has h k sizes aligned lt =
    let all : h.reftable_clusters * cluster_size h ≡ h.reftable_clusters * (8 * entries_per_cluster h) = ap (λ x. h.reftable_clusters * x) sizes.eights in
    run_has h h.reftable_offset (h.reftable_clusters * cluster_size h) (8 * k) sizes.some aligned (omega arith)

pub table_has : (h : HeaderFields) (b : Bytes) (i : ℕ) → table_at h b i ≢ 0 → 1 ≤ named_by_l1_table h b (table_at h b i / cluster_size h)
unfolding named_by_l1_table
table_has h b i real =
    let term = term_le-sum_below h.l1_entries (λ k. table_in h (table_at h b i / cluster_size h) (table_at h b k)) i (has_table h b i real) in
    let one = table_in_own h (table_at h b i) real in
    omega arith

pub block_has : (h : HeaderFields) (b : Bytes) (k : ℕ) → block_offset (reftable_entry h b k) ≢ 0 → 1 ≤ named_by_reftable h b (block_offset (reftable_entry h b k) / cluster_size h)
unfolding named_by_reftable
block_has h b k real =
    let term = term_le-sum_below (reftable_entries h) (λ j. table_in h (block_offset (reftable_entry h b k) / cluster_size h) (block_offset (reftable_entry h b j))) k (has_block h b k real) in
    let one = table_in_own h (block_offset (reftable_entry h b k)) real in
    omega arith

-- two tables of one cluster have a part each
pub two_tables : (h : HeaderFields) (b : Bytes) (c i j : ℕ) → i ≢ j → table_at h b i ≢ 0 → table_at h b j ≢ 0 → table_at h b i / cluster_size h ≡ c → table_at h b j / cluster_size h ≡ c
    → 2 ≤ named_by_l1_table h b c
unfolding named_by_l1_table
two_tables h b c i j other real_i real_j in_i in_j =
    let both = two_terms_le-sum_below h.l1_entries (λ k. table_in h c (table_at h b k)) i j (has_table h b i real_i) (has_table h b j real_j) other in
    let one_i : table_in h c (table_at h b i) ≡ 1 = ap (λ n. table_in h n (table_at h b i)) (sym in_i) ∙ table_in_own h (table_at h b i) real_i in
    let one_j : table_in h c (table_at h b j) ≡ 1 = ap (λ n. table_in h n (table_at h b j)) (sym in_j) ∙ table_in_own h (table_at h b j) real_j in
    omega arith

pub two_blocks : (h : HeaderFields) (b : Bytes) (c i j : ℕ) → i ≢ j → block_offset (reftable_entry h b i) ≢ 0 → block_offset (reftable_entry h b j) ≢ 0
    → block_offset (reftable_entry h b i) / cluster_size h ≡ c → block_offset (reftable_entry h b j) / cluster_size h ≡ c → 2 ≤ named_by_reftable h b c
unfolding named_by_reftable
two_blocks h b c i j other real_i real_j in_i in_j =
    let both = two_terms_le-sum_below (reftable_entries h) (λ k. table_in h c (block_offset (reftable_entry h b k))) i j (has_block h b i real_i) (has_block h b j real_j) other in
    let one_i : table_in h c (block_offset (reftable_entry h b i)) ≡ 1 = ap (λ n. table_in h n (block_offset (reftable_entry h b i))) (sym in_i) ∙ table_in_own h (block_offset (reftable_entry h b i)) real_i in
    let one_j : table_in h c (block_offset (reftable_entry h b j)) ≡ 1 = ap (λ n. table_in h n (block_offset (reftable_entry h b j))) (sym in_j) ∙ table_in_own h (block_offset (reftable_entry h b j)) real_j in
    omega arith

-- ---- what stays where bytes stay
module _ (h : HeaderFields) (b b' : Bytes) (top : IsTop h b) where
  sizes : Sizes h
  sizes = Sizes-from h b top.header_reads

  pub first_stays : ((c : ℕ) → 0 < in_cluster h c 0 → SameIn (cluster_size h) c b b') → SameFrom 0 (cluster_size h) b b'
  first_stays same =
      let aligned : 0 % cluster_size h ≡ 0 = let s = sizes.some in omega arith in
      SameFrom-in (cluster_size h) _ 0 b b' (same (0 / cluster_size h) (let one = in_own h 0 in omega arith)) aligned refl

  pub l1_stays : ((c : ℕ) → 0 < in_l1 h c → SameIn (cluster_size h) c b b') → (i : ℕ) → l1_entry h b i ≡ l1_entry h b' i
  l1_stays same i = l1-same h b b' i sizes top.l1_aligned (λ lt. same _ (let one = l1_has h i sizes top.l1_aligned lt in omega arith))

  pub reftable_stays : ((c : ℕ) → 0 < in_reftable h c → SameIn (cluster_size h) c b b') → (k : ℕ) → reftable_entry h b k ≡ reftable_entry h b' k
  reftable_stays same k = reftable-same h b b' k sizes top.reftable_aligned (λ lt. same _ (let one = reftable_has h k sizes top.reftable_aligned lt in omega arith))

  pub cover_stays : (g : ℕ) → l1_entry h b (g / entries_per_cluster h) ≡ l1_entry h b' (g / entries_per_cluster h)
      → (table_at h b (g / entries_per_cluster h) ≢ 0 → SameIn (cluster_size h) (table_at h b (g / entries_per_cluster h) / cluster_size h) b b') → cover h b g ≡ cover h b' g
  cover_stays g l1 same =
      cover-same h b b' g sizes l1 (λ real. SameFrom-in (cluster_size h) _ _ b b' (same real) (top.l2_tables_aligned (g / entries_per_cluster h) (has_table h b _ real)) refl)

  pub count_stays : (c : ℕ) → reftable_entry h b (c / counts_per_block h) ≡ reftable_entry h b' (c / counts_per_block h)
      → (block_offset (reftable_entry h b (c / counts_per_block h)) ≢ 0 → SameIn (cluster_size h) (block_offset (reftable_entry h b (c / counts_per_block h)) / cluster_size h) b b') → count h b c ≡ count h b' c
  count_stays c entry same =
      count-same h b b' c sizes entry (λ real. SameFrom-in (cluster_size h) _ _ b b' (same real) (top.refblocks_aligned (c / counts_per_block h) (has_block h b _ real)) refl)

  -- the clusters that tables lie in stay
  module _ (same : (c : ℕ) → 0 < named_for_tables h b c → SameIn (cluster_size h) c b b') where
    pub top_stays : SameTop h b b'
    top_stays = record {
      first_cluster = first_stays (λ c some. same c (let s = shares h b c in omega arith));
      l1 = l1_stays (λ c some. same c (let s = shares h b c in omega arith));
      reftable = reftable_stays (λ c some. same c (let s = shares h b c in omega arith));
    }

    pub covers_stay : SameCovers h b b'
    covers_stay g = cover_stays g (top_stays.l1 _) (λ real. same _ (let s = shares h b (table_at h b (g / entries_per_cluster h) / cluster_size h) in let one = table_has h b _ real in omega arith))

    pub counts_stay : SameCounts h b b'
    counts_stay c = count_stays c (top_stays.reftable _) (λ real. same _ (let s = shares h b (block_offset (reftable_entry h b (c / counts_per_block h)) / cluster_size h) in let one = block_has h b _ real in omega arith))

  -- one cluster, in which a table lies, may change: what has no part in it stays
  module _ (c0 : ℕ) (once : named_for_tables h b c0 ≤ 1) (outside : IsSameOutside (cluster_size h) c0 b b') where
    elsewhere : (part : ℕ → ℕ) → part c0 < named_for_tables h b c0 → (c : ℕ) → 0 < part c → SameIn (cluster_size h) c b b'
    elsewhere part other c some o in_c = outside o (λ e. let here = subst (λ n. 0 < part n) (sym in_c ∙ e) some in omega arith)

    pub first_beside : in_cluster h c0 0 < named_for_tables h b c0 → SameFrom 0 (cluster_size h) b b'
    first_beside other = first_stays (elsewhere (λ c. in_cluster h c 0) other)

    pub l1_beside : in_l1 h c0 < named_for_tables h b c0 → (i : ℕ) → l1_entry h b i ≡ l1_entry h b' i
    l1_beside other = l1_stays (elsewhere (in_l1 h) other)

    pub reftable_beside : in_reftable h c0 < named_for_tables h b c0 → (k : ℕ) → reftable_entry h b k ≡ reftable_entry h b' k
    reftable_beside other = reftable_stays (elsewhere (in_reftable h) other)

    pub cover_beside : named_by_l1_table h b c0 < named_for_tables h b c0 → (g : ℕ) → l1_entry h b (g / entries_per_cluster h) ≡ l1_entry h b' (g / entries_per_cluster h) → cover h b g ≡ cover h b' g
    cover_beside other g entry = cover_stays g entry (λ real. elsewhere (named_by_l1_table h b) other _ (let one = table_has h b _ real in omega arith))

    pub count_beside : named_by_reftable h b c0 < named_for_tables h b c0 → (c : ℕ) → reftable_entry h b (c / counts_per_block h) ≡ reftable_entry h b' (c / counts_per_block h) → count h b c ≡ count h b' c
    count_beside other c entry = count_stays c entry (λ real. elsewhere (named_by_reftable h b) other _ (let one = block_has h b _ real in omega arith))

    -- an L2 table or a refblock lies in it
    pub top_beside : in_cluster h c0 0 + in_l1 h c0 + in_reftable h c0 < named_for_tables h b c0 → SameTop h b b'
    top_beside other = record { first_cluster = first_beside (omega arith); l1 = l1_beside (omega arith); reftable = reftable_beside (omega arith) }

    pub table_others : (i0 : ℕ) → table_at h b i0 ≢ 0 → table_at h b i0 / cluster_size h ≡ c0 → SameTop h b b' → (g : ℕ) → g / entries_per_cluster h ≢ i0 → cover h b g ≡ cover h b' g
    table_others i0 real here top g other = cover_stays g (top.l1 _) (λ real_g o in_c. outside o (λ e.
        let two = two_tables h b c0 (g / entries_per_cluster h) i0 other real_g real (sym in_c ∙ e) here in
        let s = shares h b c0 in
        omega arith))

    pub block_others : (k0 : ℕ) → block_offset (reftable_entry h b k0) ≢ 0 → block_offset (reftable_entry h b k0) / cluster_size h ≡ c0 → SameTop h b b' → (c : ℕ) → c / counts_per_block h ≢ k0 → count h b c ≡ count h b' c
    block_others k0 real here top c other = count_stays c (top.reftable _) (λ real_c o in_c. outside o (λ e.
        let two = two_blocks h b c0 (c / counts_per_block h) k0 other real_c real (sym in_c ∙ e) here in
        let s = shares h b c0 in
        omega arith))

  -- a part of the L1 table lies in it
  pub l1_reftable : (c0 : ℕ) → 1 ≤ in_l1 h c0 → named_for_tables h b c0 ≤ 1 → ((c : ℕ) → c ≢ c0 → SameIn (cluster_size h) c b b') → (k : ℕ) → reftable_entry h b k ≡ reftable_entry h b' k
  l1_reftable c0 part once same = reftable_beside c0 once (λ o other. same (o / cluster_size h) other o refl) (let s = shares h b c0 in omega arith)
