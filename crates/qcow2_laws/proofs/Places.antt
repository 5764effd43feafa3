-- Numbers, entries, refcounts and mappings depend only on the bytes of their clusters.
use Rattle.std.proofs.Common.{◌≡◌, ◌+◌, ◌-◌, ◌*◌, ◌/◌, ◌%◌, ◌^◌, ◌<◌, ◌≤◌, ◌≢◌, ℕ, suc, true, false, cond, ltb, eqb, Bool, refl, sym, ap, ◌∙◌, arith, inl, inr}
use Rattle.qcow2_laws.proofs.Common.{ltb-true, eqb-false, cases_lt, cond-true, cond-false, le-ltb, eq-eqb, ne_eqb, div-mul-add, div-add-mod', mod_below, mod-mul-add, pow_pos, pow-add, le-div, pow_mono, Bytes, number_at, SameFrom, HeaderFields, HeaderReads, cluster_size, entries_per_cluster, reftable_entries, count_width, counts_per_block, l1_entry, l2_entry, reftable_entry, block_count, count_under, count, host_offset, block_offset, cover, cover_under, entry_cover, Uncovered, number_at-same, SameIn, table_at}
use Rattle.qcow2_metadata.proofs.TableEntries.{number_at-moved}

-- what sizes of clusters and counts there are
pub record Sizes (h : HeaderFields) : Type 0 where
  pub some : 0 < cluster_size h
  pub large : 512 ≤ cluster_size h
  pub whole : cluster_size h % 8 ≡ 0
  pub entries : 0 < entries_per_cluster h
  pub eights : cluster_size h ≡ 8 * entries_per_cluster h
  pub counts : 0 < counts_per_block h
  pub order : h.refcount_order ≤ 6

-- an image whose header reads has whole sizes
pub Sizes-from : (h : HeaderFields) (b : Bytes) → HeaderReads h b → Sizes h
Sizes-from h b reads =
    let split : h.cluster_bits ≡ h.cluster_bits - 3 + 3 = omega (arith, reads.well_formed.in_range.cluster_bits.0) in
    let size : 2 ^ h.cluster_bits ≡ 2 ^ (h.cluster_bits - 3) * 2 ^ 3 = ap (λ n. 2 ^ n) split ∙ pow-add 2 (h.cluster_bits - 3) 3 in
    let large : 2 ^ 9 ≤ 2 ^ h.cluster_bits = pow_mono reads.well_formed.in_range.cluster_bits.0 in
    let narrow : 2 ^ h.refcount_order ≤ 2 ^ 6 = pow_mono reads.well_formed.in_range.refcount_order in
    record {
      some = omega arith;
      large = omega arith;
      whole = omega arith;
      entries = omega arith;
      eights = omega arith;
      counts = le-div 1 (cluster_size h * 8) (count_width h) (pow_pos h.refcount_order) (omega arith);
      order = reads.well_formed.in_range.refcount_order;
    }

-- ---- places in a cluster

pub div_mono : (x y n : ℕ) → 0 < n → x ≤ y → x / n ≤ y / n
div_mono x y n some le = le-div (x / n) y n some (let is = div-add-mod' x n in omega arith)

pub in_one : (size start k : ℕ) → start % size ≡ 0 → k < size → (start + k) / size ≡ start / size
in_one size start k aligned lt =
    let is : start / size * size + start % size ≡ start = div-add-mod' start size in
    let e : start + k ≡ start / size * size + k = omega arith in
    ap (λ n. n / size) e ∙ div-mul-add (start / size) size k lt

-- a range that begins with a cluster, from bytes that are alike in the cluster
pub SameFrom-in : (size c start : ℕ) (b b' : Bytes) → SameIn size c b b' → start % size ≡ 0 → start / size ≡ c → SameFrom start size b b'
SameFrom-in size c start b b' same aligned here i lt = same (start + i) (in_one size start i aligned lt ∙ here)

pub SameFrom-sym : (start n : ℕ) (b c : Bytes) → SameFrom start n b c → SameFrom start n c b
SameFrom-sym start n b c same i lt = sym (same i lt)

pub SameFrom-part : (start m n k : ℕ) (b c : Bytes) → SameFrom start m b c → k + n ≤ m → SameFrom (start + k) n b c
SameFrom-part start m n k b c same fits i lt =
    let here : start + (k + i) ≡ start + k + i = omega arith in
    ap b (sym here) ∙ same (k + i) (omega arith) ∙ ap c here

eighths : (n size m : ℕ) → size ≡ 8 * m → n % size % 8 ≡ 0 → n % 8 ≡ 0
eighths n size m e aligned =
    let is : n / size * size + n % size ≡ n = div-add-mod' n size in
    let p : n / size * size ≡ 8 * (n / size * m) = ap (λ s. n / size * s) e ∙ omega arith in
    omega arith

parts : (n size m : ℕ) → size ≡ 8 * m → n % 8 ≡ 0 → n % size % 8 ≡ 0
parts n size m e aligned =
    let is : n / size * size + n % size ≡ n = div-add-mod' n size in
    let p : n / size * size ≡ 8 * (n / size * m) = ap (λ s. n / size * s) e ∙ omega arith in
    omega arith

-- all eight bytes of an entry of a table of several clusters lie in one cluster
pub eight_in : (size start i k : ℕ) → size % 8 ≡ 0 → 0 < size → start % size ≡ 0 → k < 8 → (start + 8 * i + k) / size ≡ (start + 8 * i) / size
eight_in size start i k whole some aligned lt =
    let place = start + 8 * i in
    let is : place / size * size + place % size ≡ place = div-add-mod' place size in
    let below : place % size < size = mod_below place size some in
    let eight : size ≡ 8 * (size / 8) = omega arith in
    let start_eighth : start % 8 ≡ 0 = eighths start size (size / 8) eight (omega arith) in
    let eighth : place % size % 8 ≡ 0 = parts place size (size / 8) eight (omega arith) in
    let fits : place % size + k < size = omega arith in
    let e : place + k ≡ place / size * size + (place % size + k) = omega arith in
    ap (λ n. n / size) e ∙ div-mul-add (place / size) size (place % size + k) fits

pub eight-same : (size start i : ℕ) (b b' : Bytes) → size % 8 ≡ 0 → 0 < size → start % size ≡ 0 → SameIn size ((start + 8 * i) / size) b b'
    → number_at b (start + 8 * i) 8 ≡ number_at b' (start + 8 * i) 8
eight-same size start i b b' whole some aligned same =
    number_at-same b b' (start + 8 * i) 8 (λ k lt. same (start + 8 * i + k) (eight_in size start i k whole some aligned lt))

-- ---- entries

-- where the test passes, the two answers agree
pub cond-same : {A : Type 0} (test : Bool) (x y z : A) → (test ≡ true → x ≡ y) → cond test x z ≡ cond test y z
cond-same true x y z h = h refl
cond-same false x y z h = refl

pub cond-same-else : {A : Type 0} (test : Bool) (x y z : A) → (test ≡ false → y ≡ z) → cond test x y ≡ cond test x z
cond-same-else true x y z h = refl
cond-same-else false x y z h = h refl

pub l1-same : (h : HeaderFields) (b b' : Bytes) (i : ℕ) → Sizes h → h.l1_offset % cluster_size h ≡ 0
    → (i < h.l1_entries → SameIn (cluster_size h) ((h.l1_offset + 8 * i) / cluster_size h) b b') → l1_entry h b i ≡ l1_entry h b' i
unfolding l1_entry
l1-same h b b' i sizes aligned same =
    cond-same (ltb i h.l1_entries) _ _ 0 (λ inside. eight-same (cluster_size h) h.l1_offset i b b' sizes.whole sizes.some aligned (same (ltb-true i h.l1_entries inside)))

pub reftable-same : (h : HeaderFields) (b b' : Bytes) (k : ℕ) → Sizes h → h.reftable_offset % cluster_size h ≡ 0
    → (k < reftable_entries h → SameIn (cluster_size h) ((h.reftable_offset + 8 * k) / cluster_size h) b b') → reftable_entry h b k ≡ reftable_entry h b' k
unfolding reftable_entry
reftable-same h b b' k sizes aligned same =
    cond-same (ltb k (reftable_entries h)) _ _ 0 (λ inside. eight-same (cluster_size h) h.reftable_offset k b b' sizes.whole sizes.some aligned (same (ltb-true k (reftable_entries h) inside)))

pub l2_entry-same : (b c : Bytes) (table n j : ℕ) → SameFrom table n b c → 8 * j + 8 ≤ n → l2_entry b table j ≡ l2_entry c table j
unfolding l2_entry
l2_entry-same b c table n j same fits = number_at-same b c (table + 8 * j) 8 (SameFrom-part table n 8 (8 * j) b c same fits)

-- past a table there is no entry
pub l1_entry-past : (h : HeaderFields) (b : Bytes) (i : ℕ) → h.l1_entries ≤ i → l1_entry h b i ≡ 0
unfolding l1_entry
l1_entry-past h b i past = cond-false _ _ _ (le-ltb i h.l1_entries past)

pub reftable_entry-past : (h : HeaderFields) (b : Bytes) (k : ℕ) → reftable_entries h ≤ k → reftable_entry h b k ≡ 0
unfolding reftable_entry
reftable_entry-past h b k past = cond-false _ _ _ (le-ltb k (reftable_entries h) past)

-- the entry of an existing table lies within its table
pub has_table : (h : HeaderFields) (b : Bytes) (i : ℕ) → table_at h b i ≢ 0 → i < h.l1_entries
has_table h b i real = elim (cases_lt i h.l1_entries) [ inl lt ↦ lt | inr past ↦ absurd (real (ap host_offset (l1_entry-past h b i past))) ]

pub has_block : (h : HeaderFields) (b : Bytes) (k : ℕ) → block_offset (reftable_entry h b k) ≢ 0 → k < reftable_entries h
has_block h b k real = elim (cases_lt k (reftable_entries h)) [ inl lt ↦ lt | inr past ↦ absurd (real (ap block_offset (reftable_entry-past h b k past))) ]

-- ---- counts

-- the bytes of a block that a count lies in are within n
abbrev CountWithin : ℕ → ℕ → ℕ → Type 0
CountWithin width i n = (i * width / 8 < n) × (i * (width / 8) + width / 8 ≤ n)

-- a refcount is the same wherever its refblock lies
block_count-within : (b c : Bytes) (width p q i n : ℕ) → CountWithin width i n → ((k : ℕ) → k < n → b (p + k) ≡ c (q + k)) → block_count b width p i ≡ block_count c width q i
unfolding block_count
block_count-within b c width p q i n within same =
    let narrow : b (p + i * width / 8) ≡ c (q + i * width / 8) = same (i * width / 8) within.0 in
    let wide : number_at b (p + i * (width / 8)) (width / 8) ≡ number_at c (q + i * (width / 8)) (width / 8) =
    number_at-moved b c (p + i * (width / 8)) (q + i * (width / 8)) (width / 8) (λ k lt.
    let at_p : p + i * (width / 8) + k ≡ p + (i * (width / 8) + k) = omega arith in
    let at_q : q + i * (width / 8) + k ≡ q + (i * (width / 8) + k) = omega arith in
    ap b at_p ∙ same (i * (width / 8) + k) (omega (arith, within.1)) ∙ sym (ap c at_q)) in
    cc

-- every count of a cluster is within it
count_within : (order i size : ℕ) → order ≤ 6 → size % 8 ≡ 0 → i < size * 8 / 2 ^ order → CountWithin (2 ^ order) i size
count_within (suc (suc (suc (suc (suc (suc (suc order))))))) i size le whole lt = absurd (omega arith)
count_within _ i size le whole lt = omega arith

-- a refblock's refcount, wherever its bytes lie
pub block_count-moved : (h : HeaderFields) (b c : Bytes) (p q i : ℕ) → Sizes h → i < counts_per_block h → ((k : ℕ) → k < cluster_size h → b (p + k) ≡ c (q + k))
    → block_count b (count_width h) p i ≡ block_count c (count_width h) q i
block_count-moved h b c p q i sizes lt same =
    block_count-within b c (count_width h) p q i (cluster_size h) (count_within h.refcount_order i (cluster_size h) sizes.order sizes.whole lt) same

-- a count lies in its entry of the reftable and in its refblock
pub count-same : (h : HeaderFields) (b c : Bytes) (cluster : ℕ) → Sizes h
    → reftable_entry h b (cluster / counts_per_block h) ≡ reftable_entry h c (cluster / counts_per_block h)
    → (block_offset (reftable_entry h b (cluster / counts_per_block h)) ≢ 0
    → SameFrom (block_offset (reftable_entry h b (cluster / counts_per_block h))) (cluster_size h) b c)
    → count h b cluster ≡ count h c cluster
unfolding count count_under
count-same h b c cluster sizes entry same =
    let place = block_offset (reftable_entry h b (cluster / counts_per_block h)) in
    cond-same-else (eqb (block_offset (reftable_entry h b (cluster / counts_per_block h))) 0) 0 _ _ (λ other.
    block_count-moved h b c place place (cluster % counts_per_block h) sizes (mod_below cluster (counts_per_block h) sizes.counts) (same (eqb-false place 0 other)))
    ∙ ap (λ e. count_under h c e cluster) entry

pub count_in : (h : HeaderFields) (b : Bytes) (c : ℕ) → block_offset (reftable_entry h b (c / counts_per_block h)) ≢ 0
    → count h b c ≡ block_count b (count_width h) (block_offset (reftable_entry h b (c / counts_per_block h))) (c % counts_per_block h)
unfolding count count_under
count_in h b c real = cond-false _ _ _ (ne_eqb (block_offset (reftable_entry h b (c / counts_per_block h))) 0 real)

pub count_none : (h : HeaderFields) (b : Bytes) (c : ℕ) → block_offset (reftable_entry h b (c / counts_per_block h)) ≡ 0 → count h b c ≡ 0
unfolding count count_under
count_none h b c none = cond-true _ _ _ (eq-eqb (block_offset (reftable_entry h b (c / counts_per_block h))) 0 none)

-- ---- covers

-- the cover of a guest cluster lies in its L1 entry and its L2 table
pub cover-same : (h : HeaderFields) (b c : Bytes) (guest : ℕ) → Sizes h
    → l1_entry h b (guest / entries_per_cluster h) ≡ l1_entry h c (guest / entries_per_cluster h)
    → (table_at h b (guest / entries_per_cluster h) ≢ 0 → SameFrom (table_at h b (guest / entries_per_cluster h)) (cluster_size h) b c)
    → cover h b guest ≡ cover h c guest
unfolding cover cover_under
cover-same h b c guest sizes entry same =
    let i = guest / entries_per_cluster h in
    cond-same-else (eqb (table_at h b (guest / entries_per_cluster h)) 0) Uncovered _ _ (λ other.
    ap (entry_cover h) (l2_entry-same b c (table_at h b i) (cluster_size h) (guest % entries_per_cluster h) (same (eqb-false (table_at h b i) 0 other))
    (let within : guest % entries_per_cluster h < entries_per_cluster h = mod_below guest (entries_per_cluster h) sizes.entries in omega (arith, sizes.eights))))
    ∙ ap (λ e. cover_under h c e guest) entry

pub cover_none : (h : HeaderFields) (b : Bytes) (g : ℕ) → table_at h b (g / entries_per_cluster h) ≡ 0 → cover h b g ≡ Uncovered
unfolding cover cover_under
cover_none h b g none = cond-true _ _ _ (eq-eqb (table_at h b (g / entries_per_cluster h)) 0 none)

pub cover_in : (h : HeaderFields) (b : Bytes) (g : ℕ) → table_at h b (g / entries_per_cluster h) ≢ 0
    → cover h b g ≡ entry_cover h (l2_entry b (table_at h b (g / entries_per_cluster h)) (g % entries_per_cluster h))
unfolding cover cover_under
cover_in h b g real = cond-false _ _ _ (ne_eqb (table_at h b (g / entries_per_cluster h)) 0 real)

-- entry j of the table of L1 entry i
pub cover_at : (h : HeaderFields) (b : Bytes) (i j : ℕ) → Sizes h → table_at h b i ≢ 0 → j < entries_per_cluster h
    → cover h b (i * entries_per_cluster h + j) ≡ entry_cover h (l2_entry b (table_at h b i) j)
cover_at h b i j sizes real lt =
    let row : (i * entries_per_cluster h + j) / entries_per_cluster h ≡ i = div-mul-add i (entries_per_cluster h) j lt in
    let column : (i * entries_per_cluster h + j) % entries_per_cluster h ≡ j = mod-mul-add i (entries_per_cluster h) j lt in
    cover_in h b (i * entries_per_cluster h + j) (λ none. real (ap (table_at h b) (sym row) ∙ none))
    ∙ ap (λ n. entry_cover h (l2_entry b (table_at h b n) ((i * entries_per_cluster h + j) % entries_per_cluster h))) row
    ∙ ap (λ n. entry_cover h (l2_entry b (table_at h b i) n)) column
