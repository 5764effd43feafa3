-- The refblocks of a room are written to its clusters one after another, and entered in a longer reftable.
use Rattle.std.proofs.Common.{◌≡◌, ◌≢◌, ◌⊎◌, ◌+◌, ◌-◌, ◌*◌, ◌/◌, ◌%◌, ◌^◌, ◌<◌, ◌≤◌, ◌==◌, inl, inr, ℕ, true, false, refl, sym, ap, ◌∙◌, subst, arith}
use Rattle.qcow2_alloc.proofs.Common.{cases_Bool, cases_eq, cases_lt, eq-eqb, ne_eqb, cond-true, div-add-mod', div-mul-add, mod_below, pow_pos, mul-le-mul_left, Bytes, sum_below, HeaderFields, cluster_size, counts_per_block, count_width, block_offset, block_count, EntryTableView, entry_count, RefBlockView, IsRefBlock, count_at, ref_block_at, IsSameOutside, Sizes, block_count-moved, in_one, table_in, entry_at, ChangesEntry, IsAligned, one_at, sum_below-change, run_at, HasBytesAt, HasNone, IsBlockOf, named_by_reftable_entries, lacks, opens, CountsRun}
use Rattle.qcow2_alloc.proofs.KeptTables.Getting.{cluster_aligned}
use Rattle.qcow2_alloc.proofs.KeptTables.Standing.{own_cluster}
use Rattle.qcow2_alloc.proofs.NamedBlocks.{table_in-one}
use Rattle.qcow2_alloc.proofs.Runs.{run_in, run_before, run_after, run_last}

-- So many refblocks lie from first on, one for each range that has none and that the clusters from first to before this one enter.
pub record EntersSo (h : HeaderFields) (old t0 t : EntryTableView) (first placed cluster : ℕ) : Type 0 where
  pub keeps : (k : ℕ) → block_offset (entry_at old.bytes k) ≢ 0 → entry_at t.bytes k ≡ entry_at old.bytes k
  pub aligned : (k : ℕ) → IsAligned h (block_offset (entry_at t.bytes k))
  pub in_room : (k : ℕ) → HasNone old k → block_offset (entry_at t.bytes k) ≢ 0 → 0 < run_at first placed (block_offset (entry_at t.bytes k) / cluster_size h)
  pub named : (c : ℕ) → named_by_reftable_entries h t c ≡ named_by_reftable_entries h t0 c + run_at first placed c
  pub covered : (c : ℕ) → first ≤ c → c < cluster → block_offset (entry_at t.bytes (c / counts_per_block h)) ≢ 0
  pub untouched : (k : ℕ) → ((c : ℕ) → first ≤ c → c < cluster → c / counts_per_block h ≢ k) → entry_at t.bytes k ≡ entry_at t0.bytes k

-- the tests of ranges
lacks_none : (t : EntryTableView) (k : ℕ) → lacks t k ≡ true → HasNone t k
lacks_none t k is = elim (cases_eq (block_offset (entry_at t.bytes k)) 0) [ inl none ↦ none | inr real ↦ absurd (let no = ne_eqb (block_offset (entry_at t.bytes k)) 0 real in let bad : true ≡ false = sym is ∙ no in cc) ]

pub has_some : (t : EntryTableView) (k : ℕ) → lacks t k ≡ false → block_offset (entry_at t.bytes k) ≢ 0
has_some t k is none = let yes_so = eq-eqb (block_offset (entry_at t.bytes k)) 0 none in let bad : false ≡ true = sym is ∙ yes_so in cc

-- an earlier cluster of the run lies in an earlier range than one that begins its range
earlier : (per c c' : ℕ) → c % per ≡ 0 → c' < c → c' / per ≢ c / per
earlier per c c' begins before same =
    let a = div-add-mod' c per in
    let b = div-add-mod' c' per in
    let e : c' / per * per ≡ c / per * per = ap (λ n. n * per) same in
    omega (arith, a, b, e, begins, before)

-- the one before lies in the same range as one that doesn't
before_in : (per c : ℕ) → 0 < per → c % per ≢ 0 → (c - 1) / per ≡ c / per
before_in per c some inside =
    let a = div-add-mod' c per in
    let below = mod_below c per some in
    let e : c - 1 ≡ c / per * per + (c % per - 1) = omega (arith, a, inside) in
    ap (λ n. n / per) e ∙ div-mul-add (c / per) per (c % per - 1) (omega (arith, below))

pub opens_range : (t : EntryTableView) (per first c : ℕ) → opens t per first c ≡ true → ((c ≡ first) ⊎ (c % per ≡ 0)) × HasNone t (c / per)
opens_range t per first c is = elim (cases_Bool (c == first)) [
  | inl here ↦ (inl (same_of c first here), lacks_none t (c / per) (rw here at is))
  | inr other ↦ elim (cases_Bool (c % per == 0)) [
    | inl begins ↦ (inr (same_of (c % per) 0 begins), lacks_none t (c / per) (rw (other, begins) at is))
    | inr not ↦ absurd (let bad = rw (other, not) at is in cc)
  ]
]
  where
    same_of : (a b : ℕ) → (a == b) ≡ true → a ≡ b
    same_of a b is = elim (cases_eq a b) [ inl e ↦ e | inr ne ↦ absurd (let no = ne_eqb a b ne in let bad : true ≡ false = sym is ∙ no in cc) ]

shut_range : (t : EntryTableView) (per first c : ℕ) → opens t per first c ≡ false → ((c ≢ first) × (c % per ≢ 0)) ⊎ (block_offset (entry_at t.bytes (c / per)) ≢ 0)
shut_range t per first c is = elim (cases_Bool (lacks t (c / per))) [
  | inr has ↦ inr (has_some t (c / per) has)
  | inl none ↦ elim (cases_eq c first) [
    | inl here ↦ absurd (let e = eq-eqb c first here in let bad = rw (e, none) at is in cc)
    | inr other ↦ elim (cases_eq (c % per) 0) [
      | inl begins ↦ absurd (let e = ne_eqb c first other in let f = eq-eqb (c % per) 0 begins in let bad = rw (e, f, none) at is in cc)
      | inr inside ↦ inl (other, inside)
    ]
  ]
]

module _ (h : HeaderFields) (old t0 t : EntryTableView) (first placed cluster : ℕ) (from : first ≤ cluster) (some : 0 < counts_per_block h) (before : EntersSo h old t0 t first placed cluster) where
  abbrev per : ℕ
  per = counts_per_block h

  -- a cluster of a range that has a refblock already, or had one
  pub enters_none : opens old (counts_per_block h) first cluster ≡ false → EntersSo h old t0 t first placed (cluster + 1)
  enters_none shut = record {
    keeps = before.keeps;
    aligned = before.aligned;
    in_room = before.in_room;
    named = before.named;
    covered = λ c low high. elim (cases_lt c cluster) [
      | inl early ↦ before.covered c low early
      | inr late ↦
          let is : c ≡ cluster = omega (arith, late, high) in
          subst (λ n. block_offset (entry_at t.bytes (n / counts_per_block h)) ≢ 0) (sym is) (elim (shut_range old per first cluster shut) [
            | inl inside ↦
                subst (λ k. block_offset (entry_at t.bytes k) ≢ 0) (before_in per cluster some inside.1)
                (before.covered (cluster - 1) (let other = inside.0 in omega (arith, other, from)) (let other = inside.0 in omega (arith, other, from)))
            | inr real ↦ λ none. real (sym (ap block_offset (before.keeps (cluster / per) real)) ∙ none)
          ])
    ];
    untouched = λ k away. before.untouched k (λ c low high. away c low (omega (arith, high)));
  }

  -- a refblock is entered for its range
  module _ (t' : EntryTableView) (first_some : 0 < first) (entries : (k : ℕ) → entry_at t0.bytes k ≡ entry_at old.bytes k) (open_here : opens old (counts_per_block h) first cluster ≡ true)
      (within : cluster / counts_per_block h < entry_count t) (enters : ChangesEntry t.bytes t'.bytes (cluster / counts_per_block h) ((first + placed) * cluster_size h))
      (offset : block_offset (entry_at t'.bytes (cluster / counts_per_block h)) ≡ (first + placed) * cluster_size h) where
    abbrev range : ℕ
    range = cluster / counts_per_block h

    none_old : HasNone old range
    none_old = (opens_range old per first cluster open_here).1

    away : (c : ℕ) → first ≤ c → c < cluster → c / per ≢ range
    away c low high = elim (opens_range old per first cluster open_here).0 [
      | inl here ↦ absurd (omega (arith, here, low, high))
      | inr begins ↦ earlier per cluster c begins high
    ]

    none_now : block_offset (entry_at t.bytes range) ≡ 0
    none_now = ap block_offset (before.untouched range away ∙ entries range) ∙ none_old

    in_it : block_offset (entry_at t'.bytes range) / cluster_size h ≡ first + placed
    in_it = ap (λ n. n / cluster_size h) offset ∙ own_cluster h.cluster_bits (first + placed)

    real : block_offset (entry_at t'.bytes range) ≢ 0
    real none =
        let size : 0 < cluster_size h = pow_pos h.cluster_bits in
        let product : (first + placed) * 1 ≤ (first + placed) * cluster_size h = mul-le-mul_left (first + placed) size in
        omega (arith, none, offset, product, first_some)

    same_else : (k : ℕ) → k ≢ range → entry_at t'.bytes k ≡ entry_at t.bytes k
    same_else = enters.others

    count_same : entry_count t' ≡ entry_count t
    count_same = ap (λ n. n / 8) enters.as_long

    named_here : (c : ℕ) → table_in h c (block_offset (entry_at t'.bytes range)) ≡ one_at (first + placed) c
    named_here c = table_in-one h c (block_offset (entry_at t'.bytes range)) (first + placed) real in_it

    named_none : (c : ℕ) → table_in h c (block_offset (entry_at t.bytes range)) ≡ 0
    named_none c = cond-true {A = ℕ} (block_offset (entry_at t.bytes range) == 0) 0 _ (eq-eqb _ 0 none_now)

    named_more : (c : ℕ) → named_by_reftable_entries h t' c ≡ named_by_reftable_entries h t c + one_at (first + placed) c
    named_more c =
        let f : ℕ → ℕ = λ k. table_in h c (block_offset (entry_at t'.bytes k)) in
        let g : ℕ → ℕ = λ k. table_in h c (block_offset (entry_at t.bytes k)) in
        let longer : named_by_reftable_entries h t' c ≡ sum_below (entry_count t) f = ap (λ n. sum_below n f) count_same in
        let change = sum_below-change (entry_count t) f g range within (λ k lt other. ap (λ e. table_in h c (block_offset e)) (same_else k other)) in
        let here = named_here c in
        let none = named_none c in
        omega (arith, longer, change, here, none)

    pub enters_more : EntersSo h old t0 t' first (placed + 1) (cluster + 1)
    enters_more = record {
      keeps = λ k some_old. same_else k (λ e. some_old (ap (λ n. block_offset (entry_at old.bytes n)) e ∙ none_old)) ∙ before.keeps k some_old;
      aligned = λ k. elim (cases_eq k range) [
        | inl here ↦ subst (λ n. IsAligned h (block_offset (entry_at t'.bytes n))) (sym here) (ap (λ n. n % cluster_size h) offset ∙ cluster_aligned (first + placed) h.cluster_bits)
        | inr other ↦ subst (λ e. IsAligned h (block_offset e)) (sym (same_else k other)) (before.aligned k)
      ];
      in_room = λ k none some_now. elim (cases_eq k range) [
        | inl here ↦
            let at : block_offset (entry_at t'.bytes k) / cluster_size h ≡ first + placed = ap (λ n. block_offset (entry_at t'.bytes n) / cluster_size h) here ∙ in_it in
            let one = run_in first (placed + 1) (block_offset (entry_at t'.bytes k) / cluster_size h) (omega (arith, at)) (omega (arith, at)) in
            omega (arith, one)
        | inr other ↦
            let e = same_else k other in
            let was = before.in_room k none (λ zero. some_now (ap block_offset e ∙ zero)) in
            let last = run_last first placed (block_offset (entry_at t'.bytes k) / cluster_size h) in
            let same = ap (λ x. run_at first placed (block_offset x / cluster_size h)) e in
            omega (arith, was, last, same)
      ];
      named = λ c. let more = named_more c in let was = before.named c in let last = run_last first placed c in omega (arith, more, was, last);
      covered = λ c low high. elim (cases_eq (c / per) range) [
        | inl here ↦ subst (λ n. block_offset (entry_at t'.bytes n) ≢ 0) (sym here) real
        | inr other ↦ elim (cases_lt c cluster) [
          | inl early ↦ λ none. before.covered c low early (ap block_offset (sym (same_else (c / per) other)) ∙ none)
          | inr late ↦ absurd (other (ap (λ n. n / per) (let e : c ≡ cluster = omega (arith, late, high) in e)))
        ]
      ];
      untouched = λ k apart. same_else k (λ e. apart cluster from (omega arith) (sym e)) ∙ before.untouched k (λ c low high. apart c low (omega (arith, high)));
    }

-- before any cluster
pub enters_first : (h : HeaderFields) (old t : EntryTableView) (first : ℕ) → ((k : ℕ) → entry_at t.bytes k ≡ entry_at old.bytes k) → ((k : ℕ) → IsAligned h (block_offset (entry_at old.bytes k))) → EntersSo h old t t first 0 first
enters_first h old t first entries aligned = record {
  keeps = λ k _. entries k;
  aligned = λ k. subst (λ e. IsAligned h (block_offset e)) (sym (entries k)) (aligned k);
  in_room = λ k none some. absurd (some (ap block_offset (entries k) ∙ none));
  named = λ c. let none = run_empty first c in omega (arith, none);
  covered = λ c low high. absurd (omega (arith, low, high));
  untouched = λ k _. refl;
}
  where
    run_empty : (first c : ℕ) → run_at first 0 c ≡ 0
    run_empty first c = elim (cases_lt c first) [ inl below ↦ run_before first 0 c below | inr above ↦ run_after first 0 c (omega (arith, above)) ]

-- ---- the counts of the refblocks that stand there
abbrev pub Counting : HeaderFields → Bytes → EntryTableView → EntryTableView → ℕ → ℕ → Type 0
Counting h b old t first n =
    (c : ℕ) → HasNone old (c / counts_per_block h) → block_offset (entry_at t.bytes (c / counts_per_block h)) ≢ 0
    → block_count b (count_width h) (block_offset (entry_at t.bytes (c / counts_per_block h))) (c % counts_per_block h) ≡ run_at first n c

module _ (h : HeaderFields) (sizes : Sizes h) (b b' : Bytes) (old t0 t t' : EntryTableView) (first placed cluster n range : ℕ) (enters : EntersSo h old t0 t first placed cluster) (before : Counting h b old t first n)
    (outside : IsSameOutside (cluster_size h) (first + placed) b b') (others : (k : ℕ) → k ≢ range → entry_at t'.bytes k ≡ entry_at t.bytes k)
    (offset : block_offset (entry_at t'.bytes range) ≡ (first + placed) * cluster_size h) (block : RefBlockView) (whole : IsRefBlock block) (format : IsBlockOf h block)
    (counts : CountsRun h block (range * counts_per_block h) first n) (stands : HasBytesAt b' ((first + placed) * cluster_size h) block.bytes) where
  -- the one that is written now
  count_here : (c : ℕ) → c / counts_per_block h ≡ range → block_count b' (count_width h) (block_offset (entry_at t'.bytes (c / counts_per_block h))) (c % counts_per_block h) ≡ run_at first n c
  count_here c here =
      let lt : c % counts_per_block h < counts_per_block h = mod_below c (counts_per_block h) sizes.counts in
      let per_is : counts_per_block h ≡ 2 ^ block.cluster_bits * 8 / 2 ^ block.refcount_order = sym (ap (λ n. 2 ^ n * 8 / 2 ^ block.refcount_order) format.bits ∙ ap (λ n. 2 ^ h.cluster_bits * 8 / 2 ^ n) format.order) in
      let stands_count = ref_block_at b' ((first + placed) * cluster_size h) block whole stands (c % counts_per_block h) (subst (λ n. c % counts_per_block h < n) per_is lt) in
      let stands_width = subst (λ n. count_at block (c % counts_per_block h) ≡ block_count b' (2 ^ n) ((first + placed) * cluster_size h) (c % counts_per_block h)) format.order stands_count in
      let whole_c : range * counts_per_block h + c % counts_per_block h ≡ c = let e = div-add-mod' c (counts_per_block h) in ap (λ k. k * counts_per_block h + c % counts_per_block h) (sym here) ∙ e in
      ap (λ k. block_count b' (count_width h) (block_offset (entry_at t'.bytes k)) (c % counts_per_block h)) here ∙ ap (λ place. block_count b' (count_width h) place (c % counts_per_block h)) offset
      ∙ sym stands_width ∙ counts (c % counts_per_block h) lt ∙ ap (run_at first n) whole_c

  -- the others stand in other clusters
  pub counting_more : Counting h b' old t' first n
  counting_more c none some = elim (cases_eq (c / counts_per_block h) range) [
    | inl here ↦ count_here c here
    | inr other ↦
        let e = others (c / counts_per_block h) other in
        let real : block_offset (entry_at t.bytes (c / counts_per_block h)) ≢ 0 = λ zero. some (ap block_offset e ∙ zero) in
        let place : ℕ = block_offset (entry_at t.bytes (c / counts_per_block h)) in
        let within = enters.in_room (c / counts_per_block h) none real in
        let lt = mod_below c (counts_per_block h) sizes.counts in
        ap (λ x. block_count b' (count_width h) (block_offset x) (c % counts_per_block h)) e
        ∙ sym (block_count-moved h b b' place place (c % counts_per_block h) sizes lt (λ k k_lt. outside (place + k) (λ in_it.
        let same : (place + k) / cluster_size h ≡ place / cluster_size h = in_one (cluster_size h) place k (enters.aligned (c / counts_per_block h)) k_lt in
        let past = run_after first placed (place / cluster_size h) (let e : place / cluster_size h ≡ first + placed = sym same ∙ in_it in omega (arith, e)) in
        absurd (omega (arith, past, within)))))
        ∙ before c none real
  ]

-- none before any cluster
pub counting_first : (h : HeaderFields) (b : Bytes) (old t : EntryTableView) (first n : ℕ) → ((k : ℕ) → entry_at t.bytes k ≡ entry_at old.bytes k) → Counting h b old t first n
counting_first h b old t first n entries c none some = absurd (some (ap block_offset (entries (c / counts_per_block h)) ∙ none))
