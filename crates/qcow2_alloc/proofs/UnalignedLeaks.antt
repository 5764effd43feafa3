-- Clusters that leave the list and are leaked, since their refblock is not aligned.
use Rattle.std.proofs.Common.{◌≡◌, ◌+◌, ◌-◌, ◌/◌, ◌%◌, ◌^◌, ◌<◌, ◌≤◌, ◌==◌, if◌then◌else◌, ◌∷◌, ◌++◌, ℕ, zero, suc, nat_lt, not, min, inl, inr, Bool, true, false, List, [], refl, sym, ap, ◌∙◌, subst, arith}
use Rattle.qcow2_alloc.proofs.Common.{and_parts, cases_lt, cases_eq, nat_tests, block_offset, EntryTableView, entry_count, cluster_size, counts_per_block, entry_at, HeaderFields, IsUnaligned, run_at, run_of, is_unaligned, unaligned_below, LeaksOne, LeaksUnaligned, listed_at, Allocator, ClustersToFreeEntry}
use Rattle.qcow2_alloc.proofs.Runs.{run_after, run_before, run_in, run_none}

-- what the test tells
told_unaligned : (h : HeaderFields) (t : EntryTableView) (range : ℕ) → is_unaligned h t range ≡ true → IsUnaligned h t range
told_unaligned h t range is =
    let parts = and_parts (nat_lt range (entry_count t)) (not (block_offset (entry_at t.bytes range) % cluster_size h == 0)) is in
    record { within = below range (entry_count t) parts.0; off = no_zero (block_offset (entry_at t.bytes range) % cluster_size h) parts.1 }
  where
    below : (a b : ℕ) → nat_lt a b ≡ true → a < b
    below a b so = grind (arith, nat_tests)

    no_zero : (n : ℕ) → not (n == 0) ≡ true → n ≡ 0 → ⊥
    no_zero n so none = let is : (n == 0) ≡ true = ap (λ k. k == 0) none in let bad : false ≡ true = ap not (sym is) ∙ so in cc

-- a list behind another one
pub listed_both : (l m : List ClustersToFreeEntry) (k : ℕ) → listed_at (l ++ m) k ≡ listed_at l k + listed_at m k
listed_both [] m k = let none : listed_at [] k ≡ 0 = refl in omega (arith, none)
listed_both (e ∷ es) m k = let rest = listed_both es m k in omega (arith, rest)

-- what is counted where the test holds
abbrev if_so : Bool → ℕ → ℕ
if_so test n = if test then n else 0

module _ (h : HeaderFields) (t : EntryTableView) where
  so_more : (test : Bool) (a b n : ℕ) → n ≡ a + b → if_so test n ≡ if_so test a + if_so test b
  so_more true a b n is = is
  so_more false a b n is = refl

  so_less : (test : Bool) (a b : ℕ) → a ≤ b → if_so test a ≤ if_so test b
  so_less true a b le = le
  so_less false a b le = omega arith

  so_zero : (test : Bool) (n : ℕ) → n ≡ 0 → if_so test n ≡ 0
  so_zero true n none = none
  so_zero false n none = refl

  pub below_both : (l m : List ClustersToFreeEntry) (n : ℕ) → unaligned_below h t (l ++ m) n ≡ unaligned_below h t l n + unaligned_below h t m n
  below_both l m zero = refl
  below_both l m (suc n) =
      let rest = below_both l m n in
      let here = so_more (is_unaligned h t (n / counts_per_block h)) (listed_at l n) (listed_at m n) (listed_at (l ++ m) n) (listed_both l m n) in
      omega (arith, rest, here)

  -- a run of none
  below_none : (run : ClustersToFreeEntry) (n : ℕ) → run.count ≡ 0 → unaligned_below h t (run ∷ []) n ≡ 0
  below_none run zero none = refl
  below_none run (suc n) none =
      let rest = below_none run n none in
      let empty : run_of run n ≡ 0 = ap (λ x. run_at run.first_cluster x n) none ∙ run_none run.first_cluster n in
      let here = so_zero (is_unaligned h t (n / counts_per_block h)) (run_of run n + 0) (omega (arith, empty)) in
      omega (arith, rest, here)

  -- a run whose first cluster is taken off
  module _ (run next : ClustersToFreeEntry) (some : 0 < run.count) (first : run.first_cluster + 1 < 2 ^ 64 → next.first_cluster ≡ run.first_cluster + 1) (count : next.count ≡ run.count - 1) where
    abbrev mark : ℕ
    mark = if_so (is_unaligned h t (run.first_cluster / counts_per_block h)) 1

    -- no cluster of it lies lower
    before_first : (n : ℕ) → n ≤ run.first_cluster → unaligned_below h t (run ∷ []) n ≡ 0
    before_first zero low = refl
    before_first (suc n) low =
        let rest = before_first n (omega (arith, low)) in
        let none : run_of run n ≡ 0 = run_before run.first_cluster run.count n (omega (arith, low)) in
        let here = so_zero (is_unaligned h t (n / counts_per_block h)) (run_of run n + 0) (omega (arith, none)) in
        omega (arith, rest, here)

    behind : (n : ℕ) → run.first_cluster < n → n < 2 ^ 64 → run_of run n ≤ run_of next n
    behind n past small =
        let begins = first (omega (arith, past, small)) in
        elim (cases_lt n (run.first_cluster + run.count)) [
          | inl within ↦
              let there = run_in next.first_cluster next.count n (omega (arith, begins, past)) (omega (arith, begins, count, within, some)) in
              let here = run_in run.first_cluster run.count n (omega (arith, past)) within in
              omega (arith, there, here)
          | inr over ↦ let none = run_after run.first_cluster run.count n over in omega (arith, none)
        ]

    pub first_off : (n : ℕ) → n ≤ 2 ^ 64 → unaligned_below h t (run ∷ []) n ≤ unaligned_below h t (next ∷ []) n + mark
    first_off zero small = omega arith
    first_off (suc n) small =
        let rest = first_off n (omega (arith, small)) in
        elim (cases_lt run.first_cluster n) [
          | inl past ↦
              let le = behind n past (omega (arith, small)) in
              let here = so_less (is_unaligned h t (n / counts_per_block h)) (run_of run n + 0) (run_of next n + 0) (omega (arith, le)) in
              omega (arith, rest, here)
          | inr up ↦
              let none = before_first n up in
              elim (cases_eq n run.first_cluster) [
                | inl same ↦
                    let one : run_of run n ≡ 1 = run_in run.first_cluster run.count n (omega (arith, same)) (omega (arith, same, some)) in
                    let is : if_so (is_unaligned h t (n / counts_per_block h)) (run_of run n + 0) ≡ mark = ap (λ x. if_so (is_unaligned h t (n / counts_per_block h)) (x + 0)) one ∙ ap (λ x. if_so (is_unaligned h t (x / counts_per_block h)) 1) same in
                    omega (arith, none, is)
                | inr other ↦
                    let zero_there : run_of run n ≡ 0 = run_before run.first_cluster run.count n (omega (arith, up, other)) in
                    let here = so_zero (is_unaligned h t (n / counts_per_block h)) (run_of run n + 0) (omega (arith, zero_there)) in
                    omega (arith, rest, here)
              ]
        ]

    -- its first cluster is counted once less, or is leaked
    pub leaks_first : (a b : Allocator) → a.leaked_clusters ≤ b.leaked_clusters → (IsUnaligned h t (run.first_cluster / counts_per_block h) → LeaksOne a b) → LeaksUnaligned h t a b (run ∷ []) (next ∷ [])
    leaks_first a b grows leaks = λ n small. let off = first_off n small in at (is_unaligned h t (run.first_cluster / counts_per_block h)) (λ so. leaks (told_unaligned h t (run.first_cluster / counts_per_block h) so)) (unaligned_below h t (run ∷ []) n) (unaligned_below h t (next ∷ []) n) off
      where
        at : (test : Bool) → (test ≡ true → LeaksOne a b) → (u v : ℕ) → u ≤ v + if_so test 1 → min (a.leaked_clusters + u) (2 ^ 64 - 1) ≤ b.leaked_clusters + v
        at true leaks u v off = let one = leaks refl in omega (arith, one, off)
        at false leaks u v off = omega (arith, grows, off)

  -- ---- one step after another
  pub leaks_none : (a b : Allocator) (l : List ClustersToFreeEntry) → a.leaked_clusters ≤ b.leaked_clusters → LeaksUnaligned h t a b l l
  leaks_none a b l grows = λ n small. omega (arith, grows)

  pub leaks_then : (a b c : Allocator) (l m r : List ClustersToFreeEntry) → LeaksUnaligned h t a b l m → LeaksUnaligned h t b c m r → LeaksUnaligned h t a c l r
  leaks_then a b c l m r one two = λ n small. let x = one n small in let y = two n small in omega (arith, x, y)

  -- beside other entries
  pub leaks_behind : (a b : Allocator) (p l m : List ClustersToFreeEntry) → LeaksUnaligned h t a b l m → LeaksUnaligned h t a b (p ++ l) (p ++ m)
  leaks_behind a b p l m one = λ n small. let x = one n small in let u = below_both p l n in let v = below_both p m n in omega (arith, x, u, v)

  pub leaks_before : (a b : Allocator) (l m r : List ClustersToFreeEntry) → LeaksUnaligned h t a b l m → LeaksUnaligned h t a b (l ++ r) (m ++ r)
  leaks_before a b l m r one = λ n small. let x = one n small in let u = below_both l r n in let v = below_both m r n in omega (arith, x, u, v)

  -- a run that is worked off
  pub leaks_done : (a b : Allocator) (p l : List ClustersToFreeEntry) (run : ClustersToFreeEntry) → run.count ≡ 0 → LeaksUnaligned h t a b l (p ++ run ∷ []) → LeaksUnaligned h t a b l p
  leaks_done a b p l run none one = λ n small. let x = one n small in let u = below_both p (run ∷ []) n in let v = below_none run n none in omega (arith, x, u, v)

-- of equal headers, reftables and lists
pub leaks_as : (h h' : HeaderFields) (t t' : EntryTableView) (a b : Allocator) (l l' m m' : List ClustersToFreeEntry) → h' ≡ h → t' ≡ t → l' ≡ l → m' ≡ m → LeaksUnaligned h' t' a b l' m' → LeaksUnaligned h t a b l m
leaks_as h h' t t' a b l l' m m' same_header same_table same_old same_new leaks =
    subst (λ (x : HeaderFields). LeaksUnaligned x t a b l m) same_header
    (subst (λ (x : EntryTableView). LeaksUnaligned h' x a b l m) same_table
    (subst (λ x. LeaksUnaligned h' t' a b x m) same_old (subst (λ x. LeaksUnaligned h' t' a b l' x) same_new leaks)))
