-- Steps of a map of tallies.
use Rattle.std.proofs.Common.{◌≡◌, ◌+◌, ◌*◌, ℕ, arith, sym, ap, ◌∙◌}
use Rattle.qcow2_check.proofs.Common.{TallyMap, Bytes, sum_below, l2_entry, entry_cover, named_by_cover, L2Mapping, HeaderFields, TalliesGrow, marks_of_cover, named_by_entries, marked_by_entries}
use Rattle.qcow2_check.proofs.Sums.{sum_below_none, sum_below_more}

pub grows_none : (m : TallyMap) (f g k : ℕ → ℕ) → ((q : ℕ) → f q ≡ 0) → ((q : ℕ) → g q ≡ 0) → ((q : ℕ) → k q ≡ 0) → TalliesGrow m m f g k
grows_none m f g k f0 g0 k0 = grind arith

pub grows_more : (old mid new : TallyMap) (f1 g1 k1 f2 g2 k2 f g k : ℕ → ℕ) → TalliesGrow old mid f1 g1 k1 → TalliesGrow mid new f2 g2 k2
    → ((q : ℕ) → f q ≡ f1 q + f2 q) → ((q : ℕ) → g q ≡ g1 q + g2 q) → ((q : ℕ) → k q ≡ k1 q + k2 q) → TalliesGrow old new f g k
grows_more old mid new f1 g1 k1 f2 g2 k2 f g k one two fs gs ks = grind arith

-- a sum of terms, so many times
pub times_none : (times : ℕ) (f : ℕ → ℕ) → times * sum_below 0 f ≡ 0
times_none times f = ap (λ v. times * v) (sum_below_none f) ∙ omega arith

pub times_more : (times n : ℕ) (f : ℕ → ℕ) (term : ℕ) → term ≡ f n → times * sum_below (n + 1) f ≡ times * sum_below n f + times * term
times_more times n f term is = ap (λ v. times * v) (sum_below_more n f ∙ ap (λ v. sum_below n f + v) (sym is)) ∙ omega arith

pub l2_table_none : (h : HeaderFields) (b : Bytes) (times : ℕ) (m : TallyMap)
    → TalliesGrow m m (λ q. times * named_by_entries h b 0 0 q) (λ _. 0) (λ q. times * marked_by_entries h b 0 0 q)
l2_table_none h b times m = grows_none m _ _ _ (λ q. times_none times _) (λ q. omega arith) (λ q. times_none times _)

pub l2_table_more : (h : HeaderFields) (b : Bytes) (times j : ℕ) (cover : L2Mapping) (old mid new : TallyMap) → cover ≡ entry_cover h (l2_entry b 0 j)
    → TalliesGrow old mid (λ q. times * named_by_entries h b 0 j q) (λ _. 0) (λ q. times * marked_by_entries h b 0 j q)
    → TalliesGrow mid new (λ q. times * named_by_cover h q cover) (λ _. 0) (λ q. times * marks_of_cover h q cover)
    → TalliesGrow old new (λ q. times * named_by_entries h b 0 (j + 1) q) (λ _. 0) (λ q. times * marked_by_entries h b 0 (j + 1) q)
l2_table_more h b times j cover old mid new is so_far next = grind (arith, times_more)
