-- The lines of a report, put together.
use Rattle.std.proofs.Common.{arith, ◌≡◌, ◌++◌, ℕ, List, [], ap, ◌∙◌, append_assoc}
use Rattle.qcow2_check.proofs.Common.{byte_at, HeaderFields, Tally, Leak, Breach, header_lines, unaligned_lines, times, off_l2_tables, off_refblocks, data_off_below, ArePassed, tally, cluster_lines, leak_lines_of, breach_lines, leak_lines}

-- all lines under a header of a file
whole : HeaderFields → List ℕ → List Breach
whole h b =
    header_lines h ++ (unaligned_lines h (times (off_l2_tables h (byte_at b))) (times (off_refblocks h (byte_at b))) (times (data_off_below h (byte_at b) h.l1_entries)) ++ cluster_lines (tally h (byte_at b)))

module _ (h k : HeaderFields) (old new : List ℕ) (t l2_tables refblocks data' : ℕ → Tally) (are : ArePassed h (byte_at new) t l2_tables refblocks data') (same : new ≡ old) (is : h ≡ k) where
  pub all_breaches : (start mid placed items : List Breach) → start ≡ [] → mid ≡ start ++ header_lines h → placed ≡ mid ++ unaligned_lines h l2_tables refblocks data'
      → items ≡ placed ++ cluster_lines t → items ≡ breach_lines k (byte_at old)
  unfolding breach_lines whole
  all_breaches start mid placed items none head off rest =
      rest ∙ ap (λ m. m ++ cluster_lines t) (off ∙ ap (λ m. m ++ unaligned_lines h l2_tables refblocks data') (head ∙ ap (λ s. s ++ header_lines h) none))
      ∙ append_assoc (header_lines h) (unaligned_lines h l2_tables refblocks data') (cluster_lines t)
      ∙ ap (λ u. header_lines h ++ (unaligned_lines h l2_tables refblocks data' ++ cluster_lines u)) are.clusters_are
      ∙ ap (λ u. header_lines h ++ (unaligned_lines h u refblocks data' ++ cluster_lines (tally h (byte_at new)))) are.l2_tables_are
      ∙ ap (λ u. header_lines h ++ (unaligned_lines h (times (off_l2_tables h (byte_at new))) u data' ++ cluster_lines (tally h (byte_at new)))) are.refblocks_are
      ∙ ap (λ u. header_lines h ++ (unaligned_lines h (times (off_l2_tables h (byte_at new))) (times (off_refblocks h (byte_at new))) u ++ cluster_lines (tally h (byte_at new)))) are.data_are
      ∙ ap (whole h) same
      ∙ ap (λ f. whole f old) is

  pub all_leaks : (items : List Leak) → items ≡ leak_lines_of t → items ≡ leak_lines k (byte_at old)
  unfolding leak_lines
  all_leaks items rest = grind arith
