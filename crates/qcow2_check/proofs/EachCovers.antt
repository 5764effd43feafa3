-- Properties of every L2 entry, as sums of terms.
use Rattle.std.proofs.Common.{arith, ◌≢◌, ◌<◌, ℕ, cond, eqb, sym, ◌∙◌}
use Rattle.qcow2_check.proofs.Common.{cond-false, ne_eqb, Bytes, sum_below, HeaderFields, entries_per_cluster, l1_entry, l2_entry, host_offset, entry_cover, EachCover, L2Mapping}
use Rattle.qcow2_check.proofs.Terms.{from_some_term, some-sum}

-- a term under an L1 entry with a table
pub term_under : (place term : ℕ) {P : Type 0} → (place ≢ 0 → term ≢ 0 → P) → cond (eqb place 0) 0 term ≢ 0 → P
term_under place term follows some = grind arith

pub some-under : (place term : ℕ) → place ≢ 0 → term ≢ 0 → cond (eqb place 0) 0 term ≢ 0
some-under place term table some none = some (sym (cond-false _ _ _ (ne_eqb place 0 table)) ∙ none)

module _ (h : HeaderFields) (b : Bytes) (P : L2Mapping → Type 0) (term : ℕ → L2Mapping → ℕ) (Q : ℕ → Type 0) where
  -- the terms of the L2 table under L1 entry i
  abbrev pub table_terms : ℕ → ℕ → ℕ
  table_terms q i = sum_below (entries_per_cluster h) (λ j. term q (entry_cover h (l2_entry b (host_offset (l1_entry h b i)) j)))

  pub each_cover : ((cover : L2Mapping) → ((q : ℕ) → term q cover ≢ 0 → Q q) → P cover)
      → ((q i : ℕ) → i < h.l1_entries → host_offset (l1_entry h b i) ≢ 0 → table_terms q i ≢ 0 → Q q) → EachCover h b P
  each_cover holds follows i j lt table below =
      holds _ (λ q some. follows q i lt table
      (some-sum (entries_per_cluster h) (λ j. term q (entry_cover h (l2_entry b (host_offset (l1_entry h b i)) j))) j below some))

  pub from_table_terms : ((cover : L2Mapping) → P cover → (q : ℕ) → term q cover ≢ 0 → Q q) → EachCover h b P
      → (q i : ℕ) → i < h.l1_entries → host_offset (l1_entry h b i) ≢ 0 → table_terms q i ≢ 0 → Q q
  from_table_terms holds each q i lt table some =
      from_some_term (entries_per_cluster h) (λ j. term q (entry_cover h (l2_entry b (host_offset (l1_entry h b i)) j)))
      (λ j below term. holds _ (each i j lt table below) q term) some
