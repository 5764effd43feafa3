-- The guest clusters of a tail after it is discarded: they are unmapped. Adjacent ranges are one range.
use Rattle.std.proofs.Common.{◌≡◌, ◌⊎◌, ◌-◌, ◌*◌, ◌<◌, ◌≤◌, inl, inr, ℕ, true, false, sym, ap, ◌∙◌, arith, nat_le, nat_lt}
use Rattle.qcow2_image.proofs.Common.{and_from, and_left, and_right, cases_lt, cond-true, cond-false, le-leb, le-ltb, lt-leb, lt-ltb, Bytes, cover, HeaderFields, cluster_size, ClearsImageCovers, is_between, CoversStay}
use Rattle.qcow2_metadata.specs.declared.l2_mapping.L2Mapping.TheVariants as M
use Rattle.qcow2_image.specs.declared.discarding.ClearMode.TheVariants.{Uncovered}

module _ (from to : ℕ) (h h' : HeaderFields) (known known' : Bytes) where
  -- a cluster of the range, and any other one
  inside : (g : ℕ) → from ≤ g * cluster_size h → g * cluster_size h < to → is_between h from to g ≡ true
  inside g low high = and_from (nat_le from (g * cluster_size h)) (nat_lt (g * cluster_size h) to) (le-leb from (g * cluster_size h) low) (lt-ltb (g * cluster_size h) to high)

  outside : (g : ℕ) → (g * cluster_size h < from) ⊎ (to ≤ g * cluster_size h) → is_between h from to g ≡ false
  outside g (inl before) = and_left (nat_le from (g * cluster_size h)) (nat_lt (g * cluster_size h) to) (lt-leb from (g * cluster_size h) before)
  outside g (inr past) = and_right (nat_le from (g * cluster_size h)) (nat_lt (g * cluster_size h) to) (le-ltb (g * cluster_size h) to past)

  -- the mapping of each of them
  none_stands : ClearsImageCovers Uncovered from to h known h' known' → (g : ℕ) → from ≤ g * cluster_size h → g * cluster_size h < to → cover h' known' g ≡ M.Uncovered
  none_stands covers g low high = covers g ∙ cond-true (is_between h from to g) M.Uncovered (cover h known g) (inside g low high)

  others_stay : ClearsImageCovers Uncovered from to h known h' known' → (g : ℕ) → (g * cluster_size h < from) ⊎ (to ≤ g * cluster_size h) → cover h' known' g ≡ cover h known g
  others_stay covers g out = covers g ∙ cond-false (is_between h from to g) M.Uncovered (cover h known g) (outside g out)

  -- both together say it of all clusters
  both : ((g : ℕ) → from ≤ g * cluster_size h → g * cluster_size h < to → cover h' known' g ≡ M.Uncovered) → ((g : ℕ) → (g * cluster_size h < from) ⊎ (to ≤ g * cluster_size h) → cover h' known' g ≡ cover h known g)
      → ClearsImageCovers Uncovered from to h known h' known'
  both none stay g = elim (cases_lt (g * cluster_size h) from) [
    | inl before ↦ stay g (inl before) ∙ sym (cond-false (is_between h from to g) M.Uncovered (cover h known g) (outside g (inl before)))
    | inr low ↦ elim (cases_lt (g * cluster_size h) to) [
      | inl high ↦ none g low high ∙ sym (cond-true (is_between h from to g) M.Uncovered (cover h known g) (inside g low high))
      | inr past ↦ stay g (inr past) ∙ sym (cond-false (is_between h from to g) M.Uncovered (cover h known g) (outside g (inr past)))
    ]
  ]

  -- no cluster is unmapped where none lies between
  pub uncovers_no_cluster : to ≤ from → CoversStay h known h' known' → ClearsImageCovers Uncovered from to h known h' known'
  uncovers_no_cluster none same = both (λ g low high. absurd (omega (arith, none, low, high))) (λ g out. sym (same g))

-- another range of as many clusters from there on is the same
pub uncovers_as_many : (from end to : ℕ) (h h' : HeaderFields) (known known' : Bytes) → end - from ≡ to - from → ClearsImageCovers Uncovered from end h known h' known' → ClearsImageCovers Uncovered from to h known h' known'
uncovers_as_many from end to h h' known known' many covers =
    both from to h h' known known' (λ g low high. none_stands from end h h' known known' covers g low (omega (arith, many, low, high)))
    (λ g out. others_stay from end h h' known known' covers g (elim (cases_lt (g * cluster_size h) from) [
      | inl before ↦ inl before
      | inr low ↦ inr (elim out [ inl before ↦ absurd (omega (arith, before, low)) | inr past ↦ omega (arith, many, low, past) ])
    ]))

-- two adjacent ranges are one
pub uncovers_more : (from mid to : ℕ) (h h' h'' : HeaderFields) (known known' known'' : Bytes) → from ≤ mid → mid ≤ to → cluster_size h' ≡ cluster_size h
    → ClearsImageCovers Uncovered from mid h known h' known' → ClearsImageCovers Uncovered mid to h' known' h'' known'' → ClearsImageCovers Uncovered from to h known h'' known''
uncovers_more from mid to h h' h'' known known' known'' le on same first second =
    both from to h h'' known known''
    (λ g low high.
    let at : g * cluster_size h' ≡ g * cluster_size h = ap (λ n. g * n) same in
    elim (cases_lt (g * cluster_size h) mid) [
      | inl before ↦ others_stay mid to h' h'' known' known'' second g (inl (omega (arith, at, before))) ∙ none_stands from mid h h' known known' first g low before
      | inr past ↦ none_stands mid to h' h'' known' known'' second g (omega (arith, at, past)) (omega (arith, at, high))
    ])
    (λ g out.
    let at : g * cluster_size h' ≡ g * cluster_size h = ap (λ n. g * n) same in
    elim out [
      | inl before ↦ others_stay mid to h' h'' known' known'' second g (inl (omega (arith, at, before, le))) ∙ others_stay from mid h h' known known' first g (inl before)
      | inr past ↦ others_stay mid to h' h'' known' known'' second g (inr (omega (arith, at, past))) ∙ others_stay from mid h h' known known' first g (inr (omega (arith, past, on)))
    ])
