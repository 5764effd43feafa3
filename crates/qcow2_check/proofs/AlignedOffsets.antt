-- There is no unaligned offset exactly if each offset is aligned.
use Rattle.std.proofs.Common.{arith, ◌≡◌, ◌≢◌, ◌%◌, ◌<◌, ℕ, Some, refl, ap, inl, inr}
use Rattle.qcow2_check.proofs.Common.{not, cases_eq, eq-eqb, eqb_tells, sum_below, HeaderFields, cluster_size, IsAligned, host_of, CoverIsAligned, L2Mapping, Data, Zero, off_cluster, off_cluster_if, and_from}
use Rattle.qcow2_check.proofs.Terms.{from_some_term, some-sum, one_if-some}

module _ (h : HeaderFields) where
  aligned_place : (place : ℕ) → ((o : ℕ) → off_cluster h o place ≢ 0 → ⊥) → IsAligned h place
  aligned_place place never = elim (eqb_tells (place % cluster_size h) 0) [
    | inl on ↦ on.1
    | inr off ↦ absurd (never place (one_if-some _ (and_from _ _ (eq-eqb place place refl) (ap not off.0))))
  ]

  never_off : (o place : ℕ) → IsAligned h place → off_cluster h o place ≢ 0 → ⊥
  never_off o place on some = grind arith

  -- ---- of the entries of a table

  pub each_aligned : (n : ℕ) (place : ℕ → ℕ) → ((o : ℕ) → sum_below n (λ i. off_cluster h o (place i)) ≡ 0) → (i : ℕ) → i < n → IsAligned h (place i)
  each_aligned n place none i lt = aligned_place (place i) (λ o some. some-sum n (λ i. off_cluster h o (place i)) i lt some (none o))

  pub none_off : (n : ℕ) (place : ℕ → ℕ) → ((i : ℕ) → i < n → IsAligned h (place i)) → (o : ℕ) → sum_below n (λ i. off_cluster h o (place i)) ≡ 0
  none_off n place on o = elim (cases_eq (sum_below n (λ i. off_cluster h o (place i))) 0) [
    | inl none ↦ none
    | inr some ↦ absurd (from_some_term n (λ i. off_cluster h o (place i)) (λ i lt off. never_off o (place i) (on i lt) off) some)
  ]

  -- ---- of an L2 entry

  pub aligned_cover : (cover : L2Mapping) → ((o : ℕ) → off_cluster_if h o (host_of cover) ≢ 0 → ⊥) → CoverIsAligned h cover
  aligned_cover (Data host copied) never = aligned_place host never
  aligned_cover (Zero (Some k)) never = aligned_place k.0 never
  aligned_cover _ never = tt

  pub cover_never_off : (cover : L2Mapping) → CoverIsAligned h cover → (o : ℕ) → off_cluster_if h o (host_of cover) ≢ 0 → ⊥
  cover_never_off (Data host copied) on o some = never_off o host on some
  cover_never_off (Zero (Some k)) on o some = never_off o k.0 on some
  cover_never_off _ on o some = some refl
