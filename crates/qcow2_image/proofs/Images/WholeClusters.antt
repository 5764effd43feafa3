-- The whole clusters of a committed mapping, compared with those of the requested range.
use Rattle.std.proofs.Common.{◌+◌, ◌-◌, ◌*◌, ◌/◌, ◌%◌, ◌≡◌, ◌<◌, ◌≤◌, ◌∷◌, ◌==◌, if◌then◌else◌, ℕ, [], inl, inr, sym, ap, ◌∙◌, arith}
use Rattle.qcow2_image.proofs.Common.{cases_lt, cond-true, cond-false, eq-eqb, ne_eqb, div-add-mod', mod_below, rounded_down, rounded_up, Disk, PreparedMapping, end_of, first_of, given_by_commit, GivenBytes, TouchesLess}
use Rattle.qcow2_image.proofs.Prepare.RestOfCluster.{rounds_up}
use Rattle.qcow2_image.proofs.Resize.TailSteps.{mono_up}
use Rattle.qcow2_image.proofs.Images.UngivenCovers.{touches_less, touches_whole}

-- where the whole clusters of a range end, by what a disk shows there
pub whole_end : (size_of_cluster from to : ℕ) → from ≤ to → rounded_down size_of_cluster from + (rounded_up size_of_cluster to - rounded_down size_of_cluster from) ≡ rounded_up size_of_cluster to
whole_end size_of_cluster from to le = elim (cases_lt 0 size_of_cluster) [
  | inl some ↦
      let f : from / size_of_cluster * size_of_cluster + from % size_of_cluster ≡ from = div-add-mod' from size_of_cluster in
      let t : (to + size_of_cluster - 1) / size_of_cluster * size_of_cluster + (to + size_of_cluster - 1) % size_of_cluster ≡ to + size_of_cluster - 1 = div-add-mod' (to + size_of_cluster - 1) size_of_cluster in
      let rest = mod_below (to + size_of_cluster - 1) size_of_cluster some in
      omega (arith, le, f, t, rest, some)
  | inr none ↦
      let zero : size_of_cluster ≡ 0 = omega (arith, none) in
      omega (arith, ap (λ s. from / size_of_cluster * s) zero, ap (λ s. (to + size_of_cluster - 1) / size_of_cluster * s) zero)
]

-- a range that is longer than another one only within its first cluster ends with the same cluster at the latest
pub ends_within : (size_of_cluster offset n long : ℕ) → 0 < size_of_cluster → 0 < n → 0 < long → (n < long → long ≡ size_of_cluster - offset % size_of_cluster) → rounded_up size_of_cluster (offset + long) ≤ rounded_up size_of_cluster (offset + n)
ends_within size_of_cluster offset n long some any all most = elim (cases_lt n long) [
  | inl past ↦
      let is = most past in
      let rest = mod_below offset size_of_cluster some in
      let here = rounds_up size_of_cluster offset n some any (omega (arith, past, is, rest)) in
      let there = rounds_up size_of_cluster offset long some all (omega (arith, is, rest)) in
      omega (arith, here, there)
  | inr le ↦ mono_up size_of_cluster some (offset + long) (offset + n) (omega (arith, le))
]

-- what a commit gives touches no cluster beside those of the range that was asked for
pub commit_touches : (size_of_cluster : ℕ) → 0 < size_of_cluster → (d : Disk) (m : PreparedMapping) (range : GivenBytes) (offset n : ℕ) → m.from ≡ offset → range.from ≡ offset → range.count ≡ n → (n ≡ 0 → m.length ≡ 0) → (n < m.length → m.length ≡ size_of_cluster - offset % size_of_cluster)
    → TouchesLess size_of_cluster (given_by_commit size_of_cluster d m ∷ []) (range ∷ [])
commit_touches size_of_cluster some d m range offset n from_is range_from range_count none most = elim (cases_lt 0 m.length) [
  | inr zero ↦
      let empty : (if m.length == 0 then first_of size_of_cluster m else end_of size_of_cluster m) ≡ first_of size_of_cluster m = cond-true (m.length == 0) (first_of size_of_cluster m) (end_of size_of_cluster m) (eq-eqb m.length 0 (omega (arith, zero))) in
      λ g untouched. (λ touched. let lt = touched.0 in absurd (omega (arith, lt, empty)), tt)
  | inl long ↦
      let whole : (if m.length == 0 then first_of size_of_cluster m else end_of size_of_cluster m) ≡ end_of size_of_cluster m = cond-false (m.length == 0) (first_of size_of_cluster m) (end_of size_of_cluster m) (ne_eqb m.length 0 (λ zero. absurd (omega (arith, zero, long)))) in
      let any : 0 < n = elim (cases_lt 0 n) [ inl lt ↦ lt | inr le ↦ absurd (let zero = none (omega (arith, le)) in omega (arith, zero, long)) ] in
      let begins : first_of size_of_cluster m ≡ rounded_down size_of_cluster offset = ap (rounded_down size_of_cluster) from_is in
      let ends : end_of size_of_cluster m ≡ rounded_up size_of_cluster (offset + m.length) = ap (λ k. rounded_up size_of_cluster (k + m.length)) from_is in
      let last = ends_within size_of_cluster offset n m.length some any long most in
      let all = whole_end size_of_cluster offset (offset + n) (omega arith) in
      let mine = whole_end size_of_cluster m.from (m.from + m.length) (omega arith) in
      let same : offset + n ≡ range.from + range.count = omega (arith, range_from, range_count) in
      λ g untouched. touches_less size_of_cluster (given_by_commit size_of_cluster d m).from (given_by_commit size_of_cluster d m).count (rounded_down size_of_cluster offset) (rounded_up size_of_cluster (offset + n) - rounded_down size_of_cluster offset) (omega (arith, begins))
      (λ there. omega (arith, begins, ends, whole, last, all, mine)) g
      (touches_whole size_of_cluster some (rounded_down size_of_cluster offset) (rounded_up size_of_cluster (offset + n) - rounded_down size_of_cluster offset) range.from range.count (omega (arith, any, range_count)) (ap (rounded_down size_of_cluster) (sym range_from))
      (all ∙ ap (rounded_up size_of_cluster) same) g untouched)
]
