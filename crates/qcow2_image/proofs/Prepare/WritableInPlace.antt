-- Where a range may be written in place.
use Rattle.std.proofs.Common.{◌≡◌, ◌+◌, ◌/◌, ◌<◌, ◌≤◌, ℕ, Bool, true, false, refl, sym, ap, ◌∙◌, arith, min}
use Rattle.qcow2_image.proofs.Common.{Bytes, HeaderFields, cluster_size, cover, L2Mapping, Data, Zero, Compressed, Uncovered, IsLongestRun, are_alike, longest_is, run_data, run_less, kind_at, rest_of_table, writable_place, IsPlaceOf, IsWritableAt}

module _ (h : HeaderFields) (known : Bytes) (offset n found : ℕ) (some : 0 < n) (longest : IsLongestRun h known offset (min n (rest_of_table h offset)) found) where
  -- what ends before the range does isn't all in place
  pub short_of : found < n → (place : ℕ) → IsWritableAt h known offset n place → ⊥
  short_of short place writable =
      let limit : min n (rest_of_table h offset) ≡ n = let le = writable.0 in omega arith in
      let le = longest_is h known offset (min n (rest_of_table h offset)) found longest n (omega (arith, limit)) (are_alike h known true offset place n writable.1) in
      omega arith

  -- the first byte says whether it may be written in place
  first_cover : (v : L2Mapping) → cover h known (offset / cluster_size h) ≡ v → (place : ℕ) → IsWritableAt h known offset n place → (host : ℕ) × (v ≡ Data host true)
  first_cover v is place writable =
      let first = writable.1 0 some in
      let none : offset + 0 ≡ offset = omega arith in
      (first.0, sym is ∙ ap (λ o. cover h known (o / cluster_size h)) (sym none) ∙ first.1)

  found_place : (backed : Bool) (v : L2Mapping) → cover h known (offset / cluster_size h) ≡ v → n ≤ found → IsPlaceOf h known offset n (writable_place (kind_at h backed offset v))
  found_place backed (Data host true) is le =
      let within = longest.within in
      (omega (arith, within), run_data h known offset n (run_less h known offset n found le longest.alike) host true is)
  found_place backed (Data host false) is le = λ place writable. let first = first_cover (Data host false) is place writable in absurd cc
  found_place backed (Zero kept) is le = λ place writable. let first = first_cover (Zero kept) is place writable in absurd cc
  found_place backed (Compressed host sectors) is le = λ place writable. let first = first_cover (Compressed host sectors) is place writable in absurd cc
  found_place true Uncovered is le = λ place writable. let first = first_cover Uncovered is place writable in absurd cc
  found_place false Uncovered is le = λ place writable. let first = first_cover Uncovered is place writable in absurd cc

  pub place_found : (backed : Bool) → n ≤ found → IsPlaceOf h known offset n (writable_place (kind_at h backed offset (cover h known (offset / cluster_size h))))
  place_found backed le = found_place backed (cover h known (offset / cluster_size h)) refl le
