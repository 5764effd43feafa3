-- The mappings of guest clusters that a call gives no byte of.
use Rattle.std.proofs.Common.{◌+◌, ◌-◌, ◌*◌, ◌/◌, ◌%◌, ◌≡◌, ◌<◌, ◌≤◌, ℕ, List, [], inl, inr, sym, ap, ◌∙◌, arith}
use Rattle.qcow2_image.proofs.Common.{cases_lt, div-add-mod', mod_below, StorageView, cover, cluster_size, rounded_down, rounded_up, HeaderFields, GivenBytes, IsUngiven, UngivenStay, Pending, StateInvariant, known_header, known_in, state_in, ImageFile, CoversStay}
use Rattle.qcow2_disk.specs.UngivenCovers.{Touches}

module _ {S : Type 0} (view : S → StorageView) (old new : ImageFile S) (p p' : Pending) (sound : StateInvariant (state_in view old p)) (sound' : StateInvariant (state_in view new p')) where
  -- by the headers in memory, and so by those that the known bytes hold
  pub ungiven_stay : (given : List GivenBytes) → ((g : ℕ) → IsUngiven (cluster_size old.header.fields) given g → cover old.header.fields (known_in view old) g ≡ cover new.header.fields (known_in view new) g)
      → UngivenStay (cluster_size old.header.fields) given (known_in view old) (known_in view new)
  ungiven_stay given covers g untouched =
      ap (λ (h : HeaderFields). cover h (known_in view old) g) (known_header (state_in view old p) sound) ∙ covers g untouched ∙ ap (λ (h : HeaderFields). cover h (known_in view new) g) (sym (known_header (state_in view new p') sound'))

  -- the same, if all of them have the same mapping
  pub all_stay : (given : List GivenBytes) → CoversStay old.header.fields (known_in view old) new.header.fields (known_in view new) → UngivenStay (cluster_size old.header.fields) given (known_in view old) (known_in view new)
  all_stay given covers = ungiven_stay given (λ g untouched. covers g)

  -- if no byte is given, all of them have the same mapping by the headers in memory
  pub none_given : (size_of_cluster : ℕ) → UngivenStay size_of_cluster [] (known_in view old) (known_in view new) → CoversStay old.header.fields (known_in view old) new.header.fields (known_in view new)
  none_given size_of_cluster stay g =
      sym (ap (λ (h : HeaderFields). cover h (known_in view old) g) (known_header (state_in view old p) sound)) ∙ stay g tt ∙ ap (λ (h : HeaderFields). cover h (known_in view new) g) (known_header (state_in view new p') sound')

-- a part of a range touches no more clusters than the range
module _ (size_of_cluster part_from part_count from count : ℕ) (low : from ≤ part_from) where
  pub touches_less : (0 < part_count → part_from + part_count ≤ from + count) → (g : ℕ) → (Touches size_of_cluster from (from + count) g → ⊥) × Unit {0} → (Touches size_of_cluster part_from (part_from + part_count) g → ⊥) × Unit {0}
  touches_less high g untouched = (
    λ touched.
        let some = touched.0 in
        let first = touched.1 in
        let last = touched.2 in
        let end = high (omega (arith, some)) in
        untouched.0 (omega (arith, low, end, some), omega (arith, low, first), omega (arith, end, last)),
    tt,
  )

  pub touches_part : part_from + part_count ≤ from + count → (g : ℕ) → (Touches size_of_cluster from (from + count) g → ⊥) × Unit {0} → (Touches size_of_cluster part_from (part_from + part_count) g → ⊥) × Unit {0}
  touches_part high = touches_less (λ some. high)

-- a whole cluster touches itself
pub touches_own : (size_of_cluster : ℕ) → 0 < size_of_cluster → (here g : ℕ) → g ≡ here → Touches size_of_cluster (here * size_of_cluster) (here * size_of_cluster + (here * size_of_cluster + size_of_cluster - here * size_of_cluster)) g
touches_own size_of_cluster some here g same =
    let at : g * size_of_cluster ≡ here * size_of_cluster = ap (λ n. n * size_of_cluster) same in
    (omega (arith, some), omega (arith, some, at), omega (arith, some, at))

-- of two multiples the lower one is lower by one step at least
next_multiple : (step a b : ℕ) → a * step < b * step → a * step + step ≤ b * step
next_multiple step a b lt = elim (cases_lt a b) [
  | inl below ↦
      let more : b ≡ a + 1 + (b - a - 1) = omega (arith, below) in
      let e : b * step ≡ (a + 1 + (b - a - 1)) * step = ap (λ n. n * step) more in
      let r : (a + 1 + (b - a - 1)) * step ≡ a * step + step + (b - a - 1) * step = omega arith in
      omega (arith, e, r)
  | inr le ↦
      let more : a ≡ b + (a - b) = omega (arith, le) in
      let e : a * step ≡ (b + (a - b)) * step = ap (λ n. n * step) more in
      let r : (b + (a - b)) * step ≡ b * step + (a - b) * step = omega arith in
      absurd (omega (arith, lt, e, r))
]

-- the whole clusters of a range are those that it touches
pub touches_whole : (size_of_cluster : ℕ) → 0 < size_of_cluster → (whole_from whole_count from count : ℕ) → 0 < count → whole_from ≡ rounded_down size_of_cluster from → whole_from + whole_count ≡ rounded_up size_of_cluster (from + count)
    → (g : ℕ) → (Touches size_of_cluster from (from + count) g → ⊥) × Unit {0} → (Touches size_of_cluster whole_from (whole_from + whole_count) g → ⊥) × Unit {0}
touches_whole size_of_cluster some whole_from whole_count from count any begins ends g untouched = (
  λ touched.
      let above = touched.1 in
      let below = touched.2 in
      let f : from / size_of_cluster * size_of_cluster + from % size_of_cluster ≡ from = div-add-mod' from size_of_cluster in
      let t : (from + count + size_of_cluster - 1) / size_of_cluster * size_of_cluster + (from + count + size_of_cluster - 1) % size_of_cluster ≡ from + count + size_of_cluster - 1 = div-add-mod' (from + count + size_of_cluster - 1) size_of_cluster in
      let rest = mod_below from size_of_cluster some in
      let next : (g + 1) * size_of_cluster ≡ g * size_of_cluster + size_of_cluster = omega arith in
      let low = next_multiple size_of_cluster (from / size_of_cluster) (g + 1) (omega (arith, above, begins, next)) in
      let high = next_multiple size_of_cluster g ((from + count + size_of_cluster - 1) / size_of_cluster) (omega (arith, below, ends)) in
      untouched.0 (omega (arith, any), omega (arith, f, rest, low, next), omega (arith, t, high, some)),
  tt,
)
