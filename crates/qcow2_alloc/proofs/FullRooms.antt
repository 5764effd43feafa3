-- A search for room continues only if there is none: a cluster of each room that it passed is in use.
use Rattle.std.proofs.Common.{◌≡◌, ◌+◌, ◌-◌, ◌*◌, ◌/◌, ◌<◌, ◌≤◌, inl, inr, ℕ, zero, suc, Bool, true, false, refl, sym, ap, ◌∙◌, subst, arith, Result, Ok, Err, Some, OnOk}
use Rattle.qcow2_alloc.proofs.Common.{cases_lt, nat_tests, StorageView, one_if, EntryTableView, entry_count, counts_per_block, entries_per_cluster, ImageFile, IsLeastLength, nameable_clusters, HasNoRoomBelow, HasNoRoomFor, CantGrow, IsLowestRoom, LiesLowest, IsUsed, KeepsUsed, AreUsed, opens, opened, ImageError}
use Rattle.qcow2_alloc.proofs.Lengths.{one_least}
use Rattle.qcow2_alloc.proofs.Rooms.{next_sum, opened_none, opening}

-- ---- the ranges that a run enters are entered by its end, or before it
one_of_flags : (a b : Bool) → (a ≡ true → b ≡ true) → one_if a ≤ one_if b
one_of_flags false b implies = omega arith
one_of_flags true b implies = let e : one_if b ≡ 1 = ap one_if (implies refl) in omega (arith, e)

one_at_most : (b : Bool) → one_if b ≤ 1
one_at_most true = omega arith
one_at_most false = omega arith

opened_next : (t : EntryTableView) (per first n : ℕ) → opened t per first (suc n) ≡ opened t per first n + opening t per first n
opened_next t per first n = next_sum n (suc n) (opening t per first) refl

-- a cluster that opens a range in a longer run opens it in the later one
opens_later : (t : EntryTableView) (per first a c : ℕ) → first + a ≤ c → opens t per first c ≡ true → opens t per (first + a) c ≡ true
opens_later t per first a c within is = grind (arith, nat_tests)

opening_later : (t : EntryTableView) (per first a n : ℕ) → opening t per first (a + n) ≤ opening t per (first + a) n
opening_later t per first a n =
    let same : first + (a + n) ≡ first + a + n = omega arith in
    one_of_flags (opens t per first (first + (a + n))) (opens t per (first + a) (first + a + n))
    (λ is. opens_later t per first a (first + a + n) (omega arith) (ap (opens t per first) (sym same) ∙ is))

pub opened_few : (t : EntryTableView) (per first n : ℕ) → opened t per first n ≤ n
opened_few t per first zero = let e = opened_none t per first in omega (arith, e)
opened_few t per first (suc n) = let e = opened_next t per first n in let few = opened_few t per first n in let one = one_at_most (opens t per first (first + n)) in omega (arith, e, few, one)

pub opened_later : (t : EntryTableView) (per first a n : ℕ) → opened t per first (a + n) ≤ opened t per first a + opened t per (first + a) n
opened_later t per first a zero = let e : opened t per first (a + zero) ≡ opened t per first a = ap (opened t per first) (omega arith) in omega (arith, e)
opened_later t per first a (suc n) =
    let e : opened t per first (a + suc n) ≡ opened t per first (suc (a + n)) = ap (opened t per first) (omega arith) in
    let long = opened_next t per first (a + n) in
    let short = opened_next t per (first + a) n in
    let before = opened_later t per first a n in
    let one = opening_later t per first a n in
    omega (arith, e, long, short, before, one)

module _ {S : Type 0} (view : S → StorageView) (file : ImageFile S) (t : EntryTableView) (per clusters end : ℕ) where
  -- of each room that begins below a cluster, one below it is in use
  abbrev pub IsFullBelow : ℕ → Type 0
  IsFullBelow first = (start n : ℕ) → 0 < start → start < first → n ≡ opened t per start n + clusters → start + n ≤ end → (k : ℕ) × (start ≤ k) × (k < start + n) × (k < first) × IsUsed view file k

  -- a search that came so far, from first on, found no room on its way
  pub full_behind : (first taken : ℕ) → ((n : ℕ) → n ≤ taken → n < opened t per first n + clusters) → (first + taken < end → IsUsed view file (first + taken)) → IsFullBelow first → IsFullBelow (first + (taken + 1))
  full_behind first taken short used full start n some below is within = elim (cases_lt start first) [
    | inl before ↦ let at = full start n some before is within in (at.0, at.1, at.2, (let lt = at.3 in omega (arith, lt)), at.4)
    | inr above ↦ elim (cases_lt (first + taken) (start + n)) [
      | inl past ↦ (first + taken, omega (arith, below), past, omega arith, used (omega (arith, past, within)))
      | inr early ↦
          let a : ℕ = start - first in
          let at : first + a ≡ start = omega (arith, above) in
          let less = short (a + n) (omega (arith, at, early)) in
          let parts = opened_later t per first a n in
          let rest : opened t per (first + a) n ≡ opened t per start n = ap (λ m. opened t per m n) at in
          let few = opened_few t per first a in
          absurd (omega (arith, less, parts, rest, few, is))
    ]
  ]

  -- a search passes over clusters in use
  pub full_passed : (first next : ℕ) → first ≤ next → 0 < clusters → AreUsed view file first next → IsFullBelow first → IsFullBelow next
  full_passed first next onward many used full start n some below is within = elim (cases_lt start first) [
    | inl before ↦ let at = full start n some before is within in (at.0, at.1, at.2, (let lt = at.3 in omega (arith, lt, onward)), at.4)
    | inr above ↦ (start, omega arith, omega (arith, is, many), below, used start above below)
  ]

-- what is in use stays in use
pub full_stays : {S : Type 0} (view : S → StorageView) (a b : ImageFile S) (t : EntryTableView) (per clusters end first : ℕ) → ((k : ℕ) → IsUsed view a k → IsUsed view b k) → IsFullBelow view a t per clusters end first → IsFullBelow view b t per clusters end first
full_stays view a b t per clusters end first uses full start n some below is within = let at = full start n some below is within in (at.0, at.1, at.2, at.3, uses at.0 at.4)

-- ---- a longer reftable that has no room
module _ {S : Type 0} (view : S → StorageView) (file : ImageFile S) (taken : ℕ → ℕ) (t : EntryTableView) where
  pub no_room_for : (clusters length limit : ℕ) → clusters ≡ length / entries_per_cluster file.header.fields → ((end : ℕ) → end ≤ length * counts_per_block file.header.fields → end ≤ nameable_clusters file.header.fields → end ≤ limit)
      → HasNoRoomBelow (IsUsed view file) file.header.fields taken t clusters limit → HasNoRoomFor (IsUsed view file) file.header.fields taken t length
  no_room_for clusters length limit is below none end low near first n some is_long within =
      let less = below end low near in
      let same : n ≡ opened t (counts_per_block file.header.fields) first n + clusters = is_long ∙ ap (λ m. opened t (counts_per_block file.header.fields) first n + m) (sym is) in
      none first n some same (omega (arith, less, within))

  pub cant_grow : (index length p per_block : ℕ) → entries_per_cluster file.header.fields ≡ p → counts_per_block file.header.fields ≡ per_block → IsLeastLength (entry_count t) index p per_block length → HasNoRoomFor (IsUsed view file) file.header.fields taken t length
      → CantGrow (IsUsed view file) file.header.fields taken t index
  cant_grow index length p per_block same_p same_block least none other small is_least =
      let same = one_least (entry_count t) index p (entries_per_cluster file.header.fields) per_block (counts_per_block file.header.fields) length other same_p same_block least is_least in
      subst (HasNoRoomFor (IsUsed view file) file.header.fields taken t) (sym same) none

-- ---- the lowest room
module _ {S : Type 0} (view : S → StorageView) where
  -- as another header of the same numbers tells it, while what is in use stays in use
  pub lowest_room_stays : (a b : ImageFile S) (t : EntryTableView) (clusters end room : ℕ) → counts_per_block b.header.fields ≡ counts_per_block a.header.fields → ((k : ℕ) → IsUsed view a k → IsUsed view b k)
      → IsLowestRoom (IsUsed view a) a.header.fields t clusters end room → IsLowestRoom (IsUsed view b) b.header.fields t clusters end room
  lowest_room_stays a b t clusters end room same uses lowest first n some below is within =
      let at = lowest first n some below (is ∙ ap (λ per. opened t per first n + clusters) same) within in (at.0, at.1, at.2, at.3, uses at.0 at.4)

  -- a reftable that was placed in it
  pub lies_lowest : (file : ImageFile S) (old new : EntryTableView) (first blocks clusters limit : ℕ) (result : Result (Unit {0}) ImageError) → (entries : ℕ) → 0 < first → OnOk result (new.cluster ≡ Some (first + blocks)) → OnOk result (entry_count new ≡ entries)
      → clusters ≡ entries / entries_per_cluster file.header.fields → blocks ≡ opened old (counts_per_block file.header.fields) first (blocks + clusters)
      → ((end : ℕ) → end ≤ entries * counts_per_block file.header.fields → end ≤ nameable_clusters file.header.fields → end ≤ limit) → OnOk result (IsLowestRoom (IsUsed view file) file.header.fields old clusters limit first) → OnOk result (LiesLowest (IsUsed view file) file.header.fields old new)
  lies_lowest file old new first blocks clusters limit (Err e) entries above cluster count is lacks below lowest = tt
  lies_lowest file old new first blocks clusters limit (Ok done) entries above cluster count is lacks below lowest =
      let so : clusters ≡ entry_count new / entries_per_cluster file.header.fields = is ∙ ap (λ n. n / entries_per_cluster file.header.fields) (sym count) in record {
        first = first;
        blocks = blocks;
        above = above;
        behind = cluster;
        lacked = subst (λ m. blocks ≡ opened old (counts_per_block file.header.fields) first (blocks + m)) so lacks;
        lowest = λ end low near.
            let most = ap (λ n. n * counts_per_block file.header.fields) count in
            let less = below end (omega (arith, low, most)) near in
            subst (λ m. IsLowestRoom (IsUsed view file) file.header.fields old m end first) so (λ start n some before long within. lowest start n some before long (omega (arith, less, within)));
      }

  -- where it was answered, what was in use is
  pub lowest_entered : (a b : ImageFile S) (t : EntryTableView) (clusters end room : ℕ) (result : Result (Unit {0}) ImageError) → counts_per_block b.header.fields ≡ counts_per_block a.header.fields → KeepsUsed view a b result
      → IsLowestRoom (IsUsed view a) a.header.fields t clusters end room → OnOk result (IsLowestRoom (IsUsed view b) b.header.fields t clusters end room)
  lowest_entered a b t clusters end room (Ok done) same uses lowest = lowest_room_stays a b t clusters end room same uses lowest
  lowest_entered a b t clusters end room (Err e) same uses lowest = tt
