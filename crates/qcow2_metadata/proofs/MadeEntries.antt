-- The meaning of entries that are encoded here.
use Rattle.std.proofs.Common.{◌≡◌, ◌+◌, ◌-◌, ◌*◌, ◌/◌, ◌%◌, ◌^◌, ◌<◌, ◌≤◌, ◌&&◌, ◌||◌, if◌then◌else◌, ℕ, Bool, true, false, not, eqb, Option, Some, None, refl, sym, ap, ◌∙◌, arith, inl, inr, lit<, mul_assoc, mul-pos, IfSome}
use Rattle.qcow2_metadata.proofs.Common.{IsTrue, bit_or, cases_eq, ne_eqb, or_shifted, pow-add, pow_pos, has_bit, host_offset, is_copied, cover_of, has_host, entry_at, ChangesEntry, L2TableView, cover_at, IsEntryHost, copied_entry, zero_entry, zero_cover, copied_host, Data, Zero, Compressed, Uncovered}
use Rattle.qcow2_metadata.specs.L2Mapping.{greatest_offset}

or_true : (b : Bool) → b || true ≡ true
or_true true = refl
or_true false = refl

or_left : (b c : Bool) → b ≡ true → b || c ≡ true
or_left true c is = refl
or_left false c is = cc

there_is : (external : Bool) (host : ℕ) → (host ≡ 0 → external ≡ true) → not (eqb host 0) || (external && true) ≡ true
there_is true host there = or_true (not (eqb host 0))
there_is false host there = or_left (not (eqb host 0)) (false && true) (ap not (ne_eqb host 0 (λ none. let f : false ≡ true = there none in cc)))

-- an entry with a host offset that is marked copied, and with the zero bit or without
module _ (external : Bool) (host checkpoint : ℕ) (is : IsEntryHost external host) (small : checkpoint ≤ 1) where
  offset_is : host_offset (2 ^ 63 + host + checkpoint) ≡ host
  offset_is = omega (arith, is.near, is.whole)

  data_cover : (bits : ℕ) (has_zero : Bool) → checkpoint ≡ 0 → cover_of bits has_zero external (2 ^ 63 + host + checkpoint) ≡ Data host true
  unfolding cover_of
  data_cover bits has_zero none = grind arith

  kept_cover : (bits : ℕ) → checkpoint ≡ 1 → cover_of bits true external (2 ^ 63 + host + checkpoint) ≡ Zero (Some (host, true))
  unfolding cover_of
  kept_cover bits one = grind arith

pub cover_of-copied_entry : (bits : ℕ) (has_zero external : Bool) (host : ℕ) → IsEntryHost external host → cover_of bits has_zero external (copied_entry host) ≡ Data host true
cover_of-copied_entry bits has_zero external host is =
    let none : copied_entry host ≡ 2 ^ 63 + host + 0 = omega arith in
    ap (cover_of bits has_zero external) none ∙ data_cover external host 0 is (omega arith) bits has_zero refl

pub cover_of-0 : (bits : ℕ) (has_zero external : Bool) → cover_of bits has_zero external 0 ≡ Uncovered
unfolding cover_of
cover_of-0 bits true true = refl
cover_of-0 bits true false = refl
cover_of-0 bits false true = refl
cover_of-0 bits false false = refl

cover_of-1 : (bits : ℕ) (external : Bool) → cover_of bits true external 1 ≡ Zero None
unfolding cover_of
cover_of-1 bits true = refl
cover_of-1 bits false = refl

pub cover_of-zero_entry : (bits : ℕ) (external : Bool) (kept : Option ℕ) → IfSome kept (IsEntryHost external) → cover_of bits true external (zero_entry kept) ≡ zero_cover kept
cover_of-zero_entry bits external None is = cover_of-1 bits external
cover_of-zero_entry bits external (Some host) is = kept_cover external host 1 is (omega arith) bits refl

-- the host offset of an entry that has one
host_of : (entry : ℕ) (external : Bool) → has_host external entry ≡ true → IsEntryHost external (host_offset entry)
host_of entry external has = grind arith

copied_in : (c z there copied : Bool) (place sectors host : ℕ)
    → IfSome (copied_host (if c then Compressed place sectors else if z then Zero (if there then Some (host, copied) else None) else if there then Data host copied else Uncovered)) (λ h. (h ≡ host) × (there ≡ true))
copied_in false true true true place sectors host = (refl, refl)
copied_in false false true true place sectors host = (refl, refl)
copied_in _ _ _ _ place sectors host = tt

at_host : (kept : Option ℕ) (entry : ℕ) (external : Bool) → IfSome kept (λ h. (h ≡ host_offset entry) × (has_host external entry ≡ true)) → IfSome kept (IsEntryHost external)
at_host None entry external is = tt
at_host (Some h) entry external is = rw is.0 (host_of entry external is.1)

-- what is kept of an entry fits into one
pub copied_host_is : (bits : ℕ) (has_zero external : Bool) (entry : ℕ) → IfSome (copied_host (cover_of bits has_zero external entry)) (IsEntryHost external)
unfolding cover_of
copied_host_is bits has_zero external entry =
    at_host _ entry external
    (copied_in (has_bit entry 62) (has_zero && has_bit entry 0) (has_host external entry) (is_copied entry) _ _ (host_offset entry))

-- the start of a cluster fits into an entry
pub cluster_is_host : (bits cluster : ℕ) (external : Bool) → 9 ≤ bits → cluster * 2 ^ bits ≤ greatest_offset → (cluster ≡ 0 → IsTrue external) → IsEntryHost external (cluster * 2 ^ bits)
cluster_is_host bits cluster external low near there =
    let split : bits ≡ bits - 9 + 9 = omega arith in
    let is : 2 ^ bits ≡ 2 ^ (bits - 9) * 512 = ap (λ n. 2 ^ n) split ∙ pow-add 2 (bits - 9) 9 in
    let whole : cluster * 2 ^ bits ≡ cluster * 2 ^ (bits - 9) * 512 = ap (λ n. cluster * n) is ∙ sym (mul_assoc cluster (2 ^ (bits - 9)) 512) in
    record {
      near = near;
      whole = omega (arith, whole);
      there = λ none. there (elim (cases_eq cluster 0) [ inl zero ↦ zero | inr some ↦ absurd (omega (arith, none, (let pos : 0 < cluster = omega (arith, some) in mul-pos pos (pow_pos bits)))) ]);
    }

-- what an entry says that was set
pub cover_at-changed : (old new : L2TableView) (i entry : ℕ) → ChangesEntry old.bytes new.bytes i entry → new ≡ record old { bytes = new.bytes; is_modified = true }
    → cover_at new i ≡ cover_of old.cluster_bits old.has_zero_bit old.data_is_external entry
cover_at-changed old new i entry changed same =
    ap (λ table. cover_of table.cluster_bits table.has_zero_bit table.data_is_external (entry_at new.bytes i)) same
    ∙ ap (cover_of old.cluster_bits old.has_zero_bit old.data_is_external) changed.entry_is

-- an even number and the lowest bit
pub or_lowest : (n : ℕ) → n % 2 ≡ 0 → bit_or n 1 ≡ n + 1
or_lowest n even =
    let half : n / 2 * 2 ≡ n = omega arith in
    ap (λ m. bit_or m 1) (sym half) ∙ or_shifted (n / 2) 1 1 (lit< tt) ∙ ap (λ m. m + 1) half
