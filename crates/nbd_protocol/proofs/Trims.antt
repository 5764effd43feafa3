-- Clearing whole units of a range, one part after another.
use Rattle.std.proofs.Common.{◌≡◌, ◌+◌, ◌*◌, ◌/◌, ◌%◌, ◌<◌, ◌≤◌, inl, inr, ℕ, refl, arith}
use Rattle.nbd_protocol.proofs.Common.{cases_lt, AreUnits, Clears, DeviceView, IsInWhole, Stays, Trims}

pub trims_start : (from to : ℕ) (a : DeviceView) → Trims from to a a
trims_start from to a = record { size = refl; unit = refl; values = λ o lt. inl refl }

pub trims_of_stays : (from to : ℕ) (a b : DeviceView) → Stays a b → Trims from to a b
trims_of_stays from to a b s = record { size = s.size; unit = s.unit; values = λ o lt. inl (s.values o lt (inr (omega arith))) }

-- a unit that begins after a boundary does so as a whole
starts_in : (u low o : ℕ) → 0 < u → low % u ≡ 0 → low ≤ o → low ≤ o / u * u
starts_in u low o some begins le = grind arith

-- and ends as a whole in front of one
ends_in : (u high o : ℕ) → 0 < u → high % u ≡ 0 → o < high → o / u * u + u ≤ high
ends_in u high o some ends lt = grind arith

whole_unit : (unit size low high o : ℕ) → AreUnits unit size low high → low ≤ o → o < high → IsInWhole unit size low high o
whole_unit unit size low high o units le lt = grind (arith, starts_in, ends_in)

wider_unit : (unit size low high from to o : ℕ) → from ≤ low → high ≤ to → IsInWhole unit size low high o → IsInWhole unit size from to o
wider_unit unit size low high from to o le ge w = grind arith

-- a part of a longer range
pub trims_wider : (from to low high : ℕ) (a b : DeviceView) → Trims low high a b → from ≤ low → high ≤ to → Trims from to a b
trims_wider from to low high a b t le ge = grind arith

pub trims_then : (from to : ℕ) (a b c : DeviceView) → Trims from to a b → Trims from to b c → Trims from to a c
trims_then from to a b c t s = grind arith

-- what a call clears
pub trims_of_clears : (offset n : ℕ) (part : ℕ × ℕ) (a b : DeviceView) → Clears offset n part a b → Trims offset (offset + n) a b
trims_of_clears offset n part a b k = record {
  size = k.zeroes.beside.size;
  unit = k.zeroes.beside.unit;
  values = λ o lt.
      elim (cases_lt o part.0) [
        | inl below ↦ inl (k.zeroes.beside.values o lt (inl below))
        | inr behind ↦ elim (cases_lt o (part.0 + part.1)) [
          | inl inside ↦
              let some : 0 < part.1 = omega (arith, behind, inside) in
              let lt' : o < b.size = omega (arith, k.zeroes.beside.size, lt) in
              inr (
                wider_unit a.unit a.size part.0 (part.0 + part.1) offset (offset + n) o k.low (k.high some) (whole_unit a.unit a.size part.0 (part.0 + part.1) o (k.whole some) behind inside),
                k.zeroes.within o lt' behind inside,
              )
          | inr past ↦ inl (k.zeroes.beside.values o lt (inr past))
        ]
      ];
}
