-- Ranges of a device that are zeroed, written and discarded one after another.
use Rattle.std.proofs.Common.{◌≡◌, ◌⊎◌, ◌+◌, ◌-◌, ◌<◌, ◌≤◌, inl, inr, ℕ, List, length, refl, ap, subst, ◌∙◌, take, arith, Some}
use Rattle.nbd_protocol.proofs.Common.{All, slice_index, length-take-le, Clears, DeviceView, MayWrite, MayZero, Stays, StaysBeside, Writes, Zeroes}
use Rattle.std.proofs.lemmas.List.Elements.{All-take}

pub stays_beside : (from to : ℕ) (a b : DeviceView) → Stays a b → StaysBeside from to a b
stays_beside from to a b s = record { size = s.size; unit = s.unit; values = λ o lt out. s.values o lt (inr (omega arith)) }

pub stays_start : (a : DeviceView) → Stays a a
stays_start a = record { size = refl; unit = refl; values = λ o lt out. refl }

pub stays_then : (a b c : DeviceView) → Stays a b → Stays b c → Stays a c
stays_then a b c s t = grind arith

pub may_start : (from to : ℕ) (a : DeviceView) → MayZero from to a a
may_start from to a = record { beside = record { size = refl; unit = refl; values = λ o lt out. refl }; within = λ o lt low high. inl refl }

pub zeroes_start : (at : ℕ) (a : DeviceView) → Zeroes at at a a
zeroes_start at a = grind arith

-- one range after the other
pub zeroes_join : (from mid to : ℕ) (a b c : DeviceView) → Zeroes from mid a b → Zeroes mid to b c → from ≤ mid → mid ≤ to → Zeroes from to a c
zeroes_join from mid to a b c z y low high = grind arith

pub may_of_zeroes : (from to : ℕ) (a b : DeviceView) → Zeroes from to a b → MayZero from to a b
may_of_zeroes from to a b z = grind arith

pub may_of_stays : (from to : ℕ) (a b : DeviceView) → Stays a b → MayZero from to a b
may_of_stays from to a b s = record { beside = stays_beside from to a b s; within = λ o lt after before. inl (s.values o lt (inr (omega arith))) }

-- what may be zeroed in a range and then in a part of it
pub may_then : (from to low high : ℕ) (a b c : DeviceView) → MayZero from to a b → MayZero low high b c → from ≤ low → high ≤ to → MayZero from to a c
may_then from to low high a b c m n le ge = grind arith

at_offset : (at o : ℕ) → at ≤ o → at + (o - at) ≡ o
at_offset at o le = omega arith

-- zeros that are written
pub zeroes_of_writes : (at : ℕ) (bytes : List ℕ) (a b : DeviceView) → All (λ x. x ≡ 0) bytes → Writes at bytes a b → Zeroes at (at + length bytes) a b
zeroes_of_writes at bytes a b zeros w = record {
  beside = w.beside;
  within = λ o lt after before. let lt' : o - at < length bytes = omega arith in
      let e : slice_index bytes (o - at) ≡ 0 = zeros (o - at) 0 lt' in
      subst (λ (k : ℕ). b.value k ≡ Some 0) (at_offset at o after) (w.within (o - at) lt' (omega arith) ∙ ap (λ (x : ℕ). Some x) e);
}

pub may_of_writes : (at : ℕ) (bytes : List ℕ) (a b : DeviceView) → All (λ x. x ≡ 0) bytes → MayWrite at bytes a b → MayZero at (at + length bytes) a b
may_of_writes at bytes a b zeros w = record {
  beside = w.beside;
  within = λ o lt after before. let lt' : o - at < length bytes = omega arith in
      let e : slice_index bytes (o - at) ≡ 0 = zeros (o - at) 0 lt' in
      subst (λ (k : ℕ). (b.value k ≡ a.value k) ⊎ (b.value k ≡ Some 0)) (at_offset at o after)
      (elim (w.within (o - at) lt' (omega arith)) [ inl same ↦ inl same | inr byte ↦ inr (byte ∙ ap (λ (x : ℕ). Some x) e) ]);
}

-- what was zeroed so far, of a longer range
pub may_so_far : (from at to : ℕ) (a b : DeviceView) → Zeroes from at a b → at ≤ to → MayZero from to a b
may_so_far from at to a b z le = grind arith

-- zeros of which some are written
pub zeroes_of_front : (at n : ℕ) (zeros : List ℕ) (a b : DeviceView) → All (λ x. x ≡ 0) zeros → n ≤ length zeros → Writes at (take n zeros) a b → Zeroes at (at + n) a b
zeroes_of_front at n zeros a b all le w =
    subst (λ (k : ℕ). Zeroes at (at + k) a b) (length-take-le n zeros le) (zeroes_of_writes at (take n zeros) a b (All-take (λ x. x ≡ 0) n zeros all) w)

pub may_of_front : (at n : ℕ) (zeros : List ℕ) (a b : DeviceView) → All (λ x. x ≡ 0) zeros → n ≤ length zeros → MayWrite at (take n zeros) a b → MayZero at (at + n) a b
may_of_front at n zeros a b all le w =
    subst (λ (k : ℕ). MayZero at (at + k) a b) (length-take-le n zeros le) (may_of_writes at (take n zeros) a b (All-take (λ x. x ≡ 0) n zeros all) w)

-- whole units are zeroed, and then what lies in front of them
pub zeroes_units : (offset at rest from cleared cut done : ℕ) (a b c d : DeviceView) → Zeroes offset at a b → Clears at rest (from, cleared) b c → Zeroes at (at + cut) c d
    → offset ≤ at → at + cut ≡ from → at + done ≡ from + cleared → Zeroes offset (at + done) a d
zeroes_units offset at rest from cleared cut done a b c d z k w low cut-is done-is = grind arith
