-- Recorded changes: whether there was one since a call began, and how many there were in all. The counter stops at the greatest u64.
use Rattle.std.specs.Prelude.{◌≡◌, ◌⊎◌, ℕ, ◌+◌, ◌-◌, ◌^◌, ◌≤◌, Bool, IsTrue}
use Rattle.std.proofs.Common.{inl, inr, refl, ◌∙◌}
use Rattle.std.proofs.Math.Nat.{le_refl, le_trans, le-min, min-le_left, min-le_right, add-le-add}
use Rattle.image_access.specs.Moments.{Rose}

-- Exactly one change is recorded and counted.
abbrev pub IsOneChange : Bool → ℕ → ℕ → Type 0
IsOneChange is before now = IsTrue is × (before ≤ now) × Rose before now × (now ≤ before + 1)

-- A recorded change stays recorded, and the counter does not fall. What was recorded was counted, and what was counted is recorded.
pub record CountsChanges (was : Bool) (before : ℕ) (is : Bool) (now : ℕ) : Type 0 where
  pub recorded : IsTrue was → IsTrue is
  pub no_fewer : before ≤ now
  pub why : IsTrue is → IsTrue was ⊎ Rose before now
  pub on : (now ≡ before) ⊎ IsTrue is

-- Laws of counting: no change at all, one change, and changes after changes.
pub counts_none : (is : Bool) (n : ℕ) → CountsChanges is n is n
counts_none is n = record { recorded = λ recorded. recorded; no_fewer = le_refl n; why = λ recorded. inl recorded; on = inl refl }

pub counts_one : (was is : Bool) (before now : ℕ) → IsOneChange is before now → CountsChanges was before is now
counts_one was is before now one = record { recorded = λ _. one.0; no_fewer = one.1; why = λ _. inr one.2; on = inr one.0 }

pub counts_then : (a b c : Bool) (k m n : ℕ) → CountsChanges a k b m → CountsChanges b m c n → CountsChanges a k c n
counts_then a b c k m n first then = record {
  recorded = λ recorded. then.recorded (first.recorded recorded);
  no_fewer = le_trans first.no_fewer then.no_fewer;
  why = λ recorded. elim (then.why recorded) [
    | inl was ↦ elim (first.why was) [ inl before ↦ inl before | inr rose ↦ inr (le_trans rose then.no_fewer) ]
    | inr rose ↦ inr (le_trans (le-min (le_trans (min-le_left (k + 1) (2 ^ 64 - 1)) (add-le-add first.no_fewer (le_refl 1))) (min-le_right (k + 1) (2 ^ 64 - 1))) rose)
  ];
  on = elim then.on [ inl same ↦ elim first.on [ inl before ↦ inl (same ∙ before) | inr recorded ↦ inr (then.recorded recorded) ] | inr recorded ↦ inr recorded ];
}
