-- Replaying the changes that a storage recorded, one after another.
use Rattle.std.proofs.Common.{◌≡◌, ℕ, zero, suc, ◌-◌, List, [], ◌∷◌, ◌++◌, take, is_some, if◌then◌else◌, Ok, refl, sym, ap, ◌∙◌, arith}
use Prim.Native.Nat.compare
use Rattle.std.proofs.Math.Seq.{take-nil}
use Rattle.std.proofs.lemmas.Grind.{common_steps}
use Rattle.image_access.specs.Changes.{applied, replayed, HadSince, write_offset, write_offsets, up_to_write}
use Rattle.image_access.specs.CallCount.{Counted, counted}
use Rattle.image_access.specs.Moments.{Calls}
use Rattle.image_access.specs.TraceStorage.{Trace, view_of_trace, with_change}
use Rattle.image_access.specs.declared.change.Change.{Change}
use Rattle.image_access.specs.declared.change.Change.TheVariants.{Write, Zeroes, Resize}

pub replayed_push : (start : List ℕ) (changes : List Change) (change : Change) → replayed start (changes ++ change ∷ []) ≡ applied (replayed start changes) change
replayed_push start [] change = refl
replayed_push start (x ∷ changes) change = replayed_push (applied start x) changes change

-- while writes are left, the next change is one of them
up_to_write-some : (n : ℕ) (change : Change) (changes : List Change) → up_to_write (suc n) (change ∷ changes) ≡ change ∷ up_to_write (if is_some (write_offset change) then n else suc n) changes
up_to_write-some n change changes = let one : suc n - 1 ≡ n = omega arith in rw (compare.suc-zero, one)

-- the first changes have the first offsets
pub write_offsets-up_to_write : (n : ℕ) (changes : List Change) → write_offsets (up_to_write n changes) ≡ take n (write_offsets changes)
write_offsets-up_to_write n [] = sym (take-nil n)
write_offsets-up_to_write zero (change ∷ changes) = refl
write_offsets-up_to_write (suc n) (Write at bytes ∷ changes) = ap write_offsets (up_to_write-some n (Write at bytes) changes) ∙ ap (λ (l : List ℕ). at ∷ l) (write_offsets-up_to_write n changes)
write_offsets-up_to_write (suc n) (Zeroes at count ∷ changes) = ap write_offsets (up_to_write-some n (Zeroes at count) changes) ∙ ap (λ (l : List ℕ). at ∷ l) (write_offsets-up_to_write n changes)
write_offsets-up_to_write (suc n) (Resize size ∷ changes) = ap write_offsets (up_to_write-some n (Resize size) changes) ∙ write_offsets-up_to_write (suc n) changes

-- one change before the others
had_before : (start : List ℕ) (change : Change) (changes : List Change) (contents : List ℕ) → HadSince (applied start change) changes 0 contents → HadSince start (change ∷ changes) 0 contents
had_before start change changes contents had = record { count = suc had.count; from = omega arith; up_to = omega (arith, had.up_to); is = had.is }

-- the contents right after a write are those of a moment
pub had_up_to_write : (start : List ℕ) (n : ℕ) (changes : List Change) → HadSince start changes 0 (replayed start (up_to_write n changes))
had_up_to_write start n [] = record { count = 0; from = omega arith; up_to = omega arith; is = refl }
had_up_to_write start zero (change ∷ changes) = record { count = 0; from = omega arith; up_to = omega arith; is = refl }
had_up_to_write start (suc n) (change ∷ changes) =
    rw up_to_write-some (had_before start change changes _ (had_up_to_write (applied start change) (if is_some (write_offset change) then n else suc n) changes))

-- a call that made a change, and was counted
pub calls_once : (old : Trace) (calls : Counted) (change : Change) (new : Trace) → calls ≡ counted old.calls → new ≡ with_change (record old { calls = calls }) change
    → Calls {T = Unit {0}} (view_of_trace old) (view_of_trace new) (Ok tt)
calls_once old calls change new once is = rw (is, once) (grind (arith, common_steps, replayed_push))
