use Rattle.std.proofs.Common.{◌≡◌, ◌+◌, ◌-◌, ◌<◌, inr, refl, sym, ◌∙◌, subst, arith}
use Rattle.qcow2_alloc.proofs.Common.{one_at, Pending, run_at, taken_as, Taken, InternalAllocatorGrowth, GivesBackAs, AllocatorInvariant, InternalFileGrowth, KeepsNoFreeBelowHint, KeepsUsedBut}
use Rattle.qcow2_alloc.proofs.Lemmas.{file_step_on, on_then, on_interrupted_after, handed_on, is_sound_now, kept_refused, not_in_run, taken_pending, used_stays, taken_first, taken_none, new_data_more, fails_ok, fails_on, fails_since, table_step_none, table_step_then}
use Rattle.qcow2_alloc.proofs.allocation.Allocator.give_back.Goals as goal

pub returns-then-n-eq0-clause-sound : goal.returns-then-n-eq0-clause-sound
returns-then-n-eq0-clause-sound g c = λ p p' d start new_data b recorded. subst (λ (r : Pending). InternalAllocatorGrowth g.S.Storage.view p start c.args.self.now c.args.file.now r) (taken_none d p' c.args.first c.args.n c.if-n-eq0.true) b

pub lowering-init : goal.lowering-init
lowering-init g c = record {
  faults = refl;
  step = table_step_none;
  reftable = refl;
  sound = λ p p' d start new_data b.
      let whole : c.args.n ≡ c.args.first + c.args.n - c.args.first = omega arith in
      let file_step = subst (λ m. InternalFileGrowth g.S.Storage.view p (taken_as d p' (run_at c.args.first m)) start c.args.file.now) whole b.file_step in
      record { file_step = file_step; reftable = b.reftable };
  leaks = λ p d sound. refl;
  hint = λ p d sound hint. hint;
  kept = λ p d sound.
      let whole : c.args.n ≡ c.args.first + c.args.n - c.args.first = omega arith in
      (subst (λ m. AllocatorInvariant g.S.Storage.view c.args.self.now (taken_as d p (run_at c.args.first m)) c.args.file.now) whole sound, λ k none used. used);
}

pub returns-in_err-decrement_or_leak : goal.returns-in_err-decrement_or_leak
returns-in_err-decrement_or_leak g c = record {
  step = table_step_then c.lowering.invariant.step c.decrement_or_leak.ensures.step;
  reftable = c.decrement_or_leak.ensures.reftable ∙ c.lowering.invariant.reftable;
  none = λ is. absurd (c.if-n-eq0.false is);
  sound = λ p p' d start new_data b recorded.
      let one = c.lowering.invariant.sound p p' d start new_data b in
      let q : Pending = (taken_as d p' (run_at (c.lowering.cluster + 1) ((c.args.first + c.args.n) - (c.lowering.cluster + 1)))) in
      let same = taken_first d p' c.lowering.cluster (c.args.first + c.args.n) c.lowering-test.true in
      let moved = subst (λ (r : Pending). InternalFileGrowth g.S.Storage.view p r start c.lowering.file) (sym same) one.file_step in
      let low = (c.in_err-decrement_or_leak.ensures.sound q (Taken d) (record { sound = moved.sound; reftable = one.reftable }) tt).gives in
      handed_on (GivesBackAs g.S.Storage.view p start c.decrement_or_leak.new.self c.decrement_or_leak.new.file p') c.from_residual.result c.in_err-decrement_or_leak.field-0.0 c.from_residual.ensures (
        low.0,
        inr (on_interrupted_after g.S.Storage.view p (taken_as d q (one_at c.lowering.cluster)) start c.lowering.file c.decrement_or_leak.new.file c.decrement_or_leak.new.self c.in_err-decrement_or_leak.field-0.0 moved low.0
            (c.decrement_or_leak.ensures.step.marks.pins.changes.recorded (c.lowering.invariant.step.marks.pins.changes.recorded (recorded (let lt = c.lowering-test.true in let le = c.lowering.auto.cluster in omega arith)))) low.1),
      );
  fails = fails_on c.from_residual.result c.in_err-decrement_or_leak.field-0.0 c.from_residual.ensures (fails_since c.lowering.invariant.faults c.in_err-decrement_or_leak.ensures.fails);
  leaks = λ p d sound.
      let one = c.lowering.invariant.kept p d sound in
      let q : Pending = (taken_as d p (run_at (c.lowering.cluster + 1) ((c.args.first + c.args.n) - (c.lowering.cluster + 1)))) in
      let same = taken_first d p c.lowering.cluster (c.args.first + c.args.n) c.lowering-test.true in
      (c.decrement_or_leak.ensures.sound q (Taken d) (subst (λ (r : Pending). AllocatorInvariant g.S.Storage.view c.lowering.self r c.lowering.file) (sym same) one.0) tt).leaks ∙ c.lowering.invariant.leaks p d sound;
  hint = λ p d sound hint.
      let one = c.lowering.invariant.kept p d sound in
      let q : Pending = (taken_as d p (run_at (c.lowering.cluster + 1) ((c.args.first + c.args.n) - (c.lowering.cluster + 1)))) in
      let same = taken_first d p c.lowering.cluster (c.args.first + c.args.n) c.lowering-test.true in
      handed_on (KeepsNoFreeBelowHint g.S.Storage.view c.decrement_or_leak.new.self c.decrement_or_leak.new.file) c.from_residual.result c.in_err-decrement_or_leak.field-0.0 c.from_residual.ensures
      ((c.in_err-decrement_or_leak.ensures.sound q (Taken d) (subst (λ (r : Pending). AllocatorInvariant g.S.Storage.view c.lowering.self r c.lowering.file) (sym same) one.0) tt).hint (c.lowering.invariant.hint p d sound hint));
  kept = λ p d sound.
      let one = c.lowering.invariant.kept p d sound in
      let q : Pending = (taken_as d p (run_at (c.lowering.cluster + 1) ((c.args.first + c.args.n) - (c.lowering.cluster + 1)))) in
      let same = taken_first d p c.lowering.cluster (c.args.first + c.args.n) c.lowering-test.true in
      let low = (c.in_err-decrement_or_leak.ensures.sound q (Taken d) (subst (λ (r : Pending). AllocatorInvariant g.S.Storage.view c.lowering.self r c.lowering.file) (sym same) one.0) tt).gives in
      handed_on (KeepsUsedBut g.S.Storage.view (run_at c.args.first c.args.n) c.args.file.now c.decrement_or_leak.new.file) c.from_residual.result c.in_err-decrement_or_leak.field-0.0 c.from_residual.ensures
      (kept_refused g.S.Storage.view (run_at c.args.first c.args.n) (taken_as d q (one_at c.lowering.cluster)) c.args.file.now c.lowering.file c.decrement_or_leak.new.file c.decrement_or_leak.new.self c.in_err-decrement_or_leak.field-0.0 low.1 one.1);
}

pub lowering-preserved : goal.lowering-preserved
lowering-preserved g c = record {
  faults = c.in_ok-decrement_or_leak.ensures.fails.told ∙ c.lowering.invariant.faults;
  step = table_step_then c.lowering.invariant.step c.decrement_or_leak.ensures.step;
  reftable = c.decrement_or_leak.ensures.reftable ∙ c.lowering.invariant.reftable;
  sound = λ p p' d start new_data b.
      let one = c.lowering.invariant.sound p p' d start new_data b in
      let q : Pending = (taken_as d p' (run_at (c.lowering.cluster + 1) ((c.args.first + c.args.n) - (c.lowering.cluster + 1)))) in
      let same = taken_first d p' c.lowering.cluster (c.args.first + c.args.n) c.lowering-test.true in
      let moved = subst (λ (r : Pending). InternalFileGrowth g.S.Storage.view p r start c.lowering.file) (sym same) one.file_step in
      let low = (c.in_ok-decrement_or_leak.ensures.sound q (Taken d) (record { sound = moved.sound; reftable = one.reftable }) tt).gives in
      record {
        file_step = on_then g.S.Storage.view p (taken_as d q (one_at c.lowering.cluster)) q start c.lowering.file c.decrement_or_leak.new.file
            (λ k some. subst (λ (r : Pending). 0 < r.new_data k) (sym same) (new_data_more d p' (run_at c.lowering.cluster ((c.args.first + c.args.n) - c.lowering.cluster)) k (new_data k some))) moved (file_step_on g.S.Storage.view (taken_as d q (one_at c.lowering.cluster)) q c.lowering.file c.decrement_or_leak.new.file low.file_step);
        reftable = low.reftable;
      };
  leaks = λ p d sound.
      let one = c.lowering.invariant.kept p d sound in
      let q : Pending = (taken_as d p (run_at (c.lowering.cluster + 1) ((c.args.first + c.args.n) - (c.lowering.cluster + 1)))) in
      let same = taken_first d p c.lowering.cluster (c.args.first + c.args.n) c.lowering-test.true in
      (c.decrement_or_leak.ensures.sound q (Taken d) (subst (λ (r : Pending). AllocatorInvariant g.S.Storage.view c.lowering.self r c.lowering.file) (sym same) one.0) tt).leaks ∙ c.lowering.invariant.leaks p d sound;
  hint = λ p d sound hint.
      let one = c.lowering.invariant.kept p d sound in
      let q : Pending = (taken_as d p (run_at (c.lowering.cluster + 1) ((c.args.first + c.args.n) - (c.lowering.cluster + 1)))) in
      let same = taken_first d p c.lowering.cluster (c.args.first + c.args.n) c.lowering-test.true in
      (c.in_ok-decrement_or_leak.ensures.sound q (Taken d) (subst (λ (r : Pending). AllocatorInvariant g.S.Storage.view c.lowering.self r c.lowering.file) (sym same) one.0) tt).hint (c.lowering.invariant.hint p d sound hint);
  kept = λ p d sound.
      let one = c.lowering.invariant.kept p d sound in
      let q : Pending = (taken_as d p (run_at (c.lowering.cluster + 1) ((c.args.first + c.args.n) - (c.lowering.cluster + 1)))) in
      let same = taken_first d p c.lowering.cluster (c.args.first + c.args.n) c.lowering-test.true in
      let low = (c.in_ok-decrement_or_leak.ensures.sound q (Taken d) (subst (λ (r : Pending). AllocatorInvariant g.S.Storage.view c.lowering.self r c.lowering.file) (sym same) one.0) tt).gives in (
        is_sound_now g.S.Storage.view (taken_as d q (one_at c.lowering.cluster)) q c.lowering.file c.decrement_or_leak.new.file c.decrement_or_leak.new.self low,
        λ k none used.
            let other = not_in_run c.args.first c.args.n c.lowering.cluster k c.lowering.auto.cluster c.lowering-test.true none in
            let pending = taken_pending d q (one_at c.lowering.cluster) k in
            used_stays g.S.Storage.view (taken_as d q (one_at c.lowering.cluster)) q c.lowering.file c.decrement_or_leak.new.file c.decrement_or_leak.new.self k low (omega (arith, other, pending)) (one.1 k none used),
      );
}

pub returns-clause-sound : goal.returns-clause-sound
returns-clause-sound g c = λ p p' d start new_data b recorded.
    subst (λ (r : Pending). InternalAllocatorGrowth g.S.Storage.view p start c.lowering.self c.lowering.file r)
    (taken_none d p' c.lowering.cluster ((c.args.first + c.args.n) - c.lowering.cluster) (let past = c.lowering-test.false in omega arith)) (c.lowering.invariant.sound p p' d start new_data b)

pub returns-clause-kept : goal.returns-clause-kept
returns-clause-kept g c = λ p d sound. (c.lowering.invariant.kept p d sound).1

pub returns-then-n-eq0-clause-step : goal.returns-then-n-eq0-clause-step
returns-then-n-eq0-clause-step g c = table_step_none

pub returns-clause-fails : goal.returns-clause-fails
returns-clause-fails g c = fails_ok c.lowering.invariant.faults

pub returns-then-n-eq0-clause-leaks : goal.returns-then-n-eq0-clause-leaks
returns-then-n-eq0-clause-leaks g c = λ p d sound. refl
