use Rattle.std.proofs.Common.{◌-◌, ◌<◌, ◌≤◌, inl, inr, refl, sym, subst, arith, Result}
use Rattle.qcow2_image.proofs.Common.{handed_on, DiscardsStep, refuses_to_clear}
use Rattle.qcow2_image.proofs.Resize.StepCalls.{step_answered, step_refused}
use Rattle.qcow2_image.proofs.Resize.ShrinkSteps.{none_early, turn_answered, turn_frees, turn_refused, turn_stops, turn_touches}
use Rattle.qcow2_image.specs.declared.discarding.ClearMode.TheVariants.{Uncovered}
use Rattle.qcow2_image.proofs.image.Qcow2.discard_next.Goals as goal
use Rattle.qcow2_image.proofs.image.Qcow2.discard_next.Goals.{else-at-next-via-then-at-next+else-next-end, else-at-next-via-else-at-next}

pub returns-in_err-from-clause-step : goal.returns-in_err-from-clause-step
returns-in_err-from-clause-step g c = step_refused c.in_err-from.field-0.0 c.from_residual.result c.from_residual.ensures c.in_err-from.ensures.step

pub returns-then-next-end-clause-step : goal.returns-then-next-end-clause-step
returns-then-next-end-clause-step g c = step_answered c.saturating_add-next.result c.in_ok-from.ensures.step

pub returns-else-at-next-clause-step : goal.returns-else-at-next-clause-step
returns-else-at-next-clause-step g c = step_answered c.size-end.result c.in_ok-from.ensures.step

pub returns-in_err-from-clause-sound : goal.returns-in_err-from-clause-sound
returns-in_err-from-clause-sound g c =
    let view = g.S.Storage.view in
    let below = g.F.BackingDisk.backing in
    let old = c.args.self.now in
    let new = c.clear_range.new.self in
    let e = c.in_err-from.field-0.0 in
    handed_on (λ (r : Result _ _). DiscardsStep view below c.args.at old new r) c.from_residual.result e c.from_residual.ensures (record {
      on = tt;
      uncovers = turn_refused view below old new c.args.at c.size-end.result e c.size-end.ensures c.requires.inside c.in_err-from.ensures.sound.sees c.in_err-from.ensures.fails.refused.ungiven;
      stops = λ none out sound unprepared. turn_stops view below old new c.args.at c.size-end.result e c.size-end.ensures c.requires.inside none c.in_err-from.ensures.sound c.in_err-from.ensures.fails out sound unprepared;
      changed = λ out sound. tt;
      emptied = λ out sound. tt;
    })

pub returns-then-next-end-clause-sound : goal.returns-then-next-end-clause-sound
returns-then-next-end-clause-sound g c =
    let view = g.S.Storage.view in
    let below = g.F.BackingDisk.backing in
    let old = c.args.self.now in
    let new = c.clear_range.new.self in
    let none = none_early _ (refuses_to_clear old c.args.at (c.size-end.result - c.args.at) Uncovered) (c.in_ok-from.from, c.in_ok-from.count) c.clear_range.result c.clear_range.ensures.fails.early c.in_ok-from.was in
    record {
      on = (c.if-at-next.true, (let lt = c.if-next-end.true in let end = c.size-end.ensures in omega (arith, lt, end)));
      uncovers = turn_answered view below old new c.args.at c.size-end.result (c.in_ok-from.from, c.in_ok-from.count) c.size-end.ensures c.requires.inside (omega (arith, c.size-end.type_inv)) c.in_ok-from.ensures.sound.sees c.in_ok-from.ensures.sound.covers c.saturating_add-next.result (inl (c.saturating_add-next.ensures, c.if-at-next.true, c.if-next-end.true));
      stops = λ none out sound unprepared. tt;
      changed = λ out sound past.
          c.in_ok-from.ensures.sound.changed out sound (turn_touches view below old new c.args.at c.size-end.result c.size-end.ensures c.requires.inside out sound (let end = c.size-end.ensures in omega (arith, past, end, c.if-next-end.true)));
      emptied = turn_frees view below old new c.args.at c.size-end.result c.size-end.ensures c.requires.inside c.in_ok-from.ensures.sound.emptied (λ least. (c.in_ok-from.ensures.sound.nothing none least).1);
    }

pub returns-else-at-next-clause-sound : goal.returns-else-at-next-clause-sound
returns-else-at-next-clause-sound g c =
    let view = g.S.Storage.view in
    let below = g.F.BackingDisk.backing in
    let old = c.args.self.now in
    let new = c.clear_range.new.self in
    let none = none_early _ (refuses_to_clear old c.args.at (c.size-end.result - c.args.at) Uncovered) (c.in_ok-from.from, c.in_ok-from.count) c.clear_range.result c.clear_range.ensures.fails.early c.in_ok-from.was in
    record {
      on = (subst (λ n. c.args.at < n) (sym c.size-end.ensures) c.requires.inside, (let end = c.size-end.ensures in omega (arith, end)));
      uncovers = turn_answered view below old new c.args.at c.size-end.result (c.in_ok-from.from, c.in_ok-from.count) c.size-end.ensures c.requires.inside (omega (arith, c.size-end.type_inv)) c.in_ok-from.ensures.sound.sees c.in_ok-from.ensures.sound.covers c.size-end.result
          (inr (refl, (let h = c.saturating_add-next.ensures in elim c.else-at-next.branch [ else-at-next-via-then-at-next+else-next-end w ↦ inr (subst (λ n. c.size-end.result ≤ n) h w.if-next-end.false) | else-at-next-via-else-at-next w ↦ inl (subst (λ n. n ≤ c.args.at) h w.if-at-next.false) ])));
      stops = λ none out sound unprepared. tt;
      changed = λ out sound past.
          c.in_ok-from.ensures.sound.changed out sound (turn_touches view below old new c.args.at c.size-end.result c.size-end.ensures c.requires.inside out sound (let end = c.size-end.ensures in omega (arith, past, end)));
      emptied = turn_frees view below old new c.args.at c.size-end.result c.size-end.ensures c.requires.inside c.in_ok-from.ensures.sound.emptied (λ least. (c.in_ok-from.ensures.sound.nothing none least).1);
    }
