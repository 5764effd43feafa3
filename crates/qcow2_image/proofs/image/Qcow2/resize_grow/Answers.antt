use Rattle.qcow2_image.proofs.image.Qcow2.resize_grow.Goals as goal
use Rattle.qcow2_image.proofs.Lemmas.{fails_none, err_is, not_refused, refused_for}
use Rattle.std.proofs.Common.{◌≤◌, ◌∙◌, inl, inr, sym, subst, refl, arith, rules, IsTrue, Result}
use Rattle.qcow2_image.proofs.Common.{PreallocateMode, never, GrowsTo, refuses_to_resize, takes_over, IfErr-weaker}
use Rattle.qcow2_image.proofs.Resize.StepCalls.{some_none}
use Rattle.qcow2_image.proofs.Resize.GrowCalls.{grows_early, grows_nothing, grows_over, last_none}
use Rattle.qcow2_image.proofs.Resize.ShrinkCalls.{resize_works}

pub returns-in_err-check_resize-clause-sees : goal.returns-in_err-check_resize-clause-sees
returns-in_err-check_resize-clause-sees g c =
    let view = g.S.Storage.view in
    let below = g.F.BackingDisk.backing in
    let old = c.args.self.now in
    let e = c.in_err-check_resize.field-0.0 in
    subst (λ (r : Result _ _). GrowsTo view below old old c.args.size c.args.mode r) (sym (err_is c.from_residual.result c.from_residual.ensures))
    (grows_early view below old c.args.size c.args.mode e (refused_for c.check_resize.result tt (refuses_to_resize old) e c.check_resize.ensures c.in_err-check_resize.was))

pub returns-then-size-clause-sees : goal.returns-then-size-clause-sees
returns-then-size-clause-sees g c =
    let old = c.args.self.now in
    let usable = resize_works old (not_refused c.check_resize.result tt (refuses_to_resize old) c.in_ok-check_resize.field-0 c.check_resize.ensures c.in_ok-check_resize.was).0 in
    grows_nothing g.S.Storage.view g.F.BackingDisk.backing old c.args.size c.args.mode usable (subst (λ n. c.args.size ≤ n) c.size.ensures c.if-size.true)

pub returns-then-takes_over-clause-sees : goal.returns-then-takes_over-clause-sees
returns-then-takes_over-clause-sees g c = grows_over g.S.Storage.view g.F.BackingDisk.backing c.args.self.now c.args.size c.args.mode

pub returns-in_err-check_resize-clause-step : goal.returns-in_err-check_resize-clause-step
returns-in_err-check_resize-clause-step g c = record { marks = search rules; once_written = fails_none g.S.Storage.view c.args.self.now _; header_cluster = search rules; faults = search rules }

pub returns-then-size-clause-step : goal.returns-then-size-clause-step
returns-then-size-clause-step g c = record { marks = search rules; once_written = fails_none g.S.Storage.view c.args.self.now _; header_cluster = search rules; faults = search rules }

pub returns-then-takes_over-clause-step : goal.returns-then-takes_over-clause-step
returns-then-takes_over-clause-step g c = record { marks = search rules; once_written = fails_none g.S.Storage.view c.args.self.now _; header_cluster = search rules; faults = search rules }

pub returns-clause-step : goal.returns-clause-step
returns-clause-step g c = record { marks = search rules; once_written = c.grow_disk.ensures.step.once_written; header_cluster = c.grow_disk.ensures.step.header_cluster; faults = search rules }

pub returns-in_err-check_resize-clause-sound : goal.returns-in_err-check_resize-clause-sound
returns-in_err-check_resize-clause-sound g c = λ out sound.
    let e = c.in_err-check_resize.field-0.0 in
    let refuses = refused_for c.check_resize.result tt (refuses_to_resize c.args.self.now) e c.check_resize.ensures c.in_err-check_resize.was in
    record {
      last = last_none g.S.Storage.view g.F.BackingDisk.backing c.args.self.now c.args.size c.args.mode _;
      may_fail = λ works larger. some_none e (sym refuses ∙ works);
      limit = λ works larger. some_none e (sym refuses ∙ works);
      tables = λ works larger. some_none e (sym refuses ∙ works);
      freed = λ works larger isnt. some_none e (sym refuses ∙ works);
    }

pub returns-then-size-clause-sound : goal.returns-then-size-clause-sound
returns-then-size-clause-sound g c = λ out sound. record {
  last = last_none g.S.Storage.view g.F.BackingDisk.backing c.args.self.now c.args.size c.args.mode _;
  may_fail = λ none larger. tt;
  limit = λ none larger. tt;
  tables = λ none larger. absurd (let le = c.if-size.true in let is = c.size.ensures in omega (arith, le, is, larger));
  freed = λ none larger isnt. tt;
}

pub returns-then-takes_over-clause-sound : goal.returns-then-takes_over-clause-sound
returns-then-takes_over-clause-sound g c = λ out sound.
    let takes = sym c.takes_over.ensures ∙ c.if-takes_over.true in
    record {
      last = last_none g.S.Storage.view g.F.BackingDisk.backing c.args.self.now c.args.size c.args.mode _;
      may_fail = λ none larger. inr (refl, takes);
      limit = λ none larger is. absurd (cc);
      tables = λ none larger. record {
        taken = λ is. absurd (cc);
        zeros = λ zero lacks. never (subst (λ (m : PreallocateMode). IsTrue (takes_over c.args.self.now m)) zero takes);
        version = λ zero lacks. never (subst (λ (m : PreallocateMode). IsTrue (takes_over c.args.self.now m)) zero takes);
      };
      freed = λ none larger isnt. absurd (isnt takes);
    }

pub returns-clause-sound : goal.returns-clause-sound
returns-clause-sound g c = λ out sound.
    let grown = c.grow_disk.ensures.sound out sound in
    record {
      last = grown.last;
      may_fail = λ works larger. IfErr-weaker c.grow_disk.result _ _ (λ e why. inl why) grown.may_fail;
      limit = λ none larger. grown.limit;
      tables = λ none larger. grown.tables;
      freed = λ none larger isnt. grown.freed;
    }
