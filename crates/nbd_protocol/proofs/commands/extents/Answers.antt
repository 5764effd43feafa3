use Rattle.std.proofs.Common.{◌<◌, ◌∙◌, ap, inl, inr, length, length-append, sym, rules, arith, Err}
use Rattle.nbd_protocol.specs.declared.device.Errno.TheVariants as E
use Rattle.nbd_protocol.proofs.Acts.{acts_refused}
use Rattle.nbd_protocol.proofs.Extents.{pushed_runs, pushed_total}
use Rattle.nbd_protocol.proofs.Ranges.{stays_then}
use Rattle.nbd_protocol.proofs.Refusals.{refused_late, same_then}
use Rattle.nbd_protocol.proofs.commands.extents.Goals as goal

pub loop-preserved : goal.loop-preserved
loop-preserved g c = let view = g.D.Device.view in
    let a = view c.args.device.now in let b = view c.loop.device in let d = view c.run_at.new.device in
    let I = c.loop.invariant in let is = c.in_ok-push.ensures.items in
    let some : 0 < c.in_ok-state.count = omega arith in (
      omega (arith, c.in_ok-state.ensures.within),
      omega (arith, simp length-append at (ap length is)),
      omega (arith, pushed_total _ _ _ is),
      same_then a b d I.3 c.run_at.ensures.step,
      λ failed. let never = c.in_ok-state.ensures.fails.failed (I.3.failed failed) in absurd cc,
      λ sound. let i = I.5 sound in let k = c.in_ok-state.ensures.sound i.0 in (
        k.0,
        stays_then a b d i.1 k.1.1,
        pushed_runs a c.args.request.now.offset _ _ _ is i.2 some
            (λ zero o lt low high. sym (i.1.values o lt (inr (omega arith))) ∙ k.1.0.zeros zero o (omega (arith, i.1.size, lt)) (omega (arith, I.2, low)) (omega (arith, I.2, high))),
      ),
    )

pub returns-in_err-state-clause-sound : goal.returns-in_err-state-clause-sound
returns-in_err-state-clause-sound g c = let view = g.D.Device.view in
    let a = view c.args.device.now in let b = view c.loop.device in let d = view c.run_at.new.device in
    acts_refused a d _ _ c.from_residual-in_err-state.result _ c.from_residual-in_err-state.ensures.1
    (λ sound. let i = c.loop.invariant.5 sound in elim (c.in_err-state.ensures.sound i.0) [ inl kept ↦ inl (kept.0, stays_then a b d i.1 kept.1) | inr failed ↦ inr failed ])

pub returns-then-is_empty-clause-fails : goal.returns-then-is_empty-clause-fails
returns-then-is_empty-clause-fails g c = refused_late (g.D.Device.view c.args.device.now) _ c.args.request.now (Err E.Io) c.in_ok-check.ensures.checked (λ sound. tt) (λ failed asks. tt)

pub returns-clause-fails : goal.returns-clause-fails
returns-clause-fails g c = let some : 0 < length c.loop.found.items = search rules in
    refused_late (g.D.Device.view c.args.device.now) _ c.args.request.now _ c.in_ok-check.ensures.checked (λ sound. tt) (λ failed asks. absurd (omega (arith, ap length (c.loop.invariant.4 failed), some)))
