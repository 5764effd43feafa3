use Rattle.std.proofs.Common.{◌+◌, ◌<◌, ◌≤◌, inl, inr, arith}
use Rattle.nbd_protocol.proofs.Acts.{acts_refused}
use Rattle.nbd_protocol.proofs.Refusals.{change_fails_later, change_of_call, same_start, same_then}
use Rattle.nbd_protocol.proofs.Trims.{trims_of_clears, trims_of_stays, trims_start, trims_then, trims_wider}
use Rattle.nbd_protocol.proofs.commands.trim.Goals as goal

pub loop-init : goal.loop-init
loop-init g c = (same_start _, λ sound. (sound, trims_start _ _ _, omega arith, omega arith))

pub loop-preserved : goal.loop-preserved
loop-preserved g c = let view = g.D.Device.view in
    let a = view c.args.device.now in let b = view c.loop.device in let d = view c.discard.new.self in (
      same_then a b d c.loop.invariant.0 c.discard.ensures.step,
      λ sound. let i = c.loop.invariant.1 sound in let k = c.in_ok-from.ensures.sound i.0 in
          let from = c.args.offset in let end = c.args.offset + c.args.length in
          let low : c.loop.at ≤ c.in_ok-from.from = k.1.low in
          let some : 0 < c.in_ok-from.count = omega arith in
          let high : c.in_ok-from.from + c.in_ok-from.count ≤ c.loop.at + c.loop.rest = k.1.high some in
          (k.0, trims_then from end a b d i.1 (trims_wider from end c.loop.at (c.loop.at + c.loop.rest) b d (trims_of_clears c.loop.at c.loop.rest _ b d k.1) (omega arith) (omega arith)), omega arith, omega arith),
    )

pub returns-in_err-from-clause-sound : goal.returns-in_err-from-clause-sound
returns-in_err-from-clause-sound g c = let view = g.D.Device.view in let from = c.args.offset in let end = c.args.offset + c.args.length in
    let a = view c.args.device.now in let b = view c.loop.device in let d = view c.discard.new.self in
    acts_refused a d _ _ c.from_residual.result _ c.from_residual.ensures.1
    (λ sound. let i = c.loop.invariant.1 sound in
    elim (c.in_err-from.ensures.sound i.0) [ inl kept ↦ inl (kept.0, trims_then from end a b d i.1 (trims_of_stays from end b d kept.1)) | inr failed ↦ inr failed ])

pub returns-in_err-from-clause-fails : goal.returns-in_err-from-clause-fails
returns-in_err-from-clause-fails g c = let view = g.D.Device.view in let a = view c.args.device.now in let b = view c.loop.device in
    change_fails_later a b (c.loop.at + c.loop.rest) _ c.in_err-from.field-0.0 c.from_residual.result c.from_residual.ensures.1 (change_of_call b _ _ c.in_err-from.ensures.fails) c.loop.invariant.0
    (λ sound. let i = c.loop.invariant.1 sound in (i.0, i.1.size, omega arith))

pub returns-in_err-from-clause-step : goal.returns-in_err-from-clause-step
returns-in_err-from-clause-step g c = let view = g.D.Device.view in same_then (view c.args.device.now) (view c.loop.device) (view c.discard.new.self) c.loop.invariant.0 c.discard.ensures.step
