use Rattle.std.proofs.Common.{◌+◌, ◌<◌, ◌≤◌, ◌∙◌, inl, inr, arith}
use Rattle.nbd_protocol.proofs.Acts.{acts_refused}
use Rattle.nbd_protocol.proofs.Ranges.{may_of_stays, may_of_zeroes, may_so_far, may_then, zeroes_start, zeroes_units}
use Rattle.nbd_protocol.proofs.Refusals.{change_fails_later, same_start, same_then}
use Rattle.nbd_protocol.proofs.commands.zero_units.Goals as goal

pub loop-init : goal.loop-init
loop-init g c = (omega arith, omega arith, same_start _, λ sound. (sound, zeroes_start _ _))

pub loop-preserved : goal.loop-preserved
loop-preserved g c = (
  omega arith,
  omega arith,
  (let view = g.D.Device.view in let b = view c.loop.device in let d = view c.clear.new.device in let e = view c.write_zeros.new.device in
      same_then (view c.args.device.now) b e c.loop.invariant.2 (same_then b d e c.clear.ensures.step c.write_zeros.ensures.step)),
  λ sound.
      let view = g.D.Device.view in
      let i = c.loop.invariant.3 sound in let k = c.in_ok-from.ensures.sound i.0 in let w = c.in_ok-write_zeros.ensures.sound k.0 in
      let some : 0 < c.in_ok-from.cleared = omega arith in
      let low : c.loop.at ≤ c.in_ok-from.from = k.1.low in
      let high : c.in_ok-from.from + c.in_ok-from.cleared ≤ c.loop.at + c.loop.rest = k.1.high some in
      (w.0, zeroes_units c.args.offset c.loop.at c.loop.rest c.in_ok-from.from c.in_ok-from.cleared _ _ (view c.args.device.now) (view c.loop.device) (view c.clear.new.device) (view c.write_zeros.new.device) i.1 k.1 w.1 c.loop.invariant.1 (omega arith) (omega arith)),
)

pub returns-in_err-from-clause-zeroes : goal.returns-in_err-from-clause-zeroes
returns-in_err-from-clause-zeroes g c = let view = g.D.Device.view in
    let a = view c.args.device.now in let b = view c.loop.device in let d = view c.clear.new.device in let end = c.args.offset + c.args.count in
    acts_refused a d _ _ c.from_residual.result _ c.from_residual.ensures.1
    (λ sound. let i = c.loop.invariant.3 sound in
    elim (c.in_err-from.ensures.sound i.0) [
      | inl kept ↦ inl (kept.0, may_then c.args.offset end c.args.offset end a b d (may_so_far c.args.offset c.loop.at end a b i.1 (omega arith)) (may_of_stays c.args.offset end b d kept.1) (omega arith) (omega arith))
      | inr failed ↦ inr failed
    ])

pub returns-in_err-write_zeros-clause-zeroes : goal.returns-in_err-write_zeros-clause-zeroes
returns-in_err-write_zeros-clause-zeroes g c = let view = g.D.Device.view in
    let a = view c.args.device.now in let b = view c.loop.device in let d = view c.clear.new.device in let e = view c.write_zeros.new.device in let end = c.args.offset + c.args.count in
    acts_refused a e _ _ c.from_residual-in_err-write_zeros.result _ c.from_residual-in_err-write_zeros.ensures.1
    (λ sound. let i = c.loop.invariant.3 sound in let k = c.in_ok-from.ensures.sound i.0 in
    let some : 0 < c.in_ok-from.cleared = omega arith in
    let low : c.loop.at ≤ c.in_ok-from.from = k.1.low in
    let high : c.in_ok-from.from + c.in_ok-from.cleared ≤ c.loop.at + c.loop.rest = k.1.high some in
    elim (c.in_err-write_zeros.ensures.sound k.0) [
      | inl kept ↦ inl (
        kept.0,
        may_then c.args.offset end _ _ a d e
            (may_then c.args.offset end c.in_ok-from.from (c.in_ok-from.from + c.in_ok-from.cleared) a b d (may_so_far c.args.offset c.loop.at end a b i.1 (omega arith)) (may_of_zeroes _ _ b d k.1.zeroes) (omega arith) (omega arith))
            kept.1 (omega arith) (omega arith),
      )
      | inr failed ↦ inr failed
    ])

pub returns-in_err-from-clause-step : goal.returns-in_err-from-clause-step
returns-in_err-from-clause-step g c = let view = g.D.Device.view in same_then (view c.args.device.now) (view c.loop.device) (view c.clear.new.device) c.loop.invariant.2 c.clear.ensures.step

pub returns-in_err-from-clause-fails : goal.returns-in_err-from-clause-fails
returns-in_err-from-clause-fails g c = let view = g.D.Device.view in let a = view c.args.device.now in let b = view c.loop.device in
    change_fails_later a b (c.loop.at + c.loop.rest) _ c.in_err-from.field-0.0 c.from_residual.result c.from_residual.ensures.1 c.in_err-from.ensures.fails c.loop.invariant.2
    (λ sound. let i = c.loop.invariant.3 sound in (i.0, i.1.beside.size, omega arith))

pub returns-in_err-write_zeros-clause-step : goal.returns-in_err-write_zeros-clause-step
returns-in_err-write_zeros-clause-step g c = let view = g.D.Device.view in let b = view c.loop.device in let d = view c.clear.new.device in let e = view c.write_zeros.new.device in
    same_then (view c.args.device.now) b e c.loop.invariant.2 (same_then b d e c.clear.ensures.step c.write_zeros.ensures.step)

pub returns-in_err-write_zeros-clause-fails : goal.returns-in_err-write_zeros-clause-fails
returns-in_err-write_zeros-clause-fails g c = let view = g.D.Device.view in let a = view c.args.device.now in let b = view c.loop.device in let d = view c.clear.new.device in
    let at = c.loop.at in let cut = c.min-cut.result in
    change_fails_later a d (at + cut) _ c.in_err-write_zeros.field-0.0 c.from_residual-in_err-write_zeros.result c.from_residual-in_err-write_zeros.ensures.1 c.in_err-write_zeros.ensures.fails (same_then a b d c.loop.invariant.2 c.clear.ensures.step)
    (λ sound. let i = c.loop.invariant.3 sound in let k = c.in_ok-from.ensures.sound i.0 in (k.0, k.1.zeroes.beside.size ∙ i.1.beside.size, omega arith))
