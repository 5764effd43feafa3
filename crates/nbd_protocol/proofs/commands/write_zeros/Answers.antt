use Rattle.std.proofs.Common.{◌≡◌, ◌+◌, ◌≤◌, inl, inr, length, take, arith}
use Rattle.nbd_protocol.proofs.Common.{length-take-le}
use Rattle.nbd_protocol.proofs.Acts.{acts_refused}
use Rattle.nbd_protocol.proofs.Refusals.{change_fails_later, change_of_call, same_start, same_then}
use Rattle.nbd_protocol.proofs.Ranges.{may_of_front, may_so_far, may_then, zeroes_join, zeroes_of_front, zeroes_start}
use Rattle.nbd_protocol.proofs.commands.write_zeros.Goals as goal

pub loop-rest-init : goal.loop-rest-init
loop-rest-init g c = (omega arith, omega arith, same_start _, λ sound. (sound, zeroes_start _ _))

pub loop-rest-preserved : goal.loop-rest-preserved
loop-rest-preserved g c = (
  omega arith,
  omega arith,
  (let view = g.D.Device.view in same_then (view c.args.device.now) (view c.loop-rest.device) (view c.write.new.self) c.loop-rest.invariant.2 c.write.ensures.step),
  λ sound. let view = g.D.Device.view in
      let a = view c.args.device.now in let b = view c.loop-rest.device in let d = view c.write.new.self in
      let i = c.loop-rest.invariant.3 sound in let k = c.in_ok-write.ensures.sound i.0 in let n = c.min-some.result in
      let few : n ≤ length c.args.zeros.now = omega arith in
      (k.0, zeroes_join c.args.offset c.loop-rest.at (c.loop-rest.at + n) a b d i.1 (zeroes_of_front c.loop-rest.at n c.args.zeros.now b d c.requires.zeros few k.1) c.loop-rest.invariant.1 (omega arith)),
)

pub returns-in_err-write-clause-sound : goal.returns-in_err-write-clause-sound
returns-in_err-write-clause-sound g c = let view = g.D.Device.view in
    let a = view c.args.device.now in let b = view c.loop-rest.device in let d = view c.write.new.self in let end = c.args.offset + c.args.count in let n = c.min-some.result in
    let few : n ≤ length c.args.zeros.now = omega arith in
    acts_refused a d _ _ c.from_residual.result _ c.from_residual.ensures.1
    (λ sound. let i = c.loop-rest.invariant.3 sound in
    elim (c.in_err-write.ensures.sound i.0) [
      | inl kept ↦ inl (
        kept.0,
        may_then c.args.offset end c.loop-rest.at (c.loop-rest.at + n) a b d (may_so_far c.args.offset c.loop-rest.at end a b i.1 (omega arith))
            (may_of_front c.loop-rest.at n c.args.zeros.now b d c.requires.zeros few kept.1) c.loop-rest.invariant.1 (omega arith),
      )
      | inr failed ↦ inr failed
    ])

pub returns-in_err-write-clause-step : goal.returns-in_err-write-clause-step
returns-in_err-write-clause-step g c = let view = g.D.Device.view in same_then (view c.args.device.now) (view c.loop-rest.device) (view c.write.new.self) c.loop-rest.invariant.2 c.write.ensures.step

pub returns-in_err-write-clause-fails : goal.returns-in_err-write-clause-fails
returns-in_err-write-clause-fails g c = let view = g.D.Device.view in let a = view c.args.device.now in let b = view c.loop-rest.device in let n = c.min-some.result in
    let few : n ≤ length c.args.zeros.now = omega arith in
    let is : length (take n c.args.zeros.now) ≡ n = length-take-le n c.args.zeros.now few in
    change_fails_later a b (c.loop-rest.at + length (take n c.args.zeros.now)) _ c.in_err-write.field-0.0 c.from_residual.result c.from_residual.ensures.1 (change_of_call b _ _ c.in_err-write.ensures.fails) c.loop-rest.invariant.2
    (λ sound. let i = c.loop-rest.invariant.3 sound in (i.0, i.1.beside.size, omega (arith, is)))
