use Rattle.std.proofs.Common.{◌≡◌, ◌+◌, ◌-◌, ◌≤◌, ℕ, subst, arith}
use Rattle.nbd_protocol.proofs.Common.{MayZero, Zeroes}
use Rattle.nbd_protocol.proofs.Acts.{acts_then}
use Rattle.nbd_protocol.proofs.Ranges.{may_so_far, may_then, zeroes_join}
use Rattle.nbd_protocol.proofs.Refusals.{change_fails_last, same_then}
use Rattle.nbd_protocol.proofs.commands.zero.Goals as goal

pub returns-clause-sound : goal.returns-clause-sound
returns-clause-sound g c = let view = g.D.Device.view in
    let a = view c.args.device.now in let b = view c.zero_units.new.device in let d = view c.write_zeros-2.new.device in let end = c.args.offset + c.args.count in let at = c.in_ok-at.at in
    let low : c.args.offset ≤ at = c.in_ok-at.ensures.within.0 in
    let high : at ≤ end = c.in_ok-at.ensures.within.1 in
    let is : at + (end - at) ≡ end = omega arith in
    acts_then a b d (λ done. Zeroes at (at + (end - at)) b d) (λ done. Zeroes c.args.offset end a d) (MayZero at (at + (end - at)) b d) (MayZero c.args.offset end a d) c.write_zeros-2.result
    (λ sound. (c.in_ok-at.ensures.zeroes sound).0) c.write_zeros-2.ensures.sound
    (λ sound done z. zeroes_join c.args.offset at end a b d (c.in_ok-at.ensures.zeroes sound).1 (subst (λ (k : ℕ). Zeroes at k b d) is z) low high)
    (λ sound m. may_then c.args.offset end at end a b d (may_so_far c.args.offset at end a b (c.in_ok-at.ensures.zeroes sound).1 high) (subst (λ (k : ℕ). MayZero at k b d) is m) low (omega arith))

pub returns-clause-step : goal.returns-clause-step
returns-clause-step g c = let view = g.D.Device.view in same_then (view c.args.device.now) (view c.zero_units.new.device) (view c.write_zeros-2.new.device) c.zero_units.ensures.step c.write_zeros-2.ensures.step

pub returns-clause-fails : goal.returns-clause-fails
returns-clause-fails g c = let view = g.D.Device.view in let end = c.args.offset + c.args.count in let at = c.in_ok-at.at in
    let high : at ≤ end = c.in_ok-at.ensures.within.1 in
    change_fails_last (view c.args.device.now) (view c.zero_units.new.device) (at + (end - at)) end c.write_zeros-2.result c.write_zeros-2.ensures.fails c.zero_units.ensures.step
    (λ sound. let k = c.in_ok-at.ensures.zeroes sound in (k.0, k.1.beside.size, omega arith))
