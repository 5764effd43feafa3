use Rattle.std.proofs.Common.{◌≡◌, ◌+◌, ◌∙◌, ap, inl, length, ℕ, List, sym, subst}
use Rattle.nbd_protocol.proofs.Common.{Command, Does, MayDo, end_of, Acts, Fails, MayWrite, RefusesToChange, Writes}
use Rattle.nbd_protocol.proofs.Does.{may_do_nothing}
use Rattle.nbd_protocol.proofs.Refusals.{change_of_call}
use Rattle.nbd_protocol.proofs.Ranges.{stays_start}
use Rattle.nbd_protocol.proofs.commands.change.Goals as goal

pub returns-in-Write-clause-does : goal.returns-in-Write-clause-does
returns-in-Write-clause-does g c = let view = g.D.Device.view in let r = c.args.request.now in let p = c.args.buffer.now.items in
    let a = view c.args.device.now in let b = view c.write.new.self in
    let wrote = subst (λ (bytes : List ℕ). Acts a b (λ done. Writes r.offset bytes a b) (MayWrite r.offset bytes a b) c.write.result) c.deref.ensures.value c.write.ensures.sound in
    subst (λ (k : Command). Acts a b (λ done. Does k r p a b) (MayDo k r p a b) c.write.result) (sym c.in-Write.is) wrote

pub returns-in-Trim-clause-does : goal.returns-in-Trim-clause-does
returns-in-Trim-clause-does g c = let view = g.D.Device.view in let r = c.args.request.now in let p = c.args.buffer.now.items in
    let a = view c.args.device.now in let b = view c.trim.new.device in
    subst (λ (k : Command). Acts a b (λ done. Does k r p a b) (MayDo k r p a b) c.trim.result) (sym c.in-Trim.is) c.trim.ensures.sound

pub returns-in-WriteZeroes-clause-does : goal.returns-in-WriteZeroes-clause-does
returns-in-WriteZeroes-clause-does g c = let view = g.D.Device.view in let r = c.args.request.now in let p = c.args.buffer.now.items in
    let a = view c.args.device.now in let b = view c.write_zeroes.new.device in
    subst (λ (k : Command). Acts a b (λ done. Does k r p a b) (MayDo k r p a b) c.write_zeroes.result) (sym c.in-WriteZeroes.is) c.write_zeroes.ensures.sound

pub returns-in-Flush-clause-does : goal.returns-in-Flush-clause-does
returns-in-Flush-clause-does g c = λ sound. let a = g.D.Device.view c.args.device.now in let r = c.args.request.now in let p = c.args.buffer.now.items in
    (sound, subst (λ (k : Command). Does k r p a a) (sym c.in-Flush.is) (stays_start a))

pub returns-in-Cache-clause-does : goal.returns-in-Cache-clause-does
returns-in-Cache-clause-does g c = λ sound. let a = g.D.Device.view c.args.device.now in let r = c.args.request.now in let p = c.args.buffer.now.items in
    (sound, subst (λ (k : Command). Does k r p a a) (sym c.in-Cache.is) (stays_start a))

pub returns-in_default-clause-does : goal.returns-in_default-clause-does
returns-in_default-clause-does g c = λ sound. inl (sound, may_do_nothing c.args.request.now.command c.args.request.now c.args.buffer.now.items (g.D.Device.view c.args.device.now))

pub returns-in-Write-clause-fails : goal.returns-in-Write-clause-fails
returns-in-Write-clause-fails g c = λ has done. let a = g.D.Device.view c.args.device.now in let r = c.args.request.now in
    let count : length c.args.buffer.now.items ≡ r.length = has c.in-Write.is in
    change_of_call a (end_of r) c.write.result (subst (λ (n : ℕ). Fails a (RefusesToChange a (r.offset + n)) c.write.result) (ap (λ (xs : List ℕ). length xs) c.deref.ensures.value ∙ count) c.write.ensures.fails)
