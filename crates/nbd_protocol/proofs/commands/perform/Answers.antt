use Rattle.nbd_protocol.proofs.Common.{◌∙◌, Bool, inl, Ok, Err, subst, sym, not, Does, IsChecked, MayDo, is_done, Stays}
use Rattle.nbd_protocol.proofs.Acts.{acts_refused, acts_then}
use Rattle.nbd_protocol.proofs.Does.{does_stays, may_do_nothing, may_of_does}
use Rattle.nbd_protocol.proofs.Refusals.{changed_late, persisted_late, refused_early, same_then, unpersisted}
use Rattle.nbd_protocol.proofs.commands.perform.Goals as goal

pub returns-in_err-check-clause-does : goal.returns-in_err-check-clause-does
returns-in_err-check-clause-does g c = let a = g.D.Device.view c.args.device.now in let r = c.args.request.now in
    acts_refused a a _ _ c.from_residual.result _ c.from_residual.ensures.1 (λ sound. inl (sound, may_do_nothing r.command r c.args.buffer.now.items a))

pub returns-in_err-check-clause-fails : goal.returns-in_err-check-clause-fails
returns-in_err-check-clause-fails g c = λ has. let a = g.D.Device.view c.args.device.now in let r = c.args.request.now in let e = c.in_err-check.field-0.0 in
    refused_early a (not (is_done r.command)) r e c.from_residual.result (subst (λ (b : Bool). IsChecked {T = Unit {0}} a (not b) r (Err e)) c.is_done.ensures c.in_err-check.ensures.checked) c.from_residual.ensures.1

pub returns-in_err-change-clause-fails : goal.returns-in_err-change-clause-fails
returns-in_err-change-clause-fails g c = λ has. let a = g.D.Device.view c.args.device.now in let r = c.args.request.now in
    changed_late a r c.in_err-change.field-0.0 c.from_residual-in_err-change.result (subst (λ (b : Bool). IsChecked {T = Unit {0}} a (not b) r (Ok tt)) c.is_done.ensures c.in_ok-check.ensures.checked) c.from_residual-in_err-change.ensures.1
    (c.in_err-change.ensures.fails has) c.in_err-change.ensures.changes

pub returns-then-persists-clause-does : goal.returns-then-persists-clause-does
returns-then-persists-clause-does g c = let view = g.D.Device.view in let r = c.args.request.now in let p = c.args.buffer.now.items in
    let a = view c.args.device.now in let b = view c.change.new.device in let d = view c.persist.new.device in
    acts_then a b d (λ done. Stays b d) (λ done. Does r.command r p a d) (Stays b d) (MayDo r.command r p a d) c.persist.result
    (λ sound. (c.in_ok-change.ensures.does sound).0) c.persist.ensures.stays
    (λ sound done s. does_stays r.command r p a b d (c.in_ok-change.ensures.does sound).1 s)
    (λ sound s. may_of_does r.command r p a d (does_stays r.command r p a b d (c.in_ok-change.ensures.does sound).1 s))

pub returns-then-persists-clause-step : goal.returns-then-persists-clause-step
returns-then-persists-clause-step g c = let view = g.D.Device.view in same_then (view c.args.device.now) (view c.change.new.device) (view c.persist.new.device) c.change.ensures.step c.persist.ensures.step

pub returns-then-persists-clause-fails : goal.returns-then-persists-clause-fails
returns-then-persists-clause-fails g c = λ has. let view = g.D.Device.view in let a = view c.args.device.now in let r = c.args.request.now in
    persisted_late a (view c.change.new.device) r c.persist.result (subst (λ (b : Bool). IsChecked {T = Unit {0}} a (not b) r (Ok tt)) c.is_done.ensures c.in_ok-check.ensures.checked) c.change.ensures.step (λ sound. (c.in_ok-change.ensures.does sound).0) c.persist.ensures.fails

pub returns-clause-fails : goal.returns-clause-fails
returns-clause-fails g c = λ has. let a = g.D.Device.view c.args.device.now in let r = c.args.request.now in
    unpersisted a r (subst (λ (b : Bool). IsChecked {T = Unit {0}} a (not b) r (Ok tt)) c.is_done.ensures c.in_ok-check.ensures.checked) c.in_ok-change.ensures.failed (sym c.persists.ensures ∙ c.if-persists.false)
