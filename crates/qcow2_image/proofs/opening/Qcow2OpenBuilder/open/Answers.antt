use Rattle.std.proofs.Common.{◌∙◌, subst, sym}
use Rattle.qcow2_image.proofs.Common.{IsHonestBacking, Opens, IsNewlyOpened, OpeningStep, Missing, Err, Ok}
use Rattle.qcow2_image.proofs.Open.OverDisks.{image_over, opens_over, step_over}
use Rattle.qcow2_image.proofs.opening.Qcow2OpenBuilder.open.Goals as goal

pub returns-in-Err-clause-step : goal.returns-in-Err-clause-step
returns-in-Err-clause-step g c =
    subst (λ (m : Missing). OpeningStep g.S.Storage.view (g.S.Storage.view c.args.self.image) c.args.self.writable m (Err c.in-Err.refused)) c.missing-missing.ensures
    (subst (λ s. OpeningStep g.S.Storage.view (g.S.Storage.view s) c.args.self.writable c.missing-missing.result (Err c.in-Err.refused)) c.new.ensures.storage c.in-Err.ensures.step)

pub returns-clause-step : goal.returns-clause-step
returns-clause-step g c =
    step_over g.S.Storage.view (g.S.Storage.view c.args.self.image) c.args.self.writable _ c.in-Ok.image c.flatten-disk.result c.flatten-file.result
    (subst (λ (m : Missing). OpeningStep g.S.Storage.view (g.S.Storage.view c.args.self.image) c.args.self.writable m (Ok c.in-Ok.image)) c.missing-missing.ensures
    (subst (λ s. OpeningStep g.S.Storage.view (g.S.Storage.view s) c.args.self.writable c.missing-missing.result (Ok c.in-Ok.image)) c.new.ensures.storage c.in-Ok.ensures.step))

pub returns-clause-image : goal.returns-clause-image
returns-clause-image g c =
    image_over (g.S.Storage.view c.args.self.image) c.args.self.writable c.args.self.number c.in-Ok.image c.flatten-disk.result c.flatten-file.result
    (subst (λ s. IsNewlyOpened (g.S.Storage.view s) c.args.self.writable c.args.self.number c.in-Ok.image) c.new.ensures.storage c.in-Ok.ensures.image)

pub returns-clause-opens : goal.returns-clause-opens
returns-clause-opens g c = λ stays none.
    opens_over g.S.Storage.view g.F.BackingDisk.backing (g.S.Storage.view c.args.self.image) c.in-Ok.image c.flatten-disk.result c.flatten-file.result (subst (IsHonestBacking g.S.Storage.view g.F.BackingDisk.backing) (sym c.flatten-disk.ensures) stays) (c.flatten-file.ensures ∙ none)
    (subst (λ s. Opens g.S.Storage.view g.F.BackingDisk.backing (g.S.Storage.view s) c.in-Ok.image) c.new.ensures.storage c.in-Ok.ensures.opens)
