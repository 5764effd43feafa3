use Rattle.std.proofs.Common.{◌∷◌, ◌++◌, sym, subst, [], Option, rules}
use Rattle.qcow2_session.proofs.Common.{image_abstraction, ReleasesMappings, free_places, behind_none, in_image}
use Rattle.qcow2_session.proofs.Lemmas.{last_none, last_release, quiet_release}
use Rattle.qcow2_session.proofs.session.release_slot.Goals as goal
use Rattle.qcow2_image.specs.declared.mapping.Place.TheVariants.{Image}

pub returns-in-Some-clause-sees : goal.returns-in-Some-clause-sees
returns-in-Some-clause-sees g c = λ out.
    let view = g.S.Storage.view in
    let below = g.F.BackingDisk.backing in
    subst (λ (q : Option _). ReleasesMappings view below c.args.image.now c.release.new.image (out ++ q ∷ []) out) (sym c.in-Some.is)
    (last_release (image_abstraction view below) (free_places view below Image) c.args.image.now c.release.new.image c.in-Some.prepared out (λ o. c.release.ensures.sees (in_image o)))

pub returns-in_default-clause-sees : goal.returns-in_default-clause-sees
returns-in_default-clause-sees g c = λ out.
    let view = g.S.Storage.view in
    let below = g.F.BackingDisk.backing in
    let old = c.args.image.now in
    subst (λ (q : Option _). ReleasesMappings view below old old (out ++ q ∷ []) out) (sym c.in_default.is) (last_none (image_abstraction view below) (free_places view below Image) old out)

pub returns-in_default-clause-step : goal.returns-in_default-clause-step
returns-in_default-clause-step g c = record { image = search rules; faults = search rules; header_cluster = behind_none; marks = search rules; quiet = search rules }

pub returns-in-Some-clause-step : goal.returns-in-Some-clause-step
returns-in-Some-clause-step g c = record { image = search rules; faults = search rules; header_cluster = search rules; marks = search rules; quiet = quiet_release g.S.Storage.view c.args.image.now c.release.new.image c.release.ensures.rest }
