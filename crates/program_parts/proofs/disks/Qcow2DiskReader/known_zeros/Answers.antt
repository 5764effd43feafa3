use Rattle.program_parts.proofs.Common.{known_in, Disk, Shows}
use Rattle.std.proofs.Common.{[], ap, arith, subst, is_some, replicate}
use Rattle.qcow2_disk.specs.AbstractImages.{Guest}
use Rattle.qcow2_disk.specs.Found.{IsFoundIn, Kind}
use Rattle.qcow2_image.specs.Found.{found_kind}
use Rattle.qcow2_session.proofs.Exporting.{zeros_there}
use Rattle.program_parts.proofs.disks.Qcow2DiskReader.known_zeros.Goals as goal
use Rattle.qcow2_image.specs.ImageInvariant.{in_image}

pub returns-in-Zero-clause-zeros : goal.returns-in-Zero-clause-zeros
returns-in-Zero-clause-zeros g c = λ sound.
    let view = g.S.Storage.view in
    let below = g.F.BackingDisk.backing in
    let new = c.get_mapping.new.self in
    let n = c.in_ok-mapping.found in
    let still = (c.in_ok-mapping.ensures.sees (in_image [])).answer sound in
    let found = subst (λ (k : Kind). IsFoundIn (known_in view new.file) (is_some new.backing) c.args.at c.args.max k n) (ap found_kind c.in-Zero.is) ((c.in_ok-mapping.ensures.sound (in_image []) sound).run) in
    subst (λ (d : Disk). Shows d c.args.at (replicate n 0)) (ap (λ (x : Guest). x.disk) still.1) (zeros_there view below new (in_image []) still.0 c.args.at c.args.max n c.in-Zero.explicit found)

pub returns-in-Zero-clause-same : goal.returns-in-Zero-clause-same
returns-in-Zero-clause-same g c = λ sound. let still = (c.in_ok-mapping.ensures.sees (in_image [])).answer sound in record { honest = still.0; disk = ap (λ (x : Guest). x.disk) still.1 }

pub returns-in-Zero-clause-step : goal.returns-in-Zero-clause-step
returns-in-Zero-clause-step g c = record { written = c.get_mapping.ensures.step.quiet.tables; quiet = c.get_mapping.ensures.step.quiet.quiet }

pub returns-in_default-clause-zeros : goal.returns-in_default-clause-zeros
returns-in_default-clause-zeros g c = λ sound i lt. absurd (omega (arith, lt))

pub returns-in_default-clause-same : goal.returns-in_default-clause-same
returns-in_default-clause-same g c = λ sound. let still = (c.in_ok-mapping.ensures.sees (in_image [])).answer sound in record { honest = still.0; disk = ap (λ (x : Guest). x.disk) still.1 }

pub returns-in_default-clause-step : goal.returns-in_default-clause-step
returns-in_default-clause-step g c = record { written = c.get_mapping.ensures.step.quiet.tables; quiet = c.get_mapping.ensures.step.quiet.quiet }

pub returns-in_err-mapping-clause-step : goal.returns-in_err-mapping-clause-step
returns-in_err-mapping-clause-step g c = record { written = c.get_mapping.ensures.step.quiet.tables; quiet = c.get_mapping.ensures.step.quiet.quiet }
