use Rattle.qimg_nbd.proofs.Common.{[]}
use Rattle.qimg_nbd.proofs.Errors.{failed_reading, fails_answered, fails_refused, reading_cause, same_device}
use Rattle.qimg_nbd.proofs.Images.{read_bytes, refused_same}
use Rattle.qimg_nbd.proofs.image_device.ImageDeviceDevice.read.Goals as goal
use Rattle.qcow2_image.specs.ImageInvariant.{in_image}

pub returns-in-Ok-clause-step : goal.returns-in-Ok-clause-step
returns-in-Ok-clause-step g c = same_device g.S.Storage.view g.F.BackingDisk.backing c.args.self.now.image c.read_into.new.image c.read_into.ensures.step.image (λ f. (failed_reading g.S.Storage.view g.F.BackingDisk.backing c.args.self.now.image c.read_into.new.image c.args.offset _ c.read_into.result c.read_into.ensures.fails.early f).1)

pub returns-in-Ok-clause-fails : goal.returns-in-Ok-clause-fails
returns-in-Ok-clause-fails g c = fails_answered _ _ c.read_into.result _ _ c.in-Ok.is (λ f. (failed_reading g.S.Storage.view g.F.BackingDisk.backing c.args.self.now.image c.read_into.new.image c.args.offset _ c.read_into.result c.read_into.ensures.fails.early f).0)

pub returns-in-Ok-clause-sound : goal.returns-in-Ok-clause-sound
returns-in-Ok-clause-sound g c = read_bytes g.S.Storage.view g.F.BackingDisk.backing c.args.self.now.image c.read_into.new.image c.args.offset _ (c.in-Ok.ensures.sees (in_image []))

pub returns-in-Err-clause-step : goal.returns-in-Err-clause-step
returns-in-Err-clause-step g c = same_device g.S.Storage.view g.F.BackingDisk.backing c.args.self.now.image c.read_into.new.image c.read_into.ensures.step.image (λ f. (failed_reading g.S.Storage.view g.F.BackingDisk.backing c.args.self.now.image c.read_into.new.image c.args.offset _ c.read_into.result c.read_into.ensures.fails.early f).1)

pub returns-in-Err-clause-fails : goal.returns-in-Err-clause-fails
returns-in-Err-clause-fails g c = fails_refused _ _ c.read_into.result c.in-Err.refusal c.errno_of.result c.in-Err.is c.errno_of.ensures (λ f. (failed_reading g.S.Storage.view g.F.BackingDisk.backing c.args.self.now.image c.read_into.new.image c.args.offset _ c.read_into.result c.read_into.ensures.fails.early f).0)
    (reading_cause g.S.Storage.view g.F.BackingDisk.backing c.args.self.now.image c.read_into.new.image c.args.offset _ c.read_into.result c.in-Err.refusal c.in-Err.is c.read_into.ensures.fails.early c.in-Err.ensures.fails.cause c.in-Err.ensures.fails.beyond c.in-Err.ensures.fails.may_fail)

pub returns-in-Err-clause-sound : goal.returns-in-Err-clause-sound
returns-in-Err-clause-sound g c = refused_same g.S.Storage.view g.F.BackingDisk.backing c.args.self.now.image c.read_into.new.image _ _ (c.in-Err.ensures.sees (in_image []))
