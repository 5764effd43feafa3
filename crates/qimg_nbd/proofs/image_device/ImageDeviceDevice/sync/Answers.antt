use Rattle.qimg_nbd.proofs.Common.{[], is_failed}
use Rattle.qimg_nbd.proofs.Errors.{fails_answered, fails_refused, same_device, sync_told, usable}
use Rattle.qimg_nbd.proofs.Images.{answered_same, refused_same}
use Rattle.qimg_nbd.proofs.image_device.ImageDeviceDevice.sync.Goals as goal
use Rattle.qcow2_image.specs.ImageInvariant.{in_image}

pub returns-in-Ok-clause-step : goal.returns-in-Ok-clause-step
returns-in-Ok-clause-step g c = same_device g.S.Storage.view g.F.BackingDisk.backing c.args.self.now.image c.sync.new.self c.sync.ensures.step.image (λ f. (c.sync.ensures.early f).1)

pub returns-in-Ok-clause-fails : goal.returns-in-Ok-clause-fails
returns-in-Ok-clause-fails g c = fails_answered _ _ c.sync.result _ _ c.in-Ok.is (λ f. (c.sync.ensures.early f).0)

pub returns-in-Ok-clause-synced : goal.returns-in-Ok-clause-synced
returns-in-Ok-clause-synced g c = record { usable = usable (is_failed c.args.self.now.image) c.sync.result _ _ c.in-Ok.is c.sync.ensures.early; step = c.in-Ok.ensures.step; silent = c.sync.ensures.silent; sees = c.in-Ok.ensures.sees }

pub returns-in-Ok-clause-sound : goal.returns-in-Ok-clause-sound
returns-in-Ok-clause-sound g c = answered_same g.S.Storage.view g.F.BackingDisk.backing c.args.self.now.image c.sync.new.self (c.in-Ok.ensures.sees (in_image []))

pub returns-in-Err-clause-step : goal.returns-in-Err-clause-step
returns-in-Err-clause-step g c = same_device g.S.Storage.view g.F.BackingDisk.backing c.args.self.now.image c.sync.new.self c.sync.ensures.step.image (λ f. (c.sync.ensures.early f).1)

pub returns-in-Err-clause-fails : goal.returns-in-Err-clause-fails
returns-in-Err-clause-fails g c = fails_refused _ _ c.sync.result c.in-Err.refusal c.errno_of.result c.in-Err.is c.errno_of.ensures (λ f. (c.sync.ensures.early f).0) (λ sound. sync_told (is_failed c.args.self.now.image) c.in-Err.refusal c.sync.result c.in-Err.is c.sync.ensures.early c.in-Err.ensures.late)

pub returns-in-Err-clause-sound : goal.returns-in-Err-clause-sound
returns-in-Err-clause-sound g c = refused_same g.S.Storage.view g.F.BackingDisk.backing c.args.self.now.image c.sync.new.self _ _ (c.in-Err.ensures.sees (in_image []))
