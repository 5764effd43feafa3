use Rattle.qimg_nbd.proofs.Common.{[], is_failed}
use Rattle.qimg_nbd.proofs.Errors.{fails_answered, fails_refused, fault_told, same_device, usable}
use Rattle.qimg_nbd.proofs.Images.{answered_flush, refused_same}
use Rattle.qimg_nbd.proofs.image_device.ImageDeviceDevice.flush.Goals as goal
use Rattle.qcow2_image.specs.ImageInvariant.{in_image}

pub returns-in-Ok-clause-step : goal.returns-in-Ok-clause-step
returns-in-Ok-clause-step g c = same_device g.S.Storage.view g.F.BackingDisk.backing c.args.self.now.image c.flush.new.self c.flush.ensures.step.image (λ f. (c.flush.ensures.early f).1)

pub returns-in-Ok-clause-fails : goal.returns-in-Ok-clause-fails
returns-in-Ok-clause-fails g c = fails_answered _ _ c.flush.result _ _ c.in-Ok.is (λ f. (c.flush.ensures.early f).0)

pub returns-in-Ok-clause-flushed : goal.returns-in-Ok-clause-flushed
returns-in-Ok-clause-flushed g c = record { usable = usable (is_failed c.args.self.now.image) c.flush.result _ _ c.in-Ok.is c.flush.ensures.early; flushes = c.in-Ok.ensures.sees }

pub returns-in-Ok-clause-sound : goal.returns-in-Ok-clause-sound
returns-in-Ok-clause-sound g c = answered_flush g.S.Storage.view g.F.BackingDisk.backing c.args.self.now.image c.flush.new.self _ (c.in-Ok.ensures.sees (in_image []))

pub returns-in-Err-clause-step : goal.returns-in-Err-clause-step
returns-in-Err-clause-step g c = same_device g.S.Storage.view g.F.BackingDisk.backing c.args.self.now.image c.flush.new.self c.flush.ensures.step.image (λ f. (c.flush.ensures.early f).1)

pub returns-in-Err-clause-fails : goal.returns-in-Err-clause-fails
returns-in-Err-clause-fails g c = fails_refused _ _ c.flush.result c.in-Err.refusal c.errno_of.result c.in-Err.is c.errno_of.ensures (λ f. (c.flush.ensures.early f).0) (λ sound. fault_told c.in-Err.refusal (c.in-Err.ensures.fails.fault (in_image []) sound))

pub returns-in-Err-clause-sound : goal.returns-in-Err-clause-sound
returns-in-Err-clause-sound g c = refused_same g.S.Storage.view g.F.BackingDisk.backing c.args.self.now.image c.flush.new.self _ _ (c.in-Err.ensures.sees (in_image []))
