use Rattle.qimg_nbd.proofs.Common.{[], to_kept_zero}
use Rattle.qimg_nbd.proofs.Errors.{clearing_cause, failed_clearing, fails_answered, fails_refused, same_device}
use Rattle.qimg_nbd.proofs.Images.{cleared, refused_same}
use Rattle.qimg_nbd.proofs.image_device.ImageDeviceDevice.zero.Goals as goal
use Rattle.qcow2_image.specs.ImageInvariant.{in_image}

pub returns-in-Ok-clause-step : goal.returns-in-Ok-clause-step
returns-in-Ok-clause-step g c = same_device g.S.Storage.view g.F.BackingDisk.backing c.args.self.now.image c.ensure_zero_mapping.new.self c.ensure_zero_mapping.ensures.step.image (λ f. (failed_clearing g.S.Storage.view g.F.BackingDisk.backing c.args.self.now.image c.ensure_zero_mapping.new.self c.args.offset c.args.length to_kept_zero c.ensure_zero_mapping.result c.ensure_zero_mapping.ensures.fails.early f).1)

pub returns-in-Ok-clause-fails : goal.returns-in-Ok-clause-fails
returns-in-Ok-clause-fails g c = fails_answered _ _ c.ensure_zero_mapping.result _ _ c.in-Ok.is (λ f. (failed_clearing g.S.Storage.view g.F.BackingDisk.backing c.args.self.now.image c.ensure_zero_mapping.new.self c.args.offset c.args.length to_kept_zero c.ensure_zero_mapping.result c.ensure_zero_mapping.ensures.fails.early f).0)

pub returns-in-Ok-clause-sound : goal.returns-in-Ok-clause-sound
returns-in-Ok-clause-sound g c = cleared g.S.Storage.view g.F.BackingDisk.backing c.args.self.now.image c.ensure_zero_mapping.new.self c.args.offset c.args.length c.in-Ok.part _ (c.in-Ok.ensures.sound.sees (in_image []))

pub returns-in-Err-clause-step : goal.returns-in-Err-clause-step
returns-in-Err-clause-step g c = same_device g.S.Storage.view g.F.BackingDisk.backing c.args.self.now.image c.ensure_zero_mapping.new.self c.ensure_zero_mapping.ensures.step.image (λ f. (failed_clearing g.S.Storage.view g.F.BackingDisk.backing c.args.self.now.image c.ensure_zero_mapping.new.self c.args.offset c.args.length to_kept_zero c.ensure_zero_mapping.result c.ensure_zero_mapping.ensures.fails.early f).1)

pub returns-in-Err-clause-fails : goal.returns-in-Err-clause-fails
returns-in-Err-clause-fails g c = fails_refused _ _ c.ensure_zero_mapping.result c.in-Err.refusal c.errno_of.result c.in-Err.is c.errno_of.ensures (λ f. (failed_clearing g.S.Storage.view g.F.BackingDisk.backing c.args.self.now.image c.ensure_zero_mapping.new.self c.args.offset c.args.length to_kept_zero c.ensure_zero_mapping.result c.ensure_zero_mapping.ensures.fails.early f).0)
    (clearing_cause g.S.Storage.view g.F.BackingDisk.backing c.args.self.now.image c.ensure_zero_mapping.new.self c.args.offset c.args.length to_kept_zero c.ensure_zero_mapping.result c.in-Err.refusal c.in-Err.is c.ensure_zero_mapping.ensures.fails.early c.in-Err.ensures.fails.late)

pub returns-in-Err-clause-sound : goal.returns-in-Err-clause-sound
returns-in-Err-clause-sound g c = refused_same g.S.Storage.view g.F.BackingDisk.backing c.args.self.now.image c.ensure_zero_mapping.new.self _ _ (c.in-Err.ensures.sound.sees (in_image []))
