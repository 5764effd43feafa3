use Rattle.qimg_nbd.proofs.Common.{[]}
use Rattle.qimg_nbd.proofs.Errors.{failed_looking, fails_answered, fails_refused, looking_told, same_device}
use Rattle.qimg_nbd.proofs.Images.{refused_same}
use Rattle.qimg_nbd.proofs.Lookups.{found_run}
use Rattle.qimg_nbd.proofs.image_device.ImageDeviceDevice.look_up.Goals as goal
use Rattle.qcow2_image.specs.ImageInvariant.{in_image}

pub returns-in-Ok-clause-step : goal.returns-in-Ok-clause-step
returns-in-Ok-clause-step g c = same_device g.S.Storage.view g.F.BackingDisk.backing c.args.self.now.image c.get_mapping.new.self c.get_mapping.ensures.step.image (λ f. (failed_looking g.S.Storage.view g.F.BackingDisk.backing c.args.self.now.image c.get_mapping.new.self c.get_mapping.result c.get_mapping.ensures.refusals.early f).1)

pub returns-in-Ok-clause-fails : goal.returns-in-Ok-clause-fails
returns-in-Ok-clause-fails g c = fails_answered _ _ c.get_mapping.result _ _ c.in-Ok.is (λ f. (failed_looking g.S.Storage.view g.F.BackingDisk.backing c.args.self.now.image c.get_mapping.new.self c.get_mapping.result c.get_mapping.ensures.refusals.early f).0)

pub returns-in-Ok-clause-sound : goal.returns-in-Ok-clause-sound
returns-in-Ok-clause-sound g c = found_run g.S.Storage.view g.F.BackingDisk.backing c.args.self.now.image c.get_mapping.new.self c.args.offset c.args.max c.in-Ok.length c.in-Ok.mapping.kind c.state_of.result c.state_of.ensures c.in-Ok.ensures.found.within c.in-Ok.ensures.found.some (c.in-Ok.ensures.sees (in_image [])) ((λ x1. (c.in-Ok.ensures.sound (in_image []) x1).run))

pub returns-in-Err-clause-step : goal.returns-in-Err-clause-step
returns-in-Err-clause-step g c = same_device g.S.Storage.view g.F.BackingDisk.backing c.args.self.now.image c.get_mapping.new.self c.get_mapping.ensures.step.image (λ f. (failed_looking g.S.Storage.view g.F.BackingDisk.backing c.args.self.now.image c.get_mapping.new.self c.get_mapping.result c.get_mapping.ensures.refusals.early f).1)

pub returns-in-Err-clause-fails : goal.returns-in-Err-clause-fails
returns-in-Err-clause-fails g c = fails_refused _ _ c.get_mapping.result c.in-Err.refusal c.errno_of.result c.in-Err.is c.errno_of.ensures (λ f. (failed_looking g.S.Storage.view g.F.BackingDisk.backing c.args.self.now.image c.get_mapping.new.self c.get_mapping.result c.get_mapping.ensures.refusals.early f).0)
    (λ sound. looking_told _ c.in-Err.refusal ((c.in-Err.ensures.sound (in_image []) sound).may_fail))

pub returns-in-Err-clause-sound : goal.returns-in-Err-clause-sound
returns-in-Err-clause-sound g c = refused_same g.S.Storage.view g.F.BackingDisk.backing c.args.self.now.image c.get_mapping.new.self _ _ (c.in-Err.ensures.sees (in_image []))
