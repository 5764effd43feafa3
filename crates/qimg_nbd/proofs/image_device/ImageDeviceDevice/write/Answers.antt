use Rattle.qimg_nbd.proofs.Common.{[], length}
use Rattle.qimg_nbd.proofs.Errors.{failed_writing, same_device, write_answered, write_refused, writing_cause}
use Rattle.qimg_nbd.proofs.Images.{refused_write, wrote_bytes}
use Rattle.qimg_nbd.proofs.image_device.ImageDeviceDevice.write.Goals as goal
use Rattle.qcow2_image.specs.ImageInvariant.{in_image}

pub returns-in-Ok-clause-step : goal.returns-in-Ok-clause-step
returns-in-Ok-clause-step g c = same_device g.S.Storage.view g.F.BackingDisk.backing c.args.self.now.image c.write.new.image c.write.ensures.step.image (λ f. (failed_writing g.S.Storage.view g.F.BackingDisk.backing c.args.self.now.image c.write.new.image c.args.offset (length c.args.bytes.now) c.write.result c.write.ensures.fails.early f).1)

pub returns-in-Ok-clause-fails : goal.returns-in-Ok-clause-fails
returns-in-Ok-clause-fails g c = write_answered _ _ c.write.result _ _ c.in-Ok.is (λ f. (failed_writing g.S.Storage.view g.F.BackingDisk.backing c.args.self.now.image c.write.new.image c.args.offset (length c.args.bytes.now) c.write.result c.write.ensures.fails.early f).0)

pub returns-in-Ok-clause-sound : goal.returns-in-Ok-clause-sound
returns-in-Ok-clause-sound g c = wrote_bytes g.S.Storage.view g.F.BackingDisk.backing c.args.self.now.image c.write.new.image c.args.offset c.args.bytes.now _ (c.in-Ok.ensures.sees (in_image []))

pub returns-in-Err-clause-step : goal.returns-in-Err-clause-step
returns-in-Err-clause-step g c = same_device g.S.Storage.view g.F.BackingDisk.backing c.args.self.now.image c.write.new.image c.write.ensures.step.image (λ f. (failed_writing g.S.Storage.view g.F.BackingDisk.backing c.args.self.now.image c.write.new.image c.args.offset (length c.args.bytes.now) c.write.result c.write.ensures.fails.early f).1)

pub returns-in-Err-clause-fails : goal.returns-in-Err-clause-fails
returns-in-Err-clause-fails g c = write_refused _ _ c.write.result c.in-Err.refusal _ c.errno_of.result c.in-Err.is c.errno_of.ensures (λ f. (failed_writing g.S.Storage.view g.F.BackingDisk.backing c.args.self.now.image c.write.new.image c.args.offset (length c.args.bytes.now) c.write.result c.write.ensures.fails.early f).0)
    (writing_cause g.S.Storage.view g.F.BackingDisk.backing c.args.self.now.image c.write.new.image c.args.offset (length c.args.bytes.now) _ c.write.result c.in-Err.refusal c.in-Err.is c.write.ensures.fails.early (λ none. (c.in-Err.ensures.fails.late none).0) c.in-Err.ensures.fails.beyond)

pub returns-in-Err-clause-sound : goal.returns-in-Err-clause-sound
returns-in-Err-clause-sound g c = refused_write g.S.Storage.view g.F.BackingDisk.backing c.args.self.now.image c.write.new.image _ c.args.offset _ c.args.bytes.now _ (c.in-Err.ensures.sees (in_image []))
