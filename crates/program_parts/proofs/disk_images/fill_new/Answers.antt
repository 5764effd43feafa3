use Rattle.program_parts.proofs.Common.{◌∙◌, sym}
use Rattle.program_parts.proofs.DiskImages.{fills_flushed}
use Rattle.program_parts.proofs.disk_images.fill_new.Goals as goal

pub returns-clause-filled : goal.returns-clause-filled
returns-clause-filled g c = λ nothing.
    fills_flushed g.S.Storage.view g.F.BackingDisk.backing c.args.image.now c.fill_all.new.image c.flush.new.self c.args.size (g.D.DiskReader.seen c.args.disk.now)
    (λ out sound. sym c.if-size.false ∙ c.size.ensures.sees out sound) (c.in_ok-fill_all.ensures.filled nothing) c.in_ok-flush.ensures.sees
