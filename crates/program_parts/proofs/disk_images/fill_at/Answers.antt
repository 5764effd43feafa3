use Rattle.std.proofs.Common.{◌≡◌, ◌∙◌, arith, length}
use Rattle.program_parts.proofs.Common.{common_steps}
use Rattle.program_parts.proofs.DiskImages.{fills_written, fills_zeros}
use Rattle.program_parts.proofs.disk_images.fill_at.Goals as goal

pub returns-then-is_same-clause-filled : goal.returns-then-is_same-clause-filled
returns-then-is_same-clause-filled g c =
    fills_zeros g.S.Storage.view g.F.BackingDisk.backing c.args.image.now c.args.at (length c.args.bytes.now) c.read_bytes.new.bytes (g.D.DiskReader.seen c.args.disk.now) (c.is_same.ensures.0 c.if-is_same.true ∙ c.requires) (λ honest within. c.in_ok-read_bytes.ensures.read honest within)

pub returns-in-Ok-clause-filled : goal.returns-in-Ok-clause-filled
returns-in-Ok-clause-filled g c =
    let long : length c.read_bytes.new.bytes ≡ length c.args.bytes.now = grind (arith, common_steps) in
    fills_written g.S.Storage.view g.F.BackingDisk.backing c.args.image.now c.write.new.image c.args.at (length c.args.bytes.now) c.read_bytes.new.bytes (g.D.DiskReader.seen c.args.disk.now) long (λ honest within. c.in_ok-read_bytes.ensures.read honest within) c.in-Ok.ensures.sees
