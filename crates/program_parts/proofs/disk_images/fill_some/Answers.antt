use Rattle.program_parts.proofs.Common.{common_steps}
use Rattle.std.proofs.Common.{◌≡◌, arith, length, refl, take, replicate}
use Rattle.program_parts.proofs.DiskImages.{fills_as, fills_zeros}
use Rattle.program_parts.proofs.disk_images.fill_some.Goals as goal

pub returns-then-passed-gt0-clause-filled : goal.returns-then-passed-gt0-clause-filled
returns-then-passed-gt0-clause-filled g c =
    fills_zeros g.S.Storage.view g.F.BackingDisk.backing c.args.image.now c.args.at c.in_ok-passed.passed (replicate c.in_ok-passed.passed 0) (g.D.DiskReader.seen c.args.disk.now) refl (λ honest within. c.in_ok-passed.ensures.zeros honest)

pub returns-clause-filled : goal.returns-clause-filled
returns-clause-filled g c =
    let seen = g.D.DiskReader.seen in
    let long : length (take c.min-count.result c.args.bytes.now) ≡ c.min-count.result = grind (arith, common_steps) in
    fills_as g.S.Storage.view g.F.BackingDisk.backing c.args.image.now c.fill_at.new.image c.args.at (length (take c.min-count.result c.args.bytes.now)) c.min-count.result (seen c.args.disk.now) (seen c.zero_clusters.new.disk) long
    c.in_ok-passed.ensures.same c.in_ok-fill_at.ensures.filled
