use Rattle.std.proofs.Common.{◌≡◌, ◌+◌, ◌≤◌, arith, refl, subst}
use Rattle.program_parts.proofs.DiskImages.{fills_more, fills_none, seen_then}
use Rattle.program_parts.proofs.OnlyRead.{reads_none, reads_then}
use Rattle.program_parts.specs.DiskImages.{FillsUpTo}
use Rattle.program_parts.proofs.disk_images.fill_all.Goals as goal

pub loop-at-init : goal.loop-at-init
loop-at-init g c =
    let seen = g.D.DiskReader.seen in
    record {
      within = omega arith;
      read = reads_none (seen c.args.disk.now);
      same = λ honest. record { honest = honest; disk = refl };
      filled = λ nothing. fills_none g.S.Storage.view g.F.BackingDisk.backing c.args.image.now (seen c.args.disk.now);
    }

pub loop-at-preserved : goal.loop-at-preserved
loop-at-preserved g c =
    let seen = g.D.DiskReader.seen in
    let so_far = c.loop-at.invariant in
    let upto : c.loop-at.at + c.in_ok-count.count ≤ c.args.size = omega (arith, c.in_ok-count.ensures.within, c.loop-at-test.true) in
    record {
      within = upto;
      read = reads_then (seen c.args.disk.now) (seen c.loop-at.disk) (seen c.fill_some.new.disk) so_far.read c.fill_some.ensures.step;
      same = λ honest. seen_then (seen c.args.disk.now) (seen c.loop-at.disk) (seen c.fill_some.new.disk) (so_far.same honest) c.in_ok-count.ensures.same;
      filled = λ nothing.
          fills_more g.S.Storage.view g.F.BackingDisk.backing c.args.image.now c.loop-at.image c.fill_some.new.image c.args.size c.loop-at.at c.in_ok-count.count (seen c.args.disk.now) (seen c.loop-at.disk)
          upto nothing so_far.same (so_far.filled nothing) c.in_ok-count.ensures.filled;
    }

pub returns-clause-filled : goal.returns-clause-filled
returns-clause-filled g c = λ nothing.
    let done : c.loop-at.at ≡ c.args.size = omega (arith, c.loop-at.invariant.within, c.loop-at-test.false) in
    subst (λ n. FillsUpTo g.S.Storage.view g.F.BackingDisk.backing c.args.image.now c.loop-at.image n (g.D.DiskReader.seen c.args.disk.now)) done (c.loop-at.invariant.filled nothing)
