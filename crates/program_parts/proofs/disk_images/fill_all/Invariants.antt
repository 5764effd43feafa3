use Rattle.std.proofs.Common.{◌-◌, ◌≤◌}
use Rattle.program_parts.proofs.Common.{IsOnlyRead, IsSeenAs}
use Rattle.program_parts.specs.DiskImages.{FillsUpTo, ShowsNothing}
use Rattle.program_parts.proofs.disk_images.fill_all.Given as goal

abbrev pub invariant-loop-at : goal.invariant-loop-at
invariant-loop-at g l = record {
  within : l.at ≤ l.size;
  read : IsOnlyRead (g.D.DiskReader.seen l.fn.disk) (g.D.DiskReader.seen l.disk);
  same : (g.D.DiskReader.seen l.fn.disk).is_honest → IsSeenAs (g.D.DiskReader.seen l.fn.disk).disk (g.D.DiskReader.seen l.disk);
  filled : ShowsNothing g.S.Storage.view g.F.BackingDisk.backing l.size l.fn.image → FillsUpTo g.S.Storage.view g.F.BackingDisk.backing l.fn.image l.image l.at (g.D.DiskReader.seen l.fn.disk);
}

abbrev pub decreases-loop-at : goal.decreases-loop-at
decreases-loop-at g l = l.size - l.at
