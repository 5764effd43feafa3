use Rattle.std.proofs.Common.{◌-◌}
use Rattle.qcow2_image.proofs.Common.{AllocatingStep, SameFaults}
use Rattle.qcow2_image.proofs.Prepare.RangeByParts.{IsSoFar}
use Rattle.qcow2_image.proofs.image.Qcow2.prepare_rest.Given as goal

-- the mapping so far is as long as its clusters, and is prepared up to there; only clusters of old reftables were appended to the list
abbrev pub invariant-loop-prepared : goal.invariant-loop-prepared
invariant-loop-prepared g l = record {
  turns : IsSoFar g.S.Storage.view g.F.BackingDisk.backing l.fn.self l.self l.fn.prepared l.prepared l.length l.end l.table l.overwrite;
  faults : SameFaults g.S.Storage.view g.F.BackingDisk.backing l.fn.self l.self;
  step : AllocatingStep g.S.Storage.view l.fn.self l.self;
}

abbrev pub decreases-loop-prepared : goal.decreases-loop-prepared
decreases-loop-prepared g l = l.end - l.prepared.length
