use Rattle.std.proofs.Common.{◌≡◌, ◌-◌, ◌≤◌, [], List, Option}
use Rattle.qcow2_session.proofs.Common.{AnsweredEffect, guest_of, PreservesHeaderCluster, IsSameImage, abstract_of, Prepared, Fills, ReadsQuietly, Mappings}
use Rattle.qcow2_session.proofs.Counting.{IsSoFar}
use Rattle.qcow2_session.proofs.convert.export_all.Given as goal

abbrev pub invariant-loop-at : goal.invariant-loop-at
invariant-loop-at g l = record {
  faults : IsSoFar g.S.Storage.view g.F.BackingDisk.backing l.fn.image l.image;
  behind : PreservesHeaderCluster g.S.Storage.view l.fn.image l.image;
  counted : (g.R.Storage.view l.raw).faults ≡ (g.R.Storage.view l.fn.raw).faults;
  within : l.at ≤ l.size;
  image : IsSameImage l.fn.image l.image;
  quiet : ReadsQuietly g.S.Storage.view l.fn.image l.image;
  honest : (g.R.Storage.view l.fn.raw).is_honest → (g.R.Storage.view l.raw).is_honest;
  same : (out : Mappings) → let v = abstract_of g.S.Storage.view g.F.BackingDisk.backing l.fn.image out in let w = abstract_of g.S.Storage.view g.F.BackingDisk.backing l.image out in
      AnsweredEffect v w [] [] (guest_of w ≡ guest_of v);
  filled : (g.R.Storage.view l.fn.raw).is_honest → Fills g.S.Storage.view g.F.BackingDisk.backing l.fn.image 0 l.at (g.R.Storage.view l.fn.raw).contents (g.R.Storage.view l.raw).contents;
}

abbrev pub decreases-loop-at : goal.decreases-loop-at
decreases-loop-at g l = l.size - l.at
