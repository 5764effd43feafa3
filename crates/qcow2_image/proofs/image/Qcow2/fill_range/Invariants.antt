use Rattle.std.proofs.Common.{◌-◌}
use Rattle.qcow2_image.proofs.Common.{KeepsFileNotes, PreservesHeaderCluster, SameFaults, HasNothingToFree}
use Rattle.qcow2_image.proofs.Preallocate.FillSteps.{FilledTo}
use Rattle.qcow2_image.proofs.image.Qcow2.fill_range.Given as goal

-- the range has zeros up to where the steps came, in the lowest places, and nothing waits to be freed if nothing did before
abbrev pub invariant-loop-at : goal.invariant-loop-at
invariant-loop-at g l = record {
  turns : FilledTo g.S.Storage.view g.F.BackingDisk.backing l.from l.to l.at l.fn.self l.self;
  faults : SameFaults g.S.Storage.view g.F.BackingDisk.backing l.fn.self l.self;
  emptied : HasNothingToFree l.fn.self → HasNothingToFree l.self;
  behind : PreservesHeaderCluster g.S.Storage.view l.fn.self l.self;
  notes : KeepsFileNotes g.S.Storage.view l.fn.self.file l.self.file;
}

abbrev pub decreases-loop-at : goal.decreases-loop-at
decreases-loop-at g l = l.to - l.at
