use Rattle.std.proofs.Common.{◌≡◌, ◌-◌, ◌≤◌}
use Rattle.program_parts.proofs.Common.{AreSameBelow, IsOnlyRead, IsSeenAs}
use Rattle.program_parts.proofs.comparing.compare_all.Given as goal

abbrev pub invariant-loop-at : goal.invariant-loop-at
invariant-loop-at g l = record {
  within : l.at ≤ l.size;
  read : IsOnlyRead (g.A.DiskReader.seen l.fn.one) (g.A.DiskReader.seen l.one) × IsOnlyRead (g.B.DiskReader.seen l.fn.other) (g.B.DiskReader.seen l.other);
  same : (g.A.DiskReader.seen l.fn.one).is_honest → (g.B.DiskReader.seen l.fn.other).is_honest → l.size ≡ (g.A.DiskReader.seen l.fn.one).disk.size → l.size ≡ (g.B.DiskReader.seen l.fn.other).disk.size → record {
    one : IsSeenAs (g.A.DiskReader.seen l.fn.one).disk (g.A.DiskReader.seen l.one);
    other : IsSeenAs (g.B.DiskReader.seen l.fn.other).disk (g.B.DiskReader.seen l.other);
    below : AreSameBelow (g.A.DiskReader.seen l.fn.one).disk (g.B.DiskReader.seen l.fn.other).disk l.at;
  };
}

abbrev pub decreases-loop-at : goal.decreases-loop-at
decreases-loop-at g l = l.size - l.at
