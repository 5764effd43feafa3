use Rattle.std.proofs.Common.{◌-◌, ◌≤◌}
use Rattle.qcow2_metadata.proofs.Common.{counts_of}
use Rattle.qcow2_metadata.specs.FirstZero.{AreAboveZero}
use Rattle.qcow2_metadata.proofs.ref_block.RefBlock.zero_from.Given as goal

abbrev pub invariant-passing : goal.invariant-passing
invariant-passing l = record {
  behind : l.from ≤ l.index;
  within : l.index ≤ counts_of l.self;
  above : AreAboveZero l.self l.from l.index;
}

abbrev pub decreases-passing : goal.decreases-passing
decreases-passing l = l.counts - l.index
