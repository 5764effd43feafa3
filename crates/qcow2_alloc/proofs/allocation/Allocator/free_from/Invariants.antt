use Rattle.std.proofs.Common.{◌-◌, ◌≤◌}
use Rattle.qcow2_alloc.proofs.Common.{AreFoundFree}
use Rattle.qcow2_alloc.proofs.allocation.Allocator.free_from.Given as goal

-- the counts up to here are 0
abbrev pub invariant-counting : goal.invariant-counting
invariant-counting g l = record {
  from : l.fn.at ≤ l.next;
  below : l.next ≤ l.stop;
  free : AreFoundFree l.fn.caches l.fn.block l.fn.first l.fn.at l.next;
}

abbrev pub decreases-counting : goal.decreases-counting
decreases-counting g l = l.last - l.next
