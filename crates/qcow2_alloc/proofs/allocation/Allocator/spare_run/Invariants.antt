use Rattle.std.proofs.Common.{◌≡◌, ◌+◌, ◌≤◌, true}
use Rattle.qcow2_alloc.proofs.Common.{IsWithin, Spares}
use Rattle.qcow2_alloc.proofs.allocation.Allocator.spare_run.Given as goal

-- the clusters before this one are spared
abbrev pub invariant-sparing : goal.invariant-sparing
invariant-sparing l = record {
  rest : l.self ≡ record l.fn.self { named = l.self.named };
  within : l.cluster ≤ l.fn.first + l.fn.n;
  spares : Spares (IsWithin l.fn.first l.cluster) l.fn.self.named l.self.named true;
}
