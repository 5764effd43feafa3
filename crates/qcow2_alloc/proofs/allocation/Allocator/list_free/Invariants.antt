use Rattle.std.proofs.Common.{◌≡◌, ◌⊎◌, ◌-◌, ◌<◌, ◌≤◌, ℕ}
use Rattle.qcow2_alloc.proofs.Common.{IsIn, NoneIn, IsFoundUsed, AddsFree}
use Rattle.qcow2_alloc.proofs.allocation.Allocator.list_free.Given as goal

-- the clusters up to here are listed, or not free
abbrev pub invariant-listing : goal.invariant-listing
invariant-listing g l = record {
  from : l.fn.first ≤ l.at;
  below : l.at ≤ l.fn.end;
  adds : AddsFree l.fn.self l.self;
  none : NoneIn l.self.free l.at l.fn.end;
  listed : (k : ℕ) → l.fn.first ≤ k → k < l.at → IsFoundUsed l.fn.self l.fn.caches l.fn.block l.fn.first l.fn.end k ⊎ IsIn l.self.free k;
  same : l.caches ≡ l.fn.caches;
}

abbrev pub decreases-listing : goal.decreases-listing
decreases-listing g l = l.fn.end - l.at
