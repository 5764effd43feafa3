use Rattle.std.proofs.Common.{◌≡◌, ◌+◌, ◌-◌, ◌<◌, ℕ, Bool}
use Rattle.qcow2_alloc.proofs.Common.{Pending, run_at, taken_as, SameLeaks, InternalAllocatorGrowth, faults_of, ImageFile, AllocatorInvariant, NoFreeBelowHint, IsUsed, TableStep}
use Rattle.qcow2_alloc.proofs.allocation.Allocator.give_back.Given as goal

-- the clusters before this one are given back
abbrev pub invariant-lowering : goal.invariant-lowering
invariant-lowering g l = record {
  faults : faults_of g.S.Storage.view l.file.storage ≡ faults_of g.S.Storage.view l.fn.file.storage;
  step : TableStep g.S.Storage.view l.fn.self.reftable l.fn.file l.self.reftable l.file;
  reftable : l.self.reftable ≡ l.fn.self.reftable;
  sound : (p p' : Pending) (d : Bool) (start : ImageFile g.row.S.Denot) → ((k : ℕ) → 0 < p.new_data k → 0 < p'.new_data k) → InternalAllocatorGrowth g.S.Storage.view p start l.fn.self l.fn.file (taken_as d p' (run_at l.fn.first l.fn.n))
      → InternalAllocatorGrowth g.S.Storage.view p start l.self l.file (taken_as d p' (run_at l.cluster (l.fn.first + l.fn.n - l.cluster)));
  leaks : (p : Pending) (d : Bool) → AllocatorInvariant g.S.Storage.view l.fn.self (taken_as d p (run_at l.fn.first l.fn.n)) l.fn.file → SameLeaks l.fn.self l.self;
  hint : (p : Pending) (d : Bool) → AllocatorInvariant g.S.Storage.view l.fn.self (taken_as d p (run_at l.fn.first l.fn.n)) l.fn.file → NoFreeBelowHint g.S.Storage.view l.fn.self l.fn.file → NoFreeBelowHint g.S.Storage.view l.self l.file;
  kept : (p : Pending) (d : Bool) → AllocatorInvariant g.S.Storage.view l.fn.self (taken_as d p (run_at l.fn.first l.fn.n)) l.fn.file
      → AllocatorInvariant g.S.Storage.view l.self (taken_as d p (run_at l.cluster (l.fn.first + l.fn.n - l.cluster))) l.file
      × ((k : ℕ) → run_at l.fn.first l.fn.n k ≡ 0 → IsUsed g.S.Storage.view l.fn.file k → IsUsed g.S.Storage.view l.file k);
}
