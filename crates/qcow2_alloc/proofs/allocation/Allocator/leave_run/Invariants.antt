use Rattle.std.proofs.Common.{◌≡◌, ◌+◌, ◌-◌, ◌^◌, ℕ}
use Rattle.qcow2_alloc.proofs.Common.{counts_per_block, Pending, run_at, SameLeaks, InternalAllocatorStep, faults_of, with_run, ImageFile, IsUsed, SearchStays, TableStep}
use Rattle.qcow2_alloc.proofs.allocation.Allocator.leave_run.Given as goal

-- the clusters before this one are given back
abbrev pub invariant-leaving : goal.invariant-leaving
invariant-leaving g l = record {
  faults : faults_of g.S.Storage.view l.file.storage ≡ faults_of g.S.Storage.view l.fn.file.storage;
  step : TableStep g.S.Storage.view l.fn.self.reftable l.fn.file l.self.reftable l.file;
  reftable : l.self.reftable ≡ l.fn.self.reftable;
  first : SearchStays l.fn.self l.self;
  counts : counts_per_block l.fn.file.header.fields ≡ 2 ^ l.bits;
  sound : (p : Pending) (start : ImageFile g.row.S.Denot) → start.header ≡ l.fn.file.header → InternalAllocatorStep g.S.Storage.view p start l.fn.self l.fn.file (with_run p start.header.fields l.fn.self.reftable l.fn.first l.fn.n)
      → InternalAllocatorStep g.S.Storage.view p start l.self l.file (with_run p start.header.fields l.fn.self.reftable l.cluster (l.fn.first + l.fn.n - l.cluster));
  leaks : (p : Pending) (start : ImageFile g.row.S.Denot) → start.header ≡ l.fn.file.header → InternalAllocatorStep g.S.Storage.view p start l.fn.self l.fn.file (with_run p start.header.fields l.fn.self.reftable l.fn.first l.fn.n) → SameLeaks l.fn.self l.self;
  kept : (p : Pending) (start : ImageFile g.row.S.Denot) → start.header ≡ l.fn.file.header → InternalAllocatorStep g.S.Storage.view p start l.fn.self l.fn.file (with_run p start.header.fields l.fn.self.reftable l.fn.first l.fn.n)
      → (k : ℕ) → run_at l.fn.first l.fn.n k ≡ 0 → IsUsed g.S.Storage.view l.fn.file k → IsUsed g.S.Storage.view l.file k;
}
