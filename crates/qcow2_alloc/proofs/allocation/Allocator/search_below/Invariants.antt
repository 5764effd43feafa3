use Rattle.std.proofs.Common.{◌≡◌, ◌-◌, ◌*◌, ◌<◌, ◌≤◌}
use Rattle.qcow2_alloc.proofs.Common.{counts_per_block, Pending, KeepsEntries, SameLeaks, InternalAllocatorStep, faults_of, AllocatorInvariant, NoFreeBelowHint, TableStep}
use Rattle.qcow2_alloc.proofs.allocation.Allocator.search_below.Given as goal

-- nothing is taken yet, and no refblock was placed for the ranges from the end on
abbrev pub invariant-search : goal.invariant-search
invariant-search g l = record {
  faults : faults_of g.S.Storage.view l.file.storage ≡ faults_of g.S.Storage.view l.fn.file.storage;
  step : TableStep g.S.Storage.view l.fn.self.reftable l.fn.file l.self.reftable l.file;
  entries : KeepsEntries (λ k. l.fn.end ≤ k * counts_per_block l.fn.file.header.fields) l.fn.self.reftable l.self.reftable;
  above : 0 < l.self.first_free_cluster;
  leaks : SameLeaks l.fn.self l.self;
  sound : (p : Pending) → AllocatorInvariant g.S.Storage.view l.fn.self p l.fn.file → InternalAllocatorStep g.S.Storage.view p l.fn.file l.self l.file p;
  hint : (p : Pending) → AllocatorInvariant g.S.Storage.view l.fn.self p l.fn.file → NoFreeBelowHint g.S.Storage.view l.fn.self l.fn.file → NoFreeBelowHint g.S.Storage.view l.self l.file;
}

abbrev pub decreases-search : goal.decreases-search
decreases-search g l = l.end - l.self.first_free_cluster
