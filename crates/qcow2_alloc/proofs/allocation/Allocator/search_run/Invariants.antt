use Rattle.std.proofs.Common.{◌≡◌, ◌+◌, ◌-◌, ◌/◌, ◌^◌, ◌<◌, ◌≤◌, max, Bool}
use Rattle.qcow2_alloc.proofs.Common.{greatest_offset, Pending, InternalAllocatorGrowth, MayAllocate, SameLeaks, faults_of, AllocatorInvariant, pending_then, NoFreeBelowHint, IsLowestRun, IsUsed, StaysUsed, FileStep}
use Rattle.qcow2_alloc.proofs.allocation.Allocator.search_run.Given as goal

-- nothing is taken yet
abbrev pub invariant-search : goal.invariant-search
invariant-search g l = record {
  limit : l.limit ≡ greatest_offset / 2 ^ l.fn.file.header.fields.cluster_bits + 1;
  near : l.limit ≤ 2 ^ 57;
  above : 0 < l.first;
  behind : max l.fn.self.first_free_cluster 1 ≤ l.first;
  faults : faults_of g.S.Storage.view l.file.storage ≡ faults_of g.S.Storage.view l.fn.file.storage;
  step : FileStep g.S.Storage.view l.fn.self.reftable l.fn.file l.self.reftable l.file;
  sound : (p : Pending) → AllocatorInvariant g.S.Storage.view l.fn.self p l.fn.file → InternalAllocatorGrowth g.S.Storage.view p l.fn.file l.self l.file (pending_then p l.fn.file.free_list l.file.free_list);
  leaks : (p : Pending) → AllocatorInvariant g.S.Storage.view l.fn.self p l.fn.file → SameLeaks l.fn.self l.self;
  hint : (p : Pending) (d : Bool) → AllocatorInvariant g.S.Storage.view l.fn.self p l.fn.file → MayAllocate d l.fn.file → NoFreeBelowHint g.S.Storage.view l.fn.self l.fn.file → NoFreeBelowHint g.S.Storage.view l.self l.file;
  lowest : (p : Pending) (d : Bool) → AllocatorInvariant g.S.Storage.view l.fn.self p l.fn.file → MayAllocate d l.fn.file → NoFreeBelowHint g.S.Storage.view l.fn.self l.fn.file → 0 < l.fn.n → IsLowestRun (IsUsed g.S.Storage.view l.file) l.first l.fn.n;
  uses : (p : Pending) (d : Bool) → AllocatorInvariant g.S.Storage.view l.fn.self p l.fn.file → MayAllocate d l.fn.file → StaysUsed g.S.Storage.view l.fn.file l.file;
}

abbrev pub decreases-search : goal.decreases-search
decreases-search g l = l.limit + 1 - l.first
