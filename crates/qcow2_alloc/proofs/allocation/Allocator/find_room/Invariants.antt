use Rattle.std.proofs.Common.{◌≡◌, ◌-◌, ◌<◌, ◌≤◌}
use Rattle.qcow2_alloc.proofs.Common.{counts_per_block, Pending, SameLeaks, InternalAllocatorStep, faults_of, AllocatorInvariant, NoFreeBelowHint, SearchStays, TableStep}
use Rattle.qcow2_alloc.proofs.FullRooms.{IsFullBelow}
use Rattle.qcow2_alloc.proofs.allocation.Allocator.find_room.Given as goal

-- nothing is taken yet
abbrev pub invariant-search : goal.invariant-search
invariant-search g l = record {
  faults : faults_of g.S.Storage.view l.file.storage ≡ faults_of g.S.Storage.view l.fn.file.storage;
  step : TableStep g.S.Storage.view l.fn.self.reftable l.fn.file l.self.reftable l.file;
  reftable : l.self.reftable ≡ l.fn.self.reftable;
  first : SearchStays l.fn.self l.self;
  hint : (p : Pending) → AllocatorInvariant g.S.Storage.view l.fn.self p l.fn.file → NoFreeBelowHint g.S.Storage.view l.fn.self l.fn.file → NoFreeBelowHint g.S.Storage.view l.self l.file;
  low : l.fn.self.first_free_cluster ≤ l.first;
  some : 0 < l.first;
  sound : (p : Pending) → AllocatorInvariant g.S.Storage.view l.fn.self p l.fn.file → InternalAllocatorStep g.S.Storage.view p l.fn.file l.self l.file p;
  leaks : (p : Pending) → AllocatorInvariant g.S.Storage.view l.fn.self p l.fn.file → SameLeaks l.fn.self l.self;
  full : (p : Pending) → AllocatorInvariant g.S.Storage.view l.fn.self p l.fn.file → NoFreeBelowHint g.S.Storage.view l.fn.self l.fn.file
      → IsFullBelow g.S.Storage.view l.file l.fn.self.reftable (counts_per_block l.fn.file.header.fields) l.fn.clusters l.fn.end l.first;
}

abbrev pub decreases-search : goal.decreases-search
decreases-search g l = l.end - l.first
