use Rattle.std.proofs.Common.{◌≡◌, ◌⊎◌, ◌+◌, ◌-◌, ◌^◌, ◌<◌, ◌≤◌, ℕ, IsTrue}
use Rattle.qcow2_alloc.proofs.Common.{counts_per_block, Pending, InternalAllocatorStep, faults_of, counted_run, with_run, AllocatorInvariant, opened, TableStep}
use Rattle.qcow2_alloc.proofs.allocation.Allocator.reserve_room.Given as goal

-- so many clusters are taken
abbrev pub invariant-reaching : goal.invariant-reaching
invariant-reaching g l = record {
  faults : faults_of g.S.Storage.view l.file.storage ≡ faults_of g.S.Storage.view l.fn.file.storage;
  step : TableStep g.S.Storage.view l.fn.self.reftable l.fn.file l.self.reftable l.file;
  same : l.self ≡ l.fn.self;
  counts : counts_per_block l.fn.file.header.fields ≡ 2 ^ l.bits;
  bits : l.bits < 64;
  sound : (p : Pending) → AllocatorInvariant g.S.Storage.view l.fn.self p l.fn.file → InternalAllocatorStep g.S.Storage.view p l.fn.file l.self l.file (with_run p l.fn.file.header.fields l.fn.self.reftable l.fn.first l.taken);
  recorded : ((k : ℕ) → counted_run l.fn.file.header.fields l.fn.self.reftable l.fn.first l.taken k ≡ 0) ⊎ IsTrue l.file.caches.is_changed;
  blocks : l.blocks ≡ opened l.fn.self.reftable (counts_per_block l.fn.file.header.fields) l.fn.first l.taken;
  within : l.fn.first + l.taken ≤ l.fn.end;
  few : l.blocks ≤ l.taken;
  up_to : l.taken ≤ l.blocks + l.fn.clusters;
  short : (n : ℕ) → n < l.taken → n < opened l.fn.self.reftable (counts_per_block l.fn.file.header.fields) l.fn.first n + l.fn.clusters;
}

abbrev pub decreases-reaching : goal.decreases-reaching
decreases-reaching g l = l.fn.end - l.taken
