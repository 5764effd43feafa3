use Rattle.std.proofs.Common.{◌≡◌, ◌<◌, Bool, IsTrue}
use Rattle.qcow2_alloc.proofs.Common.{Pending, MayAllocate, faults_of, AllocatorInvariant, FileStep, TakenSoFar}
use Rattle.qcow2_alloc.proofs.allocation.Allocator.allocate_run.Given as goal

-- so many clusters are taken
abbrev pub invariant-taking : goal.invariant-taking
invariant-taking g l = record {
  step : FileStep g.S.Storage.view l.fn.self.reftable l.fn.file l.self.reftable l.file;
  faults : faults_of g.S.Storage.view l.file.storage ≡ faults_of g.S.Storage.view l.fn.file.storage;
  recorded : 0 < l.taken → IsTrue l.file.caches.is_changed;
  sound : (p : Pending) (d : Bool) → AllocatorInvariant g.S.Storage.view l.fn.self p l.fn.file → MayAllocate d l.fn.file → TakenSoFar g.S.Storage.view p d l.fn.self l.fn.file l.self l.file l.fn.first l.taken;
}
