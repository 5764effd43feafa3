use Rattle.std.proofs.Common.{◌≡◌}
use Rattle.qcow2_alloc.proofs.CachedEntries.Turns.{IsFlushing}
use Rattle.qcow2_alloc.proofs.async_lru_cache.entries.flush_all.Given as goal

abbrev pub invariant-loop-turn : goal.invariant-loop-turn
invariant-loop-turn g l = record {
  flushing : IsFlushing (g.B.AsyncLruCacheBackend.steps l.backend) l.initial.store l.initial.entries.entries l.first l.store l.entries.entries l._turn;
  cap : l.entries.cap ≡ l.initial.entries.cap;
  keeps : g.B.AsyncLruCacheBackend.keeps l.initial.store l.store;
}
