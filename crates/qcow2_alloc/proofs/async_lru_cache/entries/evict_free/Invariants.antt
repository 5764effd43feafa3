use Rattle.std.proofs.Common.{◌≡◌, false}
use Rattle.qcow2_alloc.proofs.Common.{is_pinned}
use Rattle.qcow2_alloc.proofs.CachedEntries.Turns.{IsAround, IsEvicting}
use Rattle.qcow2_alloc.proofs.async_lru_cache.entries.evict_free.Given as goal

abbrev pub invariant-loop-turn : goal.invariant-loop-turn
invariant-loop-turn g l = record {
  around : IsAround l.initial.entries.entries (IsEvicting l.initial.entries.entries (λ e. is_pinned e.1 ≡ false → g.B.AsyncLruCacheBackend.evicted l.backend e.0 e.1.value)) l.entries.entries l._turn;
  cap : l.entries.cap ≡ l.initial.entries.cap;
}
