use Rattle.qcow2_alloc.proofs.CachedEntries.FirstPinned.{none_first, some_first}
use Rattle.qcow2_alloc.proofs.async_lru_cache.AsyncLruCache.first_pinned.Goals as goal

pub returns-clause-none : goal.returns-clause-none
returns-clause-none g c = λ none. rw (← c.self.view_is) (none_first c.self.inside.entries.entries c.first_pinned.result c.first_pinned.ensures.first none)

pub returns-clause-some : goal.returns-clause-some
returns-clause-some g c = rw (← c.self.view_is) (some_first g.met.B.Key.Eq.laws c.self.inside.entries.entries c.first_pinned.result c.first_pinned.ensures.distinct c.first_pinned.ensures.first)
