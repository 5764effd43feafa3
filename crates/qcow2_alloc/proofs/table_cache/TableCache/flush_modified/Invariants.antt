use Rattle.std.proofs.Common.{◌≡◌, ◌+◌, length}
use Rattle.qcow2_alloc.proofs.Common.{IsDistinct, keys_of, option_map_or, with_entries, behind}
use Rattle.qcow2_alloc.proofs.FlushedMarks.{IsWalking}
use Rattle.qcow2_alloc.proofs.table_cache.TableCache.flush_modified.Given as goal

abbrev pub invariant-flushing : goal.invariant-flushing
invariant-flushing g l = record {
  walk : IsWalking (g.B.AsyncLruCacheBackend.steps l.fn.self.backend) g.B.Key.PartialEq.eq g.B.Value.CachedValue.is_modified l.fn.store l.fn.self.entries l.first l.next l.store l.self.entries;
  distinct : IsDistinct g.B.Key.PartialEq.eq (keys_of l.self.entries);
  others : l.self ≡ with_entries l.fn.self l.self.entries;
  keeps : g.B.AsyncLruCacheBackend.keeps l.fn.store l.store;
}

abbrev pub decreases-flushing : goal.decreases-flushing
decreases-flushing g l = option_map_or (λ k. length (behind (g.B.Key.PartialEq.eq k) l.self.entries) + 1) l.next 0
