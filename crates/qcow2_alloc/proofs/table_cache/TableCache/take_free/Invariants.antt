use Rattle.std.proofs.Common.{◌≡◌, length}
use Rattle.qcow2_alloc.proofs.Common.{pinned, with_entries}
use Rattle.qcow2_alloc.proofs.table_cache.TableCache.take_free.Given as goal

abbrev pub invariant-taking : goal.invariant-taking
invariant-taking g l = record {
  pins : pinned l.self.entries ≡ pinned l.fn.self.entries;
  others : l.self ≡ with_entries l.fn.self l.self.entries;
}

abbrev pub decreases-taking : goal.decreases-taking
decreases-taking g l = length l.self.entries
