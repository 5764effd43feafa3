use Rattle.std.proofs.Common.{◌==◌}
use Rattle.qcow2_alloc.proofs.CachedEntries.FirstPinned.{none_pinned}
use Rattle.qcow2_alloc.proofs.cache.MetadataCaches.first_pinned_l2.Goals as goal

pub returns-clause-none : goal.returns-clause-none
returns-clause-none g c = λ none cluster. none_pinned (λ k. cluster == k) c.args.self.now.l2.entries (c.first_pinned.ensures.none none)
