use Rattle.std.proofs.Common.{◌≡◌}
use Rattle.qcow2_alloc.proofs.Common.{pinned}
use Rattle.qcow2_alloc.proofs.async_lru_cache.entries.first_pinned.Given as goal

abbrev pub invariant-loop-key : goal.invariant-loop-key
invariant-loop-key g l = pinned l.entries.entries ≡ pinned l.key-iterator
