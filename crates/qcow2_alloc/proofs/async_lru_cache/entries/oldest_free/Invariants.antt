use Rattle.std.proofs.Common.{◌≡◌, length}
use Rattle.qcow2_alloc.proofs.Common.{oldest_free}
use Rattle.qcow2_alloc.proofs.async_lru_cache.entries.oldest_free.Given as goal

abbrev pub invariant-loop-key : goal.invariant-loop-key
invariant-loop-key g l = oldest_free l.entries.entries ≡ oldest_free l.left

abbrev pub decreases-loop-key : goal.decreases-loop-key
decreases-loop-key g l = length l.left
