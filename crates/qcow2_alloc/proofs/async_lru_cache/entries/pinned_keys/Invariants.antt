use Rattle.std.proofs.Common.{◌≡◌, ◌++◌}
use Rattle.qcow2_alloc.proofs.Common.{keys_of, pinned}
use Rattle.qcow2_alloc.proofs.async_lru_cache.entries.pinned_keys.Given as goal

abbrev pub invariant-loop-key : goal.invariant-loop-key
invariant-loop-key g l =
    keys_of (pinned l.entries.entries) ≡ l.keys.items ++ keys_of (pinned l.key-iterator)
