use Rattle.std.proofs.Common.{◌≡◌, ◌<◌, ℕ, Ok, length, get_or}
use Rattle.qcow2_check.proofs.Common.{byte_at, block_offset, entry_at, OnlyReads, HasBlock, KeepsBlocks}
use Rattle.qcow2_check.proofs.kept.Counts.load.Given as goal

abbrev pub invariant-loop-k : goal.invariant-loop-k
invariant-loop-k g l = record {
  long : length l.numbers.items ≡ l.k;
  keeps : (g.S.Storage.view l.initial.storage).is_honest → KeepsBlocks l.header (byte_at (g.S.Storage.view l.initial.storage).contents) l.blocks.items l.known;
  each : (g.S.Storage.view l.initial.storage).is_honest
      → (i : ℕ) → i < l.k → HasBlock l.header (byte_at (g.S.Storage.view l.initial.storage).contents) l.blocks.items (get_or l.numbers.items i 0) (block_offset (entry_at l.reftable i));
  reading : OnlyReads (g.S.Storage.view l.initial.storage) (g.S.Storage.view l.storage) (Ok (tt {0}));
}
