use Rattle.std.proofs.Common.{◌≡◌, ◌⊎◌, ◌+◌, ◌-◌, ◌≤◌, ℕ, max, min, true, Some}
use Rattle.qcow2_alloc.proofs.Common.{IsRefBlock, count_at, counts_of, run_at}
use Rattle.qcow2_alloc.proofs.new_refblocks.run_block.Given as goal

-- the clusters before this one are counted
abbrev pub invariant-counting : goal.invariant-counting
invariant-counting l = record {
  cluster : l.block.cluster ≡ Some l.fn.cluster;
  bits : l.block.cluster_bits ≡ l.header.fields.cluster_bits;
  order : l.block.refcount_order ≡ l.header.fields.refcount_order;
  whole : IsRefBlock l.block;
  modified : l.block.is_modified ≡ true;
  low : l.low ≡ max l.first l.begin;
  high : l.high ≡ min l.end (l.begin + counts_of l.block);
  few : (l.counted ≤ l.high) ⊎ (l.counted ≡ l.low);
  counts : (i : ℕ) → count_at l.block i ≡ run_at l.low (l.counted - l.low) (l.begin + i);
}
