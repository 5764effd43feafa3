-- The refcounts of clusters, from the refblocks that were read.
use Rattle.std.specs.Prelude.{ℕ, zero, suc, ◌*◌, ◌/◌, ◌%◌, ◌^◌, ◌≡◌, ◌<◌, ◌≤◌, ◌==◌, ◌&&◌, List, length, slice_get, slice_index_or, nat_lt, Option, Some, None, IfSome, if◌then◌else◌}
use Rattle.std.specs.BTreeMap.{BTreeMap, get}
use Rattle.std.specs.Ordering.{nat_cmp}
use Rattle.qcow2_metadata.specs.Bytes.{Bytes, sum_below}
use Rattle.qcow2_metadata.specs.declared.header.HeaderFields.{HeaderFields}
use Rattle.qcow2_metadata.specs.Header.{count_width, counts_per_block}
use Rattle.qcow2_metadata.specs.Named.{table_in}
use Rattle.qcow2_metadata.specs.TableBytes.{entry_at}
use Rattle.qcow2_metadata.specs.Entries.{block_offset, block_count}
use Rattle.qcow2_metadata.specs.RefBlock.{count_in as count_in_bytes}
use Rattle.qcow2_check.specs.declared.tally.Tally.{Tally}
use Rattle.qcow2_check.specs.declared.tally_map.TallyMap.{TallyMap}
use Rattle.qcow2_check.specs.declared.kept.Block.{Block}
use Rattle.qcow2_check.specs.declared.kept.Counts.{Counts}
use Rattle.qcow2_check.specs.Tallies.{tally_in, no_tally}

-- Refcount j of the refblock at an offset, 0 without one.
abbrev pub block_count_or_zero : HeaderFields → Bytes → ℕ → ℕ → ℕ
block_count_or_zero h b place j = if place == 0 then 0 else block_count b (count_width h) place j

-- How often the first n reftable entries in these bytes refer to a cluster.
abbrev pub blocks_among : HeaderFields → List ℕ → ℕ → ℕ → ℕ
blocks_among h entries n cluster = sum_below n (λ k. table_in h cluster (block_offset (entry_at entries k)))

-- How many refcounts are kept of a refblock.
abbrev pub counts_kept : Block → ℕ
counts_kept block = length block.bytes.items * 8 / 2 ^ block.order

-- Refcount j of a refblock, 0 past what is kept of it.
abbrev pub count_of : Block → ℕ → ℕ
count_of block j = if nat_lt j (counts_kept block) then count_in_bytes block.order block.bytes.items j else 0

-- Refcount j of a refblock that may be missing.
abbrev pub count_kept : Option Block → ℕ → ℕ
count_kept None j = 0
count_kept (Some block) j = count_of block j

-- The refblock with a number. Numbers begin at 1.
abbrev pub block_numbered : List Block → ℕ → Option Block
block_numbered blocks zero = None
block_numbered blocks (suc n) = slice_get blocks n

-- The refblock of reftable entry k.
abbrev pub block_in : Counts → ℕ → Option Block
block_in c k = block_numbered c.blocks.items (slice_index_or c.numbers.items k 0)

-- The refcount of a cluster.
unfoldable pub count_in : Counts → ℕ → ℕ
count_in c q = count_kept (block_in c (q / c.per_block)) (q % c.per_block)

-- The refblock with this number is kept, and has the refcounts of the one at this offset.
pub record HasBlock (h : HeaderFields) (b : Bytes) (blocks : List Block) (number place : ℕ) : Type 0 where
  pub inside : number ≤ length blocks
  pub counts : (j : ℕ) → j < counts_per_block h → count_kept (block_numbered blocks number) j ≡ block_count_or_zero h b place j

-- Every offset that has a number has that of the refblock there.
abbrev pub KeepsBlocks : HeaderFields → Bytes → List Block → BTreeMap ℕ ℕ → Type 0
KeepsBlocks h b blocks numbers = (place : ℕ) → IfSome (get nat_cmp numbers place) (λ number. HasBlock h b blocks number place)

-- The refblock at this offset is kept in addition to the old ones, with a number.
pub record KeepsMore (h : HeaderFields) (b : Bytes) (old new : List Block) (numbers : BTreeMap ℕ ℕ) (place number : ℕ) : Type 0 where
  pub keeps : KeepsBlocks h b new numbers
  pub here : HasBlock h b new number place
  pub others : (m other : ℕ) → HasBlock h b old m other → HasBlock h b new m other

-- The tally of a cluster, with its refcount.
abbrev pub counted_in : TallyMap → Counts → ℕ → Tally
counted_in m c q = record { named = (tally_in m q).named; for_tables = (tally_in m q).for_tables; marked = (tally_in m q).marked; count = count_in c q }

-- A tally with its refcount, if the cluster has a reference or a copied mark; otherwise no tally.
abbrev pub with_count : ℕ → Tally → Tally
with_count count t = if t.named == 0 && t.marked == 0 then no_tally else record { named = t.named; for_tables = t.for_tables; marked = t.marked; count = count }
