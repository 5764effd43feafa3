-- How long a new reftable is, and its entries in memory.
use Rattle.std.specs.Prelude.{ℕ, ◌-◌, ◌*◌, ◌/◌, ◌%◌, ◌<◌, ◌≤◌, ◌≡◌, length}
use Rattle.qcow2_metadata.specs.EntryTable.{EntryTableView, entry_count}
use Rattle.qcow2_metadata.specs.TableBytes.{entry_at}

-- The length covers an index, fills whole clusters, and leaves room for refblocks that count the table's own clusters and themselves.
pub record IsLongEnough (old index per_cluster per_block length : ℕ) : Type 0 where
  pub longer : old ≤ length
  pub whole : length % per_cluster ≡ 0
  pub above : index < length
  pub room : length / per_cluster ≤ (length - index) * (per_block - 1)

pub record IsLeastLength (old index per_cluster per_block length : ℕ) : Type 0 where
  pub enough : IsLongEnough old index per_cluster per_block length
  pub least : (other : ℕ) → IsLongEnough old index per_cluster per_block other → length ≤ other

-- A table in memory with the same entries, and more that are empty.
pub record IsCloneOf (old t : EntryTableView) : Type 0 where
  pub bits : t.cluster_bits ≡ old.cluster_bits
  pub long : length t.bytes ≡ 8 * entry_count t
  pub longer : entry_count old ≤ entry_count t
  pub entries : (k : ℕ) → entry_at t.bytes k ≡ entry_at old.bytes k
  pub none : (k : ℕ) → entry_count old ≤ k → entry_at old.bytes k ≡ 0
