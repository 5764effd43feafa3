-- Spared clusters, which are never allocated: those that the header, the reftable and the L1 table refer to.
use Rattle.std.specs.Prelude.{ℕ, ◌+◌, ◌-◌, ◌*◌, ◌/◌, ◌<◌, ◌≤◌, ◌≡◌, ◌≢◌, ◌⊎◌, Bool, IsTrue, List}
use Rattle.number_runs.specs.NumberRuns.{IsIn}
use Rattle.qcow2_metadata.specs.Entries.{block_offset, host_offset}
use Rattle.qcow2_metadata.specs.EntryTable.{EntryTableView, entry_count}
use Rattle.qcow2_metadata.specs.Header.{cluster_size}
use Rattle.qcow2_metadata.specs.TableBytes.{entry_at}
use Rattle.qcow2_metadata.specs.declared.header.HeaderFields.{HeaderFields}

-- The cluster is one from `first` up to, not including, `end`.
abbrev pub IsWithin : ℕ → ℕ → ℕ → Type 0
IsWithin first end cluster = (first ≤ cluster) × (cluster < end)

-- One of the first n entries of the reftable has a refblock that begins in the cluster.
pub record NamesBlockIn (size n : ℕ) (reftable : EntryTableView) (cluster : ℕ) : Type 0 where
  pub range : ℕ
  pub within : range < n
  pub some : block_offset (entry_at reftable.bytes range) ≢ 0
  pub here : block_offset (entry_at reftable.bytes range) / size ≡ cluster

-- One of the first n entries of the L1 table has an L2 table that begins in the cluster.
pub record NamesTableIn (size n : ℕ) (l1_table : EntryTableView) (cluster : ℕ) : Type 0 where
  pub index : ℕ
  pub within : index < n
  pub some : host_offset (entry_at l1_table.bytes index) ≢ 0
  pub here : host_offset (entry_at l1_table.bytes index) / size ≡ cluster

-- The cluster is one of the L1 table or of the reftable.
abbrev pub IsOfTables : HeaderFields → ℕ → Type 0
IsOfTables h k =
    IsWithin (h.l1_offset / cluster_size h) (h.l1_offset / cluster_size h + (8 * h.l1_entries + cluster_size h - 1) / cluster_size h) k ⊎ IsWithin (h.reftable_offset / cluster_size h) (h.reftable_offset / cluster_size h + h.reftable_clusters) k

-- The cluster is one of the L1 table or of the reftable, or a table that begins in it has an entry there.
abbrev pub IsNamedHere : HeaderFields → EntryTableView → EntryTableView → ℕ → Type 0
IsNamedHere h reftable l1_table k = (IsOfTables h k ⊎ NamesBlockIn (cluster_size h) (entry_count reftable) reftable k) ⊎ NamesTableIn (cluster_size h) (entry_count l1_table) l1_table k

-- The clusters that are spared: those before, and some of the clusters with this property, or all of them if `all` is true.
pub record Spares (IsNamed : ℕ → Type 0) (old new : List (ℕ × ℕ)) (all : Bool) : Type 0 where
  pub was : (k : ℕ) → IsIn new k → IsIn old k ⊎ IsNamed k
  pub stays : (k : ℕ) → IsIn old k → IsIn new k
  pub whole : IsTrue all → (k : ℕ) → IsNamed k → IsIn new k
