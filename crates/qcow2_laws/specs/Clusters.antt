-- The invariant of one host cluster, in numbers: what its refcount and its references must satisfy, so that cached tables may be written in the order that the direction allows.
use Rattle.std.specs.Prelude.{ℕ, ◌+◌, ◌<◌, ◌≤◌, ◌≡◌}

-- Which cached tables must be written before the others: L2 tables after refblocks, or refblocks after L2 tables.
pub data Direction : Type 0 where
  Neither : Direction
  L2DependsOnRb : Direction
  RbDependsOnL2 : Direction

-- The numbers of one host cluster.
pub record Cluster : Type 0 where
  -- References by the header, the L1 table, the reftable and their entries; and those of them by L1 entries that are marked copied.
  pub table_refs : ℕ
  pub copied_l1_refs : ℕ
  -- References by entries of L2 tables: on the storage, in the known contents, and at most in any mix of both.
  pub in_storage : ℕ
  pub in_known : ℕ
  pub in_either : ℕ
  -- References by entries that are marked copied, in the same three ways.
  pub marks_in_storage : ℕ
  pub marks_known : ℕ
  pub marks_either : ℕ
  pub storage_count : ℕ
  pub known_count : ℕ
  -- Pending: new data that no entry names, new tables that nothing names, old tables and old data that wait to be freed.
  pub new_data : ℕ
  pub new_tables : ℕ
  pub old_tables : ℕ
  pub old_data : ℕ

-- The refcount on the storage is enough for every mix of entries, so entries may be written first.
pub record StorageCountSuffices (k : Cluster) : Type 0 where
  pub covers : k.table_refs + k.in_either + k.new_data ≤ k.storage_count
  pub alone : 0 < k.copied_l1_refs + k.marks_either + k.new_data → k.storage_count ≤ 1

-- The known refcount is enough for every mix of entries, so refcounts may be written first.
pub record KnownCountSuffices (k : Cluster) : Type 0 where
  pub covers : k.table_refs + k.in_either + k.new_data + k.new_tables + k.old_tables ≤ k.known_count
  pub alone : 0 < k.copied_l1_refs + k.marks_either → k.known_count ≤ 1

-- The refcount on the storage is enough for the entries on the storage.
pub record StorageFits (k : Cluster) : Type 0 where
  pub covers : k.table_refs + k.in_storage ≤ k.storage_count
  pub alone : 0 < k.copied_l1_refs + k.marks_in_storage → k.storage_count ≤ 1

-- The conditions of a direction.
abbrev pub Ordered : Direction → Cluster → Type 0
Ordered Neither k = StorageCountSuffices k × KnownCountSuffices k
Ordered L2DependsOnRb k = StorageFits k × KnownCountSuffices k
Ordered RbDependsOnL2 k = StorageCountSuffices k × Unit {0}

-- The conditions of every direction.
pub record ClusterInvariant (k : Cluster) (surplus : ℕ) : Type 0 where
  pub tally : k.known_count ≡ k.table_refs + k.in_known + k.new_data + k.new_tables + k.old_tables + k.old_data + surplus
  pub marked : 0 < k.copied_l1_refs + k.marks_known → k.known_count ≤ 1
  pub pending : 0 < k.new_data + k.new_tables → k.known_count ≤ 1
  pub table : 0 < k.table_refs → k.table_refs + k.in_either ≤ 1
  pub copied_l1_refs : k.copied_l1_refs ≤ k.table_refs
