-- The invariant of every write: with it, a stop at any moment leaves a consistent image.
use Rattle.std.specs.Prelude.{ℕ, ◌+◌, ◌/◌, ◌<◌, ◌≤◌, ◌≡◌, ◌⊎◌, max}
use Rattle.qcow2_metadata.specs.Bytes.{Bytes, SameFrom}
use Rattle.qcow2_metadata.specs.declared.header.HeaderFields.{HeaderFields}
use Rattle.qcow2_metadata.specs.Header.{header, HeaderReads, ReftableFits, cluster_size, reftable_entries}
use Rattle.qcow2_metadata.specs.Entries.{l1_entry, reftable_entry, count, block_offset, L1EntryReads, ReftableEntryReads}
use Rattle.qcow2_metadata.specs.Cover.{cover}
use Rattle.qcow2_metadata.specs.Named.{named_for_tables}
use Rattle.qcow2_metadata.specs.Consistent.{CoverIsAligned, IsAligned}
use Rattle.qcow2_laws.specs.Beside.{StandsIfBeside}
use Rattle.qcow2_laws.specs.Clusters.{Direction, Neither, L2DependsOnRb, RbDependsOnL2, Cluster, ClusterInvariant, Ordered}
use Rattle.qcow2_laws.specs.Guests.{over_guests, names, marks, named_in_either, table_at, marked_by_l1_table}

-- The header, the L1 table and the reftable are readable, and tables are aligned.
pub record IsTop (h : HeaderFields) (b : Bytes) : Type 0 where
  pub header_is : header b ≡ h
  pub header_reads : HeaderReads h b
  pub reftable_fits : ReftableFits h
  pub l1_reads : (i : ℕ) → i < h.l1_entries → L1EntryReads (l1_entry h b i)
  pub reftable_reads : (k : ℕ) → k < reftable_entries h → ReftableEntryReads (reftable_entry h b k)
  pub no_snapshots : h.snapshots ≡ 0
  pub l1_aligned : IsAligned h h.l1_offset
  pub reftable_aligned : IsAligned h h.reftable_offset
  pub l2_tables_aligned : (i : ℕ) → i < h.l1_entries → IsAligned h (table_at h b i)
  pub refblocks_aligned : (k : ℕ) → k < reftable_entries h → IsAligned h (block_offset (reftable_entry h b k))

-- Two images have the same header cluster, L1 table and reftable.
pub record SameTop (h : HeaderFields) (b c : Bytes) : Type 0 where
  pub first_cluster : SameFrom 0 (cluster_size h) b c
  pub l1 : (i : ℕ) → l1_entry h b i ≡ l1_entry h c i
  pub reftable : (k : ℕ) → reftable_entry h b k ≡ reftable_entry h c k

-- Each guest cluster has the same mapping in both images.
abbrev pub SameCovers : HeaderFields → Bytes → Bytes → Type 0
SameCovers h b c = (g : ℕ) → cover h b g ≡ cover h c g

abbrev pub SameCounts : HeaderFields → Bytes → Bytes → Type 0
SameCounts h b c = (cluster : ℕ) → count h b cluster ≡ count h c cluster

-- How often the known refcount counts a cluster without a known reference, by reason.
pub record Pending : Type 0 where
  -- New data that no entry names yet.
  pub new_data : ℕ → ℕ
  -- A new table that nothing names yet.
  pub new_tables : ℕ → ℕ
  -- An old table that waits to be freed.
  pub old_tables : ℕ → ℕ
  -- Old data that wait to be freed.
  pub old_data : ℕ → ℕ
  -- No reason: a positive surplus is a leak.
  pub surplus : ℕ → ℕ

-- The numbers of one host cluster. `on_storage` are the bytes on the storage, `known` these with the modified tables overlaid.
abbrev pub cluster : HeaderFields → Pending → Bytes → Bytes → ℕ → Cluster
cluster h p on_storage known c = record {
  table_refs = named_for_tables h on_storage c;
  copied_l1_refs = marked_by_l1_table h on_storage c;
  in_storage = over_guests h (names h on_storage c);
  in_known = over_guests h (names h known c);
  in_either = named_in_either h on_storage known c;
  marks_in_storage = over_guests h (marks h on_storage c);
  marks_known = over_guests h (marks h known c);
  marks_either = over_guests h (λ g. max (marks h on_storage c g) (marks h known c g));
  storage_count = count h on_storage c;
  known_count = count h known c;
  new_data = p.new_data c;
  new_tables = p.new_tables c;
  old_tables = p.old_tables c;
  old_data = p.old_data c;
}

-- The crash invariant, between the bytes on the storage and the known contents, with the order of the caches (`d`) and what is pending (`p`). Every step of the driver keeps it.
pub record CrashInvariant (h : HeaderFields) (d : Direction) (p : Pending) (on_storage known : Bytes) : Type 0 where
  pub top : IsTop h on_storage
  pub same_top : SameTop h on_storage known
  pub each_cluster : (c : ℕ) → ClusterInvariant (cluster h p on_storage known c) (p.surplus c)
  pub ordered : (c : ℕ) → Ordered d (cluster h p on_storage known c)
  pub aligned : (g : ℕ) → CoverIsAligned h (cover h on_storage g)
  pub known_aligned : (g : ℕ) → CoverIsAligned h (cover h known g)
  -- If the known entry of a guest cluster is marked copied for a host cluster, its entry on the storage is too, or does not name that cluster.
  pub own : (g c : ℕ) → 0 < marks h known c g → names h on_storage c g ≤ marks h on_storage c g
  -- No modified table covers data or new data.
  pub not_overlaid : (o : ℕ) → 0 < named_in_either h on_storage known (o / cluster_size h) + p.new_data (o / cluster_size h) → on_storage o ≡ known o
  -- With an external data file, each guest cluster is at its own offset in it.
  pub at_guests : (g : ℕ) → StandsIfBeside h g (cover h known g)

-- The two have the same bytes in the cluster.
abbrev pub SameIn : ℕ → ℕ → Bytes → Bytes → Type 0
SameIn size c b b' = (o : ℕ) → o / size ≡ c → b o ≡ b' o

-- Each cluster has the bytes on the storage, or the known ones.
abbrev pub IsPartly : ℕ → Bytes → Bytes → Bytes → Type 0
IsPartly size on_storage known b = (c : ℕ) → SameIn size c b on_storage ⊎ SameIn size c b known

-- Tables of the kind that must wait are unwritten, or those of the other kind are all written.
abbrev pub IsInOrder : Direction → HeaderFields → Bytes → Bytes → Bytes → Type 0
IsInOrder Neither h on_storage known b = Unit {0}
IsInOrder L2DependsOnRb h on_storage known b = SameCovers h on_storage b ⊎ SameCounts h known b
IsInOrder RbDependsOnL2 h on_storage known b = SameCounts h on_storage b ⊎ SameCovers h known b

-- Some of the cached tables were written, in the order that the direction allows.
pub record IsMixed (h : HeaderFields) (d : Direction) (on_storage known b : Bytes) : Type 0 where
  pub partly : IsPartly (cluster_size h) on_storage known b
  pub ordered : IsInOrder d h on_storage known b

-- When the direction may change: when the tables that had to be written first are written.
abbrev pub MayTurn : Direction → Direction → HeaderFields → Bytes → Bytes → Type 0
MayTurn Neither to h on_storage known = Unit {0}
MayTurn L2DependsOnRb L2DependsOnRb h on_storage known = Unit {0}
MayTurn L2DependsOnRb RbDependsOnL2 h on_storage known = SameCounts h on_storage known
MayTurn RbDependsOnL2 RbDependsOnL2 h on_storage known = Unit {0}
MayTurn RbDependsOnL2 L2DependsOnRb h on_storage known = SameCovers h on_storage known
MayTurn L2DependsOnRb Neither h on_storage known = SameCounts h on_storage known × SameCovers h on_storage known
MayTurn RbDependsOnL2 Neither h on_storage known = SameCounts h on_storage known × SameCovers h on_storage known
