-- Changes of the header, the L1 table or the reftable. The mapping of every guest cluster stays the same.
use Rattle.std.specs.Prelude.{ℕ, ◌+◌, ◌*◌, ◌/◌, ◌%◌, ◌<◌, ◌≤◌, ◌≡◌, ◌≢◌, ◌⊎◌}
use Rattle.qcow2_metadata.specs.Bytes.{Bytes, SameFrom}
use Rattle.qcow2_metadata.specs.declared.header.HeaderFields.{HeaderFields}
use Rattle.qcow2_metadata.specs.Header.{header, HeaderReads, ReftableFits, cluster_size, entries_per_cluster, reftable_entries, count_width, counts_per_block}
use Rattle.qcow2_metadata.specs.Entries.{l1_entry, l2_entry, reftable_entry, count, block_count, host_offset, block_offset, L1EntryReads, ReftableEntryReads}
use Rattle.qcow2_metadata.specs.Cover.{cover, entry_cover}
use Rattle.qcow2_metadata.specs.Named.{in_run, named_by_reftable}
use Rattle.qcow2_metadata.specs.Consistent.{IsAligned}
use Rattle.qcow2_disk.specs.HeaderRest.{IsOfHeaderRest}
use Rattle.qcow2_laws.specs.Clusters.{Direction, RbDependsOnL2}
use Rattle.qcow2_laws.specs.CrashInvariant.{Pending, SameCovers}

-- The header fields that an open image writes.
pub record Places : Type 0 where
  pub size : ℕ
  pub l1_entries : ℕ
  pub l1_offset : ℕ
  pub reftable_offset : ℕ
  pub reftable_clusters : ℕ
  pub autoclear : ℕ

abbrev pub places_of : HeaderFields → Places
places_of h = record {
  size = h.size;
  l1_entries = h.l1_entries;
  l1_offset = h.l1_offset;
  reftable_offset = h.reftable_offset;
  reftable_clusters = h.reftable_clusters;
  autoclear = h.autoclear;
}

-- The header with these fields.
abbrev pub with_places : HeaderFields → Places → HeaderFields
with_places h a = record h {
  size = a.size;
  l1_entries = a.l1_entries;
  l1_offset = a.l1_offset;
  reftable_offset = a.reftable_offset;
  reftable_clusters = a.reftable_clusters;
  autoclear = a.autoclear;
}

-- The mapping of each guest cluster is the same.
abbrev pub KeepsCovers : HeaderFields → Places → Bytes → Bytes → Type 0
KeepsCovers h a b b' = (g : ℕ) → cover h b g ≡ cover (with_places h a) b' g

-- The bytes outside of one cluster are the same.
abbrev pub IsSameOutside : ℕ → ℕ → Bytes → Bytes → Type 0
IsSameOutside size c b b' = (o : ℕ) → o / size ≢ c → b o ≡ b' o

-- All bytes are the same, except the n bytes from `place` on.
abbrev pub IsSameBut : ℕ → ℕ → Bytes → Bytes → Type 0
IsSameBut place n b b' = (o : ℕ) → (o < place) ⊎ (place + n ≤ o) → b o ≡ b' o

-- One L1 entry is written, to the storage and to the known contents.
pub record WritesL1Entry (h : HeaderFields) (on_storage known on_storage' known' : Bytes) (i entry : ℕ) : Type 0 where
  pub within : i < h.l1_entries
  pub others : IsSameBut (h.l1_offset + 8 * i) 8 on_storage on_storage'
  pub known_others : IsSameBut (h.l1_offset + 8 * i) 8 known known'
  pub is : l1_entry h on_storage' i ≡ entry
  pub known_is : l1_entry h known' i ≡ entry

-- An L1 entry may name this table: it lies in the cluster of a new table, which has its refcount on the storage, and it maps the guest clusters as before.
pub record IsNewTable (h : HeaderFields) (d : Direction) (p : Pending) (on_storage known : Bytes) (i entry : ℕ) : Type 0 where
  pub reads : L1EntryReads entry
  pub real : host_offset entry ≢ 0
  pub aligned : IsAligned h (host_offset entry)
  pub new_tables : 0 < p.new_tables (host_offset entry / cluster_size h)
  pub counted : count h on_storage (host_offset entry / cluster_size h) ≡ count h known (host_offset entry / cluster_size h)
  -- When the direction says so, the L2 tables are written before.
  pub written : d ≡ RbDependsOnL2 → SameCovers h on_storage known
  pub covers : (g : ℕ) → g / entries_per_cluster h ≡ i → cover h on_storage g ≡ entry_cover h (l2_entry on_storage (host_offset entry) (g % entries_per_cluster h))
  pub known_covers : (g : ℕ) → g / entries_per_cluster h ≡ i → cover h known g ≡ entry_cover h (l2_entry known (host_offset entry) (g % entries_per_cluster h))

-- One reftable entry is written, to the storage and to the known contents.
pub record WritesReftableEntry (h : HeaderFields) (on_storage known on_storage' known' : Bytes) (k entry : ℕ) : Type 0 where
  pub within : k < reftable_entries h
  pub others : IsSameBut (h.reftable_offset + 8 * k) 8 on_storage on_storage'
  pub known_others : IsSameBut (h.reftable_offset + 8 * k) 8 known known'
  pub is : reftable_entry h on_storage' k ≡ entry
  pub known_is : reftable_entry h known' k ≡ entry

-- A reftable entry that was empty may name this refblock, which holds these refcounts.
pub record IsNewBlock (h : HeaderFields) (on_storage known : Bytes) (k entry : ℕ) (counts : ℕ → ℕ) : Type 0 where
  pub none : block_offset (reftable_entry h on_storage k) ≡ 0
  pub reads : ReftableEntryReads entry
  pub real : block_offset entry ≢ 0
  pub aligned : IsAligned h (block_offset entry)
  pub says : (c : ℕ) → c / counts_per_block h ≡ k → block_count on_storage (count_width h) (block_offset entry) (c % counts_per_block h) ≡ counts c
  pub known_says : (c : ℕ) → c / counts_per_block h ≡ k → block_count known (count_width h) (block_offset entry) (c % counts_per_block h) ≡ counts c

-- ---- header fields are written

-- These header fields are written, on the storage and in the known contents. The rest of the header's cluster stays the same.
pub record WritesHeader (h : HeaderFields) (a : Places) (on_storage known on_storage' known' : Bytes) : Type 0 where
  pub others : IsSameOutside (cluster_size h) 0 on_storage on_storage'
  pub known_others : IsSameOutside (cluster_size h) 0 known known'
  pub same_first : SameFrom 0 (cluster_size h) on_storage' known'
  pub rest : (o : ℕ) → o < cluster_size h → IsOfHeaderRest h o → on_storage' o ≡ on_storage o
  pub is : header on_storage' ≡ with_places h a
  pub reads : HeaderReads (with_places h a) on_storage'

abbrev pub resized_places : HeaderFields → ℕ → ℕ → Places
resized_places h size autoclear = record (places_of h) { size = size; autoclear = autoclear }

abbrev pub with_l1_at : HeaderFields → ℕ → ℕ → Places
with_l1_at h offset entries = record (places_of h) { l1_offset = offset; l1_entries = entries }

abbrev pub with_reftable_at : HeaderFields → ℕ → ℕ → Places
with_reftable_at h offset clusters = record (places_of h) { reftable_offset = offset; reftable_clusters = clusters }

-- The header may point to this L1 table: it lies in clusters of new tables, which have their refcounts on the storage. It has the entries of the old table, and empty ones after them.
pub record IsNewL1 (h : HeaderFields) (d : Direction) (p : Pending) (on_storage known : Bytes) (offset entries : ℕ) : Type 0 where
  pub longer : h.l1_entries ≤ entries
  pub aligned : IsAligned h offset
  pub same : (i : ℕ) → l1_entry (with_places h (with_l1_at h offset entries)) on_storage i ≡ l1_entry h on_storage i
  pub known_same : (i : ℕ) → l1_entry (with_places h (with_l1_at h offset entries)) known i ≡ l1_entry h known i
  pub new_tables : (c : ℕ) → 0 < in_run h c offset (8 * entries) → (0 < p.new_tables c) × (count h on_storage c ≡ count h known c)
  pub written : d ≡ RbDependsOnL2 → SameCovers h on_storage known

-- The header may point to this reftable. It lies in other clusters than the old one, and has the entries of the old one and more. `blocks` counts the new refblocks in each cluster.
-- `counted` counts how often new refblocks count each cluster, which no old refblock does. Each cluster of the table and of the new refblocks belongs to a new table and has its refcount on the storage, or is counted by the new refblocks.
pub record IsNewReftable (h : HeaderFields) (d : Direction) (p : Pending) (on_storage known : Bytes) (offset clusters : ℕ) (blocks counted : ℕ → ℕ) : Type 0 where
  pub aligned : IsAligned h offset
  pub fits : ReftableFits (with_places h (with_reftable_at h offset clusters))
  pub same : (k : ℕ) → block_offset (reftable_entry h on_storage k) ≢ 0 → reftable_entry (with_places h (with_reftable_at h offset clusters)) on_storage k ≡ reftable_entry h on_storage k
  pub known_same : (k : ℕ) → reftable_entry (with_places h (with_reftable_at h offset clusters)) known k ≡ reftable_entry (with_places h (with_reftable_at h offset clusters)) on_storage k
  pub reads : (k : ℕ) → ReftableEntryReads (reftable_entry (with_places h (with_reftable_at h offset clusters)) on_storage k)
  pub blocks_aligned : (k : ℕ) → IsAligned h (block_offset (reftable_entry (with_places h (with_reftable_at h offset clusters)) on_storage k))
  pub blocks_are : (c : ℕ) → named_by_reftable (with_places h (with_reftable_at h offset clusters)) on_storage c ≡ named_by_reftable h on_storage c + blocks c
  pub says : (c : ℕ) → block_offset (reftable_entry h on_storage (c / counts_per_block h)) ≡ 0 → block_offset (reftable_entry (with_places h (with_reftable_at h offset clusters)) on_storage (c / counts_per_block h)) ≢ 0
      → (block_count on_storage (count_width h) (block_offset (reftable_entry (with_places h (with_reftable_at h offset clusters)) on_storage (c / counts_per_block h))) (c % counts_per_block h) ≡ counted c)
      × (block_count known (count_width h) (block_offset (reftable_entry (with_places h (with_reftable_at h offset clusters)) on_storage (c / counts_per_block h))) (c % counts_per_block h) ≡ counted c)
  pub counted_anew : (c : ℕ) → 0 < counted c
      → (block_offset (reftable_entry h on_storage (c / counts_per_block h)) ≡ 0) × (block_offset (reftable_entry (with_places h (with_reftable_at h offset clusters)) on_storage (c / counts_per_block h)) ≢ 0)
  pub once : (c : ℕ) → in_run h c offset (clusters * cluster_size h) + blocks c ≤ 1
  pub counted_there : (c : ℕ) → counted c ≤ in_run h c offset (clusters * cluster_size h) + blocks c
  pub new_tables : (c : ℕ) → counted c < in_run h c offset (clusters * cluster_size h) + blocks c → (0 < p.new_tables c) × (count h on_storage c ≡ count h known c)
  pub written : d ≡ RbDependsOnL2 → SameCovers h on_storage known

-- The same n bytes from a place on are written to the storage and to the known contents.
pub record WritesAt (place n : ℕ) (on_storage known on_storage' known' : Bytes) : Type 0 where
  pub others : IsSameBut place n on_storage on_storage'
  pub known_others : IsSameBut place n known known'
  pub agree : (o : ℕ) → on_storage o ≡ known o → on_storage' o ≡ known' o
