-- A longer reftable that is on the storage with its refblocks, and the header's pointer to it.
use Rattle.std.specs.Prelude.{ℕ, ◌+◌, ◌*◌, ◌/◌, ◌%◌, ◌<◌, ◌≡◌, ◌≢◌, ◌==◌, Some, None, IfSome, Result, Ok, Err, if◌then◌else◌}
use Rattle.image_access.specs.Moments.{StorageView}
use Rattle.qcow2_metadata.specs.Bytes.{sum_below}
use Rattle.qcow2_metadata.specs.declared.header.HeaderFields.{HeaderFields}
use Rattle.qcow2_metadata.specs.Header.{cluster_size, counts_per_block, count_width, IsAligned}
use Rattle.qcow2_metadata.specs.Entries.{block_offset, block_count}
use Rattle.qcow2_metadata.specs.EntryTable.{EntryTableView, entry_count}
use Rattle.qcow2_metadata.specs.Named.{in_run, table_in}
use Rattle.qcow2_metadata.specs.TableBytes.{entry_at}
use Rattle.qcow2_laws.specs.Caches.{AreClean, BlocksMayGo}
use Rattle.qcow2_laws.specs.Changes.{with_new_tables}
use Rattle.qcow2_laws.specs.CrashInvariant.{Pending}
use Rattle.qcow2_alloc.specs.Allocation.{run_at, HasBytesAt, HasNone, InternalAllocatorGrowth, RefusedGrowth}
use Rattle.qcow2_alloc.specs.ImageFile.{contents_in, IsFault, RefusedFileStep}
use Rattle.qcow2_alloc.specs.MetadataCaches.{order_of, l2_tables, refblocks, rb_at}
use Rattle.qcow2_alloc.specs.declared.allocation.Allocator.{Allocator}
use Rattle.qcow2_alloc.specs.declared.error.ImageError.{ImageError}
use Rattle.qcow2_alloc.specs.declared.image_file.ImageFile.{ImageFile}

-- 1 if the cluster is one of the header's reftable, otherwise 0.
abbrev pub reftable_at : HeaderFields → ℕ → ℕ
reftable_at h c = in_run h c h.reftable_offset (h.reftable_clusters * cluster_size h)

-- 1 if the cluster is one of n from `first` on, and the reftable has a refblock for its range; otherwise 0.
abbrev pub counted_run : HeaderFields → EntryTableView → ℕ → ℕ → ℕ → ℕ
counted_run h t first n c = if block_offset (entry_at t.bytes (c / counts_per_block h)) == 0 then 0 else run_at first n c

-- These clusters are allocated.
abbrev pub with_run : Pending → HeaderFields → EntryTableView → ℕ → ℕ → Pending
with_run p h t first n = with_new_tables p (counted_run h t first n)

-- The clusters of the reftable wait to be freed.
abbrev pub without_reftable : Pending → HeaderFields → Pending
without_reftable p h = record p { old_tables = λ c. p.old_tables c + reftable_at h c }

-- The table has the header's cluster size, and lies past cluster 0 if it has a place.
pub record StandsBehind (h : HeaderFields) (table : EntryTableView) : Type 0 where
  pub bits : table.cluster_bits ≡ h.cluster_bits
  pub elsewhere : IfSome table.cluster (λ cluster. 0 < cluster)

-- How often entries of the reftable refer to a cluster.
abbrev pub named_by_reftable_entries : HeaderFields → EntryTableView → ℕ → ℕ
named_by_reftable_entries h t c = sum_below (entry_count t) (λ k. table_in h c (block_offset (entry_at t.bytes k)))

-- A longer reftable has the old entries and refblocks in `blocks` clusters from `first` on. It lies in the clusters after them, and has entries for all of these.
pub record IsGrown (h : HeaderFields) (old t : EntryTableView) (first blocks clusters : ℕ) : Type 0 where
  pub cluster : t.cluster ≡ Some (first + blocks)
  pub bits : t.cluster_bits ≡ h.cluster_bits
  pub whole : 8 * entry_count t ≡ clusters * cluster_size h
  pub keeps : (k : ℕ) → block_offset (entry_at old.bytes k) ≢ 0 → entry_at t.bytes k ≡ entry_at old.bytes k
  pub aligned : (k : ℕ) → IsAligned h (block_offset (entry_at t.bytes k))
  pub placed : (k : ℕ) → HasNone old k → block_offset (entry_at t.bytes k) ≢ 0 → 0 < run_at first blocks (block_offset (entry_at t.bytes k) / cluster_size h)
  pub named : (c : ℕ) → named_by_reftable_entries h t c ≡ named_by_reftable_entries h old c + run_at first blocks c
  pub covered : (c : ℕ) → 0 < run_at first (blocks + clusters) c → block_offset (entry_at t.bytes (c / counts_per_block h)) ≢ 0

module _ {S : Type 0} (view : S → StorageView) where
  -- The longer reftable is on the storage, with the new refblocks, which count exactly these clusters. All other refcounts are on the storage too, and no new refblock is cached.
  pub record StandsGrown (file : ImageFile S) (old t : EntryTableView) (first blocks clusters : ℕ) : Type 0 where
    pub grown : IsGrown file.header.fields old t first blocks clusters
    pub stands : HasBytesAt (contents_in view file) ((first + blocks) * cluster_size file.header.fields) t.bytes
    pub counts : (c : ℕ) → HasNone old (c / counts_per_block file.header.fields) → block_offset (entry_at t.bytes (c / counts_per_block file.header.fields)) ≢ 0
        → block_count (contents_in view file) (count_width file.header.fields) (block_offset (entry_at t.bytes (c / counts_per_block file.header.fields))) (c % counts_per_block file.header.fields)
        ≡ run_at first (blocks + clusters) c
    pub clean : AreClean (refblocks file.caches)
    pub may : BlocksMayGo (order_of file.caches) (l2_tables file.caches)
    pub uncached : (c : ℕ) → 0 < run_at first blocks c → rb_at file.caches c ≡ None

  -- The header points to the longer reftable, and the clusters of the old one wait to be freed; or a fault left everything sound, or interrupted the step.
  abbrev pub NamesReftable : Pending → Pending → ImageFile S → Allocator → ImageFile S → Result (Unit {0}) ImageError → Type 0
  NamesReftable q p old allocator' new (Ok _) = InternalAllocatorGrowth view q old allocator' new (without_reftable p old.header.fields)
  NamesReftable q p old allocator' new (Err e) = IsFault e × RefusedFileStep view q old allocator' new e

  -- The reftable is replaced by a longer one, for which clusters are allocated; or everything is as sound as before, or a fault interrupted the step.
  abbrev pub EntersReftable : Pending → ImageFile S → Allocator → ImageFile S → Result (Unit {0}) ImageError → Type 0
  EntersReftable p old allocator' new (Ok _) = InternalAllocatorGrowth view p old allocator' new (without_reftable p old.header.fields)
  EntersReftable p old allocator' new (Err e) = RefusedGrowth view p old allocator' new p e
