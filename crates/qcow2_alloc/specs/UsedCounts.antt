-- Clusters in use, which a search for free ones passes over.
use Rattle.std.specs.Prelude.{ℕ, ◌+◌, ◌-◌, ◌/◌, ◌%◌, ◌<◌, ◌≤◌, ◌≡◌, ◌==◌, ◌≢◌, ◌⊎◌, if◌then◌else◌, true, Result, Ok, Err, Some, IfSome}
use Rattle.image_access.specs.Moments.{StorageView}
use Rattle.number_runs.specs.NumberRuns.{IsIn}
use Rattle.qcow2_metadata.specs.Bytes.{Bytes}
use Rattle.qcow2_metadata.specs.declared.header.HeaderFields.{HeaderFields}
use Rattle.qcow2_metadata.specs.Entries.{count}
use Rattle.qcow2_metadata.specs.EntryTable.{EntryTableView}
use Rattle.qcow2_metadata.specs.FirstZero.{IsFirstZero}
use Rattle.qcow2_metadata.specs.Header.{counts_per_block}
use Rattle.qcow2_metadata.specs.RefBlock.{RefBlockView, count_at, counts_of}
use Rattle.qcow2_laws.specs.CrashInvariant.{Pending}
use Rattle.qcow2_alloc.specs.Allocation.{HasNone, NamesBlock, InternalAllocatorStep}
use Rattle.qcow2_alloc.specs.ImageError.{IsFault}
use Rattle.qcow2_alloc.specs.ImageFile.{RefusedFileStep}
use Rattle.qcow2_alloc.specs.LowestRuns.{IsCovered, IsUsed, NoFreeBelowHint}
use Rattle.qcow2_alloc.specs.TableCaches.{IsBlockOf}
use Rattle.qcow2_alloc.specs.MetadataCaches.{known_of, rb_at, CacheInvariant, IsCountedAt, ReportsZero}
use Rattle.qcow2_alloc.specs.declared.allocation.Allocator.{Allocator}
use Rattle.qcow2_alloc.specs.declared.cache.MetadataCaches.{MetadataCaches}
use Rattle.qcow2_alloc.specs.declared.error.ImageError.{ImageError}
use Rattle.qcow2_alloc.specs.declared.image_file.ImageFile.{ImageFile}

-- The first free cluster after a search has passed over clusters in use. It moves only with a search that started there.
abbrev pub passed_hint : ℕ → ℕ → Result ℕ ImageError → ℕ
passed_hint hint from (Ok next) = if from == hint then next else hint
passed_hint hint from (Err e) = hint

-- A search that was at a cluster continues. Only the first free cluster and the remembered refcounts change.
pub record MovesOn (old new : Allocator) (from : ℕ) (result : Result ℕ ImageError) : Type 0 where
  pub rest : new ≡ record old { first_free_cluster = new.first_free_cluster; read = new.read; free = new.free; crowded = new.crowded }
  pub first : new.first_free_cluster ≡ passed_hint old.first_free_cluster from result

-- No spared cluster is added to a free run.
abbrev pub SparedStayOut : Allocator → Allocator → Type 0
SparedStayOut old new = (k : ℕ) → IsIn new.free k → IsIn old.free k ⊎ (IsIn old.named k → ⊥)

-- Clusters that are not spared are added to the free runs. Nothing else of the allocator changes.
pub record AddsFree (old new : Allocator) : Type 0 where
  pub rest : new ≡ record old { free = new.free }
  pub stays : (k : ℕ) → IsIn old.free k → IsIn new.free k
  pub spared : SparedStayOut old new

module _ {S : Type 0} where
  -- On sound caches, the n refcounts from this index on of a cached refblock are above 0.
  abbrev pub ReportsUsed : MetadataCaches S → ℕ → ℕ → ℕ → Type 0
  ReportsUsed caches block index n =
      (h : HeaderFields) (p : Pending) (on_storage : Bytes) (c i : ℕ) → CacheInvariant h p caches on_storage → IsCountedAt h (known_of h caches on_storage) c block i → index ≤ i → i < index + n
      → count h (known_of h caches on_storage) c ≢ 0

  -- The n refcounts from this index on of a cached refblock are above 0. The next one is 0, or the refblock ends there.
  abbrev pub ReportsFirstFree : MetadataCaches S → ℕ → ℕ → ℕ → Type 0
  ReportsFirstFree caches block index n = IfSome (rb_at caches block) (λ b. index ≤ counts_of b → IsFirstZero b index (index + n))

  -- The refblock of the cluster's range is cached, and the refcount of `next` in it is 0, or the refblock is not one of such an image.
  abbrev pub IsHeldFree : HeaderFields → EntryTableView → MetadataCaches S → ℕ → ℕ → Type 0
  IsHeldFree h reftable caches cluster next =
      (block : ℕ) × (b : RefBlockView) × NamesBlock h reftable (cluster / counts_per_block h) (Some block) × (rb_at caches block ≡ Some b) × (IsBlockOf h b → count_at b (next % counts_per_block h) ≡ 0)

  -- A search that started at a cluster continues at another: at the same one if its range has no refblock, where a range begins, or at a refcount of 0.
  abbrev pub SearchContinuesAt : HeaderFields → EntryTableView → MetadataCaches S → ℕ → ℕ → Type 0
  SearchContinuesAt h reftable caches cluster next = ((next ≡ cluster) × HasNone reftable (cluster / counts_per_block h)) ⊎ (next % counts_per_block h ≡ 0) ⊎ IsHeldFree h reftable caches cluster next

  -- A search that started at a cluster continues at another: where the refcounts allow, or at one that is not remembered as in use.
  abbrev pub SearchContinuesIn : HeaderFields → Allocator → MetadataCaches S → ℕ → ℕ → Type 0
  SearchContinuesIn h allocator caches cluster next = SearchContinuesAt h allocator.reftable caches cluster next ⊎ (IsCovered allocator next → ⊥)

  -- The cluster is spared, or it lies in a range and its refcount in a cached refblock is above 0.
  abbrev pub IsFoundUsed : Allocator → MetadataCaches S → ℕ → ℕ → ℕ → ℕ → Type 0
  IsFoundUsed allocator caches block first end k = IsIn allocator.named k ⊎ ((first ≤ k) × (k < end) × ReportsUsed caches block (k - first) 1)

  -- The clusters from `at` up to `end` have refcount 0 in a cached refblock of the range that begins at `first`.
  abbrev pub AreFoundFree : MetadataCaches S → ℕ → ℕ → ℕ → ℕ → Type 0
  AreFoundFree caches block first at end = (k : ℕ) → at ≤ k → k < end → ReportsZero caches block (k - first) true

  module _ (view : S → StorageView) where
    -- The clusters between two are in use.
    abbrev pub AreUsed : ImageFile S → ℕ → ℕ → Type 0
    AreUsed file from end = (k : ℕ) → from ≤ k → k < end → IsUsed view file k

    -- The file and its allocator stay sound, or a fault ended the call.
    abbrev pub StaysSound : {A : Type 0} → Pending → ImageFile S → Allocator → ImageFile S → Result A ImageError → Type 0
    StaysSound p old allocator' new (Ok done) = InternalAllocatorStep view p old allocator' new p
    StaysSound p old allocator' new (Err e) = IsFault e × RefusedFileStep view p old allocator' new e

    -- The file and its allocator stay sound, or a fault ended the search. If it passed over no free cluster before, all clusters from the one where it started up to the one where it continues are in use.
    abbrev pub PassesKnown : Pending → Allocator → ImageFile S → Allocator → ImageFile S → ℕ → Result ℕ ImageError → Type 0
    PassesKnown p allocator old allocator' new from (Ok next) = InternalAllocatorStep view p old allocator' new p × (NoFreeBelowHint view allocator old → AreUsed new from next)
    PassesKnown p allocator old allocator' new from (Err e) = IsFault e × RefusedFileStep view p old allocator' new e
