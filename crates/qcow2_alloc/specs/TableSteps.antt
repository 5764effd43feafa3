-- What loading and flushing a cached table do to the storage.
use Rattle.std.specs.Prelude.{◌≡◌, ◌⊎◌, ℕ, ◌*◌, ◌^◌, Bool, true, false, List, length, Result, Ok, Err, IsErrOf}
use Rattle.image_access.specs.Contents.{bytes_at, overwritten}
use Rattle.image_access.specs.Moments.{StorageView, ContentsStay, Calls, QuietCalls}
use Rattle.image_access.specs.declared.error.StorageError.{StorageError}
use Rattle.image_access.specs.declared.error.StorageError.TheVariants.{Fault}
use Rattle.qcow2_metadata.specs.declared.error.MetadataError.{MetadataError}
use Rattle.qcow2_metadata.specs.declared.error.MetadataError.TheVariants as M
use Rattle.qcow2_metadata.specs.MetadataError.{storage_result}
use Rattle.qcow2_metadata.specs.TableBytes.{HasPlace, IsOfStorageOrMemory}
use Rattle.qcow2_alloc.specs.AsyncLruCacheBackend.{Steps}

-- The storage's result in a step that is done, or refused.
abbrev pub answer_done : Result (Unit {0}) StorageError
answer_done = Ok tt

abbrev pub answer_refused : MetadataError → Result (Unit {0}) StorageError
answer_refused e = storage_result {T = Unit {0}} (Err e)

-- The refusals of loading and flushing a table: an error of the storage, want of memory, and a cluster or a table that doesn't fit.
abbrev pub IsOfTable : MetadataError → Type 0
IsOfTable (M.Storage e) = Unit {0}
IsOfTable M.Memory = Unit {0}
IsOfTable M.Version = ⊥
IsOfTable M.Unaligned = ⊥
IsOfTable M.Limit = Unit {0}
IsOfTable M.Format = ⊥

-- The storage failed.
abbrev pub IsTableFault : MetadataError → Type 0
IsTableFault e = IsErrOf (answer_refused e) Fault

module _ {S V : Type 0} (view : S → StorageView) (cluster_bits : ℕ) (bytes : V → List ℕ) (is_modified : V → Bool) (cleared : V → V) (IsFit : V → Type 0) where
  -- The offset of a cluster.
  abbrev pub place_of_cluster : ℕ → ℕ
  place_of_cluster k = k * 2 ^ cluster_bits

  -- Loading returns an unmodified table with the bytes of its cluster.
  pub record LoadsTable (s : S) (k : ℕ) (v : V) (t : S) : Type 0 where
    pub unmodified : is_modified v ≡ false
    pub fits : IsFit v
    pub read : (view s).is_honest → bytes v ≡ bytes_at (view s).contents (place_of_cluster k) (2 ^ cluster_bits)
    pub calls : QuietCalls (view s) (view t) answer_done
    pub keeps : ContentsStay (view s) (view t)

  -- Loading from a cluster that has a place is refused by the storage, or because memory ran out.
  pub record FailsToLoad (s : S) (k : ℕ) (e : MetadataError) (t : S) : Type 0 where
    pub among : IsOfTable e
    pub cause : HasPlace cluster_bits k → IsOfStorageOrMemory e
    pub calls : QuietCalls (view s) (view t) (answer_refused e)
    pub keeps : ContentsStay (view s) (view t)

  -- The table's bytes are in its cluster.
  pub record IsTableWritten (s : S) (k : ℕ) (v : V) (t : S) : Type 0 where
    pub fits : length (bytes v) ≡ 2 ^ cluster_bits
    pub written : (view s).is_honest → (view t).contents ≡ overwritten (view s).contents (place_of_cluster k) (bytes v)

  -- A modified table is written, an unmodified one is not. It is unmodified then.
  pub record FlushesTable (s : S) (k : ℕ) (v w : V) (t : S) : Type 0 where
    pub clean : w ≡ cleared v
    pub skips : is_modified v ≡ false → ContentsStay (view s) (view t)
    pub writes : is_modified v ≡ true → IsTableWritten s k v t
    pub calls : Calls (view s) (view t) answer_done

  -- Flushing fails only for a modified table. It was written whole or not at all.
  pub record FailsToFlush (s : S) (k : ℕ) (v : V) (e : MetadataError) (t : S) : Type 0 where
    pub modified : is_modified v ≡ true
    pub among : IsOfTable e
    pub cause : IsFit v → HasPlace cluster_bits k → IsOfStorageOrMemory e
    pub stopped : (view s).is_honest → ((view t).contents ≡ (view s).contents)
        ⊎ ((length (bytes v) ≡ 2 ^ cluster_bits) × ((view t).contents ≡ overwritten (view s).contents (place_of_cluster k) (bytes v)))
    pub calls : Calls (view s) (view t) (answer_refused e)

  abbrev pub table_steps : Steps S ℕ V MetadataError
  table_steps = record {
    loaded = LoadsTable;
    load_failed = FailsToLoad;
    flushed = FlushesTable;
    flush_failed = FailsToFlush;
  }
