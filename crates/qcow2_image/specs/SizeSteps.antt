-- What a growth and its parts do to a sound image: an L1 table is replaced by a longer one. What a flush does, and why it is refused.
use Rattle.std.specs.Prelude.{ℕ, ◌+◌, ◌<◌, ◌≡◌, ◌⊎◌, false, List, [], max, Option, None, IsTrue, Result, IfErr, IfOk, OnOk}
use Rattle.image_access.specs.Backing.{BackingView}
use Rattle.image_access.specs.Moments.{StorageView}
use Rattle.image_access.specs.declared.storage.PreallocateMode.{PreallocateMode}
use Rattle.qcow2_metadata.specs.EntryTable.{EntryTableView, entry_count}
use Rattle.qcow2_metadata.specs.Header.{cluster_size, rounded_up}
use Rattle.qcow2_laws.specs.CrashInvariant.{Pending}
use Rattle.qcow2_alloc.specs.ImageError.{IsFault, IsFaultOrLimit}
use Rattle.qcow2_alloc.specs.FreeList.{with_listed}
use Rattle.qcow2_alloc.specs.ImageFile.{contents_in, known_in}
use Rattle.qcow2_alloc.specs.declared.error.ImageError.{ImageError}
use Rattle.qcow2_alloc.specs.declared.error.ImageError.TheVariants.{Preallocation}
use Rattle.qcow2_image.specs.Found.{l1_index_of}
use Rattle.qcow2_image.specs.Growing.{LastsPart}
use Rattle.qcow2_image.specs.Image.{HasNothingToFree, is_failed, is_writable, size_of}
use Rattle.qcow2_image.specs.ImageInvariant.{ImageInvariant, abstract_of, pending_in, Mappings}
use Rattle.qcow2_image.specs.InternalSteps.{FreesListed, ListGrows}
use Rattle.qcow2_image.specs.L1Entries.{IsPlacedNear}
use Rattle.qcow2_image.specs.Limits.{IfLimit, IsLimited, IsLimitedInternal, entries_reaching}
use Rattle.qcow2_image.specs.ListedClusters.{LeavesListed}
use Rattle.qcow2_image.specs.LongerTables.{MakesEntry, AllocatesTable}
use Rattle.qcow2_image.specs.MayFail.{MayFailGrowing}
use Rattle.qcow2_image.specs.Refusals.{IsFaultOrLimit}
use Rattle.qcow2_image.specs.Resizing.{GrowsLast, GrowsTables, all_given_by_grow, boundary_in, refuses_to_resize, takes_over}
use Rattle.qcow2_image.specs.Unwritten.{ReadsQuietly}
use Rattle.qcow2_image.specs.declared.image.Qcow2.{Qcow2}
use Rattle.qcow2_image.specs.declared.prepared.Prepared.{Prepared}

module _ {S F : Type 0} (view : S → StorageView) (backing : F → BackingView) where
  -- A longer table gets its clusters, and replaces the L1 table. A refusal is a fault or a limit; the limit (13) was passed at some state within the part.
  pub record EntersTable (p : Pending) (table : EntryTableView) (old new : Qcow2 S F) (out : Mappings) (result : Result (Unit {0}) ImageError) : Type 0 where
    pub takes : AllocatesTable view backing p old new out result
    pub fault : IsTrue (is_writable old) → 0 < entry_count table → IfErr result IsFaultOrLimit
    pub limit : (offset : ℕ) → entry_count table ≡ entries_reaching offset old → IfLimit result (IsLimitedInternal view backing p (offset + 1) old out)

  -- An L1 entry for an offset is there, or is made, which guests don't see. A refusal is a fault or a limit; the limit (13) was passed at some state within the part. A refusal frees no cluster, except after a fault.
  pub record ReachesSoundly (offset : ℕ) (old new : Qcow2 S F) (out : Mappings) (result : Result (Unit {0}) ImageError) : Type 0 where
    pub makes : MakesEntry view backing old new out result
    pub fault : IfErr result IsFaultOrLimit
    pub limit : IfLimit result (IsLimited view backing [] (offset + 1) old out)
    pub listed : IfErr result (λ e. IsFault e ⊎ ListGrows old new)

  -- The L1 table gets an entry for an offset, and keeps its old ones. If this succeeds, a change is recorded, and no cluster waits to be freed. On a sound image guests don't see it, and it lasts over every disk below.
  pub record LengthensTable (offset : ℕ) (old new : Qcow2 S F) (result : Result (Unit {0}) ImageError) : Type 0 where
    pub recorded : OnOk result (IsTrue new.file.caches.is_changed)
    pub placed : old.l1_table.cluster_bits ≡ old.file.header.fields.cluster_bits → OnOk result (IsPlacedNear new.l1_table)
    pub length : OnOk result (entry_count new.l1_table ≡ max (entry_count old.l1_table) (l1_index_of old.file.header.fields offset + 1))
    pub emptied : OnOk result (HasNothingToFree new)
    pub sound : (out : Mappings) → ImageInvariant view backing (pending_in view backing old out) old out → ReachesSoundly offset old new out result
    pub lasts : (out : Mappings) → ImageInvariant view backing (pending_in view backing old out) old out → LastsPart view old new result

  -- The clusters that wait are freed, the cached tables are written, and the storage is flushed. The header stays the same, and an image that can't be written writes nothing. On a sound image only a fault refuses this.
  pub record WritesTables (old new : Qcow2 S F) (result : Result (Unit {0}) ImageError) : Type 0 where
    pub header : new.file.header ≡ old.file.header
    pub fault : (p : Pending) (out : Mappings) → ImageInvariant view backing (with_listed p old.file.free_list) old out → IfErr result IsFault
    pub emptied : IsTrue (is_writable old) → OnOk result (HasNothingToFree new)
    pub frees : (p : Pending) (out : Mappings) → ImageInvariant view backing (with_listed p old.file.free_list) old out → FreesListed view backing p old new out result
    pub quiet : is_writable old ≡ false → ReadsQuietly view old new
    pub written : IfOk result (λ done. known_in view new.file ≡ contents_in view new.file)

  -- A flush of an image that has not failed is refused only for a cause that reading and writing tables has. On a sound image a refusal is a fault.
  pub record FlushFails (old : Qcow2 S F) (result : Result (Unit {0}) ImageError) : Type 0 where
    pub late : is_failed old ≡ false → IfErr result IsFaultOrLimit
    pub fault : (out : Mappings) → (abstract_of view backing old out).is_sound → IfErr result IsFault

  -- A growth. The size is the last write. If nothing refuses a resize, and the size is larger, each refusal has its cause in the image before the call; a limit (13) was passed at some state within it. The L1 table and the L2 tables are as the mode says.
  -- What waits to be freed after a refusal other than 6 is as `LeavesListed` says.
  pub record GrowsOrRefuses (mode : PreallocateMode) (size : ℕ) (old new : Qcow2 S F) (out : Mappings) (result : Result (Unit {0}) ImageError) : Type 0 where
    pub last : GrowsLast view backing mode size old new result
    pub may_fail : refuses_to_resize old ≡ None → size_of old < size → IfErr result (λ e. MayFailGrowing out mode (size_of old) (rounded_up (cluster_size old.file.header.fields) size) old.file.header.fields (known_in view old.file) e ⊎ ((e ≡ Preallocation) × IsTrue (takes_over old mode)))
    pub limit : refuses_to_resize old ≡ None → size_of old < size → IfLimit result (IsLimited view backing (all_given_by_grow view backing out.place old size mode) (boundary_in old size) old out)
    pub tables : refuses_to_resize old ≡ None → size_of old < size → GrowsTables view backing old new size mode out result
    pub freed : refuses_to_resize old ≡ None → size_of old < size → ¬ IsTrue (takes_over old mode) → IfErr result (LeavesListed mode old new)
