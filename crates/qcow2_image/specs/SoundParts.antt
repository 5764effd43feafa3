-- What the parts of a call do on a sound image with its prepared mappings: one record for each kind of part.
use Rattle.std.specs.Prelude.{◌≡◌, ℕ, ◌+◌, ◌-◌, ◌/◌, ◌<◌, ◌⊎◌, Bool, List, [], Option, Result, IfErr, OnOk, IfOk, IsNone}
use Rattle.image_access.specs.Backing.{BackingView}
use Rattle.image_access.specs.Moments.{StorageView}
use Rattle.image_access.specs.declared.storage.PreallocateMode.{PreallocateMode}
use Rattle.qcow2_metadata.specs.Header.{cluster_size, rounded_up}
use Rattle.qcow2_metadata.specs.Cover.{cover}
use Rattle.qcow2_laws.specs.CrashInvariant.{Pending}
use Rattle.qcow2_metadata.specs.declared.l2_mapping.L2Mapping.{L2Mapping}
use Rattle.qcow2_alloc.specs.ImageFile.{known_in}
use Rattle.qcow2_alloc.specs.declared.error.ImageError.{ImageError}
use Rattle.qcow2_alloc.specs.declared.error.ImageError.TheVariants.{TablePrepared}
use Rattle.qcow2_image.specs.Backings.{HasPinnedMapping}
use Rattle.qcow2_image.specs.CallParts.{FindsTable, PreparesRange}
use Rattle.qcow2_image.specs.Image.{size_of}
use Rattle.qcow2_image.specs.L1Entries.{HasNearEntry, HasOwnTable, NeedsOverflowingL1Entry}
use Rattle.qcow2_image.specs.Limits.{GoesTo, IfLimit, IsLimited, IsLimitedAmong, IsLimitedTaking, IsLimitedInternal}
use Rattle.qcow2_image.specs.ListedClusters.{LeavesListed, ListsNoMore}
use Rattle.qcow2_image.specs.MayFail.{CopiesCompressed, IsCopiedCompressed, MayFailAlone, MayFailGrowing, MayFailAllocating}
use Rattle.qcow2_image.specs.NewTables.{IsFaultOrLacksTable}
use Rattle.qcow2_image.specs.Refusals.{IsFaultOrLimit}
use Rattle.qcow2_image.specs.Resizing.{GrowsLast, GrowsTables, all_given_by_grow}
use Rattle.qcow2_image.specs.Found.{l1_index_of}
use Rattle.qcow2_image.specs.Preparing.{IsAnswered, IsTaken}
use Rattle.qcow2_image.specs.ImageInvariant.{meaning, Mappings}
use Rattle.qcow2_image.specs.Prepared.{table_of}
use Rattle.qcow2_alloc.specs.CachePins.{l2_pins}
use Rattle.qcow2_image.specs.declared.image.Qcow2.{Qcow2}
use Rattle.qcow2_image.specs.declared.prepared.Prepared.{Prepared}

-- A part of a new range is filled as `Fills` says, or refused for one of the causes in `Meets`.
pub record FillsPart (Fills Meets : Type 0) : Type 0 where
  pub fills : Fills
  pub may_fail : Meets

module _ {S F : Type 0} (view : S → StorageView) (backing : F → BackingView) where
  -- The L2 table of an offset is found, made or copied. Each refusal has its cause in the image before the part; a limit (13) was passed at some state within it. If no mapping is prepared, a refusal is a fault, or the offset has no table of its own.
  pub record TableSoundly (offset : ℕ) (old new : Qcow2 S F) (out : Mappings) (result : Result ℕ ImageError) : Type 0 where
    pub finds : FindsTable view backing old new out offset result
    pub may_fail : IfErr result (MayFailAllocating (HasPinnedMapping out) ⊥ ⊥ (NeedsOverflowingL1Entry old offset))
    pub limit : IfLimit result (IsLimited view backing [] (offset + 1) old out)
    pub lacks : (HasPinnedMapping out → ⊥) → IfErr result (IsFaultOrLacksTable view new offset)
    pub freeing : OnOk result (ListsNoMore old new)

  -- The image's own L2 table of an L1 entry is found, made or copied, as `Does` says. A refusal has a cause, if the entry is there already or may be written.
  pub record OwnsSoundly (p : Pending) (offset : ℕ) (old new : Qcow2 S F) (out : Mappings) (result : Result ℕ ImageError) (Does : Type 0) : Type 0 where
    pub does : Does
    pub may_fail : (HasOwnTable old offset ⊎ HasNearEntry old (l1_index_of old.file.header.fields offset)) → IfErr result (MayFailAllocating (HasPinnedMapping out) ⊥ ⊥ ⊥)
    pub limit : (HasOwnTable old offset ⊎ HasNearEntry old (l1_index_of old.file.header.fields offset)) → IfLimit result (IsLimitedInternal view backing p 1 old out)
    pub lacks : IfErr result (IsFaultOrLacksTable view new offset)

  -- The L2 table is loaded into the cache, as `Does` says. If no mapping is prepared, a refusal is a fault, or the offset has no table of its own.
  pub record EnsuresSoundly (p : Pending) (offset : ℕ) (old new : Qcow2 S F) (out : Mappings) (result : Result ℕ ImageError) (Does : Type 0) : Type 0 where
    pub ready : Does
    pub may_fail : (HasOwnTable old offset ⊎ HasNearEntry old (l1_index_of old.file.header.fields offset)) → IfErr result (MayFailAllocating (HasPinnedMapping out) ⊥ ⊥ ⊥)
    pub limit : (HasOwnTable old offset ⊎ HasNearEntry old (l1_index_of old.file.header.fields offset)) → IfLimit result (IsLimitedInternal view backing p 1 old out)
    pub lacks : (HasPinnedMapping out → ⊥) → IfErr result (IsFaultOrLacksTable view new offset)

  -- An L1 entry that may be written gets an L2 table, as `Does` says. A refusal has a cause.
  pub record EntersSoundly (p : Pending) (index : ℕ) (old : Qcow2 S F) (out : Mappings) (result : Result ℕ ImageError) (Does : Type 0) : Type 0 where
    pub does : Does
    pub may_fail : HasNearEntry old index → IfErr result (MayFailAllocating (HasPinnedMapping out) ⊥ ⊥ ⊥)
    pub limit : HasNearEntry old index → IfLimit result (IsLimitedInternal view backing p 1 old out)

  -- The L1 table is extended to cover an offset, as `Does` says. A refusal is a fault or a limit.
  pub record EntrySoundly (offset : ℕ) (old new : Qcow2 S F) (out : Mappings) (result : Result (Unit {0}) ImageError) (Does : Type 0) : Type 0 where
    pub makes : Does
    pub fault : IfErr result IsFaultOrLimit
    pub limit : IfLimit result (IsLimited view backing [] (offset + 1) old out)
    pub lacks : IfErr result (IsFaultOrLacksTable view new offset)

  -- A cluster is allocated for an offset and filled, as `Does` says. It is refused for a compressed cluster that would have to be copied, for lack of room, or by a fault.
  pub record FillsSoundly {T : Type 0} (p : Pending) (covered : L2Mapping) (offset length : ℕ) (overwrite : Bool) (old new : Qcow2 S F) (out : Mappings) (result : Result T ImageError) (Does : Type 0) : Type 0 where
    pub does : Does
    pub may_fail : IfErr result (MayFailAlone (IsCopiedCompressed old.file.header.fields covered offset length overwrite) ⊥)
    pub limit : IfLimit result (IsLimitedTaking view backing p 1 old out)

  -- A range of at least one byte is prepared. Each refusal has its cause in the image before the part; a limit (13) was passed at some state within it. The mapping matches the mappings of its clusters, and an existing one leaves no more clusters to free.
  pub record PreparesSoundly (offset length : ℕ) (overwrite : Bool) (old new : Qcow2 S F) (out : Mappings) (result : Result Prepared ImageError) : Type 0 where
    pub readies : PreparesRange view backing old new out offset length overwrite result
    pub may_fail : IfErr result (MayFailAllocating (HasPinnedMapping out) (IsTaken old.file.header.fields (known_in view old.file) offset length out) (CopiesCompressed offset length overwrite old.file.header.fields (known_in view old.file)) (NeedsOverflowingL1Entry old offset))
    pub taken : IfErr result (λ e. e ≡ TablePrepared → IsTaken old.file.header.fields (known_in view old.file) offset length out)
    pub answers : IfOk result (λ q. IsAnswered old.file.header.fields (known_in view old.file) offset length new.file.header.fields (known_in view new.file) q (meaning view backing out.place new q))
    pub freeing : IfOk result (λ p. IsNone (table_of p) → ListsNoMore old new)
    pub limit : IfLimit result (IsLimited view backing [] (offset + 1) old out)

  -- A range is prepared in a cached L2 table. A mapping that would have to pin the table is refused if it is pinned already.
  pub record InTableSoundly (table offset length : ℕ) (overwrite : Bool) (old new : Qcow2 S F) (out : Mappings) (result : Result Prepared ImageError) : Type 0 where
    pub readies : PreparesRange view backing old new out offset length overwrite result
    pub may_fail : 0 < length → IfErr result (MayFailAllocating (HasPinnedMapping out) (0 < l2_pins old.file.caches table) (CopiesCompressed offset length overwrite old.file.header.fields (known_in view old.file)) ⊥)
    pub limit : 0 < table → IfLimit result (IsLimited view backing [] 1 old out)

  -- A mapping is extended by the next cluster, as `Does` says. It is refused for a compressed cluster that would have to be copied, for lack of room, or by a fault.
  pub record BehindSoundly {T : Type 0} (mapping : Prepared) (length : ℕ) (overwrite : Bool) (old new : Qcow2 S F) (out : Mappings) (result : Result T ImageError) (Does : Type 0) : Type 0 where
    pub does : Does
    pub may_fail : IfErr result (MayFailAlone (IsCopiedCompressed old.file.header.fields (cover old.file.header.fields (known_in view old.file) ((mapping.guest + mapping.length) / cluster_size old.file.header.fields))
        (mapping.guest + mapping.length) (length - mapping.length) overwrite) ⊥)
    pub limit : IfLimit result (IsLimitedAmong view backing [] 1 old out)

  -- A mapping is extended as far as possible, as `Does` says. A refusal has its cause where the mapping ends.
  pub record RestSoundly (start : Qcow2 S F) (length : ℕ) (overwrite : Bool) (mapping mapping' : Prepared) (old new : Qcow2 S F) (out : Mappings) (result : Result (Unit {0}) ImageError) (Does : Type 0) : Type 0 where
    pub does : Does
    pub may_fail : IfErr result (MayFailAlone (CopiesCompressed mapping.guest length overwrite old.file.header.fields (known_in view old.file)) ⊥)
    pub limit : GoesTo view start old → IfLimit result (IsLimitedAmong view backing [] 1 start out)

  -- A growth. Each refusal has its cause in the image before it; a limit (13) was passed at some state within it. What waits to be freed after a refusal is as `LeavesListed` says. The size is the last write. The L1 table and the L2 tables are as the mode says. With mode `None` a stop is as safe as before over every disk below.
  pub record GrowsSoundly (mode : PreallocateMode) (size : ℕ) (old new : Qcow2 S F) (out : Mappings) (result : Result (Unit {0}) ImageError) : Type 0 where
    pub may_fail : IfErr result (MayFailGrowing out mode (size_of old) (rounded_up (cluster_size old.file.header.fields) size) old.file.header.fields (known_in view old.file))
    pub limit : IfLimit result (IsLimited view backing (all_given_by_grow view backing out.place old size mode) (rounded_up (cluster_size old.file.header.fields) size) old out)
    pub last : GrowsLast view backing mode size old new result
    pub tables : GrowsTables view backing old new size mode out result
    pub freed : IfErr result (LeavesListed mode old new)
