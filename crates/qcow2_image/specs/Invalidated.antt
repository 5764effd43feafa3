-- `invalidate_cache`: everything that was cached is dropped, and the tables and their pointers are read again.
use Rattle.std.specs.Prelude.{◌≡◌, ◌<◌, ◌≤◌, ◌*◌, ◌⊎◌, ℕ, Bool, false, IsTrue, IfErr, IfSome, IsErrAnd, IsSome, List, [], Option, None, OnErr, OnOk, Result, Ok, Err, option_map}
use Rattle.image_access.specs.Backing.{BackingView}
use Rattle.image_access.specs.Moments.{StorageView}
use Rattle.qcow2_metadata.specs.Bytes.{Bytes}
use Rattle.qcow2_metadata.specs.EntryTable.{EntryTableView}
use Rattle.qcow2_metadata.specs.Header.{HeaderView, header, entries_per_cluster, with_fields, with_tables_of, HeaderReads, IsWellFormed, IsWithinLimits}
use Rattle.qcow2_metadata.specs.HeaderLoad.{HasAlignedTables}
use Rattle.qcow2_metadata.specs.declared.header.HeaderFields.{HeaderFields}
use Rattle.qcow2_alloc.specs.CachePins.{l2_pins, CachesHaveRoom}
use Rattle.qcow2_alloc.specs.ImageError.{IsFault}
use Rattle.qcow2_alloc.specs.ImageFile.{contents_in, known_in, view_in, HasReftable}
use Rattle.qcow2_alloc.specs.MetadataCaches.{l2_at, rb_at}
use Rattle.qcow2_alloc.specs.declared.error.ImageError.{ImageError}
use Rattle.qcow2_alloc.specs.declared.error.ImageError.TheVariants as I
use Rattle.qcow2_image.specs.Backings.{HasPinnedMapping}
use Rattle.qcow2_image.specs.BehindHeader.{NamesTablesBehind, PreservesHeaderCluster}
use Rattle.qcow2_image.specs.Calls.{AnswersCall}
use Rattle.qcow2_image.specs.Faults.{CountsImageFaults}
use Rattle.qcow2_image.specs.Image.{HasNothingToFree, IsSameImage, is_failed, is_writable, leaked_in}
use Rattle.qcow2_image.specs.ImageInvariant.{abstract_of, HasL1Table, Mappings}
use Rattle.qcow2_image.specs.ImageSteps.{ImageStep, ImageStepWhere}
use Rattle.qcow2_image.specs.Noted.{FailsOnceWritten}
use Rattle.qcow2_image.specs.Image.{HasPinnedTable}
use Rattle.qcow2_image.specs.Readable.{IsReasonAgainstTables}
use Rattle.qcow2_image.specs.Refusals.{MayFail, MarksFailed}
use Rattle.qcow2_image.specs.Unwritten.{ContentsStayThroughout, HoldsNothingModified}
use Rattle.qcow2_image.specs.declared.image.Qcow2.{Qcow2}
use Rattle.qcow2_image.specs.declared.prepared.Prepared.{Prepared}

-- Why the pointers to the tables are not read: an unreadable header, a limit, or an unaligned table. The limits are also those of the cluster size in memory.
abbrev pub IsReasonAgainstPlaces : HeaderFields → Bytes → Bool → ImageError → Type 0
IsReasonAgainstPlaces h b writable I.Metadata = ¬ IsWellFormed (header b) b
IsReasonAgainstPlaces h b writable I.Limit = (IsWellFormed (header b) b × ¬ IsWithinLimits (header b)) ⊎ (1048576 < (header b).reftable_clusters * entries_per_cluster h)
IsReasonAgainstPlaces h b writable I.UnalignedTable = HeaderReads (header b) b × ¬ HasAlignedTables (header b) writable
IsReasonAgainstPlaces h b writable I.Memory = Unit {0}
IsReasonAgainstPlaces h b writable I.Storage = Unit {0}
IsReasonAgainstPlaces h b writable e = ⊥

-- Why the pointers, or the tables that they lead to, are not read.
abbrev pub IsReasonNotToRead : HeaderFields → Bytes → Bool → ImageError → Type 0
IsReasonNotToRead h b writable e = IsReasonAgainstPlaces h b writable e ⊎ IsReasonAgainstTables (with_tables_of h (header b)) b writable e

-- The call is refused 21, because tables are still in use.
abbrev pub IsStillInUse : ImageError → Type 0
IsStillInUse (I.StillInUse tables) = Unit {0}
IsStillInUse e = ⊥

-- The refusals of reading the tables again during the work, by any storage: those of other calls; 3, for a header; or 21.
abbrev pub MayFailToInvalidate : ImageError → Type 0
MayFailToInvalidate e = MayFail e ⊎ ((e ≡ I.Version) ⊎ IsStillInUse e)

-- A refusal 21, or 14 for lack of memory.
abbrev pub IsOfPrepared : ImageError → Type 0
IsOfPrepared e = IsStillInUse e ⊎ (e ≡ I.Memory)

module _ {S F : Type 0} where
  -- No table is cached.
  pub record HoldsNoTable (image : Qcow2 S F) : Type 0 where
    pub tables : (cluster : ℕ) → l2_at image.file.caches cluster ≡ None
    pub blocks : (cluster : ℕ) → rb_at image.file.caches cluster ≡ None

  -- Every cached L2 table is pinned by a prepared mapping.
  abbrev pub HoldsPinnedAlone : Qcow2 S F → Type 0
  HoldsPinnedAlone image = (cluster : ℕ) → IsSome (l2_at image.file.caches cluster) → 0 < l2_pins image.file.caches cluster

  -- In the header only the pointers to the L1 table and the reftable may change. The names, the backing disk and the count of leaked clusters stay the same.
  pub record KeepsAllButTables (old new : Qcow2 S F) : Type 0 where
    pub header : new.file.header ≡ with_fields old.file.header (with_tables_of old.file.header.fields new.file.header.fields)
    pub below : new.backing ≡ old.backing
    pub leaks : leaked_in new ≡ leaked_in old

  -- The reftable in memory, if there is one.
  abbrev pub reftable_in : Qcow2 S F → Option EntryTableView
  reftable_in image = option_map (λ a. a.reftable) image.allocator

  -- The header, the L1 table and the reftable in memory are unchanged.
  pub record KeepsTables (old new : Qcow2 S F) : Type 0 where
    pub header : new.file.header ≡ old.file.header
    pub l1_table : new.l1_table ≡ old.l1_table
    pub reftable : reftable_in new ≡ reftable_in old

  -- A header that differs from the one in memory only in the pointers to the L1 table and the reftable. With the cluster size in memory, its reftable is within the limit.
  pub record ArePlacesFor (image : Qcow2 S F) (places : HeaderView) : Type 0 where
    pub others : places.fields ≡ with_tables_of image.file.header.fields places.fields
    pub few : places.fields.reftable_clusters * entries_per_cluster image.file.header.fields ≤ 1048576

  -- The call succeeds only if no L2 table is pinned. If one is, it is refused 21, or 14 if there is no memory for the list of pinned tables.
  abbrev pub RespectsPrepared : {T : Type 0} → Qcow2 S F → Result T ImageError → Type 0
  RespectsPrepared old (Ok _) = ¬ HasPinnedTable old
  RespectsPrepared old (Err (I.StillInUse tables)) = Unit {0}
  RespectsPrepared old (Err I.Memory) = Unit {0}
  RespectsPrepared old (Err e) = ¬ HasPinnedTable old

  -- The list of clusters to free is emptied, and tables are dropped.
  pub record DropsCached (old new : Qcow2 S F) : Type 0 where
    pub rest : new ≡ record old { file = record old.file { caches = new.file.caches; free_list = [] }; allocator = new.allocator }
    pub reftable : reftable_in new ≡ reftable_in old
    pub leaks : leaked_in new ≡ leaked_in old
    pub unmodified : HoldsNothingModified old → HoldsNothingModified new

  module _ (view : S → StorageView) where
    -- No cluster waits to be freed and no table to be written, as right after a flush.
    pub record IsAtRest (image : Qcow2 S F) : Type 0 where
      pub freed : HasNothingToFree image
      pub written : known_in view image.file ≡ contents_in view image.file

    -- Nothing is written: on an honest storage the contents are the same, now and at every moment since.
    abbrev pub WritesNothing : Qcow2 S F → Qcow2 S F → Type 0
    WritesNothing old new = (view_in view old.file).is_honest → ContentsStayThroughout (view_in view old.file) (view_in view new.file)

    -- The pointers to the tables are read. Only the storage and the data file change.
    pub record ReadsPlaces (old new : Qcow2 S F) : Type 0 where
      pub part : ImageStep view old new
      pub rest : new ≡ record old { file = record old.file { storage = new.file.storage }; data_file = new.data_file }
      pub silent : WritesNothing old new

    -- The tables are read.
    pub record ReadsTables (old new : Qcow2 S F) : Type 0 where
      pub part : ImageStepWhere view (NamesTablesBehind old.file.header.fields) old new
      pub rest : new ≡ record old { file = record old.file { storage = new.file.storage }; l1_table = new.l1_table; allocator = new.allocator }
      pub leaks : leaked_in new ≡ leaked_in old
      pub silent : WritesNothing old new

    -- A part of the call: it is the same image, and nothing is written. If no cached table was modified, none is afterwards. The header's cluster stays the same, if the header has no table there.
    pub record ReadsAnew (old new : Qcow2 S F) : Type 0 where
      pub part : ImageStepWhere view (NamesTablesBehind new.file.header.fields) old new
      pub rest : KeepsAllButTables old new
      pub silent : WritesNothing old new
      pub unmodified : HoldsNothingModified old → HoldsNothingModified new

    -- The tables are read, and replace those in memory together with their pointers. Nothing is written, and the caches and the list of clusters to free stay the same.
    pub record ReplacesTables (old new : Qcow2 S F) : Type 0 where
      pub part : ImageStepWhere view (NamesTablesBehind new.file.header.fields) old new
      pub rest : new ≡ record old { file = record old.file { storage = new.file.storage; header = new.file.header }; l1_table = new.l1_table; allocator = new.allocator }
      pub header : new.file.header ≡ with_fields old.file.header (with_tables_of old.file.header.fields new.file.header.fields)
      pub leaks : leaked_in new ≡ leaked_in old
      pub silent : WritesNothing old new

    -- Why the call is refused 21: an L2 table is pinned, and then no other one stays cached; or a refblock is pinned, which never happens on a sound image.
    abbrev pub IsReasonAgainstReading : Qcow2 S F → Qcow2 S F → ImageError → Type 0
    IsReasonAgainstReading old new (I.StillInUse tables) = (HasPinnedTable old × HoldsPinnedAlone new) ⊎ ¬ CachesHaveRoom old.file.caches
    IsReasonAgainstReading old new e = IsReasonNotToRead old.file.header.fields (contents_in view old.file) (is_writable old) e

    module _ (backing : F → BackingView) where
      -- The header has the pointers to the L1 table and the reftable that are in the contents, and the tables in memory are those on the storage.
      pub record IsAsStored (image : Qcow2 S F) : Type 0 where
        pub header_is : with_tables_of image.file.header.fields (header (contents_in view image.file)) ≡ image.file.header.fields
        pub l1_table : HasL1Table view backing image.file image.l1_table
        pub reftable : IfSome image.allocator (λ a. HasReftable view image.file a.reftable)

      module _ (old new : Qcow2 S F) (result : Result (Unit {0}) ImageError) where
        -- What every call does. It writes nothing and frees no cluster. If no cached table was modified, none is afterwards. If it succeeds, no table is cached, and the tables in memory were read from the storage, if that is honest.
        pub record InvalidatingStep : Type 0 where
          pub image : IsSameImage old new
          pub marks : MarksFailed old new result
          pub once_written : FailsOnceWritten view old new result
          pub header_cluster : NamesTablesBehind new.file.header.fields → PreservesHeaderCluster view old new
          pub faults : CountsImageFaults view backing old new result
          pub rest : KeepsAllButTables old new
          pub silent : WritesNothing old new
          pub unmodified : HoldsNothingModified old → HoldsNothingModified new
          pub dropped : OnOk result (HoldsNoTable new)
          pub read : (view_in view old.file).is_honest → OnOk result (IsAsStored new)

        -- Why the call is refused, and what it leaves then: the header, the L1 table and the reftable in memory are unchanged. A failed image stays as it is. Any other one forgets which clusters wait to be freed, whatever the call returns.
        pub record InvalidatingFails : Type 0 where
          pub failed : IsTrue (is_failed old) → (result ≡ Err I.Failed) × (new ≡ old)
          pub kept : OnErr result (KeepsTables old new)
          pub cause : is_failed old ≡ false → IfErr result MayFailToInvalidate
          pub prepared : is_failed old ≡ false → RespectsPrepared old result
          pub why : is_failed old ≡ false → (view_in view old.file).is_honest → IfErr result (IsReasonAgainstReading old new)
          pub list : is_failed old ≡ false → HasNothingToFree new

        -- A sound image with nothing to free or to write looks the same after the call. While a mapping that isn't existing is prepared, the call is refused 21 or 14. Otherwise it is refused only for a fault.
        pub record InvalidatesSoundly : Type 0 where
          pub same : IsAtRest old → AnswersCall view backing old new [] (λ done was is. is ≡ was) result
          pub fault : (out : Mappings) → (abstract_of view backing old out).is_sound → ¬ HasPinnedMapping out → IfErr result IsFault
          pub prepared : (out : Mappings) → (abstract_of view backing old out).is_sound → HasPinnedMapping out → IsErrAnd result IsOfPrepared
          pub in_use : (out : Mappings) → (abstract_of view backing old out).is_sound → IfErr result (λ e. IsStillInUse e → HasPinnedMapping out)
