-- When an image opens and why it is refused: by its contents, by whether it is opened for writing, and by the files that are missing.
use Rattle.std.specs.Prelude.{ℕ, ◌≡◌, ◌≢◌, ◌⊎◌, Bool, IsTrue, List, Option, Some, None, Result, Ok, Err, false}
use Rattle.image_access.specs.Moments.{StorageView}
use Rattle.qcow2_metadata.specs.Bytes.{Bytes, byte_at}
use Rattle.qcow2_metadata.specs.Header.{header, HeaderReads, IsWellFormed, IsWithinLimits}
use Rattle.qcow2_metadata.specs.declared.header.HeaderFields.{HeaderFields}
use Rattle.qcow2_metadata.specs.HeaderLoad.{HasAlignedTables}
use Rattle.qcow2_alloc.specs.declared.error.ImageError.{ImageError}
use Rattle.qcow2_alloc.specs.declared.error.ImageError.TheVariants as I
use Rattle.qcow2_alloc.specs.LoadedTables.{IsReasonAgainstL1Table, IsReasonAgainstReftable, L1TableReads, ReftableReads}
use Rattle.qcow2_image.specs.declared.image.Missing.{Missing}
use Rattle.qcow2_image.specs.declared.image.Missing.TheVariants as M
use Rattle.qcow2_image.specs.declared.image.Qcow2.{Qcow2}
use Rattle.qcow2_metadata.specs.Consistent.{IsConsistent}
use Rattle.qcow2_image.specs.BehindHeader.{LiesBehindHeader, NamesTablesBehind}
use Rattle.qcow2_image.specs.CountedOpening.{OpeningCounts}
use Rattle.qcow2_image.specs.Growing.{SameFormat}
use Rattle.qcow2_image.specs.Image.{is_failed, is_writable, number_of}
use Rattle.qcow2_image.specs.Opened.{HasNamesIn, IsKeptSince, IsRefusedAlone, LeavesStorage, NeedsMissing, storage_after}
use Rattle.qcow2_image.specs.Image.{HasPinnedTable}
use Rattle.qcow2_image.specs.Unwritten.{ContentsStayThroughout, HoldsNothingModified}

-- The header is readable, its tables are aligned, and the image needs no file that is missing.
pub record HeaderSuits (contents : List ℕ) (writable : Bool) (missing : Missing) : Type 0 where
  pub reads : HeaderReads (header (byte_at contents)) (byte_at contents)
  pub on_clusters : HasAlignedTables (header (byte_at contents)) writable
  pub needs_none : ¬ NeedsMissing missing contents

-- The L1 table is readable. If the image is opened for writing, the reftable is readable too.
pub record NeededTablesRead (h : HeaderFields) (b : Bytes) (writable : Bool) : Type 0 where
  pub l1_table : L1TableReads h b
  pub reftable : IsTrue writable → ReftableReads h b

-- The contents can be opened.
pub record IsReadable (contents : List ℕ) (writable : Bool) (missing : Missing) : Type 0 where
  pub by_header : HeaderSuits contents writable missing
  pub tables : NeededTablesRead (header (byte_at contents)) (byte_at contents) writable

-- Why the tables are not loaded: because of the L1 table; or, if that is readable and the image is opened for writing, because of the reftable.
abbrev pub IsReasonAgainstTables : HeaderFields → Bytes → Bool → ImageError → Type 0
IsReasonAgainstTables h b writable e = IsReasonAgainstL1Table h b e ⊎ (IsTrue writable × L1TableReads h b × IsReasonAgainstReftable h b e)

-- The header can be opened, and a table is refused.
abbrev pub IsTableRefused : List ℕ → Bool → Missing → ImageError → Type 0
IsTableRefused contents writable missing e = HeaderSuits contents writable missing × IsReasonAgainstTables (header (byte_at contents)) (byte_at contents) writable e

-- Why opening is refused. The order is: an unreadable header, a limit, an unaligned table, a missing file, and then the tables. A fault comes when it occurs.
abbrev pub IsJustifiedRefusal : List ℕ → Bool → Missing → ImageError → Type 0
IsJustifiedRefusal contents writable missing I.Metadata = ¬ IsWellFormed (header (byte_at contents)) (byte_at contents) ⊎ IsTableRefused contents writable missing I.Metadata
IsJustifiedRefusal contents writable missing I.Limit =
    (IsWellFormed (header (byte_at contents)) (byte_at contents) × ¬ IsWithinLimits (header (byte_at contents))) ⊎ IsTableRefused contents writable missing I.Limit
IsJustifiedRefusal contents writable missing I.UnalignedTable = HeaderReads (header (byte_at contents)) (byte_at contents) × ¬ HasAlignedTables (header (byte_at contents)) writable
IsJustifiedRefusal contents writable missing I.Dependency = HasAlignedTables (header (byte_at contents)) writable × NeedsMissing missing contents
IsJustifiedRefusal contents writable missing I.Memory = Unit {0}
IsJustifiedRefusal contents writable missing I.Storage = Unit {0}
IsJustifiedRefusal contents writable missing e = ⊥

-- Opening succeeds only if the contents can be opened, and is refused only for one of these reasons. If no file is missing, opening does not ask for one, on any storage.
abbrev pub OpensRightly : {S F : Type 0} → StorageView → Bool → Missing → Result (Qcow2 S F) (S × ImageError) → Type 0
OpensRightly storage writable missing (Ok image) = storage.is_honest → IsReadable storage.contents writable missing
OpensRightly storage writable missing (Err refused) = (refused.1 ≡ I.Dependency → missing ≢ M.Nothing) × (storage.is_honest → IsJustifiedRefusal storage.contents writable missing refused.1)

-- What opening does, whether it succeeds or not. Each fault is counted and reported. Only the autoclear field may change, and a stop at any moment is as safe as before.
-- An image that needs a missing file is refused before any byte changes. Opening succeeds and is refused only for the reasons above.
pub record OpeningStep {S F : Type 0} (view : S → StorageView) (before : StorageView) (writable : Bool) (missing : Missing) (result : Result (Qcow2 S F) (S × ImageError)) : Type 0 where
  pub faults : OpeningCounts view before.faults result
  pub storage : LeavesStorage view writable before result
  pub since : before.is_honest → IsConsistent (byte_at before.contents) → IsKeptSince before (view (storage_after result))
  pub another : before.is_honest → NeedsMissing missing before.contents → IsRefusedAlone result × ContentsStayThroughout before (view (storage_after result))
  pub cause : OpensRightly before writable missing result

-- An image that was just opened: with its number, for reading or for writing, and not failed. No table is pinned or modified. Its header has the format and the names on the storage, and no table lies in the header's cluster.
pub record IsNewlyOpened {S F : Type 0} (before : StorageView) (writable : Bool) (number : ℕ) (image : Qcow2 S F) : Type 0 where
  pub number_is : number_of image ≡ number
  pub works : is_failed image ≡ false
  pub writable_is : is_writable image ≡ writable
  -- 128 L2 tables and 32 refblocks can be cached.
  pub room : (image.file.caches.l2.size ≡ 128) × (image.file.caches.rb.size ≡ 32)
  pub unpinned : ¬ HasPinnedTable image
  pub unmodified : HoldsNothingModified image
  pub header_cluster : NamesTablesBehind image.file.header.fields → LiesBehindHeader image
  pub format : before.is_honest → SameFormat (header (byte_at before.contents)) image.file.header.fields
  pub names : before.is_honest → HasNamesIn image.file.header before.contents

-- The files that are missing when a builder opens: the backing file and the data file, unless a file or `None` was given for it.
abbrev pub files_missing : {S F : Type 0} → Option (Option F) → Option (Option S) → Missing
files_missing None None = M.OtherFiles
files_missing None (Some file) = M.BackingFile
files_missing (Some disk) None = M.DataFile
files_missing (Some disk) (Some file) = M.Nothing
