-- What opening an image returns: its header and tables as they are on the storage, and no modified table.
use Rattle.std.specs.Prelude.{ℕ, ◌≡◌, ◌==◌, ◌⊎◌, ◌&&◌, ◌||◌, Bool, not, false, true, IfSome, List, [], MatchResult, Option, Result, Ok, Err, if◌then◌else◌}
use Rattle.std.specs.Option.{is_some}
use Rattle.image_access.specs.Backing.{BackingView}
use Rattle.image_access.specs.Moments.{EachMomentSince, Rose, StorageView}
use Rattle.qcow2_metadata.specs.Bytes.{Bytes, byte_at}
use Rattle.qcow2_metadata.specs.Consistent.{IsConsistent}
use Rattle.qcow2_metadata.specs.EntryTable.{EntryTableView}
use Rattle.qcow2_metadata.specs.Header.{HeaderView, header, with_fields, has_data_file}
use Rattle.qcow2_metadata.specs.HeaderLoad.{IsHeaderIn}
use Rattle.qcow2_metadata.specs.HeaderWrite.{autoclear_cleared}
use Rattle.qcow2_laws.specs.CrashInvariant.{Pending}
use Rattle.qcow2_laws.specs.Opened.{surplus_of}
use Rattle.qcow2_disk.specs.Stops.{SafeThroughout}
use Rattle.qcow2_disk.specs.AbstractImages.{IsOpened}
use Rattle.qcow2_alloc.specs.declared.allocation.Allocator.{Allocator}
use Rattle.qcow2_alloc.specs.declared.error.ImageError.{ImageError}
use Rattle.qcow2_alloc.specs.declared.image_file.ImageFile.{ImageFile}
use Rattle.qcow2_alloc.specs.declared.error.ImageError.TheVariants.{Dependency, Storage, UnalignedTable}
use Rattle.qcow2_alloc.specs.ImageError.{IsFault}
use Rattle.qcow2_alloc.specs.ImageFile.{l2_pins, nothing_given, view_in, FileInvariant, HasReftable}
use Rattle.qcow2_alloc.specs.MetadataCaches.{known_of}
use Rattle.qcow2_alloc.specs.KeptAllocators.{IsAllocatorOf}
use Rattle.qcow2_image.specs.declared.image.Missing.{Missing}
use Rattle.qcow2_image.specs.declared.image.Missing.TheVariants as M
use Rattle.qcow2_image.specs.declared.image.Qcow2.{Qcow2}
use Rattle.qcow2_image.specs.Image.{storage_of_image}
use Rattle.qcow2_image.specs.ImageInvariant.{abstract_of, HasL1Table, in_image}

-- At every moment since, and now, a stop is as safe as before: a consistent image stays consistent and shows the same disk.
abbrev pub IsKeptSince : StorageView → StorageView → Type 0
IsKeptSince old new = SafeThroughout old new (byte_at old.contents) nothing_given []

-- The contents after opening. Opening for reading changes nothing. Opening for writing clears the autoclear field (8 bytes), if the image has version 3 and a bit of it is set.
abbrev pub opened_contents : Bool → List ℕ → List ℕ
opened_contents writable contents = if writable && not ((header (byte_at contents)).autoclear == 0) then autoclear_cleared contents else contents

-- The storage has these contents, and the header in memory is the one in them.
pub record StandsOpened (writable : Bool) (old new : StorageView) (v : HeaderView) : Type 0 where
  pub contents : new.contents ≡ opened_contents writable old.contents
  pub header : IsHeaderIn v new.contents

-- A refused opening leaves the contents as they were. If the storage failed, and counted it, the autoclear field may have been cleared.
abbrev pub StandsRefused : Bool → StorageView → StorageView → ImageError → Type 0
StandsRefused writable old new e = (new.contents ≡ old.contents) ⊎ ((e ≡ Storage) × Rose old.faults new.faults × (new.contents ≡ opened_contents writable old.contents))

-- At every moment since, the contents are the old ones or those after opening.
abbrev pub OpensAtOnce : Bool → StorageView → StorageView → Type 0
OpensAtOnce writable old new = EachMomentSince old new (λ c. (c ≡ old.contents) ⊎ (c ≡ opened_contents writable old.contents))

-- The two headers have the same names.
abbrev pub SameNames : HeaderView → HeaderView → Type 0
SameNames old new = (new.backing_name ≡ old.backing_name) × (new.backing_format ≡ old.backing_format) × (new.data_file_name ≡ old.data_file_name)

-- The names are those in these contents.
abbrev pub HasNamesIn : HeaderView → List ℕ → Type 0
HasNamesIn v contents = IsHeaderIn (with_fields v (header (byte_at contents))) contents

-- The image needs another file: a data file, or a backing file.
abbrev pub needs_another : HeaderView → Bool
needs_another v = has_data_file v.fields || is_some v.backing_name

-- The image needs one of the files that are missing when it is opened.
abbrev pub needs_missing : Missing → HeaderView → Bool
needs_missing M.Nothing v = false
needs_missing M.DataFile v = has_data_file v.fields
needs_missing M.BackingFile v = is_some v.backing_name
needs_missing M.OtherFiles v = needs_another v

-- The header in these contents needs a file that is missing.
pub record NeedsMissing (missing : Missing) (contents : List ℕ) : Type 0 where
  pub header : HeaderView
  pub stands : IsHeaderIn header contents
  pub needs : needs_missing missing header ≡ true

-- The image in these contents needs another file.
abbrev pub NeedsAnother : List ℕ → Type 0
NeedsAnother contents = NeedsMissing M.OtherFiles contents

-- Refused 12, or with an earlier refusal: an unaligned table, or a fault.
abbrev pub IsRefusedAlone : {S F : Type 0} → Result (Qcow2 S F) (S × ImageError) → Type 0
IsRefusedAlone (Ok image) = ⊥
IsRefusedAlone (Err refused) = (refused.1 ≡ Dependency) ⊎ (refused.1 ≡ UnalignedTable) ⊎ IsFault refused.1

-- The storage of the opened image, or the one that a refusal returns.
abbrev pub storage_after : {S F : Type 0} → Result (Qcow2 S F) (S × ImageError) → S
storage_after (Ok image) = storage_of_image image
storage_after (Err refused) = refused.0

-- What opening leaves of a storage: it is still honest, and its contents are those after opening, or after a refused one.
pub record LeavesStorage {S F : Type 0} (view : S → StorageView) (writable : Bool) (old : StorageView) (result : Result (Qcow2 S F) (S × ImageError)) : Type 0 where
  pub honest : old.is_honest → (view (storage_after result)).is_honest
  pub at_once : old.is_honest → OpensAtOnce writable old (view (storage_after result))
  pub contents : old.is_honest → MatchResult result (λ image. StandsOpened writable old (view (storage_of_image image)) image.file.header) (λ refused. StandsRefused writable old (view refused.0) refused.1)

-- What each part of opening leaves, for a file with the header that is on the storage.
pub record LeavesFile {S T : Type 0} (view : S → StorageView) (writable : Bool) (old new : ImageFile S) (result : Result T ImageError) : Type 0 where
  pub honest : (view_in view old).is_honest → (view_in view new).is_honest
  pub at_once : (view_in view old).is_honest → IsHeaderIn old.header (view_in view old).contents → OpensAtOnce writable (view_in view old) (view_in view new)
  pub contents : (view_in view old).is_honest → IsHeaderIn old.header (view_in view old).contents
      → MatchResult result (λ done. StandsOpened writable (view_in view old) (view_in view new) new.header) (StandsRefused writable (view_in view old) (view_in view new))

-- A part of opening leaves its file as `LeavesFile` says, and the cached tables the same.
pub record LoadingStep {S T : Type 0} (view : S → StorageView) (writable : Bool) (old new : ImageFile S) (result : Result T ImageError) : Type 0 where
  pub storage : LeavesFile view writable old new result
  pub caches : new.caches ≡ old.caches

module _ {S F : Type 0} (view : S → StorageView) (backing : F → BackingView) where
  -- A sound file with the header on the storage. No cached table is modified or pinned.
  pub record IsFresh (p : Pending) (file : ImageFile S) : Type 0 where
    pub sound : FileInvariant view p file
    pub inside : file.header.fields.incompatible ≡ 0
    pub header : IsHeaderIn file.header (view_in view file).contents
    pub clean : (on_storage : Bytes) → known_of file.header.fields file.caches on_storage ≡ on_storage
    pub unpinned : (cluster : ℕ) → l2_pins file.caches cluster ≡ 0
    pub list : file.free_list ≡ []

  -- The file is still one that was just opened, and tables in memory that were those on the storage still are.
  pub record StaysFresh (p : Pending) (old new : ImageFile S) : Type 0 where
    pub new_tables : IsFresh p new
    pub l1_table : (t : EntryTableView) → HasL1Table view backing old t → HasL1Table view backing new t
    pub reftable : (t : EntryTableView) → HasReftable view old t → HasReftable view new t

  -- The tables of the file are loaded.
  pub record IsLoaded (p : Pending) (file : ImageFile S) (table : EntryTableView) (allocator : Option Allocator) : Type 0 where
    pub new_tables : IsFresh p file
    pub l1_table : HasL1Table view backing file table
    pub reftable : IfSome allocator (IsAllocatorOf view file)

  -- An image that was just opened from these bytes: it is sound, no table is modified, every surplus is the one in these bytes, and no cluster was leaked yet.
  pub record IsOpenedFrom (b : Bytes) (image : Qcow2 S F) : Type 0 where
    pub opened : IsOpened (abstract_of view backing image (in_image []))
    pub surplus : (abstract_of view backing image (in_image [])).surplus ≡ surplus_of (header b) b
    pub leaks : (abstract_of view backing image (in_image [])).leaked ≡ 0

  -- Opening a consistent image on an honest storage returns an image that was just opened from its bytes.
  abbrev pub Opens : StorageView → Qcow2 S F → Type 0
  Opens storage image = storage.is_honest → IsConsistent (byte_at storage.contents) → IsOpenedFrom (byte_at storage.contents) image
