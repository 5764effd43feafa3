-- Images that are only read: the contents of the storage stay the same. Which lookups write nothing.
use Rattle.std.specs.Prelude.{ℕ, ◌≡◌, ◌⊎◌}
use Rattle.image_access.specs.Moments.{ContentsStay, StorageView, EachMomentSince, IsLeftBy}
use Rattle.qcow2_alloc.specs.MetadataCaches.{AreAllWritten}
use Rattle.qcow2_alloc.specs.Quiet.{GetsTableQuietly, KeepAllWritten, WritesNothing}
use Rattle.qcow2_image.specs.declared.image.Qcow2.{Qcow2}
use Rattle.qcow2_image.specs.HeldMappings.{StaysHeld, named_place}
use Rattle.qcow2_image.specs.PinnedTables.{own_table}

-- The contents are the same now, and at every moment since.
abbrev pub ContentsStayThroughout : StorageView → StorageView → Type 0
ContentsStayThroughout old new = ContentsStay old new × EachMomentSince old new (IsLeftBy old)

module _ {S F : Type 0} (view : S → StorageView) where
  -- If no cached table is modified before, none is after. On an honest storage nothing is written then: the contents are the same, now and at every moment since.
  abbrev pub ReadsQuietly : Qcow2 S F → Qcow2 S F → Type 0
  ReadsQuietly old new = KeepAllWritten view old.file.storage old.file.caches new.file.storage new.file.caches

-- No cached table is modified, as right after opening.
abbrev pub HoldsNothingModified : {S F : Type 0} → Qcow2 S F → Type 0
HoldsNothingModified image = AreAllWritten image.file.caches

-- The L2 table of an offset can be looked at without a write: there is none, or it is cached, or can be loaded without one.
abbrev pub LoadsQuietly : {S F : Type 0} → Qcow2 S F → (offset : ℕ) → Type 0
LoadsQuietly image offset = (named_place image.file.header.fields image.l1_table offset ≡ 0) ⊎ GetsTableQuietly image.file.caches (own_table image offset)

-- Nothing is written, if the L2 table of an offset can be looked at without a write.
abbrev pub LooksQuietly : {S F : Type 0} → (S → StorageView) → (offset : ℕ) → Qcow2 S F → Qcow2 S F → Type 0
LooksQuietly view offset old new = LoadsQuietly old offset → WritesNothing view old.file.storage new.file.storage

-- A look at an offset writes nothing, if its L2 table can be looked at without a write. What the tables in memory map there stays mapped so, and the data file stays the same.
pub record OnlyLooks {S F : Type 0} (view : S → StorageView) (offset : ℕ) (old new : Qcow2 S F) : Type 0 where
  pub quiet : LooksQuietly view offset old new
  pub still : StaysHeld old new offset
  pub data_file : new.data_file ≡ old.data_file
