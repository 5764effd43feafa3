-- L2 tables that are pinned by prepared mappings, and what is prepared in place, whatever the image contains: a pinned table stays in the cache, and its entries stay the same.
use Rattle.std.specs.Prelude.{ℕ, ◌≡◌, ◌+◌, ◌/◌, ◌<◌, ◌≤◌, true, IfOk, IsSome, None, Result, Ok, Err}
use Rattle.qcow2_metadata.specs.Entries.{host_offset}
use Rattle.qcow2_metadata.specs.Header.{cluster_size}
use Rattle.qcow2_metadata.specs.TableBytes.{entry_at}
use Rattle.qcow2_alloc.specs.CachePins.{l2_pins}
use Rattle.qcow2_alloc.specs.declared.error.ImageError.{ImageError}
use Rattle.qcow2_alloc.specs.declared.error.ImageError.TheVariants.{TablePrepared}
use Rattle.qcow2_image.specs.declared.image.Qcow2.{Qcow2}
use Rattle.qcow2_image.specs.declared.prepared.Prepared.{Prepared}
use Rattle.qcow2_image.specs.declared.mapping.MappingKind.TheVariants.{Raw}
use Rattle.qcow2_image.specs.Found.{l1_index_of}
use Rattle.qcow2_image.specs.HeldMappings.{IsHeldAs}
use Rattle.qcow2_image.specs.Image.{place_in, size_of}
use Rattle.qcow2_image.specs.L1Entries.{HasOwnTable}
use Rattle.qcow2_image.specs.Prepared.{file_of, guest_offset_of, offset_of, table_of}

module _ {S F : Type 0} where
  -- The cluster of the L2 table that the L1 table in memory has for an offset.
  abbrev pub own_table : Qcow2 S F → ℕ → ℕ
  own_table image offset = host_offset (entry_at image.l1_table.bytes (l1_index_of image.file.header.fields offset)) / cluster_size image.file.header.fields

  -- The number of mappings that pin this table.
  abbrev pub own_pins : Qcow2 S F → ℕ → ℕ
  own_pins image offset = l2_pins image.file.caches (own_table image offset)

  -- The table was found, the L1 table and the header in memory stay the same, and each table has as many pins as before.
  pub record FindsOwn (old new : Qcow2 S F) (offset : ℕ) (result : Result ℕ ImageError) : Type 0 where
    pub table : IfOk result (λ table. table ≡ own_table old offset)
    pub l1_table : new.l1_table ≡ old.l1_table
    pub header : new.file.header ≡ old.file.header
    pub pins : (cluster : ℕ) → l2_pins new.file.caches cluster ≡ l2_pins old.file.caches cluster

  -- The call succeeds only if the offset's table is not pinned, and is refused 9 only if it is.
  abbrev pub RespectsPins : {A : Type 0} → Qcow2 S F → ℕ → Result A ImageError → Type 0
  RespectsPins image offset (Ok _) = own_pins image offset ≡ 0
  RespectsPins image offset (Err e) = e ≡ TablePrepared → 0 < own_pins image offset

  -- A range that is not in place is prepared only if the offset's table is not pinned.
  abbrev pub PreparesUnpinned : Qcow2 S F → ℕ → Result Prepared ImageError → Type 0
  PreparesUnpinned image offset (Ok p) = IsSome (table_of p) → own_pins image offset ≡ 0
  PreparesUnpinned image offset (Err e) = e ≡ TablePrepared → 0 < own_pins image offset

  -- The range has a byte and lies below the size, and the L1 table has an L2 table of the image's own for it.
  pub record LiesInOwn (image : Qcow2 S F) (offset n : ℕ) : Type 0 where
    pub some : 0 < n
    pub below : offset + n ≤ size_of image
    pub own : HasOwnTable image offset

  -- By the tables in memory, all n bytes are copied data from this host offset on.
  abbrev pub IsWritableInTables : Qcow2 S F → (offset n host : ℕ) → Type 0
  IsWritableInTables image offset n host = IsHeldAs image offset (Raw (place_in image) host true) n

  -- A range is given to be written in place only where the tables in memory have it as copied data.
  abbrev pub ExistsInTables : Qcow2 S F → (offset n : ℕ) → Result Prepared ImageError → Type 0
  ExistsInTables image offset n (Ok p) = table_of p ≡ None → (guest_offset_of p ≡ offset) × IsHeldAs image offset (Raw (file_of p) (offset_of p) true) n
  ExistsInTables image offset n (Err e) = Unit {0}
