-- The kind of the next writes, as it was set at the image's storage.
use Rattle.std.specs.Prelude.{◌≡◌}
use Rattle.qcow2_alloc.specs.declared.image_storage.ImageStorage.{ImageStorage}
use Rattle.qcow2_alloc.specs.declared.image_storage.WriteKind.TheVariants.{Data, RefBlock, L2Table, Other}
use Rattle.qcow2_alloc.specs.ImageStorage.{kind_of}

module _ {S : Type 0} where
  -- Bytes of a guest, also copied and zeroed ones.
  abbrev pub HasDataKind : ImageStorage S → Type 0
  HasDataKind s = kind_of s ≡ Data

  -- An L2 table of the cache.
  abbrev pub HasL2TableKind : ImageStorage S → Type 0
  HasL2TableKind s = kind_of s ≡ L2Table

  -- A refblock of the cache.
  abbrev pub HasRefBlockKind : ImageStorage S → Type 0
  HasRefBlockKind s = kind_of s ≡ RefBlock

  -- Everything else: the bytes of a new table, an entry of the L1 table or the reftable, the header or a field of it, and emptying the storage.
  abbrev pub HasOtherKind : ImageStorage S → Type 0
  HasOtherKind s = kind_of s ≡ Other
