-- What stays the same while the tables of an image move: the other header fields, and every mapping.
use Rattle.std.specs.Prelude.{ℕ, ◌≡◌}
use Rattle.qcow2_metadata.specs.Bytes.{Bytes}
use Rattle.qcow2_metadata.specs.declared.header.HeaderFields.{HeaderFields}
use Rattle.qcow2_metadata.specs.Header.{with_tables_of}
use Rattle.qcow2_metadata.specs.Cover.{cover}

-- The header stays the same, except the pointers to the L1 table and the reftable.
abbrev pub MovesTables : HeaderFields → HeaderFields → Type 0
MovesTables h h' = h' ≡ with_tables_of h h'

-- The mapping of each guest cluster is the same, each by its own header and bytes.
abbrev pub CoversStay : HeaderFields → Bytes → HeaderFields → Bytes → Type 0
CoversStay h known h' known' = (g : ℕ) → cover h known g ≡ cover h' known' g
