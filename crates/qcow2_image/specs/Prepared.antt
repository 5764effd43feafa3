-- The view of a prepared mapping in contracts.
use Rattle.std.specs.Prelude.{◌≡◌, ℕ, Option}
use Rattle.qcow2_image.specs.declared.mapping.Place.{Place}
use Rattle.qcow2_image.specs.declared.prepared.Prepared.{Prepared}
use Rattle.qcow2_image.specs.declared.prepared.CommitRefused.{CommitRefused}
use Rattle.qcow2_image.specs.declared.prepared.CommitRefused.TheVariants.{Kept, Spent}

-- The number of the mapping's image.
abbrev pub image_of : Prepared → ℕ
image_of p = p.image

-- The guest offset where the mapping begins.
abbrev pub guest_offset_of : Prepared → ℕ
guest_offset_of p = p.guest

-- The file that the range is to be written to, and where in it: host offset, and length in bytes.
abbrev pub file_of : Prepared → Place
file_of p = p.place

abbrev pub offset_of : Prepared → ℕ
offset_of p = p.offset

abbrev pub length_of : Prepared → ℕ
length_of p = p.length

-- The cluster of the L2 table that the mapping pins. An existing mapping pins none.
abbrev pub table_of : Prepared → Option ℕ
table_of p = p.table

-- If a refused commit returns a mapping, it is this one.
abbrev pub IsHandedBackBy : Prepared → CommitRefused → Type 0
IsHandedBackBy p (Kept e q) = q ≡ p
IsHandedBackBy p (Spent e) = Unit {0}
