-- The values of guest bytes.
use Rattle.std.specs.Prelude.{ℕ, ◌+◌, ◌-◌, ◌*◌, ◌/◌, ◌%◌, List}
use Rattle.qcow2_metadata.specs.Bytes.{Bytes, bytes_from}
use Rattle.qcow2_metadata.specs.Header.{HeaderFields, cluster_size}
use Rattle.qcow2_metadata.specs.Cover.{cover}
use Rattle.qcow2_metadata.specs.declared.l2_mapping.L2Mapping.{L2Mapping}
use Rattle.qcow2_metadata.specs.declared.l2_mapping.L2Mapping.TheVariants.{Data, Zero, Compressed, Uncovered}

-- A byte; or an opaque byte of compressed data: its compressed bytes, and its offset in the cluster.
pub data Value : Type 0 where
  known_byte : ℕ → Value
  compressed_byte : List ℕ → ℕ → Value

-- How many bytes there are from `place` to the end of the last of these sectors.
abbrev pub bytes_of_sectors : ℕ → ℕ → ℕ
bytes_of_sectors place sectors = (place / 512 + sectors) * 512 - place

-- The value of a guest byte with this mapping. The three `Bytes` are those of the image, of the file with the data, and of the backing disk.
abbrev pub value_under : HeaderFields → Bytes → Bytes → Bytes → ℕ → L2Mapping → Value
value_under h image data' backing o (Data host copied) = known_byte (data' (host + o % cluster_size h))
value_under h image data' backing o (Zero kept) = known_byte 0
value_under h image data' backing o (Compressed place sectors) = compressed_byte (bytes_from image place (bytes_of_sectors place sectors)) (o % cluster_size h)
value_under h image data' backing o Uncovered = known_byte (backing o)

-- The value of guest byte o.
unfoldable pub guest_value : HeaderFields → Bytes → Bytes → Bytes → ℕ → Value
guest_value h image data' backing o = value_under h image data' backing o (cover h image (o / cluster_size h))
