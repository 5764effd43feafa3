-- The bytes of a header, and the contents after parts of it are written.
use Rattle.std.specs.Prelude.{◌≡◌, ℕ, ◌+◌, ◌-◌, ◌^◌, ◌<◌, ◌≤◌, List, [], ◌∷◌, ◌++◌, length, replicate, Option, Some, None, is_some, unwrap_or, ⊤, IsUtf8, if◌then◌else◌}
use Rattle.std.specs.List.{flat_map}
use Rattle.std.specs.Int.{w32, w64, to_be_bytes}
use Rattle.image_access.specs.Contents.{overwritten}
use Rattle.qcow2_metadata.specs.declared.header.write.Number.{Number}
use Rattle.qcow2_metadata.specs.declared.header.write.Number.TheVariants.{Four, Eight}
use Rattle.qcow2_metadata.specs.Header.{HeaderFields, HeaderView, cluster_size, rounded_up, backing_format_kind, data_file_kind}

-- The fields in the order of the file.
unfoldable pub numbers_of : HeaderFields → List Number
numbers_of h =
    Four h.magic ∷ Four h.version ∷ Eight h.backing_offset ∷ Four h.backing_length ∷ Four h.cluster_bits ∷ Eight h.size ∷ Four h.crypt_method
    ∷ Four h.l1_entries ∷ Eight h.l1_offset ∷ Eight h.reftable_offset ∷ Four h.reftable_clusters ∷ Four h.snapshots ∷ Eight h.snapshots_offset
    ∷ Eight h.incompatible ∷ Eight h.compatible ∷ Eight h.autoclear ∷ Four h.refcount_order ∷ Four h.header_length ∷ []

-- The big-endian bytes of a number of four or eight bytes.
abbrev pub bytes_of_number : Number → List ℕ
bytes_of_number (Four n) = to_be_bytes w32 n
bytes_of_number (Eight n) = to_be_bytes w64 n

abbrev pub AllFit : List Number → Type 0
AllFit [] = ⊤
AllFit (Four n ∷ rest) = (n < 2 ^ 32) × AllFit rest
AllFit (Eight n ∷ rest) = (n < 2 ^ 64) × AllFit rest

unfoldable pub bytes_of_numbers : List Number → List ℕ
bytes_of_numbers numbers = flat_map bytes_of_number numbers

-- A header extension: its kind, the length of its data, the data, and zeros to a multiple of 8.
unfoldable pub extension_bytes : ℕ → List ℕ → List ℕ
extension_bytes kind name =
    bytes_of_numbers (Four kind ∷ Four (length name) ∷ []) ++ name ++ replicate (rounded_up 8 (length name) - length name) 0

-- The extension of a name, if there is one.
abbrev pub name_extension : ℕ → Option (List ℕ) → List ℕ
name_extension kind None = []
name_extension kind (Some name) = extension_bytes kind name

-- The bytes of a header: its fields, its names in extensions, the end marker, and the name of the backing file.
unfoldable pub header_bytes : HeaderView → List ℕ
header_bytes v =
    bytes_of_numbers (numbers_of v.fields) ++ name_extension backing_format_kind v.backing_format ++ name_extension data_file_kind v.data_file_name
    ++ replicate 8 0 ++ unwrap_or v.backing_name []

-- If there is a name, it is UTF-8.
abbrev pub IsText : Option (List ℕ) → Type 0
IsText None = ⊤
IsText (Some name) = IsUtf8 name

-- ---- the contents after each write

abbrev pub header_written : HeaderView → List ℕ → List ℕ
header_written v contents = overwritten contents 0 (header_bytes v)

abbrev pub size_written : HeaderFields → List ℕ → List ℕ
size_written h contents = overwritten contents 24 (to_be_bytes w64 h.size)

abbrev pub l1_table_pointer_written : HeaderFields → List ℕ → List ℕ
l1_table_pointer_written h contents = overwritten contents 36 (bytes_of_numbers (Four h.l1_entries ∷ Eight h.l1_offset ∷ []))

abbrev pub reftable_pointer_written : HeaderFields → List ℕ → List ℕ
reftable_pointer_written h contents = overwritten contents 48 (bytes_of_numbers (Eight h.reftable_offset ∷ Four h.reftable_clusters ∷ []))

abbrev pub autoclear_cleared : List ℕ → List ℕ
autoclear_cleared contents = overwritten contents 88 (replicate 8 0)

-- ---- a new header

-- The size of a name's extension in bytes, 0 without a name.
abbrev pub extension_size : Option (List ℕ) → ℕ
extension_size None = 0
extension_size (Some name) = 8 + rounded_up 8 (length name)

-- The offset of the backing file name in a new header.
abbrev pub name_place : Option (List ℕ) → Option (List ℕ) → ℕ
name_place format data_file = 104 + extension_size format + extension_size data_file + 8

-- A new header can have these fields and names: the fields are in range, and the names fit into cluster 0.
pub record CanBeNew (cluster_bits refcount_order : ℕ) (backing format data_file : Option (List ℕ)) : Type 0 where
  pub low : 9 ≤ cluster_bits
  pub high : cluster_bits ≤ 21
  pub order : refcount_order ≤ 6
  pub room : name_place format data_file + length (unwrap_or backing []) ≤ 2 ^ cluster_bits

-- The fields of a new header: version 3, size 0, no L1 table, and a reftable of one cluster at cluster 1.
abbrev pub new_fields : ℕ → ℕ → Option (List ℕ) → Option (List ℕ) → Option (List ℕ) → HeaderFields
new_fields cluster_bits refcount_order backing format data_file = record {
  magic = 0x514649fb;
  version = 3;
  backing_offset = if is_some backing then name_place format data_file else 0;
  backing_length = length (unwrap_or backing []);
  cluster_bits = cluster_bits;
  size = 0;
  crypt_method = 0;
  l1_entries = 0;
  l1_offset = 0;
  reftable_offset = 2 ^ cluster_bits;
  reftable_clusters = 1;
  snapshots = 0;
  snapshots_offset = 0;
  incompatible = if is_some data_file then 4 else 0;
  compatible = 0;
  autoclear = 0;
  refcount_order = refcount_order;
  header_length = 104;
}

abbrev pub new_header : ℕ → ℕ → Option (List ℕ) → Option (List ℕ) → Option (List ℕ) → HeaderView
new_header cluster_bits refcount_order backing format data_file = record {
  fields = new_fields cluster_bits refcount_order backing format data_file;
  backing_name = backing;
  backing_format = format;
  data_file_name = data_file;
}

-- The names lie where a new header has them.
pub record HasNewNames (v : HeaderView) : Type 0 where
  pub version : v.fields.version ≡ 3
  pub header_length : v.fields.header_length ≡ 104
  pub backing_offset : v.fields.backing_offset ≡ (if is_some v.backing_name then name_place v.backing_format v.data_file_name else 0)
  pub backing_length : v.fields.backing_length ≡ length (unwrap_or v.backing_name [])
  pub room : name_place v.backing_format v.data_file_name + length (unwrap_or v.backing_name []) ≤ cluster_size v.fields
