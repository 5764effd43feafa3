-- The header: its fields, its extensions and names, and when it is readable. Offsets are those of QEMU's docs/interop/qcow2.txt.
use Rattle.std.specs.Prelude.{ℕ, ◌+◌, ◌-◌, ◌*◌, ◌/◌, ◌%◌, ◌^◌, ◌≡◌, ◌≢◌, ◌<◌, ◌≤◌, ◌⊎◌, Bool, ◌==◌, List, [], ◌∷◌, length, Option, Some, None, ⊤, if◌then◌else◌}
use Rattle.std.specs.Str.{IsUtf8}
pub use Rattle.qcow2_metadata.specs.declared.header.HeaderFields.{HeaderFields}
use Rattle.qcow2_metadata.specs.Bytes.{Bytes, bytes_from, number_at, has_bit}

-- The fields of the header in these bytes. In version 2 the header has 72 bytes, no feature bits, and refcounts of 16 bits.
unfoldable pub header : Bytes → HeaderFields
header b =
    let is_old = number_at b 4 4 == 2 in
    record {
      magic = number_at b 0 4;
      version = number_at b 4 4;
      backing_offset = number_at b 8 8;
      backing_length = number_at b 16 4;
      cluster_bits = number_at b 20 4;
      size = number_at b 24 8;
      crypt_method = number_at b 32 4;
      l1_entries = number_at b 36 4;
      l1_offset = number_at b 40 8;
      reftable_offset = number_at b 48 8;
      reftable_clusters = number_at b 56 4;
      snapshots = number_at b 60 4;
      snapshots_offset = number_at b 64 8;
      incompatible = if is_old then 0 else number_at b 72 8;
      compatible = if is_old then 0 else number_at b 80 8;
      autoclear = if is_old then 0 else number_at b 88 8;
      refcount_order = if is_old then 4 else number_at b 96 4;
      header_length = if is_old then 72 else number_at b 100 4;
    }

-- ---- sizes that follow from the fields

abbrev pub cluster_size : HeaderFields → ℕ
cluster_size h = 2 ^ h.cluster_bits

-- The number of 8-byte entries that a cluster holds.
abbrev pub entries_per_cluster : HeaderFields → ℕ
entries_per_cluster h = cluster_size h / 8

abbrev pub reftable_entries : HeaderFields → ℕ
reftable_entries h = h.reftable_clusters * entries_per_cluster h

-- The bits of a refcount.
abbrev pub count_width : HeaderFields → ℕ
count_width h = 2 ^ h.refcount_order

abbrev pub counts_per_block : HeaderFields → ℕ
counts_per_block h = cluster_size h * 8 / count_width h

abbrev pub has_data_file : HeaderFields → Bool
has_data_file h = has_bit h.incompatible 2

-- The binary logarithm of the number of refcounts in a refblock.
abbrev pub counts_bits : HeaderFields → ℕ
counts_bits h = h.cluster_bits + 3 - h.refcount_order

-- The offset is the first byte of a cluster.
abbrev pub IsAligned : HeaderFields → ℕ → Type 0
IsAligned h place = place % cluster_size h ≡ 0

abbrev pub rounded_down : ℕ → ℕ → ℕ
rounded_down step n = n / step * step

abbrev pub rounded_up : ℕ → ℕ → ℕ
rounded_up step n = (n + step - 1) / step * step

-- ---- header extensions and names

abbrev pub backing_format_kind : ℕ
backing_format_kind = 0xe2792aca

abbrev pub data_file_kind : ℕ
data_file_kind = 0x44415441

-- The data of this kind of extension are a name.
abbrev pub IsNameKind : ℕ → Type 0
IsNameKind kind = (kind ≡ backing_format_kind) ⊎ (kind ≡ data_file_kind)

-- A header extension at `place`: its kind, length and data. It ends at or before `limit`.
pub record IsExtension (b : Bytes) (limit place : ℕ) (e : ℕ × List ℕ) : Type 0 where
  pub not_the_end : e.0 ≢ 0
  pub kind : number_at b place 4 ≡ e.0
  pub size : number_at b (place + 4) 4 ≡ length e.1
  pub bytes : bytes_from b (place + 8) (length e.1) ≡ e.1
  pub inside : place + 8 + length e.1 ≤ limit

-- The offset after an extension with this many bytes of data, which are padded to a multiple of 8.
abbrev pub behind_extension : ℕ → ℕ → ℕ
behind_extension place size = place + 8 + rounded_up 8 size

-- The extensions from `place` on, up to the end marker. Names are UTF-8.
abbrev pub AreExtensions : Bytes → ℕ → ℕ → List (ℕ × List ℕ) → Type 0
AreExtensions b limit place [] = (place + 8 ≤ limit) × (number_at b place 4 ≡ 0)
AreExtensions b limit place (e ∷ rest) =
    IsExtension b limit place e × (IsNameKind e.0 → IsUtf8 e.1) × AreExtensions b limit (behind_extension place (length e.1)) rest

-- The data of the first extension of a kind.
abbrev pub first_of_kind : ℕ → List (ℕ × List ℕ) → Option (List ℕ)
first_of_kind kind [] = None
first_of_kind kind (e ∷ rest) = if e.0 == kind then Some e.1 else first_of_kind kind rest

-- The name of the backing file, if there is one.
unfoldable pub backing_name : HeaderFields → Bytes → Option (List ℕ)
backing_name h b = if h.backing_offset == 0 then None else Some (bytes_from b h.backing_offset h.backing_length)

-- ---- when a header is readable

-- The fields have values that the format and this library know.
pub record IsInRange (h : HeaderFields) : Type 0 where
  pub magic : h.magic ≡ 0x514649fb
  pub version : (h.version ≡ 2) ⊎ (h.version ≡ 3)
  pub cluster_bits : (9 ≤ h.cluster_bits) × (h.cluster_bits ≤ 21)
  pub refcount_order : h.refcount_order ≤ 6
  pub not_encrypted : h.crypt_method ≡ 0
  -- No incompatible feature bit is set, except that of an external data file.
  pub incompatible : (h.incompatible ≡ 0) ⊎ (h.incompatible ≡ 4)
  pub header_length : (h.version ≡ 3 → 104 ≤ h.header_length) × (h.header_length ≤ cluster_size h)

-- The header extensions from `place` on are readable, up to the end marker.
pub record ExtensionsRead (b : Bytes) (limit place : ℕ) : Type 0 where
  pub list : List (ℕ × List ℕ)
  pub stand : AreExtensions b limit place list

-- If there is a backing file name, it lies in cluster 0, does not overlap the header, and is UTF-8.
pub record BackingNameReads (h : HeaderFields) (b : Bytes) : Type 0 where
  pub inside : h.backing_offset ≢ 0 → h.backing_offset + h.backing_length ≤ cluster_size h
  pub behind_header : h.backing_offset ≢ 0 → h.backing_length ≢ 0 → h.header_length ≤ h.backing_offset
  pub text : h.backing_offset ≢ 0 → IsUtf8 (bytes_from b h.backing_offset h.backing_length)

-- The header is readable, apart from the limits of its tables.
pub record IsWellFormed (h : HeaderFields) (b : Bytes) : Type 0 where
  pub in_range : IsInRange h
  pub extensions : ExtensionsRead b (cluster_size h) h.header_length
  pub backing_name : BackingNameReads h b

-- The L1 table and the reftable have no more entries than QEMU and this library allow.
pub record IsWithinLimits (h : HeaderFields) : Type 0 where
  pub few_l1_entries : h.l1_entries ≤ 4194304
  pub few_reftable_entries : reftable_entries h ≤ 1048576

-- The header is readable.
pub record HeaderReads (h : HeaderFields) (b : Bytes) : Type 0 where
  pub well_formed : IsWellFormed h b
  pub within_limits : IsWithinLimits h

-- The end of the reftable fits into 64 bits.
abbrev pub ReftableFits : HeaderFields → Type 0
ReftableFits h = h.reftable_offset + 8 * reftable_entries h < 2 ^ 64

-- ---- the view that contracts have of a header in memory: its fields and names
pub record HeaderView : Type 0 where
  pub fields : HeaderFields
  pub backing_name : Option (List ℕ)
  pub backing_format : Option (List ℕ)
  pub data_file_name : Option (List ℕ)

-- The name is no longer than the largest cluster.
abbrev pub IsShort : Option (List ℕ) → Type 0
IsShort None = ⊤
IsShort (Some name) = length name ≤ 2097152

-- The invariant of every header in memory.
pub record IsKept (h : HeaderFields) (backing format data_file : Option (List ℕ)) : Type 0 where
  pub in_range : IsInRange h
  pub within_limits : IsWithinLimits h
  pub backing_name : IsShort backing
  pub backing_format : IsShort format
  pub data_file_name : IsShort data_file

-- The header with other fields and the same names.
abbrev pub with_fields : HeaderView → HeaderFields → HeaderView
with_fields h fields = record h { fields = fields }

abbrev pub with_size : HeaderFields → ℕ → HeaderFields
with_size h size = record h { size = size }

abbrev pub with_l1_table : HeaderFields → ℕ → ℕ → HeaderFields
with_l1_table h offset entries = record h { l1_offset = offset; l1_entries = entries }

abbrev pub with_reftable : HeaderFields → ℕ → ℕ → HeaderFields
with_reftable h offset clusters = record h { reftable_offset = offset; reftable_clusters = clusters }

abbrev pub without_autoclear : HeaderFields → HeaderFields
without_autoclear h = record h { autoclear = 0 }

-- The fields with the L1 table and the reftable of another header.
abbrev pub with_tables_of : HeaderFields → HeaderFields → HeaderFields
with_tables_of h other = with_l1_table (with_reftable h other.reftable_offset other.reftable_clusters) other.l1_offset other.l1_entries
