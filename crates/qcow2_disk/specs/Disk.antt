-- The disk that a guest sees, and how calls change it.
use Rattle.std.specs.Prelude.{ℕ, ◌-◌, ◌+◌, ◌==◌, Bool, List, length, if◌then◌else◌}
use Rattle.qcow2_metadata.specs.Bytes.{Bytes, byte_at, laid_over}
use Rattle.qcow2_metadata.specs.Header.{header, rounded_up}
use Rattle.qcow2_metadata.specs.Guest.{Value, known_byte, guest_value}

-- A size, and a value for each offset, also for offsets past the size.
pub record Disk : Type 0 where
  pub size : ℕ
  pub value : ℕ → Value

-- The disk of an image with its data in `data_bytes`, over the bytes of its backing disk.
unfoldable pub disk_with : (image data_bytes backing : Bytes) → Disk
disk_with image data_bytes backing = record { size = (header image).size; value = guest_value (header image) image data_bytes backing }

-- The disk of an image that holds its own data, over the bytes of its backing disk.
abbrev pub disk : Bytes → Bytes → Disk
disk image backing = disk_with image image backing

-- ---- changes

abbrev pub with_values : Disk → ℕ → ℕ → (ℕ → Value) → Disk
with_values d from n values = record d { value = laid_over from n values d.value }

-- The disk with these bytes from `offset` on.
abbrev pub with_bytes : Disk → ℕ → List ℕ → Disk
with_bytes d offset bytes = with_values d offset (length bytes) (λ i. known_byte (byte_at bytes i))

-- The disk with zeros from one offset up to another.
abbrev pub zeroed_between : Disk → ℕ → ℕ → Disk
zeroed_between d from to = with_values d from (to - from) (λ _. known_byte 0)

-- The disk with the bytes of the backing disk from one offset up to another.
abbrev pub uncovered : Disk → Bytes → ℕ → ℕ → Disk
uncovered d backing from to = with_values d from (to - from) (λ i. known_byte (backing (from + i)))

-- The disk with a larger size. Unless the old bytes are to show, bytes from the old size to the end of the last cluster are zeros.
abbrev pub grown : ℕ → Disk → ℕ → Bool → Disk
grown cluster_size d size shows_old = record (if shows_old then d else zeroed_between d d.size (rounded_up cluster_size size)) { size = size }

-- The disk with a smaller size. The backing disk shows from the first cluster boundary past the new size up to the offset that the shrink returned.
abbrev pub shrunk : ℕ → Disk → Bytes → ℕ → ℕ → Disk
shrunk cluster_size d backing size answered =
    record (uncovered d backing (rounded_up cluster_size size) (if answered == d.size then rounded_up cluster_size answered else answered)) { size = size }
