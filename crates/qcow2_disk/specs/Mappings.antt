-- Prepared mappings: a guest range that is written before it is mapped. Its private bytes become visible when it is committed.
use Rattle.std.specs.Prelude.{ℕ, ◌+◌, ◌-◌, ◌/◌, ◌%◌, ◌≡◌, ◌≤◌, ◌<◌, ◌⊎◌, ◌&&◌, ◌==◌, Bool, true, false, not, IsTrue, List, Some, length, min, if◌then◌else◌}
use Rattle.qcow2_metadata.specs.Bytes.{Bytes, byte_at, is_within, laid_over}
use Rattle.qcow2_metadata.specs.Header.{cluster_size, rounded_down, rounded_up}
use Rattle.qcow2_metadata.specs.declared.header.HeaderFields.{HeaderFields}
use Rattle.qcow2_metadata.specs.Cover.{cover}
use Rattle.qcow2_metadata.specs.declared.l2_mapping.L2Mapping.{L2Mapping}
use Rattle.qcow2_metadata.specs.declared.l2_mapping.L2Mapping.TheVariants.{Data, Zero, Compressed, Uncovered}
use Rattle.qcow2_metadata.specs.Guest.{Value, known_byte}
use Rattle.qcow2_disk.specs.Disk.{Disk, with_bytes}
use Rattle.qcow2_disk.specs.Stops.{GivenBytes}

-- A guest range, its private offsets, and the values that these will show. All other offsets are in place: a write there is visible immediately.
-- Hidden offsets are private offsets that no stop before the commit shows either. A private offset is not hidden if its zero entry keeps a host cluster: the entry on the storage may still be a data entry for that cluster.
pub record PreparedMapping : Type 0 where
  pub from : ℕ
  pub length : ℕ
  pub is_private : ℕ → Bool
  pub is_hidden : ℕ → Bool
  pub shown : ℕ → Value

-- The offsets of the whole clusters that contain the mapping.
abbrev pub first_of : ℕ → PreparedMapping → ℕ
first_of cluster_size m = rounded_down cluster_size m.from

abbrev pub end_of : ℕ → PreparedMapping → ℕ
end_of cluster_size m = rounded_up cluster_size (m.from + m.length)

-- A range was prepared. Private bytes have the old values. If the caller promised to overwrite the range, the bytes of the range itself may have any value. The mapping is no longer than the range, except that it may cover the rest of the first cluster.
pub record IsPrepared (cluster_size : ℕ) (d : Disk) (offset n : ℕ) (overwrite : Bool) (m : PreparedMapping) : Type 0 where
  pub from : m.from ≡ offset
  pub some : 0 < n → 0 < m.length
  pub most : n < m.length → m.length ≡ cluster_size - offset % cluster_size
  pub inside : (o : ℕ) → IsTrue (m.is_private o) → (first_of cluster_size m ≤ o) × (o < end_of cluster_size m)
  pub old_values : (o : ℕ) → IsTrue (m.is_private o) → (overwrite && is_within offset (min n m.length) o ≡ false) → m.shown o ≡ d.value o

-- Data in a cluster that is marked copied, so that they may be written in place.
abbrev pub is_copied_data : L2Mapping → Bool
is_copied_data (Data host copied) = copied
is_copied_data (Zero kept) = false
is_copied_data (Compressed host sectors) = false
is_copied_data Uncovered = false

-- Of the whole clusters of a mapping, all offsets are private except those of copied data.
abbrev pub IsPrivateIn : HeaderFields → Bytes → PreparedMapping → Type 0
IsPrivateIn h b m = (o : ℕ) → first_of (cluster_size h) m ≤ o → o < end_of (cluster_size h) m → m.is_private o ≡ not (is_copied_data (cover h b (o / cluster_size h)))

-- Every private offset is hidden, unless a zero entry keeps a host cluster that is marked copied.
abbrev pub IsHiddenIn : HeaderFields → Bytes → PreparedMapping → Type 0
IsHiddenIn h b m = (o : ℕ) → IsTrue (m.is_private o) → IsTrue (m.is_hidden o) ⊎ ((host : ℕ) × (cover h b (o / cluster_size h) ≡ Zero (Some (host, true))))

-- The mapping after a put: bytes at private offsets are kept for the commit. Bytes at other offsets are written to the disk immediately.
abbrev pub put_mapping : PreparedMapping → ℕ → List ℕ → PreparedMapping
put_mapping m at bytes = record m { shown = λ o. if m.is_private o then laid_over (m.from + at) (length bytes) (λ i. known_byte (byte_at bytes i)) m.shown o else m.shown o }

-- The disk after a put: bytes in place change, private ones do not.
abbrev pub put_disk : Disk → PreparedMapping → ℕ → List ℕ → Disk
put_disk d m at bytes = record d { value = λ o. if m.is_private o then d.value o else (with_bytes d (m.from + at) bytes).value o }

-- The disk after a commit: it shows the private bytes.
abbrev pub committed : Disk → PreparedMapping → Disk
committed d m = record d { value = λ o. if m.is_private o then m.shown o else d.value o }

-- ---- values that calls give

-- The bytes of a write.
abbrev pub given_of : ℕ → List ℕ → GivenBytes
given_of offset bytes = record { from = offset; count = length bytes; value = λ i. known_byte (byte_at bytes i) }

-- The values of a disk from one offset up to another.
abbrev pub given_shown : Disk → ℕ → ℕ → GivenBytes
given_shown d from to = record { from = from; count = to - from; value = λ i. d.value (from + i) }

-- What a put gives: the bytes that were put, or at hidden offsets what the disk shows.
abbrev pub given_by_put : Disk → PreparedMapping → ℕ → List ℕ → GivenBytes
given_by_put d m at bytes = record {
  from = m.from + at;
  count = length bytes;
  value = λ i. if m.is_hidden (m.from + at + i) then d.value (m.from + at + i) else known_byte (byte_at bytes i);
}

-- What a commit gives: the values of the committed disk in the whole clusters of the mapping. A commit of a mapping of no bytes gives nothing.
abbrev pub given_by_commit : ℕ → Disk → PreparedMapping → GivenBytes
given_by_commit cluster_size d m = given_shown (committed d m) (first_of cluster_size m) (if m.length == 0 then first_of cluster_size m else end_of cluster_size m)
