-- Laws for users of the library.
use Rattle.std.specs.Prelude.{ℕ, ◌+◌, ◌≡◌, ◌<◌, Bool, false, IsTrue, List, length, Option, Some}
use Rattle.qcow2_metadata.specs.Bytes.{Bytes, byte_at}
use Rattle.qcow2_metadata.specs.Guest.{Value, known_byte}
use Rattle.qcow2_metadata.specs.Header.{header, cluster_size, backing_name, AreExtensions, HeaderReads}
use Rattle.qcow2_disk.specs.Disk.{Disk, disk, with_bytes}
use Rattle.qcow2_disk.specs.HeaderRest.{KeepsHeaderRest}
use Rattle.qcow2_disk.specs.Stops.{IsGiven, checkpoint_at, StopOk}
use Rattle.qcow2_disk.specs.Mappings.{PreparedMapping}
use Rattle.qcow2_disk.specs.AbstractImages.{Setting, Guest}
use Rattle.qcow2_disk.specs.Runs.{Found, CommandMeaning, given_by, read, prepare, put, commit, discard, done, bytes_are, prepared_is}

-- Preparing a range, putting bytes at private offsets of it and discarding it changes no guest byte.
abbrev pub PrivateBytesAreUnseen : Type 0
PrivateBytesAreUnseen =
    (x : Setting) (found : ℕ → Option Found) (g0 g1 g2 g3 : Guest) (slot offset n host count at : ℕ) (overwrite is_existing : Bool) (bytes : List ℕ)
    → CommandMeaning x found g0 (prepare slot offset n overwrite) (prepared_is host count is_existing) g1
    → ((m : PreparedMapping) (i : ℕ) → g1.slots slot ≡ Some m → i < length bytes → IsTrue (m.is_private (m.from + at + i)))
    → CommandMeaning x found g1 (put slot at bytes) done g2 → CommandMeaning x found g2 (discard slot) done g3
    → (g3.disk.size ≡ g0.disk.size) × ((o : ℕ) → g3.disk.value o ≡ g0.disk.value o)

-- Bytes that were put into a mapping and committed are read back.
abbrev pub CommittedIsReadBack : Type 0
CommittedIsReadBack =
    (x : Setting) (found : ℕ → Option Found) (g0 g1 g2 g3 : Guest) (m : PreparedMapping) (slot at n i : ℕ) (bytes answer : List ℕ)
    → g0.slots slot ≡ Some m → CommandMeaning x found g0 (put slot at bytes) done g1 → CommandMeaning x found g1 (commit slot) done g2
    → CommandMeaning x found g2 (read (m.from + at) n) (bytes_are answer) g3
    → i < length answer → i < length bytes → byte_at answer i ≡ byte_at bytes i

-- Before the commit, a read returns the old bytes at private offsets of a mapping, and the new bytes at offsets in place.
abbrev pub PutIsReadInPlace : Type 0
PutIsReadInPlace =
    (x : Setting) (found : ℕ → Option Found) (g0 g1 g2 : Guest) (m : PreparedMapping) (slot at offset n i : ℕ) (bytes answer : List ℕ)
    → g0.slots slot ≡ Some m → CommandMeaning x found g0 (put slot at bytes) done g1 → CommandMeaning x found g1 (read offset n) (bytes_are answer) g2 → i < length answer
    → (IsTrue (m.is_private (offset + i)) → known_byte (byte_at answer i) ≡ g0.disk.value (offset + i))
    × (m.is_private (offset + i) ≡ false → known_byte (byte_at answer i) ≡ (with_bytes g0.disk (m.from + at) bytes).value (offset + i))

-- A put to a hidden offset gives only what the disk shows. So until the commit no stop leaves any byte that was put there.
abbrev pub HiddenBytesAreNotGiven : Type 0
HiddenBytesAreNotGiven =
    (x : Setting) (g : Guest) (m : PreparedMapping) (slot at o : ℕ) (bytes : List ℕ) (v : Value)
    → g.slots slot ≡ Some m → IsTrue (m.is_hidden o) → IsGiven (given_by x g (put slot at bytes)) o v → v ≡ g.disk.value o

-- A stop right after a flush leaves exactly the disk.
abbrev pub FlushedIsExact : Type 0
FlushedIsExact =
    (backing header_bytes b : Bytes) (d : Disk) → StopOk backing (checkpoint_at d header_bytes) b
    → ((disk b backing).size ≡ d.size) × ((o : ℕ) → o < d.size → (disk b backing).value o ≡ d.value o)

-- New contents of a header cluster name the same backing file, and have the same header extensions.
pub record KeepsNames (old new : Bytes) : Type 0 where
  pub backing_name : backing_name (header new) new ≡ backing_name (header old) old
  pub extensions : (list : List (ℕ × List ℕ)) → AreExtensions old (cluster_size (header old)) (header old).header_length list → AreExtensions new (cluster_size (header new)) (header new).header_length list

-- The backing file name and the extensions of a readable header stay the same, if the rest of its cluster does.
abbrev pub HeaderRestHasNames : Type 0
HeaderRestHasNames = (old new : Bytes) → HeaderReads (header old) old → KeepsHeaderRest old new → KeepsNames old new
