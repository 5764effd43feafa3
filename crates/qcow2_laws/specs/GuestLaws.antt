-- Laws about what guests see: when tables move, when ranges are cleared, and when data are written between flushes.
use Rattle.std.specs.Prelude.{ℕ, zero, suc, ◌+◌, ◌*◌, ◌/◌, ◌%◌, ◌<◌, ◌≤◌, ◌≡◌, ◌≢◌, Bool, true, false, List, [], ◌∷◌, length, Some, if◌then◌else◌}
use Rattle.image_access.specs.Moments.{StorageView, EachMomentSince}
use Rattle.qcow2_metadata.specs.Bytes.{Bytes, byte_at}
use Rattle.qcow2_metadata.specs.Header.{header, cluster_size}
use Rattle.qcow2_metadata.specs.Cover.{cover}
use Rattle.qcow2_metadata.specs.Guest.{known_byte}
use Rattle.qcow2_metadata.specs.Named.{in_run, named_for_tables}
use Rattle.qcow2_metadata.specs.declared.l2_mapping.L2Mapping.{L2Mapping}
use Rattle.qcow2_metadata.specs.declared.l2_mapping.L2Mapping.TheVariants.{Data, Zero, Compressed, Uncovered}
use Rattle.qcow2_disk.specs.Disk.{Disk, disk, with_bytes, zeroed_between, uncovered}
use Rattle.qcow2_disk.specs.Stops.{GivenBytes, IsGiven, Checkpoint, checkpoint_with, StopOkEverywhere}
use Rattle.qcow2_disk.specs.Mappings.{given_of, given_shown}
use Rattle.qcow2_laws.specs.Guests.{names}
use Rattle.qcow2_laws.specs.CrashInvariant.{SameCovers, SameIn}
use Rattle.qcow2_laws.specs.Steps.{guest_at, EntryChanges}
use Rattle.qcow2_laws.specs.Changes.{renamed, remapped}
use Rattle.qcow2_laws.specs.Tops.{with_places, with_l1_at, WritesHeader, IsNewL1, WritesAt}
use Rattle.qcow2_laws.specs.SafeSteps.{DriverState, StateInvariant, SafeStep}
use Rattle.qcow2_laws.specs.Internal.{used_by_guests, SameUsedBytes, SameL1Table, with_cluster}
use Rattle.qcow2_disk.specs.Alike.{IsDataAt}

-- The state after the header points to an L1 table at `offset`, with this many entries.
abbrev pub state_with_l1_table : DriverState → (offset entries : ℕ) → (on_storage' known' : Bytes) → DriverState
state_with_l1_table s offset entries on_storage' known' = record {
  header = with_places s.header (with_l1_at s.header offset entries);
  direction = s.direction;
  pending = renamed s.pending (λ c. in_run s.header c offset (8 * entries)) (λ c. in_run s.header c s.header.l1_offset (8 * s.header.l1_entries));
  on_storage = on_storage';
  known = known';
}

-- Guests keep what they have: the mapping of each guest cluster, on the storage and in the known contents; the bytes and the references of clusters that guests use; each surplus; and the disk.
pub record KeepsGuests (old new : DriverState) : Type 0 where
  pub storage_covers : (g : ℕ) → cover old.header old.on_storage g ≡ cover new.header new.on_storage g
  pub covers : (g : ℕ) → cover old.header old.known g ≡ cover new.header new.known g
  pub bytes : SameUsedBytes old new
  pub used : (c : ℕ) → used_by_guests new c ≡ used_by_guests old c
  pub surplus : (c : ℕ) → new.pending.surplus c ≡ old.pending.surplus c
  pub disk : old.header.incompatible ≡ 0 → (backing : Bytes) → disk new.known backing ≡ disk old.known backing

-- Replacing the L1 table by a longer one keeps what guests have.
abbrev pub LongerL1TableKeepsGuests : Type 0
LongerL1TableKeepsGuests =
    (s : DriverState) (on_storage' known' : Bytes) (offset entries : ℕ) → StateInvariant s → WritesHeader s.header (with_l1_at s.header offset entries) s.on_storage s.known on_storage' known'
    → IsNewL1 s.header s.direction s.pending s.on_storage s.known offset entries → KeepsGuests s (state_with_l1_table s offset entries on_storage' known')

-- If no other size is asked for, a stop leaves the old size.
abbrev pub SizeStaysUnlessAsked : Type 0
SizeStaysUnlessAsked =
    (s : DriverState) (backing image : Bytes) (given : List GivenBytes) → StateInvariant s → s.header.incompatible ≡ 0
    → ((m : Checkpoint) → StopOkEverywhere backing m s.on_storage → StopOkEverywhere backing m s.known → StopOkEverywhere backing (checkpoint_with given [] m) image) → (header image).size ≡ s.header.size

-- The image has this size at every moment since.
abbrev pub HasSizeSince : StorageView → StorageView → ℕ → Type 0
HasSizeSince old new size = EachMomentSince old new (λ c. (header (byte_at c)).size ≡ size)

-- ---- several guest clusters, one after another

-- The entry of one guest cluster changes to a mapping of this kind, and no other entry changes.
pub record MapsEntry (kind : L2Mapping → Type 0) (guest : ℕ) (old new : DriverState) : Type 0 where
  pub known : Bytes
  pub row : ℕ
  pub column : ℕ
  pub here : guest_at old.header row column ≡ guest
  pub changes : EntryChanges old known row column
  pub maps : kind (cover old.header known (guest_at old.header row column))
  pub is : new ≡ record old {
    pending = remapped old.pending (λ c. names old.header old.known c (guest_at old.header row column)) (λ c. names old.header known c (guest_at old.header row column));
    known = known;
  }

-- The entries of n guest clusters, from `first` on, change to this kind, one after another.
abbrev pub MapsInTurn : (L2Mapping → Type 0) → (first n : ℕ) → DriverState → DriverState → Type 0
MapsInTurn kind first zero old new = new ≡ old
MapsInTurn kind first (suc n) old new = (mid : DriverState) × MapsInTurn kind first n old mid × MapsEntry kind (first + n) mid new

abbrev pub IsZeros : L2Mapping → Type 0
IsZeros (Zero kept) = Unit {0}
IsZeros (Data host copied) = ⊥
IsZeros (Compressed host sectors) = ⊥
IsZeros Uncovered = ⊥

-- The disk changes only in the range, and the step gives what the range then shows.
pub record ClearsRange (first n : ℕ) (old new : DriverState) (now : Bytes → Disk → ℕ → ℕ → Disk) : Type 0 where
  pub safe_step : SafeStep old new (λ backing. given_shown (disk new.known backing) (first * cluster_size old.header) ((first + n) * cluster_size old.header) ∷ []) []
  pub shows : (backing : Bytes) → disk new.known backing ≡ now backing (disk old.known backing) (first * cluster_size old.header) ((first + n) * cluster_size old.header)

-- Zeroing or unmapping guest clusters one after another is zeroing or unmapping the range.
pub record ClustersInTurnAreARange : Type 0 where
  pub zeroed : (s new : DriverState) (first n : ℕ) → StateInvariant s → s.header.incompatible ≡ 0 → MapsInTurn IsZeros first n s new → ClearsRange first n s new (λ backing d from to. zeroed_between d from to)
  pub uncovered : (s new : DriverState) (first n : ℕ) → StateInvariant s → s.header.incompatible ≡ 0 → MapsInTurn (λ v. v ≡ Uncovered) first n s new → ClearsRange first n s new (λ backing d from to. uncovered d backing from to)

-- ---- a cluster that a zero entry keeps

-- Bytes are written to a host cluster that a zero entry keeps. The disk stays the same. A stop may leave the bytes visible, because the entry on the storage may still be a data entry. So the step gives them, unless they are zeros.
pub record KeptClusterIsWritten : Type 0 where
  pub bytes : (s : DriverState) (on_storage' known' : Bytes) (g host at : ℕ) (bytes : List ℕ) → StateInvariant s → s.header.incompatible ≡ 0 → cover s.header s.known g ≡ Zero (Some (host, true)) → at + length bytes ≤ cluster_size s.header
      → WritesAt (host + at) (length bytes) s.on_storage s.known on_storage' known' → ((i : ℕ) → i < length bytes → on_storage' (host + at + i) ≡ byte_at bytes i)
      → SafeStep s (record s { on_storage = on_storage'; known = known' }) (λ _. given_of (g * cluster_size s.header + at) bytes ∷ []) [] × ((backing : Bytes) → disk known' backing ≡ disk s.known backing)
  pub zeros : (s : DriverState) (on_storage' known' : Bytes) (g host at : ℕ) (bytes : List ℕ) → StateInvariant s → s.header.incompatible ≡ 0 → cover s.header s.known g ≡ Zero (Some (host, true)) → at + length bytes ≤ cluster_size s.header
      → WritesAt (host + at) (length bytes) s.on_storage s.known on_storage' known' → ((i : ℕ) → i < length bytes → on_storage' (host + at + i) ≡ byte_at bytes i) → ((i : ℕ) → i < length bytes → byte_at bytes i ≡ 0)
      → SafeStep s (record s { on_storage = on_storage'; known = known' }) (λ _. []) []

-- The host cluster that a zero entry kept becomes data: the guest cluster shows its bytes, and nothing pending changes.
abbrev pub KeptClusterIsCommitted : Type 0
KeptClusterIsCommitted =
    (s : DriverState) (known' : Bytes) (i j host : ℕ) → StateInvariant s → s.header.incompatible ≡ 0 → EntryChanges s known' i j → cover s.header s.known (guest_at s.header i j) ≡ Zero (Some (host, true))
    → cover s.header known' (guest_at s.header i j) ≡ Data host true
    → SafeStep s (record s { known = known' })
    (λ backing. given_shown (disk known' backing) (guest_at s.header i j * cluster_size s.header) (guest_at s.header i j * cluster_size s.header + cluster_size s.header) ∷ []) []
    × ((backing : Bytes) → disk known' backing ≡ with_cluster (cluster_size s.header) (disk s.known backing) (guest_at s.header i j) (λ o. known_byte (s.on_storage (host + o % cluster_size s.header))))

-- ---- one storage write over a run of clusters

-- How a guest byte has its place in the file: as copied data; in a host cluster that the zero entry of its guest cluster keeps; or in new data that no entry names.
pub data Hosting : Type 0 where
  InPlace : Hosting
  Kept : Hosting
  Held : Hosting

-- Guest byte o has this place in the file, in this way.
abbrev pub IsHostedAt : DriverState → Hosting → (o place : ℕ) → Type 0
IsHostedAt s InPlace o place = IsDataAt s.header s.known true o place
IsHostedAt s Kept o place = (host : ℕ) × (cover s.header s.known (o / cluster_size s.header) ≡ Zero (Some (host, true))) × (host + o % cluster_size s.header ≡ place)
IsHostedAt s Held o place = 0 < s.pending.new_data (place / cluster_size s.header)

-- The place is in new data.
abbrev pub IsHeld : Hosting → Type 0
IsHeld InPlace = ⊥
IsHeld Kept = ⊥
IsHeld Held = Unit {0}

-- Whether guests see a write to this place only after the commit.
abbrev pub is_private_hosting : Hosting → Bool
is_private_hosting InPlace = false
is_private_hosting Kept = true
is_private_hosting Held = true

-- The byte is given, if a stop may leave it visible. New data need not be given: no entry on the storage names them.
abbrev pub IsGivenAt : List GivenBytes → Hosting → (o byte : ℕ) → Type 0
IsGivenAt given InPlace o byte = IsGiven given o (known_byte byte)
IsGivenAt given Kept o byte = IsGiven given o (known_byte byte)
IsGivenAt given Held o byte = Unit {0}

-- The disk after a write over a run: guests see the bytes that are in place.
abbrev pub with_seen_bytes : (ℕ → Hosting) → Disk → ℕ → List ℕ → Disk
with_seen_bytes hosting d offset bytes = record d { value = λ o. if is_private_hosting (hosting o) then d.value o else (with_bytes d offset bytes).value o }

-- Bytes were written to the places of a guest range. All entries stay the same, and the bytes of other guest clusters and of other new data do too.
pub record WritesRun (hosting : ℕ → Hosting) (offset place : ℕ) (bytes : List ℕ) (given : List GivenBytes) (old new : DriverState) : Type 0 where
  pub safe_step : SafeStep old new (λ _. given) []
  pub covers : SameCovers old.header old.known new.known
  pub l1 : SameL1Table old new
  pub there : (i : ℕ) → i < length bytes → new.known (place + i) ≡ byte_at bytes i
  pub others : (g : ℕ) → ((i : ℕ) → i < length bytes → (offset + i) / cluster_size old.header ≢ g) → (o : ℕ) → 0 < names old.header old.known (o / cluster_size old.header) g → new.known o ≡ old.known o
  pub new_data : (k : ℕ) → 0 < old.pending.new_data k → ((i : ℕ) → i < length bytes → IsHeld (hosting (offset + i)) → (place + i) / cluster_size old.header ≢ k)
      → SameIn (cluster_size old.header) k old.on_storage new.on_storage × SameIn (cluster_size old.header) k old.known new.known
  pub shows : (backing : Bytes) → disk new.known backing ≡ with_seen_bytes hosting (disk old.known backing) offset bytes

-- One storage write over a run of clusters that are copied data, kept by zero entries, or new data. The guest sees the bytes that are in place immediately, and no others. No table lies at such a place.
pub record RunIsWritten : Type 0 where
  pub written : (s : DriverState) (on_storage' known' : Bytes) (hosting : ℕ → Hosting) (offset place : ℕ) (bytes : List ℕ) (given : List GivenBytes) → StateInvariant s → s.header.incompatible ≡ 0
      → ((i : ℕ) → i < length bytes → IsHostedAt s (hosting (offset + i)) (offset + i) (place + i))
      → ((i : ℕ) → i < length bytes → IsGivenAt given (hosting (offset + i)) (offset + i) (byte_at bytes i))
      → WritesAt place (length bytes) s.on_storage s.known on_storage' known' → ((i : ℕ) → i < length bytes → on_storage' (place + i) ≡ byte_at bytes i)
      → WritesRun hosting offset place bytes given s (record s { on_storage = on_storage'; known = known' })
  pub beside_tables : (s : DriverState) (hosting : Hosting) (o place : ℕ) → StateInvariant s → s.header.incompatible ≡ 0 → IsHostedAt s hosting o place → named_for_tables s.header s.on_storage (place / cluster_size s.header) ≡ 0
