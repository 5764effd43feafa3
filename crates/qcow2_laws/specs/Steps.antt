-- What one step changes in the known contents and on the storage.
use Rattle.std.specs.Prelude.{ℕ, ◌+◌, ◌-◌, ◌*◌, ◌/◌, ◌%◌, ◌<◌, ◌≤◌, ◌≡◌, ◌≢◌, ◌⊎◌, List}
use Rattle.qcow2_metadata.specs.Bytes.{Bytes}
use Rattle.qcow2_metadata.specs.declared.header.HeaderFields.{HeaderFields}
use Rattle.qcow2_metadata.specs.Header.{cluster_size, entries_per_cluster, count_width, counts_per_block}
use Rattle.qcow2_metadata.specs.Entries.{l2_entry, reftable_entry, block_count, count, block_offset}
use Rattle.qcow2_metadata.specs.Cover.{cover}
use Rattle.qcow2_metadata.specs.Guest.{guest_value}
use Rattle.qcow2_metadata.specs.Consistent.{CoverIsAligned}
use Rattle.qcow2_disk.specs.Stops.{GivenBytes, IsGiven}
use Rattle.qcow2_laws.specs.Beside.{StandsIfBeside}
use Rattle.qcow2_laws.specs.Guests.{names, marks, table_at}
use Rattle.qcow2_laws.specs.Changes.{one_at}
use Rattle.qcow2_laws.specs.Tops.{IsSameOutside}
use Rattle.qcow2_laws.specs.SafeSteps.{DriverState}

-- The offset of the refblock that counts a cluster, 0 for none.
abbrev pub block_of : HeaderFields → Bytes → ℕ → ℕ
block_of h b c = block_offset (reftable_entry h b (c / counts_per_block h))

-- The refcount of a cluster rises from 0 to 1, in an existing refblock.
pub record CountRises (h : HeaderFields) (known known' : Bytes) (c : ℕ) : Type 0 where
  pub real : block_of h known c ≢ 0
  pub outside : IsSameOutside (cluster_size h) (block_of h known c / cluster_size h) known known'
  pub more : (i : ℕ) → i < counts_per_block h
      → block_count known' (count_width h) (block_of h known c) i ≡ block_count known (count_width h) (block_of h known c) i + one_at (c % counts_per_block h) i
  pub free : count h known c ≡ 0

-- The refcount of a cluster falls by one.
pub record CountFalls (h : HeaderFields) (known known' : Bytes) (c : ℕ) : Type 0 where
  pub real : block_of h known c ≢ 0
  pub outside : IsSameOutside (cluster_size h) (block_of h known c / cluster_size h) known known'
  pub less : (i : ℕ) → i < counts_per_block h
      → block_count known' (count_width h) (block_of h known c) i + one_at (c % counts_per_block h) i ≡ block_count known (count_width h) (block_of h known c) i

-- The guest cluster of entry j in the L2 table of L1 entry i.
abbrev pub guest_at : HeaderFields → ℕ → ℕ → ℕ
guest_at h i j = i * entries_per_cluster h + j

-- Entry j in the L2 table of L1 entry i changes, and no other. Clusters that it did not name before were new data. Clusters that it marks copied were marked before, or were new data.
pub record EntryChanges (s : DriverState) (known' : Bytes) (i j : ℕ) : Type 0 where
  pub real : table_at s.header s.known i ≢ 0
  pub within : j < entries_per_cluster s.header
  pub outside : IsSameOutside (cluster_size s.header) (table_at s.header s.known i / cluster_size s.header) s.known known'
  pub entries : (k : ℕ) → k < entries_per_cluster s.header → k ≢ j → l2_entry s.known (table_at s.header s.known i) k ≡ l2_entry known' (table_at s.header s.known i) k
  pub new_data : (c : ℕ) → names s.header known' c (guest_at s.header i j) - names s.header s.known c (guest_at s.header i j) ≤ s.pending.new_data c
  pub marked : (c : ℕ) → marks s.header known' c (guest_at s.header i j)
      ≤ marks s.header s.known c (guest_at s.header i j) + (names s.header known' c (guest_at s.header i j) - names s.header s.known c (guest_at s.header i j))
  pub aligned : CoverIsAligned s.header (cover s.header known' (guest_at s.header i j))
  pub at_guest : StandsIfBeside s.header (guest_at s.header i j) (cover s.header known' (guest_at s.header i j))

-- Each byte of a guest cluster has its old value, or a given one.
abbrev pub ShowsGiven : HeaderFields → Bytes → Bytes → ℕ → (Bytes → List GivenBytes) → Type 0
ShowsGiven h known known' g given =
    (backing : Bytes) (o : ℕ) → o / cluster_size h ≡ g → (guest_value h known' known' backing o ≡ guest_value h known known backing o) ⊎ IsGiven (given backing) o (guest_value h known' known' backing o)
