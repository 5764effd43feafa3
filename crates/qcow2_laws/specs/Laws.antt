-- The laws of the order of writes: each kind of step keeps the invariant, and leaves a stop as safe as before.
use Rattle.std.specs.Prelude.{ℕ, ◌+◌, ◌-◌, ◌*◌, ◌/◌, ◌<◌, ◌≤◌, ◌≡◌, ◌⊎◌, List, [], ◌∷◌, ◌++◌}
use Rattle.qcow2_metadata.specs.Bytes.{Bytes}
use Rattle.qcow2_metadata.specs.declared.header.HeaderFields.{HeaderFields}
use Rattle.qcow2_metadata.specs.Header.{header, cluster_size, counts_per_block}
use Rattle.qcow2_metadata.specs.Entries.{count, host_offset, block_offset}
use Rattle.qcow2_metadata.specs.Named.{in_run, table_in}
use Rattle.qcow2_metadata.specs.Consistent.{IsConsistent}
use Rattle.qcow2_metadata.specs.Tables.{CachedTable}
use Rattle.qcow2_metadata.specs.Guest.{Value}
use Rattle.qcow2_disk.specs.Disk.{disk}
use Rattle.qcow2_disk.specs.Stops.{GivenBytes, IsGiven, Checkpoint, StopOk, StopOkEverywhere}
use Rattle.qcow2_laws.specs.Clusters.{Direction, Neither, L2DependsOnRb, RbDependsOnL2}
use Rattle.qcow2_laws.specs.Guests.{names, table_at}
use Rattle.qcow2_laws.specs.CrashInvariant.{Pending, IsMixed, MayTurn, SameCovers}
use Rattle.qcow2_laws.specs.Opened.{nothing_pending, surplus_of}
use Rattle.qcow2_laws.specs.Changes.{one_at, with_new_data, with_new_tables, without_old_tables, without_old_data, new_data_to_old_data, new_data_to_old_tables, new_tables_to_old_tables, remapped, named_now, renamed}
use Rattle.qcow2_laws.specs.Writes.{IsUnnamed, IsWritten}
use Rattle.qcow2_laws.specs.Tops.{with_places, WritesL1Entry, IsNewTable, WritesReftableEntry, IsNewBlock, WritesHeader, resized_places, with_l1_at, IsNewL1, with_reftable_at, IsNewReftable}
use Rattle.qcow2_laws.specs.Caches.{CacheInvariantOver, BlocksMayGo, TablesMayGo, IsWrittenSo, InternalTableWrite}
use Rattle.qcow2_laws.specs.SafeSteps.{DriverState, StateInvariant, SafeStep}
use Rattle.qcow2_laws.specs.Steps.{CountRises, CountFalls, guest_at, EntryChanges, ShowsGiven}

abbrev pub nothing : Bytes → List GivenBytes
nothing backing = []

-- The state of an image right after it is opened.
abbrev pub opened_state : Bytes → DriverState
opened_state b = record { header = header b; direction = Neither; pending = nothing_pending (surplus_of (header b) b); on_storage = b; known = b }

-- In a state with the invariant, the storage and the known contents are consistent images. A consistent image has the invariant when it is opened.
pub record SoundIsConsistent : Type 0 where
  pub on_storage : (s : DriverState) → StateInvariant s → s.header.incompatible ≡ 0 → IsConsistent s.on_storage
  pub known : (s : DriverState) → StateInvariant s → s.header.incompatible ≡ 0 → IsConsistent s.known
  pub opened : (b : Bytes) → IsConsistent b → StateInvariant (opened_state b)

-- Some cached tables are written, in an order that the direction allows; or the direction changes.
pub record MixIsSafe : Type 0 where
  pub mixed : (s : DriverState) (b : Bytes) → StateInvariant s → IsMixed s.header s.direction s.on_storage s.known b → SafeStep s (record s { on_storage = b }) nothing []
  pub turned : (s : DriverState) (to : Direction) → StateInvariant s → MayTurn s.direction to s.header s.on_storage s.known → SafeStep s (record s { direction = to }) nothing []

-- One cached table is written or not, whether or not the storage refuses.
pub record TableIsWritten : Type 0 where
  pub block : (h : HeaderFields) (d : Direction) (p : Pending) (l2s front back : List CachedTable) (t t' : CachedTable) (on_storage on_storage' : Bytes) → CacheInvariantOver h d p l2s (front ++ t ∷ back) on_storage
      → BlocksMayGo d l2s → IsWrittenSo (cluster_size h) t t' on_storage on_storage' → InternalTableWrite h d p l2s (front ++ t ∷ back) on_storage l2s (front ++ t' ∷ back) on_storage'
  pub table : (h : HeaderFields) (d : Direction) (p : Pending) (front back rbs : List CachedTable) (t t' : CachedTable) (on_storage on_storage' : Bytes) → CacheInvariantOver h d p (front ++ t ∷ back) rbs on_storage
      → TablesMayGo d rbs → IsWrittenSo (cluster_size h) t t' on_storage on_storage' → InternalTableWrite h d p (front ++ t ∷ back) rbs on_storage (front ++ t' ∷ back) rbs on_storage'

-- One refcount of a refblock changes.
pub record CountIsChanged : Type 0 where
  pub data_allocated : (s : DriverState) (known' : Bytes) (c : ℕ) → StateInvariant s → s.direction ≡ L2DependsOnRb → CountRises s.header s.known known' c → ((o : ℕ) → o / cluster_size s.header ≡ c → s.on_storage o ≡ s.known o)
      → SafeStep s (record s { pending = with_new_data s.pending (one_at c); known = known' }) nothing []
  pub table_allocated : (s : DriverState) (known' : Bytes) (c : ℕ) → StateInvariant s → CountRises s.header s.known known' c
      → SafeStep s (record s { pending = with_new_tables s.pending (one_at c); known = known' }) nothing []
  pub table_freed : (s : DriverState) (known' : Bytes) (c : ℕ) → StateInvariant s → CountFalls s.header s.known known' c → 0 < s.pending.old_tables c
      → SafeStep s (record s { pending = without_old_tables s.pending (one_at c); known = known' }) nothing []
  pub data_freed : (s : DriverState) (known' : Bytes) (c : ℕ) → StateInvariant s → s.direction ≡ RbDependsOnL2 → CountFalls s.header s.known known' c → 0 < s.pending.old_data c
      → SafeStep s (record s { pending = without_old_data s.pending (one_at c); known = known' }) nothing []

-- Pending clusters change their kind.
pub record PendingIsChanged : Type 0 where
  pub old_data : (s : DriverState) (n : ℕ → ℕ) → StateInvariant s → ((c : ℕ) → n c ≤ 1) → ((c : ℕ) → 0 < n c → 0 < s.pending.new_data c) → SafeStep s (record s { pending = new_data_to_old_data s.pending n }) nothing []
  pub undone : (s : DriverState) (n : ℕ → ℕ) → StateInvariant s → ((c : ℕ) → n c ≤ 1) → ((c : ℕ) → 0 < n c → 0 < s.pending.new_data c) → SafeStep s (record s { pending = new_data_to_old_tables s.pending n }) nothing []
  pub abandoned : (s : DriverState) (n : ℕ → ℕ) → StateInvariant s → ((c : ℕ) → n c ≤ 1) → ((c : ℕ) → 0 < n c → 0 < s.pending.new_tables c) → SafeStep s (record s { pending = new_tables_to_old_tables s.pending n }) nothing []

-- One entry of an L2 table changes: by a commit, by zeroing or by a discard.
abbrev pub EntryIsChanged : Type 0
EntryIsChanged =
    (s : DriverState) (known' : Bytes) (i j : ℕ) (given : Bytes → List GivenBytes) → StateInvariant s → EntryChanges s known' i j → ShowsGiven s.header s.known known' (guest_at s.header i j) given
    → SafeStep s (record s { pending = remapped s.pending (λ c. names s.header s.known c (guest_at s.header i j)) (λ c. names s.header known' c (guest_at s.header i j)); known = known' }) given []

-- Data are written to clusters without references, or in place. The clusters of new data, of new tables, and those with refcount 0 have no references.
pub record DataIsWritten : Type 0 where
  pub written : (s : DriverState) (on_storage' known' : Bytes) (given : List GivenBytes) → StateInvariant s → IsWritten s.header s.on_storage s.known on_storage' known' given
      → SafeStep s (record s { on_storage = on_storage'; known = known' }) (λ backing. given) []
  pub new_data : (s : DriverState) (c : ℕ) → StateInvariant s → 0 < s.pending.new_data c → IsUnnamed s.header s.on_storage s.known c
  pub new_tables : (s : DriverState) (c : ℕ) → StateInvariant s → 0 < s.pending.new_tables c → (s.direction ≡ RbDependsOnL2 → SameCovers s.header s.on_storage s.known) → IsUnnamed s.header s.on_storage s.known c
  pub unused : (s : DriverState) (c : ℕ) → StateInvariant s → count s.header s.known c ≡ 0 → count s.header s.on_storage c ≡ 0 → IsUnnamed s.header s.on_storage s.known c

-- A table gets its reference: an L2 table in an L1 entry, a refblock in a reftable entry.
pub record TableIsNamed : Type 0 where
  pub l2_table : (s : DriverState) (on_storage' known' : Bytes) (i entry : ℕ) → StateInvariant s → WritesL1Entry s.header s.on_storage s.known on_storage' known' i entry → IsNewTable s.header s.direction s.pending s.on_storage s.known i entry
      → SafeStep s (record s { pending = renamed s.pending (λ c. table_in s.header c (host_offset entry)) (λ c. table_in s.header c (table_at s.header s.on_storage i)); on_storage = on_storage'; known = known' }) nothing []
  pub refblock : (s : DriverState) (on_storage' known' : Bytes) (k entry : ℕ) → StateInvariant s → WritesReftableEntry s.header s.on_storage s.known on_storage' known' k entry → IsNewBlock s.header s.on_storage s.known k entry (λ c. 0)
      → 0 < s.pending.new_tables (block_offset entry / cluster_size s.header)
      → count s.header s.on_storage (block_offset entry / cluster_size s.header) ≡ count s.header s.known (block_offset entry / cluster_size s.header)
      → (s.direction ≡ RbDependsOnL2 → SameCovers s.header s.on_storage s.known)
      → SafeStep s (record s { pending = named_now s.pending (λ c. table_in s.header c (block_offset entry)); on_storage = on_storage'; known = known' }) nothing []
  -- A refblock that counts only itself gets its reference.
  pub itself : (s : DriverState) (on_storage' known' : Bytes) (k entry : ℕ) → StateInvariant s → WritesReftableEntry s.header s.on_storage s.known on_storage' known' k entry
      → IsNewBlock s.header s.on_storage s.known k entry (λ c. table_in s.header c (block_offset entry))
      → block_offset entry / cluster_size s.header / counts_per_block s.header ≡ k
      → SafeStep s (record s { on_storage = on_storage'; known = known' }) nothing []

-- A field of the header is written: the size, or the pointer to the L1 table or the reftable.
pub record HeaderIsWritten : Type 0 where
  pub size : (s : DriverState) (on_storage' known' : Bytes) (size autoclear : ℕ) → StateInvariant s → WritesHeader s.header (resized_places s.header size autoclear) s.on_storage s.known on_storage' known'
      → SafeStep s (record s { header = with_places s.header (resized_places s.header size autoclear); on_storage = on_storage'; known = known' }) nothing (size ∷ [])
  pub same_size : (s : DriverState) (on_storage' known' : Bytes) (autoclear : ℕ) → StateInvariant s → WritesHeader s.header (resized_places s.header s.header.size autoclear) s.on_storage s.known on_storage' known'
      → SafeStep s (record s { header = with_places s.header (resized_places s.header s.header.size autoclear); on_storage = on_storage'; known = known' }) nothing []
  pub l1_table : (s : DriverState) (on_storage' known' : Bytes) (offset entries : ℕ) → StateInvariant s → WritesHeader s.header (with_l1_at s.header offset entries) s.on_storage s.known on_storage' known'
      → IsNewL1 s.header s.direction s.pending s.on_storage s.known offset entries
      → SafeStep s (record s {
        header = with_places s.header (with_l1_at s.header offset entries);
        pending = renamed s.pending (λ c. in_run s.header c offset (8 * entries)) (λ c. in_run s.header c s.header.l1_offset (8 * s.header.l1_entries));
        on_storage = on_storage';
        known = known';
      }) nothing []
  pub reftable : (s : DriverState) (on_storage' known' : Bytes) (offset clusters : ℕ) (blocks counted : ℕ → ℕ) → StateInvariant s → WritesHeader s.header (with_reftable_at s.header offset clusters) s.on_storage s.known on_storage' known'
      → IsNewReftable s.header s.direction s.pending s.on_storage s.known offset clusters blocks counted
      → SafeStep s (record s {
        header = with_places s.header (with_reftable_at s.header offset clusters);
        pending = renamed s.pending (λ c. in_run s.header c offset (clusters * cluster_size s.header) + blocks c - counted c)
            (λ c. in_run s.header c s.header.reftable_offset (s.header.reftable_clusters * cluster_size s.header));
        on_storage = on_storage';
        known = known';
      }) nothing []

-- Two steps make one step. Contents that are safe in the stronger form (`StopOkEverywhere`) are contents that a stop may leave.
pub record StepsCompose : Type 0 where
  pub steps : (a b c : DriverState) (first then : Bytes → List GivenBytes) (asked asks : List ℕ) → SafeStep a b first asked → SafeStep b c then asks → SafeStep a c (λ backing. then backing ++ first backing) (asks ++ asked)
  -- A step need not give values that the disk showed before it.
  pub less : (a b : DriverState) (given fewer : Bytes → List GivenBytes) (asked : List ℕ) → ((backing : Bytes) (o : ℕ) (v : Value) → IsGiven (given backing) o v → (v ≡ (disk a.known backing).value o) ⊎ IsGiven (fewer backing) o v)
      → SafeStep a b given asked → SafeStep a b fewer asked
  pub stop : (backing b : Bytes) (m : Checkpoint) → StopOkEverywhere backing m b → StopOk backing m b
