-- Clearing the whole clusters of a range, so that they read as zeros or as the backing disk.
use Rattle.qcow2_image.specs.declared.mapping.Place.{Place}
use Rattle.qcow2_metadata.specs.declared.l2_mapping.L2Mapping.TheVariants as M
use Rattle.qcow2_alloc.specs.declared.error.ImageError.TheVariants as I
use Rattle.std.specs.Prelude.{ℕ, zero, suc, ◌+◌, ◌*◌, ◌/◌, ◌%◌, ◌≡◌, ◌≢◌, ◌⊎◌, ◌<◌, ◌≤◌, ◌&&◌, ◌++◌, Bool, true, not, nat_lt, List, [], ◌∷◌, Option, Some, None, IsSome, IsTrue, Result, Ok, Err, slice_get}
use Rattle.std.specs.Option.{option_or}
use Rattle.image_access.specs.Backing.{BackingView}
use Rattle.image_access.specs.Moments.{StorageView}
use Rattle.qcow2_metadata.specs.Bytes.{Bytes}
use Rattle.qcow2_metadata.specs.declared.header.HeaderFields.{HeaderFields}
use Rattle.qcow2_metadata.specs.declared.l2_mapping.L2Mapping.{L2Mapping}
use Rattle.qcow2_metadata.specs.Header.{cluster_size, entries_per_cluster}
use Rattle.qcow2_metadata.specs.Cover.{cover, entry_cover}
use Rattle.qcow2_metadata.specs.Entries.{is_copied, l1_entry, l2_entry, count}
use Rattle.qcow2_metadata.specs.L2Mapping.{IsInReach, old_data_run}
use Rattle.qcow2_metadata.specs.L2Table.{copied_host, zero_entry}
use Rattle.qcow2_disk.specs.AbstractImages.{Setting, guest_of}
use Rattle.qcow2_disk.specs.ClearedCovers.{cleared_cover as cover_by, needs_zeros as zeros_for, ClearsCovers as ClearsBy}
pub use Rattle.qcow2_disk.specs.ClearedCovers.{is_between, rounds_past}
use Rattle.qcow2_disk.specs.Calls.{Clearing, to_zero, to_kept_zero, to_backing, IsRefusalByFault, IsSame, RefusedEffect, EffectOnSound, cleared, cleared_at, given_by_clear, with_disk}
use Rattle.qcow2_laws.specs.CrashInvariant.{Pending}
use Rattle.qcow2_disk.specs.Found.{rest_of_table}
use Rattle.qcow2_laws.specs.GuestLaws.{IsZeros, MapsInTurn}
use Rattle.qcow2_laws.specs.Guests.{table_at}
use Rattle.qcow2_disk.specs.Mappings.{given_shown}
use Rattle.qcow2_disk.specs.Rules.{answered, touched_from, touched_to}
use Rattle.qcow2_laws.specs.Steps.{guest_at}
use Rattle.qcow2_disk.specs.Stops.{GivenBytes}
use Rattle.qcow2_alloc.specs.BehindHeader.{KeepBehindHeader}
use Rattle.qcow2_alloc.specs.CachePins.{KeepsPinsAndNotes, l2_pins}
use Rattle.qcow2_alloc.specs.declared.cache.MetadataCaches.{MetadataCaches}
use Rattle.qcow2_alloc.specs.declared.clusters_to_free.ClustersToFreeEntry.{ClustersToFreeEntry}
use Rattle.qcow2_alloc.specs.declared.error.ImageError.{ImageError}
use Rattle.qcow2_alloc.specs.ImageFile.{FileInvariant, contents_in, known_in, state_in}
use Rattle.qcow2_alloc.specs.MetadataCaches.{CacheInvariant, IsEntryAt, MadeEntry, RecordsHeld, known_of, l2_at, order_of}
use Rattle.qcow2_image.specs.Backings.{HasPinnedMapping}
use Rattle.qcow2_image.specs.CallParts.{RefusedCall}
use Rattle.qcow2_image.specs.Calls.{AnswersCall, refusal_of, AnswersGiving}
use Rattle.qcow2_image.specs.declared.discarding.ClearMode.{ClearMode}
use Rattle.qcow2_image.specs.declared.discarding.ClearMode.TheVariants.{Uncovered, Zeros, KeptZeros}
use Rattle.qcow2_image.specs.declared.image.Qcow2.{Qcow2}
use Rattle.qcow2_image.specs.declared.prepared.Prepared.{Prepared}
use Rattle.qcow2_image.specs.Found.{l1_index_of}
use Rattle.qcow2_image.specs.Image.{is_writable, size_of}
use Rattle.qcow2_image.specs.ImageInvariant.{ImageInvariant, abstract_of, disk_of, listed_run, of_data, pending_in, to_free, Mappings, in_image}
use Rattle.qcow2_image.specs.L1Entries.{NeedsOverflowingL1Entry}
use Rattle.qcow2_image.specs.MayFail.{MayFailAllocating}
use Rattle.qcow2_image.specs.MovedTables.{MovesTables}
use Rattle.qcow2_image.specs.NewTables.{IsFaultOrLacksTable}
use Rattle.qcow2_image.specs.Prepared.{table_of}
use Rattle.qcow2_image.specs.Refusals.{passes, refuse_if, unusable}

-- How a mode clears clusters, in terms of the disk.
abbrev pub shown_by : ClearMode → Clearing
shown_by Uncovered = to_backing
shown_by Zeros = to_zero
shown_by KeptZeros = to_kept_zero

-- The mapping of a cleared guest cluster, by its old one.
abbrev pub cover_once_cleared : ClearMode → L2Mapping → L2Mapping
cover_once_cleared how old = cover_by (shown_by how) old

abbrev pub cleared_entry : ClearMode → L2Mapping → ℕ
cleared_entry Uncovered old = 0
cleared_entry Zeros old = zero_entry None
cleared_entry KeptZeros old = zero_entry (copied_host old)

-- Only L2 entries of version 3 and later can mark clusters as zeros.
abbrev pub needs_zero_entries : ClearMode → Bool
needs_zero_entries how = zeros_for (shown_by how)

-- The range that a call touches.
module _ {S F : Type 0} (image : Qcow2 S F) (offset n : ℕ) where
  abbrev pub from_in : ℕ
  from_in = touched_from (cluster_size image.file.header.fields) offset

  abbrev pub to_in : ℕ
  to_in = touched_to (cluster_size image.file.header.fields) (size_of image) offset n

  -- Why clearing a range is refused before anything is done, in this order: an unusable image, an image opened for reading, a range beyond the size, version 2 if zero clusters are needed, and offsets past 64 bits.
  abbrev pub refuses_clearing : Clearing → Option ImageError
  refuses_clearing how =
      option_or (unusable image) (option_or (refuse_if (not (is_writable image)) I.ReadOnly) (option_or (refuse_if (passes (size_of image) offset n) I.BeyondSize)
      (option_or (refuse_if (zeros_for how && nat_lt image.file.header.fields.version 3) I.Version) (refuse_if (rounds_past (cluster_size image.file.header.fields) (size_of image) offset n) I.Overflow))))

  abbrev pub refuses_to_clear : ClearMode → Option ImageError
  refuses_to_clear how = refuses_clearing (shown_by how)

-- A pinned mapping is in the L2 table of this offset. (Pinned: prepared, and not existing.)
pub record IsUnderMapping (h : HeaderFields) (offset : ℕ) (out : Mappings) : Type 0 where
  pub place : ℕ
  pub other : Prepared
  pub is_out : slice_get out.slots place ≡ Some (Some other)
  pub keeps_table : IsSome (table_of other)
  pub same_table : l1_index_of h other.guest ≡ l1_index_of h offset

-- The offsets are cluster boundaries within one L2 table, and the image has zero clusters if they are needed.
pub record IsClearable (h : HeaderFields) (how : ClearMode) (from to : ℕ) : Type 0 where
  pub begins : from % cluster_size h ≡ 0
  pub ends : to % cluster_size h ≡ 0
  pub within : to ≤ from + rest_of_table h from
  pub version : IsTrue (needs_zero_entries how) → 3 ≤ h.version

-- Each guest cluster between two offsets is cleared, and all other mappings are the same.
abbrev pub ClearsImageCovers : ClearMode → (from to : ℕ) → HeaderFields → Bytes → HeaderFields → Bytes → Type 0
ClearsImageCovers how from to h known h' known' = ClearsBy (shown_by how) from to h known h' known'

module _ {S F : Type 0} (view : S → StorageView) (backing : F → BackingView) where
  -- The setting and the disk of an image, whatever mappings are prepared.
  abbrev pub setting_of : Qcow2 S F → Setting
  setting_of image = (abstract_of view backing image (in_image [])).setting

  -- What clearing a range gives.
  abbrev pub all_given_by_clear : Place → Qcow2 S F → ClearMode → ℕ → ℕ → List GivenBytes
  all_given_by_clear place image how offset n = given_by_clear (setting_of image) (disk_of view backing place image) (shown_by how) offset n ∷ []

  -- The whole clusters of a range are cleared, and the cleared range is returned; or the call was refused.
  abbrev pub Clears : ClearMode → Qcow2 S F → Qcow2 S F → ℕ → ℕ → Result (ℕ × ℕ) ImageError → Type 0
  Clears how old new offset n result =
      AnswersGiving view backing old new (λ place. all_given_by_clear place old how offset n)
      (λ range was is. (range ≡ answered (setting_of old).cluster_size was.disk.size offset n) × (is ≡ with_disk was (cleared_at (setting_of old) was.disk (shown_by how) offset n))) result

  -- A refusal other than a fault gives nothing.
  abbrev pub RefusesUngiven : Qcow2 S F → Qcow2 S F → ImageError → Type 0
  RefusesUngiven old new e = (IsRefusalByFault (refusal_of e) → ⊥) → (out : Mappings) → let v = abstract_of view backing old out in let w = abstract_of view backing new out in RefusedEffect v w [] [] (refusal_of e) (IsSame v w)

  -- A refusal other than a fault gives nothing. If the range was not refused at once, the refusal is a limit; or 20, if an L1 entry past 64 bits would have to be written for the first offset;
  -- or 8, if a mapping is pinned; or 9, if one is pinned in the L2 table of the first offset. If no mapping is pinned, the offset has no L2 table of its own then.
  pub record RefusesClearing (how : ClearMode) (old new : Qcow2 S F) (offset n : ℕ) (e : ImageError) : Type 0 where
    pub ungiven : RefusesUngiven old new e
    pub lacks : refuses_to_clear old offset n how ≡ None → (out : Mappings) → (abstract_of view backing old out).is_sound → (HasPinnedMapping out → ⊥) → IsFaultOrLacksTable view new (from_in old offset n) e
    pub may_fail : refuses_to_clear old offset n how ≡ None → (out : Mappings) → (abstract_of view backing old out).is_sound → MayFailAllocating (HasPinnedMapping out) (IsUnderMapping old.file.header.fields (from_in old offset n) out) ⊥ (NeedsOverflowingL1Entry old (from_in old offset n)) e

  -- ---- parts of the work

  -- What clearing gives between two offsets.
  abbrev pub given_bytes_between : Place → Qcow2 S F → ClearMode → (from to : ℕ) → List GivenBytes
  given_bytes_between place image how from to = given_shown (cleared (setting_of image) (disk_of view backing place image) (shown_by how) from to) from to ∷ []

  -- The clusters between two offsets are cleared, and the host clusters that lost a reference wait to be freed.
  pub record ClearsPart (how : ClearMode) (from to : ℕ) (old new : Qcow2 S F) (out : Mappings) : Type 0 where
    pub works : EffectOnSound (abstract_of view backing old out) (abstract_of view backing new out) (given_bytes_between out.place old how from to) []
    pub sound : ImageInvariant view backing (pending_in view backing new out) new out
    pub shows : guest_of (abstract_of view backing new out) ≡ with_disk (guest_of (abstract_of view backing old out)) (cleared (setting_of old) (disk_of view backing out.place old) (shown_by how) from to)
    pub header : MovesTables old.file.header.fields new.file.header.fields
    pub covers : ClearsImageCovers how from to old.file.header.fields (known_in view old.file) new.file.header.fields (known_in view new.file)
    pub recorded : IsTrue new.file.caches.is_changed

  abbrev pub ClearsOrRefuses : ClearMode → (from to : ℕ) → Qcow2 S F → Qcow2 S F → Mappings → Result (Unit {0}) ImageError → Type 0
  ClearsOrRefuses how from to old new out (Ok _) = ClearsPart how from to old new out
  ClearsOrRefuses how from to old new out (Err e) = RefusedCall view backing old new out e

-- The host clusters that lose a reference when n guest clusters, from `first` on, are cleared.
abbrev pub listed_by : ClearMode → HeaderFields → Bytes → (first n : ℕ) → List ClustersToFreeEntry
listed_by how h known first zero = []
listed_by how h known first (suc n) = listed_by how h known first n ++ listed_run (old_data_run h.cluster_bits (cover h known (first + n)) (cover_once_cleared how (cover h known (first + n))))

-- An entry of a cached L2 table is cleared, and nothing else changes.
pub record ClearsEntry {S F : Type 0} (how : ClearMode) (table index : ℕ) (old new : Qcow2 S F) : Type 0 where
  pub rest : new ≡ record old { file = record old.file { caches = new.file.caches } }
  pub order : order_of new.file.caches ≡ order_of old.file.caches
  pub marks : KeepsPinsAndNotes old.file.caches new.file.caches
  pub new_data : IsSome (l2_at old.file.caches table) → IsSome (l2_at new.file.caches table)
  pub answer : Option (ℕ × ℕ)
  pub cleared : (h : HeaderFields) (p : Pending) (on_storage : Bytes) (i : ℕ) → CacheInvariant h p old.file.caches on_storage → IsEntryAt h (known_of h old.file.caches on_storage) i table index → is_copied (l1_entry h on_storage i) ≡ true → IsSome (l2_at old.file.caches table)
      → MadeEntry h old.file.caches new.file.caches on_storage i index (cleared_entry how (entry_cover h (l2_entry (known_of h old.file.caches on_storage) (table_at h (known_of h old.file.caches on_storage) i) index))) answer
  pub recorded : RecordsHeld old.file.caches new.file.caches table index
  pub behind : KeepBehindHeader old.file.caches new.file.caches

-- A cleared mapping, as the laws describe it.
abbrev pub is_cleared : ClearMode → L2Mapping → Type 0
is_cleared Uncovered v = v ≡ M.Uncovered
is_cleared Zeros v = IsZeros v
is_cleared KeptZeros v = IsZeros v

abbrev pub with_caches : {S F : Type 0} → Qcow2 S F → MetadataCaches S → Qcow2 S F
with_caches a caches = record a { file = record a.file { caches = caches } }

module _ {S F : Type 0} (view : S → StorageView) (backing : F → BackingView) where
  -- When n entries of a cached L2 table, from `column` on, may be cleared.
  pub record MayClear (how : ClearMode) (t row column n : ℕ) (a : Qcow2 S F) (out : Mappings) (p : Pending) : Type 0 where
    pub sound : ImageInvariant view backing p a out
    pub real : table_at a.file.header.fields (known_in view a.file) row ≢ 0
    pub place : table_at a.file.header.fields (known_in view a.file) row ≡ t * cluster_size a.file.header.fields
    pub within : column + n ≤ entries_per_cluster a.file.header.fields
    pub copied : is_copied (l1_entry a.file.header.fields (contents_in view a.file) row) ≡ true
    pub found : IsSome (l2_at a.file.caches t)
    pub unpinned : l2_pins a.file.caches t ≡ 0
    pub version : IsTrue (needs_zero_entries how) → 3 ≤ a.file.header.fields.version
    pub reach : (i : ℕ) → i < n → IsInReach (cover a.file.header.fields (known_in view a.file) (guest_at a.file.header.fields row column + i))

  -- The n entries are cleared.
  pub record AreCleared (how : ClearMode) (row column n : ℕ) (a : Qcow2 S F) (caches : MetadataCaches S) (out : Mappings) (p : Pending) : Type 0 where
    pub now : Pending
    pub sound_now : ImageInvariant view backing now (with_caches a caches) out
    pub turn : MapsInTurn (is_cleared how) (guest_at a.file.header.fields row column) n (state_in view a.file p) (state_in view (with_caches a caches).file now)
    pub cleared_all : (i : ℕ) → i < n → cover a.file.header.fields (known_in view (with_caches a caches).file) (guest_at a.file.header.fields row column + i) ≡ cover_once_cleared how (cover a.file.header.fields (known_in view a.file) (guest_at a.file.header.fields row column + i))
    pub stays : (g : ℕ) → (g < guest_at a.file.header.fields row column) ⊎ (guest_at a.file.header.fields row column + n ≤ g) → cover a.file.header.fields (known_in view a.file) g ≡ cover a.file.header.fields (known_in view (with_caches a caches).file) g
    pub table_stays : table_at a.file.header.fields (known_in view (with_caches a caches).file) row ≡ table_at a.file.header.fields (known_in view a.file) row
    pub counts : (k : ℕ) → count a.file.header.fields (known_in view a.file) k ≡ count a.file.header.fields (known_in view (with_caches a caches).file) k
    pub new_data : (k : ℕ) → now.new_data k ≡ p.new_data k
    pub new_tables : (k : ℕ) → now.new_tables k ≡ p.new_tables k
    pub old_tables : (k : ℕ) → now.old_tables k ≡ p.old_tables k
    pub surplus : now.surplus ≡ p.surplus
    pub old_data : (k : ℕ) → now.old_data k ≡ p.old_data k + to_free of_data (listed_by how a.file.header.fields (known_in view a.file) (guest_at a.file.header.fields row column) n) k

  -- In the cached L2 table, n entries from `column` on are cleared.
  pub record ClearsTable (how : ClearMode) (t column n : ℕ) (a b : Qcow2 S F) : Type 0 where
    pub rest : b ≡ with_caches a b.file.caches
    pub marks : KeepsPinsAndNotes a.file.caches b.file.caches
    pub new_data : IsSome (l2_at a.file.caches t) → IsSome (l2_at b.file.caches t)
    pub part : (out : Mappings) (p : Pending) (row : ℕ) → MayClear how t row column n a out p → AreCleared how row column n a b.file.caches out p
    pub recorded : (out : Mappings) (p : Pending) (row : ℕ) → MayClear how t row column n a out p → 0 < n → IsTrue b.file.caches.is_changed
    pub behind : KeepBehindHeader a.file.caches b.file.caches

  -- ---- what is read before the first entry changes
  -- Without a data file, the host clusters that the entry of a guest cluster will lose are appended to a list. An entry can hold their offsets.
  abbrev pub ReadsDropped : ClearMode → (table cluster : ℕ) → Qcow2 S F → List ClustersToFreeEntry → List ClustersToFreeEntry → Type 0
  ReadsDropped how table cluster image old new =
      let h = image.file.header.fields in
      let known = known_in view image.file in
      (p : Pending) (i : ℕ) → image.data_file ≡ None → FileInvariant view p image.file → IsEntryAt h known i table (cluster % entries_per_cluster h) → cluster / entries_per_cluster h ≡ i
      → (new ≡ old ++ listed_run (old_data_run h.cluster_bits (cover h known cluster) (cover_once_cleared how (cover h known cluster)))) × IsInReach (cover h known cluster)

  -- Without a data file, the host clusters that n entries, from `first` on, will lose are appended to a list.
  abbrev pub ReadsAll : ClearMode → (table first n : ℕ) → Qcow2 S F → List ClustersToFreeEntry → Type 0
  ReadsAll how table first n image list =
      let h = image.file.header.fields in
      let known = known_in view image.file in
      (p : Pending) (i : ℕ) → image.data_file ≡ None → FileInvariant view p image.file → IsEntryAt h known i table (first % entries_per_cluster h) → first / entries_per_cluster h ≡ i → first % entries_per_cluster h + n ≤ entries_per_cluster h
      → (list ≡ listed_by how h known first n) × ((j : ℕ) → j < n → IsInReach (cover h known (first + j)))
