-- What a change of one cached table does to the caches, whatever else they hold.
use Rattle.std.specs.Prelude.{ℕ, ◌+◌, ◌-◌, ◌≡◌, ◌<◌, ◌==◌, Bool, true, false, List, Option, Some, None, IfSome, if◌then◌else◌, ◌*◌, ◌^◌}
use Rattle.qcow2_metadata.specs.L2Mapping.{IsHostCluster, old_data_run}
use Rattle.qcow2_metadata.specs.L2Table.{L2TableView, cover_at, entries_of, copied_entry, zero_entry, copied_host}
use Rattle.qcow2_metadata.specs.RefBlock.{RefBlockView, count_at, counts_of, count_limit, ChangesCount}
use Rattle.qcow2_metadata.specs.TableBytes.{ChangesEntry}
use Rattle.qcow2_alloc.specs.CountedChanges.{IsOneChange}
use Rattle.qcow2_alloc.specs.MetadataCaches.{l2_at, rb_at}
use Rattle.qcow2_alloc.specs.declared.cache.MetadataCaches.{MetadataCaches}

-- The table of one cluster gets other bytes, and the others stay the same.
pub record ChangesHeld {V : Type 0} (old new : ℕ → Option V) (cluster : ℕ) (with_bytes : List ℕ → V) (Change : List ℕ → Type 0) : Type 0 where
  pub bytes : List ℕ
  pub change : Change bytes
  pub here : new cluster ≡ Some (with_bytes bytes)
  pub others : (c : ℕ) → cluster == c ≡ false → new c ≡ old c

-- A table with other bytes is modified.
abbrev pub changed_block : RefBlockView → List ℕ → RefBlockView
changed_block b bytes = record b { bytes = bytes; is_modified = true }

abbrev pub changed_table : L2TableView → List ℕ → L2TableView
changed_table t bytes = record t { bytes = bytes; is_modified = true }

-- A value is changed so, or it refuses the change and stays the same.
abbrev pub ChangesOrStays : {A V : Type 0} → (V → Type 0) → (V → A → V → Type 0) → V → Option A → V → Type 0
ChangesOrStays Refuses Changes v (Some a) w = Changes v a w
ChangesOrStays Refuses Changes v None w = Refuses v × (w ≡ v)

-- An entry of a table changes to another one, and the host clusters that lost a reference are returned.
pub record SetsTableEntry (t : L2TableView) (index entry : ℕ) (answer : Option (ℕ × ℕ)) (t' : L2TableView) : Type 0 where
  pub inside : index < entries_of t
  pub changed : ChangesEntry t.bytes t'.bytes index entry
  pub old_data : answer ≡ old_data_run t.cluster_bits (cover_at t index) (cover_at t' index)
  pub same : t' ≡ changed_table t t'.bytes

-- A refcount of a refblock changes to n.
pub record SetsTableCount (b : RefBlockView) (index n : ℕ) (b' : RefBlockView) : Type 0 where
  pub inside : index < counts_of b
  pub counted : ChangesCount b.refcount_order b.bytes b'.bytes index n
  pub same : b' ≡ changed_block b b'.bytes

-- A refcount of a refblock is incremented, unless it is the greatest one.
abbrev pub IncrementsTableCount : ℕ → RefBlockView → Option (Unit {0}) → RefBlockView → Type 0
IncrementsTableCount index = ChangesOrStays (λ b. index < counts_of b → count_at b index + 1 ≡ count_limit b)
    (λ b _ b'. (count_at b index + 1 < count_limit b) × SetsTableCount b index (count_at b index + 1) b')

-- A refcount of a refblock becomes 1, if it is 0.
abbrev pub AllocatesTableCount : ℕ → RefBlockView → Option (Unit {0}) → RefBlockView → Type 0
AllocatesTableCount index = ChangesOrStays (λ b. index < counts_of b → 0 < count_at b index) (λ b _ b'. (count_at b index ≡ 0) × SetsTableCount b index 1 b')

-- A refcount of a refblock is decremented, unless it is 0. The new one is returned.
abbrev pub DecrementsTableCount : ℕ → RefBlockView → Option ℕ → RefBlockView → Type 0
DecrementsTableCount index = ChangesOrStays (λ b. index < counts_of b → count_at b index ≡ 0) (λ b left b'. (count_at b index ≡ left + 1) × SetsTableCount b index left b')

module _ {S : Type 0} (caches caches' : MetadataCaches S) (cluster index : ℕ) where
  -- The refcount at this index of the cluster's refblock is n. No other refcount, refblock or L2 table changes.
  pub record SetsCount (b : RefBlockView) (n : ℕ) : Type 0 where
    pub count : ChangesHeld (rb_at caches) (rb_at caches') cluster (changed_block b) (λ bytes. ChangesCount b.refcount_order b.bytes bytes index n)
    pub tables : caches'.l2 ≡ caches.l2

  -- What incrementing a refcount in the refblock of a cluster returns: false only for the greatest refcount.
  abbrev pub CountsMore : RefBlockView → Bool → Type 0
  CountsMore b true = (index < counts_of b) × (count_at b index + 1 < count_limit b) × SetsCount b (count_at b index + 1)
  CountsMore b false = index < counts_of b → count_at b index + 1 ≡ count_limit b

  -- What incrementing a refcount of 0 returns: false only for a refcount above 0.
  abbrev pub CountsFirst : RefBlockView → Bool → Type 0
  CountsFirst b true = (index < counts_of b) × (count_at b index ≡ 0) × SetsCount b 1
  CountsFirst b false = index < counts_of b → 0 < count_at b index

  -- What decrementing a refcount returns: false only for 0.
  abbrev pub CountsLess : RefBlockView → Bool → Type 0
  CountsLess b true = (index < counts_of b) × (0 < count_at b index) × SetsCount b (count_at b index - 1)
  CountsLess b false = index < counts_of b → count_at b index ≡ 0

  -- What is left of a refcount that is decremented: none only of 0.
  abbrev pub LeavesCount : RefBlockView → Option ℕ → Type 0
  LeavesCount b (Some left) = (index < counts_of b) × (count_at b index ≡ left + 1) × SetsCount b left
  LeavesCount b None = index < counts_of b → count_at b index ≡ 0

  -- The L2 table of a cluster has another entry at this index, and the host clusters that lost a reference are returned. No other entry, L2 table or refblock changes.
  pub record SetsEntry (t : L2TableView) (entry : ℕ) (answer : Option (ℕ × ℕ)) : Type 0 where
    pub change : ChangesHeld (l2_at caches) (l2_at caches') cluster (changed_table t)
        (λ bytes. ChangesEntry t.bytes bytes index entry × (answer ≡ old_data_run t.cluster_bits (cover_at t index) (cover_at (changed_table t bytes) index)))
    pub blocks : caches'.rb ≡ caches.rb
    pub recorded : IsOneChange caches'.is_changed caches.changes caches'.changes

-- ---- one entry of a cached L2 table
module _ {S : Type 0} where
  -- The entry becomes copied data at a host cluster.
  abbrev pub MapsHeldEntry : MetadataCaches S → MetadataCaches S → ℕ → ℕ → ℕ → Option (ℕ × ℕ) → Type 0
  MapsHeldEntry caches caches' cluster index host answer =
      IfSome (l2_at caches cluster) (λ t. index < entries_of t → IsHostCluster t.cluster_bits host → SetsEntry caches caches' cluster index t (copied_entry (host * 2 ^ t.cluster_bits)) answer)

  -- The entry becomes a zero entry. It keeps its host cluster, if it is asked to and the entry is marked copied.
  abbrev pub ZeroesHeldEntry : MetadataCaches S → MetadataCaches S → ℕ → ℕ → Bool → Option (ℕ × ℕ) → Type 0
  ZeroesHeldEntry caches caches' cluster index keep answer =
      IfSome (l2_at caches cluster) (λ t. index < entries_of t → SetsEntry caches caches' cluster index t (zero_entry (if keep then copied_host (cover_at t index) else None)) answer)

  -- The entry becomes unmapped.
  abbrev pub DiscardsHeldEntry : MetadataCaches S → MetadataCaches S → ℕ → ℕ → Option (ℕ × ℕ) → Type 0
  DiscardsHeldEntry caches caches' cluster index answer = IfSome (l2_at caches cluster) (λ t. index < entries_of t → SetsEntry caches caches' cluster index t 0 answer)

  -- If the table of the cluster is not cached, or is such a table, nothing changes and nothing is returned.
  abbrev pub LeavesEntry : MetadataCaches S → MetadataCaches S → ℕ → (L2TableView → Type 0) → Option (ℕ × ℕ) → Type 0
  LeavesEntry caches caches' cluster IsSuch answer = IfSome (l2_at caches cluster) IsSuch → (answer ≡ None) × (caches' ≡ caches)

-- An entry of a table cannot be mapped to a host cluster: there is no such entry, or no entry can hold the cluster.
abbrev pub CantMap : ℕ → ℕ → L2TableView → Type 0
CantMap index host t = index < entries_of t → IsHostCluster t.cluster_bits host → ⊥
